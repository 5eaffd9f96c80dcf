-- What a list of a word and its parts means as a command.
use Rattle.std.proofs.Common.{◌≡◌, ℕ, List, Ok, refl, ap, ◌∙◌}
use Rattle.std.specs.Prelude.{codes}
use Rattle.semantics.specs.Elements.{Value}
use Rattle.semantics.specs.Ids.{OpId}
use Rattle.semantics.specs.Operations.{Mutation, Assign, Delete, Insert}
use Rattle.semantics.specs.Questions.{ById, Idx, Step}
use Rattle.serde_json.specs.Data.{Data, Items, array, item, no_items, number, string, unsigned}
use Rattle.document.specs.value.Forms.{value_form}
use Rattle.wire.specs.OpIds.{id_of}
use Rattle.requests.specs.declared.edition.Edition.{Edition}
use Rattle.requests.specs.declared.edition.Edition.TheVariants.{First, Second}
use Rattle.requests.specs.Commands.{command_form, writing_of}
use Rattle.requests.specs.Expressions.{expression_form, path_step_form}

module _ (edition : Edition) (word : List ℕ) (path : Data) (steps : List Step) (leads : expression_form edition path ≡ Ok steps) where
  module _ (written : Data) (v : Value) (is : value_form written ≡ Ok v) where
    abbrev parts : Data
    parts = array (item (string word) (item path (item written no_items)))

    written_there : (how : Value → Mutation)
        → writing_of edition how (item path (item written no_items)) ≡ Ok (record { expression = steps; mutation = how v })
    written_there how = rw (leads, is)

    pub assigns : word ≡ codes "assign" → command_form edition parts ≡ Ok (record { expression = steps; mutation = Assign v })
    assigns e = ap (λ w. command_form edition (array (item (string w) (item path (item written no_items))))) e ∙ written_there Assign

    pub inserts : word ≡ codes "insert" → command_form edition parts ≡ Ok (record { expression = steps; mutation = Insert v })
    inserts e = ap (λ w. command_form edition (array (item (string w) (item path (item written no_items))))) e ∙ written_there Insert

  pub deletes : word ≡ codes "delete"
      → command_form edition (array (item (string word) (item path no_items))) ≡ Ok (record { expression = steps; mutation = Delete })
  deletes e = ap (λ w. command_form edition (array (item (string w) (item path no_items)))) e ∙ rw leads

-- ---- steps

pub index_meant : (edition : Edition) (i : ℕ) → path_step_form edition (number (unsigned i)) ≡ Ok (Idx i)
index_meant First i = refl
index_meant Second i = refl

pub item_meant : (ds : Items) (a : OpId) → id_of ds ≡ Ok a → path_step_form Second (array ds) ≡ Ok (ById a)
item_meant ds a e = rw e
