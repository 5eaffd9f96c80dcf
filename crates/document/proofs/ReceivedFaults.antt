-- The tests of a received operation, by what its vector names and the positions in the log.
use Rattle.std.proofs.Common.{◌≡◌, Bool, true, false, not, ◌&&◌, ◌==◌, List, Some, None, Result, Ok, Err, refl, sym, ap, ◌∙◌, true≢false}
use Rattle.std.specs.List.{list_any}
use Rattle.std.specs.Prelude.{◌↔◌, IsOk, MatchResult, ⊤}
use Rattle.std.proofs.lemmas.Option.{none-some}
use Rattle.ids.specs.declared.refusal.Refusal.{Refusal}
use Rattle.semantics.specs.Ids.{id_at}
use Rattle.semantics.specs.Elements.{Element, Doc, Field, Item}
use Rattle.semantics.specs.Operations.{Operation, element_of}
use Rattle.semantics.specs.LegalHistory.{IsLegal}
use Rattle.semantics.specs.Context.{doc}
use Rattle.semantics.specs.Vectors.{Vector, IsCanonical, at}
use Rattle.semantics.specs.NamedIds.{vector_of}
use Rattle.semantics.specs.Stamped.{Stamped, IsLegalStamped, MayFollow}
use Rattle.semantics.specs.Entries.{Entry, applied, stamped_entries}
use Rattle.semantics.specs.Faults.{StandsAlone, breaks_chain, fault_of, first_fault, is_open, items_were_inserted, names_nothing}
use Rattle.semantics.proofs.FaultlessFollows.{follows_without_fault}
use Rattle.semantics.proofs.FollowsFaultless.{no_fault_where_follows}
use Rattle.semantics.proofs.NamedOperations.{legal}
use Rattle.semantics.proofs.PlacedItems.{items_inserted}
use Rattle.tree.specs.Trees.{Planted, document, items_stand as items_in_tree}
use Rattle.oplog.proofs.KnownMembers.{at_among}
use Rattle.document.specs.Checks.{opens}
use Rattle.document.proofs.AllApplied.{applied_names_all}
use Rattle.document.proofs.AmongNamed.{among_at, any_there, none_there}
use Rattle.document.proofs.PositionsOfIds.{not_opened, opened}

-- each item on the way to an element of a legal history's document is in the list that it was inserted into
pub items_where_inserted : (H : List Operation) → IsLegal H → (e : Element) → items_in_tree (doc H) e ≡ items_were_inserted H e
items_where_inserted H legal Doc = refl
items_where_inserted H legal (Field e n) = items_where_inserted H legal e
items_where_inserted H legal (Item l a) = λ t. items_inserted H legal l a t && items_where_inserted H legal l t

-- the first fault, given what the tests answer
pub fault-tested : (G : List Entry) (s : Stamped) (a b c d : Bool)
    → breaks_chain (applied G) s ≡ a
    → names_nothing (applied G) s ≡ b
    → is_open (stamped_entries G) s.vector ≡ c
    → items_were_inserted (applied G) (element_of s.place) ≡ d
    → fault_of (stamped_entries G) s ≡ first_fault a b c (not d)
fault-tested G s a b c d chain names closed stands = λ t. first_fault (chain t) (names t) (closed t) (not (stands t))

-- the items that the tree was asked for
pub items-tested : (G : List Entry) (t : Planted) (e : Element) (b : Bool) → IsLegalStamped (stamped_entries G)
    → document t ≡ doc (applied G)
    → items_in_tree (document t) e ≡ b → items_were_inserted (applied G) e ≡ b
items-tested G t e b kept content is = sym (items_where_inserted (applied G) (legal (stamped_entries G) kept) e)
    ∙ ap (λ C. items_in_tree C e) (sym content) ∙ is

-- the chain is tested by what was applied of the operation's replica
pub chain-tested : (H : List Operation) (s : Stamped) (v : Vector) → v ≡ vector_of H
    → not (at s.vector s.id.replica == at v s.id.replica) ≡ breaks_chain H s
chain-tested H s v is = ap (λ n. not (at s.vector s.id.replica == n)) (applied_names_all H v is s.id.replica)

-- what opens a vector is among what it names
pub any_opens : (G : List Entry) (v : Vector) (r : Bool) → IsCanonical v → IsLegalStamped (stamped_entries G)
    → r ≡ list_any (opens G v) v → r ≡ is_open (stamped_entries G) v
any_opens G v true c l is =
    let it = any_there (opens G v) v (sym is) in
    sym (opened G v it.0 (sym (at_among v c it.0 it.1).0) it.2)
any_opens G v false c l is =
    sym
    (not_opened G v l
    (λ a n named. ap (opens G v) (λ i. id_at (named i) a.replica)
    ∙ none_there (opens G v) v (sym is) (id_at (at v a.replica) a.replica) (among_at v a.replica c (λ z. n (named ∙ z)))))

-- what the tests answer decides whether an operation that passes the tests of it alone may follow
pub lawful : (G : List Entry) (s : Stamped) → IsLegalStamped (stamped_entries G) → (r : Result ⊤ Refusal)
    → MatchResult r (λ _. fault_of (stamped_entries G) s ≡ None) (λ why. fault_of (stamped_entries G) s ≡ Some why)
    → StandsAlone s → IsOk r ↔ MayFollow (applied G) s
lawful G s kept (Ok u) fault alone = (λ ok. follows_without_fault (stamped_entries G) s kept alone fault, λ may. refl)
lawful G s kept
    (Err why) fault alone = (
      λ ok. absurd (true≢false (sym ok)),
      λ may. absurd
          (none-some why (sym (no_fault_where_follows (stamped_entries G) s kept may) ∙ fault)),
    )
