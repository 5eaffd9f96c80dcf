-- A path, hop by hop.
use Rattle.std.proofs.Common.{◌≡◌, ℕ, ◌+◌, ◌<◌, List, [], ◌∷◌, length, map, get_or, take, Some, sym, ap, ◌∙◌, arith}
use Rattle.std.proofs.lemmas.List.{take_more, length-map, get_or-map}
use Rattle.semantics.specs.Elements.{Doc}
use Rattle.semantics.specs.Paths.{Hop as TheHop, child}
use Rattle.semantics.proofs.ElementPaths.{down-append}
use Rattle.operation.specs.cursor.declared.hop.Hop.{Hop}
use Rattle.operation.specs.cursor.Steps.{hop_of}
use Rattle.tree.specs.declared.node.Node.{Node}
use Rattle.tree.specs.Nodes.{number, child_number}
use Rattle.tree.specs.Writes.{end_of}
use Rattle.tree.proofs.Shape.{number_child}

module _ (path : List Hop) (k : ℕ) (x : Hop) (inside : k < length path) (is : x ≡ get_or path k x) where
  -- one hop further
  pub end_more : end_of (take (k + 1) (map hop_of path)) ≡ child (end_of (take k (map hop_of path))) (hop_of x)
  end_more =
      let keys : List TheHop = map hop_of path in
      let within : k < length keys = let n = length-map path hop_of in omega arith in
      ap end_of (take_more keys k (hop_of x) within) ∙ down-append Doc (take k keys) (get_or keys k (hop_of x) ∷ [])
      ∙ ap (child (end_of (take k keys))) (get_or-map hop_of path k x (hop_of x) inside ∙ ap hop_of (sym is))

  pub number_more : (ns : List Node) (at : ℕ) → number ns (end_of (take k (map hop_of path))) ≡ Some at
      → number ns (end_of (take (k + 1) (map hop_of path))) ≡ child_number ns at (hop_of x)
  number_more ns at p = ap (number ns) end_more ∙ number_child ns (end_of (take k (map hop_of path))) at (hop_of x) p
