-- A beginning of an entry history is an entry history.
use Rattle.std.proofs.Common.{ℕ, List, [], ◌∷◌, ◌++◌, refl, subst}
use Rattle.semantics.specs.Entries.{Entry, IsEntryHistory}
use Rattle.semantics.specs.WorldHistory.{BeginsWith}
use Rattle.semantics.proofs.Replies.{before}

pub begins_self : (G : List Entry) → BeginsWith G G
begins_self G = ([], refl)

history_before : (p : ℕ) (more F : List Entry) → IsEntryHistory p (more ++ F) → IsEntryHistory p F
history_before p [] F h = h
history_before p (e ∷ more) F h = history_before p more F (before p e (more ++ F) h)

pub history_begun : (p : ℕ) (G F : List Entry) → BeginsWith G F → IsEntryHistory p G → IsEntryHistory p F
history_begun p G F b h = history_before p b.0 F (subst (IsEntryHistory p) b.1 h)
