-- What an engine sends to a peer, from the entries that its token sees.
use Rattle.std.specs.Prelude.{ℕ, ◌==◌, if◌then◌else◌, List, [], ◌∷◌, ◌++◌}
use Rattle.semantics.specs.NamedIds.{vector_of}
use Rattle.semantics.specs.Entries.{Entry, applied}
use Rattle.wire.specs.Messages.{vector_line}

-- a hello: the line of the vector of all that was applied, with its line feed
abbrev pub hello_text : List Entry → List ℕ
hello_text G = vector_line (vector_of (applied G)) ++ 10 ∷ []

-- a line without the line feed that may end it
abbrev pub without_end : List ℕ → List ℕ
without_end [] = []
without_end (b ∷ []) = if b == 10 then [] else b ∷ []
without_end (b ∷ c ∷ bs) = b ∷ without_end (c ∷ bs)
