-- The replies to a script.
use Rattle.std.specs.Prelude.{◌≡◌, ℕ, List, Ok}
use Rattle.ids.specs.Configurations.{Configuration}
use Rattle.semantics.specs.World.{WorldStep, opened, replies_of}
use Rattle.scripts.specs.Replies.{reply_text}
use Rattle.scripts.specs.Scripts.{script_form}

-- the lines of the replies to a script: one for each of its steps, in a new world of its engines
abbrev pub IsReplyText : List ℕ → List ℕ → Type 0
IsReplyText bytes text =
    (engines : List Configuration) × (steps : List WorldStep)
    × (script_form bytes ≡ Ok (engines, steps))
    × (text ≡ reply_text (replies_of (opened engines) steps))
