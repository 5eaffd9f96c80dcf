-- Steps whose parts are numbers alone, by their words.
use Rattle.std.specs.Prelude.{ℕ, List, codes, Result, Ok, Err, if◌then◌else◌}
use Rattle.std.specs.Str.{bytes_eq}
use Rattle.ids.specs.declared.refusal.Refusal.{Refusal}
use Rattle.ids.specs.declared.refusal.Refusal.TheVariants.{BadLine}
use Rattle.semantics.specs.World.{WorldStep, Take, Publish, Give, WholeStep, Poll, Learn, SayHello, AnswerHello, Deliver, CountDropped}
use Rattle.semantics.specs.World.{step_by}
use Rattle.serde_json.specs.Data.{Items}
use Rattle.world.specs.wire.Forms.{and_then}
use Rattle.scripts.specs.Numbers.{one_number, two_numbers, three_numbers, four_numbers}

-- a step that names an engine alone
abbrev pub engine_step_of : List ℕ × Items → Result WorldStep Refusal
engine_step_of p = if bytes_eq p.0 (codes "take") then and_then (λ e. Ok (step_by e Take)) (one_number p.1)
    else (if bytes_eq p.0 (codes "publish") then and_then (λ e. Ok (step_by e Publish)) (one_number p.1)
    else (if bytes_eq p.0 (codes "give") then and_then (λ e. Ok (step_by e Give)) (one_number p.1)
    else (if bytes_eq p.0 (codes "step") then and_then (λ e. Ok (step_by e WholeStep)) (one_number p.1)
    else (if bytes_eq p.0 (codes "dropped") then and_then (λ e. Ok (step_by e CountDropped)) (one_number p.1) else Err BadLine))))

-- a step with a message: a token that says hello, a token and the message that it answers, or a client and the message that it receives
abbrev pub message_step_of : List ℕ × Items → Result WorldStep Refusal
message_step_of p = if bytes_eq p.0 (codes "hello") then and_then (λ n. Ok (step_by n.0 (SayHello n.1))) (two_numbers p.1)
    else (if bytes_eq p.0 (codes "bundle") then and_then (λ n. Ok (step_by n.0 (AnswerHello n.1 n.2))) (three_numbers p.1)
    else (if bytes_eq p.0 (codes "deliver") then and_then
    (λ n. Ok (step_by n.0 (Deliver n.1 n.2))) (three_numbers p.1) else engine_step_of p))

-- a step with a serial: a client that polls it, or a token that learns of the answer to a client's; or another step of numbers alone
abbrev pub numbered_step_of : List ℕ × Items → Result WorldStep Refusal
numbered_step_of p = if bytes_eq p.0 (codes "poll") then and_then (λ n. Ok (step_by n.0 (Poll n.1 n.2))) (three_numbers p.1)
    else (if bytes_eq p.0 (codes "learn") then and_then
    (λ n. Ok (step_by n.0 (Learn n.1 n.2 n.3))) (four_numbers p.1) else message_step_of p)
