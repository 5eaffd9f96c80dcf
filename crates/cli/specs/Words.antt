-- The program's words, in the terms of the crate that parses them: what a command takes and finds.
use Rattle.std.specs.Prelude.{◌≡◌, ◌≢◌, ◌<◌, ℕ, List, [], ◌∷◌, true, codes, Option, None, Some, option_map}
use Rattle.std.specs.Str.Parse.{IsNumeral, digits_value, without_leading_plus}
use Rattle.clap.specs.Words.{App, Row, Rule, Shape, Text, first_of, kind_of, one_of, new_app, new_rule, subcommand_of, with_rule}
use Rattle.clap.specs.Words.{with_subcommand}
use Rattle.clap.specs.Faults.{fault_of}
use Rattle.clap.specs.Kinds.{HasKind}
use Rattle.clap.specs.Simple.{on_top}
use Rattle.clap.specs.declared.builder.value_parser.ValueParser.TheVariants.{Unsigned}
use Rattle.clap.specs.declared.error.kind.ErrorKind.TheVariants as kind
use Rattle.ids.specs.Configurations.{most_queue}
use Rattle.bench.specs.declared.plan.Plan.{Plan}
use Rattle.cli.specs.declared.words.BadWords.{BadWords}
use Rattle.cli.specs.declared.words.BadWords.TheVariants.{Refused, OutOfRange}
use Rattle.cli.specs.declared.words.Job.{Job}
use Rattle.cli.specs.declared.words.Job.TheVariants.{Run, Bench, Serve}

-- the optional word after `run`
abbrev pub script_rule : Rule
script_rule = new_rule (codes "SCRIPT")

-- `run`, and the script that may follow it
abbrev pub run_app : App
run_app = with_rule (new_app (codes "run")) script_rule

-- a required option, with a number from 1 on
abbrev pub number_rule : Text → ℕ → Rule
number_rule name most = record (new_rule name) { long = Some name; required = true; parser = Some (Unsigned 1 most) }

-- an option with the capacity of a queue, by default the greatest
abbrev pub queue_rule : Rule
queue_rule = record (new_rule (codes "queue")) {
  long = Some (codes "queue");
  parser = Some (Unsigned 1 most_queue);
  defaults = codes "65536" ∷ [];
}

-- `bench` with its required options
abbrev pub required_app : App
required_app = with_rule
    (with_rule (with_rule (new_app (codes "bench")) (number_rule (codes "replicas") 16)) (number_rule (codes "writers") 16))
    (number_rule (codes "ops") 4096)

-- `bench` with all its options
abbrev pub bench_app : App
bench_app = with_rule required_app queue_rule

-- an option with the number of the replica that is served
abbrev pub own_number_rule : Rule
own_number_rule = record (new_rule (codes "number")) { long = Some (codes "number"); parser = Some (Unsigned 1 4294967295) }

-- `serve`, the file that may follow it, and the option
abbrev pub serve_app : App
serve_app = with_rule (with_rule (new_app (codes "serve")) (new_rule (codes "FILE"))) own_number_rule

-- the program's own name isn't one of the words, and a subcommand is needed
abbrev pub with_settings : Shape → Shape
with_settings s = record s { no_binary_name = true; subcommand_required = true }

-- the words of the program that concern engines: `run` or `bench`, each with its own
abbrev pub engines_app : App
engines_app = with_subcommand (with_subcommand (on_top with_settings (new_app (codes "jdoc"))) run_app.top) bench_app.top

-- the words of the program: these, or `serve` with its own
abbrev pub jdoc_app : App
jdoc_app = with_subcommand engines_app serve_app.top

-- the option's text is a decimal numeral, possibly after a plus, and this is its number
abbrev pub IsNumber : Text → List Row → ℕ → Type 0
IsNumber option rows n = (t : Text) × (one_of option rows ≡ Some t) × IsNumeral 10 (without_leading_plus t)
    × (n ≡ digits_value 10 (without_leading_plus t))

-- the plan is that of the options
abbrev pub IsPlanOf : List Row → Plan → Type 0
IsPlanOf rows plan =
    IsNumber (codes "replicas") rows plan.replicas
    × IsNumber (codes "writers") rows plan.writers
    × IsNumber (codes "ops") rows plan.ops
    × IsNumber (codes "queue") rows plan.queue

-- the number of 32 bits that is given, if one is
abbrev pub IsNumberGiven : List Row → Option ℕ → Type 0
IsNumberGiven rows None = (n : ℕ) → n < 4294967296 → IsNumber (codes "number") rows n → ⊥
IsNumberGiven rows (Some n) = IsNumber (codes "number") rows n

-- the job that a subcommand with its options asks for
abbrev pub IsAskedBy : Text × List Row → Job → Type 0
IsAskedBy p (Run script) = (p.0 ≢ codes "bench") × (p.0 ≢ codes "serve")
    × (first_of (codes "SCRIPT") p.1 ≡ option_map (λ s. s.now) script)
IsAskedBy p (Bench plan) = (p.0 ≡ codes "bench") × IsPlanOf p.1 plan
IsAskedBy p (Serve file number) = (p.0 ≡ codes "serve") × (first_of (codes "FILE") p.1 ≡ option_map (λ s. s.now) file)
    × IsNumberGiven p.1 number

-- the job is what the words ask for
abbrev pub IsJobOf : List Text → Job → Type 0
IsJobOf words job = (p : Text × List Row) × (subcommand_of jdoc_app words ≡ Some p) × IsAskedBy p job

-- the words are refused, or they ask for something that can't be done
abbrev pub IsRefusedBy : List Text → BadWords → Type 0
IsRefusedBy words (Refused error) = HasKind (fault_of jdoc_app words) error
IsRefusedBy words OutOfRange = (job : Job) → IsJobOf words job → ⊥

-- memory ran out while the words were read
abbrev pub IsOutOfMemory : BadWords → Type 0
IsOutOfMemory (Refused error) = kind_of error ≡ kind.OutOfMemory
IsOutOfMemory OutOfRange = ⊥
