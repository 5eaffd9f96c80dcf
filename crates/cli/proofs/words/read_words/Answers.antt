use Rattle.std.proofs.Common.{rules, ◌≡◌, ◌<◌, ℕ, List, Option, Some, None, IfSome, map, codes, refl, sym, ap, ◌∙◌, subst, arith, get_or}
use Rattle.clap.specs.Words.{Row, Text, found_of, rows_of, subcommand_of}
use Rattle.clap.specs.declared.parser.matches.ArgMatches.TheViews.{out-ArgMatches}
use Rattle.clap.proofs.WalkLemmas.{first_value-rows}
use Rattle.cli.specs.Words.{IsAskedBy, IsJobOf, IsNumber, IsNumberGiven, IsPlanOf, jdoc_app}
use Rattle.cli.specs.declared.words.Job.{Job}
use Rattle.cli.specs.declared.words.Job.TheVariants.{Run, Bench, Serve}
use Rattle.cli.proofs.MetSubcommands.{met}
use Rattle.cli.proofs.words.read_words.Goals as goal

-- a subcommand `bench` without a plan asks for nothing
no_job : (words : List Text) (p : Text × List Row) → subcommand_of jdoc_app words ≡ Some p → p.0 ≡ codes "bench"
    → ((plan : _) → IsPlanOf p.1 plan → ⊥) → (job : Job) → IsJobOf words job → ⊥
no_job words p e named none job is = at_job job (subst (λ q. IsAskedBy q job) same is.2)
  where
    same : is.0 ≡ p
    same = let both : Some is.0 ≡ Some p = sym is.1 ∙ e in cc

    at_job : (job : Job) → IsAskedBy p job → ⊥
    at_job (Run script) h = h.0 named
    at_job (Bench plan) h = none plan h.1
    at_job (Serve file number) h =
        let first : 98 ≡ 115 = ap (λ (l : List ℕ). get_or l 0 0) (sym named ∙ h.0) in
        absurd (omega (arith, first))

pub returns-in-Some-clause-refused : goal.returns-in-Some-clause-refused
returns-in-Some-clause-refused c =
    let words : List Text = map (λ w. w.now) c.args.words.now in
    let name : Text = c.in-Some.name.now in
    let rows : List Row = rows_of (found_of c.in-Some.found.now) in
    let there = sym c.in_ok-matches.ensures.found
    ∙ met (out-ArgMatches c.in_ok-matches.matches).subcommand name rows c.in-Some.ensures.name c.in-Some.ensures.rows in
    let named : name ≡ codes "bench" = search rules in
    let gone : c.plan_of.result ≡ None = search rules in
    no_job words (name, rows) there named (c.plan_of.ensures.none gone)

-- the number that an option has, if it has one
given : (rows : List Row) (number : Option ℕ) → IfSome number (IsNumber (codes "number") rows)
    → (number ≡ None → (n : ℕ) → n < 4294967296 → IsNumber (codes "number") rows n → ⊥) → IsNumberGiven rows number
given rows None some none = none refl
given rows (Some n) some none = some

pub returns-in-Some-2-clause-job : goal.returns-in-Some-2-clause-job
returns-in-Some-2-clause-job c =
    let name : Text = c.in-Some.name.now in
    let rows : List Row = rows_of (found_of c.in-Some.found.now) in
    let there = sym c.in_ok-matches.ensures.found
    ∙ met (out-ArgMatches c.in_ok-matches.matches).subcommand name rows c.in-Some.ensures.name c.in-Some.ensures.rows in
    let named : name ≡ codes "serve" = search rules in (
      (name, rows),
      there,
      (
        named,
        sym (c.get_str.ensures ∙ first_value-rows (found_of c.in-Some.found.now) (codes "FILE")),
        given rows c.number_of.result c.number_of.ensures.some c.number_of.ensures.none,
      ),
    )

pub returns-in-Some-3-clause-job : goal.returns-in-Some-3-clause-job
returns-in-Some-3-clause-job c =
    let name : Text = c.in-Some.name.now in
    let rows : List Row = rows_of (found_of c.in-Some.found.now) in
    let there = sym c.in_ok-matches.ensures.found
    ∙ met (out-ArgMatches c.in_ok-matches.matches).subcommand name rows c.in-Some.ensures.name c.in-Some.ensures.rows in (
      (name, rows),
      there,
      (
        search rules,
        search rules,
        sym (c.get_str-in-Some-3.ensures ∙ first_value-rows (found_of c.in-Some.found.now) (codes "SCRIPT")),
      ),
    )
