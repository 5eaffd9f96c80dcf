-- The subcommand that a parse met, by its name and its rows.
use Rattle.std.proofs.Common.{◌≡◌, List, Option, Some, None, option_map, refl, ap₂}
use Rattle.std.specs.Prelude.{Box}
use Rattle.std.specs.Box.{box_value}
use Rattle.clap.specs.Words.{Row, Text}
use Rattle.clap.specs.Simple.{subcommand_rows}
use Rattle.clap.specs.declared.parser.matches.ArgMatches.TheViews.{out-SubCommand}
use Rattle.clap.specs.declared.parser.matches.SubCommand.{SubCommand}

module _ {Z : Type 0} where
  pub met : (sub : Option (Box SubCommand Z)) (name : Text) (rows : List Row)
      → Some name ≡ option_map (λ b. (out-SubCommand (box_value b)).name.now) sub
      → Some rows ≡ option_map (λ p. p.1) (subcommand_rows sub) → subcommand_rows sub ≡ Some (name, rows)
  met None name rows e h = absurd (cc)
  met (Some b) name rows e h =
      let n : name ≡ (out-SubCommand (box_value b)).name.now = cc in
      let r : Some rows ≡ option_map (λ p. p.1) (subcommand_rows (Some b)) = h in
      rw n (rows_are b rows r)
    where
      rows_are : (b : Box SubCommand Z) (rows : List Row) → Some rows ≡ option_map (λ p. p.1) (subcommand_rows (Some b))
          → subcommand_rows (Some b) ≡ Some ((out-SubCommand (box_value b)).name.now, rows)
      rows_are b rows h =
          let first : (xs ys : List Row) → Some xs ≡ Some ys → ys ≡ xs = λ xs ys e. cc in ap₂ (λ a l. Some (a, l)) refl (first rows _ h)
