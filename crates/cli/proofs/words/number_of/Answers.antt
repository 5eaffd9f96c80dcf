use Rattle.std.specs.Str.Parse.{ParsesUnsigned, ExplainsUnsignedError, HasUnsignedDigitsIfOk}
use Rattle.clap.specs.Words.{found_of}
use Rattle.cli.proofs.FoundNumbers.{number_read, no_number}
use Rattle.cli.proofs.words.number_of.Goals as goal

pub returns-clause-some : goal.returns-clause-some
returns-clause-some c =
    number_read (λ bs r. ParsesUnsigned 32 10 bs r × ExplainsUnsignedError 10 bs r × HasUnsignedDigitsIfOk bs r) (λ t x g. g.0)
    (found_of c.args.found.now) c.args.option.now c.get_one.result c.get_one.ensures.none c.get_one.ensures.value

pub returns-clause-none : goal.returns-clause-none
returns-clause-none c =
    no_number (λ bs r. ParsesUnsigned 32 10 bs r × ExplainsUnsignedError 10 bs r × HasUnsignedDigitsIfOk bs r) (λ t x g. g.0)
    (found_of c.args.found.now) c.args.option.now c.get_one.result c.get_one.ensures.value
