use Rattle.std.specs.Str.Parse.{ExplainsUnsignedError, HasUnsignedDigitsIfOk, ParsesUnsigned}
use Rattle.clap.specs.Matches.{found_of}
use Rattle.go_options.proofs.RowLemmas.{number_read}
use Rattle.go_options.proofs.options.number.Goals as goal

-- the number is the one that the option's text writes
pub returns : goal.returns
returns c = number_read (λ bs r. ParsesUnsigned 32 10 bs r × ExplainsUnsignedError 10 bs r × HasUnsignedDigitsIfOk bs r)
    (found_of c.args.matches.now) c.args.name.now c.get_one.result
    (λ u x g. g.0) c.requires c.get_one.ensures.none c.get_one.ensures.value
