use Rattle.std.proofs.Common.{◌∙◌, Some, None}
use Rattle.clap.specs.Matches.{found_of}
use Rattle.go_options.proofs.RowLemmas.{flag_read}
use Rattle.go_options.proofs.options.flag.Goals as goal

-- a flag that has a value is set where the value is `true`
pub returns-in-Some : goal.returns-in-Some
returns-in-Some c = c.eq.ensures
    ∙ flag_read (found_of c.args.matches.now) c.args.name.now (Some c.in-Some.text.now) c.in-Some.ensures

-- a flag that has no value is not set
pub returns-in-None : goal.returns-in-None
returns-in-None c = flag_read (found_of c.args.matches.now) c.args.name.now None c.in-None.ensures
