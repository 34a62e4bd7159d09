use Rattle.std.proofs.Common.{◌∙◌, map, Some, None}
use Rattle.std.proofs.lemmas.Result.{IfOk-weaker}
use Rattle.clap.specs.Matches.{found_of}
use Rattle.go_options.proofs.RowLemmas.{words_read}
use Rattle.go_options.proofs.options.words.Goals as goal

-- the words that are no option are copied in order
pub returns-in-Some : goal.returns-in-Some
returns-in-Some c = IfOk-weaker c.copied.result _ _
    (λ files is. is ∙ words_read (found_of c.args.matches.now) c.args.name.now
    (Some (map (λ name. name.now) c.in-Some.names.now)) c.in-Some.ensures)
    c.copied.ensures

-- if no such word stands there is none
pub returns-in-None : goal.returns-in-None
returns-in-None c = c.new.ensures ∙ words_read (found_of c.args.matches.now) c.args.name.now None c.in-None.ensures
