-- The answer says what the loader said of the file, and what its text is as a record.
use Rattle.std.proofs.Common.{arith}
use Rattle.sgf_rules.specs.Game.{game_of}
use Rattle.sure_lines.specs.Files.{named_file, word_at}
use Rattle.sure_lines.specs.RecordCommands.{recorded}
use Rattle.sure_lines.proofs.FileAnswers.{some_file, file-answered}
use Rattle.sure_lines.proofs.machine.SureMachine.load_record.Goals as goal

-- the file's text was read as a record
pub returns-in-Ok-clause-answer : goal.returns-in-Ok-clause-answer
returns-in-Ok-clause-answer g c = grind (arith, file-answered)

-- no text was loaded, whatever the file is
pub returns-in-Err-clause-answer : goal.returns-in-Err-clause-answer
returns-in-Err-clause-answer g c =
    let file = some_file (g.L.Loader.contents c.args.files.now)
    (named_file (word_at c.args.line.now c.args.span)) in
    (file.0, file.1, c.in-Err.ensures.answer c.args.self.now (recorded c.args.self.now (game_of file.0)))
