-- The answer says what the loader said of the file, and whether its text is a proof.
use Rattle.std.proofs.Common.{arith}
use Rattle.sure_lines.specs.Files.{named_file, word_at}
use Rattle.sure_lines.specs.ProofCommands.{judged, proof_in}
use Rattle.sure_lines.proofs.FileAnswers.{some_file, file-answered}
use Rattle.sure_lines.proofs.machine.SureMachine.judge_file.Goals as goal

-- the text of the file was judged
pub returns-in-Ok-clause-answer : goal.returns-in-Ok-clause-answer
returns-in-Ok-clause-answer g c = grind (arith, file-answered)

-- no text was loaded, whatever the file is
pub returns-in-Err-clause-answer : goal.returns-in-Err-clause-answer
returns-in-Err-clause-answer g c =
    let file = some_file (g.L.Loader.contents c.args.files.now)
    (named_file (word_at c.args.line.now c.args.name)) in
    let effect = judged c.args.self.now c.args.kind c.args.p c.args.code (proof_in file.0) in
    (file.0, file.1, c.in-Err.ensures.answer c.args.self.now effect)
