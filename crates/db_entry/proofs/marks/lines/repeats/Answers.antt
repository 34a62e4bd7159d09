use Rattle.std.proofs.Common.{sym}
use Rattle.db_entry.proofs.LabelLemmas.{repeats-lengths}
use Rattle.db_entry.proofs.marks.lines.repeats.Goals as goal

-- a word of another length does not repeat the main line
pub returns-then-main-word : goal.returns-then-main-word
returns-then-main-word c = sym (repeats-lengths c.args.main.now c.args.word.now c.if-main-word.true)
