use Rattle.std.proofs.Common.{sym}
use Rattle.std.proofs.lemmas.List.{get_or-map}
use Rattle.db_entry.proofs.marks.lines.word_at.Goals as goal

-- the word at an index is that of the list of words
pub returns : goal.returns
returns c = sym (get_or-map _ c.args.words.now c.args.i _ _ c.requires)
