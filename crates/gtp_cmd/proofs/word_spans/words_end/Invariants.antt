use Rattle.gtp_cmd.proofs.SpanLemmas.{ReadsWords}
use Rattle.gtp_cmd.proofs.word_spans.words_end.Given as goal

-- the words are read up to this place
abbrev pub invariant-loop-i : goal.invariant-loop-i
invariant-loop-i l = ReadsWords l.text l.start l.end l.i
