use Rattle.gtp_cmd.proofs.SpanLemmas.{ReadsWord}
use Rattle.gtp_cmd.proofs.word_spans.word_end.Given as goal

-- the word is read up to this place
abbrev pub invariant-loop-i : goal.invariant-loop-i
invariant-loop-i l = ReadsWord l.text l.start l.end l.i
