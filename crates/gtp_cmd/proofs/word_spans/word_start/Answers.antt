-- Bytes that are skipped begin no word.
use Rattle.std.proofs.Common.{arith}
use Rattle.gtp_cmd.proofs.SpanLemmas.{at-skipped}
use Rattle.gtp_cmd.proofs.word_spans.word_start.Goals as goal

-- this byte is skipped
pub loop-i-preserved : goal.loop-i-preserved
loop-i-preserved c = grind (arith, at-skipped)
