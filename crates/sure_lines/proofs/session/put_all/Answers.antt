-- The sink took some bytes more of the rest.
use Rattle.std.proofs.Common.{arith}
use Rattle.sure_lines.proofs.SessionLemmas.{put_further, within_rest}
use Rattle.sure_lines.proofs.session.put_all.Goals as goal

-- the bytes that the sink took so far are a front of those to put
pub puts-preserved : goal.puts-preserved
puts-preserved g c = grind (arith, within_rest, put_further)
