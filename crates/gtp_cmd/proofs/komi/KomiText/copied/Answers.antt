use Rattle.std.proofs.Common.{arith}
use Rattle.gtp_cmd.proofs.KomiLemmas.{kept-long}
use Rattle.gtp_cmd.proofs.komi.KomiText.copied.Goals as goal

-- there is one more byte than the room holds
pub returns-then-is_full : goal.returns-then-is_full
returns-then-is_full c = grind (arith, kept-long)
