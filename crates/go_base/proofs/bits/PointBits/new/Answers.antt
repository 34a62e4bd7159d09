use Rattle.go_base.proofs.Marks.{is_marked-none}
use Rattle.go_base.proofs.bits.PointBits.new.Goals as goal

-- no bit is set
pub returns : goal.returns
returns c = is_marked-none
