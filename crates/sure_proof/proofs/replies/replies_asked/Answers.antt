-- The zone of the proof behind the pass asks for the replies.
use Rattle.read_proof.specs.Tokens.{words_in}
use Rattle.sure_proof.specs.SureProofs.{proved_by}
use Rattle.sure_proof.proofs.replies.replies_asked.Goals as goal

-- a proof stands in front
pub returns : goal.returns
returns c = (
  proved_by (words_in c.in_ok-proved.field-0.now) c.proved.new.zone,
  rw c.passed-new.ensures at c.in_ok-proved.ensures,
  rw (c.other.ensures, c.mover.ensures) at c.guard_zone.ensures.asked,
)
