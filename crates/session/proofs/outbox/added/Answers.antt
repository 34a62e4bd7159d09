-- A sum that stands still at the greatest value of a u64.
use Rattle.std.proofs.Common.{◌∙◌, arith}
use Rattle.session.proofs.TallyLemmas.{kept_sum-is}
use Rattle.session.proofs.outbox.added.Goals as goal

-- a count of what was sent rises by what more is sent, and stands still at the greatest value of a u64
pub returns : goal.returns
returns c = c.saturating_add.ensures ∙ kept_sum-is c.args.count c.args.n (omega (arith, c.ranges.count.fits))
