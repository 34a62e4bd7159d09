-- The sink took some bytes more of the rest, and they were counted.
use Rattle.std.proofs.Common.{◌∙◌, arith}
use Rattle.session.proofs.WaitingReplies.{put_further, within_rest}
use Rattle.session.proofs.outbox.put_all.Goals as goal

-- the bytes that the output took so far are a front of those to put, and as many count as sent
pub loop-done-preserved : goal.loop-done-preserved
loop-done-preserved g c =
    let before = c.loop-done.invariant.within in
    let fits = within_rest c.args.bytes.now c.loop-done.done c.in-Ok.count c.in-Ok.ensures.some.0 in
    record {
      put = put_further _ _ _ c.args.sent.now c.loop-done.sent c.args.bytes.now c.loop-done.done c.in-Ok.count
          c.added-sent.result c.loop-done.invariant.within c.loop-done.invariant.put c.in-Ok.ensures.bytes
          c.in-Ok.ensures.some.0 c.added-sent.ensures;
      within = omega (arith, before, fits);
      faults = c.in-Ok.ensures.cause.ok ∙ c.loop-done.invariant.faults;
    }
