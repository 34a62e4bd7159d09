-- The mark of the reply stands behind the others.
use Rattle.std.proofs.Common.{◌<◌, ◌≤◌, length, refl, rules}
use Rattle.session.proofs.WaitingReplies.{marked-added, sends-more}
use Rattle.session.proofs.outbox.Outbox.add.Goals as goal

-- the marks are those of the replies
pub invariant_of-self : goal.invariant_of-self
invariant_of-self c =
    let room : c.self.inside.count < length c.self.inside.marks = search rules in
    let fits : c.self.inside.len ≤ length c.self.inside.bytes = search rules in (
      search rules,
      search rules,
      marked-added c.self.inside.len c.self.inside.count c.self.inside.bytes
          c.write_at.new.bytes c.args.reply.now c.self.inside.marks _ c.write_at.ensures room fits refl
          c.self.invariant.2,
    )

-- the reply is sent
pub returns : goal.returns
returns c =
    let room : c.self.inside.count < length c.self.inside.marks = search rules in
    let fits : c.self.inside.len ≤ length c.self.inside.bytes = search rules in
    sends-more c.self.inside.len c.self.inside.count c.self.inside.bytes c.write_at.new.bytes c.args.reply.now
    c.self.inside.marks _ c.write_at.ensures room fits refl c.self.inside.sent c.args.self.now c.self.view_is
    c.self.invariant.2
