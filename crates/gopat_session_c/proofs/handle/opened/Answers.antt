-- There was no memory for the place of the session.
use Rattle.gopat_session_c.proofs.Unopened.{no_place}
use Rattle.gopat_session_c.proofs.handle.opened.Goals as goal

-- want of memory is told, and nothing is held
pub returns : goal.returns
returns c =
    no_place c.args.text.now c.args.options c.refused_reply-in-Err-new.result c.args.handle.now.slot.held c.in-Ok.opened
    c.requires c.in-Ok.ensures.ok c.refused_reply-in-Err-new.ensures
