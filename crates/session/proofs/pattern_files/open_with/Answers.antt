-- The files were opened with the helpers that were handed in.
use Rattle.session.proofs.PlainSessions.{opens-handed, refused-handed}
use Rattle.session.proofs.pattern_files.open_with.Goals as goal

-- the helpers are those that were handed in
pub returns-in-Ok-clause-ok : goal.returns-in-Ok-clause-ok
returns-in-Ok-clause-ok g c = opens-handed _ _ _ _ _ _ _ _ _ _ c.in-Ok.ensures.states c.open.ensures.ok

-- so these may be named in the files
pub returns-in-Ok-clause-err : goal.returns-in-Ok-clause-err
returns-in-Ok-clause-err g c = refused-handed _ _ _ _ _ _ c.in-Ok.ensures.states c.open.ensures.err
