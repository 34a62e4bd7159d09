-- Each command that may take long was done, and only a game record is loaded.
use Rattle.std.proofs.Common.{refl, arith}
use Rattle.session_core.proofs.LoadAnswers.{done-same, missed-same, done-unloaded, missed-unloaded}
use Rattle.session_core.proofs.engine.Engine.work_on.Goals as goal

-- an attack
pub returns-in-Attack-clause-answer : goal.returns-in-Attack-clause-answer
returns-in-Attack-clause-answer g c = grind (arith, done-unloaded)

-- it misses no file
pub returns-in-Attack-clause-missed : goal.returns-in-Attack-clause-missed
returns-in-Attack-clause-missed g c = missed-unloaded c.in-Attack.is _ _ _ refl

-- a defence
pub returns-in-Defend-clause-answer : goal.returns-in-Defend-clause-answer
returns-in-Defend-clause-answer g c = grind (arith, done-unloaded)

-- it misses no file
pub returns-in-Defend-clause-missed : goal.returns-in-Defend-clause-missed
returns-in-Defend-clause-missed g c = missed-unloaded c.in-Defend.is _ _ _ refl

-- a list of matches
pub returns-in-Match-clause-answer : goal.returns-in-Match-clause-answer
returns-in-Match-clause-answer g c = grind (arith, done-unloaded)

-- it misses no file
pub returns-in-Match-clause-missed : goal.returns-in-Match-clause-missed
returns-in-Match-clause-missed g c = missed-unloaded c.in-Match.is _ _ _ refl

-- the proof of an attack
pub returns-in-AttackProof-clause-answer : goal.returns-in-AttackProof-clause-answer
returns-in-AttackProof-clause-answer g c = grind (arith, done-unloaded)

-- it misses no file
pub returns-in-AttackProof-clause-missed : goal.returns-in-AttackProof-clause-missed
returns-in-AttackProof-clause-missed g c = missed-unloaded c.in-AttackProof.is _ _ _ refl

-- the proof of a defence
pub returns-in-DefendProof-clause-answer : goal.returns-in-DefendProof-clause-answer
returns-in-DefendProof-clause-answer g c = grind (arith, done-unloaded)

-- it misses no file
pub returns-in-DefendProof-clause-missed : goal.returns-in-DefendProof-clause-missed
returns-in-DefendProof-clause-missed g c = missed-unloaded c.in-DefendProof.is _ _ _ refl

-- the check of a proof
pub returns-in-CheckProof-clause-answer : goal.returns-in-CheckProof-clause-answer
returns-in-CheckProof-clause-answer g c = grind (arith, done-unloaded c.in-CheckProof.is)

-- it misses no file
pub returns-in-CheckProof-clause-missed : goal.returns-in-CheckProof-clause-missed
returns-in-CheckProof-clause-missed g c = missed-unloaded c.in-CheckProof.is _ _ _ refl

-- a connection
pub returns-in-Connect-clause-answer : goal.returns-in-Connect-clause-answer
returns-in-Connect-clause-answer g c = grind (arith, done-unloaded c.in-Connect.is)

-- it misses no file
pub returns-in-Connect-clause-missed : goal.returns-in-Connect-clause-missed
returns-in-Connect-clause-missed g c = missed-unloaded c.in-Connect.is _ _ _ refl

-- a cut
pub returns-in-Disconnect-clause-answer : goal.returns-in-Disconnect-clause-answer
returns-in-Disconnect-clause-answer g c = grind (arith, done-unloaded c.in-Disconnect.is)

-- it misses no file
pub returns-in-Disconnect-clause-missed : goal.returns-in-Disconnect-clause-missed
returns-in-Disconnect-clause-missed g c = missed-unloaded c.in-Disconnect.is _ _ _ refl

-- a move that is played
pub returns-in-GenMove-clause-answer : goal.returns-in-GenMove-clause-answer
returns-in-GenMove-clause-answer g c = grind (arith, done-unloaded)

-- it misses no file
pub returns-in-GenMove-clause-missed : goal.returns-in-GenMove-clause-missed
returns-in-GenMove-clause-missed g c = missed-unloaded c.in-GenMove.is _ _ _ refl

-- a move that is told
pub returns-in-RegGenMove-clause-answer : goal.returns-in-RegGenMove-clause-answer
returns-in-RegGenMove-clause-answer g c = grind (arith, done-unloaded)

-- it misses no file
pub returns-in-RegGenMove-clause-missed : goal.returns-in-RegGenMove-clause-missed
returns-in-RegGenMove-clause-missed g c = missed-unloaded c.in-RegGenMove.is _ _ _ refl

-- a game record
pub returns-in-Load-clause-answer : goal.returns-in-Load-clause-answer
returns-in-Load-clause-answer g c = grind (arith, done-same)

-- which may be missed
pub returns-in-Load-clause-missed : goal.returns-in-Load-clause-missed
returns-in-Load-clause-missed g c = missed-same c.in-Load.is _ _ _ _ c.load_record.ensures.missed
