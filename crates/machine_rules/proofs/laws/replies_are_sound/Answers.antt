-- Each step keeps its word, and there is one for each line.
use Rattle.machine_rules.proofs.Soundness.{step-sound, step-total}
use Rattle.machine_rules.proofs.laws.replies_are_sound.Goals as goal

-- a refused line keeps the machine, what may stand in place of a reply does but for calls, and a success alone ends
pub returns-clause-sound : goal.returns-clause-sound
returns-clause-sound c = step-sound

-- something is given for each line
pub returns-clause-total : goal.returns-clause-total
returns-clause-total c = step-total
