-- The machine of the definitions, as a view of the code's machine.
use Rattle.sure_lines.specs.Machine.{Machine, machine_at}
use Rattle.sure_lines.specs.declared.machine.SureMachine.TheInside.{Inside}

-- the machine with the game and the depths that the code keeps
abbrev pub seen : Inside → Machine
seen kept = machine_at kept.game kept.depths
