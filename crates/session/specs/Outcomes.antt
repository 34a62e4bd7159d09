-- How a run ends: how far it came, and the exit status of the program.
use Rattle.std.specs.Prelude.{ℕ}
use Rattle.session.specs.declared.outcome.Outcome.{Outcome}
use Rattle.session.specs.declared.outcome.Outcome.TheVariants.{Done, BadDatabase, Usage, NoMemory, InputFault}
use Rattle.session.specs.declared.outcome.Outcome.TheVariants.{OutputFault, FileFault, TooManyStates, InputTooLong}
use Rattle.session.specs.declared.outcome.OpenError.{OpenError}
use Rattle.session.specs.declared.outcome.OpenError.TheVariants as open_error
use Rattle.session.specs.declared.outcome.End.{End}
use Rattle.session.specs.declared.outcome.End.TheVariants as served
use Rattle.session.specs.declared.outcome.WordsError.{WordsError}
use Rattle.session.specs.declared.outcome.WordsError.TheVariants as words

-- how far a run came: its words were not accepted, its files were not opened, or the lines were served until an end
pub data Phase : Type 0 where
  NotTaken : Phase
  NotOpened : OpenError → Phase
  Served : End → Phase

-- how far a run came, by its outcome
abbrev pub phase_of : Outcome → Phase
phase_of Done = Served served.Done
phase_of (BadDatabase line kind) = NotOpened (open_error.BadDatabase line kind)
phase_of Usage = NotTaken
phase_of NoMemory = NotOpened open_error.NoMemory
phase_of InputFault = Served served.InputFault
phase_of OutputFault = Served served.OutputFault
phase_of FileFault = NotOpened open_error.FileFault
phase_of (TooManyStates limit) = NotOpened (open_error.TooManyStates limit)
phase_of InputTooLong = Served served.InputTooLong

-- the outcome of a run whose words are missing
abbrev pub unhad : WordsError → Outcome
unhad words.NotText = Usage
unhad words.NoMemory = NoMemory

-- the exit status of the program
abbrev pub code_of : Outcome → ℕ
code_of Done = 0
code_of (BadDatabase line kind) = 1
code_of Usage = 2
code_of NoMemory = 3
code_of InputFault = 4
code_of OutputFault = 5
code_of FileFault = 6
code_of (TooManyStates limit) = 7
code_of InputTooLong = 8
