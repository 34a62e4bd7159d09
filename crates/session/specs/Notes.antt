-- What a run writes on its notes about how it ended.
use Rattle.std.specs.Prelude.{ℕ, List, [], ◌++◌, codes, decimal}
use Rattle.session.specs.declared.outcome.Outcome.{Outcome}
use Rattle.session.specs.declared.outcome.Outcome.TheVariants.{Done, BadDatabase, Usage, NoMemory, InputFault}
use Rattle.session.specs.declared.outcome.Outcome.TheVariants.{OutputFault, FileFault, TooManyStates, InputTooLong}

-- the note of an outcome, with its line feed
abbrev pub note_of : Outcome → List ℕ
note_of Done = []
note_of (BadDatabase line kind) =
    codes "bad database: line " ++ decimal line ++ codes " kind " ++ decimal kind ++ codes "\n"
note_of Usage = codes "usage: gopat [options] [file ...]\n"
note_of NoMemory = codes "out of memory\n"
note_of InputFault = codes "input failed\n"
note_of OutputFault = codes "output failed\n"
note_of FileFault = codes "file failed\n"
note_of (TooManyStates limit) = codes "too many states: limit " ++ decimal limit ++ codes "\n"
note_of InputTooLong = codes "input too long\n"
