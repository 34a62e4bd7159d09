-- The message for a database text that is refused.
use Rattle.std.specs.Prelude.{ℕ, List, ◌++◌, codes, decimal}
use Rattle.db_read.specs.declared.error.DbError.{DbError}
use Rattle.db_read.specs.declared.error.DbError.TheVariants.{NoMemory, Fault}

-- the message for the cause: memory ran out, or the line and the kind of the first fault
abbrev pub error_text : DbError → List ℕ
error_text NoMemory = codes "out of memory"
error_text (Fault line kind) = codes "bad database: line " ++ decimal line ++ codes " kind " ++ decimal kind
