-- The rows of commands that the code keeps.
use Rattle.std.specs.Prelude.{Bool}
use Rattle.std.specs.Str.{bytes_eq}
use Rattle.gtp_cmd.specs.declared.rows.Row.{Row as CodeRow}
use Rattle.gtp_cmd.specs.Words.{kept}
use Rattle.gtp_cmd.specs.Commands.{Row}

-- the row of the definition that a row of the code stands for
abbrev pub row_seen : CodeRow → Row
row_seen r = record { command = r.command; word = r.word.now }

-- no byte of the row's word is dropped
abbrev pub is_plain : CodeRow → Bool
is_plain r = bytes_eq (kept r.word.now) r.word.now
