-- Each word is found in its own row, and in none before it.
use Rattle.std.proofs.Common.{Some, refl}
use Rattle.gtp_cmd.specs.Commands.{table, named}
use Rattle.gtp_cmd.proofs.RowLemmas.{agree-each}
use Rattle.gtp_cmd.proofs.laws.names_are_told_apart.Goals as goal

-- the words of the table name its commands, row by row
pub returns : goal.returns
returns c = agree-each (λ row. named row.word) (λ row. Some row.command) table refl
