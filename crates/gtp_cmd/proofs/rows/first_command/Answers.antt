-- A word that stands as a row has it names the row's command.
use Rattle.std.proofs.Common.{sym, ◌∙◌}
use Rattle.gtp_cmd.proofs.RowLemmas.{written-named}
use Rattle.gtp_cmd.proofs.rows.first_command.Goals as goal

-- no byte of it is dropped
pub returns-in-Some : goal.returns-in-Some
returns-in-Some c =
    written-named c.args.rows.now c.args.word.now c.in-Some.command c.requires
    (sym c.in-Some.is ∙ c.command_written.ensures)
