-- What is found among the rows of the code is found among the rows that are seen.
use Rattle.std.proofs.Common.{◌∙◌}
use Rattle.std.specs.Str.{bytes_eq}
use Rattle.gtp_cmd.specs.CodeRows.{row_seen}
use Rattle.gtp_cmd.specs.Words.{kept}
use Rattle.gtp_cmd.proofs.RowLemmas.{find-seen}
use Rattle.gtp_cmd.proofs.rows.command_in.Goals as goal

-- a row of the code is seen with its command and its word
pub returns : goal.returns
returns c = c.first_command.ensures ∙ find-seen row_seen (λ w. bytes_eq (kept c.args.word.now) w) c.args.rows.now
