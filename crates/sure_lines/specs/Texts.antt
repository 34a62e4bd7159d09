-- The text that a command takes besides its line: the contents of the file that it loads, or the proof that it prints.
use Rattle.std.specs.Prelude.{ℕ, List}
use Rattle.gtp_cmd.specs.Spans.{spanned}
use Rattle.gtp_cmd.specs.declared.commands.Command.{Command}
use Rattle.gtp_cmd.specs.declared.commands.Command.TheVariants as command
use Rattle.gtp_cmd.specs.declared.commands.Parsed.{Parsed}
use Rattle.gtp_cmd.specs.declared.commands.Parsed.TheVariants as parsed
use Rattle.read_rules.specs.declared.question.Kind.TheVariants.{Attack, Defend}
use Rattle.sure_lines.specs.Files.{Contents, named_file, word_at, IsFileOf}
use Rattle.sure_lines.specs.Machine.{Machine}
use Rattle.sure_lines.specs.ProofCommands.{IsProofTold, proof_name}

-- the text is that of the file that the command of this line loads, or a proof that the command prints; any text will
-- do if it does neither
abbrev pub IsTextOf : Contents → Machine → List ℕ → Command → List ℕ → Type 0
IsTextOf contents old line (command.LoadSgf span) text = IsFileOf contents (named_file (word_at line span)) text
IsTextOf contents old line (command.CheckProof attack p code span) text =
    IsFileOf contents (proof_name (spanned line span)) text
IsTextOf contents old line (command.AttackProof p) text = IsProofTold old Attack p text
IsTextOf contents old line (command.DefendProof p) text = IsProofTold old Defend p text
IsTextOf contents old line _ text = Unit {0}

-- the text is one that the command of the line takes; any text will do if the line has no command
abbrev pub IsTextSaid : Contents → Machine → List ℕ → Parsed → List ℕ → Type 0
IsTextSaid contents old line (parsed.Command id command) text = IsTextOf contents old line command text
IsTextSaid contents old line _ text = Unit {0}
