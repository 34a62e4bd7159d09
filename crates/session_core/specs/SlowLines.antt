-- What a line that may take long says.
use Rattle.std.specs.Prelude.{◌≡◌, ℕ, List}
use Rattle.gtp_cmd.specs.Within.{SaysWithin, SaysWithinLine}
use Rattle.gtp_cmd.specs.declared.commands.Command.{Command}
use Rattle.gtp_cmd.specs.declared.commands.Command.TheVariants as command
use Rattle.gtp_cmd.specs.declared.commands.Parsed.{Parsed}
use Rattle.gtp_cmd.specs.declared.commands.Parsed.TheVariants as parsed
use Rattle.session_core.specs.Kept.{Kept}
use Rattle.session_core.specs.declared.slow.Slow.{Slow}
use Rattle.session_core.specs.declared.slow.Work.{Work}
use Rattle.session_core.specs.declared.slow.Work.TheVariants as work

-- the command with this work
abbrev pub command_of : Work → Command
command_of (work.Attack p) = command.Attack p
command_of (work.Defend p) = command.Defend p
command_of (work.Match friend) = command.MatchPatterns friend
command_of (work.Load span) = command.LoadSgf span
command_of (work.AttackProof p) = command.AttackProof p
command_of (work.DefendProof p) = command.DefendProof p
command_of (work.CheckProof attack target code tokens) = command.CheckProof attack target code tokens
command_of (work.Connect a b) = command.Connect a b
command_of (work.Disconnect a b) = command.Disconnect a b
command_of (work.GenMove friend) = command.GenMove friend
command_of (work.RegGenMove friend) = command.RegGenMove friend

-- what a postponed line says
abbrev pub said_by : Slow → Parsed
said_by slow = parsed.Command slow.id (command_of slow.work)

-- A line of these bytes was postponed: nothing was done, and `slow` holds what the line says.
pub record IsLeft (old : Kept) (line : List ℕ) (said : Parsed) (slow : Slow) (new : Kept) : Type 0 where
  pub same : new ≡ old
  pub says : said ≡ said_by slow
  pub within : SaysWithin new.engine.base.size (said_by slow)
  pub spans : SaysWithinLine line (said_by slow)
