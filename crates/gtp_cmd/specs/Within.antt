-- Commands whose points lie on the board, whose depths lie in their ranges and whose spans lie in the line.
use Rattle.std.specs.Prelude.{ℕ, ◌*◌, ◌<◌, ◌≤◌, List, Option, IfSome}
use Rattle.read_rules.specs.Ranges.{AreDepths}
use Rattle.gtp_cmd.specs.Commands.{greatest_code}
use Rattle.gtp_cmd.specs.Spans.{IsSpanOf}
use Rattle.gtp_cmd.specs.declared.commands.Command.{Command}
use Rattle.gtp_cmd.specs.declared.commands.Command.TheVariants as command
use Rattle.gtp_cmd.specs.declared.commands.Parsed.{Parsed}
use Rattle.gtp_cmd.specs.declared.commands.Parsed.TheVariants as parsed

-- the point, if there is one, lies on a board of size s
abbrev pub IsPointOf : ℕ → Option ℕ → Type 0
IsPointOf s at = IfSome at (λ p. p < s * s)

-- each point of the command lies on a board of size s, and each depth and code in its range
abbrev pub IsWithin : ℕ → Command → Type 0
IsWithin s (command.Play c at) = IsPointOf s at
IsWithin s (command.IsLegal c at) = IsPointOf s at
IsWithin s (command.CountLib p) = p < s * s
IsWithin s (command.FindLib p) = p < s * s
IsWithin s (command.Attack p) = p < s * s
IsWithin s (command.Defend p) = p < s * s
IsWithin s (command.Depths plies wide) = AreDepths plies wide
IsWithin s (command.AttackProof p) = p < s * s
IsWithin s (command.DefendProof p) = p < s * s
IsWithin s (command.Connect p q) = (p < s * s) × (q < s * s)
IsWithin s (command.Disconnect p q) = (p < s * s) × (q < s * s)
IsWithin s (command.CheckProof attack target code tokens) = (target < s * s) × (code ≤ greatest_code)
IsWithin s _ = Unit {0}

-- what a line says: if it is a command, its points, depths and code are within their ranges
abbrev pub SaysWithin : ℕ → Parsed → Type 0
SaysWithin s (parsed.Command id command) = IsWithin s command
SaysWithin s _ = Unit {0}

-- each span of the command lies in the line
abbrev pub IsWithinLine : List ℕ → Command → Type 0
IsWithinLine line (command.LoadSgf name) = IsSpanOf line name
IsWithinLine line (command.HelperOff name) = IsSpanOf line name
IsWithinLine line (command.HelperCalls name) = IsSpanOf line name
IsWithinLine line (command.HelperDrop name) = IsSpanOf line name
IsWithinLine line (command.CheckProof attack target code tokens) = IsSpanOf line tokens
IsWithinLine line _ = Unit {0}

-- what a line says: if it is a command, its spans lie within the line
abbrev pub SaysWithinLine : List ℕ → Parsed → Type 0
SaysWithinLine line (parsed.Command id command) = IsWithinLine line command
SaysWithinLine line _ = Unit {0}
