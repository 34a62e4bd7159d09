use Rattle.std.proofs.Common.{◌≡◌, false, eqb, take}
use Rattle.std.specs.List.{All}
use Rattle.gtp_rules.specs.Lines.{line_feed}
use Rattle.gtp_lex.proofs.lines.text_len.Given as goal

-- no byte so far is a line feed
abbrev pub invariant-loop-i : goal.invariant-loop-i
invariant-loop-i l = All (λ b. eqb b line_feed ≡ false) (take l.i l.piece)
