use Rattle.std.proofs.Common.{◌≡◌, false, eqb, arith}
use Rattle.std.proofs.lemmas.List.Elements.{All-more}
use Rattle.std.proofs.lemmas.Bool.Decides.{nat_tests}
use Rattle.gtp_rules.specs.Lines.{line_feed}
use Rattle.gtp_lex.proofs.lines.text_len.Goals as goal

-- the byte just tested is no line feed, and those before it are none
pub loop-i-preserved : goal.loop-i-preserved
loop-i-preserved c =
    All-more (λ b. eqb b line_feed ≡ false) c.args.piece.now c.loop-i.i 0 c.loop-i-test.true c.loop-i.invariant
    (grind (arith, nat_tests, c.if-b-eq10.false))
