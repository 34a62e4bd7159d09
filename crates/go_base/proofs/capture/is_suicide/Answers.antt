use Rattle.std.proofs.Common.{sym, ap, ◌∙◌, arith}
use Rattle.std.specs.Ordering.{nat_cmp}
use Rattle.std.specs.FinSet as set
use Rattle.std.proofs.lemmas.Bool.{ne_eqb}
use Rattle.go_rules.specs.Strings.{liberties}
use Rattle.go_base.proofs.WithoutLiberty.{told_where_none}
use Rattle.go_base.proofs.capture.is_suicide.Goals as goal

-- a stone that took another has a liberty
pub returns-then-count-ne0-clause-over : goal.returns-then-count-ne0-clause-over
returns-then-count-ne0-clause-over g c = λ pos a stone alive.
    sym (ne_eqb (liberties (g.V.View.rows c.args.board.now) (g.V.View.cells c.args.board.now pos) c.args.p) 0
    (alive (λ e. c.if-count-ne0.true (c.count.ensures.value ∙ ap set.len e ∙ set.len-empty nat_cmp))))

-- a stone's string is told exactly if it has no liberty
pub returns-clause-over : goal.returns-clause-over
returns-clause-over g c = grind (arith, told_where_none)
