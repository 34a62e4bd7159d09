use Rattle.std.proofs.Common.{◌≡◌, ap, sym, ◌∙◌, arith}
use Rattle.go_rules.specs.Strings.{cell_at, is_stone}
use Rattle.go_rules.proofs.Cells.{stone_test}
use Rattle.go_rules.proofs.Results.{play_occupied, play_ko}
use Rattle.go_strings.specs.Stands.{cells_of}
use Rattle.go_strings.proofs.StandingBoards.{judged_suicide, judged_allowed}
use Rattle.go_strings.proofs.judge.judge.Goals as goal
use Rattle.go_strings.proofs.judge.judge.Goals.{After-ne}

-- whether a stone stood there
stone_was : (c : After-ne) → c.ne.result ≡ is_stone (cell_at (cells_of c.args.now.now.board) c.args.p)
stone_was c = c.ne.ensures ∙ stone_test c.cell_on.result ∙ ap is_stone c.cell_on.ensures

-- a stone stands there
pub returns-then-ne-clause-refused : goal.returns-then-ne-clause-refused
returns-then-ne-clause-refused c = grind (arith, play_occupied, stone_was)

-- the ban is on the play
pub returns-then-is_banned-clause-refused : goal.returns-then-is_banned-clause-refused
returns-then-is_banned-clause-refused c = grind (arith, play_ko, stone_was)

-- the stone would have no liberty
pub returns-then-is_suicide-clause-refused : goal.returns-then-is_suicide-clause-refused
returns-then-is_suicide-clause-refused c =
    let at = goal.at.returns-then-is_suicide-clause-refused c in
    let none = c.is_suicide.ensures.yes c.if-is_suicide.true in
    judged_suicide c.args.now.now c.args.strings.now c.args.c c.args.p c.requires.stands c.requires.holds
    c.requires.on_board (sym (stone_was at.After-ne) ∙ c.if-ne.false) (sym c.is_banned.ensures
    ∙ c.if-is_banned.false)
    c.gather-met.result c.gather-met.ensures none.0 none.1

-- the play is allowed
pub returns-clause-allowed : goal.returns-clause-allowed
returns-clause-allowed c =
    let at = goal.at.returns-clause-allowed c in
    judged_allowed c.args.now.now c.args.strings.now c.args.c c.args.p c.requires.stands c.requires.holds
    c.requires.on_board (sym (stone_was at.After-ne) ∙ c.if-ne.false) (sym c.is_banned.ensures
    ∙ c.if-is_banned.false)
    c.gather-met.result c.gather-met.ensures (c.is_suicide.ensures.more c.if-is_suicide.false)
