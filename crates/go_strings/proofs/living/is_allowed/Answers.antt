use Rattle.std.proofs.Common.{◌≡◌, is_ok, sym, ap, ◌∙◌, arith}
use Rattle.go_rules.specs.Strings.{cell_at, is_stone}
use Rattle.go_rules.proofs.Cells.{stone_test}
use Rattle.go_rules.proofs.Results.{play_occupied, play_ko}
use Rattle.go_strings.specs.Stands.{cells_of}
use Rattle.go_strings.proofs.StandingBoards.{puts_of, legal_exactly}
use Rattle.go_strings.proofs.living.is_allowed.Goals as goal
use Rattle.go_strings.proofs.living.is_allowed.Goals.{After-ne}

-- whether a stone stood there
stone_was : (c : After-ne) → c.ne.result ≡ is_stone (cell_at (cells_of c.args.now.now.board) c.args.p)
stone_was c = c.ne.ensures ∙ stone_test c.cell_on.result ∙ ap is_stone c.cell_on.ensures

-- a stone stands there
pub returns-then-ne : goal.returns-then-ne
returns-then-ne c = grind (arith, is_ok, play_occupied, stone_was)

-- the ban is on the play
pub returns-then-is_banned : goal.returns-then-is_banned
returns-then-is_banned c = grind (arith, is_ok, play_ko, stone_was)

-- the stone is put on an empty point
pub is_alive-requires-clause-put : goal.is_alive-requires-clause-put
is_alive-requires-clause-put c = grind (arith, puts_of, stone_was)

-- the stone that is played lives exactly if the play is legal
pub returns : goal.returns
returns c =
    let at = goal.at.returns c in
    legal_exactly c.args.now.now c.args.strings.now c.args.c c.args.p c.requires.stands c.requires.holds
    c.requires.on_board (sym (stone_was at.After-ne) ∙ c.if-ne.false) (sym c.is_banned.ensures
    ∙ c.if-is_banned.false) c.is_alive.result c.is_alive.ensures.yes c.is_alive.ensures.no
