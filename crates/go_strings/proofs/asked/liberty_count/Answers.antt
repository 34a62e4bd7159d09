-- The liberties of a string are counted by their set.
use Rattle.std.proofs.Common.{sym, ap, ◌∙◌, arith}
use Rattle.std.specs.FinSet as sets
use Rattle.std.specs.Ordering.{nat_cmp}
use Rattle.go_base.proofs.Liberties.{len-liberty_points}
use Rattle.go_strings.specs.Stands.{cells_of}
use Rattle.go_strings.proofs.Outcomes.{liberties-none}
use Rattle.go_strings.proofs.asked.liberty_count.Goals as goal

-- the liberties that are counted are those of the string that is kept
pub returns-in-Some : goal.returns-in-Some
returns-in-Some c = grind (arith, len-liberty_points)

-- an empty point has none
pub returns-in-None : goal.returns-in-None
returns-in-None c = sym (sets.len-empty nat_cmp)
    ∙ ap sets.len (liberties-none c.args.now.now.board.size (cells_of c.args.now.now.board) c.args.p c.in-None.ensures)
    ∙ len-liberty_points c.args.now.now.board.size (cells_of c.args.now.now.board) c.args.p
