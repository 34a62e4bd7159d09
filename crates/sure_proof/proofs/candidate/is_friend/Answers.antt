-- The three parts, by the sets of the target's string and of its liberties.
use Rattle.std.proofs.Common.{◌∙◌, ◌*◌, ◌&&◌, not, ap}
use Rattle.std.specs.FinSet as set
use Rattle.go_rules.specs.Below.{any_below}
use Rattle.go_rules.specs.Board.{are_neighbours}
use Rattle.go_rules.specs.Strings.{cell_at, same_cell, is_liberty, is_in_string}
use Rattle.go_rules.proofs.Cells.{eq_is_same_cell}
use Rattle.wider_rules.proofs.StringLemmas.{has_stone}
use Rattle.sure_proof.proofs.RestLemmas.{beside_same}
use Rattle.sure_proof.proofs.candidate.is_friend.Goals as goal

-- all three are so
pub returns : goal.returns
returns c =
    let s = c.args.pos.now.size in
    let cells = c.args.pos.now.cells in
    let beside = any_below (s * s) (λ l. is_liberty s cells c.args.target l && are_neighbours s l c.args.q) in
    let inside = is_in_string s cells c.args.target c.args.q in
    c.are_all.ensures
    ∙ ap (λ b. (c.eq-own.result && c.is_beside-beside.result) && not b) (c.has.ensures
    ∙ has_stone s cells c.args.target c.args.q c.args.found.now.stones c.requires.target c.requires.stones)
    ∙ ap (λ b. (c.eq-own.result && b) && not inside) (c.is_beside-beside.ensures
    ∙ ap (λ S. any_below (s * s) (λ l. set.contains S l && are_neighbours s l c.args.q)) c.requires.liberties
    ∙ beside_same s cells c.args.target c.args.q)
    ∙ ap (λ b. (b && beside) && not inside) (c.eq-own.ensures ∙ eq_is_same_cell c.cell.result c.cell-2.result
    ∙ ap (λ k. same_cell k c.cell-2.result) c.cell.ensures ∙ ap (same_cell (cell_at cells c.args.q)) c.cell-2.ensures)
