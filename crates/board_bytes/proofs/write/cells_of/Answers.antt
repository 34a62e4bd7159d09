-- Each point's byte is written once.
use Rattle.std.proofs.Common.{◌≡◌, ◌+◌, ◌*◌, refl, sym, ap, subst, ◌∙◌, arith, set}
use Rattle.board_bytes.proofs.WrittenBytes.{IsWritten, IsWritten-none, IsWritten-more, IsWritten-all}
use Rattle.board_bytes.proofs.write.cells_of.Goals as goal

-- nothing is written yet
pub loop-p-init : goal.loop-p-init
loop-p-init c = IsWritten-none c.args.position.now c.no_bytes-cells.result c.no_bytes-cells.ensures

-- one more point is
pub loop-p-preserved : goal.loop-p-preserved
loop-p-preserved c =
    let pos = c.args.position.now in
    let on_board = c.size.ensures.position in
    subst (λ b. IsWritten pos (c.loop-p.p + 1) (set c.loop-p.cells c.loop-p.p b))
    (sym (c.byte_of.ensures ∙ rw c.cell.ensures refl))
    (IsWritten-more c.loop-p.invariant (omega (
      arith,
      c.loop-p-test.true,
      c.points-p-end.ensures.value,
      ap (λ s. s * s) c.size.ensures.value,
    )) on_board.size_at_most)

-- all points are
pub returns : goal.returns
returns c =
    let pos = c.args.position.now in
    let all : c.loop-p.p ≡ pos.size * pos.size = omega (
      arith,
      c.loop-p-test.false,
      c.points-p-end.ensures.value,
      ap (λ s. s * s) c.size.ensures.value,
    ) in
    IsWritten-all pos c.loop-p.cells (subst (λ n. IsWritten pos n c.loop-p.cells) all c.loop-p.invariant)
    c.size.ensures.position
