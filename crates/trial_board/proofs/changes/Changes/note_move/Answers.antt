-- The points of a move are noted one after another.
use Rattle.std.proofs.Common.{◌+◌, ◌<◌, ◌||◌, ap, sym, subst, arith, ◌∙◌}
use Rattle.std.specs.Prelude.{slice_index_or}
use Rattle.std.proofs.lemmas.Bool.{or_right}
use Rattle.std.specs.Ordering.{nat_cmp}
use Rattle.std.specs.FinSet as set
use Rattle.go_rules.specs.Board.{largest_points}
use Rattle.trial_board.specs.Captured.{points_in}
use Rattle.trial_board.specs.Changed.{is_played_at}
use Rattle.trial_board.proofs.CapturedLemmas.{points_in-has}
use Rattle.trial_board.proofs.ChangedLemmas.{tells_fewer, or_else, or_later, or_swapped, one_more}
use Rattle.trial_board.proofs.changes.Changes.note_move.Goals as goal

-- of the stones that it took none is noted yet
pub loop-i-init : goal.loop-i-init
loop-i-init c = record {
  ban = c.note_made.ensures.ban;
  tells = λ touched t. tells_fewer _ (c.note_made.ensures.touched touched t) (λ q h.
      ap (λ m. is_played_at m q || touched q) c.made.ensures
      ∙ or_else (set.contains (points_in c.args.row.now c.first-first.result 0) q)
      (is_played_at c.args.move_kept.now.made q || touched q) (set.contains-empty nat_cmp q) h);
}

-- the next of them stood on the board
pub note-requires : goal.note-requires
note-requires c =
    let move = c.args.move_kept.now in
    let row = c.args.row.now in
    let i = c.loop-i.i in
    let less : i < move.taken = omega (arith, c.loop-i-test.true, c.taken-i-end.ensures) in
    subst (λ f. slice_index_or row (f + i) 0 < largest_points) (sym c.first-first.ensures)
    (c.requires.on_board (slice_index_or row (move.first + i) 0)
    (or_right (is_played_at move.made (slice_index_or row (move.first + i) 0)) _
    (points_in-has row move.first move.taken i less)))

-- it is noted
pub loop-i-preserved : goal.loop-i-preserved
loop-i-preserved c = grind (arith, tells_fewer, or_later, one_more)

-- all of them are
pub returns-clause-touched : goal.returns-clause-touched
returns-clause-touched c = grind (arith, tells_fewer, or_swapped)
