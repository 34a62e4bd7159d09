-- Where a wide ply is left, the wide candidates by the liberties were gathered, and none where none is left.
use Rattle.std.proofs.Common.{◌&&◌, ap, sym, ◌∙◌, arith}
use Rattle.std.proofs.lemmas.Bool.{lt-ltb, le-ltb}
use Rattle.std.specs.Ordering.{nat_cmp}
use Rattle.std.specs.FinSet as set
use Rattle.trial_board.specs.Trials.{after}
use Rattle.read_rules.specs.Stages.{is_wide_by_liberties}
use Rattle.read_moves.proofs.stages.stated_later_candidates.Goals as goal

-- a wide ply is left
pub returns-then-turn-gt0-clause-over : goal.returns-then-turn-gt0-clause-over
returns-then-turn-gt0-clause-over g c = grind (arith, lt-ltb)

-- no wide ply is left
pub returns-else-turn-gt0-clause-over : goal.returns-else-turn-gt0-clause-over
returns-else-turn-gt0-clause-over g c = λ pos a p.
    ap (λ t. set.contains t p) c.new.ensures ∙ set.contains-empty nat_cmp p
    ∙ sym (ap (λ b. b && is_wide_by_liberties (after pos c.args.board.now.moves) c.args.turn.target p)
    (le-ltb 0 c.args.turn.wide c.if-turn-gt0.false))
