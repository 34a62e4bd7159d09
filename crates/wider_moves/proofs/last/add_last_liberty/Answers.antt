-- The liberty of a string in atari came, and nothing of another.
use Rattle.trial_board.specs.Trials.{after}
use Rattle.wider_moves.proofs.LastLemmas.{one_liberty, other_liberties}
use Rattle.wider_moves.proofs.last.add_last_liberty.Goals as goal

-- the string has one liberty, which came
pub returns-then-count-eq-IN_ATARI-clause-over : goal.returns-then-count-eq-IN_ATARI-clause-over
returns-then-count-eq-IN_ATARI-clause-over g c = λ pos a p.
    one_liberty pos.size (after pos c.args.board.now.moves).cells c.args.r c.count.result p
    c.some_liberties-liberties.result c.args.found.now c.join.new.self
    (c.some_liberties-liberties.ensures.over pos a) c.count.ensures.value c.if-count-eq-IN_ATARI.true c.join.ensures

-- the string has not just one liberty
pub returns-else-count-eq-IN_ATARI-clause-over : goal.returns-else-count-eq-IN_ATARI-clause-over
returns-else-count-eq-IN_ATARI-clause-over g c = λ pos a p.
    other_liberties pos.size (after pos c.args.board.now.moves).cells c.args.r c.count.result p
    c.some_liberties-liberties.result c.args.found.now c.args.found.now
    (c.some_liberties-liberties.ensures.over pos a) c.count.ensures.value c.if-count-eq-IN_ATARI.false
