use Rattle.std.proofs.Common.{arith}
use Rattle.pattern_coverage.proofs.AllEnds.{all_tries}
use Rattle.pattern_coverage.proofs.BlockedTries.{blocked-on_board, blocked-few, blocked_ends}
use Rattle.pattern_coverage.proofs.position.ends_of_one.Goals as goal

-- the blocked points lie on the board
pub fits_among-illegal-requires-clause-on_board : goal.fits_among-illegal-requires-clause-on_board
fits_among-illegal-requires-clause-on_board c = grind (arith, blocked-on_board)

-- and are no more than its points
pub fits_among-illegal-requires-clause-few : goal.fits_among-illegal-requires-clause-few
fits_among-illegal-requires-clause-few c = grind (arith, blocked-few)

-- what is counted are the ends, and the tries that are left end at the diagram
pub returns : goal.returns
returns c d advice later = grind (arith, blocked_ends d advice, all_tries d advice)
