use Rattle.std.proofs.Common.{eqb, eq-eqb, arith}
use Rattle.gtp_cmd.specs.Komi.{point}
use Rattle.vertices.proofs.WordLemmas.{found_first, found_none}
use Rattle.gtp_cmd.proofs.komi.point_place.Goals as goal

-- this is the first point
pub returns-then-b-eq46-clause-first : goal.returns-then-b-eq46-clause-first
returns-then-b-eq46-clause-first c = grind (arith, found_first, eq-eqb)

-- there is none
pub returns-clause-first : goal.returns-clause-first
returns-clause-first c = found_none (λ b. eqb b point) c.args.text.now c.loop-i.i c.loop-i-test.false c.loop-i.invariant
