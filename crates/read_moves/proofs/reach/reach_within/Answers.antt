-- Two members that are not l, one, or none.
use Rattle.std.proofs.Common.{arith, inl, inr}
use Rattle.std.proofs.lemmas.Bool.{cases_eq, cases_lt}
use Rattle.read_moves.proofs.reach.reach_within.Goals as goal

-- two members
pub returns-in-Some-first_other : goal.returns-in-Some-first_other
returns-in-Some-first_other c = λ p.
    let one = c.in-Some.ensures.some in
    let two = c.in-Some-first_other.ensures.some in
    elim (cases_eq c.in-Some.p p) [
      | inr ne ↦ record { point = c.in-Some.p; inside = record { member = one.2; other = one.3 }; other = ne }
      | inl e ↦ grind arith
    ]

-- one member
pub returns-in-None-first_other : goal.returns-in-None-first_other
returns-in-None-first_other c = grind (arith, cases_lt, cases_eq)

-- none
pub returns-in-None : goal.returns-in-None
returns-in-None c = λ x i. i.other (c.in-None.ensures.none x (omega arith) i.member)
