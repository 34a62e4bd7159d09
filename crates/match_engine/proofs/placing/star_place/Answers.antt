use Rattle.std.proofs.Common.{◌≡◌, ℕ, ◌<◌, ◌-◌, ◌/◌, ◌%◌, Option, ℤ, pos, ◌-ℤ◌, refl, sym, ap, ◌∙◌, arith}
use Rattle.std.proofs.lemmas.Int.{ints}
use Rattle.go_rules.specs.Transform.{transformations}
use Rattle.spiral.specs.Spiral.{place_at}
use Rattle.pat_types.specs.declared.pattern.Pattern.{Pattern}
use Rattle.pat_types.specs.Cells.{anchor_of}
use Rattle.match_engine.specs.Found.{place_of_star}
use Rattle.match_engine.proofs.Corners.{from_anchor, broken_first, broken_last, whole_between}
use Rattle.match_engine.proofs.placing.star_place.Goals as goal
use Rattle.match_engine.proofs.placing.star_place.Goals.{After-place_beside, After-place_beside-2}

-- a step from the row and the column of the anchor's point leads where the cell in row x and column y lies
step_from : (p : Pattern) (s t a side x y : ℕ) (u v : ℤ) (o : Option ℕ) → side ≡ s
    → ((from : ℕ) → a / side ≡ from / s → a % side ≡ from % s → o ≡ place_at s t from (u, v))
    → u ≡ pos x -ℤ pos (anchor_of p).0 → v ≡ pos y -ℤ pos (anchor_of p).1 → o ≡ from_anchor p s t a x y
step_from p s t a side x y u v o same led row column = grind arith

-- the first letter lies where the first step leads
first_led : (c : After-place_beside) → c.place_beside.result ≡ from_anchor c.args.p.now c.args.size c.args.t c.args.from
    0 0
first_led c =
    step_from c.args.p.now c.args.size c.args.t c.args.from _ 0 0 _ _ c.place_beside.result
    (omega arith) c.place_beside.ensures.value
    (omega (arith, ints, ap (λ (x : ℕ × ℕ). x.0) c.anchor-r.ensures.value))
    (omega (arith, ints, ap (λ (x : ℕ × ℕ). x.1) c.anchor-r.ensures.value))

-- the last letter lies where the second step leads
last_led : (c : After-place_beside-2) → c.place_beside-2.result ≡ from_anchor c.args.p.now c.args.size c.args.t
    c.args.from (c.args.p.now.rows - 1) (c.args.p.now.cols - 1)
last_led c =
    step_from c.args.p.now c.args.size c.args.t c.args.from _ (c.args.p.now.rows - 1)
    (c.args.p.now.cols - 1) _ _ c.place_beside-2.result
    (omega arith) c.place_beside-2.ensures.value
    (omega (arith, ints, c.args.p.now.diagram.rows_from, ap (λ (x : ℕ × ℕ). x.0) c.anchor-r.ensures.value))
    (omega (arith, ints, c.args.p.now.diagram.columns_from, ap (λ (x : ℕ × ℕ). x.1) c.anchor-r.ensures.value))

-- the first letter lies off the board
pub returns-in_err-place_beside-clause-value : goal.returns-in_err-place_beside-clause-value
returns-in_err-place_beside-clause-value c = grind (arith, broken_first, first_led)

-- the last letter does
pub returns-in_err-place_beside-2-clause-value : goal.returns-in_err-place_beside-2-clause-value
returns-in_err-place_beside-2-clause-value c = grind (arith, broken_last, last_led)

-- both lie on it, and the star stands where the third step leads
pub returns-clause-value : goal.returns-clause-value
returns-clause-value c =
    let low : c.args.t < transformations = omega arith in
    let at_first = (goal.at.returns-clause-value c).After-place_beside in
    let at_last = (goal.at.returns-clause-value c).After-place_beside-2 in
    step_from c.args.p.now c.args.size c.args.t c.args.from _ c.args.p.now.star.0
    c.args.p.now.star.1 _ _ c.place_beside-3.result
    (omega arith) c.place_beside-3.ensures.value
    (omega (arith, ints, ap (λ (x : ℕ × ℕ). x.0) c.anchor-r.ensures.value))
    (omega (arith, ints, ap (λ (x : ℕ × ℕ). x.1) c.anchor-r.ensures.value))
    ∙ whole_between c.args.p.now c.args.size c.args.t c.args.from
    low
    (place_of_star c.args.p.now c.args.size c.args.t c.args.from) _ _ refl
    (sym (first_led at_first) ∙ c.in_ok-place_beside.was)
    (sym (last_led at_last) ∙ c.in_ok-place_beside-2.was)
