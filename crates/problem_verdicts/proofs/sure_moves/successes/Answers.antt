-- The points are found one after another.
use Rattle.std.proofs.Common.{◌≡◌, ◌∙◌, ℕ, Bool, ◌&&◌, ◌*◌, ◌<◌, true, refl, sym, ap, subst, arith, rules}
use Rattle.sure_rules.specs.SureAnswer.{surely_succeeds}
use Rattle.read_all.proofs.FoundMoves.{HasBelow, none_below, one_more, no_more}
use Rattle.problem_verdicts.specs.SureQuestions.{is_seen}
use Rattle.problem_verdicts.proofs.SureMoveLemmas.{all_found}
use Rattle.problem_verdicts.proofs.sure_moves.successes.Goals as goal
use Rattle.problem_verdicts.proofs.sure_moves.successes.Goals.{then-is_success, else-is_success}

-- no point was looked at yet
pub points-init : goal.points-init
points-init c =
    none_below (λ q. true)
    (λ q. is_seen c.args.scope c.args.node c.args.position.now q
    && surely_succeeds c.args.plies c.args.node c.args.position.now q)
    c.new-found.result c.new-found.ensures

-- the next point came exactly if it is looked at and succeeds
pub points-preserved : goal.points-preserved
points-preserved c =
    let p = c.points.p in
    let on : p < c.args.position.now.size * c.args.position.now.size = search rules in
    let wins : ℕ → Bool = λ q. is_seen c.args.scope c.args.node c.args.position.now q
    && surely_succeeds c.args.plies c.args.node c.args.position.now q in
    let test = c.is_success.ensures
    ∙ ap (λ b. b && surely_succeeds c.args.plies c.args.node c.args.position.now p)
    (c.seen_points-points.ensures p on) in
    elim c.if-is_success.branch [
      | then-is_success w ↦ one_more (λ q. true) wins p p c.points.found c.if-is_success.found c.points.invariant
          (omega arith) (λ r lo hi. absurd (omega (arith, lo, hi))) refl (sym test ∙ w.if-is_success.true)
          (w.found-is ∙ w.add.ensures)
      | else-is_success w ↦ rw w.found-is (no_more (λ q. true) wins p p c.points.found c.points.invariant (omega arith)
          (λ r lo hi. absurd (omega (arith, lo, hi))) (sym test ∙ w.if-is_success.false))
    ]

-- all of the board was looked at
pub returns : goal.returns
returns c =
    let size = c.args.position.now.size in
    let ended : c.points.p ≡ size * size = search rules in
    let wins : ℕ → Bool = λ q. surely_succeeds c.args.plies c.args.node c.args.position.now q in
    all_found c.args.scope c.args.node c.args.position.now wins c.points.found
    (subst (λ n. HasBelow (λ q. true) (λ q. is_seen c.args.scope c.args.node c.args.position.now q && wins q) n
    c.points.found) ended c.points.invariant)
