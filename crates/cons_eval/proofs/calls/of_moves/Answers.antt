-- The moves and the point behind them.
use Rattle.std.proofs.Common.{◌≡◌, suc, ◌-◌, ◌∙◌, ap, sym, length, map, take, List, Option, w64, arith, ℕ}
use Rattle.std.proofs.lemmas.Int.{to_z-of_z}
use Rattle.std.specs.Option.{option_map}
use Rattle.pat_types.specs.declared.expr.Arg.TheVariants.{Label}
use Rattle.cons_eval.specs.Questions.{many_there, moves_readings, counted}
use Rattle.cons_eval.specs.Values.{if_there, moves_value}
use Rattle.cons_eval.proofs.Moves.{none_last, last_point}
use Rattle.cons_eval.proofs.calls.of_moves.Goals as goal

-- no arguments have no last one
pub returns-in-empty-clause-value : goal.returns-in-empty-clause-value
returns-in-empty-clause-value g c = grind (arith, none_last)

-- the last argument has a point
pub returns-in-Some-clause-value : goal.returns-in-Some-clause-value
returns-in-Some-clause-value g c =
    let point = (g.E.Env.view c.args.env.now).meanings.point in
    let some = c.in-len1-up.len_at_least in
    let last : length c.args.args.now ≡ suc (length c.args.args.now - 1) = omega arith in
    to_z-of_z w64 c.value_after.result (record { sfits = c.value_after.type_inv })
    ∙ (c.value_after.ensures.value
    ∙ sym (ap (if_there (moves_value (g.E.Env.view c.args.env.now).meanings c.args.function))
    (last_point point c.args.args.now (length c.args.args.now - 1) (Label 0) last
    ∙ ap (λ (p : Option ℕ). option_map (λ p. (map point (take (length c.args.args.now - 1) c.args.args.now), p)) p)
    (sym c.point.ensures ∙ c.in-Some.is))))

-- the last argument has none
pub returns-in-None-clause-value : goal.returns-in-None-clause-value
returns-in-None-clause-value g c =
    let point = (g.E.Env.view c.args.env.now).meanings.point in
    let some = c.in-len1-up.len_at_least in
    let last : length c.args.args.now ≡ suc (length c.args.args.now - 1) = omega arith in
    sym (ap (if_there (moves_value (g.E.Env.view c.args.env.now).meanings c.args.function))
    (last_point point c.args.args.now (length c.args.args.now - 1) (Label 0) last
    ∙ ap (λ (p : Option ℕ). option_map (λ p. (map point (take (length c.args.args.now - 1) c.args.args.now), p)) p)
    (sym c.point.ensures ∙ c.in-None.is)))

-- no arguments ask for no reading
pub returns-in-empty-clause-asked : goal.returns-in-empty-clause-asked
returns-in-empty-clause-asked g c = grind (arith, none_last)

-- with a point the function asks for its own
pub returns-in-Some-clause-asked : goal.returns-in-Some-clause-asked
returns-in-Some-clause-asked g c =
    let old = g.E.Env.view c.args.env.now in
    let point = old.meanings.point in
    let some = c.in-len1-up.len_at_least in
    let last : length c.args.args.now ≡ suc (length c.args.args.now - 1) = omega arith in
    c.value_after.ensures.asked
    ∙ sym (ap (λ (o : Option (List (Option ℕ) × ℕ)).
    counted (many_there (moves_readings old.meanings c.args.function) o) old.asked)
    (last_point point c.args.args.now (length c.args.args.now - 1) (Label 0) last
    ∙ ap (λ (p : Option ℕ). option_map (λ p. (map point (take (length c.args.args.now - 1) c.args.args.now), p)) p)
    (sym c.point.ensures ∙ c.in-Some.is)))

-- without one it asks for none
pub returns-in-None-clause-asked : goal.returns-in-None-clause-asked
returns-in-None-clause-asked g c =
    let old = g.E.Env.view c.args.env.now in
    let point = old.meanings.point in
    let some = c.in-len1-up.len_at_least in
    let last : length c.args.args.now ≡ suc (length c.args.args.now - 1) = omega arith in
    sym (ap (λ (o : Option (List (Option ℕ) × ℕ)).
    counted (many_there (moves_readings old.meanings c.args.function) o) old.asked)
    (last_point point c.args.args.now (length c.args.args.now - 1) (Label 0) last
    ∙ ap (λ (p : Option ℕ). option_map (λ p. (map point (take (length c.args.args.now - 1) c.args.args.now), p)) p)
    (sym c.point.ensures ∙ c.in-None.is)))
