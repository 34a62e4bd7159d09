use Rattle.std.proofs.Common.{◌*◌, ◌<◌, ◌≤◌, ◌++◌, ◌∷◌, [], sym, ap, ◌∙◌, subst, arith}
use Rattle.std.specs.List.{All}
use Rattle.std.proofs.lemmas.List.Elements.{All-push}
use Rattle.std.proofs.lemmas.List.FromFn.{map-range_with_len_more}
use Rattle.dfa_match.specs.declared.walks.Walk.{Walk}
use Rattle.dfa_match.specs.Steps.{corner_at, last_corner}
use Rattle.dfa_match.specs.Walks.{IsStanding}
use Rattle.dfa_match.proofs.Cursors.{corner_low}
use Rattle.dfa_match.proofs.StandingWalks.{first_walk, first_walk-is, first_standing}
use Rattle.dfa_match.proofs.walks.first_walks.Goals as goal

-- one walk more
pub points-preserved : goal.points-preserved
points-preserved c =
    let walk : Walk = first_walk c.args.automaton.now c.args.size c.points.anchor in
    let is = first_walk-is c.args.automaton.now c.args.size c.points.anchor c.kind-entry.result c.points.at
    c.kind-entry.ensures c.points.invariant.at in
    let on : c.points.anchor < c.args.size * c.args.size =
    subst (λ n. c.points.anchor < n) c.points-anchor-end.ensures.value c.points-test.true in
    let low : corner_at c.args.size c.points.anchor ≤ last_corner =
    corner_low c.args.size c.points.anchor (omega (arith, c.get.ensures.at_least)) c.get.ensures.at_most on in
    let items = c.in_ok-push.ensures.items ∙ ap (λ w. c.points.walks.items ++ w ∷ []) is in
    record {
      value = items ∙ ap (λ ws. ws ++ walk ∷ []) c.points.invariant.value
          ∙ sym (map-range_with_len_more (first_walk c.args.automaton.now c.args.size) 0 c.points.anchor
          c.points.anchor (omega arith));
      standing = subst (All (IsStanding c.args.automaton.now)) (sym items)
          (All-push (IsStanding c.args.automaton.now) c.points.walks.items walk c.points.invariant.standing
          (first_standing c.args.automaton.now c.args.size c.points.anchor c.rows.ensures.automaton low));
      at = c.next-at.ensures c.points.anchor c.points.invariant.at;
    }
