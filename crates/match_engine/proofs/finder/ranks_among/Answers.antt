use Rattle.std.proofs.Common.{◌≡◌, ◌+◌, ℕ, take, length, map, refl, sym, ap, ◌∙◌, subst, arith}
use Rattle.std.specs.List.{All, filter_map}
use Rattle.std.proofs.lemmas.List.Elements.{All-push}
use Rattle.std.proofs.lemmas.Option.{slice_get_read}
use Rattle.match_engine.specs.Found.{match_from}
use Rattle.match_engine.specs.Ranks.{rank_of, match_with}
use Rattle.match_engine.proofs.ByAutomaton.{among_more, among_same, made}
use Rattle.match_engine.proofs.finder.ranks_among.Goals as goal
use Rattle.match_engine.proofs.finder.ranks_among.Goals.{Joined-match_of, in-Some+in_ok-push, in_default}

-- the hit is one of the list
pub bounds-patterns-hit : goal.bounds-patterns-hit
bounds-patterns-hit c = c.requires.numbers c.hit-item.result (
  c.loop-hit.hit-index,
  c.loop-hit-test.true,
  sym c.hit-item.is,
)

-- the hit is one of the list
pub match_of-requires-clause-anchor : goal.match_of-requires-clause-anchor
match_of-requires-clause-anchor c =
    c.requires.anchors c.hit-item.result (c.loop-hit.hit-index, c.loop-hit-test.true, sym c.hit-item.is)

-- what the hit makes with its pattern is what was made
made_is : (c : Joined-match_of)
    → made c.args.patterns.now c.args.position.now c.args.friend c.hit-item.result ≡ c.match_of.result
made_is c =
    let there = c.requires.numbers c.hit-item.result (c.loop-hit.hit-index, c.loop-hit-test.true, sym c.hit-item.is) in
    ap (λ o. match_from o c.args.position.now c.args.friend c.hit-item.result)
    (slice_get_read c.args.patterns.now (length c.args.patterns.now) c.hit-item.result.pattern
    c.index-patterns-hit.result refl there c.index-patterns-hit.is)
    ∙ sym c.match_of.ensures.value

-- one match more was found, if the hit makes one
found_more : (c : Joined-match_of) → map match_with c.match-match_of.ranks.items
    ≡ filter_map (made c.args.patterns.now c.args.position.now c.args.friend)
    (take (c.loop-hit.hit-index + 1) c.args.hits.now)
found_more c =
    let make = made c.args.patterns.now c.args.position.now c.args.friend in
    elim c.match-match_of.branch [
      | in-Some+in_ok-push w ↦
          among_more make c.args.hits.now c.loop-hit.hit-index c.hit-item.result c.loop-hit.ranks.items
          c.match-match_of.ranks.items w.in-Some.z w.rank_of.result c.loop-hit-test.true c.hit-item.is
          (made_is c ∙ w.in-Some.is) w.rank_of.ensures.back c.loop-hit.invariant.found
          (ap (λ v. v.items) w.ranks-is ∙ w.in_ok-push.ensures.items)
      | in_default w ↦
          ap (map match_with) (ap (λ v. v.items) w.ranks-is)
          ∙ among_same make c.args.hits.now c.loop-hit.hit-index c.hit-item.result c.loop-hit.ranks.items
          c.loop-hit-test.true c.hit-item.is (made_is c ∙ w.in_default.is) c.loop-hit.invariant.found
    ]

-- and each number is the rank of its match still
ranks_more : (c : Joined-match_of) → All (λ n. rank_of (match_with n) ≡ n) c.match-match_of.ranks.items
ranks_more c =
    let IsRank : ℕ → Type 0 = λ n. rank_of (match_with n) ≡ n in
    elim c.match-match_of.branch [
      | in-Some+in_ok-push w ↦ subst (All IsRank) (sym (ap (λ v. v.items) w.ranks-is ∙ w.in_ok-push.ensures.items))
          (All-push IsRank c.loop-hit.ranks.items w.rank_of.result c.loop-hit.invariant.ranks
          (ap rank_of w.rank_of.ensures.back ∙ sym w.rank_of.ensures.value))
      | in_default w ↦ subst (All IsRank) (sym (ap (λ v. v.items) w.ranks-is)) c.loop-hit.invariant.ranks
    ]

-- one hit more, and the rank of its match, if it is one
pub loop-hit-preserved : goal.loop-hit-preserved
loop-hit-preserved c = grind (arith, found_more, ranks_more)
