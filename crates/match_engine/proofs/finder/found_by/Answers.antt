use Rattle.std.proofs.Common.{◌≡◌, ◌∙◌, ◌*◌, ◌<◌, ◌≤◌, ap, subst, Contains, map}
use Rattle.std.specs.Result.{IfOk}
use Rattle.std.specs.List.{filter_map}
use Rattle.std.proofs.lemmas.List.Sorted.{IsNonDecreasingBy-from_sort}
use Rattle.go_rules.specs.Board.{largest_points}
use Rattle.dfa_match.specs.Hits.{AreHits}
use Rattle.match_engine.specs.AutomatonMatches.{found_by}
use Rattle.match_engine.specs.Ranks.{match_with}
use Rattle.match_engine.proofs.ByAutomaton.{made, sorted_ranks}
use Rattle.match_engine.proofs.finder.found_by.Goals as goal

-- each number of a hit is accepted after some word
pub ranks_among-requires-clause-numbers : goal.ranks_among-requires-clause-numbers
ranks_among-requires-clause-numbers c = λ hit there.
    let is = c.in_ok-hits.ensures.hits.sound hit (subst (λ xs. Contains xs hit) c.as_slice.ensures.value there) in
    c.requires.numbers _ hit.pattern is.accepts

-- each hit has its anchor on the board
pub ranks_among-requires-clause-anchors : goal.ranks_among-requires-clause-anchors
ranks_among-requires-clause-anchors c = λ hit there.
    let is = c.in_ok-hits.ensures.hits.sound hit (subst (λ xs. Contains xs hit) c.as_slice.ensures.value there) in
    subst (λ b. hit.anchor < b.size * b.size) c.new-watch.ensures.shows is.anchor

-- the matches with the sorted ranks are what the automaton finds
pub returns : goal.returns
returns c =
    let found : map match_with c.sort_unstable.new.self.items ≡ found_by c.args.scanner.now c.args.patterns.now
    c.args.position.now c.args.friend =
    sorted_ranks c.args.scanner.now c.args.position.now c.args.friend c.args.patterns.now c.in_ok-hits.hits.items
    c.in_ok-ranks.ranks.items c.sort_unstable.new.self.items
    (subst (λ s. s * s ≤ largest_points) c.size.ensures.value
    (subst (λ n. n ≤ largest_points) c.points.ensures.value c.points.ensures.bound))
    (subst (λ b. AreHits c.args.scanner.now b c.args.friend c.in_ok-hits.hits.items) c.new-watch.ensures.shows
    c.in_ok-hits.ensures.hits)
    (c.in_ok-ranks.ensures.value ∙ ap (filter_map (made c.args.patterns.now c.args.position.now c.args.friend))
    c.as_slice.ensures.value)
    c.in_ok-ranks.ensures.ranks c.sort_unstable.ensures.permutation
    (IsNonDecreasingBy-from_sort (λ n. n) c.sort_unstable.new.self.items c.sort_unstable.ensures.sorted) in
    record {
      found = subst (λ zs. IfOk c.matches_with.result (λ v. v.items ≡ zs))
          (ap (map match_with) c.deref.ensures.value ∙ found) c.matches_with.ensures;
    }
