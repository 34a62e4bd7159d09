use Rattle.std.proofs.Common.{◌≡◌, ℕ, ◌<◌, List, length, get_or, ap, sym, ◌∙◌, arith}
use Rattle.std.proofs.lemmas.List.{get_or-map, length-set}
use Rattle.dfa_match.specs.declared.walks.Walk.{Walk}
use Rattle.dfa_match.specs.Walks.{after_opening, goes_on}
use Rattle.dfa_match.proofs.InPlace.{same_next, same_more, counted, GathersInFront-more, MapsInPlace-more}
use Rattle.dfa_match.proofs.walks.open_all.Goals.{In-walks}
use Rattle.dfa_match.proofs.walks.open_all.Goals as goal

-- what is read past the end of a list
abbrev none : Walk
none = record { entry = 0; letters = 0; corner = 0 }

-- the walk whose turn it is stands in the list
on : (c : In-walks) → c.walks.index < length c.args.walks.now
on c = omega (arith, c.walks-test.true, c.walks.auto.walks, c.walks.invariant.long)

-- the walk at the index was not changed before
is_walk : (c : In-walks) → get_or c.walks.walks c.walks.index none ≡ get_or c.args.walks.now c.walks.index none
is_walk c = grind (arith, same_next, on)

-- the walk at the index reads on the padded board
pub behind_opening-next-requires-clause-corner : goal.behind_opening-next-requires-clause-corner
behind_opening-next-requires-clause-corner c = grind (arith, is_walk, on)

-- its ring has its place
pub behind_opening-next-requires-clause-ring : goal.behind_opening-next-requires-clause-ring
behind_opening-next-requires-clause-ring c = grind (arith, get_or-map, on, is_walk)

-- one walk more is behind its opening
pub walks-preserved : goal.walks-preserved
walks-preserved c =
    let at = (goal.at.walks-preserved c).In-walks in
    let old : List Walk = c.args.walks.now in
    let low = on at in
    let inv = c.walks.invariant in
    let open_one : List ℕ → Walk → Walk =
    λ steps. after_opening c.args.shortcuts.now.openings.items steps c.args.padded.now.letters in
    let next : Walk = c.set.new.self in
    let passes : goes_on next ≡ c.goes_on.result = ap goes_on c.set.ensures ∙ sym c.goes_on.ensures in
    record {
      place = λ steps are.
          let is : next ≡ open_one steps (get_or old c.walks.index none) =
          c.set.ensures ∙ c.behind_opening-next.ensures steps are ∙ ap (open_one steps) (is_walk at) in
          let before = inv.place steps are in
          MapsInPlace-more none low is before (GathersInFront-more none low is c.goes_on.result before.gathered
          (omega (arith, low, inv.behind, inv.long)) passes);
      behind = counted c.goes_on.result c.walks.left c.walks.index inv.behind;
      long = length-set c.walks.walks c.walks.left next ∙ inv.long;
      rest = same_more old c.walks.walks c.walks.left c.walks.index next inv.rest inv.long low inv.behind;
    }
