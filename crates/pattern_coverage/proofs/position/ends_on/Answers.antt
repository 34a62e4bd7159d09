use Rattle.std.proofs.Common.{arith}
use Rattle.std.proofs.Common.{◌≡◌, ◌-◌, ◌<◌, ◌^◌, sym, ap, ◌∙◌, subst, length, map, min, Some, slice_get, Contains}
use Rattle.helpers.specs.HelperStates.{says_yes}
use Rattle.helpers.specs.Slots.{states_of}
use Rattle.dfa_core.specs.States.{IsAutomatonOf}
use Rattle.pattern_coverage.specs.Ends.{end_at}
use Rattle.pattern_coverage.proofs.Advice.{raised-says}
use Rattle.pattern_coverage.proofs.AllEnds.{later_ends, bare-there, if_ok, on_ok, of_bare}
use Rattle.pattern_coverage.proofs.position.ends_on.Goals as goal

-- the automaton accepts only numbers of bare patterns
pub matches-requires : goal.matches-requires
matches-requires g c = record {
  numbers = λ w n there. subst (λ l. n < length l) (sym c.as_slice.ensures.value)
      (c.requires.diagrams.numbers w n there);
}

-- what is found is of the patterns, at points of the board
pub ends_of-requires : goal.ends_of-requires
ends_of-requires g c z there =
    let advice = says_yes (states_of (λ z. (goal.Helper-dyn g z).state z.1) c.args.helpers.now) in
    let bare = c.args.diagrams.now.bare.items in
    let theirs = subst (λ l. IsAutomatonOf l c.args.diagrams.now.scanner) (sym c.as_slice.ensures.value)
    c.requires.diagrams.automaton in
    bare-there _ advice c.args.patterns.now bare c.args.position.now c.args.friend z c.requires.diagrams.bare
    (subst (λ zs. Contains zs z) (c.as_slice-2.ensures.value
    ∙ of_bare _ advice c.args.position.now c.args.friend c.in_ok-found.found.items c.as_slice.result.now bare
    c.as_slice.ensures.value (c.in_ok-found.ensures.patterns theirs)) there)

-- there are counts for each pattern
pub ends_of_all-requires-clause-same : goal.ends_of_all-requires-clause-same
ends_of_all-requires-clause-same g c = grind arith

-- helpers that were asked about bare patterns and then about what was found say what they said
pub returns-clause-advice : goal.returns-clause-advice
returns-clause-advice g c =
    let slots = states_of (λ z. (goal.Helper-dyn g z).state z.1) c.args.helpers.now in
    on_ok c.ends_of_all.result
    (c.in_ok-ends.ensures.advice ∙ (ap says_yes c.in_ok-found.ensures.calls ∙ raised-says _ slots))

-- the ends of all patterns, from those of the tries whose diagrams fit with a legal move
pub returns-clause-ends : goal.returns-clause-ends
returns-clause-ends g c =
    let slots = states_of (λ z. (goal.Helper-dyn g z).state z.1) c.args.helpers.now in
    let advice = says_yes slots in
    let board = c.args.position.now in
    let patterns = c.args.patterns.now in
    let bare = c.args.diagrams.now.bare.items in
    let theirs = subst (λ l. IsAutomatonOf l c.args.diagrams.now.scanner) (sym c.as_slice.ensures.value)
    c.requires.diagrams.automaton in
    let found = c.as_slice-2.ensures.value
    ∙ of_bare _ advice board c.args.friend c.in_ok-found.found.items c.as_slice.result.now bare
    c.as_slice.ensures.value (c.in_ok-found.ensures.patterns theirs) in
    let said = ap says_yes c.in_ok-found.ensures.calls ∙ raised-says _ slots in
    let told = c.as_slice-3.ensures.value ∙ c.in_ok-ends.ensures.ends
    ∙ ap (λ says. map (end_at c.args.depths says patterns board c.args.friend) c.as_slice-2.result.now) said
    ∙ ap (map (end_at c.args.depths advice patterns board c.args.friend)) found in
    if_ok _ _ c.ends_of_all.result
    (λ counts all. all c.args.depths advice
    (λ place p one there here part high low.
    c.in_ok-later.ensures.tally place part one
    (subst (λ l. slice_get l place ≡ Some one) c.as_slice-4.ensures.value here)
    low
    ∙ ap (λ n. min n (2 ^ 64 - 1))
    (later_ends c.args.depths advice p board c.args.friend _ advice patterns bare place
    c.requires.diagrams.bare there c.as_slice-3.result.now told part high low)))
    c.ends_of_all.ensures
