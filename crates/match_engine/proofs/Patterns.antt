-- The matches by the automaton of the patterns are the matches.
use Rattle.std.proofs.Common.{◌≡◌, ℕ, ◌<◌, Bool, true, ◌&&◌, List, filter, Contains, slice_get, Some, is_some, sym, ap}
use Rattle.std.proofs.Common.{◌∙◌, subst, arith, ℤ, pos, ◌+ℤ◌, ◌-ℤ◌}
use Rattle.std.proofs.lemmas.Bool.{and_parts, and_from}
use Rattle.std.proofs.lemmas.Int.{ints}
use Rattle.std.proofs.lemmas.Option.{same_Some}
use Rattle.go_rules.specs.declared.Colour.{Colour}
use Rattle.go_rules.specs.Play.{is_legal}
use Rattle.go_rules.specs.Position.{BoardState}
use Rattle.go_rules.specs.Transform.{transformations}
use Rattle.spiral.specs.Spiral.{place_at}
use Rattle.pat_types.specs.declared.pattern.Pattern.{Pattern}
use Rattle.pat_types.specs.Cells.{anchor_of}
use Rattle.dfa_core.specs.Automata.{Row}
use Rattle.dfa_core.specs.States.{IsAutomatonOf}
use Rattle.dfa_match.specs.declared.Hit.{Hit}
use Rattle.dfa_match.specs.Fitting.{FitsAt, IsFit}
use Rattle.dfa_match.proofs.Bounds.{anchor_within}
use Rattle.dfa_match.proofs.FitHits.{fit_from_hit, hit_from_fit}
use Rattle.match_rules.specs.declared.found.Match.{Match}
use Rattle.match_rules.specs.Fits.{place_of_cell, fits}
use Rattle.cons_eval.specs.Readings.{Codes}
use Rattle.match_rules.specs.Conditions.{Advice, all_yes, is_allowed, do_helpers_agree, is_agreed}
use Rattle.match_rules.specs.Match.{is_match, matches_of}
use Rattle.match_engine.specs.AutomatonMatches.{has_hit, place_of_anchor, lies_on_board, is_found, found_by}
use Rattle.match_engine.specs.AutomatonMatches.{is_automaton_match, automaton_matches, is_allowed_at, is_agreed_at}
use Rattle.match_engine.specs.AutomatonMatches.{IsFoundThere}
use Rattle.helpers.specs.Fields.{helper_names}
use Rattle.match_engine.proofs.Corners.{on_all}
use Rattle.match_rules.proofs.InWords.{each_cell, all_cells, letter_from_cell}
use Rattle.match_engine.proofs.ByAutomaton.{count_within, hit_of_accept, accept_of_hit, has_hit-true}
use Rattle.match_engine.proofs.FilteredMatches.{matches_by-filter, all_agreed, and_yes, asked_last}
use Rattle.match_rules.proofs.Orders.{IsBy, by-has, by-from, by-in_order, same_matches}
use Rattle.match_engine.proofs.Places.{sum_of, placed_on, place_at-sum}

module _ (p : Pattern) (board : BoardState) (friend : Colour) (t m a : ℕ) (low : t < transformations)
    (anchor : place_of_anchor p board.size t m ≡ Some a) where
  -- a cell's place is the same from the anchor and from the star
  same_place : (r c : ℤ) → place_at board.size t a (r -ℤ pos (anchor_of p).0, c -ℤ pos (anchor_of p).1)
      ≡ place_of_cell p board.size t m r c
  same_place r c =
      let row : (pos (anchor_of p).0 -ℤ pos p.star.0) +ℤ (r -ℤ pos (anchor_of p).0) ≡ r -ℤ pos p.star.0 =
      omega (arith, ints) in
      let column : (pos (anchor_of p).1 -ℤ pos p.star.1) +ℤ (c -ℤ pos (anchor_of p).1) ≡ c -ℤ pos p.star.1 =
      omega (arith, ints) in
      let sum : sum_of (
        pos (anchor_of p).0 -ℤ pos p.star.0,
        pos (anchor_of p).1 -ℤ pos p.star.1,
      ) (r -ℤ pos (anchor_of p).0, c -ℤ pos (anchor_of p).1)
      ≡ (r -ℤ pos p.star.0, c -ℤ pos p.star.1) = λ i. (row i, column i) in
      place_at-sum board.size t m (
        pos (anchor_of p).0 -ℤ pos p.star.0,
        pos (anchor_of p).1 -ℤ pos p.star.1,
      ) (r -ℤ pos (anchor_of p).0, c -ℤ pos (anchor_of p).1) a low anchor
      ∙ ap (place_at board.size t m) sum

  -- a pattern that fits at its anchor fits at its star
  fits_at_star : FitsAt p board friend t a → fits p board friend t m ≡ true
  fits_at_star at = grind (arith, all_cells, same_place)

  -- a pattern that fits at its star fits at its anchor
  fits_at_anchor : fits p board friend t m ≡ true → FitsAt p board friend t a
  fits_at_anchor is = grind (arith, same_place, each_cell)

module _ (code : Codes) (advice : Advice) (patterns : List Pattern) (automaton : List Row) (board : BoardState)
    (friend : Colour) (accepts : IsAutomatonOf patterns automaton) where
  -- the test of a match, and that of a match by the automaton
  abbrev matched : ℕ → Pattern → ℕ → ℕ → Bool
  matched number p t m = is_match code advice p board friend t m

  -- the test of a match by the automaton
  abbrev by_automaton : ℕ → Pattern → ℕ → ℕ → Bool
  by_automaton = is_automaton_match code advice automaton board friend

  -- a match by the automaton is one of the patterns
  match_of_automaton : (z : Match) → IsBy by_automaton patterns board.size z → IsBy matched patterns board.size z
  match_of_automaton z by =
      let p : Pattern = by.pattern in
      let judged = and_parts (is_found automaton board friend z.pattern p z.transform z.at)
      (is_agreed code advice p board friend z.transform z.at) by.passes in
      let parts = and_parts (has_hit automaton board friend z.pattern z.transform
      (place_of_anchor p board.size z.transform z.at))
      (lies_on_board p board.size z.transform z.at && is_legal board friend z.at) judged.0 in
      let legal = (and_parts (lies_on_board p board.size z.transform z.at) (is_legal board friend z.at) parts.1).1 in
      let found = has_hit-true automaton board friend z.pattern z.transform
      (place_of_anchor p board.size z.transform z.at) parts.0 in
      let low : z.transform < transformations = omega (arith, by.transform, count_within p.mark) in
      let on = placed_on board.size z.transform z.at (
        pos (anchor_of p).0 -ℤ pos p.star.0,
        pos (anchor_of p).1 -ℤ pos p.star.1,
      ) found.0 found.1 in
      let hit : Hit = record { pattern = z.pattern; transform = z.transform; anchor = found.0 } in
      let fit = fit_from_hit patterns automaton board friend hit accepts
      (hit_of_accept automaton board friend z.pattern z.transform found.0 low on found.2) in
      let same : fit.pattern ≡ p = same_Some fit.pattern p (sym fit.number ∙ by.number) in
      record {
        pattern = p;
        number = by.number;
        transform = by.transform;
        at = by.at;
        passes = and_from (fits p board friend z.transform z.at)
            (is_legal board friend z.at && is_agreed code advice p board friend z.transform z.at)
            (fits_at_star p board friend z.transform z.at found.0 low found.1
            (subst (λ q. FitsAt q board friend z.transform found.0) same fit.fits))
            (and_from (is_legal board friend z.at) (is_agreed code advice p board friend z.transform z.at) legal
            judged.1);
      }

  -- a match of one of the patterns is one by the automaton
  automaton_of_match : (z : Match) → IsBy matched patterns board.size z → IsBy by_automaton patterns board.size z
  automaton_of_match z by =
      let p : Pattern = by.pattern in
      let parts = and_parts (fits p board friend z.transform z.at)
      (is_legal board friend z.at && is_agreed code advice p board friend z.transform z.at) by.passes in
      let judged = and_parts (is_legal board friend z.at)
      (is_agreed code advice p board friend z.transform z.at) parts.1 in
      let low : z.transform < transformations = omega (arith, by.transform, count_within p.mark) in
      let within = anchor_within p in
      let letter = letter_from_cell p board friend z.transform z.at (anchor_of p).0 (anchor_of p).1 within.0 within.1
      (each_cell p board friend z.transform z.at parts.0 (pos (anchor_of p).0) (pos (anchor_of p).1)) in
      let on = placed_on board.size z.transform z.at (
        pos (anchor_of p).0 -ℤ pos p.star.0,
        pos (anchor_of p).1 -ℤ pos p.star.1,
      ) letter.point letter.place in
      let hit : Hit = record { pattern = z.pattern; transform = z.transform; anchor = letter.point } in
      let fit : IsFit patterns board friend hit = record {
        transform = low;
        anchor = on;
        pattern = p;
        number = by.number;
        fits = fits_at_anchor p board friend z.transform z.at letter.point low letter.place parts.0;
      } in
      record {
        pattern = p;
        number = by.number;
        transform = by.transform;
        at = by.at;
        passes = and_from (is_found automaton board friend z.pattern p z.transform z.at)
            (is_agreed code advice p board friend z.transform z.at)
            (and_from (has_hit automaton board friend z.pattern z.transform
            (place_of_anchor p board.size z.transform z.at))
            (lies_on_board p board.size z.transform z.at && is_legal board friend z.at)
            (ap (has_hit automaton board friend z.pattern z.transform) letter.place
            ∙ accept_of_hit automaton board friend hit (hit_from_fit patterns automaton board friend hit accepts fit))
            (and_from (lies_on_board p board.size z.transform z.at) (is_legal board friend z.at)
            (on_all p board.size z.transform z.at (λ r c row column.
            ap is_some (letter_from_cell p board friend z.transform z.at r c row column
            (each_cell p board friend z.transform z.at parts.0 (pos r) (pos c))).place))
            judged.0))
            judged.1;
      }

  -- the automaton of the patterns finds their matches
  pub same_by_automaton : automaton_matches code advice automaton patterns board friend
      ≡ matches_of code advice patterns board friend
  unfolding automaton_matches matches_of
  same_by_automaton =
      same_matches (automaton_matches code advice automaton patterns board friend)
      (matches_of code advice patterns board friend)
      (by-in_order by_automaton patterns board.size) (by-in_order matched patterns board.size)
      (λ z there. by-from matched patterns board.size z
      (match_of_automaton z (by-has by_automaton patterns board.size z there)))
      (λ z there. by-from by_automaton patterns board.size z
      (automaton_of_match z (by-has matched patterns board.size z there)))

module _ (code : Codes) (patterns : List Pattern) (automaton : List Row) (board : BoardState) (friend : Colour) where
  -- whether classes and constraint allow what was found
  abbrev pub allows : Match → Bool
  allows z = is_allowed_at code board friend (slice_get patterns z.pattern) z

  -- what the automaton finds, where classes and constraint allow it, is what matches if every helper says yes
  pub filtered : filter allows (found_by automaton patterns board friend)
      ≡ automaton_matches code all_yes automaton patterns board friend
  unfolding found_by automaton_matches
  filtered =
      matches_by-filter patterns board.size (is_found automaton board friend)
      (is_automaton_match code all_yes automaton board friend) allows
      (λ z p number.
      ap (λ b. is_found automaton board friend z.pattern p z.transform z.at && b)
      (and_yes (is_allowed code p board friend z.transform z.at) (do_helpers_agree all_yes p board friend z.at)
      (all_agreed (helper_names p.items))
      ∙ sym (ap (λ o. is_allowed_at code board friend o z) number)))

  -- of the matches if every helper says yes, those to which their helpers say yes are the matches by the automaton
  pub agreed : (advice : Advice)
      → filter (λ z. is_agreed_at advice board friend (slice_get patterns z.pattern) z)
      (automaton_matches code all_yes automaton patterns board friend)
      ≡ automaton_matches code advice automaton patterns board friend
  unfolding automaton_matches
  agreed advice =
      matches_by-filter patterns board.size (is_automaton_match code all_yes automaton board friend)
      (is_automaton_match code advice automaton board friend)
      (λ z. is_agreed_at advice board friend (slice_get patterns z.pattern) z)
      (λ z p number.
      asked_last (is_found automaton board friend z.pattern p z.transform z.at)
      (is_allowed code p board friend z.transform z.at) (do_helpers_agree all_yes p board friend z.at)
      (do_helpers_agree advice p board friend z.at) (all_agreed (helper_names p.items))
      ∙ sym (ap (λ o. is_automaton_match code all_yes automaton board friend z.pattern p z.transform z.at
      && is_agreed_at advice board friend o z) number))

  -- what was found and is allowed is what matches if every helper says yes
  pub if_yes : (found now : List Match) → found ≡ found_by automaton patterns board friend → now ≡ filter allows found
      → now ≡ automaton_matches code all_yes automaton patterns board friend
  if_yes found now is kept = kept ∙ ap (filter allows) is ∙ filtered

  -- a list of those to which their helpers say yes has the matches by the automaton
  pub if_agreed : (advice : Advice) (now last : List Match)
      → now ≡ automaton_matches code all_yes automaton patterns board friend
      → last ≡ filter (λ z. is_agreed_at advice board friend (slice_get patterns z.pattern) z) now
      → last ≡ automaton_matches code advice automaton patterns board friend
  if_agreed advice now last is kept = grind (arith, agreed)

  -- what was found is of a pattern of the list, at a point of the board
  pub found-there : (z : Match) → Contains (found_by automaton patterns board friend) z → IsFoundThere patterns board z
  unfolding found_by
  found-there z there =
      let by = by-has (is_found automaton board friend) patterns board.size z there in
      record { pattern = by.pattern; number = by.number; on_board = by.at }
