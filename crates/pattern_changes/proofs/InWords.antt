-- The changes over a game are exactly those that the words say.
use Rattle.std.proofs.Common.{inl, inr, ◌≡◌, ℕ, ◌+◌, ◌-◌, Bool, true, false, not, ◌||◌, List, [], ◌∷◌, map}
use Rattle.std.proofs.Common.{slice_get, Contains, refl, sym, ap, ◌∙◌, subst, arith}
use Rattle.std.specs.List.{list_any, enumerate_from}
use Rattle.std.proofs.lemmas.Bool.{false≢true}
use Rattle.std.proofs.lemmas.List.Elements.{Contains-append_left, Contains-append_right, Contains-append_cases}
use Rattle.go_rules.specs.declared.Colour.{Colour}
use Rattle.go_rules.specs.Position.{BoardState}
use Rattle.pat_types.specs.declared.pattern.Pattern.{Pattern}
use Rattle.cons_eval.specs.Readings.{Codes}
use Rattle.match_rules.specs.declared.found.Match.{Match}
use Rattle.match_rules.specs.Conditions.{Advice}
use Rattle.match_rules.specs.Match.{matches_of}
use Rattle.match_rules.proofs.Lists.{Contains-cons_cases, Contains-first, Contains-rest, Contains-nil, Contains-map}
use Rattle.match_rules.proofs.Lists.{Contains-map_from, Contains-flat_map, Contains-flat_map_from, Contains-filter}
use Rattle.match_rules.proofs.Lists.{Contains-filter_from, Contains-enumerate, Contains-enumerate_from}
use Rattle.match_rules.proofs.MatchLists.{are_matches}
use Rattle.pattern_changes.specs.declared.change.Change.{Change}
use Rattle.pattern_changes.specs.declared.change.Way.{Way}
use Rattle.pattern_changes.specs.declared.change.Way.TheVariants.{Went, Came}
use Rattle.pattern_changes.specs.Changes.{is_same_match, lacking, lost, change_of, changes_for, changes_at}
use Rattle.pattern_changes.specs.Changes.{changes_over}
use Rattle.pattern_changes.specs.Changes.{IsLost, IsChanged, IsChange}
use Rattle.pattern_changes.proofs.SameMatches.{same-true, same-from}

module _ {X : Type 0} (test : X → Bool) where
  -- an element that passes is found
  any-has : (xs : List X) (x : X) → Contains xs x → test x ≡ true → list_any test xs ≡ true
  any-has [] x there passes = absurd (Contains-nil x there)
  any-has (y ∷ xs) x there passes = elim (Contains-cons_cases y xs x there) [
    | inl first ↦ first_passes (test y) (ap test first ∙ passes)
    | inr later ↦ later_passes (test y) (any-has xs x later passes)
  ]
    where
      first_passes : (b : Bool) → b ≡ true → (b || list_any test xs) ≡ true
      first_passes true e = refl
      first_passes false e = absurd (false≢true e)

      later_passes : (b : Bool) → list_any test xs ≡ true → (b || list_any test xs) ≡ true
      later_passes true e = refl
      later_passes false e = e

  -- nothing is found if no element passes
  any-none : (xs : List X) → ((x : X) → Contains xs x → test x ≡ true → ⊥) → list_any test xs ≡ false
  any-none [] none = refl
  any-none (y ∷ xs) none =
      by (test y) refl (any-none xs (λ x there. none x (Contains-rest y xs x there)))
    where
      by : (b : Bool) → test y ≡ b → list_any test xs ≡ false → (b || list_any test xs) ≡ false
      by true passes rest = absurd (none y (Contains-first y xs y refl) passes)
      by false fails rest = rest

-- what is not so is false
not-false : (b : Bool) → not b ≡ true → b ≡ false
not-false true e = absurd (false≢true e)
not-false false e = refl

module _ (code : Codes) (advice : Advice) (patterns others : List Pattern) (board : BoardState) (friend : Colour) where
  -- what the others lack is a match that they do not have
  lost-has : (z : Match) → Contains (lost code advice patterns others board friend) z
      → IsLost code advice patterns others board friend z
  unfolding lacking
  lost-has z there =
      let found = matches_of code advice patterns board friend in
      let theirs = matches_of code advice others board friend in
      let kept = Contains-filter (λ x. not (list_any (is_same_match patterns others x) theirs)) found z there in
      let none = not-false (list_any (is_same_match patterns others z) theirs) kept.1 in
      record {
        found = (are_matches code advice patterns board friend).sound z kept.0;
        lost = λ y is same. false≢true (sym none
            ∙ any-has (is_same_match patterns others z) theirs y
            ((are_matches code advice others board friend).complete y is)
            (same-from patterns others z y same));
      }

  -- a match that the others do not have is lacked
  lost-from : (z : Match) → IsLost code advice patterns others board friend z
      → Contains (lost code advice patterns others board friend) z
  unfolding lacking
  lost-from z is =
      let found = matches_of code advice patterns board friend in
      let theirs = matches_of code advice others board friend in
      Contains-filter_from (λ x. not (list_any (is_same_match patterns others x) theirs)) found z
      ((are_matches code advice patterns board friend).complete z is.found)
      (ap not (any-none (is_same_match patterns others z) theirs
      (λ y there passes. is.lost y ((are_matches code advice others board friend).sound y there)
      (same-true patterns others z y passes))))

module _ (code : Codes) (advice : Advice) (old new : List Pattern) where
  -- what is among the changes for a friend went or came
  for-has : (moves : ℕ) (board : BoardState) (friend : Colour) (c : Change)
      → Contains (changes_for code advice old new moves board friend) c
      → (c.moves ≡ moves) × (c.friend ≡ friend) × IsChanged code advice old new board friend c.way c.found
  unfolding changes_for
  for-has moves board friend c there =
      let went = map (change_of moves friend Went) (lost code advice old new board friend) in
      let came = map (change_of moves friend Came) (lost code advice new old board friend) in
      elim (Contains-append_cases went came c there) [
        | inl first ↦
            let from = Contains-map (change_of moves friend Went) (lost code advice old new board friend) c first in
            subst (λ (x : Change). (x.moves ≡ moves) × (x.friend ≡ friend)
            × IsChanged code advice old new board friend x.way x.found) from.2
            (refl, refl, lost-has code advice old new board friend from.0 from.1)
        | inr later ↦
            let from = Contains-map (change_of moves friend Came) (lost code advice new old board friend) c later in
            subst (λ (x : Change). (x.moves ≡ moves) × (x.friend ≡ friend)
            × IsChanged code advice old new board friend x.way x.found) from.2
            (refl, refl, lost-has code advice new old board friend from.0 from.1)
      ]

  -- what went or came is among the changes for its friend
  for-from : (moves : ℕ) (board : BoardState) (friend : Colour) (way : Way) (z : Match)
      → IsChanged code advice old new board friend way z
      → Contains (changes_for code advice old new moves board friend) (change_of moves friend way z)
  unfolding changes_for
  for-from moves board friend Went z is =
      Contains-append_left (map (change_of moves friend Went) (lost code advice old new board friend))
      (map (change_of moves friend Came) (lost code advice new old board friend)) (change_of moves friend Went z)
      (Contains-map_from (change_of moves friend Went) (lost code advice old new board friend) z
      (lost-from code advice old new board friend z is))
  for-from moves board friend Came z is =
      Contains-append_right (map (change_of moves friend Went) (lost code advice old new board friend))
      (map (change_of moves friend Came) (lost code advice new old board friend)) (change_of moves friend Came z)
      (Contains-map_from (change_of moves friend Came) (lost code advice new old board friend) z
      (lost-from code advice new old board friend z is))

  module _ (friends : List Colour) (boards : List BoardState) (c : Change) where
    -- a change that is told is one
    pub over-has : Contains (changes_over code advice old new friends boards) c
        → IsChange code advice old new friends boards c
    unfolding changes_over changes_at
    over-has there =
        let at = Contains-flat_map (changes_at code advice old new friends) (enumerate_from 0 boards) c there in
        let place = Contains-enumerate 0 boards at.0 at.1 in
        let by = Contains-flat_map (λ friend. changes_for code advice old new at.0.0 at.0.1 friend) friends c at.2 in
        let is = for-has at.0.0 at.0.1 by.0 c by.2 in
        let number : at.0.0 - 0 ≡ at.0.0 = omega arith in
        record {
          board = at.0.1;
          moves = ap (slice_get boards) is.0 ∙ ap (slice_get boards) (sym number) ∙ place.1;
          friend = subst (Contains friends) (sym is.1) by.1;
          changed = subst (λ friend. IsChanged code advice old new at.0.1 friend c.way c.found) (sym is.1) is.2;
        }

    -- a change is told
    pub over-from : IsChange code advice old new friends boards c
        → Contains (changes_over code advice old new friends boards) c
    unfolding changes_over changes_at
    over-from is =
        let number : 0 + c.moves ≡ c.moves = omega arith in
        Contains-flat_map_from (changes_at code advice old new friends) (enumerate_from 0 boards) (c.moves, is.board) c
        (subst (λ n. Contains (enumerate_from 0 boards) (n, is.board)) number
        (Contains-enumerate_from 0 boards c.moves is.board is.moves))
        (Contains-flat_map_from (λ friend. changes_for code advice old new c.moves is.board friend) friends c.friend c
        is.friend (for-from c.moves is.board c.friend c.way c.found is.changed))
