-- Walks on a position: each stands where the letters that are seen from its anchor lead.
use Rattle.std.proofs.Common.{◌≡◌, ℕ, ◌+◌, ◌-◌, ◌*◌, ◌<◌, ◌≤◌, Bool}
use Rattle.std.proofs.Common.{List, [], length, get_or, map, filter, Contains, refl, sym, ap, ◌∙◌, subst}
use Rattle.std.proofs.Common.{arith, pos as plus}
use Rattle.std.specs.List.{range_with_len}
use Rattle.std.proofs.lemmas.List.Kept.{AllPairs-filter}
use Rattle.go_rules.specs.declared.Colour.{Colour}
use Rattle.go_rules.specs.Position.{BoardState}
use Rattle.go_rules.specs.Transform.{IsNear, transformed, transformations}
use Rattle.go_rules.proofs.Transforms.{keeps_near}
use Rattle.spiral.specs.Spiral.{offset_at, offset_count}
use Rattle.spiral.proofs.Indexes.{offsets_near}
use Rattle.match_rules.proofs.Lists.{Contains-map, Contains-filter, Contains-below, AllPairs-map}
use Rattle.std.proofs.lemmas.List.FromFn.{get_or-range_with_len, length-range_with_len}
use Rattle.go_rules.specs.Board.{largest_size}
use Rattle.dfa_match.proofs.Cursors.{anchor_of_corner}
use Rattle.dfa_core.specs.declared.automaton.Seen.{Seen}
use Rattle.dfa_core.specs.declared.automaton.Seen.TheVariants.{Off}
use Rattle.dfa_core.specs.Automata.{Row, row_at, step_at, reach, reach_from, accepted}
use Rattle.dfa_core.specs.Entries.{row_of}
use Rattle.dfa_core.specs.RowKinds.{kind_at}
use Rattle.dfa_core.specs.Words.{letter_number}
use Rattle.dfa_core.proofs.Entries.{row_of-entry}
use Rattle.dfa_shortcuts.specs.Shortcuts.{AreShortcuts}
use Rattle.dfa_shortcuts.specs.Openings.{opening_letters, AreOpenings}
use Rattle.dfa_match.specs.declared.walks.Walk.{Walk}
use Rattle.dfa_match.specs.SeenLetters.{seen_at, word_from, word_at, IsPaddedBoard}
use Rattle.dfa_match.specs.Steps.{corner_at, anchor_at_corner, no_step, AreSteps}
use Rattle.dfa_match.specs.Walks.{anchor_of, first_walks_of, after_anchor}
use Rattle.dfa_match.specs.Walks.{after_opening, after_letters, row_after, IsWalk, AreWalks}
use Rattle.dfa_match.proofs.PaddedBoard.{letter_seen}
use Rattle.dfa_match.proofs.StepLists.{offset_at-zero, still}
use Rattle.dfa_match.proofs.SeenWords.{word_length, word_from-zero, word_from-same}
use Rattle.dfa_match.proofs.WalkRows.{opening_cases}
use Rattle.dfa_match.proofs.WordRows.{accepted-at, word_on, row_next, row_on}
use Rattle.dfa_match.proofs.StandingWalks.{first_walk}

-- before the first letter no letter was read
pub first_letters : (automaton : List Row) (s : ℕ) (w : Walk) → Contains (first_walks_of automaton s) w
    → w.letters ≡ 0
first_letters automaton s w there =
    sym (ap (λ (v : Walk). v.letters) (Contains-map (first_walk automaton s) (range_with_len 0 (s * s)) w there).2)

module _ (automaton : List Row) (pos : BoardState) (friend : Colour) (t : ℕ) where
  -- walks that are changed, but for their anchors, are such walks if each of them is
  pub walks_changed : (f : Walk → Walk) (walks : List Walk) → AreWalks automaton pos friend t walks
      → ((w : Walk) → (f w).corner ≡ w.corner)
      → ((w : Walk) → Contains walks w → IsWalk automaton pos friend t (f w))
      → AreWalks automaton pos friend t (map f walks)
  walks_changed f walks are keeps is = record {
    each = λ w there. let from = Contains-map f walks w there in
        subst (IsWalk automaton pos friend t) from.2 (is from.0 from.1);
    rising = AllPairs-map (λ v w. anchor_of pos.size v < anchor_of pos.size w) f walks
        (λ i j d less low. let before = are.rising i j d less low in
        omega (
          arith,
          before,
          ap (anchor_at_corner pos.size) (keeps (get_or walks i d)),
          ap (anchor_at_corner pos.size) (keeps (get_or walks j d)),
        ));
  }

  -- the walks that pass a test are such walks
  pub walks_kept : (test : Walk → Bool) (walks : List Walk) → AreWalks automaton pos friend t walks
      → AreWalks automaton pos friend t (filter test walks)
  walks_kept test walks are = record {
    each = λ w there. are.each w (Contains-filter test walks w there).0;
    rising = AllPairs-filter (λ v w. anchor_of pos.size v < anchor_of pos.size w) test walks are.rising;
  }

  -- before the first letter there is a walk from each point, at the start
  pub walks_first : pos.size ≤ largest_size → AreWalks automaton pos friend t (first_walks_of automaton pos.size)
  walks_first small = record {
    each = λ w there.
        let from = Contains-map (first_walk automaton pos.size) (range_with_len 0 (pos.size * pos.size)) w there in
        let on = Contains-below (pos.size * pos.size) from.0 from.1 in
        let anchor = anchor_of_corner pos.size from.0 small on in
        subst (IsWalk automaton pos friend t) from.2 (record {
          anchor = omega (arith, anchor, on);
          corner = ap (corner_at pos.size) (sym anchor);
          row = λ few. row_of-entry (kind_at automaton 0) 0
              ∙ sym (ap (reach automaton)
              (word_from-zero (seen_at pos friend t (anchor_of pos.size (first_walk automaton pos.size from.0))) 0));
        });
    rising = AllPairs-map (λ v w. anchor_of pos.size v < anchor_of pos.size w) (first_walk automaton pos.size)
        (range_with_len 0 (pos.size * pos.size))
        (λ i j d less low. omega (arith, less, first_anchor i d (omega (arith, less, low)), first_anchor j d low));
  }
    where
      first_anchor : (k d : ℕ) → k < length (range_with_len 0 (pos.size * pos.size))
          → anchor_of pos.size (first_walk automaton pos.size (get_or (range_with_len 0 (pos.size * pos.size)) k d)) ≡ k
      first_anchor k d low =
          let on : k < pos.size * pos.size = omega (arith, low, length-range_with_len 0 (pos.size * pos.size)) in
          let is : get_or (range_with_len 0 (pos.size * pos.size)) k d ≡ k =
          omega (arith, get_or-range_with_len 0 (pos.size * pos.size) k d on) in
          ap (λ m. anchor_of pos.size (first_walk automaton pos.size m)) is ∙ anchor_of_corner pos.size k small on

  module _ (size : ℕ) (letters : List Seen) (padded : IsPaddedBoard pos friend size letters) where
    -- the letter of its anchor is what is seen there
    anchor_seen : (w : Walk) → IsWalk automaton pos friend t w
        → get_or letters (w.corner + no_step) Off ≡ seen_at pos friend t (anchor_of pos.size w) 0
    anchor_seen w is = ap (λ k. get_or letters (k + no_step) Off) is.corner
        ∙ letter_seen pos friend size letters t (anchor_of pos.size w) 0 no_step (plus 0, plus 0) padded is.anchor
        (subst IsNear offset_at-zero (offsets_near 0 (omega arith)))
        (sym (ap (transformed t) offset_at-zero ∙ still t)) refl

    -- a walk that has read the letter of its anchor
    walk_begun : (w : Walk) → IsWalk automaton pos friend t w → w.letters ≡ 0
        → IsWalk automaton pos friend t (after_anchor automaton letters w)
    walk_begun w is none = grind (arith, row_of-entry, anchor_seen, row_next)

    -- before the first letter there is a walk from each point of the board
    pub small_walks : AreWalks automaton pos friend t (first_walks_of automaton pos.size)
    small_walks = walks_first (subst (λ s. s ≤ largest_size) padded.same_size padded.few)

    -- each walk has read the anchor's own letter
    pub walks_begun : AreWalks automaton pos friend t
        (map (after_anchor automaton letters) (first_walks_of automaton pos.size))
    walks_begun = walks_changed (after_anchor automaton letters) (first_walks_of automaton pos.size) small_walks
        (λ w. refl)
        (λ w there. walk_begun w (small_walks.each w there) (first_letters automaton pos.size w there))

    module _ (low : t < transformations) (steps : List ℕ) (are_steps : AreSteps t steps) where
      -- what is read behind a corner by a step is what is seen along the spiral
      step_seen : (m i : ℕ) → m < pos.size * pos.size → i < offset_count
          → get_or letters (corner_at pos.size m + get_or steps i 0) Off ≡ seen_at pos friend t m i
      step_seen m i on few = letter_seen pos friend size letters t m i (get_or steps i 0) (transformed t (offset_at i))
          padded on (keeps_near t low (offset_at i) (offsets_near i few)) refl (are_steps.each i few)

      -- a walk behind its opening
      pub walk_opened : (openings : List ℕ) (w : Walk) → AreOpenings automaton openings
          → IsWalk automaton pos friend t w → IsWalk automaton pos friend t (after_opening openings steps letters w)
      walk_opened openings w are is = grind (arith, opening_cases, word_length, row_of-entry, word_from-same, step_seen)

      -- behind the first letter of an opening nothing is accepted
      pub opening_silent : (openings : List ℕ) (w : Walk) (n : ℕ) → AreOpenings automaton openings
          → IsWalk automaton pos friend t w → w.letters ≡ 1 → 1 < n
          → n ≤ (after_opening openings steps letters w).letters
          → accepted automaton (word_at pos friend t (anchor_of pos.size w) n) ≡ []
      opening_silent openings w n are is one more few =
          grind (
            arith,
            word_length,
            word_from-same,
            step_seen,
            word_on automaton pos friend t (anchor_of pos.size w) n opening_letters,
          )

      module _ (entries passed : List ℕ) (are : AreShortcuts automaton entries passed) (w : Walk)
          (is : IsWalk automaton pos friend t w) (on : row_of w.entry < length automaton) where
        -- the letter that the walk reads
        abbrev letter_of : Seen
        letter_of = get_or letters (w.corner + get_or steps w.letters 0) Off

        -- how many letters are passed over behind it
        abbrev passed_of : ℕ
        passed_of = get_or passed (4 * row_of w.entry + letter_number letter_of) 0

        -- the row behind the letter and further ones, where the letter is one of the spiral's
        row_passed : (j : ℕ) → w.letters < offset_count
            → reach_from automaton (step_at automaton (row_of w.entry) letter_of)
            (word_from (seen_at pos friend t (anchor_of pos.size w)) (w.letters + 1) j)
            ≡ row_after automaton pos friend t (w.letters + 1 + j) (anchor_of pos.size w)
        row_passed j left = grind (arith, step_seen, row_on)

        -- a walk behind a letter and those that are passed over; of one that had read the whole spiral nothing is said
        pub walk_passed : IsWalk automaton pos friend t (after_letters entries passed steps letters w)
        walk_passed = grind (arith, word_length, row_of-entry, row_passed passed_of)

        -- nothing is accepted between, as far as the spiral goes
        pub letters_silent : (n : ℕ) → n ≤ offset_count → w.letters < n
            → n < (after_letters entries passed steps letters w).letters
            → accepted automaton (word_at pos friend t (anchor_of pos.size w) n) ≡ []
        letters_silent n few more less =
            let seen : ℕ → Seen = seen_at pos friend t (anchor_of pos.size w) in
            let j : ℕ = n - (w.letters + 1) in
            let whole : n ≡ w.letters + 1 + j = omega (arith, more) in
            accepted-at automaton (word_at pos friend t (anchor_of pos.size w) n)
            ∙ ap (λ k. (row_at automaton (row_after automaton pos friend t k (anchor_of pos.size w))).numbers) whole
            ∙ ap (λ r. (row_at automaton r).numbers) (sym (row_passed j (omega (arith, few, more))))
            ∙ (are.each (row_of w.entry) letter_of on).silent (word_from seen (w.letters + 1) j)
            (omega (arith, more, less, word_length seen (w.letters + 1) j))
