-- The matches that the hits of an automaton are, and the matches by the automaton.
use Rattle.std.proofs.Common.{◌≡◌, ℕ, ◌+◌, ◌*◌, ◌<◌, ◌≤◌, Bool, true, false, ◌&&◌, cond, ltb, eqb, List, [], ◌∷◌, ◌++◌}
use Rattle.std.proofs.Common.{length, get_or, take, map, Contains, Option, Some, None, slice_get, refl, sym, ap, ◌∙◌}
use Rattle.std.proofs.Common.{subst}
use Rattle.std.proofs.Common.{arith, pos, ◌+ℤ◌, ◌-ℤ◌}
use Rattle.std.specs.List.{filter_map, list_any, All}
use Rattle.std.specs.List.Sorted.{IsPermutation}
use Rattle.std.specs.Option.{option_to_list}
use Rattle.std.proofs.lemmas.Bool.{and_parts, and_from, ltb-true, lt-ltb, eqb-true, eq-eqb, false≢true}
use Rattle.std.proofs.lemmas.Int.{ints}
use Rattle.std.proofs.lemmas.List.{take_more, append-nil, map-append}
use Rattle.std.proofs.lemmas.List.Elements.{filter_map-append}
use Rattle.std.proofs.lemmas.List.Folds.{Any-from_list_any, list_any-from_Any}
use Rattle.std.proofs.lemmas.List.Sorted.{Contains-permutation, IsPermutation-sym, IsPermutation-map}
use Rattle.std.proofs.lemmas.List.Sorted.{All-permutation}
use Rattle.std.proofs.lemmas.Option.{none-some, same_Some, cond_some}
use Rattle.go_rules.specs.declared.Colour.{Colour}
use Rattle.go_rules.specs.Position.{BoardState}
use Rattle.go_rules.specs.Transform.{transformations}
use Rattle.go_rules.proofs.Counts.{any_below_gives, any_below_from}
use Rattle.spiral.specs.Spiral.{place_at, offset_count}
use Rattle.pat_types.specs.declared.mark.Mark.{Mark}
use Rattle.pat_types.specs.declared.mark.Mark.TheVariants.{Eight, Bar, Dash, Slash, Backslash, Plus, Ex, Oh}
use Rattle.pat_types.specs.declared.pattern.Pattern.{Pattern}
use Rattle.pat_types.specs.Marks.{count_of}
use Rattle.pat_types.specs.Cells.{anchor_of}
use Rattle.dfa_core.specs.Automata.{Row, accepted, AreDistinct}
use Rattle.dfa_match.specs.declared.Hit.{Hit}
use Rattle.dfa_match.specs.SeenLetters.{word_at}
use Rattle.dfa_match.specs.Hits.{IsHit, AreHits}
use Rattle.match_rules.specs.declared.found.Match.{Match}
use Rattle.go_rules.specs.Play.{is_legal}
use Rattle.match_engine.specs.AutomatonMatches.{lies_on_board, accepts_from, has_hit, place_of_anchor, is_found}
use Rattle.match_engine.specs.AutomatonMatches.{found_by}
use Rattle.match_engine.specs.Found.{place_of_star, star_if_whole, match_if_legal, match_from}
use Rattle.match_rules.proofs.Lists.{Contains-filter_map, Contains-filter_map_from}
use Rattle.match_rules.proofs.Orders.{IsBy, by-has, by-from, by-in_order, same_matches}
use Rattle.match_engine.proofs.Places.{sum_of, placed_on, place_at-sum, place_at-none}
use Rattle.go_rules.specs.Board.{largest_points}
use Rattle.match_engine.specs.Ranks.{rank_of, match_with}
use Rattle.std.specs.List.Sorted.{IsNonDecreasing, IsNonDecreasingBy}
use Rattle.match_engine.proofs.SortedMatches.{IsSmall, sorted-in_order, rising_by_rank, AreDistinct-filter_map}
use Rattle.dfa_match.proofs.DistinctOrders.{AreDistinct-permutation}

-- what one hit more gives, if it gives something
filtered_more : (f : Hit → Option Match) (hits : List Hit) (i : ℕ) (hit : Hit) → i < length hits
    → hit ≡ get_or hits i hit
    → filter_map f (take (i + 1) hits) ≡ filter_map f (take i hits) ++ option_to_list (f hit)
filtered_more f hits i hit low read =
    ap (filter_map f) (take_more hits i hit low ∙ ap (λ h. take i hits ++ h ∷ []) (sym read))
    ∙ filter_map-append f (take i hits) (hit ∷ [])
    ∙ ap (λ zs. filter_map f (take i hits) ++ zs) (sym (alone (f hit)))
  where
    alone : (o : Option Match) → option_to_list o ≡ filter_map (λ (x : Option Match). x) (o ∷ [])
    alone None = refl
    alone (Some z) = refl

-- one hit more that is a match, and the rank of the match
pub among_more : (f : Hit → Option Match) (hits : List Hit) (i : ℕ) (hit : Hit) (ranks more : List ℕ) (z : Match)
    (rank : ℕ) → i < length hits → hit ≡ get_or hits i hit → f hit ≡ Some z → match_with rank ≡ z
    → map match_with ranks ≡ filter_map f (take i hits) → more ≡ ranks ++ rank ∷ []
    → map match_with more ≡ filter_map f (take (i + 1) hits)
among_more f hits i hit ranks more z rank low read is back was now =
    ap (map match_with) now ∙ map-append match_with ranks (rank ∷ [])
    ∙ ap (λ y. map match_with ranks ++ y ∷ []) back ∙ ap (λ zs. zs ++ z ∷ []) was
    ∙ sym (filtered_more f hits i hit low read
    ∙ ap (λ o. filter_map f (take i hits) ++ option_to_list o) is)

-- one hit more that is no match
pub among_same : (f : Hit → Option Match) (hits : List Hit) (i : ℕ) (hit : Hit) (ranks : List ℕ)
    → i < length hits → hit ≡ get_or hits i hit → f hit ≡ None
    → map match_with ranks ≡ filter_map f (take i hits) → map match_with ranks ≡ filter_map f (take (i + 1) hits)
among_same f hits i hit ranks low read is was =
    was ∙ sym (append-nil (filter_map f (take i hits)))
    ∙ sym (filtered_more f hits i hit low read
    ∙ ap (λ o. filter_map f (take i hits) ++ option_to_list o) is)

-- no mark tries more than the eight transformations
pub count_within : (mark : Mark) → count_of mark ≤ transformations
count_within Eight = omega arith
count_within Bar = omega arith
count_within Dash = omega arith
count_within Slash = omega arith
count_within Backslash = omega arith
count_within Plus = omega arith
count_within Ex = omega arith
count_within Oh = omega arith

-- a hit of the pattern with the number is the match z
pub record IsMade (patterns : List Pattern) (board : BoardState) (friend : Colour) (hit : Hit)
    (z : Match) : Type 0 where
  pub pattern : Pattern
  pub number : slice_get patterns hit.pattern ≡ Some pattern
  pub transform : hit.transform < count_of pattern.mark
  pub star : place_of_star pattern board.size hit.transform hit.anchor ≡ Some z.at
  pub whole : lies_on_board pattern board.size hit.transform z.at ≡ true
  pub legal : is_legal board friend z.at ≡ true
  pub same_pattern : hit.pattern ≡ z.pattern
  pub same_transform : hit.transform ≡ z.transform

module _ (patterns : List Pattern) (board : BoardState) (friend : Colour) where
  -- the match that a hit is, where it is one
  abbrev pub made : Hit → Option Match
  made hit = match_from (slice_get patterns hit.pattern) board friend hit

  -- what the match of a hit says of it
  pub made-Some : (hit : Hit) (z : Match) → made hit ≡ Some z → IsMade patterns board friend hit z
  made-Some hit z e = by_pattern (slice_get patterns hit.pattern) refl e
    where
      by_whole : (p : Pattern) (m : ℕ) (b : Bool) → slice_get patterns hit.pattern ≡ Some p
          → hit.transform < count_of p.mark → place_of_star p board.size hit.transform hit.anchor ≡ Some m
          → lies_on_board p board.size hit.transform m ≡ b
          → match_if_legal board friend hit.pattern hit.transform (cond b (Some m) None) ≡ Some z
          → IsMade patterns board friend hit z
      by_whole p m false number low at whole found = absurd (none-some z found)
      by_whole p m true number low at whole found =
          let parts = cond_some (is_legal board friend m)
          (record { pattern = hit.pattern; transform = hit.transform; at = m }) z found in
          let same : m ≡ z.at = ap (λ (y : Match). y.at) parts.1 in
          record {
            pattern = p;
            number = number;
            transform = low;
            star = at ∙ ap Some same;
            whole = subst (λ n. lies_on_board p board.size hit.transform n ≡ true) same whole;
            legal = subst (λ n. is_legal board friend n ≡ true) same parts.0;
            same_pattern = ap (λ (y : Match). y.pattern) parts.1;
            same_transform = ap (λ (y : Match). y.transform) parts.1;
          }

      by_star : (p : Pattern) (star : Option ℕ) → slice_get patterns hit.pattern ≡ Some p
          → hit.transform < count_of p.mark → place_of_star p board.size hit.transform hit.anchor ≡ star
          → match_if_legal board friend hit.pattern hit.transform (star_if_whole p board.size hit.transform star)
          ≡ Some z → IsMade patterns board friend hit z
      by_star p None number low at found = absurd (none-some z found)
      by_star p (Some m) number low at found =
          by_whole p m (lies_on_board p board.size hit.transform m) number low at refl found

      by_test : (p : Pattern) (b : Bool) → slice_get patterns hit.pattern ≡ Some p
          → ltb hit.transform (count_of p.mark) ≡ b
          → cond b (match_if_legal board friend hit.pattern hit.transform
          (star_if_whole p board.size hit.transform (place_of_star p board.size hit.transform hit.anchor))) None
          ≡ Some z → IsMade patterns board friend hit z
      by_test p true number low found =
          by_star p (place_of_star p board.size hit.transform hit.anchor) number
          (ltb-true hit.transform (count_of p.mark) low) refl found
      by_test p false number low found = absurd (none-some z found)

      by_pattern : (o : Option Pattern) → slice_get patterns hit.pattern ≡ o → match_from o board friend hit ≡ Some z
          → IsMade patterns board friend hit z
      by_pattern None number found = absurd (none-some z found)
      by_pattern (Some p) number found = by_test p (ltb hit.transform (count_of p.mark)) number refl found

  -- a match of which this can be said is that of the hit
  pub made-from : (hit : Hit) (z : Match) → IsMade patterns board friend hit z → made hit ≡ Some z
  made-from hit z is =
      ap (λ o. match_from o board friend hit) is.number
      ∙ ap (λ b. cond b (match_if_legal board friend hit.pattern hit.transform (star_if_whole is.pattern board.size
      hit.transform (place_of_star is.pattern board.size hit.transform hit.anchor))) None)
      (lt-ltb hit.transform (count_of is.pattern.mark) is.transform)
      ∙ ap (λ o. match_if_legal board friend hit.pattern hit.transform
      (star_if_whole is.pattern board.size hit.transform o)) is.star
      ∙ ap (λ b. match_if_legal board friend hit.pattern hit.transform (cond b (Some z.at) None)) is.whole
      ∙ ap (λ b. cond b (Some (record { pattern = hit.pattern; transform = hit.transform; at = z.at })) None) is.legal
      ∙ ap Some (λ i. record { pattern = is.same_pattern i; transform = is.same_transform i; at = z.at })

module _ (p : Pattern) (s t : ℕ) where
  -- an offset and the one back lead nowhere
  there_and_back : (x y : ℕ × ℕ)
      → sum_of (pos x.0 -ℤ pos y.0, pos x.1 -ℤ pos y.1) (pos y.0 -ℤ pos x.0, pos y.1 -ℤ pos x.1) ≡ (pos 0, pos 0)
  there_and_back x y =
      let row : (pos x.0 -ℤ pos y.0) +ℤ (pos y.0 -ℤ pos x.0) ≡ pos 0 = omega (arith, ints) in
      let column : (pos x.1 -ℤ pos y.1) +ℤ (pos y.1 -ℤ pos x.1) ≡ pos 0 = omega (arith, ints) in
      λ i. (row i, column i)

  -- from the anchor of a star the star is found
  pub star_of_anchor : (m a : ℕ) → t < transformations → m < s * s → place_of_anchor p s t m ≡ Some a
      → place_of_star p s t a ≡ Some m
  star_of_anchor m a low on at =
      place_at-sum s t m (
        pos (anchor_of p).0 -ℤ pos p.star.0,
        pos (anchor_of p).1 -ℤ pos p.star.1,
      ) (
        pos p.star.0 -ℤ pos (anchor_of p).0,
        pos p.star.1 -ℤ pos (anchor_of p).1,
      ) a low at
      ∙ ap (place_at s t m) (there_and_back (anchor_of p) p.star) ∙ place_at-none s t m low on

  -- from a star the anchor is found
  pub anchor_of_star : (a m : ℕ) → t < transformations → a < s * s → place_of_star p s t a ≡ Some m
      → place_of_anchor p s t m ≡ Some a
  anchor_of_star a m low on at =
      place_at-sum s t a (
        pos p.star.0 -ℤ pos (anchor_of p).0,
        pos p.star.1 -ℤ pos (anchor_of p).1,
      ) (
        pos (anchor_of p).0 -ℤ pos p.star.0,
        pos (anchor_of p).1 -ℤ pos p.star.1,
      ) m low at
      ∙ ap (place_at s t a) (there_and_back p.star (anchor_of p)) ∙ place_at-none s t a low on

module _ (automaton : List Row) (board : BoardState) (friend : Colour) where
  -- what the automaton accepts from an anchor is a hit
  pub hit_of_accept : (number t a : ℕ) → t < transformations → a < board.size * board.size
      → accepts_from automaton board friend number t a ≡ true
      → IsHit automaton board friend (record { pattern = number; transform = t; anchor = a })
  unfolding accepts_from
  hit_of_accept number t a low on accepts =
      let front = any_below_gives (offset_count + 1)
      (λ n. list_any (λ k. eqb k number) (accepted automaton (word_at board friend t a n))) accepts in
      let found = Any-from_list_any (λ k. eqb k number)
      (accepted automaton (word_at board friend t a front.0)) front.2 in
      record {
        transform = low;
        anchor = on;
        letters = front.0;
        spiral = omega (arith, front.1);
        accepts = subst (Contains (accepted automaton (word_at board friend t a front.0)))
            (eqb-true found.1 number found.4) (found.0, found.2, found.3);
      }

  -- a hit is accepted from its anchor
  pub accept_of_hit : (hit : Hit) → IsHit automaton board friend hit
      → accepts_from automaton board friend hit.pattern hit.transform hit.anchor ≡ true
  unfolding accepts_from
  accept_of_hit hit is =
      any_below_from (offset_count + 1) (λ n. list_any (λ k. eqb k hit.pattern)
      (accepted automaton (word_at board friend hit.transform hit.anchor n))) is.letters (omega (arith, is.spiral))
      (list_any-from_Any (λ k. eqb k hit.pattern)
      (accepted automaton (word_at board friend hit.transform hit.anchor is.letters)) (
        is.accepts.0,
        hit.pattern,
        is.accepts.1,
        is.accepts.2,
        eq-eqb hit.pattern hit.pattern refl,
      ))

  -- a hit at an anchor that is there
  pub has_hit-true : (number t : ℕ) (anchor : Option ℕ) → has_hit automaton board friend number t anchor ≡ true
      → (a : ℕ) × (anchor ≡ Some a) × (accepts_from automaton board friend number t a ≡ true)
  has_hit-true number t None e = absurd (false≢true e)
  has_hit-true number t (Some a) e = (a, refl, e)

  module _ (patterns : List Pattern) where
    -- the match of a hit is one by the automaton
    by_of_hit : (hit : Hit) (z : Match) → IsHit automaton board friend hit → IsMade patterns board friend hit z
        → IsBy (is_found automaton board friend) patterns board.size z
    by_of_hit hit z is made =
        let low : hit.transform < transformations = is.transform in
        let anchor = anchor_of_star made.pattern board.size hit.transform hit.anchor z.at low is.anchor made.star in
        let test : is_found automaton board friend hit.pattern made.pattern hit.transform z.at ≡ true =
        and_from (has_hit automaton board friend hit.pattern hit.transform
        (place_of_anchor made.pattern board.size hit.transform z.at))
        (lies_on_board made.pattern board.size hit.transform z.at && is_legal board friend z.at)
        (ap (has_hit automaton board friend hit.pattern hit.transform) anchor ∙ accept_of_hit hit is)
        (and_from (lies_on_board made.pattern board.size hit.transform z.at)
        (is_legal board friend z.at) made.whole made.legal) in
        record {
          pattern = made.pattern;
          number = ap (slice_get patterns) (sym made.same_pattern) ∙ made.number;
          transform = subst (λ t. t < count_of made.pattern.mark) made.same_transform made.transform;
          at = placed_on board.size hit.transform hit.anchor (
            pos made.pattern.star.0 -ℤ pos (anchor_of made.pattern).0,
            pos made.pattern.star.1 -ℤ pos (anchor_of made.pattern).1,
          ) z.at made.star;
          passes = subst (λ t. is_found automaton board friend z.pattern made.pattern t z.at ≡ true) made.same_transform
              (subst (λ n. is_found automaton board friend n made.pattern hit.transform z.at ≡ true) made.same_pattern
              test);
        }

    -- a match by the automaton is that of a hit
    hit_of_by : (z : Match) → IsBy (is_found automaton board friend) patterns board.size z
        → (hit : Hit) × IsHit automaton board friend hit × IsMade patterns board friend hit z
    hit_of_by z by =
        let p : Pattern = by.pattern in
        let parts = and_parts (has_hit automaton board friend z.pattern z.transform
        (place_of_anchor p board.size z.transform z.at))
        (lies_on_board p board.size z.transform z.at && is_legal board friend z.at) by.passes in
        let both = and_parts (lies_on_board p board.size z.transform z.at) (is_legal board friend z.at) parts.1 in
        let found = has_hit-true z.pattern z.transform (place_of_anchor p board.size z.transform z.at) parts.0 in
        let low : z.transform < transformations = omega (arith, by.transform, count_within p.mark) in
        let on = placed_on board.size z.transform z.at (
          pos (anchor_of p).0 -ℤ pos p.star.0,
          pos (anchor_of p).1 -ℤ pos p.star.1,
        ) found.0 found.1 in (
          record { pattern = z.pattern; transform = z.transform; anchor = found.0 },
          hit_of_accept z.pattern z.transform found.0 low on found.2,
          record {
            pattern = p;
            number = by.number;
            transform = by.transform;
            star = star_of_anchor p board.size z.transform z.at found.0 low by.at found.1;
            whole = both.0;
            legal = both.1;
            same_pattern = refl;
            same_transform = refl;
          },
        )

    -- two hits that are one match are one hit
    one_hit : (g h : Hit) (z : Match) → IsMade patterns board friend g z → IsMade patterns board friend h z
        → IsHit automaton board friend g → IsHit automaton board friend h → g ≡ h
    one_hit g h z made other is_g is_h =
        let patterns_same : g.pattern ≡ h.pattern = made.same_pattern ∙ sym other.same_pattern in
        let transforms_same : g.transform ≡ h.transform = made.same_transform ∙ sym other.same_transform in
        let one : made.pattern ≡ other.pattern =
        same_Some made.pattern other.pattern (sym made.number ∙ ap (slice_get patterns) patterns_same
        ∙ other.number) in
        let anchors : Some g.anchor ≡ Some h.anchor =
        sym (anchor_of_star made.pattern board.size g.transform g.anchor z.at is_g.transform is_g.anchor made.star)
        ∙ ap (λ t. place_of_anchor made.pattern board.size t z.at) transforms_same
        ∙ ap (λ p. place_of_anchor p board.size h.transform z.at) one
        ∙ anchor_of_star other.pattern board.size h.transform h.anchor z.at is_h.transform is_h.anchor other.star in
        let anchor : g.anchor ≡ h.anchor = same_Some g.anchor h.anchor anchors in
        λ i. record { pattern = patterns_same i; transform = transforms_same i; anchor = anchor i }

    -- the matches that the hits are differ
    made-distinct : (hits : List Hit) → AreHits automaton board friend hits
        → AreDistinct (filter_map (made patterns board friend) hits)
    made-distinct hits are =
        AreDistinct-filter_map (made patterns board friend) hits
        (λ g h z in_g in_h e f. one_hit g h z (made-Some patterns board friend g z e)
        (made-Some patterns board friend h z f) (are.sound g in_g) (are.sound h in_h)) are.once

    -- each match of a hit is one by the automaton
    found-by : (hits : List Hit) (found sorted : List Match) → AreHits automaton board friend hits
        → found ≡ filter_map (made patterns board friend) hits → IsPermutation found sorted
        → (z : Match) → Contains sorted z → IsBy (is_found automaton board friend) patterns board.size z
    found-by hits found sorted are from moved z there =
        let here : Contains (filter_map (made patterns board friend) hits) z =
        subst (λ zs. Contains zs z) from (Contains-permutation sorted found z
        (IsPermutation-sym found sorted moved) there) in
        let of = Contains-filter_map (made patterns board friend) hits z here in
        by_of_hit of.0 z (are.sound of.0 of.1) (made-Some patterns board friend of.0 z of.2)

    -- so it is small on a board that is
    small-by : board.size * board.size ≤ largest_points → (z : Match)
        → IsBy (is_found automaton board friend) patterns board.size z → IsSmall z
    small-by small z by = record {
      transform = omega (arith, by.transform, count_within by.pattern.mark);
      at = omega (arith, by.at, small);
    }

    -- the matches of the hits, sorted by rank, are what the automaton finds
    pub sorted_matches : (hits : List Hit) (found sorted : List Match) → board.size * board.size ≤ largest_points
        → AreHits automaton board friend hits → found ≡ filter_map (made patterns board friend) hits
        → IsPermutation found sorted → IsNonDecreasingBy rank_of sorted
        → sorted ≡ found_by automaton patterns board friend
    unfolding found_by
    sorted_matches hits found sorted small are from moved order =
        same_matches sorted (found_by automaton patterns board friend)
        (sorted-in_order sorted order
        (λ z there. small-by small z (found-by hits found sorted are from moved z there))
        (AreDistinct-permutation found sorted moved
        (subst AreDistinct (sym from) (made-distinct hits are))))
        (by-in_order (is_found automaton board friend) patterns board.size)
        (λ z there. by-from (is_found automaton board friend) patterns board.size z
        (found-by hits found sorted are from moved z there))
        (λ z there.
        let of = hit_of_by z (by-has (is_found automaton board friend) patterns board.size z there) in
        Contains-permutation found sorted z moved
        (subst (λ zs. Contains zs z) (sym from) (Contains-filter_map_from (made patterns board friend) hits of.0 z
        (are.complete of.0 of.1) (made-from patterns board friend of.0 z of.2))))

    -- the matches with the sorted ranks of the matches of the hits are what the automaton finds
    pub sorted_ranks : (hits : List Hit) (ranks sorted : List ℕ) → board.size * board.size ≤ largest_points
        → AreHits automaton board friend hits
        → map match_with ranks ≡ filter_map (made patterns board friend) hits
        → All (λ n. rank_of (match_with n) ≡ n) ranks → IsPermutation ranks sorted → IsNonDecreasing sorted
        → map match_with sorted ≡ found_by automaton patterns board friend
    sorted_ranks hits ranks sorted small are from true_ranks moved order =
        sorted_matches hits (map match_with ranks) (map match_with sorted) small are from
        (IsPermutation-map match_with ranks sorted moved)
        (rising_by_rank sorted (All-permutation (λ n. rank_of (match_with n) ≡ n) ranks sorted moved true_ranks) order)
