-- The ends of all tries of a pattern: those behind the move, those at it, and the rest at the diagram.
use Rattle.std.proofs.Common.{◌≡◌, ℕ, ◌+◌, ◌-◌, ◌*◌, ◌<◌, ◌≤◌, Bool, true, false, ◌&&◌, eqb}
use Rattle.std.proofs.Common.{List, []}
use Rattle.std.proofs.Common.{◌∷◌, length, map, count_by, Some, Option, slice_get, get_or, refl, sym, ap, ◌∙◌}
use Rattle.std.proofs.Common.{subst, arith, Contains, ◌++◌, take, min, ◌^◌, Result, Ok, Err, IfOk, OnOk}
use Rattle.std.specs.List.{range_with_len}
use Rattle.std.proofs.lemmas.Bool.{ne_eqb, eqb-true}
use Rattle.std.proofs.lemmas.List.{take_more, length_push}
use Rattle.std.proofs.lemmas.List.FromFn.{length-range_with_len, length-map-range_with_len}
use Rattle.std.proofs.lemmas.Option.{slice_get_within, slice_get-get_or}
use Rattle.pattern_coverage.specs.declared.counts.PartCounts.{PartCounts}
use Rattle.pattern_coverage.specs.Ends.{AreEnds, AreAllEnds}
use Rattle.go_rules.specs.declared.Colour.{Colour}
use Rattle.go_rules.specs.Position.{BoardState}
use Rattle.go_rules.specs.Play.{is_legal}
use Rattle.pat_types.specs.declared.pattern.Pattern.{Pattern}
use Rattle.pat_types.specs.Marks.{count_of}
use Rattle.read_rules.specs.declared.depths.Depths.{Depths}
use Rattle.cons_eval.specs.Readings.{Codes}
use Rattle.match_rules.specs.declared.found.Match.{Match}
use Rattle.match_rules.specs.Fits.{fits}
use Rattle.match_rules.specs.Conditions.{Advice}
use Rattle.match_rules.specs.Match.{is_match, matches_by, matches_of}
use Rattle.match_rules.proofs.Orders.{by-has}
use Rattle.match_reasons.specs.declared.reason.Reason.{Reason}
use Rattle.match_reasons.specs.Reasons.{first_reason}
use Rattle.match_engine.specs.AutomatonMatches.{IsFoundThere}
use Rattle.pattern_coverage.specs.declared.ends.End.{End}
use Rattle.pattern_coverage.specs.Bare.{AreBare}
use Rattle.pattern_coverage.specs.Ends.{part_of}
use Rattle.pattern_coverage.specs.Ends.{tries_among, tries_of, part_at, ends_at, part_of_match, end_at, AreLaterEnds}
use Rattle.pattern_coverage.proofs.ListCounts.{sum_fits, count-same, count-map, length-joined, seven_counts}
use Rattle.pattern_coverage.proofs.MatchCounts.{counted}
use Rattle.pattern_coverage.proofs.PairedLists.{paired-more}
use Rattle.pattern_coverage.proofs.BarePatterns.{bare_match}
use Rattle.pattern_coverage.proofs.Parts.{part-low, part-diagram, part-move}

-- what is left of a number when six others are taken from it, and the six together are the number
pub rest_is : (all diagram s1 s2 s3 s4 others c1 c2 c3 c4 c5 c6 : ℕ) → all < 2 ^ 64
    → s1 ≡ min (c1 + c2) (2 ^ 64 - 1) → s2 ≡ min (s1 + c3) (2 ^ 64 - 1) → s3 ≡ min (s2 + c4) (2 ^ 64 - 1)
    → s4 ≡ min (s3 + c5) (2 ^ 64 - 1) → others ≡ min (s4 + c6) (2 ^ 64 - 1) → diagram ≡ all - others
    → c1 + (c2 + (c3 + (c4 + (c5 + c6)))) ≤ all → diagram + (c1 + (c2 + (c3 + (c4 + (c5 + c6))))) ≡ all
rest_is all diagram s1 s2 s3 s4 others c1 c2 c3 c4 c5 c6 fits e1 e2 e3 e4 e5 left few =
    let t1 : s1 ≡ c1 + c2 = sum_fits c1 c2 s1 e1 (omega (arith, few, fits)) in
    let t2 : s2 ≡ s1 + c3 = sum_fits s1 c3 s2 e2 (omega (arith, few, fits, t1)) in
    let t3 : s3 ≡ s2 + c4 = sum_fits s2 c4 s3 e3 (omega (arith, few, fits, t1, t2)) in
    let t4 : s4 ≡ s3 + c5 = sum_fits s3 c5 s4 e4 (omega (arith, few, fits, t1, t2, t3)) in
    let t5 : others ≡ s4 + c6 = sum_fits s4 c6 others e5 (omega (arith, few, fits, t1, t2, t3, t4)) in
    omega (arith, few, left, t1, t2, t3, t4, t5)

-- a pattern has a try for each transformation of its mark and each point
pub try_count : (p : Pattern) (s : ℕ) → length (tries_of p s) ≡ count_of p.mark * (s * s)
try_count p s =
    length-joined (λ t. map (λ m. (t, m)) (range_with_len 0 (s * s))) (s * s) (range_with_len 0 (count_of p.mark))
    (λ t. length-map-range_with_len (λ m. (t, m)) 0 (s * s))
    ∙ ap (λ n. n * (s * s)) (length-range_with_len 0 (count_of p.mark))

module _ (d : Depths) (advice : Advice) (p : Pattern) (board : BoardState) (friend : Colour) where
  -- each try ends at one of the seven ends
  pub all_tries : ends_at d advice p board friend 0 + (ends_at d advice p board friend 1
      + (ends_at d advice p board friend 2 + (ends_at d advice p board friend 3 + (ends_at d advice p board friend 4
      + (ends_at d advice p board friend 5 + ends_at d advice p board friend 6)))))
      ≡ count_of p.mark * (board.size * board.size)
  unfolding ends_at
  all_tries =
      seven_counts (λ (try : ℕ × ℕ). part_at d advice p board friend try.0 try.1)
      (λ try. part-low d advice p board friend try.0 try.1) (tries_of p board.size)
      ∙ try_count p board.size

  -- a try that ends behind the move is one whose diagram fits with a legal move
  late_fits : (part t m : ℕ) → 2 ≤ part
      → ((fits p board friend t m && is_legal board friend m) && eqb (part_at d advice p board friend t m) part)
      ≡ eqb (part_at d advice p board friend t m) part
  late_fits part t m high = by (fits p board friend t m) (is_legal board friend m) refl refl
    where
      before : (n : ℕ) → n < 2 → eqb n part ≡ false
      before n low = ne_eqb n part (λ is. omega (arith, high, low, is))

      by : (f l : Bool) → fits p board friend t m ≡ f → is_legal board friend m ≡ l
          → ((fits p board friend t m && is_legal board friend m) && eqb (part_at d advice p board friend t m) part)
          ≡ eqb (part_at d advice p board friend t m) part
      by false l broken legal =
          ap (λ f. (f && is_legal board friend m) && eqb (part_at d advice p board friend t m) part) broken
          ∙ sym (before 0 (omega arith))
          ∙ ap (λ n. eqb n part) (sym (part-diagram d advice p board friend t m broken))
      by true false whole refused =
          ap (λ f. (f && is_legal board friend m) && eqb (part_at d advice p board friend t m) part) whole
          ∙ ap (λ l. (true && l) && eqb (part_at d advice p board friend t m) part) refused
          ∙ sym (before 1 (omega arith))
          ∙ ap (λ n. eqb n part) (sym (part-move d advice p board friend t m whole refused))
      by true true whole legal =
          ap (λ f. (f && is_legal board friend m) && eqb (part_at d advice p board friend t m) part) whole
          ∙ ap (λ l. (true && l) && eqb (part_at d advice p board friend t m) part) legal

  module _ (code : Codes) (other_advice : Advice) (patterns bare : List Pattern) (place : ℕ)
      (are : AreBare patterns bare) (there : slice_get patterns place ≡ Some p) where
    -- the end of a match of the pattern is that of its try
    end_counted : (part : ℕ) (z : Match)
        → (eqb z.pattern place && eqb (part_of_match d advice (slice_get patterns z.pattern) board friend z) part)
        ≡ (eqb z.pattern place && eqb (part_at d advice p board friend z.transform z.at) part)
    end_counted part z = by (eqb z.pattern place) refl
      where
        by : (b : Bool) → eqb z.pattern place ≡ b
            → (b && eqb (part_of_match d advice (slice_get patterns z.pattern) board friend z) part)
            ≡ (b && eqb (part_at d advice p board friend z.transform z.at) part)
        by false differ = refl
        by true same =
            ap (λ o. eqb (part_of_match d advice o board friend z) part)
            (ap (slice_get patterns) (eqb-true z.pattern place same) ∙ there)

    -- the ends of the matches of bare patterns are those of the tries that end behind the move
    pub later_ends : (ends : List End)
        → ends ≡ map (end_at d advice patterns board friend) (matches_of code other_advice bare board friend)
        → AreLaterEnds d advice p board friend place ends
    unfolding ends_at matches_of
    later_ends ends is part high low =
        let q : ℕ → ℕ → Bool = λ t m. eqb (part_at d advice p board friend t m) part in
        let found = are.each place p there in
        let test : ℕ → Pattern → ℕ → ℕ → Bool = λ number b t m. is_match code other_advice b board friend t m in
        ap (count_by (λ end. eqb end.pattern place && eqb end.part part)) is
        ∙ count-map (λ end. eqb end.pattern place && eqb end.part part) (end_at d advice patterns board friend)
        (matches_by test bare board.size)
        ∙ count-same
        (λ z. eqb z.pattern place && eqb (part_of_match d advice (slice_get patterns z.pattern) board friend z) part)
        (λ z. eqb z.pattern place && q z.transform z.at) (matches_by test bare board.size)
        (λ z in_it. end_counted part z)
        ∙ counted q place board.size test bare found.0 found.1
        ∙ ap (λ mark. count_by (λ (try : ℕ × ℕ). is_match code other_advice found.0 board friend try.0 try.1
        && q try.0 try.1) (tries_among (count_of mark) (range_with_len 0 (board.size * board.size)))) found.2.mark
        ∙ count-same
        (λ (try : ℕ × ℕ). is_match code other_advice found.0 board friend try.0 try.1 && q try.0 try.1)
        (λ (try : ℕ × ℕ). q try.0 try.1) (tries_of p board.size)
        (λ try in_it.
        ap (λ b. b && q try.0 try.1) (bare_match p found.0 found.2 board friend try.0 try.1 code other_advice)
        ∙ late_fits part try.0 try.1 high)

-- a match of bare patterns is of a pattern of the list, at a point of the board
pub bare-there : (code : Codes) (advice : Advice) (patterns bare : List Pattern) (board : BoardState) (friend : Colour)
    (z : Match) → AreBare patterns bare → Contains (matches_of code advice bare board friend) z
    → IsFoundThere patterns board z
unfolding matches_of
bare-there code advice patterns bare board friend z are there =
    let by = by-has (λ number b t m. is_match code advice b board friend t m) bare board.size z there in
    let low : z.pattern < length patterns =
    subst (λ n. z.pattern < n) are.same_length (slice_get_within bare z.pattern by.pattern by.number) in
    record {
      pattern = get_or patterns z.pattern by.pattern;
      number = slice_get-get_or patterns z.pattern by.pattern low;
      on_board = by.at;
    }

-- where a try ends, from its reason
pub end-is : (d : Depths) (advice : Advice) (patterns : List Pattern) (board : BoardState) (friend : Colour)
    (z : Match) (p : Pattern) (part : ℕ) (reason : Option Reason) → slice_get patterns z.pattern ≡ Some p
    → part ≡ part_of reason → reason ≡ first_reason d advice p board friend z.transform z.at
    → (let e : End = record { pattern = z.pattern; part = part } in e) ≡ end_at d advice patterns board friend z
unfolding part_at
end-is d advice patterns board friend z p part reason there is first =
    let same : part ≡ part_of_match d advice (slice_get patterns z.pattern) board friend z =
    is ∙ ap part_of first ∙ sym (ap (λ o. part_of_match d advice o board friend z) there) in
    λ i. record { pattern = z.pattern; part = same i }

module _ (d : Depths) (advice : Advice) (board : BoardState) (friend : Colour) where
  -- one pattern more
  ends-more : (p : Pattern) (c : PartCounts) (patterns : List Pattern) (counts : List PartCounts)
      → AreAllEnds d advice patterns board friend counts → AreEnds d advice p board friend c
      → AreAllEnds d advice (patterns ++ p ∷ []) board friend (counts ++ c ∷ [])
  ends-more p c patterns counts are is = record {
    same_length = omega (arith, are.same_length, length_push patterns p, length_push counts c);
    each = paired-more (λ q e. AreEnds d advice q board friend e) p c is patterns counts are.same_length are.each;
  }

  -- the next pattern of a list
  pub AreAllEnds-next : (patterns : List Pattern) (i : ℕ) (p : Pattern) (before after : List PartCounts)
      (c : PartCounts) → i < length patterns → p ≡ get_or patterns i p
      → AreAllEnds d advice (take i patterns) board friend before → AreEnds d advice p board friend c
      → after ≡ before ++ c ∷ [] → AreAllEnds d advice (take (i + 1) patterns) board friend after
  AreAllEnds-next patterns i p before after c low read are is now =
      subst (AreAllEnds d advice (take (i + 1) patterns) board friend) (sym now)
      (subst (λ all. AreAllEnds d advice all board friend (before ++ c ∷ []))
      (sym (take_more patterns i p low ∙ ap (λ q. take i patterns ++ q ∷ []) (sym read)))
      (ends-more p c (take i patterns) before are is))

-- what follows from a fact of a value follows of the value of a result
pub if_ok : {T E : Type 0} (P Q : T → Type 0) (r : Result T E) → ((v : T) → P v → Q v) → IfOk r P → IfOk r Q
if_ok P Q (Ok v) follows fact = follows v fact
if_ok P Q (Err e) follows fact = fact

-- what is a fact is one if a result is a value
pub on_ok : {T E P : Type 0} (r : Result T E) → P → OnOk r P
on_ok (Ok v) fact = fact
on_ok (Err e) fact = tt

-- the matches of a list that is the list of bare patterns are those of the bare patterns
pub of_bare : (code : Codes) (advice : Advice) (board : BoardState) (friend : Colour) (found : List Match)
    (list bare : List Pattern) → list ≡ bare → found ≡ matches_of code advice list board friend
    → found ≡ matches_of code advice bare board friend
of_bare code advice board friend found list bare same is =
    is ∙ ap (λ l. matches_of code advice l board friend) same
