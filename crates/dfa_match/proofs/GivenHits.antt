-- The hits that are given out where walks stand, and how they join those before.
use Rattle.std.proofs.Common.{◌≡◌, ℕ, ◌+◌, ◌-◌, ◌*◌, ◌<◌, ◌≤◌, ◌⊎◌, inl, inr, nat_le, cond, List}
use Rattle.std.proofs.Common.{[], ◌∷◌, ◌++◌, if◌then◌else◌, length, Contains, refl, sym, ap, ◌∙◌, subst, arith}
use Rattle.std.specs.List.{flat_map, AllPairs}
use Rattle.std.proofs.lemmas.Bool.{cases_lt, cases_Bool, leb-true, le-leb}
use Rattle.std.proofs.lemmas.List.{length-map, get_or-map}
use Rattle.std.proofs.lemmas.List.Elements.{Contains-append_cases, Contains-append_left, Contains-append_right}
use Rattle.go_rules.specs.declared.Colour.{Colour}
use Rattle.go_rules.specs.Position.{BoardState}
use Rattle.go_rules.specs.Transform.{transformations}
use Rattle.spiral.specs.Spiral.{offset_count}
use Rattle.match_rules.proofs.Lists.{Contains-map, Contains-map_from, Contains-flat_map, Contains-flat_map_from}
use Rattle.match_rules.proofs.Lists.{Contains-first, Contains-rest, AllPairs-flat_map}
use Rattle.dfa_core.specs.Words.{Word}
use Rattle.dfa_core.specs.Automata.{Row, accepted, AreDistinct, IsAutomaton}
use Rattle.dfa_core.proofs.Distinct.{AreDistinct-append}
use Rattle.dfa_match.specs.declared.Hit.{Hit}
use Rattle.dfa_match.specs.declared.walks.Walk.{Walk}
use Rattle.dfa_match.specs.SeenLetters.{seen_at, word_from, word_at}
use Rattle.dfa_match.specs.Hits.{hits_at, IsHit, IsHitBefore, AreHitsBefore}
use Rattle.dfa_match.specs.Walks.{anchor_of, hits_of, AreWalks}
use Rattle.dfa_match.proofs.SeenWords.{word_length}
use Rattle.dfa_match.proofs.WordRows.{accepted-at, word_on}
use Rattle.dfa_match.proofs.ReadBelow.{read_below, before_giving, after_giving, read_cases, read_there, read_none}
use Rattle.dfa_match.proofs.WalkResults.{accepts_now}

-- elements that are no two the same are distinct
AreDistinct-from_pairs : {X : Type 0} (xs : List X) → AllPairs (λ x y. x ≡ y → ⊥) xs → AreDistinct xs
AreDistinct-from_pairs xs apart i j d p q e = grind (arith, cases_lt)

-- distinct elements are no two the same
pairs_from_distinct : {X : Type 0} (xs : List X) → AreDistinct xs → AllPairs (λ x y. x ≡ y → ⊥) xs
pairs_from_distinct xs distinct i j d before low e = grind arith

-- functions that agree on the elements give the same joined list
flat_map-same : {X Y : Type 0} (f g : X → List Y) (xs : List X) → ((x : X) → Contains xs x → f x ≡ g x)
    → flat_map f xs ≡ flat_map g xs
flat_map-same f g [] same = refl
flat_map-same f g (x ∷ xs) same = ap (λ ys. ys ++ flat_map f xs) (same x (Contains-first x xs x refl))
    ∙ ap (λ ys. g x ++ ys) (flat_map-same f g xs (λ z there. same z (Contains-rest x xs z there)))

module _ (t m : ℕ) where
  -- the hit of a number at this anchor under this transformation
  abbrev hit_of : ℕ → Hit
  hit_of n = record { pattern = n; transform = t; anchor = m }

  -- a hit among those of the anchor
  hits_at-contains : (numbers : List ℕ) (hit : Hit) → Contains (hits_at t m numbers) hit → (hit ≡ hit_of hit.pattern)
      × Contains numbers hit.pattern
  hits_at-contains numbers hit there =
      let from = Contains-map hit_of numbers hit there in
      let same : hit ≡ hit_of from.0 = sym from.2 in (
        same ∙ ap hit_of (sym (ap (λ (h : Hit). h.pattern) same)),
        subst (Contains numbers)
            (sym (ap (λ (h : Hit). h.pattern) same)) from.1,
      )

  -- no hit of the anchor stands there twice
  hits_at-distinct : (numbers : List ℕ) → AreDistinct numbers → AreDistinct (hits_at t m numbers)
  hits_at-distinct numbers distinct i j d p q e =
      grind (arith, length-map numbers hit_of, get_or-map hit_of numbers i 0 d, get_or-map hit_of numbers j 0 d)

module _ (automaton : List Row) (pos : BoardState) (friend : Colour) (t : ℕ) (walks : List Walk)
    (are : AreWalks automaton pos friend t walks) (good : IsAutomaton automaton) where
  -- what is accepted along a word is accepted at one length
  one_length : (m i n k : ℕ) → i < n → Contains (accepted automaton (word_at pos friend t m i)) k
      → Contains (accepted automaton (word_at pos friend t m n)) k → ⊥
  one_length m i n k less here there =
      let rest : Word = word_from (seen_at pos friend t m) (0 + i) (n - i) in
      let none : rest ≡ [] =
      good.once (word_at pos friend t m i) rest k here
      (subst (λ w. Contains (accepted automaton w) k)
      (word_on automaton pos friend t m i n (omega arith)) there) in
      omega (arith, ap length none, word_length (seen_at pos friend t m) (0 + i) (n - i))

  -- what is accepted behind the letters of a walk, as long as they are those of the spiral
  abbrev accepted_now : Walk → List ℕ
  accepted_now w = if nat_le w.letters offset_count
      then accepted automaton (word_at pos friend t (anchor_of pos.size w) w.letters) else []

  -- a number that is accepted there
  now_accepts : (w : Walk) (k : ℕ) → Contains (accepted_now w) k → (w.letters ≤ offset_count)
      × Contains (accepted automaton (word_at pos friend t (anchor_of pos.size w) w.letters)) k
  now_accepts w k there = grind (arith, cases_Bool, leb-true)

  -- no number is accepted there twice
  now_distinct : (w : Walk) → AreDistinct (accepted_now w)
  now_distinct w = grind (arith, cases_Bool)

  -- the hits behind the letters of a walk
  abbrev now_at : Walk → List Hit
  now_at w = hits_at t (anchor_of pos.size w) (accepted_now w)

  -- the hits of the rows where the walks stand are these
  hits_now : hits_of automaton pos.size t walks ≡ flat_map now_at walks
  hits_now = grind (arith, flat_map-same, cases_Bool, leb-true, accepted-at)

  -- each of them is a hit
  now_sound : t < transformations → (hit : Hit) → Contains (flat_map now_at walks) hit
      → (is : IsHit automaton pos friend hit) × (hit.transform ≡ t)
      × (is.letters ≡ read_below pos.size before_giving walks hit.anchor)
      × (is.letters < read_below pos.size after_giving walks hit.anchor)
  now_sound low hit there =
      let from = Contains-flat_map now_at walks hit there in
      let w : Walk = from.0 in
      let at = hits_at-contains t (anchor_of pos.size w) (accepted_now w) hit from.2 in
      let accepts = now_accepts w hit.pattern at.1 in
      let transform : hit.transform ≡ t = ap (λ (h : Hit). h.transform) at.0 in
      let anchor : hit.anchor ≡ anchor_of pos.size w = ap (λ (h : Hit). h.anchor) at.0 in (
        record {
          transform = subst (λ u. u < transformations) (sym transform) low;
          anchor = subst (λ m. m < pos.size * pos.size) (sym anchor) (are.each w from.1).anchor;
          letters = w.letters;
          spiral = accepts.0;
          accepts = subst (λ m. Contains
              (accepted automaton (word_at pos friend hit.transform m w.letters)) hit.pattern) (sym anchor)
              (subst (λ u. Contains
              (accepted automaton (word_at pos friend u (anchor_of pos.size w) w.letters)) hit.pattern) (sym transform)
              accepts.1);
        },
        transform,
        subst (λ m. w.letters ≡ read_below pos.size before_giving walks m) (sym anchor)
            (sym (read_there pos.size before_giving walks w are.rising from.1)),
        subst (λ m. w.letters < read_below pos.size after_giving walks m) (sym anchor)
            (omega (arith, read_there pos.size after_giving walks w are.rising from.1)),
      )

  -- and each hit is one of them
  now_complete : (hit : Hit) (is : IsHit automaton pos friend hit) → hit.transform ≡ t
      → is.letters ≡ read_below pos.size before_giving walks hit.anchor → Contains (flat_map now_at walks) hit
  now_complete hit is transform letters = elim (read_cases pos.size before_giving walks hit.anchor) [
    | inr none ↦ absurd (omega (arith, is.spiral, letters, none.1))
    | inl some ↦
        let w : Walk = some.0 in
        let read : is.letters ≡ w.letters = letters ∙ some.3 in
        let accepts : Contains
        (accepted automaton (word_at pos friend t (anchor_of pos.size w) w.letters)) hit.pattern =
        subst (λ m. Contains (accepted automaton (word_at pos friend t m w.letters)) hit.pattern) (sym some.2)
        (subst (λ n. Contains (accepted automaton (word_at pos friend t hit.anchor n)) hit.pattern) read
        (accepts_now automaton pos friend t hit is transform)) in
        let there : Contains (accepted_now w) hit.pattern =
        subst (λ b. Contains
        (cond b (accepted automaton (word_at pos friend t (anchor_of pos.size w) w.letters)) []) hit.pattern)
        (sym (le-leb w.letters offset_count (omega (arith, is.spiral, read)))) accepts in
        let anchor : hit.anchor ≡ anchor_of pos.size w = sym some.2 in
        let same : hit ≡ hit_of t (anchor_of pos.size w) hit.pattern =
        λ j. record { pattern = hit.pattern; transform = transform j; anchor = anchor j } in
        subst (Contains (flat_map now_at walks)) (sym same)
        (Contains-flat_map_from now_at walks w (hit_of t (anchor_of pos.size w) hit.pattern) some.1
        (Contains-map_from (hit_of t (anchor_of pos.size w)) (accepted_now w) hit.pattern there))
  ]

  -- no two of them are the same
  now_once : AreDistinct (flat_map now_at walks)
  now_once =
      AreDistinct-from_pairs (flat_map now_at walks)
      (AllPairs-flat_map (λ x y. x ≡ y → ⊥) (λ v w. anchor_of pos.size v < anchor_of pos.size w) now_at walks are.rising
      (λ w. pairs_from_distinct (now_at w)
      (hits_at-distinct t (anchor_of pos.size w) (accepted_now w) (now_distinct w)))
      (λ v w y z less in_v in_w same.
      let of_v : y.anchor ≡ anchor_of pos.size v =
      ap (λ (h : Hit). h.anchor) (hits_at-contains t (anchor_of pos.size v) (accepted_now v) y in_v).0 in
      let of_w : z.anchor ≡ anchor_of pos.size w =
      ap (λ (h : Hit). h.anchor) (hits_at-contains t (anchor_of pos.size w) (accepted_now w) z in_w).0 in
      omega (arith, less, of_v, of_w, ap (λ (h : Hit). h.anchor) same)))

  -- a hit that was given out before is none of them
  apart : (hit : Hit) → IsHitBefore automaton pos friend t (read_below pos.size before_giving walks) hit
      → ((is : IsHit automaton pos friend hit) × (hit.transform ≡ t)
      × (is.letters ≡ read_below pos.size before_giving walks hit.anchor)
      × (is.letters < read_below pos.size after_giving walks hit.anchor)) → ⊥
  apart hit was now = elim was.before [
    | inl earlier ↦ omega (arith, earlier, now.1)
    | inr less ↦ one_length hit.anchor was.is.letters now.0.letters hit.pattern (omega (arith, less.1, now.2))
        (accepts_now automaton pos friend t hit was.is now.1) (accepts_now automaton pos friend t hit now.0 now.1)
  ]

  -- how many letters have been read before and after the hits of a point are given out
  given_cases : (m : ℕ) → (read_below pos.size after_giving walks m ≡ read_below pos.size before_giving walks m + 1)
      ⊎ ((read_below pos.size before_giving walks m ≡ offset_count + 1)
      × (read_below pos.size after_giving walks m ≡ offset_count + 1))
  given_cases m = grind (arith, read_cases, before_giving, read_below, after_giving, read_there, read_none)

  -- a hit that was given out before is one afterwards
  still_before : (hit : Hit) → IsHitBefore automaton pos friend t (read_below pos.size before_giving walks) hit
      → IsHitBefore automaton pos friend t (read_below pos.size after_giving walks) hit
  still_before hit was = record {
    is = was.is;
    before = elim was.before [
      | inl earlier ↦ inl earlier
      | inr now ↦ inr (
        now.0,
        elim (given_cases hit.anchor) [
          | inl one ↦ omega (arith, now.1, one)
          | inr none ↦ omega (arith, now.1, none.0, none.1)
        ],
      )
    ];
  }

  -- a hit that is given out afterwards was so before, or is one of the rows where the walks stand
  before_or_now : (old : List Hit) → AreHitsBefore automaton pos friend t (read_below pos.size before_giving walks) old
      → (hit : Hit) → IsHitBefore automaton pos friend t (read_below pos.size after_giving walks) hit
      → Contains (old ++ flat_map now_at walks) hit
  before_or_now old before hit is = elim is.before [
    | inl earlier ↦ Contains-append_left old (flat_map now_at walks) hit
        (before.complete hit (record { is = is.is; before = inl earlier }))
    | inr now ↦ elim (cases_lt is.is.letters (read_below pos.size before_giving walks hit.anchor)) [
      | inl less ↦ Contains-append_left old (flat_map now_at walks) hit
          (before.complete hit (record { is = is.is; before = inr (now.0, less) }))
      | inr here ↦ Contains-append_right old (flat_map now_at walks) hit
          (now_complete hit is.is now.0 (elim (given_cases hit.anchor) [
            | inl one ↦ omega (arith, here, now.1, one)
            | inr none ↦ absurd (omega (arith, here, is.is.spiral, none.0))
          ]))
    ]
  ]

  -- the hits of the rows where the walks stand join those before
  pub hits_more : (old new : List Hit) → t < transformations
      → AreHitsBefore automaton pos friend t (read_below pos.size before_giving walks) old
      → new ≡ old ++ hits_of automaton pos.size t walks
      → AreHitsBefore automaton pos friend t (read_below pos.size after_giving walks) new
  hits_more old new low before add =
      subst (AreHitsBefore automaton pos friend t (read_below pos.size after_giving walks))
      (sym (add ∙ ap (λ hs. old ++ hs) hits_now)) (record {
        sound = λ hit there. elim (Contains-append_cases old (flat_map now_at walks) hit there) [
          | inl in_old ↦ still_before hit (before.sound hit in_old)
          | inr in_new ↦
              let is = now_sound low hit in_new in
              record { is = is.0; before = inr (is.1, is.3) }
        ];
        complete = before_or_now old before;
        once = AreDistinct-append old (flat_map now_at walks) before.once now_once
            (λ hit in_old in_new. apart hit (before.sound hit in_old) (now_sound low hit in_new));
      })
