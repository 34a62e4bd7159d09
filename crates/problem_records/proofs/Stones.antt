-- The marked stones on the points below a number.
use Rattle.std.proofs.Common.{◌≡◌, ℕ, zero, suc, ◌+◌, ◌*◌, ◌<◌, ◌≤◌, Bool, true, false, ◌&&◌, cond, List, [], ◌∷◌, ◌++◌}
use Rattle.std.proofs.Common.{refl, sym, ap, subst, ◌≢◌, ◌∙◌, arith}
use Rattle.std.proofs.lemmas.List.{append-nil}
use Rattle.go_rules.specs.declared.Cell.{Cell}
use Rattle.go_rules.specs.declared.Cell.TheVariants.{Empty, Black, White}
use Rattle.go_rules.specs.Strings.{cell_at, is_stone}
use Rattle.problem_records.specs.Problems.{HasStone}
use Rattle.std.specs.List.{filter, range_with_len}
use Rattle.go_rules.specs.Position.{BoardState}
use Rattle.problem_records.specs.Nodes.{Named}
use Rattle.problem_records.specs.Marks.{is_stone_at, is_marked, marked_stones}

-- a marked stone stands at the point
abbrev pub is_marked_stone : BoardState → List Named → ℕ → Bool
is_marked_stone pos vs p = is_stone_at pos.cells p && is_marked pos.size p vs

-- where the test of a stone is met, the point is not empty
stone_stands : (c : Cell) (b : Bool) → (is_stone c && b) ≡ true → c ≢ Empty
stone_stands Empty b h = absurd (cc)
stone_stands Black b h = λ e. absurd (cc)
stone_stands White b h = λ e. absurd (cc)

-- the head of a list
cons-head : (x y : ℕ) (xs ys : List ℕ) → (x ∷ xs) ≡ (y ∷ ys) → x ≡ y
cons-head x y xs ys e = cc

-- the marked stones on the first n points, in reading order
abbrev pub marked_below : BoardState → List Named → ℕ → List ℕ
marked_below pos vs n = filter (is_marked_stone pos vs) (range_with_len 0 n)

-- one more in front of both
onto : (b : Bool) (x : ℕ) (us vs ws : List ℕ) → us ≡ vs ++ ws → cond b (x ∷ us) us ≡ cond b (x ∷ vs) vs ++ ws
onto true x us vs ws e = ap (λ (l : List ℕ). x ∷ l) e
onto false x us vs ws e = e

-- of one number more than n from a on pass those of the n, and the next one if it passes
filter_next : (f : ℕ → Bool) (a n : ℕ)
    → filter f (range_with_len a (n + 1)) ≡ filter f (range_with_len a n) ++ filter f ((a + n) ∷ [])
filter_next f a zero = ap (λ (k : ℕ). filter f (k ∷ [])) (omega arith)
filter_next f a (suc n) =
    let longer : suc n + 1 ≡ suc (n + 1) = omega arith in
    let further : a + 1 + n ≡ a + suc n = omega arith in
    ap (λ (k : ℕ). filter f (range_with_len a k)) longer
    ∙ (onto (f a) a (filter f (range_with_len (a + 1) (n + 1))) (filter f (range_with_len (a + 1) n))
    (filter f ((a + 1 + n) ∷ [])) (filter_next f (a + 1) n)
    ∙ ap (λ (k : ℕ). filter f (range_with_len a (suc n)) ++ filter f (k ∷ [])) further)

-- the next point is found if a marked stone stands there
pub next_found : (pos : BoardState) (vs : List Named) (n : ℕ) (found : List ℕ) → found ≡ marked_below pos vs n
    → is_marked_stone pos vs n ≡ true → found ++ n ∷ [] ≡ marked_below pos vs (n + 1)
next_found pos vs n found e h =
    ap (λ (l : List ℕ). l ++ n ∷ []) e
    ∙ (ap (λ (b : Bool). marked_below pos vs n ++ cond b (n ∷ []) []) (sym h)
    ∙ (ap (λ (k : ℕ). marked_below pos vs n ++ filter (is_marked_stone pos vs) (k ∷ [])) (omega arith)
    ∙ sym (filter_next (is_marked_stone pos vs) 0 n)))

-- the next point is passed over if no marked stone stands there
pub next_passed : (pos : BoardState) (vs : List Named) (n : ℕ) (found : List ℕ) → found ≡ marked_below pos vs n
    → is_marked_stone pos vs n ≡ false → found ≡ marked_below pos vs (n + 1)
next_passed pos vs n found e h =
    e
    ∙ (sym (append-nil (marked_below pos vs n))
    ∙ (ap (λ (b : Bool). marked_below pos vs n ++ cond b (n ∷ []) []) (sym h)
    ∙ (ap (λ (k : ℕ). marked_below pos vs n ++ filter (is_marked_stone pos vs) (k ∷ [])) (omega arith)
    ∙ sym (filter_next (is_marked_stone pos vs) 0 n))))

-- p passes the test, and is one of the n numbers from a on
abbrev pub PassesWithin : (ℕ → Bool) → ℕ → ℕ → ℕ → Type 0
PassesWithin f a n p = (f p ≡ true) × (a ≤ p) × (p < a + n)

-- one of the numbers from a + 1 on is one of those from a on
within_more : (f : ℕ → Bool) (a n p : ℕ) → PassesWithin f (a + 1) n p → PassesWithin f a (suc n) p
within_more f a n p h = (h.0, omega (arith, h.1), omega (arith, h.2))

-- the first that passes, where a passes or does not
first_by : (f : ℕ → Bool) (a n p : ℕ) (ps rest : List ℕ) (b : Bool) → f a ≡ b
    → (rest ≡ p ∷ ps → PassesWithin f (a + 1) n p) → cond b (a ∷ rest) rest ≡ p ∷ ps → PassesWithin f a (suc n) p
first_by f a n p ps rest true h later e =
    let same : a ≡ p = cons-head a p rest ps e in
    subst (PassesWithin f a (suc n)) same (h, omega arith, omega arith)
first_by f a n p ps rest false h later e = within_more f a n p (later e)

-- the first that passes of n numbers from a on passes, and is one of them
pub first_passes : (f : ℕ → Bool) (a n p : ℕ) (ps : List ℕ) → filter f (range_with_len a n) ≡ p ∷ ps
    → PassesWithin f a n p
first_passes f a zero p ps e = absurd (cc)
first_passes f a (suc n) p ps e =
    first_by f a n p ps (filter f (range_with_len (a + 1) n)) (f a) refl (first_passes f (a + 1) n p ps) e

-- on the first of the marked stones a stone stands
pub first_is_stone : (pos : BoardState) (vs : List Named) (p : ℕ) (ps : List ℕ)
    → marked_stones pos vs ≡ p ∷ ps → HasStone pos p
first_is_stone pos vs p ps e =
    let h = first_passes (is_marked_stone pos vs) 0 (pos.size * pos.size) p ps e in
    record {
      on_board = omega (arith, h.2);
      stone = stone_stands (cell_at pos.cells p) (is_marked pos.size p vs) h.0;
    }
