-- Every list of patterns has a number of states: the words that are longer than every pattern reach the sink, and the
-- others are finitely many.
use Rattle.std.proofs.Common.{◌≡◌, ℕ, zero, suc, ◌+◌, ◌<◌, ◌≤◌, ◌⊎◌, inl, inr, Bool, true, false, cond, eqb, List}
use Rattle.std.proofs.Common.{[], ◌∷◌, length, map, replicate, get_or, refl, ap, ◌∙◌, arith}
use Rattle.std.proofs.lemmas.Bool.{cases_eq, cases_lt, eq-eqb, ne_eqb, and_left, lt-leb, true≢false, false≢true}
use Rattle.std.proofs.lemmas.List.{length-replicate}
use Rattle.spiral.specs.Spiral.{offset_count}
use Rattle.pat_types.specs.declared.pattern.Pattern.{Pattern}
use Rattle.dfa_core.specs.declared.automaton.Seen.TheVariants.{Friend, Enemy, Empty, Off}
use Rattle.dfa_core.specs.Words.{Word}
use Rattle.dfa_core.specs.States.{State, is_live, state_of, HasStates}
use Rattle.dfa_core.proofs.Lengths.{pattern_length-most}
use Rattle.dfa_core.proofs.StateLemmas.{some_live, state_same}

-- n words have values of their own, and each word with P has the value of one of them
record TakesOn {X : Type 0} (f : Word → X) (P : Word → Type 0) (n : ℕ) : Type 0 where
  word : ℕ → Word
  apart : (i j : ℕ) → i < n → j < n → f (word i) ≡ f (word j) → i ≡ j
  all : (w : Word) → P w → (i : ℕ) × (i < n) × (f w ≡ f (word i))

-- the words with P have some number of values
abbrev HasSome : {X : Type 0} → (Word → X) → (Word → Type 0) → Type 0
HasSome f P = (n : ℕ) × TakesOn f P n

module _ {X : Type 0} (f : Word → X) (same_or_not : (x y : X) → (x ≡ y) ⊎ (x ≡ y → ⊥)) where
  -- a value is one of the first n, or none of them
  found_or_new : (word : ℕ → Word) (x : X) (n : ℕ)
      → ((i : ℕ) × (i < n) × (x ≡ f (word i))) ⊎ ((i : ℕ) → i < n → x ≡ f (word i) → ⊥)
  found_or_new word x zero = inr (λ i l e. absurd (omega (arith, l)))
  found_or_new word x (suc n) =
      elim (found_or_new word x n) [
        | inl found ↦ inl (found.0, omega (arith, found.1), found.2)
        | inr new ↦ elim (same_or_not x (f (word n))) [
          | inl last ↦ inl (n, omega arith, last)
          | inr other ↦ inr (λ i l e. elim (cases_lt i n) [
            | inl low ↦ new i low e
            | inr high ↦ let at : i ≡ n = omega (arith, l, high) in other (e ∙ ap (λ k. f (word k)) at)
          ])
        ]
      ]

  -- the word v as the one with the number n, and the others as they are
  with_last : (ℕ → Word) → ℕ → Word → ℕ → Word
  with_last word n v i = cond (eqb i n) v (word i)

  -- the word with the number n is v
  with_last-at : (word : ℕ → Word) (n : ℕ) (v : Word) → with_last word n v n ≡ v
  unfolding with_last
  with_last-at word n v = ap (λ b. cond b v (word n)) (eq-eqb n n refl)

  -- the words with lower numbers are as before
  with_last-below : (word : ℕ → Word) (n : ℕ) (v : Word) (i : ℕ) → i < n → with_last word n v i ≡ word i
  unfolding with_last
  with_last-below word n v i l = ap (λ b. cond b v (word i)) (ne_eqb i n (λ e. absurd (omega (arith, l, e))))

  -- One word more, over words with n values of their own.
  module _ (P : Word → Type 0) (v : Word) (n : ℕ) (t : TakesOn f P n) where
    -- a word with one of these values adds none
    add_known : (i : ℕ) → i < n → f v ≡ f (t.word i) → TakesOn f (λ w. P w ⊎ (f w ≡ f v)) n
    add_known i low same = grind arith

    -- the value of a word with a number below n, among the words with v behind them
    old_value : (i : ℕ) → i < n → f (with_last t.word n v i) ≡ f (t.word i)
    old_value i low = ap f (with_last-below t.word n v i low)

    -- the value of the word v, behind the others
    new_value : f (with_last t.word n v n) ≡ f v
    new_value = ap f (with_last-at t.word n v)

    -- a new value is at no number below n
    new_apart : ((i : ℕ) → i < n → f v ≡ f (t.word i) → ⊥) → (i j : ℕ) → i < n → j ≡ n
        → f (with_last t.word n v i) ≡ f (with_last t.word n v j) → ⊥
    new_apart new i j low at e = grind (arith, new_value, with_last, old_value)

    -- values are apart, and a new one too
    with_last-apart : ((i : ℕ) → i < n → f v ≡ f (t.word i) → ⊥) → (i j : ℕ) → i < suc n → j < suc n
        → f (with_last t.word n v i) ≡ f (with_last t.word n v j) → i ≡ j
    with_last-apart new i j p q e = grind (arith, cases_lt, old_value, new_apart)

    -- a word with a new value adds this one
    add_new : ((i : ℕ) → i < n → f v ≡ f (t.word i) → ⊥) → TakesOn f (λ w. P w ⊎ (f w ≡ f v)) (suc n)
    add_new new = record {
      word = with_last t.word n v;
      apart = with_last-apart new;
      all = grind (arith, old_value, new_value);
    }

  -- one word more
  add_one : (P : Word → Type 0) (v : Word) → HasSome f P → HasSome f (λ w. P w ⊎ (f w ≡ f v))
  add_one P v (n, t) = elim (found_or_new t.word (f v) n) [
    | inl found ↦ (n, add_known P v n t found.0 found.1 found.2)
    | inr new ↦ (suc n, add_new P v n t new)
  ]

  -- fewer words
  HasSome-fewer : (P Q : Word → Type 0) → ((w : Word) → Q w → P w) → HasSome f P → HasSome f Q
  HasSome-fewer P Q fewer (n, t) = (n, record { word = t.word; apart = t.apart; all = λ w q. t.all w (fewer w q) })

  -- m words more
  add_many : (P : Word → Type 0) (v : ℕ → Word) (m : ℕ) → HasSome f P
      → HasSome f (λ w. P w ⊎ ((i : ℕ) × (i < m) × (f w ≡ f (v i))))
  add_many P v zero some = grind (arith, HasSome-fewer)
  add_many P v (suc m) some =
      HasSome-fewer (λ w. (P w ⊎ ((i : ℕ) × (i < m) × (f w ≡ f (v i)))) ⊎ (f w ≡ f (v m))) (λ w. P w
      ⊎ ((i : ℕ) × (i < suc m) × (f w ≡ f (v i))))
      (λ w either. elim either [
        | inl p ↦ inl (inl p)
        | inr one ↦ elim (cases_lt one.0 m) [
          | inl low ↦ inl (inr (one.0, low, one.2))
          | inr high ↦ let at : one.0 ≡ m = omega (arith, one.1, high) in inr (one.2 ∙ ap (λ k. f (v k)) at)
        ]
      ])
      (add_one (λ w. P w ⊎ ((i : ℕ) × (i < m) × (f w ≡ f (v i)))) (v m) (add_many P v m some))

module _ {X : Type 0} (same_or_not : (x y : X) → (x ≡ y) ⊎ (x ≡ y → ⊥)) (k : ℕ) (f : Word
    → X) (friend : HasSome (λ w. f (Friend ∷ w)) (λ w. length w ≤ k))
    (enemy : HasSome (λ w. f (Enemy ∷ w)) (λ w. length w ≤ k))
    (empty : HasSome (λ w. f (Empty ∷ w)) (λ w. length w ≤ k))
    (off : HasSome (λ w. f (Off ∷ w)) (λ w. length w ≤ k)) where
  -- the word is empty
  abbrev IsNone : Word → Type 0
  IsNone w = w ≡ []

  -- or has the value of a word that begins with a friend
  abbrev With_friend : Word → Type 0
  With_friend w = IsNone w ⊎ ((i : ℕ) × (i < friend.0) × (f w ≡ f (Friend ∷ friend.1.word i)))

  -- or of one that begins with an enemy
  abbrev With_enemy : Word → Type 0
  With_enemy w = With_friend w ⊎ ((i : ℕ) × (i < enemy.0) × (f w ≡ f (Enemy ∷ enemy.1.word i)))

  -- or of one that begins with an empty point
  abbrev With_empty : Word → Type 0
  With_empty w = With_enemy w ⊎ ((i : ℕ) × (i < empty.0) × (f w ≡ f (Empty ∷ empty.1.word i)))

  -- or of one that begins off the board
  abbrev With_off : Word → Type 0
  With_off w = With_empty w ⊎ ((i : ℕ) × (i < off.0) × (f w ≡ f (Off ∷ off.1.word i)))

  -- a word of one letter more is one of these
  by_first : (w : Word) → length w ≤ suc k → With_off w
  by_first [] short = inl (inl (inl (inl refl)))
  by_first (Friend ∷ w) short = inl (inl (inl (inr (friend.1.all w (omega (arith, short))))))
  by_first (Enemy ∷ w) short = inl (inl (inr (enemy.1.all w (omega (arith, short)))))
  by_first (Empty ∷ w) short = inl (inr (empty.1.all w (omega (arith, short))))
  by_first (Off ∷ w) short = inr (off.1.all w (omega (arith, short)))

  -- the empty word has one value
  some_none : HasSome f IsNone
  some_none = (
    1,
    record {
      word = λ _. [];
      apart = λ i j p q e. omega (arith, p, q);
      all = λ w is. (0, omega arith, ap f is);
    },
  )

  -- the words of one letter more have some number of values
  one_longer : HasSome f (λ w. length w ≤ suc k)
  one_longer =
      HasSome-fewer f same_or_not With_off (λ w. length w ≤ suc k) by_first
      (add_many f same_or_not With_empty (λ i. Off ∷ off.1.word i) off.0
      (add_many f same_or_not With_enemy (λ i. Empty ∷ empty.1.word i) empty.0
      (add_many f same_or_not With_friend (λ i. Enemy ∷ enemy.1.word i) enemy.0
      (add_many f same_or_not IsNone (λ i. Friend ∷ friend.1.word i) friend.0 some_none))))

-- a word of no letter is empty
none_short : (w : Word) → length w ≤ 0 → w ≡ []
none_short [] short = refl
none_short (x ∷ w) short = absurd (omega (arith, short))

-- the words of at most k letters have some number of values
some_short : {X : Type 0} (same_or_not : (x y : X) → (x ≡ y) ⊎ (x ≡ y → ⊥)) (k : ℕ) (f : Word → X)
    → HasSome f (λ w. length w ≤ k)
some_short same_or_not zero f = (
  1,
  record {
    word = λ _. [];
    apart = λ i j p q e. omega (arith, p, q);
    all = λ w short. (0, omega arith, ap f (none_short w short));
  },
)
some_short same_or_not (suc k) f = grind (arith, one_longer same_or_not k f, some_short same_or_not k)

-- two lists of Booleans are one or not
cases_lives : (xs ys : List Bool) → (xs ≡ ys) ⊎ (xs ≡ ys → ⊥)
cases_lives [] [] = inl refl
cases_lives [] (y ∷ ys) = inr (λ e. absurd (omega (arith, ap length e)))
cases_lives (x ∷ xs) [] = inr (λ e. absurd (omega (arith, ap length e)))
cases_lives (true ∷ xs) (true ∷ ys) = grind (arith, cases_lives xs ys)
cases_lives (false ∷ xs) (false ∷ ys) = grind (arith, cases_lives xs ys)
cases_lives (true ∷ xs) (false ∷ ys) = inr (λ e. true≢false (ap (λ zs. get_or zs 0 true) e))
cases_lives (false ∷ xs) (true ∷ ys) = inr (λ e. false≢true (ap (λ zs. get_or zs 0 true) e))

-- two states are one or not
cases_state : (s t : State) → (s ≡ t) ⊎ (s ≡ t → ⊥)
cases_state s t = grind (arith, cases_eq s.0 t.0, cases_lives s.1 t.1)

-- no pattern is live after a word that is longer than the spiral
none_live : (ps : List Pattern) (w : Word) → offset_count < length w → map (is_live w) ps ≡ map (λ _. false) ps
none_live [] w long = refl
none_live (p ∷ ps) w long = grind (arith, and_left, lt-leb, pattern_length-most, none_live ps w long)

-- a list in which no pattern is live has none that is
some_live-none : (ps : List Pattern) → some_live (map (λ _. false) ps) ≡ false
some_live-none [] = refl
some_live-none (p ∷ ps) = some_live-none ps

-- two words that are longer than the spiral reach one state
long_same : (ps : List Pattern) (u v : Word) → offset_count < length u → offset_count < length v
    → state_of ps u ≡ state_of ps v
long_same ps u v long long' = grind (arith, state_same, none_live, false≢true, some_live-none)

-- a word that is longer than the spiral
long_word : Word
long_word = replicate (offset_count + 1) Friend

-- the long word has one letter more than the spiral has indices
long_length : length long_word ≡ offset_count + 1
unfolding long_word
long_length = length-replicate (offset_count + 1) Friend

-- the short words and one long word have all states
by_short : (ps : List Pattern) → HasSome (state_of ps) (λ w. length w ≤ offset_count + 1) → (n : ℕ) × HasStates ps n
by_short ps (n, t) = (
  n,
  record {
    word = t.word;
    apart = t.apart;
    all = λ w. elim (cases_lt (offset_count + 1) (length w)) [
      | inl long ↦ grind (arith, long_same ps w long_word, long_word, long_length)
      | inr short ↦ t.all w short
    ];
  },
)

-- a list of patterns has a number of states
pub some_states : (ps : List Pattern) → (n : ℕ) × HasStates ps n
some_states ps = by_short ps (some_short cases_state (offset_count + 1) (state_of ps))
