-- Two boards on which a string looks the same, as far as it matters whether it is in atari.
use Rattle.std.proofs.Common.{◌≡◌, ◌≢◌, ◌∙◌, ◌⊎◌, ℕ, zero, suc, ◌*◌, ◌<◌, ◌&&◌, Bool, true, false, List, Option}
use Rattle.std.proofs.Common.{Some, None, refl, sym, ap, inl, inr, arith, eqb, ltb, not}
use Rattle.std.specs.Option.{option_map, option_and_then}
use Rattle.std.specs.Cmp.{nat_cmp_total}
use Rattle.std.specs.Ordering.{nat_cmp, eq_by_cmp}
use Rattle.std.specs.FinSet as sets
use Rattle.std.proofs.lemmas.Bool.{or_left, or_right, and_from, and_parts, eq-eqb, lt-ltb, cases_eq, both_ways}
use Rattle.std.proofs.lemmas.Bool.{not-true}
use Rattle.go_rules.specs.declared.Cell.{Cell}
use Rattle.go_rules.specs.declared.Cell.TheVariants.{Empty, Black, White}
use Rattle.go_rules.specs.Below.{set_below}
use Rattle.go_rules.specs.BesideStrings.{is_enemy, is_beside_string}
use Rattle.go_rules.specs.Board.{are_neighbours, largest_points}
use Rattle.go_rules.specs.Strings.{cell_at, is_stone, is_in_string, is_liberty, string_at, liberty_points, Path, start, step}
use Rattle.go_rules.specs.Strings.{IsInString, IsLiberty}
use Rattle.go_rules.proofs.Counts.{first_below_gives, any_below_from}
use Rattle.go_rules.proofs.InWords.{string_itself}
use Rattle.go_rules.proofs.Links.{path_keeps}
use Rattle.go_rules.proofs.Paths.{path_on_board, is_is_in_string-from_fact, is_liberty-from_fact, IsLiberty-from_test}
use Rattle.go_rules.proofs.Sets.{contains-set_below, contains-insert_nat, eq_by_nat_cmp}
use Rattle.go_base.specs.Floods.{enemy_points}
use Rattle.sure_proof.specs.Rests.{Points, union_below, else_point, first_of, first_within, two_within}
use Rattle.sure_proof.specs.Rests.{close_to, shown_by, shows_atari}

-- A set that has one more point, or that two others were joined to.
module _ (p : ℕ) where
  -- the point that came is a member
  pub insert_self : (S : Points) → sets.contains (sets.insert S p) p ≡ true
  insert_self S = contains-insert_nat S p p ∙ or_left (eqb p p) (sets.contains S p) (eq-eqb p p refl)

  -- and each member stays one
  pub insert_more : (S : Points) (q : ℕ) → sets.contains S p ≡ true → sets.contains (sets.insert S q) p ≡ true
  insert_more S q h = contains-insert_nat S q p ∙ or_right (eqb p q) (sets.contains S p) h

  -- a member of the first is one of both
  pub union_first : (S T : Points) → sets.contains S p ≡ true → sets.contains (sets.union S T) p ≡ true
  union_first S T h = sets.contains-union nat_cmp_total S T p ∙ or_left (sets.contains S p) (sets.contains T p) h

  -- and so is one of the second
  pub union_second : (S T : Points) → sets.contains T p ≡ true → sets.contains (sets.union S T) p ≡ true
  union_second S T h = sets.contains-union nat_cmp_total S T p ∙ or_right (sets.contains S p) (sets.contains T p) h

  -- a member of one of many sets is one of all of them
  pub union_all : (n : ℕ) (each : ℕ → Points) (k : ℕ) → k < n → sets.contains (each k) p ≡ true
      → sets.contains (union_below n each) p ≡ true
  union_all zero each k less h = absurd (omega arith)
  union_all (suc n) each k less h = elim (cases_eq k n) [
    | inl e ↦ union_second (union_below n each) (each n) (ap (λ j. sets.contains (each j) p) (sym e) ∙ h)
    | inr ne ↦ union_first (union_below n each) (each n) (union_all n each k (omega (arith, less, ne)) h)
  ]

-- a number below n that passes is a member of the set of these
pub below_in : (n : ℕ) (test : ℕ → Bool) (q : ℕ) → q < n → test q ≡ true → sets.contains (set_below n test) q ≡ true
below_in n test q less h = contains-set_below n test q ∙ and_from (ltb q n) (test q) (lt-ltb q n less) h

-- beside a stone stands nothing, or the same, or an enemy
beside_cases : (own cell : Cell) → is_stone own ≡ true
    → (cell ≡ Empty) ⊎ ((cell ≡ own) ⊎ (is_enemy own cell ≡ true))
beside_cases Black Empty h = inl refl
beside_cases White Empty h = inl refl
beside_cases Black Black h = inr (inl refl)
beside_cases White White h = inr (inl refl)
beside_cases Black White h = inr (inr refl)
beside_cases White Black h = inr (inr refl)
beside_cases Empty cell h = absurd (let wrong = h in cc)

-- What is close to the string of q.
module _ (s : ℕ) (cells : List Cell) (q : ℕ) (on : q < s * s) where
  -- its stones
  pub close_string : (x : ℕ) → IsInString s cells q x → sets.contains (close_to s cells q) x ≡ true
  unfolding close_to string_at
  close_string x inside =
      union_first x (sets.union (string_at s cells q) (liberty_points s cells q)) (enemy_points s cells q)
      (union_first x (string_at s cells q) (liberty_points s cells q)
      (below_in (s * s) (is_in_string s cells q) x (path_on_board s cells q on inside.path)
      (is_is_in_string-from_fact s cells q x on inside)))

  -- its liberties
  pub close_liberty : (l : ℕ) → IsLiberty s cells q l → sets.contains (close_to s cells q) l ≡ true
  unfolding close_to liberty_points
  close_liberty l lib =
      union_first l (sets.union (string_at s cells q) (liberty_points s cells q)) (enemy_points s cells q)
      (union_second l (string_at s cells q) (liberty_points s cells q)
      (below_in (s * s) (is_liberty s cells q) l lib.on_board (is_liberty-from_fact s cells q l on lib)))

  -- the enemies next to it
  close_enemy : (x y : ℕ) → IsInString s cells q x → y < s * s → are_neighbours s x y ≡ true
      → is_enemy (cell_at cells q) (cell_at cells y) ≡ true → sets.contains (close_to s cells q) y ≡ true
  unfolding close_to is_beside_string
  close_enemy x y inside y_on near enemy =
      union_second y (sets.union (string_at s cells q) (liberty_points s cells q)) (enemy_points s cells q)
      (below_in (s * s) (λ r. is_beside_string s cells q r && is_enemy (cell_at cells q) (cell_at cells r)) y y_on
      (and_from (is_beside_string s cells q y) (is_enemy (cell_at cells q) (cell_at cells y))
      (any_below_from (s * s) (λ z. is_in_string s cells q z && are_neighbours s z y) x
      (path_on_board s cells q on inside.path)
      (and_from (is_in_string s cells q x) (are_neighbours s x y) (is_is_in_string-from_fact s cells q x on inside) near))
      enemy))

  -- so all neighbours of its stones
  pub close_beside : (x y : ℕ) → IsInString s cells q x → y < s * s → are_neighbours s x y ≡ true
      → sets.contains (close_to s cells q) y ≡ true
  close_beside x y inside y_on near = elim (beside_cases (cell_at cells q) (cell_at cells y) inside.stone) [
    | inl empty ↦ close_liberty y (record { on_board = y_on; is_empty = empty; beside = (x, inside, near) })
    | inr stone ↦ elim stone [
      | inl own ↦ close_string y (record { stone = inside.stone; path = step inside.path y_on near own })
      | inr enemy ↦ close_enemy x y inside y_on near enemy
    ]
  ]

-- The string of q on a board, and another board.
module _ (s : ℕ) (a b : List Cell) (q : ℕ) where
  -- if its stones stand on the other board too, they are of the string there
  pub string_kept : ((x : ℕ) → IsInString s a q x → cell_at a x ≡ cell_at b x) → (x : ℕ) → IsInString s a q x
      → IsInString s b q x
  string_kept same x inside = record {
    stone = ap is_stone (sym (same q (string_itself s a q inside.stone))) ∙ inside.stone;
    path = path_keeps s a b q (λ y path. sym (same y (record { stone = inside.stone; path = path }))) inside.path;
  }

  -- and a liberty that is empty there is a liberty there
  pub liberty_kept : ((x : ℕ) → IsInString s a q x → cell_at a x ≡ cell_at b x) → (l : ℕ) → IsLiberty s a q l
      → cell_at a l ≡ cell_at b l → IsLiberty s b q l
  liberty_kept same l lib here = record {
    on_board = lib.on_board;
    is_empty = sym here ∙ lib.is_empty;
    beside = (lib.beside.0, string_kept same lib.beside.0 lib.beside.1, lib.beside.2);
  }

  -- A path there, if all neighbours of the string stand there too.
  module _ (stone : is_stone (cell_at a q) ≡ true) (same : (x : ℕ) → IsInString s a q x → cell_at a x ≡ cell_at b x)
      (beside : (x y : ℕ) → IsInString s a q x → y < s * s → are_neighbours s x y ≡ true
      → cell_at a y ≡ cell_at b y) where
    -- it is a path here
    path_back_here : {x : ℕ} → Path s b q x → Path s a q x
    path_back_here start = start
    path_back_here (step {q = y} {r} path on near e) =
        let before = path_back_here path in
        step before on near (beside y r (record { stone = stone; path = before }) on near ∙ e
        ∙ sym (same q (string_itself s a q stone)))

    -- so the string there is the string here
    pub string_back_here : (x : ℕ) → IsInString s b q x → IsInString s a q x
    string_back_here x inside = record { stone = stone; path = path_back_here inside.path }

    -- and a liberty there is one here
    pub liberty_back_here : (l : ℕ) → IsLiberty s b q l → IsLiberty s a q l
    liberty_back_here l lib = grind (arith, string_back_here)

-- on both boards the string of q has two liberties, or the same stones and the same liberties
pub data IsShown (s : ℕ) (a b : List Cell) (q : ℕ) : Type 0 where
  has_two : (l k : ℕ) → l ≢ k → IsLiberty s a q l → IsLiberty s a q k → IsLiberty s b q l → IsLiberty s b q k
      → IsShown s a b q
  all_same : ((x : ℕ) → IsInString s a q x → IsInString s b q x) → ((x : ℕ) → IsInString s b q x → IsInString s a q x)
      → ((l : ℕ) → IsLiberty s a q l → IsLiberty s b q l) → ((l : ℕ) → IsLiberty s b q l → IsLiberty s a q l)
      → IsShown s a b q

-- which of the boards is the first does not matter
pub IsShown-sym : {s : ℕ} {a b : List Cell} {q : ℕ} → IsShown s a b q → IsShown s b a q
IsShown-sym (has_two l k ne la ka lb kb) = has_two l k ne lb kb la ka
IsShown-sym (all_same ab ba la lb) = all_same ba ab lb la

-- the boards agree on a set of points
abbrev pub SameOn : Points → List Cell → List Cell → Type 0
SameOn S a b = (p : ℕ) → sets.contains S p ≡ true → cell_at a p ≡ cell_at b p

-- boards that agree on what is close to a string have the same liberties of it
pub close_shows : (s : ℕ) (a b : List Cell) (q : ℕ) → q < s * s → is_stone (cell_at a q) ≡ true
    → SameOn (close_to s a q) a b
    → ((l : ℕ) → IsLiberty s a q l → IsLiberty s b q l) × ((l : ℕ) → IsLiberty s b q l → IsLiberty s a q l)
close_shows s a b q on stone agree =
    let stones : (x : ℕ) → IsInString s a q x → cell_at a x ≡ cell_at b x = λ x inside.
    agree x (close_string s a q on x inside) in
    let around : (x y : ℕ) → IsInString s a q x → y < s * s → are_neighbours s x y ≡ true
    → cell_at a y ≡ cell_at b y = λ x y inside y_on near. agree y (close_beside s a q on x y inside y_on near) in (
      λ l lib. liberty_kept s a b q stones l lib (agree l (close_liberty s a q on l lib)),
      liberty_back_here s a b q stone stones around,
    )

-- boards that agree on what is close to a string show the same stones and liberties of it
pub shown_close : (s : ℕ) (a b : List Cell) (q : ℕ) → q < s * s → is_stone (cell_at a q) ≡ true
    → SameOn (close_to s a q) a b → IsShown s a b q
shown_close s a b q on stone agree =
    let stones : (x : ℕ) → IsInString s a q x → cell_at a x ≡ cell_at b x = λ x inside.
    agree x (close_string s a q on x inside) in
    let around : (x y : ℕ) → IsInString s a q x → y < s * s → are_neighbours s x y ≡ true
    → cell_at a y ≡ cell_at b y = λ x y inside y_on near. agree y (close_beside s a q on x y inside y_on near) in
    all_same (string_kept s a b q stones) (string_back_here s a b q stone stones around)
    (λ l lib. liberty_kept s a b q stones l lib (agree l (close_liberty s a q on l lib)))
    (liberty_back_here s a b q stone stones around)

-- the first point within Z is a point of the set
first_within_gives : (Z S : Points) (l : ℕ) → first_within Z S ≡ Some l → sets.contains S l ≡ true
first_within_gives Z S l e = by (first_of (sets.intersection S Z)) refl e
  where
    by : (o : Option ℕ) → first_of (sets.intersection S Z) ≡ o → else_point o (first_of S) ≡ Some l
        → sets.contains S l ≡ true
    by None is h = (first_below_gives largest_points (sets.contains S) l h).1
    by (Some q) is h =
        let inside = (first_below_gives largest_points (sets.contains (sets.intersection S Z)) q is).1 in
        let both = and_parts (sets.contains S q) (sets.contains Z q)
        (sym (sets.contains-intersection nat_cmp_total S Z q) ∙ inside) in
        let q_is : q ≡ l = (let w = h in cc) in
        ap (sets.contains S) (sym q_is) ∙ both.0

-- a point of a set without m is a point of the set, and not m
in_remove : (S : Points) (m j : ℕ) → sets.contains (sets.remove S m) j ≡ true → (j ≢ m) × (sets.contains S j ≡ true)
in_remove S m j inside =
    let parts = and_parts (not (eq_by_cmp nat_cmp j m)) (sets.contains S j)
    (sym (sets.contains-remove nat_cmp_total S m j) ∙ inside) in
    let other : eqb j m ≡ false = sym (eq_by_nat_cmp j m) ∙ not-true (eq_by_cmp nat_cmp j m) parts.0 in
    (λ same. both_ways (eqb j m) other (eq-eqb j m same), parts.1)

-- the two points of a set are two of its points
pub two_within_give : (Z S : Points) (l k : ℕ) → two_within Z S ≡ Some (l, k)
    → (l ≢ k) × (sets.contains S l ≡ true) × (sets.contains S k ≡ true)
two_within_give Z S l k e = by (first_within Z S) refl e
  where
    second : (m : ℕ) (o : Option ℕ) → first_within Z (sets.remove S m) ≡ o
        → option_map {T = ℕ} {U = ℕ × ℕ} (λ j. (m, j)) o ≡ Some (l, k)
        → (m ≡ l) × (k ≢ m) × (sets.contains S k ≡ true)
    second m None is h = absurd (let wrong = h in cc)
    second m (Some j) is h =
        let found = in_remove S m j (first_within_gives Z (sets.remove S m) j is) in
        let pair : (m, j) ≡ (l, k) = (let w = h in cc) in
        let j_is : j ≡ k = ap (λ (w : ℕ × ℕ). w.1) pair in (
          ap (λ (w : ℕ × ℕ). w.0) pair,
          λ same. found.0 (j_is ∙ same),
          ap (sets.contains S) (sym j_is) ∙ found.1,
        )

    by : (o : Option ℕ) → first_within Z S ≡ o
        → option_and_then (λ m. option_map {T = ℕ} {U = ℕ × ℕ} (λ j. (m, j)) (first_within Z (sets.remove S m))) o
        ≡ Some (l, k)
        → (l ≢ k) × (sets.contains S l ≡ true) × (sets.contains S k ≡ true)
    by None is h = absurd (let wrong = h in cc)
    by (Some m) is h =
        let w = second m (first_within Z (sets.remove S m)) refl h in
        (λ same. w.1 (sym same ∙ sym w.0), ap (sets.contains S) (sym w.0) ∙ first_within_gives Z S m is, w.2)

-- a point of the set of the liberties is a liberty
pub liberty_in : (s : ℕ) (cells : List Cell) (q l : ℕ) → sets.contains (liberty_points s cells q) l ≡ true
    → IsLiberty s cells q l
unfolding liberty_points
liberty_in s cells q l inside = IsLiberty-from_test s cells q l (and_parts (ltb l (s * s)) (is_liberty s cells q l)
    (sym (contains-set_below (s * s) (is_liberty s cells q) l) ∙ inside)).1

-- the same, with the set written out
shown_all : (s : ℕ) (a b : List Cell) (q : ℕ) → q < s * s → is_stone (cell_at a q) ≡ true
    → SameOn (sets.union (sets.union (string_at s a q) (liberty_points s a q)) (enemy_points s a q)) a b
    → IsShown s a b q
unfolding close_to
shown_all s a b q on stone agree = shown_close s a b q on stone agree

-- a stone of a string is in the set of its stones
in_string_at : (s : ℕ) (cells : List Cell) (q : ℕ) → q < s * s → (x : ℕ) → IsInString s cells q x
    → sets.contains (string_at s cells q) x ≡ true
unfolding string_at
in_string_at s cells q on x inside = grind (arith, below_in, path_on_board, is_is_in_string-from_fact)

-- boards that agree on what shows whether a string is in atari show the same of it
pub shown : (s : ℕ) (a b : List Cell) (Z : Points) (q : ℕ) → q < s * s → is_stone (cell_at a q) ≡ true
    → SameOn (shows_atari s a Z q) a b → IsShown s a b q
unfolding shows_atari
shown s a b Z q on stone agree = by (two_within Z (liberty_points s a q)) refl
    (λ p h. agree p (insert_more p (shown_by (string_at s a q) (liberty_points s a q) (enemy_points s a q)
    (two_within Z (liberty_points s a q))) q h))
  where
    by : (o : Option (ℕ × ℕ)) → two_within Z (liberty_points s a q) ≡ o
        → SameOn (shown_by (string_at s a q) (liberty_points s a q) (enemy_points s a q) o) a b → IsShown s a b q
    by None is same = shown_all s a b q on stone same
    by (Some w) is same =
        let found = two_within_give Z (liberty_points s a q) w.0 w.1 is in
        let first = liberty_in s a q w.0 found.1 in
        let second = liberty_in s a q w.1 found.2 in
        let strings : (x : ℕ) → IsInString s a q x → cell_at a x ≡ cell_at b x = λ x inside.
        same x (insert_more x (sets.insert (string_at s a q) w.0) w.1 (insert_more x (string_at s a q) w.0
        (in_string_at s a q on x inside))) in
        has_two w.0 w.1 found.0 first second
        (liberty_kept s a b q strings w.0 first
        (same w.0 (insert_more w.0 (sets.insert (string_at s a q) w.0) w.1 (insert_self w.0 (string_at s a q)))))
        (liberty_kept s a b q strings w.1 second
        (same w.1 (insert_self w.1 (sets.insert (string_at s a q) w.0))))
