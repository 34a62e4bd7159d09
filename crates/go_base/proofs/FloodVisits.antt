-- What a flood gathers as it visits the neighbours of its stones.
use Rattle.std.proofs.Common.{◌≡◌, ◌≢◌, ℕ, ◌+◌, ◌*◌, ◌<◌, ◌&&◌, ◌⊎◌, Bool, true, false, cond, ltb, Some, List, refl}
use Rattle.std.proofs.Common.{sym, ap, subst, arith, inl, inr, ◌∙◌}
use Rattle.std.proofs.lemmas.Bool.{cases_Bool, eq-eqb, eqb-true, or_cases, or_left, or_right, both_ways}
use Rattle.std.proofs.lemmas.Bool.{and_parts, and_from, lt-ltb, ltb-true}
use Rattle.std.specs.Ordering.{nat_cmp}
use Rattle.std.specs.FinSet as sets
use Rattle.go_rules.specs.declared.Cell.{Cell}
use Rattle.go_rules.specs.declared.Cell.TheVariants.{Empty}
use Rattle.go_rules.specs.Board.{are_neighbours}
use Rattle.go_rules.specs.Below.{set_below}
use Rattle.go_rules.specs.Strings.{cell_at, same_cell, is_stone, is_in_string, is_liberty, liberty_points}
use Rattle.go_rules.specs.BesideStrings.{is_enemy, is_beside_string}
use Rattle.go_rules.proofs.Counts.{any_below_gives, any_below_from}
use Rattle.go_rules.proofs.Sets.{contains-set_below, contains-insert_nat, same_nat_set}
use Rattle.go_rules.proofs.Paths.{path_on_board, IsInString-from_test, is_is_in_string-from_fact}
use Rattle.go_rules.specs.Neighbourhood.{neighbourhood_of}
use Rattle.go_rules.proofs.Tests.{same_tests, and-false}
use Rattle.go_base.specs.Views.{alone}
use Rattle.go_base.proofs.PointNeighbourhoods.{close_next, whole_string, alone_self}
use Rattle.go_base.specs.Sides.{neighbour_at}
use Rattle.go_base.specs.Floods.{Gathers, Visits, SpreadsOut, is_asked_enemy, enemy_points}
use Rattle.go_base.specs.declared.flood.Found.{Found}
use Rattle.go_base.proofs.SidesOfPoints.{neighbour_at-all, neighbour_at-near}
use Rattle.go_base.proofs.FloodResults.{Flooded, Flooded-start, Flooded-next, Flooded-all, Begins, Steps, none_visited}
use Rattle.go_base.proofs.FloodResults.{visited_before}
use Rattle.go_base.proofs.EachSide.{same_side, each_next, each_with}

module _ (s : ℕ) (cells : List Cell) (test : Cell → Bool) (q : ℕ) where
  -- the next side gave nothing, or a point that fails the test
  Gathers-skip : (n : ℕ) (old new : sets.FinSet nat_cmp) → Gathers s cells test q n old new
      → ((r : ℕ) → neighbour_at s q n ≡ Some r → test (cell_at cells r) ≡ true → ⊥)
      → Gathers s cells test q (n + 1) old new
  Gathers-skip n old new h none = grind (arith, each_next)

  -- the next side gave a point that passes
  Gathers-add : (n r : ℕ) (old new : sets.FinSet nat_cmp) → Gathers s cells test q n old new → q < s * s
      → neighbour_at s q n ≡ Some r → test (cell_at cells r) ≡ true
      → Gathers s cells test q (n + 1) old (sets.insert new r)
  Gathers-add n r old new h on e t =
      grind (arith, contains-insert_nat, or_right, each_with, or_left, eq-eqb, or_cases, neighbour_at-near, eqb-true)

  -- the next side gave a point, which came where it passes
  Gathers-visit : (n r : ℕ) (old mid new : sets.FinSet nat_cmp) → Gathers s cells test q n old mid → q < s * s
      → neighbour_at s q n ≡ Some r
      → new ≡ cond (test (cell_at cells r)) (sets.insert mid r) mid → Gathers s cells test q (n + 1) old new
  Gathers-visit n r old mid new h on e is =
      subst (Gathers s cells test q (n + 1) old) (sym is) (elim (cases_Bool (test (cell_at cells r))) [
        | inl t ↦ rw t (Gathers-add n r old mid h on e t)
        | inr f ↦ rw f (Gathers-skip n old mid h (λ x e' t'.
            both_ways (test (cell_at cells x))
            (ap (λ y. test (cell_at cells y)) (sym (same_side (sym e ∙ e'))) ∙ f) t'))
      ])

-- where enemies are asked for one came, and else none
pub met_alone : (asked : Bool) (r : ℕ) (old new : sets.FinSet nat_cmp) → new ≡ cond asked (sets.insert old r) old
    → (q : ℕ) → sets.contains new q ≡ true → (sets.contains old q ≡ true) ⊎ (q ≡ r)
met_alone true r old new is q h = grind (arith, or_cases, contains-insert_nat, eqb-true)
met_alone false r old new is q h = inl (ap (λ t. sets.contains t q) (sym is) ∙ h)

module _ (asked : Bool) (s : ℕ) (cells : List Cell) (own : Cell) (q : ℕ) where
  -- no side was visited
  pub SpreadsOut-none : (old : Found) → SpreadsOut asked s cells own q 0 old old
  SpreadsOut-none old = grind arith

  -- the next side gave nothing
  pub SpreadsOut-skip : (n : ℕ) (old new : Found) → SpreadsOut asked s cells own q n old new
      → ((r : ℕ) → neighbour_at s q n ≡ Some r → ⊥) → SpreadsOut asked s cells own q (n + 1) old new
  SpreadsOut-skip n old new h none = grind (arith, Gathers-skip)

  -- the next side gave a point, which was visited
  pub SpreadsOut-visit : (n r : ℕ) (old mid new : Found) → SpreadsOut asked s cells own q n old mid → q < s * s
      → neighbour_at s q n ≡ Some r → Visits asked own (cell_at cells r) r mid new
      → SpreadsOut asked s cells own q (n + 1) old new
  SpreadsOut-visit n r old mid new h on e v = record {
    stones = Gathers-visit s cells _ q n r old.stones mid.stones new.stones h.stones on e v.stones;
    liberties = Gathers-visit s cells _ q n r old.liberties mid.liberties new.liberties h.liberties on e v.liberties;
    enemies = Gathers-visit s cells _ q n r old.enemies mid.enemies new.enemies h.enemies on e v.enemies;
  }

-- the neighbours whose cell passes the test of the stones that do not wait are there, and nothing else is
pub record Gathered (s : ℕ) (cells : List Cell) (test : Cell
    → Bool) (stones wait found : sets.FinSet nat_cmp) : Type 0 where
  pub all : (q : ℕ) → sets.contains stones q ≡ true → sets.contains wait q ≡ false → (l : ℕ) → l < s * s
      → are_neighbours s q l ≡ true → test (cell_at cells l) ≡ true → sets.contains found l ≡ true
  pub only : (l : ℕ) → sets.contains found l ≡ true
      → (q : ℕ) × (sets.contains stones q ≡ true) × (l < s * s) × (are_neighbours s q l ≡ true)
      × (test (cell_at cells l) ≡ true)

-- nothing was gathered while each stone waits
Gathered-none : (s : ℕ) (cells : List Cell) (test : Cell
    → Bool) (p : ℕ) (stones wait found : sets.FinSet nat_cmp) → Begins p stones wait → found ≡ sets.empty
    → Gathered s cells test stones wait found
Gathered-none s cells test p stones wait found b e = record {
  all = λ q h w. absurd (none_visited p q stones wait b h w);
  only = λ l h. absurd (both_ways (sets.contains found l)
      (ap (λ t. sets.contains t l) e ∙ sets.contains-empty nat_cmp l) h);
}

-- what is beside one more stone was gathered
Gathered-next : (s : ℕ) (cells : List Cell) (test : Cell
    → Bool) (q : ℕ) (old new wait held waits found next : sets.FinSet nat_cmp) → Gathered s cells test old wait found
    → q < s * s → Steps s q old new wait held waits → Gathers s cells test q 4 found next
    → Gathered s cells test new waits next
Gathered-next s cells test q old new wait held waits found next h on st g = record {
  all = λ x has gone l l_on near t. elim (visited_before s q x old new wait held waits st has gone) [
    | inl e ↦ grind (arith, neighbour_at-all s q l on l_on)
    | inr before ↦ g.kept l (h.all x before.0 before.1 l l_on near t)
  ];
  only = grind arith;
}

-- what a flood has gathered if no stone waits
Gathered-all : (s : ℕ) (cells : List Cell) (test : Cell
    → Bool) (p : ℕ) (stones wait found : sets.FinSet nat_cmp) → p < s * s → is_stone (cell_at cells p) ≡ true
    → Flooded s cells p stones wait → wait ≡ sets.empty → Gathered s cells test stones wait found
    → found ≡ set_below (s * s) (λ l. is_beside_string s cells p l && test (cell_at cells l))
unfolding is_beside_string
Gathered-all s cells test p stones wait found on stone h none g =
    same_nat_set _ _ (λ x. same_tests _ _
    (λ k.
    let o = g.only x k in
    let path = h.only o.0 o.1 in
    and_from _ _ (lt-ltb x (s * s) o.2)
    (and_from _ _ (any_below_from (s * s) _ o.0 (path_on_board s cells p on path)
    (and_from _ _ (is_is_in_string-from_fact s cells p _ on (record { stone = stone; path = path })) o.3)) o.4))
    (λ k.
    let parts = and_parts _ _ k in
    let both = and_parts _ _ parts.1 in
    let it = any_below_gives (s * s) _ both.0 in
    let link = and_parts _ _ it.2 in
    let member = Flooded-all s cells p stones wait h none (IsInString-from_test s cells p it.0 link.0).path in
    g.all it.0 member (ap (λ t. sets.contains t it.0) none ∙ sets.contains-empty nat_cmp it.0) x
    (ltb-true x (s * s) parts.0) link.1 both.1)
    ∙ sym (contains-set_below (s * s) (λ y. is_beside_string s cells p y && test (cell_at cells y)) x))

-- which of two tests comes first does not matter
and_swapped : (a b c : Bool) → (a && (b && c)) ≡ (a && (a && c && b))
and_swapped true true true = refl
and_swapped true true false = refl
and_swapped true false true = refl
and_swapped true false false = refl
and_swapped false b c = refl

-- the liberties are the empty points next to the string
pub liberties_beside : (s : ℕ) (cells : List Cell) (p : ℕ)
    → set_below (s * s) (λ l. is_beside_string s cells p l && same_cell (cell_at cells l) Empty)
    ≡ liberty_points s cells p
unfolding liberty_points is_liberty is_beside_string
liberties_beside s cells p = grind (arith, same_nat_set, contains-set_below, and_swapped)

-- what the stones gave that do not wait
pub record FloodsOut (asked : Bool) (s : ℕ) (cells : List Cell) (own : Cell) (p : ℕ) (found : Found)
    (wait : sets.FinSet nat_cmp) : Type 0 where
  pub stones : Flooded s cells p found.stones wait
  pub liberties : Gathered s cells (λ cell. same_cell cell Empty) found.stones wait found.liberties
  pub enemies : Gathered s cells (is_asked_enemy asked own) found.stones wait found.enemies

-- at first nothing but the point is known
pub FloodsOut-start : (asked : Bool) (s : ℕ) (cells : List Cell) (own : Cell) (p : ℕ) (found : Found)
    (wait : sets.FinSet nat_cmp) → Begins p found.stones wait → found.liberties ≡ sets.empty
    → found.enemies ≡ sets.empty → FloodsOut asked s cells own p found wait
FloodsOut-start asked s cells own p found wait b f e = record {
  stones = Flooded-start s cells p found.stones wait b;
  liberties = Gathered-none s cells _ p found.stones wait found.liberties b f;
  enemies = Gathered-none s cells _ p found.stones wait found.enemies b e;
}

-- one more stone was visited
pub FloodsOut-next : (asked : Bool) (s : ℕ) (cells : List Cell) (own : Cell) (p q : ℕ) (old new : Found)
    (wait held waits : sets.FinSet nat_cmp) → p < s * s → FloodsOut asked s cells own p old wait
    → Steps s q old.stones new.stones wait held waits → cell_at cells q ≡ own → SpreadsOut asked s cells own q 4 old new
    → FloodsOut asked s cells own p new waits
FloodsOut-next asked s cells own p q old new wait held waits on h st like sp =
    let q_on = path_on_board s cells p on (h.stones.only q st.waited) in
    record {
      stones = Flooded-next s cells own p q old.stones new.stones wait held waits on h.stones st like sp.stones;
      liberties = Gathered-next s cells _ q old.stones new.stones wait held waits old.liberties new.liberties
          h.liberties q_on st sp.liberties;
      enemies = Gathered-next s cells _ q old.stones new.stones wait held waits old.enemies new.enemies
          h.enemies q_on st sp.enemies;
    }

module _ (asked : Bool) (s : ℕ) (cells : List Cell) (own : Cell) (p : ℕ) (found : Found)
    (wait : sets.FinSet nat_cmp) (on : p < s * s) (like : own ≡ cell_at cells p) (stone : own ≢ Empty)
    (h : FloodsOut asked s cells own p found wait) (none : wait ≡ sets.empty) where
  -- the point holds a stone
  pub stone_at : is_stone (cell_at cells p) ≡ true
  stone_at = grind arith

  -- the empty points gathered are the liberties
  pub flood_liberties : found.liberties ≡ liberty_points s cells p
  flood_liberties = Gathered-all s cells _ p found.stones wait found.liberties on stone_at h.stones none h.liberties
      ∙ liberties_beside s cells p

  -- where enemies are asked for, those gathered are those next to the string
  pub flood_enemies : asked ≡ true → found.enemies ≡ enemy_points s cells p
  flood_enemies wanted = subst (λ k. found.enemies ≡ set_below (s * s)
      (λ q. is_beside_string s cells p q && is_enemy k (cell_at cells q))) like
      (subst (λ a. found.enemies ≡ set_below (s * s)
      (λ q. is_beside_string s cells p q && is_asked_enemy a own (cell_at cells q))) wanted
      (Gathered-all s cells (is_asked_enemy asked own) p found.stones wait found.enemies on stone_at h.stones none
      h.enemies))

-- nothing is next to an empty point's string
beside_empty : (s : ℕ) (cells : List Cell) (p q : ℕ) → cell_at cells p ≡ Empty → is_beside_string s cells p q ≡ false
unfolding is_beside_string is_in_string
beside_empty s cells p q e = grind (arith, cases_Bool, any_below_gives, and_parts, both_ways)

-- an empty point's string has no neighbour of any kind
none_beside : (s : ℕ) (cells : List Cell) (p : ℕ) (test : Cell → Bool) (found : sets.FinSet nat_cmp)
    → cell_at cells p ≡ Empty → found ≡ sets.empty
    → found ≡ set_below (s * s) (λ q. is_beside_string s cells p q && test (cell_at cells q))
none_beside s cells p test found e is =
    is ∙ same_nat_set _ _ (λ q. sets.contains-empty nat_cmp q
    ∙ sym (contains-set_below (s * s) (λ x. is_beside_string s cells p x && test (cell_at cells x)) q
    ∙ ap (λ b. ltb q (s * s) && (b && test (cell_at cells q))) (beside_empty s cells p q e)
    ∙ and-false (ltb q (s * s))))

-- an empty point has no liberties
pub no_liberties : (s : ℕ) (cells : List Cell) (p : ℕ) (free : sets.FinSet nat_cmp) → cell_at cells p ≡ Empty
    → free ≡ sets.empty → free ≡ liberty_points s cells p
no_liberties s cells p free e is =
    none_beside s cells p (λ cell. same_cell cell Empty) free e is ∙ liberties_beside s cells p

-- nor enemies next to it
pub no_enemies : (s : ℕ) (cells : List Cell) (p : ℕ) (foes : sets.FinSet nat_cmp) → cell_at cells p ≡ Empty
    → foes ≡ sets.empty → foes ≡ enemy_points s cells p
no_enemies s cells p foes e is = none_beside s cells p (is_enemy (cell_at cells p)) foes e is

-- an empty set has no member
pub none_at : (found : sets.FinSet nat_cmp) (q : ℕ) → found ≡ sets.empty → sets.contains found q ≡ true → ⊥
none_at found q e h = both_ways (sets.contains found q)
    (ap (λ t. sets.contains t q) e ∙ sets.contains-empty nat_cmp q) h

module _ (s : ℕ) (cells : List Cell) (p q : ℕ) (foes : sets.FinSet nat_cmp) (e : foes ≡ enemy_points s cells p) where
  -- a member is an enemy next to the string
  pub enemy_beside : sets.contains foes q ≡ true
      → (is_beside_string s cells p q ≡ true) × (is_enemy (cell_at cells p) (cell_at cells q) ≡ true)
  enemy_beside h = grind (arith, and_parts, contains-set_below)

  -- a point of the board that is none of them is no enemy next to the string
  pub no_enemy : q < s * s → sets.contains foes q ≡ false → is_beside_string s cells p q ≡ true
      → is_enemy (cell_at cells p) (cell_at cells q) ≡ true → ⊥
  no_enemy on miss beside enemy = grind (arith, both_ways, contains-set_below, and_from, lt-ltb)

-- an enemy next to the string is close to its points
pub enemy_close : (s : ℕ) (cells : List Cell) (p q : ℕ) (foes : sets.FinSet nat_cmp) → p < s * s
    → foes ≡ enemy_points s cells p → sets.contains foes q ≡ true → neighbourhood_of s cells (alone p) q ≡ true
unfolding is_beside_string
enemy_close s cells p q foes on e h =
    let it = any_below_gives (s * s) _ (enemy_beside s cells p q foes e h).0 in
    let both = and_parts _ _ it.2 in
    let q_on = ltb-true q (s * s) (and_parts _ _
    (sym (ap (λ t. sets.contains t q) e ∙ contains-set_below (s * s) _ q) ∙ h)).0 in
    close_next s cells (alone p) it.0 q q_on (whole_string s cells (alone p) p it.0 on (alone_self p) both.0) both.1
