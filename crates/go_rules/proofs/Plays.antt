-- What a play leaves.
use Rattle.std.proofs.Common.{◌≡◌, ◌≢◌, ℕ, ◌*◌, ◌<◌, ◌&&◌, true, false, cond, List, length, map, refl, sym, ap, subst}
use Rattle.std.proofs.Common.{arith, inl, inr, ◌⊎◌, ◌∙◌, get_or-set_same, get_or-set_other}
use Rattle.std.proofs.Math.ListN.{set}
use Rattle.std.specs.List.{range_with_len}
use Rattle.std.proofs.lemmas.List.FromFn.{get_or-map-range_with_len, length-map-range_with_len, fill_by_all}
use Rattle.std.specs.Ordering.{nat_cmp}
use Rattle.std.specs.FinSet as sets
use Rattle.go_rules.proofs.Sets.{contains-set_below}
use Rattle.std.proofs.lemmas.Bool.{cases_Bool, cases_eq, eq-eqb, eqb-true, both_ways, and_parts, and_from, lt-ltb}
use Rattle.std.proofs.lemmas.Bool.{false_from_ne_true}
use Rattle.go_rules.specs.declared.Cell.{Cell}
use Rattle.go_rules.specs.declared.Cell.TheVariants.{Empty, Black, White}
use Rattle.go_rules.specs.declared.Colour.{Colour}
use Rattle.go_rules.specs.declared.Colour.TheVariants.{Black as black, White as white}
use Rattle.go_rules.specs.Board.{are_neighbours}
use Rattle.go_rules.specs.Strings.{cell_at, is_stone, same_cell, Path, step, IsLiberty, liberties}
use Rattle.go_rules.specs.Position.{BoardState, IsPosition, other, stone_of}
use Rattle.go_rules.specs.Play.{is_taken, taken_at, cells_after}
use Rattle.go_rules.proofs.Paths.{path_on_board, same_cell-true, same_cell-from}
use Rattle.go_rules.proofs.Links.{path_same, path_back, path_keeps, liberty_moves, liberties_some, liberties_from}
use Rattle.go_rules.proofs.Links.{are_neighbours_comm}

-- the cell of a colour holds a stone
pub stone_is : (c : Colour) → is_stone (stone_of c) ≡ true
stone_is black = refl
stone_is white = refl

-- the colours have different stones
pub enemy_differs : (c : Colour) → stone_of (other c) ≡ stone_of c → ⊥
enemy_differs black h = both_ways (same_cell White Black) refl (same_cell-from White Black h)
enemy_differs white h = both_ways (same_cell Black White) refl (same_cell-from Black White h)

-- a stone is of one of the two colours
stone_cases : (c : Colour) (k : Cell) → is_stone k ≡ true → (k ≡ stone_of c) ⊎ (k ≡ stone_of (other c))
stone_cases c Empty h = absurd (both_ways false refl h)
stone_cases black Black h = inl refl
stone_cases black White h = inr refl
stone_cases white Black h = inr refl
stone_cases white White h = inl refl

-- what is no stone is empty
pub empty_from : (k : Cell) → is_stone k ≡ false → k ≡ Empty
empty_from Empty h = refl
empty_from Black h = absurd (both_ways true h refl)
empty_from White h = absurd (both_ways true h refl)

-- the point of a put holds what was put
pub at_put_same : (cells : List Cell) (p : ℕ) (k : Cell) → p < length cells → cell_at (set cells p k) p ≡ k
at_put_same cells p k h = get_or-set_same cells p k Empty h

-- a put changes no other point
pub at_put_other : (cells : List Cell) (p q : ℕ) (k : Cell) → q ≢ p → cell_at (set cells p k) q ≡ cell_at cells q
at_put_other cells p q k ne = get_or-set_other cells p q k Empty ne

-- the cells after a play are as many as the points
pub length_after : (s : ℕ) (put : List Cell) (c : Colour) → length (cells_after s put c) ≡ s * s
unfolding cells_after
length_after s put c = length-map-range_with_len _ 0 (s * s)

-- what a point holds after a play
pub at_after : (s : ℕ) (put : List Cell) (c : Colour) (q : ℕ) → q < s * s
    → cell_at (cells_after s put c) q ≡ cond (is_taken s put c q) Empty (cell_at put q)
unfolding cells_after
at_after s put c q h = get_or-map-range_with_len _ 0 (s * s) q q Empty h (omega arith)

-- the two parts of being taken
pub taken_parts : (s : ℕ) (put : List Cell) (c : Colour) (q : ℕ) → is_taken s put c q ≡ true
    → (cell_at put q ≡ stone_of (other c)) × (liberties s put q ≡ 0)
unfolding is_taken
taken_parts s put c q h = let parts = and_parts _ _ h in (same_cell-true _ _ parts.0, eqb-true _ _ parts.1)

-- an enemy whose string has no liberty is taken
pub taken_from : (s : ℕ) (put : List Cell) (c : Colour) (q : ℕ) → cell_at put q ≡ stone_of (other c)
    → liberties s put q ≡ 0 → is_taken s put c q ≡ true
unfolding is_taken
taken_from s put c q e z = and_from _ _ (same_cell-from _ _ e) (eq-eqb _ _ z)

-- a stone of the player is not taken
pub own_not_taken : (s : ℕ) (put : List Cell) (c : Colour) (q : ℕ) → cell_at put q ≡ stone_of c
    → is_taken s put c q ≡ false
own_not_taken s put c q e = grind (arith, false_from_ne_true, enemy_differs, taken_parts)

-- an empty point is not taken
pub empty_not_taken : (s : ℕ) (put : List Cell) (c : Colour) (q : ℕ) → cell_at put q ≡ Empty
    → is_taken s put c q ≡ false
empty_not_taken s put c q e = grind (arith, false_from_ne_true, both_ways, taken_parts, stone_is)

-- a stone whose string has a liberty is not taken
pub alive_not_taken : (s : ℕ) (put : List Cell) (c : Colour) (q : ℕ) → 0 < liberties s put q
    → is_taken s put c q ≡ false
alive_not_taken s put c q h = grind (arith, cases_Bool, taken_parts)

-- A string without liberties is taken whole.
pub taken_whole : (s : ℕ) (put : List Cell) (c : Colour) (q x : ℕ) → q < s * s → is_taken s put c q ≡ true
    → Path s put q x → is_taken s put c x ≡ true
taken_whole s put c q x on t path =
    grind (
      arith,
      taken_parts,
      path_on_board,
      path_same,
      taken_from,
      cases_eq,
      liberties_some,
      stone_is,
      liberties_from,
      liberty_moves,
    )

-- the removal of a set's stones, if the set is what is taken
pub after_from : (s : ℕ) (put : List Cell) (c : Colour) (taken : sets.FinSet nat_cmp) → taken ≡ taken_at s put c
    → length put ≡ s * s
    → map (λ q. cond (sets.contains taken q) Empty (cell_at put q)) (range_with_len 0 (length put))
    ≡ cells_after s put c
unfolding cells_after taken_at
after_from s put c taken e l =
    fill_by_all (λ q. cond (is_taken s put c q) Empty (cell_at put q))
    (map (λ q. cond (sets.contains taken q) Empty (cell_at put q)) (range_with_len 0 (length put))) (s * s) Empty
    (length-map-range_with_len _ 0 (length put) ∙ l)
    (λ k h. get_or-map-range_with_len (λ q. cond (sets.contains taken q) Empty (cell_at put q)) 0 (length put) k k Empty
    (omega arith) (omega arith)
    ∙ ap (λ b. cond b Empty (cell_at put k)) (ap (λ t. sets.contains t k) e
    ∙ contains-set_below (s * s) (is_taken s put c) k ∙ ap (λ b. b && is_taken s put c k) (lt-ltb k (s * s) h)))

module _ (pos : BoardState) (good : IsPosition pos) (c : Colour) (p : ℕ) (p_on : p < pos.size * pos.size)
    (p_empty : cell_at pos.cells p ≡ Empty) where
  -- the point of the play has a cell
  p_in : p < length pos.cells
  p_in = omega (arith, good.cells, p_on)

  -- a point that holds a stone is not the point of the play
  not_p : (q : ℕ) → is_stone (cell_at pos.cells q) ≡ true → q ≢ p
  not_p q stone e = both_ways (is_stone Empty) refl (ap is_stone (sym (ap (cell_at pos.cells) e ∙ p_empty)) ∙ stone)

  -- Whatever is taken is the string of a neighbour of the played stone.
  pub taken_beside : (q : ℕ) → q < pos.size * pos.size → is_taken pos.size (set pos.cells p (stone_of c)) c q ≡ true
      → (x : ℕ) × (x < pos.size * pos.size) × (are_neighbours pos.size p x ≡ true)
      × (is_taken pos.size (set pos.cells p (stone_of c)) c x ≡ true) × Path pos.size (set pos.cells p (stone_of c)) x q
  taken_beside q q_on t =
      let parts = taken_parts pos.size (set pos.cells p (stone_of c)) c q t in
      let q_not : q ≢ p = λ e. enemy_differs c (sym parts.0 ∙ ap (cell_at (set pos.cells p (stone_of c))) e
      ∙ at_put_same pos.cells p (stone_of c) p_in) in
      let old : cell_at pos.cells q ≡ stone_of (other c) =
      sym (at_put_other pos.cells p q (stone_of c) q_not) ∙ parts.0 in
      let old_stone : is_stone (cell_at pos.cells q) ≡ true = ap is_stone old ∙ stone_is (other c) in
      let l = liberties_some pos.size pos.cells q (good.alive q q_on old_stone) in
      let x = l.1.beside.0 in
      let there : Path pos.size (set pos.cells p (stone_of c)) q x =
      path_keeps pos.size pos.cells (set pos.cells p (stone_of c)) q
      (λ y w. at_put_other pos.cells p y (stone_of c)
      (not_p y (ap is_stone (path_same pos.size pos.cells q w) ∙ old_stone))) l.1.beside.1.path in
      let x_on = path_on_board pos.size (set pos.cells p (stone_of c)) q q_on there in
      elim (cases_eq l.0 p) [
        | inl e ↦ (
          x,
          x_on,
          are_neighbours_comm pos.size p x ∙ subst (λ z. are_neighbours pos.size x z ≡ true) e l.1.beside.2,
          taken_whole pos.size (set pos.cells p (stone_of c)) c q x q_on t there,
          path_back pos.size (set pos.cells p (stone_of c)) q q_on there,
        )
        | inr ne ↦
            let lib : IsLiberty pos.size (set pos.cells p (stone_of c)) q l.0 = record {
              on_board = l.1.on_board;
              is_empty = at_put_other pos.cells p l.0 (stone_of c) ne ∙ l.1.is_empty;
              beside = (x, record { stone = ap is_stone parts.0 ∙ stone_is (other c); path = there }, l.1.beside.2);
            } in
            let alive = liberties_from pos.size (set pos.cells p (stone_of c)) q l.0 q_on lib in
            absurd (omega (arith, alive, parts.1))
      ]

  -- a stone of the player elsewhere stood before the play
  own_old : (q : ℕ) → q ≢ p → cell_at (set pos.cells p (stone_of c)) q ≡ stone_of c
      → is_stone (cell_at pos.cells q) ≡ true
  own_old q ne e = ap is_stone (sym (at_put_other pos.cells p q (stone_of c) ne) ∙ e) ∙ stone_is c

  -- The cells after the play: what was taken from those with the stone put.
  module _ (after : List Cell) (is : after ≡ cells_after pos.size (set pos.cells p (stone_of c)) c) where
    -- the cells with the stone put, before anything is taken
    abbrev put : List Cell
    put = set pos.cells p (stone_of c)

    -- a point that is not taken keeps its cell
    stays : (x : ℕ) → x < pos.size * pos.size → is_taken pos.size put c x ≡ false → cell_at after x ≡ cell_at put x
    stays x on f = ap (λ t. cell_at t x) is ∙ at_after pos.size put c x on ∙ ap (λ b. cond b Empty (cell_at put x)) f

    -- a point where a stone is left was not taken
    was_left : (x : ℕ) → x < pos.size * pos.size → is_stone (cell_at after x) ≡ true → is_taken pos.size put c x ≡ false
    was_left x on stone = grind (arith, cases_Bool, both_ways, at_after)

    -- an empty point stays empty
    clear : (x : ℕ) → x < pos.size * pos.size → cell_at put x ≡ Empty → cell_at after x ≡ Empty
    clear x on e = stays x on (empty_not_taken pos.size put c x e) ∙ e

    -- the played stone stands
    played : cell_at after p ≡ stone_of c
    played = grind (arith, at_put_same, stays, own_not_taken)

    -- a string that a path joins to a string with a liberty has one
    joined_alive : (q r : ℕ) → q < pos.size * pos.size → is_stone (cell_at after q) ≡ true → Path pos.size after q r
        → 0 < liberties pos.size after r → 0 < liberties pos.size after q
    joined_alive q r q_on stone there alive = grind (arith, liberties_some, liberties_from, liberty_moves)

    -- the stones of an older string of the player are left as they were
    own_kept : (q : ℕ) → q < pos.size * pos.size → cell_at pos.cells q ≡ stone_of c
        → (y : ℕ) → Path pos.size pos.cells q y → cell_at after y ≡ cell_at pos.cells y
    own_kept q q_on own y w = grind (arith, path_same, stone_is, at_put_other, stays, path_on_board, own_not_taken)

    -- an older string of the player has a liberty, or is joined to the played stone
    own_alive : 0 < liberties pos.size after p → (q : ℕ) → q < pos.size * pos.size → q ≢ p
        → cell_at put q ≡ stone_of c → is_stone (cell_at after q) ≡ true → 0 < liberties pos.size after q
    own_alive p_alive q q_on ne own stone =
        let own_before : cell_at pos.cells q ≡ stone_of c = sym (at_put_other pos.cells p q (stone_of c) ne) ∙ own in
        let l = liberties_some pos.size pos.cells q (good.alive q q_on (own_old q ne own)) in
        let there : Path pos.size after q l.1.beside.0 =
        path_keeps pos.size pos.cells after q (own_kept q q_on own_before) l.1.beside.1.path in
        elim (cases_eq l.0 p) [
          | inl e ↦
              let near : are_neighbours pos.size l.1.beside.0 p ≡ true =
              subst (λ z. are_neighbours pos.size l.1.beside.0 z ≡ true) e l.1.beside.2 in
              let q_after : cell_at after q ≡ stone_of c = stays q q_on (was_left q q_on stone) ∙ own in
              joined_alive q p q_on stone (step there p_on near (played ∙ sym q_after)) p_alive
          | inr l_not ↦
              grind (
                arith,
                liberties_from pos.size after q l.0 q_on,
                clear l.0 l.1.on_board (at_put_other pos.cells p l.0 (stone_of c) l_not ∙ l.1.is_empty),
                at_put_other pos.cells p l.0 (stone_of c) l_not,
              )
        ]

    -- the stones of a string of which one is left are all left
    enemy_kept : (q : ℕ) → q < pos.size * pos.size → is_stone (cell_at after q) ≡ true
        → (y : ℕ) → Path pos.size put q y → cell_at after y ≡ cell_at put y
    enemy_kept q q_on stone y w =
        grind (arith, path_on_board, cases_Bool, both_ways, was_left, taken_whole, path_back, stays)

    -- an enemy's string that was not taken has a liberty
    enemy_alive : (q : ℕ) → q < pos.size * pos.size → cell_at put q ≡ stone_of (other c)
        → is_stone (cell_at after q) ≡ true → 0 < liberties pos.size after q
    enemy_alive q q_on enemy stone = elim (cases_eq (liberties pos.size put q) 0) [
      | inl z ↦ absurd (both_ways (is_taken pos.size put c q) (was_left q q_on stone)
          (taken_from pos.size put c q enemy z))
      | inr nz ↦
          let l = liberties_some pos.size put q (omega arith) in
          let there : Path pos.size after q l.1.beside.0 =
          path_keeps pos.size put after q (enemy_kept q q_on stone) l.1.beside.1.path in
          liberties_from pos.size after q l.0 q_on (record {
            on_board = l.1.on_board;
            is_empty = clear l.0 l.1.on_board l.1.is_empty;
            beside = (l.1.beside.0, record { stone = stone; path = there }, l.1.beside.2);
          })
    ]

    -- if the played stone's string has a liberty, every string has one
    pub after_alive : 0 < liberties pos.size after p
        → (q : ℕ) → q < pos.size * pos.size → is_stone (cell_at after q) ≡ true → 0 < liberties pos.size after q
    after_alive p_alive q q_on stone = grind (arith, stays, was_left, stone_cases, cases_eq, own_alive, enemy_alive)
