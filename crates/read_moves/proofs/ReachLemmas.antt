-- What a stone that is played reaches: its empty sides, and the other liberties of the strings that it joins. These are
-- liberties of it, and all of them where it takes nothing.
use Rattle.std.proofs.Common.{◌≡◌, ◌≢◌, ◌⊎◌, ℕ, ◌+◌, ◌*◌, ◌<◌, ◌||◌, Bool, true, false, cond, eqb, List, length}
use Rattle.std.proofs.Common.{Result, Ok, Err, refl, sym, ap, subst, arith, inl, inr, ◌∙◌, set}
use Rattle.std.proofs.lemmas.Bool.{cases_Bool, cases_eq, eq-eqb, eqb-true, both_ways, and_parts, and_from}
use Rattle.std.specs.Ordering.{nat_cmp}
use Rattle.std.specs.Cmp.{nat_cmp_total}
use Rattle.std.specs.FinSet as sets
use Rattle.go_rules.specs.declared.Cell.{Cell}
use Rattle.go_rules.specs.declared.Cell.TheVariants.{Empty}
use Rattle.go_rules.specs.declared.Colour.{Colour}
use Rattle.go_rules.specs.declared.Illegal.{Illegal}
use Rattle.go_rules.specs.Board.{are_neighbours}
use Rattle.go_rules.specs.Strings.{cell_at, is_stone, Path, start, step, IsLiberty, is_liberty, liberties}
use Rattle.go_rules.specs.Strings.{liberty_points}
use Rattle.go_rules.specs.Position.{BoardState, IsPosition, other, stone_of}
use Rattle.go_rules.specs.Play.{play_free, cells_after, is_taken}
use Rattle.go_rules.specs.Rules.{IsCaptured}
use Rattle.go_rules.proofs.Links.{not_its_own, liberty_moves, liberties_from, are_neighbours_comm}
use Rattle.go_rules.proofs.Paths.{same_cell-true, same_cell-from, IsLiberty-from_test, is_liberty-from_fact}
use Rattle.go_rules.proofs.Plays.{at_put_same, at_put_other, at_after, own_not_taken, stone_is}
use Rattle.go_rules.proofs.Plays.{taken_parts, alive_not_taken, taken_beside}
use Rattle.go_rules.proofs.PlayLaws.{done_state, taken_by_words}
use Rattle.go_rules.proofs.OnlyLiberties.{stone_not_empty, only_liberty_captures}
use Rattle.go_rules.proofs.Results.{after_on, free_done}
use Rattle.go_rules.proofs.Sets.{same_nat_set, contains-insert_nat}
use Rattle.go_base.specs.Takes.{TakenBeside}
use Rattle.go_base.proofs.LastLiberties.{contains-liberty_points}
use Rattle.go_base.proofs.Liberties.{len-liberty_points}
use Rattle.read_rules.specs.Candidates.{leaves_only, IsEmptyNeighbour}
use Rattle.read_rules.proofs.CandidateLaws.{size_played, only_gives, only_parts}
use Rattle.go_base.specs.Surroundings.{is_only_liberty}
use Rattle.read_moves.specs.Reaches.{HasOther, Reaches, IsLibertyBeside, IsReached, by_side, by_string}
use Rattle.read_moves.specs.declared.reach.Reach.{Reach}
use Rattle.read_moves.specs.declared.reach.Reach.TheVariants.{Nothing, More}
use Rattle.read_moves.specs.Steps.{is_left, LivesWithout, AllLive, IsQuiet}
use Rattle.read_rules.proofs.AfterPlays.{put_liberty, after_liberty}
use Rattle.read_rules.proofs.OneMember.{one_member}
use Rattle.go_rules.proofs.Tests.{same_tests, and-false}
use Rattle.read_moves.proofs.OtherLiberties.{other_or_only}

-- a point that was empty, or is made empty, is empty
empty_both : (b : Bool) (k : Cell) → k ≡ Empty → cond b Empty k ≡ Empty
empty_both true k e = refl
empty_both false k e = e

-- A stone of c is put at the empty point l of a whole board of s rows, and what it takes is removed.
module _ (s : ℕ) (cells : List Cell) (c : Colour) (l : ℕ) (whole : length cells ≡ s * s) (on : l < s * s)
    (vacant : cell_at cells l ≡ Empty) where
  -- the cells with the stone put
  abbrev put : List Cell
  put = set cells l (stone_of c)

  -- the cells after what it takes was removed
  abbrev gone : List Cell
  gone = cells_after s put c

  -- the stone that was put
  put_here : cell_at put l ≡ stone_of c
  put_here = at_put_same cells l (stone_of c) (subst (λ n. l < n) (sym whole) on)

  -- it stands
  stone_here : cell_at gone l ≡ stone_of c
  stone_here = at_after s put c l on ∙ ap (λ b. cond b Empty (cell_at put l)) (own_not_taken s put c l put_here)
      ∙ put_here

  -- no stone is at l before
  off_point : (d : Colour) (q : ℕ) → cell_at cells q ≡ stone_of d → q ≢ l
  off_point d q stone e = stone_not_empty d (sym stone ∙ ap (cell_at cells) e ∙ vacant)

  -- each stone of the colour stands
  own_stands : (q : ℕ) → q < s * s → cell_at cells q ≡ stone_of c → cell_at gone q ≡ stone_of c
  own_stands q q_on stone =
      let there = at_put_other cells l q (stone_of c) (off_point c q stone) ∙ stone in
      at_after s put c q q_on ∙ ap (λ b. cond b Empty (cell_at put q)) (own_not_taken s put c q there) ∙ there

  -- an empty neighbour of l is a liberty of the stone
  side_gained : (x : ℕ) → IsEmptyNeighbour s cells l x → IsLiberty s gone l x
  side_gained x side = record {
    on_board = side.on_board;
    is_empty = at_after s put c x side.on_board ∙ empty_both (is_taken s put c x) (cell_at put x)
        (at_put_other cells l x (stone_of c)
        (λ e. not_its_own s l (subst (λ y. are_neighbours s l y ≡ true) e side.beside)) ∙ side.is_empty);
    beside = (l, record { stone = ap is_stone stone_here ∙ stone_is c; path = start }, side.beside);
  }

  -- another liberty of a string that the stone joins is one of the stone
  string_gained : (x : ℕ) → IsLibertyBeside s cells c l x → x ≢ l → IsLiberty s gone l x
  string_gained x b ne = liberty_moves s gone l b.q x on
      (record {
        stone = ap is_stone stone_here ∙ stone_is c;
        path = step start b.its.on_board b.beside (own_stands b.q b.its.on_board b.its.stone ∙ sym stone_here);
      })
      (after_liberty s cells c l vacant b.q b.its.on_board x b.its.liberty ne)

  -- what the stone reaches is a liberty of it
  pub gained : (x : ℕ) → IsReached s cells c l x → IsLiberty s gone l x
  gained x (by_side side) = side_gained x side
  gained x (by_string b ne) = string_gained x b ne

  -- Where the string of q, an enemy next to l, has no liberty but l.
  module _ (q : ℕ) (q_on : q < s * s) (beside : are_neighbours s l q ≡ true)
      (enemy : cell_at cells q ≡ stone_of (other c)) (only : (x : ℕ) → IsLiberty s cells q x → x ≡ l) where
    -- its string is captured
    captured : IsCaptured s put c q
    captured = only_liberty_captures s cells c l q whole (record {
      its = record {
        on_board = on;
        is_empty = vacant;
        beside = (
          q,
          record { stone = ap is_stone enemy ∙ stone_is (other c); path = start },
          are_neighbours_comm s q l ∙ beside,
        );
      };
      only = only;
    }) enemy

    -- so it is taken, and the stone at l has a liberty where q stood
    pub freed : IsLiberty s gone l q
    freed = record {
      on_board = q_on;
      is_empty = at_after s put c q q_on ∙ ap (λ b. cond b Empty (cell_at put q))
          (taken_by_words s put c q captured);
      beside = (l, record { stone = ap is_stone stone_here ∙ stone_is c; path = start }, beside);
    }

  -- Where the enemy strings next to l have other liberties, and what is taken hangs on a neighbour of l.
  module _ (live : (q : ℕ) → q < s * s → are_neighbours s l q ≡ true → LivesWithout s cells c l q)
      (hangs : TakenBeside s put c l) where
    -- nothing is taken
    none_taken : (q : ℕ) → q < s * s → is_taken s put c q ≡ false
    none_taken q q_on = elim (cases_Bool (is_taken s put c q)) [
      | inr f ↦ f
      | inl t ↦
          let x = hangs q q_on t in
          let off : x.0 ≢ l =
          λ e. not_its_own s l (subst (λ y. are_neighbours s l y ≡ true) e x.2) in
          let enemy : cell_at cells x.0 ≡ stone_of (other c) =
          sym (at_put_other cells l x.0 (stone_of c) off) ∙ (taken_parts s put c x.0 x.3).0 in
          let other = live x.0 x.1 x.2 enemy in
          let lives = liberties_from s put x.0 other.point x.1
          (put_liberty s cells c l vacant x.0 x.1 other.point other.liberty other.other) in
          absurd (both_ways (is_taken s put c x.0) (alive_not_taken s put c x.0 lives) x.3)
    ]

    -- so the other points are as they were
    stays : (x : ℕ) → x < s * s → x ≢ l → cell_at gone x ≡ cell_at cells x
    stays x x_on ne = at_after s put c x x_on ∙ ap (λ b. cond b Empty (cell_at put x)) (none_taken x x_on)
        ∙ at_put_other cells l x (stone_of c) ne

    -- y stood in the string of a neighbour of l that the stone joins
    record IsJoinedTo (y : ℕ) : Type 0 where
      q : ℕ
      q_on : q < s * s
      near : are_neighbours s l q ≡ true
      stone : cell_at cells q ≡ stone_of c
      path : Path s cells q y

    -- a stone of c next to the stone, or next to a stone of such a string, is of such a string
    joined_next : {y r : ℕ} → r < s * s → are_neighbours s y r ≡ true → cell_at cells r ≡ stone_of c
        → (y ≡ l) ⊎ IsJoinedTo y → IsJoinedTo r
    joined_next {y} {r} r_on near its (inl e) = record {
      q = r;
      q_on = r_on;
      near = subst (λ z. are_neighbours s z r ≡ true) e near;
      stone = its;
      path = start;
    }
    joined_next {y} {r} r_on near its (inr j) = record {
      q = j.q;
      q_on = j.q_on;
      near = j.near;
      stone = j.stone;
      path = step j.path r_on near (its ∙ sym j.stone);
    }

    -- the string of the stone is the stone with the strings that it joins
    from_here : {y : ℕ} → Path s gone l y → (y ≡ l) ⊎ IsJoinedTo y
    from_here start = inl refl
    from_here (step {q = y} {r} path r_on near same) = elim (cases_eq r l) [
      | inl e ↦ inl e
      | inr ne ↦ inr (joined_next r_on near (sym (stays r r_on ne) ∙ same ∙ stone_here) (from_here path))
    ]

    -- a liberty beside a string that the stone joins was one of that string
    liberty_before : (x : ℕ) (lib : IsLiberty s gone l x) → cell_at cells x ≡ Empty → (j : IsJoinedTo lib.beside.0)
        → IsLiberty s cells j.q x
    liberty_before x lib was j = grind (arith, stone_is)

    -- a liberty of the stone's string is beside the stone, or one of a string that it joins
    reached_by : (x : ℕ) (lib : IsLiberty s gone l x) → cell_at cells x ≡ Empty → x ≢ l
        → (lib.beside.0 ≡ l) ⊎ IsJoinedTo lib.beside.0 → IsReached s cells c l x
    reached_by x lib was off v4 = grind (arith, liberty_before)

    -- so the stone has no liberty but what it reaches
    pub only_gained : (x : ℕ) → IsLiberty s gone l x → IsReached s cells c l x
    only_gained x lib = grind (arith, stone_not_empty c, from_here lib.beside.1.path, reached_by, stays)

-- what is reached is empty
pub reached_empty : (s : ℕ) (cells : List Cell) (c : Colour) (l x : ℕ) → IsReached s cells c l x
    → cell_at cells x ≡ Empty
reached_empty s cells c l x (by_side side) = side.is_empty
reached_empty s cells c l x (by_string b ne) = b.its.liberty.is_empty

-- where a string has one liberty, two are the same
same_liberty : (s : ℕ) (cells : List Cell) (l p x : ℕ) → liberties s cells l ≡ 1 → is_liberty s cells l p ≡ true
    → is_liberty s cells l x ≡ true → x ≡ p
same_liberty s cells l p x one its also = one_member (liberty_points s cells l) p x (len-liberty_points s cells l ∙ one)
    (contains-liberty_points s cells l p ∙ its) (contains-liberty_points s cells l x ∙ also)

-- a legal play at l leads to the cells after the stone was put
reached_then : (pos : BoardState) (c : Colour) (l : ℕ) (new : BoardState) (x : ℕ) → l < pos.size * pos.size
    → length pos.cells ≡ pos.size * pos.size → play_free pos c l ≡ Ok new → IsReached pos.size pos.cells c l x
    → IsLiberty pos.size new.cells l x
reached_then pos c l new x on whole legal reached =
    let state = done_state pos c l new legal in
    subst (λ (y : BoardState). IsLiberty pos.size y.cells l x) (sym state.1)
    (gained pos.size pos.cells c l whole on state.0 x reached)

-- a stone that is played at l and reaches a point that is not p has not p as its one liberty
none_by_reached : (pos : BoardState) (c : Colour) (l p : ℕ) → l < pos.size * pos.size
    → length pos.cells ≡ pos.size * pos.size → HasOther (IsReached pos.size pos.cells c l) p
    → (r : Result BoardState Illegal) → play_free pos c l ≡ r → leaves_only l p r ≡ true → ⊥
none_by_reached pos c l p on whole other (Err why) is h = cc
none_by_reached pos c l p on whole other (Ok new) is h =
    grind (
      arith,
      size_played pos c l new is,
      reached_then pos c l new other.point on whole is other.inside,
      only_parts new.size new.cells l p h,
      same_liberty new.size new.cells l p other.point,
      is_liberty-from_fact pos.size new.cells l other.point on,
    )

-- so it leaves nothing
pub reached_leave_none : (pos : BoardState) (c : Colour) (l p : ℕ) → l < pos.size * pos.size
    → length pos.cells ≡ pos.size * pos.size → HasOther (IsReached pos.size pos.cells c l) p
    → leaves_only l p (play_free pos c l) ≡ false
reached_leave_none pos c l p on whole other =
    grind (
      arith,
      cases_Bool (leaves_only l p (play_free pos c l)),
      none_by_reached pos c l p on whole other (play_free pos c l) refl,
    )

-- the play that leaves a liberty is legal, and so its point is empty
pub left_vacant : (here : BoardState) (c : Colour) (l p : ℕ) → is_left here c l p ≡ true → cell_at here.cells l ≡ Empty
left_vacant here c l p left = grind (arith, only_gives, and_parts, done_state)

-- a play that leaves a liberty which was empty before takes nothing, since what it takes leaves it another one
pub left_lives : (here : BoardState) (c : Colour) (l p : ℕ) → l < here.size * here.size
    → length here.cells ≡ here.size * here.size → is_left here c l p ≡ true → AllLive here.size here.cells c l
left_lives here c l p on whole left q q_on beside enemy = elim (other_or_only here.size here.cells q q_on l) [
  | inl o ↦ record { point = o.0; liberty = o.1; other = o.2 }
  | inr only ↦
      let parts = and_parts _ _ left in
      let made = only_gives l p (play_free here c l) parts.1 in
      let state = done_state here c l made.0 made.1 in
      let lib = subst (λ (y : BoardState). IsLiberty here.size y.cells l q) (sym state.1)
      (freed here.size here.cells c l whole on state.0 q q_on beside enemy only) in
      let its = only_parts made.0.size made.0.cells l p made.2 in
      let same = same_liberty made.0.size made.0.cells l p q its.0 its.1
      (ap (λ n. is_liberty n made.0.cells l q) (size_played here c l made.0 made.1)
      ∙ is_liberty-from_fact here.size made.0.cells l q on lib) in
      absurd (stone_not_empty (other c) (sym enemy ∙ ap (cell_at here.cells) same ∙ same_cell-true _ _ parts.0))
]

-- no point is in the empty set
abbrev no_points : sets.FinSet nat_cmp
no_points = sets.empty

-- a set that has p alone has one member
one_point : (points : sets.FinSet nat_cmp) (p : ℕ) → ((x : ℕ) → sets.contains points x ≡ eqb x p)
    → sets.len points ≡ 1
one_point points p only = ap sets.len (same_nat_set points (sets.insert no_points p)
    (λ x. only x ∙ sym (contains-insert_nat no_points p x
    ∙ ap (λ b. eqb x p || b) (sets.contains-empty nat_cmp x) ∙ or_none (eqb x p))))
    ∙ sets.len-insert nat_cmp_total no_points p
    ∙ ap (λ b. cond b (sets.len no_points) (sets.len no_points + 1)) (sets.contains-empty nat_cmp p)
    ∙ ap (λ n. n + 1) (sets.len-empty nat_cmp)
  where
    or_none : (b : Bool) → (b || false) ≡ b
    or_none true = refl
    or_none false = refl

-- A quiet play of c at l.
module _ (here : BoardState) (c : Colour) (l : ℕ) (on : l < here.size * here.size) (quiet : IsQuiet here c l) where
  -- what a quiet play takes would hang on a neighbour of l
  hangs_here : TakenBeside here.size (set here.cells l (stone_of c)) c l
  hangs_here = taken_beside here quiet.sound c l on quiet.is_empty

  -- the one liberty that a quiet play leaves is reached
  left_is_reached : (p : ℕ) (r : Result BoardState Illegal) → play_free here c l ≡ r → leaves_only l p r ≡ true
      → IsReached here.size here.cells c l p
  left_is_reached p (Err why) is h = absurd (let w = h in cc)
  left_is_reached p (Ok new) is h =
      let state = done_state here c l new is in
      let its = (only_parts new.size new.cells l p h).1 in
      let lib = IsLiberty-from_test here.size new.cells l p
      (ap (λ n. is_liberty n new.cells l p) (sym (size_played here c l new is)) ∙ its) in
      only_gained here.size here.cells c l quiet.sound.cells on quiet.is_empty quiet.live hangs_here p
      (subst (λ (y : BoardState). IsLiberty here.size y.cells l p) state.1 lib)

  -- where nothing is reached, nothing is left
  pub quiet_none : ((x : ℕ) → IsReached here.size here.cells c l x → ⊥) → (p : ℕ) → is_left here c l p ≡ false
  quiet_none none p = elim (cases_Bool (is_left here c l p)) [
    | inr f ↦ f
    | inl t ↦ absurd (none p (left_is_reached p (play_free here c l) refl (and_parts _ _ t).1))
  ]

  -- where p alone is reached, p is left
  one_left : (p : ℕ) → IsReached here.size here.cells c l p → ((x : ℕ) → IsReached here.size here.cells c l x → x ≡ p)
      → is_left here c l p ≡ true
  unfolding is_only_liberty
  one_left p its only =
      let s = here.size in
      let lib = gained s here.cells c l quiet.sound.cells on quiet.is_empty p its in
      let some = liberties_from s (after_on here c l) l p on lib in
      let legal = sym (free_done here c l (ap is_stone quiet.is_empty) (λ z. omega (arith, some, z))) in
      let test = is_liberty-from_fact s (after_on here c l) l p on lib in
      let one = sym (len-liberty_points s (after_on here c l) l)
      ∙ one_point (liberty_points s (after_on here c l) l) p (λ x.
      contains-liberty_points s (after_on here c l) l x ∙ same_tests _ _
      (λ h. eq-eqb x p (only x (only_gained s here.cells c l quiet.sound.cells on quiet.is_empty quiet.live hangs_here x
      (IsLiberty-from_test s (after_on here c l) l x h))))
      (λ h. ap (is_liberty s (after_on here c l) l) (eqb-true x p h) ∙ test)) in
      and_from _ _ (same_cell-from _ _ (reached_empty s here.cells c l p its))
      (ap (leaves_only l p) legal ∙ and_from _ _ (eq-eqb _ 1 one) test)

  -- and nothing else
  pub quiet_one : (p : ℕ) → IsReached here.size here.cells c l p
      → ((x : ℕ) → IsReached here.size here.cells c l x → x ≡ p) → (x : ℕ) → is_left here c l x ≡ eqb x p
  quiet_one p its only x = same_tests _ _
      (λ h. eq-eqb x p (only x (left_is_reached x (play_free here c l) refl (and_parts _ _ h).1)))
      (λ h. ap (is_left here c l) (eqb-true x p h) ∙ one_left p its only)

-- where nothing is reached, or two points, no play at l leaves an empty point
pub unless_one : (here : BoardState) (c : Colour) (l p : ℕ) (r : Reach) → l < here.size * here.size → IsPosition here
    → cell_at here.cells l ≡ Empty → (r ≡ Nothing) ⊎ (r ≡ More) → Reaches here.size here.cells c l r
    → is_left here c l p ≡ false
unless_one here c l p r on sound vacant (inr two) reaches = grind (arith, reached_leave_none, and-false)
unless_one here c l p r on sound vacant (inl none) reaches = elim (cases_Bool (is_left here c l p)) [
  | inr f ↦ f
  | inl t ↦ quiet_none here c l on
      (record { sound = sound; is_empty = vacant; live = left_lives here c l p on sound.cells t })
      (subst (Reaches here.size here.cells c l) none reaches) p
]
