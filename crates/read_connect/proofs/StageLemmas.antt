-- The stages of the connecting moves are the connecting moves.
use Rattle.std.proofs.Common.{◌≡◌, ℕ, ◌*◌, ◌<◌, ◌&&◌, ◌||◌, ◌⊎◌, ◌==◌, Bool, true, false, not, List, refl, sym, ap}
use Rattle.std.proofs.Common.{inl, inr, ◌∙◌}
use Rattle.std.proofs.lemmas.Bool.{cases_Bool, and_parts, and_from, or_cases, or_left, or_right, lt-ltb}
use Rattle.std.specs.Ordering.{nat_cmp}
use Rattle.std.specs.Cmp.{nat_cmp_total}
use Rattle.std.specs.FinSet as set
use Rattle.go_rules.specs.declared.Cell.{Cell}
use Rattle.go_rules.specs.Below.{any_below}
use Rattle.go_rules.specs.Board.{are_neighbours}
use Rattle.go_rules.specs.Strings.{is_liberty, liberties, liberty_points, string_at}
use Rattle.go_rules.specs.Position.{BoardState}
use Rattle.go_rules.proofs.Counts.{any_below_same}
use Rattle.go_rules.proofs.Sets.{contains-set_below}
use Rattle.go_rules.proofs.Paths.{IsLiberty-from_test}
use Rattle.go_base.specs.Surroundings.{is_only_liberty, is_last_liberty_of_enemy}
use Rattle.go_base.proofs.LastLiberties.{contains-liberty_points}
use Rattle.go_base.proofs.Liberties.{len-liberty_points}
use Rattle.connect_rules.specs.declared.link.Link.{Link}
use Rattle.connect_rules.specs.Connection.{is_one_string}
use Rattle.connect_rules.specs.ConnectingMoves.{is_facing, is_between, is_capture, is_connecting_move}
use Rattle.std.proofs.Common.{None, arith}
use Rattle.connect_rules.proofs.MoveLemmas.{move_on}
use Rattle.go_base.specs.Facts.{Fact, Agrees}
use Rattle.trial_board.specs.Trials.{Trying, after}
use Rattle.trial_board.proofs.AfterLemmas.{size-after}
use Rattle.read_connect.specs.Stages.{is_beside_member, reaches_among, TellsSome}
use Rattle.read_connect.specs.Walk.{AreLiberties}
use Rattle.read_connect.proofs.WalkLemmas.{tells_last}

-- a number is in the intersection of two sets if it is in both
pub in_both : (a b found : set.FinSet nat_cmp) → found ≡ set.intersection a b → (p : ℕ)
    → set.contains found p ≡ (set.contains a p && set.contains b p)
in_both a b found is p = ap (λ s. set.contains s p) is ∙ set.contains-intersection nat_cmp_total a b p

-- a number is in the difference of two sets if it is in the first alone
pub in_first_alone : (a b found : set.FinSet nat_cmp) → found ≡ set.difference a b → (p : ℕ)
    → set.contains found p ≡ (set.contains a p && not (set.contains b p))
in_first_alone a b found is p = ap (λ s. set.contains s p) is ∙ set.contains-difference nat_cmp_total a b p

-- the tests of two points between strings, in any order
module _ (x y n m f g : Bool) where
  -- a point that is a liberty of both, or faces the other string from one, or is the only liberty of one
  abbrev between : Bool
  between = (x && y) || ((x && f) || (y && g)) || ((n && x) || (m && y))

  -- a point that is such by stages
  abbrev staged : Bool
  staged = (x && y) || ((x && (not y && (n || f))) || (y && (not x && (m || g))))

-- the stages have the points between the strings
stages_are : (x y n m f g : Bool) → staged x y n m f g ≡ between x y n m f g
stages_are true true n m f g = refl
stages_are true false true m true g = refl
stages_are true false true m false g = refl
stages_are true false false true true g = refl
stages_are true false false true false g = refl
stages_are true false false false true g = refl
stages_are true false false false false g = refl
stages_are false true true true f true = refl
stages_are false true true true f false = refl
stages_are false true false true f true = refl
stages_are false true false true f false = refl
stages_are false true true false f true = refl
stages_are false true true false f false = refl
stages_are false true false false f true = refl
stages_are false true false false f false = refl
stages_are false false true true f g = refl
stages_are false false true false f g = refl
stages_are false false false true f g = refl
stages_are false false false false f g = refl

-- what is no member of the first set does not reach across
pub none_reaches : (s : ℕ) (points others : set.FinSet nat_cmp) (p : ℕ) → set.contains points p ≡ false
    → reaches_among s points others p ≡ false
none_reaches s points others p none = grind arith

-- a member of the first set is tested for what reaches across
pub reach_test : (s : ℕ) (points others : set.FinSet nat_cmp) (p n : ℕ) (told : Bool)
    → told ≡ (not (set.contains others p) && ((n == 1) || is_beside_member s others p)) → n ≡ set.len points
    → set.contains points p ≡ true → reaches_among s points others p ≡ told
reach_test s points others p n told told_is n_is has = grind arith

-- the points of the liberties of a and b pass the tests for sets as the liberties do
module _ (s : ℕ) (cells : List Cell) (a b : ℕ) (of_a of_b : set.FinSet nat_cmp)
    (a_is : of_a ≡ liberty_points s cells a) (b_is : of_b ≡ liberty_points s cells b) where
  -- a member of the first set is a liberty of a
  has_a : (p : ℕ) → set.contains of_a p ≡ is_liberty s cells a p
  has_a p = ap (λ k. set.contains k p) a_is ∙ contains-liberty_points s cells a p

  -- a member of the second is one of b
  has_b : (p : ℕ) → set.contains of_b p ≡ is_liberty s cells b p
  has_b p = ap (λ k. set.contains k p) b_is ∙ contains-liberty_points s cells b p

  -- a neighbour of a member of the first is beside a liberty of a
  beside_a : (p : ℕ) → is_beside_member s of_a p
      ≡ any_below (s * s) (λ q. is_liberty s cells a q && are_neighbours s q p)
  beside_a p = any_below_same (s * s) _ _ (λ q l. ap (λ x. x && are_neighbours s q p) (has_a q))

  -- a neighbour of a member of the second is beside a liberty of b
  beside_b : (p : ℕ) → is_beside_member s of_b p
      ≡ any_below (s * s) (λ q. is_liberty s cells b q && are_neighbours s q p)
  beside_b p = any_below_same (s * s) _ _ (λ q l. ap (λ x. x && are_neighbours s q p) (has_b q))

  -- the points between the strings, by the sets of the first two stages
  pub by_stages : (p : ℕ)
      → ((set.contains of_a p && set.contains of_b p)
      || (reaches_among s of_a of_b p || reaches_among s of_b of_a p)) ≡ is_between s cells a b p
  unfolding is_between is_facing is_only_liberty
  by_stages p =
      let x = is_liberty s cells a p in
      let y = is_liberty s cells b p in
      let n = liberties s cells a == 1 in
      let m = liberties s cells b == 1 in
      let f = any_below (s * s) (λ q. is_liberty s cells b q && are_neighbours s q p) in
      let g = any_below (s * s) (λ q. is_liberty s cells a q && are_neighbours s q p) in
      ap (λ t. staged t (set.contains of_b p) (set.len of_a == 1) (set.len of_b == 1) (is_beside_member s of_b p)
      (is_beside_member s of_a p)) (has_a p)
      ∙ ap (λ t. staged x t (set.len of_a == 1) (set.len of_b == 1) (is_beside_member s of_b p)
      (is_beside_member s of_a p)) (has_b p)
      ∙ ap (λ t. staged x y (t == 1) (set.len of_b == 1) (is_beside_member s of_b p) (is_beside_member s of_a p))
      (ap set.len a_is ∙ len-liberty_points s cells a)
      ∙ ap (λ t. staged x y n (t == 1) (is_beside_member s of_b p) (is_beside_member s of_a p))
      (ap set.len b_is ∙ len-liberty_points s cells b)
      ∙ ap (λ t. staged x y n m t (is_beside_member s of_a p)) (beside_b p)
      ∙ ap (λ t. staged x y n m f t) (beside_a p)
      ∙ stages_are x y n m f g

-- the connecting moves, by the sets of the stages
pub stage_moves : (link : Link) (s : ℕ) (here : BoardState) (of_a of_b : set.FinSet nat_cmp) → here.size ≡ s
    → of_a ≡ liberty_points s here.cells link.a → of_b ≡ liberty_points s here.cells link.b → (p : ℕ)
    → is_connecting_move link here p ≡ (((set.contains of_a p && set.contains of_b p)
    || (reaches_among s of_a of_b p || reaches_among s of_b of_a p)) || is_capture s here.cells link.a link.b p)
stage_moves link s here of_a of_b size a_is b_is p =
    ap (λ n. is_between n here.cells link.a link.b p || is_capture n here.cells link.a link.b p) size
    ∙ ap (λ x. x || is_capture s here.cells link.a link.b p)
    (sym (by_stages s here.cells link.a link.b of_a of_b a_is b_is p))

-- where the stages of a set of points lie: each stage has connecting moves alone, and the three have all
module _ (link : Link) (s : ℕ) (here : BoardState) (of_a of_b : set.FinSet nat_cmp) (size : here.size ≡ s)
    (a_is : of_a ≡ liberty_points s here.cells link.a) (b_is : of_b ≡ liberty_points s here.cells link.b) where
  -- a liberty of both is a connecting move
  pub shared_is_move : (p : ℕ) → set.contains of_a p && set.contains of_b p ≡ true
      → is_connecting_move link here p ≡ true
  shared_is_move p h = stage_moves link s here of_a of_b size a_is b_is p ∙ or_left _ _ (or_left _ _ h)

  -- a liberty that reaches across is one
  pub crossing_is_move : (p : ℕ) → reaches_among s of_a of_b p || reaches_among s of_b of_a p ≡ true
      → is_connecting_move link here p ≡ true
  crossing_is_move p h = stage_moves link s here of_a of_b size a_is b_is p ∙ or_left _ _ (or_right _ _ h)

  -- each connecting move is in one of the stages
  pub move_stage : (p : ℕ) → is_connecting_move link here p ≡ true
      → (set.contains of_a p && set.contains of_b p ≡ true)
      ⊎ ((reaches_among s of_a of_b p || reaches_among s of_b of_a p ≡ true)
      ⊎ (is_capture s here.cells link.a link.b p ≡ true))
  move_stage p h =
      let both = set.contains of_a p && set.contains of_b p in
      let across = reaches_among s of_a of_b p || reaches_among s of_b of_a p in
      elim (or_cases (both || across) (is_capture s here.cells link.a link.b p)
      (sym (stage_moves link s here of_a of_b size a_is b_is p) ∙ h)) [
        | inl x ↦ elim (or_cases both across x) [ inl y ↦ inl y | inr y ↦ inr (inl y) ]
        | inr x ↦ inr (inr x)
      ]

-- whether the stones that were found of the first string hold the second point
pub one_by : (link : Link) (s : ℕ) (here : BoardState) (stones : set.FinSet nat_cmp) → here.size ≡ s
    → link.b < s * s → stones ≡ string_at s here.cells link.a
    → set.contains stones link.b ≡ is_one_string link here
unfolding string_at
one_by link s here stones size on is = grind (arith, contains-set_below, lt-ltb)

-- a liberty is a point of the board
pub liberty_inside : (s : ℕ) (cells : List Cell) (t p : ℕ) (known : set.FinSet nat_cmp)
    → known ≡ liberty_points s cells t → set.contains known p ≡ true → p < s * s
liberty_inside s cells t p known is has = (IsLiberty-from_test s cells t p
    (sym (ap (λ k. set.contains k p) is ∙ contains-liberty_points s cells t p) ∙ has)).on_board

-- The liberties of the strings after the moves of a board, on a position that agrees with what was seen.
module _ {L : Type 0} {seen : L → Fact → Bool} {board : Trying L} {link : Link} {of_a of_b : set.FinSet nat_cmp}
    (its : AreLiberties seen board link of_a of_b) (pos : BoardState) (agrees : Agrees (seen board.look) pos) where
  -- the liberties of the one string are on the board
  pub a_inside : (p : ℕ) → set.contains of_a p ≡ true → p < pos.size * pos.size
  a_inside p h = liberty_inside pos.size (after pos board.moves).cells link.a p of_a (its.a_liberties pos agrees) h

  -- the liberties of the other string are on the board
  pub b_inside : (p : ℕ) → set.contains of_b p ≡ true → p < pos.size * pos.size
  b_inside p h = liberty_inside pos.size (after pos board.moves).cells link.b p of_b (its.b_liberties pos agrees) h

  -- the liberties of one string that reach across to the other are on the board
  pub crossing_inside : (n p : ℕ) → reaches_among n of_a of_b p || reaches_among n of_b of_a p ≡ true
      → p < pos.size * pos.size
  crossing_inside n p h = elim (or_cases (reaches_among n of_a of_b p) (reaches_among n of_b of_a p) h) [
    | inl x ↦ a_inside p (and_parts _ _ x).0
    | inr x ↦ b_inside p (and_parts _ _ x).0
  ]

-- The first two stages, if these are the liberties of the strings after the moves of a board.
module _ {L : Type 0} {seen : L → Fact → Bool} {board : Trying L} {link : Link} {of_a of_b : set.FinSet nat_cmp}
    (its : AreLiberties seen board link of_a of_b) (found : set.FinSet nat_cmp) where
  -- a liberty of both is a connecting move
  pub shared_move : found ≡ set.intersection of_a of_b → (pos : BoardState) → Agrees (seen board.look) pos → (p : ℕ)
      → set.contains found p ≡ true → is_connecting_move link (after pos board.moves) p ≡ true
  shared_move is pos agrees p h = shared_is_move link pos.size (after pos board.moves) of_a of_b
      (size-after pos board.moves) (its.a_liberties pos agrees) (its.b_liberties pos agrees) p
      (sym (in_both of_a of_b found is p) ∙ h)

  -- a point that was found to reach across on a board of its size is a connecting move
  pub crossing_move : (n : ℕ)
      → ((p : ℕ) → set.contains found p ≡ (reaches_among n of_a of_b p || reaches_among n of_b of_a p))
      → (pos : BoardState) → n ≡ pos.size → Agrees (seen board.look) pos → (p : ℕ) → set.contains found p ≡ true
      → is_connecting_move link (after pos board.moves) p ≡ true
  crossing_move n is pos e agrees p h = crossing_is_move link pos.size (after pos board.moves) of_a of_b
      (size-after pos board.moves) (its.a_liberties pos agrees) (its.b_liberties pos agrees) p
      (ap (λ m. reaches_among m of_a of_b p || reaches_among m of_b of_a p) (sym e) ∙ sym (is p) ∙ h)

-- a capture is on the board
capture_inside : (s : ℕ) (cells : List Cell) (link : Link) (p : ℕ) → is_capture s cells link.a link.b p ≡ true
    → p < s * s
capture_inside s cells link p h =
    move_on link (record { size = s; cells = cells; ban = None }) p (or_right _ _ h)

-- a member of both sets is one of their union
in_union : (a b both : set.FinSet nat_cmp) (p : ℕ) → both ≡ set.union a b → set.contains both p ≡ true
    → (set.contains a p ≡ true) ⊎ (set.contains b p ≡ true)
in_union a b both p is h = or_cases (set.contains a p) (set.contains b p)
    (sym (ap (λ k. set.contains k p) is ∙ set.contains-union nat_cmp_total a b p) ∙ h)

-- the sets of the three stages, found on a board of s rows by the liberties of the two strings
pub record AreStages (link : Link) (s : ℕ) (here : BoardState) (of_a of_b shared across captures : set.FinSet nat_cmp) :
    Type 0 where
  pub size : here.size ≡ s
  pub a_is : of_a ≡ liberty_points s here.cells link.a
  pub b_is : of_b ≡ liberty_points s here.cells link.b
  pub shared_is : shared ≡ set.intersection of_a of_b
  pub across_is : (p : ℕ) → set.contains across p ≡ (reaches_among s of_a of_b p || reaches_among s of_b of_a p)
  pub captures_is : (p : ℕ) → set.contains captures p ≡ is_capture s here.cells link.a link.b p

-- the sets of the three stages are found by the liberties after the moves of a board, on a position that agrees with
-- what was seen
pub stages_found : {L : Type 0} {seen : L → Fact → Bool} {board : Trying L} {link : Link}
    {of_a of_b shared across captures : set.FinSet nat_cmp} {n : ℕ} → AreLiberties seen board link of_a of_b
    → (pos : BoardState) → Agrees (seen board.look) pos → n ≡ pos.size → shared ≡ set.intersection of_a of_b
    → ((p : ℕ) → set.contains across p ≡ (reaches_among n of_a of_b p || reaches_among n of_b of_a p))
    → ((p : ℕ) → set.contains captures p ≡ is_capture pos.size (after pos board.moves).cells link.a link.b p)
    → AreStages link pos.size (after pos board.moves) of_a of_b shared across captures
stages_found {board = board} {of_a = of_a} {of_b = of_b} its pos a e shared_is across_is captures_is =
    grind (arith, size-after pos board.moves)

-- The three stages of the connecting moves.
module _ {link : Link} {s : ℕ} {here : BoardState} {of_a of_b shared across captures : set.FinSet nat_cmp}
    (h : AreStages link s here of_a of_b shared across captures) where
  -- joined they are all connecting moves
  pub all_moves : (two three : set.FinSet nat_cmp) → two ≡ set.union shared across → three ≡ set.union two captures
      → (p : ℕ) → set.contains three p ≡ is_connecting_move link here p
  all_moves two three two_is three_is p =
      ap (λ k. set.contains k p) three_is ∙ set.contains-union nat_cmp_total two captures p
      ∙ ap (λ b. b || set.contains captures p)
      (ap (λ k. set.contains k p) two_is ∙ set.contains-union nat_cmp_total shared across p)
      ∙ ap (λ b. (b || set.contains across p) || set.contains captures p) (in_both of_a of_b shared h.shared_is p)
      ∙ ap (λ b. ((set.contains of_a p && set.contains of_b p) || b) || set.contains captures p) (h.across_is p)
      ∙ ap (λ b. ((set.contains of_a p && set.contains of_b p)
      || (reaches_among s of_a of_b p || reaches_among s of_b of_a p)) || b) (h.captures_is p)
      ∙ sym (stage_moves link s here of_a of_b h.size h.a_is h.b_is p)

  -- The captures of which none was tried.
  module _ (tried rest : set.FinSet nat_cmp) (rest_is : rest ≡ set.difference captures tried) where
    -- one of these is a capture
    rest_is_capture : (p : ℕ) → set.contains rest p ≡ true → is_capture s here.cells link.a link.b p ≡ true
    rest_is_capture p i = grind (arith, in_first_alone captures tried rest rest_is p, and_parts)

    -- a point of the rest is on the board
    pub rest_inside : (p : ℕ) → set.contains rest p ≡ true → p < s * s
    rest_inside p i = capture_inside s here.cells link p (rest_is_capture p i)

    -- a point of the rest is a connecting move
    pub rest_is_move : (p : ℕ) → set.contains rest p ≡ true → is_connecting_move link here p ≡ true
    rest_is_move p i = grind (arith, rest_is_capture)

    -- a connecting move is of the first two stages, or one of these
    covered : tried ≡ set.union shared across → (p : ℕ) → is_connecting_move link here p ≡ true
        → (set.contains shared p ≡ true) ⊎ ((set.contains across p ≡ true) ⊎ (set.contains rest p ≡ true))
    covered tried_is p i = elim (move_stage link s here of_a of_b h.size h.a_is h.b_is p i) [
      | inl x ↦ inl (in_both of_a of_b shared h.shared_is p ∙ x)
      | inr more ↦ elim more [
        | inl x ↦ inr (inl (h.across_is p ∙ x))
        | inr x ↦ elim (cases_Bool (set.contains tried p)) [
          | inl t ↦ elim (in_union shared across tried p tried_is t) [ inl y ↦ inl y | inr y ↦ inr (inl y) ]
          | inr f ↦ inr (inr (in_first_alone captures tried rest rest_is p
              ∙ and_from _ _ (h.captures_is p ∙ x) (ap not f)))
        ]
      ]
    ]

    -- what these tell, if the first two stages have nothing
    pub last_stage : tried ≡ set.union shared across → (test : ℕ → Bool) (one two told : Bool)
        → TellsSome (set.contains shared) test one → one ≡ false
        → TellsSome (set.contains across) test two → two ≡ false
        → TellsSome (set.contains rest) test told → TellsSome (is_connecting_move link here) test told
    last_stage tried_is test one two told a a_none b b_none c = grind (arith, tells_last, rest_is_move, covered)

-- the last liberties beside the one string and beside the other are the captures
pub captures_are : (s : ℕ) (cells : List Cell) (link : Link) (of_a of_b both : set.FinSet nat_cmp) (p : ℕ)
    → both ≡ set.union of_a of_b → set.contains of_a p ≡ is_last_liberty_of_enemy s cells link.a p
    → set.contains of_b p ≡ is_last_liberty_of_enemy s cells link.b p
    → set.contains both p ≡ is_capture s cells link.a link.b p
unfolding is_capture
captures_are s cells link of_a of_b both p is a_is b_is =
    ap (λ k. set.contains k p) is ∙ set.contains-union nat_cmp_total of_a of_b p
    ∙ ap (λ b. b || set.contains of_b p) a_is ∙ ap (λ b. is_last_liberty_of_enemy s cells link.a p || b) b_is
