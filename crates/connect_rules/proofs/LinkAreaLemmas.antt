-- Where the reading of a node looks: in the active area of each question that has the node in its tree.
use Rattle.std.proofs.Common.{◌≡◌, ◌⊎◌, ℕ, ◌*◌, ◌<◌, Bool, true, List, refl, sym, ap, subst, ◌∙◌, inl, inr, arith}
use Rattle.std.proofs.lemmas.Bool.{and_parts, eqb-true, eq-eqb}
use Rattle.go_rules.specs.declared.Cell.{Cell}
use Rattle.go_rules.specs.Strings.{cell_at, same_cell, is_in_string, IsInString, IsLiberty}
use Rattle.go_rules.specs.Board.{are_neighbours}
use Rattle.go_rules.specs.Neighbourhood.{neighbourhood_of}
use Rattle.go_rules.specs.Position.{BoardState, stone_of}
use Rattle.go_rules.proofs.Paths.{same_cell-true, is_is_in_string-from_fact}
use Rattle.go_rules.proofs.Plays.{stone_is}
use Rattle.go_rules.proofs.StringMembers.{is_in_string_on, string_self}
use Rattle.go_base.specs.Views.{alone}
use Rattle.go_base.proofs.PointNeighbourhoods.{close_self, close_again, close_mono, close_next, whole_self}
use Rattle.go_base.proofs.PointNeighbourhoods.{whole_string}
use Rattle.read_rules.specs.Candidates.{IsTakenAt}
use Rattle.connect_rules.specs.declared.link.Link.{Link}
use Rattle.connect_rules.specs.declared.question.LinkQuestion.{LinkQuestion}
use Rattle.connect_rules.specs.ConnectingMoves.{is_connecting_move, shared, a_faces, b_faces, a_extends, b_extends}
use Rattle.connect_rules.specs.ConnectingMoves.{a_takes, b_takes}
use Rattle.connect_rules.specs.Connection.{both_stand}
use Rattle.connect_rules.specs.Linkages.{link_of}
use Rattle.connect_rules.specs.ConnectionArea.{reach_of, IsInReach, IsNearLink, by_a, by_b, IsNodeOf, InConnectionArea}
use Rattle.connect_rules.proofs.MoveLemmas.{move_gives}

-- The neighbourhoods of the string of t, each within the next.
abbrev once : ℕ → List Cell → ℕ → ℕ → Bool
once s cells t = neighbourhood_of s cells (is_in_string s cells t)

-- the neighbourhood of the neighbourhood of the string of t
abbrev twice : ℕ → List Cell → ℕ → ℕ → Bool
twice s cells t = neighbourhood_of s cells (once s cells t)

-- What lies in them.
module _ (s : ℕ) (cells : List Cell) (t : ℕ) (on : t < s * s) where
  -- a neighbour of the string is in its neighbourhood
  beside : (q p : ℕ) → p < s * s → IsInString s cells t q → are_neighbours s q p ≡ true → once s cells t p ≡ true
  beside q p p_on inside near =
      let q_in = is_is_in_string-from_fact s cells t q on inside in
      close_next s cells (is_in_string s cells t) q p p_on
      (whole_self s cells (is_in_string s cells t) q (is_in_string_on s cells t q on q_in) q_in) near

  -- a liberty of the string lies in its second neighbourhood
  liberty_twice : (p : ℕ) → IsLiberty s cells t p → twice s cells t p ≡ true
  liberty_twice p lib = close_again s cells (is_in_string s cells t) p
      (beside lib.beside.0 p lib.on_board lib.beside.1 lib.beside.2)

  -- the last liberty of an enemy string next to the string lies in its second neighbourhood
  taken_twice : (q p : ℕ) → IsTakenAt s cells t q p → twice s cells t p ≡ true
  taken_twice q p taken =
      let r = taken.last.beside in
      let r_in = is_is_in_string-from_fact s cells q r.0 taken.on_board r.1 in
      close_next s cells (once s cells t) r.0 p taken.last.on_board
      (whole_string s cells (once s cells t) q r.0 taken.on_board
      (beside taken.beside.0 q taken.on_board taken.beside.1 taken.beside.2) r_in) r.2

  -- what lies in the second is in the string's reach
  second : (p : ℕ) → twice s cells t p ≡ true → reach_of s cells (is_in_string s cells t) p ≡ true
  unfolding reach_of
  second p h = close_again s cells (twice s cells t) p (close_again s cells (once s cells t) p h)

  -- the second neighbourhood of the point lies in the reach of its string
  reach_twice : ((q : ℕ) → alone t q ≡ true → is_in_string s cells t q ≡ true) → (p : ℕ)
      → neighbourhood_of s cells (neighbourhood_of s cells (alone t)) p ≡ true
      → reach_of s cells (is_in_string s cells t) p ≡ true
  reach_twice self p h = second p (close_mono s cells (neighbourhood_of s cells (alone t)) (once s cells t)
      (close_mono s cells (alone t) (is_in_string s cells t) self) p h)

  -- a play at a point of the second neighbourhood looks within the reach
  reach_play : (q p : ℕ) → twice s cells t q ≡ true
      → neighbourhood_of s cells (neighbourhood_of s cells (alone q)) p ≡ true
      → reach_of s cells (is_in_string s cells t) p ≡ true
  unfolding reach_of
  reach_play q p h k = close_mono s cells (neighbourhood_of s cells (alone q)) (neighbourhood_of s cells
      (twice s cells t))
      (close_mono s cells (alone q) (twice s cells t) (λ r e. ap (twice s cells t) (eqb-true r q e) ∙ h)) p k

-- a connecting move lies in the second neighbourhood of one of the two strings
move_near : (link : Link) (pos : BoardState) (p : ℕ) → link.a < pos.size * pos.size → link.b < pos.size * pos.size
    → is_connecting_move link pos p ≡ true
    → (twice pos.size pos.cells link.a p ≡ true) ⊎ (twice pos.size pos.cells link.b p ≡ true)
move_near link pos p a_on b_on h = elim (move_gives link pos p h) [
  | shared x y ↦ inl (liberty_twice pos.size pos.cells link.a a_on p x)
  | a_faces q w ↦ inl (liberty_twice pos.size pos.cells link.a a_on p w.its)
  | b_faces q w ↦ inr (liberty_twice pos.size pos.cells link.b b_on p w.its)
  | a_extends w ↦ inl (liberty_twice pos.size pos.cells link.a a_on p w.last)
  | b_extends w ↦ inr (liberty_twice pos.size pos.cells link.b b_on p w.last)
  | a_takes q w ↦ inl (taken_twice pos.size pos.cells link.a a_on q p w)
  | b_takes q w ↦ inr (taken_twice pos.size pos.cells link.b b_on q p w)
]

-- a stone of a colour is in its own string
alone_in : (s : ℕ) (cells : List Cell) (link : Link) (t q : ℕ) → t < s * s
    → same_cell (cell_at cells t) (stone_of link.colour) ≡ true → alone t q ≡ true → is_in_string s cells t q ≡ true
alone_in s cells link t q on stands h = grind (arith, eqb-true, string_self, same_cell-true, stone_is)

-- the point names one of the two strings
abbrev pub IsEnd : Link → ℕ → Type 0
IsEnd link x = (x ≡ link.a) ⊎ (x ≡ link.b)

-- what is in the reach of one of the two is near them
near_end : (link : Link) (pos : BoardState) (x p : ℕ) → IsEnd link x → IsInReach link pos x p → IsNearLink link pos p
near_end link pos x p (inl e) w = by_a (subst (λ y. IsInReach link pos y p) e w)
near_end link pos x p (inr e) w = by_b (subst (λ y. IsInReach link pos y p) e w)

-- The looks at a node of the tree if both strings stand, on a board of size s.
module _ (q : LinkQuestion) (root here : BoardState) (n : ℕ) (own : Bool) (tree : IsNodeOf q root n own here)
    (s : ℕ) (size : here.size ≡ s) (a_on : q.a < s * s) (b_on : q.b < s * s)
    (stand : both_stand (link_of q) here ≡ true) where
  -- both points are on the board of the node
  end_on : (x : ℕ) → IsEnd (link_of q) x → x < here.size * here.size
  end_on x (inl e) = subst (λ m. x < m * m) (sym size) (subst (λ y. y < s * s) (sym e) a_on)
  end_on x (inr e) = subst (λ m. x < m * m) (sym size) (subst (λ y. y < s * s) (sym e) b_on)

  -- and hold stones of the colour
  end_stands : (x : ℕ) → IsEnd (link_of q) x → same_cell (cell_at here.cells x) (stone_of q.colour) ≡ true
  end_stands x (inl e) = subst (λ y. same_cell (cell_at here.cells y) (stone_of q.colour) ≡ true) (sym e)
      (and_parts _ _ stand).0
  end_stands x (inr e) = subst (λ y. same_cell (cell_at here.cells y) (stone_of q.colour) ≡ true) (sym e)
      (and_parts _ _ stand).1

  -- what is in the reach of one of the strings is in the area
  in_area : (x p : ℕ) → IsEnd (link_of q) x
      → reach_of here.size here.cells (is_in_string here.size here.cells x) p ≡ true → InConnectionArea q root p
  in_area x p end near = record {
    plies = n;
    own = own;
    here = here;
    in_tree = tree;
    near = near_end (link_of q) here x p end (record { stands = end_stands x end; near = near });
  }

  -- where the surroundings of one of the strings are looked for
  pub area_twice : (x : ℕ) → IsEnd (link_of q) x → (p : ℕ)
      → neighbourhood_of s here.cells (neighbourhood_of s here.cells (alone x)) p ≡ true → InConnectionArea q root p
  area_twice x end p h = in_area x p end
      (reach_twice here.size here.cells x (end_on x end)
      (λ r. alone_in here.size here.cells (link_of q) x r (end_on x end) (end_stands x end)) p
      (subst (λ m. neighbourhood_of m here.cells (neighbourhood_of m here.cells (alone x)) p ≡ true) (sym size) h))

  -- what lies in the neighbourhood of one of the points
  pub area_once : (x : ℕ) → IsEnd (link_of q) x → (p : ℕ) → neighbourhood_of s here.cells (alone x) p ≡ true
      → InConnectionArea q root p
  area_once x end p h = area_twice x end p (close_again s here.cells (alone x) p h)

  -- one of the points itself
  pub area_end : (x : ℕ) → IsEnd (link_of q) x → InConnectionArea q root x
  area_end x end = area_once x end x (close_self s here.cells (alone x) x
      (subst (λ m. x < m * m) size (end_on x end)) (eq-eqb x x refl))

  -- what a play at a connecting move looks at
  pub area_play : (r p : ℕ) → is_connecting_move (link_of q) here r ≡ true
      → neighbourhood_of s here.cells (neighbourhood_of s here.cells (alone r)) p ≡ true → InConnectionArea q root p
  area_play r p c h =
      let k = subst (λ m. neighbourhood_of m here.cells (neighbourhood_of m here.cells (alone r)) p ≡ true)
      (sym size) h in
      elim (move_near (link_of q) here r (end_on q.a (inl refl)) (end_on q.b (inr refl)) c) [
        | inl x ↦ in_area q.a p (inl refl) (reach_play here.size here.cells q.a (end_on q.a (inl refl)) r p x k)
        | inr x ↦ in_area q.b p (inr refl) (reach_play here.size here.cells q.b (end_on q.b (inr refl)) r p x k)
      ]
