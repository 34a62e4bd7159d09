-- What a proof shows: the points on which it rests are a zone.
use Rattle.std.proofs.Common.{◌≡◌, ◌∙◌, ℕ, ◌-◌, ◌*◌, ◌<◌, ◌≤◌, ◌&&◌, ◌||◌, Bool, true, false, cond}
use Rattle.std.proofs.Common.{List, Option, Some, None, Err, refl, sym, ap, subst, inl, inr, arith, eqb, ltb}
use Rattle.std.specs.FinSet as sets
use Rattle.std.proofs.lemmas.List.{get_or_past}
use Rattle.std.proofs.lemmas.Bool.{cases_Bool, cases_lt, both_ways, and_parts, and_from, eqb-true, lt-ltb, ltb-true}
use Rattle.go_rules.specs.declared.Cell.{Cell}
use Rattle.go_rules.specs.declared.Cell.TheVariants.{Empty, Black, White}
use Rattle.go_rules.specs.declared.Colour.{Colour}
use Rattle.go_rules.specs.declared.Illegal.TheVariants.{Ko}
use Rattle.go_rules.specs.Board.{are_neighbours}
use Rattle.go_rules.specs.Strings.{cell_at, is_stone, same_cell, is_liberty, liberties}
use Rattle.go_rules.specs.Position.{BoardState, IsPosition, board_of, is_banned, same_colour, other, stone_of}
use Rattle.go_rules.specs.Play.{play, play_free}
use Rattle.go_rules.proofs.Counts.{count_below_same, any_below_gives}
use Rattle.go_rules.proofs.Paths.{IsLiberty-from_test, is_liberty-from_fact, same_cell-true}
use Rattle.go_rules.proofs.Plays.{stone_is}
use Rattle.go_rules.proofs.PlayLaws.{play_done, position_in_words, done_state}
use Rattle.go_base.specs.Sides.{neighbour_at}
use Rattle.go_base.proofs.SidesOfPoints.{neighbour_at-all, neighbour_at-near}
use Rattle.read_rules.specs.ActiveArea.{AgreeOn}
use Rattle.read_rules.specs.Candidates.{is_candidate, is_backfilling}
use Rattle.read_rules.specs.declared.node.Node.{Node}
use Rattle.read_rules.specs.declared.turn.Turn.{Turn}
use Rattle.read_rules.specs.Trees.{most_narrow}
use Rattle.read_rules.specs.GameTree.{has_many_liberties}
use Rattle.read_rules.specs.Turns.{mover_of}
use Rattle.read_rules.specs.Rules.{IsChild}
use Rattle.read_rules.proofs.LibertyLemmas.{child_free}
use Rattle.sure_rules.specs.Zones.{points_of, IsZone}
use Rattle.sure_proof.specs.Rests.{Points, union_below, close_to, shows_atari, shows_neighbour, play_rests_on}
use Rattle.sure_proof.specs.Rests.{is_empty_at, has_empty_neighbour, shows_cell}
use Rattle.sure_proof.specs.Gathered.{IsWithin}
use Rattle.sure_proof.proofs.ShownLemmas.{insert_self, insert_more, union_all, SameOn, IsShown, shown, close_shows}
use Rattle.sure_proof.proofs.PlayLemmas.{HasRoom, LooksSame, LooksSame-sym, IsSamePlay, state, done_on}

-- the members of a set
abbrev pub has : Points → ℕ → Bool
has Z q = sets.contains Z q

-- no play beyond the board is banned
no_ban_beyond : (ban : Option (ℕ × Colour)) (c : Colour) (n q : ℕ) → ((r : ℕ) (k : Colour) → ban ≡ Some (r, k) → r < n)
    → n ≤ q → is_banned ban c q ≡ false
no_ban_beyond None c n q low high = refl
no_ban_beyond (Some b) c n q low high = elim (cases_Bool (eqb b.0 q && same_colour b.1 c)) [
  | inl t ↦ absurd (
      let less = low b.0 b.1 refl in
      let e = eqb-true b.0 q (and_parts (eqb b.0 q) (same_colour b.1 c) t).0 in
      omega (arith, less, e, high))
  | inr f ↦ f
]

-- the points of a set that are on a board of s rows
abbrev pub on_board : ℕ → Points → ℕ → Bool
on_board s Z q = has Z q && ltb q (s * s)

-- positions that agree on the points of a set that are on the board agree on the set
agree_everywhere : (Z : Points) (a b : BoardState) → IsPosition a → IsPosition b
    → AgreeOn (points_of (on_board a.size Z)) a b → AgreeOn (points_of (has Z)) a b
agree_everywhere Z a b good_a good_b same =
    grind (arith, cases_lt, and_from, lt-ltb, get_or_past, no_ban_beyond, position_in_words)

-- so the points of a zone that are on the board are a zone
pub zone_on_board : (n : ℕ) (node : Node) (pos : BoardState) (Z : Points) → IsPosition pos → IsZone n node pos (has Z)
    → IsZone n node pos (on_board pos.size Z)
zone_on_board n node pos Z good zone = λ here sound same. zone here sound (agree_everywhere Z pos here good sound same)

-- the cells of a position without its ban, on a board of as many rows
bare : (pos : BoardState) (s : ℕ) → pos.size ≡ s → IsPosition pos → IsPosition (board_of s pos.cells)
bare pos s e good = grind arith

-- q is among what shows whether its string is in atari
pub shows_self : (s : ℕ) (cells : List Cell) (Z : Points) (q : ℕ) → has (shows_atari s cells Z q) q ≡ true
unfolding shows_atari
shows_self s cells Z q = insert_self q _

-- What a play of c at p rests on, if what follows rests on Z.
module _ (s : ℕ) (cells : List Cell) (c : Colour) (Z : Points) (p : ℕ) where
  -- the points that are in the set already: those of Z and p
  abbrev pub near : Points
  near = sets.insert Z p

  -- what a neighbour shows
  abbrev pub side_shows : ℕ → Points
  side_shows i = shows_neighbour s cells c (has_empty_neighbour s cells p) near (neighbour_at s p i)

  -- p is among it
  pub play_self : has (play_rests_on s cells c Z p) p ≡ true
  unfolding play_rests_on
  play_self = insert_self p _

  -- A neighbour of p.
  module _ (q : ℕ) (on : p < s * s) (q_on : q < s * s) (beside : are_neighbours s p q ≡ true) where
    -- what it shows is among it
    side_in : (x : ℕ) → has (shows_neighbour s cells c (has_empty_neighbour s cells p) near (Some q)) x ≡ true
        → has (play_rests_on s cells c Z p) x ≡ true
    unfolding play_rests_on
    side_in x inside =
        let side = neighbour_at-all s p q on q_on beside in
        insert_more x (union_below 4 side_shows) p
        (union_all x 4 side_shows side.0 side.1
        (subst (λ o. has (shows_neighbour s cells c (has_empty_neighbour s cells p) near o) x ≡ true) (sym side.2)
        inside))

    -- the neighbour is among it
    pub play_beside : has (play_rests_on s cells c Z p) q ≡ true
    play_beside = grind (arith, side_in, insert_self, shows_self)

    -- what shows whether its string is in atari is among it, unless it shows nothing but its cell
    pub play_shows : shows_cell c (has_empty_neighbour s cells p) (cell_at cells q) ≡ false
        → IsWithin (shows_atari s cells near q) (play_rests_on s cells c Z p)
    play_shows f x inside = grind (arith, side_in)

-- an empty neighbour is at a side
room_at : (s : ℕ) (cells : List Cell) (p : ℕ) → p < s * s → has_empty_neighbour s cells p ≡ true → HasRoom s cells p
unfolding has_empty_neighbour
room_at s cells p on t =
    let side = any_below_gives 4 (λ k. is_empty_at cells (neighbour_at s p k)) t in
    by side.0 (neighbour_at s p side.0) refl side.2
  where
    by : (side : ℕ) (o : Option ℕ) → neighbour_at s p side ≡ o → is_empty_at cells o ≡ true → HasRoom s cells p
    by side None is h = absurd (let wrong = h in cc)
    by side (Some q) is h = grind (arith, neighbour_at-near s p side q on is, same_cell-true (cell_at cells q) Empty h)

-- a stone of an enemy shows more than its cell
enemy_shows : (c : Colour) (free : Bool) (cell : Cell) → cell ≡ stone_of (other c) → shows_cell c free cell ≡ false
enemy_shows c free cell e = grind arith

-- and so does an own stone, if the point is not free
own_shows : (c : Colour) (free : Bool) (cell : Cell) → cell ≡ stone_of c → free ≡ false → shows_cell c free cell ≡ false
own_shows c free cell e f = grind arith

-- Two positions that agree on what a play of c rests on.
module _ (c : Colour) (pos here : BoardState) (Y : Points) (p : ℕ) (Z : Points) (good : IsPosition pos)
    (sound : IsPosition here) (on : p < pos.size * pos.size) (same : AgreeOn (points_of (has Z)) pos here)
    (rests : IsWithin (play_rests_on pos.size pos.cells c Y p) Z) where
  -- the point holds the same on both
  cell_same : cell_at pos.cells p ≡ cell_at here.cells p
  cell_same = same.cells p (rests p (play_self pos.size pos.cells c Y p))

  -- the boards show the same of a neighbour, unless it shows nothing but its cell
  beside_shown : (q : ℕ) → q < pos.size * pos.size → are_neighbours pos.size p q ≡ true
      → shows_cell c (has_empty_neighbour pos.size pos.cells p) (cell_at pos.cells q) ≡ false
      → is_stone (cell_at pos.cells q) ≡ true → IsShown pos.size pos.cells here.cells q
  beside_shown q q_on beside f stone = shown pos.size pos.cells here.cells (sets.insert Y p) q q_on stone
      (λ x inside. same.cells x (rests x (play_shows pos.size pos.cells c Y p q on q_on beside f x inside)))

  -- if it is empty they look the same there
  looks_same : cell_at pos.cells p ≡ Empty → LooksSame pos.size pos.cells here.cells c p
  looks_same empty = record {
    first = bare pos pos.size refl good;
    second = bare here pos.size (sym same.sizes) sound;
    on_board = on;
    empty_first = empty;
    empty_second = sym cell_same ∙ empty;
    beside = λ q q_on near. same.cells q (rests q (play_beside pos.size pos.cells c Y p q on q_on near));
    enemies = λ q q_on near enemy. beside_shown q q_on near
        (enemy_shows c (has_empty_neighbour pos.size pos.cells p) (cell_at pos.cells q) enemy)
        (ap is_stone enemy ∙ stone_is (other c));
    room = elim (cases_Bool (has_empty_neighbour pos.size pos.cells p)) [
      | inl t ↦ inl (room_at pos.size pos.cells p on t)
      | inr f ↦ inr (λ q q_on near own. beside_shown q q_on near
          (own_shows c (has_empty_neighbour pos.size pos.cells p) (cell_at pos.cells q) own f)
          (ap is_stone own ∙ stone_is c))
    ];
  }

-- a play at an empty point, by the ban
play_by : (pos : BoardState) (c : Colour) (p : ℕ) → is_stone (cell_at pos.cells p) ≡ false
    → play pos c p ≡ cond (is_banned pos.ban c p) (Err Ko) (play_free pos c p)
unfolding play
play_by pos c p f = rw f refl

-- a play that can be made at a node on the first board can be made on the second, and leads to the same node
child_on : (node : Node) (s : ℕ) (a b : List Cell) (x y : Option (ℕ × Colour)) (p : ℕ)
    → LooksSame s a b (mover_of node.turn) p
    → is_banned x (mover_of node.turn) p ≡ is_banned y (mover_of node.turn) p → (next : Node) (first : BoardState)
    → IsChild node (state s a x) p next first
    → (second : BoardState) × IsChild node (state s b y) p next second × IsSamePlay s a b first second
child_on node s a b x y p h bans next first (inl legal) =
    grind (arith, play_by (state s a x), play_by (state s b y), done_on s a b x y, play_done (state s a x), cases_Bool)
child_on node s a b x y p h bans next first (inr allowed) =
    grind (arith, play_by (state s a x), play_by (state s b y), done_on s a b x y)

-- the point of a child was empty
child_empty : (node : Node) (pos : BoardState) (p : ℕ) (next : Node) (new : BoardState) → IsChild node pos p next new
    → cell_at pos.cells p ≡ Empty
child_empty node pos p next new child =
    (done_state pos (mover_of node.turn) p new (child_free node pos p next new child).1).0

-- A play at a node, on a position and on one that agrees on what the play rests on and on further points.
module _ (node : Node) (pos here : BoardState) (Y : Points) (p : ℕ) (Z : Points) (good : IsPosition pos)
    (sound : IsPosition here) (on : p < pos.size * pos.size) (same : AgreeOn (points_of (has Z)) pos here)
    (rests : IsWithin (play_rests_on pos.size pos.cells (mover_of node.turn) Y p) Z) where
  -- the ban forbids the play on both or on neither
  bans_same : is_banned pos.ban (mover_of node.turn) p ≡ is_banned here.ban (mover_of node.turn) p
  bans_same = same.bans p (mover_of node.turn) (rests p (play_self pos.size pos.cells (mover_of node.turn) Y p))

  -- if it can be made here, it can be made there, and the boards after it agree on those of the points
  pub child_there : (W : Points) → IsWithin W Z → (next : Node) (first : BoardState) → IsChild node pos p next first
      → (second : BoardState) × IsChild node here p next second
      × AgreeOn (points_of (on_board first.size W)) first second
  child_there W within next first child =
      let empty = child_empty node pos p next first child in
      let h = looks_same (mover_of node.turn) pos here Y p Z good sound on same rests empty in
      let w = child_on node pos.size pos.cells here.cells pos.ban here.ban p h bans_same next first child in (
        w.0,
        subst (λ t. IsChild node (state t here.cells here.ban) p next w.0) same.sizes w.1,
        record {
          sizes = w.2.size_first ∙ sym w.2.size_second;
          cells = λ q inside.
              let parts = and_parts (has W q) (ltb q (first.size * first.size)) inside in
              w.2.cells q (subst (λ s. q < s * s) w.2.size_first (ltb-true q (first.size * first.size) parts.1))
              (same.cells q (within q parts.0));
          bans = λ q c inside. ap (λ ban. is_banned ban c q) (sym w.2.bans);
        },
      )

  -- if it can be made there, it can be made here
  pub child_here : (next : Node) (second : BoardState) → IsChild node here p next second
      → (first : BoardState) × IsChild node pos p next first
  child_here next second child =
      let empty = child_empty node here p next second child in
      let h = looks_same (mover_of node.turn) pos here Y p Z good sound on same rests
      (cell_same (mover_of node.turn) pos here Y p Z good sound on same rests ∙ empty) in
      let w = child_on node pos.size here.cells pos.cells here.ban pos.ban p (LooksSame-sym h) (sym bans_same) next second
      (subst (λ t. IsChild node (state t here.cells here.ban) p next second) (sym same.sizes) child) in
      (w.0, w.1)

-- a cell that is not empty holds a stone
pub stone_of_cell : (cell : Cell) → same_cell cell Empty ≡ false → is_stone cell ≡ true
stone_of_cell Empty h = absurd (let wrong = h in cc)
stone_of_cell Black h = refl
stone_of_cell White h = refl

-- boards that show the same of a string have the same liberties of it, if they agree on all its neighbours
pub liberties_same : (s : ℕ) (a b : List Cell) (q : ℕ) → q < s * s → is_stone (cell_at a q) ≡ true
    → SameOn (close_to s a q) a b → (l : ℕ) → is_liberty s a q l ≡ is_liberty s b q l
liberties_same s a b q on stone agree l =
    let both = close_shows s a b q on stone agree in
    elim (cases_Bool (is_liberty s a q l)) [
      | inl t ↦ t ∙ sym (is_liberty-from_fact s b q l on (both.0 l (IsLiberty-from_test s a q l t)))
      | inr f ↦ elim (cases_Bool (is_liberty s b q l)) [
        | inl t ↦ absurd (both_ways (is_liberty s a q l) f
            (is_liberty-from_fact s a q l on (both.1 l (IsLiberty-from_test s b q l t))))
        | inr g ↦ f ∙ sym g
      ]
    ]

-- the count of the liberties is the same too
pub count_same : (s : ℕ) (a b : List Cell) (q : ℕ) → ((l : ℕ) → is_liberty s a q l ≡ is_liberty s b q l)
    → liberties s a q ≡ liberties s b q
unfolding liberties
count_same s a b q each = count_below_same (s * s) (is_liberty s a q) (is_liberty s b q) (λ l less. each l)

-- so the target has too many on both or on neither
pub many_same : (turn : Turn) (s : ℕ) (a b : List Cell) (x y : Option (ℕ × Colour))
    → liberties s a turn.target ≡ liberties s b turn.target
    → has_many_liberties turn (state s b y) ≡ has_many_liberties turn (state s a x)
unfolding has_many_liberties
many_same turn s a b x y e = ap (λ n. ltb 4 n || (eqb turn.wide 0 && ltb (most_narrow turn.tree) n)) (sym e)

-- a candidate does not depend on the ban
pub candidate_without_ban : (turn : Turn) (s : ℕ) (cells : List Cell) (x y : Option (ℕ × Colour)) (p : ℕ)
    → is_candidate turn (state s cells x) p ≡ true → is_candidate turn (state s cells y) p ≡ true
unfolding is_candidate is_backfilling play_free
candidate_without_ban turn s cells x y p h = h
