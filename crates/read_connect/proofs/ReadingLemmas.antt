-- The answer at the first node.
use Rattle.std.proofs.Common.{◌≡◌, ◌≢◌, ◌∙◌, ◌↔◌, ℕ, ◌-◌, ◌*◌, ◌<◌}
use Rattle.std.proofs.Common.{◌&&◌, Bool, true, false, not, cond, Option, Some, None}
use Rattle.std.proofs.Common.{is_some, IfSome, refl, sym, ap, subst, arith}
use Rattle.std.specs.Prelude.{IsNone}
use Rattle.std.proofs.lemmas.Bool.{both_ways, and_from, and_parts, eq-eqb, eqb-true}
use Rattle.go_rules.specs.declared.Cell.{Cell}
use Rattle.go_rules.specs.declared.Colour.{Colour}
use Rattle.go_rules.specs.Strings.{cell_at}
use Rattle.go_rules.specs.Position.{BoardState, stone_of, colour_of}
use Rattle.go_rules.proofs.Paths.{same_cell-from}
use Rattle.go_base.specs.Facts.{Fact, CellIs, Agrees, AddsOnly}
use Rattle.go_base.proofs.AddedFacts.{cell_near}
use Rattle.read_rules.specs.ActiveArea.{AddsNear}
use Rattle.read_rules.proofs.AreaLemmas.{AddsNear-in}
use Rattle.read_rules.specs.declared.question.Spot.{Spot}
use Rattle.read_rules.specs.declared.question.Spot.TheVariants.{Pass}
use Rattle.read_rules.specs.GameTree.{at_point}
use Rattle.read_rules.specs.GoodMoves.{IsOnBoard}
use Rattle.connect_rules.specs.declared.link.Link.{Link}
use Rattle.connect_rules.specs.declared.question.LinkKind.{LinkKind}
use Rattle.connect_rules.specs.declared.question.LinkKind.TheVariants.{Connect, Disconnect}
use Rattle.connect_rules.specs.declared.question.LinkQuestion.{LinkQuestion}
use Rattle.connect_rules.specs.Connection.{is_one_string, first_success, pass_parts}
use Rattle.connect_rules.specs.ConnectionArea.{first, InConnectionArea}
use Rattle.connect_rules.specs.Linkages.{is_connect, link_of, is_about, linkage_of, asked_on}
use Rattle.connect_rules.proofs.LinkageLemmas.{linkage_one, linkage_apart}
use Rattle.read_connect.specs.Readings.{first_move, one_string}
use Rattle.read_connect.proofs.StandingNodes.{IsStandingNode, a_in, b_in}

-- at their own turn the first move is the first point
pub own_first : (n : ℕ) (link : Link) (own : Bool) (here : BoardState) → own ≡ true
    → at_point (first_success n link own here) ≡ first_move n link own here
own_first n link true here e = refl
own_first n link false here e = absurd (both_ways false refl e)

-- at the other turn it is the pass where that parts the strings
pub pass_first : (n : ℕ) (link : Link) (own : Bool) (here : BoardState) → own ≡ false
    → pass_parts n link here ≡ true → Some Pass ≡ first_move n link own here
pass_first n link true here e parts = absurd (both_ways true e refl)
pass_first n link false here e parts = grind arith

-- at the other turn it is the first point if the pass does not part the strings
pub other_first : (n : ℕ) (link : Link) (own : Bool) (here : BoardState) → own ≡ false
    → pass_parts n link here ≡ false → at_point (first_success n link own here) ≡ first_move n link own here
other_first n link true here e holds = absurd (both_ways true e refl)
other_first n link false here e holds = grind arith

-- a point of the board is a move on it
pub at_on : (s : ℕ) (found : Option ℕ) → IfSome found (λ p. p < s * s) → IfSome (at_point found) (IsOnBoard s)
at_on s None h = h
at_on s (Some p) h = h

-- the answer about strings that are one
pub one_told : (q : LinkQuestion) (pos : BoardState) (own : Bool) → own ≡ is_connect q.kind → is_about q pos ≡ true
    → is_one_string (link_of q) pos ≡ true → one_string own ≡ linkage_of q pos
one_told q pos own e about one = ap one_string e ∙ sym (linkage_one q pos about one)

-- which move is the first, by what is asked
by_kind : (kind : LinkKind) (one parts : Bool) → one ≡ false
    → (not (is_connect kind) && parts) ≡ cond (is_connect kind) one parts
by_kind Connect one parts h = sym h
by_kind Disconnect one parts h = refl

-- the answer about strings that are apart
pub apart_told : (q : LinkQuestion) (pos : BoardState) (own : Bool) (at : Option Spot) (told : Bool)
    → own ≡ is_connect q.kind → q.plies ≢ 0 → is_about q pos ≡ true → is_one_string (link_of q) pos ≡ false
    → at ≡ first_move (q.plies - 1) (link_of q) own pos → told ≡ is_some at → record { yes = told; at = at }
    ≡ linkage_of q pos
apart_told q pos own at told e some about apart move told_is = grind (arith, by_kind, linkage_apart)

-- an answer has no move exactly if it is no
pub told_none : (at : Option Spot) (told : Bool) → told ≡ is_some at → IsNone at ↔ (told ≡ false)
told_none at told e = (λ h. e ∙ h, λ h. sym e ∙ h)

-- the answer about one string has no move exactly if it is no
pub one_none : (own : Bool) → IsNone (one_string own).at ↔ ((one_string own).yes ≡ false)
one_none true = told_none (Some Pass) true refl
one_none false = told_none None false refl

-- its move is on the board
pub one_on : (s : ℕ) (own : Bool) → IfSome (one_string own).at (IsOnBoard s)
one_on s true = tt
one_on s false = tt

-- a question is about each position of its size on which both points hold stones of its colour
pub about_stones : (q : LinkQuestion) (pos : BoardState) → q.size ≡ pos.size
    → cell_at pos.cells q.a ≡ stone_of q.colour → cell_at pos.cells q.b ≡ stone_of q.colour → is_about q pos ≡ true
about_stones q pos size at_a at_b = grind (arith, and_from, eq-eqb, same_cell-from)

module _ (q : LinkQuestion) (pos : BoardState) (a_on : q.a < pos.size * pos.size) (b_on : q.b < pos.size * pos.size)
    (about : is_about q pos ≡ true) where
  -- the first node of the tree is the position, if both strings stand
  root : IsStandingNode (link_of q) q pos pos q.plies (is_connect q.kind) pos.size
  root = record {
    node = record { its = refl; in_tree = first };
    size = refl;
    a_on = a_on;
    b_on = b_on;
    stand = (and_parts _ _ about).1;
  }

  -- the first point lies in the active area
  area_a : InConnectionArea q pos q.a
  area_a = a_in root

  -- the second point lies in the active area
  area_b : InConnectionArea q pos q.b
  area_b = b_in root

  -- a look at the first point lies in the active area
  pub look_a : {first next : Fact → Bool} {cell : Cell} → AddsOnly first next (CellIs q.a cell)
      → AddsNear first next (InConnectionArea q pos)
  look_a only = AddsNear-in (InConnectionArea q pos) (cell_near only)
      (λ p h. subst (InConnectionArea q pos) (sym (eqb-true p q.a h)) area_a)

  -- a look at the second point lies in the active area
  pub look_b : {first next : Fact → Bool} {cell : Cell} → AddsOnly first next (CellIs q.b cell)
      → AddsNear first next (InConnectionArea q pos)
  look_b only = AddsNear-in (InConnectionArea q pos) (cell_near only)
      (λ p h. subst (InConnectionArea q pos) (sym (eqb-true p q.b h)) area_b)

-- a stone of the position shown that was looked at stands on each position that agrees
pub stands_too : {seen : Fact → Bool} {shown pos : BoardState} (p : ℕ) (cell : Cell) {stone : Cell}
    → seen (CellIs p cell) ≡ true → Agrees seen shown → Agrees seen pos → cell_at shown.cells p ≡ stone
    → cell_at pos.cells p ≡ stone
stands_too p cell told here there stands = grind arith

-- the question that the call makes is the one that is asked
pub question_is : (shown : BoardState) (size a b plies : ℕ) (kind : LinkKind) (cell : Cell)
    (colour : Colour) → size ≡ shown.size → colour ≡ colour_of cell → cell ≡ cell_at shown.cells a
    → record { size = size; kind = kind; a = a; b = b; colour = colour; plies = plies } ≡ asked_on shown kind a b plies
question_is shown size a b plies kind cell colour size_is colour_is cell_is = grind arith
