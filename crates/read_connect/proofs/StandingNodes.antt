-- The looks at a node of a question's tree if both strings stand: they lie in the question's active area.
use Rattle.std.proofs.Common.{◌≡◌, ◌⊎◌, ℕ, suc, ◌*◌, ◌<◌, Bool, true, false, not, Ok, ap, sym, subst, inl, inr, arith}
use Rattle.std.proofs.lemmas.Bool.{or_cases, eqb-true}
use Rattle.go_rules.specs.Neighbourhood.{neighbourhood_of}
use Rattle.go_rules.specs.Play.{play, pass}
use Rattle.go_rules.specs.Position.{BoardState}
use Rattle.go_base.specs.Facts.{Fact, SizeIs, Agrees, AddsIn}
use Rattle.go_base.specs.Views.{alone}
use Rattle.trial_board.specs.Overlays.{neighbourhood_twice}
use Rattle.trial_board.specs.Trials.{Trying, after}
use Rattle.trial_board.proofs.AfterLemmas.{size-after}
use Rattle.read_rules.specs.ActiveArea.{AddsNear}
use Rattle.read_rules.proofs.AreaLemmas.{AddsNear-in}
use Rattle.connect_rules.specs.declared.link.Link.{Link}
use Rattle.connect_rules.specs.declared.question.LinkQuestion.{LinkQuestion}
use Rattle.connect_rules.specs.ConnectingMoves.{is_connecting_move}
use Rattle.connect_rules.specs.Connection.{both_stand, mover_of}
use Rattle.connect_rules.specs.Linkages.{link_of}
use Rattle.connect_rules.specs.ConnectionArea.{IsUndecided, InConnectionArea, by_play, by_pass}
use Rattle.connect_rules.proofs.LinkAreaLemmas.{area_twice, area_once, area_end, area_play}
use Rattle.read_connect.specs.Stages.{surround_ends, is_end}
use Rattle.read_connect.specs.Walk.{AreOnBoard, IsReady, IsNodeFor, IsChildFor}

-- the node on the position here, with n plies left, is one of the question's tree about these strings, and both stand
-- on a board of size s
pub record IsStandingNode (link : Link) (q : LinkQuestion) (root here : BoardState) (n : ℕ) (own : Bool) (s : ℕ) :
    Type 0 where
  pub node : IsNodeFor link q root n own here
  pub size : here.size ≡ s
  pub a_on : link.a < s * s
  pub b_on : link.b < s * s
  pub stand : both_stand link here ≡ true

-- a point is on a board of the same size
pub point_on : (size s p : ℕ) → size ≡ s → p < s * s → p < size * size
point_on size s p e h = subst (λ n. p < n * n) (sym e) h

-- a node after the moves of a board stands, on a position that agrees with what was seen
pub standing_node : {L : Type 0} {shows : L → BoardState} {seen : Fact → Bool} {board : Trying L} {link : Link}
    {q : LinkQuestion} {root pos : BoardState} {n : ℕ} {own : Bool} → AreOnBoard shows board link
    → seen (SizeIs (shows board.look).size) ≡ true → Agrees seen pos
    → both_stand link (after pos board.moves) ≡ true → IsNodeFor link q root n own (after pos board.moves)
    → IsStandingNode link q root (after pos board.moves) n own pos.size
standing_node {shows} {board} {link} {pos} on told agrees stand node = grind (arith, size-after, point_on)

-- the node at which a function of the walk may go on stands, on a position that agrees with what was seen
pub ready_node : {L : Type 0} {shows : L → BoardState} {seen : L → Fact → Bool} {board : Trying L} {link : Link}
    {m n : ℕ} {own : Bool} {q : LinkQuestion} {root pos : BoardState} → IsReady shows seen board link m
    → seen board.look (SizeIs (shows board.look).size) ≡ true → Agrees (seen board.look) pos
    → IsNodeFor link q root n own (after pos board.moves)
    → IsStandingNode link q root (after pos board.moves) n own pos.size
ready_node {pos} ready told agrees node =
    standing_node ready.on_board told agrees (ready.undecided pos agrees).stand node

-- a look at the two points of a child lies in the area
pub near_ends : {link : Link} {q : LinkQuestion} {root here : BoardState} {n : ℕ} {own : Bool} {x y : Fact → Bool}
    → IsChildFor link q root n own here → AddsIn x y (is_end link) → AddsNear x y (InConnectionArea q root)
near_ends {link} {q} {root} child looks = grind (arith, or_cases, eqb-true)

-- What is looked at where both stand.
module _ {link : Link} {q : LinkQuestion} {root here : BoardState} {n s : ℕ} {own : Bool}
    (at : IsStandingNode link q root here n own s) where
  -- the question's own strings, on the board
  its_a : q.a < s * s
  its_a = subst (λ (l : Link). l.a < s * s) (sym at.node.its) at.a_on

  -- and the other
  its_b : q.b < s * s
  its_b = subst (λ (l : Link). l.b < s * s) (sym at.node.its) at.b_on

  -- both stand
  its_stand : both_stand (link_of q) here ≡ true
  its_stand = subst (λ (l : Link). both_stand l here ≡ true) (sym at.node.its) at.stand

  -- the first string is one of the question's
  is_a : (link.a ≡ q.a) ⊎ (link.a ≡ q.b)
  is_a = inl (ap (λ (l : Link). l.a) (sym at.node.its))

  -- and the second
  is_b : (link.b ≡ q.a) ⊎ (link.b ≡ q.b)
  is_b = inr (ap (λ (l : Link). l.b) (sym at.node.its))

  -- the first point is in the area
  pub a_in : InConnectionArea q root link.a
  a_in = area_end q root here n own at.node.in_tree s at.size its_a its_b its_stand link.a is_a

  -- the second point is in the area
  pub b_in : InConnectionArea q root link.b
  b_in = area_end q root here n own at.node.in_tree s at.size its_a its_b its_stand link.b is_b

  -- looks beside the first string lie in the area
  pub near_a : {x y : Fact → Bool} → AddsIn x y (neighbourhood_of s here.cells (alone link.a))
      → AddsNear x y (InConnectionArea q root)
  near_a looks = AddsNear-in (InConnectionArea q root) looks
      (area_once q root here n own at.node.in_tree s at.size its_a its_b its_stand link.a is_a)

  -- looks beside the second string lie in the area
  pub near_b : {x y : Fact → Bool} → AddsIn x y (neighbourhood_of s here.cells (alone link.b))
      → AddsNear x y (InConnectionArea q root)
  near_b looks = AddsNear-in (InConnectionArea q root) looks
      (area_once q root here n own at.node.in_tree s at.size its_a its_b its_stand link.b is_b)

  -- looks for captures do
  pub near_captures : {x y : Fact → Bool} → AddsIn x y (surround_ends s here.cells link)
      → AddsNear x y (InConnectionArea q root)
  near_captures looks = AddsNear-in (InConnectionArea q root) looks
      (λ p h. elim (or_cases (neighbourhood_twice s here.cells link.a p) (neighbourhood_twice s here.cells link.b p)
      h) [
        | inl is ↦ area_twice q root here n own at.node.in_tree s at.size its_a its_b its_stand link.a is_a p is
        | inr is ↦ area_twice q root here n own at.node.in_tree s at.size its_a its_b its_stand link.b is_b p is
      ])

  -- looks beside a connecting move lie in the area
  pub near_play : {x y : Fact → Bool} (p : ℕ) → is_connecting_move link here p ≡ true
      → AddsIn x y (neighbourhood_twice s here.cells p) → AddsNear x y (InConnectionArea q root)
  near_play p move looks = AddsNear-in (InConnectionArea q root) looks
      (λ r h. area_play q root here n own at.node.in_tree s at.size its_a its_b its_stand p r
      (subst (λ (l : Link). is_connecting_move l here p ≡ true) (sym at.node.its) move) h)

-- The nodes after one if both strings stand and are apart.
module _ {link : Link} {q : LinkQuestion} {root here : BoardState} {n s : ℕ} (und : IsUndecided link here) where
  -- a legal connecting move leads to a child
  pub played_child : {own : Bool} {new : BoardState} (p : ℕ) → IsStandingNode link q root here (suc n) own s
      → is_connecting_move link here p ≡ true → play here (mover_of link own) p ≡ Ok new
      → IsChildFor link q root n (not own) new
  played_child {own} {new} p at moved legal = record {
    node = record {
      its = at.node.its;
      in_tree = by_play at.node.in_tree (subst (λ l. IsUndecided l here) (sym at.node.its) und) p
          (subst (λ l. is_connecting_move l here p ≡ true) (sym at.node.its) moved) new
          (subst (λ l. play here (mover_of l own) p ≡ Ok new) (sym at.node.its) legal);
    };
    a = a_in at;
    b = b_in at;
  }

  -- the other colour's pass leads to a child
  pub passed_child : IsStandingNode link q root here (suc n) false s → IsChildFor link q root n true (pass here)
  passed_child at = record {
    node = record {
      its = at.node.its;
      in_tree = by_pass at.node.in_tree (subst (λ l. IsUndecided l here) (sym at.node.its) und);
    };
    a = a_in at;
    b = b_in at;
  }
