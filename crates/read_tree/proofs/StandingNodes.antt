-- The looks at a node of a question's trees whose target stands: they lie in the question's active area.
use Rattle.std.proofs.Common.{◌≡◌, ◌⊎◌, ℕ, suc, ◌*◌, ◌<◌, ◌&&◌, ◌||◌, Bool, true, false, List, ap, inl, inr}
use Rattle.std.proofs.Common.{◌∙◌, refl, arith}
use Rattle.std.proofs.lemmas.Bool.{and_from, and_parts, or_cases, or_left, or_right, eqb-true, eq-eqb}
use Rattle.std.specs.Ordering.{nat_cmp}
use Rattle.std.specs.FinSet as sets
use Rattle.go_rules.specs.Below.{any_below}
use Rattle.go_rules.specs.Neighbourhood.{neighbourhood_of}
use Rattle.go_rules.specs.Strings.{liberty_points}
use Rattle.go_rules.specs.Position.{BoardState}
use Rattle.go_rules.proofs.Counts.{any_below_gives, any_below_from}
use Rattle.go_base.specs.Facts.{Fact, SizeIs, Agrees, AddsIn}
use Rattle.go_base.specs.Views.{alone, neighbours_of}
use Rattle.go_base.proofs.PointNeighbourhoods.{close_alone, close_again}
use Rattle.trial_board.specs.declared.moves.TrialMove.{TrialMove}
use Rattle.trial_board.specs.Overlays.{neighbourhood_twice}
use Rattle.trial_board.specs.Trials.{Trying, after}
use Rattle.trial_board.proofs.AfterLemmas.{size-after}
use Rattle.read_rules.specs.Candidates.{is_candidate}
use Rattle.read_rules.specs.declared.question.ReadingQuestion.{ReadingQuestion}
use Rattle.read_rules.specs.ActiveArea.{IsNodeOf, IsUndecided, first as by_code, InActiveArea, AddsNear}
use Rattle.read_rules.specs.Answer.{is_about, first_node}
use Rattle.read_rules.proofs.AnswerLemmas.{about_stands}
use Rattle.read_rules.specs.Candidates.{near_candidates}
use Rattle.read_rules.specs.GameTree.{is_captured, has_lost_stones}
use Rattle.read_rules.proofs.AreaLemmas.{AddsNear-in, AddsNear-trans, AddsNear-mono, area_target, area_once}
use Rattle.read_rules.proofs.AreaLemmas.{area_candidates, area_play, area_loss, target_on}
use Rattle.read_moves.proofs.CandidateLemmas.{near_twice, near_liberties}
use Rattle.read_tree.specs.declared.table.Entry.{Entry}
use Rattle.read_rules.specs.declared.turn.Turn.{Turn}
use Rattle.read_tree.specs.declared.allowances.Allowances.{Allowances}
use Rattle.read_tree.specs.Allowances.{Ko, neither_may, under, has_some}
use Rattle.read_tree.specs.Steps.{AreNodesOf}
use Rattle.read_tree.specs.Walk.{IsReady}
use Rattle.read_tree.proofs.AllowanceLemmas.{some_of}
use Rattle.read_tree.proofs.TakeLemmas.{near_liberty}
use Rattle.read_tree.proofs.TakingLemmas.{near_sides as beside_point}

-- under some allowance the turn's node on the position here, with n plies left, is one of the question's trees, and its
-- target stands on a board of size s
pub record IsStandingNode (q : ReadingQuestion) (root here : BoardState) (n s : ℕ) (turn : Turn) : Type 0 where
  pub ko : Ko
  pub tree : IsNodeOf q root n (under turn ko) here
  pub size : here.size ≡ s
  pub inside : turn.target < s * s
  pub stands : is_captured here turn.target ≡ false

-- so is a node under asked allowances after the moves, on a position that agrees with what was seen
pub standing_node : {q : ReadingQuestion} {root pos : BoardState} {n : ℕ} {turn : Turn} {asked : Allowances}
    {seen : Fact → Bool} (s : ℕ) → seen (SizeIs s) ≡ true → Agrees seen pos → (moves : List TrialMove)
    → turn.target < s * s → has_some asked ≡ true → AreNodesOf q root n turn asked (after pos moves)
    → is_captured (after pos moves) turn.target ≡ false → IsStandingNode q root (after pos moves) n pos.size turn
standing_node {pos} {turn} {asked} s told agrees moves target some nodes stands =
    grind (arith, some_of, size-after, target_on)

-- so is the node at which a function of the walk may go on
pub ready_node : {L : Type 0} {shows : L → BoardState} {seen : L → Fact → Bool} {board : Trying L} {turn : Turn}
    {n : ℕ} {asked : Allowances} {points : sets.FinSet nat_cmp} {entries : List Entry} {q : ReadingQuestion}
    {root pos : BoardState} → IsReady shows seen board turn n asked points entries
    → seen board.look (SizeIs (shows board.look).size) ≡ true → Agrees (seen board.look) pos
    → AreNodesOf q root (suc n) turn asked (after pos board.moves)
    → is_captured (after pos board.moves) turn.target ≡ false
    → IsStandingNode q root (after pos board.moves) (suc n) pos.size turn
ready_node {board} ready told agrees nodes stands =
    standing_node _ told agrees board.moves ready.target ready.some nodes stands

-- and where it is undecided
pub undecided_node : {L : Type 0} {shows : L → BoardState} {seen : L → Fact → Bool} {board : Trying L} {turn : Turn}
    {n : ℕ} {asked : Allowances} {points : sets.FinSet nat_cmp} {entries : List Entry} {q : ReadingQuestion}
    {root pos : BoardState} → IsReady shows seen board turn n asked points entries
    → seen board.look (SizeIs (shows board.look).size) ≡ true → Agrees (seen board.look) pos
    → AreNodesOf q root (suc n) turn asked (after pos board.moves)
    → ((ko : Ko) → IsUndecided (under turn ko) (after pos board.moves))
    → IsStandingNode q root (after pos board.moves) (suc n) pos.size turn
undecided_node ready told agrees nodes und = ready_node ready told agrees nodes (und neither_may).stands

-- What is looked at there.
module _ {q : ReadingQuestion} {root here : BoardState} {n s : ℕ} {turn : Turn}
    (node : IsStandingNode q root here n s turn) where
  -- its neighbourhood
  beside_in : (p : ℕ) → neighbourhood_of s here.cells (alone turn.target) p ≡ true → InActiveArea q root p
  beside_in p h = area_once q root here n (under turn node.ko) node.tree s node.size node.inside node.stands p h

  -- the sides of its liberties
  sides_in : (known : sets.FinSet nat_cmp) → known ≡ liberty_points s here.cells turn.target → (r : ℕ)
      → any_below (s * s) (λ l. sets.contains known l && neighbours_of s l r) ≡ true → InActiveArea q root r
  sides_in known is r h = grind (arith, area_candidates, near_liberties)

  -- a look at the target's point lies in the area
  pub near_target : {a b : Fact → Bool} → AddsIn a b (alone turn.target) → AddsNear a b (InActiveArea q root)
  near_target looks = grind (arith, area_target, eqb-true)

  -- looks beside the target do
  pub near_beside : {a b : Fact → Bool} → AddsIn a b (neighbourhood_of s here.cells (alone turn.target))
      → AddsNear a b (InActiveArea q root)
  near_beside looks = AddsNear-in (InActiveArea q root) looks beside_in

  -- looks for candidates do
  pub near_wide : {a b : Fact → Bool} → AddsIn a b (near_candidates s here.cells turn.target)
      → AddsNear a b (InActiveArea q root)
  near_wide looks = grind (arith, area_candidates)

  -- looks for captures do
  pub near_captures : {a b : Fact → Bool} → AddsIn a b (neighbourhood_twice s here.cells turn.target)
      → AddsNear a b (InActiveArea q root)
  near_captures looks = grind (arith, area_candidates, near_twice)

  -- the looks of a play at a candidate do
  pub near_play : {a b : Fact → Bool} (p : ℕ) → is_candidate turn here p ≡ true
      → AddsIn a b (neighbourhood_twice s here.cells p) → AddsNear a b (InActiveArea q root)
  near_play p candidate looks = grind (arith, area_play)

  -- looks at the sides of the target's liberties do
  pub near_sides : {a b : Fact → Bool} (known : sets.FinSet nat_cmp) → known ≡ liberty_points s here.cells turn.target
      → AddsIn a b (λ r. any_below (s * s) (λ l. sets.contains known l && neighbours_of s l r))
      → AddsNear a b (InActiveArea q root)
  near_sides known is looks = AddsNear-in (InActiveArea q root) looks (sides_in known is)

  -- where an escape is looked for is in the area
  escape_in : (known : sets.FinSet nat_cmp) → known ≡ liberty_points s here.cells turn.target → (r : ℕ)
      → (alone turn.target r
      || any_below (s * s) (λ l. sets.contains known l && (alone l r || neighbours_of s l r))) ≡ true
      → InActiveArea q root r
  escape_in known is r h =
      let once : (alone turn.target r || sets.contains known r) ≡ true → InActiveArea q root r =
      λ w. beside_in r (near_liberty s here.cells turn.target r known node.inside is w) in
      elim (or_cases (alone turn.target r) _ h) [
        | inl self ↦ once (or_left _ _ self)
        | inr some ↦
            let l = any_below_gives (s * s) _ some in
            let both = and_parts (sets.contains known l.0) _ l.2 in
            elim (or_cases (alone l.0 r) (neighbours_of s l.0 r) both.1) [
              | inl at ↦ once (or_right (alone turn.target r) _
                  (ap (sets.contains known) (eqb-true r l.0 at) ∙ both.0))
              | inr side ↦ sides_in known is r (any_below_from (s * s) _ l.0 l.1 (and_from _ _ both.0 side))
            ]
      ]

  -- looks for an escape lie in the area
  pub near_escape : {a b : Fact → Bool} (known : sets.FinSet nat_cmp)
      → known ≡ liberty_points s here.cells turn.target → AddsIn a b (λ r. alone turn.target r
      || any_below (s * s) (λ l. sets.contains known l && (alone l r || neighbours_of s l r)))
      → AddsNear a b (InActiveArea q root)
  near_escape known is looks = AddsNear-in (InActiveArea q root) looks (escape_in known is)

  -- what is looked at there or at the target's point lies in the area
  pub near_or_at : {a b : Fact → Bool} → AddsNear a b (λ p. (p ≡ turn.target) ⊎ InActiveArea q root p)
      → AddsNear a b (InActiveArea q root)
  near_or_at looks = grind (arith, area_target)

  -- a look at the target, and then those at a child
  pub near_child : {a b c : Fact → Bool} → AddsIn a b (alone turn.target)
      → AddsNear b c (λ p. (p ≡ turn.target) ⊎ InActiveArea q root p) → AddsNear a c (InActiveArea q root)
  near_child first below = AddsNear-trans (near_target first) (near_or_at below)

  -- the looks that tell the outlook: at the target's point, for its liberties, and beside it
  pub near_outlook : {a b c d : Fact → Bool} → AddsIn a b (alone turn.target)
      → AddsIn b c (neighbourhood_of s here.cells (alone turn.target))
      → AddsIn c d (neighbourhood_of s here.cells (alone turn.target)) → AddsNear a d (InActiveArea q root)
  near_outlook first liberties outlook =
      AddsNear-trans (near_target first) (AddsNear-trans (near_beside liberties) (near_beside outlook))

-- under some allowance the turn's node on the position here, with n plies left, is one of the question's trees, and its
-- target was just taken on a board of size s, at the defender's turn in the wider tree
pub record IsLostNode (q : ReadingQuestion) (root here : BoardState) (n s : ℕ) (turn : Turn) : Type 0 where
  pub ko : Ko
  pub tree : IsNodeOf q root n (under turn ko) here
  pub size : here.size ≡ s
  pub inside : turn.target < s * s
  pub lost : has_lost_stones (under turn neither_may) here ≡ true

-- so is a node under asked allowances after the moves, on a position that agrees with what was seen
pub lost_node : {q : ReadingQuestion} {root pos : BoardState} {n : ℕ} {turn : Turn} {asked : Allowances}
    {seen : Fact → Bool} (s : ℕ) → seen (SizeIs s) ≡ true → Agrees seen pos → (moves : List TrialMove)
    → turn.target < s * s → has_some asked ≡ true → AreNodesOf q root n turn asked (after pos moves)
    → has_lost_stones (under turn neither_may) (after pos moves) ≡ true
    → IsLostNode q root (after pos moves) n pos.size turn
lost_node {pos} {turn} {asked} s told agrees moves target some nodes lost =
    grind (arith, some_of, size-after, target_on)

-- What is looked at there.
module _ {q : ReadingQuestion} {root here : BoardState} {n s : ℕ} {turn : Turn}
    (node : IsLostNode q root here n s turn) where
  -- and so do its looks
  pub near_loss : {a b : Fact → Bool} → AddsIn a b (neighbourhood_twice s here.cells turn.target)
      → AddsNear a b (InActiveArea q root)
  near_loss looks = grind (arith, area_loss)

  -- looks beside the target's point do
  pub near_loss_sides : {a b : Fact → Bool} → AddsIn a b (neighbours_of s turn.target)
      → AddsNear a b (InActiveArea q root)
  near_loss_sides looks = grind (arith, area_loss, close_again, beside_point)

  -- the target's point lies in the area
  target_lost : (p : ℕ) → p ≡ turn.target → InActiveArea q root p
  target_lost p e = grind (arith, area_loss, close_again, close_alone, eq-eqb)

  -- a look at the target, and then those at the node where it was taken back
  pub near_back : {a b c : Fact → Bool} → AddsIn a b (alone turn.target)
      → AddsNear b c (λ p. (p ≡ turn.target) ⊎ InActiveArea q root p) → AddsNear a c (InActiveArea q root)
  near_back first below = grind (arith, target_lost, eqb-true)

-- a look at the target's point lies there
pub near_cell : {a b : Fact → Bool} (t : ℕ) (S : ℕ → Type 0) → AddsIn a b (alone t)
    → AddsNear a b (λ p. (p ≡ t) ⊎ S p)
near_cell t S looks = AddsNear-in (λ p. (p ≡ t) ⊎ S p) looks (λ p h. inl (eqb-true p t h))

-- a look at the target of a question lies in its active area on a position that it is about
pub near_asked : {a b : Fact → Bool} (q : ReadingQuestion) (pos : BoardState) → q.target < pos.size * pos.size
    → is_about q pos ≡ true → AddsIn a b (alone q.target) → AddsNear a b (InActiveArea q pos)
near_asked q pos inside about looks = AddsNear-in (InActiveArea q pos) looks (λ p h.
    area_target q pos pos q.plies (first_node q 1) (by_code 1 (omega arith) (omega arith)) pos.size refl inside
    (about_stands q pos about) p (eqb-true p q.target h))

-- what lies in a set lies there or at a point
pub near_at : {a b : Fact → Bool} (t : ℕ) (S : ℕ → Type 0) → AddsNear a b S → AddsNear a b (λ p. (p ≡ t) ⊎ S p)
near_at t S looks = AddsNear-mono S (λ p. (p ≡ t) ⊎ S p) looks (λ p h. inr h)
