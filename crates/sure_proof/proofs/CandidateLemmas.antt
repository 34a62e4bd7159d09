-- What shows a candidate lies on the board, and shows it on every position that agrees there.
use Rattle.std.proofs.Common.{◌≡◌, ◌∙◌, ℕ, ◌*◌, ◌<◌, Bool, true, false, List, Option, Some, None}
use Rattle.std.proofs.Common.{sym, ap, subst, inl, inr, eqb, ltb, arith}
use Rattle.std.specs.FinSet as sets
use Rattle.std.proofs.lemmas.Bool.{cases_Bool, or_cases, and_parts, ltb-true, eqb-true}
use Rattle.go_rules.specs.declared.Cell.{Cell}
use Rattle.go_rules.specs.Below.{set_below}
use Rattle.go_rules.specs.Position.{BoardState, IsPosition}
use Rattle.go_rules.specs.Strings.{cell_at, is_liberty, string_at, liberty_points}
use Rattle.go_rules.proofs.Sets.{contains-set_below, contains-insert_nat}
use Rattle.read_rules.specs.ActiveArea.{AgreeOn}
use Rattle.read_rules.specs.Candidates.{is_candidate}
use Rattle.read_rules.specs.declared.node.Node.{Node}
use Rattle.read_rules.specs.declared.turn.Turn.{Turn}
use Rattle.sure_rules.specs.Nodes.{is_attackers, is_gone, has_too_many}
use Rattle.sure_rules.specs.Zones.{points_of}
use Rattle.sure_proof.specs.Rests.{Points, close_to, shown_at, with_string, candidate_rests_on}
use Rattle.sure_proof.proofs.GuardLemmas.{in_union}
use Rattle.sure_proof.proofs.SoundLemmas.{has, stone_of_cell}
use Rattle.sure_proof.proofs.ProofLemmas.{is_wide, rests_liberty, rests_wide, rests_other, candidate_there}

-- A member of sets of points.
module _ (q : ℕ) where
  -- a member of a set of numbers below n is below n
  pub on_below : (n : ℕ) (test : ℕ → Bool) → sets.contains (set_below n test) q ≡ true → q < n
  on_below n test h = ltb-true q n (and_parts (ltb q n) (test q) (sym (contains-set_below n test q) ∙ h)).0

  -- the string of p and all its neighbours are on the board
  pub close_on : (s : ℕ) (cells : List Cell) (p : ℕ) → sets.contains (close_to s cells p) q ≡ true → q < s * s
  unfolding close_to string_at liberty_points
  close_on s cells p h = grind (arith, in_union, on_below)

  -- and so are the strings of the target and another, or all points
  with_string_on : (s : ℕ) (cells : List Cell) (target : ℕ) (other : Option ℕ)
      → sets.contains (with_string s cells target other) q ≡ true → q < s * s
  with_string_on s cells target None h = on_below (s * s) (λ r. true) h
  with_string_on s cells target (Some other) h = grind (arith, in_union, close_on)

-- what a candidate rests on is on the board
pub rests_on_board : (turn : Turn) (pos : BoardState) (p q : ℕ) → p < pos.size * pos.size
    → sets.contains (candidate_rests_on turn pos p) q ≡ true → q < pos.size * pos.size
rests_on_board turn pos p q on h = elim (cases_Bool (is_liberty pos.size pos.cells turn.target p)) [
  | inl t ↦ close_on q pos.size pos.cells turn.target
      (sym (ap (λ (S : Points). sets.contains S q) (rests_liberty turn pos p t)) ∙ h)
  | inr f ↦ elim (cases_Bool (is_wide turn pos p)) [
    | inl t ↦ elim (or_cases (eqb q p) (sets.contains (close_to pos.size pos.cells turn.target) q)
        (sym (contains-insert_nat (close_to pos.size pos.cells turn.target) p q)
        ∙ sym (ap (λ (S : Points). sets.contains S q) (rests_wide turn pos p f t)) ∙ h)) [
          | inl same ↦ subst (λ r. r < pos.size * pos.size) (sym (eqb-true q p same)) on
          | inr close ↦ close_on q pos.size pos.cells turn.target close
        ]
    | inr g ↦ with_string_on q pos.size pos.cells turn.target (shown_at turn pos.size pos.cells p)
        (sym (ap (λ (S : Points). sets.contains S q) (rests_other turn pos p f g)) ∙ h)
  ]
]

-- on a position that agrees there the target has not too many liberties, and the point is a candidate
pub shown_there : (node : Node) (pos here : BoardState) (p : ℕ) → IsPosition pos → IsPosition here
    → node.turn.target < pos.size * pos.size → is_attackers node ≡ true → is_gone node pos ≡ false
    → has_too_many node pos ≡ false → is_candidate node.turn pos p ≡ true
    → AgreeOn (points_of (has (candidate_rests_on node.turn pos p))) pos here
    → (has_too_many node here ≡ false) × (is_candidate node.turn here p ≡ true)
shown_there node pos here p good sound on turn stands few candidate same =
    let there = candidate_there node.turn pos here p (candidate_rests_on node.turn pos p) good sound on
    (stone_of_cell (cell_at pos.cells node.turn.target) stands) turn candidate same (λ q inside. inside) in
    (there.0 ∙ few, there.1)
