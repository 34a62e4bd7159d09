-- The test for a connecting move says what the rules say in terms of strings and liberties.
use Rattle.std.proofs.Common.{◌≡◌, ℕ, ◌*◌, ◌<◌, ◌&&◌, ◌||◌, true, List, inl, inr, arith}
use Rattle.std.proofs.lemmas.Bool.{and_parts, and_from, or_cases, or_left, or_right}
use Rattle.go_rules.specs.declared.Cell.{Cell}
use Rattle.go_rules.specs.Strings.{is_liberty}
use Rattle.go_rules.specs.Position.{BoardState}
use Rattle.go_rules.proofs.Counts.{any_below_gives, any_below_from}
use Rattle.go_rules.proofs.Paths.{IsLiberty-from_test, is_liberty-from_fact}
use Rattle.go_base.specs.Surroundings.{is_only_liberty, is_last_liberty_of_enemy}
use Rattle.wider_rules.proofs.FurtherLaws.{last_gives, last_from}
use Rattle.read_rules.proofs.CandidateLaws.{takes_gives, takes_from}
use Rattle.connect_rules.specs.declared.link.Link.{Link}
use Rattle.connect_rules.specs.ConnectingMoves.{is_facing, is_between, is_capture, is_connecting_move}
use Rattle.connect_rules.specs.ConnectingMoves.{IsFacing, IsConnectingMove, shared, a_faces, b_faces, a_extends}
use Rattle.connect_rules.specs.ConnectingMoves.{b_extends, a_takes, b_takes}

-- a liberty that faces the other string by the test does so by the rules, and the other way round
facing_gives : (s : ℕ) (cells : List Cell) (a b p : ℕ) → is_facing s cells a b p ≡ true
    → (q : ℕ) × IsFacing s cells a b q p
unfolding is_facing
facing_gives s cells a b p h =
    let parts = and_parts _ _ h in
    let q = any_below_gives (s * s) _ parts.1 in
    let both = and_parts _ _ q.2 in (
      q.0,
      record {
        its = IsLiberty-from_test s cells a p parts.0;
        others = IsLiberty-from_test s cells b q.0 both.0;
        beside = both.1;
      },
    )

-- a liberty that faces the other string by the rules does so by the test
facing_from : (s : ℕ) (cells : List Cell) (a b q p : ℕ) → a < s * s → b < s * s → IsFacing s cells a b q p
    → is_facing s cells a b p ≡ true
unfolding is_facing
facing_from s cells a b q p a_on b_on w =
    and_from _ _ (is_liberty-from_fact s cells a p a_on w.its)
    (any_below_from (s * s) _ q w.others.on_board
    (and_from _ _ (is_liberty-from_fact s cells b q b_on w.others) w.beside))

-- a point between the strings is a connecting move by the rules
between_gives : (s : ℕ) (cells : List Cell) (a b p : ℕ) → is_between s cells a b p ≡ true
    → IsConnectingMove s cells a b p
unfolding is_between
between_gives s cells a b p h = elim (or_cases _ _ h) [
  | inl first ↦ elim (or_cases (is_liberty s cells a p && is_liberty s cells b p)
      (is_facing s cells a b p || is_facing s cells b a p) first) [
        | inl both ↦
            let parts = and_parts _ _ both in
            shared (IsLiberty-from_test s cells a p parts.0) (IsLiberty-from_test s cells b p parts.1)
        | inr faces ↦ elim (or_cases (is_facing s cells a b p) (is_facing s cells b a p) faces) [
          | inl x ↦ let w = facing_gives s cells a b p x in a_faces w.0 w.1
          | inr x ↦ let w = facing_gives s cells b a p x in b_faces w.0 w.1
        ]
      ]
  | inr last ↦ elim (or_cases (is_only_liberty s cells a p) (is_only_liberty s cells b p) last) [
    | inl x ↦ a_extends (last_gives s cells a p x)
    | inr x ↦ b_extends (last_gives s cells b p x)
  ]
]

-- a capture beside a string is a connecting move by the rules
capture_gives : (s : ℕ) (cells : List Cell) (a b p : ℕ) → is_capture s cells a b p ≡ true
    → IsConnectingMove s cells a b p
unfolding is_capture
capture_gives s cells a b p h =
    elim (or_cases (is_last_liberty_of_enemy s cells a p) (is_last_liberty_of_enemy s cells b p) h) [
      | inl x ↦ let w = takes_gives s cells a p x in a_takes w.0 w.1
      | inr x ↦ let w = takes_gives s cells b p x in b_takes w.0 w.1
    ]

-- a connecting move by the test is one by the rules
pub move_gives : (link : Link) (pos : BoardState) (p : ℕ) → is_connecting_move link pos p ≡ true
    → IsConnectingMove pos.size pos.cells link.a link.b p
move_gives link pos p h =
    elim (or_cases (is_between pos.size pos.cells link.a link.b p) (is_capture pos.size pos.cells link.a link.b p) h) [
      | inl x ↦ between_gives pos.size pos.cells link.a link.b p x
      | inr x ↦ capture_gives pos.size pos.cells link.a link.b p x
    ]

-- The tests for the sets that a connecting move by the rules is in.
module _ (s : ℕ) (cells : List Cell) (a b p : ℕ) where
  -- a point that faces the other string, or is the one liberty of one, lies between them
  faces : is_facing s cells a b p || is_facing s cells b a p ≡ true
      → is_between s cells a b p || is_capture s cells a b p ≡ true
  unfolding is_between
  faces h = or_left _ _ (or_left _ _ (or_right _ _ h))

  -- the one liberty of either lies between them
  extends : is_only_liberty s cells a p || is_only_liberty s cells b p ≡ true
      → is_between s cells a b p || is_capture s cells a b p ≡ true
  unfolding is_between
  extends h = or_left _ _ (or_right _ _ h)

  -- the last liberty of an enemy string beside either captures
  captures : is_last_liberty_of_enemy s cells a p || is_last_liberty_of_enemy s cells b p ≡ true
      → is_between s cells a b p || is_capture s cells a b p ≡ true
  unfolding is_capture
  captures h = or_right _ _ h

  -- a shared liberty lies between them
  shares : is_liberty s cells a p && is_liberty s cells b p ≡ true
      → is_between s cells a b p || is_capture s cells a b p ≡ true
  unfolding is_between
  shares h = or_left _ _ (or_left _ _ (or_left _ _ h))

  -- a connecting move by the rules passes the test
  pub test_from : a < s * s → b < s * s → IsConnectingMove s cells a b p
      → is_between s cells a b p || is_capture s cells a b p ≡ true
  test_from a_on b_on (shared x y) =
      shares (and_from _ _ (is_liberty-from_fact s cells a p a_on x) (is_liberty-from_fact s cells b p b_on y))
  test_from a_on b_on (a_faces q w) = faces (or_left _ _ (facing_from s cells a b q p a_on b_on w))
  test_from a_on b_on (b_faces q w) = faces (or_right _ _ (facing_from s cells b a q p b_on a_on w))
  test_from a_on b_on (a_extends w) = extends (or_left _ _ (last_from s cells a p a_on w))
  test_from a_on b_on (b_extends w) = extends (or_right _ _ (last_from s cells b p b_on w))
  test_from a_on b_on (a_takes q w) = captures (or_left _ _ (takes_from s cells a q p a_on w))
  test_from a_on b_on (b_takes q w) = captures (or_right _ _ (takes_from s cells b q p b_on w))

-- a connecting move by the rules is one by the test
pub move_from : (link : Link) (pos : BoardState) (p : ℕ) → link.a < pos.size * pos.size → link.b < pos.size * pos.size
    → IsConnectingMove pos.size pos.cells link.a link.b p → is_connecting_move link pos p ≡ true
move_from link pos p a_on b_on w = test_from pos.size pos.cells link.a link.b p a_on b_on w

-- a connecting move is a point of the board
pub move_on : (link : Link) (pos : BoardState) (p : ℕ) → is_connecting_move link pos p ≡ true
    → p < pos.size * pos.size
move_on link pos p h = grind (arith, move_gives)
