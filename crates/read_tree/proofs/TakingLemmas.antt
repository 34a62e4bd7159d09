-- A lone stone that was just taken may be taken back: when it is lone, when the play takes, and who wins then.
use Rattle.std.proofs.Common.{◌≡◌, ◌≢◌, ◌⊎◌, ℕ, zero, suc, ◌-◌, ◌*◌, ◌<◌, ◌≤◌, Bool, true, false, not, ◌&&◌, ◌||◌, cond}
use Rattle.std.proofs.Common.{List, Option, Some, None, IfSome, IfNone, is_some, is_none, Result, Ok, Err, refl, sym}
use Rattle.std.proofs.Common.{ap, subst, ◌∙◌, arith, inl, inr, nat_lt}
use Rattle.std.proofs.lemmas.Bool.{cases_Bool, cases_eq, both_ways, and_parts, and_from, or_cases, or_left, or_right}
use Rattle.std.proofs.lemmas.Bool.{not-true, not_from_false, eqb-true, eq-eqb, ltb-true, lt-ltb}
use Rattle.std.specs.Ordering.{nat_cmp}
use Rattle.std.specs.FinSet as sets
use Rattle.go_rules.specs.declared.Cell.{Cell}
use Rattle.go_rules.specs.declared.Cell.TheVariants.{Empty, Black, White}
use Rattle.go_rules.specs.declared.Colour.{Colour}
use Rattle.go_rules.specs.declared.Colour.TheVariants.{Black as black, White as white}
use Rattle.go_rules.specs.declared.Illegal.{Illegal}
use Rattle.go_rules.specs.declared.Illegal.TheVariants.{Ko, Suicide}
use Rattle.go_rules.specs.Below.{any_below}
use Rattle.go_rules.specs.Board.{are_neighbours}
use Rattle.go_rules.specs.Neighbourhood.{neighbourhood_of}
use Rattle.go_rules.specs.Strings.{cell_at, same_cell, is_stone, liberties, liberty_points, is_liberty}
use Rattle.go_rules.specs.Position.{BoardState, IsPosition, other, stone_of, is_banned}
use Rattle.go_rules.specs.Play.{play_free}
use Rattle.go_rules.proofs.Cells.{eq_is_same_cell}
use Rattle.go_rules.proofs.Counts.{any_below_from, any_below_false}
use Rattle.go_rules.proofs.Links.{liberties_some, liberties_from}
use Rattle.go_rules.proofs.OnlyLiberties.{stone_not_empty}
use Rattle.go_rules.proofs.Paths.{same_cell-true, same_cell-from, IsLiberty-from_test}
use Rattle.go_rules.proofs.Plays.{enemy_differs, taken_beside}
use Rattle.go_rules.proofs.Results.{after_on, result_of, free_done, free_suicide, play_ko, play_else}
use Rattle.go_rules.proofs.Sets.{same_nat_set}
use Rattle.go_base.specs.Views.{alone, neighbours_of}
use Rattle.go_base.proofs.LastLiberties.{contains-liberty_points}
use Rattle.go_base.proofs.PointNeighbourhoods.{close_sides}
use Rattle.wider_rules.specs.Strings.{holds_next}
use Rattle.read_moves.specs.Reaches.{IsReached, by_side, by_string}
use Rattle.read_moves.specs.Steps.{AllLive}
use Rattle.read_moves.proofs.OtherLiberties.{other_or_only}
use Rattle.read_moves.proofs.ReachLemmas.{freed, only_gained}
use Rattle.read_rules.specs.declared.node.Node.{Node}
use Rattle.read_rules.specs.declared.turn.Turn.{Turn}
use Rattle.read_rules.specs.Trees.{is_wider}
use Rattle.read_rules.specs.Turns.{mover_of, next_turn}
use Rattle.read_rules.specs.declared.question.ReadingQuestion.{ReadingQuestion}
use Rattle.read_rules.specs.ActiveArea.{by_taking_back}
use Rattle.read_rules.specs.GameTree.{is_captured, is_walled_in, has_lost_stones, has_lost_one_stone, taking_back}
use Rattle.read_rules.specs.GameTree.{allowance_of, attacker_wins, child_by, child_of, can_play, suits, succeeds}
use Rattle.read_rules.proofs.WinLemmas.{wins-captured, wins-none_left, wins-taken_back, some_or_none}
use Rattle.read_tree.specs.declared.allowances.Allowances.{Allowances}
use Rattle.read_tree.specs.Allowances.{Ko as KoAllowance, defender_may, neither_may, attacker_may, under, has, without}
use Rattle.read_tree.specs.Allowances.{defender_ko_of, own_ko, own_where, IsFiltered}
use Rattle.read_tree.specs.Steps.{IsTakenForGood, with_neighbour, AreNodesOf}
use Rattle.read_tree.proofs.AllowanceLemmas.{has-without, neither_nodes}

-- what was found, where something was
pub when_some : (o : Option ℕ) (P Q : ℕ → Type 0) → ((q : ℕ) → P q → Q q) → IfSome o P → is_some o ≡ true
    → (q : ℕ) × Q q
when_some None P Q f h e = cc
when_some (Some q) P Q f h e = (q, f q h)

-- the test for none is the opposite of the test for some
pub none_is : (some none : Bool) → some ≡ not none → none ≡ not some
none_is some none e = grind arith

-- a stone that is next to a point by the test
next_parts : (s : ℕ) (cells : List Cell) (cell : Cell) (l p : ℕ) → holds_next s cells cell l p ≡ true
    → (p < s * s) × (cell_at cells p ≡ cell) × (are_neighbours s l p ≡ true)
unfolding holds_next
next_parts s cells cell l p h = grind (arith, and_parts, ltb-true, same_cell-true)

-- and by the board
next_from : (s : ℕ) (cells : List Cell) (cell : Cell) (l p : ℕ) → p < s * s → cell_at cells p ≡ cell
    → are_neighbours s l p ≡ true → holds_next s cells cell l p ≡ true
unfolding holds_next
next_from s cells cell l p on its near = grind (arith, and_from, lt-ltb, same_cell-from)

-- no point is in the empty set
none_in : (points : sets.FinSet nat_cmp) (x : ℕ) → points ≡ sets.empty → sets.contains points x ≡ false
none_in points x e = ap (λ t. sets.contains t x) e ∙ sets.contains-empty nat_cmp x

-- a stone of the defender that was found beside the target
pub stone_beside : (turn : Turn) (here : BoardState) (s q : ℕ) (none now : sets.FinSet nat_cmp) (cell : Cell)
    → here.size ≡ s → none ≡ sets.empty → cell ≡ stone_of turn.defender
    → sets.contains now q ≡ (sets.contains none q || holds_next s here.cells cell turn.target q)
    → sets.contains now q ≡ true → IsTakenForGood turn here
stone_beside turn here s q none now cell size e its is h =
    let held = ap (λ b. b || holds_next s here.cells cell turn.target q) (sym (none_in none q e)) ∙ sym is ∙ h in
    let w = next_parts s here.cells cell turn.target q held in
    with_neighbour q (subst (λ m. q < m * m) (sym size) w.0)
    (ap (λ m. are_neighbours m turn.target q) size ∙ w.2) (w.1 ∙ its)

-- the neighbours of a point lie in its neighbourhood
pub near_sides : (s : ℕ) (cells : List Cell) (t : ℕ) → t < s * s → (p : ℕ) → neighbours_of s t p ≡ true
    → neighbourhood_of s cells (alone t) p ≡ true
near_sides s cells t on p h = grind (arith, and_parts, close_sides, and_from, or_right)

-- a point with a neighbour that holds no stone of c is not walled in by c
pub not_walled : (s : ℕ) (cells : List Cell) (t : ℕ) (c : Colour) (q : ℕ) → q < s * s → are_neighbours s t q ≡ true
    → (cell_at cells q ≡ stone_of c → ⊥) → is_walled_in s cells t c ≡ false
not_walled s cells t c q on near differs = ap not (any_below_from (s * s)
    (λ r. are_neighbours s t r && not (same_cell (cell_at cells r) (stone_of c))) q on (and_from _ _ near
    (elim (cases_Bool (same_cell (cell_at cells q) (stone_of c))) [
      | inl same ↦ absurd (differs (same_cell-true _ _ same))
      | inr f ↦ not_from_false _ f
    ])))

-- a point whose neighbours all hold stones of c is walled in by c
walled_from : (s : ℕ) (cells : List Cell) (t : ℕ) (c : Colour)
    → ((q : ℕ) → q < s * s → are_neighbours s t q ≡ true → cell_at cells q ≡ stone_of c)
    → is_walled_in s cells t c ≡ true
walled_from s cells t c all =
    grind (arith, not_from_false, any_below_false, cases_Bool, and_parts, both_ways, not-true, same_cell-from)

-- a cell that is not empty and holds no stone of one colour holds one of the other
third_cell : (cell : Cell) (d : Colour) → (cell ≡ Empty → ⊥) → (cell ≡ stone_of d → ⊥) → cell ≡ stone_of (other d)
third_cell Empty d empty own = absurd (empty refl)
third_cell Black black empty own = absurd (own refl)
third_cell Black white empty own = refl
third_cell White black empty own = refl
third_cell White white empty own = absurd (own refl)

-- Which neighbours of p are empty or hold a stone of d was found.
module _ (s : ℕ) (cells : List Cell) (p : ℕ) (d : Colour) (none first now : sets.FinSet nat_cmp) (stone : Cell)
    (nothing : none ≡ sets.empty) (its : stone ≡ stone_of d)
    (one : (x : ℕ) → sets.contains first x ≡ (sets.contains none x || holds_next s cells Empty p x))
    (two : (x : ℕ) → sets.contains now x ≡ (sets.contains first x || holds_next s cells stone p x)) where
  -- an empty neighbour was found
  empty_found : (x : ℕ) → x < s * s → are_neighbours s p x ≡ true → cell_at cells x ≡ Empty
      → sets.contains now x ≡ true
  empty_found x on near e =
      two x ∙ or_left _ _ (one x ∙ or_right (sets.contains none x) _ (next_from s cells Empty p x on e near))

  -- and one with a stone of d
  own_found : (x : ℕ) → x < s * s → are_neighbours s p x ≡ true → cell_at cells x ≡ stone_of d
      → sets.contains now x ≡ true
  own_found x on near e = two x ∙ or_right (sets.contains first x) _ (next_from s cells stone p x on (e ∙ sym its) near)

  -- so p is walled in by the other colour exactly where none was found
  pub walled_by : (o : Option ℕ) (P : ℕ → Type 0) → ((x : ℕ) → P x → sets.contains now x ≡ true) → IfSome o P
      → IfNone o ((x : ℕ) → 0 ≤ x → sets.contains now x ≡ false) → is_none o ≡ is_walled_in s cells p (other d)
  walled_by None P has some none_left = sym (walled_from s cells p (other d) (λ q on near.
      third_cell (cell_at cells q) d
      (λ e. both_ways (sets.contains now q) (none_left q (omega arith)) (empty_found q on near e))
      (λ e. both_ways (sets.contains now q) (none_left q (omega arith)) (own_found q on near e))))
  walled_by (Some q) P has some none_left =
      grind (arith, or_cases, both_ways, none_in, next_parts, stone_not_empty, enemy_differs, not_walled)

-- The empty point t of a position is walled in by the enemies of d.
module _ (here : BoardState) (d : Colour) (t : ℕ) (sound : IsPosition here) (on : t < here.size * here.size)
    (vacant : cell_at here.cells t ≡ Empty)
    (walled : is_walled_in here.size here.cells t (other d) ≡ true) where
  -- a stone of d there reaches nothing
  none_reached : (x : ℕ) → IsReached here.size here.cells d t x → ⊥
  none_reached x (by_side side) =
      grind (arith, stone_not_empty, cases_Bool, same_cell-true, both_ways, not_walled, same_cell-from)
  none_reached x (by_string b ne) =
      grind (arith, enemy_differs, cases_Bool, same_cell-true, both_ways, not_walled, same_cell-from)

  -- so it is suicide, where it takes nothing
  suicide : AllLive here.size here.cells d t → liberties here.size (after_on here d t) t ≡ 0
  suicide live = elim (cases_eq (liberties here.size (after_on here d t) t) 0) [
    | inl e ↦ e
    | inr ne ↦ (let some = liberties_some here.size (after_on here d t) t (omega (arith, ne)) in
        absurd (none_reached some.0 (only_gained here.size here.cells d t sound.cells on vacant live
        (taken_beside here sound d t on vacant) some.0 some.1)))
  ]

  -- where it is suicide, it takes nothing
  lives : liberties here.size (after_on here d t) t ≡ 0 → AllLive here.size here.cells d t
  lives z q q_on beside enemy = elim (other_or_only here.size here.cells q q_on t) [
    | inl o ↦ record { point = o.0; liberty = o.1; other = o.2 }
    | inr only ↦ (let some = liberties_from here.size (after_on here d t) t q on
        (freed here.size here.cells d t sound.cells on vacant q q_on beside enemy only) in
        absurd (omega (arith, some, z)))
  ]

  -- the point is no stone
  no_stone : is_stone (cell_at here.cells t) ≡ false
  no_stone = ap is_stone vacant

  -- a play that is suicide has no child, whatever the ban says
  none_by : (node : Node) (left : ℕ) (banned : Bool)
      → child_by node (cond banned (Err Ko) (Err Suicide)) (Err Suicide) left ≡ None
  none_by node left true = refl
  none_by node left false = refl

  -- whether the play leads to a child, by what it is without the ban
  child_is : (node : Node) → mover_of node.turn ≡ d → (r : Result BoardState Illegal) → play_free here d t ≡ r
      → child_of node here t ≡ child_by node (cond (is_banned here.ban d t) (Err Ko) r) r (allowance_of node)
  unfolding child_of
  child_is node moves r is = grind (arith, cases_Bool, play_ko, no_stone, play_else)

  -- a play that takes nothing cannot be made
  pub quiet_fails : (node : Node) → mover_of node.turn ≡ d → AllLive here.size here.cells d t
      → can_play node here t ≡ false
  quiet_fails node moves live = ap is_some (child_is node moves (Err Suicide)
      (sym (free_suicide here d t no_stone (suicide live)))
      ∙ none_by node (allowance_of node) (is_banned here.ban d t))

  -- one that takes can, where the ban does not forbid it
  pub loud_plays : (node : Node) → mover_of node.turn ≡ d → (AllLive here.size here.cells d t → ⊥)
      → is_banned here.ban d t ≡ false → can_play node here t ≡ true
  loud_plays node moves loud f = ap is_some (child_is node moves (Ok (result_of here d t))
      (sym (free_done here d t no_stone (λ z. loud (lives z))))
      ∙ ap (λ b. child_by node (cond b (Err Ko) (Ok (result_of here d t))) (Ok (result_of here d t))
      (allowance_of node)) f)

  -- and else where an allowance is left
  pub loud_allowed : (node : Node) → mover_of node.turn ≡ d → (AllLive here.size here.cells d t → ⊥)
      → is_banned here.ban d t ≡ true → can_play node here t ≡ nat_lt 0 (allowance_of node)
  loud_allowed node moves loud b = ap is_some (child_is node moves (Ok (result_of here d t))
      (sym (free_done here d t no_stone (λ z. loud (lives z))))
      ∙ ap (λ x. child_by node (cond x (Err Ko) (Ok (result_of here d t))) (Ok (result_of here d t))
      (allowance_of node)) b)
      ∙ by node (allowance_of node) (result_of here d t)
    where
      by : (node : Node) (left : ℕ) (new : BoardState)
          → is_some (child_by node (Err Ko) (Ok new) left) ≡ nat_lt 0 left
      by node zero new = refl
      by node (suc left) new = sym (lt-ltb 0 (suc left) (omega arith))

-- no lone stone was lost in the stated tree
pub lost_stated : (node : Node) (pos : BoardState) → is_wider node.turn.tree ≡ false
    → has_lost_one_stone node pos ≡ false
lost_stated node pos e = grind arith

-- nor at the attacker's turn
pub lost_by_attacker : (node : Node) (pos : BoardState) → node.turn.attacker_to_play ≡ true
    → has_lost_one_stone node pos ≡ false
lost_by_attacker node pos e = grind arith

-- nor at a point that is not walled in
pub lost_free : (node : Node) (pos : BoardState)
    → is_walled_in pos.size pos.cells node.turn.target (other node.turn.defender) ≡ false
    → has_lost_one_stone node pos ≡ false
lost_free node pos e = grind arith

-- else it was
pub lost_lone : (node : Node) (pos : BoardState) → is_wider node.turn.tree ≡ true → node.turn.attacker_to_play ≡ false
    → is_captured pos node.turn.target ≡ true
    → is_walled_in pos.size pos.cells node.turn.target (other node.turn.defender) ≡ true
    → has_lost_one_stone node pos ≡ true
lost_lone node pos w t c x = and_from _ _ (and_from _ _ (and_from _ _ w (not_from_false _ t)) c) x

-- where no lone stone was lost, none is taken back
pub back_none : (node : Node) (pos : BoardState) → has_lost_one_stone node pos ≡ false → taking_back node pos ≡ None
unfolding taking_back
back_none node pos e = ap (λ b. cond b (child_of node pos node.turn.target) None) e

-- where one was, it is taken back by the play at its point
pub back_is : (node : Node) (pos : BoardState) → has_lost_one_stone node pos ≡ true
    → taking_back node pos ≡ child_of node pos node.turn.target
unfolding taking_back
back_is node pos e = ap (λ b. cond b (child_of node pos node.turn.target) None) e

-- a target that is taken for good is captured
pub captured_for_good : (n : ℕ) (node : Node) (pos : BoardState) → is_captured pos node.turn.target ≡ true
    → has_lost_one_stone node pos ≡ false → attacker_wins n node pos ≡ true
captured_for_good n node pos t e = wins-captured n node pos t (back_none node pos e)

-- The defender has lost a lone stone.
module _ (node : Node) (pos : BoardState) (taken : is_captured pos node.turn.target ≡ true)
    (lone : has_lost_one_stone node pos ≡ true) where
  -- with no ply left the attacker wins where he cannot take back
  pub lone_left : (n : ℕ) → n ≡ 0 → attacker_wins n node pos ≡ not (can_play node pos node.turn.target)
  lone_left n e = ap (λ m. attacker_wins m node pos) e ∙ by (some_or_none (child_of node pos node.turn.target))
    where
      by : ((child_of node pos node.turn.target ≡ None)
          ⊎ ((child : Node × BoardState) × (child_of node pos node.turn.target ≡ Some child)))
          → attacker_wins 0 node pos ≡ not (can_play node pos node.turn.target)
      by (inl none) = wins-captured 0 node pos taken (back_is node pos lone ∙ none)
          ∙ sym (ap (λ o. not (is_some o)) none)
      by (inr some) = wins-none_left node pos some.0 (back_is node pos lone ∙ some.1)
          ∙ sym (ap (λ o. not (is_some o)) some.1)

  -- with a ply left where the play that takes back does not give the defender his way
  pub lone_read : (n : ℕ) → n ≢ 0 → node.turn.attacker_to_play ≡ false
      → attacker_wins n node pos ≡ not (succeeds (n - 1) node pos node.turn.target)
  lone_read zero ne turn = absurd (ne refl)
  lone_read (suc n) ne turn =
      let less : suc n - 1 ≡ n = omega arith in
      by (some_or_none (child_of node pos node.turn.target))
      ∙ sym (ap (λ m. not (succeeds m node pos node.turn.target)) less
      ∙ ap (λ b. not (suits n b (child_of node pos node.turn.target))) turn)
    where
      twice : (b : Bool) → b ≡ not (not b)
      twice true = refl
      twice false = refl

      by : ((child_of node pos node.turn.target ≡ None)
          ⊎ ((child : Node × BoardState) × (child_of node pos node.turn.target ≡ Some child)))
          → attacker_wins (suc n) node pos ≡ not (suits n false (child_of node pos node.turn.target))
      by (inl none) = wins-captured (suc n) node pos taken (back_is node pos lone ∙ none)
          ∙ sym (ap (λ o. not (suits n false o)) none)
      by (inr some) = wins-taken_back n node pos some.0 taken (back_is node pos lone ∙ some.1)
          ∙ twice (attacker_wins n some.0.0 some.0.1) ∙ sym (ap (λ o. not (suits n false o)) some.1)

-- what is not found of the asked, where the test fails exactly where the attacker wins
pub IsFiltered-lost : {asked found : Allowances} {way won : KoAllowance → Bool} → IsFiltered asked found way
    → ((ko : KoAllowance) → won ko ≡ not (way ko)) → IsFiltered asked (without asked found) won
IsFiltered-lost {asked} {found} {way} {won} t is = grind (arith, has-without)

-- a target that is taken for good is captured under all that is asked
pub IsFiltered-taken : (n : ℕ) (turn : Turn) (here : BoardState) (asked : Allowances)
    → is_captured here turn.target ≡ true → has_lost_one_stone (under turn neither_may) here ≡ false
    → IsFiltered asked asked (λ ko. attacker_wins n (under turn ko) here)
IsFiltered-taken n turn here asked taken good = grind (arith, captured_for_good)

-- under which allowances the defender's play takes back that the ban forbids: his own
pub IsFiltered-banned : (asked : Allowances) (test : KoAllowance → Bool) → test defender_may ≡ true
    → test neither_may ≡ false → test attacker_may ≡ false → IsFiltered asked (own_where false asked.defender) test
IsFiltered-banned asked test d n a = grind arith

-- an empty point has no liberties
pub no_liberties : (s : ℕ) (cells : List Cell) (t : ℕ) (points : sets.FinSet nat_cmp) → points ≡ sets.empty
    → cell_at cells t ≡ Empty → points ≡ liberty_points s cells t
no_liberties s cells t points e vacant = same_nat_set points (liberty_points s cells t) (λ x.
    none_in points x e ∙ sym (contains-liberty_points s cells t x ∙ by x (is_liberty s cells t x) refl))
  where
    by : (x : ℕ) (b : Bool) → is_liberty s cells t x ≡ b → b ≡ false
    by x false e = refl
    by x true e = let lib = IsLiberty-from_test s cells t x e in
        absurd (both_ways (is_stone (cell_at cells t)) (ap is_stone vacant) lib.beside.1.stone)

-- at the defender's turn he is the mover
pub defends : (turn : Turn) → turn.attacker_to_play ≡ false → mover_of turn ≡ turn.defender
defends turn e = ap (λ b. cond b (other turn.defender) turn.defender) e

-- he has no allowance left under one that is not his
pub nothing_of_it : (turn : Turn) (ko : KoAllowance) → turn.attacker_to_play ≡ false → defender_ko_of ko ≡ 0
    → nat_lt 0 (allowance_of (under turn ko)) ≡ false
nothing_of_it turn ko e none = grind (arith, nat_lt)

-- and one under his own
pub one_of_it : (turn : Turn) → turn.attacker_to_play ≡ false → nat_lt 0 (allowance_of (under turn defender_may)) ≡ true
one_of_it turn e = ap (λ b. nat_lt 0 (cond b 0 1)) e

-- The defender has lost a lone stone, with n plies left after the play that takes it back, which leads to new.
module _ {q : ReadingQuestion} {root here new : BoardState} {n : ℕ} {turn : Turn} {asked : Allowances}
    (tree : AreNodesOf q root (suc n) turn asked here)
    (lone : has_lost_one_stone (under turn neither_may) here ≡ true) where
  -- a legal play leads to the nodes of the trees under the same allowances
  pub back_nodes : ((ko : KoAllowance)
      → child_of (under turn ko) here turn.target ≡ Some (under (next_turn turn) ko, new))
      → AreNodesOf q root n (next_turn turn) asked new
  back_nodes made = record {
    each = λ ko h. by_taking_back (tree.each ko h) (under (next_turn turn) ko) new
        (back_is (under turn ko) here lone ∙ made ko);
  }

  -- and one that spends the own allowance to the node under none
  pub back_spent : has asked (own_ko turn.attacker_to_play) ≡ true
      → child_of (under turn (own_ko turn.attacker_to_play)) here turn.target
      ≡ Some (under (next_turn turn) neither_may, new)
      → AreNodesOf q root n (next_turn turn) (record { defender = false; neither = true; attacker = false }) new
  back_spent own made = neither_nodes (by_taking_back (tree.each (own_ko turn.attacker_to_play) own)
      (under (next_turn turn) neither_may) new
      (back_is (under turn (own_ko turn.attacker_to_play)) here lone ∙ made))

-- the defender has just lost the target in the wider tree
pub lost_stones : (node : Node) (pos : BoardState) → is_wider node.turn.tree ≡ true
    → node.turn.attacker_to_play ≡ false → is_captured pos node.turn.target ≡ true → has_lost_stones node pos ≡ true
lost_stones node pos w t c = and_from _ _ (and_from _ _ w (not_from_false _ t)) c
