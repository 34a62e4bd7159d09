-- The defender's play at a liberty of the target keeps the other liberties, and gains the empty sides of its point;
-- with too many of them the target is saved.
use Rattle.std.proofs.Common.{◌≡◌, ◌≢◌, ℕ, ◌-◌, ◌*◌, ◌<◌, ◌≤◌, ◌⊎◌, Bool, true, false, not, cond, List}
use Rattle.std.proofs.Common.{length, refl, sym, ap, subst, ◌∙◌, arith, inl, inr, set, Ok}
use Rattle.std.proofs.lemmas.Bool.{and_from, and_parts, lt-ltb}
use Rattle.std.specs.Ordering.{nat_cmp}
use Rattle.std.specs.FinSet as sets
use Rattle.go_rules.specs.declared.Cell.{Cell}
use Rattle.go_rules.specs.declared.Colour.{Colour}
use Rattle.go_rules.specs.Below.{count_below, set_below}
use Rattle.go_rules.specs.Strings.{cell_at, is_stone, step, IsInString, IsLiberty, is_liberty, liberties}
use Rattle.go_rules.specs.Position.{BoardState, other, stone_of}
use Rattle.go_rules.specs.Play.{play, cells_after}
use Rattle.go_rules.proofs.OnlyLiberties.{stone_not_empty}
use Rattle.go_rules.proofs.Counts.{count_below_mono}
use Rattle.go_rules.proofs.Links.{are_neighbours_comm, path_same, path_back, path_keeps, liberty_moves, liberties_some}
use Rattle.go_rules.proofs.Links.{liberties_from}
use Rattle.go_rules.proofs.Paths.{path_on_board, IsLiberty-from_test, is_liberty-from_fact}
use Rattle.go_rules.proofs.Plays.{at_put_same, at_put_other, at_after, own_not_taken, stone_is}
use Rattle.go_rules.proofs.Results.{result_of, free_done, play_else}
use Rattle.go_rules.proofs.Sets.{same_nat_set, contains-set_below, len-set_below}
use Rattle.go_rules.proofs.Tests.{same_tests}
use Rattle.read_moves.specs.Reaches.{IsReached, by_side}
use Rattle.read_moves.proofs.WholeBoards.{IsWhole}
use Rattle.read_moves.proofs.ReachLemmas.{gained}
use Rattle.read_rules.specs.Candidates.{IsEmptyNeighbour}
use Rattle.read_rules.specs.GameTree.{allowance_of, next_node, child_of, suits, succeeds}
use Rattle.read_rules.proofs.RuleLemmas.{child_from}
use Rattle.read_rules.specs.declared.turn.Turn.{Turn}
use Rattle.read_tree.specs.Allowances.{Ko, under}
use Rattle.read_rules.specs.Bound.{outlasts}
use Rattle.read_tree.specs.Escapes.{Escapes}
use Rattle.read_rules.proofs.LibertyLemmas.{bounded, some_liberty, more_outlasts_attacker}

-- points that all pass the test are no more than those that do
few_members : (n : ℕ) (test : ℕ → Bool) (points : sets.FinSet nat_cmp)
    → ((x : ℕ) → sets.contains points x ≡ true → (x < n) × (test x ≡ true)) → sets.len points ≤ count_below n test
few_members n test points each =
    let below : points ≡ set_below n (sets.contains points) =
    same_nat_set _ _ (λ x. same_tests _ _ (λ h. and_from _ _ (lt-ltb x n (each x h).0) h)
    (λ h. (and_parts _ _ h).1) ∙ sym (contains-set_below n (sets.contains points) x)) in
    let counted : sets.len points ≡ count_below n (sets.contains points) =
    ap sets.len below ∙ len-set_below n (sets.contains points) in
    let fewer : count_below n (sets.contains points) ≤ count_below n test =
    count_below_mono n (sets.contains points) test (λ x on h. (each x h).1) in
    subst (λ k. k ≤ count_below n test) (sym counted) fewer

-- c plays at l, a liberty of his string at t
module _ (s : ℕ) (cells : List Cell) (c : Colour) (l t : ℕ) (whole : length cells ≡ s * s) (on : t < s * s)
    (own : cell_at cells t ≡ stone_of c) (lib : IsLiberty s cells t l) where
  -- the cells with the stone put
  abbrev put : List Cell
  put = set cells l (stone_of c)

  -- the cells after what it takes was removed
  abbrev gone : List Cell
  gone = cells_after s put c

  -- the new one
  new_stands : cell_at gone l ≡ stone_of c
  new_stands = grind (arith, at_after, own_not_taken, at_put_same)

  -- and one that stood before
  old_stands : (x : ℕ) → x < s * s → cell_at cells x ≡ stone_of c → cell_at gone x ≡ stone_of c
  old_stands x x_on stone = grind (arith, at_after, own_not_taken, at_put_other, stone_not_empty)

  -- the new stone is of the string
  joined : IsInString s gone t l
  joined =
      let y = lib.beside.0 in
      let path = lib.beside.1.path in
      let still = old_stands t on own in
      record {
        stone = ap is_stone still ∙ stone_is c;
        path = step (path_keeps s cells gone t (λ x w.
            let stone = path_same s cells t w ∙ own in
            old_stands x (path_on_board s cells t on w) stone ∙ sym stone) path)
            lib.on_board lib.beside.2 (new_stands ∙ sym still);
      }

  -- the other liberties, and the empty sides of l, are reached by the new stone
  reached : (x : ℕ) → (IsLiberty s cells t x × (x ≢ l)) ⊎ IsEmptyNeighbour s cells l x → IsReached s cells c l x
  reached x (inr side) = by_side side
  reached x (inl other) =
      grind (arith, are_neighbours_comm, path_on_board, path_same, liberty_moves, stone_is, path_back)

  -- so they are liberties of the string after the play
  pub kept_liberty : (x : ℕ) → (IsLiberty s cells t x × (x ≢ l)) ⊎ IsEmptyNeighbour s cells l x
      → IsLiberty s gone t x
  kept_liberty x w = liberty_moves s gone t l x on joined (gained s cells c l whole lib.on_board lib.is_empty x (reached
      x w))

  -- and there are no fewer
  pub kept_count : (kept : sets.FinSet nat_cmp)
      → ((x : ℕ) → sets.contains kept x ≡ true → (IsLiberty s cells t x × (x ≢ l)) ⊎ IsEmptyNeighbour s cells l x)
      → sets.len kept ≤ liberties s gone t
  unfolding liberties
  kept_count kept each = grind (arith, few_members, kept_liberty, is_liberty-from_fact)

  -- where the string has a liberty, so has the new stone
  pub new_lives : 0 < liberties s gone t → liberties s gone l ≢ 0
  new_lives some z =
      let x = liberties_some s gone t some in
      let back : IsInString s gone l t = record {
        stone = ap is_stone new_stands ∙ stone_is c;
        path = path_back s gone t on joined.path;
      } in
      let lives = liberties_from s gone l x.0 lib.on_board (liberty_moves s gone l t x.0 lib.on_board back x.1) in
      omega (arith, lives, z)

-- A defender who runs free at a liberty of his target.
module _ (n : ℕ) (turn : Turn) (here : BoardState) (known : sets.FinSet nat_cmp) (whole : IsWhole here)
    (on : turn.target < here.size * here.size) (defends : turn.attacker_to_play ≡ false)
    (its : (q : ℕ) → sets.contains known q ≡ is_liberty here.size here.cells turn.target q)
    (e : Escapes n turn here known) where
  -- the position after his play there
  abbrev new : BoardState
  new = result_of here turn.defender e.l

  -- the point is a liberty
  played : IsLiberty here.size here.cells turn.target e.l
  played = IsLiberty-from_test here.size here.cells turn.target e.l (sym (its e.l) ∙ e.there)

  -- what he keeps are other liberties, or empty sides of the point
  kept_each : (x : ℕ) → sets.contains e.runs.kept x ≡ true
      → (IsLiberty here.size here.cells turn.target x × (x ≢ e.l)) ⊎ IsEmptyNeighbour here.size here.cells e.l x
  kept_each x h = elim (e.runs.each x h) [
    | inl other ↦ inl (IsLiberty-from_test here.size here.cells turn.target x (sym (its x) ∙ other.0), other.1)
    | inr side ↦ inr side
  ]

  -- so the target then has too many
  escaped : outlasts turn.tree true n (turn.wide - 1) (liberties here.size new.cells turn.target) ≡ true
  escaped = grind (arith, more_outlasts_attacker, kept_count, played, kept_each)

  -- the play is legal
  run_legal : play here turn.defender e.l ≡ Ok new
  run_legal = grind (arith, new_lives, played, some_liberty, escaped, play_else, free_done)

  -- so he has his way there, under any allowance
  pub escape_succeeds : (ko : Ko) → succeeds n (under turn ko) here e.l ≡ true
  escape_succeeds ko =
      let mover = ap (λ b. cond b (other turn.defender) turn.defender) defends in
      let node = next_node (under turn ko) (allowance_of (under turn ko)) in
      let child = child_from (under turn ko) here e.l node new
      (inl (record { legal = ap (λ k. play here k e.l) mover ∙ run_legal; next_is = refl })) in
      let lost = bounded n node new on (ap (λ b. outlasts turn.tree (not b) n (turn.wide - 1)
      (liberties here.size new.cells turn.target)) defends ∙ escaped) in
      ap (λ b. suits n b (child_of (under turn ko) here e.l)) defends ∙ ap (suits n false) child ∙ ap not lost
