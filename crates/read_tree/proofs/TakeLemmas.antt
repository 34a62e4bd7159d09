-- The attacker takes a target by its only liberty, where the ban lets him play there.
use Rattle.std.proofs.Common.{◌≡◌, ◌≢◌, ℕ, suc, ◌*◌, ◌<◌, true, false, cond, List, length, refl, sym, ap, ◌∙◌}
use Rattle.std.proofs.Common.{arith, add-one, set, inl, inr, ◌||◌, eqb, Ok}
use Rattle.std.proofs.lemmas.Bool.{or_cases, or_right, and_parts, and_from, lt-ltb}
use Rattle.std.specs.FinSet as sets
use Rattle.std.specs.Ordering.{nat_cmp}
use Rattle.go_rules.specs.Board.{are_neighbours}
use Rattle.go_rules.specs.Neighbourhood.{neighbourhood_of}
use Rattle.go_rules.proofs.Sets.{contains-set_below}
use Rattle.go_base.specs.Views.{alone}
use Rattle.go_base.proofs.PointNeighbourhoods.{close_alone, close_around}
use Rattle.go_rules.specs.declared.Cell.{Cell}
use Rattle.go_rules.specs.declared.Cell.TheVariants.{Empty}
use Rattle.go_rules.specs.declared.Colour.{Colour}
use Rattle.go_rules.specs.declared.Colour.TheVariants.{Black as black, White as white}
use Rattle.go_rules.specs.Strings.{cell_at, Path, is_stone, start, step, IsLiberty, is_liberty, liberties}
use Rattle.go_rules.specs.Strings.{liberty_points}
use Rattle.go_rules.specs.Position.{BoardState, other, stone_of}
use Rattle.go_rules.specs.Play.{play, cells_after, is_taken}
use Rattle.go_rules.proofs.Links.{path_same, path_keeps, liberties_from, are_neighbours_comm}
use Rattle.go_rules.proofs.Paths.{path_on_board, same_cell-from, IsLiberty-from_test, is_liberty-from_fact}
use Rattle.go_rules.proofs.Plays.{at_put_same, at_put_other, at_after, own_not_taken, taken_whole, stone_is}
use Rattle.go_rules.proofs.Results.{result_of, free_done, play_else}
use Rattle.go_rules.proofs.PlayLaws.{taken_by_words}
use Rattle.go_rules.proofs.OnlyLiberties.{stone_not_empty, only_liberty_captures}
use Rattle.read_rules.specs.Candidates.{fills}
use Rattle.read_rules.proofs.CandidateLaws.{candidate_from}
use Rattle.read_rules.specs.declared.node.Node.{Node}
use Rattle.read_rules.specs.declared.turn.Turn.{Turn}
use Rattle.read_moves.proofs.WholeBoards.{IsWhole}
use Rattle.read_rules.specs.GameTree.{is_captured, has_many_liberties, attacker_wins, next_node, allowance_of}
use Rattle.read_rules.specs.GameTree.{has_lost_one_stone, is_walled_in}
use Rattle.read_rules.specs.Rules.{SomeChildWins}
use Rattle.read_rules.proofs.AnswerLemmas.{stone_stands}
use Rattle.read_tree.specs.Allowances.{Ko, under}
use Rattle.read_tree.specs.Steps.{IsTaken, in_stated, with_neighbour}
use Rattle.read_rules.proofs.RuleLemmas.{attacker_from}
use Rattle.read_rules.specs.Trees.{is_wider}
use Rattle.read_rules.specs.Turns.{next_turn}
use Rattle.read_tree.proofs.TakingLemmas.{captured_for_good, lost_stated, lost_free, not_walled}

-- The string of t, an enemy of c, has the only liberty l.
module _ (s : ℕ) (cells : List Cell) (c : Colour) (l t : ℕ) (whole : length cells ≡ s * s) (on : t < s * s)
    (enemy : cell_at cells t ≡ stone_of (other c))
    (lib : IsLiberty s cells t l) (only : (x : ℕ) → IsLiberty s cells t x → x ≡ l) where
  -- the cells once the stone was put at l, before any stone is taken
  abbrev put : List Cell
  put = set cells l (stone_of c)

  -- the string of t is taken by the play at l
  taken : is_taken s put c t ≡ true
  taken = grind (arith, taken_by_words, only_liberty_captures)

  -- what is taken is empty
  gone : (q : ℕ) → q < s * s → is_taken s put c q ≡ true → cell_at (cells_after s put c) q ≡ Empty
  gone q q_on h = at_after s put c q q_on ∙ ap (λ b. cond b Empty (cell_at put q)) h

  -- t is empty after the play at l
  pub target_gone : cell_at (cells_after s put c) t ≡ Empty
  target_gone = gone t on taken

  -- the string of t is whole when the stone was put
  string_put : (q : ℕ) → Path s cells t q → Path s put t q
  string_put q path = grind (arith, path_keeps, at_put_other, stone_not_empty, path_same)

  -- the stone at l stands after the play
  stone_stays : cell_at (cells_after s put c) l ≡ stone_of c
  stone_stays = grind (arith, at_after, own_not_taken, at_put_same)

  -- a stone beside t of its colour goes with it
  pub beside_gone : (q : ℕ) → q < s * s → are_neighbours s t q ≡ true → cell_at cells q ≡ stone_of (other c)
      → cell_at (cells_after s put c) q ≡ Empty
  beside_gone q q_on near stone =
      gone q q_on (taken_whole s put c t q on taken (string_put q (step start q_on near (stone ∙ sym enemy))))

  -- the stone of the string next to it leaves it a liberty
  freed_beside : IsLiberty s (cells_after s put c) l lib.beside.0
  freed_beside =
      let q = lib.beside.0 in
      let path = string_put q lib.beside.1.path in
      let q_on = path_on_board s put t on path in
      let near = are_neighbours_comm s l q ∙ lib.beside.2 in
      record {
        on_board = q_on;
        is_empty = gone q q_on (taken_whole s put c t q on taken path);
        beside = (l, record { stone = ap is_stone stone_stays ∙ stone_is c; path = start }, near);
      }

  -- so the stone at l has a liberty
  pub stone_lives : liberties s (cells_after s put c) l ≢ 0
  stone_lives z = grind (arith, liberties_from, freed_beside)

-- the other colour of the other colour is the colour
pub other_twice : (c : Colour) → other (other c) ≡ c
other_twice black = refl
other_twice white = refl

-- the attacker's play at the only liberty of the target is legal and captures it, and a stone beside it goes with it
take_legal : (turn : Turn) (here : BoardState) → IsWhole here → turn.target < here.size * here.size
    → (t : IsTaken turn here) → let new = result_of here (other turn.defender) t.l in
    (play here (other turn.defender) t.l ≡ Ok new) × (is_captured new turn.target ≡ true)
    × ((q : ℕ) → q < here.size * here.size → are_neighbours here.size turn.target q ≡ true
    → cell_at here.cells q ≡ stone_of turn.defender → cell_at new.cells q ≡ Empty)
take_legal turn here whole on t =
    let s = here.size in
    let c = other turn.defender in
    let enemy = t.enemy ∙ ap stone_of (sym (other_twice turn.defender)) in
    let lib = IsLiberty-from_test s here.cells turn.target t.l t.liberty in
    let only : (x : ℕ) → IsLiberty s here.cells turn.target x → x ≡ t.l =
    λ x h. t.only x (is_liberty-from_fact s here.cells turn.target x on h) in
    let vacant = ap is_stone lib.is_empty in
    let lives = stone_lives s here.cells c t.l turn.target whole on enemy lib only in (
      sym (play_else here c t.l vacant t.free) ∙ sym (free_done here c t.l vacant lives),
      same_cell-from _ _ (target_gone s here.cells c t.l turn.target whole on enemy lib only),
      λ q q_on near stone. beside_gone s here.cells c t.l turn.target whole on enemy lib only q q_on near
          (stone ∙ ap stone_of (sym (other_twice turn.defender))),
    )

-- it takes no lone stone that may be taken back
not_lone : (node next : Node) (here : BoardState) → IsWhole here → node.turn.target < here.size * here.size
    → (t : IsTaken node.turn here) → next.turn ≡ next_turn node.turn
    → has_lost_one_stone next (result_of here (other node.turn.defender) t.l) ≡ false
not_lone node next here whole on t is =
    let turn = node.turn in
    let new = result_of here (other turn.defender) t.l in
    let taken = take_legal turn here whole on t in
    elim t.for_good [
      | in_stated e ↦ lost_stated next new (ap (λ (k : Turn). is_wider k.tree) is ∙ e)
      | with_neighbour q q_on near stone ↦ lost_free next new
          (ap (λ (k : Turn). is_walled_in new.size new.cells k.target (other k.defender)) is
          ∙ not_walled here.size new.cells turn.target (other turn.defender) q q_on near
          (λ e. stone_not_empty (other turn.defender) (sym e ∙ taken.2 q q_on near stone)))
    ]

-- so at the attacker's turn some child is won, however many plies are left
take_child : (n : ℕ) (node : Node) (here : BoardState) → IsWhole here → node.turn.target < here.size * here.size
    → IsTaken node.turn here → SomeChildWins n node here
take_child n node here whole on t =
    let new = result_of here (other node.turn.defender) t.l in
    let taken = take_legal node.turn here whole on t in
    let next = next_node node (allowance_of node) in
    let mover = ap (λ b. cond b (other node.turn.defender) node.turn.defender) t.attacks in
    let lib = IsLiberty-from_test here.size here.cells node.turn.target t.l t.liberty in
    record {
      point = t.l;
      next = next;
      new = new;
      candidate = candidate_from node.turn here t.l on (fills lib);
      child = inl (record { legal = ap (λ k. play here k t.l) mover ∙ taken.0; next_is = refl });
      wins = captured_for_good n next new taken.1 (not_lone node next here whole on t refl);
    }

-- with a ply left, an attacker who may play at the only liberty of the target captures it
pub taking_wins : (n : ℕ) (node : Node) (here : BoardState) → IsWhole here → node.turn.target < here.size * here.size
    → has_many_liberties node.turn here ≡ false → IsTaken node.turn here
    → attacker_wins (suc n) node here ≡ true
taking_wins n node here whole on few t =
    grind (
      arith,
      stone_stands (cell_at here.cells node.turn.target) node.turn.defender t.enemy,
      add-one n,
      attacker_from n node here,
      take_child n node here whole on t,
    )

-- the same at a turn, under any allowance
pub take_wins : (n : ℕ) (turn : Turn) (here : BoardState) → IsWhole here → turn.target < here.size * here.size
    → has_many_liberties turn here ≡ false → IsTaken turn here → (ko : Ko)
    → attacker_wins (suc n) (under turn ko) here ≡ true
take_wins n turn here whole on few t ko = taking_wins n (under turn ko) here whole on few t

-- a set of liberties of the target, and the target, are near it
pub near_liberty : (s : ℕ) (cells : List Cell) (t p : ℕ) (found : sets.FinSet nat_cmp) → t < s * s
    → found ≡ liberty_points s cells t → (alone t p || sets.contains found p) ≡ true
    → neighbourhood_of s cells (alone t) p ≡ true
unfolding liberty_points
near_liberty s cells t p found on e h = elim (or_cases (alone t p) (sets.contains found p) h) [
  | inl self ↦ close_alone s cells t p on self
  | inr there ↦
      let test = (and_parts _ _ (sym (contains-set_below (s * s) (is_liberty s cells t) p)
      ∙ ap (λ x. sets.contains x p) (sym e) ∙ there)).1 in
      let lib = IsLiberty-from_test s cells t p test in
      close_around s cells t lib.beside.0 p on lib.beside.1.stone lib.beside.1.path
      (and_from _ _ (lt-ltb p (s * s) lib.on_board)
      (or_right (eqb p lib.beside.0) (are_neighbours s lib.beside.0 p) lib.beside.2))
]
