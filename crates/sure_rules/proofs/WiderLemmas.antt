-- A sure capture of the stated tree stays sure in the wider one if the target is never taken back: so does that of a
-- string of two stones or more.
use Rattle.std.proofs.Common.{◌≡◌, ◌≢◌, ◌⊎◌, ℕ, zero, suc, ◌-◌, ◌*◌, ◌<◌, true, false, None, Ok, refl, sym, ap, subst, ◌∙◌}
use Rattle.std.proofs.Common.{arith, inl, inr}
use Rattle.std.proofs.lemmas.Bool.{cases_Bool, cases_lt, both_ways, lt-ltb}
use Rattle.std.proofs.lemmas.List.{get_or_past}
use Rattle.go_rules.specs.declared.Cell.TheVariants.{Empty}
use Rattle.go_rules.specs.Board.{are_neighbours}
use Rattle.go_rules.specs.Strings.{cell_at, Path, start, step}
use Rattle.go_rules.specs.Position.{BoardState, IsPosition, other, stone_of}
use Rattle.go_rules.specs.Play.{play_free, pass}
use Rattle.go_rules.specs.Rules.{IsCaptured}
use Rattle.go_rules.proofs.Links.{are_neighbours_comm}
use Rattle.go_rules.proofs.OnlyLiberties.{stone_not_empty}
use Rattle.go_rules.proofs.Paths.{same_cell-from}
use Rattle.go_rules.proofs.Plays.{at_put_other, enemy_differs, taken_whole}
use Rattle.go_rules.proofs.PlayLaws.{captured_from, done_state, free_follows, free_keeps, others_stay, pass_keeps}
use Rattle.go_rules.proofs.PlayLaws.{taken_by_words}
use Rattle.go_rules.proofs.Results.{put_on}
use Rattle.read_rules.specs.declared.node.Node.{Node}
use Rattle.read_rules.specs.GameTree.{allowance_of, next_node, taking_back}
use Rattle.read_rules.specs.Turns.{mover_of}
use Rattle.read_rules.specs.Rules.{IsChild}
use Rattle.read_rules.proofs.LibertyLemmas.{child_free, play_size}
use Rattle.read_rules.proofs.RuleLemmas.{child_gives, child_from, takes_back_gives}
use Rattle.read_rules.proofs.WinLemmas.{some_or_none}
use Rattle.sure_rules.specs.Nodes.{is_attackers, is_gone, target_of, HasMoreStones, in_wider_tree}
use Rattle.sure_rules.specs.SureTree.{surely_wins, IsAfterEachMove, IsNeverTakenBack}
use Rattle.sure_rules.proofs.SureLemmas.{sure-captured, sure_now, sure_attacker_gives, sure_attacker_from}
use Rattle.sure_rules.proofs.SureLemmas.{sure_defender_gives, sure_defender_from, tried_candidate, tried_anywhere, tried_on}
use Rattle.sure_rules.proofs.StayLemmas.{few_stay, candidate_stays}
use Rattle.sure_rules.proofs.TakenLemmas.{free_on_board}

-- a child of a node is one of the node in the wider tree
wider_child : (node : Node) (pos : BoardState) (p : ℕ) (next : Node) (new : BoardState) → IsChild node pos p next new
    → IsChild (in_wider_tree node) pos p (in_wider_tree next) new
wider_child node pos p next new (inl w) = inl (record { legal = w.legal; next_is = ap in_wider_tree w.next_is })
wider_child node pos p next new (inr w) = grind arith

-- a child of the node in the wider tree comes of one of the node
narrow_child : (node : Node) (pos : BoardState) (p : ℕ) (next : Node) (new : BoardState)
    → IsChild (in_wider_tree node) pos p next new
    → (before : Node) × IsChild node pos p before new × (next ≡ in_wider_tree before)
narrow_child node pos p next new (inl w) = (
  next_node node (allowance_of node),
  inl (record { legal = w.legal; next_is = refl }),
  w.next_is,
)
narrow_child node pos p next new (inr w) = (
  next_node node (allowance_of node - 1),
  inr (record { banned = w.banned; free = w.free; some_left = w.some_left; next_is = refl }),
  w.next_is,
)

-- A property of nodes that the moves keep, and under which the defender takes nothing back in the wider tree.
module _ (I : ℕ → Node → BoardState → Type 0)
    (none : (n : ℕ) (node : Node) (pos : BoardState) → I n node pos → taking_back (in_wider_tree node) pos ≡ None)
    (after : (n : ℕ) (node : Node) (pos : BoardState) → I (suc n) node pos → is_gone node pos ≡ false
    → IsAfterEachMove (I n) node pos) where
  -- what is surely captured under it is so in the wider tree
  pub sure_in_wider : (n : ℕ) (node : Node) (pos : BoardState) → I n node pos → surely_wins n node pos ≡ true
      → surely_wins n (in_wider_tree node) pos ≡ true
  sure_in_wider zero node pos i sure = sure-captured 0 (in_wider_tree node) pos (sure_now node pos sure) (none 0 node pos i)
  sure_in_wider (suc n) node pos i sure = elim (cases_Bool (is_gone node pos)) [
    | inl t ↦ sure-captured (suc n) (in_wider_tree node) pos t (none (suc n) node pos i)
    | inr stands ↦ elim (cases_Bool (is_attackers node)) [
      | inl turn ↦
          let w = sure_attacker_gives n node pos stands turn sure in
          let below = (after n node pos i stands).played w.1.point w.1.next w.1.new
          (tried_candidate node pos w.1.point turn ∙ w.1.candidate)
          (child_from node pos w.1.point w.1.next w.1.new w.1.child) in
          sure_attacker_from n (in_wider_tree node) pos stands turn (
            few_stay node.turn (in_wider_tree node).turn pos refl (inr refl) (omega arith) w.0,
            record {
              point = w.1.point;
              next = in_wider_tree w.1.next;
              new = w.1.new;
              candidate = candidate_stays node.turn (in_wider_tree node).turn pos w.1.point refl refl (inr refl)
                  (omega arith) w.1.candidate;
              child = wider_child node pos w.1.point w.1.next w.1.new w.1.child;
              wins = sure_in_wider n w.1.next w.1.new below w.1.wins;
            },
          )
      | inr turn ↦
          let w = sure_defender_gives n node pos stands turn sure in
          let each = after n node pos i stands in
          sure_defender_from n (in_wider_tree node) pos stands turn (record {
            passed = sure_in_wider n (next_node node (allowance_of node)) (pass pos) (each.passed turn) w.passed;
            played = λ p next new on child.
                let reply = narrow_child node pos p next new child in
                ap (λ (m : Node). surely_wins n m new) reply.2
                ∙ sure_in_wider n reply.0 new
                (each.played p reply.0 new (tried_anywhere node pos p turn ∙ lt-ltb p (pos.size * pos.size) on)
                (child_from node pos p reply.0 new reply.1))
                (w.played p reply.0 new on reply.1);
          })
    ]
  ]

-- a target that is never taken back is not taken back here
never_here : (n : ℕ) (node : Node) (pos : BoardState) → IsNeverTakenBack n node pos
    → taking_back (in_wider_tree node) pos ≡ None
never_here zero node pos h = h
never_here (suc n) node pos h = h.0

-- what is surely captured and is never taken back is surely captured in the wider tree
pub never_taken_back : (n : ℕ) (node : Node) (pos : BoardState) → IsNeverTakenBack n node pos
    → surely_wins n node pos ≡ true → surely_wins n (in_wider_tree node) pos ≡ true
never_taken_back = sure_in_wider IsNeverTakenBack never_here (λ n node pos h stands. h.1 stands)

-- the target is taken, and a neighbour of its point holds no stone of the attacker
record IsGap (node : Node) (pos : BoardState) : Type 0 where
  beside : ℕ
  on_board : beside < pos.size * pos.size
  adjacent : are_neighbours pos.size (target_of node) beside ≡ true
  free : cell_at pos.cells beside ≢ stone_of (other node.turn.defender)
  gone : is_gone node pos ≡ true

-- the board is a position, and the target is a string of two stones or more, or was one
abbrev WasMoreStones : Node → BoardState → Type 0
WasMoreStones node pos = IsPosition pos × (HasMoreStones node pos ⊎ IsGap node pos)

-- it is not taken back
none_of_more : (node : Node) (pos : BoardState) → WasMoreStones node pos → taking_back (in_wider_tree node) pos ≡ None
none_of_more node pos was =
    grind (
      arith,
      some_or_none,
      takes_back_gives,
      stone_not_empty,
      some_or_none (taking_back (in_wider_tree node) pos),
      takes_back_gives (in_wider_tree node) pos,
      stone_not_empty node.turn.defender,
    )

-- A play at a node whose target is a string of two stones or more.
module _ (node : Node) (pos : BoardState) (sound : IsPosition pos) (more : HasMoreStones node pos) (p : ℕ)
    (new : BoardState) (played : play_free pos (mover_of node.turn) p ≡ Ok new) where
  -- it is not where a stone of the defender stands
  elsewhere : (q : ℕ) → cell_at pos.cells q ≡ stone_of node.turn.defender → q ≢ p
  elsewhere q its e = grind (arith, stone_not_empty, done_state)

  -- the target is on the board
  target_on : target_of node < pos.size * pos.size
  target_on = grind (arith, cases_lt, stone_not_empty, get_or_past)

  -- if the stone beside it is taken, so is the target
  taken_together : IsCaptured pos.size (put_on pos (mover_of node.turn) p) (mover_of node.turn) more.beside
      → cell_at new.cells (target_of node) ≡ Empty
  taken_together captured =
      let c = mover_of node.turn in
      let put = put_on pos c p in
      let beside_is = at_put_other pos.cells p more.beside (stone_of c) (elsewhere more.beside more.same) ∙ more.same in
      let target_is = at_put_other pos.cells p (target_of node) (stone_of c) (elsewhere (target_of node) more.stands)
      ∙ more.stands in
      let path : Path pos.size put more.beside (target_of node) =
      step start target_on (are_neighbours_comm pos.size more.beside (target_of node) ∙ more.adjacent)
      (target_is ∙ sym beside_is) in
      let taken = taken_whole pos.size put c more.beside (target_of node) more.on_board
      (taken_by_words pos.size put c more.beside captured) path in
      (free_follows pos c p new (free_on_board pos c p new played) played).cells.removed (target_of node) target_on
      (captured_from pos.size put c (target_of node) target_on taken)

  -- where it stood the attacker has no stone afterwards
  beside_free : cell_at new.cells more.beside ≢ stone_of (other node.turn.defender)
  beside_free =
      grind (
        arith,
        others_stay pos (mover_of node.turn) p new more.beside played more.on_board (elsewhere more.beside more.same),
        elsewhere more.beside more.same,
        enemy_differs,
        stone_not_empty,
      )

  -- the target is still a string of two stones or more, or was one
  more_after : (left : ℕ) → HasMoreStones (next_node node left) new ⊎ IsGap (next_node node left) new
  more_after left =
      let size = play_size pos (mover_of node.turn) p new played in
      let on = subst (λ s. more.beside < s * s) (sym size) more.on_board in
      let adjacent = ap (λ s. are_neighbours s (target_of node) more.beside) size ∙ more.adjacent in
      elim (others_stay pos (mover_of node.turn) p new (target_of node) played target_on
      (elsewhere (target_of node) more.stands)) [
        | inr taken ↦ inr (record {
          beside = more.beside;
          on_board = on;
          adjacent = adjacent;
          free = beside_free;
          gone = same_cell-from _ _ taken.1;
        })
        | inl same ↦ elim (others_stay pos (mover_of node.turn) p new more.beside played more.on_board
            (elsewhere more.beside more.same)) [
              | inr taken ↦ absurd (stone_not_empty node.turn.defender
                  (sym (same ∙ more.stands) ∙ taken_together taken.2))
              | inl beside_same ↦ inl (record {
                stands = same ∙ more.stands;
                beside = more.beside;
                on_board = on;
                adjacent = adjacent;
                same = beside_same ∙ more.same;
              })
            ]
      ]

-- so it is after each move
more_stones_stay : (node : Node) (pos : BoardState) → WasMoreStones node pos → is_gone node pos ≡ false
    → IsAfterEachMove WasMoreStones node pos
more_stones_stay node pos was stands = elim was.1 [
  | inr gap ↦ absurd (both_ways (is_gone node pos) stands gap.gone)
  | inl more ↦ record {
    passed = λ turn. (
      pass_keeps pos was.0,
      inl (record {
        stands = more.stands;
        beside = more.beside;
        on_board = more.on_board;
        adjacent = more.adjacent;
        same = more.same;
      }),
    );
    played = λ p next new tried e.
        let child = child_gives node pos p next new e in
        let free = child_free node pos p next new child in
        subst (λ (m : Node). WasMoreStones m new) (sym free.2) (
          free_keeps pos (mover_of node.turn) p new was.0 (tried_on node pos p tried) free.1,
          more_after node pos was.0 more p new free.1 free.0,
        );
  }
]

-- what is surely captured as a string of two stones or more is surely captured in the wider tree
pub more_stones_in_wider : (n : ℕ) (node : Node) (pos : BoardState) → IsPosition pos → HasMoreStones node pos
    → surely_wins n node pos ≡ true → surely_wins n (in_wider_tree node) pos ≡ true
more_stones_in_wider n node pos sound more =
    sure_in_wider (λ n. WasMoreStones) (λ n. none_of_more) (λ n. more_stones_stay) n node pos (sound, inl more)
