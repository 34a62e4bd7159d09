-- A sure capture stays sure with more plies, with further candidates of the attacker in the same tree, and with fewer
-- allowances of the defender.
use Rattle.std.proofs.Common.{◌≡◌, ◌⊎◌, ℕ, zero, suc, ◌-◌, ◌≤◌, Bool, true, false, ◌&&◌, cond}
use Rattle.std.proofs.Common.{Some, refl, sym, ap, ◌∙◌, arith, inl, inr, subst}
use Rattle.std.proofs.lemmas.Bool.{cases_Bool, and_parts, and_from, both_ways, or_cases, or_left, or_right}
use Rattle.std.proofs.lemmas.Bool.{lt-ltb, ltb-true}
use Rattle.go_rules.specs.declared.Colour.{Colour}
use Rattle.go_rules.specs.Board.{are_neighbours}
use Rattle.go_rules.specs.Strings.{cell_at}
use Rattle.go_rules.specs.Position.{BoardState, other, stone_of}
use Rattle.go_rules.specs.Play.{play, play_free, pass}
use Rattle.wider_rules.specs.Further.{is_further}
use Rattle.read_rules.specs.Candidates.{is_candidate}
use Rattle.read_rules.specs.declared.node.Node.{Node}
use Rattle.read_rules.specs.declared.turn.Turn.{Turn}
use Rattle.read_rules.specs.declared.tree.Tree.{Tree}
use Rattle.read_rules.specs.declared.tree.Tree.TheVariants.{Stated, Wider}
use Rattle.read_rules.specs.Trees.{is_wider, most_narrow}
use Rattle.read_rules.specs.Stages.{is_later_candidate}
use Rattle.read_rules.proofs.StageLemmas.{candidate_stages}
use Rattle.read_rules.specs.GameTree.{is_captured, has_many_liberties, allowance_of, next_node, taking_back}
use Rattle.read_rules.specs.Turns.{mover_of}
use Rattle.read_rules.specs.Rules.{IsChild, TakesBack}
use Rattle.read_rules.proofs.RuleLemmas.{many_gives, many_from, takes_back_from}
use Rattle.sure_rules.specs.Nodes.{is_attackers, is_gone, target_of, has_too_many, IsNoHarder}
use Rattle.sure_rules.specs.SureTree.{surely_wins}
use Rattle.sure_rules.proofs.SureLemmas.{sure-taken_back, sure_at_end, sure_by_rules, sure_if_back_fails}
use Rattle.sure_rules.proofs.SureLemmas.{none_and_some, sure_attacker_gives, sure_attacker_from}
use Rattle.sure_rules.proofs.SureLemmas.{sure_defender_gives, sure_defender_from}

-- one tree is the other, or the wider one
abbrev pub IsAsWide : Tree → Tree → Type 0
IsAsWide tree larger = (larger ≡ tree) ⊎ (larger ≡ Wider)

-- the wider tree plays at targets with at least as many liberties
most_as_wide : (tree larger : Tree) → IsAsWide tree larger → most_narrow tree ≤ most_narrow larger
most_as_wide tree larger (inl e) = subst (λ t. most_narrow tree ≤ most_narrow t) (sym e) (omega arith)
most_as_wide Stated larger (inr e) = subst (λ t. 2 ≤ most_narrow t) (sym e) (omega arith)
most_as_wide Wider larger (inr e) = subst (λ t. 4 ≤ most_narrow t) (sym e) (omega arith)

-- with more wide plies, or in the wider tree, no target has too many liberties that had few enough
pub few_stay : (small large : Turn) (pos : BoardState) → large.target ≡ small.target → IsAsWide small.tree large.tree
    → small.wide ≤ large.wide → has_many_liberties small pos ≡ false → has_many_liberties large pos ≡ false
few_stay small large pos same as_wide more few =
    grind (arith, cases_Bool, both_ways, many_from, many_gives, most_as_wide)

-- the further candidates are there in the wider tree alone
further_stay : (tree larger : Tree) (x : Bool) → IsAsWide tree larger → (is_wider tree && x) ≡ true
    → (is_wider larger && x) ≡ true
further_stay tree larger x (inl e) h = ap (λ t. is_wider t && x) e ∙ h
further_stay tree larger x (inr e) h = ap (λ t. is_wider t && x) e ∙ (and_parts (is_wider tree) x h).1

-- a further candidate is one where a wide ply is left too
further_with_more : (few many side : Bool) (pos : BoardState) (target p : ℕ) → (few ≡ true → many ≡ true)
    → is_further few side pos.size pos.cells target p ≡ true → is_further many side pos.size pos.cells target p ≡ true
unfolding is_further
further_with_more few many side pos target p more h = grind (arith, or_cases, or_left, and_parts, or_right, and_from)

-- a later candidate is one with more wide plies and in the wider tree too
later_stays : (small large : Turn) (pos : BoardState) (p : ℕ) → large.target ≡ small.target
    → large.attacker_to_play ≡ small.attacker_to_play → IsAsWide small.tree large.tree → small.wide ≤ large.wide
    → is_later_candidate small pos p ≡ true → is_later_candidate large pos p ≡ true
unfolding is_later_candidate
later_stays small large pos p same side as_wide more h =
    grind (arith, lt-ltb, ltb-true, or_cases, and_parts, or_left, and_from, or_right, further_stay, further_with_more)

-- a candidate is one with more wide plies and in the wider tree too
pub candidate_stays : (small large : Turn) (pos : BoardState) (p : ℕ) → large.target ≡ small.target
    → large.attacker_to_play ≡ small.attacker_to_play → IsAsWide small.tree large.tree → small.wide ≤ large.wide
    → is_candidate small pos p ≡ true → is_candidate large pos p ≡ true
candidate_stays small large pos p same side as_wide more h =
    grind (arith, candidate_stages, or_cases, or_left, or_right, later_stays)

-- of two choices by the same test the one is at most the other if each of its parts is
le_chosen : (a b : Bool) (x y v w : ℕ) → b ≡ a → (a ≡ true → x ≤ v) → (a ≡ false → y ≤ w) → cond a x y ≤ cond b v w
le_chosen true true x y v w e first second = first refl
le_chosen false false x y v w e first second = second refl
le_chosen true false x y v w e first second = absurd (let wrong = e in cc)
le_chosen false true x y v w e first second = absurd (let wrong = e in cc)

-- A node that gives the attacker at least as much as another.
module _ (node more : Node) (h : IsNoHarder node more) where
  -- at the attacker's turn he may ignore the ban at least as often
  own_more : is_attackers node ≡ true → allowance_of node ≤ allowance_of more
  own_more turn = grind (arith, le_chosen, both_ways)

  -- at the defender's turn he may do so at most as often
  own_less : is_attackers node ≡ false → allowance_of more ≤ allowance_of node
  own_less turn = grind (arith, le_chosen, both_ways)

  -- after a move that leaves the attacker at least as much, or the defender at most as much, it still does
  pub next_stays : (left new_left : ℕ) → (is_attackers node ≡ true → left ≤ new_left)
      → (is_attackers node ≡ false → new_left ≤ left) → IsNoHarder (next_node node left) (next_node more new_left)
  next_stays left new_left attacks defends = grind (arith, le_chosen)

  -- the same side is to play
  same_mover : mover_of more.turn ≡ mover_of node.turn
  same_mover = grind arith

  -- the target stands at both or at neither
  same_target : (pos : BoardState) → is_gone more pos ≡ is_gone node pos
  same_target pos = ap (is_captured pos) h.target

  -- the target has few enough liberties at the other node too
  still_few : (pos : BoardState) → has_too_many node pos ≡ false → has_too_many more pos ≡ false
  still_few pos few = few_stay node.turn more.turn pos h.target (inl h.tree) h.wide few

  -- a candidate of the attacker is one at the other node too
  still_candidate : (pos : BoardState) (p : ℕ) → is_candidate node.turn pos p ≡ true
      → is_candidate more.turn pos p ≡ true
  still_candidate pos p candidate = candidate_stays node.turn more.turn pos p h.target h.turn (inl h.tree) h.wide candidate

  -- the passes lead to such nodes
  passes_stay : is_attackers node ≡ false
      → IsNoHarder (next_node node (allowance_of node)) (next_node more (allowance_of more))
  passes_stay turn = grind (arith, next_stays, both_ways, own_less)

  -- a play that the attacker can make at the node he can make at the other, and it leads to such a node
  plays_stay : (pos : BoardState) (p : ℕ) (next : Node) (new : BoardState) → is_attackers node ≡ true
      → IsChild node pos p next new → (other_next : Node) × IsChild more pos p other_next new × IsNoHarder next other_next
  plays_stay pos p next new turn (inl w) = (
    next_node more (allowance_of more),
    inl (record { legal = ap (λ c. play pos c p) same_mover ∙ w.legal; next_is = refl }),
    subst (λ (m : Node). IsNoHarder m (next_node more (allowance_of more))) (sym w.next_is)
        (next_stays (allowance_of node) (allowance_of more) own_more
        (λ f. absurd (both_ways (is_attackers node) f turn))),
  )
  plays_stay pos p next new turn (inr w) =
      let least = own_more turn in (
        next_node more (allowance_of more - 1),
        inr (record {
          banned = ap (λ c. play pos c p) same_mover ∙ w.banned;
          free = ap (λ c. play_free pos c p) same_mover ∙ w.free;
          some_left = let some = w.some_left in omega (arith, least, some);
          next_is = refl;
        }),
        subst (λ (m : Node). IsNoHarder m (next_node more (allowance_of more - 1))) (sym w.next_is)
            (next_stays (allowance_of node - 1) (allowance_of more - 1) (λ _. omega (arith, least))
            (λ f. absurd (both_ways (is_attackers node) f turn))),
      )

  -- a reply that the defender can make at the other node he can make at the node
  replies_stay : (pos : BoardState) (p : ℕ) (other_next : Node) (new : BoardState) → is_attackers node ≡ false
      → IsChild more pos p other_next new → (next : Node) × IsChild node pos p next new × IsNoHarder next other_next
  replies_stay pos p other_next new turn (inl w) = grind (arith, same_mover, passes_stay turn)
  replies_stay pos p other_next new turn (inr w) =
      let most = own_less turn in (
        next_node node (allowance_of node - 1),
        inr (record {
          banned = ap (λ c. play pos c p) (sym same_mover) ∙ w.banned;
          free = ap (λ c. play_free pos c p) (sym same_mover) ∙ w.free;
          some_left = let some = w.some_left in omega (arith, most, some);
          next_is = refl;
        }),
        subst (IsNoHarder (next_node node (allowance_of node - 1))) (sym w.next_is)
            (next_stays (allowance_of node - 1) (allowance_of more - 1)
            (λ t. absurd (both_ways (is_attackers node) turn t)) (λ _. omega (arith, most))),
      )

-- If the defender takes back at the other node, he does at the node, and it leads to such a node.
taking_back_stays : (node more : Node) (h : IsNoHarder node more) (pos : BoardState) (other_next : Node) (new : BoardState)
    → TakesBack more pos other_next new
    → (next : Node) × (taking_back node pos ≡ Some (next, new)) × IsNoHarder next other_next
taking_back_stays node more h pos other_next new back =
    let turn : is_attackers node ≡ false = sym h.turn ∙ back.lost.turn in
    let at_target = subst (λ t. IsChild more pos t other_next new) h.target back.child in
    let reply = replies_stay node more h pos (target_of node) other_next new turn at_target in (
      reply.0,
      takes_back_from node pos reply.0 new (record {
        lost = record {
          tree = sym h.tree ∙ back.lost.tree;
          turn = turn;
          taken = ap (cell_at pos.cells) (sym h.target) ∙ back.lost.taken;
        };
        lone = λ q on near. back.lone q on (ap (λ t. are_neighbours pos.size t q) h.target ∙ near)
            ∙ ap (λ (c : Colour). stone_of (other c)) h.defender;
        child = reply.1;
      }),
      reply.2,
    )

-- What is surely captured is surely captured with more plies, from a node that gives the attacker at least as much.
pub stays_sure : (n m : ℕ) (node more : Node) (pos : BoardState) → n ≤ m → IsNoHarder node more
    → surely_wins n node pos ≡ true → surely_wins m more pos ≡ true
stays_sure zero m node more pos plies h sure =
    let taken = sure_at_end node pos sure in
    sure_by_rules m more pos (same_target node more h pos ∙ taken.0)
    (λ next new back. none_and_some taken.1 (taking_back_stays node more h pos next new back).1)
stays_sure (suc n) zero node more pos plies h sure = absurd (omega (arith, plies))
stays_sure (suc n) (suc m) node more pos plies h sure = elim (cases_Bool (is_gone node pos)) [
  | inl t ↦ sure_if_back_fails m more pos (same_target node more h pos ∙ t)
      (λ next new back.
      let reply = taking_back_stays node more h pos next new back in
      stays_sure n m reply.0 next new (omega (arith, plies)) reply.2
      (sym (sure-taken_back n node pos (reply.0, new) t reply.1) ∙ sure))
  | inr stands ↦ elim (cases_Bool (is_attackers node)) [
    | inl turn ↦
        let w = sure_attacker_gives n node pos stands turn sure in
        let play = plays_stay node more h pos w.1.point w.1.next w.1.new turn w.1.child in
        sure_attacker_from m more pos (same_target node more h pos ∙ stands) (h.turn ∙ turn) (
          still_few node more h pos w.0,
          record {
            point = w.1.point;
            next = play.0;
            new = w.1.new;
            candidate = still_candidate node more h pos w.1.point w.1.candidate;
            child = play.1;
            wins = stays_sure n m w.1.next play.0 w.1.new (omega (arith, plies)) play.2 w.1.wins;
          },
        )
    | inr turn ↦
        let w = sure_defender_gives n node pos stands turn sure in
        sure_defender_from m more pos (same_target node more h pos ∙ stands) (h.turn ∙ turn) (record {
          passed = stays_sure n m (next_node node (allowance_of node)) (next_node more (allowance_of more)) (pass pos)
              (omega (arith, plies)) (passes_stay node more h turn) w.passed;
          played = λ p other_next new on child.
              let reply = replies_stay node more h pos p other_next new turn child in
              stays_sure n m reply.0 other_next new (omega (arith, plies)) reply.2
              (w.played p reply.0 new on reply.1);
        })
  ]
]

-- a node gives the attacker at least as much as itself
pub no_harder-refl : (node : Node) → IsNoHarder node node
no_harder-refl node = grind arith
