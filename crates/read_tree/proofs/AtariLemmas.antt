-- The defender's target has one liberty: a play of his elsewhere that takes no stone next to it leaves it that liberty,
-- and the attacker takes it next. So does the pass.
use Rattle.std.proofs.Common.{◌≡◌, ◌≢◌, ℕ, suc, ◌-◌, ◌*◌, ◌<◌, ◌≤◌, ◌&&◌, Bool, true, false, not, cond, List, Option}
use Rattle.std.proofs.Common.{Some, None, Ok, refl, sym, ap, subst, ◌∙◌, arith, inl, inr, set}
use Rattle.std.proofs.lemmas.Bool.{cases_Bool, cases_eq, and_from, and_parts, both_ways, eqb-true, eq-eqb}
use Rattle.go_rules.specs.declared.Cell.{Cell}
use Rattle.go_rules.specs.declared.Cell.TheVariants.{Empty}
use Rattle.go_rules.specs.declared.Colour.{Colour}
use Rattle.go_rules.specs.declared.Colour.TheVariants.{Black as black, White as white}
use Rattle.go_rules.specs.Board.{are_neighbours}
use Rattle.go_rules.specs.BesideStrings.{is_enemy, is_beside_string}
use Rattle.go_rules.specs.Strings.{cell_at, is_stone, Path, start, step, IsInString, IsLiberty, is_liberty, liberties}
use Rattle.go_rules.specs.Strings.{liberty_points}
use Rattle.go_rules.specs.Position.{BoardState, IsPosition, other, stone_of, is_banned}
use Rattle.go_rules.specs.Play.{play_free, pass}
use Rattle.go_rules.specs.Rules.{IsCaptured}
use Rattle.go_rules.proofs.OnlyLiberties.{stone_not_empty}
use Rattle.go_rules.proofs.Counts.{any_below_from, count_below_mono, first_below_gives}
use Rattle.go_rules.proofs.Links.{liberties_some}
use Rattle.go_rules.proofs.Paths.{path_on_board, is_is_in_string-from_fact, IsLiberty-from_test, is_liberty-from_fact}
use Rattle.go_rules.proofs.Plays.{at_put_other, at_after, own_not_taken, stone_is, taken_parts}
use Rattle.go_rules.proofs.PlayLaws.{done_state, free_keeps, others_stay}
use Rattle.go_rules.proofs.BanLaws.{ban_parts}
use Rattle.go_base.specs.Surroundings.{is_only_liberty, is_last_liberty_of_enemy}
use Rattle.read_rules.proofs.CandidateLaws.{candidate_on}
use Rattle.read_rules.specs.Turns.{next_turn}
use Rattle.read_rules.specs.Candidates.{is_candidate}
use Rattle.read_rules.specs.declared.node.Node.{Node}
use Rattle.read_rules.specs.GameTree.{has_many_liberties, allowance_of, next_node, child_of, suits, attacker_wins}
use Rattle.read_rules.specs.GameTree.{succeeds, pass_saves}
use Rattle.read_rules.proofs.RuleLemmas.{child_gives, many_gives}
use Rattle.read_rules.proofs.AfterPlays.{put_liberty, after_liberty}
use Rattle.read_rules.proofs.OneMember.{one_member}
use Rattle.go_base.proofs.LastLiberties.{contains-liberty_points}
use Rattle.go_base.proofs.Liberties.{len-liberty_points}
use Rattle.read_rules.specs.declared.turn.Turn.{Turn}
use Rattle.read_tree.specs.Allowances.{Ko, under}
use Rattle.read_tree.specs.Stages.{is_capture}
use Rattle.read_tree.specs.Steps.{IsTakenForGood, in_stated, with_neighbour, IsTaken, IsInAtari, is_off_liberties}
use Rattle.read_tree.proofs.AllowanceLemmas.{and_parts_not, and_false_right}
use Rattle.read_rules.proofs.LibertyLemmas.{child_free, counts_but_one, play_size}
use Rattle.read_tree.proofs.TakeLemmas.{taking_wins}

-- stones of the two colours are enemies
are_enemies : (a b : Cell) (c : Colour) → a ≡ stone_of c → b ≡ stone_of (other c) → is_enemy a b ≡ true
are_enemies a b black ea eb = ap (λ x. is_enemy x b) ea ∙ ap (is_enemy (stone_of black)) eb
are_enemies a b white ea eb = ap (λ x. is_enemy x b) ea ∙ ap (is_enemy (stone_of white)) eb

-- an enemy stone next to the string of t, whose string has the only liberty p, makes p a last liberty
is_last : (s : ℕ) (cells : List Cell) (t x y p : ℕ) → t < s * s → x < s * s → y < s * s
    → is_enemy (cell_at cells t) (cell_at cells x) ≡ true → IsInString s cells t y → are_neighbours s y x ≡ true
    → liberties s cells x ≡ 1 → IsLiberty s cells x p → is_last_liberty_of_enemy s cells t p ≡ true
unfolding is_last_liberty_of_enemy is_beside_string is_only_liberty
is_last s cells t x y p on x_on y_on enemy inside near one lib =
    any_below_from (s * s) _ x x_on
    (and_from _ _ (and_from _ _ enemy
    (any_below_from (s * s) _ y y_on (and_from _ _ (is_is_in_string-from_fact s cells t y on inside) near)))
    (and_from _ _ (eq-eqb (liberties s cells x) 1 one) (is_liberty-from_fact s cells x p x_on lib)))

-- c plays at p, which is no liberty of his string at t and no last liberty of an enemy string next to it
module _ (here : BoardState) (c : Colour) (p : ℕ) (new : BoardState) (t : ℕ) (good : IsPosition here)
    (p_on : p < here.size * here.size) (on : t < here.size * here.size) (legal : play_free here c p ≡ Ok new)
    (own : cell_at here.cells t ≡ stone_of c) (off : is_liberty here.size here.cells t p ≡ false)
    (last : is_last_liberty_of_enemy here.size here.cells t p ≡ false) where
  -- the size of the board
  abbrev s : ℕ
  s = here.size

  -- the cells once the stone was put at p, before any stone is taken
  abbrev put : List Cell
  put = set here.cells p (stone_of c)

  -- the point of the play was empty
  vacant : cell_at here.cells p ≡ Empty
  vacant = (done_state here c p new legal).0

  -- a stone of c stood elsewhere
  apart : (x : ℕ) → cell_at here.cells x ≡ stone_of c → x ≢ p
  apart x stone e = stone_not_empty c (sym stone ∙ ap (cell_at here.cells) e ∙ vacant)

  -- a liberty of the string is elsewhere
  liberty_apart : (x : ℕ) → IsLiberty s here.cells t x → x ≢ p
  liberty_apart x lib e = both_ways (is_liberty s here.cells t x) (ap (is_liberty s here.cells t) e ∙ off)
      (is_liberty-from_fact s here.cells t x on lib)

  -- each stone of c stands
  own_stands : (x : ℕ) → x < s * s → cell_at here.cells x ≡ stone_of c → cell_at new.cells x ≡ stone_of c
  own_stands x x_on stone =
      let before = at_put_other here.cells p x (stone_of c) (apart x stone) ∙ stone in
      ap (λ (b : BoardState). cell_at b.cells x) (done_state here c p new legal).1 ∙ at_after s put c x x_on
      ∙ ap (λ b. cond b Empty (cell_at put x)) (own_not_taken s put c x before) ∙ before

  -- and so the stone at t
  stands : cell_at new.cells t ≡ stone_of c
  stands = own_stands t on own

  -- a neighbour of the string as it was is not the point of the play, where that was empty
  beside_apart : (y x : ℕ) → Path s here.cells t y → are_neighbours s y x ≡ true → x ≢ p
  beside_apart y x path near e = liberty_apart p (record {
    on_board = p_on;
    is_empty = vacant;
    beside = (
      y,
      record { stone = ap is_stone own ∙ stone_is c; path = path },
      ap (are_neighbours s y) (sym e) ∙ near,
    );
  }) refl

  -- the string did not grow
  stood : {x : ℕ} → Path s new.cells t x → Path s here.cells t x
  stood start = start
  stood (step {q = y} {r = x} path x_on near same) =
      let before = stood path in
      let kept = elim (others_stay here c p new x legal x_on (beside_apart y x before near)) as
      (λ _. cell_at here.cells x ≡ cell_at here.cells t) [
        | inl kept ↦ sym kept ∙ same ∙ stands ∙ sym own
        | inr taken ↦ absurd (stone_not_empty c (sym (same ∙ stands) ∙ taken.1))
      ] in
      step before x_on near kept

  -- a string without liberties counts none
  none_counted : (cells : List Cell) (x : ℕ) → ((l : ℕ) → IsLiberty s cells x l → ⊥) → liberties s cells x ≡ 0
  none_counted cells x none = elim (cases_eq (liberties s cells x) 0) [
    | inl e ↦ e
    | inr ne ↦ (let some = liberties_some s cells x (omega (arith, ne)) in absurd (none some.0 some.1))
  ]

  -- an enemy string that is taken had no liberty but the point of the play
  taken_there : (x : ℕ) → x < s * s → IsCaptured s put c x → (l : ℕ) → IsLiberty s here.cells x l → l ≡ p
  taken_there x x_on captured l lib = elim (cases_eq l p) [
    | inl e ↦ e
    | inr ne ↦ absurd (captured.dead l (put_liberty s here.cells c p vacant x x_on l lib ne))
  ]

  -- an enemy string that is taken had one liberty, and it was that point
  taken_one : (x : ℕ) → x < s * s → cell_at here.cells x ≡ stone_of (other c) → IsCaptured s put c x
      → (liberties s here.cells x ≡ 1) × IsLiberty s here.cells x p
  taken_one x x_on enemy captured =
      let alive = good.alive x x_on (ap is_stone enemy ∙ stone_is (other c)) in
      let dead : liberties s put x ≡ 0 = none_counted put x captured.dead in
      let few = counts_but_one s here.cells put x p x_on
      (λ l lib ne. put_liberty s here.cells c p vacant x x_on l lib ne) in
      let some = liberties_some s here.cells x alive in
      let there = taken_there x x_on captured some.0 some.1 in
      (omega (arith, alive, few, dead), subst (IsLiberty s here.cells x) there some.1)

  -- no stone next to it is taken
  none_taken : (y x : ℕ) → Path s here.cells t y → are_neighbours s y x ≡ true → x < s * s
      → cell_at here.cells x ≡ stone_of (other c) → IsCaptured s put c x → ⊥
  none_taken y x path near x_on enemy captured =
      let one = taken_one x x_on enemy captured in
      both_ways _ last (is_last s here.cells t x y p on x_on (path_on_board s here.cells t on path)
      (are_enemies _ _ c own enemy) (record { stone = ap is_stone own ∙ stone_is c; path = path }) near one.0 one.1)

  -- so each liberty after the play was one before
  was_liberty : (x : ℕ) → IsLiberty s new.cells t x → IsLiberty s here.cells t x
  was_liberty x lib =
      let y = lib.beside.0 in
      let path = stood lib.beside.1.path in
      record {
        on_board = lib.on_board;
        is_empty = elim (others_stay here c p new x legal lib.on_board
            (beside_apart y x path lib.beside.2)) [
              | inl kept ↦ sym kept ∙ lib.is_empty
              | inr taken ↦ absurd (none_taken y x path lib.beside.2 lib.on_board taken.0 taken.2)
            ];
        beside = (y, record { stone = ap is_stone own ∙ stone_is c; path = path }, lib.beside.2);
      }

  -- and each before is one after it
  is_still : (x : ℕ) → IsLiberty s here.cells t x → IsLiberty s new.cells t x
  is_still x lib = subst (λ cells. IsLiberty s cells t x)
      (sym (ap (λ (b : BoardState). b.cells) (done_state here c p new legal).1))
      (after_liberty s here.cells c p vacant t on x lib (liberty_apart x lib))

  -- the ban that is left is where a stone stood
  unbanned : (l : ℕ) → IsLiberty s here.cells t l → is_banned new.ban (other c) l ≡ false
  unbanned l lib = by new.ban refl
    where
      by : (ban : Option (ℕ × Colour)) → new.ban ≡ ban → is_banned ban (other c) l ≡ false
      by None e = refl
      by (Some b) e = elim (cases_Bool (is_banned (Some b) (other c) l)) [
        | inr f ↦ f
        | inl banned ↦
            let at = eqb-true b.0 l (and_parts _ _ banned).0 in
            let parts = ban_parts here c p new p_on legal b.0 b.1 e in
            let taken = taken_parts s put c b.0 (first_below_gives (s * s) _ b.0 parts.4).1 in
            absurd (stone_not_empty (other c) (sym taken.0 ∙ ap (cell_at put) at
            ∙ at_put_other here.cells p l (stone_of c) (liberty_apart l lib) ∙ lib.is_empty))
      ]

  -- it has no more liberties than before
  no_more : liberties s new.cells t ≤ liberties s here.cells t
  unfolding liberties
  no_more = count_below_mono (s * s) (is_liberty s new.cells t) (is_liberty s here.cells t)
      (λ x below h. is_liberty-from_fact s here.cells t x on (was_liberty x (IsLiberty-from_test s new.cells t x h)))

-- a target with at most one liberty has not too many
few_liberties : (turn : Turn) (pos : BoardState) → liberties pos.size pos.cells turn.target ≤ 1
    → has_many_liberties turn pos ≡ false
few_liberties turn pos few = grind (arith, cases_Bool, many_gives)

-- a string with one liberty has no other
only_liberty : (s : ℕ) (cells : List Cell) (t : ℕ) → t < s * s → liberties s cells t ≡ 1
    → (l x : ℕ) → IsLiberty s cells t l → IsLiberty s cells t x → x ≡ l
only_liberty s cells t on one l x l_lib x_lib = one_member (liberty_points s cells t) l x
    (len-liberty_points s cells t ∙ one)
    (contains-liberty_points s cells t l ∙ is_liberty-from_fact s cells t l on l_lib)
    (contains-liberty_points s cells t x ∙ is_liberty-from_fact s cells t x on x_lib)

-- The defender is to play and his target is in atari, with plies left after his move, under an allowance.
module _ (n : ℕ) (turn : Turn) (here : BoardState) (on : turn.target < here.size * here.size)
    (atari : IsInAtari n turn here) (ko : Ko) where
  -- the only liberty
  only : (l : ℕ) × IsLiberty here.size here.cells turn.target l
  only = liberties_some here.size here.cells turn.target (let one = atari.one in omega arith)

  -- a ply is left for the attacker
  one_more : n ≡ suc (n - 1)
  one_more = let some = atari.plies in omega arith

  -- The defender's play at p, which takes nothing next to the target and none of its liberties.
  module _ (p : ℕ) (p_on : p < here.size * here.size) (off : is_liberty here.size here.cells turn.target p ≡ false)
      (last : is_last_liberty_of_enemy here.size here.cells turn.target p ≡ false) (new : BoardState)
      (legal : play_free here turn.defender p ≡ Ok new) where
    -- the board keeps its size
    kept_size : new.size ≡ here.size
    kept_size = play_size here turn.defender p new legal

    -- the target has no more than one liberty then
    at_most_one : liberties new.size new.cells turn.target ≤ 1
    at_most_one =
        let fewer = no_more here turn.defender p new turn.target atari.sound p_on on legal atari.own off last in
        let one = atari.one in
        subst (λ m. liberties m new.cells turn.target ≤ 1) (sym kept_size) (omega (arith, fewer, one))

    -- its liberty is still one
    still_liberty : is_liberty new.size new.cells turn.target only.0 ≡ true
    still_liberty = subst (λ m. is_liberty m new.cells turn.target only.0 ≡ true) (sym kept_size)
        (is_liberty-from_fact here.size new.cells turn.target only.0 on
        (is_still here turn.defender p new turn.target atari.sound p_on on legal atari.own off last only.0 only.1))

    -- and none came
    still_only : (x : ℕ) → is_liberty new.size new.cells turn.target x ≡ true → x ≡ only.0
    still_only x h = only_liberty here.size here.cells turn.target on atari.one only.0 x only.1
        (was_liberty here turn.defender p new turn.target atari.sound p_on on legal atari.own off last x
        (IsLiberty-from_test here.size new.cells turn.target x
        (ap (λ m. is_liberty m new.cells turn.target x) (sym kept_size) ∙ h)))

    -- a stone beside it still stands
    still_for_good : IsTakenForGood (next_turn turn) new
    still_for_good = elim atari.for_good [
      | in_stated e ↦ in_stated e
      | with_neighbour q q_on near stone ↦ with_neighbour q (subst (λ m. q < m * m) (sym kept_size) q_on)
          (ap (λ m. are_neighbours m turn.target q) kept_size ∙ near)
          (own_stands here turn.defender p new turn.target atari.sound p_on on legal atari.own off last q q_on stone)
    ]

    -- so the attacker takes the target
    is_taken : (left : ℕ) → IsTaken (next_turn turn) new
    is_taken left = record {
      attacks = ap not atari.defends;
      enemy = stands here turn.defender p new turn.target atari.sound p_on on legal atari.own off last;
      l = only.0;
      liberty = still_liberty;
      only = still_only;
      free = unbanned here turn.defender p new turn.target atari.sound p_on on legal atari.own off last only.0 only.1;
      for_good = still_for_good;
    }

    -- and wins, whatever allowance is left to the defender
    lost_at : (left : ℕ) → attacker_wins n (next_node (under turn ko) left) new ≡ true
    lost_at left =
        ap (λ m. attacker_wins m (next_node (under turn ko) left) new) one_more
        ∙ taking_wins (n - 1) (next_node (under turn ko) left) new
        (free_keeps here turn.defender p new atari.sound p_on legal).cells
        (subst (λ m. turn.target < m * m) (sym kept_size) on)
        (few_liberties (next_turn turn) new at_most_one) (is_taken left)

  -- so no such play saves the target
  pub off_fails : (p : ℕ) → p < here.size * here.size → is_liberty here.size here.cells turn.target p ≡ false
      → is_last_liberty_of_enemy here.size here.cells turn.target p ≡ false
      → succeeds n (under turn ko) here p ≡ false
  off_fails p p_on off last = ap (λ b. suits n b (child_of (under turn ko) here p)) atari.defends
      ∙ by (child_of (under turn ko) here p) refl
    where
      lost : (next : Node) (new : BoardState) → child_of (under turn ko) here p ≡ Some (next, new)
          → attacker_wins n next new ≡ true
      lost next new is =
          let child = child_free (under turn ko) here p next new (child_gives (under turn ko) here p next new is) in
          let legal : play_free here turn.defender p ≡ Ok new =
          ap (λ b. play_free here (cond b (other turn.defender) turn.defender) p) (sym atari.defends) ∙ child.1 in
          ap (λ (k : Node). attacker_wins n k new) child.2 ∙ lost_at p p_on off last new legal child.0

      by : (o : Option (Node × BoardState)) → child_of (under turn ko) here p ≡ o → suits n false o ≡ false
      by None is = refl
      by (Some child) is = ap not (lost child.0 child.1 is)

  -- after the pass the attacker takes the target
  taken_past : (left : ℕ) → IsTaken (next_turn turn) (pass here)
  taken_past left = record {
    attacks = ap not atari.defends;
    enemy = atari.own;
    l = only.0;
    liberty = is_liberty-from_fact here.size here.cells turn.target only.0 on only.1;
    only = λ x h. only_liberty here.size here.cells turn.target on atari.one only.0 x only.1
        (IsLiberty-from_test here.size here.cells turn.target x h);
    free = refl;
    for_good = elim atari.for_good [
      | in_stated e ↦ in_stated e
      | with_neighbour q q_on near stone ↦ with_neighbour q q_on near stone
    ];
  }

  -- so the pass does not save it either
  pub pass_fails : pass_saves n (under turn ko) here ≡ false
  pass_fails =
      let node = next_node (under turn ko) (allowance_of (under turn ko)) in
      let few : liberties here.size here.cells turn.target ≤ 1 = (let one = atari.one in omega (arith, one)) in
      and_false_right (not turn.attacker_to_play) _ (ap not
      (ap (λ m. attacker_wins m node (pass here)) one_more
      ∙ taking_wins (n - 1) node (pass here) atari.sound.cells on
      (few_liberties (next_turn turn) (pass here) few)
      (taken_past (allowance_of (under turn ko)))))

  -- the candidates but for the liberties and the captures fail
  pub atari_fails : (q : ℕ) → is_off_liberties turn here q ≡ true → is_capture here turn.target q ≡ false
      → succeeds n (under turn ko) here q ≡ false
  atari_fails q off_liberties no_capture =
      let parts = and_parts_not (is_candidate turn here q) _ off_liberties in
      off_fails q (candidate_on turn here q parts.0) parts.1
      (no_last (is_last_liberty_of_enemy here.size here.cells turn.target q) _ parts.1 no_capture)
    where
      no_last : (t l : Bool) → l ≡ false → (t && not l) ≡ false → t ≡ false
      no_last true true e h = cc
      no_last true false e h = cc
      no_last false l e h = refl
