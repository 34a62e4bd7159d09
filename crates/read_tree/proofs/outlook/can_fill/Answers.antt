-- The only liberty of an enemy string at which no ban forbids to play.
use Rattle.std.proofs.Common.{cond, refl, ◌≡◌, ◌+◌, ◌<◌, ◌≤◌, ◌∙◌, ℕ, Bool, true, false, not, Option, Some, None}
use Rattle.std.proofs.Common.{IfNone, is_none, ap, sym, arith}
use Rattle.std.specs.Ordering.{nat_cmp}
use Rattle.std.specs.FinSet as set
use Rattle.std.proofs.lemmas.Bool.{cases_eq, cases_lt, both_ways}
use Rattle.go_rules.specs.declared.Colour.{Colour}
use Rattle.go_rules.specs.Position.{other, is_banned}
use Rattle.go_rules.proofs.Cells.{ne_false_same}
use Rattle.go_rules.proofs.Paths.{same_cell-true}
use Rattle.go_base.specs.Facts.{agrees_before}
use Rattle.trial_board.specs.Trials.{after}
use Rattle.trial_board.proofs.AfterLemmas.{size-after}
use Rattle.read_tree.proofs.StageLemmas.{its_liberty, known_inside}
use Rattle.read_tree.proofs.outlook.can_fill.Goals as goal

-- where it fails that the turn is not the attacker's, it is his
on_turn : (b : Bool) → not b ≡ false → b ≡ true
on_turn true h = refl
on_turn false h = cc

-- where the test for none passes, the test for some fails
flip : (some none : Bool) → some ≡ not none → none ≡ true → not some ≡ true
flip some none e h = ap not e ∙ ap (λ b. not (not b)) h

-- the attacker is not banned
free_by : (attacker : Bool) (d : Colour) (ban : Option (ℕ × Colour)) (l : ℕ) {banned : Bool} → attacker ≡ true
    → banned ≡ is_banned ban (cond attacker (other d) d) l → not banned ≡ true → is_banned ban (other d) l ≡ false
free_by attacker d ban l t e h = grind arith

-- what holds if nothing was found holds where the test for none passes
when_none : (o : Option ℕ) (P : Type 0) → IfNone o P → is_none o ≡ true → P
when_none None P h e = h
when_none (Some x) P h e = cc

-- the first liberty of the target is on the board
pub bans-requires : goal.bans-requires
bans-requires g c = grind (arith, known_inside)

-- where no point before l is in a set, and none behind it, each point of the set is l
only_member : (points : set.FinSet nat_cmp) (l : ℕ)
    → ((x : ℕ) → 0 ≤ x → x < l → set.contains points x ≡ false)
    → ((x : ℕ) → l + 1 ≤ x → set.contains points x ≡ false) → (x : ℕ) → set.contains points x ≡ true → x ≡ l
only_member points l before behind x h = grind (arith, cases_eq, both_ways, cases_lt)

-- the first liberty is the only one, and no ban forbids the attacker to play there
pub returns-then-is_none-clause-over : goal.returns-then-is_none-clause-over
returns-then-is_none-clause-over g c = λ pos a same taken for_good.
    let here = after pos c.args.board.now.moves in
    let some = c.in-Some.ensures.some in
    let attacks = on_turn _ c.if-not-turn.false in
    let its = its_liberty pos.size here c.args.turn.target c.args.liberties.now
    (size-after pos c.args.board.now.moves) same in
    let behind = when_none c.first_from-in-Some.result _ c.first_from-in-Some.ensures.none
    (flip _ _ c.is_none.ensures c.if-is_none.true) in
    record {
      attacks = attacks;
      enemy = sym (c.cell.ensures.over pos (agrees_before c.bans.ensures.stays.grows a)) ∙ same_cell-true _ _
          (ne_false_same c.cell.result c.stone_of.result c.ne.result c.ne.ensures c.if-ne.false) ∙ c.stone_of.ensures;
      l = c.in-Some.l;
      liberty = sym (its c.in-Some.l) ∙ some.2;
      only = λ x h. only_member c.args.liberties.now c.in-Some.l some.3 behind x (its x ∙ h);
      free = free_by c.args.turn.attacker_to_play c.args.turn.defender here.ban c.in-Some.l attacks
          (rw (c.cell.ensures.stays.moves, c.mover.ensures) at (c.bans.ensures.over pos a)) taken;
      for_good = for_good;
    }
