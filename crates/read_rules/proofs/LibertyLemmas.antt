-- A play takes away one liberty of a string at most, and none where it is not on one; so a target with many liberties
-- is not captured.
use Rattle.std.proofs.Common.{◌≡◌, ◌≢◌, ℕ, zero, suc, ◌+◌, ◌-◌, ◌*◌, ◌/◌, ◌<◌, ◌≤◌, ◌⊎◌, Bool, true, false, not, ◌||◌}
use Rattle.std.proofs.Common.{cond, List, Ok, refl, sym, ap, subst, ◌∙◌, arith, inl, inr, ltb, eqb, add-one}
use Rattle.std.proofs.lemmas.Bool.{cases_Bool, cases_eq, or_cases, lt-ltb, ltb-true, both_ways, eq-eqb, eqb-true}
use Rattle.std.proofs.lemmas.Bool.{or_left, or_right}
use Rattle.go_rules.specs.declared.Cell.{Cell}
use Rattle.go_rules.specs.declared.Colour.{Colour}
use Rattle.go_rules.specs.Below.{count_below}
use Rattle.go_rules.specs.Strings.{IsLiberty, is_liberty, liberties}
use Rattle.go_rules.specs.Position.{BoardState}
use Rattle.go_rules.specs.Play.{play_free, pass}
use Rattle.go_rules.proofs.Counts.{count_below_mono}
use Rattle.go_rules.proofs.Links.{liberties_some}
use Rattle.go_rules.proofs.Paths.{IsLiberty-from_test, is_liberty-from_fact}
use Rattle.go_rules.proofs.Results.{after_on}
use Rattle.go_rules.proofs.PlayLaws.{done_state}
use Rattle.read_rules.specs.Turns.{mover_of}
use Rattle.read_rules.specs.declared.turn.Turn.{Turn}
use Rattle.read_rules.specs.declared.node.Node.{Node}
use Rattle.go_rules.proofs.PlayLaws.{play_done}
use Rattle.read_rules.proofs.AfterPlays.{after_liberty}
use Rattle.read_rules.specs.GameTree.{is_captured, has_many_liberties, allowance_of, next_node, attacker_wins}
use Rattle.read_rules.specs.Rules.{IsChild, HasManyLiberties}
use Rattle.read_rules.specs.declared.tree.Tree.{Tree}
use Rattle.read_rules.specs.declared.tree.Tree.TheVariants.{Stated, Wider}
use Rattle.read_rules.specs.Trees.{most_narrow, most_few}
use Rattle.read_rules.specs.Bound.{most_by_wide, outlasts, IsTooWide, over_four, few_left, none_left, IsTooMany, outlasts_at}
use Rattle.read_rules.proofs.WinLemmas.{wins-no_plies}
use Rattle.read_rules.proofs.RuleLemmas.{many_from, many_gives, attacker_gives, defender_gives}

-- what half of the plies is
pub half_more : (n l : ℕ) → (suc n + 1) / 2 < l → n / 2 + 1 < l
half_more n l h = omega arith

-- all but one pass the other test
count_but_one : (n : ℕ) (a b : ℕ → Bool) (p : ℕ) → ((k : ℕ) → k < n → k ≢ p → a k ≡ true → b k ≡ true)
    → count_below n a ≤ count_below n b + 1
count_but_one zero a b p h = omega arith
count_but_one (suc n) a b p h = elim (cases_eq n p) [
  | inl e ↦ grind (arith, count_below_mono, at_most_one)
  | inr ne ↦ step (a n) (b n) (count_below n a) (count_below n b) (h n (omega arith) ne)
      (count_but_one n a b p (λ k l. h k (omega arith)))
]
  where
    at_most_one : (x y : Bool) (i j : ℕ) → i ≤ j → cond x 1 0 + i ≤ cond y 1 0 + j + 1
    at_most_one true true i j h = omega arith
    at_most_one true false i j h = omega arith
    at_most_one false true i j h = omega arith
    at_most_one false false i j h = omega arith

    step : (x y : Bool) (i j : ℕ) → (x ≡ true → y ≡ true) → i ≤ j + 1 → cond x 1 0 + i ≤ cond y 1 0 + j + 1
    step true true i j m h = omega arith
    step true false i j m h = let w = m refl in cc
    step false true i j m h = omega arith
    step false false i j m h = omega arith

-- liberties that stay but for one, and that all stay
pub counts_but_one : (s : ℕ) (cells after : List Cell) (t p : ℕ) → t < s * s
    → ((l : ℕ) → IsLiberty s cells t l → l ≢ p → IsLiberty s after t l) → liberties s cells t ≤ liberties s after t + 1
unfolding liberties
counts_but_one s cells after t p on h =
    count_but_one (s * s) (is_liberty s cells t) (is_liberty s after t) p
    (λ l lo ne x. is_liberty-from_fact s after t l on (h l (IsLiberty-from_test s cells t l x) ne))

-- a string that keeps all liberties but p, where p is none of them, has no fewer afterwards
counts_all : (s : ℕ) (cells after : List Cell) (t p : ℕ) → t < s * s → is_liberty s cells t p ≡ false
    → ((l : ℕ) → IsLiberty s cells t l → l ≢ p → IsLiberty s after t l) → liberties s cells t ≤ liberties s after t
unfolding liberties
counts_all s cells after t p on off h =
    count_below_mono (s * s) (is_liberty s cells t) (is_liberty s after t)
    (λ l lo x. is_liberty-from_fact s after t l on
    (h l (IsLiberty-from_test s cells t l x) (λ e.
    both_ways (is_liberty s cells t l) (ap (is_liberty s cells t) e ∙ off) x)))

-- a play takes away one liberty at most
pub play_takes_one : (pos : BoardState) (c : Colour) (p : ℕ) (new : BoardState) (t : ℕ) → t < pos.size * pos.size
    → play_free pos c p ≡ Ok new
    → liberties pos.size pos.cells t ≤ liberties new.size new.cells t + 1
play_takes_one pos c p new t on e =
    let state = done_state pos c p new e in
    subst (λ (n : BoardState). liberties pos.size pos.cells t ≤ liberties n.size n.cells t + 1) (sym state.1)
    (counts_but_one pos.size pos.cells (after_on pos c p) t p on
    (λ l lib ne. after_liberty pos.size pos.cells c p state.0 t on l lib ne))

-- and none where it is on none
pub play_takes_none : (pos : BoardState) (c : Colour) (p : ℕ) (new : BoardState) (t : ℕ) → t < pos.size * pos.size
    → play_free pos c p ≡ Ok new → is_liberty pos.size pos.cells t p ≡ false
    → liberties pos.size pos.cells t ≤ liberties new.size new.cells t
play_takes_none pos c p new t on e off =
    let state = done_state pos c p new e in
    subst (λ (n : BoardState). liberties pos.size pos.cells t ≤ liberties n.size n.cells t) (sym state.1)
    (counts_all pos.size pos.cells (after_on pos c p) t p on off
    (λ l lib ne. after_liberty pos.size pos.cells c p state.0 t on l lib ne))

-- the size stays
pub play_size : (pos : BoardState) (c : Colour) (p : ℕ) (new : BoardState) → play_free pos c p ≡ Ok new
    → new.size ≡ pos.size
play_size pos c p new e = ap (λ (n : BoardState). n.size) (done_state pos c p new e).1

-- a child comes of a play by the side whose turn it is
pub child_free : (node : Node) (pos : BoardState) (p : ℕ) (next : Node) (new : BoardState) → IsChild node pos p next new
    → (left : ℕ) × (play_free pos (mover_of node.turn) p ≡ Ok new) × (next ≡ next_node node left)
child_free node pos p next new (inl w) = (allowance_of node, play_done pos (mover_of node.turn) p new w.legal, w.next_is)
child_free node pos p next new (inr w) = (allowance_of node - 1, w.free, w.next_is)

-- a target with a liberty stands
pub stands_by_liberties : (pos : BoardState) (t : ℕ) → 0 < liberties pos.size pos.cells t → is_captured pos t ≡ false
stands_by_liberties pos t h = grind (arith, liberties_some)

-- where one of two tests of order passes, its first number is below its second
lt_cases : (a b c d : ℕ) → (ltb a b || ltb c d) ≡ true → (a < b) ⊎ (c < d)
lt_cases a b c d h = grind (arith, or_cases, ltb-true)

-- a number below one is below a greater one
below_more : (b l m : ℕ) → b < l → l ≤ m → b < m
below_more b l m x le = omega (arith, x, le)

-- some number is above one that has a smaller one
above_none : (b l : ℕ) → b < l → 0 < l
above_none b l x = omega (arith, x)

-- The bound of one tree.
module _ (tree : Tree) where
  -- too many at the attacker's turn are more than half of the plies, rounded up, or than the wide plies allow
  outlasts_attacker : (n k l : ℕ) → outlasts tree true n k l ≡ true → ((n + 1) / 2 < l) ⊎ (most_by_wide tree k < l)
  unfolding outlasts
  outlasts_attacker n k l h = lt_cases ((n + 1) / 2) l (most_by_wide tree k) l h

  -- too many at the defender's turn are more than half of the plies, or than the wide plies after a pass allow
  outlasts_defender : (n k l : ℕ) → outlasts tree false n k l ≡ true → (n / 2 < l) ⊎ (most_by_wide tree (k - 1) < l)
  unfolding outlasts
  outlasts_defender n k l h = lt_cases (n / 2) l (most_by_wide tree (k - 1)) l h

  -- at the attacker's turn more than half of the plies, rounded up, or than the wide plies allow are too many
  pub to_attacker : (n k l : ℕ) → ((n + 1) / 2 < l) ⊎ (most_by_wide tree k < l) → outlasts tree true n k l ≡ true
  unfolding outlasts
  to_attacker n k l (inl h) = or_left (ltb ((n + 1) / 2) l) _ (lt-ltb _ _ h)
  to_attacker n k l (inr h) = or_right (ltb ((n + 1) / 2) l) _ (lt-ltb _ _ h)

  -- at the defender's turn more than half of the plies, or than the wide plies after a pass allow are too many
  pub to_defender : (n k l : ℕ) → (n / 2 < l) ⊎ (most_by_wide tree (k - 1) < l) → outlasts tree false n k l ≡ true
  unfolding outlasts
  to_defender n k l (inl h) = or_left (ltb (n / 2) l) _ (lt-ltb _ _ h)
  to_defender n k l (inr h) = or_right (ltb (n / 2) l) _ (lt-ltb _ _ h)

  -- with more liberties than too many there are too many
  pub more_outlasts : (n k l m : ℕ) → outlasts tree false n k l ≡ true → l ≤ m → outlasts tree false n k m ≡ true
  more_outlasts n k l m h le = elim (outlasts_defender n k l h) [
    | inl x ↦ to_defender n k m (inl (below_more (n / 2) l m x le))
    | inr x ↦ to_defender n k m (inr (below_more (most_by_wide tree (k - 1)) l m x le))
  ]

  -- and at the attacker's turn too
  pub more_outlasts_attacker : (n k l m : ℕ) → outlasts tree true n k l ≡ true → l ≤ m
      → outlasts tree true n k m ≡ true
  more_outlasts_attacker n k l m h le = elim (outlasts_attacker n k l h) [
    | inl x ↦ to_attacker n k m (inl (below_more ((n + 1) / 2) l m x le))
    | inr x ↦ to_attacker n k m (inr (below_more (most_by_wide tree k) l m x le))
  ]

  -- some liberties are there
  pub some_liberty : (attacker : Bool) (n k l : ℕ) → outlasts tree attacker n k l ≡ true → 0 < l
  some_liberty true n k l h = elim (outlasts_attacker n k l h) [
    | inl x ↦ above_none ((n + 1) / 2) l x
    | inr x ↦ above_none (most_by_wide tree k) l x
  ]
  some_liberty false n k l h = elim (outlasts_defender n k l h) [
    | inl x ↦ above_none (n / 2) l x
    | inr x ↦ above_none (most_by_wide tree (k - 1)) l x
  ]

  -- the bound after the defender's pass
  pub pass_outlasts : (n k l : ℕ) → outlasts tree false (suc n) k l ≡ true → outlasts tree true n (k - 1) l ≡ true
  pass_outlasts n k l h = elim (outlasts_defender (suc n) k l h) [
    | inl x ↦ to_attacker n (k - 1) l (inl (omega (arith, x)))
    | inr x ↦ to_attacker n (k - 1) l (inr x)
  ]

  -- and after an attacker's play, which leaves one less at least
  play_outlasts : (n k l m : ℕ) → outlasts tree true (suc n) k l ≡ true → (4 < l → ⊥)
      → (k ≡ 0 → most_narrow tree < l → ⊥) → l ≤ m + 1
      → outlasts tree false n (k - 1) m ≡ true
  play_outlasts n k l m h few few_narrow le = elim (outlasts_attacker (suc n) k l h) [
    | inl x ↦ to_defender n (k - 1) m (inl (let y = half_more n l x in omega (arith, y, le)))
    | inr x ↦ to_defender n (k - 1) m (inr (by (eqb k 0) (ltb k 3) refl refl x))
  ]
    where
      -- the play takes one liberty, and so many are left as are too many without wide plies
      one_less : (t : Tree) → most_few t < l → most_narrow t < m
      one_less Stated x = omega (arith, x, le)
      one_less Wider x = absurd (few x)

      by : (z w : Bool) → eqb k 0 ≡ z → ltb k 3 ≡ w → cond z (most_narrow tree) (cond w (most_few tree) 4) < l
          → most_by_wide tree (k - 1 - 1) < m
      by true w ez ew x = absurd (few_narrow (eqb-true k 0 ez) x)
      by false true ez ew x =
          let small = ltb-true k 3 ew in
          let none : k - 1 - 1 ≡ 0 = omega (arith, small) in
          subst (λ j. most_by_wide tree j < m) (sym none) (one_less tree x)
      by false false ez ew x = absurd (few x)

-- The target outlasts at a node where it does at each child that an attacker's play, or the defender's pass, leads to.
abbrev Hypothesis : ℕ → Type 0
Hypothesis n = (next : Node) (new : BoardState) → next.turn.target < new.size * new.size
    → outlasts_at next.turn n (liberties new.size new.cells next.turn.target) ≡ true
    → attacker_wins n next new ≡ false

-- a target that outlasts at the attacker's turn, where he may play at it, outlasts at each child of a play of his
child_outlasts : (n : ℕ) (node : Node) (pos : BoardState) (p : ℕ) (next : Node) (new : BoardState)
    → node.turn.target < pos.size * pos.size → node.turn.attacker_to_play ≡ true
    → (HasManyLiberties node.turn pos → ⊥) → IsChild node pos p next new
    → outlasts node.turn.tree true (suc n) node.turn.wide (liberties pos.size pos.cells node.turn.target) ≡ true
    → (next.turn.target < new.size * new.size)
    × (outlasts_at next.turn n (liberties new.size new.cells next.turn.target) ≡ true)
child_outlasts n node pos p next new on turn few is h =
    let child = child_free node pos p next new is in
    let l = liberties new.size new.cells node.turn.target in
    let bound = play_outlasts node.turn.tree n node.turn.wide (liberties pos.size pos.cells node.turn.target) l h
    (λ x. few (inl x)) (λ e x. few (inr (e, x))) (play_takes_one pos (mover_of node.turn) p new node.turn.target on child.1) in
    let stays = subst (λ m. node.turn.target < m * m) (sym (play_size pos (mover_of node.turn) p new child.1)) on in
    subst (λ (m : Node). (m.turn.target < new.size * new.size)
    × (outlasts_at m.turn n (liberties new.size new.cells m.turn.target) ≡ true))
    (sym child.2)
    (stays, ap (λ b. outlasts node.turn.tree (not b) n (node.turn.wide - 1) l) turn ∙ bound)

-- if too many liberties save a target with n plies left, they do at the attacker's turn with one more ply
bounded_attacker : (n : ℕ) (node : Node) (pos : BoardState) → Hypothesis n → node.turn.target < pos.size * pos.size
    → is_captured pos node.turn.target ≡ false → node.turn.attacker_to_play ≡ true
    → outlasts node.turn.tree true (suc n) node.turn.wide (liberties pos.size pos.cells node.turn.target) ≡ true
    → attacker_wins (suc n) node pos ≡ false
bounded_attacker n node pos ih on stands turn h =
    grind (arith, attacker_gives n node, add-one n, many_from node.turn, child_outlasts n node, cases_Bool, both_ways)

-- if too many liberties save a target with n plies left, they do at the defender's turn with one more ply
bounded_defender : (n : ℕ) (node : Node) (pos : BoardState) → Hypothesis n → node.turn.target < pos.size * pos.size
    → is_captured pos node.turn.target ≡ false → node.turn.attacker_to_play ≡ false
    → outlasts node.turn.tree false (suc n) node.turn.wide (liberties pos.size pos.cells node.turn.target) ≡ true
    → attacker_wins (suc n) node pos ≡ false
bounded_defender n node pos ih on stands turn h = elim (cases_Bool (attacker_wins (suc n) node pos)) [
  | inr f ↦ f
  | inl t ↦
      let w = defender_gives n node pos stands turn (ap (λ m. attacker_wins m node pos) (add-one n) ∙ t) in
      let bound = pass_outlasts node.turn.tree n node.turn.wide (liberties pos.size pos.cells node.turn.target) h in
      let lost = ih (next_node node (allowance_of node)) (pass pos) on (ap (λ b. outlasts node.turn.tree (not b) n
      (node.turn.wide - 1) (liberties pos.size pos.cells node.turn.target)) turn ∙ bound) in
      absurd (both_ways (attacker_wins n (next_node node (allowance_of node)) (pass pos)) lost w.passed)
]

-- with n plies left, a target with too many liberties is not captured
pub bounded : (n : ℕ) (node : Node) (pos : BoardState) → node.turn.target < pos.size * pos.size
    → outlasts_at node.turn n (liberties pos.size pos.cells node.turn.target) ≡ true
    → attacker_wins n node pos ≡ false
bounded zero node pos on h =
    wins-no_plies zero node pos (stands_by_liberties pos node.turn.target
    (some_liberty node.turn.tree node.turn.attacker_to_play zero node.turn.wide (liberties pos.size pos.cells node.turn.target) h)) refl
bounded (suc n) node pos on h =
    let stands = stands_by_liberties pos node.turn.target
    (some_liberty node.turn.tree node.turn.attacker_to_play (suc n) node.turn.wide (liberties pos.size pos.cells node.turn.target) h) in
    elim (cases_Bool node.turn.attacker_to_play) [
      | inl t ↦ bounded_attacker n node pos (bounded n) on stands t
          (ap (λ b. outlasts node.turn.tree b (suc n) node.turn.wide (liberties pos.size pos.cells node.turn.target)) (sym t) ∙ h)
      | inr f ↦ bounded_defender n node pos (bounded n) on stands f
          (ap (λ b. outlasts node.turn.tree b (suc n) node.turn.wide (liberties pos.size pos.cells node.turn.target)) (sym f) ∙ h)
    ]

-- more than four are more than the attacker may play at without wide plies
over_narrowest : (tree : Tree) (l : ℕ) → 4 < l → most_narrow tree < l
over_narrowest Stated l x = omega (arith, x)
over_narrowest Wider l x = x

-- and more than can be captured where one or two are left
over_fewest : (tree : Tree) (l : ℕ) → 4 < l → most_few tree < l
over_fewest Stated l x = omega (arith, x)
over_fewest Wider l x = x

-- more than can be captured where one or two wide plies are left are more than he may play at without wide plies
few_over_narrow : (tree : Tree) (l : ℕ) → most_few tree < l → most_narrow tree < l
few_over_narrow Stated l x = omega (arith, x)
few_over_narrow Wider l x = x

-- The bound of one tree, by what the wide plies allow.
module _ (tree : Tree) where
  -- more than four are more than the wide plies allow
  over_all : (k l : ℕ) → 4 < l → most_by_wide tree k < l
  over_all k l x = by (eqb k 0) (ltb k 3)
    where
      by : (z w : Bool) → cond z (most_narrow tree) (cond w (most_few tree) 4) < l
      by true w = over_narrowest tree l x
      by false true = over_fewest tree l x
      by false false = x

  -- more than a target may have without wide plies are too many where none is left
  over_narrow : (k l : ℕ) → k ≡ 0 → most_narrow tree < l → most_by_wide tree k < l
  over_narrow k l none x = by (eqb k 0) (ltb k 3) (eq-eqb k 0 none)
    where
      by : (z w : Bool) → z ≡ true → cond z (most_narrow tree) (cond w (most_few tree) 4) < l
      by true w e = x
      by false w e = cc

  -- more than can be captured where one or two are left are too many where at most two are left
  over_few : (k l : ℕ) → k < 3 → most_few tree < l → most_by_wide tree k < l
  over_few k l few x = by (eqb k 0) (ltb k 3) (lt-ltb k 3 few)
    where
      by : (z w : Bool) → w ≡ true → cond z (most_narrow tree) (cond w (most_few tree) 4) < l
      by true w e = few_over_narrow tree l x
      by false true e = x
      by false false e = cc

  -- more than the greatest number that the wide plies allow is too wide
  wide_gives : (k l : ℕ) → most_by_wide tree k < l → IsTooWide tree k l
  wide_gives k l h = by (eqb k 0) (ltb k 3) refl refl h
    where
      by : (z w : Bool) → eqb k 0 ≡ z → ltb k 3 ≡ w → cond z (most_narrow tree) (cond w (most_few tree) 4) < l
          → IsTooWide tree k l
      by true w ez ew x = none_left (eqb-true k 0 ez) x
      by false true ez ew x = few_left (ltb-true k 3 ew) x
      by false false ez ew x = over_four x

  -- what is too wide is more than the greatest number that the wide plies allow
  wide_from : (k l : ℕ) → IsTooWide tree k l → most_by_wide tree k < l
  wide_from k l (over_four x) = over_all k l x
  wide_from k l (few_left few x) = over_few k l few x
  wide_from k l (none_left none x) = over_narrow k l none x

  -- the test for too many liberties gives the bound in words
  pub too_many-gives : (attacker : Bool) (n k l : ℕ) → outlasts tree attacker n k l ≡ true
      → IsTooMany tree attacker n k l
  too_many-gives true n k l h =
      elim (outlasts_attacker tree n k l h) [ inl x ↦ inl x | inr x ↦ inr (wide_gives k l x) ]
  too_many-gives false n k l h =
      elim (outlasts_defender tree n k l h) [ inl x ↦ inl x | inr x ↦ inr (wide_gives (k - 1) l x) ]

  -- the bound in words gives the test
  pub too_many-from : (attacker : Bool) (n k l : ℕ) → IsTooMany tree attacker n k l
      → outlasts tree attacker n k l ≡ true
  too_many-from true n k l (inl x) = to_attacker tree n k l (inl x)
  too_many-from true n k l (inr x) = to_attacker tree n k l (inr (wide_from k l x))
  too_many-from false n k l (inl x) = to_defender tree n k l (inl x)
  too_many-from false n k l (inr x) = to_defender tree n k l (inr (wide_from (k - 1) l x))

-- where the attacker may not play at the target, it has too many liberties
pub many_outlast : (turn : Turn) (n : ℕ) (pos : BoardState) → HasManyLiberties turn pos
    → outlasts turn.tree true n turn.wide (liberties pos.size pos.cells turn.target) ≡ true
many_outlast turn n pos (inl x) = to_attacker turn.tree n turn.wide _ (inr (over_all turn.tree turn.wide _ x))
many_outlast turn n pos (inr x) =
    to_attacker turn.tree n turn.wide _ (inr (over_narrow turn.tree turn.wide _ x.0 x.1))

-- a target that has not too many liberties is one that the attacker may play at
pub many_outlasts : (turn : Turn) (n : ℕ) (pos : BoardState)
    → outlasts turn.tree true n turn.wide (liberties pos.size pos.cells turn.target) ≡ false
    → has_many_liberties turn pos ≡ false
many_outlasts turn n pos h = grind (arith, cases_Bool, both_ways, many_outlast, many_gives)

-- where the attacker may not play at the target, it has too many liberties in words
pub many_too_many : (turn : Turn) (n : ℕ) (pos : BoardState) → HasManyLiberties turn pos
    → IsTooMany turn.tree true n turn.wide (liberties pos.size pos.cells turn.target)
many_too_many turn n pos many = too_many-gives turn.tree true n turn.wide _ (many_outlast turn n pos many)
