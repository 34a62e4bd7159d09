-- The tests for the further candidates say what their words say, in terms of strings and liberties.
use Rattle.std.proofs.Common.{◌≡◌, ℕ, ◌*◌, ◌<◌, ◌&&◌, ◌||◌, Bool, true, false, not, List, refl, inl, inr, arith}
use Rattle.std.proofs.lemmas.Bool.{cases_Bool, both_ways, and_parts, and_from, or_cases, or_left, or_right}
use Rattle.std.proofs.lemmas.Bool.{not-true, not_from_false, lt-ltb, ltb-true, le-leb, leb-true, eqb-true, eq-eqb}
use Rattle.go_rules.specs.declared.Cell.{Cell}
use Rattle.go_rules.specs.declared.Cell.TheVariants.{Empty, Black, White}
use Rattle.go_rules.specs.Strings.{cell_at, is_stone, is_in_string, liberties, IsInString, IsLiberty}
use Rattle.go_rules.specs.BesideStrings.{is_enemy, is_beside_string}
use Rattle.go_rules.proofs.Counts.{any_below_gives, any_below_from}
use Rattle.go_rules.proofs.Paths.{same_cell-true, same_cell-from, IsInString-from_test, is_is_in_string-from_fact}
use Rattle.go_rules.proofs.Paths.{IsLiberty-from_test, is_liberty-from_fact}
use Rattle.go_rules.proofs.StringMembers.{is_in_string_on}
use Rattle.go_base.specs.Surroundings.{is_only_liberty}
use Rattle.wider_rules.specs.Further.{is_net, is_weak_enemy, is_beside, is_ally, is_rescue, is_linked, is_join}
use Rattle.wider_rules.specs.Further.{is_cutter, is_cut, is_covered, is_covered_liberty, is_cover}
use Rattle.wider_rules.specs.Further.{is_in_the_way, is_approach, is_further_always, is_further_wide, is_further}
use Rattle.wider_rules.specs.FurtherInWords.{IsNetAt, IsEnemyBeside, IsWeakEnemy, IsLastAt, IsAlly, IsLinkedAt}
use Rattle.wider_rules.specs.FurtherInWords.{IsCoveredAt, IsFurther, strengthens, rescues, saves, cuts, nets, links}
use Rattle.wider_rules.specs.FurtherInWords.{IsApproachAt, presses, joins, covers, approaches}
use Rattle.wider_rules.specs.Strings.{holds_next}
use Rattle.wider_rules.specs.Cramped.{foe_of}

-- an enemy next to a string, by the tests
pub enemy_gives : (s : ℕ) (cells : List Cell) (p q : ℕ) → q < s * s
    → (is_enemy (cell_at cells p) (cell_at cells q) && is_beside_string s cells p q) ≡ true
    → IsEnemyBeside s cells p q
unfolding is_beside_string
enemy_gives s cells p q on h =
    let both = and_parts _ _ h in
    let x = any_below_gives (s * s) _ both.1 in
    let near = and_parts _ _ x.2 in
    record { on_board = on; enemy = both.0; beside = (x.0, IsInString-from_test s cells p x.0 near.0, near.1) }

-- and back
pub enemy_from : (s : ℕ) (cells : List Cell) (p q : ℕ) → p < s * s → IsEnemyBeside s cells p q
    → (is_enemy (cell_at cells p) (cell_at cells q) && is_beside_string s cells p q) ≡ true
unfolding is_beside_string
enemy_from s cells p q on w =
    let inside = is_is_in_string-from_fact s cells p w.beside.0 on w.beside.1 in
    and_from _ _ w.enemy
    (any_below_from (s * s) _ w.beside.0 (is_in_string_on s cells p w.beside.0 on inside)
    (and_from _ _ inside w.beside.2))

-- the one liberty of a string, by the test
pub last_gives : (s : ℕ) (cells : List Cell) (r p : ℕ) → is_only_liberty s cells r p ≡ true → IsLastAt s cells r p
unfolding is_only_liberty
last_gives s cells r p h =
    let both = and_parts _ _ h in
    record { in_atari = eqb-true (liberties s cells r) 1 both.0; last = IsLiberty-from_test s cells r p both.1 }

-- and back
pub last_from : (s : ℕ) (cells : List Cell) (r p : ℕ) → r < s * s → IsLastAt s cells r p
    → is_only_liberty s cells r p ≡ true
unfolding is_only_liberty
last_from s cells r p on w = grind (arith, and_from, eq-eqb, is_liberty-from_fact)

-- the stone of the other colour is an enemy of a stone
foe_is_enemy : (own there : Cell) → is_stone own ≡ true → there ≡ foe_of own → is_enemy own there ≡ true
foe_is_enemy Black there stone e = rw e refl
foe_is_enemy White there stone e = rw e refl
foe_is_enemy Empty there stone e = absurd (both_ways false refl stone)

-- and an enemy is the stone of the other colour
enemy_is_foe : (own there : Cell) → is_enemy own there ≡ true → there ≡ foe_of own
enemy_is_foe Black White e = refl
enemy_is_foe White Black e = refl
enemy_is_foe Empty there e = absurd (both_ways false refl e)
enemy_is_foe Black Black e = absurd (both_ways false refl e)
enemy_is_foe Black Empty e = absurd (both_ways false refl e)
enemy_is_foe White White e = absurd (both_ways false refl e)
enemy_is_foe White Empty e = absurd (both_ways false refl e)

-- the further candidates of a target
module _ (s : ℕ) (cells : List Cell) (target : ℕ) where
  -- a weak enemy by the test is one in words
  pub weak_gives : (most q : ℕ) → q < s * s → is_weak_enemy most s cells target q ≡ true
      → IsWeakEnemy most s cells target q
  unfolding is_weak_enemy
  weak_gives most q on h =
      let both = and_parts _ _ h in
      record { enemy = enemy_gives s cells target q on both.0; few = leb-true (liberties s cells q) most both.1 }

  -- the target of a weak enemy is a stone
  target_stone : {most : ℕ} (q : ℕ) → IsWeakEnemy most s cells target q → is_stone (cell_at cells target) ≡ true
  target_stone q w = w.enemy.beside.1.stone

  -- a point of Net by the test is one in words
  pub net_gives : (p : ℕ) → is_net s cells target p ≡ true → (l : ℕ) × IsNetAt s cells target l p
  unfolding is_net
  net_gives p h =
      let parts = and_parts _ _ h in
      let first = and_parts _ _ parts.0 in
      let place = and_parts _ _ first.1 in
      let l = any_below_gives (s * s) _ parts.1 in
      let near = and_parts _ _ l.2 in (
        l.0,
        record {
          three = eqb-true (liberties s cells target) 3 first.0;
          liberty = IsLiberty-from_test s cells target l.0 near.0;
          on_board = ltb-true p (s * s) place.0;
          is_empty = same_cell-true _ _ place.1;
          beside = near.1;
        },
      )

  -- a point of Beside by the test is one in words
  pub beside_gives : (most p : ℕ) → is_beside most s cells target p ≡ true
      → (q : ℕ) × IsWeakEnemy most s cells target q × IsLiberty s cells q p
  unfolding is_beside
  beside_gives most p h =
      let q = any_below_gives (s * s) _ h in
      let both = and_parts _ _ q.2 in
      (q.0, weak_gives most q.0 q.1 both.0, IsLiberty-from_test s cells q.0 p both.1)

  -- a stone that no test puts into the target's string is in no string of it
  apart : (r : ℕ) → target < s * s → not (is_in_string s cells target r) ≡ true → IsInString s cells target r → ⊥
  apart r on h i = both_ways (is_in_string s cells target r) (not-true _ h)
      (is_is_in_string-from_fact s cells target r on i)

  -- and back
  apart_from : (r : ℕ) → (IsInString s cells target r → ⊥) → not (is_in_string s cells target r) ≡ true
  apart_from r other = elim (cases_Bool (is_in_string s cells target r)) [
    | inl i ↦ absurd (other (IsInString-from_test s cells target r i))
    | inr n ↦ not_from_false _ n
  ]

  -- an ally by the test is one in words
  pub ally_gives : (most r : ℕ) → target < s * s → r < s * s → is_ally most s cells target r ≡ true
      → (q : ℕ) × IsAlly most s cells target q r
  unfolding is_ally
  ally_gives most r on on_r h =
      let parts = and_parts _ _ h in
      let q = any_below_gives (s * s) _ parts.0 in
      let both = and_parts _ _ q.2 in (
        q.0,
        record {
          weak = weak_gives most q.0 q.1 both.0;
          beside_weak = enemy_gives s cells q.0 r on_r both.1;
          other = apart r on parts.1;
        },
      )

  -- a point of Rescue by the test is one in words
  pub rescue_gives : (p : ℕ) → target < s * s → is_rescue s cells target p ≡ true
      → (q : ℕ) × (r : ℕ) × IsAlly 2 s cells target q r × IsLastAt s cells r p
  unfolding is_rescue
  rescue_gives p on h =
      let r = any_below_gives (s * s) _ h in
      let both = and_parts _ _ r.2 in
      let ally = ally_gives 2 r.0 on r.1 both.0 in
      (ally.0, r.0, ally.1, last_gives s cells r.0 p both.1)

  -- a linked stone by the test is one in words
  pub linked_gives : (most q : ℕ) → target < s * s → q < s * s → is_linked most s cells target q ≡ true
      → (l : ℕ) × IsLinkedAt most s cells target l q
  unfolding is_linked
  linked_gives most q on on_q h =
      let parts = and_parts _ _ h in
      let strings = and_parts _ _ parts.0 in
      let stones = and_parts _ _ strings.0 in
      let l = any_below_gives (s * s) _ stones.1 in
      let near = and_parts _ _ l.2 in (
        l.0,
        record {
          liberty = IsLiberty-from_test s cells target l.0 near.0;
          on_board = on_q;
          beside = near.1;
          same = same_cell-true _ _ stones.0;
          other = apart q on strings.1;
          few = leb-true (liberties s cells q) most parts.1;
        },
      )

  -- a point of Join by the test is one in words
  pub join_gives : (most p : ℕ) → target < s * s → is_join most s cells target p ≡ true
      → (l : ℕ) × (q : ℕ) × IsLinkedAt most s cells target l q × IsLiberty s cells q p
  unfolding is_join
  join_gives most p on h =
      let q = any_below_gives (s * s) _ h in
      let both = and_parts _ _ q.2 in
      let linked = linked_gives most q.0 on q.1 both.0 in
      (linked.0, q.0, linked.1, IsLiberty-from_test s cells q.0 p both.1)

  -- a point of Cut by the test is one in words
  pub cut_gives : (p : ℕ) → target < s * s → is_cut s cells target p ≡ true
      → (l : ℕ) × (q : ℕ) × (r : ℕ) × IsLinkedAt 4 s cells target l q × IsEnemyBeside s cells q r × IsLastAt s cells r p
  unfolding is_cut is_cutter
  cut_gives p on h =
      let r = any_below_gives (s * s) _ h in
      let both = and_parts _ _ r.2 in
      let q = any_below_gives (s * s) _ both.0 in
      let cutter = and_parts _ _ q.2 in
      let linked = linked_gives 4 q.0 on q.1 cutter.0 in
      (linked.0, q.0, r.0, linked.1, enemy_gives s cells q.0 r.0 r.1 cutter.1, last_gives s cells r.0 p both.1)

  -- a weak enemy in words is one by the test
  pub weak_from : (most q : ℕ) → target < s * s → IsWeakEnemy most s cells target q
      → is_weak_enemy most s cells target q ≡ true
  unfolding is_weak_enemy
  weak_from most q on w =
      and_from _ _ (enemy_from s cells target q on w.enemy) (le-leb (liberties s cells q) most w.few)

  -- a point of Net in words is one by the test
  pub net_from : (l p : ℕ) → target < s * s → IsNetAt s cells target l p → is_net s cells target p ≡ true
  unfolding is_net
  net_from l p on w =
      and_from _ _
      (and_from _ _ (eq-eqb (liberties s cells target) 3 w.three)
      (and_from _ _ (lt-ltb p (s * s) w.on_board) (same_cell-from _ _ w.is_empty)))
      (any_below_from (s * s) _ l w.liberty.on_board
      (and_from _ _ (is_liberty-from_fact s cells target l on w.liberty) w.beside))

  -- a point of Beside in words is one by the test
  pub beside_from : (most q p : ℕ) → target < s * s → IsWeakEnemy most s cells target q → IsLiberty s cells q p
      → is_beside most s cells target p ≡ true
  unfolding is_beside
  beside_from most q p on weak lib =
      any_below_from (s * s) _ q weak.enemy.on_board
      (and_from _ _ (weak_from most q on weak) (is_liberty-from_fact s cells q p weak.enemy.on_board lib))

  -- an ally in words is one by the test
  pub ally_from : (most q r : ℕ) → target < s * s → IsAlly most s cells target q r
      → is_ally most s cells target r ≡ true
  unfolding is_ally
  ally_from most q r on w =
      let on_q = w.weak.enemy.on_board in
      and_from _ _
      (any_below_from (s * s) _ q on_q
      (and_from _ _ (weak_from most q on w.weak) (enemy_from s cells q r on_q w.beside_weak)))
      (apart_from r w.other)

  -- a point of Rescue in words is one by the test
  pub rescue_from : (q r p : ℕ) → target < s * s → IsAlly 2 s cells target q r → IsLastAt s cells r p
      → is_rescue s cells target p ≡ true
  unfolding is_rescue
  rescue_from q r p on ally last =
      let on_r = ally.beside_weak.on_board in
      any_below_from (s * s) _ r on_r (and_from _ _ (ally_from 2 q r on ally) (last_from s cells r p on_r last))

  -- a linked stone in words is one by the test
  pub linked_from : (most l q : ℕ) → target < s * s → IsLinkedAt most s cells target l q
      → is_linked most s cells target q ≡ true
  unfolding is_linked
  linked_from most l q on w =
      and_from _ _
      (and_from _ _
      (and_from _ _ (same_cell-from _ _ w.same)
      (any_below_from (s * s) _ l w.liberty.on_board
      (and_from _ _ (is_liberty-from_fact s cells target l on w.liberty) w.beside)))
      (apart_from q w.other))
      (le-leb (liberties s cells q) most w.few)

  -- a point of Join in words is one by the test
  pub join_from : (most l q p : ℕ) → target < s * s → IsLinkedAt most s cells target l q → IsLiberty s cells q p
      → is_join most s cells target p ≡ true
  unfolding is_join
  join_from most l q p on linked lib =
      any_below_from (s * s) _ q linked.on_board
      (and_from _ _ (linked_from most l q on linked) (is_liberty-from_fact s cells q p linked.on_board lib))

  -- a point of Cut in words is one by the test
  pub cut_from : (l q r p : ℕ) → target < s * s → IsLinkedAt 4 s cells target l q → IsEnemyBeside s cells q r
      → IsLastAt s cells r p → is_cut s cells target p ≡ true
  unfolding is_cut is_cutter
  cut_from l q r p on linked enemy last =
      any_below_from (s * s) _ r enemy.on_board
      (and_from _ _
      (any_below_from (s * s) _ q linked.on_board
      (and_from _ _ (linked_from 4 l q on linked) (enemy_from s cells q r linked.on_board enemy)))
      (last_from s cells r p enemy.on_board last))

  -- a point of Cover by the test is one in words
  pub cover_gives : (p : ℕ) → is_cover s cells target p ≡ true
      → (q : ℕ) × (l : ℕ) × IsCoveredAt s cells target q l p
  unfolding is_cover is_covered_liberty is_covered
  cover_gives p h =
      let parts = and_parts _ _ h in
      let place = and_parts _ _ parts.0 in
      let l = any_below_gives (s * s) _ parts.1 in
      let near = and_parts _ _ l.2 in
      let q = any_below_gives (s * s) _ near.0 in
      let both = and_parts _ _ q.2 in
      let its = and_parts _ _ both.0 in
      let few = and_parts _ _ its.1 in (
        q.0,
        l.0,
        record {
          weak = record {
            enemy = enemy_gives s cells target q.0 q.1 its.0;
            few = leb-true (liberties s cells q.0) 3 few.1;
          };
          two = leb-true 2 (liberties s cells q.0) few.0;
          liberty = IsLiberty-from_test s cells q.0 l.0 both.1;
          on_board = ltb-true p (s * s) place.0;
          is_empty = same_cell-true _ _ place.1;
          beside = near.1;
        },
      )

  -- a point of Cover in words is one by the test
  pub cover_from : (q l p : ℕ) → target < s * s → IsCoveredAt s cells target q l p → is_cover s cells target p ≡ true
  unfolding is_cover is_covered_liberty is_covered
  cover_from q l p on w =
      let on_q = w.weak.enemy.on_board in
      and_from _ _ (and_from _ _ (lt-ltb p (s * s) w.on_board) (same_cell-from _ _ w.is_empty))
      (any_below_from (s * s) _ l w.liberty.on_board
      (and_from _ _
      (any_below_from (s * s) _ q on_q
      (and_from _ _
      (and_from _ _ (enemy_from s cells target q on w.weak.enemy)
      (and_from _ _ (le-leb 2 (liberties s cells q) w.two) (le-leb (liberties s cells q) 3 w.weak.few)))
      (is_liberty-from_fact s cells q l on_q w.liberty)))
      w.beside))

  -- a point of Approach by the test is one in words
  pub approach_gives : (p : ℕ) → is_approach s cells target p ≡ true
      → (q : ℕ) × (l : ℕ) × (r : ℕ) × IsApproachAt s cells target q l r p
  unfolding is_approach is_in_the_way holds_next
  approach_gives p h =
      let r = any_below_gives (s * s) _ h in
      let both = and_parts _ _ r.2 in
      let few = and_parts _ _ both.0 in
      let l = any_below_gives (s * s) _ few.0 in
      let parts = and_parts _ _ l.2 in
      let near = and_parts _ _ parts.1 in
      let next = and_parts _ _ near.1 in
      let q = beside_gives 2 l.0 parts.0 in (
        q.0,
        l.0,
        r.0,
        record {
          weak = q.1;
          liberty = q.2;
          cramped = near.0;
          on_board = r.1;
          enemy = foe_is_enemy (cell_at cells target) (cell_at cells r.0) (target_stone q.0 q.1)
              (same_cell-true _ _ (and_parts _ _ next.0).1);
          beside = next.1;
          few = leb-true (liberties s cells r.0) 2 few.1;
          its = IsLiberty-from_test s cells r.0 p both.1;
        },
      )

  -- a point of Approach in words is one by the test
  pub approach_from : (q l r p : ℕ) → target < s * s → IsApproachAt s cells target q l r p
      → is_approach s cells target p ≡ true
  unfolding is_approach is_in_the_way holds_next
  approach_from q l r p on w =
      any_below_from (s * s) _ r w.on_board
      (and_from _ _
      (and_from _ _
      (any_below_from (s * s) _ l w.liberty.on_board
      (and_from _ _ (beside_from 2 q l on w.weak w.liberty)
      (and_from _ _ w.cramped
      (and_from _ _ (and_from _ _ (lt-ltb r (s * s) w.on_board)
      (same_cell-from _ _ (enemy_is_foe (cell_at cells target) (cell_at cells r) w.enemy))) w.beside))))
      (le-leb (liberties s cells r) 2 w.few))
      (is_liberty-from_fact s cells r p w.on_board w.its))

  -- a further candidate of every ply by the test is one in words
  always_gives : (wide attacker : Bool) (p : ℕ) → target < s * s → is_further_always attacker s cells target p ≡ true
      → IsFurther wide attacker s cells target p
  unfolding is_further_always
  always_gives wide true p on h = elim (or_cases (is_beside 2 s cells target p) (is_rescue s cells target p) h) [
    | inl beside ↦ let w = beside_gives 2 p beside in strengthens refl w.0 w.1 w.2
    | inr last ↦ let w = rescue_gives p on last in rescues refl w.0 w.1 w.2 w.3
  ]
  always_gives wide false p on h = elim (or_cases (is_rescue s cells target p) (is_cut s cells target p) h) [
    | inl last ↦ let w = rescue_gives p on last in saves refl w.0 w.1 w.2 w.3
    | inr last ↦ let w = cut_gives p on last in cuts refl w.0 w.1 w.2 w.3 w.4 w.5
  ]

  -- and so is one of a wide ply, where one is left
  wide_gives : (wide attacker : Bool) (p : ℕ) → target < s * s → wide ≡ true
      → is_further_wide attacker s cells target p ≡ true → IsFurther wide attacker s cells target p
  unfolding is_further_wide
  wide_gives wide true p on left h = elim (or_cases (is_net s cells target p) (is_join 2 s cells target p) h) [
    | inl net ↦ let w = net_gives p net in nets left refl w.0 w.1
    | inr link ↦ let w = join_gives 2 p on link in links left refl w.0 w.1 w.2 w.3
  ]
  wide_gives wide false p on left h =
      elim (or_cases ((is_beside 4 s cells target p || is_join 4 s cells target p) || is_cover s cells target p)
      (is_approach s cells target p) h) [
        | inr near ↦ let w = approach_gives p near in approaches left refl w.0 w.1 w.2 w.3
        | inl most ↦ elim (or_cases (is_beside 4 s cells target p || is_join 4 s cells target p)
            (is_cover s cells target p) most) [
              | inr cover ↦ let w = cover_gives p cover in covers left refl w.0 w.1 w.2
              | inl first ↦ elim (or_cases (is_beside 4 s cells target p) (is_join 4 s cells target p) first) [
                | inl beside ↦ let w = beside_gives 4 p beside in presses left refl w.0 w.1 w.2
                | inr join ↦ let w = join_gives 4 p on join in joins left refl w.0 w.1 w.2 w.3
              ]
            ]
      ]

  -- a further candidate by the test is one in words
  pub further_gives : (wide attacker : Bool) (p : ℕ) → target < s * s
      → is_further wide attacker s cells target p ≡ true → IsFurther wide attacker s cells target p
  unfolding is_further
  further_gives wide attacker p on h =
      elim (or_cases (is_further_always attacker s cells target p)
      (wide && is_further_wide attacker s cells target p) h) [
        | inl always ↦ always_gives wide attacker p on always
        | inr later ↦ let both = and_parts _ _ later in wide_gives wide attacker p on both.0 both.1
      ]

  -- one of every ply is a further candidate
  by_always : (wide attacker : Bool) (p : ℕ) → is_further_always attacker s cells target p ≡ true
      → is_further wide attacker s cells target p ≡ true
  unfolding is_further
  by_always wide attacker p h = or_left _ _ h

  -- and so is one of a wide ply, where one is left
  by_wide : (wide attacker : Bool) (p : ℕ) → wide ≡ true → is_further_wide attacker s cells target p ≡ true
      → is_further wide attacker s cells target p ≡ true
  unfolding is_further
  by_wide wide attacker p left h = or_right (is_further_always attacker s cells target p) _ (and_from _ _ left h)

  -- a further candidate in words is one by the test
  pub further_from : (wide attacker : Bool) (p : ℕ) → target < s * s → IsFurther wide attacker s cells target p
      → is_further wide attacker s cells target p ≡ true
  unfolding is_further_always is_further_wide
  further_from wide attacker p on (strengthens turn q weak lib) =
      by_always wide attacker p (rw turn (or_left _ _ (beside_from 2 q p on weak lib)))
  further_from wide attacker p on (rescues turn q r ally last) =
      by_always wide attacker p (rw turn (or_right _ _ (rescue_from q r p on ally last)))
  further_from wide attacker p on (saves turn q r ally last) =
      by_always wide attacker p (rw turn (or_left _ _ (rescue_from q r p on ally last)))
  further_from wide attacker p on (cuts turn l q r linked enemy last) =
      by_always wide attacker p (rw turn (or_right _ _ (cut_from l q r p on linked enemy last)))
  further_from wide attacker p on (nets left turn l w) =
      by_wide wide attacker p left (rw turn (or_left _ _ (net_from l p on w)))
  further_from wide attacker p on (links left turn l q linked lib) =
      by_wide wide attacker p left (rw turn (or_right _ _ (join_from 2 l q p on linked lib)))
  further_from wide attacker p on (presses left turn q weak lib) =
      by_wide wide attacker p left (rw turn (or_left _ _ (or_left _ _ (or_left _ _ (beside_from 4 q p on weak lib)))))
  further_from wide attacker p on (joins left turn l q linked lib) =
      by_wide wide attacker p left (rw turn (or_left _ _ (or_left _ _ (or_right _ _ (join_from 4 l q p on linked lib)))))
  further_from wide attacker p on (covers left turn q l w) =
      by_wide wide attacker p left (rw turn (or_left _ _ (or_right _ _ (cover_from q l p on w))))
  further_from wide attacker p on (approaches left turn q l r w) =
      by_wide wide attacker p left (rw turn (or_right _ _ (approach_from q l r p on w)))
