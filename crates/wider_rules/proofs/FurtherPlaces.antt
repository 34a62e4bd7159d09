-- Where the further candidates lie, and that they are empty points.
use Rattle.std.proofs.Common.{◌≡◌, ℕ, ◌*◌, ◌<◌, Bool, true, false, List, ap, inl, inr}
use Rattle.std.proofs.lemmas.Bool.{cases_Bool, both_ways}
use Rattle.go_rules.specs.declared.Cell.{Cell}
use Rattle.go_rules.specs.declared.Cell.TheVariants.{Empty}
use Rattle.go_rules.specs.Board.{are_neighbours}
use Rattle.go_rules.specs.Strings.{cell_at, is_stone, IsInString, IsLiberty}
use Rattle.go_rules.specs.Neighbourhood.{neighbourhood_of}
use Rattle.go_rules.proofs.Paths.{is_is_in_string-from_fact}
use Rattle.go_base.specs.Views.{alone}
use Rattle.go_base.proofs.PointNeighbourhoods.{whole_self, whole_string, close_next, close_again, alone_self}
use Rattle.wider_rules.specs.Further.{is_further}
use Rattle.wider_rules.specs.FurtherInWords.{IsNetAt, IsEnemyBeside, IsWeakEnemy, IsLastAt, IsAlly, IsLinkedAt}
use Rattle.wider_rules.specs.FurtherInWords.{IsCoveredAt, IsFurther, strengthens, rescues, saves, cuts, nets, links}
use Rattle.wider_rules.specs.FurtherInWords.{IsApproachAt, presses, joins, covers, approaches}
use Rattle.wider_rules.specs.FurtherAreas.{first_area, second_area, third_area, fourth_area, near_further}
use Rattle.wider_rules.proofs.FurtherLaws.{further_gives}

-- What is close to a point of S.
module _ (s : ℕ) (cells : List Cell) (S : ℕ → Bool) where
  -- its neighbours are
  pub side_close : (x q : ℕ) → x < s * s → S x ≡ true → q < s * s → are_neighbours s x q ≡ true
      → neighbourhood_of s cells S q ≡ true
  side_close x q on h on_q near = close_next s cells S x q on_q (whole_self s cells S x on h) near

  -- a neighbour of its string is
  string_close : (x y q : ℕ) → x < s * s → S x ≡ true → IsInString s cells x y → q < s * s
      → are_neighbours s y q ≡ true
      → neighbourhood_of s cells S q ≡ true
  string_close x y q on h inside on_q near =
      close_next s cells S y q on_q
      (whole_string s cells S x y on h (is_is_in_string-from_fact s cells x y on inside)) near

  -- its liberties are
  pub liberty_close : (x l : ℕ) → x < s * s → S x ≡ true → IsLiberty s cells x l → neighbourhood_of s cells S l ≡ true
  liberty_close x l on h lib = string_close x lib.beside.0 l on h lib.beside.1 lib.on_board lib.beside.2

  -- the enemies next to its string are
  pub enemy_close : (x q : ℕ) → x < s * s → S x ≡ true → IsEnemyBeside s cells x q
      → neighbourhood_of s cells S q ≡ true
  enemy_close x q on h w = string_close x w.beside.0 q on h w.beside.1 w.on_board w.beside.2

-- Where the further candidates of a target lie.
module _ (s : ℕ) (cells : List Cell) (target : ℕ) (on : target < s * s) where
  -- the target's liberties are in the first area
  pub liberty_first : (l : ℕ) → IsLiberty s cells target l → first_area s cells target l ≡ true
  liberty_first l lib = liberty_close s cells (alone target) target l on (alone_self target) lib

  -- and the enemies next to its string
  pub enemy_first : (q : ℕ) → IsEnemyBeside s cells target q → first_area s cells target q ≡ true
  enemy_first q w = enemy_close s cells (alone target) target q on (alone_self target) w

  -- a linked stone is in the second
  pub linked_second : (most l q : ℕ) → IsLinkedAt most s cells target l q → second_area s cells target q ≡ true
  linked_second most l q w =
      side_close s cells (first_area s cells target) l q w.liberty.on_board (liberty_first l w.liberty) w.on_board
      w.beside

  -- and so is an ally
  pub ally_second : (most q r : ℕ) → IsAlly most s cells target q r → second_area s cells target r ≡ true
  ally_second most q r w =
      enemy_close s cells (first_area s cells target) q r w.weak.enemy.on_board (enemy_first q w.weak.enemy)
      w.beside_weak

  -- Net lies in the second
  pub net_second : (l p : ℕ) → IsNetAt s cells target l p → second_area s cells target p ≡ true
  net_second l p w =
      side_close s cells (first_area s cells target) l p w.liberty.on_board (liberty_first l w.liberty) w.on_board
      w.beside

  -- and so does Beside
  pub beside_second : (most q p : ℕ) → IsWeakEnemy most s cells target q → IsLiberty s cells q p
      → second_area s cells target p ≡ true
  beside_second most q p w lib =
      liberty_close s cells (first_area s cells target) q p w.enemy.on_board (enemy_first q w.enemy) lib

  -- Rescue lies in the third
  pub rescue_third : (q r p : ℕ) → IsAlly 2 s cells target q r → IsLastAt s cells r p
      → third_area s cells target p ≡ true
  rescue_third q r p ally last =
      liberty_close s cells (second_area s cells target) r p ally.beside_weak.on_board (ally_second 2 q r ally)
      last.last

  -- and so do Join and Link
  pub join_third : (most l q p : ℕ) → IsLinkedAt most s cells target l q → IsLiberty s cells q p
      → third_area s cells target p ≡ true
  join_third most l q p linked lib =
      liberty_close s cells (second_area s cells target) q p linked.on_board (linked_second most l q linked) lib

  -- and so does Cover
  pub cover_third : (q l p : ℕ) → IsCoveredAt s cells target q l p → third_area s cells target p ≡ true
  cover_third q l p w =
      side_close s cells (second_area s cells target) l p w.liberty.on_board (beside_second 3 q l w.weak w.liberty)
      w.on_board w.beside

  -- Cut lies in the fourth
  pub cut_fourth : (l q r p : ℕ) → IsLinkedAt 4 s cells target l q → IsEnemyBeside s cells q r → IsLastAt s cells r p
      → fourth_area s cells target p ≡ true
  cut_fourth l q r p linked enemy last =
      liberty_close s cells (third_area s cells target) r p enemy.on_board
      (enemy_close s cells (second_area s cells target) q r linked.on_board (linked_second 4 l q linked) enemy) last.last

  -- and so does Approach
  pub approach_fourth : (q l r p : ℕ) → IsApproachAt s cells target q l r p → fourth_area s cells target p ≡ true
  approach_fourth q l r p w =
      liberty_close s cells (third_area s cells target) r p w.on_board
      (side_close s cells (second_area s cells target) l r w.liberty.on_board (beside_second 2 q l w.weak w.liberty)
      w.on_board w.beside) w.its

  -- what is in the second area is in the third
  pub second_third : (p : ℕ) → second_area s cells target p ≡ true → third_area s cells target p ≡ true
  second_third p h = close_again s cells (first_area s cells target) p h

  -- what is in the third area is in the fourth
  pub third_fourth : (p : ℕ) → third_area s cells target p ≡ true → fourth_area s cells target p ≡ true
  third_fourth p h = close_again s cells (second_area s cells target) p h

  -- a further candidate lies near
  further_in : (wide attacker : Bool) (p : ℕ) → IsFurther wide attacker s cells target p
      → near_further attacker s cells target p ≡ true
  further_in wide attacker p (strengthens turn q weak lib) = rw turn (second_third p (beside_second 2 q p weak lib))
  further_in wide attacker p (rescues turn q r ally last) = rw turn (rescue_third q r p ally last)
  further_in wide attacker p (saves turn q r ally last) = rw turn (third_fourth p (rescue_third q r p ally last))
  further_in wide attacker p (cuts turn l q r linked enemy last) = rw turn (cut_fourth l q r p linked enemy last)
  further_in wide attacker p (nets left turn l w) = rw turn (second_third p (net_second l p w))
  further_in wide attacker p (links left turn l q linked lib) = rw turn (join_third 2 l q p linked lib)
  further_in wide attacker p (presses left turn q weak lib) =
      rw turn (third_fourth p (second_third p (beside_second 4 q p weak lib)))
  further_in wide attacker p (joins left turn l q linked lib) =
      rw turn (third_fourth p (join_third 4 l q p linked lib))
  further_in wide attacker p (covers left turn q l w) = rw turn (third_fourth p (cover_third q l p w))
  further_in wide attacker p (approaches left turn q l r w) = rw turn (approach_fourth q l r p w)

  -- and so by the test
  pub further_near : (wide attacker : Bool) (p : ℕ) → is_further wide attacker s cells target p ≡ true
      → near_further attacker s cells target p ≡ true
  further_near wide attacker p h = further_in wide attacker p (further_gives s cells target wide attacker p on h)

-- What the further candidates of a target are.
module _ (wide attacker : Bool) (s : ℕ) (cells : List Cell) (target p : ℕ) where
  -- each is an empty point of the board
  empty_in : IsFurther wide attacker s cells target p → (p < s * s) × (cell_at cells p ≡ Empty)
  empty_in (strengthens turn q weak lib) = (lib.on_board, lib.is_empty)
  empty_in (rescues turn q r ally last) = (last.last.on_board, last.last.is_empty)
  empty_in (saves turn q r ally last) = (last.last.on_board, last.last.is_empty)
  empty_in (cuts turn l q r linked enemy last) = (last.last.on_board, last.last.is_empty)
  empty_in (nets left turn l w) = (w.on_board, w.is_empty)
  empty_in (links left turn l q linked lib) = (lib.on_board, lib.is_empty)
  empty_in (presses left turn q weak lib) = (lib.on_board, lib.is_empty)
  empty_in (joins left turn l q linked lib) = (lib.on_board, lib.is_empty)
  empty_in (covers left turn q l w) = (w.on_board, w.is_empty)
  empty_in (approaches left turn q l r w) = (w.its.on_board, w.its.is_empty)

  -- and so by the test
  pub further_empty : target < s * s → is_further wide attacker s cells target p ≡ true
      → (p < s * s) × (cell_at cells p ≡ Empty)
  further_empty on h = empty_in (further_gives s cells target wide attacker p on h)

  -- the target of a further candidate is a stone
  stone_in : IsFurther wide attacker s cells target p → is_stone (cell_at cells target) ≡ true
  stone_in (strengthens turn q weak lib) = weak.enemy.beside.1.stone
  stone_in (rescues turn q r ally last) = ally.weak.enemy.beside.1.stone
  stone_in (saves turn q r ally last) = ally.weak.enemy.beside.1.stone
  stone_in (cuts turn l q r linked enemy last) = linked.liberty.beside.1.stone
  stone_in (nets left turn l w) = w.liberty.beside.1.stone
  stone_in (links left turn l q linked lib) = linked.liberty.beside.1.stone
  stone_in (presses left turn q weak lib) = weak.enemy.beside.1.stone
  stone_in (joins left turn l q linked lib) = linked.liberty.beside.1.stone
  stone_in (covers left turn q l w) = w.weak.enemy.beside.1.stone
  stone_in (approaches left turn q l r w) = w.weak.enemy.beside.1.stone

  -- an empty point has no further candidates
  pub further_of_none : target < s * s → cell_at cells target ≡ Empty
      → is_further wide attacker s cells target p ≡ false
  further_of_none on e = elim (cases_Bool (is_further wide attacker s cells target p)) [
    | inl h ↦ absurd (both_ways (is_stone (cell_at cells target)) (ap is_stone e)
        (stone_in (further_gives s cells target wide attacker p on h)))
    | inr n ↦ n
  ]
