-- Lists of different matches that are sorted by rank are in order, and what differs gives matches that differ.
use Rattle.std.proofs.Common.{◌≡◌, zero, suc, ◌<◌, ◌≤◌, ◌⊎◌, inl, inr, List, [], ◌∷◌, get_or, Contains, Option, Some}
use Rattle.std.proofs.Common.{None, refl, sym, ap, ◌∙◌, subst, arith, ℕ, length, map}
use Rattle.std.specs.List.{filter_map, cons_option, All, AllPairs}
use Rattle.std.specs.List.Sorted.{IsNonDecreasing, IsNonDecreasingBy}
use Rattle.std.proofs.lemmas.List.{length-map, get_or-map}
use Rattle.std.proofs.lemmas.List.Elements.{Contains-get_or}
use Rattle.dfa_core.specs.Automata.{AreDistinct}
use Rattle.match_rules.specs.declared.found.Match.{Match}
use Rattle.match_rules.specs.Match.{ComesBefore}
use Rattle.match_engine.specs.Ranks.{rank_of, match_with}
use Rattle.go_rules.specs.Board.{largest_points}
use Rattle.go_rules.specs.Transform.{transformations}
use Rattle.match_rules.proofs.Lists.{Contains-first, Contains-rest, Contains-filter_map}
use Rattle.match_rules.proofs.Orders.{which_first}

-- the transformation and the point are small enough for the rank of the match to say them
pub record IsSmall (z : Match) : Type 0 where
  pub transform : z.transform < transformations
  pub at : z.at ≤ largest_points

-- what comes before another has a smaller rank
before-rank : (y z : Match) → IsSmall y → ComesBefore y z → rank_of y < rank_of z
before-rank y z small (inl a) = omega (arith, small.transform, small.at)
before-rank y z small (inr (e, inl a)) = omega (arith, small.at)
before-rank y z small (inr (e, inr (f, a))) = omega arith

-- a list of different matches that is sorted by rank is in order
pub sorted-in_order : (xs : List Match) → IsNonDecreasingBy rank_of xs → ((z : Match) → Contains xs z → IsSmall z)
    → AreDistinct xs → AllPairs ComesBefore xs
sorted-in_order xs sorted small distinct i j d l k =
    elim (which_first (get_or xs i d) (get_or xs j d)) [
      | inl before ↦ before
      | inr (inl same) ↦ absurd (let at = distinct i j d (omega arith) k same in omega (arith, at, l))
      | inr (inr after) ↦ absurd
          (let less = before-rank (get_or xs j d) (get_or xs i d) (small (get_or xs j d) (Contains-get_or xs j d k))
          after in omega (arith, less, sorted i j d (omega arith) k))
    ]

-- matches are sorted by rank where their ranks are sorted
pub rising_by_rank : (ranks : List ℕ) → All (λ n. rank_of (match_with n) ≡ n) ranks → IsNonDecreasing ranks
    → IsNonDecreasingBy rank_of (map match_with ranks)
rising_by_rank ranks true_ranks order i j d l k =
    let on : j < length ranks = omega (arith, k, length-map ranks match_with) in
    let low : i < length ranks = omega (arith, l, on) in
    let at_i : rank_of (get_or (map match_with ranks) i d) ≡ get_or ranks i 0 =
    ap rank_of (get_or-map match_with ranks i 0 d low) ∙ true_ranks i 0 low in
    let at_j : rank_of (get_or (map match_with ranks) j d) ≡ get_or ranks j 0 =
    ap rank_of (get_or-map match_with ranks j 0 d on) ∙ true_ranks j 0 on in
    omega (arith, at_i, at_j, order i j 0 l on)

module _ {X : Type 0} where
  -- one element more in front, which the list does not have
  AreDistinct-front : (y : X) (ys : List X) → (Contains ys y → ⊥) → AreDistinct ys → AreDistinct (y ∷ ys)
  AreDistinct-front y ys new distinct zero zero d l k e = refl
  AreDistinct-front y ys new distinct zero (suc j) d l k e =
      absurd (new (subst (Contains ys) (sym e) (Contains-get_or ys j d (omega arith))))
  AreDistinct-front y ys new distinct (suc i) zero d l k e =
      absurd (new (subst (Contains ys) e (Contains-get_or ys i d (omega arith))))
  AreDistinct-front y ys new distinct (suc i) (suc j) d l k e = ap suc (distinct i j d (omega arith) (omega arith) e)

module _ {X Y : Type 0} (f : X → Option Y) where
  -- where a function gives no value twice, what it gives of different elements differs
  pub AreDistinct-filter_map : (xs : List X)
      → ((x w : X) (y : Y) → Contains xs x → Contains xs w → f x ≡ Some y → f w ≡ Some y → x ≡ w) → AreDistinct xs
      → AreDistinct (filter_map f xs)
  AreDistinct-filter_map [] one distinct = grind arith
  AreDistinct-filter_map (x ∷ xs) one distinct =
      by (f x) refl (AreDistinct-filter_map xs
      (λ v w y in_v in_w e g. one v w y (Contains-rest x xs v in_v) (Contains-rest x xs w in_w) e g)
      (λ i j d l k e. let next = distinct (suc i) (suc j) d (omega arith) (omega arith) e in omega (arith, next)))
    where
      not_again : Contains xs x → ⊥
      not_again (k, l, e) = let none = distinct 0 (suc k) x (omega arith) (omega arith) (sym e) in omega (arith, none)

      by : (o : Option Y) → f x ≡ o → AreDistinct (filter_map f xs) → AreDistinct (cons_option o (filter_map f xs))
      by None e rest = rest
      by (Some y) e rest =
          AreDistinct-front y (filter_map f xs)
          (λ there.
          let from = Contains-filter_map f xs y there in
          not_again (subst (Contains xs) (one from.0 x y (Contains-rest x xs from.0 from.1)
          (Contains-first x xs x refl) from.2 e) from.1))
          rest
