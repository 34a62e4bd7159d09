-- The bits of a set of points.
use Rattle.std.proofs.Common.{◌≡◌, ◌≢◌, ℕ, zero, suc, ◌+◌, ◌*◌, ◌/◌, ◌%◌, ◌^◌, ◌<◌, ◌≤◌, ◌||◌, ◌&&◌, Bool, true, false}
use Rattle.std.proofs.Common.{not, cond, eqb, ltb, List, length, get_or, bit_and, bit_or, refl, sym, ap, arith}
use Rattle.std.proofs.Common.{◌∙◌, get_or-set_same, get_or-set_other}
use Rattle.std.proofs.Math.ListN.{set}
use Rattle.std.specs.Prelude.{replicate}
use Rattle.std.proofs.lemmas.Bool.{cases_eq, lt-ltb, le-ltb, eq-eqb, ne_eqb}
use Rattle.std.proofs.lemmas.Nat.Bits.{bit_at-zero, bit_at_set_same, bit_at_set_other, bit_at_clear_same}
use Rattle.std.proofs.lemmas.Nat.Bits.{bit_at_clear_other, shr_and_one}
use Rattle.std.specs.Int.{bit_not, w64}
use Rattle.std.specs.Ordering.{nat_cmp}
use Rattle.std.specs.Cmp.{nat_cmp_total}
use Rattle.std.specs.FinSet as sets
use Rattle.go_rules.specs.Board.{largest_points}
use Rattle.go_rules.proofs.Sets.{eq_by_nat_cmp, contains-set_below, contains-insert_nat, same_nat_set, len-set_below}
use Rattle.go_rules.proofs.Counts.{count_below_at_most}
use Rattle.go_rules.proofs.Tests.{and-false}
use Rattle.go_base.specs.Bits.{set_words, is_marked, marked}

-- the set that words keep has the points of the largest board that are marked
pub contains-marked : (words : List ℕ) (q : ℕ)
    → sets.contains (marked words) q ≡ (ltb q largest_points && is_marked words q)
unfolding marked
contains-marked words q = contains-set_below largest_points (is_marked words) q

-- the set of marked points has no more members than the largest board has points
pub len-marked : (words : List ℕ) → sets.len (marked words) ≤ largest_points
unfolding marked
len-marked words = rw (len-set_below largest_points (is_marked words))
    (count_below_at_most largest_points (is_marked words))

-- each word of a list of zeros is zero, and so is what stands past its end
zeros_at : (n j : ℕ) → get_or (replicate {A = ℕ} n 0) j 0 ≡ zero
zeros_at zero j = refl
zeros_at (suc n) zero = refl
zeros_at (suc n) (suc j) = zeros_at n j

-- no point is marked in words that are zero
pub is_marked-none : (q : ℕ) → is_marked (replicate set_words 0) q ≡ false
is_marked-none q = grind (arith, zeros_at, bit_at-zero)

-- words that are zero keep the empty set
pub marked-none : marked (replicate set_words 0) ≡ sets.empty
marked-none = same_nat_set _ _ (λ q. contains-marked _ q ∙ ap (λ b. ltb q largest_points && b) (is_marked-none q)
    ∙ and-false (ltb q largest_points) ∙ sym (sets.contains-empty nat_cmp q))

-- one more bit
abbrev pub with_bit : List ℕ → ℕ → List ℕ
with_bit words p = set words (p / 64) (bit_or (get_or words (p / 64) 0) (1 * 2 ^ (p % 64) % 18446744073709551616))

-- with one more bit its point is marked
pub is_marked-with_bit_same : (words : List ℕ) (p : ℕ) → p / 64 < length words → is_marked (with_bit words p) p ≡ true
is_marked-with_bit_same words p h = grind (arith, get_or-set_same words, bit_at_set_same w64)

-- and each other point is marked as before
pub is_marked-with_bit_other : (words : List ℕ) (p q : ℕ) → p / 64 < length words → q ≢ p
    → is_marked (with_bit words p) q ≡ is_marked words q
is_marked-with_bit_other words p q h ne =
    grind (arith, get_or-set_same words, bit_at_set_other w64, get_or-set_other words, cases_eq)

-- with one more bit the set has one more member
pub marked-with_bit : (words : List ℕ) (p : ℕ) → length words ≡ set_words → p < largest_points
    → marked (with_bit words p) ≡ sets.insert (marked words) p
marked-with_bit words p six h =
    grind (arith, same_nat_set, contains-marked, is_marked-with_bit_same, is_marked-with_bit_other, contains-insert_nat)

-- the code's test of a bit is that of the definition
pub marked_bit : (words : List ℕ) (p : ℕ)
    → eqb (bit_and (get_or words (p / 64) 0 / 2 ^ (p % 64)) 1) 1 ≡ is_marked words p
marked_bit words p = ap (λ n. eqb n 1) (shr_and_one (get_or words (p / 64) 0) (p % 64))

-- and so it tells whether the set has the point
pub has_bit : (words : List ℕ) (p : ℕ) → p < largest_points
    → eqb (bit_and (get_or words (p / 64) 0 / 2 ^ (p % 64)) 1) 1 ≡ sets.contains (marked words) p
has_bit words p h = grind (arith, marked_bit, contains-marked, lt-ltb)

-- a member that is inserted again changes nothing
pub insert-member : (s : sets.FinSet nat_cmp) (p : ℕ) → sets.contains s p ≡ true → s ≡ sets.insert s p
insert-member s p h = grind (arith, same_nat_set, cases_eq, contains-insert_nat, eq-eqb, ne_eqb)

-- a point of the largest board is in the set exactly if it is marked
pub contains-small : (words : List ℕ) (p : ℕ) → p < largest_points → sets.contains (marked words) p ≡ is_marked words p
contains-small words p h = contains-marked words p ∙ ap (λ b. b && is_marked words p) (lt-ltb p largest_points h)

-- words in which no point is marked keep the empty set
pub marked-nothing : (words : List ℕ) → ((q : ℕ) → is_marked words q ≡ false) → marked words ≡ sets.empty
marked-nothing words none = same_nat_set _ _ (λ q. contains-marked words q
    ∙ ap (λ b. ltb q largest_points && b) (none q) ∙ and-false (ltb q largest_points)
    ∙ sym (sets.contains-empty nat_cmp q))

-- if one more point is marked, the set has one more member
pub marked-more : (old new : List ℕ) (p : ℕ) → p < largest_points → is_marked new p ≡ true
    → ((q : ℕ) → q ≢ p → is_marked new q ≡ is_marked old q) → marked new ≡ sets.insert (marked old) p
marked-more old new p h here elsewhere =
    grind (arith, same_nat_set, contains-marked, cases_eq, eq-eqb, lt-ltb, ne_eqb, contains-insert_nat)

-- and counts one more, if it is new
pub len-insert_new : (s : sets.FinSet nat_cmp) (p : ℕ) → sets.contains s p ≡ false
    → sets.len (sets.insert s p) ≡ sets.len s + 1
len-insert_new s p new = sets.len-insert nat_cmp_total s p ∙ ap (λ b. cond b (sets.len s) (sets.len s + 1)) new

-- where each point is marked that one of two marks, the set has the members of both
pub marked-both : (old more new : List ℕ) → ((q : ℕ) → is_marked new q ≡ (is_marked old q || is_marked more q))
    → marked new ≡ sets.union (marked old) (marked more)
marked-both old more new both = same_nat_set _ _ (λ q.
    contains-marked new q ∙ ap (λ b. ltb q largest_points && b) (both q)
    ∙ and-over_or (ltb q largest_points) (is_marked old q) (is_marked more q)
    ∙ sym (sets.contains-union nat_cmp_total (marked old) (marked more) q
    ∙ ap (λ b. b || sets.contains (marked more) q) (contains-marked old q)
    ∙ ap (λ b. (ltb q largest_points && is_marked old q) || b) (contains-marked more q)))
  where
    and-over_or : (a b c : Bool) → (a && (b || c)) ≡ ((a && b) || (a && c))
    and-over_or true b c = refl
    and-over_or false b c = refl

-- where each point is marked that both mark, the set has the members of both
pub marked-intersection : (one other new : List ℕ)
    → ((q : ℕ) → is_marked new q ≡ (is_marked one q && is_marked other q))
    → marked new ≡ sets.intersection (marked one) (marked other)
marked-intersection one other new both = same_nat_set _ _ (λ q.
    contains-marked new q ∙ ap (λ b. ltb q largest_points && b) (both q)
    ∙ over_and (ltb q largest_points) (is_marked one q) (is_marked other q)
    ∙ sym (sets.contains-intersection nat_cmp_total (marked one) (marked other) q
    ∙ ap (λ b. b && sets.contains (marked other) q) (contains-marked one q)
    ∙ ap (λ b. (ltb q largest_points && is_marked one q) && b) (contains-marked other q)))
  where
    over_and : (a b c : Bool) → (a && (b && c)) ≡ ((a && b) && (a && c))
    over_and true b c = refl
    over_and false b c = refl

-- where each point is marked that the one marks and the other not, the set has the members that the other has not
pub marked-difference : (one other new : List ℕ)
    → ((q : ℕ) → is_marked new q ≡ (is_marked one q && not (is_marked other q)))
    → marked new ≡ sets.difference (marked one) (marked other)
marked-difference one other new apart = same_nat_set _ _ (λ q.
    contains-marked new q ∙ ap (λ b. ltb q largest_points && b) (apart q)
    ∙ over_not (ltb q largest_points) (is_marked one q) (is_marked other q)
    ∙ sym (sets.contains-difference nat_cmp_total (marked one) (marked other) q
    ∙ ap (λ b. b && not (sets.contains (marked other) q)) (contains-marked one q)
    ∙ ap (λ b. (ltb q largest_points && is_marked one q) && not b) (contains-marked other q)))
  where
    over_not : (a b c : Bool) → (a && (b && not c)) ≡ ((a && b) && not (a && c))
    over_not true b c = refl
    over_not false b c = refl

-- a set without members has none that another has not
pub difference-none : (one other : sets.FinSet nat_cmp) → sets.len one ≡ 0
    → sets.empty ≡ sets.difference one other
difference-none one other none = rw (sets.empty_of_len one none) (same_nat_set _ _ (λ q.
    sets.contains-empty nat_cmp q
    ∙ sym (sets.contains-difference nat_cmp_total sets.empty other q
    ∙ ap (λ b. b && not (sets.contains other q)) (sets.contains-empty nat_cmp q))))

-- no number above the points of the largest board is in the set
pub contains-above : (words : List ℕ) (q : ℕ) → largest_points ≤ q → sets.contains (marked words) q ≡ false
contains-above words q h = contains-marked words q ∙ ap (λ b. b && is_marked words q) (le-ltb q largest_points h)

-- with one bit less
abbrev pub without_bit : List ℕ → ℕ → List ℕ
without_bit words p =
    set words (p / 64) (bit_and (get_or words (p / 64) 0) (bit_not w64 (1 * 2 ^ (p % 64) % 18446744073709551616)))

-- with one bit less its point is not marked
pub is_marked-without_bit_same : (words : List ℕ) (p : ℕ) → p / 64 < length words
    → is_marked (without_bit words p) p ≡ false
is_marked-without_bit_same words p h = grind (arith, get_or-set_same words, bit_at_clear_same w64)

-- and each other point is marked as before
pub is_marked-without_bit_other : (words : List ℕ) (p q : ℕ) → p / 64 < length words → q ≢ p
    → is_marked (without_bit words p) q ≡ is_marked words q
is_marked-without_bit_other words p q h ne =
    grind (arith, get_or-set_same words, bit_at_clear_other w64, get_or-set_other words, cases_eq)

-- a set with one member less
pub contains-remove_nat : (s : sets.FinSet nat_cmp) (k q : ℕ)
    → sets.contains (sets.remove s k) q ≡ (not (eqb q k) && sets.contains s q)
contains-remove_nat s k q =
    sets.contains-remove nat_cmp_total s k q ∙ ap (λ b. not b && sets.contains s q) (eq_by_nat_cmp q k)

-- where one point is marked no more, the set has that member less
pub marked-less : (old new : List ℕ) (p : ℕ) → is_marked new p ≡ false
    → ((q : ℕ) → q ≢ p → is_marked new q ≡ is_marked old q) → marked new ≡ sets.remove (marked old) p
marked-less old new p here elsewhere =
    grind (arith, same_nat_set, contains-marked, cases_eq, eq-eqb, and-false, ne_eqb, contains-remove_nat)

-- and counts one less
pub len-remove_member : (s : sets.FinSet nat_cmp) (p : ℕ) → sets.contains s p ≡ true
    → sets.len s ≡ sets.len (sets.remove s p) + 1
len-remove_member s p member =
    grind (
      arith,
      contains-insert_nat (sets.remove s p) p,
      contains-remove_nat s p,
      len-insert_new (sets.remove s p) p,
      same_nat_set,
    )

-- a set without a member is the empty one
pub no_members : (s : sets.FinSet nat_cmp) → ((q : ℕ) → sets.contains s q ≡ false) → s ≡ sets.empty
no_members s none = same_nat_set _ _ (λ q. none q ∙ sym (sets.contains-empty nat_cmp q))

-- a set without what is no member is the same set
pub remove-absent : (s : sets.FinSet nat_cmp) (p : ℕ) → sets.contains s p ≡ false → s ≡ sets.remove s p
remove-absent s p h = grind (arith, same_nat_set, cases_eq, contains-remove_nat, eq-eqb, ne_eqb)
