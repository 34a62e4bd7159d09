-- Lists in another order have elements that differ, if the first one does.
use Rattle.std.proofs.Common.{◌≡◌, ◌≢◌, ℕ, ◌<◌, ◌⊎◌, inl, inr, List, length, get_or, refl, ap, ◌∙◌, arith}
use Rattle.std.specs.List.{swap}
use Rattle.std.specs.List.Sorted.{IsPermutation}
use Rattle.std.proofs.lemmas.Bool.{cases_eq}
use Rattle.std.proofs.lemmas.List.Edits.{swapped_from_swap, length-swap}
use Rattle.std.proofs.lemmas.List.Sorted.{IsPermutation-keeps}
use Rattle.dfa_core.specs.Automata.{AreDistinct}

-- where an element of a list with two places swapped comes from
record IsFrom {X : Type 0} (xs ys : List X) (a b m : ℕ) (d : X) : Type 0 where
  pub place : ℕ
  pub same : get_or ys m d ≡ get_or xs place d
  pub which : ((m ≡ a) × (place ≡ b)) ⊎ (((m ≡ b) × (place ≡ a)) ⊎ ((m ≢ a) × (m ≢ b) × (place ≡ m)))

module _ {X : Type 0} where
  -- after two places are swapped, an element comes from the other of the two, or from where it stands
  from_swap : (xs : List X) (a b m : ℕ) (d : X) → a < length xs → b < length xs → IsFrom xs (swap xs a b) a b m d
  from_swap xs a b m d p q =
      let swapped = swapped_from_swap xs (swap xs a b) a b d p q refl in
      elim (cases_eq m a) [
        | inl first ↦ record {
          place = b;
          same = ap (λ k. get_or (swap xs a b) k d) first ∙ swapped.0;
          which = inl (first, refl);
        }
        | inr not_first ↦ elim (cases_eq m b) [
          | inl second ↦ record {
            place = a;
            same = ap (λ k. get_or (swap xs a b) k d) second ∙ swapped.1;
            which = inr (inl (second, refl));
          }
          | inr not_second ↦ record {
            place = m;
            same = swapped.2 m not_first not_second;
            which = inr (inr (not_first, not_second, refl));
          }
        ]
      ]

  -- a list whose elements differ has them differ after a swap
  AreDistinct-swap : (xs : List X) (a b : ℕ) → a < length xs → b < length xs → AreDistinct xs
      → AreDistinct (swap xs a b)
  AreDistinct-swap xs a b p q distinct i j d l k e =
      grind (arith, length-swap xs a b, from_swap xs a b i d p q, from_swap xs a b j d p q)

  -- a list whose elements differ has them differ in any other order
  pub AreDistinct-permutation : (xs ys : List X) → IsPermutation xs ys → AreDistinct xs → AreDistinct ys
  AreDistinct-permutation xs ys moved distinct =
      IsPermutation-keeps xs AreDistinct distinct (λ l i j p q kept. AreDistinct-swap l i j p q kept) ys moved
