-- The positions of a game, one more at a time.
use Rattle.std.proofs.Common.{◌≡◌, ℕ, zero, suc, ◌+◌, ◌<◌, List, [], ◌∷◌, ◌++◌, length, take, get_or, refl, sym, ap}
use Rattle.std.proofs.Common.{◌∙◌, arith}
use Rattle.std.specs.List.{flat_map, enumerate_from}
use Rattle.std.proofs.lemmas.Grind.{flat_map-append}
use Rattle.std.proofs.lemmas.List.{take_more}

module _ {X : Type 0} where
  -- the element behind a list has the number behind its numbers
  enumerate-append : (n : ℕ) (xs : List X) (x : X)
      → enumerate_from n (xs ++ x ∷ []) ≡ enumerate_from n xs ++ (n + length xs, x) ∷ []
  enumerate-append n [] x = ap (λ k. (k, x) ∷ []) (omega arith)
  enumerate-append n (y ∷ xs) x =
      ap (λ rest. (n, y) ∷ rest) (enumerate-append (n + 1) xs x)
      ∙ ap (λ k. (n, y) ∷ (enumerate_from (n + 1) xs ++ (k, x) ∷ [])) (omega arith)

  -- as many elements as are taken
  length-front : (i : ℕ) (xs : List X) → i < length xs → length (take i xs) ≡ i
  length-front zero xs low = refl
  length-front (suc i) [] low = absurd (omega arith)
  length-front (suc i) (x ∷ xs) low = ap suc (length-front i xs (omega arith))

  module _ {Y : Type 0} (f : ℕ × X → List Y) where
    -- what is told of the first elements by their numbers, and of the next one
    pub numbered-next : (xs : List X) (i : ℕ) (x : X) (before after : List Y) → i < length xs → x ≡ get_or xs i x
        → before ≡ flat_map f (enumerate_from 0 (take i xs)) → after ≡ before ++ f (i, x)
        → after ≡ flat_map f (enumerate_from 0 (take (i + 1) xs))
    numbered-next xs i x before after low read so_far now =
        let last : 0 + length (take i xs) ≡ i = omega (arith, length-front i xs low) in
        now ∙ ap (λ l. l ++ f (i, x)) so_far
        ∙ sym (ap (λ l. flat_map f (enumerate_from 0 l))
        (take_more xs i x low ∙ ap (λ y. take i xs ++ y ∷ []) (sym read))
        ∙ ap (flat_map f) (enumerate-append 0 (take i xs) x)
        ∙ ap (λ k. flat_map f (enumerate_from 0 (take i xs) ++ (k, x) ∷ [])) last
        ∙ flat_map-append f (enumerate_from 0 (take i xs)) ((i, x) ∷ [])
        ∙ ap (λ l. flat_map f (enumerate_from 0 (take i xs)) ++ l) (append-none (f (i, x))))
      where
        append-none : (ys : List Y) → ys ++ [] ≡ ys
        append-none [] = refl
        append-none (y ∷ ys) = ap (λ l. y ∷ l) (append-none ys)
