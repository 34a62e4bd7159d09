-- Texts that grow by one number of a range after another.
use Rattle.std.proofs.Common.{◌≡◌, ℕ, zero, suc, ◌+◌, Bool, true, false, cond, List, [], ◌∷◌, ◌++◌, filter, refl}
use Rattle.std.proofs.Common.{sym, ap, ◌∙◌, append_assoc, append-nil, arith, ◌-◌, ◌<◌, ◌≤◌, slice_index}
use Rattle.std.proofs.Common.{◌/◌, ◌%◌}
use Rattle.std.proofs.lemmas.Fmt.{decimal_digit, decimal_step}
use Rattle.std.proofs.lemmas.List.{map-append}
use Rattle.std.proofs.lemmas.List.Elements.{filter-append}
use Rattle.std.specs.Ordering.{nat_cmp}
use Rattle.std.specs.FinSet as sets
use Rattle.std.specs.List.{flat_map, join_with_byte, range_with_len}
use Rattle.std.proofs.lemmas.Grind.{flat_map-append}
use Rattle.gtp_cmd.specs.Vertices.{vertex_text, column_letters}
use Rattle.machine_rules.specs.PointLists.{vertices_text, blank_after}

-- one number more
range-next : (a n : ℕ) → range_with_len a (suc n) ≡ range_with_len a n ++ (a + n) ∷ []
range-next a zero = ap (λ k. k ∷ []) (omega arith)
range-next a (suc n) = grind (arith, range-next (a + 1) n)

-- the first n numbers, and the next one
pub range_with_len-next : (n : ℕ) → range_with_len 0 (n + 1) ≡ range_with_len 0 n ++ n ∷ []
range_with_len-next n = grind (arith, range-next 0 n)

-- a text grows by what stands for the next number
pub text-next : (f : ℕ → List ℕ) (first text new : List ℕ) (n : ℕ) → text ≡ first ++ flat_map f (range_with_len 0 n)
    → new ≡ text ++ f n
    → new ≡ first ++ flat_map f (range_with_len 0 (n + 1))
text-next f first text new n so_far grows =
    grind (arith, append_assoc, range_with_len-next, flat_map-append, append-nil)

-- two pieces that are put one after the other
pub put_twice : (text mid new a b : List ℕ) → mid ≡ text ++ a → new ≡ mid ++ b → new ≡ text ++ (a ++ b)
put_twice text mid new a b first second = second ∙ ap (λ t. t ++ b) first ∙ append_assoc text a b

-- Vertices by their bytes, on a board of so many rows.

-- a letter and a digit are the vertex of a point whose row has one digit
pub vertex-one_digit : (s p rows letter : ℕ) → rows ≡ s → letter ≡ slice_index column_letters (p % rows)
    → rows - p / rows < 10 → letter ∷ (48 + (rows - p / rows)) ∷ [] ≡ vertex_text s p
vertex-one_digit s p rows letter same is less = grind (arith, decimal_digit)

-- a letter and two digits are the vertex of a point whose row has two digits
pub vertex-two_digits : (s p rows letter : ℕ) → rows ≡ s → letter ≡ slice_index column_letters (p % rows)
    → 10 ≤ rows - p / rows → rows - p / rows < 100
    → letter ∷ (48 + (rows - p / rows) / 10) ∷ (48 + (rows - p / rows) % 10) ∷ [] ≡ vertex_text s p
vertex-two_digits s p rows letter same is least less = grind (arith, decimal_step, decimal_digit)

-- Lists of vertices.

-- a list is joined with one text more
pub join_with_byte-next : (b : ℕ) (text : List ℕ) (texts : List (List ℕ)) (new : List ℕ) → join_with_byte b
    ((text ∷ texts) ++ new ∷ []) ≡ join_with_byte b (text ∷ texts) ++ b ∷ new
join_with_byte-next b text [] new = refl
join_with_byte-next b text (next ∷ texts) new = grind (arith, join_with_byte-next b next texts new, append_assoc)

-- texts that are joined begin with the first of them
pub starts_with_text : (b c : ℕ) (cs : List ℕ) (texts : List (List ℕ)) → (more : List ℕ)
    × (join_with_byte b ((c ∷ cs) ∷ texts) ≡ c ∷ more)
starts_with_text b c cs [] = (cs, refl)
starts_with_text b c cs (next ∷ texts) = (cs ++ b ∷ join_with_byte b (next ∷ texts), refl)

-- vertices and one more
pub vertices_text-next : (s : ℕ) (points : List ℕ) (p : ℕ)
    → vertices_text s (points ++ p ∷ []) ≡ vertices_text s points ++ blank_after (vertices_text s points)
    ++ vertex_text s p
vertices_text-next s [] p = refl
vertices_text-next s (q ∷ points) p = grind (arith, starts_with_text, map-append, join_with_byte-next, append_assoc)

-- The points below n that pass a test, and the next one, p.
module _ (s n : ℕ) (test : ℕ → Bool) (text : List ℕ)
    (so_far : text ≡ vertices_text s (filter test (range_with_len 0 n))) where
  -- the points below a point, of which none from n on passes
  filter-skip : (k : ℕ) → ((q : ℕ) → n ≤ q → q < n + k → test q ≡ false) → filter test (range_with_len 0 (n + k))
      ≡ filter test (range_with_len 0 n)
  filter-skip zero none = ap (λ m. filter test (range_with_len 0 m)) (omega arith)
  filter-skip (suc k) none =
      ap (λ m. filter test (range_with_len 0 m)) (omega arith)
      ∙ ap (filter test) (range_with_len-next (n + k)) ∙ filter-append test (range_with_len 0 (n + k)) ((n + k) ∷ [])
      ∙ ap (λ b. filter test (range_with_len 0 (n + k)) ++ cond b ((n + k) ∷ []) [])
      (none (n + k) (omega arith) (omega arith))
      ∙ append-nil (filter test (range_with_len 0 (n + k)))
      ∙ filter-skip k (λ q from below. none q from (omega arith))

  -- the points below p, of which none from n on passes
  filter-upto : (p : ℕ) → n ≤ p → ((q : ℕ) → n ≤ q → q < p → test q ≡ false) → filter test (range_with_len 0 p)
      ≡ filter test (range_with_len 0 n)
  filter-upto p from none = grind (arith, filter-skip (p - n))

  -- p is the next point that passes, and its vertex was put
  pub vertices-passes : (p : ℕ) (new : List ℕ) → n ≤ p → ((q : ℕ) → n ≤ q → q < p → test q ≡ false) → test p ≡ true
      → new ≡ (text ++ blank_after text) ++ vertex_text s p → new ≡ vertices_text s (filter test
      (range_with_len 0 (p + 1)))
  vertices-passes p new from none passes put =
      grind (arith, vertices_text-next, range_with_len-next, filter-append, filter-upto)

  -- no point below the end passes any more
  pub vertices-end : (end : ℕ) → n ≤ end → ((q : ℕ) → n ≤ q → q < end → test q ≡ false)
      → text ≡ vertices_text s (filter test (range_with_len 0 end))
  vertices-end end from none = so_far ∙ ap (vertices_text s) (sym (filter-upto end from none))

-- the members below a point were put, which is no later than the end
pub record SoFar (s : ℕ) (points : sets.FinSet nat_cmp) (end next : ℕ) (text : List ℕ) : Type 0 where
  pub inside : next ≤ end
  pub text_is : text ≡ vertices_text s (filter (sets.contains points) (range_with_len 0 next))
