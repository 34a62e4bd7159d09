-- Lists whose elements are changed and filtered in place, each written before it is known whether it stays.
use Rattle.std.proofs.Common.{◌≡◌, ℕ, ◌+◌, ◌<◌, ◌≤◌, ◌++◌, [], ◌∷◌, Bool, true, false, cond, List, length, map, filter}
use Rattle.std.proofs.Common.{get_or, take, drop, sym, ap, ◌∙◌, arith}
use Rattle.std.proofs.Math.ListN.{set}
use mir.Val.{bool_byte}
use Rattle.std.proofs.lemmas.List.{append-nil, length-set, map_more, take_more_set, take-set-le, drop_more, drop-set-lt}
use Rattle.std.proofs.lemmas.List.Elements.{filter-append}
use Rattle.std.proofs.lemmas.List.Filters.{FiltersInPlace, FiltersInPlace-more_no, FiltersInPlace-more_set}

-- of the first i elements of xs those that pass p when f has changed them stand in the first k places of ys, changed
pub record GathersInFront {X : Type 0} (f : X → X) (p : X → Bool) (xs ys : List X) (k i : ℕ) : Type 0 where
  pub front : take k ys ≡ filter p (map f (take i xs))
  pub behind : k ≤ i

-- the chosen images of the first i entries stand in front of a list that began as xs, and from i on it is as it was
pub record MapsInPlace {X : Type 0} (f : X → X) (p : X → Bool) (xs ys : List X) (k i : ℕ) : Type 0 where
  pub gathered : GathersInFront f p xs ys k i
  pub rest : drop i ys ≡ drop i xs
  pub long : length ys ≡ length xs

-- where two lists are the same from i on their elements at i are
pub same_next : {X : Type 0} (xs ys : List X) (i : ℕ) (d : X) → drop i ys ≡ drop i xs → length ys ≡ length xs
    → i < length xs → get_or ys i d ≡ get_or xs i d
same_next xs ys i d rest long low = grind (arith, drop_more)

-- two lists that are the same from i on are the same behind i, also if an element before is written
pub same_more : {X : Type 0} (xs ys : List X) (k i : ℕ) (x : X) → drop i ys ≡ drop i xs → length ys ≡ length xs
    → i < length xs → k ≤ i → drop (i + 1) (set ys k x) ≡ drop (i + 1) xs
same_more xs ys k i x rest long low behind = drop-set-lt (i + 1) ys k x (omega (arith, behind))
    ∙ ap (drop 1) (sym (drop_more ys i x (omega (arith, low, long))) ∙ rest ∙ drop_more xs i x low)

-- one element more is counted or not
pub counted : (b : Bool) (k i : ℕ) → k ≤ i → k + bool_byte b ≤ i + 1
counted true k i behind = omega (arith, behind)
counted false k i behind = omega (arith, behind)

module _ {X : Type 0} {f : X → X} {p : X → Bool} {xs ys : List X} {k i : ℕ} {x : X} (d : X) (low : i < length xs)
    (is : x ≡ f (get_or xs i d)) where
  -- what stays of one element more
  front_more : {b : Bool} → GathersInFront f p xs ys k i → p x ≡ b
      → filter p (map f (take (i + 1) xs)) ≡ take k ys ++ cond b (x ∷ []) []
  front_more {b} h test = grind (arith, map_more f xs i d low, filter-append p (map f (take i xs)))

  -- one element more was written, and is counted where it passes
  pub GathersInFront-more : (b : Bool) → GathersInFront f p xs ys k i → k < length ys → p x ≡ b
      → GathersInFront f p xs (set ys k x) (k + bool_byte b) (i + 1)
  GathersInFront-more true h room passes = grind (arith, take_more_set ys k x room, front_more h passes)
  GathersInFront-more false h room fails =
      grind (arith, take-set-le k ys k x, front_more h fails, append-nil (take k ys), bool_byte false)

  -- a list with one element more written is mapped in place so far
  pub MapsInPlace-more : {n : ℕ} → MapsInPlace f p xs ys k i → GathersInFront f p xs (set ys k x) n (i + 1)
      → MapsInPlace f p xs (set ys k x) n (i + 1)
  MapsInPlace-more h gathered = grind (arith, same_more, length-set)

-- an element that fails was written, and the next one will be written over it
pub FiltersInPlace-over : {X : Type 0} {p : X → Bool} {xs ys : List X} {k i : ℕ} {x : X}
    → FiltersInPlace p xs ys k i → i < length ys → p x ≡ false → x ≡ get_or ys i x
    → FiltersInPlace p xs (set ys k x) k (i + 1)
FiltersInPlace-over {X} {p} {xs} {ys} {k} {i} {x} h low fails is =
    let passed = FiltersInPlace-more_no h low fails is in
    record {
      front = take-set-le k ys k x (omega arith) ∙ passed.front;
      rest = drop-set-lt (i + 1) ys k x (omega (arith, h.behind)) ∙ passed.rest;
      behind = omega (arith, h.behind);
      within = passed.within;
      long = length-set ys k x ∙ h.long;
    }

-- one element more was written, and is counted where it passes
pub FiltersInPlace-count : {X : Type 0} {p : X → Bool} {xs ys : List X} {k i : ℕ} {x : X} (b : Bool)
    → FiltersInPlace p xs ys k i → i < length ys → p x ≡ b → x ≡ get_or ys i x
    → FiltersInPlace p xs (set ys k x) (k + bool_byte b) (i + 1)
FiltersInPlace-count true h low passes is = FiltersInPlace-more_set h low passes is
FiltersInPlace-count {X} {p} {xs} {ys} {k} {i} {x} false h low fails is =
    grind (arith, FiltersInPlace-over h low fails is, bool_byte)
