-- The rows of a flat table, and how it grows.
use Rattle.std.proofs.Common.{◌≡◌, ℕ, zero, suc, ◌+◌, ◌-◌, ◌*◌, ◌<◌, ◌≤◌, List, [], ◌∷◌, ◌++◌, length, take, drop}
use Rattle.std.proofs.Common.{get_or, refl, sym, ap, ◌∙◌, subst, arith, inl, inr, length-append, length-drop, add-one}
use Rattle.std.proofs.lemmas.Bool.{cases_lt}
use Rattle.std.proofs.lemmas.List.{length_push, get_or_push, get_or_append_left, take-append-le, drop-append-le}
use Rattle.std.proofs.lemmas.List.{take_all, append-nil, append_assoc, length-take-le, get_or-take, get_or-drop}
use Rattle.std.proofs.lemmas.List.{take_more, take-append-drop}
use Rattle.std.proofs.lemmas.Grind.{flat_map-append}
use Rattle.std.proofs.Math.Seq.{drop-append_seam, take-add}
use Rattle.dfa_core.specs.Automata.{Row, no_row, row_at, HaveFourTargets}
use Rattle.dfa_core.specs.Tables.{Flat, part_of, start_of, row_in, first_rows, rows_in, IsFlat, numbers_of}

-- the table of four lists
abbrev pub flat_with : List ℕ → List ℕ → List ℕ → List ℕ → Flat
flat_with targets starts numbers depths =
    record { targets = targets; starts = starts; numbers = numbers; depths = depths }

-- there is a row for each depth
length-first_rows : (t : Flat) (n : ℕ) → length (first_rows t n) ≡ n
length-first_rows t zero = refl
length-first_rows t (suc n) = omega (arith, length_push (first_rows t n) (row_in t n), length-first_rows t n)

-- a table has a row for each depth
pub length-rows : (t : Flat) → length (rows_in t) ≡ length t.depths
unfolding rows_in
length-rows t = length-first_rows t (length t.depths)

-- each of the first rows is the row with its number
first_rows-at : (t : Flat) (n r : ℕ) → r < n → row_at (first_rows t n) r ≡ row_in t r
first_rows-at t zero r low = absurd (omega arith)
first_rows-at t (suc n) r low =
    grind (arith, cases_lt, get_or_append_left, length-first_rows, first_rows-at t n r, get_or_push)

-- the row with a number is the one that the lists show at it
pub row_at-rows : (t : Flat) (r : ℕ) → r < length t.depths → row_at (rows_in t) r ≡ row_in t r
unfolding rows_in
row_at-rows t r low = first_rows-at t (length t.depths) r low

-- a part of a list is as before when more comes behind
part-old : (xs ys : List ℕ) (from to : ℕ) → from ≤ to → to ≤ length xs → part_of (xs ++ ys) from to ≡ part_of xs from to
part-old xs ys from to order low = grind (arith, drop-append-le, take-append-le, length-drop)

-- the part that comes behind
part-new : (xs ys : List ℕ) (from to : ℕ) → length xs ≡ from → from + length ys ≡ to → part_of (xs ++ ys) from to ≡ ys
part-new xs ys from to first last = grind (arith, drop-append_seam, take_all)

module _ (t : Flat) (ts ns : List ℕ) (d : ℕ) (good : IsFlat t) (four : length ts ≡ 4) where
  -- the lists with one row more
  abbrev more : Flat
  more = record {
    targets = t.targets ++ ts;
    starts = t.starts ++ length (t.numbers ++ ns) ∷ [];
    numbers = t.numbers ++ ns;
    depths = t.depths ++ d ∷ [];
  }

  -- the numbers of the rows before begin where they did
  old_start : (r : ℕ) → r ≤ length t.depths → start_of more r ≡ start_of t r
  old_start r low = get_or_append_left t.starts (length (t.numbers ++ ns) ∷ []) 0 r (omega (arith, good.starts))

  -- the numbers of the new row end at the end of all numbers
  new_start : start_of more (length t.depths + 1) ≡ length (t.numbers ++ ns)
  new_start = get_or_push t.starts (length (t.numbers ++ ns)) 0 (length t.depths + 1) good.starts

  -- the rows before are as they were
  old_row : (r : ℕ) → r < length t.depths → row_in more r ≡ row_in t r
  old_row r low = grind (arith, part-old, old_start, get_or_append_left)

  -- the row behind them has the new targets, numbers and depth
  new_row : row_in more (length t.depths) ≡ record { targets = ts; numbers = ns; depth = d }
  new_row = grind (arith, part-new, old_start, new_start, length-append, get_or_push)

  -- the first rows are as they were
  old_rows : (n : ℕ) → n ≤ length t.depths → first_rows more n ≡ first_rows t n
  old_rows zero low = refl
  old_rows (suc n) low = grind (arith, old_rows n, old_row)

  -- one row more comes behind the others
  pub rows_in-more : rows_in more ≡ rows_in t ++ (record { targets = ts; numbers = ns; depth = d }) ∷ []
  unfolding rows_in
  rows_in-more =
      let count : length more.depths ≡ suc (length t.depths) = omega (arith, length_push t.depths d) in
      ap (first_rows more) count ∙ ap (λ rows. rows ++ row_in more (length t.depths) ∷ [])
      (old_rows (length t.depths) (omega arith)) ∙ ap (λ row. first_rows t (length t.depths) ++ row ∷ []) new_row

  -- and the lists still belong together
  pub IsFlat-more : IsFlat more
  IsFlat-more = grind (arith, length_push, length-append, old_start, new_start, cases_lt)

module _ (old new : Flat) (ts mid first second : List ℕ) (d n : ℕ) (good : IsFlat old) (four : length ts ≡ 4)
    (targets : new.targets ≡ old.targets ++ ts)
    (starts : new.starts ≡ old.starts ++ n ∷ []) (count : n ≡ length new.numbers) (front : mid ≡ old.numbers ++ first)
    (numbers : new.numbers ≡ mid ++ second) (depths : new.depths ≡ old.depths ++ d ∷ []) where
  -- the numbers of the new row stand behind all others
  all_numbers : old.numbers ++ (first ++ second) ≡ new.numbers
  all_numbers = sym (append_assoc old.numbers first second) ∙ ap (λ xs. xs ++ second) (sym front) ∙ sym numbers

  -- the four lists that have grown are the table with one row more
  grown : more old ts (first ++ second) d good four ≡ new
  grown = grind (arith, all_numbers)

  -- where each list has grown by one row, that row comes behind the others, and the lists still belong together
  pub grown-rows : (rows_in new ≡ rows_in old ++ (record { targets = ts; numbers = first ++ second; depth = d }) ∷ [])
      × IsFlat new
  grown-rows = (
    ap rows_in (sym grown) ∙ rows_in-more old ts (first ++ second) d good four,
    subst IsFlat grown (IsFlat-more old ts (first ++ second) d good four),
  )

-- a table without rows
pub rows_in-none : (t : Flat) → t.depths ≡ [] → rows_in t ≡ []
unfolding rows_in
rows_in-none t none = ap (λ ds. first_rows t (length ds)) none

module _ (t : Flat) (good : IsFlat t) where
  -- the first n rows are the front of all
  take-first_rows : (n r : ℕ) → r ≤ n → take r (first_rows t n) ≡ first_rows t r
  take-first_rows zero r low = let none : r ≡ 0 = omega arith in ap (λ k. take k []) none ∙ sym (ap (first_rows t) none)
  take-first_rows (suc n) r low =
      elim (cases_lt r (suc n)) [
        | inl before ↦ take-append-le r (first_rows t n) (row_in t n ∷ []) (omega (arith, length-first_rows t n))
            ∙ take-first_rows n r (omega arith)
        | inr all ↦ let same : r ≡ suc n = omega arith in
            take_all r (first_rows t (suc n)) (omega (arith, length-first_rows t (suc n)))
            ∙ sym (ap (first_rows t) same)
      ]

  -- the numbers of the first rows are those before the start of the next
  first_numbers : (r : ℕ) → r ≤ length t.depths → numbers_of (first_rows t r) ≡ take (start_of t r) t.numbers
  first_numbers zero low = sym (ap (λ n. take n t.numbers) good.first)
  first_numbers (suc r) low =
      let here : start_of t r + (start_of t (r + 1) - start_of t r) ≡ start_of t (suc r) =
      omega (arith, good.ordered r (omega arith), ap (start_of t) (add-one r)) in
      flat_map-append (λ row. row.numbers) (first_rows t r) (row_in t r ∷ [])
      ∙ ap (λ ns. numbers_of (first_rows t r) ++ ns)
      (append-nil (part_of t.numbers (start_of t r) (start_of t (r + 1))))
      ∙ ap (λ ns. ns ++ part_of t.numbers (start_of t r) (start_of t (r + 1))) (first_numbers r (omega arith))
      ∙ sym (take-add (start_of t r) (start_of t (r + 1) - start_of t r) t.numbers)
      ∙ ap (λ n. take n t.numbers) here

  -- the list has the numbers of all rows
  pub numbers-all : t.numbers ≡ numbers_of (rows_in t)
  unfolding rows_in
  numbers-all = grind (arith, first_numbers, take_all)

  -- the numbers of a row begin behind those of the rows before
  pub start-counts : (r : ℕ) → r ≤ length t.depths → start_of t r ≡ length (numbers_of (take r (rows_in t)))
  unfolding rows_in
  start-counts r low = grind (arith, take-first_rows, first_numbers, length-take-le)

  -- a target is found by its row and its letter
  pub target-at : (r k : ℕ) → r < length t.depths → k < 4
      → get_or t.targets (4 * r + k) 0 ≡ get_or (row_at (rows_in t) r).targets k 0
  target-at r k low letter = grind (arith, row_at-rows, get_or-take, get_or-drop)

-- how many numbers the rows before row r have
abbrev pub begin_of : List Row → ℕ → ℕ
begin_of rows r = length (numbers_of (take r rows))

module _ (rows : List Row) (r : ℕ) (low : r < length rows) where
  -- the numbers of a row come behind those of the rows before
  numbers-next : numbers_of (take (r + 1) rows) ≡ numbers_of (take r rows) ++ (row_at rows r).numbers
  numbers-next = grind (arith, take_more rows r no_row low, flat_map-append, append-nil (row_at rows r).numbers)

  -- and before those of the rows behind it
  numbers-front : numbers_of rows ≡ numbers_of (take (r + 1) rows) ++ numbers_of (drop (r + 1) rows)
  numbers-front = grind (arith, take-append-drop (r + 1) rows, flat_map-append)

  -- so they end where their count and the begin say
  numbers-end : begin_of rows r + length (row_at rows r).numbers ≡ begin_of rows (r + 1)
  numbers-end = sym (ap length numbers-next ∙ length-append (numbers_of (take r rows)) (row_at rows r).numbers)

  -- no earlier than they begin
  pub numbers-ordered : begin_of rows r ≤ begin_of rows (r + 1)
  numbers-ordered = omega (arith, numbers-end)

  -- and within those of all rows
  pub numbers-within : begin_of rows (r + 1) ≤ length (numbers_of rows)
  numbers-within = grind (arith, numbers-front, length-append)

  -- the part of all numbers from where a row's begin to where they end is those of the row
  pub numbers-part : part_of (numbers_of rows) (begin_of rows r) (begin_of rows (r + 1)) ≡ (row_at rows r).numbers
  numbers-part = grind (arith, numbers-front, part-old, numbers-ordered, numbers-next, part-new, numbers-end)

-- a row of the table has a depth
pub row_below : (t : Flat) (rows : List Row) (r : ℕ) → rows_in t ≡ rows → r < length rows → r < length t.depths
row_below t rows r same low = omega (arith, ap length same, length-rows t)

-- each row of a table has four targets
pub four_targets : (t : Flat) → IsFlat t → HaveFourTargets (rows_in t)
four_targets t flat r low = grind (arith, length-rows, row_at-rows, length-take-le, length-drop)
