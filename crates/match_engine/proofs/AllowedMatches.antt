-- Keeping the matches that are allowed, in one list.
use Rattle.std.proofs.Common.{◌≡◌, ℕ, ◌+◌, ◌<◌, ◌≤◌, Bool, true, false, cond, List, [], ◌∷◌, ◌++◌, length, get_or, take}
use Rattle.std.proofs.Common.{drop, set, filter, Contains, sym, ap, ◌∙◌, arith}
use Rattle.std.proofs.lemmas.List.{take_more, take_more_set, drop-drop, drop-set-lt, append-nil, length-set}
use Rattle.std.proofs.lemmas.List.{get_or-drop}
use Rattle.std.proofs.lemmas.List.Elements.{filter-append}
use Rattle.match_rules.specs.declared.found.Match.{Match}

-- of the first n elements of a list the first k places have those that pass the test, and the rest of the list is as it
-- was
pub record KeepsFirst (test : Match → Bool) (old now : List Match) (k n : ℕ) : Type 0 where
  pub fewer : k ≤ n
  pub few : n ≤ length old
  pub same_length : length now ≡ length old
  pub kept : take k now ≡ filter test (take n old)
  pub rest : drop n now ≡ drop n old

module _ (test : Match → Bool) (old now : List Match) (k n : ℕ) (z : Match) (before : KeepsFirst test old now k n)
    (low : n < length old) (read : z ≡ get_or now n z) where
  -- the element that is read is the one of before
  pub read_old : z ≡ get_or old n z
  read_old = grind (arith, get_or-drop n now 0 z, get_or-drop n old 0 z)

  -- one element more is kept where it passes
  one_more : filter test (take (n + 1) old) ≡ filter test (take n old) ++ cond (test z) (z ∷ []) []
  one_more = grind (arith, take_more old n z low, read_old, filter-append test (take n old))

  -- the rest loses its first
  rest_later : (xs : List Match) → drop n xs ≡ drop n old → drop (n + 1) xs ≡ drop (n + 1) old
  rest_later xs e = sym (drop-drop 1 n xs) ∙ ap (drop 1) e ∙ drop-drop 1 n old

  -- one that fails is passed over
  pub passed_over : test z ≡ false → KeepsFirst test old now k (n + 1)
  passed_over fails = grind (arith, append-nil, one_more, rest_later)

  -- whichever it does
  pub kept_next : (b : Bool) (after : List Match) (j : ℕ) → b ≡ test z → after ≡ cond b (set now k z) now
      → j ≡ cond b (k + 1) k → KeepsFirst test old after j (n + 1)
  kept_next true after j is now_is count = grind (arith, length-set, take_more_set, one_more, drop-set-lt, rest_later)
  kept_next false after j is now_is count = grind (arith, passed_over)

-- the element that is read next is one of the list
pub kept_there : (test : Match → Bool) (old now : List Match) (k n : ℕ) (z : Match) → KeepsFirst test old now k n
    → n < length old → z ≡ get_or now n z → Contains old z
kept_there test old now k n z before low read = grind (arith, read_old test old now k n z before low read)
