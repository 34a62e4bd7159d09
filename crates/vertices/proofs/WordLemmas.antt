-- How the words of a text are found from its front.
use Rattle.std.proofs.Common.{◌≡◌, ℕ, suc, ◌-◌, ◌<◌, ◌≤◌, Bool, true, false, eqb, not, List, [], ◌∷◌, length}
use Rattle.std.proofs.Common.{take, drop, get_or, refl, sym, ap, ◌∙◌, arith, length-drop}
use Rattle.std.specs.List.{slice_split, onto_first, filter, position_or_len}
use Rattle.std.proofs.lemmas.List.{take_rest, get_or-drop}
use Rattle.std.proofs.lemmas.Bool.{cases_Bool, both_ways, or_right, or_parts}
use Rattle.std.proofs.lemmas.List.Sums.{position_or_len_is}
use Rattle.std.proofs.lemmas.Bool.Decides.{nat_tests}
use Rattle.vertices.specs.Words.{is_kept, kept, plain, has_bytes, words_of, blank}
use Rattle.vertices.specs.RawWords.{is_parting, is_skipped}

-- the test for a blank at which a text is cut
abbrev pub is_blank : ℕ → Bool
is_blank b = eqb b blank

-- the parts of a text between its blanks
abbrev pub parts_of : List ℕ → List (List ℕ)
parts_of text = slice_split is_blank (plain text)

-- before a byte that parts words stands an empty part
pub parts_of-parting : (b : ℕ) (bs : List ℕ) → is_parting b ≡ true → parts_of (b ∷ bs) ≡ [] ∷ parts_of bs
parts_of-parting b bs h = grind (arith, nat_tests)

-- another byte stands at the front of the first part
pub parts_of-other : (b : ℕ) (bs : List ℕ) → is_kept b ≡ true → is_parting b ≡ false
    → parts_of (b ∷ bs) ≡ onto_first b (parts_of bs)
parts_of-other b bs k h = grind (arith, nat_tests)

-- a byte that is skipped changes no word
pub words_of-skipped : (b : ℕ) (bs : List ℕ) → is_skipped b ≡ true → words_of (plain (b ∷ bs)) ≡ words_of (plain bs)
words_of-skipped b bs h = grind (arith, cases_Bool, parts_of-parting, both_ways)

-- how many bytes stand before the first one that parts words
abbrev front_len : List ℕ → ℕ
front_len rest = position_or_len is_parting rest

-- another first byte is one of those before it
front_len-other : (b : ℕ) (bs : List ℕ) → is_parting b ≡ false → front_len (b ∷ bs) ≡ suc (front_len bs)
front_len-other b bs n = rw n (omega arith)

-- the first part of a text is what stands before the first byte that parts words, without the bytes that are dropped
record Front (rest : List ℕ) : Type 0 where
  tail : List (List ℕ)
  parts : parts_of rest ≡ kept (take (front_len rest) rest) ∷ tail
  words : filter has_bytes tail ≡ words_of (plain (drop (front_len rest) rest))

-- the first part is empty if the first byte parts words
front_parting : (b : ℕ) (bs : List ℕ) → is_parting b ≡ true → Front (b ∷ bs)
front_parting b bs p =
    grind (arith, parts_of-parting b bs p, words_of-skipped b bs, or_right (not (is_kept b)) true refl)

-- a first byte that is kept stands in the first part
front_kept : (b : ℕ) (bs : List ℕ) → is_kept b ≡ true → is_parting b ≡ false → Front bs → Front (b ∷ bs)
front_kept b bs k n f = grind (arith, parts_of-other, front_len-other)

-- each text has its first part
front_of : (rest : List ℕ) → Front rest
front_of [] = record { tail = []; parts = refl; words = refl }
front_of (b ∷ bs) = grind (arith, cases_Bool, front_parting, front_kept, front_of bs, front_len-other)

-- the first word of a text that begins with one, and what follows it
first_word : (rest : List ℕ) → 0 < length rest → is_skipped (get_or rest 0 0) ≡ false
    → words_of (plain rest) ≡ kept (take (front_len rest) rest) ∷ words_of (plain (drop (front_len rest) rest))
first_word [] some begins = absurd (omega arith)
first_word (b ∷ bs) some begins = grind (arith, or_parts, front_of (b ∷ bs), front_len-other)

-- the first word of the bytes from a place on, and the words of what follows it
pub next_from : (text : List ℕ) (i n : ℕ) → words_of (plain (drop i text)) ≡ words_of (plain text)
    → (i < length text → is_skipped (get_or text i 0) ≡ false)
    → 0 < length (take (length text - i) (drop i text))
    → n ≡ position_or_len is_parting (take (length text - i) (drop i text))
    → words_of (plain text) ≡ kept (take n (take (length text - i) (drop i text)))
    ∷ words_of (plain (take (length (take (length text - i) (drop i text)) - n)
    (drop n (take (length text - i) (drop i text)))))
next_from text i n words begins some first =
    let rest = take (length text - i) (drop i text) in
    let same : rest ≡ drop i text = take_rest text i in
    let within : i < length text = (let l = ap length same in let d = length-drop i text in omega (arith, l, d)) in
    let here : get_or rest 0 0 ≡ get_or text i 0 = ap (λ l. get_or l 0 0) same ∙ get_or-drop i text 0 0
    ∙ ap (λ k. get_or text k 0) (omega arith) in
    sym words ∙ ap (λ l. words_of (plain l)) (sym same)
    ∙ first_word rest some (ap is_skipped here ∙ begins within)
    ∙ ap (λ m. kept (take m rest) ∷ words_of (plain (drop m rest))) (sym first)
    ∙ ap (λ l. kept (take n rest) ∷ words_of (plain l)) (sym (take_rest rest n))

-- the first byte that passes is found where none before it does
pub found_first : (p : ℕ → Bool) (xs : List ℕ) (i : ℕ) → i < length xs → ((k : ℕ) → k < i → p (get_or xs k 0) ≡ false)
    → p (get_or xs i 0) ≡ true → i ≡ position_or_len p xs
found_first p xs i within none here = sym (position_or_len_is p xs i 0 (omega arith) none (λ _. here))

-- if no byte passes none is found
pub found_none : (p : ℕ → Bool) (xs : List ℕ) (i : ℕ) → length xs ≤ i → ((k : ℕ) → k < i → p (get_or xs k 0) ≡ false)
    → length xs ≡ position_or_len p xs
found_none p xs i past none = grind (arith, position_or_len_is p xs (length xs) 0)
