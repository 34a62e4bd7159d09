-- What is printed is read: the words of tokens, and a text of words.
use Rattle.std.proofs.Common.{◌≡◌, ℕ, ◌-◌, ◌/◌, ◌%◌, ◌<◌, Bool, true, false, not, ◌&&◌}
use Rattle.std.proofs.Common.{List, [], ◌∷◌, ◌++◌, Some, refl, sym, subst, arith, codes, decimal, slice_index}
use Rattle.std.specs.List.{join_with_byte, AllByRecursion, list_all}
use Rattle.std.specs.Str.{bytes_eq, str_to_ascii_lowercase}
use Rattle.std.proofs.Math.Nat.{div-lt_iff_lt-mul}
use Rattle.std.proofs.lemmas.Bool.{cases_lt, and_parts, and_from, not-true}
use Rattle.std.proofs.lemmas.Fmt.{decimal_digit, decimal_step}
use Rattle.go_rules.specs.Board.{IsSize}
use Rattle.go_rules.proofs.Counts.{any_below_none}
use Rattle.go_rules.proofs.Tests.{and-false}
use Rattle.vertices.specs.Words.{is_kept, has_bytes, blank}
use Rattle.vertices.specs.RawWords.{is_parting}
use Rattle.vertices.specs.Vertices.{column_letters, vertex_text}
use Rattle.vertices.proofs.VertexLemmas.{vertex_read}
use Rattle.vertices.proofs.WordLemmas.{parts_of, parts_of-parting, parts_of-other}
use Rattle.read_rules.specs.declared.question.Spot.{Spot}
use Rattle.read_rules.specs.declared.question.Spot.TheVariants.{At, Pass}
use Rattle.read_rules.specs.GoodMoves.{IsOnBoard}
use Rattle.read_proof.specs.declared.token.Token.TheVariants.{Settled, Move, Each}
use Rattle.read_proof.specs.Tokens.{Word, words_in, token_of}
use Rattle.read_proof.specs.FirstProof.{move_word}

-- `.` is read
pub said_settled : (s : ℕ) → Some Settled ≡ token_of s (codes ".")
unfolding token_of
said_settled s = refl

-- `*` is read
pub said_each : (s : ℕ) → Some Each ≡ token_of s (codes "*")
unfolding token_of
said_each s = refl

-- nor does the number of a row
no_pass : (n : ℕ) → n < 100 → bytes_eq (str_to_ascii_lowercase (decimal n)) (codes "ass") ≡ false
no_pass n h = grind (arith, cases_lt, codes, decimal_digit, any_below_none, decimal_step)

-- a move that is printed is read
pub said_move : (s size : ℕ) → IsSize s → (spot : Spot) → size ≡ s → IsOnBoard s spot
    → Some (Move spot) ≡ token_of size (move_word size spot)
unfolding token_of
said_move s size is_size Pass e on = refl
said_move s size is_size (At p) e on =
    grind (arith, div-lt_iff_lt-mul, codes, and-false, slice_index, decimal, any_below_none, no_pass, vertex_read)

-- the byte stands in words as it is: it is kept, and it parts no words
abbrev is_plain_byte : ℕ → Bool
is_plain_byte b = is_kept b && not (is_parting b)

-- the word has bytes, and these alone
abbrev pub is_word : Word → Bool
is_word word = has_bytes word && list_all is_plain_byte word

-- plain bytes are one part
parts_of-end : (word : Word) → list_all is_plain_byte word ≡ true → parts_of word ≡ word ∷ []
parts_of-end [] h = refl
parts_of-end (b ∷ bs) h = grind (arith, and_parts, parts_of-other, not-true, parts_of-end bs)

-- plain bytes before a blank are the first part
parts_of-front : (word : Word) (rest : List ℕ) → list_all is_plain_byte word ≡ true
    → parts_of (word ++ (blank ∷ rest)) ≡ word ∷ parts_of rest
parts_of-front [] rest h = parts_of-parting blank rest refl
parts_of-front (b ∷ bs) rest h = grind (arith, and_parts, parts_of-other, not-true, parts_of-front bs rest)

-- words with one blank between each two are read as these words
pub words_read : (words : List Word) → AllByRecursion (λ w. is_word w ≡ true) words
    → words_in (join_with_byte blank words) ≡ words
words_read [] all = refl
words_read (word ∷ []) all =
    grind (arith, and_parts (has_bytes word) (list_all is_plain_byte word) all.0, parts_of-end word)
words_read (word ∷ (next ∷ more)) all =
    grind (arith, parts_of-front word (join_with_byte blank (next ∷ more)), words_read (next ∷ more) all.1)

-- each letter of a column is a plain byte
letter_plain : (c : ℕ) → c < 25 → is_plain_byte (slice_index column_letters c) ≡ true
letter_plain c h = grind (arith, slice_index, any_below_none)

-- each number of a row is of plain bytes
digits_plain : (n : ℕ) → n < 100 → list_all is_plain_byte (decimal n) ≡ true
digits_plain n h = grind (arith, cases_lt, decimal_digit, decimal_step, any_below_none)

-- a move on the board is printed as a word
pub move_is_word : (s size : ℕ) → IsSize s → (spot : Spot) → size ≡ s → IsOnBoard s spot
    → is_word (move_word size spot) ≡ true
move_is_word s size is_size Pass e on = refl
move_is_word s size is_size (At p) e on =
    let at_least = is_size.at_least in
    let at_most = is_size.at_most in
    let some : 0 < s = omega arith in
    let column : p % s < s = omega arith in
    subst (λ n. is_word (vertex_text n p) ≡ true) (sym e)
    (and_from (is_plain_byte (slice_index column_letters (p % s))) (list_all is_plain_byte (decimal (s - p / s)))
    (letter_plain (p % s) (omega arith)) (digits_plain (s - p / s) (omega arith)))
