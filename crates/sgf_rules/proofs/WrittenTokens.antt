-- The token at the front of a text is the one that its bytes write.
use Rattle.std.proofs.Common.{◌≡◌, ℕ, suc, ◌+◌, ◌≤◌, Bool, true, false, List, [], ◌∷◌, ◌++◌, length}
use Rattle.std.proofs.Common.{take, refl, sym, ap, subst, ◌∙◌, arith, inl, inr, nat_lt, append_assoc, length-append}
use Rattle.std.proofs.Math.Seq.{take-append_seam, take-append-add, drop-append_seam, drop-append-add}
use Rattle.std.proofs.lemmas.Bool.{cases_Bool, cases_eq, and_parts, lt-ltb, ltb-true}
use Rattle.std.proofs.lemmas.Bool.Decides.{nat_tests}
use Rattle.std.specs.List.{list_all, prefix_len}
use Rattle.sgf_rules.specs.Tokens.{is_blank, is_letter}
use Rattle.sgf_rules.specs.Bytes.{left_bracket, right_bracket}
use Rattle.sgf_rules.specs.Tokens.{value_len}
use Rattle.sgf_rules.specs.Tokens.{Token, Open, Close, Semicolon, Name, Value, Stray, letters_token, letters_at}
use Rattle.sgf_rules.specs.Tokens.{value_at, token_at, tokens_of}
use Rattle.sgf_rules.specs.Written.{Says, IsName, IsBracketed, Writes}
use Rattle.sgf_rules.proofs.CutTokens.{token_step, open_at, close_at, semicolon_at, bracket_at, letter_at, stray_at}
use Rattle.sgf_rules.proofs.WrittenValues.{BeginsWithValue, value_ends, value_said, value_begins}

-- a letter comes late among the bytes
letter_late : (b : ℕ) → is_letter b ≡ true → 65 ≤ b
letter_late b e = grind (arith, nat_tests)

-- a byte that comes so late is no blank
late_no_blank : (b : ℕ) → 65 ≤ b → is_blank b ≡ false
late_no_blank b h = grind (arith, nat_tests)

-- a blank is no letter
pub blank_no_letter : (b : ℕ) → is_blank b ≡ true → is_letter b ≡ false
blank_no_letter b e = grind (arith, nat_tests)

-- `[` is no letter
no_letter : is_letter left_bracket ≡ false
no_letter = refl

-- a letter is another byte than one that is no letter
letter_other : (b k : ℕ) → is_letter b ≡ true → is_letter k ≡ false → b ≡ k → ⊥
letter_other b k e f h = absurd (cc (ap is_letter h))

-- the text begins with a letter
abbrev pub begins_with_letter : List ℕ → Bool
begins_with_letter [] = false
begins_with_letter (b ∷ bs) = is_letter b

-- letters that no letter follows are the letters at the front
letters_counted : (letters rest : List ℕ) → list_all is_letter letters ≡ true → begins_with_letter rest ≡ false
    → prefix_len is_letter (letters ++ rest) ≡ length letters
letters_counted [] [] e f = refl
letters_counted [] (b ∷ bs) e f = rw f refl
letters_counted (b ∷ ls) rest e f = grind (arith, and_parts, letters_counted ls rest)

-- the letters at the front are letters
letters_front : (bs : List ℕ) → list_all is_letter (take (prefix_len is_letter bs) bs) ≡ true
letters_front [] = refl
letters_front (b ∷ bs) = elim (cases_Bool (is_letter b)) [
  | inl e ↦
      let one : 1 + prefix_len is_letter bs ≡ suc (prefix_len is_letter bs) = omega arith in
      rw (e, one, e) (letters_front bs)
  | inr e ↦ rw e refl
]

-- the token of letters with a capital is their name
letters_named : (name letters : List ℕ) → IsName name letters → letters_token letters ≡ Name name
letters_named name letters h = rw h.some_capital (ap (λ n. Name n) (sym h.capitals))

-- a name that no letter follows is the first token
name_first : (name letters rest : List ℕ) → IsName name letters → begins_with_letter rest ≡ false
    → tokens_of (letters ++ rest) ≡ Name name ∷ tokens_of rest
name_first name [] rest h f = absurd (cc (h.some_capital))
name_first name (b ∷ ls) rest h f =
    grind (
      arith,
      letters_counted ls rest,
      letter_other b,
      token_step b (ls ++ rest) (Name name) (length ls),
      late_no_blank b,
      letter_late b,
      letter_at b (ls ++ rest),
      take-append_seam ls rest,
      letters_named name (b ∷ ls) h,
      drop-append_seam ls rest,
      and_parts,
    )

-- the value that bytes say stands before the `]` behind them
value_shown : (inner value rest : List ℕ) → Says inner value
    → value_at (inner ++ right_bracket ∷ rest) ≡ (Value value, length inner + 1)
value_shown inner value rest s = grind (arith, length-append, value_ends, lt-ltb, take-append_seam, value_said)

-- a value is the first token
value_first : (value bytes rest : List ℕ) → IsBracketed value bytes
    → tokens_of (bytes ++ rest) ≡ Value value ∷ tokens_of rest
value_first value bytes rest h =
    ap (λ (bs : List ℕ). tokens_of (bs ++ rest)) h.brackets
    ∙ (ap (λ (bs : List ℕ). tokens_of (left_bracket ∷ bs)) (append_assoc h.inner (right_bracket ∷ []) rest)
    ∙ (token_step left_bracket (h.inner ++ right_bracket ∷ rest) (Value value) (length h.inner + 1) refl
    (bracket_at left_bracket (h.inner ++ right_bracket ∷ rest) refl ∙ value_shown h.inner value rest h.says)
    ∙ ap (λ (bs : List ℕ). Value value ∷ tokens_of bs) (drop-append-add h.inner (right_bracket ∷ rest) 1)))

-- what follows a token lets it end
abbrev pub Ends : Token → List ℕ → Type 0
Ends Open rest = Unit {0}
Ends Close rest = Unit {0}
Ends Semicolon rest = Unit {0}
Ends (Name name) rest = begins_with_letter rest ≡ false
Ends (Value value) rest = Unit {0}
Ends Stray rest = Unit {0}

-- the token that the front of a text writes is the text's first
pub token_read : (t : Token) (piece rest : List ℕ) → Writes piece t → Ends t rest
    → tokens_of (piece ++ rest) ≡ t ∷ tokens_of rest
token_read Open piece rest e ends =
    ap (λ bs. tokens_of (bs ++ rest)) e ∙ token_step 40 rest Open 0 refl (open_at 40 rest refl)
token_read Close piece rest e ends =
    ap (λ bs. tokens_of (bs ++ rest)) e ∙ token_step 41 rest Close 0 refl (close_at 41 rest refl)
token_read Semicolon piece rest e ends =
    ap (λ bs. tokens_of (bs ++ rest)) e ∙ token_step 59 rest Semicolon 0 refl (semicolon_at 59 rest refl)
token_read (Name name) piece rest h ends = name_first name piece rest h ends
token_read (Value value) piece rest h ends = value_first value piece rest h
token_read Stray piece rest h ends = absurd h

-- the token is a stray one
abbrev pub is_stray : Token → Bool
is_stray Stray = true
is_stray Open = false
is_stray Close = false
is_stray Semicolon = false
is_stray (Name name) = false
is_stray (Value value) = false

-- letters with a capital write their name
letters_written : (b : ℕ) (bs : List ℕ) → is_letter b ≡ true → is_stray (letters_at b bs).0 ≡ false
    → Writes (b ∷ take (letters_at b bs).1 bs) (letters_at b bs).0
letters_written b bs e h = grind (arith, cases_Bool, letters_front)

-- the token and the bytes at the front of a text are those of the value with which it begins
value_found : (bs : List ℕ) (v : BeginsWithValue bs) → value_at bs ≡ (Value v.value, length v.inner + 1)
value_found bs v = ap value_at v.parts ∙ value_shown v.inner v.value v.rest v.says

-- the bytes of a value and its `]`, behind a `[`, write it
brackets_written : (bs : List ℕ) (v : BeginsWithValue bs)
    → Writes (left_bracket ∷ take (length v.inner + 1) bs) (Value v.value)
brackets_written bs v = grind (arith, take-append-add)

-- brackets and the bytes that say a value write it
value_written : (bs : List ℕ) → is_stray (value_at bs).0 ≡ false
    → Writes (left_bracket ∷ take (value_at bs).1 bs) (value_at bs).0
value_written bs h = elim (cases_Bool (nat_lt (value_len false bs) (length bs))) [
  | inl ended ↦
      let v = value_begins bs (ltb-true (value_len false bs) (length bs) ended) in
      subst (λ (x : Token × ℕ). Writes (left_bracket ∷ take x.1 bs) x.0) (sym (value_found bs v))
      (brackets_written bs v)
  | inr open_end ↦ let stray : is_stray (value_at bs).0 ≡ true = rw open_end refl in absurd (cc (stray, h))
]

-- what the bytes from one on begin with is written by those that belong to it
written_as : (b : ℕ) (bs : List ℕ) (x : Token × ℕ) → token_at b bs ≡ x → Writes (b ∷ take x.1 bs) x.0
    → Writes (b ∷ take (token_at b bs).1 bs) (token_at b bs).0
written_as b bs x e w = subst (λ (x : Token × ℕ). Writes (b ∷ take x.1 bs) x.0) (sym e) w

-- what `[` begins is written by it and the bytes of a value
bracket_written : (b : ℕ) (bs : List ℕ) → b ≡ 91 → is_stray (token_at b bs).0 ≡ false
    → Writes (b ∷ take (token_at b bs).1 bs) (token_at b bs).0
bracket_written b bs e h = grind (arith, bracket_at, written_as, value_written)

-- what none of the four signs begins is written by letters
unsigned_written : (b : ℕ) (bs : List ℕ) → (b ≡ 40 → ⊥) → (b ≡ 41 → ⊥) → (b ≡ 59 → ⊥) → (b ≡ 91 → ⊥)
    → is_stray (token_at b bs).0 ≡ false → Writes (b ∷ take (token_at b bs).1 bs) (token_at b bs).0
unsigned_written b bs o c s v h = grind (arith, cases_Bool, letter_at, written_as, letters_written, stray_at)

-- a byte is one of the four signs, a letter, or none of them
pub token_written : (b : ℕ) (bs : List ℕ) → is_stray (token_at b bs).0 ≡ false
    → Writes (b ∷ take (token_at b bs).1 bs) (token_at b bs).0
token_written b bs h =
    grind (arith, cases_eq, written_as, open_at, close_at, semicolon_at, bracket_written, unsigned_written)
