-- A value ends at the `]` behind the bytes that say it, and nowhere else.
use Rattle.std.proofs.Common.{◌≡◌, ℕ, suc, ◌<◌, Bool, true, false, ◌||◌, List, [], ◌∷◌, ◌++◌, length}
use Rattle.std.proofs.Common.{refl, ap, ◌∙◌, arith}
use Rattle.std.proofs.lemmas.Bool.{cases_Bool, eqb-true}
use Rattle.sgf_rules.specs.Tokens.{ends_value, is_backslash, value_len, said}
use Rattle.sgf_rules.specs.Bytes.{right_bracket, backslash}
use Rattle.sgf_rules.specs.Written.{Says, nothing, plain, taken}

-- a byte that says itself neither ends a value nor takes another
plain_byte : (x y : Bool) → (x || y) ≡ false → (x ≡ false) × (y ≡ false)
plain_byte true y e = absurd (cc)
plain_byte false y e = (refl, e)

-- the bytes that say a value stand before the `]` that ends it
pub value_ends : {bytes value : List ℕ} → Says bytes value → (rest : List ℕ)
    → value_len false (bytes ++ right_bracket ∷ rest) ≡ length bytes
value_ends nothing rest = refl
value_ends (plain b bytes value e s) rest = grind (arith, plain_byte, value_ends s rest)
value_ends (taken b bytes value s) rest = ap (λ (n : ℕ). suc (suc n)) (value_ends s rest)

-- and what they say is that value
pub value_said : {bytes value : List ℕ} → Says bytes value → said false bytes ≡ value
value_said nothing = refl
value_said (plain b bytes value e s) = grind (arith, plain_byte, value_said s)
value_said (taken b bytes value s) = ap (λ vs. b ∷ vs) (value_said s)

-- the bytes begin with some that say a value, and a `]` behind them
pub record BeginsWithValue (bytes : List ℕ) : Type 0 where
  pub inner : List ℕ
  pub value : List ℕ
  pub rest : List ℕ
  pub parts : bytes ≡ inner ++ right_bracket ∷ rest
  pub says : Says inner value

-- one byte more that says itself
plain_more : (b : ℕ) (bytes : List ℕ) → ends_value b ≡ false → is_backslash b ≡ false → BeginsWithValue bytes
    → BeginsWithValue (b ∷ bytes)
plain_more b bytes e f v = record {
  inner = b ∷ v.inner;
  value = b ∷ v.value;
  rest = v.rest;
  parts = ap (λ bs. b ∷ bs) v.parts;
  says = plain b v.inner v.value (rw (e, f) refl) v.says;
}

-- one byte more behind a backslash
taken_more : (a b : ℕ) (bytes : List ℕ) → a ≡ backslash → BeginsWithValue bytes → BeginsWithValue (a ∷ (b ∷ bytes))
taken_more a b bytes e v = record {
  inner = backslash ∷ (b ∷ v.inner);
  value = b ∷ v.value;
  rest = v.rest;
  parts = ap (λ (a : ℕ). a ∷ (b ∷ bytes)) e ∙ ap (λ bs. backslash ∷ (b ∷ bs)) v.parts;
  says = taken b v.inner v.value v.says;
}

-- what the length of a value says by its first byte
len_ends : (b : ℕ) (bs : List ℕ) → ends_value b ≡ false
    → value_len false (b ∷ bs) ≡ suc (value_len (is_backslash b) bs)
len_ends b bs e = rw e refl

-- a byte that says itself is one byte more
len_plain : (b : ℕ) (bs : List ℕ) → ends_value b ≡ false → is_backslash b ≡ false
    → value_len false (b ∷ bs) ≡ suc (value_len false bs)
len_plain b bs e f = rw (e, f) refl

-- a backslash and the byte behind it are two
len_taken : (b c : ℕ) (cs : List ℕ) → ends_value b ≡ false → is_backslash b ≡ true
    → value_len false (b ∷ (c ∷ cs)) ≡ suc (suc (value_len false cs))
len_taken b c cs e f = rw (e, f) refl

-- a value may end at once
value_empty : (b : ℕ) (bs : List ℕ) → ends_value b ≡ true → BeginsWithValue (b ∷ bs)
value_empty b bs e = record {
  inner = [];
  value = [];
  rest = bs;
  parts = ap (λ (a : ℕ). a ∷ bs) (eqb-true b right_bracket e);
  says = nothing;
}

-- where the length of a value is less than what is there, it has an end
pub value_begins : (bytes : List ℕ) → value_len false bytes < length bytes → BeginsWithValue bytes
value_begins [] h = absurd (omega arith)
value_begins (b ∷ []) h = grind (arith, cases_Bool, value_empty, len_ends)
value_begins (b ∷ (c ∷ cs)) h =
    grind (
      arith,
      cases_Bool,
      value_empty,
      taken_more,
      eqb-true,
      len_taken,
      plain_more,
      len_plain,
      value_begins cs,
      value_begins (c ∷ cs),
    )
