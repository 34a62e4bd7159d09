-- How a text is cut into tokens, by its first bytes.
use Rattle.std.proofs.Common.{◌≡◌, ℕ, zero, suc, true, false, List, [], ◌∷◌, ◌++◌, drop, refl, ap, ◌∙◌, arith}
use Rattle.std.proofs.lemmas.Bool.{ne_eqb, and_parts}
use Rattle.std.specs.List.{list_all}
use Rattle.sgf_rules.specs.Tokens.{Token, Open, Close, Semicolon, Stray, is_blank, is_letter, letters_at, value_at}
use Rattle.sgf_rules.specs.Tokens.{token_at, tokens_after, tokens_of}

-- the bytes of a token are passed over
pub tokens_skip : (n : ℕ) (bs : List ℕ) → tokens_after n bs ≡ tokens_of (drop n bs)
unfolding tokens_after
tokens_skip zero bs = refl
tokens_skip (suc n) [] = refl
tokens_skip (suc n) (b ∷ bs) = tokens_skip n bs

-- a text without bytes has no token
pub no_tokens : tokens_of [] ≡ []
unfolding tokens_after
no_tokens = refl

-- a blank adds no token
pub blank_step : (b : ℕ) (bs : List ℕ) → is_blank b ≡ true → tokens_of (b ∷ bs) ≡ tokens_of bs
unfolding tokens_after
blank_step b bs e = rw e refl

-- nor do blanks
pub blanks_step : (blanks bs : List ℕ) → list_all is_blank blanks ≡ true → tokens_of (blanks ++ bs) ≡ tokens_of bs
blanks_step [] bs e = refl
blanks_step (b ∷ blanks) bs e = grind (arith, and_parts, blank_step, blanks_step blanks bs)

-- a text that begins with no blank has the token that stands there, and then those of the bytes behind it
pub token_first : (b : ℕ) (bs : List ℕ) → is_blank b ≡ false
    → tokens_of (b ∷ bs) ≡ (token_at b bs).0 ∷ tokens_of (drop (token_at b bs).1 bs)
unfolding tokens_after
token_first b bs e = rw e (ap (λ ts. (token_at b bs).0 ∷ ts) (tokens_skip (token_at b bs).1 bs))

-- the same, where that token is known
pub token_step : (b : ℕ) (bs : List ℕ) (t : Token) (more : ℕ) → is_blank b ≡ false → token_at b bs ≡ (t, more)
    → tokens_of (b ∷ bs) ≡ t ∷ tokens_of (drop more bs)
token_step b bs t more e h =
    token_first b bs e ∙ ap (λ (x : Token × ℕ). x.0 ∷ tokens_of (drop x.1 bs)) h

-- `(` opens a tree
pub open_at : (b : ℕ) (bs : List ℕ) → b ≡ 40 → token_at b bs ≡ (Open, 0)
unfolding token_at
open_at b bs e = rw e refl

-- `)` closes one
pub close_at : (b : ℕ) (bs : List ℕ) → b ≡ 41 → token_at b bs ≡ (Close, 0)
unfolding token_at
close_at b bs e = rw e refl

-- `;` begins a node
pub semicolon_at : (b : ℕ) (bs : List ℕ) → b ≡ 59 → token_at b bs ≡ (Semicolon, 0)
unfolding token_at
semicolon_at b bs e = rw e refl

-- `[` begins a value
pub bracket_at : (b : ℕ) (bs : List ℕ) → b ≡ 91 → token_at b bs ≡ value_at bs
unfolding token_at
bracket_at b bs e = rw e refl

-- a letter begins letters
pub letter_at : (b : ℕ) (bs : List ℕ) → (b ≡ 40 → ⊥) → (b ≡ 41 → ⊥) → (b ≡ 59 → ⊥) → (b ≡ 91 → ⊥) → is_letter b ≡ true
    → token_at b bs ≡ letters_at b bs
unfolding token_at
letter_at b bs o c s v e = rw (ne_eqb b 40 o, ne_eqb b 41 c, ne_eqb b 59 s, ne_eqb b 91 v, e) refl

-- any other byte is a stray one
pub stray_at : (b : ℕ) (bs : List ℕ) → (b ≡ 40 → ⊥) → (b ≡ 41 → ⊥) → (b ≡ 59 → ⊥) → (b ≡ 91 → ⊥) → is_letter b ≡ false
    → token_at b bs ≡ (Stray, 0)
unfolding token_at
stray_at b bs o c s v e = rw (ne_eqb b 40 o, ne_eqb b 41 c, ne_eqb b 59 s, ne_eqb b 91 v, e) refl
