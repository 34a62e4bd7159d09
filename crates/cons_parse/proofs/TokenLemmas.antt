-- A step of the walk over the bytes of a text.
use Rattle.std.proofs.Common.{◌≡◌, ℕ, zero, suc, ◌+◌, ◌<◌, ◌≤◌, Bool, true, false, cond, nat_lt, List, [], ◌∷◌, ◌++◌}
use Rattle.std.proofs.Common.{length, take, drop, get_or, Option, Some, None, refl, ap, sym, ◌∙◌, arith}
use Rattle.std.specs.List.{prefix_len}
use Rattle.std.proofs.lemmas.Bool.{ltb-true, ltb-false, lt-ltb, le-ltb}
use Rattle.std.proofs.lemmas.List.{drop_more, drop-drop, drop_all, append-nil}
use Rattle.db_lex.specs.Lines.{is_blank}
use Rattle.cons_parse.specs.declared.token.Token.{Token}
use Rattle.cons_parse.specs.declared.token.Token.TheVariants.{Number, Called}
use Rattle.cons_parse.specs.Tokens.{tokens_after, first_token, token_at, first_sign, and_more, is_digit, is_letter}
use Rattle.cons_parse.specs.Tokens.{is_name_byte, value_of, name_of}
use Rattle.cons_parse.proofs.Fronts.{with_front, front_more}

-- the digits at the front, by the first byte
digits_if : (b : ℕ) (bs : List ℕ) (i : ℕ) (v : Bool)
    → ((k : ℕ) → k < prefix_len is_digit bs → is_digit (get_or bs k 0) ≡ true)
    → is_digit b ≡ v → i < cond v (1 + prefix_len is_digit bs) 0 → is_digit (get_or (b ∷ bs) i 0) ≡ true
digits_if b bs i false r e h = absurd (omega arith)
digits_if b bs zero true r e h = e
digits_if b bs (suc i) true r e h = r i (omega arith)

-- the digits at the front are digits
pub digits_all : (bs : List ℕ) (i : ℕ) → i < prefix_len is_digit bs → is_digit (get_or bs i 0) ≡ true
digits_all [] i h = absurd (omega arith)
digits_all (b ∷ bs) i h = digits_if b bs i (is_digit b) (digits_all bs) refl h

-- the first digit, and the ones after it
pub number_digits : (bs : List ℕ) (more : ℕ) → 0 < length bs → is_digit (get_or bs 0 0) ≡ true
    → more ≡ prefix_len is_digit (drop 1 bs) → (i : ℕ) → i < more + 1 → is_digit (get_or bs i 0) ≡ true
number_digits [] more l d e i h = absurd (omega arith)
number_digits (b ∷ bs) more l d e zero h = d
number_digits (b ∷ bs) more l d e (suc i) h = digits_all bs i (omega arith)

-- six digits behind the first are too many for a number
pub too_many : (more : ℕ) (b : Bool) → b ≡ nat_lt 5 more → b ≡ true → 6 ≤ more
too_many more b e h = let l = ltb-true 5 more (sym e ∙ h) in omega arith

-- else at most five stand behind the first
pub few_enough : (more : ℕ) (b : Bool) → b ≡ nat_lt 5 more → b ≡ false → more < 6
few_enough more b e h = let l = ltb-false 5 more (sym e ∙ h) in omega arith

-- seven digits or more begin no token
pub many_digits : (bs : List ℕ) (more : ℕ) → 0 < length bs → is_digit (get_or bs 0 0) ≡ true
    → more ≡ prefix_len is_digit (drop 1 bs) → 6 ≤ more → first_token bs ≡ None
unfolding token_at
many_digits [] more l d e h = absurd (omega arith)
many_digits (b ∷ bs) more l d e h = rw (d, lt-ltb 5 (prefix_len is_digit bs) (omega arith)) refl

-- at most six digits are a number
pub few_digits : (bs : List ℕ) (more v : ℕ) → 0 < length bs → is_digit (get_or bs 0 0) ≡ true
    → more ≡ prefix_len is_digit (drop 1 bs) → more < 6 → v ≡ value_of (take (more + 1) bs)
    → first_token bs ≡ Some (Number v, more)
unfolding token_at
few_digits [] more v l d e h f = absurd (omega arith)
few_digits (b ∷ bs) more v l d e h f = rw (d, le-ltb 5 (prefix_len is_digit bs) (omega arith), f, e) refl

-- a letter begins a name
pub letters : (bs : List ℕ) (more : ℕ) → 0 < length bs → is_digit (get_or bs 0 0) ≡ false
    → is_letter (get_or bs 0 0) ≡ true → more ≡ prefix_len is_name_byte (drop 1 bs)
    → first_token bs ≡ Some (Called (name_of (take (more + 1) bs)), more)
unfolding token_at
letters [] more l d t e = absurd (omega arith)
letters (b ∷ bs) more l d t e = rw (d, t, e) refl

-- what is no digit and no letter begins a sign
pub signs : (bs : List ℕ) → 0 < length bs → is_digit (get_or bs 0 0) ≡ false → is_letter (get_or bs 0 0) ≡ false
    → first_token bs ≡ first_sign bs
unfolding token_at
signs [] l d t = absurd (omega arith)
signs (b ∷ bs) l d t = rw (d, t) refl

-- the bytes of a token are passed over
pub tokens_skip : (n : ℕ) (bs : List ℕ) → tokens_after n bs ≡ tokens_after 0 (drop n bs)
unfolding tokens_after
tokens_skip zero bs = refl
tokens_skip (suc n) [] = refl
tokens_skip (suc n) (b ∷ bs) = tokens_skip n bs

-- a blank adds no token
blank_step : (b : ℕ) (bs : List ℕ) → is_blank b ≡ true → tokens_after 0 (b ∷ bs) ≡ tokens_after 0 bs
unfolding tokens_after
blank_step b bs e = rw e refl

-- the tokens from a place on begin with the token that stands there
token_step : (b : ℕ) (bs : List ℕ) (t : Token) (more : ℕ) → is_blank b ≡ false → first_token (b ∷ bs) ≡ Some (t, more)
    → tokens_after 0 (b ∷ bs) ≡ and_more t (tokens_after 0 (drop more bs))
unfolding tokens_after
token_step b bs t more e h = rw (e, h) (ap (and_more t) (tokens_skip more bs))

-- if no token begins, there are no tokens
none_step : (b : ℕ) (bs : List ℕ) → is_blank b ≡ false → first_token (b ∷ bs) ≡ None → tokens_after 0 (b ∷ bs) ≡ None
unfolding tokens_after
none_step b bs e h = rw (e, h) refl

-- over a blank
pub next_blank : (front : List Token) (text : List ℕ) (at : ℕ) (all : Option (List Token)) → at < length text
    → is_blank (get_or text at 0) ≡ true
    → with_front front (tokens_after 0 (drop at text)) ≡ all
    → with_front front (tokens_after 0 (drop (at + 1) text)) ≡ all
next_blank front text at all l e h = grind (arith, drop_more, blank_step)

-- over a token
pub next_token : (front : List Token) (text : List ℕ) (at : ℕ) (all : Option (List Token)) (t : Token) (more : ℕ)
    → at < length text → is_blank (get_or text at 0) ≡ false
    → first_token (drop at text) ≡ Some (t, more)
    → with_front front (tokens_after 0 (drop at text)) ≡ all
    → with_front (front ++ t ∷ []) (tokens_after 0 (drop (at + (1 + more)) text)) ≡ all
next_token front text at all t more l e f h =
    let d = drop_more text at 0 l in
    let s = token_step (get_or text at 0) (drop (at + 1) text) t more e (ap first_token (sym d) ∙ f) in
    let q : drop more (drop (at + 1) text) ≡ drop (at + (1 + more)) text =
    drop-drop more (at + 1) text ∙ ap (λ (n : ℕ). drop n text) (omega arith) in
    sym (front_more front t (tokens_after 0 (drop (at + (1 + more)) text)))
    ∙ (ap (λ (ts : List ℕ). with_front front (and_more t (tokens_after 0 ts))) (sym q)
    ∙ (ap (with_front front) (sym (ap (tokens_after 0) d ∙ s)) ∙ h))

-- no token stands here
pub no_token : (front : List Token) (text : List ℕ) (at : ℕ) (all : Option (List Token)) → at < length text
    → is_blank (get_or text at 0) ≡ false
    → first_token (drop at text) ≡ None
    → with_front front (tokens_after 0 (drop at text)) ≡ all → all ≡ None
no_token front text at all l e f h = grind (arith, drop_more, none_step)

-- at the end
pub last_token : (front : List Token) (text : List ℕ) (at : ℕ) (all : Option (List Token)) → length text ≤ at
    → with_front front (tokens_after 0 (drop at text)) ≡ all → all ≡ Some front
unfolding tokens_after
last_token front text at all l h = grind (arith, drop_all, append-nil)
