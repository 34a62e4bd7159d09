-- The tokens from an index on.
use Rattle.std.proofs.Common.{◌≡◌, ℕ, suc, ◌+◌, ◌-◌, ◌<◌, ◌≤◌, true, false, List, [], ◌∷◌, length, take, drop}
use Rattle.std.proofs.Common.{sym, ap, ◌∙◌, arith, get_or}
use Rattle.std.proofs.lemmas.List.{drop_more, drop-drop, drop_all, take_rest}
use Rattle.std.specs.List.{prefix_len}
use Rattle.sgf_rules.specs.declared.token.TokenKind.{TokenKind}
use Rattle.sgf_rules.specs.Tokens.{Token, is_blank, is_letter, letters_token, letters_at}
use Rattle.sgf_rules.specs.Tokens.{token_of, token_at, tokens_after}
use Rattle.sgf_rules.proofs.CutTokens.{blank_step, token_step}
use Rattle.sgf_read.specs.declared.token.Token.{Token as Read}
use Rattle.sgf_read.specs.Reads.{tokens_from, IsFirstToken, IsTokenAt, bytes_in}

-- over a blank
pub past_blank : (text : List ℕ) (here : ℕ) → here < length text → is_blank (get_or text here 0) ≡ true
    → tokens_from text (here + 1) ≡ tokens_from text here
past_blank text here l e = grind (arith, drop_more, blank_step)

-- at the end there is no token
pub no_token : (text : List ℕ) (here : ℕ) → length text ≤ here → tokens_from text here ≡ []
unfolding tokens_after
no_token text here l = ap (λ (bs : List ℕ). tokens_after 0 bs) (drop_all here text l)

-- a token that begins behind the blanks is the first
pub first_token : (text : List ℕ) (at here : ℕ) (t : Read) → at ≤ here → here < length text
    → tokens_from text here ≡ tokens_from text at → is_blank (get_or text here 0) ≡ false → IsTokenAt text here t
    → IsFirstToken text at t
first_token text at here t low l same e h =
    let on = h.lies.onward in
    let rest : drop (t.next - (here + 1)) (drop (here + 1) text) ≡ drop t.next text =
    drop-drop (t.next - (here + 1)) (here + 1) text ∙ ap (λ (n : ℕ). drop n text) (omega arith) in
    record {
      lies = grind arith;
      tokens = sym same
          ∙ (ap (tokens_after 0) (drop_more text here 0 l)
          ∙ (token_step (get_or text here 0) (drop (here + 1) text) (token_of t.kind (bytes_in text t))
          (t.next - (here + 1)) e h.token
          ∙ ap (λ (ts : List ℕ). token_of t.kind (bytes_in text t) ∷ tokens_after 0 ts) rest));
    }

-- a token of one byte
pub sign_at : (text : List ℕ) (at : ℕ) (t : Read) (kind : TokenKind) (token : Token) → at < length text
    → t ≡ record { kind = kind; from = at; to = at + 1; next = at + 1 }
    → ((bytes : List ℕ) → token_of kind bytes ≡ token)
    → token_at (get_or text at 0) (drop (at + 1) text) ≡ (token, 0) → IsTokenAt text at t
sign_at text at t kind token l e same h = grind arith

-- the letters that begin at an index, and how many follow the first
pub letters_shown : (text : List ℕ) (at n : ℕ) (kind : TokenKind) → at < length text
    → n ≡ prefix_len is_letter (take (length text - (at + 1)) (drop (at + 1) text))
    → token_of kind (take (at + 1 + n - at) (drop at text)) ≡ letters_token (take (at + 1 + n - at) (drop at text))
    → letters_at (get_or text at 0) (drop (at + 1) text)
    ≡ (token_of kind (take (at + 1 + n - at) (drop at text)), at + 1 + n - (at + 1))
letters_shown text at n kind l e h =
    let b = get_or text at 0 in
    let bs = drop (at + 1) text in
    let many : n ≡ prefix_len is_letter bs = e ∙ ap (prefix_len is_letter) (take_rest text (at + 1)) in
    let one : at + 1 + n - at ≡ suc n = omega arith in
    let same : n ≡ at + 1 + n - (at + 1) = omega arith in
    let bytes : take (at + 1 + n - at) (drop at text) ≡ b ∷ take n bs =
    ap (λ (k : ℕ). take k (drop at text)) one ∙ ap (take (suc n)) (drop_more text at 0 l) in
    ap (λ (k : ℕ). (letters_token (b ∷ take k bs), k)) (sym many)
    ∙ (ap (λ (xs : List ℕ). (letters_token xs, n)) (sym bytes)
    ∙ (ap (λ (t : Token). (t, n)) (sym h)
    ∙ ap (λ (k : ℕ). (token_of kind (take (at + 1 + n - at) (drop at text)), k)) same))
