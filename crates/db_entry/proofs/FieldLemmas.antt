-- Splitting at commas, one byte after the other.
use Rattle.std.proofs.Common.{◌≡◌, ℕ, ◌+◌, ◌<◌, true, false, List, [], ◌∷◌, ◌++◌, length, get_or, take}
use Rattle.std.proofs.Common.{drop, refl, sym, ap, ◌∙◌, append_assoc, arith}
use Rattle.std.specs.Prelude.{◌==◌, ◌&&◌, nat_lt, if◌then◌else◌}
use Rattle.std.proofs.lemmas.Bool.{lt-ltb, le-ltb}
use Rattle.std.proofs.lemmas.List.{at_drop_more, at_drop_all, take_more, append-nil}
use Rattle.db_lex.specs.Lines.{with_front}
use Rattle.db_rules.specs.Colon.{split_at_commas, depth_after, comma}

-- more bytes in front of the first part
abbrev pub with_fronts : List ℕ → List (List ℕ) → List (List ℕ)
with_fronts front [] = front ∷ []
with_fronts front (part ∷ more) = (front ++ part) ∷ more

-- a byte in front of the first part, behind more bytes, is the last of these bytes
with_fronts-push : (front : List ℕ) (b : ℕ) (parts : List (List ℕ))
    → with_fronts front (with_front b parts) ≡ with_fronts (front ++ b ∷ []) parts
with_fronts-push front b [] = refl
with_fronts-push front b (part ∷ more) = ap (λ p. p ∷ more) (sym (append_assoc front (b ∷ []) part))

-- the first byte of a text ends the first part, or stands in front of it
split-cons : (depth b : ℕ) (bs : List ℕ)
    → split_at_commas depth (b ∷ bs) ≡ (if b == comma
    && depth == 0 then [] ∷ split_at_commas 0 bs else with_front b (split_at_commas (depth_after depth b) bs))
unfolding split_at_commas
split-cons depth b bs = refl

-- a text of no bytes has one part of no bytes
split-nil : (depth : ℕ) → split_at_commas depth [] ≡ [] ∷ []
unfolding split_at_commas
split-nil depth = refl

-- parts of which the first begins with a byte have a first part
with_front-some : (b : ℕ) (parts : List (List ℕ)) → with_fronts [] (with_front b parts) ≡ with_front b parts
with_front-some b [] = refl
with_front-some b (part ∷ more) = refl

-- there is always a first part
pub split-some : (text : List ℕ) → split_at_commas 0 text ≡ with_fronts [] (split_at_commas 0 text)
split-some [] = rw (split-nil 0) refl
split-some (b ∷ bs) = grind (arith, split-cons, with_front-some)

-- a byte that doesn't end the first part
pub split-goes : (text : List ℕ) (i depth : ℕ) → i < length text → (get_or text i 0 == comma && depth == 0) ≡ false
    → split_at_commas 0 text ≡ with_fronts (take i text) (split_at_commas depth (drop i text))
    → split_at_commas 0 text ≡ with_fronts (take (i + 1) text)
    (split_at_commas (depth_after depth (get_or text i 0)) (drop (i + 1) text))
split-goes text i depth lt goes so_far =
    grind (
      arith,
      at_drop_more (split_at_commas depth) text i 0 lt,
      split-cons depth,
      with_fronts-push (take i text),
      take_more text i 0 lt,
    )

-- a comma outside parentheses ends it
pub split-ends : (text : List ℕ) (i depth : ℕ) → i < length text → (get_or text i 0 == comma && depth == 0) ≡ true
    → split_at_commas 0 text ≡ with_fronts (take i text) (split_at_commas depth (drop i text))
    → split_at_commas 0 text ≡ take i text ∷
    (if nat_lt i (length text) then split_at_commas 0 (drop (i + 1) text) else [])
split-ends text i depth lt stops so_far =
    let b = get_or text i 0 in
    let one : split_at_commas depth (drop i text) ≡ [] ∷ split_at_commas 0 (drop (i + 1) text) =
    at_drop_more (split_at_commas depth) text i 0 lt ∙ split-cons depth b (drop (i + 1) text) ∙ rw stops refl in
    rw (lt-ltb i (length text) lt) (so_far ∙ ap (with_fronts (take i text)) one
    ∙ ap (λ t. t ∷ split_at_commas 0 (drop (i + 1) text)) (append-nil (take i text)))

-- without one the first part is all
pub split-whole : (text : List ℕ) (i depth : ℕ) → i ≡ length text
    → split_at_commas 0 text ≡ with_fronts (take i text) (split_at_commas depth (drop i text))
    → split_at_commas 0 text ≡ take (length text) text ∷
    (if nat_lt (length text) (length text) then split_at_commas 0 (drop (length text + 1) text) else [])
split-whole text i depth at_end so_far =
    let one : split_at_commas depth (drop i text) ≡ [] ∷ [] =
    at_drop_all (split_at_commas depth) text i (omega arith) ∙ split-nil depth in
    rw (le-ltb (length text) (length text) (omega arith)) (so_far ∙ ap (with_fronts (take i text)) one
    ∙ ap (λ t. t ∷ []) (append-nil (take i text) ∙ ap (λ n. take n text) at_end))
