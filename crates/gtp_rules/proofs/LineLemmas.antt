-- What holds of the texts that bytes are cut into.
use Rattle.std.proofs.Common.{◌≡◌, ℕ, true, false, cond, eqb, List, [], ◌∷◌, ◌++◌, refl, sym, ap, subst}
use Rattle.std.specs.List.{onto_first}
use Rattle.gtp_rules.specs.Lines.{line_feed, texts_of, all_but_last, last_text, ended_texts, rest_of}

-- bytes are cut into at least one text
pub texts_of-cons : (bytes : List ℕ) → (text : List ℕ) × (texts : List (List ℕ)) × (texts_of bytes ≡ text ∷ texts)
texts_of-cons [] = ([], [], refl)
texts_of-cons (b ∷ bs) =
    let later = texts_of-cons bs in
    elim (eqb b line_feed)
    as (λ t. (text : List ℕ) × (texts : List (List ℕ))
    × (cond t ([] ∷ texts_of bs) (onto_first b (texts_of bs)) ≡ text ∷ texts)) [
      | true ↦ ([], texts_of bs, refl)
      | false ↦ (b ∷ later.0, later.1, ap (onto_first b) later.2)
    ]

-- a list that is not empty is all but its last element, and then that element
all_but_last-last_text : (text : List ℕ) (texts : List (List ℕ))
    → text ∷ texts ≡ all_but_last (text ∷ texts) ++ last_text (text ∷ texts) ∷ []
all_but_last-last_text text [] = refl
all_but_last-last_text text (next ∷ texts) = ap (λ l. text ∷ l) (all_but_last-last_text next texts)

-- the texts are those that a line feed ends, and then the rest
pub texts_of-rest_of : (bytes : List ℕ) → texts_of bytes ≡ ended_texts bytes ++ rest_of bytes ∷ []
texts_of-rest_of bytes =
    let some = texts_of-cons bytes in
    subst (λ l. l ≡ all_but_last l ++ last_text l ∷ []) (sym some.2) (all_but_last-last_text some.0 some.1)
