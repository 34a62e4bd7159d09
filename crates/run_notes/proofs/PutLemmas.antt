-- One put after another.
use Rattle.std.proofs.Common.{◌≡◌, ◌∙◌, ◌<◌, ◌+◌, ◌-◌, ◌++◌, ◌∷◌, ℕ, suc, List, [], Option, Result, Ok}
use Rattle.std.proofs.Common.{Err, OnErr, length, take, drop, get_or, ap, sym, subst}
use Rattle.std.proofs.Common.{append_assoc, append-nil, drop-cons, arith}
use Rattle.std.specs.List.{concat}
use Rattle.std.proofs.lemmas.List.{take-append-drop, take_more, take_rest}
use Rattle.std.proofs.lemmas.List.Folds.{concat-append}
use Rattle.std.proofs.KnownBytes.{Appends-trans}
use Rattle.std.specs.Io.KnownBytes.{Appends}
use Rattle.run_notes.specs.Putting.{PutsFront}

-- a call that failed put a front of more bytes too
pub fails_early : (a b : Option (List ℕ)) (first second : List ℕ) → PutsFront a b first
    → PutsFront a b (first ++ second)
fails_early a b first second put = grind (arith, append_assoc)

-- a text went out, and then a front of one behind it
pub fails_later : (a b c : Option (List ℕ)) (first second : List ℕ) → Appends a b first → PutsFront b c second
    → PutsFront a c (first ++ second)
fails_later a b c first second one two = grind (arith, append_assoc)

-- the sink took n bytes more of the rest
pub put_more : (a b c : Option (List ℕ)) (bytes done rest : List ℕ) (n : ℕ) → bytes ≡ done ++ rest → Appends a b done
    → Appends b c (take n rest)
    → (put : List ℕ) × (bytes ≡ put ++ take (length rest - n) (drop n rest)) × Appends a c put
put_more a b c bytes done rest n whole before more =
    let split : rest ≡ take n rest ++ take (length rest - n) (drop n rest) =
    sym (ap (λ l. take n rest ++ l) (take_rest rest n) ∙ take-append-drop n rest) in (
      done ++ take n rest,
      whole ∙ ap (λ l. done ++ l) split ∙ sym (append_assoc done (take n rest) (take (length rest - n) (drop n rest))),
      Appends-trans a b c done (take n rest) before more,
    )

-- one piece more went out
pub piece_more : (a b c : Option (List ℕ)) (pieces : List (List ℕ)) (i : ℕ) (piece : List ℕ) → i < length pieces
    → piece ≡ get_or pieces i piece
    → Appends a b (concat (take i pieces)) → Appends b c piece → Appends a c (concat (take (i + 1) pieces))
piece_more a b c pieces i piece lt at before more =
    let split : concat (take (i + 1) pieces) ≡ concat (take i pieces) ++ piece =
    ap concat (take_more pieces i piece lt) ∙ (concat-append (take i pieces) (get_or pieces i piece ∷ [])
    ∙ ap (λ l. concat (take i pieces) ++ l) (append-nil (get_or pieces i piece) ∙ sym at)) in
    subst (λ l. Appends a c l) (sym split) (Appends-trans a b c (concat (take i pieces)) piece before more)

-- a front of a piece went out behind those before it
pub piece_front : (a b c : Option (List ℕ)) (pieces : List (List ℕ)) (i : ℕ) (piece : List ℕ) → i < length pieces
    → piece ≡ get_or pieces i piece
    → Appends a b (concat (take i pieces)) → PutsFront b c piece → PutsFront a c (concat pieces)
piece_front a b c pieces i piece lt at before part =
    let split : concat (take i pieces) ++ (piece ++ concat (drop (suc i) pieces)) ≡ concat pieces =
    ap (λ p. concat (take i pieces) ++ (p ++ concat (drop (suc i) pieces))) at
    ∙ (sym (concat-append (take i pieces) (get_or pieces i piece ∷ drop (suc i) pieces))
    ∙ (ap (λ l. concat (take i pieces ++ l)) (sym (drop-cons pieces i piece lt))
    ∙ ap concat (take-append-drop i pieces))) in
    subst (λ l. PutsFront a c l) split
    (fails_later a b c (concat (take i pieces)) (piece ++ concat (drop (suc i) pieces)) before
    (fails_early b c piece (concat (drop (suc i) pieces)) part))

-- a fact holds where a call failed
pub on_err_from : {T E P : Type 0} (result : Result T E) → P → OnErr result P
on_err_from (Ok x) p = tt
on_err_from (Err e) p = p
