-- A constraint diagram with one line more.
use Rattle.std.proofs.Common.{◌≡◌, ◌≢◌, ℕ, suc, ◌+◌, ◌<◌, ◌≤◌, Bool, true, false, not, List, [], ◌∷◌, ◌++◌, length}
use Rattle.std.proofs.Common.{get_or, take, Option, Some, refl, sym, ap, ◌∙◌, append_assoc, add-zero, arith}
use Rattle.db_rules.proofs.ConstraintDiagrams.{length-rows_of-cons}
use Rattle.std.specs.Prelude.{◌==◌, ◌&&◌, ◌||◌}
use Rattle.std.proofs.lemmas.Bool.{and_right}
use Rattle.std.proofs.lemmas.List.{length-append, take_more, append-nil}
use Rattle.std.proofs.lemmas.Option.{slice_get-get_or, slice_get_past}
use Rattle.pat_types.specs.Labels.{are_apart}
use Rattle.pat_types.specs.Diagrams.{drawn_strip}
use Rattle.db_entry.specs.declared.marks.Marks.{Marks}
use Rattle.pat_types.specs.declared.pattern.LabelAt.{LabelAt}
use Rattle.db_rules.specs.declared.kind.FaultKind.{FaultKind}
use Rattle.db_rules.specs.declared.kind.FaultKind.TheVariants.{ConstraintShape}
use Rattle.db_rules.specs.Kinds.{first_of}
use Rattle.db_rules.specs.Diagram.{is_row, is_letter, rows_of}
use Rattle.db_rules.specs.Labels.{is_label, repeats, labels_of_line, labels_under, labels_of, constraint_fault}
use Rattle.db_entry.specs.Reads.{IsMarked}
use Rattle.db_rules.proofs.OneMoreLine.{length-rows_of-push}

-- words of other lengths don't repeat one another
pub repeats-lengths : (main word : List ℕ) → length main ≢ length word → repeats main word ≡ false
repeats-lengths [] [] apart = absurd (apart refl)
repeats-lengths [] (w ∷ ws) apart = refl
repeats-lengths (m ∷ ms) [] apart = refl
repeats-lengths (m ∷ ms) (w ∷ ws) apart = grind (arith, and_right, repeats-lengths ms ws)

-- a word that repeats a main line is as long
pub repeats-same : (main word : List ℕ) → repeats main word ≡ true → length main ≡ length word
repeats-same [] [] e = refl
repeats-same [] (w ∷ ws) e = absurd cc
repeats-same (m ∷ ms) [] e = absurd cc
repeats-same (m ∷ ms) (w ∷ ws) e =
    ap (λ (n : ℕ). suc n) (repeats-same ms ws (tail_of (w == m || is_label w && is_letter m) e))
  where
    tail_of : (b : Bool) → (b && repeats ms ws) ≡ true → repeats ms ws ≡ true
    tail_of true h = h
    tail_of false h = absurd cc

-- a constraint diagram without lines has no labels
pub under-nil : (row : ℕ) (mains : List (List ℕ)) → labels_under row mains [] ≡ []
unfolding labels_under
under-nil row [] = refl
under-nil row (main ∷ mains) = refl

-- the labels of the first line stand before those of the lines below it
under-cons : (row : ℕ) (main : List ℕ) (mains : List (List ℕ)) (word : List ℕ) (words : List (List ℕ))
    → labels_under row (main ∷ mains) (word ∷ words) ≡ labels_of_line row main word ++ labels_under
    (row + drawn_strip (is_row main)) mains words
unfolding labels_under
under-cons row main mains word words = refl

-- the labels of the last line stand behind those of the lines above it
labels_under-push : (row : ℕ) (mains words : List (List ℕ)) (word : List ℕ) → length words < length mains
    → labels_under row mains (words ++ word ∷ []) ≡ labels_under row mains words ++ labels_of_line
    (row + length (rows_of (take (length words) mains))) (get_or mains (length words) []) word
labels_under-push row [] words word lt = absurd (omega arith)
labels_under-push row (main ∷ mains) [] word lt = grind (arith, under-cons, under-nil, append-nil, add-zero)
labels_under-push row (main ∷ mains) (w ∷ words) word lt =
    let one = drawn_strip (is_row main) in
    let above = length (rows_of (main ∷ take (length words) mains)) in
    let last = λ (n : ℕ). labels_of_line n (get_or mains (length words) []) word in
    let rows : row + one + length (rows_of (take (length words) mains)) ≡ row + above =
    omega (arith, length-rows_of-cons main (take (length words) mains)) in
    under-cons row main mains w (words ++ word ∷ [])
    ∙ ap (λ l. labels_of_line row main w ++ l) (labels_under-push (row + one) mains words word (omega arith)
    ∙ ap (λ n. labels_under (row + one) mains words ++ last n) rows)
    ∙ sym (append_assoc (labels_of_line row main w) (labels_under (row + one) mains words) (last (row + above)))
    ∙ ap (λ l. l ++ last (row + above)) (sym (under-cons row main mains w words))

-- the labels after a further line that has a main line
pub labels_of-push : (mains words : List (List ℕ)) (word : List ℕ) → length words < length mains
    → labels_of mains (words ++ word ∷ []) ≡ labels_of mains words ++ labels_of_line
    (length (rows_of (take (length words) mains))) (get_or mains (length words) []) word
labels_of-push mains words word lt = grind (arith, labels_under-push)

-- a further line that has no main line is at fault
pub constraint_fault-past : (mains words : List (List ℕ)) (word : List ℕ) → length mains ≤ length words
    → constraint_fault mains words word ≡ Some ConstraintShape
unfolding constraint_fault
constraint_fault-past mains words word past = rw (slice_get_past mains (length words) past) refl

-- a further line that has a main line is at fault by that line
pub constraint_fault-at : (mains words : List (List ℕ)) (word : List ℕ) → length words < length mains
    → constraint_fault mains words word ≡ first_of ((
      not (repeats (get_or mains (length words) []) word
          && are_apart (labels_of mains (words ++ word ∷ []))),
      ConstraintShape,
    ) ∷ [])
unfolding constraint_fault
constraint_fault-at mains words word lt = rw (slice_get-get_or mains (length words) [] lt) refl

-- what is kept after a further line
pub IsMarked-push : (m n : Marks) (mains words : List (List ℕ)) (word : List ℕ) → IsMarked m mains words
    → length words < length mains
    → n.lines ≡ m.lines + 1 → n.rows ≡ m.rows + drawn_strip (is_row (get_or mains (length words) []))
    → n.labels ≡ labels_of mains (words ++ word ∷ []) → IsMarked n mains (words ++ word ∷ [])
IsMarked-push m n mains words word s lt lines rows labels =
    grind (arith, take_more mains, length-append, length-rows_of-push)

-- the labels with those of a further line, by what is kept
kept_labels : (m : Marks) (mains words : List (List ℕ)) (word main : List ℕ) → IsMarked m mains words
    → m.lines < length mains → main ≡ get_or mains m.lines []
    → m.labels ++ labels_of_line m.rows main word ≡ labels_of mains (words ++ word ∷ [])
kept_labels m mains words word main s lt main_is = grind (arith, labels_of-push)

-- the fault of a further line, by its main line and all labels
abbrev fault_by : List ℕ → List ℕ → List LabelAt → Option FaultKind
fault_by word main labels = first_of ((not (repeats main word && are_apart labels), ConstraintShape) ∷ [])

-- the fault of a further line that has a main line
pub kept_fault_at : (m : Marks) (mains words : List (List ℕ)) (word main : List ℕ) → IsMarked m mains words
    → m.lines < length mains → main ≡ get_or mains m.lines []
    → constraint_fault mains words word ≡ first_of ((
      not (repeats main word
          && are_apart (m.labels ++ labels_of_line m.rows main word)),
      ConstraintShape,
    ) ∷ [])
kept_fault_at m mains words word main s lt main_is = grind (arith, constraint_fault-at, kept_labels)

-- what is kept after a further line
pub kept_push : (m n : Marks) (mains words : List (List ℕ)) (word main : List ℕ) → IsMarked m mains words
    → m.lines < length mains → main ≡ get_or mains m.lines []
    → n.lines ≡ m.lines + 1 → n.rows ≡ m.rows + drawn_strip (is_row main)
    → n.labels ≡ m.labels ++ labels_of_line m.rows main word → IsMarked n mains (words ++ word ∷ [])
kept_push m n mains words word main s lt main_is lines rows labels =
    let there : main ≡ get_or mains (length words) [] = main_is ∙ ap (λ k. get_or mains k []) s.lines in
    IsMarked-push m n mains words word s (omega (arith, s.lines)) lines (rows
    ∙ ap (λ w. m.rows + drawn_strip (is_row w)) there) (labels ∙ kept_labels m mains words word main s lt main_is)
