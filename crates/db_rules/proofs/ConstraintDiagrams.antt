-- The labels of a constraint diagram without a fault lie in the diagram and have different letters.
use Rattle.std.proofs.Common.{◌≡◌, ℕ, zero, suc, ◌+◌, ◌-◌, ◌<◌, ◌≤◌, ◌⊎◌, inl, inr, Bool, true, false, cond, List, []}
use Rattle.std.proofs.Common.{◌∷◌, ◌++◌, length, take, drop, get_or, None, refl, sym, ap, subst, ◌∙◌, arith}
use Rattle.std.specs.Prelude.{◌&&◌, ◌||◌, ◌==◌, nat_lt, slice_index}
use Rattle.std.specs.List.{list_all}
use Rattle.std.proofs.lemmas.Bool.{and_parts, lt-ltb, eqb-true, cases_lt, not-false}
use Rattle.std.proofs.lemmas.List.{length-take, get_or-take}
use Rattle.std.proofs.lemmas.List.Folds.{list_all-append}
use Rattle.std.proofs.lemmas.Option.{slice_get-get_or, slice_get_past}
use Rattle.pat_types.specs.Diagrams.{drawn_strip}
use Rattle.pat_types.specs.declared.pattern.LabelAt.{LabelAt}
use Rattle.pat_types.specs.Labels.{is_in, are_apart, are_labels}
use Rattle.db_rules.specs.declared.kind.FaultKind.{FaultKind}
use Rattle.db_rules.specs.Kinds.{first_of}
use Rattle.db_rules.specs.Diagram.{is_letter, is_dash, plus, bar, ends, without_left, inner, is_edge_line, is_row}
use Rattle.db_rules.specs.Diagram.{shape_of, rows_of, wanted, width_of}
use Rattle.db_rules.specs.Labels.{is_label, repeats, labels_from, labels_of_line, labels_under, labels_of}
use Rattle.db_rules.specs.Labels.{constraint_fault}
use Rattle.db_rules.specs.Accepted.{IsDrawn, IsLabelled, no_line, one_line_more}
use Rattle.db_rules.proofs.OneMoreLine.{shape_of-width, row_letters}
use Rattle.db_rules.proofs.MainDiagrams.{each_more, drawn_even, drawn_line_kinds}

-- where all elements pass, each does
each_passes : (P : ℕ → Bool) (bytes : List ℕ) (k : ℕ) → k < length bytes → list_all P bytes ≡ true
    → P (get_or bytes k 0) ≡ true
each_passes P [] k lt all = absurd (omega arith)
each_passes P (b ∷ bytes) zero lt all = (and_parts (P b) (list_all P bytes) all).0
each_passes P (b ∷ bytes) (suc k) lt all = grind (arith, and_parts, each_passes P bytes k)

-- a byte among the first n passes where these do
byte_within : (P : ℕ → Bool) (n : ℕ) (bytes : List ℕ) (k : ℕ) → k < n → k < length bytes
    → list_all P (take n bytes) ≡ true → (k < length (take n bytes)) × (P (get_or bytes k 0) ≡ true)
byte_within P n bytes k low lt all = grind (arith, length-take, get_or-take, each_passes)

-- a byte of a rest is one of its inner part, or it is the edge's byte at the end
byte_of_rest : (P : ℕ → Bool) (m : ℕ) (rest : List ℕ) (e : Bool) (k : ℕ) → (slice_index rest (length rest - 1) == m) ≡ e
    → list_all P (take (length rest - drawn_strip e) rest) ≡ true → k < length rest
    → ((k < length (take (length rest - drawn_strip e) rest)) × (P (get_or rest k 0) ≡ true)) ⊎ (get_or rest k 0 ≡ m)
byte_of_rest P m rest false k end all lt = inl (byte_within P (length rest - 0) rest k (omega (arith, lt)) lt all)
byte_of_rest P m rest true k end all lt = grind (arith, cases_lt, byte_within, eqb-true)

-- a byte of a word without its left edge is one of its inner part, or it is the edge's byte at the end
byte_of_line : (P : ℕ → Bool) (m : ℕ) (word : List ℕ) (k : ℕ) → list_all P (inner m word) ≡ true
    → k < length (without_left m word)
    → ((k < length (inner m word)) × (P (get_or (without_left m word) k 0) ≡ true))
    ⊎ (get_or (without_left m word) k 0 ≡ m)
byte_of_line P m word k all lt = byte_of_rest P m (without_left m word) (ends m word) k refl all lt

-- the letters of a line, whose left edge is taken away, stand in so many columns, and the line has some only where it
-- is a row
pub record IsMainLine (cols : ℕ) (main : List ℕ) : Type 0 where
  pub in_columns : (k : ℕ) → k < length (without_left bar main) → is_letter (get_or (without_left bar main) k 0) ≡ true
      → k < cols
  pub of_row : (k : ℕ) → k < length (without_left bar main) → is_letter (get_or (without_left bar main) k 0) ≡ true
      → is_row main ≡ true

-- a row is a main line of as many columns as it has letters
main_row : (main : List ℕ) (cols : ℕ) → is_row main ≡ true → (shape_of bar main).width ≡ cols → IsMainLine cols main
main_row main cols row wide = record {
  in_columns = λ k lt letter. elim (byte_of_line is_letter bar main k (row_letters main row) lt) [
    | inl inside ↦ let width : length (inner bar main) ≡ cols =
        sym (shape_of-width bar main) ∙ wide in omega (arith, width, inside.0)
    | inr edge ↦ let is_bar : is_letter 124 ≡ true = subst (λ b. is_letter b ≡ true) edge letter in absurd (cc is_bar)
  ];
  of_row = λ k lt letter. row;
}

-- the inner part of an edge line is of `-` alone
dashes_of_plus : (main : List ℕ) → is_edge_line main ≡ true → list_all is_dash (inner plus main) ≡ true
unfolding is_edge_line
dashes_of_plus main edge = (and_parts (nat_lt 0 (length (inner plus main))) _ edge).1

-- a dash and a plus are no letters
no_letter : (b : ℕ) → (is_dash b ≡ true) ⊎ (b ≡ plus) → is_letter b ≡ true → ⊥
no_letter b (inl dash) letter = grind (arith, eqb-true)
no_letter b (inr cross) letter = let is : is_letter 43 ≡ true = subst (λ x. is_letter x ≡ true) cross letter in cc is

-- each byte is a dash or a plus
abbrev AreDashes : List ℕ → Type 0
AreDashes bytes = (n : ℕ) → n < length bytes → (is_dash (get_or bytes n 0) ≡ true) ⊎ (get_or bytes n 0 ≡ plus)

-- the bytes of an edge line without its left edge are dashes, and perhaps a plus
dashes_behind : (main : List ℕ) → is_edge_line main ≡ true → AreDashes (without_left plus main)
dashes_behind main edge n lt =
    grind (arith, byte_of_line is_dash plus main n (dashes_of_plus main edge) lt, dashes_of_plus main edge)

-- no byte of an edge line is a letter
edge_has_no_letter : (main : List ℕ) → is_edge_line main ≡ true → (k : ℕ) → k < length main
    → is_letter (get_or main k 0) ≡ true → ⊥
edge_has_no_letter [] edge k lt letter = omega (arith, lt)
edge_has_no_letter (b ∷ bs) edge k lt letter = by_begin (b == plus) refl (dashes_behind (b ∷ bs) edge) k lt letter
  where
    by_begin : (c : Bool) → (b == plus) ≡ c → AreDashes (without_left plus (b ∷ bs)) → (k : ℕ) → k < length (b ∷ bs)
        → is_letter (get_or (b ∷ bs) k 0) ≡ true → ⊥
    by_begin true is dashes zero lt letter = no_letter b (inr (eqb-true b plus is)) letter
    by_begin true is dashes (suc k) lt letter =
        no_letter (get_or bs k 0)
        (subst AreDashes (ap (λ x. drop (drawn_strip x) (b ∷ bs)) is) dashes k (omega (arith, lt))) letter
    by_begin false is dashes k lt letter =
        no_letter (get_or (b ∷ bs) k 0)
        (subst AreDashes (ap (λ x. drop (drawn_strip x) (b ∷ bs)) is) dashes k lt) letter

-- a byte at this place is a letter
abbrev HasLetter : List ℕ → ℕ → Type 0
HasLetter bytes k = (k < length bytes) × (is_letter (get_or bytes k 0) ≡ true)

-- a letter of a line without its left edge is one of the line
letter_of_line : (main : List ℕ) (k : ℕ) → HasLetter (without_left bar main) k → (n : ℕ) × HasLetter main n
letter_of_line [] k letter = absurd (omega (arith, letter.0))
letter_of_line (b ∷ bs) k letter = by_begin (b == bar) letter
  where
    by_begin : (c : Bool) → HasLetter (drop (drawn_strip c) (b ∷ bs)) k → (n : ℕ) × HasLetter (b ∷ bs) n
    by_begin true letter = (suc k, (omega (arith, letter.0), letter.1))
    by_begin false letter = (k, letter)

-- an edge line is a main line of any number of columns
main_edge : (main : List ℕ) (cols : ℕ) → is_edge_line main ≡ true → IsMainLine cols main
main_edge main cols edge = grind (arith, letter_of_line, edge_has_no_letter)

-- each line of a main diagram without a fault is a main line of its width
main_lines : (diagram : List (List ℕ)) → IsDrawn diagram → (k : ℕ) → k < length diagram
    → IsMainLine (width_of (wanted diagram)) (get_or diagram k [])
main_lines diagram drawn k lt =
    grind (
      arith,
      drawn_line_kinds diagram drawn k lt,
      main_edge (get_or diagram k []) (width_of (wanted diagram)),
      main_row (get_or diagram k []) (width_of (wanted diagram)),
      drawn_even diagram drawn k lt,
    )

-- a byte that repeats the line adds no label, and one over a letter adds one that stands where the letter does
label_in : (row col total cols m w : ℕ) (rest : List LabelAt) (same : Bool)
    → (same || is_label w && is_letter m) ≡ true → list_all (is_in total cols) rest ≡ true
    → (is_letter m ≡ true → (row < total) × (col < cols))
    → list_all (is_in total cols) (cond same rest (record { letter = w; row = row; col = col } ∷ rest)) ≡ true
label_in row col total cols m w rest true over all here = all
label_in row col total cols m w rest false over all here = grind (arith, and_parts, lt-ltb)

-- where the letters of a line stand in so many columns, its labels do; they stand over letters alone
labels_from_in : (row col total cols : ℕ) (main word : List ℕ) → repeats main word ≡ true
    → ((k : ℕ) → k < length main → is_letter (get_or main k 0) ≡ true → (row < total) × (col + k < cols))
    → list_all (is_in total cols) (labels_from row col main word) ≡ true
labels_from_in row col total cols [] word same within = refl
labels_from_in row col total cols (m ∷ ms) [] same within = refl
labels_from_in row col total cols (m ∷ ms) (w ∷ ws) same within =
    let parts = and_parts (w == m || is_label w && is_letter m) (repeats ms ws) same in
    let rest = labels_from_in row (col + 1) total cols ms ws parts.1
    (λ k lt letter. let far = within (suc k) (omega (arith, lt)) letter in (far.0, omega (arith, far.1))) in
    label_in row col total cols m w (labels_from row (col + 1) ms ws) (w == m) parts.0 rest
    (λ letter. let here = within zero (omega arith) letter in (here.0, omega (arith, here.1)))

-- the labels of a line stand in the diagram
labels_of_line_in : (row total cols : ℕ) (main word : List ℕ) → repeats main word ≡ true → IsMainLine cols main
    → (is_row main ≡ true → row < total) → list_all (is_in total cols) (labels_of_line row main word) ≡ true
labels_of_line_in row total cols [] word same fine above = refl
labels_of_line_in row total cols (m ∷ ms) [] same fine above = refl
labels_of_line_in row total cols (m ∷ ms) (w ∷ ws) same fine above = by_edge (m == bar) refl
  where
    within : (body : List ℕ) → without_left bar (m ∷ ms) ≡ body → (k : ℕ) → k < length body
        → is_letter (get_or body k 0) ≡ true → (row < total) × (0 + k < cols)
    within body is k lt letter = grind arith

    by_edge : (c : Bool) → (m == bar) ≡ c
        → list_all (is_in total cols) (cond c (labels_from row 0 ms ws) (labels_from row 0 (m ∷ ms) (w ∷ ws))) ≡ true
    by_edge true is = grind (arith, labels_from_in, and_parts, within)
    by_edge false is = grind (arith, labels_from_in row 0 total cols (m ∷ ms) (w ∷ ws) same, within (m ∷ ms))

-- the rows of a diagram with one line in front
pub length-rows_of-cons : (main : List ℕ) (mains : List (List ℕ))
    → length (rows_of (main ∷ mains)) ≡ drawn_strip (is_row main) + length (rows_of mains)
length-rows_of-cons main mains = grind arith

-- each of the words repeats the main line at its place
abbrev Repeat : List (List ℕ) → List (List ℕ) → Type 0
Repeat mains words =
    (k : ℕ) → k < length words → (k < length mains) × (repeats (get_or mains k []) (get_or words k []) ≡ true)

-- the labels of all lines stand in the diagram
labels_under_in : (row total cols : ℕ) (mains words : List (List ℕ)) → Repeat mains words
    → ((k : ℕ) → k < length mains → IsMainLine cols (get_or mains k [])) → row + length (rows_of mains) ≤ total
    → list_all (is_in total cols) (labels_under row mains words) ≡ true
unfolding labels_under
labels_under_in row total cols [] words same fine few = refl
labels_under_in row total cols (main ∷ mains) [] same fine few = refl
labels_under_in row total cols (main ∷ mains) (word ∷ words) same fine few =
    let first =
    labels_of_line_in row total cols main word (same 0 (omega arith)).1 (fine 0 (omega arith))
    (λ is. let one : drawn_strip (is_row main) ≡ 1 = ap drawn_strip is in
    omega (arith, one, few, length-rows_of-cons main mains)) in
    let rest = labels_under_in (row + drawn_strip (is_row main)) total cols mains words
    (λ k lt. let there = same (suc k) (omega (arith, lt)) in (omega (arith, there.0), there.1))
    (λ k lt. fine (suc k) (omega (arith, lt)))
    (omega (arith, few, length-rows_of-cons main mains)) in
    list_all-append (is_in total cols) (labels_of_line row main word)
    (labels_under (row + drawn_strip (is_row main)) mains words) ∙ rw (first, rest) refl

-- the only fault of a list does not fit
none_of_one : (b : Bool) (k : FaultKind) → first_of ((b, k) ∷ []) ≡ None → b ≡ false
none_of_one true k e = absurd cc
none_of_one false k e = refl

-- a further line without a fault repeats its main line, and leaves the labels apart
pub record IsFineLabelLine (diagram words : List (List ℕ)) (word : List ℕ) : Type 0 where
  pub within : length words < length diagram
  pub same : repeats (get_or diagram (length words) []) word ≡ true
  pub apart : are_apart (labels_of diagram (words ++ word ∷ [])) ≡ true

-- a further line without a fault passes each test
fine_label_line : (diagram words : List (List ℕ)) (word : List ℕ) → constraint_fault diagram words word ≡ None
    → IsFineLabelLine diagram words word
unfolding constraint_fault
fine_label_line diagram words word none =
    grind (arith, and_parts, not-false, none_of_one, cases_lt, slice_get-get_or, slice_get_past)

-- each line of a constraint diagram without a fault repeats its main line
labelled_repeat : (diagram words : List (List ℕ)) → IsLabelled diagram words → Repeat diagram words
labelled_repeat diagram _ no_line k lt = absurd (omega (arith, lt))
labelled_repeat diagram _ (one_line_more words word labelled none) k lt =
    let fine = fine_label_line diagram words word none in
    each_more (λ k w. (k < length diagram) × (repeats (get_or diagram k []) w ≡ true)) words word
    (labelled_repeat diagram words labelled) (fine.within, fine.same) k lt

-- the labels of a constraint diagram without a fault have different letters
labelled_apart : (diagram words : List (List ℕ)) → IsLabelled diagram words → are_apart (labels_of diagram words) ≡ true
unfolding labels_under
labelled_apart [] _ no_line = refl
labelled_apart (main ∷ mains) _ no_line = refl
labelled_apart diagram _ (one_line_more words word labelled none) = (fine_label_line diagram words word none).apart

-- the labels of an entry without a fault lie in its diagram and have different letters
pub labels_are_labels : (diagram words : List (List ℕ)) → IsDrawn diagram → IsLabelled diagram words
    → are_labels (length (rows_of diagram)) (width_of (wanted diagram)) (labels_of diagram words) ≡ true
labels_are_labels diagram words drawn labelled =
    let inside =
    labels_under_in 0 (length (rows_of diagram)) (width_of (wanted diagram)) diagram words
    (labelled_repeat diagram words labelled) (main_lines diagram drawn) (omega arith) in
    rw (inside, labelled_apart diagram words labelled) refl
