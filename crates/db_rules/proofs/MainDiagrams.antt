-- What is true of the main diagram of an entry without a fault.
use Rattle.std.proofs.Common.{◌≡◌, ℕ, zero, suc, ◌+◌, ◌-◌, ◌*◌, ◌<◌, ◌≤◌, Bool, true, false, not, cond, List, [], ◌∷◌}
use Rattle.std.proofs.Common.{◌++◌, length, take, get_or, Option, Some, None, refl, sym, ap, subst, ◌∙◌, arith}
use Rattle.std.specs.Prelude.{◌&&◌, ◌||◌, ◌==◌, nat_lt, slice_index, is_some, IfSome}
use Rattle.std.specs.List.{list_all}
use Rattle.std.proofs.lemmas.Bool.{and_parts, or_parts, ltb-false, leb-false, ltb-true, eqb-true, cases_lt, not-false}
use Rattle.std.proofs.lemmas.Bool.{false_from_ne_true}
use Rattle.std.proofs.Math.ListN.{get_or-append}
use Rattle.std.proofs.Math.Seq.{get_or-append_seam}
use Rattle.std.proofs.lemmas.List.{length-append, length-take}
use Rattle.go_rules.specs.Board.{largest_size}
use Rattle.pat_types.specs.Diagrams.{drawn_strip}
use Rattle.db_rules.specs.declared.shape.Shape.{Shape}
use Rattle.db_rules.specs.Diagram.{is_letter, is_dash, plus, bar, begins, without_left, inner, is_edge_line}
use Rattle.db_rules.specs.Diagram.{is_row, shape_of, rows_of, has_top, has_bottom, wanted}
use Rattle.db_rules.specs.Diagram.{line_shape, other_width, is_misplaced, diagram_fault, letters_of, width_of}
use Rattle.db_rules.specs.Accepted.{IsDrawn, no_line, one_line_more}
use Rattle.db_rules.proofs.OneMoreLine.{none_of_four, length-rows_of-push, has_top-push, ends_in_edge-push, wanted-push}
use Rattle.db_rules.proofs.OneMoreLine.{whole-push}

-- the first byte of a front that has a byte, all of which pass, passes
front_passes : (P : ℕ → Bool) (k b : ℕ) (bs : List ℕ) → nat_lt 0 (length (take k (b ∷ bs))) ≡ true
    → list_all P (take k (b ∷ bs)) ≡ true → P b ≡ true
front_passes P zero b bs some all = absurd cc
front_passes P (suc k) b bs some all = (and_parts (P b) (list_all P (take k bs)) all).0

-- the first byte of a word whose inner part has a byte, all of which pass, is the edge's byte or passes
first_passes : (P : ℕ → Bool) (m b : ℕ) (bs : List ℕ)
    → (nat_lt 0 (length (inner m (b ∷ bs))) && list_all P (inner m (b ∷ bs))) ≡ true → (b == m) ≡ false → P b ≡ true
first_passes P m b bs both apart = grind (arith, and_parts, front_passes)

-- a byte that a row may begin with is none that an edge line may begin with
begins_one : (b : ℕ) (barred crossed : Bool) → (b == bar) ≡ barred → (b == plus) ≡ crossed
    → (barred ≡ false → is_letter b ≡ true) → (crossed ≡ false → is_dash b ≡ true) → ⊥
begins_one b v1 v2 e f letter dash = grind (arith, eqb-true)

-- a row is no edge line
pub row_is_no_edge_line : (word : List ℕ) → is_row word ≡ true → is_edge_line word ≡ false
unfolding is_row is_edge_line
row_is_no_edge_line [] row = absurd cc
row_is_no_edge_line (b ∷ bs) row = grind (arith, false_from_ne_true, begins_one, first_passes)

-- the inner part of a rest and the byte behind it are within the rest, where the byte is not 0
pub inner_within : (m : ℕ) (rest : List ℕ) → (0 == m) ≡ false
    → length (take (length rest - drawn_strip (slice_index rest (length rest - 1) == m)) rest) + drawn_strip
    (slice_index rest (length rest - 1) == m) ≤ length rest
inner_within m [] apart = rw apart (omega arith)
inner_within m (x ∷ xs) apart = grind (arith, length-take)

-- a word without its left edge, and that edge, are the word
pub left_within : (m : ℕ) (word : List ℕ) → (0 == m) ≡ false
    → drawn_strip (begins m word) + length (without_left m word) ≤ length word
left_within m [] apart = rw apart (omega arith)
left_within m (b ∷ bs) apart = grind arith

-- a shape and its edges lie within the word that has it
pub shape_within : (m : ℕ) (word : List ℕ) → (0 == m) ≡ false
    → drawn_strip (shape_of m word).left + (shape_of m word).width + drawn_strip (shape_of m word).right ≤ length word
unfolding shape_of
shape_within m word apart = omega (arith, left_within m word apart, inner_within m (without_left m word) apart)

-- the shape has a letter, and lies with its edges within the largest board
pub record IsFit (s : Shape) : Type 0 where
  pub some : 0 < s.width
  pub within : drawn_strip s.left + s.width + drawn_strip s.right ≤ largest_size

-- a row has a letter
wide_row : (word : List ℕ) → is_row word ≡ true → 0 < (shape_of bar word).width
unfolding is_row shape_of
wide_row word row = ltb-true 0 (length (inner bar word)) (and_parts (nat_lt 0 (length (inner bar word))) _ row).0

-- an edge line has a `-`
wide_edge : (word : List ℕ) → is_edge_line word ≡ true → 0 < (shape_of plus word).width
unfolding is_edge_line shape_of
wide_edge word edge = ltb-true 0 (length (inner plus word)) (and_parts (nat_lt 0 (length (inner plus word))) _ edge).0

-- a row or an edge line that is short enough has a shape that fits
line_fits : (word : List ℕ) → (is_edge_line word || is_row word) ≡ true → length word ≤ largest_size
    → IsFit (line_shape word)
line_fits word line short = grind (arith, wide_row, shape_within, wide_edge)

-- what is true of a further line of a diagram that has no fault
pub record IsFineLine (words : List (List ℕ)) (word : List ℕ) : Type 0 where
  pub line : (is_edge_line word || is_row word) ≡ true
  pub no_bottom : has_bottom words ≡ false
  pub even : other_width (line_shape word) (wanted words) ≡ false
  pub short : length word ≤ largest_size
  pub few : length words < largest_size

-- a further line without a fault passes each test
pub fine_line : (words : List (List ℕ)) (word : List ℕ) → diagram_fault words word ≡ None → IsFineLine words word
unfolding diagram_fault is_misplaced
fine_line words word none = grind (arith, none_of_four, or_parts, not-false, ltb-false, leb-false)

-- a diagram without a fault has at most as many lines as the largest board has rows
pub drawn_few : (words : List (List ℕ)) → IsDrawn words → length words ≤ largest_size
drawn_few _ no_line = omega arith
drawn_few _ (one_line_more words word drawn none) =
    omega (arith, (fine_line words word none).few, length-append words (word ∷ []))

-- one line more is one row or one edge more, where the bottom edge is not drawn yet
one_more : (rows lines : ℕ) (row edge top begun rowed : Bool) → (edge || row) ≡ true → (row ≡ true → edge ≡ false)
    → (begun ≡ false → lines ≡ 0) → (rowed ≡ true → 0 < rows + drawn_strip row)
    → rows + drawn_strip top ≤ lines
    → rows + drawn_strip row + drawn_strip (cond begun top edge) + drawn_strip (rowed && edge) ≤ lines + 1
one_more rows lines true true top begun rowed line apart first some counted = absurd (cc (apart refl))
one_more rows lines true false top true true line apart first some counted = omega (arith, counted)
one_more rows lines true false top true false line apart first some counted = omega (arith, counted)
one_more rows lines true false top false true line apart first some counted = omega (arith, counted)
one_more rows lines true false top false false line apart first some counted = omega (arith, counted)
one_more rows lines false true top true true line apart first some counted = omega (arith, counted)
one_more rows lines false true top true false line apart first some counted = omega (arith, counted)
one_more rows lines false true top false true line apart first some counted = grind arith
one_more rows lines false true top false false line apart first some counted = omega (arith, counted, first refl)
one_more rows lines false false top begun rowed line apart first some counted = absurd cc

-- its rows and its edges at the top and the bottom are lines of it
pub drawn_lines : (words : List (List ℕ)) → IsDrawn words
    → length (rows_of words) + drawn_strip (has_top words) + drawn_strip (has_bottom words) ≤ length words
drawn_lines _ no_line = omega arith
drawn_lines _ (one_line_more words word drawn none) =
    let fine = fine_line words word none in
    let before : length (rows_of words) + drawn_strip (has_top words) ≤ length words =
    omega (arith, drawn_lines words drawn) in
    let rows = length-rows_of-push words word in
    let all =
    one_more (length (rows_of words)) (length words) (is_row word) (is_edge_line word) (has_top words)
    (nat_lt 0 (length words)) (nat_lt 0 (length (rows_of words) + drawn_strip (is_row word)))
    fine.line (row_is_no_edge_line word) (λ e. omega (arith, ltb-false _ _ e)) (ltb-true 0 _) before in
    rw (rows, has_top-push words word, ends_in_edge-push words word, length-append words (word ∷ [])) all

-- its letters are as many as its rows times its width
pub drawn_whole : (words : List (List ℕ)) → IsDrawn words
    → length (letters_of words) ≡ length (rows_of words) * width_of (wanted words)
drawn_whole _ no_line = omega arith
drawn_whole q1 (one_line_more words word drawn none) = grind (arith, whole-push, fine_line, drawn_whole words drawn)

-- its shape fits, if it has one
pub drawn_fits : (words : List (List ℕ)) → IsDrawn words → IfSome (wanted words) IsFit
unfolding wanted
drawn_fits _ no_line = tt
drawn_fits _ (one_line_more words word drawn none) =
    let fine = fine_line words word none in
    subst (λ o. IfSome o IsFit) (sym (wanted-push words word)) (by_first (nat_lt 0 (length (rows_of words))
    || not (is_row word) && nat_lt 0 (length words)) (drawn_fits words drawn) (line_fits word fine.line fine.short))
  where
    by_first : (b : Bool) → IfSome (wanted words) IsFit → IsFit (line_shape word)
        → IfSome (cond b (wanted words) (Some (line_shape word))) IsFit
    by_first true before now = before
    by_first false before now = now

-- a diagram with a line has a shape
has_shape : (words : List (List ℕ)) → 0 < length words → is_some (wanted words) ≡ true
unfolding wanted
has_shape words some = grind arith

-- a shape of the same width leaves the width
same_width : (kept : Bool) (s : Shape) (o : Option Shape) → is_some o ≡ true → other_width s o ≡ false
    → width_of (cond kept o (Some s)) ≡ width_of o
same_width true s o there even = refl
same_width false s None there even = absurd cc
same_width false s (Some w) there even = eqb-true _ _ (not-false (s.width == w.width) even)

-- the shape that is kept has the width of the further line
width_now : (kept : Bool) (s : Shape) (o : Option Shape) → (kept ≡ true → is_some o ≡ true) → other_width s o ≡ false
    → s.width ≡ width_of (cond kept o (Some s))
width_now true s None there even = absurd (cc (there refl))
width_now true s (Some w) there even = eqb-true _ _ (not-false (s.width == w.width) even)
width_now false s o there even = refl

-- whether the shape so far is kept behind a further line
abbrev is_kept : List (List ℕ) → List ℕ → Bool
is_kept words word = nat_lt 0 (length (rows_of words)) || not (is_row word) && nat_lt 0 (length words)

-- a shape that is kept is there
kept_there : (words : List (List ℕ)) (word : List ℕ) → is_kept words word ≡ true → is_some (wanted words) ≡ true
kept_there [] word kept = grind arith
kept_there (w ∷ words) word kept = has_shape (w ∷ words) (omega arith)

-- a further line that is no first one leaves the width
width_stays : (words : List (List ℕ)) (word : List ℕ) → 0 < length words → IsFineLine words word
    → width_of (wanted (words ++ word ∷ [])) ≡ width_of (wanted words)
width_stays words word some fine = grind (arith, wanted-push, same_width, has_shape)

-- the shape of a row is its shape as a line
line_shape-row : (word : List ℕ) → is_row word ≡ true → shape_of bar word ≡ line_shape word
line_shape-row word row = rw row refl

-- what holds of each of some words, and of one more behind them, holds of each of them together
pub each_more : (P : ℕ → List ℕ → Type 0) (words : List (List ℕ)) (word : List ℕ)
    → ((k : ℕ) → k < length words → P k (get_or words k [])) → P (length words) word
    → (k : ℕ) → k < length (words ++ word ∷ []) → P k (get_or (words ++ word ∷ []) k [])
each_more P words word all last k lt = grind (arith, cases_lt, get_or-append, length-append, get_or-append_seam)

-- each row of the diagram has its width
pub drawn_even : (words : List (List ℕ)) → IsDrawn words → (k : ℕ) → k < length words
    → is_row (get_or words k []) ≡ true → (shape_of bar (get_or words k [])).width ≡ width_of (wanted words)
drawn_even _ no_line k lt = absurd (omega arith)
drawn_even _ (one_line_more words word drawn none) k lt =
    let fine = fine_line words word none in
    each_more (λ k w. is_row w ≡ true → (shape_of bar w).width ≡ width_of (wanted (words ++ word ∷ []))) words word
    (λ k before row. drawn_even words drawn k before row ∙ sym (width_stays words word (omega arith) fine))
    (λ row. ap (λ (s : Shape). s.width) (line_shape-row word row)
    ∙ width_now (is_kept words word) (line_shape word) (wanted words) (kept_there words word) fine.even
    ∙ ap width_of (sym (wanted-push words word))) k lt

-- each line of the diagram is an edge line or a row
pub drawn_line_kinds : (words : List (List ℕ)) → IsDrawn words → (k : ℕ) → k < length words
    → (is_edge_line (get_or words k []) || is_row (get_or words k [])) ≡ true
drawn_line_kinds _ no_line k lt = absurd (omega arith)
drawn_line_kinds _ (one_line_more words word drawn none) k lt =
    each_more (λ k w. (is_edge_line w || is_row w) ≡ true) words word (drawn_line_kinds words drawn)
    (fine_line words word none).line k lt
