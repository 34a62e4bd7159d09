-- A main diagram with one line more: its rows, its edges, its shape and its letters.
use Rattle.std.proofs.Common.{◌≡◌, ℕ, ◌+◌, ◌*◌, Bool, true, false, not, cond, List, [], ◌∷◌, ◌++◌, length}
use Rattle.std.proofs.Common.{Some, None, refl, arith}
use Rattle.std.specs.Prelude.{◌&&◌, ◌||◌, nat_lt}
use Rattle.std.specs.List.{list_all, filter_map}
use Rattle.std.proofs.lemmas.Bool.{lt-ltb, and_parts, not-false, eqb-true}
use Rattle.std.proofs.lemmas.List.{length-append, append-nil}
use Rattle.std.proofs.lemmas.List.Elements.{filter-append}
use Rattle.std.proofs.lemmas.List.Concat.{flat_map-append}
use Rattle.pat_types.specs.Diagrams.{drawn_strip}
use Rattle.db_rules.specs.declared.shape.Shape.{Shape}
use Rattle.db_rules.specs.declared.kind.FaultKind.{FaultKind}
use Rattle.db_rules.specs.Kinds.{first_of}
use Rattle.db_rules.specs.Diagram.{is_edge_line, is_row, rows_of, has_top, wanted, line_shape, other_width, letters_of}
use Rattle.db_rules.specs.Diagram.{letters_of_row, letter_of, is_letter, ends_in_edge, wanted_of, shape_of, inner, bar}
use Rattle.db_rules.specs.Diagram.{width_of}

-- the tests of a list of four faults of which none fits
pub record AreFalse (a b c d : Bool) : Type 0 where
  pub first : a ≡ false
  pub second : b ≡ false
  pub third : c ≡ false
  pub fourth : d ≡ false

-- if no fault of a list of four fits, no test passes
pub none_of_four : (a b c d : Bool) (k l m n : FaultKind) → first_of ((a, k) ∷ (b, l) ∷ (c, m) ∷ (d, n) ∷ []) ≡ None
    → AreFalse a b c d
none_of_four true b c d k l m n e = absurd cc
none_of_four false true c d k l m n e = absurd cc
none_of_four false false true d k l m n e = absurd cc
none_of_four false false false true k l m n e = absurd cc
none_of_four false false false false k l m n e = record { first = refl; second = refl; third = refl; fourth = refl }

-- a further line is one more of the rows where it is a row
pub rows_of-push : (words : List (List ℕ)) (word : List ℕ)
    → rows_of (words ++ word ∷ []) ≡ rows_of words ++ cond (is_row word) (word ∷ []) []
rows_of-push words word = grind (arith, filter-append)

-- a further line is counted as a row where it is one
pub length-rows_of-push : (words : List (List ℕ)) (word : List ℕ)
    → length (rows_of (words ++ word ∷ [])) ≡ length (rows_of words) + drawn_strip (is_row word)
length-rows_of-push words word = grind (arith, rows_of-push, length-append)

-- the first line alone decides whether there is a top edge
pub has_top-push : (words : List (List ℕ)) (word : List ℕ)
    → has_top (words ++ word ∷ []) ≡ cond (nat_lt 0 (length words)) (has_top words) (is_edge_line word)
has_top-push [] word = refl
has_top-push (w ∷ ws) word = rw (lt-ltb 0 (length (w ∷ ws)) (omega arith)) refl

-- a diagram ends in an edge line where its last line is one
pub ends_in_edge-push : (words : List (List ℕ)) (word : List ℕ) → ends_in_edge (words ++ word ∷ []) ≡ is_edge_line word
ends_in_edge-push [] word = refl
ends_in_edge-push (w ∷ []) word = refl
ends_in_edge-push (w ∷ v ∷ ws) word = ends_in_edge-push (v ∷ ws) word

-- the shape that is wanted is given by the first row, or else by the first line
wanted_of-push : (rows words : List (List ℕ)) (word : List ℕ) (row : Bool) → is_row word ≡ row
    → wanted_of (rows ++ cond row (word ∷ []) []) (words ++ word ∷ []) ≡ cond (nat_lt 0 (length rows) || not row
    && nat_lt 0 (length words)) (wanted_of rows words) (Some (line_shape word))
wanted_of-push (r ∷ rows) words word row e = rw (lt-ltb 0 (length (r ∷ rows)) (omega arith)) refl
wanted_of-push [] words word true e = rw e refl
wanted_of-push [] [] word false e = rw e refl
wanted_of-push [] (w ∷ ws) word false e = rw (lt-ltb 0 (length (w ∷ ws)) (omega arith)) refl

-- a further line gives the shape that is wanted if it is the first row or the first line
pub wanted-push : (words : List (List ℕ)) (word : List ℕ)
    → wanted (words ++ word ∷ []) ≡ cond (nat_lt 0 (length (rows_of words)) || not (is_row word)
    && nat_lt 0 (length words)) (wanted words) (Some (line_shape word))
unfolding wanted
wanted-push words word = grind (arith, rows_of-push, wanted_of-push)

-- the letters of a further row stand behind those of the rows above it
pub letters_of-push : (words : List (List ℕ)) (word : List ℕ)
    → letters_of (words ++ word ∷ []) ≡ letters_of words ++ cond (is_row word) (letters_of_row word) []
letters_of-push words word = grind (arith, rows_of-push, flat_map-append, append-nil)

-- bytes that are letters come to as many letters
length-letters : (bytes : List ℕ) → list_all is_letter bytes ≡ true → length (filter_map letter_of bytes) ≡ length bytes
length-letters [] e = refl
length-letters (b ∷ bs) e = grind (arith, and_parts, length-letters bs)

-- what stands between the edges of a row are letters
pub row_letters : (word : List ℕ) → is_row word ≡ true → list_all is_letter (inner bar word) ≡ true
unfolding is_row
row_letters word e = (and_parts (nat_lt 0 (length (inner bar word))) (list_all is_letter (inner bar word)) e).1

-- a shape is as wide as what stands between its edges
pub shape_of-width : (b : ℕ) (word : List ℕ) → (shape_of b word).width ≡ length (inner b word)
unfolding shape_of
shape_of-width b word = refl

-- a row has as many letters as its shape is wide
pub length-letters_of_row : (word : List ℕ) → is_row word ≡ true
    → length (letters_of_row word) ≡ (line_shape word).width
length-letters_of_row word e = grind (arith, length-letters, row_letters, shape_of-width)

-- with one line more there are still as many letters as the rows and the width of a row come to
count_letters : (rows words : List (List ℕ)) (letters : ℕ) (s : Shape) (row : Bool)
    → letters ≡ length rows * width_of (wanted_of rows words) → other_width s (wanted_of rows words) ≡ false
    → letters + cond row s.width 0 ≡ (length rows + drawn_strip row) * width_of (cond (nat_lt 0 (length rows) || not row
    && nat_lt 0 (length words)) (wanted_of rows words) (Some s))
count_letters [] words letters s true whole even = omega arith
count_letters [] words letters s false whole even = omega arith
count_letters (r ∷ rows) words letters s row whole even = grind (arith, eqb-true, not-false, lt-ltb)

-- with a further line as wide as is wanted a diagram has as many letters as its rows and its width come to
pub whole-push : (words : List (List ℕ)) (word : List ℕ)
    → length (letters_of words) ≡ length (rows_of words) * width_of (wanted words)
    → other_width (line_shape word) (wanted words) ≡ false
    → length (letters_of (words ++ word ∷ [])) ≡ length (rows_of (words ++ word ∷ [])) * width_of
    (wanted (words ++ word ∷ []))
unfolding wanted
whole-push words word whole even =
    grind (
      arith,
      letters_of-push words word,
      length-append (letters_of words) (cond (is_row word) (letters_of_row word) []),
      count_letters (rows_of words) words (length (letters_of words)) (line_shape word) (is_row word) whole even,
      length-rows_of-push words word,
      wanted-push words word,
      length-letters_of_row word,
    )
