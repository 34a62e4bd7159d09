-- The diagram of an entry without a fault is one that a pattern may have.
use Rattle.std.proofs.Common.{◌≡◌, ℕ, zero, suc, false, ◌+◌, ◌*◌, ◌/◌, ◌%◌, ◌<◌, List, length}
use Rattle.std.proofs.Common.{sym, ap, subst, ◌∙◌, arith}
use Rattle.std.specs.Prelude.{◌==◌}
use Rattle.std.specs.List.{position_or_len}
use Rattle.std.proofs.Math.Nat.{div-lt_iff_lt-mul, mod-lt, mod-add-div'}
use Rattle.pat_types.specs.Diagrams.{IsDiagram, is_star}
use Rattle.db_rules.specs.declared.shape.Shape.{Shape}
use Rattle.db_rules.specs.Diagram.{rows_of, has_top, has_bottom, wanted, letters_of, star_count, width_of}
use Rattle.db_rules.specs.Entries.{shape_in, star_place}
use Rattle.db_rules.specs.Accepted.{IsDrawn}
use Rattle.db_rules.proofs.MainDiagrams.{IsFit, drawn_few, drawn_lines, drawn_whole, drawn_fits}
use Rattle.db_rules.proofs.StarPlaces.{star_within, one_star_at}

-- the shape of no line
abbrev pub no_shape : Shape
no_shape = record { left = false; right = false; width = 0 }

-- the width that is wanted is that of the shape
pub width_of-shape_in : (diagram : List (List ℕ)) → width_of (wanted diagram) ≡ (shape_in diagram).width
width_of-shape_in diagram = grind arith

-- the shape of a diagram that has a letter fits
fit_shape : (diagram : List (List ℕ)) → IsDrawn diagram → 0 < width_of (wanted diagram) → IsFit (shape_in diagram)
fit_shape diagram drawn wide = grind (arith, drawn_fits)

-- a product above a number has factors above 0
pub factors : (a b n : ℕ) → n < a * b → (0 < a) × (0 < b)
factors zero b n lt = absurd (omega (arith, lt))
factors (suc a) zero n lt = absurd (omega (arith, lt))
factors (suc a) (suc b) n lt = (omega arith, omega arith)

-- the diagram of an entry with one star is one that a pattern may have
pub diagram_of_entry : (diagram : List (List ℕ)) → IsDrawn diagram → star_count (letters_of diagram) ≡ 1
    → IsDiagram (length (rows_of diagram)) (shape_in diagram).width (letters_of diagram) (has_top diagram)
    (has_bottom diagram) (shape_in diagram).left (shape_in diagram).right
    (star_place (shape_in diagram).width (letters_of diagram))
diagram_of_entry diagram drawn one =
    let star = position_or_len is_star (letters_of diagram) in
    let cols = (shape_in diagram).width in
    let whole : length (letters_of diagram) ≡ length (rows_of diagram) * cols =
    drawn_whole diagram drawn ∙ ap (λ n. length (rows_of diagram) * n) (width_of-shape_in diagram) in
    let within : star < length (rows_of diagram) * cols =
    subst (λ n. star < n) whole (star_within (letters_of diagram) one) in
    let some = factors (length (rows_of diagram)) cols star within in
    let again : star ≡ star / cols * cols + star % cols = omega (arith, mod-add-div' star cols) in
    let fit = fit_shape diagram drawn (subst (λ n. 0 < n) (sym (width_of-shape_in diagram)) some.1) in
    record {
      rows_from = some.0;
      columns_from = some.1;
      rows_to = omega (arith, drawn_lines diagram drawn, drawn_few diagram drawn);
      columns_to = fit.within;
      size = whole;
      star_row = (div-lt_iff_lt-mul {x = star} {y = length (rows_of diagram)} some.1).1 within;
      star_column = mod-lt star some.1;
      one_star =
          λ i lt. one_star_at (letters_of diagram) one i (subst (λ n. i < n) (sym whole) lt) ∙ ap (λ n. i == n) again;
    }
