-- Drawn cells lie within the largest offset of the anchor, by rows and by columns.
use Rattle.std.proofs.Common.{◌≡◌, ℕ, ◌+◌, ◌<◌, Bool, true, false, ◌&&◌, cond, eqb, ltb}
use Rattle.std.proofs.Common.{ℤ, pos, negsuc, ◌-ℤ◌, ◌≤ℤ◌, neg_ℤ, refl, arith}
use Rattle.std.proofs.lemmas.Int.{ints}
use Rattle.std.proofs.lemmas.Nat.{div_below}
use Rattle.std.proofs.lemmas.List.Quantifiers.{position-Some}
use Rattle.std.proofs.lemmas.Bool.{false≢true, and_parts, eqb-true, ltb-true}
use Rattle.go_rules.specs.Transform.{IsNear}
use Rattle.pat_types.specs.declared.cell.Strip.{Strip}
use Rattle.pat_types.specs.declared.cell.Strip.TheVariants.{Crosses, Edge, Beyond}
use Rattle.pat_types.specs.declared.pattern.Pattern.{Pattern}
use Rattle.pat_types.specs.Diagrams.{drawn_strip}
use Rattle.pat_types.specs.Cells.{strip_at, drawn_by, drawn_at, anchor_of}
use Rattle.dfa_core.specs.Fits.{is_drawn}

-- the strip crosses the letters or is an edge
abbrev pub is_strip : Strip → Bool
is_strip (Crosses k) = true
is_strip Edge = true
is_strip Beyond = false

-- a strip from one before the first to one past the last
pub record IsAround (n : ℕ) (before after : Bool) (z : ℤ) : Type 0 where
  pub low : neg_ℤ (pos (drawn_strip before)) ≤ℤ z
  pub high : z ≤ℤ (pos (n + drawn_strip after) -ℤ pos 1)

-- behind the letters there is no strip but an edge that is drawn there
strip_behind : (n k : ℕ) (after within edge : Bool) → ltb k n ≡ within → (eqb k n && after) ≡ edge
    → is_strip (cond within (Crosses k) (cond edge Edge Beyond)) ≡ true → k < n + drawn_strip after
strip_behind n k after true edge low at e = omega (arith, ltb-true k n low)
strip_behind n k after false true low at e = grind (arith, and_parts, eqb-true)
strip_behind n k after false false low at e = absurd (false≢true e)

-- nor before them
strip_before : (k : ℕ) (before edge : Bool) → (eqb k 0 && before) ≡ edge → is_strip (cond edge Edge Beyond) ≡ true
    → (k ≡ 0) × (drawn_strip before ≡ 1)
strip_before k before true at e = grind (arith, and_parts, eqb-true)
strip_before k before false at e = absurd (false≢true e)

-- a strip that crosses the letters or is an edge is around them
pub strip_around : (n : ℕ) (before after : Bool) (z : ℤ) → is_strip (strip_at n before after z) ≡ true
    → IsAround n before after z
strip_around n before after (pos k) e = grind (arith, strip_behind)
strip_around n before after (negsuc k) e = grind (arith, strip_before)

-- both strips that meet at a drawn cell cross the letters or are edges
pub drawn_strips : (p : Pattern) (row column : Strip) → is_drawn (drawn_by p row column) ≡ true
    → (is_strip row ≡ true) × (is_strip column ≡ true)
drawn_strips p Beyond column e = absurd (false≢true e)
drawn_strips p Edge Beyond e = absurd (false≢true e)
drawn_strips p Edge Edge e = (refl, refl)
drawn_strips p Edge (Crosses c) e = (refl, refl)
drawn_strips p (Crosses r) Beyond e = absurd (false≢true e)
drawn_strips p (Crosses r) Edge e = (refl, refl)
drawn_strips p (Crosses r) (Crosses c) e = (refl, refl)

-- the anchor is a cell of the letters
pub anchor_within : (p : Pattern) → ((anchor_of p).0 < p.rows) × ((anchor_of p).1 < p.cols)
unfolding anchor_of
anchor_within p = grind (arith, position-Some, div_below)

-- a drawn cell lies within the largest offset of the anchor
pub drawn_near : (p : Pattern) (r c : ℤ) → is_drawn (drawn_at p r c) ≡ true
    → IsNear (r -ℤ pos (anchor_of p).0, c -ℤ pos (anchor_of p).1)
unfolding drawn_at
drawn_near p r c e =
    let strips = drawn_strips p (strip_at p.rows p.top p.bottom r) (strip_at p.cols p.left p.right c) e in
    let row = strip_around p.rows p.top p.bottom r strips.0 in
    let column = strip_around p.cols p.left p.right c strips.1 in
    let anchor = anchor_within p in
    record {
      row_low = omega (arith, ints, row.low, anchor.0, p.diagram.rows_to);
      row_high = omega (arith, ints, row.high, p.diagram.rows_to);
      column_low = omega (arith, ints, column.low, anchor.1, p.diagram.columns_to);
      column_high = omega (arith, ints, column.high, p.diagram.columns_to);
    }
