-- The drawn cells of a pattern are its letters and its edges, as a reader of the diagram sees them.
use Rattle.std.proofs.Common.{◌≡◌, ℕ, ◌<◌, Bool, true, false, cond, refl, sym, ap, ◌∙◌, inl, inr, ◌⊎◌, arith}
use Rattle.std.specs.Prelude.{IsTrue, ℤ, pos, negsuc, nat_lt, ◌==◌, ◌&&◌}
use Rattle.std.proofs.lemmas.Bool.{lt-ltb, le-ltb, ltb-true, eq-eqb, eqb-true}
use Rattle.pat_types.specs.declared.letter.Letter.{Letter}
use Rattle.pat_types.specs.declared.cell.Strip.{Strip}
use Rattle.pat_types.specs.declared.cell.Strip.TheVariants.{Crosses, Edge, Beyond}
use Rattle.pat_types.specs.declared.cell.Drawn.TheVariants.{OffBoard, Shows}
use Rattle.pat_types.specs.declared.pattern.Pattern.{Pattern}
use Rattle.pat_types.specs.Cells.{strip_at, drawn_by, drawn_at}
use Rattle.pat_types.specs.Edges.{IsStripOf, IsBefore, IsBehind, IsLetterCell, IsEdgeCell, on_top, at_bottom, on_left}
use Rattle.pat_types.specs.Edges.{on_right, top_left, top_right, bottom_left, bottom_right, IsDrawnAsSeen}

-- the strip before the first is an edge where one is drawn there
before_is_edge : (n : ℕ) (before after : Bool) (z : ℤ) → IsTrue before → IsBefore z → strip_at n before after z ≡ Edge
before_is_edge n before after z drawn first = rw first (rw drawn refl)

-- the strip behind the last is an edge where one is drawn there
behind_is_edge : (n : ℕ) (before after : Bool) (z : ℤ) → IsTrue after → IsBehind n z → strip_at n before after z ≡ Edge
behind_is_edge n before after z drawn last =
    rw last (rw (le-ltb n n (omega arith)) (rw (eq-eqb n n refl) (rw drawn refl)))

-- a strip of letters crosses them
letters_are_crossed : (n : ℕ) (before after : Bool) (z : ℤ) → (strip : IsStripOf n z)
    → strip_at n before after z ≡ Crosses strip.0
letters_are_crossed n before after z strip = rw strip.2 (rw (lt-ltb strip.0 n strip.1) refl)

-- what the strip z is, by where it lies among n strips
abbrev LiesAt : ℕ → Bool → Bool → ℤ → Strip → Type 0
LiesAt n before after z (Crosses k) = (k < n) × (z ≡ pos k)
LiesAt n before after z Edge = (IsTrue before × IsBefore z) ⊎ (IsTrue after × IsBehind n z)
LiesAt n before after z Beyond = Unit {0}

-- each strip lies where its kind says
lies_at : (n : ℕ) (before after : Bool) (z : ℤ) → LiesAt n before after z (strip_at n before after z)
lies_at n before after (pos k) = by_less (nat_lt k n) refl
  where
    by_end : (last drawn : Bool) → (k == n) ≡ last → after ≡ drawn
        → LiesAt n before after (pos k) (cond (last && drawn) Edge Beyond)
    by_end true true e d = inr (d, ap pos (eqb-true k n e))
    by_end true false e d = tt
    by_end false drawn e d = tt

    by_less : (less : Bool) → nat_lt k n ≡ less
        → LiesAt n before after (pos k) (cond less (Crosses k) (cond ((k == n) && after) Edge Beyond))
    by_less true e = (ltb-true k n e, refl)
    by_less false e = by_end (k == n) after refl refl
lies_at n before after (negsuc k) = by_first (k == 0) before refl refl
  where
    by_first : (first drawn : Bool) → (k == 0) ≡ first → before ≡ drawn
        → LiesAt n before after (negsuc k) (cond (first && drawn) Edge Beyond)
    by_first true true e d = inl (d, ap negsuc (eqb-true k 0 e))
    by_first true false e d = tt
    by_first false drawn e d = tt

module _ (p : Pattern) (r c : ℤ) where
  -- what two strips are decides what is drawn where they meet
  drawn_from : (row column : Strip) → strip_at p.rows p.top p.bottom r ≡ row → strip_at p.cols p.left p.right c ≡ column
      → drawn_at p r c ≡ drawn_by p row column
  unfolding drawn_at
  drawn_from row column row_is column_is = rw row_is (rw column_is refl)

  -- an edge cell is drawn as one that lies off the board
  edge_cell_is_off : IsEdgeCell p r c → drawn_at p r c ≡ OffBoard
  edge_cell_is_off (on_top drawn row column) =
      drawn_from _ _ (before_is_edge _ _ _ r drawn row) (letters_are_crossed _ _ _ c column)
  edge_cell_is_off (at_bottom drawn row column) =
      drawn_from _ _ (behind_is_edge _ _ _ r drawn row) (letters_are_crossed _ _ _ c column)
  edge_cell_is_off (on_left drawn row column) =
      drawn_from _ _ (letters_are_crossed _ _ _ r row) (before_is_edge _ _ _ c drawn column)
  edge_cell_is_off (on_right drawn row column) =
      drawn_from _ _ (letters_are_crossed _ _ _ r row) (behind_is_edge _ _ _ c drawn column)
  edge_cell_is_off (top_left drawn too row column) =
      drawn_from _ _ (before_is_edge _ _ _ r drawn row) (before_is_edge _ _ _ c too column)
  edge_cell_is_off (top_right drawn too row column) =
      drawn_from _ _ (before_is_edge _ _ _ r drawn row) (behind_is_edge _ _ _ c too column)
  edge_cell_is_off (bottom_left drawn too row column) =
      drawn_from _ _ (behind_is_edge _ _ _ r drawn row) (before_is_edge _ _ _ c too column)
  edge_cell_is_off (bottom_right drawn too row column) =
      drawn_from _ _ (behind_is_edge _ _ _ r drawn row) (behind_is_edge _ _ _ c too column)

  -- where two edges meet is a corner between drawn edges
  corner : (IsTrue p.top × IsBefore r) ⊎ (IsTrue p.bottom × IsBehind p.rows r) → (IsTrue p.left × IsBefore c)
      ⊎ (IsTrue p.right × IsBehind p.cols c) → IsEdgeCell p r c
  corner (inl row) (inl column) = top_left row.0 column.0 row.1 column.1
  corner (inl row) (inr column) = top_right row.0 column.0 row.1 column.1
  corner (inr row) (inl column) = bottom_left row.0 column.0 row.1 column.1
  corner (inr row) (inr column) = bottom_right row.0 column.0 row.1 column.1

  -- a cell that is drawn off the board lies on an edge
  off_is_edge_cell : (row column : Strip) → LiesAt p.rows p.top p.bottom r row → LiesAt p.cols p.left p.right c column
      → drawn_by p row column ≡ OffBoard → IsEdgeCell p r c
  off_is_edge_cell Beyond column row_at column_at off = absurd cc
  off_is_edge_cell Edge Beyond row_at column_at off = absurd cc
  off_is_edge_cell Edge Edge row_at column_at off = corner row_at column_at
  off_is_edge_cell Edge (Crosses k) (inl row_at) column_at off = on_top row_at.0 row_at.1 (k, column_at.0, column_at.1)
  off_is_edge_cell Edge (Crosses k) (inr row_at) column_at off =
      at_bottom row_at.0 row_at.1 (k, column_at.0, column_at.1)
  off_is_edge_cell (Crosses k) Beyond row_at column_at off = absurd cc
  off_is_edge_cell (Crosses k) Edge row_at (inl column_at) off = on_left column_at.0 (k, row_at.0, row_at.1) column_at.1
  off_is_edge_cell (Crosses k) Edge row_at (inr column_at) off =
      on_right column_at.0 (k, row_at.0, row_at.1) column_at.1
  off_is_edge_cell (Crosses k) (Crosses m) row_at column_at off = absurd cc

  -- a letter's cell shows it
  letter_cell_shows : (l : Letter) → IsLetterCell p l r c → drawn_at p r c ≡ Shows l
  letter_cell_shows l cell =
      drawn_from _ _ (letters_are_crossed _ _ _ r cell.in_row) (letters_are_crossed _ _ _ c cell.in_column)
      ∙ ap Shows (sym cell.there)

  -- a cell shows no more than one letter
  shown_is : (a b : Letter) → Shows a ≡ Shows b → a ≡ b
  shown_is a b e = cc

  -- a cell that shows a letter is one of that letter
  shows_letter_cell : (l : Letter) (row column : Strip) → LiesAt p.rows p.top p.bottom r row
      → LiesAt p.cols p.left p.right c column → drawn_by p row column ≡ Shows l → IsLetterCell p l r c
  shows_letter_cell l Beyond column row_at column_at shows = absurd cc
  shows_letter_cell l Edge Beyond row_at column_at shows = absurd cc
  shows_letter_cell l Edge Edge row_at column_at shows = absurd cc
  shows_letter_cell l Edge (Crosses k) row_at column_at shows = absurd cc
  shows_letter_cell l (Crosses k) Beyond row_at column_at shows = absurd cc
  shows_letter_cell l (Crosses k) Edge row_at column_at shows = absurd cc
  shows_letter_cell l (Crosses k) (Crosses m) row_at column_at shows = record {
    in_row = (k, row_at.0, row_at.1);
    in_column = (m, column_at.0, column_at.1);
    there = sym (shown_is _ l shows);
  }

-- the cells of a pattern are drawn as a reader of its diagram sees them
pub drawn_as_seen : (p : Pattern) → IsDrawnAsSeen p
unfolding drawn_at
drawn_as_seen p = record {
  letters =
      λ l r c. (
        λ shows. shows_letter_cell p r c l _ _ (lies_at p.rows p.top p.bottom r)
            (lies_at p.cols p.left p.right c) shows,
        letter_cell_shows p r c l,
      );
  edges = λ r c. (
    λ off. off_is_edge_cell p r c _ _ (lies_at p.rows p.top p.bottom r)
        (lies_at p.cols p.left p.right c) off,
    edge_cell_is_off p r c,
  );
}
