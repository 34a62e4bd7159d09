-- A bare pattern fits where its pattern does, and matches there if the move is legal.
use Rattle.std.proofs.Common.{◌≡◌, ℕ, ◌+◌, ◌*◌, true, ◌&&◌, List, map, ℤ, pos, ◌-ℤ◌, refl}
use Rattle.std.proofs.Common.{arith}
use Rattle.std.specs.List.{list_all, flat_map}
use Rattle.std.specs.Prelude.{slice_index_or}
use Rattle.std.proofs.Math.Bool.{and-true}
use Rattle.go_rules.specs.declared.Colour.{Colour}
use Rattle.go_rules.specs.Position.{BoardState}
use Rattle.go_rules.specs.Play.{is_legal}
use Rattle.spiral.specs.Spiral.{place_at}
use Rattle.pat_types.specs.declared.letter.Letter.{Letter}
use Rattle.pat_types.specs.declared.letter.Letter.TheVariants.{Friend}
use Rattle.pat_types.specs.declared.cell.Drawn.{Drawn}
use Rattle.pat_types.specs.declared.cell.Drawn.TheVariants.{Nothing, OffBoard, Shows}
use Rattle.pat_types.specs.declared.cell.Strip.{Strip}
use Rattle.pat_types.specs.declared.cell.Strip.TheVariants.{Crosses, Edge, Beyond}
use Rattle.pat_types.specs.declared.pattern.Pattern.{Pattern}
use Rattle.pat_types.specs.Cells.{drawn_by, drawn_at}
use Rattle.cons_eval.specs.Readings.{Codes}
use Rattle.match_rules.specs.Fits.{strip_cells, drawn_fits, fits}
use Rattle.match_rules.specs.Conditions.{Advice, is_allowed}
use Rattle.match_rules.specs.Conditions.{is_agreed}
use Rattle.match_rules.specs.Match.{is_match}
use Rattle.pattern_coverage.specs.Bare.{IsBare}

-- what is drawn where two strips meet, by the letters and their columns
drawn_from : List Letter → ℕ → Strip → Strip → Drawn
drawn_from letters cols Beyond column = Nothing
drawn_from letters cols Edge Beyond = Nothing
drawn_from letters cols Edge Edge = OffBoard
drawn_from letters cols Edge (Crosses c) = OffBoard
drawn_from letters cols (Crosses r) Beyond = Nothing
drawn_from letters cols (Crosses r) Edge = OffBoard
drawn_from letters cols (Crosses r) (Crosses c) = Shows (slice_index_or letters (r * cols + c) Friend)

-- what a pattern draws is drawn by its letters
by_letters : (p : Pattern) (row column : Strip) → drawn_by p row column ≡ drawn_from p.letters p.cols row column
unfolding drawn_from
by_letters p Beyond column = refl
by_letters p Edge Beyond = refl
by_letters p Edge Edge = refl
by_letters p Edge (Crosses c) = refl
by_letters p (Crosses r) Beyond = refl
by_letters p (Crosses r) Edge = refl
by_letters p (Crosses r) (Crosses c) = refl

module _ (p b : Pattern) (is : IsBare p b) where
  -- a bare pattern draws what its pattern draws
  same_drawn : (r c : ℤ) → drawn_at b r c ≡ drawn_at p r c
  unfolding drawn_at
  same_drawn r c = grind (arith, by_letters, drawn_from)

  module _ (board : BoardState) (friend : Colour) (t m : ℕ) where
    -- a bare pattern fits where its pattern does
    pub same_fits : fits b board friend t m ≡ fits p board friend t m
    unfolding fits
    same_fits i =
        list_all (λ (cell : ℤ × ℤ). drawn_fits (same_drawn cell.0 cell.1 i) board friend
        (place_at board.size t m (cell.0 -ℤ pos (is.star i).0, cell.1 -ℤ pos (is.star i).1)))
        (flat_map (λ (r : ℤ). map (λ (c : ℤ). (r, c)) (strip_cells (is.cols i))) (strip_cells (is.rows i)))

    module _ (code : Codes) (advice : Advice) where
      -- a bare pattern asks for nothing beside a legal move
      agreed : is_agreed code advice b board friend t m ≡ true
      unfolding is_allowed
      agreed = grind arith

      -- a bare pattern matches where its pattern fits with a legal move
      pub bare_match : is_match code advice b board friend t m ≡ (fits p board friend t m && is_legal board friend m)
      bare_match = grind (arith, same_fits, agreed, and-true)
