-- When a pattern fits at an anchor, by its cells.
use Rattle.std.specs.Prelude.{◌≡◌, ℕ, ◌*◌, ◌<◌, true, ℤ, pos, ◌-ℤ◌, List, Some, slice_get}
use Rattle.go_rules.specs.declared.Colour.{Colour}
use Rattle.go_rules.specs.Position.{BoardState}
use Rattle.go_rules.specs.Transform.{transformations}
use Rattle.spiral.specs.Spiral.{place_at}
use Rattle.pat_types.specs.declared.pattern.Pattern.{Pattern}
use Rattle.pat_types.specs.Cells.{drawn_at, anchor_of}
use Rattle.match_rules.specs.Fits.{drawn_fits}
use Rattle.dfa_match.specs.declared.Hit.{Hit}

-- what is drawn in each cell of the pattern fits at its place, with the anchor's cell at m under t: letters lie on the
-- board and admit what stands there, and edge cells lie off it
pub record FitsAt (p : Pattern) (at : BoardState) (friend : Colour) (t m : ℕ) : Type 0 where
  pub cells : (r c : ℤ) → drawn_fits (drawn_at p r c) at friend
      (place_at at.size t m (r -ℤ pos (anchor_of p).0, c -ℤ pos (anchor_of p).1)) ≡ true

-- the pattern with the hit's number fits at the hit's anchor under the hit's transformation
pub record IsFit (patterns : List Pattern) (at : BoardState) (friend : Colour) (hit : Hit) : Type 0 where
  pub transform : hit.transform < transformations
  pub anchor : hit.anchor < at.size * at.size
  pub pattern : Pattern
  pub number : slice_get patterns hit.pattern ≡ Some pattern
  pub fits : FitsAt pattern at friend hit.transform hit.anchor
