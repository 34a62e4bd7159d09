-- The cells of a diagram as its reader sees them: the letters, and the edges that are drawn around them.
-- Rows and columns are counted from the first letter, so the strip before it is -1, and the strip behind the last
-- letter is the number of rows or of columns.
use Rattle.std.specs.Prelude.{◌≡◌, ◌↔◌, ℕ, ◌+◌, ◌*◌, ◌<◌, IsTrue, ℤ, pos, negsuc, slice_index_or}
use Rattle.pat_types.specs.declared.letter.Letter.{Letter}
use Rattle.pat_types.specs.declared.letter.Letter.TheVariants.{Friend}
use Rattle.pat_types.specs.declared.cell.Drawn.TheVariants.{OffBoard, Shows}
use Rattle.pat_types.specs.declared.pattern.Pattern.{Pattern}
use Rattle.pat_types.specs.Cells.{drawn_at}

-- the strip z is one of n strips of letters
abbrev pub IsStripOf : ℕ → ℤ → Type 0
IsStripOf n z = (k : ℕ) × (k < n) × (z ≡ pos k)

-- z is the strip before the first letter
abbrev pub IsBefore : ℤ → Type 0
IsBefore z = z ≡ negsuc 0

-- z is the strip behind the last of n strips of letters
abbrev pub IsBehind : ℕ → ℤ → Type 0
IsBehind n z = z ≡ pos n

-- the letter l stands in row r and column c
pub record IsLetterCell (p : Pattern) (l : Letter) (r c : ℤ) : Type 0 where
  pub in_row : IsStripOf p.rows r
  pub in_column : IsStripOf p.cols c
  pub there : l ≡ slice_index_or p.letters (in_row.0 * p.cols + in_column.0) Friend

-- the cell in row r and column c lies on a drawn edge: above, below or beside the letters, or in the corner between two
-- drawn edges
pub data IsEdgeCell (p : Pattern) (r c : ℤ) : Type 0 where
  on_top : IsTrue p.top → IsBefore r → IsStripOf p.cols c → IsEdgeCell p r c
  at_bottom : IsTrue p.bottom → IsBehind p.rows r → IsStripOf p.cols c → IsEdgeCell p r c
  on_left : IsTrue p.left → IsStripOf p.rows r → IsBefore c → IsEdgeCell p r c
  on_right : IsTrue p.right → IsStripOf p.rows r → IsBehind p.cols c → IsEdgeCell p r c
  top_left : IsTrue p.top → IsTrue p.left → IsBefore r → IsBefore c → IsEdgeCell p r c
  top_right : IsTrue p.top → IsTrue p.right → IsBefore r → IsBehind p.cols c → IsEdgeCell p r c
  bottom_left : IsTrue p.bottom → IsTrue p.left → IsBehind p.rows r → IsBefore c → IsEdgeCell p r c
  bottom_right : IsTrue p.bottom → IsTrue p.right → IsBehind p.rows r → IsBehind p.cols c → IsEdgeCell p r c

-- the pattern draws what its reader sees: a letter in exactly the cells where the letter stands, and the outside of the
-- board in exactly the edge cells
pub record IsDrawnAsSeen (p : Pattern) : Type 0 where
  pub letters : (l : Letter) (r c : ℤ) → drawn_at p r c ≡ Shows l ↔ IsLetterCell p l r c
  pub edges : (r c : ℤ) → drawn_at p r c ≡ OffBoard ↔ IsEdgeCell p r c
