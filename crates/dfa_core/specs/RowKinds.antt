-- What a row means to a walk that enters it.
use Rattle.std.specs.Prelude.{◌≡◌, ℕ, ◌<◌, ◌≤◌, ◌^◌, Bool, ◌&&◌, ◌==◌, List, [], ◌∷◌, length, slice_index_or}
use Rattle.std.specs.Prelude.{if◌then◌else◌}
use Rattle.dfa_core.specs.declared.kind.RowKind.{RowKind}
use Rattle.dfa_core.specs.declared.kind.RowKind.TheVariants.{Plain, Accepting, Dead}
use Rattle.dfa_core.specs.Automata.{Row, row_at}
use Rattle.dfa_core.specs.Tables.{Flat, rows_in, IsFlat}

-- whether each of the four targets is r itself, so that row r is never left
abbrev pub stays_at : ℕ → List ℕ → Bool
stays_at r targets = (slice_index_or targets 0 0 == r) && (slice_index_or targets 1 0 == r) &&
    (slice_index_or targets 2 0 == r) && (slice_index_or targets 3 0 == r)

-- the kind of row r with these targets and numbers
abbrev pub kind_with : ℕ → List ℕ → List ℕ → RowKind
kind_with r targets [] = if stays_at r targets then Dead else Plain
kind_with r targets (n ∷ numbers) = Accepting

-- the kind of row r
abbrev pub kind_at : List Row → ℕ → RowKind
kind_at rows r = kind_with r (row_at rows r).targets (row_at rows r).numbers

-- kinds lists the kind of each row
pub record AreKinds (rows : List Row) (kinds : List RowKind) : Type 0 where
  pub one_each : length kinds ≡ length rows
  pub each : (r : ℕ) → r < length rows → slice_index_or kinds r Plain ≡ kind_at rows r

-- how many rows a table may have at most
abbrev pub most_rows : ℕ
most_rows = 2 ^ 30

-- the lists of the table belong together, kinds lists the kind of each row, and there are at most most_rows rows
pub record HasKinds (table : Flat) (kinds : List RowKind) : Type 0 where
  pub flat : IsFlat table
  pub of_rows : AreKinds (rows_in table) kinds
  pub few : length table.depths ≤ most_rows
