-- All facts of a position, as a look at the whole of it sees them.
use Rattle.std.specs.Prelude.{◌==◌, Bool, IsTrue, refl}
use Rattle.std.proofs.Common.{eq-eqb}
use Rattle.go_rules.specs.Strings.{cell_at, same_cell}
use Rattle.go_rules.specs.Position.{BoardState, is_banned}
use Rattle.go_base.specs.Facts.{Fact, SizeIs, CellIs, BanIs}
use Rattle.go_base.specs.AmongFacts.{same_bool}

-- the fact is true of the position
abbrev pub is_so : BoardState → Fact → Bool
is_so pos (SizeIs n) = pos.size == n
is_so pos (CellIs p cell) = same_cell (cell_at pos.cells p) cell
is_so pos (BanIs p c forbidden) = same_bool (is_banned pos.ban c p) forbidden

-- the size of a position is among its facts
pub size_is_so : (pos : BoardState) → IsTrue (is_so pos (SizeIs pos.size))
size_is_so pos = eq-eqb pos.size pos.size refl
