-- All facts of a position agree with it.
use Rattle.std.proofs.Common.{◌≡◌, true}
use Rattle.std.proofs.lemmas.Bool.{eqb-true}
use Rattle.go_rules.specs.Strings.{cell_at}
use Rattle.go_rules.specs.Position.{BoardState, IsPosition, is_banned}
use Rattle.go_rules.proofs.Paths.{same_cell-true}
use Rattle.go_base.specs.Facts.{Fact, SizeIs, CellIs, BanIs, IsFactOf, Agrees}
use Rattle.go_base.proofs.SeenFacts.{same_bool-true}
use Rattle.go_strings.specs.Seen.{is_so}

-- a fact that is so holds
so_holds : (pos : BoardState) (fact : Fact) → is_so pos fact ≡ true → IsFactOf pos fact
so_holds pos (SizeIs n) t = eqb-true pos.size n t
so_holds pos (CellIs p cell) t = same_cell-true (cell_at pos.cells p) cell t
so_holds pos (BanIs p c forbidden) t = same_bool-true (is_banned pos.ban c p) forbidden t

-- all that are so agree
pub all_agree : (pos : BoardState) → IsPosition pos → Agrees (is_so pos) pos
all_agree pos good = record { sound = good; each = so_holds pos }
