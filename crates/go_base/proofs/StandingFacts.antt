-- Where the cells and the bans are as they were seen, all facts hold.
use Rattle.std.proofs.Common.{◌≡◌, ℕ, ◌*◌, ◌<◌, true, ltb, refl, sym, subst, arith}
use Rattle.std.proofs.lemmas.Bool.{and_parts, and_from, lt-ltb, ltb-true, eqb-true, eq-eqb}
use Rattle.go_rules.specs.declared.Cell.{Cell}
use Rattle.go_rules.specs.declared.Colour.{Colour}
use Rattle.go_rules.specs.Position.{BoardState, IsPosition, is_banned}
use Rattle.go_base.specs.declared.facts.Facts.{Facts}
use Rattle.go_base.specs.Facts.{SizeIs, CellIs, BanIs, Agrees}
use Rattle.go_base.specs.AmongFacts.{told, seen_as, asked_of, AllShow, BanStays}
use Rattle.go_base.proofs.SeenFacts.{same_bool-true, same_bool-refl}

-- where the cells and the bans are as they were seen, the position agrees
pub stands_all : (f : Facts) (pos : BoardState) → IsPosition pos → f.size ≡ pos.size
    → ((cell : Cell) → AllShow (seen_as f cell) cell pos) → ((c : Colour) → BanStays (asked_of f c) f.ban c pos)
    → Agrees (told f) pos
stands_all f pos good e cells bans = grind (arith, and_parts, ltb-true, eqb-true, same_bool-true)

-- where a position agrees, its size is that of the facts
pub size_stands : (f : Facts) (pos : BoardState) → Agrees (told f) pos → f.size ≡ pos.size
size_stands f pos a = sym (a.each (SizeIs f.size) (eq-eqb f.size f.size refl))

-- a point of the board of a position that agrees is one of the board of the facts
on_board : (f : Facts) (pos : BoardState) → Agrees (told f) pos → (q : ℕ) → q < pos.size * pos.size
    → ltb q (f.size * f.size) ≡ true
on_board f pos a q on = lt-ltb q (f.size * f.size) (subst (λ n. q < n * n) (sym (size_stands f pos a)) on)

-- and each cell is as it was seen
pub cells_stand : (f : Facts) (pos : BoardState) → Agrees (told f) pos → (cell : Cell)
    → AllShow (seen_as f cell) cell pos
cells_stand f pos a cell q on seen = a.each (CellIs q cell) (and_from _ _ (on_board f pos a q on) seen)

-- and the ban is as it was where it was asked for
pub ban_stands : (f : Facts) (pos : BoardState) → Agrees (told f) pos → (c : Colour)
    → BanStays (asked_of f c) f.ban c pos
ban_stands f pos a c q on asked = a.each (BanIs q c (is_banned f.ban c q))
    (and_from _ _ (on_board f pos a q on) (and_from _ _ asked (same_bool-refl (is_banned f.ban c q))))
