-- What one answer of a look adds, and what it does not.
use Rattle.std.proofs.Common.{ℕ, Bool, arith}
use Rattle.std.proofs.lemmas.Bool.{eq-eqb}
use Rattle.go_rules.specs.declared.Cell.{Cell}
use Rattle.go_base.specs.Views.{alone}
use Rattle.go_base.specs.Facts.{Fact, CellIs, AddsIn, AddsOnly, AddsNoBan}

-- a cell that is told is about its point alone
pub cell_near : {before now : Fact → Bool} {p : ℕ} {cell : Cell} → AddsOnly before now (CellIs p cell)
    → AddsIn before now (alone p)
cell_near {p = p} h = grind (arith, eq-eqb)

-- a cell that is told is no ban
pub cell_no_ban : {before now : Fact → Bool} {p : ℕ} {cell : Cell} → AddsOnly before now (CellIs p cell)
    → AddsNoBan before now
cell_no_ban h = grind arith
