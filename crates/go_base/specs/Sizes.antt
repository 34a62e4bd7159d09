-- The size of a position is among its recorded facts.
use Rattle.std.specs.Prelude.{IsTrue, refl}
use Rattle.std.proofs.Common.{sym, eq-eqb}
use Rattle.go_rules.specs.Position.{BoardState}
use Rattle.go_base.specs.declared.facts.Facts.{Facts}
use Rattle.go_base.specs.Facts.{SizeIs, Agrees}
use Rattle.go_base.specs.AmongFacts.{told}

-- the size of a position that agrees with the facts is among them
pub sized_of : (facts : Facts) (pos : BoardState) → Agrees (told facts) pos → IsTrue (told facts (SizeIs pos.size))
sized_of facts pos a = eq-eqb facts.size pos.size (sym (a.each (SizeIs facts.size) (eq-eqb facts.size facts.size refl)))
