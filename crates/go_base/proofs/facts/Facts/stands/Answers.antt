use Rattle.std.proofs.Common.{false, sym, ◌∙◌, arith}
use Rattle.std.proofs.lemmas.Bool.{both_ways, eqb-true, not-false}
use Rattle.go_base.proofs.StandingFacts.{stands_all, size_stands, cells_stand, ban_stands}
use Rattle.go_base.proofs.facts.Facts.stands.Goals as goal

-- a position of another size does not agree
pub returns-then-ne : goal.returns-then-ne
returns-then-ne c = grind (arith, size_stands c.args.self.now c.args.position.now)

-- nor one where a cell is not as it was seen
pub returns-then-not-cells_stand : goal.returns-then-not-cells_stand
returns-then-not-cells_stand c = grind (arith, both_ways, cells_stand)

-- the ban decides
pub returns : goal.returns
returns c =
    let f = c.args.self.now in
    let pos = c.args.position.now in
    let sized = eqb-true f.size c.size.result (not-false _ (sym c.ne.ensures ∙ c.if-ne.false)) in (
      λ h. stands_all f pos c.size.ensures.position (sized ∙ c.size.ensures.value)
          (c.cells_stand.ensures.0 c.if-not-cells_stand.false) (c.ban_stands.ensures.0 h),
      λ a. c.ban_stands.ensures.1 (ban_stands f pos a),
    )
