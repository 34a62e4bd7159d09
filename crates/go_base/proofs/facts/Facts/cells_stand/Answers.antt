use Rattle.std.proofs.Common.{false, refl}
use Rattle.std.proofs.lemmas.Bool.{both_ways}
use Rattle.go_rules.specs.declared.Cell.TheVariants.{Empty, Black, White}
use Rattle.go_base.proofs.facts.Facts.cells_stand.Goals as goal

-- a point that was seen to be empty is not
pub returns-then-not-all_show : goal.returns-then-not-all_show
returns-then-not-all_show c = (
  λ h. absurd (both_ways false refl h),
  λ a. absurd (both_ways c.all_show.result c.if-not-all_show.true (c.all_show.ensures.1 (a Empty))),
)

-- a point where a black stone was seen holds none
pub returns-then-not-all_show-2 : goal.returns-then-not-all_show-2
returns-then-not-all_show-2 c = (
  λ h. absurd (both_ways false refl h),
  λ a. absurd (both_ways c.all_show-2.result c.if-not-all_show-2.true (c.all_show-2.ensures.1 (a Black))),
)

-- the white stones decide
pub returns : goal.returns
returns c = (
  λ h. elim [
    | Empty ↦ c.all_show.ensures.0 c.if-not-all_show.false
    | Black ↦ c.all_show-2.ensures.0 c.if-not-all_show-2.false
    | White ↦ c.all_show-3.ensures.0 h
  ],
  λ a. c.all_show-3.ensures.1 (a White),
)
