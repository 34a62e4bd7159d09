use Rattle.std.proofs.Common.{◌≡◌, ◌+◌, refl, ap, ◌∙◌, arith}
use Rattle.std.specs.FinSet as set
use Rattle.go_base.specs.Bits.{marked}
use Rattle.go_base.proofs.Marks.{marked-less, len-remove_member}
use Rattle.go_base.proofs.UsedWords.{IsNoteOf-less, IsNoteOf-last}
use Rattle.go_base.proofs.points.PointSet.take.Goals as goal
use Rattle.go_base.proofs.points.PointSet.take.Goals.{After-remove}

-- a set with a member counts one at least
pub overflow_sub-self : goal.overflow_sub-self
overflow_sub-self c =
    let one = len-remove_member _ c.args.p (ap (λ s. set.contains s c.args.p) c.self.view_is ∙ c.requires.member) in
    omega (arith, c.self.invariant.counted, one)

-- without the member the bits keep the set without it
taken : (c : After-remove) → marked c.remove.new.self ≡ set.remove (marked c.self.inside.bits) c.args.p
taken c = marked-less c.self.inside.bits c.remove.new.self c.args.p c.remove.ensures.here c.remove.ensures.elsewhere

-- and the set counts one less
counted : (c : After-remove) → c.self.inside.members ≡ set.len (marked c.remove.new.self) + 1
counted c = grind (arith, len-remove_member, taken)

-- the word has no bit now
pub invariant_of-self : goal.invariant_of-self
invariant_of-self c = record {
  counted = omega (arith, counted (goal.at.invariant_of-self c).After-remove);
  in_use = IsNoteOf-last c.self.inside.bits c.remove.new.self c.self.inside.used c.args.p c.self.invariant.in_use
      c.requires.small c.remove.ensures.here c.remove.ensures.elsewhere
      (c.if-not-has_word.ensures.none refl);
}

-- the word has another bit
pub invariant_of-self-else-not-has_word : goal.invariant_of-self-else-not-has_word
invariant_of-self-else-not-has_word c = record {
  counted = omega (arith, counted (goal.at.invariant_of-self-else-not-has_word c).After-remove);
  in_use = IsNoteOf-less c.self.inside.bits c.remove.new.self c.self.inside.used c.args.p c.self.invariant.in_use
      c.remove.ensures.here c.remove.ensures.elsewhere (c.if-not-has_word.ensures.some refl);
}

-- the member was taken out, as the last one of its word
pub returns-then-not-has_word : goal.returns-then-not-has_word
returns-then-not-has_word c = grind (arith, taken)

-- or beside another
pub returns-else-not-has_word : goal.returns-else-not-has_word
returns-else-not-has_word c = grind (arith, taken)
