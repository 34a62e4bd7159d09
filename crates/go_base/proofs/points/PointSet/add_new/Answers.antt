use Rattle.std.proofs.Common.{arith}
use Rattle.go_base.proofs.Marks.{marked-more, len-insert_new, len-marked}
use Rattle.go_base.proofs.UsedWords.{IsNoteOf-add}
use Rattle.go_base.proofs.points.PointSet.add_new.Goals as goal

-- a set has at most as many points as the largest board
pub overflow_add-self : goal.overflow_add-self
overflow_add-self c = omega (arith, c.self.invariant, len-marked c.self.inside.bits)

-- the count rises by the one point that is new, whose word is in use now
pub invariant_of-self : goal.invariant_of-self
invariant_of-self c = record {
  counted = grind (arith, marked-more c.self.inside.bits, len-insert_new);
  in_use = IsNoteOf-add c.self.inside.bits _ c.self.inside.used c.args.p c.self.invariant.in_use c.requires.small
      c.add.ensures.here c.add.ensures.elsewhere;
}

-- marking the point puts it into the set
pub returns : goal.returns
returns c = grind (arith, marked-more)
