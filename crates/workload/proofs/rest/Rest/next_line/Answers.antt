use Rattle.std.proofs.Common.{◌∙◌, arith}
use Rattle.workload.proofs.RestLemmas.{next_left, number_next}
use Rattle.workload.proofs.rest.Rest.next_line.Goals as goal

-- the number of the line that is made now follows that of the line before
pub returns-clause-made : goal.returns-clause-made
returns-clause-made c = record {
  some = omega arith;
  last = c.next_number-self.ensures.value
      ∙ number_next c.args.self.now.lines c.args.self.now.made c.args.self.now.number c.requires.made.last;
  within = omega arith;
}

-- the line that is made now was the first of those that were left
pub returns-clause-same : goal.returns-clause-same
returns-clause-same c =
    next_left c.args.self.now.lines c.args.self.now.made c.next_number-self.result c.args.self.now.at
    c.args.self.now.line c.line-self.result
    c.requires.more c.requires.done
    (c.next_number-self.ensures.value
    ∙ number_next c.args.self.now.lines c.args.self.now.made c.args.self.now.number c.requires.made.last)
    c.line-self.ensures.text
