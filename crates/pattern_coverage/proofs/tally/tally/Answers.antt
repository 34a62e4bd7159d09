use Rattle.std.proofs.Common.{take, sym, ◌∙◌, subst}
use Rattle.std.proofs.lemmas.List.{take_more}
use Rattle.pattern_coverage.specs.Tally.{IsTallyOf}
use Rattle.pattern_coverage.proofs.tally.tally.Goals as goal

-- one end more is counted
pub ends-preserved : goal.ends-preserved
ends-preserved c =
    record {
      same_length = c.add_end.ensures.length ∙ c.ends.invariant.same_length;
      tally = subst (λ l. IsTallyOf l c.add_end.new.counts.items)
          (sym (take_more c.args.ends.now c.ends.end-index _ c.ends-test.true))
          (c.add_end.ensures.more (take c.ends.end-index c.args.ends.now) c.ends.invariant.tally);
    }
