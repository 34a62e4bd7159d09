use Rattle.std.proofs.Common.{arith}
use Rattle.std.proofs.lemmas.Option.{slice_get_read}
use Rattle.helpers.specs.Slots.{states_of}
use Rattle.pattern_coverage.proofs.Advice.{says-kept}
use Rattle.pattern_coverage.proofs.AllEnds.{end-is}
use Rattle.pattern_coverage.proofs.ends.end_of.Goals as goal

-- the end is told by the reason of the try
pub returns-clause-value : goal.returns-clause-value
returns-clause-value g c = grind (arith, end-is, slice_get_read)

-- helpers that were asked say what they said
pub returns-clause-advice : goal.returns-clause-advice
returns-clause-advice g c =
    says-kept _ _ (states_of (λ z. (goal.Helper-dyn g z).state z.1) c.args.helpers.now)
    (states_of (λ z. (goal.Helper-dyn g z).state z.1) c.first_reason-reason.new.helpers)
    c.first_reason-reason.ensures.calls
