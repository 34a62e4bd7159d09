-- The automaton is that of the patterns, and there are no helpers.
use Rattle.std.proofs.Common.{ℕ, ◌<◌, List, length, sym, subst}
use Rattle.pat_types.specs.declared.pattern.Pattern.{Pattern}
use Rattle.match_doors.proofs.Found.{found_by}
use Rattle.match_doors.proofs.matcher.Matcher.find.Goals as goal

-- the automaton accepts numbers of the patterns alone
pub matches-requires : goal.matches-requires
matches-requires c = record {
  numbers = λ w n here. subst (λ (ps : List Pattern). n < length ps) (sym c.deref.ensures.value)
      (c.self.invariant.numbers w n here);
}
