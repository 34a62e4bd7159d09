use Rattle.std.proofs.Common.{subst, Contains}
use Rattle.dfa_core.specs.Automata.{accepted}
use Rattle.example_matcher.proofs.found.Goals as goal

-- the scanner's rows are those of the automaton, which accepts numbers of the patterns alone
pub matches-requires : goal.matches-requires
matches-requires g c = record {
  numbers = λ w n here. c.in_ok-automaton.ensures.numbers w n
      (subst (λ rows. Contains (accepted rows w) n) c.in_ok-scanner.ensures here);
}
