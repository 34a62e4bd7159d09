use Rattle.std.proofs.Common.{arith, subst, Contains}
use Rattle.dfa_core.specs.Automata.{accepted}
use Rattle.match_tests.proofs.tests.matches_reading.Goals as goal

-- the other list is no longer, and its automaton accepts numbers of it alone
pub matches-requires : goal.matches-requires
matches-requires g c = record {
  numbers = λ w n here. let low = c.in_ok-automaton.ensures.numbers w n
      (subst (λ rows. Contains (accepted rows w) n) c.in_ok-scanner.ensures here) in omega (arith, low);
}
