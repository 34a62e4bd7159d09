use Rattle.std.proofs.Common.{subst, Contains}
use Rattle.dfa_core.specs.Automata.{accepted}
use Rattle.matcher_timer.proofs.matches_by_their_automaton.Goals as goal

-- the scanner's rows are those of the automaton, which accepts numbers of the patterns alone
pub count_matches-requires : goal.count_matches-requires
count_matches-requires g c w n here = c.in_ok-automaton.ensures.numbers w n
    (subst (λ rows. Contains (accepted rows w) n) c.in_ok-scanner.ensures here)
