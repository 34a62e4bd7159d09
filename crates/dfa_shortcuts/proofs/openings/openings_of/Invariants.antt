use Rattle.dfa_shortcuts.specs.Openings.{AreBehind, KnownHaveRows}
use Rattle.dfa_shortcuts.proofs.openings.openings_of.Given as goal

-- there are the entries behind all words that have as many letters
abbrev pub invariant-letters : goal.invariant-letters
invariant-letters l = record {
  behind : AreBehind l.automaton l.counter l.openings.items;
  known : KnownHaveRows l.entries l.openings.items;
}
