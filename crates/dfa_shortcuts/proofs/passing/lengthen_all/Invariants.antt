use Rattle.std.proofs.Common.{◌≡◌, ◌≤◌, List, length}
use Rattle.dfa_core.specs.Automata.{Row}
use Rattle.dfa_core.specs.Entries.{AreEntries}
use Rattle.dfa_shortcuts.specs.Shortcuts.{AreShortcuts, is_passed}
use Rattle.dfa_shortcuts.proofs.passing.lengthen_all.Given as goal

-- shortcuts stay shortcuts, there are as many, and what was asked last is known
abbrev pub invariant-places : goal.invariant-places
invariant-places l = record {
  place : l.place ≤ length l.from;
  asked : l.asked.over ≡ is_passed l.from l.asked.entry;
  entries : length l.entries ≡ length l.from;
  passed : length l.passed ≡ length l.from;
  shortcuts : (automaton : List Row) → AreEntries automaton l.from → AreShortcuts automaton l.fn.entries l.fn.passed
      → AreShortcuts automaton l.entries l.passed;
}

-- one place fewer is left each time
abbrev pub decreases-places : goal.decreases-places
decreases-places l = l.place
