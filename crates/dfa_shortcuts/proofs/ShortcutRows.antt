-- The rows of shortcuts.
use Rattle.std.proofs.Common.{ℕ, ◌+◌, ◌*◌, ◌<◌, List, length, get_or}
use Rattle.dfa_core.specs.declared.automaton.Seen.{Seen}
use Rattle.dfa_core.specs.Automata.{Row, step_at, IsAutomaton}
use Rattle.dfa_core.specs.Words.{letter_number}
use Rattle.dfa_shortcuts.specs.Shortcuts.{IsEntryOfRow, AreShortcuts}
use Rattle.dfa_shortcuts.proofs.PassedLetters.{LeadsOn-within}

-- a shortcut has the entry of one of the rows
pub shortcut_row : (rows : List Row) (entries passed : List ℕ) (r : ℕ) (x : Seen) → IsAutomaton rows
    → AreShortcuts rows entries passed → r < length rows
    → IsEntryOfRow rows (get_or entries (4 * r + letter_number x) 0)
shortcut_row rows entries passed r x good are low =
    LeadsOn-within rows (step_at rows r x) (get_or passed (4 * r + letter_number x) 0)
    (get_or entries (4 * r + letter_number x) 0) good (good.targets r x low) (are.each r x low)
