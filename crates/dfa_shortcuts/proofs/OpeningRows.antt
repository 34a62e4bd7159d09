-- The rows of openings.
use Rattle.std.proofs.Common.{◌≡◌, ◌≢◌, ℕ, List, length, get_or}
use Rattle.dfa_core.specs.Automata.{Row, reach, IsAutomaton}
use Rattle.dfa_core.specs.Words.{Word}
use Rattle.dfa_core.proofs.Walks.{reach_from-within}
use Rattle.dfa_shortcuts.specs.Shortcuts.{IsEntryOfRow}
use Rattle.dfa_shortcuts.specs.Openings.{AreOpenings, opening_letters, unknown, word_number}
use Rattle.dfa_shortcuts.proofs.EntryRows.{entry_of_row}

-- what is known of an opening is the entry of one of the rows
pub opening_row : (rows : List Row) (openings : List ℕ) (w : Word) → IsAutomaton rows → AreOpenings rows openings
    → length w ≡ opening_letters → get_or openings (word_number w) unknown ≢ unknown
    → IsEntryOfRow rows (get_or openings (word_number w) unknown)
opening_row rows openings w good are long known =
    entry_of_row rows (reach rows w) (get_or openings (word_number w) unknown)
    (reach_from-within rows 0 w good good.start) ((are.each w long).to known)
