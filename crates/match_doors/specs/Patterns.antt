-- The patterns of a text, and why a text has none.
use Rattle.std.specs.Prelude.{◌≡◌, ◌≤◌, ◌<◌, ℕ, List, [], length, map, None, Some, Contains}
use Rattle.pat_types.specs.declared.pattern.Pattern.{Pattern}
use Rattle.dfa_core.specs.Automata.{Row, accepted}
use Rattle.dfa_core.specs.Words.{Word}
use Rattle.dfa_core.specs.States.{IsAutomatonOf, HasStates, HasMoreStates}
use Rattle.dfa_join.specs.declared.error.JoinError.{JoinError}
use Rattle.dfa_join.specs.declared.error.JoinError.TheVariants as join
use Rattle.db_read.specs.declared.error.DbError.{DbError}
use Rattle.db_read.specs.declared.error.DbError.TheVariants as db
use Rattle.db_rules.specs.Entries.{entry_of}
use Rattle.db_rules.specs.Faults.{first_fault, entries}
use Rattle.match_doors.specs.declared.patterns.PatternFault.{PatternFault}
use Rattle.match_doors.specs.declared.patterns.PatternFault.TheVariants.{NoMemory, Text, TooManyStates}

-- the text has no fault, and these are its patterns
pub record AreIn (text : List ℕ) (patterns : List Pattern) : Type 0 where
  pub sound : first_fault [] text ≡ None
  pub spelled : map entry_of patterns ≡ entries text

-- each number that the automaton accepts is the place of one of the patterns
abbrev pub NumbersPatterns : List Row → List Pattern → Type 0
NumbersPatterns automaton patterns = (w : Word) (n : ℕ) → Contains (accepted automaton w) n → n < length patterns

-- the list has the patterns of the text, they have at most `most` states, and the rows are their automaton
pub record AreRead (text : List ℕ) (most : ℕ) (list : List Pattern) (rows : List Row) : Type 0 where
  pub patterns : AreIn text list
  pub few : (n : ℕ) × HasStates list n × (n ≤ most)
  pub automaton : IsAutomatonOf list rows
  pub numbers : NumbersPatterns rows list

-- the text has no fault, and its patterns have more than `most` states
pub record HasTooMany (text : List ℕ) (most : ℕ) : Type 0 where
  pub list : List Pattern
  pub patterns : AreIn text list
  pub many : HasMoreStates list most

-- the text gives no patterns, and the fault says why: its first fault, or too many states; memory may run out instead
-- of either
abbrev pub IsRefused : List ℕ → ℕ → PatternFault → Type 0
IsRefused text most NoMemory = Unit {0}
IsRefused text most (Text line kind) = first_fault [] text ≡ Some (record { line = line; kind = kind })
IsRefused text most TooManyStates = HasTooMany text most

-- the fault of the patterns for an error of a text
abbrev pub fault_of_text : DbError → PatternFault
fault_of_text db.NoMemory = NoMemory
fault_of_text (db.Fault line kind) = Text line kind

-- the fault of the patterns for an error of a join
abbrev pub fault_of_join : JoinError → PatternFault
fault_of_join join.NoMemory = NoMemory
fault_of_join (join.TooManyStates limit) = TooManyStates

-- the list has the patterns of the text, and they have at most `most` states
pub record AreOpened (text : List ℕ) (most : ℕ) (list : List Pattern) : Type 0 where
  pub patterns : AreIn text list
  pub few : (n : ℕ) × HasStates list n × (n ≤ most)
