-- How a run opens the pattern files that its words name: it joins their contents in their order and reads the joined
-- text.
use Rattle.std.specs.Prelude.{◌≡◌, ◌≤◌, ℕ, ◌-◌, ◌==◌, ◌&&◌, not, Bool, List, [], ◌∷◌, ◌++◌, length, map, slice_index}
use Rattle.std.specs.Prelude.{Option, Some, None, Contains, if◌then◌else◌}
use Rattle.std.specs.List.{flat_map}
use Rattle.gtp_io.specs.declared.errors.LoadError.{LoadError}
use Rattle.gtp_io.specs.declared.errors.LoadError.TheVariants as load
use Rattle.gtp_cmd.specs.Words.{line_feed}
use Rattle.machine_rules.specs.Files.{Contents, IsContents}
use Rattle.pat_types.specs.declared.pattern.Pattern.{Pattern}
use Rattle.dfa_core.specs.States.{HasStates, HasMoreStates}
use Rattle.db_rules.specs.Entries.{entry_of}
use Rattle.db_rules.specs.Faults.{first_fault, entries}
use Rattle.db_read.specs.declared.error.DbError.{DbError}
use Rattle.db_read.specs.declared.error.DbError.TheVariants as db
use Rattle.dfa_join.specs.declared.error.JoinError.{JoinError}
use Rattle.dfa_join.specs.declared.error.JoinError.TheVariants as join
use Rattle.session.specs.declared.outcome.OpenError.{OpenError}
use Rattle.session.specs.declared.outcome.OpenError.TheVariants.{FileFault, BadDatabase, TooManyStates, NoMemory}

-- the most patterns of a database
abbrev pub most_patterns : ℕ
most_patterns = 4096

-- the contents of a file are not empty and do not end in a line feed
abbrev pub needs_feed : List ℕ → Bool
needs_feed text = not (length text == 0) && not (slice_index text (length text - 1) == line_feed)

-- the line feed that is added after the contents of a file, if they need one
abbrev pub added_feed : List ℕ → List ℕ
added_feed text = if needs_feed text then line_feed ∷ [] else []

-- the contents of a file, with a line feed added if they need one
abbrev pub ended : List ℕ → List ℕ
ended text = text ++ added_feed text

-- the contents of some files, joined in their order
abbrev pub joined_text : List (List ℕ) → List ℕ
joined_text texts = flat_map ended texts

-- the texts are the contents of the files with these names, one for each in their order
abbrev pub AreContents : Contents → List (List ℕ) → List (List ℕ) → Type 0
AreContents contents [] [] = Unit {0}
AreContents contents [] (text ∷ texts) = ⊥
AreContents contents (name ∷ names) [] = ⊥
AreContents contents (name ∷ names) (text ∷ texts) = IsContents (contents name) text × AreContents contents names texts

-- the text is the contents of the files with these names, joined in their order
pub record IsJoined (contents : Contents) (names : List (List ℕ)) (text : List ℕ) : Type 0 where
  pub texts : List (List ℕ)
  pub told : AreContents contents names texts
  pub joined : text ≡ joined_text texts

-- `new` is `old` with the contents of a file after it, and with a line feed if they need one
pub record AddsContents (contents : Option (List ℕ)) (old new : List ℕ) : Type 0 where
  pub text : List ℕ
  pub told : IsContents contents text
  pub added : new ≡ old ++ ended text

-- one of the names was appended to the missed names
pub record MissedOne (names before now : List (List ℕ)) : Type 0 where
  pub name : List ℕ
  pub named : Contains names name
  pub appended : now ≡ before ++ name ∷ []

-- `now` are the missed names after a load of files that ended with this error: one more if a file failed, else the same
abbrev pub MissedBy : List (List ℕ) → List (List ℕ) → List (List ℕ) → LoadError → Type 0
MissedBy names before now load.Failed = MissedOne names before now
MissedBy names before now load.NoMemory = now ≡ before

-- the joined files have no fault, if these helpers may be named, and the patterns are their entries
pub record IsDatabase (known : List (List ℕ)) (contents : Contents) (names : List (List ℕ))
    (patterns : List Pattern) : Type 0 where
  pub text : List ℕ
  pub joined : IsJoined contents names text
  pub sound : first_fault known text ≡ None
  pub spelled : map entry_of patterns ≡ entries text

-- the joined files have this first fault, if these helpers may be named
pub record IsFaulty (known : List (List ℕ)) (contents : Contents) (names : List (List ℕ))
    (line kind : ℕ) : Type 0 where
  pub text : List ℕ
  pub joined : IsJoined contents names text
  pub fault : first_fault known text ≡ Some (record { line = line; kind = kind })

-- the patterns have at most this many states
abbrev pub HasFewStates : List Pattern → ℕ → Type 0
HasFewStates patterns most = (n : ℕ) × HasStates patterns n × (n ≤ most)

-- the joined files have no fault, their entries are the patterns, and these have at most this many states
pub record IsOpened (known : List (List ℕ)) (contents : Contents) (names : List (List ℕ)) (most : ℕ)
    (patterns : List Pattern) : Type 0 where
  pub database : IsDatabase known contents names patterns
  pub few : HasFewStates patterns most

-- the joined files have no fault, and their entries have more states than allowed
pub record HasTooMany (known : List (List ℕ)) (contents : Contents) (names : List (List ℕ))
    (most : ℕ) : Type 0 where
  pub patterns : List Pattern
  pub database : IsDatabase known contents names patterns
  pub many : HasMoreStates patterns most

-- the files were not opened, and the error says why
abbrev pub IsRefused : List (List ℕ) → Contents → List (List ℕ) → ℕ → OpenError → Type 0
IsRefused known contents names most FileFault = Unit {0}
IsRefused known contents names most (BadDatabase line kind) = IsFaulty known contents names line kind
IsRefused known contents names most (TooManyStates limit) = (limit ≡ most) × HasTooMany known contents names most
IsRefused known contents names most NoMemory = Unit {0}

-- the names missed after the files were not opened: a fault of a file appended its name, and no other error appends one
abbrev pub MissedIn : List (List ℕ) → List (List ℕ) → List (List ℕ) → OpenError → Type 0
MissedIn names before now FileFault = MissedOne names before now
MissedIn names before now (BadDatabase line kind) = now ≡ before
MissedIn names before now (TooManyStates limit) = now ≡ before
MissedIn names before now NoMemory = now ≡ before

-- the patterns were refused: they have more states than allowed, or memory ran out
abbrev pub RefusesStates : List Pattern → ℕ → OpenError → Type 0
RefusesStates patterns most FileFault = ⊥
RefusesStates patterns most (BadDatabase line kind) = ⊥
RefusesStates patterns most (TooManyStates limit) = (limit ≡ most) × HasMoreStates patterns most
RefusesStates patterns most NoMemory = Unit {0}

-- the error of the run after this error of a load
abbrev pub unloaded : LoadError → OpenError
unloaded load.Failed = FileFault
unloaded load.NoMemory = NoMemory

-- the error of the run after this error of a database
abbrev pub unread : DbError → OpenError
unread (db.Fault line kind) = BadDatabase line kind
unread db.NoMemory = NoMemory

-- the error of the run after this error of an automaton
abbrev pub uncompiled : JoinError → OpenError
uncompiled (join.TooManyStates limit) = TooManyStates limit
uncompiled join.NoMemory = NoMemory
