-- What is answered where a game record is loaded, by what the loader says of its file.
use Rattle.std.proofs.Common.{◌≡◌, ℕ, Bool, true, cond, List, [], ◌++◌, Option, Some, None}
use Rattle.std.proofs.Common.{Result, Ok, Err, inl, inr, refl, arith}
use Rattle.std.proofs.lemmas.Bool.Decides.{nat_tests}
use Rattle.std.proofs.lemmas.Str.{utf8_valid_len-IsUtf8}
use Rattle.std.specs.Prelude.{IsUtf8}
use Rattle.go_rules.specs.Position.{BoardState}
use Rattle.sgf_rules.specs.declared.kind.FaultKind.{FaultKind}
use Rattle.sgf_rules.specs.Game.{game_of}
use Rattle.gtp_cmd.specs.declared.refusals.RefuseText.{RefuseText}
use Rattle.gtp_cmd.specs.declared.refusals.RefuseText.TheVariants.{CannotLoadFile, SyntaxError, OutOfMemory}
use Rattle.gtp_io.specs.Loading.{IsLoaded, missed_after}
use Rattle.gtp_io.specs.declared.errors.LoadError.{LoadError}
use Rattle.gtp_io.specs.declared.errors.LoadError.TheVariants.{Failed}
use Rattle.machine_rules.specs.Machine.{Machine}
use Rattle.machine_rules.specs.Effects.{Excuse, Effect, IsExcused, refused, growing}
use Rattle.machine_rules.specs.Files.{Contents, IsContents}
use Rattle.machine_rules.specs.Loads.{Load, IsFileOf, named_load}
use Rattle.machine_rules.specs.RecordCommands.{is_utf8, recorded, loaded, loaded_by}
use Rattle.session_core.specs.CommandAnswers.{IsAnswer, missed_as}
use Rattle.session_core.specs.declared.answer.Answer.{Answer}
use Rattle.session_core.specs.declared.answer.Answer.TheVariants as answer

-- all bytes of a text are its longest front that is a text
pub text-is_utf8 : (bytes : List ℕ) → IsUtf8 bytes → is_utf8 bytes ≡ true
text-is_utf8 bytes is = grind (arith, nat_tests, utf8_valid_len-IsUtf8)

-- an answer is one too where more is excused
more-excused : (effect : Effect) (excuses : List Excuse) (said : Answer) (new : Machine)
    → ((text : RefuseText) → IsExcused effect.excuses text new → IsExcused excuses text new)
    → IsAnswer effect said new → IsAnswer (record effect { excuses = excuses }) said new
more-excused effect excuses (answer.Brief result) new more is = grind arith
more-excused effect excuses (answer.Grown result) new more is = grind arith
more-excused effect excuses answer.NoMemory new more is = more OutOfMemory is
more-excused effect excuses (answer.Refused text) new more (inl is) = inl is
more-excused effect excuses (answer.Refused text) new more (inr is) = inr (more text is)
more-excused effect excuses answer.Ended new more is = is

-- what a record does has no excuse
none-excused : (old : Machine) (game : Result BoardState FaultKind) (text : RefuseText) (new : Machine)
    → IsExcused (recorded old game).excuses text new → ⊥
none-excused old (Ok board) text new is = is
none-excused old (Err kind) text new is = is

-- a record's answer is not that its file could not be loaded
no-record-missed : (old : Machine) (game : Result BoardState FaultKind) (new : Machine)
    → IsAnswer (recorded old game) (answer.Refused CannotLoadFile) new → ⊥
no-record-missed old (Ok board) new (inl is) = let apart = is.0 in cc
no-record-missed old (Ok board) new (inr is) = is
no-record-missed old (Err kind) new (inl is) = let apart = is.0 in cc
no-record-missed old (Err kind) new (inr is) = is

-- where another answer is given, no name is missed
missed-none : (load : Option Load) (said : Answer) → (said ≡ answer.Refused CannotLoadFile → ⊥)
    → missed_as load said ≡ []
missed-none None said other = refl
missed-none (Some load) (answer.Refused CannotLoadFile) other = absurd (other refl)
missed-none (Some load) _ other = refl

-- where a record was read, no name is missed
pub record-misses : (old : Machine) (game : Result BoardState FaultKind) (said : Answer) (new : Machine)
    (load : Option Load) → IsAnswer (recorded old game) said new → missed_as load said ≡ []
record-misses old game said new load is = grind (arith, missed-none, no-record-missed)

-- contents that the loader gave are told as those of their name
are-contents : (contents : Option (List ℕ)) (bytes : List ℕ) → IsLoaded contents [] bytes → IsContents contents bytes
are-contents None bytes is = tt
are-contents (Some told) bytes is = is

-- what was loaded by a name, behind nothing, is what the loader gives by the word that the name is
pub loaded-anew : (contents : Contents) (word name into bytes file : List ℕ) → name ≡ word → into ≡ [] → file ≡ bytes
    → IsLoaded (contents name) into bytes → IsLoaded (contents word) [] file
loaded-anew contents word name into bytes file same empty is loaded = grind arith

-- What is loaded by a name that is a text.
module _ (name : List ℕ) (utf8 : is_utf8 name ≡ true) where
  -- a load by that name
  abbrev load : Load
  load = record { id = None; name = name }

  -- what the loader gave is the text of the file
  pub given-file : (contents : Contents) (bytes : List ℕ) → IsLoaded (contents name) [] bytes
      → IsFileOf contents (named_load name) bytes
  given-file contents bytes is = grind (arith, are-contents)

  -- a loader that could not load a file missed the name that the refusal says
  pub miss-told : {T : Type 0} (missed : List (List ℕ)) (given : List ℕ) (result : Result T LoadError)
      → result ≡ Err Failed → given ≡ name
      → missed_after missed given result ≡ missed ++ missed_as (named_load name) (answer.Refused CannotLoadFile)
  miss-told missed given result failed same = grind arith

  module _ (old : Machine) (file : List ℕ) where
    -- what a load does, where its name is a text or not
    abbrev done : Bool → Effect
    done b = growing old (cond b (loaded old file) (refused old SyntaxError))

    -- a record's answer is one of its load
    pub record-loaded : (said : Answer) (new : Machine) → IsAnswer (recorded old (game_of file)) said new
        → IsAnswer (loaded_by old name file) said new
    record-loaded said new is = grind (arith, more-excused, none-excused)

    -- that its file could not be loaded is an answer of a load
    pub file-not-loaded : IsAnswer (loaded_by old name file) (answer.Refused CannotLoadFile) old
    file-not-loaded = grind arith
