-- What a line loads, and whether it missed that.
use Rattle.std.proofs.Common.{◌≡◌, ℕ, Bool, true, false, cond, List, [], ◌∷◌, ◌++◌, Option, None, Some, refl}
use Rattle.std.proofs.Common.{ap, append-nil, append_assoc, arith}
use Rattle.std.proofs.lemmas.Bool.Decides.{nat_tests}
use Rattle.std.specs.Str.{bytes_eq}
use Rattle.gtp_cmd.specs.Replies.{refusal_text, text_of, reply_end}
use Rattle.gtp_cmd.specs.declared.commands.Command.{Command}
use Rattle.gtp_cmd.specs.declared.commands.Command.TheVariants as command
use Rattle.gtp_cmd.specs.declared.commands.Parsed.TheVariants as parsed
use Rattle.gtp_cmd.specs.declared.refusals.RefuseText.{RefuseText}
use Rattle.gtp_cmd.specs.declared.refusals.RefuseText.TheVariants as refusal
use Rattle.machine_rules.specs.Files.{Contents}
use Rattle.machine_rules.specs.Loads.{load_of, parsed_load, IsFileOf, missed_by}
use Rattle.machine_rules.specs.Machine.{Machine}
use Rattle.machine_rules.specs.Matcher.{Matcher}
use Rattle.machine_rules.specs.Step.{effect_of}
use Rattle.session_core.specs.CommandAnswers.{IsAnswer, IsDone, named, missed_as}
use Rattle.session_core.specs.SlowLines.{command_of}
use Rattle.session_core.specs.declared.answer.Answer.{Answer}
use Rattle.session_core.specs.declared.answer.Answer.TheVariants as answer
use Rattle.session_core.specs.declared.slow.Work.{Work}

-- what loads nothing misses nothing
pub missed-none : (line : List ℕ) (id : Option ℕ) (c : Command) (bytes : List ℕ)
    → ((id : Option ℕ) → load_of line id c ≡ None)
    → missed_by (parsed_load line (parsed.Command id c)) bytes ≡ []
missed-none line id c bytes none = ap (λ load. missed_by load bytes) (none id)

-- a file that is loaded has one name, whatever the id
file-named : (contents : Contents) (id : Option ℕ) (text : Bool) (name file : List ℕ)
    → IsFileOf contents (cond text (named name) None) file
    → IsFileOf contents (cond text (Some (record { id = id; name = name })) None) file
file-named contents id true name file of = of
file-named contents id false name file of = of

-- the text is that of the file that a command loads behind any id
pub file-of : (contents : Contents) (line : List ℕ) (id : Option ℕ) (c : Command) (file : List ℕ)
    → IsFileOf contents (load_of line None c) file → IsFileOf contents (load_of line id c) file
file-of contents line id (command.LoadSgf span) file of = grind (arith, file-named)
file-of contents line id _ file of = of

-- what a reply says of a file is what its answer says, whether the file has a name or not
missed-named : (id : Option ℕ) (text : Bool) (name bytes : List ℕ) (said : Answer)
    → ((name : List ℕ) → missed_by (Some (record { id = id; name = name })) bytes ≡ missed_as (named name) said)
    → missed_by (cond text (Some (record { id = id; name = name })) None) bytes
    ≡ missed_as (cond text (named name) None) said
missed-named id true name bytes said told = told name
missed-named id false name bytes said told = refl

-- what the reply says of the file that a command loads is what its answer says
pub missed-told : (line : List ℕ) (id : Option ℕ) (c : Command) (bytes : List ℕ) (said : Answer)
    → ((name : List ℕ) → missed_by (Some (record { id = id; name = name })) bytes ≡ missed_as (named name) said)
    → missed_by (load_of line id c) bytes ≡ missed_as (load_of line None c) said
missed-told line id (command.LoadSgf span) bytes said told = grind (arith, missed-named)
missed-told line id _ bytes said told = refl

-- What was answered to a work, which is this one.
module _ {work done : Work} (is : work ≡ done) where
  -- what was answered is done as this work is
  pub done-same : (contents : Contents) (matcher : Matcher) (old : Machine) (line : List ℕ) (said : Answer)
      (new : Machine) → IsDone contents matcher old line (command_of done) said new
      → IsDone contents matcher old line (command_of work) said new
  done-same contents matcher old line said new = grind arith

  -- what was answered misses the names that this work misses
  pub missed-same : (line : List ℕ) (said : Answer) (missed now : List (List ℕ))
      → now ≡ missed ++ missed_as (load_of line None (command_of done)) said
      → now ≡ missed ++ missed_as (load_of line None (command_of work)) said
  missed-same line said missed now = grind arith

  -- where this one loads nothing, it is what the command tells
  pub done-unloaded : (contents : Contents) (matcher : Matcher) (old : Machine) (line : List ℕ) (said : Answer)
      (new : Machine) → load_of line None (command_of done) ≡ None → ((file : List ℕ)
      → IsAnswer (effect_of matcher old (record { line = line; file = file }) (command_of done)) said new)
      → IsDone contents matcher old line (command_of work) said new
  done-unloaded contents matcher old line said new none answers = grind (arith, done-same)

  -- a work that loads nothing misses no name
  pub missed-unloaded : (line : List ℕ) (said : Answer) (missed : List (List ℕ))
      → load_of line None (command_of done) ≡ None
      → missed ≡ missed ++ missed_as (load_of line None (command_of work)) said
  missed-unloaded line said missed none = grind (arith, missed-same, append-nil)

-- bytes behind equal ones
bytes_eq-front : (front a b : List ℕ) → bytes_eq (front ++ a) (front ++ b) ≡ bytes_eq a b
bytes_eq-front [] a b = refl
bytes_eq-front (x ∷ front) a b = grind (arith, nat_tests, bytes_eq-front front a b)

-- what a refusal says, with the line feeds behind it
abbrev ending : RefuseText → List ℕ
ending text = text_of text ++ reply_end

-- it is that of a file that could not be loaded, or another
said-by_text : (text : RefuseText) (name : List ℕ)
    → cond (bytes_eq (ending text) (ending refusal.CannotLoadFile)) (name ∷ []) []
    ≡ missed_as (named name) (answer.Refused text)
said-by_text refusal.UnknownCommand name = refl
said-by_text refusal.SyntaxError name = refl
said-by_text refusal.LineTooLong name = refl
said-by_text refusal.UnacceptableSize name = refl
said-by_text refusal.IllegalMove name = refl
said-by_text refusal.HistoryFull name = refl
said-by_text refusal.CannotUndo name = refl
said-by_text refusal.VertexEmpty name = refl
said-by_text refusal.OutOfMemory name = refl
said-by_text refusal.CannotLoadFile name = refl
said-by_text (refusal.BadSgf kind) name = refl
said-by_text refusal.ProofTooLong name = refl
said-by_text refusal.ColoursDiffer name = refl
said-by_text refusal.NoSuchHelper name = refl

-- a refusal behind an id missed a file exactly where it says so
pub missed-refused : (id : Option ℕ) (text : RefuseText) (name : List ℕ)
    → missed_by (Some (record { id = id; name = name })) (refusal_text id text)
    ≡ missed_as (named name) (answer.Refused text)
missed-refused id text name = grind (arith, append_assoc, bytes_eq-front, said-by_text)
