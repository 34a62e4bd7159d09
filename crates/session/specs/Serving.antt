-- What the loops of a run do with lines: which they answer, which bytes they put, and what they count. M is any
-- machine, `step` any step, and `goes` any relation that says how what is kept changes with a line.
use Rattle.std.specs.Prelude.{◌≡◌, ℕ, ◌<◌, Bool, List, ◌++◌, length, take, Option}
use Rattle.std.specs.Io.KnownBytes.{Appends}
use Rattle.gtp_rules.specs.Lines.{RawLine}
use Rattle.gtp_rules.specs.Steps.{Step}
use Rattle.gtp_rules.specs.Transcript.{MayAnswer}
use Rattle.run_notes.specs.declared.notes.Sent.{Sent}
use Rattle.session_core.specs.Kept.{Kept}
use Rattle.machine_rules.specs.AnsweredLines.{AnsweredLine}
use Rattle.session.specs.Tallies.{Tally, Progress, Advances, IsTallied, BreaksOff, tally_of, cut_tally, kept_sum}

-- the progress of a run: what its output holds, what its session keeps, and what was sent
abbrev pub progress_of : Option (List ℕ) → Kept → Sent → Progress
progress_of written session sent =
    record { written = written; kept = session; replies = sent.lines; bytes = sent.bytes }

-- the bytes were put and counted
pub record Puts (old new : Option (List ℕ)) (before now : Sent) (bytes : List ℕ) : Type 0 where
  pub writes : Appends old new bytes
  pub lines : now.lines ≡ before.lines
  pub bytes_sent : now.bytes ≡ kept_sum before.bytes (length bytes)

-- a proper prefix of the bytes was put and counted
pub record PutsPart (old new : Option (List ℕ)) (before now : Sent) (bytes : List ℕ) : Type 0 where
  pub part : List ℕ
  pub missing : List ℕ
  pub whole : bytes ≡ part ++ missing
  pub proper : 0 < length missing
  pub puts : Puts old new before now part

-- the first n of the bytes, which are not all, were put and counted
pub record PutsFront (old new : Option (List ℕ)) (before now : Sent) (bytes : List ℕ) (n : ℕ) : Type 0 where
  pub within : n < length bytes
  pub puts : Puts old new before now (take n bytes)

-- the bytes were put and counted, and counted as one reply
pub record PutsReply (old new : Option (List ℕ)) (before now : Sent) (bytes : List ℕ) : Type 0 where
  pub writes : Appends old new bytes
  pub lines : now.lines ≡ kept_sum before.lines 1
  pub bytes_sent : now.bytes ≡ kept_sum before.bytes (length bytes)

-- the line was answered, and its reply was put whole
pub record Replies {M : Type 0} (step : M → RawLine → Step M → Type 0) (goes : Kept → AnsweredLine M → Kept → Type 0)
    (from : M)
    (line : RawLine) (to : M) (ends : Bool) (old new : Progress) : Type 0 where
  pub reply : List ℕ
  pub answers : MayAnswer step from line reply to ends
  pub advances : Advances goes old new (tally_of from line reply)

-- the line was answered, and its reply was put in part
pub record RepliesPart {M : Type 0} (step : M → RawLine → Step M → Type 0)
    (goes : Kept → AnsweredLine M → Kept → Type 0) (from : M)
    (line : RawLine) (old new : Progress) : Type 0 where
  pub part : List ℕ
  pub missing : List ℕ
  pub next : M
  pub ends : Bool
  pub answers : MayAnswer step from line (part ++ missing) next ends
  pub proper : 0 < length missing
  pub advances : Advances goes old new (cut_tally from line part missing)

-- the lines were answered, and their replies were put whole
pub record RunsTo {M : Type 0} (step : M → RawLine → Step M → Type 0) (goes : Kept → AnsweredLine M → Kept → Type 0)
    (from : M)
    (lines : List RawLine) (to : M) (ended : Bool) (old new : Progress) : Type 0 where
  pub tally : Tally M
  pub run : IsTallied step from lines tally to ended
  pub advances : Advances goes old new tally

-- the lines were answered up to one whose reply was put in part
pub record RunsPart {M : Type 0} (step : M → RawLine → Step M → Type 0) (goes : Kept → AnsweredLine M → Kept → Type 0)
    (from : M)
    (lines : List RawLine) (old new : Progress) : Type 0 where
  pub tally : Tally M
  pub breaks_off : BreaksOff step from lines tally
  pub advances : Advances goes old new tally
