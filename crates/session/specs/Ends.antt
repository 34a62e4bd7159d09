-- What a run took from its source and put on its output, by its end.
use Rattle.std.specs.Prelude.{◌≡◌, ◌⊎◌, ℕ, ◌-◌, ◌^◌, ◌<◌, ◌≤◌, Bool, true, false, List, ◌++◌, length, take, Option}
use Rattle.std.specs.Io.KnownBytes.{Consumes, Appends, IsAtEnd}
use Rattle.gtp_rules.specs.Lines.{RawLine, lines_of, lines_with_rest}
use Rattle.gtp_rules.specs.Steps.{Step}
use Rattle.gtp_rules.specs.Transcript.{IsRun, IsTranscript, GoesOn, Cut}
use Rattle.session.specs.Tallies.{Tally, IsTallied, BreaksOff}
use Rattle.session.specs.declared.outcome.End.{End}
use Rattle.session.specs.declared.outcome.End.TheVariants.{Done, InputFault, OutputFault, InputTooLong}

-- what contracts know of a source and an output: the bytes left, how many the last call gave, the bytes written, and
-- how often each failed
pub record Streams : Type 0 where
  pub left : Option (List ℕ)
  pub piece : ℕ
  pub input_faults : ℕ
  pub written : Option (List ℕ)
  pub output_faults : ℕ

-- the streams: the source has these bytes left, gave this many last and failed this often; the output holds these bytes
-- and failed this often
abbrev pub streams : Option (List ℕ) → ℕ → ℕ → Option (List ℕ) → ℕ → Streams
streams left piece input_faults written output_faults = record {
  left = left;
  piece = piece;
  input_faults = input_faults;
  written = written;
  output_faults = output_faults;
}

-- how many bytes of input are too many
abbrev pub most_taken : ℕ
most_taken = 2 ^ 32

-- `front` is a prefix of `all`
abbrev pub IsFront : List ℕ → List ℕ → Type 0
IsFront front all = (more : List ℕ) × (all ≡ front ++ more)

-- the bytes taken before the last piece, which has this many bytes
abbrev pub earlier : List ℕ → ℕ → List ℕ
earlier taken piece = take (length taken - piece) taken

-- The input was read to its end, and every line of it was answered. No line with a line feed ended the session.
pub record IsReadToEnd {M : Type 0} (step : M → RawLine → Step M → Type 0) (first : M) (left : Option (List ℕ))
    (taken put : List ℕ) (piece : ℕ) : Type 0 where
  pub at_end : IsAtEnd left
  pub last : piece ≡ 0
  pub few : length taken < most_taken
  pub transcript : IsTranscript step first (lines_with_rest taken) put
  pub none_ended : (front : List ℕ) × IsFront front put × GoesOn step first (lines_of taken) front

-- A line with a line feed ended the session, and its line feed is among the bytes of the last piece.
pub record IsEnded {M : Type 0} (step : M → RawLine → Step M → Type 0) (first : M) (taken put : List ℕ)
    (piece : ℕ) : Type 0 where
  pub few : length taken ≤ most_taken
  pub ended : (last : M) × IsRun step first (lines_of taken) put last true
  pub in_last : (front : List ℕ) × IsFront front put × GoesOn step first (lines_of (earlier taken piece)) front

-- The output broke off within a reply. Its line ends among the bytes of the last piece, or it is the rest after the
-- last line feed of an input that was read to its end.
pub record IsCutOff {M : Type 0} (step : M → RawLine → Step M → Type 0) (first : M) (left : Option (List ℕ))
    (taken put : List ℕ) (piece : ℕ) : Type 0 where
  pub few : length taken ≤ most_taken
  -- the bytes put are a proper prefix of a transcript
  pub front : (more : List ℕ) × (0 < length more) × IsTranscript step first (lines_with_rest taken) (put ++ more)
  -- the bytes put break off within the reply to one line
  pub cut : Cut step first (lines_with_rest taken) put
  pub in_last : length (lines_of (earlier taken piece)) ≤ length cut.before
  pub has_feed : (length cut.before < length (lines_of taken)) ⊎ (IsAtEnd left × (piece ≡ 0))

-- what a run took and put, by its end; `left` is what the source has left, and `piece` how many bytes it gave last
abbrev pub IsRight : {M : Type 0} → (M → RawLine → Step M → Type 0) → M → Option (List ℕ) → List ℕ → List ℕ → ℕ
    → End → Type 0
IsRight step first left taken put piece Done = IsReadToEnd step first left taken put piece
    ⊎ IsEnded step first taken put piece
IsRight step first left taken put piece InputFault = GoesOn step first (lines_of taken) put
    × (length taken < most_taken)
IsRight step first left taken put piece InputTooLong = GoesOn step first (lines_of taken) put
    × (length taken ≡ most_taken)
IsRight step first left taken put piece OutputFault = IsCutOff step first left taken put piece

-- which lines were answered, with their tally, by the end of the run
abbrev pub AreTallied : {M : Type 0} → (M → RawLine → Step M → Type 0) → M → List ℕ → Tally M → End → Type 0
AreTallied {M} step first taken tally Done =
    ((last : M) × (ended : Bool) × IsTallied step first (lines_with_rest taken) tally last ended)
    ⊎ ((last : M) × IsTallied step first (lines_of taken) tally last true)
AreTallied {M} step first taken tally InputFault = (last : M) × IsTallied step first
    (lines_of taken) tally last false
AreTallied {M} step first taken tally InputTooLong = (last : M) × IsTallied step first
    (lines_of taken) tally last false
AreTallied step first taken tally OutputFault = BreaksOff step first (lines_with_rest taken) tally

-- A run took some bytes from the source and put the bytes of its tally on the output, as its end says. These are the
-- bytes by which the source and the output changed, as far as their contents are known.
pub record Serves {M : Type 0} (step : M → RawLine → Step M → Type 0) (first : M) (before after : Streams) (end : End)
    (tally : Tally M) : Type 0 where
  pub taken : List ℕ
  pub reads : Consumes before.left after.left taken
  pub writes : Appends before.written after.written tally.out
  pub right : IsRight step first after.left taken tally.out after.piece end
  pub tallied : AreTallied step first taken tally end
