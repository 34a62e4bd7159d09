-- What a run counts of the lines that it answers, for any machine M and any step: each line was answered, as in a
-- transcript, and is tallied with its reply. Counts in ℕ are exact; the program's counts stop at the greatest value of
-- a u64.
use Rattle.session_core.specs.Replies.{reply_count}
use Rattle.std.specs.Prelude.{◌≡◌, ℕ, zero, suc, ◌+◌, ◌-◌, ◌^◌, min, Bool, true, false, MatchBool, List, [], ◌∷◌}
use Rattle.std.specs.Prelude.{◌++◌, length, Option}
use Rattle.std.specs.Io.KnownBytes.{Appends}
use Rattle.gtp_rules.specs.Lines.{RawLine}
use Rattle.gtp_rules.specs.Steps.{Step}
use Rattle.gtp_rules.specs.Transcript.{MayAnswer, Cut}
use Rattle.session_core.specs.Kept.{Kept}
use Rattle.machine_rules.specs.AnsweredLines.{AnsweredLine, IsAlong}

-- the bytes that were put, how many replies were put whole, and the lines that were answered, each with its machine
pub record Tally (M : Type 0) : Type 0 where
  pub out : List ℕ
  pub replies : ℕ
  pub turns : List (AnsweredLine M)

-- the tally before the first line
abbrev pub no_tally : {M : Type 0} → Tally M
no_tally = record { out = []; replies = 0; turns = [] }

-- the tally of the lines of a and then of those of b
abbrev pub together : {M : Type 0} → Tally M → Tally M → Tally M
together a b = record { out = a.out ++ b.out; replies = a.replies + b.replies; turns = a.turns ++ b.turns }

-- a single line that comes to a machine and has this reply
abbrev pub one_turn : {M : Type 0} → M → RawLine → List ℕ → List (AnsweredLine M)
one_turn machine line reply = record { machine = machine; line = line; reply = reply } ∷ []

-- the tally of a line and its reply
abbrev pub tally_of : {M : Type 0} → M → RawLine → List ℕ → Tally M
tally_of machine line reply = record { out = reply; replies = reply_count reply; turns = one_turn machine line reply }

-- the tally of a line and its reply, of which only a part was put: the reply is not counted, but the line was answered
abbrev pub cut_tally : {M : Type 0} → M → RawLine → List ℕ → List ℕ → Tally M
cut_tally machine line part missing =
    record { out = part; replies = 0; turns = one_turn machine line (part ++ missing) }

-- The lines were answered with this tally, one after another, and `new` is the machine after them. Nothing is answered
-- after a line that ends the session, and `ended` says whether there is one.
abbrev pub IsTallied : {M : Type 0} → (M → RawLine → Step M → Type 0) → M → List RawLine → Tally M → M → Bool → Type 0
IsTallied step old [] tally new ended = (tally ≡ no_tally) × (new ≡ old) × (ended ≡ false)
IsTallied {M} step old (line ∷ lines) tally new ended =
    (first : List ℕ) × (rest : Tally M) × (mid : M) × (ends : Bool) × MayAnswer step old line first mid ends
    × (tally ≡ together (tally_of old line first) rest)
    × MatchBool ends ((rest ≡ no_tally) × (new ≡ mid) × (ended ≡ true)) (IsTallied step mid lines rest new ended)

-- The bytes put break off within the reply to one of the lines. The tally is that of the lines before it, and of this
-- line with the part of its reply that was put.
pub record BreaksOff {M : Type 0} (step : M → RawLine → Step M → Type 0) (first : M) (lines : List RawLine)
    (tally : Tally M) : Type 0 where
  pub cut : Cut step first lines tally.out
  pub whole : Tally M
  pub answered : IsTallied step first cut.before whole cut.mid false
  pub tallied : tally ≡ together whole (cut_tally cut.mid cut.line cut.part cut.missing)

-- a count plus n, but at most the greatest value of a u64 if n is not 0
abbrev pub kept_sum : ℕ → ℕ → ℕ
kept_sum count zero = count
kept_sum count (suc n) = min (count + suc n) (2 ^ 64 - 1)

-- what an output holds, what the session keeps, and how many replies and bytes were sent so far
pub record Progress : Type 0 where
  pub written : Option (List ℕ)
  pub kept : Kept
  pub replies : ℕ
  pub bytes : ℕ

-- bytes were put on the output, what the session keeps changed along the lines, and the counts rose by their tally
pub record Advances {M : Type 0} (goes : Kept → AnsweredLine M → Kept → Type 0) (old new : Progress)
    (tally : Tally M) : Type 0 where
  pub writes : Appends old.written new.written tally.out
  pub along : IsAlong goes old.kept tally.turns new.kept
  pub replies : new.replies ≡ kept_sum old.replies tally.replies
  pub bytes : new.bytes ≡ kept_sum old.bytes (length tally.out)
