-- A reply as it is put on the output.
use Rattle.std.proofs.Common.{◌≡◌, ⊎_elim, ℕ, false, List, [], ◌∷◌, Option, refl, sym, ap, subst, ◌∙◌}
use Rattle.std.proofs.Common.{inl, inr, arith}
use Rattle.std.proofs.KnownBytes.{Appends-nil}
use Rattle.gtp_rules.specs.Lines.{RawLine}
use Rattle.gtp_rules.specs.Transcript.{MayAnswer}
use Rattle.run_notes.specs.declared.notes.Counts.{Counts}
use Rattle.run_notes.specs.declared.notes.Sent.{Sent}
use Rattle.machine_rules.specs.Machine.{Machine}
use Rattle.machine_rules.specs.AnsweredLines.{IsAlong}
use Rattle.session_core.specs.AfterLine.{IsAfterLine}
use Rattle.session_core.specs.LineAnswers.{AnswersLine, LineStep}
use Rattle.session_core.specs.Kept.{Kept, machine_of}
use Rattle.session_core.specs.Replies.{reply_bytes, reply_ends, reply_count}
use Rattle.session_core.specs.declared.reply.Reply.{Reply}
use Rattle.session_core.specs.declared.reply.Reply.TheVariants.{Nothing, Short, Text, NoMemory}
use Rattle.session.specs.Tallies.{one_turn}
use Rattle.session.specs.Serving.{PutsPart, PutsReply, Replies, RepliesPart, RunsTo, progress_of}
use Rattle.session.specs.Waiting.{OutputState, holds_with, sent_with, Stop, IsStop, CutsReply, MayStop, Sends}
use Rattle.session.specs.Waiting.{SendsReply}
use Rattle.session.specs.Answered.{Answered, BreaksIn, MayCut, progress_with, standing_at}
use Rattle.session.proofs.ServeLemmas.{RunsTo-one, RunsPart-one}

-- The session answered a line with a reply by this step.
module _ (step : LineStep) (old new : Kept) (line : RawLine) (reply : Reply)
    (is : AnswersLine step old line reply new) where
  -- what is kept went along the line with its reply
  along : (sent : List ℕ) → sent ≡ reply_bytes reply
      → IsAlong IsAfterLine old (one_turn (machine_of old) line sent) new
  along sent same = grind arith

  module _ (w0 w1 : Option (List ℕ)) (s0 s1 : Sent) where
    -- the bytes went out whole
    pub Replies-whole : reply_count (reply_bytes reply) ≡ 1 → PutsReply w0 w1 s0 s1 (reply_bytes reply)
        → Replies step IsAfterLine (machine_of old) line (machine_of new) (reply_ends reply)
        (progress_of w0 old s0) (progress_of w1 new s1)
    Replies-whole some puts = grind (arith, along)

    -- a front of the bytes went out
    pub Replies-part : PutsPart w0 w1 s0 s1 (reply_bytes reply)
        → RepliesPart step IsAfterLine (machine_of old) line (progress_of w0 old s0) (progress_of w1 new s1)
    Replies-part put = grind (arith, along)

  -- nothing was put, as the line has no words
  Replies-nothing : (w : Option (List ℕ)) (s : Sent) → reply ≡ Nothing
      → Replies step IsAfterLine (machine_of old) line (machine_of new) false (progress_of w old s)
      (progress_of w new s)
  Replies-nothing w s none = record {
    reply = [];
    answers = subst (λ r. MayAnswer step (machine_of old) line (reply_bytes r) (machine_of new) (reply_ends r)) none
        is.reply;
    advances = record {
      writes = Appends-nil w;
      along = along [] (ap reply_bytes (sym none));
      replies = refl;
      bytes = refl;
    };
  }

  -- Its reply came behind those that wait.
  module _ (a : OutputState) where
    -- nothing came
    turn-nothing : reply ≡ Nothing → RunsTo step IsAfterLine (machine_of old) (line ∷ []) (machine_of new) false
        (progress_with (standing_at old a)) (progress_with (standing_at new a))
    turn-nothing none =
        RunsTo-one Machine step IsAfterLine (machine_of old) line (machine_of new) false
        (progress_with (standing_at old a)) (progress_with (standing_at new a)) (line ∷ []) refl
        (Replies-nothing (holds_with a) (sent_with a) none)

    -- its bytes were sent
    turn-whole : (b : OutputState) (counts : Counts) → reply_count (reply_bytes reply) ≡ 1
        → Sends a b (reply_bytes reply) counts
        → RunsTo step IsAfterLine (machine_of old) (line ∷ []) (machine_of new) (reply_ends reply)
        (progress_with (standing_at old a)) (progress_with (standing_at new b))
    turn-whole b counts some sends =
        RunsTo-one Machine step IsAfterLine (machine_of old) line (machine_of new) (reply_ends reply)
        (progress_with (standing_at old a)) (progress_with (standing_at new b)) (line ∷ []) refl
        (Replies-whole (holds_with a) (holds_with b) (sent_with a) (sent_with b) some sends.whole)

    -- the output may fail within it; where it fails within what waits, the names missed are those before the line
    pub turn-stop : (counts : Counts) (stop : Stop) → counts ≡ new.engine.counts
        → (IsStop a stop → new.missed ≡ old.missed) → MayStop a (reply_bytes reply) counts stop
        → MayCut step IsAfterLine (machine_of old) (line ∷ []) (standing_at old a) stop new.missed
    turn-stop counts stop noted waits may =
        ⊎_elim (λ (at : IsStop a stop). inl (at, waits at))
        (λ (cuts : CutsReply (holds_with a) (sent_with a) (reply_bytes reply) counts stop).
        inr (record {
          kept = new;
          same = cuts.same ∙ noted;
          names = refl;
          runs = RunsPart-one Machine step IsAfterLine (machine_of old) line (progress_with (standing_at old a))
              (progress_of stop.written new stop.sent) (line ∷ []) [] refl
              (Replies-part (holds_with a) stop.written (sent_with a) stop.sent cuts.puts);
        }))
        may

-- bytes that were sent are those of a reply that is not nothing
pub sends-reply : (a b : OutputState) (reply : Reply) (counts : Counts) (sent : List ℕ) → (reply ≡ Nothing → ⊥)
    → sent ≡ reply_bytes reply → Sends a b sent counts → SendsReply a b reply counts
sends-reply a b Nothing counts sent some same sends = absurd (some refl)
sends-reply a b (Short text quit) counts sent some same sends = subst (λ l. Sends a b l counts) same sends
sends-reply a b (Text bytes) counts sent some same sends = subst (λ l. Sends a b l counts) same sends
sends-reply a b (NoMemory id) counts sent some same sends = subst (λ l. Sends a b l counts) same sends

-- The reply to a line was sent.
module _ (step : LineStep) (old new : Kept) (line : RawLine) (a b : OutputState) (counts : Counts) where
  -- its line was answered, with what was sent
  turn-sent : (reply : Reply) → AnswersLine step old line reply new → SendsReply a b reply counts
      → RunsTo step IsAfterLine (machine_of old) (line ∷ []) (machine_of new) (reply_ends reply)
      (progress_with (standing_at old a)) (progress_with (standing_at new b))
  turn-sent Nothing is same = grind (arith, turn-nothing)
  turn-sent (Short text quit) is sends = grind (arith, turn-whole step old new line (Short text quit) is a b counts)
  turn-sent (Text bytes) is sends = grind (arith, turn-whole step old new line (Text bytes) is a b counts)
  turn-sent (NoMemory id) is sends = grind (arith, turn-whole step old new line (NoMemory id) is a b counts)

  -- where the output may fail after it
  turn-stops : (reply : Reply) → AnswersLine step old line reply new → counts ≡ new.engine.counts
      → ((stop : Stop) → IsStop a stop → new.missed ≡ old.missed) → SendsReply a b reply counts → (stop : Stop)
      → IsStop b stop
      → MayCut step IsAfterLine (machine_of old) (line ∷ []) (standing_at old a) stop new.missed
  turn-stops Nothing is noted same holds stop at = grind arith
  turn-stops (Short text quit) is noted same sends stop at =
      turn-stop step old new line (Short text quit) is a counts stop noted (same stop) (sends.stops stop at)
  turn-stops (Text bytes) is noted same sends stop at =
      turn-stop step old new line (Text bytes) is a counts stop noted (same stop) (sends.stops stop at)
  turn-stops (NoMemory id) is noted same sends stop at =
      turn-stop step old new line (NoMemory id) is a counts stop noted (same stop) (sends.stops stop at)

  -- so it was answered whole
  pub turn-answered : (reply : Reply) → AnswersLine step old line reply new → counts ≡ new.engine.counts
      → ((stop : Stop) → IsStop a stop → new.missed ≡ old.missed) → SendsReply a b reply counts
      → Answered step (line ∷ []) (reply_ends reply) (standing_at old a) (standing_at new b)
  turn-answered reply is noted same sends =
      grind (arith, turn-sent reply is sends, turn-stops reply is noted same sends)

  -- the output failed within its reply, or before it
  pub turn-breaks : (reply : Reply) → AnswersLine step old line reply new → (stop : Stop)
      → counts ≡ new.engine.counts → (IsStop a stop → new.missed ≡ old.missed)
      → MayStop a (reply_bytes reply) counts stop
      → BreaksIn step (line ∷ []) (standing_at old a) stop new.missed
  turn-breaks reply is stop noted waits may =
      grind (arith, turn-stop step old new line reply is a counts stop noted waits may)
