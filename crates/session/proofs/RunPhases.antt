-- How a run of a command line came to its end, by how it read its options, opened its files and served its lines.
use Rattle.std.proofs.Common.{◌≡◌, ◌≢◌, ℕ, ◌+◌, Bool, true, false, cond, List, ◌++◌, length, Option, Some, None, refl}
use Rattle.std.proofs.Common.{[], ◌∷◌, sym, ap, ◌∙◌, ◌≤◌, arith, append_assoc, append-nil}
use Rattle.std.proofs.lemmas.List.{length-append}
use Rattle.std.specs.Prelude.{option_map}
use Rattle.std.specs.List.{flat_map}
use Rattle.gtp_lex.specs.Lines.{LinesState}
use Rattle.go_options.specs.declared.options.Options.{Options}
use Rattle.run_notes.specs.Notes.{counts_line}
use Rattle.run_notes.specs.declared.notes.Counts.{Counts}
use Rattle.run_notes.specs.declared.notes.Sent.{Sent}
use Rattle.machine_rules.specs.Machine.{Machine}
use Rattle.machine_rules.specs.Files.{Contents}
use Rattle.machine_rules.specs.Matcher.{Matcher}
use Rattle.machine_rules.specs.Step.{step}
use Rattle.machine_rules.specs.Loads.{missed_in}
use Rattle.machine_rules.specs.AnsweredLines.{AnsweredLine, IsAlong}
use Rattle.session_core.specs.AfterLine.{IsAfterLine}
use Rattle.session.specs.Tallies.{Tally, kept_sum}
use Rattle.gtp_rules.specs.Lines.{RawLine}
use Rattle.gtp_rules.specs.Steps.{Step}
use Rattle.workload.specs.GeneratedLines.{generated_text}
use Rattle.workload.proofs.LengthLemmas.{generated_length}
use Rattle.helpers.specs.HelperStates.{SlotState}
use Rattle.session_core.specs.Kept.{Kept, machine_of}
use Rattle.session_core.specs.LineAnswers.{LineStep}
use Rattle.session_core.specs.EngineView.{depths_in}
use Rattle.read_rules.specs.declared.tree.Tree.{Tree}
use Rattle.session.specs.Waiting.{none_sent}
use Rattle.session.specs.FirstSession.{Opens, ReachesPhaseBy, EndsCounting}
use Rattle.session.specs.Outcomes.{Served, phase_of}
use Rattle.session.specs.Ends.{Streams, IsRight, Serves}
use Rattle.session.specs.CountedRuns.{AreCounts, AreCountsOf, IsServedCounted}
use Rattle.session.specs.Headline.{IsSent, IsCauseOf, ServesGenerated}
use Rattle.session.specs.declared.outcome.End.{End}
use Rattle.session.specs.declared.outcome.End.TheVariants.{InputTooLong}
use Rattle.session.specs.declared.serve.Ended.{Ended}
use Rattle.session.specs.declared.top_call.RunReport.{RunReport}
use Rattle.session.proofs.RunCounts.{counts_of, served-few}
use Rattle.session.proofs.PlainSessions.{ServesLines-plain}

-- the counts of a session are told where they are asked for
counts-told : (asked : Bool) (capacity : ℕ) (counts : Counts) (tally : Tally Machine)
    → AreCountsOf capacity tally.turns counts → AreCounts asked capacity (cond asked (Some counts) None) tally
counts-told true capacity counts tally are = are
counts-told false capacity counts tally are = refl

-- what was sent is told where lines were generated
sent-told : {M : Type 0} (generate : Option ℕ) (sent : Sent) (tally : Tally M) → sent.lines ≡ kept_sum 0 tally.replies
    → sent.bytes ≡ kept_sum 0 (length tally.out) → IsSent generate (option_map (λ _. sent) generate) tally
sent-told None sent tally lines bytes = refl
sent-told (Some n) sent tally lines bytes = (lines, bytes)

-- the notes tell no counts unless the options ask for them
uncounted-told : (asked : Bool) (counts : Counts) (told : Option Counts) → told ≡ cond asked (Some counts) None
    → asked ≡ false → counts_line told ≡ []
uncounted-told asked counts told tells unasked = grind arith

-- so what is noted where the options ask for the counts are those of the lines
counts-noted : (asked : Bool) (capacity : ℕ) (counts kept : Counts) (told : Option Counts) (tally : Tally Machine)
    → told ≡ cond asked (Some counts) None → counts ≡ kept → AreCountsOf capacity tally.turns kept
    → AreCounts asked capacity told tally
counts-noted asked capacity counts kept told tally tells same are = grind (arith, counts-told)

-- and what is noted of what was sent is so
sent-noted : {M : Type 0} (generate : Option ℕ) (sent : Sent) (tally : Tally M) (noted : Option Sent)
    → noted ≡ option_map (λ _. sent) generate → sent.lines ≡ kept_sum 0 tally.replies
    → sent.bytes ≡ kept_sum 0 (length tally.out) → IsSent generate noted tally
sent-noted generate sent tally noted notes lines bytes = grind (arith, sent-told)

-- the names missed along lines are those of the lines, in their order
missed_along : (turns : List (AnsweredLine Machine)) (old new : Kept) → IsAlong IsAfterLine old turns new
    → new.missed ≡ old.missed ++ flat_map missed_in turns
missed_along [] old new along = ap (λ (k : Kept). k.missed) along ∙ sym (append-nil old.missed)
missed_along (turn ∷ turns) old new (mid, first, rest) = grind (arith, missed_along turns mid new rest, append_assoc)

-- the files were opened, and the session served the lines
module _ (tree : Tree) (helpers : List SlotState) (contents : Contents) (options : Options) (lines : LinesState)
    (before after : Streams) (matcher : Matcher) (first : Kept) (ended : Ended) (now : List (List ℕ))
    (sent : Sent) where
  -- as the session began that was opened, with nothing sent
  came-first : (ran : RunReport) → Opens tree helpers contents options matcher first.engine first.helpers lines
      → EndsCounting options.generate (step matcher contents) first none_sent before after ended now sent
      → ran.counts ≡ cond options.stats (Some ended.counts) None
      → ran.sent ≡ option_map (λ _. sent) options.generate
      → IsServedCounted tree helpers options contents first.missed now before after ended.end ran.counts ran.sent
  came-first ran opens ends tells notes =
      let counting = ends.serves in
      let kept = ends.kept in
      let few = served-few (step matcher contents) options.generate (machine_of first) before after ended.end
      counting.tally counting.serves in
      let are = counts_of first kept counting.tally.turns counting.advances.along opens.first.counts few options.cache
      opens.first.readings opens.first.links opens.first.room in
      record {
        served = record {
          patterns = opens.patterns;
          opened = opens.opened;
          tally = counting.tally;
          serves = ServesLines-plain opens.patterns (depths_in tree options) options.cache matcher first.engine
              first.helpers helpers contents options.generate before after ended.end counting.tally opens.first
              opens.matches opens.same counting.serves;
          names = ends.names ∙ missed_along counting.tally.turns first kept counting.advances.along;
          uncounted = uncounted-told options.stats ended.counts ran.counts tells;
          told = sent-noted options.generate sent counting.tally ran.sent notes counting.advances.replies
              counting.advances.bytes;
        };
        counted = counts-noted options.stats options.cache ended.counts kept.engine.counts ran.counts counting.tally
            tells ends.same are;
      }

  -- by the run's phase, where opening the files left what files hold and which names were missed
  pub came-served : (ran : RunReport) (was : Sent) (here : Contents) (missed : List (List ℕ))
      → EndsCounting options.generate (step matcher here) first was before after ended now sent
      → Opens tree helpers contents options matcher first.engine first.helpers lines → here ≡ contents
      → first.missed ≡ missed → was ≡ none_sent
      → ran.counts ≡ cond options.stats (Some ended.counts) None
      → ran.sent ≡ option_map (λ _. sent) options.generate → phase_of ran.outcome ≡ Served ended.end
      → ReachesPhaseBy tree helpers options contents missed now before after ran.counts ran.sent (phase_of ran.outcome)
  came-served ran was here missed ends opens holds kept unsent tells notes is = grind (arith, came-first)

-- a source that never fails causes no fault
pub uncaused : (fault : Type 0) (count : ℕ) → IsCauseOf fault 0 0 → IsCauseOf fault count count
uncaused fault count cause = grind arith

-- a run that took a part of so many generated lines did not take as many bytes as the longest input has
not_too_long : {M : Type 0} (step : M → RawLine → Step M → Type 0) (first : M) (left : Option (List ℕ))
    (text rest taken put : List ℕ) (piece n : ℕ) (end : End) → n ≤ 100000 → text ≡ generated_text n
    → text ≡ taken ++ rest → IsRight step first left taken put piece end → end ≢ InputTooLong
not_too_long step first left text rest taken put piece n end few is reads right too_long =
    grind (arith, generated_length n few, length-append taken rest)

-- the streams of a source and of an output
abbrev pub both_of : Streams → Streams → Streams
both_of source sink = record sink {
  left = source.left;
  piece = source.piece;
  input_faults = source.input_faults;
}

-- Lines that were generated were served in place of a source, which stays as it was.
module _ (n : ℕ) (source before after : Streams) where
  -- what was served of the text was served of the generated lines
  serves-these : {M : Type 0} (step : M → RawLine → Step M → Type 0) (first : M) (end : End) (tally : Tally M)
      (text rest : List ℕ) → n ≤ 100000 → text ≡ generated_text n → before.left ≡ Some text → after.left ≡ Some rest
      → Serves step first before after end tally
      → ServesGenerated n step first (both_of source before) (both_of source after) end tally
  serves-these step first end tally text rest few is holds leaves serves =
      grind (
        arith,
        not_too_long,
        not_too_long step first (Some rest) text rest serves.taken tally.out after.piece n end few is,
      )

  -- with the counts that are noted
  pub ends-generated : (generate : Option ℕ) (step : LineStep) (old : Kept) (was : Sent) (ended : Ended)
      (missed : List (List ℕ)) (now : Sent) → generate ≡ Some n → n ≤ 100000
      → EndsCounting None step old was before after ended missed now → (text rest : List ℕ)
      → text ≡ generated_text n → before.left ≡ Some text → after.left ≡ Some rest
      → EndsCounting generate step old was (both_of source before) (both_of source after) ended missed now
  ends-generated generate step old was ended missed now some few ends text rest is holds leaves =
      grind (
        arith,
        serves-these step (machine_of old) ended.end ends.serves.tally text rest few is holds leaves ends.serves.serves,
      )
