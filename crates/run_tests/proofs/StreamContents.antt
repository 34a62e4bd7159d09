-- What a run says where the source tells what it has left and the output what it holds.
use Rattle.std.proofs.Common.{◌≡◌, ℕ, List, Option, Some, None, ap}
use Rattle.gtp_rules.specs.Lines.{RawLine}
use Rattle.gtp_rules.specs.Steps.{Step}
use Rattle.helpers.specs.HelperStates.{SlotState}
use Rattle.read_rules.specs.declared.tree.Tree.TheVariants.{Stated}
use Rattle.machine_rules.specs.Files.{Contents}
use Rattle.run_notes.specs.declared.notes.Sent.{Sent}
use Rattle.session.specs.Tallies.{Tally}
use Rattle.session.specs.Ends.{Streams}
use Rattle.session.specs.Headline.{ServesLines, ReachesPhase}
use Rattle.session.specs.Outcomes.{Phase, NotTaken, NotOpened, Served}
use Rattle.session.specs.declared.outcome.End.{End}
use Rattle.run_tests.specs.MemoryRuns.{ServesEither, ComesTo}

-- streams that tell their bytes
abbrev pub telling : List ℕ → ℕ → ℕ → List ℕ → ℕ → Streams
telling left piece input_faults written output_faults =
    record {
      left = Some left;
      piece = piece;
      input_faults = input_faults;
      written = Some written;
      output_faults = output_faults;
    }

-- the streams before a run, and those after it
module _ (input : List ℕ) (last hurt : ℕ) (old : List ℕ) (torn : ℕ) (rest : List ℕ) (piece fault : ℕ) (new : List ℕ)
    (cut : ℕ) where
  -- streams that are as before have the same left, and hold the same
  as_before : telling rest piece fault new cut ≡ telling input last hurt old torn → (rest ≡ input) × (new ≡ old)
  as_before same =
      let left = ap (λ (s : Streams). s.left) same in
      let written = ap (λ (s : Streams). s.written) same in
      (cc, cc)

  -- the lines were served, those of the feed or generated ones
  either : {M : Type 0} (step : M → RawLine → Step M → Type 0) (first : M) (generate : Option ℕ) (end : End)
      (tally : Tally M) → ServesLines generate step first (telling input last hurt old torn)
      (telling rest piece fault new cut) end tally
      → ServesEither generate step first input rest old new piece end
  either step first None end tally serves = record {
    taken = serves.taken;
    put = tally.out;
    reads = serves.reads;
    writes = serves.writes;
    right = serves.right;
  }
  either step first (Some n) end tally serves =
      let left = serves.left in
      let lines = serves.generated in (
        cc,
        (
          lines.0,
          lines.1,
          record {
            taken = lines.2.taken;
            put = tally.out;
            reads = lines.2.reads;
            writes = lines.2.writes;
            right = lines.2.right;
          },
        ),
      )

  -- a run over them says what was taken and put
  pub told : (helpers : List SlotState) (words : List (List ℕ)) (contents : Contents) (missed now : List (List ℕ))
      (counts : List ℕ) (sent : Option Sent) (phase : Phase)
      → ReachesPhase Stated helpers words contents missed now (telling input last hurt old torn)
      (telling rest piece fault new cut) counts sent phase
      → ComesTo helpers words contents input rest old new piece phase
  told helpers words contents missed now counts sent NotTaken came = let same = as_before came.1.streams in
      (came.0, same.0, same.1)
  told helpers words contents missed now counts sent (NotOpened error) came = let same = as_before came.1.streams in
      (came.0, same.0, same.1)
  told helpers words contents missed now counts sent (Served end) came = record {
    options = came.0;
    given = came.1;
    patterns = came.2.patterns;
    opened = came.2.opened;
    serves = either _ _ came.0.generate end came.2.tally came.2.serves;
  }
