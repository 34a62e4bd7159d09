-- The counts that a run tells are those of the lines that it answered.
use Rattle.std.proofs.Common.{◌≡◌, ℕ, suc, ◌+◌, ◌^◌, ◌<◌, ◌≤◌, Bool, true, false, cond, List, [], ◌∷◌, length}
use Rattle.std.proofs.Common.{Option, Some, None, refl, sym, ap, subst, ◌∙◌, arith, ◌⊎◌, inl, inr}
use Rattle.std.specs.Prelude.{◌==◌}
use Rattle.std.specs.Option.{is_some}
use Rattle.std.proofs.lemmas.List.{length-append}
use Rattle.std.proofs.lemmas.List.Sums.{sum_by-cons}
use Rattle.gtp_rules.specs.Lines.{RawLine, Line, TooLong, line_feed, lines_of, lines_with_rest, rest_of, rest_line}
use Rattle.gtp_rules.specs.Steps.{Step}
use Rattle.gtp_lex.specs.Held.{lines_from, held_line, longer}
use Rattle.gtp_lex.proofs.HeldLemmas.{lines_with_rest-lines_from}
use Rattle.run_notes.specs.declared.notes.Counts.{Counts}
use Rattle.connect_rules.specs.declared.question.LinkQuestion.{LinkQuestion}
use Rattle.connect_rules.specs.declared.question.Linkage.{Linkage}
use Rattle.kept_connections.specs.Connections.{HasAsked}
use Rattle.kept_connections.specs.declared.key.LinkKey.{LinkKey}
use Rattle.read_cache.specs.Keeping.{Keeping, raised, first_keeping}
use Rattle.read_rules.specs.declared.question.Answer.{Answer}
use Rattle.match_engine.specs.declared.keys.Key.{Key}
use Rattle.machine_rules.specs.Machine.{Machine}
use Rattle.session_core.specs.Kept.{Kept}
use Rattle.session_core.specs.AskedLinks.{LinksAs}
use Rattle.session_core.specs.EngineView.{EngineView, board_of, no_counts}
use Rattle.machine_rules.specs.LinkQuestions.{asks_link_of_line, connections_in}
use Rattle.machine_rules.specs.Counting.{counted, is_read_line, readings_in}
use Rattle.machine_rules.specs.Questions.{Asks, Nothing, One, Many, AskNothing}
use Rattle.session_core.specs.AfterLine.{ReadsAs, ReadsNothing, IsAfterLine, HasFewFresh, of_readings}
use Rattle.machine_rules.specs.AnsweredLines.{AnsweredLine, IsAlong}
use Rattle.session.specs.Tallies.{Tally, IsTallied}
use Rattle.session.specs.Ends.{Streams, AreTallied, IsRight, most_taken}
use Rattle.session.specs.CountedRuns.{AreCountsOf}
use Rattle.session.specs.Headline.{ServesLines}
use Rattle.machine_rules.specs.CertainHit.{HaveCertainHits}
use Rattle.session.specs.declared.outcome.End.{End}
use Rattle.session.specs.declared.outcome.End.TheVariants.{Done, InputFault, OutputFault, InputTooLong}
use Rattle.session_core.proofs.LineCounts.{few_fresh-line}
use Rattle.session.proofs.CertainHits.{hits_are_kept}

-- How many lines a run answers.

-- no more lines end in some bytes than these are
lines_from-few : (held : RawLine) (bytes : List ℕ) → length (lines_from held bytes) ≤ length bytes
lines_from-few held [] = omega arith
lines_from-few held (b ∷ bs) =
    by (b == line_feed) (lines_from-few (Line []) bs) (lines_from-few (longer held b) bs)
  where
    by : (ends : Bool) → length (lines_from (Line []) bs) ≤ length bs
        → length (lines_from (longer held b) bs) ≤ length bs
        → length (cond ends (held ∷ lines_from (Line []) bs) (lines_from (longer held b) bs)) ≤ suc (length bs)
    by true ended goes_on = omega (arith, ended)
    by false ended goes_on = omega (arith, goes_on)

-- a line that is held is one at most
held_line-few : (held : RawLine) → length (held_line held) ≤ 1
held_line-few TooLong = omega arith
held_line-few (Line []) = omega arith
held_line-few (Line (b ∷ bs)) = omega arith

-- the lines of some bytes are one more than these at most
lines-few : (bytes : List ℕ) → length (lines_with_rest bytes) ≤ length bytes + 1
lines-few bytes = grind (arith, lines_with_rest-lines_from, length-append, lines_from-few, held_line-few)

-- those that have their line feed are among them
ended-few : (bytes : List ℕ) → length (lines_of bytes) ≤ length bytes + 1
ended-few bytes = grind (arith, length-append (lines_of bytes) (rest_line (rest_of bytes)), lines-few bytes)

module _ {M : Type 0} (step : M → RawLine → Step M → Type 0) where
  -- no more lines are tallied than there are
  turns-few : (old : M) (lines : List RawLine) (tally : Tally M) (new : M) (ended : Bool)
      → IsTallied step old lines tally new ended
      → length tally.turns ≤ length lines
  turns-few old [] tally new ended p = let none = ap (λ (t : Tally M). length t.turns) p.0 in omega (arith, none)
  turns-few old (x ∷ xs) tally new ended (first, rest, mid, true, answers, joined, h) = grind (arith, length-append)
  turns-few old (x ∷ xs) tally new ended (first, rest, mid, false, answers, joined, h) =
      grind (arith, turns-few mid xs rest new ended h, length-append)

  -- by the end of a run
  tallied-few : (first : M) (taken : List ℕ) (tally : Tally M) (end : End) → AreTallied step first taken tally end
      → length tally.turns ≤ length taken + 1
  tallied-few first taken tally Done (inl (last, ended, run)) = grind (arith, turns-few, lines-few)
  tallied-few first taken tally Done (inr (last, run)) = grind (arith, turns-few, ended-few)
  tallied-few first taken tally InputFault (last, run) = grind (arith, turns-few, ended-few)
  tallied-few first taken tally InputTooLong (last, run) = grind (arith, turns-few, ended-few)
  tallied-few first taken tally OutputFault cut = grind (arith, turns-few, length-append, lines-few taken)

  -- no run takes more bytes than it may
  taken-few : (first : M) (left : Option (List ℕ)) (taken put : List ℕ) (piece : ℕ) (end : End)
      → IsRight step first left taken put piece end
      → length taken ≤ most_taken
  taken-few first left taken put piece Done (inl read) = let few = read.few in omega (arith, few)
  taken-few first left taken put piece Done (inr ended) = ended.few
  taken-few first left taken put piece InputFault (run, few) = omega (arith, few)
  taken-few first left taken put piece InputTooLong (run, few) = omega (arith, few)
  taken-few first left taken put piece OutputFault cut = cut.few

  -- those of the source or generated ones
  pub served-few : (generate : Option ℕ) (first : M) (before after : Streams) (end : End) (tally : Tally M)
      → ServesLines generate step first before after end tally → length tally.turns ≤ most_taken + 1
  served-few None first before after end tally serves = grind (arith, tallied-few, taken-few)
  served-few (Some n) first before after end tally serves = grind (arith, tallied-few, taken-few)

-- What was counted.

-- the readings of the lines are counted
readings_along : (turns : List (AnsweredLine Machine)) (a b : Kept) → IsAlong IsAfterLine a turns b
    → a.engine.counts.readings + length turns < 2 ^ 64
    → b.engine.counts.readings ≡ a.engine.counts.readings + readings_in turns
readings_along [] a b along small = let same = ap (λ (k : Kept). k.engine.counts.readings) along in omega (arith, same)
readings_along (turn ∷ turns) a b (mid, first, rest) small =
    let counts = sum_by-cons (λ (t : AnsweredLine Machine). cond (is_read_line t.machine t.line) 1 0) turn turns in
    let here = by (is_read_line turn.machine turn.line) first.readings in
    let later = readings_along turns mid b rest (omega (arith, small, here.1)) in
    omega (arith, counts, here.0, later)
  where
    by : (reads : Bool) → mid.engine.counts.readings ≡ counted a.engine.counts.readings reads
        → (mid.engine.counts.readings ≡ a.engine.counts.readings + cond reads 1 0)
        × (mid.engine.counts.readings ≤ a.engine.counts.readings + 1)
    by true is = (omega (arith, is, small), omega (arith, is))
    by false is = (omega (arith, is), omega (arith, is))

-- no more are fresh than were counted
few_along : (turns : List (AnsweredLine Machine)) (a b : Kept) → IsAlong IsAfterLine a turns b
    → HasFewFresh a.engine.counts → HasFewFresh b.engine.counts
few_along [] a b along few = subst (λ (k : Kept). HasFewFresh k.engine.counts) (sym along) few
few_along (turn ∷ turns) a b (mid, first, rest) few =
    few_along turns mid b rest (few_fresh-line turn.machine turn.line a.engine mid.engine first.readings first.read few)

-- where no reading was fresh, none was before, and no more plays were tried than before
module _ (turn : AnsweredLine Machine) (a b : Kept) (unfresh : b.engine.counts.fresh ≡ 0) where
  untried_by : (asks : Asks) → ReadsAs asks a.engine b.engine
      → (a.engine.counts.fresh ≡ 0) × (b.engine.counts.trials ≡ a.engine.counts.trials)
  untried_by Nothing read = grind arith
  untried_by (One key) read = grind arith
  untried_by Many read = (sym read.counts.fresh ∙ unfresh, read.counts.trials)

-- if no reading was fresh after the lines, none was before them, and no more plays were tried than before
untried_along : (turns : List (AnsweredLine Machine)) (a b : Kept) → IsAlong IsAfterLine a turns b
    → b.engine.counts.fresh ≡ 0 → (a.engine.counts.fresh ≡ 0) × (b.engine.counts.trials ≡ a.engine.counts.trials)
untried_along [] a b along unfresh = grind arith
untried_along (turn ∷ turns) a b (mid, first, rest) unfresh =
    grind (arith, untried_along turns mid b rest unfresh, untried_by)

-- where no line asks for anything, all is counted of readings that was
idle_along : (turns : List (AnsweredLine Machine)) (a b : Kept) → IsAlong IsAfterLine a turns b → AskNothing turns
    → of_readings b.engine.counts ≡ of_readings a.engine.counts
idle_along [] a b along idle = ap (λ (k : Kept). of_readings k.engine.counts) along
idle_along (turn ∷ turns) a b (mid, first, rest) idle =
    let nothing : ReadsNothing a.engine mid.engine =
    subst (λ asks. ReadsAs asks a.engine mid.engine) (idle 0 turn (omega arith)) first.read in
    idle_along turns mid b rest (λ k d low. idle (suc k) d (omega (arith, low))) ∙ nothing.counts

-- What a line counts of connections, by what it asks about them: it is counted where it asks, and is fresh at most
-- then.
module _ (old new : EngineView) where
  -- one more that is fresh, or none
  fresh_by : (q : LinkQuestion) (answer : Linkage) (before after : Keeping LinkKey Linkage)
      → HasAsked (record { question = q }) (board_of old) answer before after
      → (after.fresh ≡ raised before.fresh 1) ⊎ (after.fresh ≡ before.fresh)
  fresh_by q answer before after (inl fresh) = inl fresh.fresh
  fresh_by q answer before after (inr kept) = inr kept.fresh

  -- by what is asked
  links_by : (asks : Option LinkQuestion) → LinksAs asks old new
      → old.counts.links.fresh ≤ old.counts.links.connections → old.counts.links.connections + 1 < 2 ^ 64
      → (new.counts.links.connections ≡ old.counts.links.connections + cond (is_some asks) 1 0)
      × (new.counts.links.fresh ≤ new.counts.links.connections)
  links_by None links few small = grind arith
  links_by (Some q) links few small = grind (arith, fresh_by)

-- the lines that ask about connections are counted, and no more are fresh
links_along : (turns : List (AnsweredLine Machine)) (a b : Kept) → IsAlong IsAfterLine a turns b
    → a.engine.counts.links.fresh ≤ a.engine.counts.links.connections
    → a.engine.counts.links.connections + length turns < 2 ^ 64
    → (b.engine.counts.links.connections ≡ a.engine.counts.links.connections + connections_in turns)
    × (b.engine.counts.links.fresh ≤ b.engine.counts.links.connections)
links_along [] a b along few small = grind arith
links_along (turn ∷ turns) a b (mid, first, rest) few small =
    let counts =
    sum_by-cons (λ (t : AnsweredLine Machine). cond (is_some (asks_link_of_line t.machine t.line)) 1 0) turn turns in
    let asks = asks_link_of_line turn.machine turn.line in
    let here = links_by a.engine mid.engine asks first.links few (omega (arith, small)) in
    let one = one-at-most (is_some asks) in
    let later = links_along turns mid b rest here.1 (omega (arith, small, here.0, one)) in
    (omega (arith, counts, here.0, later.0), later.1)
  where
    one-at-most : (asked : Bool) → cond asked 1 0 ≤ 1
    one-at-most true = omega arith
    one-at-most false = omega arith

-- What a session that had counted nothing counts after few lines.
module _ (first last : Kept) (turns : List (AnsweredLine Machine)) (along : IsAlong IsAfterLine first turns last)
    (none : first.engine.counts ≡ no_counts) (few : length turns ≤ most_taken + 1) where
  -- it had counted no reading
  no-readings : first.engine.counts.readings ≡ 0
  no-readings = ap (λ (c : Counts). c.readings) none

  -- it had counted no reading that was fresh
  no-fresh : first.engine.counts.fresh ≡ 0
  no-fresh = ap (λ (c : Counts). c.fresh) none

  -- so a u64 counts the readings of these lines
  few-readings : first.engine.counts.readings + length turns < 2 ^ 64
  few-readings = omega (arith, no-readings, few)

  -- and no certain hit is, where eight questions and more may be kept
  hits-kept : (capacity : ℕ) → first.engine.readings.answers ≡ first_keeping capacity → 8 ≤ capacity
      → last.engine.counts.refused ≡ 0 → (n : ℕ) → HaveCertainHits [] turns n
      → last.engine.counts.fresh + n ≤ last.engine.counts.readings
  hits-kept capacity unread room unrefused n hits =
      let open_room = subst (λ (k : Keeping Key Answer). 8 ≤ k.kept.1) (sym unread) room in
      let law = hits_are_kept first [] turns first last 0 n refl along open_room unrefused hits
      (omega (arith, no-readings, no-fresh)) few-readings in
      omega (arith, law)

  -- the connections are as many as the lines that ask about one
  all-links : (last.engine.counts.links.connections ≡ first.engine.counts.links.connections + connections_in turns)
      × (last.engine.counts.links.fresh ≤ last.engine.counts.links.connections)
  all-links = grind (arith, links_along)

  -- the counts are those of the lines
  pub counts_of : (capacity : ℕ) → first.engine.readings.answers ≡ first_keeping capacity
      → first.engine.links.answers ≡ first_keeping capacity → 8 ≤ capacity
      → AreCountsOf capacity turns last.engine.counts
  counts_of capacity unread unasked room =
      grind (
        arith,
        readings_along,
        few-readings,
        no-readings,
        no-fresh,
        few_along,
        hits-kept capacity unread room,
        untried_along turns first last along,
        idle_along turns first last along,
        all-links,
      )
