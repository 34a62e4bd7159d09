-- The steps of the loops of a run, over plain values.
use Rattle.std.proofs.Common.{◌≡◌, ◌≢◌, ⊎_elim, inl, inr, ℕ, ◌-◌, Bool, true, false, List, [], ◌∷◌, ◌++◌, length, take}
use Rattle.std.proofs.Common.{drop, Option, Some, None, Result, IfOk, IfErr, refl, sym, ap, subst, ◌∙◌, append_assoc}
use Rattle.std.proofs.Common.{append-nil, take-append-drop, arith}
use Rattle.std.proofs.lemmas.List.{take_rest, take_all}
use Rattle.std.specs.Io.KnownBytes.{Appends, Keeps}
use Rattle.gtp_rules.specs.Lines.{RawLine, Line, TooLong}
use Rattle.gtp_rules.specs.Steps.{Step}
use Rattle.gtp_lex.specs.Held.{lines_from, held_from, held_line}
use Rattle.gtp_lex.specs.Lines.{LinesState, Feeds}
use Rattle.gtp_lex.specs.LinesTaken.{taken_of, given_state}
use Rattle.gtp_lex.specs.declared.lines.Taken.{Taken}
use Rattle.gtp_lex.specs.declared.lines.Taken.TheVariants as taken
use Rattle.gtp_lex.proofs.HeldLemmas.{lines_from-append, held_from-append}
use Rattle.run_notes.specs.declared.notes.Counts.{Counts}
use Rattle.machine_rules.specs.Machine.{Machine}
use Rattle.machine_rules.specs.Files.{Contents}
use Rattle.machine_rules.specs.Step as answering
use Rattle.machine_rules.specs.AnsweredLines.{AnsweredLine}
use Rattle.session_core.specs.AfterLine.{IsAfterLine}
use Rattle.session_core.specs.Kept.{Kept, machine_of}
use Rattle.session_core.specs.LineAnswers.{LineStep}
use Rattle.session_core.specs.MatcherView.{MatcherView, matcher_of}
use Rattle.session.specs.Tallies.{Progress, IsTallied, tally_of, cut_tally, no_tally, together}
use Rattle.session.specs.Serving.{Replies, RepliesPart, RunsTo, RunsPart, progress_of}
use Rattle.session.specs.Waiting.{OutputState, none_wait, Stop, IsStop, KeepsOutput}
use Rattle.session.specs.Answered.{Standing, standing_at, progress_at, progress_with, CutsShort, MayCut}
use Rattle.session.specs.Answered.{Answered, AnsweredOut, BreaksIn, BreaksOut}
use Rattle.session.proofs.WaitingReplies.{stays-none, none-stops, kept-none, none-appends}
use Rattle.session.proofs.TallyLemmas.{Advances-none, Advances-trans, IsTallied-nil, IsTallied-one, IsTallied-append}
use Rattle.session.proofs.TallyLemmas.{IsTallied-ended, BreaksOff-one, BreaksOff-after, BreaksOff-more}

-- The line that `take` or `finish` gives.

-- what `take` says of the line that waits, and of no line
abbrev Takes : Bool → RawLine → Option Taken → LinesState → LinesState → Type 0
Takes waits held result new old =
    (waits ≡ false → (result ≡ None) × (new ≡ old))
    × (waits ≡ true → (result ≡ Some (taken_of held)) × (new ≡ given_state held))

-- a line was taken, so it waited
by_waits : (waits : Bool) (held : RawLine) (result : Option Taken) (taken : Taken) (new old : LinesState) → result
    ≡ Some taken
    → Takes waits held result new old → (waits ≡ true) × (taken ≡ taken_of held) × (new ≡ given_state held)
by_waits true held result taken new old is takes = (refl, (let given = (takes.1 refl).0 in cc), (takes.1 refl).1)
by_waits false held result taken new old is takes = absurd (let none = (takes.0 refl).0 in cc)

-- no line was taken, so none waited
by_none : (waits : Bool) (held : RawLine) (result : Option Taken) (new old : LinesState) → result ≡ None
    → Takes waits held result new old → (waits ≡ false) × (new ≡ old)
by_none false held result new old is takes = (refl, (takes.0 refl).1)
by_none true held result new old is takes = absurd (let given = (takes.1 refl).0 in cc)

-- n bytes were fed and a line was taken: it is the one line that ends in them, and nothing is held after it
pub taken_line : (old mid new : LinesState) (rest : List ℕ) (n : ℕ) (result : Option Taken) (taken : Taken)
    → Feeds old mid rest n → result ≡ Some taken
    → (mid.waits ≡ false → (result ≡ None) × (new ≡ mid))
    → (mid.waits ≡ true → (result ≡ Some (taken_of mid.held)) × (new ≡ given_state mid.held))
    → (taken ≡ taken_of mid.held) × (new ≡ given_state mid.held)
    × (lines_from old.held (take n rest) ≡ mid.held ∷ []) × (held_from old.held (take n rest) ≡ Line [])
taken_line old mid new rest n result taken fed is none some = grind (arith, by_waits)

-- n bytes were fed and no line was taken: none ends in them, and what is held goes on
pub no_line_taken : (old mid new : LinesState) (rest : List ℕ) (n : ℕ) (result : Option Taken)
    → Feeds old mid rest n → result ≡ None
    → (mid.waits ≡ false → (result ≡ None) × (new ≡ mid))
    → (mid.waits ≡ true → (result ≡ Some (taken_of mid.held)) × (new ≡ given_state mid.held))
    → (lines_from old.held (take n rest) ≡ []) × (held_from old.held (take n rest) ≡ new.held) × (new.waits ≡ false)
no_line_taken old mid new rest n result fed is none some = grind (arith, by_none, take_all)

-- a rest was given as a last line
pub rest_taken : (held : RawLine) (result : Option Taken) (taken : Taken) (old new : LinesState) → result ≡ Some taken
    → (held ≡ Line [] → (result ≡ None) × (new ≡ old))
    → (held ≢ Line [] → (result ≡ Some (taken_of held)) × (new ≡ given_state held))
    → (taken ≡ taken_of held) × (new ≡ given_state held) × (held_line held ≡ held ∷ [])
rest_taken TooLong result taken old new is none some = grind arith
rest_taken (Line []) result taken old new is none some = absurd (let told = (none refl).0 in cc)
rest_taken (Line (b ∷ bs)) result taken old new is none some = grind arith

-- no rest was given, so there is none
pub no_rest : (held : RawLine) (result : Option Taken) (new old : LinesState) → result ≡ None
    → (held ≡ Line [] → (result ≡ None) × (new ≡ old))
    → (held ≢ Line [] → (result ≡ Some (taken_of held)) × (new ≡ given_state held))
    → held_line held ≡ []
no_rest TooLong result new old is none some = absurd (let told = (some (λ e. cc)).0 in cc)
no_rest (Line []) result new old is none some = refl
no_rest (Line (b ∷ bs)) result new old is none some = absurd (let told = (some (λ e. cc)).0 in cc)

-- a line was given, and its bytes are those that are told
pub given_line : (held : RawLine) (told : Taken) (lines : LinesState) (bytes : List ℕ) → lines ≡ given_state held
    → told ≡ taken_of held → told ≡ taken.Line → lines.given ≡ Some bytes → held ≡ Line bytes
given_line (Line text) told lines bytes is of_held as_line given = grind arith
given_line TooLong told lines bytes is of_held as_line given = absurd cc

-- a line was given that is too long
pub given_too_long : (held : RawLine) (told : Taken) → told ≡ taken_of held → told ≡ taken.TooLong → held ≡ TooLong
given_too_long (Line text) told of_held as_long = absurd cc
given_too_long TooLong told of_held as_long = refl

-- The lines of a piece, of which n bytes more were taken.

-- the lines of the piece are those of the bytes taken, and then those of what is left
pub lines_from-take : (held held' : RawLine) (rest : List ℕ) (n : ℕ) → held' ≡ held_from held (take n rest)
    → lines_from held rest ≡ lines_from held (take n rest) ++ lines_from held' (take (length rest - n) (drop n rest))
lines_from-take held held' rest n after =
    grind (arith, take-append-drop n rest, lines_from-append held (take n rest) (drop n rest), take_rest rest n)

-- what the piece leaves held is what the bytes left do
pub held_from-take : (held held' : RawLine) (rest : List ℕ) (n : ℕ) → held' ≡ held_from held (take n rest)
    → held_from held rest ≡ held_from held' (take (length rest - n) (drop n rest))
held_from-take held held' rest n after =
    grind (arith, take-append-drop n rest, held_from-append held (take n rest) (drop n rest), take_rest rest n)

-- two sessions with one matcher answer by one step, where files have the same contents
pub same-step : (now first : MatcherView) (here there : Contents) → now ≡ first → here ≡ there
    → answering.step (matcher_of now) here ≡ answering.step (matcher_of first) there
same-step now first here there same holds = λ i. answering.step (matcher_of (same i)) (holds i)

-- What was done by a step was done by the step that equals it.
module _ (here there : LineStep) (same : here ≡ there) where
  -- lines that were answered whole
  pub RunsTo-by : (from : Machine) (lines : List RawLine) (to : Machine) (ended : Bool) (a b : Progress)
      → RunsTo here IsAfterLine from lines to ended a b → RunsTo there IsAfterLine from lines to ended a b
  RunsTo-by from lines to ended a b runs = grind arith

  -- lines where the output may fail
  pub MayCut-by : (from : Machine) (lines : List RawLine) (a : Standing) (stop : Stop) (missed : List (List ℕ))
      → MayCut here IsAfterLine from lines a stop missed → MayCut there IsAfterLine from lines a stop missed
  MayCut-by from lines a stop missed may = grind arith

  -- lines where it did
  pub CutsShort-by : (from : Machine) (lines : List RawLine) (a : Progress) (stop : Stop) (missed : List (List ℕ))
      → CutsShort here IsAfterLine from lines a stop missed → CutsShort there IsAfterLine from lines a stop missed
  CutsShort-by from lines a stop missed cuts = grind arith

-- bytes that are kept are followed by none
kept-appends : (old new : Option (List ℕ)) → Keeps old new → Appends old new []
kept-appends None new keeps = tt
kept-appends (Some xs) None keeps = absurd keeps
kept-appends (Some xs) (Some ys) keeps = keeps ∙ sym (append-nil xs)

module _ (M : Type 0) (step : M → RawLine → Step M → Type 0) (goes : Kept → AnsweredLine M → Kept → Type 0) where
  -- one line, answered whole
  pub RunsTo-one : (from : M) (line : RawLine) (to : M) (ends : Bool) (a b : Progress) (lines : List RawLine)
      → lines ≡ line ∷ []
      → Replies step goes from line to ends a b → RunsTo step goes from lines to ends a b
  RunsTo-one from line to ends a b lines one replies = record {
    tally = tally_of from line replies.reply;
    run = subst (λ l. IsTallied step from l (tally_of from line replies.reply) to ends) (sym one)
        (IsTallied-one M step from line replies.reply to ends replies.answers);
    advances = replies.advances;
  }

  -- no line
  pub RunsTo-nil : (from : M) (a : Progress) → RunsTo step goes from [] from false a a
  RunsTo-nil from a = record { tally = no_tally; run = IsTallied-nil M step from; advances = Advances-none goes a }

  -- one line, whose reply broke off, and lines after it
  pub RunsPart-one : (from : M) (line : RawLine) (a b : Progress) (lines more : List RawLine) → lines
      ≡ line ∷ more
      → RepliesPart step goes from line a b → RunsPart step goes from lines a b
  RunsPart-one from line a b lines more first replies = record {
    tally = cut_tally from line replies.part replies.missing;
    breaks_off = BreaksOff-one M step from line more lines replies.part replies.missing replies.next replies.ends first
        replies.answers replies.proper;
    advances = replies.advances;
  }

  -- lines after lines
  pub RunsTo-append : (from mid to : M) (xs ys : List RawLine) (ended : Bool) (a b c : Progress)
      → RunsTo step goes from xs mid false a b → RunsTo step goes mid ys to ended b c → RunsTo step goes from
      (xs ++ ys) to ended a c
  RunsTo-append from mid to xs ys ended a b c earlier later = record {
    tally = together earlier.tally later.tally;
    run = IsTallied-append M step from xs ys earlier.tally later.tally mid to ended earlier.run later.run;
    advances = Advances-trans goes a b c earlier.tally later.tally earlier.advances later.advances;
  }

  -- after a line that ends the session nothing is answered
  pub RunsTo-ended : (from to : M) (xs ys : List RawLine) (a b : Progress) → RunsTo step goes from xs to true a b
      → RunsTo step goes from (xs ++ ys) to true a b
  RunsTo-ended from to xs ys a b runs =
      record {
        tally = runs.tally;
        run = IsTallied-ended M step from xs ys runs.tally to runs.run;
        advances = runs.advances;
      }

  -- lines that broke off, after lines answered whole
  pub RunsPart-after : (from mid : M) (xs ys : List RawLine) (a b c : Progress)
      → RunsTo step goes from xs mid false a b → RunsPart step goes mid ys b c → RunsPart step goes from (xs ++ ys) a c
  RunsPart-after from mid xs ys a b c earlier later = record {
    tally = together earlier.tally later.tally;
    breaks_off = BreaksOff-after M step from xs ys (xs ++ ys) earlier.tally later.tally mid refl earlier.run
        later.breaks_off;
    advances = Advances-trans goes a b c earlier.tally later.tally earlier.advances later.advances;
  }

  -- lines that broke off, before other lines
  pub RunsPart-more : (from : M) (xs ys : List RawLine) (a b : Progress) → RunsPart step goes from xs a b
      → RunsPart step goes from (xs ++ ys) a b
  RunsPart-more from xs ys a b runs = record {
    tally = runs.tally;
    breaks_off = BreaksOff-more M step from xs ys (xs ++ ys) runs.tally refl runs.breaks_off;
    advances = runs.advances;
  }

  -- a run of some lines is one of the lines that equal them
  pub RunsTo-is : (from to : M) (xs ys : List RawLine) (ended : Bool) (a b : Progress) → xs ≡ ys
      → RunsTo step goes from ys to ended a b → RunsTo step goes from xs to ended a b
  RunsTo-is from to xs ys ended a b same runs = subst (λ l. RunsTo step goes from l to ended a b) (sym same) runs

  -- a flag that says whether the session ended
  pub RunsTo-flag : (from to : M) (lines : List RawLine) (ended flag : Bool) (a b : Progress) → ended ≡ flag
      → RunsTo step goes from lines to ended a b → RunsTo step goes from lines to flag a b
  RunsTo-flag from to lines ended flag a b same runs = subst (λ t. RunsTo step goes from lines to t a b) same runs

  -- lines that broke off, after lines answered whole
  CutsShort-after : (from mid : M) (xs ys : List RawLine) (a b : Progress) (stop : Stop)
      (missed : List (List ℕ)) → RunsTo step goes from xs mid false a b → CutsShort step goes mid ys b stop missed
      → CutsShort step goes from (xs ++ ys) a stop missed
  CutsShort-after from mid xs ys a b stop missed earlier cuts =
      grind (arith, RunsPart-after from mid xs ys a b (progress_of stop.written cuts.kept stop.sent) earlier cuts.runs)

  -- lines that broke off, before other lines
  CutsShort-more : (from : M) (xs ys : List RawLine) (a : Progress) (stop : Stop)
      (missed : List (List ℕ)) → CutsShort step goes from xs a stop missed
      → CutsShort step goes from (xs ++ ys) a stop missed
  CutsShort-more from xs ys a stop missed cuts = grind (arith, RunsPart-more)

  -- a run that is cut short on some lines is cut short on the lines that equal them
  CutsShort-is : (from : M) (xs ys : List RawLine) (a : Progress) (stop : Stop)
      (missed : List (List ℕ)) → xs ≡ ys → CutsShort step goes from ys a stop missed
      → CutsShort step goes from xs a stop missed
  CutsShort-is from xs ys a stop missed same cuts = grind arith

  -- the line that was taken may break off, so the lines of the rest may
  taken_part : (from : M) (held line : RawLine) (rest : List ℕ) (n : ℕ) (a : Standing) (stop : Stop)
      (missed : List (List ℕ)) → lines_from held (take n rest) ≡ line ∷ [] → held_from held (take n rest) ≡ Line []
      → MayCut step goes from (line ∷ []) a stop missed → MayCut step goes from (lines_from held rest) a stop missed
  taken_part from held line rest n a stop missed one none may =
      let more = lines_from (Line []) (take (length rest - n) (drop n rest)) in
      ⊎_elim (λ (at : IsStop a.output stop × (missed ≡ a.kept.missed)). inl at)
      (λ (cuts : CutsShort step goes from (line ∷ []) (progress_with a) stop missed).
      inr (CutsShort-is from (lines_from held rest) ((line ∷ []) ++ more) (progress_with a) stop missed
      (lines_from-take held (Line []) rest n (sym none) ∙ ap (λ l. l ++ more) one)
      (CutsShort-more from (line ∷ []) more (progress_with a) stop missed cuts))) may

  -- all that waits is put, and what was answered is out
  flushed : (from to : M) (lines : List RawLine) (ended : Bool) (a : Progress) (b : Standing) (c : OutputState)
      → RunsTo step goes from lines to ended a (progress_with b) → KeepsOutput b.output c → c.waiting ≡ none_wait
      → RunsTo step goes from lines to ended a (progress_at (standing_at b.kept c))
  flushed from to lines ended a b c runs stays none = grind (arith, stays-none, kept-none)

  -- nothing was answered, and no reply waits
  start_runs : (from : M) (a : Standing) → a.output.waiting ≡ none_wait
      → RunsTo step goes from [] from false (progress_at a) (progress_with a)
  start_runs from a none = grind (arith, none-appends)

-- no line was answered
pub Answered-nil : (step : LineStep) (lines : List RawLine) (a : Standing) → lines ≡ []
    → Answered step lines false a a
Answered-nil step lines a none = grind (arith, RunsTo-is, RunsTo-nil)

-- lines were answered after what stays
pub Answered-after : (step : LineStep) (lines : List RawLine) (ended : Bool) (kept : Kept) (a b : OutputState)
    (c : Standing) → KeepsOutput a b → Answered step lines ended (standing_at kept b) c
    → Answered step lines ended (standing_at kept a) c
Answered-after step lines ended kept a b c stays answered = grind (arith, RunsTo-append, kept-appends, CutsShort-after)

-- the output failed after what stays
pub BreaksIn-after : (step : LineStep) (lines : List RawLine) (kept : Kept) (a b : OutputState) (stop : Stop)
    (missed : List (List ℕ)) → KeepsOutput a b → BreaksIn step lines (standing_at kept b) stop missed
    → BreaksIn step lines (standing_at kept a) stop missed
BreaksIn-after step lines kept a b stop missed stays breaks = grind (arith, CutsShort-after, kept-appends)

-- the output failed within the line that was taken, so it did within the lines of the rest
pub BreaksIn-taken : (step : LineStep) (held line : RawLine) (rest : List ℕ) (n : ℕ) (a : Standing) (stop : Stop)
    (missed : List (List ℕ)) → lines_from held (take n rest) ≡ line ∷ [] → held_from held (take n rest) ≡ Line []
    → BreaksIn step (line ∷ []) a stop missed → BreaksIn step (lines_from held rest) a stop missed
BreaksIn-taken step held line rest n a stop missed one none breaks = grind (arith, taken_part)

-- a line was answered as the one that equals it was
pub answered-line : {E : Type 0} (step : LineStep) (held line : RawLine) (a b : Standing) (result : Result Bool E)
    → held ≡ line → IfOk result (λ ends. Answered step (line ∷ []) ends a b)
    → IfOk result (λ ends. Answered step (held ∷ []) ends a b)
answered-line step held line a b result same answered = grind arith

-- the output failed within a line as within the one that equals it
pub broken-line : {T : Type 0} (step : LineStep) (held line : RawLine) (a : Standing) (stop : Counts → Stop)
    (missed : List (List ℕ)) (result : Result T Counts) → held ≡ line
    → IfErr result (λ noted. BreaksIn step (line ∷ []) a (stop noted) missed)
    → IfErr result (λ noted. BreaksIn step (held ∷ []) a (stop noted) missed)
broken-line step held line a stop missed result same breaks = grind arith

-- Some lines of a piece were answered, their replies are out or wait, and the output may fail within those that wait;
-- the lines that are left are still to be answered.
pub record PieceSoFar (step : LineStep) (all left : List RawLine) (first now : Standing) : Type 0 where
  pub lines : List RawLine
  pub whole : all ≡ lines ++ left
  pub runs : RunsTo step IsAfterLine (machine_of first.kept) lines (machine_of now.kept) false
      (progress_at first) (progress_with now)
  pub stops : (stop : Stop) → IsStop now.output stop
      → CutsShort step IsAfterLine (machine_of first.kept) lines (progress_at first) stop now.kept.missed

-- none was answered, and no reply waits
pub piece_start : (step : LineStep) (all : List RawLine) (first : Standing) → first.output.waiting ≡ none_wait
    → PieceSoFar step all all first first
piece_start step all first none = grind (arith, start_runs, none-stops)

-- More of the lines were answered by a step that equals the first.
module _ (step : LineStep) (all left : List RawLine) (first now : Standing)
    (so_far : PieceSoFar step all left first now) (here : LineStep) (same : here ≡ step) where
  -- the machine that the first is
  abbrev first-machine : Machine
  first-machine = machine_of first.kept

  -- what may be cut within what waits or these lines cuts the lines so far and these
  within_lines : (lines : List RawLine) (stop : Stop) (missed : List (List ℕ))
      → MayCut step IsAfterLine (machine_of now.kept) lines now stop missed
      → CutsShort step IsAfterLine first-machine (so_far.lines ++ lines) (progress_at first) stop missed
  within_lines lines stop missed may =
      ⊎_elim (λ (at : IsStop now.output stop × (missed ≡ now.kept.missed)).
      CutsShort-more Machine step IsAfterLine first-machine so_far.lines lines (progress_at first) stop missed
      (subst (CutsShort step IsAfterLine first-machine so_far.lines (progress_at first) stop) (sym at.1)
      (so_far.stops stop at.0)))
      (λ (cuts : CutsShort step IsAfterLine (machine_of now.kept) lines (progress_with now) stop missed).
      CutsShort-after Machine step IsAfterLine first-machine (machine_of now.kept) so_far.lines lines
      (progress_at first) (progress_with now) stop missed so_far.runs cuts)
      may

  -- a reply broke off
  pub piece_cut : (stop : Stop) (missed : List (List ℕ)) → BreaksIn here left now stop missed
      → BreaksOut step all first stop missed
  piece_cut stop missed breaks = record {
    cut = CutsShort-is Machine step IsAfterLine first-machine all (so_far.lines ++ left) (progress_at first) stop
        missed so_far.whole (within_lines left stop missed
        (MayCut-by here step same (machine_of now.kept) left now stop missed breaks.cut));
  }

  -- the lines were answered, and what waited was put
  pub piece_done : (out : OutputState) → left ≡ [] → KeepsOutput now.output out → out.waiting ≡ none_wait
      → AnsweredOut step all false first (standing_at now.kept out)
  piece_done out none stays drained = grind (arith, RunsTo-is, append-nil, flushed)

  -- More lines were answered.
  module _ (next more : List RawLine) (parts : left ≡ next ++ more) (ended : Bool) (later : Standing)
      (answered : Answered here next ended now later) where
    -- the lines so far, and what is left
    joined : all ≡ (so_far.lines ++ next) ++ more
    joined = so_far.whole ∙ ap (λ l. so_far.lines ++ l) parts ∙ sym (append_assoc so_far.lines next more)

    -- and with the lines before them
    runs_all : (flag : Bool) → ended ≡ flag
        → RunsTo step IsAfterLine first-machine (so_far.lines ++ next) (machine_of later.kept) flag
        (progress_at first) (progress_with later)
    runs_all flag is = grind (arith, RunsTo-append, RunsTo-flag, RunsTo-by)

    -- where the output may fail
    stops_all : (stop : Stop) → IsStop later.output stop
        → CutsShort step IsAfterLine first-machine (so_far.lines ++ next) (progress_at first) stop
        later.kept.missed
    stops_all stop at =
        within_lines next stop later.kept.missed (MayCut-by here step same
        (machine_of now.kept) next now stop later.kept.missed (answered.stops stop at))

    -- one of them ended the session, and what waited was put
    pub piece_ended : (out : OutputState) → ended ≡ true → KeepsOutput later.output out → out.waiting ≡ none_wait
        → AnsweredOut step all true first (standing_at later.kept out)
    piece_ended out is stays none = grind (arith, flushed, RunsTo-is, joined, RunsTo-ended, runs_all)

    -- what waited was put in part
    pub piece_stop : (stop : Stop) → IsStop later.output stop → BreaksOut step all first stop later.kept.missed
    piece_stop stop at = record {
      cut = CutsShort-is Machine step IsAfterLine first-machine all ((so_far.lines ++ next) ++ more)
          (progress_at first) stop later.kept.missed joined
          (CutsShort-more Machine step IsAfterLine first-machine (so_far.lines ++ next) more (progress_at first)
          stop later.kept.missed (stops_all stop at));
    }

    -- none of them ended the session
    pub piece_more : ended ≡ false → PieceSoFar step all more first later
    piece_more is = grind (arith, joined, runs_all, stops_all)

-- No reply waited, and one line was answered.
module _ (step : LineStep) (all lines : List RawLine) (same : all ≡ lines) (first : Standing) where
  -- where the output failed
  pub rest_cut : (stop : Stop) (missed : List (List ℕ)) → BreaksIn step lines first stop missed
      → first.output.waiting ≡ none_wait → BreaksOut step all first stop missed
  rest_cut stop missed breaks none =
      piece_cut step all all first first (piece_start step all first none) step refl stop missed
      (subst (λ l. BreaksIn step l first stop missed) (sym same) breaks)

  -- it may fail within what waits
  pub rest_stop : (ended : Bool) (later : Standing) → Answered step lines ended first later → (stop : Stop)
      → IsStop later.output stop → first.output.waiting ≡ none_wait
      → BreaksOut step all first stop later.kept.missed
  rest_stop ended later answered stop at none = grind (arith, rest_cut)

  -- what waited is out
  pub rest_done : (ended : Bool) (later : Standing) (out : OutputState) → Answered step lines ended first later
      → KeepsOutput later.output out → out.waiting ≡ none_wait → first.output.waiting ≡ none_wait
      → AnsweredOut step all ended first (standing_at later.kept out)
  rest_done ended later out answered stays drained none =
      let from = machine_of first.kept in
      let to = machine_of later.kept in
      let a = progress_at first in
      let c = progress_with later in
      record {
        runs = flushed Machine step IsAfterLine from to all ended a later out
            (RunsTo-is Machine step IsAfterLine from to all lines ended a c same
            (RunsTo-append Machine step IsAfterLine from from to [] lines ended a (progress_with first) c
            (start_runs Machine step IsAfterLine from first none) answered.runs))
            stays drained;
      }

-- no line was answered, and no reply waits
pub out_nil : (step : LineStep) (all : List RawLine) (a : Standing) → all ≡ []
    → AnsweredOut step all false a a
out_nil step all a none = grind (arith, RunsTo-is, RunsTo-nil)
