-- A run so far, and what it says by its outcome when it stops here.
use Rattle.std.proofs.Common.{◌≡◌, ℕ, ◌+◌, ◌-◌, ◌<◌, ◌≤◌, Bool, true, false, List, [], ◌∷◌, ◌++◌, length, take, Option}
use Rattle.std.proofs.Common.{None, refl, sym, ap, subst, ◌∙◌, append-nil, arith, inl, inr, length-append}
use Rattle.std.specs.Io.KnownBytes.{Consumes, IsAtEnd, Keeps}
use Rattle.std.proofs.KnownBytes.{Consumes-trans}
use Rattle.std.proofs.lemmas.List.{take_at, take_all, length-take-le}
use Rattle.gtp_rules.specs.Lines.{RawLine, Line, lines_of, lines_with_rest, rest_of, rest_line}
use Rattle.gtp_rules.specs.Steps.{Step}
use Rattle.gtp_rules.specs.Transcript.{GoesOn, IsTotal}
use Rattle.gtp_rules.proofs.Runs.{Cut-front}
use Rattle.gtp_lex.specs.Held.{lines_from, held_from, held_line}
use Rattle.gtp_lex.proofs.HeldLemmas.{lines_from-append, held_from-append, lines_of-lines_from}
use Rattle.gtp_lex.proofs.HeldLemmas.{lines_with_rest-lines_from}
use Rattle.session_core.specs.Kept.{Kept}
use Rattle.machine_rules.specs.AnsweredLines.{AnsweredLine}
use Rattle.session.specs.Tallies.{Tally, Progress, Advances, IsTallied, together}
use Rattle.session.specs.Serving.{RunsTo, RunsPart}
use Rattle.session.specs.Ends.{most_taken, Streams, earlier, IsRight, IsReadToEnd, AreTallied}
use Rattle.session.specs.FirstSession.{ServesCounting}
use Rattle.session.proofs.TallyLemmas.{Advances-trans, IsTallied-append, IsTallied-run}
use Rattle.session.proofs.TallyLemmas.{BreaksOff-after, BreaksOff-more}
use Rattle.session.specs.declared.outcome.End.{End}
use Rattle.session.specs.declared.outcome.End.TheVariants.{Done, InputFault, OutputFault, InputTooLong}

-- some bytes were taken and some put, each line that ended was answered, the rest is held, and room bytes may still
-- be taken
pub record Served {M : Type 0} (step : M → RawLine → Step M → Type 0) (goes : Kept → AnsweredLine M → Kept → Type 0)
    (first now : M)
    (left_old left_new : Option (List ℕ)) (old new : Progress) (held : RawLine) (room : ℕ) : Type 0 where
  pub taken : List ℕ
  pub tally : Tally M
  pub reads : Consumes left_old left_new taken
  pub advances : Advances goes old new tally
  pub run : IsTallied step first (lines_from (Line []) taken) tally now false
  pub held_is : held ≡ held_from (Line []) taken
  pub few : length taken + room ≡ most_taken

-- the lines of the bytes taken so far and of a piece more
lines_of-append : (taken part : List ℕ) (held : RawLine) → held ≡ held_from (Line []) taken
    → lines_of (taken ++ part) ≡ lines_from (Line []) taken ++ lines_from held part
lines_of-append taken part held is = grind (arith, lines_of-lines_from, lines_from-append)

-- the bytes taken before the last piece
earlier-append : (taken part : List ℕ) (piece : ℕ) → length part ≡ piece → earlier (taken ++ part) piece ≡ taken
earlier-append taken part piece len = grind (arith, length-append, take_at)

module _ (M : Type 0) (step : M → RawLine → Step M → Type 0) (goes : Kept → AnsweredLine M → Kept → Type 0)
    (first now : M)
    (before : Streams)
    (l1 : Option (List ℕ)) (p0 p1 : Progress) (held : RawLine) (room : ℕ)
    (s : Served step goes first now before.left l1 p0 p1 held room) (opened : before.written ≡ p0.written) where
  -- every line of the bytes so far was answered, and none ended the session
  tallied : IsTallied step first (lines_of s.taken) s.tally now false
  tallied = grind (arith, lines_of-lines_from)

  -- so they are in a transcript
  answered : GoesOn step first (lines_of s.taken) s.tally.out
  answered = (now, IsTallied-run M step first (lines_of s.taken) s.tally now false tallied)

  -- what was taken, put and answered is what was served, by this end
  serves-by : (after : Streams) (p : Progress) (end : End) (taken : List ℕ) (tally : Tally M)
      → p.written ≡ after.written → Consumes before.left after.left taken → Advances goes p0 p tally
      → IsRight step first after.left taken tally.out after.piece end → AreTallied step first taken tally end
      → ServesCounting None step goes first before after end p0 p
  serves-by after p end taken tally is reads advances right tallies = grind (arith, tallied)

  -- the lines that were answered before the last piece stand before the one whose reply broke off
  before_cut : (taken : List ℕ) (piece : ℕ) (more : List RawLine) → earlier taken piece ≡ s.taken
      → length (lines_of (earlier taken piece)) ≤ length (lines_from (Line []) s.taken ++ more)
  before_cut taken piece more is = grind (arith, length-append, lines_of-lines_from)

  -- the source gave a piece, its lines were answered, and none ended the session
  pub served_more : (l2 : Option (List ℕ)) (p2 : Progress) (part : List ℕ) (n : ℕ) (new : M) (held' : RawLine)
      → Consumes l1 l2 part → length part ≡ n → n ≤ room → RunsTo step goes now (lines_from held part) new false p1 p2
      → held' ≡ held_from held part → Served step goes first new before.left l2 p0 p2 held' (room - n)
  served_more l2 p2 part n new held' reads len within runs is = record {
    taken = s.taken ++ part;
    tally = together s.tally runs.tally;
    reads = Consumes-trans before.left l1 l2 s.taken part s.reads reads;
    advances = Advances-trans goes p0 p1 p2 s.tally runs.tally s.advances runs.advances;
    run =
        subst (λ l. IsTallied step first l (together s.tally runs.tally) new false)
        (sym (lines_from-append (Line []) s.taken part ∙ ap (λ h. lines_from (Line []) s.taken ++ lines_from h part)
        (sym s.held_is)))
        (IsTallied-append M step first _ _ s.tally runs.tally now new false s.run runs.run);
    held_is = is ∙ ap (λ h. held_from h part) s.held_is ∙ sym (held_from-append (Line []) s.taken part);
    few = let few = s.few in let both = length-append s.taken part in omega (arith, few, both);
  }

  -- the source failed
  pub served_fault : (after : Streams) → Keeps l1 after.left → p1.written ≡ after.written → 0 < room
      → ServesCounting None step goes first before after InputFault p0 p1
  served_fault after kept same some = grind (arith, serves-by, answered, tallied)

  -- no byte more may be taken
  pub served_too_long : (after : Streams) → l1 ≡ after.left → p1.written ≡ after.written → room ≡ 0
      → ServesCounting None step goes first before after InputTooLong p0 p1
  served_too_long after unread unput none = grind (arith, serves-by, answered, tallied)

  -- The source came to its end.
  module _ (after : Streams) (p2 : Progress) (holds : p2.written ≡ after.written) (reads : Consumes l1 after.left [])
      (at_end : IsAtEnd after.left) (last : after.piece ≡ 0) where
    -- nothing more was taken
    reads_end : Consumes before.left after.left s.taken
    reads_end = grind (arith, append-nil)

    -- so all was taken before the last piece
    none_later : earlier s.taken after.piece ≡ s.taken
    none_later = ap (λ n. take n s.taken) (omega arith) ∙ take_all (length s.taken) s.taken (omega arith)

    -- the lines with the rest are those answered so far and what is held
    with_held : lines_with_rest s.taken ≡ lines_from (Line []) s.taken ++ held_line held
    with_held = grind (arith, lines_with_rest-lines_from)

    -- where all of them were answered, the input was read to its end
    read_to_end : (new : M) (ended : Bool) (later : Tally M) → 0 < room
        → IsTallied step first (lines_with_rest s.taken) (together s.tally later) new ended
        → IsReadToEnd step first after.left s.taken (together s.tally later).out after.piece
    read_to_end new ended later some whole = record {
      at_end = at_end;
      last = last;
      few = let few = s.few in omega arith;
      transcript = (
        new,
        ended,
        IsTallied-run M step first (lines_with_rest s.taken) (together s.tally later) new ended whole,
      );
      none_ended = (s.tally.out, (later.out, refl), answered);
    }

    -- the rest was answered as a last line
    pub served_end : (new : M) (ended : Bool) → 0 < room → RunsTo step goes now (held_line held) new ended p1 p2
        → ServesCounting None step goes first before after Done p0 p2
    served_end new ended some runs =
        let tally = together s.tally runs.tally in
        let whole = subst (λ l. IsTallied step first l tally new ended) (sym with_held)
        (IsTallied-append M step first _ _ s.tally runs.tally now new ended s.run runs.run) in
        serves-by after p2 Done s.taken tally holds reads_end
        (Advances-trans goes p0 p1 p2 s.tally runs.tally s.advances runs.advances)
        (inl (read_to_end new ended runs.tally some whole)) (inl (new, ended, whole))

    -- the reply to the rest broke off
    pub served_cut_end : IsTotal step → RunsPart step goes now (held_line held) p1 p2
        → ServesCounting None step goes first before after OutputFault p0 p2
    served_cut_end total runs =
        let off = BreaksOff-after M step first (lines_from (Line []) s.taken) (held_line held) _ s.tally runs.tally now
        with_held s.run runs.breaks_off in
        serves-by after p2 OutputFault s.taken (together s.tally runs.tally) holds reads_end
        (Advances-trans goes p0 p1 p2 s.tally runs.tally s.advances runs.advances) (record {
          few = let few = s.few in omega arith;
          front = Cut-front M step total first _ _ off.cut;
          cut = off.cut;
          in_last = before_cut s.taken after.piece runs.breaks_off.cut.before none_later;
          has_feed = inr (at_end, last);
        }) off

  -- The source gave a piece.
  module _ (after : Streams) (p2 : Progress) (holds : p2.written ≡ after.written) (part : List ℕ)
      (reads : Consumes l1 after.left part) where
    -- the bytes so far and the piece were taken
    reads_more : Consumes before.left after.left (s.taken ++ part)
    reads_more = Consumes-trans before.left l1 after.left s.taken part s.reads reads

    -- they are no more than may be taken
    few_more : length part ≡ after.piece → after.piece ≤ room → length (s.taken ++ part) ≤ most_taken
    few_more len within = grind (arith, length-append)

    -- before the piece no line had ended the session
    answered_earlier : length part ≡ after.piece
        → GoesOn step first (lines_of (earlier (s.taken ++ part) after.piece)) s.tally.out
    answered_earlier len = grind (arith, earlier-append, answered)

    -- one of its lines ended the session
    pub served_ended : (new : M) → length part ≡ after.piece → after.piece ≤ room
        → RunsTo step goes now (lines_from held part) new true p1 p2
        → ServesCounting None step goes first before after Done p0 p2
    served_ended new len within runs =
        let tally = together s.tally runs.tally in
        let whole = subst (λ l. IsTallied step first l tally new true)
        (sym (lines_of-append s.taken part held s.held_is))
        (IsTallied-append M step first _ _ s.tally runs.tally now new true s.run runs.run) in
        serves-by after p2 Done (s.taken ++ part) tally holds reads_more
        (Advances-trans goes p0 p1 p2 s.tally runs.tally s.advances runs.advances) (inr (record {
          few = few_more len within;
          ended = (new, IsTallied-run M step first (lines_of (s.taken ++ part)) tally new true whole);
          in_last = (s.tally.out, (runs.tally.out, refl), answered_earlier len);
        })) (inr (new, whole))

    -- the reply to one of its lines broke off
    pub served_cut : IsTotal step → length part ≡ after.piece → after.piece ≤ room → RunsPart step goes now
        (lines_from held part) p1 p2
        → ServesCounting None step goes first before after OutputFault p0 p2
    served_cut total len within runs =
        let answered_lines = lines_from (Line []) s.taken in
        let rest = rest_line (rest_of (s.taken ++ part)) in
        let same = lines_of-append s.taken part held s.held_is in
        let ended = BreaksOff-after M step first answered_lines (lines_from held part)
        (lines_of (s.taken ++ part)) s.tally runs.tally now same s.run runs.breaks_off in
        let off = BreaksOff-more M step first (lines_of (s.taken ++ part)) rest _ (together s.tally runs.tally) refl
        ended in
        serves-by after p2 OutputFault (s.taken ++ part) (together s.tally runs.tally) holds reads_more
        (Advances-trans goes p0 p1 p2 s.tally runs.tally s.advances runs.advances) (record {
          few = few_more len within;
          front = Cut-front M step total first _ _ off.cut;
          cut = off.cut;
          in_last = before_cut (s.taken ++ part) after.piece runs.breaks_off.cut.before
              (earlier-append s.taken part after.piece len);
          has_feed =
              inl (let place = ap length ended.cut.place in
              let lens = length-append ended.cut.before (ended.cut.line ∷ ended.cut.after) in
              omega (arith, place, lens));
        }) off

-- Of a piece of n bytes.

-- a piece of no bytes takes nothing
pub nothing_taken : (a b : Option (List ℕ)) (buf : List ℕ) (n : ℕ) → n ≡ 0 → Consumes a b (take n buf) → Consumes a b []
nothing_taken a b buf n none reads = subst (λ k. Consumes a b (take k buf)) none reads

-- how many bytes a piece has
pub piece_len : (buf : List ℕ) (n piece : ℕ) → n ≤ length buf → piece ≡ n → length (take n buf) ≡ piece
piece_len buf n piece within is = let len = length-take-le n buf within in cc
