-- No certain hit is fresh: what was read at an earlier line is still kept, and its facts still hold.
use Rattle.std.proofs.Common.{◌≡◌, ℕ, suc, ◌+◌, ◌^◌, ◌<◌, ◌≤◌, Bool, true, false, cond, List, [], ◌∷◌, ◌++◌, length}
use Rattle.std.proofs.Common.{Option, refl, sym, ap, subst, ◌∙◌, arith, inl, inr}
use Rattle.std.specs.Option.{is_some}
use Rattle.std.proofs.lemmas.List.Sums.{sum_by-cons}
use Rattle.go_rules.specs.Position.{BoardState}
use Rattle.read_rules.specs.ActiveArea.{InActiveArea, AgreeOn}
use Rattle.gtp_cmd.specs.declared.commands.CommandName.{CommandName}
use Rattle.run_notes.specs.declared.notes.Counts.{Counts}
use Rattle.match_engine.specs.declared.keys.Key.{Key}
use Rattle.read_cache.specs.Kept.{Kept as KeptQuestions}
use Rattle.read_rules.specs.declared.question.Answer.{Answer}
use Rattle.match_engine.proofs.RepeatedQuestions.{IsAtHand, IsAtHand-first, IsAtHand-later, IsAtHand-kept}
use Rattle.machine_rules.specs.Machine.{Machine}
use Rattle.session_core.specs.EngineView.{EngineView, board_of}
use Rattle.session_core.specs.Kept.{Kept}
use Rattle.machine_rules.specs.Counting.{counted}
use Rattle.machine_rules.specs.Questions.{Asks, Nothing, One, Many, asks_of_line}
use Rattle.session_core.specs.AfterLine.{ReadsAs, ReadsOnce, IsAfterLine}
use Rattle.machine_rules.specs.AnsweredLines.{AnsweredLine, IsAlong}
use Rattle.machine_rules.specs.CertainHit.{IsCertainHit, HaveCertainHits, is_reading, is_matching, named_in}
use Rattle.machine_rules.specs.CertainHit.{reading_lines, matching_lines}
use Rattle.machine_rules.proofs.CommandQuestions.{Fits, Fits-line, is_read_line-one}
use Rattle.session.proofs.TallyLemmas.{IsAlong-append, IsAlong-split}

-- how many questions may be kept
abbrev room_of : EngineView → ℕ
room_of session = session.readings.answers.kept.1

-- 1 where a test is passed
abbrev one_if : Bool → ℕ
one_if passes = cond passes 1 0

-- a count of nothing
none_passes : (passes : Bool) (rest : ℕ) → one_if passes + rest ≡ 0 → (passes ≡ false) × (rest ≡ 0)
none_passes true rest none = absurd (let some : 1 + rest ≡ 0 = none in omega arith)
none_passes false rest none = (refl, (let same : 0 + rest ≡ 0 = none in omega arith))

module _ (old new : EngineView) where
  -- where no refused keeping is counted after a line, none was before it
  unrefused : (asks : Asks) → ReadsAs asks old new → new.counts.refused ≡ 0 → old.counts.refused ≡ 0
  unrefused Nothing read none = sym (ap (λ (c : Counts). c.refused) read.counts) ∙ none
  unrefused (One key) read none = grind arith
  unrefused Many read none = let fewer = read.counts.refused in omega (arith, fewer, none)

  -- as many questions may be kept after a line as before it
  same_room : (asks : Asks) → ReadsAs asks old new → room_of new ≡ room_of old
  same_room Nothing read = ap (λ (k : KeptQuestions Key Answer). k.1) read.kept
  same_room (One key) read = grind arith
  same_room Many read = read.capacity

  -- a line that is no `match_patterns` moves what is at hand back by one place at most, and only an `attack` or
  -- `defend` does
  still_at_hand : (key : Key) (pos : BoardState) (n : ℕ) (asks : Asks) (name : Option CommandName)
      → ReadsAs asks old new → Fits asks name
      → is_matching name ≡ false → new.counts.refused ≡ 0 → n + one_if (is_reading name) ≤ 4 → 8 ≤ room_of old
      → IsAtHand key pos n old.readings.answers.kept
      → (m : ℕ) × (m ≤ n + one_if (is_reading name)) × IsAtHand key pos m new.readings.answers.kept
  still_at_hand key pos n Nothing name read fits apart none few room hand = grind arith
  still_at_hand key pos n (One other) name read fits apart none few room hand =
      let one : one_if (is_reading name) ≡ 1 = ap one_if fits in (
        suc n,
        omega (arith, one),
        IsAtHand-later key pos n other (board_of old) read.answer old.readings new.readings read.read
            (sym read.refused ∙ none) (omega (arith, one, few)) room hand,
      )
  still_at_hand key pos n Many name read fits apart none few room hand = grind arith

-- where no refused keeping is counted after some lines, none was before them
unrefused_along : (turns : List (AnsweredLine Machine)) (a b : Kept) → IsAlong IsAfterLine a turns b
    → b.engine.counts.refused ≡ 0
    → a.engine.counts.refused ≡ 0
unrefused_along [] a b along none = subst (λ (k : Kept). k.engine.counts.refused ≡ 0) along none
unrefused_along (turn ∷ turns) a b (mid, first, rest) none =
    grind (arith, unrefused, unrefused_along turns mid b rest none)

-- as many questions may be kept after some lines as before them
same_room_along : (turns : List (AnsweredLine Machine)) (a b : Kept) → IsAlong IsAfterLine a turns b
    → room_of b.engine ≡ room_of a.engine
same_room_along [] a b along = ap (λ (k : Kept). room_of k.engine) along
same_room_along (turn ∷ turns) a b (mid, first, rest) = grind (arith, same_room_along turns mid b rest, same_room)

-- if no line names `match_patterns`, neither the first does nor those after it
matching_lines-cons : (turn : AnsweredLine Machine) (turns : List (AnsweredLine Machine))
    → matching_lines (turn ∷ turns) ≡ 0 → (is_matching (named_in turn.line) ≡ false) × (matching_lines turns ≡ 0)
matching_lines-cons turn turns none =
    none_passes (is_matching (named_in turn.line)) (matching_lines turns)
    (sym (sum_by-cons (λ (t : AnsweredLine Machine). cond (is_matching (named_in t.line)) 1 0) turn turns) ∙ none)

-- an `attack` or `defend` line, and those after it
reading_lines-cons : (turn : AnsweredLine Machine) (turns : List (AnsweredLine Machine))
    → reading_lines (turn ∷ turns) ≡ one_if (is_reading (named_in turn.line)) + reading_lines turns
reading_lines-cons turn turns =
    sum_by-cons (λ (t : AnsweredLine Machine). cond (is_reading (named_in t.line)) 1 0) turn turns

-- so what is at hand stays so along few `attack` and `defend` lines and no `match_patterns` line
at_hand_along : (key : Key) (pos : BoardState) (turns : List (AnsweredLine Machine)) (n : ℕ) (a b : Kept)
    → IsAlong IsAfterLine a turns b
    → b.engine.counts.refused ≡ 0 → 8 ≤ room_of a.engine → matching_lines turns ≡ 0 → n + reading_lines turns ≤ 4
    → IsAtHand key pos n a.engine.readings.answers.kept
    → (m : ℕ) × IsAtHand key pos m b.engine.readings.answers.kept
at_hand_along key pos [] n a b along none room apart few hand = grind arith
at_hand_along key pos (turn ∷ turns) n a b (mid, first, rest) none room apart few hand =
    let here = matching_lines-cons turn turns apart in
    let count = reading_lines-cons turn turns in
    let asks = asks_of_line turn.machine turn.line in
    let later = still_at_hand a.engine mid.engine key pos n asks (named_in turn.line) first.read
    (Fits-line turn.machine turn.line) here.0
    (unrefused_along turns mid b rest none) (omega (arith, few, count)) room hand in
    at_hand_along key pos turns later.0 mid b rest none
    (omega (arith, room, same_room a.engine mid.engine asks first.read)) here.1
    (omega (arith, few, count, later.1)) later.2

-- what is asked of two machines that are one
module _ (k0 k new : Kept) (before : List (AnsweredLine Machine)) (now : AnsweredLine Machine)
    (along : IsAlong IsAfterLine k0 before k)
    (line : IsAfterLine k now new) (none : new.engine.counts.refused ≡ 0) (room : 8 ≤ room_of k0.engine) where
  -- A question was asked before, and may be certain to be answered as it was.
  module _ (hit : IsCertainHit before now) (a b : Kept) (start : IsAlong IsAfterLine k0 hit.first a)
      (asked : IsAfterLine a hit.earlier b) (between : IsAlong IsAfterLine b hit.between k) where
    -- the question
    abbrev hit-key : Key
    hit-key = record { question = hit.question }

    -- it was read then
    read-before : ReadsOnce hit-key a.engine b.engine
    read-before = subst (λ asks. ReadsAs asks a.engine b.engine) hit.asked asked.read

    -- and is read again
    read-again : ReadsOnce hit-key k.engine new.engine
    read-again = subst (λ asks. ReadsAs asks k.engine new.engine) hit.again line.read

    -- no keeping was refused up to here
    unrefused-yet : k.engine.counts.refused ≡ 0
    unrefused-yet = unrefused k.engine new.engine (asks_of_line now.machine now.line) line.read none

    -- so its answer was kept
    kept-then : IsAtHand hit-key (board_of a.engine) 1 b.engine.readings.answers.kept
    kept-then =
        IsAtHand-first hit-key (board_of a.engine) read-before.answer a.engine.readings b.engine.readings
        read-before.read read-before.rest
        (sym read-before.refused ∙ unrefused_along hit.between b k between unrefused-yet)

    -- where eight questions and more may be kept
    room-then : 8 ≤ room_of b.engine
    room-then = grind (arith, same_room, read-before, same_room_along)

    -- few readings came between, so it is still at hand
    kept-yet : (m : ℕ) × IsAtHand hit-key (board_of a.engine) m k.engine.readings.answers.kept
    kept-yet =
        let few = hit.few in
        at_hand_along hit-key (board_of a.engine) hit.between 1 b k between unrefused-yet room-then hit.no_matching
        (omega (arith, few)) kept-then

    -- the board is as it was in the question's active area
    same-area : AgreeOn (InActiveArea hit.question (board_of a.engine)) (board_of a.engine) (board_of k.engine)
    same-area = grind arith

    -- so it is answered by what is kept
    again-unfresh : new.engine.counts.fresh ≡ k.engine.counts.fresh
    again-unfresh =
        let last = IsAtHand-kept hit-key (board_of a.engine) kept-yet.0 (board_of k.engine) read-again.answer
        k.engine.readings new.engine.readings kept-yet.1 read-again.board same-area read-again.read in
        read-again.fresh ∙ ap (λ (o : Option ℕ). counted k.engine.counts.fresh (is_some o)) last

  -- a certain hit is not fresh
  pub hit_is_kept : IsCertainHit before now → new.engine.counts.fresh ≡ k.engine.counts.fresh
  hit_is_kept hit =
      let parts = IsAlong-split IsAfterLine k0 k hit.first (hit.earlier ∷ hit.between)
      (subst (λ ts. IsAlong IsAfterLine k0 ts k) hit.place along) in
      again-unfresh hit parts.0 parts.2.0 parts.1 parts.2.1 parts.2.2

  -- a certain hit is counted
  pub hit_is_counted : IsCertainHit before now → new.engine.counts.readings ≡ counted k.engine.counts.readings true
  hit_is_counted hit = grind (arith, is_read_line-one)

-- A line that is counted may be fresh; no other is.
module _ (old new : Kept) (m : ℕ) where
  -- by what is asked
  gap_by : (asks : Asks) (counts : Bool) → ((key : Key) → asks ≡ One key → counts ≡ true)
      → ReadsAs asks old.engine new.engine
      → new.engine.counts.readings ≡ counted old.engine.counts.readings counts → old.engine.counts.readings + 1 < 2 ^ 64
      → old.engine.counts.fresh + m ≤ old.engine.counts.readings
      → (new.engine.counts.fresh + m ≤ new.engine.counts.readings)
      × (new.engine.counts.readings ≤ old.engine.counts.readings + 1)
  gap_by Nothing counts one read readings small gap = grind arith
  gap_by (One key) counts one read readings small gap =
      let more : new.engine.counts.readings ≡ old.engine.counts.readings + 1 =
      (let is = readings ∙ ap (counted old.engine.counts.readings) (one key refl) in omega (arith, is, small)) in
      let fresher = fresher_by (is_some new.engine.readings.last) read.fresh in
      (omega (arith, more, fresher, gap), omega (arith, more))
    where
      fresher_by : (fresh : Bool) → new.engine.counts.fresh ≡ counted old.engine.counts.fresh fresh
          → new.engine.counts.fresh ≤ old.engine.counts.fresh + 1
      fresher_by true is = omega (arith, is)
      fresher_by false is = omega (arith, is)
  gap_by Many counts one read readings small gap = grind arith

  -- after a line as many readings are not fresh as before it
  gap_after : (turn : AnsweredLine Machine) → IsAfterLine old turn new → old.engine.counts.readings + 1 < 2 ^ 64
      → old.engine.counts.fresh + m ≤ old.engine.counts.readings
      → (new.engine.counts.fresh + m ≤ new.engine.counts.readings)
      × (new.engine.counts.readings ≤ old.engine.counts.readings + 1)
  gap_after turn line small gap = grind (arith, gap_by, is_read_line-one)

-- n certain hits among the lines leave n readings more that are not fresh
pub hits_are_kept : (k0 : Kept) (before turns : List (AnsweredLine Machine)) (k b : Kept) (m n : ℕ)
    → IsAlong IsAfterLine k0 before k
    → IsAlong IsAfterLine k turns b → 8 ≤ room_of k0.engine → b.engine.counts.refused ≡ 0
    → HaveCertainHits before turns n
    → k.engine.counts.fresh + m ≤ k.engine.counts.readings → k.engine.counts.readings + length turns < 2 ^ 64
    → b.engine.counts.fresh + (m + n) ≤ b.engine.counts.readings
hits_are_kept k0 before [] k b m n earlier along room none hits gap small = grind arith
hits_are_kept k0 before (turn ∷ turns) k b m n earlier (mid, first, rest) room none (inl later) gap small =
    let next = gap_after k mid m turn first (omega (arith, small)) gap in
    hits_are_kept k0 (before ++ turn ∷ []) turns mid b m n
    (IsAlong-append IsAfterLine k0 k mid before (turn ∷ []) earlier (mid, first, refl)) rest room none later next.0
    (omega (arith, small, next.1))
hits_are_kept k0 before (turn ∷ turns) k b m n earlier (mid, first, rest) room none
    (inr (j, more, hit, later)) gap small =
    let unrefused_then = unrefused_along turns mid b rest none in
    let fresh = hit_is_kept k0 k mid before turn earlier first unrefused_then room hit in
    let readings = hit_is_counted k0 k mid before turn earlier first unrefused_then room hit in
    let all = hits_are_kept k0 (before ++ turn ∷ []) turns mid b (m + 1) j
    (IsAlong-append IsAfterLine k0 k mid before (turn ∷ []) earlier (mid, first, refl)) rest room none later
    (omega (arith, fresh, readings, gap, small)) (omega (arith, readings, small)) in
    omega (arith, all, more)
