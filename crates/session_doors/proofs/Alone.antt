-- A session without helpers and files answers a line, and has neither afterwards.
use Rattle.std.proofs.Common.{◌≡◌, ◌∙◌, ℕ, List, [], Some, map, ap, refl, subst}
use Rattle.std.specs.Prelude.{unwrap_or}
use Rattle.gtp_io.specs.Loading.{named}
use Rattle.gtp_io.specs.Memory.{SureShelfState}
use Rattle.gtp_rules.specs.Lines.{RawLine}
use Rattle.helpers.specs.HelperStates.{HelperState, SlotState}
use Rattle.helpers.specs.Slots.{slot_state}
use Rattle.machine_rules.specs.Files.{Contents}
use Rattle.machine_rules.specs.Matcher.{Matcher}
use Rattle.machine_rules.specs.Step.{step}
use Rattle.session_core.specs.EngineView.{EngineView, machine_with, machine_alone}
use Rattle.session_core.specs.Kept.{kept_with}
use Rattle.session_core.specs.LineAnswers.{AnswersLine}
use Rattle.session_core.specs.MatcherView.{matcher_of}
use Rattle.session_core.specs.Replies.{reply_bytes, reply_ends}
use Rattle.session_core.specs.SessionView.{kept_of, step_of}
use Rattle.session_core.specs.declared.session.Session.{Session}
use Rattle.session_core.specs.declared.reply.Reply.{Reply}
use Rattle.session_doors.specs.Answered.{empty_files, kept_alone}
use Rattle.session_doors.proofs.NoHelpers.{answers-alone}

-- what is left of no helpers is none
none-left : (matcher : Matcher) (old new : EngineView) (after : List SlotState) (line : RawLine) (reply : Reply)
    → AnswersLine (step matcher empty_files) (kept_alone old) line reply (kept_with after [] new) → after ≡ []
none-left matcher old new after line reply answers =
    answers-alone matcher empty_files (machine_alone old) line (reply_bytes reply) (machine_with after new)
    (reply_ends reply) refl answers.reply

-- so the session after the line is one without helpers
answers-line-alone : (matcher : Matcher) (contents : Contents) (old new : EngineView) (slots after : List SlotState)
    (missed now : List (List ℕ)) (line : RawLine) (reply : Reply) → contents ≡ empty_files → slots ≡ [] → missed ≡ []
    → now ≡ [] → AnswersLine (step matcher contents) (kept_with slots missed old) line reply (kept_with after now new)
    → AnswersLine (step matcher empty_files) (kept_alone old) line reply (kept_alone new)
answers-line-alone matcher contents old new slots after missed now line reply files none before later answers =
    let by_files = subst (λ (k : Contents). AnswersLine (step matcher k) (kept_with slots missed old) line reply
    (kept_with after now new)) files answers in
    let alone = step matcher empty_files in
    let by_slots = subst (λ (k : List SlotState). AnswersLine alone (kept_with k missed old) line reply
    (kept_with after now new)) none by_files in
    let by_missed = subst (λ (k : List (List ℕ)). AnswersLine alone (kept_with [] k old) line reply
    (kept_with after now new)) before by_slots in
    let by_now = subst (λ (k : List (List ℕ)). AnswersLine alone (kept_alone old) line reply
    (kept_with after k new)) later by_missed in
    subst (λ (k : List SlotState). AnswersLine alone (kept_alone old) line reply (kept_with k [] new))
    (none-left matcher old new after line reply by_now) by_now

-- a session that was made with no helpers answers the line of its text as the session alone
pub answers-held : {V : Type 0} {F : V → Type 0} (state : (i : V) × F i → HelperState) (contents : Contents)
    (old new : Session V F) (missed now : List (List ℕ)) (said line : RawLine) (reply : Reply)
    → contents ≡ empty_files → old.helpers.slots.items ≡ [] → missed ≡ [] → now ≡ [] → said ≡ line
    → AnswersLine (step_of old contents) (kept_of state old missed) said reply (kept_of state new now)
    → AnswersLine (step (matcher_of old.matcher) empty_files) (kept_alone old.engine) line reply (kept_alone new.engine)
answers-held state contents old new missed now said line reply files none before later is answers =
    let by_line = subst (λ (l : RawLine). AnswersLine (step_of old contents) (kept_of state old missed) l reply
    (kept_of state new now)) is answers in
    answers-line-alone (matcher_of old.matcher) contents old.engine new.engine _ _ missed now line reply files
    (ap (λ slots. map (slot_state (λ b. state (b.vtable, b.value))) slots) none) before later by_line

-- what a shelf holds by name; it is empty for every other name
abbrev on_shelf : SureShelfState → Contents
on_shelf shelf name = Some (unwrap_or (named shelf.names shelf.contents name) [])

-- on a shelf that was made of no names each file is empty
pub on_empty_shelf : {A B : Type 0} (text : A → List ℕ) (bytes : B → List ℕ) (names : List A) (contents : List B)
    (shelf : SureShelfState) → shelf ≡ record { names = map text names; contents = map bytes contents } → names ≡ []
    → contents ≡ [] → on_shelf shelf ≡ empty_files
on_empty_shelf {A} {B} text bytes names contents shelf is nameless bare =
    ap on_shelf is
    ∙ ap (λ (ns : List A). on_shelf (record { names = map text ns; contents = map bytes contents })) nameless
    ∙ ap (λ (cs : List B). on_shelf (record { names = []; contents = map bytes cs })) bare
