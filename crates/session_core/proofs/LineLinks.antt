-- What a line asks of a session's connections, and what is told of that.
use Rattle.std.proofs.Common.{◌≡◌, ℕ, true, List, Option, Some, None, refl, sym, ap, subst, ◌∙◌, arith}
use Rattle.go_rules.specs.Position.{BoardState}
use Rattle.helpers.specs.HelperStates.{SlotState}
use Rattle.connect_rules.specs.Linkages.{asked_on, linkage_of}
use Rattle.connect_rules.specs.declared.question.LinkKind.{LinkKind}
use Rattle.connect_rules.specs.declared.question.LinkQuestion.{LinkQuestion}
use Rattle.connect_rules.specs.declared.question.Linkage.{Linkage}
use Rattle.machine_rules.specs.Effects.{succeeded}
use Rattle.machine_rules.specs.LinkCommands.{linked, linkage_at, linkage_text}
use Rattle.machine_rules.specs.LinkQuestions.{have_one_colour}
use Rattle.machine_rules.specs.Machine.{Machine}
use Rattle.machine_rules.proofs.Soundness.{linked-succeeded}
use Rattle.session_core.specs.AskedLinks.{LinksAs, LinksNothing}
use Rattle.session_core.specs.CommandAnswers.{IsAnswer}
use Rattle.session_core.specs.EngineView.{EngineView, board_of, machine_alone, machine_with}
use Rattle.session_core.specs.declared.answer.Answer.{Answer}
use Rattle.session_core.specs.declared.answer.Answer.TheVariants as answer

-- where no question about a connection was asked, what is kept and counted of them stays
pub unasked-links : (old new : EngineView) (asks : Option LinkQuestion) → LinksAs asks old new
    → ((q : LinkQuestion) → asks ≡ Some q → ⊥) → LinksNothing old new
unasked-links old new None links never = links
unasked-links old new (Some q) links never = absurd (never q refl)

-- the answer to a question on the board of a session, at its plies, is that of its machine
linkage-here : (session : EngineView) (kind : LinkKind) (a b : ℕ) (pos : BoardState) (n : ℕ) (linkage : Linkage)
    → linkage ≡ linkage_of (asked_on pos kind a b n) pos → pos ≡ board_of session → n ≡ session.depths.plies
    → linkage ≡ linkage_at (machine_alone session) kind a b
linkage-here session kind a b pos n linkage is board plies = grind arith

-- where stones of one colour stand at both points of the board of a session, what is told of their linkage there is an
-- answer, whoever the helpers are
pub succeeded-linked : (session : EngineView) (helpers : List SlotState) (kind : LinkKind) (a b : ℕ) (pos : BoardState)
    (n size : ℕ) (linkage : Linkage) (result : List ℕ) (said : Answer) (new : Machine)
    → have_one_colour (machine_alone session) a b ≡ true → said ≡ answer.Brief result
    → result ≡ linkage_text size linkage → size ≡ pos.size → (board_of session).size ≡ session.base.size
    → pos ≡ board_of session → n ≡ session.depths.plies → linkage ≡ linkage_of (asked_on pos kind a b n) pos
    → new ≡ machine_with helpers session → IsAnswer (linked (machine_with helpers session) kind a b) said new
succeeded-linked session helpers kind a b pos n size linkage result said new one says text is own board plies links
    keeps =
    let machine = machine_with helpers session in
    let effect = succeeded (linkage_text session.base.size (linkage_at machine kind a b)) machine in
    let same : result ≡ linkage_text session.base.size (linkage_at machine kind a b) =
    text ∙ ap (λ s. linkage_text s linkage) (is ∙ ap (λ (p : BoardState). p.size) board ∙ own)
    ∙ ap (linkage_text session.base.size) (linkage-here session kind a b pos n linkage links board plies) in
    subst (λ e. IsAnswer e said new) (sym (linked-succeeded machine kind a b one))
    (subst (λ s. IsAnswer effect s new) (sym says)
    (record { allowed = refl; told = sym same; next = keeps; goes_on = refl }))
