-- What a session's reply to a line says of its machine.
use Rattle.machine_rules.proofs.Soundness.{success_apart, link-line}
use Rattle.std.proofs.Common.{◌≡◌, ℕ, Bool, List, [], ◌∷◌, Option, Some, inl, inr, ap, ◌∙◌, arith}
use Rattle.gtp_rules.specs.Lines.{RawLine}
use Rattle.gtp_rules.specs.Steps.{Fallback, Step}
use Rattle.gtp_rules.specs.Transcript.{IsOneOf, MayGive, MayAnswer}
use Rattle.machine_rules.specs.Calls.{AreSameButCalls, quiet}
use Rattle.machine_rules.specs.Effects.{succeeded, replied}
use Rattle.machine_rules.specs.Files.{Contents}
use Rattle.connect_rules.specs.declared.question.LinkQuestion.{LinkQuestion}
use Rattle.machine_rules.specs.LinkQuestions.{asks_link_of_line}
use Rattle.machine_rules.specs.Machine.{Machine}
use Rattle.machine_rules.specs.Matcher.{Matcher}
use Rattle.machine_rules.specs.Soundness.{IsRefusal, AreExcuses, IsSound}
use Rattle.machine_rules.specs.Step.{step}

-- the reply to what tells something is no refusal
succeeded-not_refused : (old new : Machine) (id : Option ℕ) (text bytes : List ℕ) (ends : Bool)
    → MayGive (replied id (succeeded text old)) bytes new ends → IsRefusal bytes → ⊥
succeeded-not_refused old new id text bytes ends (inl may) refusal = success_apart bytes _ may.0 refusal
succeeded-not_refused old new id text bytes ends (inr may) refusal = absurd may.0

-- a line that asks about a connection is not refused
pub link-not_refused : (matcher : Matcher) (contents : Contents) (old : Machine) (line : RawLine) (bytes : List ℕ)
    (new : Machine) (ends : Bool) → MayAnswer (step matcher contents) old line bytes new ends → IsRefusal bytes
    → (q : LinkQuestion) → asks_link_of_line old line ≡ Some q → ⊥
link-not_refused matcher contents old line bytes new ends (given, gives, may) refusal q asks =
    grind (arith, link-line matcher contents old line given gives q asks, succeeded-not_refused old new)

-- an excuse keeps the machine but for the calls of helpers
excuse-same : (old new : Machine) (answers : List (Fallback Machine)) (bytes : List ℕ) → AreExcuses old answers
    → IsOneOf answers bytes new → AreSameButCalls old new
excuse-same old new [] bytes sound is = absurd is
excuse-same old new (answer ∷ answers) bytes sound (inl is) = ap quiet is.1 ∙ sound.1
excuse-same old new (answer ∷ answers) bytes sound (inr is) = excuse-same old new answers bytes sound.2 is

-- Where the step keeps its word, a reply that is a refusal leaves the machine as it was, but for the calls of helpers.
pub refused-same : (old : Machine) (given : Step Machine) (bytes : List ℕ) (new : Machine) (ends : Bool)
    → IsSound old given → MayGive given bytes new ends → IsRefusal bytes → AreSameButCalls old new
refused-same old given bytes new ends sound (inl may) refusal = grind arith
refused-same old given bytes new ends sound (inr may) refusal = grind (arith, excuse-same)
