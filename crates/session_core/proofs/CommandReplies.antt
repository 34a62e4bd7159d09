-- The reply to a command, by its answer.
use Rattle.std.proofs.Common.{◌≡◌, ℕ, false, List, [], ◌∷◌, map, Option, inl, inr, ap}
use Rattle.std.proofs.Common.{arith}
use Rattle.gtp_rules.specs.Transcript.{IsOneOf, MayGive}
use Rattle.gtp_cmd.specs.Replies.{refusal_text}
use Rattle.gtp_cmd.specs.declared.refusals.RefuseText.{RefuseText}
use Rattle.machine_rules.specs.Machine.{Machine}
use Rattle.machine_rules.specs.Effects.{Excuse, Effect, IsExcused, fallback, replied}
use Rattle.session_core.specs.CommandAnswers.{IsAnswer}
use Rattle.session_core.specs.declared.answer.Answer.TheVariants as answer

-- an excuse that was told may stand in place of the reply
excused-told : (id : Option ℕ) (excuses : List Excuse) (text : RefuseText) (new : Machine) → IsExcused excuses text new
    → IsOneOf (map (fallback id) excuses) (refusal_text id text) new
excused-told id [] text new is = absurd is
excused-told id (excuse ∷ excuses) text new (inl is) = inl (ap (refusal_text id) is.0, is.1)
excused-told id (excuse ∷ excuses) text new (inr is) = inr (excused-told id excuses text new is)

module _ (id : Option ℕ) (effect : Effect) (new : Machine) where
  -- an excuse is told behind the id
  pub gives-excuse : (text : RefuseText) (bytes : List ℕ) → bytes ≡ refusal_text id text
      → IsExcused effect.excuses text new → MayGive (replied id effect) bytes new false
  gives-excuse text bytes is excused = grind (arith, excused-told)

  -- a refusal is told behind the id
  pub gives-refusal : (text : RefuseText) (bytes : List ℕ) → bytes ≡ refusal_text id text
      → IsAnswer effect (answer.Refused text) new → MayGive (replied id effect) bytes new false
  gives-refusal text bytes is (inl refused) = grind arith
  gives-refusal text bytes is (inr excused) = gives-excuse text bytes is excused
