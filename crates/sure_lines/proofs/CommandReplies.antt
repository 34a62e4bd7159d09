-- The reply to a command, by its answer.
use Rattle.std.proofs.Common.{◌≡◌, ℕ, false, List, [], ◌∷◌, map, Option, inl, inr, refl, ap}
use Rattle.std.proofs.Common.{arith}
use Rattle.gtp_rules.specs.Transcript.{IsOneOf, MayGive}
use Rattle.gtp_cmd.specs.Replies.{refusal_text}
use Rattle.gtp_cmd.specs.declared.refusals.RefuseText.{RefuseText}
use Rattle.sure_lines.specs.Effects.{Effect, IsExcused, fallback, replied}
use Rattle.sure_lines.specs.Answers.{IsAnswer}
use Rattle.sure_lines.specs.declared.answer.Answer.TheVariants as answer
use Rattle.sure_lines.specs.Machine.{Machine}

-- an excuse that was told may stand in place of the reply
excused-told : (id : Option ℕ) (old : Machine) (excuses : List RefuseText) (text : RefuseText)
    → IsExcused excuses text → IsOneOf (map (fallback id old) excuses) (refusal_text id text) old
excused-told id old [] text is = absurd is
excused-told id old (excuse ∷ excuses) text (inl is) = inl (ap (refusal_text id) is, refl)
excused-told id old (excuse ∷ excuses) text (inr is) = inr (excused-told id old excuses text is)

module _ (id : Option ℕ) (effect : Effect) (old new : Machine) where
  -- so is an excuse
  pub gives-excuse : (text : RefuseText) (bytes : List ℕ) → bytes ≡ refusal_text id text
      → IsExcused effect.excuses text → new ≡ old → MayGive (replied id old effect) bytes new false
  gives-excuse text bytes is excused same = grind (arith, excused-told)

  -- and a refusal
  pub gives-refusal : (text : RefuseText) (bytes : List ℕ) → bytes ≡ refusal_text id text
      → IsAnswer effect (answer.Refused text) old new → MayGive (replied id old effect) bytes new false
  gives-refusal text bytes is (inl refused) = grind arith
  gives-refusal text bytes is (inr excused) = gives-excuse text bytes is excused.0 excused.1
