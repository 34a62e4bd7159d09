use Rattle.std.proofs.Common.{◌∙◌, ◌++◌, ◌∷◌, [], ap, sym, subst, refl}
use Rattle.db_rules.specs.Expressions.{blank}
use Rattle.db_read.specs.Drafts.{KeepsText}
use Rattle.db_read.proofs.ExpressionLemmas.{more_text}
use Rattle.db_read.proofs.draft.lines.with_line.Goals as goal

-- a blank and the text of the line stand behind the text that was kept
pub returns-in_ok-extend-in-Some : goal.returns-in_ok-extend-in-Some
returns-in_ok-extend-in-Some c = λ lines k number text keeps.
    let kept = subst (λ o. KeepsText o lines) c.in-Some.is keeps in
    more_text c.in-Some.field-0 _ lines k kept refl
    (c.in_ok-extend-in-Some.ensures.ok ∙ ap (λ t. t ++ c.args.text.now) c.in_ok-push-in-Some.ensures.ok
    ∙ ap (λ t. (c.in-Some.field-0.text ++ blank ∷ []) ++ t) (sym text))
