-- The expression of an entry: its lines one after another, its fault, and what it says.
use Rattle.std.proofs.Common.{◌≡◌, ◌<◌, List, [], ◌∷◌, ◌++◌, length, refl, sym, append_assoc, arith}
use Rattle.db_lex.specs.Lines.{KeptLine}
use Rattle.db_rules.specs.Expressions.{blank, text_on, expression_text}
use Rattle.db_rules.specs.Faults.{first_number}
use Rattle.db_read.specs.declared.draft.ExpressionText.{ExpressionText}
use Rattle.db_read.specs.Drafts.{IsTextOf}

-- one line more is joined by a blank
text-push : (lines : List KeptLine) (line : KeptLine) → 0 < length lines
    → expression_text (lines ++ line ∷ []) ≡ (expression_text lines ++ blank ∷ []) ++ text_on line
text-push [] line some = absurd (omega (arith, some))
text-push (first ∷ []) line some = sym (append_assoc (text_on first) (blank ∷ []) (text_on line))
text-push (first ∷ next ∷ more) line some = grind (arith, append_assoc, text-push (next ∷ more) line)

-- the first line stays the first behind one line more
first-push : (lines : List KeptLine) (line : KeptLine) → 0 < length lines
    → first_number (lines ++ line ∷ []) ≡ first_number lines
first-push [] line some = absurd (omega (arith, some))
first-push (first ∷ more) line some = refl

-- the text of one line more is kept
pub more_text : (old new : ExpressionText) (lines : List KeptLine) (line : KeptLine) → IsTextOf old lines
    → new.line ≡ old.line → new.text ≡ (old.text ++ blank ∷ []) ++ text_on line → IsTextOf new (lines ++ line ∷ [])
more_text old new lines line kept number text = grind (arith, first-push, text-push)
