-- The helper that the field names anew is asked, and no other.
use Rattle.std.proofs.Common.{sym, ◌∙◌}
use Rattle.helpers.proofs.Fields.{asked_for-anew, asked_for-passed}
use Rattle.helpers.proofs.agreement.agrees.Goals as goal

-- a field that names a helper anew asks it, and what it says is the answer
pub returns-then-names_anew : goal.returns-then-names_anew
returns-then-names_anew g c =
    λ slots is agree. asked_for-anew
    slots
    c.args.pos.now
    c.args.at
    c.args.friend
    c.args.before.now
    c.args.item.now
    _
    agree
    is
    _
    c.decide.result
    c.as_slice.result.now
    (sym c.names_anew.ensures ∙ c.if-names_anew.true)
    c.as_slice.ensures
    c.decide.ensures.answer
    c.decide.ensures.after

-- a field that names no helper, or one that was asked, asks none and changes no answer
pub returns-else-names_anew : goal.returns-else-names_anew
returns-else-names_anew g c =
    λ slots is agree. asked_for-passed slots c.args.pos.now c.args.at c.args.friend c.args.before.now c.args.item.now _
    agree is (sym c.names_anew.ensures ∙ c.if-names_anew.false)
