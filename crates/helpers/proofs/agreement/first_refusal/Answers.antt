-- The fields were asked in turn, each as the rule has it.
use Rattle.std.proofs.Common.{sym, ◌∙◌, arith}
use Rattle.helpers.specs.HelperStates.{says_yes}
use Rattle.helpers.proofs.Refusals.{first_refuses, none_first}
use Rattle.helpers.specs.Slots.{states_of}
use Rattle.helpers.proofs.Steps.{asked_for-none}
use Rattle.helpers.proofs.Fields.{asked_for-end, asked_for-next}
use Rattle.helpers.proofs.agreement.first_refusal.Goals as goal

-- for no field no helper is asked
pub loop-i-init : goal.loop-i-init
loop-i-init g c = asked_for-none _ c.args.pos.now c.args.at c.args.friend

-- where a helper says no, those behind it are not asked
pub returns-then-not-agrees-clause-calls : goal.returns-then-not-agrees-clause-calls
returns-then-not-agrees-clause-calls g c =
    let slots = states_of (λ z. (goal.Helper-dyn g z).state z.1) c.args.helpers.now in
    let asked = c.agrees.ensures slots c.loop-i.invariant.calls (sym c.loop-i.invariant.answer) in
    (asked_for-end slots c.args.pos.now c.args.at c.args.friend c.args.items.now c.loop-i.i c.index-items-i.result
    c.loop-i-test.true c.index-items-i.is c.agrees.result _ asked c.if-not-agrees.true).calls

-- where a helper says yes, all up to it say yes, each asked as the rule has it
pub loop-i-preserved : goal.loop-i-preserved
loop-i-preserved g c =
    let slots = states_of (λ z. (goal.Helper-dyn g z).state z.1) c.args.helpers.now in
    let asked = c.agrees.ensures slots c.loop-i.invariant.calls (sym c.loop-i.invariant.answer) in
    asked_for-next slots c.args.pos.now c.args.at c.args.friend c.args.items.now c.loop-i.i c.index-items-i.result
    c.loop-i-test.true c.index-items-i.is c.agrees.result _ asked c.if-not-agrees.false

-- the helpers of the fields before it say yes
pub returns-then-not-agrees-clause-first : goal.returns-then-not-agrees-clause-first
returns-then-not-agrees-clause-first g c =
    let slots = states_of (λ z. (goal.Helper-dyn g z).state z.1) c.args.helpers.now in
    let asked = c.agrees.ensures slots c.loop-i.invariant.calls (sym c.loop-i.invariant.answer) in
    first_refuses (λ name. says_yes slots name c.args.pos.now c.args.at c.args.friend) c.args.items.now 0 c.loop-i.i
    c.loop-i.i c.index-items-i.result (omega arith) c.loop-i-test.true c.index-items-i.is c.loop-i.invariant.answer
    (sym c.if-not-agrees.true ∙ asked.answer)

-- all helpers say yes
pub returns-clause-first : goal.returns-clause-first
returns-clause-first g c =
    let slots = states_of (λ z. (goal.Helper-dyn g z).state z.1) c.args.helpers.now in
    none_first (λ name. says_yes slots name c.args.pos.now c.args.at c.args.friend) c.args.items.now c.loop-i.i 0
    c.loop-i-test.false c.loop-i.invariant.answer
