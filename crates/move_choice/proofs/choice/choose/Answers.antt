use Rattle.std.proofs.Common.{◌+◌, ◌<◌, length, take, sym, ◌∙◌, subst, arith}
use Rattle.match_rules.specs.declared.found.Match.{Match}
use Rattle.move_choice.specs.Choice.{worth_at, choice_of}
use Rattle.move_choice.proofs.Choices.{choice-empty, first_among, among, IsFirst, IsFirst-keeps_more}
use Rattle.move_choice.proofs.Choices.{IsFirst-takes_more, choice-all}
use Rattle.move_choice.proofs.choice.choose.Goals as goal
use Rattle.move_choice.proofs.choice.choose.Goals.{then-is_preferred, else-is_preferred}

-- there is no match
pub returns-in_err-first-clause-choice : goal.returns-in_err-first-clause-choice
returns-in_err-first-clause-choice c =
    c.from_residual.ensures ∙ sym (choice-empty c.args.patterns.now c.args.found.now c.in_err-first.ensures.cases)

-- the first alone is the choice
pub loop-z-init : goal.loop-z-init
loop-z-init c = record {
  named =
      c.requires c.in_ok-first.first.now
      (first_among c.args.found.now c.in_ok-first.rest.now c.in_ok-first.first.now c.in_ok-first.ensures.cases.0);
  is = grind arith;
}

-- each of the rest is one of the matches
pub is_preferred-requires-clause-y : goal.is_preferred-requires-clause-y
is_preferred-requires-clause-y c =
    c.requires c.z-item.result
    (among c.args.found.now c.in_ok-first.rest.now c.in_ok-first.first.now c.in_ok-first.ensures.cases.0
    c.loop-z.z-index c.z-item.result c.loop-z-test.true c.z-item.is)

-- a match that is preferred is the choice from then on
pub loop-z-preserved : goal.loop-z-preserved
loop-z-preserved c =
    let z = c.z-item.result in
    let worth = worth_at c.args.patterns.now in
    let place = c.in_ok-first.ensures.cases.0 in
    let up_to = take (c.loop-z.z-index + 1 + 1) c.args.found.now in
    elim c.if-is_preferred.branch [
      | then-is_preferred w ↦ record {
        named = subst (λ (m : Match). m.pattern < length c.args.patterns.now) (sym w.choice-is) (c.requires z
            (among c.args.found.now c.in_ok-first.rest.now c.in_ok-first.first.now place c.loop-z.z-index z
            c.loop-z-test.true c.z-item.is));
        is =
            subst (IsFirst worth up_to) (sym w.choice-is)
            (IsFirst-takes_more c.args.found.now c.in_ok-first.rest.now c.in_ok-first.first.now place worth
            c.loop-z.z-index c.loop-z.choice z c.loop-z-test.true c.z-item.is c.loop-z.invariant.is
            (sym c.is_preferred.ensures ∙ w.if-is_preferred.true));
      }
      | else-is_preferred w ↦ record {
        named = subst (λ (m : Match). m.pattern < length c.args.patterns.now) (sym w.choice-is)
            c.loop-z.invariant.named;
        is =
            subst (IsFirst worth up_to) (sym w.choice-is)
            (IsFirst-keeps_more c.args.found.now c.in_ok-first.rest.now c.in_ok-first.first.now place worth
            c.loop-z.z-index c.loop-z.choice z c.loop-z-test.true c.z-item.is c.loop-z.invariant.is
            (sym c.is_preferred.ensures ∙ w.if-is_preferred.false));
      }
    ]

-- all matches were looked at
pub returns-clause-choice : goal.returns-clause-choice
unfolding choice_of
returns-clause-choice c =
    sym (choice-all c.args.found.now c.in_ok-first.rest.now c.in_ok-first.first.now c.in_ok-first.ensures.cases.0
    (worth_at c.args.patterns.now) c.loop-z.z-index c.loop-z.choice c.loop-z-test.false c.loop-z.invariant.is)
