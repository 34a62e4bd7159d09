use Rattle.std.proofs.Common.{◌∙◌, sym, ap, arith}
use Rattle.cons_eval.specs.Readings.{Codes}
use Rattle.match_rules.specs.Conditions.{is_enemy_safe, is_constraint_true}
use Rattle.match_engine.specs.Readings.{codes_of}
use Rattle.match_engine.proofs.ReadingCounts.{Follows-trans, codes_stay}
use Rattle.match_engine.proofs.MatchConditions.{unsafe_refused, enemy_refused, by_constraint}
use Rattle.match_engine.proofs.allowing.is_allowed.Goals as goal

-- the friend's stone is not safe
pub returns-then-not-is_safe-clause-value : goal.returns-then-not-is_safe-clause-value
returns-then-not-is_safe-clause-value c = grind (arith, unsafe_refused)

-- the enemy's stone is not safe, by the same codes
pub returns-then-not-is_enemy_safe-clause-value : goal.returns-then-not-is_enemy_safe-clause-value
returns-then-not-is_enemy_safe-clause-value c = grind (arith, enemy_refused, codes_stay)

-- both are, or need not be, and the constraint decides by the same codes
pub returns-clause-value : goal.returns-clause-value
returns-clause-value c =
    c.is_constraint_true.ensures.value
    ∙ ap (λ (code : Codes). is_constraint_true code c.args.p.now c.args.position.now c.args.friend
    c.args.z.now.transform c.args.z.now.at)
    (codes_stay c.args.readings.now c.is_enemy_safe.new.readings
    (Follows-trans c.args.readings.now c.is_safe.new.readings c.is_enemy_safe.new.readings c.is_safe.ensures.follows
    c.is_enemy_safe.ensures.follows))
    ∙ by_constraint (codes_of c.args.readings.now) c.args.p.now c.args.position.now c.args.friend c.args.z.now.transform
    c.args.z.now.at (sym c.is_safe.ensures.value ∙ c.if-not-is_safe.false)
    (ap (λ (code : Codes). is_enemy_safe code c.args.p.now c.args.position.now c.args.friend c.args.z.now.at)
    (sym (codes_stay c.args.readings.now c.is_safe.new.readings c.is_safe.ensures.follows))
    ∙ sym c.is_enemy_safe.ensures.value ∙ c.if-not-is_enemy_safe.false)

-- the friend's stone need not be safe, so nothing is read
pub returns-then-not-is_safe-clause-unread : goal.returns-then-not-is_safe-clause-unread
returns-then-not-is_safe-clause-unread c = λ none. c.is_safe.ensures.unread none.need_not_be_safe

-- the enemy is not asked about without class n
pub returns-then-not-is_enemy_safe-clause-unread : goal.returns-then-not-is_enemy_safe-clause-unread
returns-then-not-is_enemy_safe-clause-unread c = grind arith

-- nothing is read without a safety class and a constraint
pub returns-clause-unread : goal.returns-clause-unread
returns-clause-unread c = grind arith
