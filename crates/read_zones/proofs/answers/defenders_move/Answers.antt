-- The pass before all points, and of these only the replies that the zone of the pass asks for.
use Rattle.std.proofs.Common.{arith}
use Rattle.std.proofs.lemmas.Bool.{lt-ltb}
use Rattle.std.specs.FinSet as set
use Rattle.go_rules.proofs.PlayLaws.{pass_keeps}
use Rattle.sure_rules.proofs.SureLemmas.{tried_anywhere, tried_on}
use Rattle.read_zones.proofs.AnswerLemmas.{reply_lost}
use Rattle.read_zones.proofs.UnreadLemmas.{unread_fails}
use Rattle.read_zones.proofs.TreeLemmas.{agree_self}
use Rattle.read_zones.proofs.answers.defenders_move.Goals as goal

-- the pass holds
pub returns-in_default-clause-first : goal.returns-in_default-clause-first
returns-in_default-clause-first c = grind arith

-- the replies that are read are points of the board
pub first_of-requires-clause-tried : goal.first_of-requires-clause-tried
first_of-requires-clause-tried c = grind (arith, tried_anywhere, lt-ltb)

-- every other reply fails
pub first_of-requires-clause-others : goal.first_of-requires-clause-others
first_of-requires-clause-others c = λ p tried outside.
    reply_lost c.args.plies c.args.node c.args.position.now p c.requires.turn
    (unread_fails c.args.plies c.args.node c.args.position.now (set.contains c.in-Some.zone)
    (set.contains c.replies_shown-replies.result.points) c.size.ensures.position c.requires.turn
    (rw c.passed-new.ensures at c.in-Some.ensures.zone)
    (rw c.passed-new.ensures at c.in-Some.ensures.on_board)
    (c.replies_shown-replies.ensures.shown c.args.position.now c.size.ensures.position (agree_self c.args.position.now))
    p (tried_on c.args.node c.args.position.now p tried) outside)

-- a reply is the first move
pub returns-in-Some-first_of-clause-first : goal.returns-in-Some-first_of-clause-first
returns-in-Some-first_of-clause-first c = grind (arith, pass_keeps, agree_self)

-- no reply holds
pub returns-in-None-clause-first : goal.returns-in-None-clause-first
returns-in-None-clause-first c = grind (arith, pass_keeps, agree_self)
