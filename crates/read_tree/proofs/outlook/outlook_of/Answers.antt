-- What the liberties that were found say of the node.
use Rattle.trial_board.specs.Trials.{after}
use Rattle.std.proofs.Common.{◌≡◌, arith}
use Rattle.go_base.specs.Facts.{Agrees}
use Rattle.go_rules.specs.Position.{BoardState}
use Rattle.go_rules.specs.Strings.{liberty_points}
use Rattle.read_tree.proofs.outlook.outlook_of.Given.{Over}
use Rattle.read_tree.proofs.outlook.outlook_of.Goals.{After-can_take}
use Rattle.read_tree.proofs.outlook.outlook_of.Goals as goal

-- a target that is safe has too many liberties on each position that agrees
pub returns-then-has_too_many-clause-over : goal.returns-then-has_too_many-clause-over
returns-then-has_too_many-clause-over g c = grind arith

-- The liberties that are known are not too many.
module _ (g : Over) (c : After-can_take g) (pos : BoardState)
    (a : Agrees (g.L.Look.seen c.can_take.new.board.look) pos) where
  -- they are all liberties of the target
  all_known : c.args.known.now ≡ liberty_points pos.size (after pos c.args.board.now.moves).cells c.args.turn.target
  all_known = grind arith

-- a target that is taken has not too many liberties
pub returns-then-can_take-clause-over : goal.returns-then-can_take-clause-over
returns-then-can_take-clause-over g c = grind arith

-- a target whose node is to be read has not too many liberties
pub returns-clause-over : goal.returns-clause-over
returns-clause-over g c = grind arith

-- a target that is taken has all of its liberties known
pub returns-then-can_take-clause-all : goal.returns-then-can_take-clause-all
returns-then-can_take-clause-all g c = grind arith

-- and so has one whose node is to be read
pub returns-clause-all : goal.returns-clause-all
returns-clause-all g c = λ pos a few. all_known g (goal.at.returns-clause-all g c).After-can_take pos a

-- whoever takes it by its only liberty takes it on each position where these are all
pub returns-then-can_take-clause-taken : goal.returns-then-can_take-clause-taken
returns-then-can_take-clause-taken g c = grind arith

-- where it is taken the looks lie in its neighbourhood
pub returns-then-can_take-clause-near : goal.returns-then-can_take-clause-near
returns-then-can_take-clause-near g c = grind arith

-- at a node that is to be read the looks lie in the target's neighbourhood
pub returns-clause-near : goal.returns-clause-near
returns-clause-near g c = grind (arith, all_known)

-- the position shown is one that agrees
pub can_take-requires : goal.can_take-requires
can_take-requires g c = grind arith
