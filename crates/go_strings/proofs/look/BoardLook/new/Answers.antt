use Rattle.go_strings.specs.Games.{reached}
use Rattle.go_strings.proofs.PositionFacts.{all_agree}
use Rattle.go_strings.proofs.look.BoardLook.new.Goals as goal

-- all facts of the position agree with it
pub invariant_of-result : goal.invariant_of-result
invariant_of-result c = record { holds = all_agree (reached c.args.board.now) c.size.ensures.sound }
