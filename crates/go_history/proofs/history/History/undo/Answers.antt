use Rattle.std.proofs.Common.{◌∙◌}
use Rattle.go_history.proofs.HeldGames.{counted, IsHistory-pop}
use Rattle.go_history.proofs.history.History.undo.Goals as goal

-- the stones of the last move were counted
pub remove-requires : goal.remove-requires
remove-requires c =
    counted c.self.inside c.pop.new.self.items c.in-Some.m c.from.result c.self.invariant c.in-Some.ensures.items
    (c.from.ensures ∙ c.last_taken-stones.ensures.last c.pop.new.self.items c.in-Some.m
    (c.self.invariant.moves ∙ c.in-Some.ensures.items))

-- the moves that are left are kept
pub invariant_of-self-2 : goal.invariant_of-self-2
invariant_of-self-2 c =
    IsHistory-pop c.self.inside (record { board = c.back.new.self; moves = c.pop.new.self; taken = c.remove.new.self })
    c.in-Some.m c.from.result c.self.invariant (record {
      moves = c.in-Some.ensures.items;
      board = c.back.ensures.back;
      stones = c.from.ensures ∙ c.last_taken-stones.ensures.last c.pop.new.self.items c.in-Some.m
          (c.self.invariant.moves ∙ c.in-Some.ensures.items);
      taken = c.remove.ensures;
    })
