use Rattle.std.proofs.Common.{◌≡◌, ◌++◌, take}
use Rattle.dfa_match.specs.Walks.{hits_of}
use Rattle.dfa_match.proofs.walks.give_all.Given as goal

-- the walks before gave out their hits
abbrev pub invariant-walks : goal.invariant-walks
invariant-walks l = record {
  hits : l.out.items ≡ l.fn.out.items ++ hits_of l.automaton l.size l.t (take l.walk-index l.walks);
}
