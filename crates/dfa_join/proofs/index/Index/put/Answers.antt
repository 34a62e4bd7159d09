use Rattle.std.proofs.Common.{ap, refl, ◌∙◌}
use Rattle.dfa_join.specs.Index.{same_pair}
use Rattle.dfa_join.proofs.PairLists.{same_pair-other}
use Rattle.dfa_join.proofs.index.Index.put.Goals as goal

-- of the pairs that are looked up only this one has another number
pub returns-in-Ok-clause-elsewhere : goal.returns-in-Ok-clause-elsewhere
returns-in-Ok-clause-elsewhere c = λ q other.
    rw (c.in-Ok.ensures.updates.2 q
    (ap (λ p. same_pair p q) c.new.ensures ∙ same_pair-other c.args.pair q other)) refl
