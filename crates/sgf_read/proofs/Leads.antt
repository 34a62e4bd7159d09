-- What a step hands on that was not made.
use Rattle.std.proofs.Common.{◌≡◌, ◌∙◌, ap, sym, Result, Ok, Err, IsErrAnd}
use Rattle.go_rules.specs.Position.{BoardState}
use Rattle.sgf_rules.specs.declared.kind.FaultKind.{FaultKind}
use Rattle.sgf_read.specs.Reads.{Leads}

-- a fault that a step is handed is the fault that it answers
pub fault_handed_on : (r : Result (Unit {0}) FaultKind) (kind : FaultKind) (now : BoardState)
    (should : Result BoardState FaultKind) → IsErrAnd r (λ k. k ≡ kind) → should ≡ Err kind → Leads r now should
fault_handed_on (Ok done) kind now should h e = absurd h
fault_handed_on (Err k) kind now should h e = e ∙ ap (λ (k : FaultKind). Err k) (sym h)

-- a call that is handed a fault answers it
pub fault_answered : (r should : Result BoardState FaultKind) (kind : FaultKind) → IsErrAnd r (λ k. k ≡ kind)
    → Err kind ≡ should → r ≡ should
fault_answered (Ok pos) should kind h e = absurd h
fault_answered (Err k) should kind h e = ap (λ (k : FaultKind). Err k) h ∙ e
