-- Generated lines were served in place of the source, which is as it was.
use Rattle.std.proofs.Common.{None, refl, ap, subst}
use Rattle.std.specs.Prelude.{MatchOption}
use Rattle.go_options.specs.Found.{IsIn}
use Rattle.go_options.specs.NumberOptions.{generate_option}
use Rattle.workload.specs.Remaining.{WorkloadState}
use Rattle.session.specs.Ends.{streams}
use Rattle.session.proofs.RunPhases.{ends-generated, uncaused}
use Rattle.session.proofs.top_call.serve_lines.Goals as goal

-- a run that generates its lines serves these, and leaves the source as it was
pub returns-in-Some-clause-serves : goal.returns-in-Some-clause-serves
returns-in-Some-clause-serves g c =
    let source = streams (g.S.Source.left c.args.input.now) (g.S.Source.piece c.args.input.now)
    (g.S.Source.faults c.args.input.now) None 0 in
    ends-generated c.in-Some.n source _ _ c.args.generate _ _ _ _ _ _ c.in-Some.is
    (subst (λ o. MatchOption o (Unit {0}) (IsIn generate_option)) c.in-Some.is c.requires.few).1 c.serve.ensures.serves
    c.new.result.left _ (ap (λ (w : WorkloadState). w.left) c.new.ensures) refl refl

-- serving generated lines tells no fault of the input, whose count of faults stays
pub returns-in-Some-clause-input : goal.returns-in-Some-clause-input
returns-in-Some-clause-input g c = uncaused _ _ c.serve.ensures.input
