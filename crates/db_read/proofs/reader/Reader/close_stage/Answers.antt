-- A constraint diagram or an expression is closed, and whatever else stays as it is.
use Rattle.std.proofs.Common.{◌≡◌, ◌∙◌, sym, subst, true, arith}
use Rattle.db_rules.specs.declared.stage.Stage.TheVariants.{Expression}
use Rattle.db_rules.specs.Faults.{closes}
use Rattle.std.proofs.lemmas.Result.{on_ok_weaker}
use Rattle.db_read.proofs.ReaderLemmas.{closed_stage, closed_fault, closed_blames}
use Rattle.db_read.proofs.reader.Reader.close_stage.Goals as goal

-- what is closed beside a constraint diagram is an expression
pub returns-in_default : goal.returns-in_default
returns-in_default c =
    let r = c.args.self.now in
    let kind = c.args.kind in
    let leaves : closes r.stage kind ≡ true = sym c.closes.ensures ∙ c.if-not-closes.false in
    let stage : r.stage ≡ Expression = closed_stage r.stage kind leaves c.in_default.not-Labels in
    record {
      ok = on_ok_weaker c.close_expression.result (λ closed s h.
          let leaves_there : closes s.stage kind ≡ true = subst (λ t. closes t kind ≡ true) h.stage leaves in
          let read = closed c.args.number kind s leaves_there (sym h.stage ∙ stage) h in
          (closed_fault c.args.number kind s leaves_there read.0, read.1)) c.close_expression.ensures.ok;
      left = on_ok_weaker c.close_expression.result
          (λ at_actions here. absurd (cc (at_actions, here))) c.close_expression.ensures.left;
      err = grind (arith, closed_blames c.args.number);
    }
