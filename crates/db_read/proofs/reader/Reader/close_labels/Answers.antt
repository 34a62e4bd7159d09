-- The draft counts the lines of both diagrams.
use Rattle.std.proofs.Common.{◌∙◌, ap, subst, sym}
use Rattle.db_rules.specs.Faults.{at_line, gathered_fault}
use Rattle.db_read.specs.declared.error.DbError.{DbError}
use Rattle.db_read.specs.Reading.{BlamesAt}
use Rattle.db_read.proofs.ReaderLemmas.{labels_gathered}
use Rattle.db_read.proofs.reader.Reader.close_labels.Goals as goal

-- if both diagrams have as many lines, the constraint diagram is closed without a fault
pub returns-in-None-clause-ok : goal.returns-in-None-clause-ok
returns-in-None-clause-ok c = λ s stage h.
    labels_gathered c.args.self.now c.args.number s.stage s.front s.done s.now stage h
    ∙ ap (at_line c.args.number) (sym c.labels_fault.ensures ∙ c.in-None.is)

-- where the constraint diagram has fewer lines, that is the fault of its closing
pub returns-in-Some-clause-err : goal.returns-in-Some-clause-err
returns-in-Some-clause-err c = λ s stage h.
    subst (λ (e : DbError). BlamesAt e (gathered_fault c.args.number s.stage s.now)) (sym c.fault_at.ensures)
    (labels_gathered c.args.self.now c.args.number s.stage s.front s.done s.now stage h
    ∙ ap (at_line c.args.number) (sym c.labels_fault.ensures ∙ c.in-Some.is))
