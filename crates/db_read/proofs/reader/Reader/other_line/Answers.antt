use Rattle.std.proofs.Common.{◌≡◌, ◌∙◌, List, sym, ap, subst, take}
use Rattle.std.specs.Prelude.{ℕ, slice_index}
use Rattle.std.proofs.lemmas.Result.{on_ok_weaker, IfErr-weaker}
use Rattle.db_lex.specs.declared.line.LineKind.TheVariants.{Other}
use Rattle.db_lex.specs.Lines.{word_of}
use Rattle.db_rules.specs.declared.stage.TableCell.TheVariants.{Next}
use Rattle.db_rules.specs.Blocks.{placed}
use Rattle.db_read.specs.Reading.{Shows}
use Rattle.db_rules.proofs.TableLemmas.{other_diagram, other_labels}
use Rattle.db_read.proofs.reader.Reader.other_line.Goals as goal
use Rattle.db_read.proofs.reader.Reader.other_line.Goals.{After-word_len}

-- the word of a line is cut from it where its word ends
word_is : (c : After-word_len) (bytes : List ℕ) → bytes ≡ c.args.line.now
    → word_of bytes ≡ take c.word_len.result c.args.line.now
word_is c bytes e = ap word_of e ∙ ap (λ (n : ℕ). take n c.args.line.now) (sym c.word_len.ensures.value)

-- a line that the table takes to the main diagram is read as one more of its lines
pub returns-in-Diagram-clause-ok : goal.returns-in-Diagram-clause-ok
returns-in-Diagram-clause-ok c = on_ok_weaker c.diagram_line.result (λ reads helpers s k e cell h.
    let there = other_diagram s.stage (slice_index c.args.line.now 0) (cell ∙ ap Next c.in-Diagram.is) in
    let word = word_is (goal.at.returns-in-Diagram-clause-ok c).After-word_len k.bytes e in
    let read = reads helpers s k word there h in
    (read.0, subst (λ t. Shows c.diagram_line.new.self (placed k t s Other)) (sym c.in-Diagram.is) read.1))
    c.diagram_line.ensures.ok

-- its fault is that of a line of the main diagram
pub returns-in-Diagram-clause-err : goal.returns-in-Diagram-clause-err
returns-in-Diagram-clause-err c = IfErr-weaker c.diagram_line.result _ _ (λ err reads helpers s k e cell h.
    reads helpers s k (word_is (goal.at.returns-in-Diagram-clause-err c).After-word_len k.bytes e)
    (other_diagram s.stage (slice_index c.args.line.now 0) (cell ∙ ap Next c.in-Diagram.is)) h)
    c.diagram_line.ensures.err

-- a line that the table takes to the constraint diagram is read as one more of its lines
pub returns-in-Labels-clause-ok : goal.returns-in-Labels-clause-ok
returns-in-Labels-clause-ok c = on_ok_weaker c.constraint_line.result (λ reads helpers s k e cell h.
    let there = other_labels s.stage (slice_index c.args.line.now 0) (cell ∙ ap Next c.in-Labels.is) in
    let word = word_is (goal.at.returns-in-Labels-clause-ok c).After-word_len k.bytes e in
    let read = reads helpers s k word there h in
    (read.0, subst (λ t. Shows c.constraint_line.new.self (placed k t s Other)) (sym c.in-Labels.is) read.1))
    c.constraint_line.ensures.ok

-- its fault is that of a line of the constraint diagram
pub returns-in-Labels-clause-err : goal.returns-in-Labels-clause-err
returns-in-Labels-clause-err c = IfErr-weaker c.constraint_line.result _ _ (λ err reads helpers s k e cell h.
    reads helpers s k (word_is (goal.at.returns-in-Labels-clause-err c).After-word_len k.bytes e)
    (other_labels s.stage (slice_index c.args.line.now 0) (cell ∙ ap Next c.in-Labels.is)) h)
    c.constraint_line.ensures.err
