use Rattle.go_rules.specs.Board.{largest_size}
use Rattle.std.proofs.Common.{◌≡◌, ◌+◌, length, arith, sym, ap, refl, ◌∙◌, None, false, cond, [], ◌++◌}
use Rattle.pat_types.specs.Diagrams.{drawn_strip}
use Rattle.db_rules.specs.Diagram.{letters_of_row, other_width, line_shape}
use Rattle.std.specs.Prelude.{nat_lt, nat_le}
use Rattle.std.proofs.lemmas.Bool.{or_parts, ltb-false, leb-false}
use Rattle.db_rules.specs.declared.kind.FaultKind.TheVariants.{EdgePlace, Ragged, TooLarge}
use Rattle.db_entry.specs.Reads.{kept_fault}
use Rattle.db_entry.proofs.LineLemmas.{line_classifies, no_line_fault}
use Rattle.db_entry.proofs.DiagramLemmas.{Draws-push, fault_is, none_of_three}
use Rattle.db_entry.proofs.diagram.Diagram.line.Goals as goal

-- a word that is no line is at fault
pub returns-in-None-clause-err : goal.returns-in-None-clause-err
returns-in-None-clause-err c = λ words s. no_line_fault words c.args.word.now (sym c.of.ensures ∙ c.in-None.is)

-- a line that has a fault by what is kept has it by the lines before
pub returns-in-Some-fault-clause-err : goal.returns-in-Some-fault-clause-err
returns-in-Some-fault-clause-err c = λ words s.
    let is = line_classifies c.args.word.now c.in-Some.line (sym c.of.ensures ∙ c.in-Some.is) in
    sym (fault_is c.args.self.now words c.args.word.now c.in-Some.line s is) ∙ sym c.fault.ensures ∙ c.in-Some-fault.is

-- a line without a fault is one more
pub returns-clause-ok : goal.returns-clause-ok
returns-clause-ok c = λ words s.
    let d = c.args.self.now in
    let line = c.in-Some.line in
    let is = line_classifies c.args.word.now line (sym c.of.ensures ∙ c.in-Some.is) in
    let none : kept_fault d line (length c.args.word.now) ≡ None = sym c.fault.ensures ∙ c.in_default.is in
    let even : other_width (line_shape c.args.word.now) d.shape ≡ false =
    ap (λ t. other_width t d.shape) (sym is.shape) ∙ (none_of_three _ _ _ EdgePlace Ragged TooLarge none).second in
    let edge = c.is_edge-edge.ensures ∙ is.edge in
    let row = c.is_row-row.ensures ∙ is.row in
    let shape = c.shape.ensures ∙ is.shape in (
      sym (fault_is d words c.args.word.now line s is) ∙ none,
      Draws-push d _ words c.args.word.now s even refl
          (c.rows_after-self.ensures ∙ ap (λ b. d.rows + drawn_strip b) row)
          (rw (c.top_after-self.ensures, edge) refl)
          (rw (c.bottom_after-self.ensures, edge) refl)
          (rw (c.shape_after-self.ensures, row) (rw shape refl))
          (c.in-Ok.ensures ∙ ap (λ b. d.letters ++ cond b (letters_of_row c.args.word.now) []) row),
    )

-- there are few lines
pub overflow_add-self : goal.overflow_add-self
overflow_add-self c =
    let none : kept_fault c.args.self.now c.in-Some.line (length c.args.word.now) ≡ None =
    sym c.fault.ensures ∙ c.in_default.is in
    let tests = none_of_three _ _ _ EdgePlace Ragged TooLarge none in
    let both =
    or_parts (nat_lt largest_size (length c.args.word.now))
    (nat_le largest_size c.args.self.now.lines) tests.third in
    omega (arith, leb-false _ _ both.1)

-- an accepted line is short, and there are few
pub returns-clause-few : goal.returns-clause-few
returns-clause-few c =
    let none : kept_fault c.args.self.now c.in-Some.line (length c.args.word.now) ≡ None =
    sym c.fault.ensures ∙ c.in_default.is in
    let tests = none_of_three _ _ _ EdgePlace Ragged TooLarge none in
    let both =
    or_parts (nat_lt largest_size (length c.args.word.now))
    (nat_le largest_size c.args.self.now.lines) tests.third in
    (ltb-false _ _ both.0, omega (arith, leb-false _ _ both.1), refl)
