use Rattle.std.proofs.Common.{◌≡◌, ◌∙◌, ◌+◌, sym, ap, subst, refl, [], ◌∷◌, arith}
use Rattle.std.specs.Prelude.{ℕ}
use Rattle.std.specs.List.{slice_range}
use Rattle.std.proofs.lemmas.Result.{IfOk-weaker, IfErr-weaker}
use Rattle.db_lex.specs.Lines.{Lexed}
use Rattle.db_rules.specs.Faults.{first_fault, found_at_end}
use Rattle.db_read.specs.declared.error.DbError.{DbError}
use Rattle.db_read.specs.Reading.{BlamesAt}
use Rattle.db_rules.proofs.Walk.{Reaches-start, Reaches-end, Reaches-entries}
use Rattle.db_read.proofs.ReaderProgress.{Walked}
use Rattle.db_read.proofs.ReadLemmas.{bad_line, fine_line, found_bad, Walked-step, Walked-fault, Walked-blames}
use Rattle.db_read.proofs.reader.read.Goals as goal
use Rattle.db_read.proofs.reader.read.Goals.{After-line}

-- before the first line nothing is read, and all lines are left
pub loop-told-init : goal.loop-told-init
loop-told-init c =
    subst (λ (x : Lexed). (x.text ≡ c.args.text.now)
    × Walked c.args.helpers.now c.args.text.now c.start-reader.result x.left) (sym c.lines-lexer.ensures) (
      refl,
      record {
        so_far = _;
        shown = c.start-reader.ensures;
        reaches =
            Reaches-start c.args.helpers.now c.args.text.now;
      },
    )

-- a bad byte is the first fault
pub returns-in-Err-clause-err : goal.returns-in-Err-clause-err
returns-in-Err-clause-err c =
    let h = c.in-Some.ensures.next in
    let w : Walked c.args.helpers.now c.args.text.now c.loop-told.reader (h.line ∷ c.next.new.self.left) =
    subst (λ left. Walked c.args.helpers.now c.args.text.now c.loop-told.reader left) h.first
    c.loop-told.invariant.1 in
    subst (λ (e : DbError). BlamesAt e (first_fault c.args.helpers.now c.args.text.now)) (sym c.fault_at.ensures)
    (Walked-fault c.args.helpers.now c.args.text.now c.loop-told.reader h.line c.next.new.self.left _ w
    (found_bad c.args.helpers.now w.so_far h.line c.in-Err.bad (bad_line h.line c.in-Err.bad (sym h.told_is
    ∙ c.in-Err.is))))

-- the lines that are left begin with the one that was read
walked : (c : After-line) → Walked c.args.helpers.now c.args.text.now c.loop-told.reader
    (c.in-Some.ensures.next.line ∷ c.next.new.self.left)
walked c = grind arith

-- its bytes stand in the text where it says
bytes_there : (c : After-line) → c.in-Some.ensures.next.line.bytes
    ≡ slice_range c.args.text.now c.in-Ok.line.from c.in-Ok.line.to
bytes_there c = grind arith

-- a line without a fault is one more
pub loop-told-preserved : goal.loop-told-preserved
loop-told-preserved c =
    let d = (goal.at.loop-told-preserved c).After-line in
    let h = c.in-Some.ensures.next in
    let w = walked d in
    let fine = fine_line h.line c.in-Ok.line (sym h.told_is ∙ c.in-Ok.is) in (
      c.in-Some.ensures.text ∙ c.loop-told.invariant.0,
      Walked-step c.args.helpers.now c.args.text.now c.loop-told.reader c.line.new.self h.line c.next.new.self.left w
          (c.in-Ok-line.ensures.ok w.so_far h.line fine.number fine.fine (bytes_there d) fine.kind w.shown),
    )

-- a line with a fault is the first that has one
pub returns-in-Err-line-clause-err : goal.returns-in-Err-line-clause-err
returns-in-Err-line-clause-err c =
    let d = (goal.at.returns-in-Err-line-clause-err c).After-line in
    let h = c.in-Some.ensures.next in
    let w = walked d in
    let fine = fine_line h.line c.in-Ok.line (sym h.told_is ∙ c.in-Ok.is) in
    Walked-blames c.args.helpers.now c.args.text.now c.loop-told.reader h.line c.next.new.self.left c.in-Err-line.e w
    (c.in-Err-line.ensures.err w.so_far h.line fine.number fine.fine (bytes_there d) fine.kind w.shown)

-- where the end has no fault, the text has none, and the entries are those of the text
pub returns-clause-ok : goal.returns-clause-ok
returns-clause-ok c =
    let w : Walked c.args.helpers.now c.args.text.now c.loop-told.reader [] =
    subst (λ left. Walked c.args.helpers.now c.args.text.now c.loop-told.reader left) c.in_default.ensures.next.0
    c.loop-told.invariant.1 in
    IfOk-weaker c.end.result _ _ (λ v read.
    let at_end = read w.so_far w.shown in (
      Reaches-end c.args.helpers.now c.args.text.now w.so_far w.reaches
          ∙ ap (λ (n : ℕ). found_at_end (n + 1) w.so_far) (sym c.line_count.ensures.value) ∙ at_end.0,
      at_end.1 ∙ sym (Reaches-entries c.args.helpers.now c.args.text.now w.so_far w.reaches),
    )) c.end.ensures.ok

-- a fault at the end is the first of the text
pub returns-clause-err : goal.returns-clause-err
returns-clause-err c =
    let w : Walked c.args.helpers.now c.args.text.now c.loop-told.reader [] =
    subst (λ left. Walked c.args.helpers.now c.args.text.now c.loop-told.reader left) c.in_default.ensures.next.0
    c.loop-told.invariant.1 in
    IfErr-weaker c.end.result _ _ (λ e blames.
    subst (λ f. BlamesAt e f) (ap (λ (n : ℕ). found_at_end (n + 1) w.so_far) c.line_count.ensures.value
    ∙ sym (Reaches-end c.args.helpers.now c.args.text.now w.so_far w.reaches))
    (blames w.so_far w.shown)) c.end.ensures.err
