-- What the line closes is left behind, and the line meets the same there.
use Rattle.std.proofs.Common.{◌≡◌, ◌∙◌, sym, ap, subst, Some, None, arith}
use Rattle.std.specs.Prelude.{ℕ}
use Rattle.db_read.specs.declared.error.DbError.{DbError}
use Rattle.db_rules.specs.Blocks.{cell_for}
use Rattle.db_rules.specs.Faults.{closing_fault, found, table_fault, at_line}
use Rattle.db_read.specs.Reading.{BlamesAt, error_at, settled}
use Rattle.db_rules.proofs.TableLemmas.{found_table}
use Rattle.db_read.proofs.LineLemmas.{blames_line, blames_closing, same_behind}
use Rattle.db_read.proofs.reader.Reader.line.Goals as goal

-- what the line closes is at fault
pub returns-in-Err-clause-err : goal.returns-in-Err-clause-err
returns-in-Err-clause-err c = grind (arith, blames_closing)

-- the reader has read what is left behind
pub tabled_line-requires-clause-reading : goal.tabled_line-requires-clause-reading
tabled_line-requires-clause-reading c = grind arith

-- the line itself is at fault
pub returns-in-Err-tabled_line-clause-err : goal.returns-in-Err-tabled_line-clause-err
returns-in-Err-tabled_line-clause-err c = λ s k number fine bytes kind h.
    let closed = c.in-Ok.ensures.ok s h in
    let closing : closing_fault k.number (Some c.args.kind) s ≡ None =
    ap (λ (n : ℕ). closing_fault n (Some c.args.kind) s) number ∙ closed.0 in
    let fault = table_fault c.args.helpers.now s k (cell_for s.stage k) in
    let here : found c.args.helpers.now s k ≡ at_line c.args.number fault =
    found_table c.args.helpers.now s k c.args.kind fine kind closing ∙ ap (λ (n : ℕ). at_line n fault) number in
    let same = same_behind c.args.helpers.now c.args.kind s k kind in
    let blames =
    blames_line c.args.number c.in-Err-tabled_line.e _
    (c.in-Err-tabled_line.ensures.err (settled (Some c.args.kind) s) k number bytes kind closed.1) in
    subst (λ (e : DbError). BlamesAt e (found c.args.helpers.now s k)) (sym c.at.ensures)
    (subst (λ f. BlamesAt (error_at c.args.number c.in-Err-tabled_line.e) f) (ap (at_line c.args.number) same.fault
    ∙ sym here) blames)

-- the line has no fault
pub returns-clause-ok : goal.returns-clause-ok
returns-clause-ok c =
    grind (
      arith,
      same_behind c.args.helpers.now c.args.kind,
      found_table c.args.helpers.now,
      c.in-Ok.ensures.ok,
      c.in-Ok-tabled_line.ensures.ok,
    )
