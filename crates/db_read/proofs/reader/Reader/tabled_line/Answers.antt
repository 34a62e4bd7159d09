use Rattle.std.proofs.Common.{◌≡◌, ◌∙◌, sym, ap, List}
use Rattle.std.specs.Prelude.{ℕ, slice_index}
use Rattle.std.proofs.lemmas.Result.{on_ok_weaker}
use Rattle.db_rules.specs.declared.stage.TableCell.TheVariants.{Next}
use Rattle.db_rules.specs.Blocks.{cell_for, table}
use Rattle.db_read.proofs.LineLemmas.{tabled_ok}
use Rattle.db_read.proofs.reader.Reader.tabled_line.Goals as goal

-- a line that the table takes is read, and the reader stands where the table leads
pub returns-in-Next-clause-ok : goal.returns-in-Next-clause-ok
returns-in-Next-clause-ok c = on_ok_weaker c.taken_line.result (λ reads s k number e kind h.
    let by_table : table s.stage c.args.kind (slice_index c.args.line.now 0) ≡ Next c.in-Next.stage =
    ap (λ t. table t c.args.kind (slice_index c.args.line.now 0)) (sym h.stage) ∙ sym c.table.ensures ∙ c.in-Next.is in
    let cell : cell_for s.stage k ≡ Next c.in-Next.stage =
    ap (λ t. table s.stage t (slice_index k.bytes 0)) (sym kind)
    ∙ ap (λ (bs : List ℕ). table s.stage c.args.kind (slice_index bs 0)) e ∙ by_table in
    tabled_ok c.args.helpers.now s k c.args.kind c.in-Next.stage _ kind cell
    (reads s k number e by_table h)) c.taken_line.ensures.ok
