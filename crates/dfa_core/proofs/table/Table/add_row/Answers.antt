use Rattle.std.proofs.Common.{◌≡◌, ◌∙◌, ◌++◌, ◌∷◌, [], sym, ap, arith}
use Rattle.std.proofs.lemmas.List.{length_push}
use Rattle.dfa_core.specs.Automata.{Row}
use Rattle.dfa_core.specs.Tables.{Flat, rows_in, IsFlat}
use Rattle.dfa_core.specs.RowKinds.{kind_with, AreKinds}
use Rattle.dfa_core.proofs.Tables.{flat_with, grown-rows, length-rows}
use Rattle.dfa_core.proofs.RowKinds.{AreKinds-more}
use Rattle.dfa_core.proofs.ShownTables.{table_lists}
use Rattle.dfa_core.proofs.table.Table.add_row.Goals.{After-push_reserved-3}
use Rattle.dfa_core.proofs.table.Table.add_row.Goals as goal

-- the lists before
abbrev old_table : After-push_reserved-3 → Flat
old_table c = table_lists c.self.inside

-- the lists with one row more
abbrev new_table : After-push_reserved-3 → Flat
new_table c = flat_with c.append_targets.new.targets.items c.push_reserved.new.self.items c.append-2.new.numbers.items
    c.push_reserved-2.new.self.items

-- the row
abbrev row_of : After-push_reserved-3 → Row
row_of c = record {
  targets = c.args.targets_of_row;
  numbers = c.args.first.now ++ c.args.second.now;
  depth = c.args.depth;
}

-- the depths before, and that of the row
one_depth : (c : After-push_reserved-3)
    → c.push_reserved-2.new.self.items ≡ c.self.inside.depths.items ++ c.args.depth ∷ []
one_depth c = grind arith

-- the row comes behind the others, and the lists still belong together
grown : (c : After-push_reserved-3)
    → (rows_in (new_table c) ≡ rows_in (old_table c) ++ row_of c ∷ []) × IsFlat (new_table c)
grown c =
    grind (
      arith,
      grown-rows (old_table c) (new_table c) c.args.targets_of_row c.append.new.numbers.items c.args.first.now c.args.second.now c.args.depth c.len-3.result c.self.invariant.flat,
      one_depth c,
    )

-- the row has its kind
kinds : (c : After-push_reserved-3) → AreKinds (rows_in (new_table c)) c.push_reserved-3.new.self.items
kinds c =
    let kind = c.kind_of-kind.result in
    AreKinds-more (rows_in (old_table c)) (rows_in (new_table c)) (row_of c) c.self.inside.kinds.items
    c.push_reserved-3.new.self.items kind c.self.invariant.of_rows (grown c).0
    (c.push_reserved-3.ensures.items ∙ ap (λ xs. xs ++ kind ∷ []) c.in_ok-make_room.ensures.kinds)
    (c.kind_of-kind.ensures ∙ ap (λ n. kind_with n c.args.targets_of_row (c.args.first.now ++ c.args.second.now))
    (c.len-2.ensures ∙ c.self.inside.depths.ok.0 ∙ sym (length-rows (old_table c))))

-- the new row comes behind those of the table before
pub returns-clause-added : goal.returns-clause-added
returns-clause-added c = grind (arith, grown)

-- the lists belong together, each row has its kind, and there are not too many
pub invariant_of-self-2 : goal.invariant_of-self-2
invariant_of-self-2 c = grind (arith, grown, kinds, one_depth, length_push)
