use Rattle.std.proofs.Common.{◌≡◌, ◌∙◌, ◌++◌, ◌<◌, length, take, drop, map, sym, ap, subst, arith}
use Rattle.std.specs.List.{All}
use Rattle.std.proofs.lemmas.List.{length-map}
use Rattle.dfa_core.specs.Automata.{IsAutomaton}
use Rattle.dfa_core.specs.Entries.{entry_in}
use Rattle.dfa_core.specs.Tables.{rows_in}
use Rattle.dfa_core.proofs.Entries.{targets_within, written_whole, closed_rows, closed_entries}
use Rattle.dfa_core.proofs.Tables.{length-rows}
use Rattle.dfa_core.proofs.ShownTables.{table_lists}
use Rattle.dfa_core.proofs.table.Table.closed.Goals.{After-deref, After-write_kinds}
use Rattle.dfa_core.proofs.table.Table.closed.Goals as goal

-- there is a kind for each row
many : (c : After-deref) → length c.deref.result.now ≡ length (rows_in (table_lists c.self.inside))
many c = ap length c.deref.ensures.value ∙ c.self.invariant.of_rows.one_each

-- and there are no more rows than the most
pub write_kinds-requires-clause-few : goal.write_kinds-requires-clause-few
write_kinds-requires-clause-few c = grind (arith, many, length-rows)

-- each target is a row
pub write_kinds-requires-clause-rows : goal.write_kinds-requires-clause-rows
write_kinds-requires-clause-rows c =
    subst (λ ts. All (λ row. row < length c.deref.result.now) ts) (sym c.deref_mut.ensures.value)
    (subst (λ n. All (λ row. row < n) c.self.inside.targets.items)
    (sym (many (goal.at.write_kinds-requires-clause-rows c).After-deref))
    (targets_within (table_lists c.self.inside) c.self.inside.kinds.items c.self.invariant
    (subst IsAutomaton (sym c.self.view_is) c.requires)))

-- what is written are the entries of the targets
written : (c : After-write_kinds) → take c.self.inside.targets.len
    (c.write_kinds.new.targets ++ drop (length c.write_kinds.new.targets) c.self.inside.targets.items)
    ≡ map (entry_in c.self.inside.kinds.items) c.self.inside.targets.items
written c = grind (arith, written_whole, length-map)

-- the entries belong to the rows
pub invariant_of-result : goal.invariant_of-result
invariant_of-result c = closed_entries c.self.inside.targets.items c.self.inside.starts.items
    c.self.inside.numbers.items c.self.inside.depths.items _ c.self.inside.kinds.items
    (written (goal.at.invariant_of-result c).After-write_kinds) c.self.invariant

-- the rows are as they were
pub returns : goal.returns
returns c = grind (arith, closed_rows, written)
