use Rattle.std.proofs.Common.{◌+◌, ◌*◌, arith}
use Rattle.std.proofs.lemmas.List.{get_or_read_under}
use Rattle.dfa_core.proofs.ShownTables.{has_entry, entry_at}
use Rattle.dfa_core.proofs.table.ClosedTable.target.Goals as goal

-- each row has an entry for the target of each letter
pub index-requires : goal.index-requires
index-requires c =
    let within = has_entry c.self.inside c.args.self.now c.self.view_is c.self.invariant c.args.row c.requires
    c.column.result c.column.ensures.bound in
    omega (arith, c.self.inside.entries.ok.0)

-- the entry is that of the row's target for the letter
pub returns : goal.returns
returns c =
    grind (
      arith,
      has_entry c.self.inside c.args.self.now c.self.view_is c.self.invariant c.args.row c.requires c.column.result c.column.ensures.bound,
      get_or_read_under c.self.inside.entries.items (4 * c.args.row + c.column.result) c.self.inside.entries.len c.index.result.now 0 c.index.ensures,
      entry_at c.self.inside c.args.self.now c.self.view_is c.self.invariant c.args.row c.requires c.column.result c.column.ensures.bound,
    )
