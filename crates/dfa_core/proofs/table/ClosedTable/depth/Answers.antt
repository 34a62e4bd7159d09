use Rattle.std.proofs.Common.{◌∙◌, arith}
use Rattle.std.proofs.lemmas.List.{get_or_read_under}
use Rattle.dfa_core.proofs.ShownTables.{has_depth, depth_at}
use Rattle.dfa_core.proofs.table.ClosedTable.depth.Goals as goal

-- each row has an entry for its depth
pub index-requires : goal.index-requires
index-requires c =
    grind (arith, has_depth c.self.inside c.args.self.now c.self.view_is c.self.invariant c.args.row c.requires)

-- the entry is the row's depth
pub returns : goal.returns
returns c =
    let low = has_depth c.self.inside c.args.self.now c.self.view_is c.self.invariant c.args.row c.requires in
    get_or_read_under c.self.inside.depths.items c.args.row c.self.inside.depths.len c.index.result.now 0
    c.index.ensures (omega (arith, c.self.inside.depths.ok.0)) c.self.inside.depths.ok.0
    ∙ depth_at c.self.inside c.args.self.now c.self.view_is c.self.invariant c.args.row c.requires
