use Rattle.std.proofs.Common.{◌+◌, ◌∙◌, arith}
use Rattle.std.proofs.lemmas.List.{get_or_read_under}
use Rattle.dfa_core.proofs.ShownTables.{has_start, start_at}
use Rattle.dfa_core.proofs.table.ClosedTable.range.Goals as goal

-- each row has an entry for where its numbers begin
pub index-requires : goal.index-requires
index-requires c =
    let within = has_start c.self.inside c.args.self.now c.self.view_is c.self.invariant c.args.row c.requires
    c.args.row (omega arith) in
    omega (arith, c.self.inside.starts.ok.0)

-- each row has an entry for where its numbers end
pub index-requires-2 : goal.index-requires-2
index-requires-2 c =
    let within = has_start c.self.inside c.args.self.now c.self.view_is c.self.invariant c.args.row c.requires
    (c.args.row + 1) (omega arith) in
    omega (arith, c.self.inside.starts.ok.0)

-- the numbers of the row begin behind those of the rows before
pub returns-clause-from : goal.returns-clause-from
returns-clause-from c =
    let within = has_start c.self.inside c.args.self.now c.self.view_is c.self.invariant c.args.row c.requires
    c.args.row (omega arith) in
    get_or_read_under c.self.inside.starts.items c.args.row c.self.inside.starts.len c.index.result.now 0
    c.index.ensures (omega (arith, c.self.inside.starts.ok.0)) c.self.inside.starts.ok.0
    ∙ start_at c.self.inside c.args.self.now c.self.view_is c.self.invariant c.args.row c.requires c.args.row
    (omega arith)

-- and end where those of the next begin
pub returns-clause-to : goal.returns-clause-to
returns-clause-to c =
    let within = has_start c.self.inside c.args.self.now c.self.view_is c.self.invariant c.args.row c.requires
    (c.args.row + 1) (omega arith) in
    get_or_read_under c.self.inside.starts.items (c.args.row + 1) c.self.inside.starts.len c.index-2.result.now 0
    c.index-2.ensures (omega (arith, c.self.inside.starts.ok.0)) c.self.inside.starts.ok.0
    ∙ start_at c.self.inside c.args.self.now c.self.view_is c.self.invariant c.args.row c.requires
    (c.args.row + 1) (omega arith)
