use Rattle.std.proofs.lemmas.List.Elements.{All-set}
use Rattle.read_tree.specs.Table.{IsTrueEntry}
use Rattle.read_tree.proofs.TableLemmas.{entry_true, as_node}
use Rattle.read_tree.proofs.table.keep.Goals as goal

-- the entry that is put is true, and so is each other
pub returns : goal.returns
returns c = λ seen tree target defender table of. record {
  all = All-set (IsTrueEntry seen tree target defender) c.args.table.now c.place_of-place.result c.with.result
      (c.with.ensures seen tree target defender
      (c.entry_of-before.ensures.holds seen tree target defender
      (entry_true c.args.table.now c.place_of-place.result _ c.place_of-place.ensures table))
      (as_node _ _ c.args.node.now c.args.verdict c.entry_of-before.ensures.changes c.entry_of-before.ensures.wide of))
      table.all;
}
