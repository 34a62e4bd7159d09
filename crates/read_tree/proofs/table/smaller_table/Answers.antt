use Rattle.std.proofs.Common.{subst, sym}
use Rattle.std.specs.Prelude.{List}
use Rattle.std.proofs.lemmas.List.Elements.{All-replicate}
use Rattle.read_tree.specs.declared.table.Entry.{Entry}
use Rattle.read_tree.specs.Table.{IsTrueEntry, IsTrueTable}
use Rattle.read_tree.proofs.table.smaller_table.Goals as goal

-- of each node nothing is known
pub returns : goal.returns
returns c = λ seen tree target defender.
    subst (λ (table : List Entry). IsTrueTable seen tree target defender table) (sym c.fewer_filled_with.ensures)
    (record {
      all = All-replicate (IsTrueEntry seen tree target defender) 1024 _
          (c.nothing_of.ensures.holds seen tree target defender);
    })
