-- What stands in the vectors of a closed table, in words of the rows that it is seen as.
use Rattle.std.proofs.Common.{◌≡◌, ℕ, ◌+◌, ◌*◌, ◌<◌, ◌≤◌, List, length, map, get_or, sym, ap, ◌∙◌, arith}
use Rattle.std.proofs.lemmas.List.{length-map}
use Rattle.std.proofs.Math.ListN.{get_or-map}
use Rattle.dfa_core.specs.Automata.{Row, row_at}
use Rattle.dfa_core.specs.Entries.{row_of, HasEntries}
use Rattle.dfa_core.specs.Tables.{Flat, rows_in}
use Rattle.dfa_core.specs.declared.table.Table.TheInside.{Inside as TableInside}
use Rattle.dfa_core.specs.declared.table.ClosedTable.TheInside.{Inside}
use Rattle.dfa_core.proofs.Tables.{begin_of, flat_with, row_below, row_at-rows, target-at, start-counts}

-- the flat lists of a table
abbrev pub table_lists : TableInside → Flat
table_lists t = flat_with t.targets.items t.starts.items t.numbers.items t.depths.items

-- the flat lists of a closed table
abbrev pub lists_of : Inside → Flat
lists_of t = flat_with (map row_of t.entries.items) t.starts.items t.numbers.items t.depths.items

module _ (t : Inside) (rows : List Row) (shown : rows_in (lists_of t) ≡ rows)
    (good : HasEntries (lists_of t) t.entries.items t.kinds.items) (r : ℕ) (low : r < length rows) where
  -- the row has a depth
  pub has_depth : r < length t.depths.items
  has_depth = row_below (lists_of t) rows r shown low

  -- it is the depth of the row
  pub depth_at : get_or t.depths.items r 0 ≡ (row_at rows r).depth
  depth_at = grind (arith, row_at-rows, has_depth)

  -- the row has an entry for the target of each letter
  pub has_entry : (k : ℕ) → k < 4 → 4 * r + k < length t.entries.items
  has_entry k letter = omega (arith, has_depth, good.with_kinds.flat.targets, length-map t.entries.items row_of)

  -- the entry is that of the target
  pub entry_at : (k : ℕ) → k < 4 → row_of (get_or t.entries.items (4 * r + k) 0) ≡ get_or (row_at rows r).targets k 0
  entry_at k letter = sym (get_or-map row_of t.entries.items (4 * r + k) 0)
      ∙ target-at (lists_of t) good.with_kinds.flat r k has_depth letter
      ∙ ap (λ rs. get_or (row_at rs r).targets k 0) shown

  -- the row has an entry for where its numbers begin, and the next one for where they end
  pub has_start : (n : ℕ) → n ≤ r + 1 → n < length t.starts.items
  has_start n next = omega (arith, has_depth, good.with_kinds.flat.starts)

  -- there the numbers of the rows before have ended
  pub start_at : (n : ℕ) → n ≤ r + 1 → get_or t.starts.items n 0 ≡ begin_of rows n
  start_at n next = grind (arith, start-counts (lists_of t) good.with_kinds.flat n, has_depth, begin_of)
