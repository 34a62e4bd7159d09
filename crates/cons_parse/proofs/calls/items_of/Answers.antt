-- The walk over tokens by items.
use Rattle.std.proofs.Common.{◌-◌, slice_index_or, arith}
use Rattle.std.proofs.lemmas.List.{take_rest, length-drop}
use Rattle.cons_parse.proofs.CallLemmas.{fails_along, next_item, no_item, last_item}
use Rattle.cons_parse.proofs.calls.items_of.Goals as goal

-- an item is read
pub loop-at-preserved : goal.loop-at-preserved
loop-at-preserved c = grind (arith, take_rest, length-drop, next_item, slice_index_or)

-- no item begins here, or memory ran out
pub returns-in-Err : goal.returns-in-Err
returns-in-Err c = grind (arith, fails_along, slice_index_or, no_item, take_rest)

-- the tokens are read to their end
pub returns : goal.returns
returns c = grind (arith, last_item)
