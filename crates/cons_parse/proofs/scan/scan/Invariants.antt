-- The loop over items.
use Rattle.std.proofs.Common.{◌≡◌, drop}
use Rattle.cons_parse.specs.Scan.{scanned_from, scanned, spot_of}
use Rattle.cons_parse.proofs.scan.scan.Given as goal

-- the items from here on give what the whole gives
abbrev pub invariant-loop-item : goal.invariant-loop-item
invariant-loop-item l = scanned_from (spot_of l.place) (drop l.item-index l.items) ≡ scanned l.items
