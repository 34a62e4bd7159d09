use Rattle.std.proofs.Common.{◌≡◌, take, map}
use Rattle.db_rules.specs.Colon.{item_of as item_from}
use Rattle.db_entry.proofs.colon.items_of.Given as goal

-- the items gathered are those of the fields read so far
abbrev pub invariant-loop-field : goal.invariant-loop-field
invariant-loop-field l = l.list ≡ map item_from (map (λ f. f.now) (take l.field-index l.fields))
