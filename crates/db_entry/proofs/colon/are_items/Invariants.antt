use Rattle.std.proofs.Common.{◌≡◌, drop, map}
use Rattle.std.specs.List.{list_all}
use Rattle.db_rules.specs.Colon.{is_item as item}
use Rattle.db_entry.proofs.colon.are_items.Given as goal

-- the fields so far are items: the rest decides
abbrev pub invariant-loop-field : goal.invariant-loop-field
invariant-loop-field l =
    list_all item (map (λ f. f.now) (drop l.field-index l.fields)) ≡ list_all item (map (λ f. f.now) l.fields)
