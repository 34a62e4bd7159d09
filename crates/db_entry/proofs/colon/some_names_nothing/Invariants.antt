use Rattle.std.proofs.Common.{◌≡◌, drop, map}
use Rattle.std.specs.List.{list_any}
use Rattle.db_rules.specs.Colon.{names_nothing as nothing_named}
use Rattle.db_entry.proofs.colon.some_names_nothing.Given as goal

-- no field so far is the name of an unknown helper: the rest decides
abbrev pub invariant-loop-field : goal.invariant-loop-field
invariant-loop-field l =
    list_any (nothing_named l.helpers) (map (λ f. f.now) (drop l.field-index l.fields)) ≡ list_any
    (nothing_named l.helpers) (map (λ f. f.now) l.fields)
