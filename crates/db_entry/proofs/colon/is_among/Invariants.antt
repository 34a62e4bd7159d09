use Rattle.std.proofs.Common.{◌≡◌, drop}
use Rattle.std.specs.List.{list_any}
use Rattle.std.specs.Str.{bytes_eq}
use Rattle.db_entry.proofs.colon.is_among.Given as goal

-- no helper so far has the name of the field: the rest decides
abbrev pub invariant-loop-helper : goal.invariant-loop-helper
invariant-loop-helper l =
    list_any (bytes_eq l.field) (drop l.helper-index l.helpers) ≡ list_any (bytes_eq l.field) l.helpers
