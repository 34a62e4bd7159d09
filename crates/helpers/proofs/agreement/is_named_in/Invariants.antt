use Rattle.std.proofs.Common.{◌≡◌, drop}
use Rattle.std.specs.List.{list_any}
use Rattle.std.specs.Str.{bytes_eq}
use Rattle.helpers.specs.Fields.{helper_names}
use Rattle.helpers.proofs.agreement.is_named_in.Given as goal

-- no field so far names it
abbrev pub invariant-loop-item : goal.invariant-loop-item
invariant-loop-item l =
    list_any (λ k. bytes_eq k l.name) (helper_names (drop l.item-index l.items))
    ≡ list_any (λ k. bytes_eq k l.name) (helper_names l.items)
