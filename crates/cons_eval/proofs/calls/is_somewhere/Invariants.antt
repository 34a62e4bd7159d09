-- The loop over the arguments.
use Rattle.std.proofs.Common.{◌≡◌, map, drop}
use Rattle.std.specs.List.{list_any}
use Rattle.cons_eval.specs.Functions.{holds_stone as holds}
use Rattle.cons_eval.proofs.calls.is_somewhere.Given as goal

-- the arguments from here on answer for all
abbrev pub invariant-loop-arg : goal.invariant-loop-arg
invariant-loop-arg g l =
    list_any (holds l.position l.colour) (map (g.E.Env.view l.env).meanings.point (drop l.arg-index l.args))
    ≡ list_any (holds l.position l.colour) (map (g.E.Env.view l.env).meanings.point l.args)
