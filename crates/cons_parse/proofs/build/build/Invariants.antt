-- The loop over items.
use Rattle.std.proofs.Common.{◌≡◌, []}
use Rattle.cons_parse.specs.Building.{trees, run, waiting, state_of}
use Rattle.cons_parse.proofs.build.build.Given as goal

-- the place behind the items so far is that of the run
abbrev pub invariant-loop-item : goal.invariant-loop-item
invariant-loop-item l = run trees (waiting []) l.yielded ≡ state_of l.frames.items l.now
