-- The loop over the moves.
use Rattle.std.proofs.Common.{◌≡◌, map, drop}
use Rattle.cons_eval.specs.Functions.{after_moves as moves_then}
use Rattle.cons_eval.proofs.calls.after_moves.Given as goal

-- the moves from here on lead to the same position, and the size stays
abbrev pub invariant-loop-arg : goal.invariant-loop-arg
invariant-loop-arg g l = record {
  rest : moves_then l.next l.colour (map (g.E.Env.view l.env).meanings.point (drop l.arg-index l.moves))
      ≡ moves_then l.fn.position l.fn.first (map (g.E.Env.view l.env).meanings.point l.moves);
  same_size : l.next.size ≡ l.fn.position.size;
}
