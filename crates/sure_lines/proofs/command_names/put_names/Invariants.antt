use Rattle.std.proofs.Common.{◌≡◌, ◌∷◌, ◌++◌, take}
use Rattle.std.specs.List.{flat_map}
use Rattle.gtp_cmd.specs.Words.{line_feed}
use Rattle.sure_lines.proofs.command_names.put_names.Given as goal

-- the names so far were put
abbrev pub invariant-loop-name : goal.invariant-loop-name
invariant-loop-name l = l.out ≡ l.fn.out ++ flat_map (λ name. line_feed ∷ name.now) (take l.name-index l.names)
