use Rattle.std.proofs.Common.{◌≡◌, drop, map}
use Rattle.std.specs.String.{string_bytes}
use Rattle.gtp_io.specs.Loading.{named}
use Rattle.gtp_io.proofs.shelf.find.Given as goal

-- the name is none of those so far
abbrev pub invariant-loop-i : goal.invariant-loop-i
invariant-loop-i l =
    named (map string_bytes (drop l.i l.names)) (map (λ v. v.items) (drop l.i l.contents)) l.name
    ≡ named (map string_bytes l.names) (map (λ v. v.items) l.contents) l.name
