use Rattle.std.proofs.Common.{◌≡◌, ◌∙◌, ap, arith}
use Rattle.std.proofs.Math.ListN.{replicate}
use Rattle.go_rules.specs.Board.{largest_points}
use Rattle.go_strings.specs.Named.{no_string}
use Rattle.go_strings.proofs.base.room.Goals as goal

-- at the end a string was made for each place
pub returns-clause-none : goal.returns-clause-none
returns-clause-none c =
    let all : c.loop-place.place ≡ largest_points =
    omega (arith, c.loop-place.auto.place-end, c.loop-place-test.false) in
    c.loop-place.invariant ∙ ap (λ n. replicate n no_string) all
