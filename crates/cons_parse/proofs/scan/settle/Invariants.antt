-- The loop over the signs before an operand.
use Rattle.std.proofs.Common.{◌≡◌, reverse, vec_len}
use Rattle.cons_parse.specs.Scan.{settled}
use Rattle.cons_parse.proofs.scan.settle.Given as goal

-- what is left settles to the same as the whole
abbrev pub invariant-prefixes : goal.invariant-prefixes
invariant-prefixes l = settled (reverse l.openers.items) ≡ settled (reverse l.fn.openers.items)

-- what is open
abbrev pub decreases-prefixes : goal.decreases-prefixes
decreases-prefixes l = vec_len l.openers
