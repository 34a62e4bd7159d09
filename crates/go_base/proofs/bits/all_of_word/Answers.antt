use Rattle.std.proofs.Common.{true, arith}
use Rattle.std.proofs.lemmas.Bool.{cases_eq}
use Rattle.std.proofs.lemmas.Nat.Bits.{bit_at-lt, bit_at-trailing_zeros}
use Rattle.std.specs.Int.{w64}
use Rattle.go_base.proofs.WordBits.{without_lowest-lt, without_lowest-only, without_lowest-one}
use Rattle.go_base.proofs.bits.all_of_word.Goals as goal

-- at the point of the lowest bit the test said no
pub returns-then-not-test-clause-no : goal.returns-then-not-test-clause-no
returns-then-not-test-clause-no g c = grind (arith, bit_at-trailing_zeros w64)

-- the lowest bit is one of the word's
pub test-requires : goal.test-requires
test-requires g c = grind (arith, bit_at-trailing_zeros w64)

-- the lowest bit is cleared
pub loop-rest-smaller : goal.loop-rest-smaller
loop-rest-smaller g c = without_lowest-lt c.loop-rest.rest (omega (arith, c.loop-rest-test.true))

-- at its point the test said yes
pub loop-rest-preserved : goal.loop-rest-preserved
loop-rest-preserved g c =
    grind (arith, bit_at-trailing_zeros w64, without_lowest-only, cases_eq, without_lowest-one, bit_at-lt)
