use Rattle.std.proofs.Common.{◌-◌, arith}
use Rattle.std.proofs.lemmas.Bool.{cases_lt, eq-eqb, eqb-true}
use Rattle.go_base.proofs.WordBits.{first_bits-only, first_bits-kept, is_marked-in_word}
use Rattle.go_base.proofs.bits.PointBits.all_below.Goals as goal

-- the bits below the end are those of points below the end
pub all_of_word-requires-2-clause-asked : goal.all_of_word-requires-2-clause-asked
all_of_word-requires-2-clause-asked g c = grind (arith, first_bits-only)

-- the last bits are those of the points that are left
pub returns-clause-yes : goal.returns-clause-yes
returns-clause-yes g c = grind (arith, cases_lt, eqb-true, is_marked-in_word, first_bits-kept)

-- the point where the test said no is below the end
pub returns-clause-no : goal.returns-clause-no
returns-clause-no g c = grind (arith, first_bits-only, eq-eqb, is_marked-in_word)
