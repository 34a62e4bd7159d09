use Rattle.std.proofs.Common.{ℕ, ◌≤◌, ◌<◌, arith}
use Rattle.go_base.proofs.Lowest.{none_before, is_marked-found}
use Rattle.go_base.proofs.UsedWords.{first_in_next}
use Rattle.go_base.proofs.bits.first_in_words.Goals as goal

-- the lowest bit of the first word is that of the first point that is marked
pub returns-then-bit-lt-WORD_BITS-clause-some : goal.returns-then-bit-lt-WORD_BITS-clause-some
returns-then-bit-lt-WORD_BITS-clause-some c =
    let words = c.args.words.now in
    let first = c.args.first in
    let low = c.lowest_bit-bit in
    let small = c.if-bit-lt-WORD_BITS.true in
    let start : first ≤ first = omega arith in
    let none = λ (r : ℕ) (l : first ≤ r) (m : r < first). absurd (omega (arith, l, m)) in
    let marked = is_marked-found words first first low.result start none low.ensures.misses low.ensures.bound small
    (low.ensures.hit small) in (
      omega (arith, low.ensures.low),
      c.requires.on_board _ marked,
      marked,
      none_before words first first low.result start none low.ensures.misses low.ensures.bound,
    )

-- no word up to the next one in use marks a point, and its lowest bit is that of the first point that is marked
pub returns-clause-some : goal.returns-clause-some
returns-clause-some c = grind (arith, first_in_next)
