use Rattle.std.proofs.Common.{◌+◌, ◌*◌, ◌<◌, ◌^◌, get_or, sym, ap, ◌∙◌, subst, arith}
use Rattle.dfa_core.specs.declared.automaton.Seen.TheVariants.{Off}
use Rattle.dfa_core.specs.Words.{letter_number}
use Rattle.dfa_match.proofs.SeenWords.{word_from-zero}
use Rattle.dfa_match.proofs.OpeningNumbers.{number_more, number_low, number_room, letter_tag}
use Rattle.dfa_match.proofs.TurnedRings.{ring_by_steps}
use Rattle.dfa_match.proofs.rings.ring_number.Goals as goal

-- no letter was read
pub letters-init : goal.letters-init
letters-init c = grind (arith, word_from-zero)

-- the number of a ring has room
pub overflow_mul-number : goal.overflow_mul-number
overflow_mul-number c =
    omega (arith, number_room c.letters.place c.letters.number c.letters-test.true c.letters.invariant.low)

-- each step lies in the square
pub letter-requires-clause-step : goal.letter-requires-clause-step
letter-requires-clause-step c = c.requires.steps.1.past (1 + c.letters.place) (omega (arith, c.letters-test.true))

-- the number with one digit more has room
pub overflow_add-number : goal.overflow_add-number
overflow_add-number c =
    grind (arith, number_room c.letters.place c.letters.number c.letters-test.true c.letters.invariant.low)

-- one letter more was read
pub letters-preserved : goal.letters-preserved
letters-preserved c = record {
  value = ap (λ n. 4 * c.letters.number + n) (letter_tag c.letter.result ∙ ap letter_number c.letter.ensures)
      ∙ number_more (λ i. get_or c.args.padded.now.letters (c.args.corner + get_or c.args.steps.now i 0) Off) 1
      c.letters.place c.letters.number c.letters.invariant.value;
  low = subst (λ n. 4 * c.letters.number + n < 4 ^ (c.letters.place + 1)) (sym (letter_tag c.letter.result))
      (number_low c.letters.place c.letters.number c.letter.result c.letters.invariant.low);
}

-- behind the last letter it is the number of the ring
pub returns : goal.returns
returns c t are = grind (arith, ring_by_steps c.args.padded.now.letters c.args.steps.now t c.args.corner are)
