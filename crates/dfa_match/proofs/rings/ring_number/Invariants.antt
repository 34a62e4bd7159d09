use Rattle.std.proofs.Common.{◌≡◌, ◌+◌, ◌<◌, ◌^◌, get_or}
use Rattle.dfa_core.specs.declared.automaton.Seen.TheVariants.{Off}
use Rattle.dfa_shortcuts.specs.Openings.{word_number}
use Rattle.dfa_match.specs.SeenLetters.{word_from}
use Rattle.dfa_match.proofs.rings.ring_number.Given as goal

-- the number is that of the ring's letters before
abbrev pub invariant-letters : goal.invariant-letters
invariant-letters l = record {
  value : l.number
      ≡ word_number (word_from (λ i. get_or l.padded.letters (l.corner + get_or l.steps i 0) Off) 1 l.place);
  low : l.number < 4 ^ l.place;
}
