-- The rings around anchors, which are turned from one transformation to the next.
use Rattle.std.proofs.Common.{◌≡◌, ℕ, zero, suc, ◌+◌, ◌*◌, ◌<◌, List, [], ◌∷◌, get_or, refl, arith}
use Rattle.go_rules.specs.Transform.{Offset, transformed, transformations}
use Rattle.spiral.specs.Spiral.{offset_at}
use Rattle.dfa_core.specs.declared.automaton.Seen.{Seen}
use Rattle.dfa_core.specs.declared.automaton.Seen.TheVariants.{Off}
use Rattle.dfa_core.specs.Words.{Word, letter_number}
use Rattle.dfa_core.proofs.Entries.{letter_below}
use Rattle.dfa_shortcuts.specs.Openings.{opening_letters, word_number}
use Rattle.dfa_match.specs.declared.rings.Ring.{Ring}
use Rattle.dfa_match.specs.declared.walks.Walk.{Walk}
use Rattle.dfa_match.specs.Rings.{ring_letters, letters_around, ring_of, ring_under}
use Rattle.dfa_match.specs.SeenLetters.{word_from}
use Rattle.dfa_match.specs.Steps.{step_by, no_step, AreSteps}
use Rattle.dfa_match.specs.Walks.{word_behind}
use Rattle.dfa_match.proofs.SeenWords.{word_from-suc, word_from-same}
use Rattle.dfa_match.proofs.StepLists.{offset_at-zero, still}

-- the letters that are seen at eight places
abbrev eight : (ℕ → Seen) → Word
eight seen = seen 1 ∷ seen 2 ∷ seen 3 ∷ seen 4 ∷ seen 5 ∷ seen 6 ∷ seen 7 ∷ seen 8 ∷ []

-- the eight letters, from the third one on, and then the first two
abbrev two_on : (ℕ → Seen) → Word
two_on seen = seen 3 ∷ seen 4 ∷ seen 5 ∷ seen 6 ∷ seen 7 ∷ seen 8 ∷ seen 1 ∷ seen 2 ∷ []

-- the letters of a ring are those that are seen at its eight places
word-eight : (seen : ℕ → Seen) → word_from seen 1 ring_letters ≡ eight seen
unfolding word_from
word-eight seen = refl

module _ (letters : List Seen) (corner : ℕ) where
  -- what is seen at an offset from the anchor
  abbrev seen_by : Offset → Seen
  seen_by d = get_or letters (corner + step_by d) Off

  -- the places of a ring under t
  abbrev places : ℕ → ℕ → Seen
  places t i = seen_by (transformed t (offset_at i))

-- the number of a ring under t is that of the letters that are read around the anchor: transformations 1, 2 and 3 turn
-- it once more each, and 7, 6 and 5 so the mirrored ring of transformation 4
ring_read : (letters : List Seen) (w : Walk) (t : ℕ) → t < transformations
    → ring_under t (ring_of letters w) ≡ word_number (letters_around letters t w.corner)
unfolding offset_at
ring_read letters w zero low = refl
ring_read letters w (suc zero) low = grind (arith, word-eight, letter_below)
ring_read letters w (suc (suc zero)) low = grind (arith, word-eight, letter_below)
ring_read letters w (suc (suc (suc zero))) low = grind (arith, word-eight, letter_below)
ring_read letters w (suc (suc (suc (suc zero)))) low = refl
ring_read letters w (suc (suc (suc (suc (suc zero))))) low = grind (arith, word-eight, letter_below)
ring_read letters w (suc (suc (suc (suc (suc (suc zero)))))) low = grind (arith, word-eight, letter_below)
ring_read letters w (suc (suc (suc (suc (suc (suc (suc zero))))))) low = grind (arith, word-eight, letter_below)
ring_read letters w (suc (suc (suc (suc (suc (suc (suc (suc t)))))))) low = absurd (omega (arith, low))

module _ (letters : List Seen) (steps : List ℕ) (t corner : ℕ) (are : AreSteps t steps) where
  -- what is read behind a corner by a step
  abbrev read_by : ℕ → Seen
  read_by i = get_or letters (corner + get_or steps i 0) Off

  -- by the steps the letters around the anchor are read
  pub ring_by_steps : word_from read_by 1 ring_letters ≡ letters_around letters t corner
  ring_by_steps = grind (arith, word_from-same)

-- an opening under t is found by the turned ring
pub opening_turned : (letters : List Seen) (steps : List ℕ) (t : ℕ) (w : Walk) (anchor : Seen) (ring : Ring)
    → t < transformations → AreSteps t steps → anchor ≡ get_or letters (w.corner + no_step) Off
    → ring ≡ ring_of letters w
    → 65536 * letter_number anchor + ring_under t ring
    ≡ word_number (word_behind letters steps w.corner opening_letters)
opening_turned letters steps t w anchor ring low are seen is =
    grind (arith, ring_read letters w t low, word_from-suc, word-eight, ring_by_steps, offset_at-zero, still)
