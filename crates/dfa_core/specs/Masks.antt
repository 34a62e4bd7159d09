-- The letters that a pattern admits at an index of the spiral, as masks of four bits.
use Rattle.std.specs.Prelude.{◌≡◌, ℕ, ◌<◌, Bool, ◌&&◌, ◌==◌, List, length, slice_index_or, nat_lt}
use Rattle.std.specs.Int.{bit_at}
use Rattle.pat_types.specs.declared.pattern.Pattern.{Pattern}
use Rattle.dfa_core.specs.declared.automaton.Seen.{Seen}
use Rattle.dfa_core.specs.declared.mask.LetterMask.{LetterMask}
use Rattle.dfa_core.specs.Words.{letter_number}
use Rattle.dfa_core.specs.Fits.{admits}

-- whether the mask has the letter: the bit with the letter's number is 1
abbrev pub has_letter : LetterMask → Seen → Bool
has_letter mask x = bit_at mask.bits (letter_number x) == 1

-- the mask without letters, which is read past the end of a list of masks
abbrev pub no_mask : LetterMask
no_mask = record { bits = 0 }

-- masks has one mask for each of the first count indices, with the letters that the pattern admits there
pub record AreMasks (p : Pattern) (count : ℕ) (masks : List LetterMask) : Type 0 where
  pub size : length masks ≡ count
  pub each : (i : ℕ) (x : Seen) → i < count → has_letter (slice_index_or masks i no_mask) x ≡ admits p i x

-- the mask has the letters that lead on from row i of the chain of a pattern of length n
abbrev pub LeadsOn : Pattern → ℕ → ℕ → LetterMask → Type 0
LeadsOn p n i mask = (x : Seen) → has_letter mask x ≡ nat_lt i n && admits p i x
