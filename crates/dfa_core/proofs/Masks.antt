-- What the masks of a pattern say of its cells and of its length.
use Rattle.std.proofs.Common.{◌≡◌, ℕ, ◌+◌, ◌-◌, ◌<◌, ◌≤◌, Bool, true, false, not, ◌&&◌, List, [], ◌∷◌, ◌++◌, length}
use Rattle.std.proofs.Common.{get_or, refl, sym, ap, ◌∙◌, arith, inl, inr}
use Rattle.std.proofs.lemmas.Bool.{cases_lt, not-true, not-false}
use Rattle.std.proofs.lemmas.List.{length_push, get_or_push, get_or_append_left}
use Rattle.pat_types.specs.declared.letter.Letter.TheVariants.{Friend as LetterFriend, Enemy as LetterEnemy}
use Rattle.pat_types.specs.declared.letter.Letter.TheVariants.{Empty as LetterEmpty, FriendOrEmpty, EnemyOrEmpty, Any}
use Rattle.pat_types.specs.declared.letter.Letter.TheVariants.{Star}
use Rattle.pat_types.specs.declared.cell.Drawn.{Drawn}
use Rattle.pat_types.specs.declared.cell.Drawn.TheVariants.{Nothing, OffBoard, Shows}
use Rattle.pat_types.specs.declared.pattern.Pattern.{Pattern}
use Rattle.dfa_core.specs.declared.automaton.Seen.{Seen}
use Rattle.dfa_core.specs.declared.automaton.Seen.TheVariants.{Friend, Enemy, Empty, Off}
use Rattle.dfa_core.specs.declared.mask.LetterMask.{LetterMask}
use Rattle.dfa_core.specs.Fits.{drawn_along, drawn_admits, admits, is_drawn, length_below, pattern_length}
use Rattle.dfa_core.specs.Masks.{has_letter, no_mask, AreMasks}
use Rattle.dfa_core.proofs.Lengths.{length_at_drawn, length_at_blank}

-- every letter is admitted if nothing is drawn, and nowhere else
all_admitted : (d : Drawn)
    → (drawn_admits d Friend && drawn_admits d Enemy && drawn_admits d Empty && drawn_admits d Off) ≡ not (is_drawn d)
all_admitted Nothing = refl
all_admitted OffBoard = refl
all_admitted (Shows LetterFriend) = refl
all_admitted (Shows LetterEnemy) = refl
all_admitted (Shows LetterEmpty) = refl
all_admitted (Shows FriendOrEmpty) = refl
all_admitted (Shows EnemyOrEmpty) = refl
all_admitted (Shows Any) = refl
all_admitted (Shows Star) = refl

-- the mask has every letter
abbrev pub has_each : LetterMask → Bool
has_each mask = has_letter mask Friend && has_letter mask Enemy && has_letter mask Empty && has_letter mask Off

-- a mask of the pattern has every letter where nothing is drawn, and nowhere else
has_each-blank : (p : Pattern) (i : ℕ) (mask : LetterMask) → ((x : Seen) → has_letter mask x ≡ admits p i x)
    → has_each mask ≡ not (is_drawn (drawn_along p i))
has_each-blank p i mask is = grind (arith, all_admitted (drawn_along p i))

module _ (p : Pattern) (masks : List LetterMask) (n : ℕ) (are : AreMasks p (length masks) masks) (some : 0 < n)
    (low : n ≤ length masks) (mask : LetterMask) (last : mask ≡ get_or masks (n - 1) no_mask) where
  -- the mask before the index has what the pattern admits there
  before : (x : Seen) → has_letter mask x ≡ admits p (n - 1) x
  before x = ap (λ m. has_letter m x) last ∙ are.each (n - 1) x (omega arith)

  -- if the last mask lacks a letter, the length is the number of masks
  pub length_at_lacking : has_each mask ≡ false → n ≡ length_below p n
  length_at_lacking lacks = length_at_drawn p n some
      (not-false (is_drawn (drawn_along p (n - 1))) (sym (has_each-blank p (n - 1) mask before) ∙ lacks))

  -- if the last mask lacks none, one mask fewer gives the same length
  pub length_at_whole : has_each mask ≡ true → length_below p (n - 1) ≡ length_below p n
  length_at_whole whole = length_at_blank p n some
      (not-true (is_drawn (drawn_along p (n - 1))) (sym (has_each-blank p (n - 1) mask before) ∙ whole))

-- one mask more is that of one index more
pub AreMasks-more : (p : Pattern) (i : ℕ) (masks more : List LetterMask) (mask : LetterMask) → AreMasks p i masks
    → more ≡ masks ++ mask ∷ [] → ((x : Seen) → has_letter mask x ≡ admits p i x) → AreMasks p (i + 1) more
AreMasks-more p i masks more mask before longer is = record {
  size = ap length longer ∙ length_push masks mask ∙ ap (λ n. n + 1) before.size;
  each = λ k x low. ap (λ ms. has_letter (get_or ms k no_mask) x) longer ∙ elim (cases_lt k i) [
    | inl old ↦ ap (λ m. has_letter m x) (get_or_append_left masks (mask ∷ []) no_mask k (omega (arith, before.size)))
        ∙ before.each k x old
    | inr last ↦ grind (arith, get_or_push masks mask no_mask)
  ];
}

-- a slice of all masks of some indices has the masks of as many indices as it is long
pub AreMasks-slice : (p : Pattern) (count : ℕ) (masks slice : List LetterMask) → AreMasks p count masks
    → slice ≡ masks → AreMasks p (length slice) slice
AreMasks-slice p count masks slice are same = grind arith

-- the length below an index past which nothing is drawn is the length of the pattern
pub length-by_masks : (p : Pattern) (count n : ℕ) (masks slice : List LetterMask) → AreMasks p count masks
    → slice ≡ masks → length_below p count ≡ pattern_length p
    → (AreMasks p (length slice) slice → n ≡ length_below p (length slice)) → n ≡ pattern_length p
length-by_masks p count n masks slice are same all found = grind (arith, AreMasks-slice)
