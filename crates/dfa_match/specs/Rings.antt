-- The rings around anchors, as they are read under each transformation.
use Rattle.std.specs.Prelude.{ℕ, ◌+◌, ◌*◌, ◌/◌, ◌%◌, ◌==◌, List, slice_index_or, if◌then◌else◌}
use Rattle.go_rules.specs.Transform.{transformed}
use Rattle.spiral.specs.Spiral.{offset_at}
use Rattle.dfa_core.specs.declared.automaton.Seen.{Seen}
use Rattle.dfa_core.specs.declared.automaton.Seen.TheVariants.{Off}
use Rattle.dfa_core.specs.Words.{Word}
use Rattle.dfa_shortcuts.specs.Openings.{word_number}
use Rattle.dfa_match.specs.declared.rings.Ring.{Ring}
use Rattle.dfa_match.specs.declared.walks.Walk.{Walk}
use Rattle.dfa_match.specs.SeenLetters.{word_from}
use Rattle.dfa_match.specs.Steps.{step_by}

-- how many letters stand around an anchor, in the first ring of the spiral
abbrev pub ring_letters : ℕ
ring_letters = 8

-- the letters of the ring around the anchor whose square begins at corner, as they are read under t
abbrev pub letters_around : List Seen → ℕ → ℕ → Word
letters_around letters t corner =
    word_from (λ i. slice_index_or letters (corner + step_by (transformed t (offset_at i))) Off) 1 ring_letters

-- the ring around the anchor of a walk: the numbers of its letters as they are, and mirrored
abbrev pub ring_of : List Seen → Walk → Ring
ring_of letters w = record {
  plain = word_number (letters_around letters 0 w.corner);
  mirrored = word_number (letters_around letters 4 w.corner);
}

-- the number of eight letters after the first two of them are put last
abbrev pub turned_number : ℕ → ℕ
turned_number n = n % 4096 * 16 + n / 4096

-- the number of the letters of a ring as they are read under t
abbrev pub ring_under : ℕ → Ring → ℕ
ring_under t ring =
    if t == 0 then ring.plain
    else if t == 1 then turned_number ring.plain
    else if t == 2 then turned_number (turned_number ring.plain)
    else if t == 3 then turned_number (turned_number (turned_number ring.plain))
    else if t == 4 then ring.mirrored
    else if t == 5 then turned_number (turned_number (turned_number ring.mirrored))
    else if t == 6 then turned_number (turned_number ring.mirrored)
    else turned_number ring.mirrored
