-- Where the numbers of pairs stand in an index.
use Rattle.std.specs.Prelude.{ℕ, ◌==◌, ◌&&◌, Bool, nat_lt, List, length, slice_index_or, Option, Some, None}
use Rattle.std.specs.Prelude.{IfSome, IfNone, if◌then◌else◌}
use Rattle.indexmap.specs.IndexMap.{get}
use Rattle.dfa_join.specs.Pairs.{Pair, IsNumberOf, IsNew}
use Rattle.dfa_join.specs.declared.index.Side.{Side}
use Rattle.dfa_join.specs.declared.index.Index.{Index}

-- stands in the list for a pair that has no number
abbrev pub no_number : ℕ
no_number = 4294967295

-- whether two pairs are equal
abbrev pub same_pair : Pair → Pair → Bool
same_pair p q = (p.0 == q.0) && (p.1 == q.1)

-- whether a side has a place for the pair of row with the row other of the other automaton
abbrev pub has_place : Side → ℕ → ℕ → Bool
has_place side row other = (other == side.dead) && nat_lt row (length side.numbers.items)

-- the number at the place of a row, or None if there is none
abbrev pub number_at : List ℕ → ℕ → Option ℕ
number_at numbers row =
    if slice_index_or numbers row no_number == no_number then None else Some (slice_index_or numbers row no_number)

-- the number that the index has for the pair p, or None if it has none
abbrev pub indexed_number : Index → Pair → Option ℕ
indexed_number index p =
    if has_place index.left p.0 p.1 then number_at index.left.numbers.items p.0
    else if has_place index.right p.1 p.0 then number_at index.right.numbers.items p.1
    else get same_pair index.others p

-- told is the number of the pair p in the list, or None if the list does not have p
abbrev pub IsLookup : List Pair → Pair → Option ℕ → Type 0
IsLookup pairs p told = IfSome told (IsNumberOf pairs p) × IfNone told (IsNew pairs p)
