-- Further sets of points that a reading of the wider tree tries, each as a test that computes: some in every ply, and
-- some only if a wide ply is left. The laws of laws.rt say what each set means in words.
use Rattle.std.specs.Prelude.{ℕ, ◌*◌, ◌==◌, ◌&&◌, ◌||◌, Bool, not, nat_lt, nat_le, List, if◌then◌else◌}
use Rattle.go_rules.specs.declared.Cell.{Cell}
use Rattle.go_rules.specs.declared.Cell.TheVariants.{Empty}
use Rattle.go_rules.specs.Board.{are_neighbours}
use Rattle.go_rules.specs.Below.{any_below}
use Rattle.go_rules.specs.Strings.{cell_at, same_cell, is_in_string, is_liberty, liberties}
use Rattle.go_rules.specs.BesideStrings.{is_enemy, is_beside_string}
use Rattle.go_base.specs.Surroundings.{is_only_liberty}
use Rattle.wider_rules.specs.Strings.{holds_next}
use Rattle.wider_rules.specs.Cramped.{foe_of, is_cramped}

-- the attacker strengthens an enemy string next to the target's if it has at most this many liberties
abbrev pub few_of_attacker : ℕ
few_of_attacker = 2

-- the defender presses an enemy string next to the target's if it has at most this many liberties
abbrev pub few_of_defender : ℕ
few_of_defender = 4

-- the defender joins a linked string if it has at most this many liberties
abbrev pub few_of_linked : ℕ
few_of_linked = 4

-- the attacker keeps a linked string from the target if it has at most this many liberties
abbrev pub few_of_parted : ℕ
few_of_parted = 2

-- the defender tries a net around an enemy string next to the target's if it has at least this many liberties
abbrev pub least_of_covered : ℕ
least_of_covered = 2

-- the defender tries a net around an enemy string next to the target's if it has at most this many liberties
abbrev pub few_of_covered : ℕ
few_of_covered = 3

-- the attacker tries a net around a target that has exactly this many liberties
abbrev pub netted : ℕ
netted = 3

-- the target has exactly three liberties, and p is an empty neighbour of one of them
unfoldable pub is_net : ℕ → List Cell → ℕ → ℕ → Bool
is_net s cells target p =
    (liberties s cells target == netted) && (nat_lt p (s * s) && same_cell (cell_at cells p) Empty)
    && any_below (s * s) (λ l. is_liberty s cells target l && are_neighbours s l p)

-- q is an enemy stone next to the target's string, and the string of q has at most `most` liberties
unfoldable pub is_weak_enemy : ℕ → ℕ → List Cell → ℕ → ℕ → Bool
is_weak_enemy most s cells target q =
    (is_enemy (cell_at cells target) (cell_at cells q) && is_beside_string s cells target q)
    && nat_le (liberties s cells q) most

-- p is a liberty of an enemy string next to the target's that has at most `most` liberties
unfoldable pub is_beside : ℕ → ℕ → List Cell → ℕ → ℕ → Bool
is_beside most s cells target p =
    any_below (s * s) (λ q. is_weak_enemy most s cells target q && is_liberty s cells q p)

-- r is an enemy stone next to the string of q, for an enemy stone q next to the target's string whose string has at
-- most `most` liberties; and r is no stone of the target's string
unfoldable pub is_ally : ℕ → ℕ → List Cell → ℕ → ℕ → Bool
is_ally most s cells target r =
    any_below (s * s) (λ q. is_weak_enemy most s cells target q
    && (is_enemy (cell_at cells q) (cell_at cells r) && is_beside_string s cells q r))
    && not (is_in_string s cells target r)

-- p is the last liberty of a string of the target's colour, other than the target's, that is next to a weak enemy
-- string: one with at most two liberties next to the target's
unfoldable pub is_rescue : ℕ → List Cell → ℕ → ℕ → Bool
is_rescue s cells target p =
    any_below (s * s) (λ r. is_ally few_of_attacker s cells target r && is_only_liberty s cells r p)

-- q is a stone of the target's colour next to a liberty of the target; its string is another than the target's and has
-- at most `most` liberties
unfoldable pub is_linked : ℕ → ℕ → List Cell → ℕ → ℕ → Bool
is_linked most s cells target q =
    ((same_cell (cell_at cells q) (cell_at cells target)
    && any_below (s * s) (λ l. is_liberty s cells target l && are_neighbours s l q))
    && not (is_in_string s cells target q))
    && nat_le (liberties s cells q) most

-- p is a liberty of a linked string that has at most `most` liberties: this is Join for the defender, and Link for the
-- attacker
unfoldable pub is_join : ℕ → ℕ → List Cell → ℕ → ℕ → Bool
is_join most s cells target p =
    any_below (s * s) (λ q. is_linked most s cells target q && is_liberty s cells q p)

-- r is an enemy stone next to a linked string with at most `most` liberties
unfoldable pub is_cutter : ℕ → ℕ → List Cell → ℕ → ℕ → Bool
is_cutter most s cells target r =
    any_below (s * s) (λ q. is_linked most s cells target q
    && (is_enemy (cell_at cells q) (cell_at cells r) && is_beside_string s cells q r))

-- p is the last liberty of an enemy string in atari next to a linked string with at most four liberties
unfoldable pub is_cut : ℕ → List Cell → ℕ → ℕ → Bool
is_cut s cells target p = any_below (s * s) (λ r. is_cutter few_of_linked s cells target r && is_only_liberty s cells r p)

-- q is an enemy stone next to the target's string, and the string of q has two or three liberties
unfoldable pub is_covered : ℕ → List Cell → ℕ → ℕ → Bool
is_covered s cells target q =
    (is_enemy (cell_at cells target) (cell_at cells q) && is_beside_string s cells target q)
    && (nat_le least_of_covered (liberties s cells q) && nat_le (liberties s cells q) few_of_covered)

-- l is a liberty of an enemy string that is next to the target's and has two or three liberties
unfoldable pub is_covered_liberty : ℕ → List Cell → ℕ → ℕ → Bool
is_covered_liberty s cells target l =
    any_below (s * s) (λ q. is_covered s cells target q && is_liberty s cells q l)

-- p is an empty neighbour of a liberty of an enemy string that is next to the target's and has two or three liberties
unfoldable pub is_cover : ℕ → List Cell → ℕ → ℕ → Bool
is_cover s cells target p =
    (nat_lt p (s * s) && same_cell (cell_at cells p) Empty)
    && any_below (s * s) (λ l. is_covered_liberty s cells target l && are_neighbours s l p)

-- r is a stone of the other colour than the target's next to a point l at which a stone of the target's colour would be
-- cramped, and l is a liberty of an enemy string next to the target's that has at most two liberties
unfoldable pub is_in_the_way : ℕ → List Cell → ℕ → ℕ → Bool
is_in_the_way s cells target r =
    any_below (s * s) (λ l. is_beside few_of_attacker s cells target l
    && (is_cramped s cells (cell_at cells target) l && holds_next s cells (foe_of (cell_at cells target)) l r))

-- p is a liberty of the string of a stone that is in the way, and this string has at most two liberties
unfoldable pub is_approach : ℕ → List Cell → ℕ → ℕ → Bool
is_approach s cells target p =
    any_below (s * s) (λ r. (is_in_the_way s cells target r && nat_le (liberties s cells r) few_of_attacker)
    && is_liberty s cells r p)

-- p is a further candidate of every ply: a point of Beside or Rescue at the attacker's turn; at the defender's turn a
-- point of Save, which has the points of Rescue, or of Cut
unfoldable pub is_further_always : Bool → ℕ → List Cell → ℕ → ℕ → Bool
is_further_always attacker_to_play s cells target p =
    if attacker_to_play
    then (is_beside few_of_attacker s cells target p || is_rescue s cells target p)
    else (is_rescue s cells target p || is_cut s cells target p)

-- p is a further candidate of a wide ply only: a point of Net or Link at the attacker's turn, a point of Beside, Join,
-- Cover or Approach at the defender's turn
unfoldable pub is_further_wide : Bool → ℕ → List Cell → ℕ → ℕ → Bool
is_further_wide attacker_to_play s cells target p =
    if attacker_to_play
    then (is_net s cells target p || is_join few_of_parted s cells target p)
    else (is_beside few_of_defender s cells target p || is_join few_of_linked s cells target p
    || is_cover s cells target p || is_approach s cells target p)

-- p is a further candidate: one of every ply, or one of a wide ply if a wide ply is left
unfoldable pub is_further : Bool → Bool → ℕ → List Cell → ℕ → ℕ → Bool
is_further wide attacker_to_play s cells target p =
    is_further_always attacker_to_play s cells target p
    || (wide && is_further_wide attacker_to_play s cells target p)
