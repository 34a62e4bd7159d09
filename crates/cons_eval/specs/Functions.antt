-- The functions of constraint expressions. Each looks at the position before the pattern's move, with its ko ban; a and
-- b are points of the board. The friend is the colour that plays the pattern's move, the enemy is the other colour. A
-- test is worth 1 if it holds, else 0.
use Rattle.std.specs.Prelude.{ℕ, ◌==◌, ◌&&◌, ◌||◌, nat_lt, Bool, true, false, List, [], ◌∷◌, Option, Some, None}
use Rattle.std.specs.Prelude.{is_some, Result, Ok, Err, ℤ, pos as whole, ◌-ℤ◌}
use Rattle.std.specs.List.{list_any}
use Rattle.go_rules.specs.declared.Cell.{Cell}
use Rattle.go_rules.specs.declared.Cell.TheVariants.{Empty, Black, White}
use Rattle.go_rules.specs.declared.Colour.{Colour}
use Rattle.go_rules.specs.declared.Colour.TheVariants.{Black as black, White as white}
use Rattle.go_rules.specs.declared.Illegal.{Illegal}
use Rattle.go_rules.specs.Position.{BoardState, other, stone_of}
use Rattle.go_rules.specs.Strings.{cell_at, same_cell, is_in_string, liberties}
use Rattle.go_rules.specs.Play.{play, play_free, pass, is_legal}
use Rattle.read_rules.specs.declared.question.Kind.{Kind}
use Rattle.read_rules.specs.declared.question.Kind.TheVariants.{Attack, Defend}
use Rattle.cons_eval.specs.Readings.{Codes, code_at}

-- what f says of the position after a play, or d if the play is illegal
abbrev pub after_play : {A : Type 0} → A → (BoardState → A) → Result BoardState Illegal → A
after_play d f (Ok next) = f next
after_play d f (Err e) = d

-- how many liberties the string at a has, 0 if a is empty
abbrev pub lib : BoardState → ℕ → ℕ
lib pos a = liberties pos.size pos.cells a

-- how many liberties the stone that c plays at a has with its string; 0 if the play is illegal
unfoldable pub liberties_after : BoardState → Colour → ℕ → ℕ
liberties_after pos c a = after_play 0 (λ next. liberties next.size next.cells a) (play pos c a)

-- how many liberties the stone that the enemy plays at a has with its string; 0 if the play is illegal
abbrev pub xlib : BoardState → Colour → ℕ → ℕ
xlib pos friend a = liberties_after pos (other friend) a

-- how many liberties the stone that the friend plays at a has with its string; 0 if the play is illegal
abbrev pub olib : BoardState → Colour → ℕ → ℕ
olib pos friend a = liberties_after pos friend a

-- the code of an attack on the string at a, 0 if a is empty
abbrev pub attack : Codes → BoardState → ℕ → ℕ
attack code pos a = code_at code Attack pos a

-- the code of a defence of the string at a, 0 if a is empty
abbrev pub defend : Codes → BoardState → ℕ → ℕ
defend code pos a = code_at code Defend pos a

-- c may play at a with the ko ban dropped, and the play leaves a ko ban
unfoldable pub leaves_ban : BoardState → Colour → ℕ → Bool
leaves_ban pos c a = after_play false (λ next. is_some next.ban) (play_free pos c a)

-- a is empty, and one of the colours may play there with the ko ban dropped and leaves a ko ban
abbrev pub ko : BoardState → ℕ → Bool
ko pos a = same_cell (cell_at pos.cells a) Empty && (leaves_ban pos black a || leaves_ban pos white a)

-- c may play at a, and the string of that stone cannot be captured afterwards: the code of an attack on it is 0
unfoldable pub is_safe_move : Codes → BoardState → Colour → ℕ → Bool
is_safe_move code pos c a = after_play false (λ next. code_at code Attack next a == 0) (play pos c a)

-- the enemy may play at a and cannot be captured there
abbrev pub safe_xmove : Codes → BoardState → Colour → ℕ → Bool
safe_xmove code pos friend a = is_safe_move code pos (other friend) a

-- the friend may play at a and cannot be captured there
abbrev pub safe_omove : Codes → BoardState → Colour → ℕ → Bool
safe_omove code pos friend a = is_safe_move code pos friend a

-- the enemy may play at a
abbrev pub legal_xmove : BoardState → Colour → ℕ → Bool
legal_xmove pos friend a = is_legal pos (other friend) a

-- the friend may play at a
abbrev pub legal_omove : BoardState → Colour → ℕ → Bool
legal_omove pos friend a = is_legal pos friend a

-- there is a point, and it holds a stone of c
abbrev pub holds_stone : BoardState → Colour → Option ℕ → Bool
holds_stone pos c None = false
holds_stone pos c (Some a) = same_cell (cell_at pos.cells a) (stone_of c)

-- one of the points holds a stone of the friend
abbrev pub o_somewhere : BoardState → Colour → List (Option ℕ) → Bool
o_somewhere pos friend points = list_any (holds_stone pos friend) points

-- one of the points holds a stone of the enemy
abbrev pub x_somewhere : BoardState → Colour → List (Option ℕ) → Bool
x_somewhere pos friend points = list_any (holds_stone pos (other friend)) points

-- a and b hold stones of one string
abbrev pub same_worm : BoardState → ℕ → ℕ → Bool
same_worm pos a b = is_in_string pos.size pos.cells a b

-- the colour of the stone that the cell holds, if it holds one
abbrev pub colour_of : Cell → Option Colour
colour_of Empty = None
colour_of Black = Some black
colour_of White = Some white

-- what f says of the colour of a stone, or d if there is no stone
abbrev pub of_stone : {A : Type 0} → A → (Colour → A) → Option Colour → A
of_stone d f None = d
of_stone d f (Some c) = f c

-- how far the code at b stays below 3 after c plays at a; 0 if the play is illegal
unfoldable pub lack_after : Codes → Kind → BoardState → Colour → ℕ → ℕ → ℤ
lack_after code kind pos c a b =
    after_play (whole 0) (λ next. whole 3 -ℤ whole (code_at code kind next b)) (play pos c a)

-- how much a play at a attacks the string at b: 3 minus the code of its defence after the other colour plays at a, 3
-- if that play captures it, and 0 if b is empty or the play is illegal
abbrev pub does_attack : Codes → BoardState → ℕ → ℕ → ℤ
does_attack code pos a b =
    of_stone (whole 0) (λ c. lack_after code Defend pos (other c) a b) (colour_of (cell_at pos.cells b))

-- how much a play at a defends the string at b: 3 minus the code of an attack on it after its colour plays at a, and
-- 0 if b is empty or the play is illegal
abbrev pub does_defend : Codes → BoardState → ℕ → ℕ → ℤ
does_defend code pos a b = of_stone (whole 0) (λ c. lack_after code Attack pos c a b) (colour_of (cell_at pos.cells b))

-- c may not play at b, or can be captured there: the code of an attack on the stone played at b is above 0
unfoldable pub is_refuted : Codes → BoardState → Colour → ℕ → Bool
is_refuted code pos c b = after_play true (λ next. nat_lt 0 (code_at code Attack next b)) (play pos c b)

-- c may play at a, and then the other colour may not play at b, or can be captured there
unfoldable pub is_defended_against : Codes → BoardState → Colour → ℕ → ℕ → Bool
is_defended_against code pos c a b = after_play false (λ next. is_refuted code next (other c) b) (play pos c a)

-- the friend's play at a defends against the enemy's play at b: b is then illegal for the enemy, or his stone there
-- can be captured
abbrev pub odefend_against : Codes → BoardState → Colour → ℕ → ℕ → Bool
odefend_against code pos friend a b = is_defended_against code pos friend a b

-- the enemy's play at a defends against the friend's play at b: b is then illegal for the friend, or his stone there
-- can be captured
abbrev pub xdefend_against : Codes → BoardState → Colour → ℕ → ℕ → Bool
xdefend_against code pos friend a b = is_defended_against code pos (other friend) a b

-- the position after a move of c: a play at a point, or a pass if there is no point or the play is illegal
unfoldable pub after_move : BoardState → Colour → Option ℕ → BoardState
after_move pos c None = pass pos
after_move pos c (Some a) = after_play (pass pos) (λ next. next) (play pos c a)

-- the position after these moves in turn; c makes the first of them
unfoldable pub after_moves : BoardState → Colour → List (Option ℕ) → BoardState
after_moves pos c [] = pos
after_moves pos c (m ∷ ms) = after_moves (after_move pos c m) (other c) ms

-- the code of an attack on the string at a after these moves in turn, if the friend makes the first of them; 0 if a is
-- then empty
abbrev pub oplay_attack : Codes → BoardState → Colour → List (Option ℕ) → ℕ → ℕ
oplay_attack code pos friend moves a = attack code (after_moves pos friend moves) a

-- the code of a defence of the string at a after these moves in turn, if the friend makes the first of them; 0 if a is
-- then empty
abbrev pub oplay_defend : Codes → BoardState → Colour → List (Option ℕ) → ℕ → ℕ
oplay_defend code pos friend moves a = defend code (after_moves pos friend moves) a

-- the code of an attack on the string at a after these moves in turn, if the enemy makes the first of them; 0 if a is
-- then empty
abbrev pub xplay_attack : Codes → BoardState → Colour → List (Option ℕ) → ℕ → ℕ
xplay_attack code pos friend moves a = attack code (after_moves pos (other friend) moves) a

-- the code of a defence of the string at a after these moves in turn, if the enemy makes the first of them; 0 if a is
-- then empty
abbrev pub xplay_defend : Codes → BoardState → Colour → List (Option ℕ) → ℕ → ℕ
xplay_defend code pos friend moves a = defend code (after_moves pos (other friend) moves) a
