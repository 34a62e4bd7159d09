-- What each door answers on a caller's numbers: the answer on the position that they name, or the first fault.
use Rattle.std.specs.Prelude.{◌≡◌, ℕ, ◌*◌, ◌==◌, ◌||◌, Bool, true, false, not, nat_lt, List, [], ◌∷◌, Option, Some}
use Rattle.std.specs.Prelude.{None}
use Rattle.std.specs.Prelude.{Result, Ok, Err, if◌then◌else◌}
use Rattle.go_rules.specs.declared.Cell.{Cell}
use Rattle.go_rules.specs.declared.Cell.TheVariants.{Empty}
use Rattle.go_rules.specs.declared.Colour.{Colour}
use Rattle.go_rules.specs.declared.Illegal.{Illegal}
use Rattle.go_rules.specs.Strings.{cell_at, same_cell, liberties}
use Rattle.go_rules.specs.Position.{BoardState}
use Rattle.go_rules.specs.Play.{play, pass}
use Rattle.read_rules.specs.declared.tree.Tree.{Tree}
use Rattle.read_rules.specs.declared.tree.Tree.TheVariants.{Stated, Wider}
use Rattle.read_rules.specs.declared.depths.Depths.{Depths}
use Rattle.read_rules.specs.declared.question.Kind.{Kind}
use Rattle.read_rules.specs.declared.question.Kind.TheVariants.{Attack, Defend}
use Rattle.read_rules.specs.declared.question.Answer.{Answer}
use Rattle.read_rules.specs.declared.question.ReadingQuestion.{ReadingQuestion}
use Rattle.read_rules.specs.Ranges.{least_plies, most_plies, most_wide}
use Rattle.read_rules.specs.Answer.{answer_of, asked_in}
use Rattle.connect_rules.specs.declared.question.LinkKind.{LinkKind}
use Rattle.connect_rules.specs.declared.question.Linkage.{Linkage}
use Rattle.connect_rules.specs.Linkages.{linkage_of, asked_on}
use Rattle.read_proof.specs.Tokens.{Word, words_in}
use Rattle.read_proof.specs.ProofOf.{proves_all, codes_down_to}
use Rattle.board_bytes.specs.declared.board.BoardBytes.{BoardBytes}
use Rattle.board_bytes.specs.declared.board.BoardFault.{BoardFault}
use Rattle.board_bytes.specs.Bytes.{position_of, colour_named}
use Rattle.board_doors.specs.declared.depths.DepthBytes.{DepthBytes}
use Rattle.board_doors.specs.declared.fault.DoorFault.{DoorFault}
use Rattle.board_doors.specs.declared.fault.DoorFault.TheVariants.{Board, OffBoard, NoStone, TwoColours}
use Rattle.board_doors.specs.declared.fault.DoorFault.TheVariants.{Kind as bad_kind}
use Rattle.board_doors.specs.declared.fault.DoorFault.TheVariants.{Depths as bad_depths, Colour as bad_colour, Code}
use Rattle.board_doors.specs.declared.fault.DoorFault.TheVariants.{Illegal as illegal}

-- the answer on the position of the bytes, or the fault of the bytes
abbrev pub on_position : {T : Type 0} → (BoardState → Result T DoorFault) → Result BoardState BoardFault
    → Result T DoorFault
on_position answered (Ok pos) = answered pos
on_position answered (Err fault) = Err (Board fault)

-- the answer that follows from a first result, or the fault of the first result
abbrev pub and_then : {T U : Type 0} → (T → Result U DoorFault) → Result T DoorFault → Result U DoorFault
and_then answered (Ok x) = answered x
and_then answered (Err fault) = Err fault

-- the stone at p, or why there is none
unfoldable pub stone_at : BoardState → ℕ → Result Cell DoorFault
stone_at pos p =
    if not (nat_lt p (pos.size * pos.size)) then Err OffBoard
    else if same_cell (cell_at pos.cells p) Empty then Err NoStone
    else Ok (cell_at pos.cells p)

-- the number of plies is in its range
abbrev pub are_plies : ℕ → Bool
are_plies plies = not (nat_lt plies least_plies || nat_lt most_plies plies)

-- the plies and the wide plies are in their ranges, and a tree has the number
unfoldable pub are_depths : DepthBytes → Bool
are_depths depths =
    not (nat_lt depths.plies least_plies || nat_lt most_plies depths.plies || nat_lt most_wide depths.wide
    || nat_lt 1 depths.tree)

-- the tree with this number; any number but 0 gives the wider tree
abbrev pub tree_named : ℕ → Tree
tree_named n = if n == 0 then Stated else Wider

-- `found` are the depths that the numbers name
pub record AreDepthsOf (found : Depths) (depths : DepthBytes) : Type 0 where
  pub plies : found.plies ≡ depths.plies
  pub wide : found.wide ≡ depths.wide
  pub tree : found.tree ≡ tree_named depths.tree

-- the answer to a question about the stone at the target, or the fault of the depths
abbrev pub answer_with : Kind → ℕ → DepthBytes → BoardState → Result Answer DoorFault
answer_with kind target depths pos =
    if are_depths depths
    then Ok (answer_of (asked_in (tree_named depths.tree) pos kind target depths.plies depths.wide) pos)
    else Err bad_depths

-- the answer to a reading on the position, or the first fault: of the point, of the depths
unfoldable pub read_on : Kind → ℕ → DepthBytes → BoardState → Result Answer DoorFault
read_on kind target depths pos = and_then (λ stone. answer_with kind target depths pos) (stone_at pos target)

-- the answer to a reading on the position of the bytes, or the first fault
unfoldable pub reading_of : Kind → BoardBytes → ℕ → DepthBytes → Result Answer DoorFault
reading_of kind board target depths = on_position (read_on kind target depths) (position_of board)

-- the answer to a connection of two stones, or the first fault: of the colours, of the plies
abbrev pub linkage_with : LinkKind → ℕ → ℕ → ℕ → BoardState → Cell → Cell → Result Linkage DoorFault
linkage_with kind a b plies pos first second =
    if not (same_cell second first) then Err TwoColours
    else if not (are_plies plies) then Err bad_depths
    else Ok (linkage_of (asked_on pos kind a b plies) pos)

-- the answer to a connection on the position, or the first fault: of the first point, of the second point, of the
-- colours, of the plies
unfoldable pub link_on : LinkKind → ℕ → ℕ → ℕ → BoardState → Result Linkage DoorFault
link_on kind a b plies pos =
    and_then (λ first. and_then (λ second. linkage_with kind a b plies pos first second) (stone_at pos b))
    (stone_at pos a)

-- the answer to a connection on the position of the bytes, or the first fault
unfoldable pub linking_of : LinkKind → BoardBytes → ℕ → ℕ → ℕ → Result Linkage DoorFault
linking_of kind board a b plies = on_position (link_on kind a b plies) (position_of board)

-- the number of a point that stands for a pass
abbrev pub pass_number : ℕ
pass_number = 65535

-- the position after a play, or why the rules forbid the play
abbrev pub by_rules : Result BoardState Illegal → Result BoardState DoorFault
by_rules (Ok next) = Ok next
by_rules (Err why) = Err (illegal why)

-- the position after a colour plays at a point or passes, or the first fault: of the colour, of the point, of the rules
abbrev pub play_by : ℕ → BoardState → Option Colour → Result BoardState DoorFault
play_by at pos None = Err bad_colour
play_by at pos (Some c) =
    if at == pass_number then Ok (pass pos)
    else if not (nat_lt at (pos.size * pos.size)) then Err OffBoard
    else by_rules (play pos c at)

-- the position after the colour with this number plays at a point or passes, or the first fault: of the colour, of the
-- point, of the rules
unfoldable pub play_on : ℕ → ℕ → BoardState → Result BoardState DoorFault
play_on colour at pos = play_by at pos (colour_named colour)

-- the position after a play or a pass on the position of the bytes, or the first fault
unfoldable pub play_of : BoardBytes → ℕ → ℕ → Result BoardState DoorFault
play_of board colour at = on_position (play_on colour at) (position_of board)

-- how many liberties the string at p has, or the fault of the point
unfoldable pub liberties_on : ℕ → BoardState → Result ℕ DoorFault
liberties_on p pos = and_then (λ stone. Ok (liberties pos.size pos.cells p)) (stone_at pos p)

-- how many liberties the string at p has on the position of the bytes, or the first fault
unfoldable pub liberties_of : BoardBytes → ℕ → Result ℕ DoorFault
liberties_of board p = on_position (liberties_on p) (position_of board)

-- the question with this number, if there is one
abbrev pub kind_named : ℕ → Option Kind
kind_named n = if n == 1 then Some Attack else if n == 2 then Some Defend else None

-- a question, and the position that it is asked on
pub record Asked : Type 0 where
  pub question : ReadingQuestion
  pub position : BoardState

-- the question of a kind and depths about the stone at the target, asked on the position; or the fault
abbrev pub with_question : ℕ → BoardState → Result (Kind × Depths) DoorFault → Result Asked DoorFault
with_question target pos (Ok asked) = Ok (record {
  question = asked_in asked.1.tree pos asked.0 target asked.1.plies asked.1.wide;
  position = pos;
})
with_question target pos (Err fault) = Err fault

-- the question of a kind about the stone at the target, or the fault of the depths
abbrev pub question_with : Kind → ℕ → DepthBytes → BoardState → Result Asked DoorFault
question_with kind target depths pos =
    if are_depths depths
    then Ok (record {
      question = asked_in (tree_named depths.tree) pos kind target depths.plies depths.wide;
      position = pos;
    })
    else Err bad_depths

-- the question of a kind about the stone at the target, or the first fault: of the question, of the point, of the
-- depths
abbrev pub question_by : ℕ → DepthBytes → BoardState → Option Kind → Result Asked DoorFault
question_by target depths pos None = Err bad_kind
question_by target depths pos (Some kind) =
    and_then (λ stone. question_with kind target depths pos) (stone_at pos target)

-- the question with this number about the stone at the target, or the first fault: of the question, of the point, of
-- the depths
unfoldable pub question_on : ℕ → ℕ → DepthBytes → BoardState → Result Asked DoorFault
question_on kind target depths pos = question_by target depths pos (kind_named kind)

-- the question with this number on the position of the bytes, or the first fault
unfoldable pub question_of : BoardBytes → ℕ → ℕ → DepthBytes → Result Asked DoorFault
question_of board kind target depths = on_position (question_on kind target depths) (position_of board)

-- the proofs were read, and no words are left after them
abbrev pub is_whole : Option (List Word) → Bool
is_whole (Some []) = true
is_whole (Some (word ∷ more)) = false
is_whole None = false

-- the text is a proof that this is the code of the question
abbrev pub is_proof_on : Kind → ℕ → DepthBytes → ℕ → List ℕ → BoardState → Bool
is_proof_on kind target depths code text pos =
    is_whole (proves_all (asked_in (tree_named depths.tree) pos kind target depths.plies depths.wide) pos code
    (codes_down_to code) (words_in text))

-- whether the text is a proof of the code, or the first fault: of the depths, of the code
abbrev pub checked_with : Kind → ℕ → DepthBytes → ℕ → List ℕ → BoardState → Result Bool DoorFault
checked_with kind target depths code text pos =
    if not (are_depths depths) then Err bad_depths
    else if nat_lt 3 code then Err Code
    else Ok (is_proof_on kind target depths code text pos)

-- whether the text is a proof of the code of a question of this kind, or the first fault: of the question, of the
-- point, of the depths, of the code
abbrev pub check_by : ℕ → DepthBytes → ℕ → List ℕ → BoardState → Option Kind → Result Bool DoorFault
check_by target depths code text pos None = Err bad_kind
check_by target depths code text pos (Some kind) =
    and_then (λ stone. checked_with kind target depths code text pos) (stone_at pos target)

-- whether the text is a proof of the code of the question with this number, or the first fault: of the question, of the
-- point, of the depths, of the code
unfoldable pub check_on : ℕ → ℕ → DepthBytes → ℕ → List ℕ → BoardState → Result Bool DoorFault
check_on kind target depths code text pos = check_by target depths code text pos (kind_named kind)

-- whether the text is a proof of the code of a question on the position of the bytes, or the first fault
unfoldable pub checking_of : BoardBytes → ℕ → ℕ → DepthBytes → ℕ → List ℕ → Result Bool DoorFault
checking_of board kind target depths code text = on_position (check_on kind target depths code text) (position_of board)
