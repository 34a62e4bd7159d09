-- The letter of one column more.
use Rattle.machine_rules.specs.BoardText.{letter_text}
use Rattle.session_core.proofs.Texts.{text-next, put_twice}
use Rattle.session_core.proofs.board_text.push_letters.Goals as goal

-- each letter of a column, with a space before it, stands right of those of the columns to its left
pub loop-column-preserved : goal.loop-column-preserved
loop-column-preserved c =
    text-next letter_text c.args.text.now c.loop-column.text c.push_letter.new.out c.loop-column.column
    c.loop-column.invariant
    (put_twice _ _ _ _ _ (c.in_ok-push.ensures.ok) c.in_ok-push_letter.ensures)
