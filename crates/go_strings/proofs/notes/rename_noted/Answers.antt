use Rattle.std.proofs.Common.{arith}
use Rattle.go_strings.proofs.NoteTrails.{noted_more, noted_name}
use Rattle.go_strings.proofs.NewNames.{renamed_next}
use Rattle.go_strings.proofs.notes.rename_noted.Goals as goal

-- one more stone has the name, and what it had was noted
pub loop-q-preserved : goal.loop-q-preserved
loop-q-preserved c =
    grind (
      arith,
      renamed_next c.args.names.now c.loop-q.names c.args.stones.now c.args.name c.loop-q.next c.in-Some.q,
      noted_more,
      noted_name,
    )
