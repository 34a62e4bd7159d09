-- A byte more was written.
use Rattle.std.proofs.Common.{◌∙◌, get_or, ap, arith}
use Rattle.std.proofs.Math.ListN.{set}
use Rattle.std.proofs.lemmas.List.{get_or_default}
use Rattle.std.proofs.lemmas.List.Edits.{map_over_more}
use Rattle.sure_lines.specs.ProofCommands.{blank_for_line_feed}
use Rattle.sure_lines.proofs.proof_commands.join_lines.Goals as goal

-- the byte at this place is that of the proof
pub bytes-preserved : goal.bytes-preserved
bytes-preserved c = record {
  value = ap (set c.bytes.text c.bytes.b-index) c.blank_for_line_feed.ensures
      ∙ map_over_more blank_for_line_feed c.args.text.now c.bytes.text c.bytes.b-index
      (get_or c.bytes.text c.bytes.b-index 0) c.bytes-test.true c.bytes.invariant.value
      (get_or_default c.bytes.text c.bytes.b-index _ _ (omega (arith, c.bytes.auto.text)));
}
