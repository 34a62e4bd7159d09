-- The loop over the bytes.
use Rattle.std.proofs.Common.{◌≡◌, ◌++◌, map, take, drop}
use Rattle.sure_lines.specs.ProofCommands.{blank_for_line_feed}
use Rattle.sure_lines.proofs.proof_commands.join_lines.Given as goal

-- the bytes before are those of the proof, and the others are as they were
abbrev pub invariant-bytes : goal.invariant-bytes
invariant-bytes l = record {
  value : l.text ≡ map blank_for_line_feed (take l.b-index l.fn.text) ++ drop l.b-index l.fn.text;
}
