use Rattle.std.proofs.Common.{◌≡◌, take}
use Rattle.gtp_cmd.specs.Words.{kept}
use Rattle.gtp_cmd.proofs.komi.KomiText.copied.Given as goal

-- the text is the bytes so far
abbrev pub invariant-loop-b : goal.invariant-loop-b
invariant-loop-b l = l.text ≡ kept (take l.b-index l.word)
