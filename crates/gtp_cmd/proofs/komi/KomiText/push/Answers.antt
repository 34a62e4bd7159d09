use Rattle.std.proofs.Common.{◌<◌, length, ap, arith}
use Rattle.gtp_cmd.specs.Komi.{komi_room}
use Rattle.gtp_cmd.specs.KomiTexts.{length-text_kept}
use Rattle.gtp_cmd.proofs.KomiLemmas.{IsKomiText-push}
use Rattle.gtp_cmd.proofs.komi.KomiText.push.Goals as goal

-- the byte stands where a zero stood
pub invariant_of-self : goal.invariant_of-self
invariant_of-self c =
    let text = ap length c.self.view_is in
    let len = length-text_kept c.self.inside c.self.invariant in
    let room : c.self.inside.len < komi_room = omega (arith, text, len, c.requires) in
    IsKomiText-push c.self.inside c.args.b c.self.invariant room
