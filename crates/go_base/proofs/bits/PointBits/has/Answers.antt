use Rattle.std.proofs.Common.{◌∙◌, ap}
use Rattle.go_base.specs.Bits.{is_marked}
use Rattle.go_base.proofs.Marks.{marked_bit}
use Rattle.go_base.proofs.bits.PointBits.has.Goals as goal

-- the bit of p in its word
pub returns : goal.returns
returns c = marked_bit c.self.inside.words c.args.p ∙ ap (λ words. is_marked words c.args.p) c.self.view_is
