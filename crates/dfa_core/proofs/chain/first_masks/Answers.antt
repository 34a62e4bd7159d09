use Rattle.std.proofs.Common.{◌≡◌, ◌<◌, ℤ, sym, subst, arith}
use Rattle.std.proofs.lemmas.Int.{ints}
use Rattle.go_rules.specs.Transform.{Offset, IsNear}
use Rattle.spiral.specs.Spiral.{offset_at, offset_count}
use Rattle.spiral.proofs.Indexes.{offsets_near}
use Rattle.spiral.proofs.Places.{near_by_parts}
use Rattle.dfa_core.proofs.Masks.{AreMasks-more}
use Rattle.dfa_core.proofs.chain.first_masks.Goals as goal

-- an offset is its two parts
by_parts : (d : Offset) (x y : ℤ) (o : Offset) → d ≡ o → x ≡ d.0 → y ≡ d.1 → o ≡ (x, y)
by_parts d x y o same r c = rw (r, c) (sym same)

-- the offset that was read is near
pub following-by-requires : goal.following-by-requires
following-by-requires c = near_by_parts c.loop-i.by _ _
    (subst IsNear (sym (c.loop-i.invariant.offset (omega (arith, c.requires))))
    (offsets_near c.loop-i.i (omega (arith, c.requires))))
    (omega (arith, ints)) (omega (arith, ints))

-- one mask more, and the next offset
pub loop-i-preserved : goal.loop-i-preserved
loop-i-preserved c =
    let low : c.loop-i.i < offset_count = omega (arith, c.requires) in
    record {
      masks = AreMasks-more c.args.p.now c.loop-i.i c.loop-i.masks.items _ c.mask_at.result c.loop-i.invariant.masks
          c.in_ok-push.ensures.items (λ x. c.mask_at.ensures c.loop-i.i x (c.loop-i.invariant.offset low));
      offset = λ more. c.following-by.ensures c.loop-i.i more
          (by_parts c.loop-i.by _ _ (offset_at c.loop-i.i) (c.loop-i.invariant.offset low) (omega (arith, ints))
          (omega (arith, ints)));
    }
