-- The next member was put, and no other stands between it and those before.
use Rattle.std.proofs.Common.{filter, arith, ap, ◌∙◌}
use Rattle.std.specs.FinSet as set
use Rattle.std.specs.List.{range_with_len}
use Rattle.machine_rules.specs.PointLists.{vertices_text}
use Rattle.session_core.proofs.Texts.{vertices-passes, vertices-end}
use Rattle.session_core.proofs.point_lists.points_text.Goals as goal

-- no point was looked at
pub loop-p-init : goal.loop-p-init
loop-p-init c = record { inside = omega arith; text_is = c.new-text.ensures }

-- the vertices so far are those of the members up to this one, in reading order
pub loop-p-preserved : goal.loop-p-preserved
loop-p-preserved c =
    let is = c.in-Some.ensures.some in
    record {
      inside = omega (arith, is.1);
      text_is = vertices-passes c.args.size c.loop-p.next (set.contains c.args.points.now) c.loop-p.text
          c.loop-p.invariant.text_is c.in-Some.p _ is.0 is.3 is.2 c.in_ok-push_next.ensures;
    }

-- no member is left on the board
pub returns : goal.returns
returns c =
    vertices-end c.args.size c.loop-p.next (set.contains c.args.points.now) c.loop-p.text
    c.loop-p.invariant.text_is c.points-end.result c.loop-p.invariant.inside c.in_default.ensures.none
    ∙ ap (λ n. vertices_text c.args.size (filter (set.contains c.args.points.now) (range_with_len 0 n)))
    c.points-end.ensures.value
