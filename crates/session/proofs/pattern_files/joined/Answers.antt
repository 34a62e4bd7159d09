-- One file more.
use Rattle.std.proofs.Common.{ℕ, List, Option, ap, subst, ◌∙◌, arith}
use Rattle.std.specs.String.{string_bytes}
use Rattle.session.specs.PatternFiles.{AddsContents}
use Rattle.session.proofs.PatternFileLemmas.{IsJoined-next}
use Rattle.session.proofs.pattern_files.joined.Goals as goal

-- the contents of each file follow those of the files named before it, none of which was missed
pub loop-name-preserved : goal.loop-name-preserved
loop-name-preserved g c =
    let contents = g.L.Loader.contents c.args.files.now in
    let so_far = c.loop-name.invariant in
    let told = ap (λ (k : List ℕ → Option (List ℕ)). k c.as_str.result.now) so_far.same
    ∙ ap contents c.as_str.ensures.value in
    record {
      joined = IsJoined-next string_bytes contents c.args.names.now c.loop-name.name-index c.name-item.result
          c.loop-name.text.items c.in_ok-text.text.items
          (omega arith) c.name-item.is so_far.joined
          (subst (λ o. AddsContents o c.loop-name.text.items c.in_ok-text.text.items) told c.in_ok-text.ensures.ok);
      missed = c.in_ok-text.ensures.missed ∙ so_far.missed;
      same = c.in_ok-text.ensures.same ∙ so_far.same;
    }
