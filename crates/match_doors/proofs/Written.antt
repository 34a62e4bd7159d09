-- A buffer whose front has the numbers of matches.
use Rattle.std.proofs.Common.{◌≡◌, ◌<◌, ◌+◌, ◌∙◌, ℕ, List, length, ap, arith, inl, inr}
use Rattle.std.proofs.Common.{set as set_at, length-set}
use Rattle.std.proofs.lemmas.Bool.{cases_eq}
use Rattle.std.proofs.lemmas.List.{get_or-set_same, get_or-set_other, get_or_default}
use Rattle.std.specs.Prelude.{slice_index_or}
use Rattle.match_rules.specs.declared.found.Match.{Match}
use Rattle.match_doors.specs.declared.replies.MatchBytes.{MatchBytes}
use Rattle.match_doors.specs.Matching.{bytes_of, AreWrittenTo}

-- one match more
pub AreWrittenTo-more : (n : ℕ) (zs : List Match) (old new : List MatchBytes) (x : MatchBytes) (some : Match)
    → AreWrittenTo n zs old new → n < length old → n < length zs → x ≡ bytes_of (slice_index_or zs n some)
    → AreWrittenTo (n + 1) zs old (set_at new n x)
AreWrittenTo-more n zs old new x some h small within is = record {
  whole = length-set new n x ∙ h.whole;
  front = λ i z none below. elim (cases_eq i n) [
    | inl same ↦ rw same (get_or-set_same new n x none (omega (arith, small, h.whole)) ∙ is
        ∙ ap bytes_of (get_or_default zs n some z within))
    | inr other ↦ get_or-set_other new n i x none other ∙ h.front i z none (omega (arith, below, other))
  ];
  behind = λ i none past. get_or-set_other new n i x none (λ e. omega (arith, past, e))
      ∙ h.behind i none (omega (arith, past));
}
