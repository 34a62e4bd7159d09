-- The test whether two matches of two lists of patterns are at the same place is the fact.
use Rattle.std.proofs.Common.{◌≡◌, true, false, ◌&&◌, eqb, List, Option, Some, None, slice_get, refl, ap, ◌∙◌}
use Rattle.std.proofs.lemmas.Bool.{false≢true, and_parts, and_from, eq-eqb, eqb-true}
use Rattle.std.proofs.lemmas.Slice.Eq.{bytes_eq-Decides}
use Rattle.pat_types.specs.declared.pattern.Pattern.{Pattern}
use Rattle.match_rules.specs.declared.found.Match.{Match}
use Rattle.pattern_changes.specs.Changes.{have_same_name, is_same_match, IsSameMatch}

module _ (patterns others : List Pattern) (z y : Match) where
  -- patterns that are there, with the same name
  same_named : (p q : Option Pattern) → slice_get patterns z.pattern ≡ p → slice_get others y.pattern ≡ q
      → have_same_name p q ≡ true → y.transform ≡ z.transform → y.at ≡ z.at → IsSameMatch patterns others z y
  same_named None q there other name transform at = absurd (false≢true name)
  same_named (Some p) None there other name transform at = absurd (false≢true name)
  same_named (Some p) (Some q) there other name transform at = record {
    pattern = p;
    number = there;
    other = q;
    other_number = other;
    name = (bytes_eq-Decides p.name q.name).0 name;
    transform = transform;
    at = at;
  }

  -- two matches that pass the test are at the same place
  pub same-true : is_same_match patterns others z y ≡ true → IsSameMatch patterns others z y
  same-true passes =
      let name = have_same_name (slice_get patterns z.pattern) (slice_get others y.pattern) in
      let at = and_parts (eqb y.at z.at) (eqb y.transform z.transform && name) passes in
      let rest = and_parts (eqb y.transform z.transform) name at.1 in
      same_named (slice_get patterns z.pattern) (slice_get others y.pattern) refl refl rest.1
      (eqb-true y.transform z.transform rest.0) (eqb-true y.at z.at at.0)

  -- two matches at the same place pass the test
  pub same-from : IsSameMatch patterns others z y → is_same_match patterns others z y ≡ true
  same-from is =
      let name = have_same_name (slice_get patterns z.pattern) (slice_get others y.pattern) in
      and_from (eqb y.at z.at) (eqb y.transform z.transform && name) (eq-eqb y.at z.at is.at)
      (and_from (eqb y.transform z.transform) name (eq-eqb y.transform z.transform is.transform)
      (ap (λ p. have_same_name p (slice_get others y.pattern)) is.number
      ∙ ap (λ q. have_same_name (Some is.pattern) q) is.other_number
      ∙ (bytes_eq-Decides is.pattern.name is.other.name).1 is.name))
