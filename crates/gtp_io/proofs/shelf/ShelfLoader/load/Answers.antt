-- The call is listed, or the name is not there.
use Rattle.std.proofs.Common.{◌≡◌, ℕ, List, map, None, rules, inl, inr, ap, ◌∙◌}
use Rattle.std.specs.String.{string_bytes}
use Rattle.gtp_io.specs.Loading.{named}
use Rattle.gtp_io.specs.Memory.{ShelfState}
use Rattle.gtp_io.proofs.shelf.ShelfLoader.load.Goals as goal
use Rattle.gtp_io.proofs.shelf.ShelfLoader.load.Goals.{else-not-contains-via-then-not-contains+in_ok-append_named+else-branch}
use Rattle.gtp_io.proofs.shelf.ShelfLoader.load.Goals.{else-not-contains-via-else-not-contains}

-- a name that is not among some names is not among equal ones
missing_among : (names names' contents contents' : List (List ℕ)) (name : List ℕ) → names ≡ names'
    → contents ≡ contents' → named names contents name ≡ None → named names' contents' name ≡ None
missing_among names names' contents contents' name same_names same_contents missing = cc

-- a load fails where its call is listed, or where the shelf has no contents of the name
pub returns-clause-failed : goal.returns-clause-failed
returns-clause-failed c =
    λ _.
    elim c.else-not-contains.branch [
      | else-not-contains-via-then-not-contains+in_ok-append_named+else-branch w ↦
          let missing = rw w.if-branch.false at w.in_ok-append_named.ensures.loaded in
          inr (missing_among _ _ _ _ c.args.name.now
          (ap (map string_bytes) w.deref-then-not-contains.ensures.value
          ∙ ap (λ (s : ShelfState). s.names) c.self.view_is)
          (ap (map (λ v. v.items)) w.deref-then-not-contains-2.ensures.value
          ∙ ap (λ (s : ShelfState). s.contents) c.self.view_is)
          missing.0)
      | else-not-contains-via-else-not-contains w ↦ inl (search rules)
    ]
