-- What holds of names and their contents, which stand in two lists of one length.
use Rattle.std.proofs.Common.{◌≡◌, ℕ, ◌+◌, ◌<◌, true, false, cond, List, [], ◌∷◌, length, map, drop}
use Rattle.std.proofs.Common.{get_or, Some, sym, ap, ◌∙◌, arith}
use Rattle.std.proofs.lemmas.List.{drop_more}
use Rattle.std.specs.Str.{bytes_eq}
use Rattle.std.specs.List.{slice_get}
use Rattle.std.proofs.lemmas.Option.{slice_get-map, slice_get-get_or}
use Rattle.std.specs.Option.{option_map}
use Rattle.gtp_io.specs.Loading.{named}

-- an element of a list that is not empty
some_of : {Y : Type 0} (ys : List Y) → 0 < length ys → Y
some_of [] some = absurd (omega arith)
some_of (y ∷ ys) some = y

-- X has names by f, and Y has contents by g; x is what stands in place of an element past the end.
module _ {X Y : Type 0} (f : X → List ℕ) (g : Y → List ℕ) (xs : List X) (ys : List Y) (name : List ℕ)
    (same : length xs ≡ length ys) (i : ℕ) (x : X) (within : i < length xs) where
  -- some contents, in place of an element past the end
  y : Y
  y = some_of ys (omega arith)

  -- the names from the i-th on begin with it
  from : named (map f (drop i xs)) (map g (drop i ys)) name
      ≡ cond (bytes_eq (f (get_or xs i x)) name) (Some (g (get_or ys i y)))
      (named (map f (drop (i + 1) xs)) (map g (drop (i + 1) ys)) name)
  from =
      ap (λ l. named (map f l) (map g (drop i ys)) name) (drop_more xs i x within)
      ∙ ap (λ l. named (map f (get_or xs i x ∷ drop (i + 1) xs)) (map g l) name) (drop_more ys i y (omega arith))

  -- where the i-th name is another one, it is looked for among those after it
  pub named-drop : bytes_eq (f (get_or xs i x)) name ≡ false
      → named (map f (drop i xs)) (map g (drop i ys)) name
      ≡ named (map f (drop (i + 1) xs)) (map g (drop (i + 1) ys)) name
  named-drop other = from
      ∙ ap (λ t. cond t (Some (g (get_or ys i y)))
      (named (map f (drop (i + 1) xs)) (map g (drop (i + 1) ys)) name)) other

  -- if it is this one, its contents are meant
  pub named-here : bytes_eq (f (get_or xs i x)) name ≡ true
      → named (map f (drop i xs)) (map g (drop i ys)) name ≡ slice_get (map g ys) i
  named-here this =
      from ∙ ap (λ t. cond t (Some (g (get_or ys i y)))
      (named (map f (drop (i + 1) xs)) (map g (drop (i + 1) ys)) name)) this
      ∙ sym (slice_get-map g ys i ∙ ap (option_map g) (slice_get-get_or ys i y (omega arith)))
