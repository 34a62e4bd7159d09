-- The entry that stands first.
use Rattle.std.proofs.Common.{◌≡◌, refl, sym, Bool, true, List, [], ◌∷◌, Some, arith}
use Rattle.std.specs.Prelude.{slice_get}
use Rattle.std.specs.Map.{lookup}
use Rattle.lru.specs.LruCache.{promoted}

module _ {K V : Type 0} (test : K → Bool) where
  -- where the key of the first entry passes, its value is found
  pub lookup-first : (es : List (K × V)) (e : K × V) → slice_get es 0 ≡ Some e → test e.0 ≡ true
      → lookup test es ≡ Some e.1
  lookup-first [] e first passes = cc
  lookup-first (f ∷ es) e first passes = grind arith

  -- and it stays first where it is promoted
  pub promoted-first : (es : List (K × V)) (e : K × V) → slice_get es 0 ≡ Some e → test e.0 ≡ true
      → promoted test es ≡ es
  promoted-first [] e first passes = refl
  promoted-first (f ∷ es) e first passes = grind arith
