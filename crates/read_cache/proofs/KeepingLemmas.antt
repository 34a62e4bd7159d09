-- What holds after questions were asked through a cache.
use Rattle.std.proofs.Common.{◌≡◌, Bool, true, Option, Some, None, IfSome, IfNone, sym, subst, arith}
use Rattle.go_rules.specs.Position.{BoardState}
use Rattle.read_cache.specs.declared.variants.Variant.{Variant}
use Rattle.read_cache.specs.Kept.{Kept, HoldsOfEach, IsFound, kept_first}
use Rattle.read_cache.specs.Keeping.{Keeping, Follows, RestsOn}
use Rattle.read_cache.proofs.Each.{HoldsOfEach-found, HoldsOfEach-kept, found_holds}

-- questions after questions
pub Follows-trans : {Q A : Type 0} (a b c : Keeping Q A) → Follows a b → Follows b c → Follows a c
Follows-trans a b c first next = grind arith

module _ {Q A : Type 0} (Rests : Q → Variant A → Type 0) (eq : Q → Q → Bool) (one : (p q : Q) → eq p q ≡ true → p ≡ q)
    (q : Q) (old new : Kept Q A) (rest : HoldsOfEach Rests old) where
  -- where each kept variant rests on its facts, each does after one that does was kept first
  pub each_rests-kept : (variant : Variant A) → Rests q variant → new ≡ kept_first eq q variant old
      → HoldsOfEach Rests new
  each_rests-kept variant rests is =
      subst (HoldsOfEach Rests) (sym is) (HoldsOfEach-kept Rests eq one q variant old rest rests)

  -- each does after the question was looked up, found or not
  pub each_rests-sought : (pos : BoardState) (answer : Option A) → IfSome answer (IsFound eq q pos old new)
      → IfNone answer (new ≡ old) → HoldsOfEach Rests new
  each_rests-sought pos None found same = subst (HoldsOfEach Rests) (sym same) rest
  each_rests-sought pos (Some answer) found same = HoldsOfEach-found Rests eq one q pos old new answer rest found

  -- the answer that was found, if one was, rests on facts that hold on the position
  pub RestsOn-found : (pos : BoardState) (answer : Option A) → IfSome answer (IsFound eq q pos old new)
      → IfSome answer (RestsOn Rests q pos)
  RestsOn-found pos None found = found
  RestsOn-found pos (Some answer) found = grind (arith, found_holds Rests eq one q pos old new answer rest found)
