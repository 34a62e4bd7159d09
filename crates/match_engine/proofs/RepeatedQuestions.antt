-- A question that was read is found again while the facts of its answer hold and few other questions were read.
use Rattle.std.proofs.Common.{◌≡◌, ◌∙◌, ℕ, suc, ◌≤◌, ◌⊎◌, arith, inl, inr, refl, sym, subst, true, rules}
use Rattle.std.proofs.Common.{Option, Some, None, IfSome}
use Rattle.go_rules.specs.Position.{BoardState, IsPosition}
use Rattle.go_base.specs.Facts.{Fact, SizeIs, CellIs, BanIs, IsFactOf}
use Rattle.read_rules.specs.declared.question.Answer.{Answer}
use Rattle.read_rules.specs.ActiveArea.{InActiveArea, AgreeOn, IsAboutOne}
use Rattle.read_cache.specs.Variants.{Stands}
use Rattle.read_cache.specs.Kept.{Kept, HoldsOfEach}
use Rattle.read_cache.specs.Keeping.{Keeping, IsKeptFirst, WasKept, WasFresh}
use Rattle.read_cache.specs.declared.variants.Variant.{Variant}
use Rattle.read_cache.proofs.LastingVariants.{IsAmongFirst, of_first, IsAmongFirst-stands, IsAmongFirst-kept}
use Rattle.read_cache.proofs.LastingVariants.{IsAmongFirst-found, IsAmongFirst-first, IsAmongFirst-again}
use Rattle.match_engine.specs.declared.keys.Key.{Key}
use Rattle.match_engine.specs.Keys.{same_key, same_key-is}
use Rattle.match_engine.specs.Readings.{ReadingsView, Rests, HasRead}

-- a question equals itself
same_key-self : (q : Key) → same_key q q ≡ true
same_key-self q = search rules

-- a fact about a point of S is so on each of two positions that agree on S
IsFactOf-agree : (S : ℕ → Type 0) (a b : BoardState) (fact : Fact) → AgreeOn S a b → IsAboutOne S fact
    → IsFactOf a fact → IsFactOf b fact
IsFactOf-agree S a b (SizeIs n) agree near is = sym agree.sizes ∙ is
IsFactOf-agree S a b (CellIs p cell) agree near is = sym (agree.cells p near) ∙ is
IsFactOf-agree S a b (BanIs p c forbidden) agree near is = sym (agree.bans p c near) ∙ is

-- a variant that stands on a position and rests on its facts stands where the active area is the same
Stands-agree : (key : Key) (variant : Variant Answer) (a b : BoardState) → Rests key variant → Stands a variant
    → IsPosition b
    → AgreeOn (InActiveArea key.question a) a b → Stands b variant
Stands-agree key variant a b rests stands sound agree = grind (arith, IsFactOf-agree (InActiveArea key.question a) a b)

-- an answer to the question that stands on the position and rests on its facts is among its first n, and the question
-- among the first n
pub record IsAtHand (key : Key) (pos : BoardState) (n : ℕ) (kept : Kept Key Answer) : Type 0 where
  pub variant : Variant Answer
  pub rests : Rests key variant
  pub stands : Stands pos variant
  pub among : IsAmongFirst same_key key variant n kept

-- where no keeping was refused, an answer was kept first, or it had been kept
kept_cases : (key : Key) (pos : BoardState) (answer : Answer) (old new : ReadingsView) → HasRead key pos answer old new
    → new.answers.refused ≡ 0
    → IsKeptFirst same_key key Rests pos answer old.answers new.answers
    ⊎ WasKept same_key key pos answer old.answers new.answers
kept_cases key pos answer old new has none = grind arith

-- an answer that is kept first is at hand
IsAtHand-fresh : (key : Key) (pos : BoardState) (answer : Answer) (old new : Keeping Key Answer)
    → IsKeptFirst same_key key Rests pos answer old new → IsAtHand key pos 1 new.kept
IsAtHand-fresh key pos answer old new first =
    let variant : Variant Answer = record { facts = first.facts; answer = answer } in
    record {
      variant = variant;
      rests = first.rests;
      stands = first.holds;
      among = subst (IsAmongFirst same_key key variant 1) (sym first.kept)
          (IsAmongFirst-first same_key same_key-is same_key-self key variant old.kept);
    }

-- so is one that was found
IsAtHand-again : (key : Key) (pos : BoardState) (answer : Answer) (old new : Keeping Key Answer)
    → HoldsOfEach Rests new.kept → WasKept same_key key pos answer old new → IsAtHand key pos 1 new.kept
IsAtHand-again key pos answer old new rest kept =
    let found = kept.found.brought.first.found in
    let among = IsAmongFirst-again same_key same_key-is same_key-self key pos old.kept new.kept answer kept.found in
    record {
      variant = found;
      rests = of_first same_key Rests same_key-is key found 1 new.kept rest among;
      stands = kept.found.brought.first.stands;
      among = among;
    }

-- where no keeping was refused, the question that was read is the first, and its answer the first of its answers
pub IsAtHand-first : (key : Key) (pos : BoardState) (answer : Answer) (old new : ReadingsView)
    → HasRead key pos answer old new → HoldsOfEach Rests new.answers.kept
    → new.answers.refused ≡ 0 → IsAtHand key pos 1 new.answers.kept
IsAtHand-first key pos answer old new has rest none = elim (kept_cases key pos answer old new has none) [
  | inl first ↦ IsAtHand-fresh key pos answer old.answers new.answers first
  | inr kept ↦ IsAtHand-again key pos answer old.answers new.answers rest kept
]

-- another reading moves it back by one place at most
pub IsAtHand-later : (key : Key) (pos : BoardState) (n : ℕ) (other : Key) (there : BoardState) (answer : Answer)
    (old new : ReadingsView)
    → HasRead other there answer old new → new.answers.refused ≡ 0 → n ≤ 3 → 8 ≤ old.answers.kept.1
    → IsAtHand key pos n old.answers.kept
    → IsAtHand key pos (suc n) new.answers.kept
IsAtHand-later key pos n other there answer old new has none few room hand = record {
  variant = hand.variant;
  rests = hand.rests;
  stands = hand.stands;
  among = elim (kept_cases other there answer old new has none) [
    | inl first ↦ subst (IsAmongFirst same_key key hand.variant (suc n)) (sym first.kept)
        (IsAmongFirst-kept same_key same_key-is same_key-self other key (record {
          facts = first.facts;
          answer = answer;
        }) hand.variant old.answers.kept n few (omega (arith, few, room)) hand.among)
    | inr kept ↦ IsAmongFirst-found same_key same_key-is same_key-self other key there old.answers.kept
        new.answers.kept answer hand.variant n (omega (arith, few, room)) hand.among kept.found
  ];
}

-- what is there only with a fact that never holds is not there
none-never : {E F : Type 0} (o : Option E) → IfSome o (λ _. F) → (F → ⊥) → o ≡ None
none-never None there never = refl
none-never (Some e) there never = absurd (never there)

-- where the active area is the same, a reading of the question is not fresh
pub IsAtHand-kept : (key : Key) (pos : BoardState) (n : ℕ) (here : BoardState) (answer : Answer)
    (old new : ReadingsView) → IsAtHand key pos n old.answers.kept
    → IsPosition here → AgreeOn (InActiveArea key.question pos) pos here → HasRead key here answer old new
    → new.last ≡ None
IsAtHand-kept key pos n here answer old new hand sound agree has =
    none-never new.last has.read.fresh
    (λ (fresh : WasFresh same_key key Rests here answer old.answers new.answers).
    IsAmongFirst-stands same_key key hand.variant n old.answers.kept here hand.among
    (Stands-agree key hand.variant pos here hand.rests hand.stands sound agree) fresh.missing)
