-- Looks from a trial board, one after another: the trial stays, each look was in an area, and what they found holds.
use Rattle.std.proofs.Common.{◌≡◌, ℕ, ◌*◌, ◌<◌, Bool, true, sym, subst, arith}
use Rattle.go_rules.specs.Position.{BoardState}
use Rattle.go_base.specs.Facts.{Fact, SizeIs, Agrees, AddsIn}
use Rattle.go_base.specs.Facts.{same_size}
use Rattle.trial_board.specs.Trials.{Trying, KeepsTrial, after}

-- a point of the board whose size was seen is on each position that agrees
pub on_agreed : {seen : Fact → Bool} {pos : BoardState} (n l : ℕ) → seen (SizeIs n) ≡ true → Agrees seen pos
    → l < n * n → l < pos.size * pos.size
on_agreed n l told a on = subst (λ s. l < s * s) (sym (same_size told a)) on

-- the trial stays over the looks, and on each position that agrees, by its size and the position after the trial moves,
-- each look was in the area, and what they found holds
pub record Walked {L : Type 0} (shows : L → BoardState) (seen : L → Fact → Bool) (area : ℕ → BoardState → ℕ → Bool)
    (Found : ℕ → BoardState → Type 0) (first now : Trying L) : Type 0 where
  pub stays : KeepsTrial shows seen first now
  pub near : (pos : BoardState) → Agrees (seen now.look) pos
      → AddsIn (seen first.look) (seen now.look) (area pos.size (after pos first.moves))
  pub over : (pos : BoardState) → Agrees (seen now.look) pos → Found pos.size (after pos first.moves)

module _ {L : Type 0} {shows : L → BoardState} {seen : L → Fact → Bool} {area : ℕ → BoardState → ℕ → Bool} where
  -- no look was made
  pub Walked-none : {Found : ℕ → BoardState → Type 0} {first : Trying L}
      → ((pos : BoardState) → Found pos.size (after pos first.moves)) → Walked shows seen area Found first first
  Walked-none found = grind arith

  -- what was found says more
  pub Walked-same : {Found More : ℕ → BoardState → Type 0} {first now : Trying L}
      → Walked shows seen area Found first now
      → ((pos : BoardState) → Agrees (seen first.look) pos → Found pos.size (after pos first.moves)
      → More pos.size (after pos first.moves))
      → Walked shows seen area More first now
  Walked-same walk more = grind arith

  -- one more look was in the area, and what it says is found too
  pub Walked-next : {Found More : ℕ → BoardState → Type 0} {first mid now : Trying L}
      (close : ℕ → BoardState → ℕ → Bool) (Says : ℕ → BoardState → Type 0) → Walked shows seen area Found first mid
      → Walked shows seen close Says mid now
      → ((pos : BoardState) → Agrees (seen first.look) pos → Found pos.size (after pos first.moves) → (r : ℕ)
      → close pos.size (after pos first.moves) r ≡ true → area pos.size (after pos first.moves) r ≡ true)
      → ((pos : BoardState) → Agrees (seen first.look) pos → Found pos.size (after pos first.moves)
      → Says pos.size (after pos first.moves) → More pos.size (after pos first.moves))
      → Walked shows seen area More first now
  Walked-next {mid} {now} close Says walk look inside more = grind arith
