-- What a function of the walk needs is still so after looks.
use Rattle.std.proofs.Common.{◌≡◌, ℕ, ◌*◌, ◌<◌, Bool, true, List, sym, subst, arith}
use Rattle.std.specs.Ordering.{nat_cmp}
use Rattle.std.specs.FinSet as sets
use Rattle.go_rules.specs.Position.{BoardState}
use Rattle.go_base.specs.Facts.{Fact, SizeIs, Agrees, agrees_before}
use Rattle.trial_board.specs.declared.moves.TrialMove.{TrialMove}
use Rattle.trial_board.specs.Trials.{Trying, KeepsTrial, after}
use Rattle.trial_board.proofs.AfterLemmas.{size-after}
use Rattle.read_rules.proofs.CandidateLaws.{candidate_on}
use Rattle.read_rules.specs.Candidates.{is_candidate}
use Rattle.read_rules.proofs.AreaLemmas.{target_on}
use Rattle.read_tree.specs.declared.table.Entry.{Entry}
use Rattle.read_rules.specs.declared.turn.Turn.{Turn}
use Rattle.read_tree.specs.declared.allowances.Allowances.{Allowances}
use Rattle.read_tree.specs.Allowances.{has_some}
use Rattle.read_tree.specs.Stages.{is_capture}
use Rattle.read_tree.specs.Table.{IsTrueTableAt}
use Rattle.read_tree.specs.Walk.{IsReady, IsPointOf, AreLibertiesOf, AreCapturesOf, OnEachAgreeing}

-- a candidate is on the board
pub candidate_inside : (turn : Turn) (shown : BoardState) (moves : List TrialMove) (p : ℕ)
    → is_candidate turn (after shown moves) p ≡ true → p < shown.size * shown.size
candidate_inside turn shown moves p h = grind (arith, size-after, candidate_on)

-- a point that lies on the board lies on it after the moves, on a position that agrees with what was seen
pub on_after : {seen : Fact → Bool} {pos : BoardState} {t : ℕ} (s : ℕ) → seen (SizeIs s) ≡ true → Agrees seen pos
    → (moves : List TrialMove) → t < s * s → t < (after pos moves).size * (after pos moves).size
on_after {pos} {t} s told agrees moves on = grind (arith, target_on, size-after)

-- Looks that leave the moves and the position shown.
module _ {L : Type 0} {shows : L → BoardState} {seen : L → Fact → Bool} {old new : Trying L}
    (stays : KeepsTrial shows seen old new) where
  -- a point of the board is still one
  pub point_after : (p : ℕ) → IsPointOf shows old p → IsPointOf shows new p
  point_after p on = subst (λ (pos : BoardState). p < pos.size * pos.size) (sym stays.shown) on

  -- points that are candidates at a turn, on each position that agrees with what is seen now, are on it
  pub candidates_inside : (turn : Turn) (points : sets.FinSet nat_cmp) → Agrees (seen new.look) (shows new.look)
      → OnEachAgreeing seen old new (λ here. (p : ℕ) → sets.contains points p ≡ true
      → is_candidate turn here p ≡ true)
      → (p : ℕ) → sets.contains points p ≡ true → IsPointOf shows new p
  candidates_inside turn points holds each p h =
      point_after p (candidate_inside turn (shows old.look) old.moves p
      (each (shows old.look) (subst (Agrees (seen new.look)) stays.shown holds) p h))

  -- the liberties that are known are still the target's
  pub liberties_after : (target : ℕ) (points : sets.FinSet nat_cmp) → AreLibertiesOf seen old target points
      → AreLibertiesOf seen new target points
  liberties_after target points its = λ pos a. rw stays.moves (its pos (agrees_before stays.grows a))

  -- the captures that are known are still the captures next to the target
  pub captures_after : (target : ℕ) (points : sets.FinSet nat_cmp) → AreCapturesOf seen old target points
      → AreCapturesOf seen new target points
  captures_after target points its = λ pos a. rw stays.moves (its pos (agrees_before stays.grows a))

  -- the captures that the looks found are the captures next to the target
  pub captures_found : (target : ℕ) (points : sets.FinSet nat_cmp)
      → OnEachAgreeing seen old new (λ here. (p : ℕ) → sets.contains points p ≡ is_capture here target p)
      → AreCapturesOf seen new target points
  captures_found target points its = λ pos a. rw stays.moves (its pos a)

  -- the walk may go on, where some allowance is left, by a table that is true of what is seen
  pub ready_after : {turn : Turn} {n : ℕ} {asked : Allowances} {points : sets.FinSet nat_cmp}
      {entries later : List Entry} (left : Allowances) → IsReady shows seen old turn n asked points entries
      → has_some left ≡ true → IsTrueTableAt (seen new.look) turn later
      → IsReady shows seen new turn n left points later
  ready_after {turn} {points} left ready some table = grind (arith, point_after, liberties_after)
