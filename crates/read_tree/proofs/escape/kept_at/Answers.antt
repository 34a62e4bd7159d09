-- What is kept are the other liberties, and then the empty sides.
use Rattle.std.proofs.Common.{ℕ, ◌≡◌, ◌≢◌, ◌==◌, ◌&&◌, ◌∙◌, Bool, true, not, inl, inr, sym, rules}
use Rattle.std.proofs.lemmas.Bool.{and_parts, or_cases}
use Rattle.trial_board.specs.Trials.{after}
use Rattle.read_moves.proofs.SideLemmas.{side_gives}
use Rattle.read_tree.proofs.escape.kept_at.Goals as goal

-- a point that is had and is not l is another one
is_other : (b : Bool) (x l : ℕ) → (b && not (x == l)) ≡ true → (b ≡ true) × (x ≢ l)
is_other b x l h = let parts = and_parts b (not (x == l)) h in (parts.0, search rules)

-- each point came from the liberties that are known, or is an empty side of l
pub returns-clause-over : goal.returns-clause-over
returns-clause-over g c = λ pos a x h.
    elim (or_cases _ _ (sym (c.add_sides.ensures.over pos a x) ∙ h)) [
      | inl before ↦ inl (is_other _ x c.args.l (sym (c.all_but-kept.ensures x) ∙ before))
      | inr beside ↦ inr (side_gives pos.size (after pos c.args.board.now.moves).cells c.args.l x beside)
    ]
