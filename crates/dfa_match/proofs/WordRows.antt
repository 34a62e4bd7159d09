-- Rows to which the words of a position lead.
use Rattle.std.proofs.Common.{◌≡◌, ℕ, ◌+◌, ◌-◌, ◌≤◌}
use Rattle.std.proofs.Common.{List, [], ◌++◌, refl, ap, ◌∙◌}
use Rattle.std.proofs.Common.{arith}
use Rattle.go_rules.specs.declared.Colour.{Colour}
use Rattle.go_rules.specs.Position.{BoardState}
use Rattle.dfa_core.specs.Automata.{Row, row_at, step_at, reach, reach_from, accepted, IsDead}
use Rattle.dfa_core.specs.Words.{Word}
use Rattle.dfa_core.proofs.Walks.{reach_from-push, reach_from-append, reach_from-dead}
use Rattle.dfa_match.specs.SeenLetters.{seen_at, word_from, word_at}
use Rattle.dfa_match.specs.Walks.{row_after}
use Rattle.dfa_match.proofs.SeenWords.{word_split, word_from-zero, word_from-suc}

-- what is accepted at the end of a word is what the row has that it leads to
pub accepted-at : (automaton : List Row) (w : Word)
    → accepted automaton w ≡ (row_at automaton (reach automaton w)).numbers
unfolding accepted
accepted-at automaton w = refl

module _ (automaton : List Row) (pos : BoardState) (friend : Colour) (t : ℕ) where
  -- the word of more letters goes on from that of fewer
  pub word_on : (m i n : ℕ) → i ≤ n
      → word_at pos friend t m n ≡ word_at pos friend t m i ++ word_from (seen_at pos friend t m) (0 + i) (n - i)
  word_on m i n few = grind (arith, word_split (seen_at pos friend t m) 0 i (n - i))

  -- behind a dead row nothing is accepted
  pub dead_ends : (m i n : ℕ) → i ≤ n → IsDead automaton (row_after automaton pos friend t i m)
      → accepted automaton (word_at pos friend t m n) ≡ []
  dead_ends m i n few dead =
      let rest : Word = word_from (seen_at pos friend t m) (0 + i) (n - i) in
      let stays : reach automaton (word_at pos friend t m n) ≡ row_after automaton pos friend t i m =
      ap (reach automaton) (word_on m i n few) ∙ reach_from-append automaton 0 (word_at pos friend t m i) rest
      ∙ reach_from-dead automaton (row_after automaton pos friend t i m) rest dead in
      accepted-at automaton (word_at pos friend t m n) ∙ ap (λ r. (row_at automaton r).numbers) stays ∙ dead.silent

  -- the row of a point after one letter more
  pub row_next : (i m : ℕ)
      → step_at automaton (row_after automaton pos friend t i m)
      (seen_at pos friend t m i) ≡ row_after automaton pos friend t (i + 1) m
  row_next i m = grind (arith, word_from-suc, word_from-zero, word_split, reach_from-push)

  -- the row of a point after one letter more and further ones
  pub row_on : (i j m : ℕ) → row_after automaton pos friend t (i + 1 + j) m
      ≡ reach_from automaton (step_at automaton (row_after automaton pos friend t i m) (seen_at pos friend t m i))
      (word_from (seen_at pos friend t m) (i + 1) j)
  row_on i j m = grind (arith, word_split, reach_from-append, row_next)
