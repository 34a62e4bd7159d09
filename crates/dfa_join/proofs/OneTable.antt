-- A list of patterns has one table.
use Rattle.std.proofs.Common.{◌≡◌, ℕ, ◌+◌, ◌<◌, ◌≤◌, max, List, [], ◌∷◌, ◌++◌, length, take, map, get_or, zero, suc}
use Rattle.std.proofs.Common.{refl, sym, ap, ◌∙◌, subst, arith, inl, inr}
use Rattle.std.proofs.lemmas.Bool.{cases_lt}
use Rattle.std.proofs.lemmas.List.{ext_get_or}
use Rattle.std.proofs.Math.Seq.{take-suc}
use Rattle.std.proofs.lemmas.Grind.{same_number_lists}
use Rattle.pat_types.specs.declared.pattern.Pattern.{Pattern}
use Rattle.dfa_core.specs.declared.automaton.Seen.{Seen}
use Rattle.dfa_core.specs.declared.automaton.Seen.TheVariants.{Friend, Enemy, Empty, Off}
use Rattle.dfa_core.specs.Words.{Word}
use Rattle.dfa_core.specs.Automata.{Row, no_row, row_at, step_at, reach, accepted}
use Rattle.dfa_core.specs.States.{state_of}
use Rattle.dfa_core.proofs.CountLemmas.{Takes-one}
use Rattle.dfa_core.proofs.Walks.{reach_from-push}
use Rattle.dfa_join.specs.Pairs.{IsInOrder, fresh_after, targets_of, IsCanonical}
use Rattle.dfa_join.specs.Compiled.{IsTableOf}
use Rattle.dfa_join.proofs.Orders.{fresh_after-append, IsInOrder-back, first_in_order, targets_of-push}

-- the four letters
abbrev letters : List Seen
letters = Friend ∷ Enemy ∷ Empty ∷ Off ∷ []

-- the targets of a row are where its letters lead to
targets-letters : (rows : List Row) (r : ℕ) → length (row_at rows r).targets ≡ 4
    → (row_at rows r).targets ≡ map (step_at rows r) letters
targets-letters rows r four =
    same_number_lists (row_at rows r).targets (map (step_at rows r) letters) four
    (λ k low. at k (omega (arith, four)))
  where
    at : (k : ℕ) → k < 4 → get_or (row_at rows r).targets k 0 ≡ get_or (map (step_at rows r) letters) k 0
    at zero low = refl
    at (suc zero) low = refl
    at (suc (suc zero)) low = refl
    at (suc (suc (suc zero))) low = refl
    at (suc (suc (suc (suc k)))) low = absurd (omega arith)

-- one row more stands behind the first ones
targets_of-more : (rows : List Row) (r : ℕ) → r < length rows
    → targets_of (take (suc r) rows) ≡ targets_of (take r rows) ++ (row_at rows r).targets
targets_of-more rows r low =
    ap targets_of (take-suc rows r no_row low) ∙ targets_of-push (take r rows) (row_at rows r)

-- the targets of a row go on in order after those of the rows before it
row_in_order : (rows : List Row) (r : ℕ) → IsCanonical rows → r < length rows
    → IsInOrder (fresh_after 1 (targets_of (take r rows))) (row_at rows r).targets
row_in_order rows r canonical low =
    IsInOrder-back 1 (targets_of (take r rows)) (row_at rows r).targets
    (subst (IsInOrder 1) (targets_of-more rows r low) (first_in_order rows (suc r) canonical))

-- a word that reaches the row with this number in both tables
record Meets (a b : List Row) (r : ℕ) : Type 0 where
  word : Word
  first : reach a word ≡ r
  second : reach b word ≡ r

-- for each of the first numbers some word reaches the row with it in both tables
abbrev Meet : List Row → List Row → ℕ → Type 0
Meet a b n = (r : ℕ) → r < n → Meets a b r

module _ (patterns : List Pattern) (a b : List Row) (one : IsTableOf patterns a) (two : IsTableOf patterns b) where
  -- words that reach one row of the first table reach one row of the second
  over : (u v : Word) → reach a u ≡ reach a v → reach b u ≡ reach b v
  over u v e = two.automaton.rows.same u v (one.automaton.rows.apart u v e)

  -- words that reach one row of the second table reach one row of the first
  back : (u v : Word) → reach b u ≡ reach b v → reach a u ≡ reach a v
  back u v e = one.automaton.rows.same u v (two.automaton.rows.apart u v e)

  -- from a row that a word reaches in both tables, a letter that leads to a known row or to the next one leads to the
  -- same row in both
  same_step : (n r : ℕ) (x : Seen) → Meet a b n → Meets a b r → step_at a r x ≤ n → step_at b r x ≤ n
      → step_at a r x ≡ step_at b r x
  same_step n r x known here low high =
      let w : Word = here.word ++ x ∷ [] in
      let to_a : reach a w ≡ step_at a r x = reach_from-push a 0 here.word x ∙ ap (λ q. step_at a q x) here.first in
      let to_b : reach b w ≡ step_at b r x = reach_from-push b 0 here.word x ∙ ap (λ q. step_at b q x) here.second in
      elim (cases_lt (step_at a r x) n) [
        | inl before ↦
            let there = known (step_at a r x) before in
            sym there.second ∙ over there.word w (there.first ∙ sym to_a) ∙ to_b
        | inr behind ↦ elim (cases_lt (step_at b r x) n) [
          | inl before ↦
              let there = known (step_at b r x) before in
              sym to_a ∙ back w there.word (to_b ∙ sym there.second) ∙ there.first
          | inr also ↦ omega arith
        ]
      ]

  -- the row that the letter leads to is reached in both tables too
  after_step : (n r : ℕ) (x : Seen) → Meet a b n → Meets a b r → step_at a r x ≤ n → step_at b r x ≤ n
      → Meet a b (max n (step_at a r x + 1))
  after_step n r x known here low high q below =
      elim (cases_lt q n) [
        | inl before ↦ known q before
        | inr behind ↦
            let last : step_at a r x ≡ q = omega arith in
            record {
              word = here.word ++ x ∷ [];
              first = reach_from-push a 0 here.word x ∙ ap (λ p. step_at a p x) here.first ∙ last;
              second = reach_from-push b 0 here.word x ∙ ap (λ p. step_at b p x) here.second
                  ∙ sym (same_step n r x known here low high) ∙ last;
            }
      ]

  -- some letters lead from a row to the same rows in both tables, and these are reached in both
  same_steps : (xs : List Seen) (n r : ℕ) → Meet a b n → Meets a b r → IsInOrder n (map (step_at a r) xs)
      → IsInOrder n (map (step_at b r) xs)
      → (map (step_at a r) xs ≡ map (step_at b r) xs) × Meet a b (fresh_after n (map (step_at a r) xs))
  same_steps [] n r known here low high = (refl, known)
  same_steps (x ∷ xs) n r known here low high =
      let same = same_step n r x known here low.0 high.0 in
      let rest = same_steps xs (max n (step_at a r x + 1)) r (after_step n r x known here low.0 high.0) here low.1
      (subst (λ t. IsInOrder (max n (t + 1)) (map (step_at b r) xs)) (sym same) high.1) in
      (ap (λ t. t ∷ map (step_at a r) xs) same ∙ ap (λ ts. step_at b r x ∷ ts) rest.0, rest.1)

  -- a row has the same targets in both tables, where these agree before it
  same_row : (n r : ℕ) → Meet a b n → r < n → r < length a → r < length b → IsInOrder n (row_at a r).targets
      → IsInOrder n (row_at b r).targets
      → ((row_at a r).targets ≡ (row_at b r).targets) × Meet a b (fresh_after n (row_at a r).targets)
  same_row n r known low in_a in_b first second =
      let of_a = targets-letters a r (one.four r in_a) in
      let of_b = targets-letters b r (two.four r in_b) in
      let same = same_steps letters n r known (known r low) (subst (IsInOrder n) of_a first)
      (subst (IsInOrder n) of_b second) in
      (of_a ∙ same.0 ∙ sym of_b, subst (λ ts. Meet a b (fresh_after n ts)) (sym of_a) same.1)

  -- a row has the same targets in both tables, where the rows before it have, and what these lead to is reached in
  -- both
  next_row : (r : ℕ) → r < length a → r < length b → targets_of (take r a) ≡ targets_of (take r b)
      → Meet a b (fresh_after 1 (targets_of (take r a)))
      → ((row_at a r).targets ≡ (row_at b r).targets)
      × Meet a b (fresh_after (fresh_after 1 (targets_of (take r a))) (row_at a r).targets)
  next_row r low high same known =
      same_row (fresh_after 1 (targets_of (take r a))) r known (one.order.early r low) low high
      (row_in_order a r one.order low)
      (subst (λ ts. IsInOrder (fresh_after 1 ts) (row_at b r).targets) (sym same) (row_in_order b r two.order high))

  -- the first rows have the same targets in both tables, and what these lead to is reached in both
  same_rows : (r : ℕ) → r ≤ length a → r ≤ length b
      → (targets_of (take r a) ≡ targets_of (take r b)) × Meet a b (fresh_after 1 (targets_of (take r a)))
  same_rows zero in_a in_b =
      (refl, λ q low. record { word = []; first = omega (arith, low); second = omega (arith, low) })
  same_rows (suc r) in_a in_b =
      let before = same_rows r (omega arith) (omega arith) in
      let here = next_row r (omega arith) (omega arith) before.0 before.1 in
      let more_a = targets_of-more a r (omega arith) in
      let more_b = targets_of-more b r (omega arith) in (
        more_a ∙ ap (λ ts. ts ++ (row_at a r).targets) before.0 ∙ ap (λ ts. targets_of (take r b) ++ ts) here.0
            ∙ sym more_b,
        subst (Meet a b) (sym (ap (fresh_after 1) more_a
            ∙ fresh_after-append 1 (targets_of (take r a)) (row_at a r).targets)) here.1,
      )

  -- a row that a word reaches in both tables accepts the same numbers in both
  same_numbers : (r : ℕ) → Meets a b r → (row_at a r).numbers ≡ (row_at b r).numbers
  unfolding accepted
  same_numbers r here =
      sym (ap (λ q. (row_at a q).numbers) here.first) ∙ one.automaton.accepts here.word
      ∙ sym (two.automaton.accepts here.word) ∙ ap (λ q. (row_at b q).numbers) here.second

  -- and it has the same depth
  same_depth : (r : ℕ) → Meets a b r → (row_at a r).depth ≡ (row_at b r).depth
  same_depth r here =
      sym (ap (λ q. (row_at a q).depth) here.first) ∙ one.automaton.depths here.word
      ∙ sym (two.automaton.depths here.word) ∙ ap (λ q. (row_at b q).depth) here.second

  -- a row of the first table is that of the second with its number
  one_row : (r : ℕ) → r < length a → r < length b → row_at a r ≡ row_at b r
  one_row r low high =
      let before = same_rows r (omega arith) (omega arith) in
      let here = before.1 r (one.order.early r low) in
      let targets = (next_row r low high before.0 before.1).0 in
      let numbers = same_numbers r here in
      let depth = same_depth r here in
      λ i. record { targets = targets i; numbers = numbers i; depth = depth i }

  -- two tables of one list have the same rows
  pub one_table : a ≡ b
  one_table =
      let many : length a ≡ length b = Takes-one (state_of patterns) (length a) (length b) one.states two.states in
      ext_get_or no_row a b many (λ r low. one_row r low (omega (arith, low, many)))
