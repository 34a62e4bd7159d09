-- What asking about several plays in turn comes to: the meaning of no name changes between them, and their calls add
-- up.
use Rattle.std.proofs.Common.{◌≡◌, ℕ, ◌+◌, Bool, ◌&&◌, List, [], ◌∷◌, ◌++◌, refl, sym, ap, ◌∙◌, zero-add, arith}
use Rattle.std.proofs.lemmas.List.Sums.{sum_by-append}
use Rattle.go_rules.specs.declared.Colour.{Colour}
use Rattle.go_rules.specs.Position.{BoardState}
use Rattle.helpers.specs.HelperStates.{SlotState, says_yes}
use Rattle.helpers.specs.Agreement.{is_on, times_asked, all_say_yes, asks_of, raised, IsAskedFor}
use Rattle.helpers.specs.Totals.{asks_over}
use Rattle.helpers.proofs.CallCounts.{raised-cong, raised-zero, raised-add, says_yes-raised, is_on-raised}

-- helpers that are on alike and say alike are asked alike
times-cong : (on off says told : List ℕ → Bool) → ((n : List ℕ) → on n ≡ off n) → ((n : List ℕ) → says n ≡ told n)
    → (names : List (List ℕ)) (name : List ℕ) → times_asked on says names name ≡ times_asked off told names name
times-cong on off says told on_alike says_alike [] name = refl
times-cong on off says told on_alike says_alike (m ∷ ms) name =
    grind (arith, times-cong on off says told on_alike says_alike ms name)

module _ (times : List ℕ → ℕ) (slots : List SlotState) (board : BoardState) (at : ℕ) (friend : Colour) where
  -- a list whose counts rose says the same
  pub all_say_yes-raised : (names : List (List ℕ))
      → all_say_yes (raised times slots) names board at friend ≡ all_say_yes slots names board at friend
  all_say_yes-raised [] = refl
  all_say_yes-raised (n ∷ names) =
      ap (λ b. b && all_say_yes (raised times slots) names board at friend)
      (says_yes-raised times slots n board at friend)
      ∙ ap (λ b. says_yes slots n board at friend && b) (all_say_yes-raised names)

  -- a list whose counts rose is asked the same
  pub asks_of-raised : (names : List (List ℕ)) (name : List ℕ)
      → asks_of (raised times slots) names board at friend name ≡ asks_of slots names board at friend name
  asks_of-raised names name =
      times-cong (is_on (raised times slots)) (is_on slots) (λ n. says_yes (raised times slots) n board at friend)
      (λ n. says_yes slots n board at friend)
      (λ n. is_on-raised times slots n) (λ n. says_yes-raised times slots n board at friend) names name

module _ (slots : List SlotState) (board : BoardState) (friend : Colour) where
  -- before any play nothing was asked
  pub asked_over-none : slots ≡ raised (asks_over slots [] board friend) slots
  asked_over-none = sym (raised-zero slots)

  -- one more play: its answer is that of the list as it was at first
  pub answer_over-more : (plays : List (List (List ℕ) × ℕ)) (names : List (List ℕ)) (at : ℕ)
      (now after : List SlotState) (answer : Bool) → now ≡ raised (asks_over slots plays board friend) slots
      → IsAskedFor now names board at friend answer after → answer ≡ all_say_yes slots names board at friend
  answer_over-more plays names at now after answer is asked =
      asked.answer ∙ ap (λ l. all_say_yes l names board at friend) is
      ∙ all_say_yes-raised (asks_over slots plays board friend) slots board at friend names

  -- one more play: its calls are added to those of the plays before
  pub asked_over-more : (plays : List (List (List ℕ) × ℕ)) (names : List (List ℕ)) (at : ℕ) (now after : List SlotState)
      (answer : Bool) → now ≡ raised (asks_over slots plays board friend) slots
      → IsAskedFor now names board at friend answer after
      → after ≡ raised (asks_over slots (plays ++ (names, at) ∷ []) board friend) slots
  asked_over-more plays names at now after answer is asked =
      let before = asks_over slots plays board friend in
      asked.calls ∙ ap (λ l. raised (asks_of l names board at friend) l) is
      ∙ raised-cong (asks_of (raised before slots) names board at friend) (asks_of slots names board at friend)
      (raised before slots) (λ n. asks_of-raised before slots board at friend names n)
      ∙ raised-add before (asks_of slots names board at friend) slots
      ∙ raised-cong (λ n. before n + asks_of slots names board at friend n)
      (asks_over slots (plays ++ (names, at) ∷ []) board friend) slots
      (λ n. ap (λ k. before n + k) (sym (zero-add (asks_of slots names board at friend n)))
      ∙ sym (sum_by-append (λ play. asks_of slots play.0 board play.1 friend n) plays ((names, at) ∷ [])))
