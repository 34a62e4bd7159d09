-- What one more name at the end of the list of names changes, where the helpers of all names before it said yes.
use Rattle.std.proofs.Common.{◌≡◌, ℕ, suc, Bool, true, false, cond, ◌&&◌, List, [], ◌∷◌, ◌++◌, refl, sym, ap, subst}
use Rattle.std.proofs.Math.Bool.{and-true}
use Rattle.std.proofs.Common.{◌∙◌}
use Rattle.std.specs.List.{list_all, list_any}
use Rattle.std.specs.Str.{bytes_eq}
use Rattle.std.proofs.lemmas.List.Folds.{list_all-append}
use Rattle.go_rules.specs.declared.Colour.{Colour}
use Rattle.go_rules.specs.Position.{BoardState}
use Rattle.helpers.specs.HelperStates.{SlotState, says_yes, after_asking}
use Rattle.helpers.specs.Agreement.{is_on, all_say_yes, asks_of, raised, IsAskedFor}
use Rattle.helpers.proofs.Times.{same_name, times-other, times-again, times-none, times-new, times-stop}
use Rattle.helpers.proofs.Times.{says-again}
use Rattle.helpers.proofs.CallCounts.{one_more_of, raised-cong, raised-zero, says_yes-raised, after_asking-raised}

module _ (slots : List SlotState) (board : BoardState) (at : ℕ) (friend : Colour) where
  -- what the helper of a name says
  says : List ℕ → Bool
  says n = says_yes slots n board at friend

  -- the answer for one more name
  pub all_say_yes-more : (ms : List (List ℕ)) (m : List ℕ) → all_say_yes slots ms board at friend ≡ true
      → all_say_yes slots (ms ++ m ∷ []) board at friend ≡ says_yes slots m board at friend
  all_say_yes-more ms m agree =
      list_all-append (λ n. says_yes slots n board at friend) ms (m ∷ [])
      ∙ ap (λ b. b && (says_yes slots m board at friend && true)) agree
      ∙ and-true (says_yes slots m board at friend)

  -- before any name nothing was asked
  pub asked_for-none : IsAskedFor slots [] board at friend true slots
  asked_for-none = record { answer = refl; calls = sym (raised-zero slots) }

  -- a name that stands there already is not asked again
  pub asked_for-again : (ms : List (List ℕ)) (m : List ℕ) (now : List SlotState)
      → all_say_yes slots ms board at friend ≡ true → list_any (λ k. bytes_eq k m) ms ≡ true
      → now ≡ raised (asks_of slots ms board at friend) slots → IsAskedFor slots (ms ++ m ∷ []) board at friend true now
  asked_for-again ms m now agree there is = record {
    answer = sym (all_say_yes-more ms m agree
        ∙ says-again (is_on slots) (λ n. says_yes slots n board at friend) ms m agree there);
    calls = is ∙ raised-cong (asks_of slots ms board at friend) (asks_of slots (ms ++ m ∷ []) board at friend) slots
        (λ n. sym (times-again (is_on slots) (λ n. says_yes slots n board at friend) ms m n there));
  }

  -- how often each name is asked with a new name at the end
  asks-new : (ms : List (List ℕ)) (m n : List ℕ) → all_say_yes slots ms board at friend ≡ true
      → list_any (λ k. bytes_eq k m) ms ≡ false
      → (b : Bool) → bytes_eq m n ≡ b
      → cond (b && is_on slots m) (suc (asks_of slots ms board at friend n)) (asks_of slots ms board at friend n)
      ≡ asks_of slots (ms ++ m ∷ []) board at friend n
  asks-new ms m n agree gone true e =
      let same : m ≡ n = same_name m n e in
      let none : asks_of slots ms board at friend n ≡ 0 =
      subst (λ k. asks_of slots ms board at friend k ≡ 0) same
      (times-none (is_on slots) (λ n. says_yes slots n board at friend) ms m gone) in
      ap (λ k. cond (is_on slots m) (suc k) k) none
      ∙ sym (subst (λ k. asks_of slots (ms ++ m ∷ []) board at friend k ≡ cond (is_on slots m) 1 0) same
      (times-new (is_on slots) (λ n. says_yes slots n board at friend) ms m agree gone))
  asks-new ms m n agree gone false e = sym (times-other (is_on slots) (λ n. says_yes slots n board at friend) ms m n e)

  -- a new name is asked
  pub asked_for-new : (ms : List (List ℕ)) (m : List ℕ) (now after : List SlotState) (answer : Bool)
      → all_say_yes slots ms board at friend ≡ true → list_any (λ k. bytes_eq k m) ms ≡ false
      → now ≡ raised (asks_of slots ms board at friend) slots → answer ≡ says_yes now m board at friend
      → after ≡ after_asking m now → IsAskedFor slots (ms ++ m ∷ []) board at friend answer after
  unfolding one_more_of
  asked_for-new ms m now after answer agree gone is told asked = record {
    answer = told ∙ ap (λ l. says_yes l m board at friend) is
        ∙ says_yes-raised (asks_of slots ms board at friend) slots m board at friend
        ∙ sym (all_say_yes-more ms m agree);
    calls =
        asked ∙ ap (after_asking m) is ∙ after_asking-raised m (asks_of slots ms board at friend) slots
        ∙ raised-cong (one_more_of m (is_on slots m) (asks_of slots ms board at friend))
        (asks_of slots (ms ++ m ∷ []) board at friend) slots (λ n. asks-new ms m n agree gone (bytes_eq m n) refl);
  }

  -- where one says no, the names behind it change nothing
  pub asked_for-stop : (ms rest : List (List ℕ)) (after : List SlotState)
      → IsAskedFor slots ms board at friend false after → IsAskedFor slots (ms ++ rest) board at friend false after
  asked_for-stop ms rest after for = record {
    answer = sym (list_all-append (λ n. says_yes slots n board at friend) ms rest
        ∙ ap (λ b. b && list_all (λ n. says_yes slots n board at friend) rest) (sym for.answer));
    calls = for.calls ∙ raised-cong (asks_of slots ms board at friend)
        (asks_of slots (ms ++ rest) board at friend) slots
        (λ n. sym (times-stop (is_on slots) (λ n. says_yes slots n board at friend) ms rest n (sym for.answer)));
  }
