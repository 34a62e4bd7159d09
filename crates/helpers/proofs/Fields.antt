-- What one more field changes, where the helpers of all fields before it said yes.
use Rattle.std.proofs.Common.{◌≡◌, ℕ, ◌+◌, ◌<◌, length, take, drop, get_or, Bool, true, false, not, ◌&&◌, List, [], ◌∷◌}
use Rattle.std.proofs.Common.{◌++◌, refl, sym, ap, subst, ◌∙◌}
use Rattle.std.specs.List.{list_any}
use Rattle.std.specs.Str.{bytes_eq}
use Rattle.std.proofs.lemmas.Bool.{and_parts, not-true, not-false}
use Rattle.std.proofs.lemmas.List.{take_more, take-append-drop}
use Rattle.go_rules.specs.declared.Colour.{Colour}
use Rattle.go_rules.specs.Position.{BoardState}
use Rattle.pat_types.specs.declared.pattern.Item.{Item}
use Rattle.helpers.specs.HelperStates.{SlotState, says_yes, after_asking}
use Rattle.helpers.specs.Fields.{names_helper, helper_names}
use Rattle.helpers.specs.Agreement.{all_say_yes, asks_of, raised, IsAskedFor}
use Rattle.helpers.proofs.HelperNames.{helper_names-append, helper_names-named, helper_names-other}
use Rattle.helpers.proofs.Steps.{asked_for-again, asked_for-new, asked_for-stop}

module _ (slots : List SlotState) (board : BoardState) (at : ℕ) (friend : Colour) (before : List Item) (item : Item)
    (now : List SlotState) (agree : all_say_yes slots (helper_names before) board at friend ≡ true)
    (is : now ≡ raised (asks_of slots (helper_names before) board at friend) slots) where
  -- the field names a helper that none before it names, and this was asked
  pub asked_for-anew : (after : List SlotState) (answer : Bool) (name : List ℕ)
      → (names_helper item && not (list_any (λ k. bytes_eq k item.name) (helper_names before))) ≡ true
      → name ≡ item.name
      → answer ≡ says_yes now name board at friend → after ≡ after_asking name now
      → IsAskedFor slots (helper_names (before ++ item ∷ [])) board at friend answer after
  asked_for-anew after answer name anew same told asked =
      let both = and_parts (names_helper item)
      (not (list_any (λ k. bytes_eq k item.name) (helper_names before))) anew in
      subst (λ ns. IsAskedFor slots ns board at friend answer after) (sym (helper_names-named before item both.0))
      (asked_for-new slots board at friend (helper_names before) item.name now after answer agree
      (not-true (list_any (λ k. bytes_eq k item.name) (helper_names before)) both.1) is
      (told ∙ ap (λ n. says_yes now n board at friend) same) (asked ∙ ap (λ n. after_asking n now) same))

  -- a field that names a helper again, or none, leaves the answer and the list as they were
  passed_by : (b : Bool) → names_helper item ≡ b
      → (names_helper item && not (list_any (λ k. bytes_eq k item.name) (helper_names before))) ≡ false
      → IsAskedFor slots (helper_names (before ++ item ∷ [])) board at friend true now
  passed_by true names passed =
      let there : not (list_any (λ k. bytes_eq k item.name) (helper_names before)) ≡ false =
      sym (ap (λ b. b && not (list_any (λ k. bytes_eq k item.name) (helper_names before))) names) ∙ passed in
      subst (λ ns. IsAskedFor slots ns board at friend true now) (sym (helper_names-named before item names))
      (asked_for-again slots board at friend (helper_names before) item.name now agree
      (not-false (list_any (λ k. bytes_eq k item.name) (helper_names before)) there) is)
  passed_by false names passed =
      subst (λ ns. IsAskedFor slots ns board at friend true now) (sym (helper_names-other before item names))
      (record { answer = sym agree; calls = is })

  -- the field names no helper, or one that was asked already
  pub asked_for-passed : (names_helper item && not (list_any (λ k. bytes_eq k item.name) (helper_names before))) ≡ false
      → IsAskedFor slots (helper_names (before ++ item ∷ [])) board at friend true now
  asked_for-passed passed = passed_by (names_helper item) refl passed

module _ (slots : List SlotState) (board : BoardState) (at : ℕ) (friend : Colour) (items : List Item) (i : ℕ)
    (item : Item) (within : i < length items) (read : item ≡ get_or items i item)
    (answer : Bool) (after : List SlotState)
    (asked : IsAskedFor slots (helper_names (take i items ++ item ∷ [])) board at friend answer after) where
  -- the fields up to the i-th
  next : take (i + 1) items ≡ take i items ++ item ∷ []
  next = take_more items i item within ∙ ap (λ x. take i items ++ x ∷ []) (sym read)

  -- the names of all fields
  whole : helper_names items ≡ helper_names (take i items ++ item ∷ []) ++ helper_names (drop (i + 1) items)
  whole =
      ap helper_names (sym (take-append-drop (i + 1) items))
      ∙ helper_names-append (take (i + 1) items) (drop (i + 1) items)
      ∙ ap (λ l. helper_names l ++ helper_names (drop (i + 1) items)) next

  -- after a no the other fields change nothing
  pub asked_for-end : answer ≡ false → IsAskedFor slots (helper_names items) board at friend false after
  asked_for-end refused =
      subst (λ ns. IsAskedFor slots ns board at friend false after) (sym whole)
      (asked_for-stop slots board at friend (helper_names (take i items ++ item ∷ []))
      (helper_names (drop (i + 1) items)) after
      (subst (λ b. IsAskedFor slots (helper_names (take i items ++ item ∷ [])) board at friend b after) refused asked))

  -- after a yes the next field is looked at
  pub asked_for-next : answer ≡ true → IsAskedFor slots (helper_names (take (i + 1) items)) board at friend true after
  asked_for-next agreed =
      subst (λ l. IsAskedFor slots (helper_names l) board at friend true after) (sym next)
      (subst (λ b. IsAskedFor slots (helper_names (take i items ++ item ∷ [])) board at friend b after) agreed asked)
