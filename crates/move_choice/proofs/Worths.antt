-- The first number that an item says, by the definition and in words.
use Rattle.std.proofs.Common.{◌≡◌, ◌↔◌, ℕ, inl, inr, ◌&&◌, cond, List, [], ◌∷◌, Option, Some, None}
use Rattle.std.proofs.Common.{All, unwrap_or, slice_get, refl, sym, ap, ◌∙◌, subst, arith}
use Rattle.std.specs.Prelude.{codes}
use Rattle.std.specs.List.{filter_map}
use Rattle.std.specs.Str.{bytes_eq}
use Rattle.std.specs.Str.Parse.{digits_value}
use Rattle.std.proofs.lemmas.Bool.{cases_Bool, and_parts, and_from, lt-ltb, le-leb}
use Rattle.std.proofs.lemmas.List.Elements.{All-nil, All-cons, All-head, All-tail, filter_map-append}
use Rattle.std.proofs.lemmas.List.Sums.{list_all-from_AllPass}
use Rattle.std.proofs.lemmas.Option.{none-some, same_Some}
use Rattle.std.proofs.lemmas.Slice.Eq.{bytes_eq-Decides}
use Rattle.pat_types.specs.declared.pattern.Item.{Item}
use Rattle.move_choice.specs.Worth.{is_short_number, number_said, worth_said, SaysWorth, SaysNothing}
use Rattle.move_choice.specs.Worth.{IsWorth, said, unsaid}
use Rattle.move_choice.proofs.ShortNumbers.{short-parts}

-- what an item says in words it says
said-from : (item : Item) (n : ℕ) → SaysWorth item n → worth_said item ≡ Some n
said-from item n is = grind (arith, and_from, lt-ltb, le-leb, list_all-from_AllPass, bytes_eq-Decides)

module _ (item : Item) (n : ℕ) where
  -- what a text in parentheses says it says in words
  by_text : (text : Option (List ℕ)) → item.text ≡ text → number_said item.name text ≡ Some n → SaysWorth item n
  by_text None here e = absurd (none-some n e)
  by_text (Some text) here e =
      elim (cases_Bool (bytes_eq item.name (codes "value") && is_short_number text)) [
        | inl right ↦
            let both = and_parts (bytes_eq item.name (codes "value")) (is_short_number text) right in
            let parts = short-parts text both.1 in
            record {
              name = (bytes_eq-Decides item.name (codes "value")).0 both.0;
              text = text;
              in_parentheses = here;
              not_empty = parts.0;
              few = parts.1;
              digits = parts.2;
              number = same_Some n (digits_value 10 text)
                  (sym e ∙ ap (λ b. cond b (Some (digits_value 10 text)) None) right);
            }
        | inr wrong ↦ absurd (none-some n (sym (ap (λ b. cond b (Some (digits_value 10 text)) None) wrong) ∙ e))
      ]

  -- what an item says it says in words
  said-to : worth_said item ≡ Some n → SaysWorth item n
  said-to e = by_text item.text refl e

-- an item that says nothing in words says nothing
nothing-from : (item : Item) → SaysNothing item → worth_said item ≡ None
nothing-from item none = by_number (worth_said item) refl
  where
    by_number : (number : Option ℕ) → worth_said item ≡ number → number ≡ None
    by_number None here = refl
    by_number (Some n) here = absurd (none n (said-to item n here))

-- if no item says a number there are none
filter_map-nothing : (items : List Item) → All SaysNothing items → filter_map worth_said items ≡ []
filter_map-nothing [] none = refl
filter_map-nothing (item ∷ items) none =
    grind (
      arith,
      nothing-from item (All-head SaysNothing item items none),
      filter_map-nothing items (All-tail SaysNothing item items none),
    )

-- the first number of these items, and 0 if there is none
abbrev first : List Item → ℕ
first items = unwrap_or (slice_get (filter_map worth_said items) 0) 0

-- the first number in words is the first number
first-from : (items : List Item) (n : ℕ) → IsWorth items n → first items ≡ n
first-from items n (said before item after place none is) =
    grind (
      arith,
      filter_map-append worth_said before (item ∷ after),
      filter_map-nothing before none,
      said-from item n is,
      unwrap_or,
      slice_get,
    )
first-from items n (unsaid none zero) = grind (arith, unwrap_or, slice_get, filter_map-nothing)

-- an item more in front that says nothing
later : (item : Item) (items : List Item) (n : ℕ) → SaysNothing item → IsWorth items n → IsWorth (item ∷ items) n
later item items n nothing (said before at after place none is) =
    said (item ∷ before) at after (ap (λ l. item ∷ l) place) (All-cons SaysNothing item before nothing none) is
later item items n nothing (unsaid none zero) = unsaid (All-cons SaysNothing item items nothing none) zero

-- some number is the first in words
some_worth : (items : List Item) → (n : ℕ) × IsWorth items n
some_worth [] = (0, unsaid (All-nil SaysNothing) refl)
some_worth (item ∷ items) = by_number (some_worth items) (worth_said item) refl
  where
    by_number : (n : ℕ) × IsWorth items n → (number : Option ℕ) → worth_said item ≡ number
        → (n : ℕ) × IsWorth (item ∷ items) n
    by_number rest None here =
        (rest.0, later item items rest.0 (λ n is. none-some n (sym here ∙ said-from item n is)) rest.1)
    by_number rest (Some n) here = (n, said [] item items refl (All-nil SaysNothing) (said-to item n here))

-- a number is the first exactly if it is in words
pub first-words : (items : List Item) (n : ℕ)
    → (unwrap_or (slice_get (filter_map worth_said items) 0) 0 ≡ n) ↔ IsWorth items n
first-words items n =
    let found = some_worth items in
    ((λ e. subst (IsWorth items) (sym (first-from items found.0 found.1) ∙ e) found.1), first-from items n)
