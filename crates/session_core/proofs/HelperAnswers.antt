-- What is told where no helper has the name.
use Rattle.std.proofs.Common.{◌≡◌, Bool, true, false, cond, List, ℕ, [], ◌∷◌, Option, Some, None, find, option_map}
use Rattle.std.proofs.Common.{is_some, refl, subst, arith}
use Rattle.helpers.specs.HelperStates.{SlotState, has_name, named, change_first, remove_first}
use Rattle.helpers.proofs.Firsts.{PassesNone, none, other, change_first-none, remove_first-none}
use Rattle.gtp_cmd.specs.declared.refusals.RefuseText.TheVariants.{NoSuchHelper}
use Rattle.machine_rules.specs.Machine.{Machine}
use Rattle.machine_rules.specs.Effects.{Effect}
use Rattle.machine_rules.specs.HelperCommands.{of_helper}
use Rattle.session_core.specs.CommandAnswers.{IsAnswer}
use Rattle.session_core.specs.declared.answer.Answer.TheVariants as answer

-- a list in which no element is found that passes
module _ {X : Type 0} (test : X → Bool) where
  -- neither the first element passes nor one behind it
  passes-none_behind : (x : X) (xs : List X) → (is_some (find test xs) ≡ false → PassesNone test xs)
      → (b : Bool) → test x ≡ b → is_some (cond b (Some x) (find test xs)) ≡ false → PassesNone test (x ∷ xs)
  passes-none_behind x xs behind true passes e = absurd (let same : true ≡ false = e in cc)
  passes-none_behind x xs behind false fails e = other fails (behind e)

  -- no element passes
  passes-none : (xs : List X) → is_some (find test xs) ≡ false → PassesNone test xs
  passes-none [] e = none
  passes-none (x ∷ xs) e = passes-none_behind x xs (λ e. passes-none xs e) (test x) refl e

-- where no helper has the name, none is changed
pub change-none : (name : List ℕ) (change : SlotState → SlotState) (slots : List SlotState)
    → is_some (named name slots) ≡ false → change_first (has_name name) change slots ≡ slots
change-none name change slots missing = grind (arith, change_first-none, passes-none)

-- where no helper has the name, none is taken out
pub remove-none : (name : List ℕ) (slots : List SlotState)
    → is_some (named name slots) ≡ false → remove_first (has_name name) slots ≡ slots
remove-none name slots missing = grind (arith, remove_first-none, passes-none)

-- nothing is there where nothing is made of it
pub nothing-there : {X Y : Type 0} (make : X → Y) (found : Option X) → None ≡ option_map make found
    → is_some found ≡ false
nothing-there make None e = refl
nothing-there make (Some x) e = absurd cc

-- where no helper has a name, none has the word that this is
pub none-named : (slots : List SlotState) (given word : List ℕ) → given ≡ word → is_some (named given slots) ≡ false
    → is_some (named word slots) ≡ false
none-named slots given word is missing = subst (λ n. is_some (named n slots) ≡ false) is missing

-- where no helper has the name, that is told, and the machine stays
pub not-there : (old : Machine) (name : List ℕ) (effect : Effect) (new : Machine)
    → is_some (named name old.helpers) ≡ false → new ≡ old
    → IsAnswer (of_helper old name effect) (answer.Refused NoSuchHelper) new
not-there old name effect new missing same = grind arith
