-- What the getters read, by the rows of a parse.
use Rattle.std.proofs.Common.{◌≡◌, ◌∙◌, ap, ℕ, false, List, Option, Some, None, Result, Ok, Err, refl, sym}
use Rattle.std.proofs.Common.{arith, codes, option_map, []}
use Rattle.std.specs.Prelude.{MatchOption, unwrap_or}
use Rattle.std.specs.Option.{option_map_or}
use Rattle.std.proofs.lemmas.Option.{same_Some}
use Rattle.std.specs.Str.{bytes_eq}
use Rattle.std.specs.Str.Parse.{ParsesUnsigned}
use Rattle.clap.specs.Matches.{ReadsOne, first_value, matched_of, one_text, raw_values}
use Rattle.clap.specs.Walk.{Text, rows_of}
use Rattle.clap.specs.declared.parser.matches.Found.{Found}
use Rattle.clap.proofs.WalkLemmas.{first_value-rows, one_text-rows, raw_values-rows}
use Rattle.go_options.specs.Found.{IsIn, flag_in, number_in, number_of, words_in}
use Rattle.go_options.specs.Numbers.{HasOnlyNumber, IsGiven, IsWhole, MayBeGiven, largest}
use Rattle.go_options.specs.NumberOptions.{NumberOption}

-- the number of an option is that of its text
pub number_of_text : (f : Found) (id : Text) (text : Text) → one_text f id ≡ Some text
    → number_in id (rows_of f) ≡ Some (number_of text)
number_of_text f id text one = ap (option_map number_of) (sym (one_text-rows f id) ∙ one)

-- `get_one` reads the number of an option, where its texts are numbers
pub number_read : {E : Type 0} (G : Text → Result ℕ E → Type 0) (f : Found) (id : Text) (r : Option ℕ)
    → ((u : Text) (x : Result ℕ E) → G u x → ParsesUnsigned 32 10 u x) → HasOnlyNumber f id 0 largest
    → (one_text f id ≡ None → r ≡ None) → ((t : Text) → one_text f id ≡ Some t → ReadsOne G t r)
    → r ≡ number_in id (rows_of f)
number_read {E} G f id r only whole none value = go (one_text f id) refl
  where
    reads : (t : Text) (o : Option ℕ) → ReadsOne G t o → IsWhole 0 largest t → o ≡ Some (number_of t)
    reads t (Some v) h w = ap Some (only t (Ok v) h).1
    reads t None h w = absurd (only t (Err h.0) h.1 (w.0, omega (arith, w.1.1)))

    go : (o : Option Text) → one_text f id ≡ o → r ≡ number_in id (rows_of f)
    go None e = none e ∙ sym (ap (option_map number_of) (sym (one_text-rows f id) ∙ e))
    go (Some t) e = reads t r (value t e) (whole t e) ∙ sym (number_of_text f id t e)

-- a number that an option has lies in its range
pub number_from : (f : Found) (option : NumberOption) (n : ℕ) → IsGiven f option
    → number_in option.name (rows_of f) ≡ Some n → IsIn option n
number_from f option n has is = grind (arith, same_Some, number_of_text)

-- whether a flag is set, by the text that `get_str` gives
pub flag_read : (f : Found) (id : Text) (o : Option Text) → o ≡ first_value f id
    → option_map_or (λ t. bytes_eq t (codes "true")) o false ≡ flag_in id (rows_of f)
flag_read f id o is =
    ap (λ (t : Option Text). option_map_or (λ u. bytes_eq u (codes "true")) t false) (is ∙ first_value-rows f id)

-- the words that are no option, by what `get_strs` gives
pub words_read : (f : Found) (id : Text) (o : Option (List Text)) → o ≡ option_map raw_values (matched_of f id)
    → unwrap_or o [] ≡ words_in id (rows_of f)
words_read f id o is = ap (λ (w : Option (List Text)). unwrap_or w []) (is ∙ raw_values-rows f id)

-- a number lies in the range of the option, or there is none
abbrev IsInOrNone : NumberOption → Option ℕ → Type 0
IsInOrNone option number = MatchOption number (Unit {0}) (IsIn option)

-- a number that an option may have lies in its range if it is there
pub only_from : (f : Found) (option : NumberOption) (o : Option ℕ) → MayBeGiven f option
    → o ≡ number_in option.name (rows_of f) → IsInOrNone option o
only_from f option o only is = grind (arith, option_map, one_text-rows, number_of_text)
