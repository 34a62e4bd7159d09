-- The argument of a command that alone has a name, and what it says where it is that of an option with a number.
use Rattle.std.proofs.Common.{◌≡◌, ◌∙◌, ◌<◌, ◌&&◌, ap, subst, ℕ, Bool, true, false, not, zero, suc, List, [], ◌∷◌}
use Rattle.std.proofs.Common.{cond, length, map, Option, Some, None, is_some, refl, sym, arith, codes, true≢false}
use Rattle.std.specs.List.{slice_index_or}
use Rattle.std.specs.Str.{bytes_eq}
use Rattle.std.proofs.lemmas.Option.{none-some, same_Some}
use Rattle.clap.specs.Facts.{args_of}
use Rattle.clap.specs.Built.{IsAuto}
use Rattle.clap.specs.Simple.{App, app_of}
use Rattle.clap.specs.Texts.{items_of}
use Rattle.clap.specs.Walk.{Rule, Text, is_simple_arg, rule_of, texts}
use Rattle.clap.specs.declared.builder.action.ArgAction.TheVariants.{Set}
use Rattle.clap.specs.declared.builder.arg.Arg.{Arg}
use Rattle.clap.specs.declared.builder.command.Command.{Command}
use Rattle.clap.proofs.SimpleLemmas.{is_false, is_nil}
use Rattle.clap.proofs.WalkLemmas.{both}
use Rattle.go_options.specs.CommandLine.{command_line, number_rule, range_of, the_rules}
use Rattle.go_options.specs.NumberOptions.{NumberOption}

-- ---- the rule of a name

-- no rule has this name
abbrev has_none : Text → List Rule → Bool
has_none name [] = true
has_none name (r ∷ rs) = not (bytes_eq r.id name) && has_none name rs

-- the rule that alone has this name, if there is one
abbrev pub rule_named : Text → List Rule → Option Rule
rule_named name [] = None
rule_named name (r ∷ rs) =
    cond (bytes_eq r.id name) (cond (has_none name rs) (Some r) None) (rule_named name rs)

-- a name that no rule has is no argument's
absent : (xs : List Arg) (name : Text) → has_none name (map rule_of xs) ≡ true → (j : ℕ) (e : Arg) → j < length xs
    → bytes_eq (slice_index_or xs j e).id.now name ≡ true → ⊥
absent [] name none j e lt same = absurd (omega arith)
absent (x ∷ xs) name none zero e lt same = grind (arith, both, is_false, true≢false)
absent (x ∷ xs) name none (suc j) e lt same =
    absent xs name (both (not (bytes_eq x.id.now name)) (has_none name (map rule_of xs)) none).1 j e (omega arith) same

-- one argument, which has this rule, alone has this name
pub record IsAlone (xs : List Arg) (name : Text) (r : Rule) : Type 0 where
  pub place : ℕ
  pub arg : Arg
  pub within : place < length xs
  pub at : slice_index_or xs place arg ≡ arg
  pub rule : rule_of arg ≡ r
  pub only : (j : ℕ) (e : Arg) → j < length xs → bytes_eq (slice_index_or xs j e).id.now name ≡ true → j ≡ place

-- the first argument alone has a name that no later one has
alone_here : (x : Arg) (xs : List Arg) (name : Text) → has_none name (map rule_of xs) ≡ true
    → IsAlone (x ∷ xs) name (rule_of x)
alone_here x xs name none =
    record { place = 0; arg = x; within = omega arith; at = refl; rule = refl; only = only }
  where
    only : (j : ℕ) (e : Arg) → j < length (x ∷ xs) → bytes_eq (slice_index_or (x ∷ xs) j e).id.now name ≡ true → j ≡ 0
    only zero e lt same = refl
    only (suc j) e lt same = absurd (absent xs name none j e (omega arith) same)

-- an argument of another name in front changes only the place
alone_later : (x : Arg) (xs : List Arg) (name : Text) (r : Rule) → bytes_eq x.id.now name ≡ false
    → IsAlone xs name r → IsAlone (x ∷ xs) name r
alone_later x xs name r other one = record {
  place = suc one.place;
  arg = one.arg;
  within = omega (arith, one.within);
  at = one.at;
  rule = one.rule;
  only = only;
}
  where
    only : (j : ℕ) (e : Arg) → j < length (x ∷ xs) → bytes_eq (slice_index_or (x ∷ xs) j e).id.now name ≡ true
        → j ≡ suc one.place
    only zero e lt same = absurd (true≢false (sym same ∙ other))
    only (suc j) e lt same = ap suc (one.only j e (omega arith) same)

-- the rule of a name is that of the argument that alone has it
alone : (xs : List Arg) (name : Text) (r : Rule) → rule_named name (map rule_of xs) ≡ Some r → IsAlone xs name r
alone [] name r found = absurd (none-some r found)
alone (x ∷ xs) name r found =
    go (bytes_eq x.id.now name) refl (has_none name (map rule_of xs)) refl found (λ rest. alone xs name r rest)
  where
    go : (same : Bool) → bytes_eq x.id.now name ≡ same → (none : Bool) → has_none name (map rule_of xs) ≡ none
        → cond same (cond none (Some (rule_of x)) None) (rule_named name (map rule_of xs)) ≡ Some r
        → (rule_named name (map rule_of xs) ≡ Some r → IsAlone xs name r)
        → IsAlone (x ∷ xs) name r
    go true is true none at next =
        subst (IsAlone (x ∷ xs) name) (same_Some (rule_of x) r at) (alone_here x xs name none)
    go true is false none at next = absurd (none-some r at)
    go false is _ none at next = alone_later x xs name r is (next at)

-- what is not there is missing
no_value : {X : Type 0} (o : Option X) → not (is_some o) ≡ true → o ≡ None
no_value None e = refl
no_value (Some x) e = absurd (true≢false (sym e))

-- a simple argument has no delimiter and no default under a condition
simple_arg : (a : Arg) → is_simple_arg a ≡ true → (a.val_delim ≡ None) × (a.default_vals_ifs.items ≡ [])
simple_arg a e = grind (arith, both, no_value, is_nil)

-- ---- the argument of a number

-- one argument of the command alone has the option's name, with one value in the option's range and its default
pub record IsNumberOf (old : Command) (option : NumberOption) : Type 0 where
  pub alone : IsAlone (args_of old) option.name (number_rule option)
  pub id_is : alone.arg.id.now ≡ option.name
  pub action : alone.arg.action ≡ Some Set
  pub delimiter : alone.arg.val_delim ≡ None
  pub range : alone.arg.num_vals ≡ None
  pub parser : alone.arg.value_parser ≡ Some (range_of option)
  pub default_ifs : alone.arg.default_vals_ifs.items ≡ []
  pub default_vals : texts (items_of alone.arg.default_vals) ≡ (number_rule option).defaults
  pub named : option.name ≡ [] → ⊥
  pub own : IsAuto alone.arg → ⊥

-- the option's rule is the one that the command line has for its name
abbrev pub IsOption : NumberOption → Type 0
IsOption option = rule_named option.name the_rules ≡ Some (number_rule option)

-- an option does not have a name for which the command line has no rule
not_named : (option : NumberOption) (name : Text) → IsOption option → rule_named name the_rules ≡ None
    → option.name ≡ name → ⊥
not_named option name is none same =
    none-some (number_rule option) (sym none ∙ (ap (λ n. rule_named n the_rules) (sym same) ∙ is))

-- an option of the command line has an argument in the command, which its name finds
pub number_named : (old : Command) (option : NumberOption) → app_of old ≡ command_line → IsOption option
    → IsNumberOf old option
unfolding command_line
number_named old option is has =
    let rules : the_rules ≡ map rule_of (args_of old) = sym (ap (λ (a : App). a.top.rules) is) in
    let one = alone (args_of old) option.name (number_rule option)
    (subst (λ rs. rule_named option.name rs ≡ Some (number_rule option)) rules has) in
    let facts = simple_arg one.arg (ap (λ (x : Rule). x.is_simple) one.rule) in
    let id : one.arg.id.now ≡ option.name = ap (λ (x : Rule). x.id) one.rule in
    record {
      alone = one;
      id_is = id;
      action = ap (λ (x : Rule). x.action) one.rule;
      delimiter = facts.0;
      range = ap (λ (x : Rule). x.range) one.rule;
      parser = ap (λ (x : Rule). x.parser) one.rule;
      default_ifs = facts.1;
      default_vals = ap (λ (x : Rule). x.defaults) one.rule;
      named = not_named option [] has refl;
      own = grind (arith, not_named, codes);
    }
