-- What a parse of the command line finds for an option that has a number.
use Rattle.std.proofs.Common.{◌≡◌, ◌∙◌, ◌<◌, ap, subst, ℕ, Bool, true, false, zero, suc, List, [], ◌∷◌, length, Option}
use Rattle.std.proofs.Common.{Some, None, refl, sym, inl, inr, arith, true≢false}
use Rattle.std.specs.Prelude.{find, option_map, pos, slice_get}
use Rattle.std.proofs.lemmas.Option.{none-some, same_Some}
use Rattle.std.specs.List.{All, slice_index_or}
use Rattle.std.specs.Str.{bytes_eq}
use Rattle.std.specs.Borrow.{Bor}
use Rattle.std.proofs.lemmas.Slice.Eq.{bytes_eq-Decides}
use Rattle.std.proofs.lemmas.List.Elements.{All-get_or}
use Rattle.clap.specs.Facts.{Entry, EntryPasses, HasIn, IsParsed, PassesArg, WantsDefault, args_of, groups_of}
use Rattle.clap.specs.Facts.{least_values, parser_of, parser_of_value, unwrap_or_range}
use Rattle.clap.specs.Built.{IsAuto, IsParsedFrom, SameRules}
use Rattle.clap.specs.Matches.{found_of, has_subcommand, matched_of, one_text}
use Rattle.clap.specs.Simple.{App, app_of, shape_of}
use Rattle.clap.specs.Texts.{items_of}
use Rattle.clap.specs.Values.{Accepts, IsSignedIn, read_as, reading_of}
use Rattle.clap.specs.Walk.{Text}
use Rattle.clap.specs.declared.builder.action.ArgAction.TheVariants.{Count, Set}
use Rattle.clap.specs.declared.builder.arg.Arg.{Arg}
use Rattle.clap.specs.declared.builder.command.Command.{Command}
use Rattle.clap.specs.declared.builder.value_parser.Reading.{Reading}
use Rattle.clap.specs.declared.builder.value_parser.Reading.TheVariants.{WithoutMinus}
use Rattle.clap.specs.declared.builder.value_parser.ValueParser.{ValueParser}
use Rattle.clap.specs.declared.parser.matches.ArgMatches.{ArgMatches}
use Rattle.clap.specs.declared.parser.matches.Found.{Found}
use Rattle.clap.specs.declared.parser.matches.MatchedArg.{MatchedArg}
use Rattle.clap.proofs.CallerLemmas.{default_present, entry_by_id, same_rules_by_id}
use Rattle.clap.proofs.SimpleLemmas.{all_simple, plain_fields, simple_groups}
use Rattle.go_options.specs.CommandLine.{command_line, number_rule, range_of}
use Rattle.go_options.specs.NumberOptions.{NumberOption, depth_option, branch_option, cache_option, states_option}
use Rattle.go_options.specs.NumberOptions.{generate_option}
use Rattle.std.proofs.lemmas.List.{length-map}
use Rattle.go_options.specs.Numbers.{HasNumbers, IsGiven, IsWhole, MayBeGiven}
use Rattle.go_options.proofs.Values.{whole_read}
use Rattle.go_options.proofs.NamedArguments.{IsNumberOf, IsOption, number_named}

-- the first of some values, of which all pass
first_of_all : (P : Bor Text → Type 0) (vs : List (Bor Text)) → 0 < length vs → All P vs
    → (v : Bor Text) × (slice_get vs 0 ≡ Some v) × P v
first_of_all P [] lt all = absurd (omega arith)
first_of_all P (v ∷ vs) lt all = (v, refl, All-get_or P (v ∷ vs) 0 v (omega arith) all)

-- an entry of an id is found by it
entry_found : (xs : List Entry) (id : Text) → HasIn xs id
    → (x : MatchedArg) × (option_map (λ e. e.1) (find (λ e. bytes_eq e.0.now id) xs) ≡ Some x)
entry_found [] id has = absurd (omega (arith, has.1))
entry_found (e ∷ xs) id has = go (bytes_eq e.0.now id) refl has.0 has.1 has.2 (λ rest. entry_found xs id rest)
  where
    go : (b : Bool) → bytes_eq e.0.now id ≡ b → (i : ℕ) → i < length (e ∷ xs)
        → ((d : Entry) → bytes_eq (slice_index_or (e ∷ xs) i d).0.now id ≡ true)
        → (HasIn xs id → (x : MatchedArg) × (option_map (λ y. y.1) (find (λ y. bytes_eq y.0.now id) xs) ≡ Some x))
        → (x : MatchedArg) × (option_map (λ y. y.1) (find (λ y. bytes_eq y.0.now id) (e ∷ xs)) ≡ Some x)
    go true here i lt same next = (e.1, rw here refl)
    go false here zero lt same next = absurd (true≢false (sym (same e) ∙ here))
    go false here (suc i) lt same next =
        let rest = next (i, omega arith, same) in
        (rest.0, rw here rest.1)

-- the text that is read of an entry with a first value
text_at : (f : Found) (id : Text) (x : MatchedArg) (how : Reading) (v : Bor Text) → matched_of f id ≡ Some x
    → x.reading ≡ how
    → slice_get x.vals.items 0 ≡ Some v → one_text f id ≡ Some (read_as how v.now)
text_at f id x how v found reading first = rw (found, reading, first) refl

module _ (old : Command) (m : ArgMatches) (p : IsParsedFrom old m) (is : app_of old ≡ command_line) where
  -- each argument of the parsed command is simple
  simple : all_simple (shape_of old).rules ≡ true
  unfolding command_line
  simple = ap (λ (a : App). all_simple a.top.rules) is

  -- the parsed command is plain
  plain : (shape_of old).is_plain ≡ true
  unfolding command_line
  plain = ap (λ (a : App). a.top.is_plain) is

  -- the parsed command has no groups
  no_groups : groups_of p.built ≡ []
  no_groups = (p.from.same_groups (simple_groups old simple)).1 ∙ (plain_fields old plain).groups

  -- what was found is what the parse put there
  parsed : IsParsed p.built (found_of m) (has_subcommand m)
  parsed = p.parsed (p.from.globals ∙ (plain_fields old plain).globals)

  module _ (option : NumberOption) (has : IsOption option) where
    -- the argument of the option
    n : IsNumberOf old option
    n = number_named old option is has

    -- each argument of the option's name in the command that was built has the rules of the option's
    same_rules : (j : ℕ) (y : Arg) → j < length (args_of p.built) → slice_index_or (args_of p.built) j y ≡ y
        → bytes_eq y.id.now option.name ≡ true
        → SameRules n.alone.arg y
    same_rules j y within at same =
        subst (λ (a : Arg). SameRules a y) n.alone.at (same_rules_by_id old m p n.alone.place n.alone.arg n.alone.within
        (λ i e lt h. n.alone.only i e lt
        (subst (λ (t : Text). bytes_eq (slice_index_or (args_of old) i e).id.now t ≡ true) there h))
        (λ auto. n.own (subst IsAuto n.alone.at auto))
        j y within at (subst (λ (t : Text). bytes_eq y.id.now t ≡ true) (sym there) same))
      where
        there : (slice_index_or (args_of old) n.alone.place n.alone.arg).id.now ≡ option.name
        there = ap (λ (a : Arg). a.id.now) n.alone.at ∙ n.id_is

    module _ (x : MatchedArg) (found : matched_of (found_of m) option.name ≡ Some x) where
      -- what was found for the option is an entry of its name
      entry : (e : Entry) × (e.1 ≡ x) × (bytes_eq e.0.now option.name ≡ true) × EntryPasses p.built e
      entry = entry_by_id (EntryPasses p.built) (found_of m).entries.items option.name x parsed.values found

      -- the entry has the name of the option
      key : entry.0.0.now ≡ option.name
      key = (bytes_eq-Decides entry.0.0.now option.name).0 entry.2

      -- the entry is not that of a group, since the command has none
      no_group : entry.0.1.is_group ≡ true → ⊥
      no_group group = elim (entry.3.3 group) [
        | inl empty ↦ n.named (sym key ∙ empty)
        | inr some ↦
            let bad : 0 < 0 = subst (λ gs. 0 < length gs) no_groups some in
            absurd (omega arith)
      ]

      -- an option that is given has a value, since it takes one
      has_value : 0 < length x.vals.items
      has_value = elim entry.3.1 [
        | inl group ↦ absurd (no_group group.0)
        | inr (inl some) ↦ subst (λ (y : MatchedArg). 0 < length y.vals.items) entry.1 some
        | inr (inr (inl counted)) ↦
            let any = counted.1 in
            let rules = same_rules any.0 any.1 any.2 any.3
            (subst (λ (t : Text). bytes_eq any.1.id.now t ≡ true) key any.4.0) in
            let set : any.1.action ≡ Some Set = rules.action Set n.action in
            let bad : Set ≡ Count = rw set at any.4.1 in
            cc
        | inr (inr (inr none)) ↦
            let rules = same_rules none.0 none.1 none.2 none.3
            (subst (λ (t : Text). bytes_eq none.1.id.now t ≡ true) key none.4.0) in
            elim none.4.1 [
              | inl zero_least ↦
                  let one : least_values n.alone.arg ≡ 1 = ap (λ r. (unwrap_or_range r).start_inclusive) n.range in
                  let least = rules.least n.action (omega arith) in
                  absurd (omega arith)
              | inr delimited ↦
                  let bad : false ≡ true = rw (rules.val_delim, n.delimiter) at delimited in
                  cc
            ]
      ]

      -- a value that the option's parser takes is a whole number in the option's range
      passes : (v : Bor Text) → PassesArg p.built entry.0.0.now v.now
          → IsSignedIn (pos option.least) (pos option.greatest) v.now
      passes v any =
          let rules = same_rules any.0 any.1 any.2 any.3
          (subst (λ (t : Text). bytes_eq any.1.id.now t ≡ true) key any.4.0) in
          let q : parser_of any.1 ≡ range_of option =
          ap parser_of_value (rules.parser (range_of option) n.parser) in
          subst (λ (w : ValueParser). Accepts any.1.ignore_case w v.now) q any.4.1

      -- the value is read in the way that the option's parser reads one
      reading : x.reading ≡ WithoutMinus
      reading = elim entry.3.4 [
        | inl group ↦ absurd (no_group group)
        | inr any ↦
            let rules = same_rules any.0 any.1 any.2 any.3
            (subst (λ (t : Text). bytes_eq any.1.id.now t ≡ true) key any.4.0) in
            let q : parser_of any.1 ≡ range_of option =
            ap parser_of_value (rules.parser (range_of option) n.parser) in
            ap (λ (y : MatchedArg). y.reading) (sym entry.1) ∙ (sym any.4.1 ∙ ap reading_of q)
      ]

      -- each value of the entry is one that the option's parser takes
      values : All (λ v. PassesArg p.built entry.0.0.now v.now) x.vals.items
      values = elim entry.3.0 [
        | inl group ↦ absurd (no_group group)
        | inr all ↦ subst (λ (y : MatchedArg). All
            (λ v. PassesArg p.built entry.0.0.now v.now) y.vals.items) entry.1 all
      ]

      -- an option that has an entry has a number
      pub number_found : IsGiven (found_of m) option
      number_found =
          let first = first_of_all (λ v. PassesArg p.built entry.0.0.now v.now) x.vals.items has_value values in (
            read_as WithoutMinus first.0.now,
            text_at (found_of m) option.name x WithoutMinus first.0 found reading first.1,
            whole_read option.least option.greatest first.0.now (passes first.0 first.2),
          )

    -- a value of the option is a number
    pub only_number : MayBeGiven (found_of m) option
    only_number text one = go (matched_of (found_of m) option.name) refl
      where
        go : (o : Option MatchedArg) → matched_of (found_of m) option.name ≡ o
            → IsWhole option.least option.greatest text
        go None e = grind (arith, none-some)
        go (Some x) e =
            let number = number_found x e in
            let same : number.0 ≡ text = same_Some number.0 text (sym number.1 ∙ one) in
            subst (IsWhole option.least option.greatest) same number.2

    -- an option with a default has a number
    pub default_number : 0 < length (number_rule option).defaults → IsGiven (found_of m) option
    default_number more =
        let same : length (items_of n.alone.arg.default_vals) ≡ length (number_rule option).defaults =
        sym (length-map (items_of n.alone.arg.default_vals) (λ (t : Bor Text). t.now)) ∙ ap length n.default_vals in
        let some : 0 < length (items_of n.alone.arg.default_vals) = omega arith in
        let wants : WantsDefault (slice_index_or (args_of old) n.alone.place n.alone.arg) =
        subst WantsDefault (sym n.alone.at) (n.default_ifs, some) in
        let present = default_present old m p (plain_fields old plain).globals
        n.alone.place n.alone.arg n.alone.within wants in
        let entry = entry_found (found_of m).entries.items option.name
        (subst (λ (t : Text). HasIn (found_of m).entries.items t)
        (ap (λ (a : Arg). a.id.now) n.alone.at ∙ n.id_is) present) in
        number_found entry.0 entry.1

  -- each number of the command line is found in its range: that its rule stands under its name is computed
  pub numbers_found : HasNumbers (found_of m)
  numbers_found = record {
    depth = default_number depth_option refl (omega arith);
    branch = default_number branch_option refl (omega arith);
    cache = default_number cache_option refl (omega arith);
    states = default_number states_option refl (omega arith);
    generate = only_number generate_option refl;
  }
