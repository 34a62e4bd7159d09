-- A pattern matches exactly if no part of the definition fails.
use Rattle.std.proofs.Common.{◌≡◌, ℕ, Bool, true, false, not, ◌&&◌, ◌||◌, cond, eqb, List, Option, Some, None, is_some}
use Rattle.std.proofs.Common.{is_ok, Result, Ok, Err, IsNone, IsTrue, option_map, refl, sym, ap, ◌∙◌}
use Rattle.std.specs.List.{position_from}
use Rattle.std.specs.Option.{option_or}
use Rattle.std.proofs.lemmas.Bool.{false≢true}
use Rattle.go_rules.specs.declared.Colour.{Colour}
use Rattle.go_rules.specs.declared.Illegal.{Illegal}
use Rattle.go_rules.specs.Position.{BoardState, other}
use Rattle.go_rules.specs.Play.{play, is_legal}
use Rattle.pat_types.specs.declared.pattern.Pattern.{Pattern}
use Rattle.read_rules.specs.declared.depths.Depths.{Depths}
use Rattle.read_rules.specs.declared.question.Answer.{Answer}
use Rattle.read_rules.specs.declared.question.Kind.TheVariants.{Attack}
use Rattle.cons_eval.specs.Readings.{code_at}
use Rattle.cons_eval.specs.Functions.{is_safe_move, after_play as after_safe_play}
use Rattle.helpers.specs.Fields.{refuses}
use Rattle.helpers.proofs.Refusals.{all_agree_if_none}
use Rattle.match_rules.specs.Fits.{fits}
use Rattle.match_rules.specs.Conditions.{has_class, unsafe_class, enemy_class, is_safe, is_enemy_safe}
use Rattle.match_rules.specs.Conditions.{is_constraint_true, is_allowed, Advice, do_helpers_agree}
use Rattle.match_rules.specs.Match.{is_match}
use Rattle.match_misfit.specs.Misfits.{first_cell, misfit_of, first_misfit}
use Rattle.match_misfit.proofs.RowCells.{fits_without, none_if_it_fits}
use Rattle.match_reasons.specs.declared.reason.Reason.{Reason}
use Rattle.match_reasons.specs.declared.reason.Reason.TheVariants as reason
use Rattle.match_reasons.specs.FreshReadings.{fresh_codes, fresh_answer, capture_of}
use Rattle.match_reasons.specs.Reasons.{after_play, move_reason, enemy_reason, constraint_reason, helper_reason}
use Rattle.match_reasons.specs.Reasons.{reason_before_helpers, first_reason}

-- there is nothing
abbrev pub is_nothing : {A : Type 0} → Option A → Bool
is_nothing o = not (is_some o)

-- of two there is nothing exactly if there is neither
neither : {A : Type 0} (a b : Option A) → is_nothing (option_or a b) ≡ (is_nothing a && is_nothing b)
neither None b = refl
neither (Some x) b = refl

-- what is made of nothing is nothing
pub made_nothing : {A B : Type 0} (f : A → B) (o : Option A) → is_nothing (option_map f o) ≡ is_nothing o
made_nothing f None = refl
made_nothing f (Some x) = refl

-- nothing is told exactly by a test that is true
pub nothing_if : {A : Type 0} (b : Bool) (x : A) → is_nothing (cond b None (Some x)) ≡ b
nothing_if true x = refl
nothing_if false x = refl

module _ (p : Pattern) (board : BoardState) (friend : Colour) (t m : ℕ) where
  -- no cell is told of exactly if the pattern fits
  no_misfit : (o : Option _) → first_cell p board friend t m ≡ o → is_nothing o ≡ fits p board friend t m
  no_misfit None is = sym (fits_without p board friend t m is)
  no_misfit (Some cell) is = by (fits p board friend t m) refl
    where
      by : (b : Bool) → fits p board friend t m ≡ b → false ≡ fits p board friend t m
      by true whole = absurd (let h : Some cell ≡ None = sym is ∙ none_if_it_fits p board friend t m whole in cc)
      by false broken = sym broken

  -- nothing is said of the diagram exactly if it fits
  pub no_diagram_reason : is_nothing (option_map reason.Misfit (first_misfit p board friend t m))
      ≡ fits p board friend t m
  no_diagram_reason =
      made_nothing reason.Misfit (first_misfit p board friend t m)
      ∙ made_nothing (misfit_of p board t m) (first_cell p board friend t m)
      ∙ no_misfit (first_cell p board friend t m) refl

module _ (d : Depths) (p : Pattern) (board : BoardState) (friend : Colour) (m : ℕ) where
  -- no attack is told of exactly if the stone cannot be captured
  no_capture : (f : Answer → Reason) (next : BoardState)
      → is_nothing (option_map f (capture_of d next m)) ≡ eqb (code_at (fresh_codes d) Attack next m) 0
  no_capture f next =
      made_nothing f (capture_of d next m)
      ∙ nothing_if (eqb (code_at (fresh_codes d) Attack next m) 0) (fresh_answer d Attack next m)

  -- without class s the stone has to be safe
  no_danger : (s : Bool) (next : BoardState)
      → is_nothing (cond s None (option_map reason.Unsafe (capture_of d next m)))
      ≡ (s || eqb (code_at (fresh_codes d) Attack next m) 0)
  no_danger true next = refl
  no_danger false next = no_capture reason.Unsafe next

  -- nothing is said against a move exactly if it is legal and safe
  pub no_move_reason : is_nothing (move_reason d p board friend m)
      ≡ (is_legal board friend m && is_safe (fresh_codes d) p board friend m)
  unfolding move_reason is_safe_move
  no_move_reason = by (play board friend m)
    where
      by : (r : Result BoardState Illegal)
          → is_nothing (after_play reason.Illegal (λ next. cond (has_class p unsafe_class) None
          (option_map reason.Unsafe (capture_of d next m))) r)
          ≡ (is_ok r && (has_class p unsafe_class || after_safe_play false
          (λ next. eqb (code_at (fresh_codes d) Attack next m) 0) r))
      by (Err why) = refl
      by (Ok next) = no_danger (has_class p unsafe_class) next

  -- with class n the enemy has to be safe too
  pub no_enemy_reason : is_nothing (enemy_reason d p board friend m) ≡ is_enemy_safe (fresh_codes d) p board friend m
  unfolding enemy_reason is_safe_move
  no_enemy_reason = by (has_class p enemy_class) (play board (other friend) m)
    where
      after : (r : Result BoardState Illegal)
          → is_nothing (after_play reason.EnemyIllegal
          (λ next. option_map reason.EnemyUnsafe (capture_of d next m)) r)
          ≡ after_safe_play false (λ next. eqb (code_at (fresh_codes d) Attack next m) 0) r
      after (Err why) = refl
      after (Ok next) = no_capture reason.EnemyUnsafe next

      by : (n : Bool) (r : Result BoardState Illegal)
          → is_nothing (cond n (after_play reason.EnemyIllegal
          (λ next. option_map reason.EnemyUnsafe (capture_of d next m)) r) None)
          ≡ (not n || after_safe_play false (λ next. eqb (code_at (fresh_codes d) Attack next m) 0) r)
      by false r = refl
      by true r = after r

-- the parts as they are grouped
regroup : (f l s e c h : Bool) → ((f && ((l && s) && (e && c))) && h) ≡ (f && (l && ((s && (e && c)) && h)))
regroup false l s e c h = refl
regroup true false s e c h = refl
regroup true true s e c h = refl

module _ (d : Depths) (advice : Advice) (p : Pattern) (board : BoardState) (friend : Colour) (t m : ℕ) where
  -- nothing before the helpers fails exactly if the diagram, the move, class n and the constraint hold
  pub nothing_before : is_nothing (reason_before_helpers d p board friend t m)
      ≡ (fits p board friend t m && ((is_legal board friend m && is_safe (fresh_codes d) p board friend m)
      && (is_enemy_safe (fresh_codes d) p board friend m && is_constraint_true (fresh_codes d) p board friend t m)))
  unfolding reason_before_helpers
  nothing_before =
      let first = option_map reason.Misfit (first_misfit p board friend t m) in
      let move = move_reason d p board friend m in
      let enemy = enemy_reason d p board friend m in
      let constraint = constraint_reason d p board friend t m in
      neither first (option_or move (option_or enemy constraint))
      ∙ ap (λ b. b && is_nothing (option_or move (option_or enemy constraint)))
      (no_diagram_reason p board friend t m)
      ∙ ap (λ b. fits p board friend t m && b)
      (neither move (option_or enemy constraint)
      ∙ ap (λ b. b && is_nothing (option_or enemy constraint)) (no_move_reason d p board friend m)
      ∙ ap (λ b. (is_legal board friend m && is_safe (fresh_codes d) p board friend m) && b)
      (neither enemy constraint
      ∙ ap (λ b. b && is_nothing constraint) (no_enemy_reason d p board friend m)
      ∙ ap (λ b. is_enemy_safe (fresh_codes d) p board friend m && b)
      (nothing_if (is_constraint_true (fresh_codes d) p board friend t m) reason.Constraint)))

  -- no helper says no exactly if all say yes
  no_helper : is_nothing (helper_reason advice p board friend m) ≡ do_helpers_agree advice p board friend m
  no_helper =
      let says : List ℕ → Bool = λ name. advice name board m friend in
      let found = position_from (refuses says) 0 p.items in
      made_nothing reason.Helper found
      ∙ all_agree_if_none says p.items found (is_nothing found) refl (twice (is_some found))
    where
      twice : (b : Bool) → b ≡ not (not b)
      twice true = refl
      twice false = refl

  -- no part fails exactly if it is a match
  pub no_reason : is_nothing (first_reason d advice p board friend t m)
      ≡ is_match (fresh_codes d) advice p board friend t m
  unfolding first_reason is_allowed
  no_reason =
      neither (reason_before_helpers d p board friend t m) (helper_reason advice p board friend m)
      ∙ ap (λ b. b && is_nothing (helper_reason advice p board friend m)) nothing_before
      ∙ ap (λ b. (fits p board friend t m && ((is_legal board friend m && is_safe (fresh_codes d) p board friend m)
      && (is_enemy_safe (fresh_codes d) p board friend m && is_constraint_true (fresh_codes d) p board friend t m)))
      && b) no_helper
      ∙ regroup (fits p board friend t m) (is_legal board friend m) (is_safe (fresh_codes d) p board friend m)
      (is_enemy_safe (fresh_codes d) p board friend m) (is_constraint_true (fresh_codes d) p board friend t m)
      (do_helpers_agree advice p board friend m)

  -- a reason is missing exactly if it is a match
  pub none_if_match : (o : Option Reason) → o ≡ first_reason d advice p board friend t m
      → (IsNone o → IsTrue (is_match (fresh_codes d) advice p board friend t m))
      × (IsTrue (is_match (fresh_codes d) advice p board friend t m) → IsNone o)
  none_if_match o is = (
    λ none. sym (ap is_nothing is ∙ no_reason) ∙ ap not none,
    λ yes_match. back (is_some o) (ap is_nothing is ∙ no_reason ∙ yes_match),
  )
    where
      back : (b : Bool) → not b ≡ true → b ≡ false
      back true e = absurd (false≢true e)
      back false e = refl

  -- a part before the helpers that fails is the first
  pub first_before : (r : Reason) → Some r ≡ reason_before_helpers d p board friend t m
      → Some r ≡ first_reason d advice p board friend t m
  unfolding first_reason
  first_before r is = ap (λ o. option_or o (helper_reason advice p board friend m)) is

  -- if none before them fails, the helpers decide
  pub first_by_helpers : (o : Option Reason) → None ≡ reason_before_helpers d p board friend t m
      → o ≡ helper_reason advice p board friend m → o ≡ first_reason d advice p board friend t m
  unfolding first_reason
  first_by_helpers o none is = is ∙ ap (λ b. option_or b (helper_reason advice p board friend m)) none
