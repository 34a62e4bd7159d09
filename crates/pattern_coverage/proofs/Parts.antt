-- At which part a try ends, by whether its diagram fits and its move is legal.
use Rattle.std.proofs.Common.{◌≡◌, ℕ, ◌<◌, ◌≤◌, Bool, true, false, cond, Option, Some, None, is_ok}
use Rattle.std.proofs.Common.{option_map, Result, Ok, Err, refl, sym, ◌∙◌, subst, arith}
use Rattle.std.specs.List.{position_from}
use Rattle.std.specs.Option.{option_or}
use Rattle.std.proofs.lemmas.Bool.{false≢true}
use Rattle.go_rules.specs.declared.Colour.{Colour}
use Rattle.go_rules.specs.declared.Illegal.{Illegal}
use Rattle.go_rules.specs.Position.{BoardState, other}
use Rattle.go_rules.specs.Play.{play, is_legal}
use Rattle.helpers.specs.Fields.{refuses}
use Rattle.pat_types.specs.declared.pattern.Pattern.{Pattern}
use Rattle.read_rules.specs.declared.depths.Depths.{Depths}
use Rattle.match_rules.specs.Fits.{fits}
use Rattle.match_rules.specs.Conditions.{has_class, unsafe_class, enemy_class, is_constraint_true, Advice}
use Rattle.match_misfit.specs.declared.diagram.Misfit.{Misfit}
use Rattle.match_misfit.specs.Misfits.{first_misfit}
use Rattle.match_reasons.specs.declared.reason.Reason.{Reason}
use Rattle.match_reasons.specs.declared.reason.Reason.TheVariants as reason
use Rattle.match_reasons.specs.FreshReadings.{fresh_codes, capture_of}
use Rattle.match_reasons.specs.Reasons.{after_play, move_reason, enemy_reason, constraint_reason, helper_reason}
use Rattle.match_reasons.specs.Reasons.{reason_before_helpers, first_reason}
use Rattle.match_reasons.proofs.NoReason.{is_nothing, no_diagram_reason}
use Rattle.pattern_coverage.specs.Ends.{part_named, part_of, part_at}

-- no part has a number above 5
named_low : (r : Reason) → part_named r < 6
named_low (reason.Misfit z) = omega arith
named_low (reason.Illegal why) = omega arith
named_low (reason.Unsafe a) = omega arith
named_low (reason.EnemyIllegal why) = omega arith
named_low (reason.EnemyUnsafe a) = omega arith
named_low reason.Constraint = omega arith
named_low (reason.Helper field) = omega arith

-- no end has a number above 6
part_of_low : (o : Option Reason) → part_of o < 7
part_of_low None = omega arith
part_of_low (Some r) = omega (arith, named_low r)

-- the end lies behind the move
abbrev IsLate : Option Reason → Type 0
IsLate o = 2 ≤ part_of o

-- of two that lie behind the move, the first that is there does
late_or : (a b : Option Reason) → IsLate a → IsLate b → IsLate (option_or a b)
late_or None b early late = late
late_or (Some r) b late other = late

-- nothing lies behind the move, as a match does
late_none : IsLate None
late_none = omega arith

module _ (d : Depths) (p : Pattern) (board : BoardState) (friend : Colour) (m : ℕ) where
  -- what is told of a capture lies behind the move
  late_stone : (o : Option _) → IsLate (option_map reason.Unsafe o)
  late_stone None = omega arith
  late_stone (Some a) = omega arith

  -- so does what is told of the enemy's stone
  late_enemy_stone : (o : Option _) → IsLate (option_map reason.EnemyUnsafe o)
  late_enemy_stone None = omega arith
  late_enemy_stone (Some a) = omega arith

  -- a legal move is not refused
  late_move : is_legal board friend m ≡ true → IsLate (move_reason d p board friend m)
  unfolding move_reason
  late_move legal = by (play board friend m) legal
    where
      by_class : (b : Bool) (next : BoardState)
          → IsLate (cond b None (option_map reason.Unsafe (capture_of d next m)))
      by_class true next = late_none
      by_class false next = late_stone (capture_of d next m)

      by : (r : Result BoardState Illegal) → is_ok r ≡ true
          → IsLate (after_play reason.Illegal (λ next. cond (has_class p unsafe_class) None
          (option_map reason.Unsafe (capture_of d next m))) r)
      by (Ok next) ok = by_class (has_class p unsafe_class) next
      by (Err why) ok = absurd (false≢true ok)

  -- class n lies behind the move
  late_enemy : IsLate (enemy_reason d p board friend m)
  unfolding enemy_reason
  late_enemy = by (has_class p enemy_class) (play board (other friend) m)
    where
      by : (b : Bool) (r : Result BoardState Illegal)
          → IsLate (cond b (after_play reason.EnemyIllegal
          (λ next. option_map reason.EnemyUnsafe (capture_of d next m)) r) None)
      by false r = late_none
      by true (Err why) = omega arith
      by true (Ok next) = late_enemy_stone (capture_of d next m)

module _ (d : Depths) (advice : Advice) (p : Pattern) (board : BoardState) (friend : Colour) (t m : ℕ) where
  -- the constraint lies behind the move
  late_constraint : IsLate (constraint_reason d p board friend t m)
  late_constraint = by (is_constraint_true (fresh_codes d) p board friend t m)
    where
      by : (b : Bool) → IsLate (cond b None (Some reason.Constraint))
      by true = late_none
      by false = omega arith

  -- so do the helpers
  late_helper : IsLate (helper_reason advice p board friend m)
  late_helper = by (position_from (refuses (λ name. advice name board m friend)) 0 p.items)
    where
      by : (o : Option ℕ) → IsLate (option_map reason.Helper o)
      by None = late_none
      by (Some field) = omega arith

  -- the first reason, from what is told of the diagram
  abbrev after_diagram : Option Misfit → Option Reason
  after_diagram o = option_or (option_or (option_map reason.Misfit o) (option_or (move_reason d p board friend m)
      (option_or (enemy_reason d p board friend m) (constraint_reason d p board friend t m))))
      (helper_reason advice p board friend m)

  -- a diagram that does not fit is the first reason
  by_misfit : (o : Option Misfit) → is_nothing (option_map reason.Misfit o) ≡ false → part_of (after_diagram o) ≡ 0
  by_misfit None none = absurd (false≢true (sym none))
  by_misfit (Some z) none = refl

  -- a diagram that fits is no reason
  no_misfit : (o : Option Misfit) → is_nothing (option_map reason.Misfit o) ≡ true
      → part_of (after_diagram o) ≡ part_of (after_diagram None)
  no_misfit None none = refl
  no_misfit (Some z) none = absurd (false≢true none)

  -- no end has a number above 6
  pub part-low : part_at d advice p board friend t m < 7
  unfolding part_at
  part-low = part_of_low (first_reason d advice p board friend t m)

  -- a try whose diagram does not fit ends there
  pub part-diagram : fits p board friend t m ≡ false → part_at d advice p board friend t m ≡ 0
  unfolding part_at first_reason reason_before_helpers
  part-diagram broken =
      by_misfit (first_misfit p board friend t m) (no_diagram_reason p board friend t m ∙ broken)

  -- a try whose diagram fits ends at the move or behind it
  part-fitting : fits p board friend t m ≡ true
      → part_at d advice p board friend t m ≡ part_of (after_diagram None)
  unfolding part_at first_reason reason_before_helpers
  part-fitting whole =
      no_misfit (first_misfit p board friend t m) (no_diagram_reason p board friend t m ∙ whole)

  -- a try ends at the move if that is not legal
  pub part-move : fits p board friend t m ≡ true → is_legal board friend m ≡ false
      → part_at d advice p board friend t m ≡ 1
  unfolding move_reason
  part-move whole refused = part-fitting whole ∙ by (play board friend m) refused
    where
      by : (r : Result BoardState Illegal) → is_ok r ≡ false
          → part_of (option_or (option_or (after_play reason.Illegal (λ next. cond (has_class p unsafe_class) None
          (option_map reason.Unsafe (capture_of d next m))) r)
          (option_or (enemy_reason d p board friend m) (constraint_reason d p board friend t m)))
          (helper_reason advice p board friend m)) ≡ 1
      by (Err why) bad = refl
      by (Ok next) bad = absurd (false≢true (sym bad))

  -- a try ends behind the move if that is legal
  pub part-late : fits p board friend t m ≡ true → is_legal board friend m ≡ true
      → 2 ≤ part_at d advice p board friend t m
  part-late whole legal =
      subst (λ n. 2 ≤ n) (sym (part-fitting whole))
      (late_or (option_or (move_reason d p board friend m)
      (option_or (enemy_reason d p board friend m) (constraint_reason d p board friend t m)))
      (helper_reason advice p board friend m)
      (late_or (move_reason d p board friend m)
      (option_or (enemy_reason d p board friend m) (constraint_reason d p board friend t m))
      (late_move d p board friend m legal)
      (late_or (enemy_reason d p board friend m) (constraint_reason d p board friend t m)
      (late_enemy d p board friend m) late_constraint))
      late_helper)
