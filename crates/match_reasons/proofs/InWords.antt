-- What the first reason says: the parts before it hold, and this one fails.
use Rattle.std.proofs.Common.{◌≡◌, ℕ, zero, suc, ◌+◌, ◌<◌, Bool, true, false, not, ◌&&◌, cond, ◌⊎◌, inl, inr, List}
use Rattle.std.proofs.Common.{[], ◌∷◌, Option, Some, None, option_map, slice_get, Result, Ok, Err, IsTrue, pos, refl}
use Rattle.std.proofs.Common.{sym, ap, ◌∙◌, subst, arith}
use Rattle.std.specs.List.{position_from}
use Rattle.std.specs.Option.{option_or}
use Rattle.std.specs.Ordering.{int_eq}
use Rattle.std.proofs.lemmas.Bool.{false≢true, and_parts, eq-eqb, not-true, not-false, and_from}
use Rattle.std.proofs.lemmas.Bool.Decides.{Decides-int_eq}
use Rattle.std.proofs.lemmas.Option.{none-some, same_Some}
use Rattle.go_rules.specs.declared.Colour.{Colour}
use Rattle.go_rules.specs.declared.Illegal.{Illegal}
use Rattle.go_rules.specs.Position.{BoardState, other}
use Rattle.go_rules.specs.Play.{play, is_legal}
use Rattle.helpers.specs.Fields.{names_helper, refuses}
use Rattle.pat_types.specs.declared.expr.Expr.{Expr}
use Rattle.pat_types.specs.declared.pattern.Item.{Item}
use Rattle.pat_types.specs.declared.pattern.Pattern.{Pattern}
use Rattle.read_rules.specs.declared.depths.Depths.{Depths}
use Rattle.read_rules.specs.declared.question.Answer.{Answer}
use Rattle.read_rules.specs.declared.question.Kind.TheVariants.{Attack}
use Rattle.cons_eval.specs.Readings.{code_at}
use Rattle.cons_eval.specs.Values.{value_of}
use Rattle.match_rules.specs.Fits.{fits}
use Rattle.match_rules.specs.Conditions.{has_class, unsafe_class, enemy_class, is_safe, is_enemy_safe, meanings_at}
use Rattle.match_rules.specs.Conditions.{is_so_valued, is_constraint_true, Advice}
use Rattle.match_misfit.specs.declared.diagram.Misfit.{Misfit}
use Rattle.match_misfit.specs.Misfits.{first_misfit}
use Rattle.match_misfit.proofs.InWords.{is_misfit_in_words}
use Rattle.match_reasons.specs.declared.reason.Reason.{Reason}
use Rattle.match_reasons.specs.declared.reason.Reason.TheVariants as reason
use Rattle.match_reasons.specs.FreshReadings.{fresh_codes, fresh_answer, capture_of}
use Rattle.match_reasons.specs.Reasons.{after_play, move_reason, enemy_reason, constraint_reason, helper_reason}
use Rattle.match_reasons.specs.Reasons.{reason_before_helpers, first_reason}
use Rattle.match_reasons.specs.FirstReasons.{MayMove, IsFirst, diagram, move_refused, stone_captured}
use Rattle.match_reasons.specs.FirstReasons.{enemy_refused, enemy_captured, constraint_is_0, helper_says_no}
use Rattle.match_reasons.proofs.NoReason.{is_nothing, no_diagram_reason, no_move_reason, no_enemy_reason}
use Rattle.match_reasons.proofs.NoReason.{nothing_before}

-- what the first or else the second gives is given by the first, or the first gives nothing
one_gives : {A : Type 0} (a b : Option A) (x : A) → option_or a b ≡ Some x
    → (a ≡ Some x) ⊎ ((is_nothing a ≡ true) × (b ≡ Some x))
one_gives None b x e = inr (refl, e)
one_gives (Some y) b x e = inl e

-- what is made of something is made of what is there
made_of : {A B : Type 0} (f : A → B) (o : Option A) (y : B) → option_map f o ≡ Some y
    → (x : A) × (o ≡ Some x) × (f x ≡ y)
made_of f None y e = absurd (none-some y e)
made_of f (Some x) y e = (x, refl, same_Some (f x) y e)

-- an attack that is told captures the stone
capture_told : (d : Depths) (board : BoardState) (m : ℕ) (a : Answer) → capture_of d board m ≡ Some a
    → (a ≡ fresh_answer d Attack board m) × (code_at (fresh_codes d) Attack board m ≡ 0 → ⊥)
capture_told d board m a told = grind (arith, none-some, same_Some, false≢true, eq-eqb)

-- the field that is found refuses, and none before it does
record IsFound (test : Item → Bool) (items : List Item) (from n : ℕ) : Type 0 where
  i : ℕ
  item : Item
  place : from + i ≡ n
  there : slice_get items i ≡ Some item
  passes : test item ≡ true
  first : (k : ℕ) (earlier : Item) → k < i → slice_get items k ≡ Some earlier → test earlier ≡ false

-- the first field that passes a test
found_first : (test : Item → Bool) (items : List Item) (from n : ℕ) → position_from test from items ≡ Some n
    → IsFound test items from n
found_first test [] from n e = absurd (none-some n e)
found_first test (x ∷ items) from n e = by (test x) refl e (λ rest. found_first test items (from + 1) n rest)
  where
    by : (b : Bool) → test x ≡ b → cond b (Some from) (position_from test (from + 1) items) ≡ Some n
        → (position_from test (from + 1) items ≡ Some n → IsFound test items (from + 1) n)
        → IsFound test (x ∷ items) from n
    by true is at rest = record {
      i = 0;
      item = x;
      place = omega (arith, same_Some from n at);
      there = refl;
      passes = is;
      first = λ k earlier low. absurd (omega (arith, low));
    }
    by false is at rest =
        let found = rest at in
        record {
          i = suc found.i;
          item = found.item;
          place = omega (arith, found.place);
          there = found.there;
          passes = found.passes;
          first = before found.i found.first;
        }
      where
        before : (i : ℕ) → ((k : ℕ) (earlier : Item) → k < i → slice_get items k ≡ Some earlier
            → test earlier ≡ false)
            → (k : ℕ) (earlier : Item) → k < suc i → slice_get (x ∷ items) k ≡ Some earlier → test earlier ≡ false
        before i rest_first zero earlier low here = ap test (sym (same_Some x earlier here)) ∙ is
        before i rest_first (suc k) earlier low here = rest_first k earlier (omega (arith, low)) here

module _ (d : Depths) (advice : Advice) (p : Pattern) (board : BoardState) (friend : Colour) (t m : ℕ) where
  -- what is said against the friend's move
  move_words : (r : Reason) → IsTrue (fits p board friend t m) → move_reason d p board friend m ≡ Some r
      → IsFirst d advice p board friend t m r
  unfolding move_reason
  move_words r fit e = by (play board friend m) refl e
    where
      by_class : (b : Bool) (next : BoardState) → has_class p unsafe_class ≡ b → play board friend m ≡ Ok next
          → cond b None (option_map reason.Unsafe (capture_of d next m)) ≡ Some r
          → IsFirst d advice p board friend t m r
      by_class true next is legal told = absurd (none-some r told)
      by_class false next is legal told =
          let made = made_of reason.Unsafe (capture_of d next m) r told in
          let captured = capture_told d next m made.0 made.1 in
          subst (IsFirst d advice p board friend t m) made.2
          (stone_captured made.0 fit is
          (record { next = next; legal = legal; attack = captured.0; succeeds = captured.1 }))

      by : (played : Result BoardState Illegal) → play board friend m ≡ played
          → after_play reason.Illegal (λ next. cond (has_class p unsafe_class) None
          (option_map reason.Unsafe (capture_of d next m))) played ≡ Some r
          → IsFirst d advice p board friend t m r
      by (Err why) is told =
          subst (IsFirst d advice p board friend t m) (same_Some (reason.Illegal why) r told) (move_refused why fit is)
      by (Ok next) is told = by_class (has_class p unsafe_class) next refl is told

  -- what class n says
  enemy_words : (r : Reason) → MayMove d p board friend t m → enemy_reason d p board friend m ≡ Some r
      → IsFirst d advice p board friend t m r
  unfolding enemy_reason
  enemy_words r may e = by (has_class p enemy_class) refl e
    where
      by_play : (played : Result BoardState Illegal) → has_class p enemy_class ≡ true
          → play board (other friend) m ≡ played
          → after_play reason.EnemyIllegal (λ next. option_map reason.EnemyUnsafe (capture_of d next m)) played
          ≡ Some r → IsFirst d advice p board friend t m r
      by_play (Err why) there is told =
          subst (IsFirst d advice p board friend t m) (same_Some (reason.EnemyIllegal why) r told)
          (enemy_refused why may there is)
      by_play (Ok next) there is told =
          let made = made_of reason.EnemyUnsafe (capture_of d next m) r told in
          let captured = capture_told d next m made.0 made.1 in
          subst (IsFirst d advice p board friend t m) made.2
          (enemy_captured made.0 may there
          (record { next = next; legal = is; attack = captured.0; succeeds = captured.1 }))

      by : (b : Bool) → has_class p enemy_class ≡ b
          → cond b (after_play reason.EnemyIllegal (λ next. option_map reason.EnemyUnsafe (capture_of d next m))
          (play board (other friend) m)) None ≡ Some r → IsFirst d advice p board friend t m r
      by true there told = by_play (play board (other friend) m) there refl told
      by false none told = absurd (none-some r told)

  -- what the constraint says
  constraint_words : (r : Reason) → MayMove d p board friend t m
      → IsTrue (is_enemy_safe (fresh_codes d) p board friend m)
      → constraint_reason d p board friend t m ≡ Some r → IsFirst d advice p board friend t m r
  constraint_words r may enemy e = by (is_constraint_true (fresh_codes d) p board friend t m) refl e
    where
      zero_value : (o : Option Expr) → p.constraint ≡ o
          → is_so_valued (meanings_at (fresh_codes d) p board friend t m) o ≡ false
          → IsFirst d advice p board friend t m reason.Constraint
      zero_value None is false_value = absurd (false≢true (sym false_value))
      zero_value (Some expr) is false_value =
          let value = value_of (meanings_at (fresh_codes d) p board friend t m) expr in
          constraint_is_0 expr may enemy is
          ((Decides-int_eq value (pos 0)).0 (not-false (int_eq value (pos 0)) false_value))

      by : (b : Bool) → is_constraint_true (fresh_codes d) p board friend t m ≡ b
          → cond b None (Some reason.Constraint) ≡ Some r → IsFirst d advice p board friend t m r
      by true is told = absurd (none-some r told)
      by false is told =
          subst (IsFirst d advice p board friend t m) (same_Some reason.Constraint r told)
          (zero_value p.constraint refl is)

  -- what the helpers say
  helper_words : (r : Reason) → MayMove d p board friend t m
      → IsTrue (is_enemy_safe (fresh_codes d) p board friend m && is_constraint_true (fresh_codes d) p board friend t m)
      → helper_reason advice p board friend m ≡ Some r → IsFirst d advice p board friend t m r
  helper_words r may rest e =
      let says : List ℕ → Bool = λ name. advice name board m friend in
      let made = made_of reason.Helper (position_from (refuses says) 0 p.items) r e in
      let found = found_first (refuses says) p.items 0 made.0 made.1 in
      let parts = and_parts (names_helper found.item) (not (says found.item.name)) found.passes in
      let same : found.i ≡ made.0 = omega (arith, found.place) in
      subst (IsFirst d advice p board friend t m) (ap reason.Helper same ∙ made.2)
      (helper_says_no found.i found.item may rest found.there
      (record { names = parts.0; says_no = not-true (says found.item.name) parts.1 })
      (λ k earlier low here no_said. absurd (false≢true (sym (found.first k earlier low here)
      ∙ and_from (names_helper earlier) (not (says earlier.name)) no_said.names
      (ap not no_said.says_no)))))

  -- the move may be made if the diagram, the play and its safety hold
  may_move : IsTrue (fits p board friend t m)
      → is_nothing (move_reason d p board friend m) ≡ true → MayMove d p board friend t m
  may_move fit none =
      let parts = and_parts (is_legal board friend m) (is_safe (fresh_codes d) p board friend m)
      (sym (no_move_reason d p board friend m) ∙ none) in
      record { fits = fit; legal = parts.0; safe = parts.1 }

  -- the reason of a part before the helpers
  before_words : (r : Reason) → reason_before_helpers d p board friend t m ≡ Some r
      → IsFirst d advice p board friend t m r
  unfolding reason_before_helpers
  before_words r e = elim (one_gives (option_map reason.Misfit (first_misfit p board friend t m))
      (option_or (move_reason d p board friend m) (option_or (enemy_reason d p board friend m)
      (constraint_reason d p board friend t m))) r e) [
        | inl told ↦ of_misfit (made_of reason.Misfit (first_misfit p board friend t m) r told)
        | inr fit ↦ of_move (sym (no_diagram_reason p board friend t m) ∙ fit.0) fit.1
      ]
    where
      of_misfit : (z : Misfit) × (first_misfit p board friend t m ≡ Some z) × (reason.Misfit z ≡ r)
          → IsFirst d advice p board friend t m r
      of_misfit made = subst (IsFirst d advice p board friend t m) made.2
          (diagram made.0 (is_misfit_in_words p board friend t m made.0 made.1))

      of_enemy : MayMove d p board friend t m
          → option_or (enemy_reason d p board friend m) (constraint_reason d p board friend t m) ≡ Some r
          → IsFirst d advice p board friend t m r
      of_enemy may told = elim (one_gives (enemy_reason d p board friend m)
          (constraint_reason d p board friend t m) r told) [
            | inl enemy ↦ enemy_words r may enemy
            | inr none ↦ constraint_words r may (sym (no_enemy_reason d p board friend m) ∙ none.0) none.1
          ]

      of_move : IsTrue (fits p board friend t m)
          → option_or (move_reason d p board friend m) (option_or (enemy_reason d p board friend m)
          (constraint_reason d p board friend t m)) ≡ Some r → IsFirst d advice p board friend t m r
      of_move fit told = elim (one_gives (move_reason d p board friend m)
          (option_or (enemy_reason d p board friend m) (constraint_reason d p board friend t m)) r told) [
            | inl move ↦ move_words r fit move
            | inr none ↦ of_enemy (may_move fit none.0) none.1
          ]

  -- if nothing before the helpers fails, the move may be made, and class n and the constraint hold
  all_before : is_nothing (reason_before_helpers d p board friend t m) ≡ true
      → MayMove d p board friend t m
      × IsTrue (is_enemy_safe (fresh_codes d) p board friend m && is_constraint_true (fresh_codes d) p board friend t m)
  all_before none =
      let parts = and_parts (fits p board friend t m)
      ((is_legal board friend m && is_safe (fresh_codes d) p board friend m)
      && (is_enemy_safe (fresh_codes d) p board friend m && is_constraint_true (fresh_codes d) p board friend t m))
      (sym (nothing_before d advice p board friend t m) ∙ none) in
      let more = and_parts (is_legal board friend m && is_safe (fresh_codes d) p board friend m)
      (is_enemy_safe (fresh_codes d) p board friend m && is_constraint_true (fresh_codes d) p board friend t m)
      parts.1 in
      let move = and_parts (is_legal board friend m) (is_safe (fresh_codes d) p board friend m) more.0 in
      (record { fits = parts.0; legal = move.0; safe = move.1 }, more.1)

-- the first reason is so
pub first_in_words : (d : Depths) (advice : Advice) (p : Pattern) (board : BoardState) (friend : Colour) (t m : ℕ)
    (r : Reason) → first_reason d advice p board friend t m ≡ Some r → IsFirst d advice p board friend t m r
unfolding first_reason
first_in_words d advice p board friend t m r e =
    elim (one_gives (reason_before_helpers d p board friend t m) (helper_reason advice p board friend m) r e) [
      | inl before ↦ before_words d advice p board friend t m r before
      | inr none ↦
          let all = all_before d advice p board friend t m none.0 in
          helper_words d advice p board friend t m r all.0 all.1 none.1
    ]
