-- What each reason says, in the words of Go: the parts before it hold, and the part that it names fails.
use Rattle.std.specs.Prelude.{◌≡◌, ◌≢◌, ℕ, ◌<◌, ◌&&◌, false, IsTrue, pos, Some, Err, Ok, slice_get}
use Rattle.go_rules.specs.declared.Colour.{Colour}
use Rattle.go_rules.specs.declared.Illegal.{Illegal}
use Rattle.go_rules.specs.Position.{BoardState, other}
use Rattle.go_rules.specs.Play.{play, is_legal}
use Rattle.helpers.specs.Fields.{names_helper}
use Rattle.pat_types.specs.declared.expr.Expr.{Expr}
use Rattle.pat_types.specs.declared.pattern.Item.{Item}
use Rattle.pat_types.specs.declared.pattern.Pattern.{Pattern}
use Rattle.read_rules.specs.declared.depths.Depths.{Depths}
use Rattle.read_rules.specs.declared.question.Answer.{Answer}
use Rattle.read_rules.specs.declared.question.Kind.TheVariants.{Attack}
use Rattle.cons_eval.specs.Readings.{code_at}
use Rattle.cons_eval.specs.Values.{value_of}
use Rattle.match_rules.specs.Fits.{fits}
use Rattle.match_rules.specs.Conditions.{has_class, unsafe_class, enemy_class, is_safe, is_enemy_safe, meanings_at}
use Rattle.match_rules.specs.Conditions.{is_constraint_true, Advice}
use Rattle.match_misfit.specs.declared.diagram.Misfit.{Misfit}
use Rattle.match_misfit.specs.Misfits.{IsMisfit}
use Rattle.match_reasons.specs.declared.reason.Reason.{Reason}
use Rattle.match_reasons.specs.declared.reason.Reason.TheVariants as reason
use Rattle.match_reasons.specs.FreshReadings.{fresh_answer, fresh_codes}

-- c may play at m, and the attack a captures the stone afterwards: its code is not 0
pub record IsCaptured (d : Depths) (board : BoardState) (c : Colour) (m : ℕ) (a : Answer) : Type 0 where
  pub next : BoardState
  pub legal : play board c m ≡ Ok next
  pub attack : a ≡ fresh_answer d Attack next m
  pub succeeds : code_at (fresh_codes d) Attack next m ≢ 0

-- the diagram fits at m under t, and the friend's move there is legal and, unless the pattern has class s, safe
pub record MayMove (d : Depths) (p : Pattern) (board : BoardState) (friend : Colour) (t m : ℕ) : Type 0 where
  pub fits : IsTrue (fits p board friend t m)
  pub legal : IsTrue (is_legal board friend m)
  pub safe : IsTrue (is_safe (fresh_codes d) p board friend m)

-- the item names a helper, and this helper says no to the friend's move at m
pub record SaysNo (advice : Advice) (board : BoardState) (friend : Colour) (m : ℕ) (item : Item) : Type 0 where
  pub names : IsTrue (names_helper item)
  pub says_no : advice item.name board m friend ≡ false

-- the parts before the one that the reason names hold, and that part fails as the reason says
pub data IsFirst (d : Depths) (advice : Advice) (p : Pattern) (board : BoardState) (friend : Colour)
    (t m : ℕ) : Reason → Type 0 where
  -- a cell of the diagram does not fit
  diagram : (z : Misfit) → IsMisfit p board friend t m z → IsFirst d advice p board friend t m (reason.Misfit z)
  -- the friend's play is refused
  move_refused : (why : Illegal) → IsTrue (fits p board friend t m) → play board friend m ≡ Err why
      → IsFirst d advice p board friend t m (reason.Illegal why)
  -- the pattern lacks class s, and the friend's stone is captured
  stone_captured : (a : Answer) → IsTrue (fits p board friend t m) → has_class p unsafe_class ≡ false
      → IsCaptured d board friend m a → IsFirst d advice p board friend t m (reason.Unsafe a)
  -- the pattern has class n, and the enemy's play is refused
  enemy_refused : (why : Illegal) → MayMove d p board friend t m → IsTrue (has_class p enemy_class)
      → play board (other friend) m ≡ Err why → IsFirst d advice p board friend t m (reason.EnemyIllegal why)
  -- the pattern has class n, and the enemy's stone is captured
  enemy_captured : (a : Answer) → MayMove d p board friend t m → IsTrue (has_class p enemy_class)
      → IsCaptured d board (other friend) m a → IsFirst d advice p board friend t m (reason.EnemyUnsafe a)
  -- the value of the constraint is 0
  constraint_is_0 : (e : Expr) → MayMove d p board friend t m
      → IsTrue (is_enemy_safe (fresh_codes d) p board friend m) → p.constraint ≡ Some e
      → value_of (meanings_at (fresh_codes d) p board friend t m) e ≡ pos 0
      → IsFirst d advice p board friend t m reason.Constraint
  -- a helper says no, and no field before this helper's field names one that says no
  helper_says_no : (i : ℕ) (item : Item) → MayMove d p board friend t m
      → IsTrue (is_enemy_safe (fresh_codes d) p board friend m && is_constraint_true (fresh_codes d) p board friend t m)
      → slice_get p.items i ≡ Some item → SaysNo advice board friend m item
      → ((k : ℕ) (earlier : Item) → k < i → slice_get p.items k ≡ Some earlier
      → SaysNo advice board friend m earlier → ⊥)
      → IsFirst d advice p board friend t m (reason.Helper i)
