-- What the parts of parsing say together of a text.
use Rattle.std.proofs.Common.{◌≡◌, ℕ, ◌≤◌, Bool, true, false, ◌||◌, cond, nat_lt, List, [], ◌∷◌, ◌++◌, length, Option}
use Rattle.std.proofs.Common.{Some, None, refl, arith}
use Rattle.std.proofs.Math.Bool.{or-false, or_assoc}
use Rattle.std.proofs.lemmas.Option.{same_Some}
use Rattle.std.specs.List.{list_any}
use Rattle.std.proofs.lemmas.Bool.{ltb-false, le-ltb}
use Rattle.pat_types.specs.declared.pattern.LabelAt.{LabelAt}
use Rattle.pat_types.specs.declared.expr.Arg.{Arg}
use Rattle.pat_types.specs.declared.expr.Expr.{Expr}
use Rattle.cons_parse.specs.declared.error.ConsError.{ConsError}
use Rattle.cons_parse.specs.declared.error.ConsError.TheVariants.{Syntax, TooDeep, UnknownFunction, Arity, UnknownLabel}
use Rattle.cons_parse.specs.declared.error.ConsError.TheVariants.{NoMemory}
use Rattle.cons_parse.specs.declared.token.Name.{Name}
use Rattle.cons_parse.specs.declared.calls.Item.{Item}
use Rattle.cons_parse.specs.Answers.{Fails}
use Rattle.cons_parse.specs.Calls.{items_in}
use Rattle.cons_parse.specs.Grammar.{Written, Num, Call, Parens, Not, Neg, Bin, spelling, Writes, most_bytes}
use Rattle.cons_parse.specs.Faults.{is_too_deep, calls, some_call, first_of, fault_of, call_fault}
use Rattle.cons_parse.specs.Scan.{scanned}
use Rattle.cons_parse.specs.Trees.{tree_of}
use Rattle.cons_parse.specs.Building.{trees, built}
use Rattle.cons_parse.specs.Parsing.{items_within, HasFirstFault, Spells, Refuses}
use Rattle.cons_parse.proofs.SpellingScans.{scanned_spelling}
use Rattle.cons_parse.proofs.ScanSoundness.{scanned_is_spelled}
use Rattle.cons_parse.proofs.Spellings.{built_spelling, tree_is_meaning}

-- some call passes exactly if the test of some item does
any_append : (t : Item → Bool) (is js : List Item) → list_any t (is ++ js) ≡ (list_any t is || list_any t js)
any_append t [] js = refl
any_append t (i ∷ is) js = grind (arith, or_assoc, any_append t is js)

-- some call of an expression passes exactly if some item of its spelling does
pub some_call_spelled : (test : Name → List Arg → Bool) (w : Written)
    → list_any (calls test) (spelling w) ≡ some_call test w
some_call_spelled test (Num n) = refl
some_call_spelled test (Call name args) = or-false (test name args)
some_call_spelled test (Parens e) = grind (arith, any_append, or-false, some_call_spelled test e)
some_call_spelled test (Not e) = some_call_spelled test e
some_call_spelled test (Neg e) = some_call_spelled test e
some_call_spelled test (Bin op a b) = grind (arith, any_append, some_call_spelled test a, some_call_spelled test b)

-- a text whose items are scanned to their end
pub record IsScanned (text : List ℕ) (items : List Item) (deep : Bool) : Type 0 where
  pub w : Written
  pub writes : Writes text w
  pub spells : spelling w ≡ items
  pub depth : is_too_deep 0 w ≡ deep

-- a text whose items are given is short enough
within_if : (t : Bool) (text : List ℕ) (items : List Item) → nat_lt most_bytes (length text) ≡ t
    → cond t None (items_in text) ≡ Some items → (length text ≤ most_bytes) × (items_in text ≡ Some items)
within_if true text items e h = cc
within_if false text items e h = (ltb-false most_bytes (length text) e, h)

-- the items of what a text spells are those of the text
pub written_within : (text : List ℕ) (w : Written) → Writes text w → items_within text ≡ Some (spelling w)
written_within text w h = grind (arith, le-ltb)

-- items that are scanned to their end are spelled by an expression
pub told : (text : List ℕ) (items : List Item) (deep : Bool) → items_within text ≡ Some items
    → scanned items ≡ Some deep → IsScanned text items deep
told text items deep h s = grind (arith, within_if, nat_lt, scanned_is_spelled, same_Some, scanned_spelling)

-- where a leaf stands too deep, TooDeep is the first fault
pub too_deep : (labels : List LabelAt) (text : List ℕ) (items : List Item) → IsScanned text items true
    → HasFirstFault labels text (Some TooDeep)
unfolding fault_of
too_deep labels text items t = record { written = t.w; writes = t.writes; first = rw t.depth refl }

-- the first fault of what does not stand too deep
shallow : (labels : List LabelAt) (w : Written) → is_too_deep 0 w ≡ false
    → fault_of labels w ≡ call_fault labels (spelling w)
unfolding fault_of
shallow labels w h = grind (arith, some_call_spelled)

-- if none stands too deep, the first fault of the calls is the first fault
pub call_told : (labels : List LabelAt) (text : List ℕ) (items : List Item) (fault : Option ConsError)
    → IsScanned text items false → call_fault labels items ≡ fault → HasFirstFault labels text fault
call_told labels text items fault t h = grind (arith, shallow)

-- no fault of the calls is Syntax
no_syntax : (a b c : Bool) → first_of ((a, UnknownFunction) ∷ (b, Arity) ∷ (c, UnknownLabel) ∷ []) ≡ Some Syntax → ⊥
no_syntax true b c h = cc
no_syntax false true c h = cc
no_syntax false false true h = cc
no_syntax false false false h = cc

-- a fault of the calls is refused rightly
pub call_refused : (labels : List LabelAt) (text : List ℕ) (items : List Item) (e : ConsError)
    → IsScanned text items false → call_fault labels items ≡ Some e → Refuses labels text e
call_refused labels text items Syntax t h = grind (arith, no_syntax)
call_refused labels text items TooDeep t h = call_told labels text items (Some TooDeep) t h
call_refused labels text items UnknownFunction t h = call_told labels text items (Some UnknownFunction) t h
call_refused labels text items Arity t h = call_told labels text items (Some Arity) t h
call_refused labels text items UnknownLabel t h = call_told labels text items (Some UnknownLabel) t h
call_refused labels text items NoMemory t h = tt

-- items that are not in the grammar are refused rightly
pub scan_refused : (labels : List LabelAt) (text : List ℕ) (items : List Item) (e : ConsError)
    → items_within text ≡ Some items → Fails e (scanned items) → Refuses labels text e
scan_refused labels text items Syntax i h = grind (arith, same_Some, written_within, scanned_spelling)
scan_refused labels text items TooDeep i h = absurd h
scan_refused labels text items UnknownFunction i h = absurd h
scan_refused labels text items Arity i h = absurd h
scan_refused labels text items UnknownLabel i h = absurd h
scan_refused labels text items NoMemory i h = tt

-- what is built of items without faults is what the text spells
pub spelled : (labels : List LabelAt) (text : List ℕ) (items : List Item) (e : Expr) → IsScanned text items false
    → call_fault labels items ≡ None → tree_of e ≡ built trees items → Spells labels text e
spelled labels text items e t h b = grind (arith, shallow, built_spelling, tree_is_meaning)
