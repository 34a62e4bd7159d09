-- The faults of an expression that is in the grammar.
use Rattle.std.specs.Prelude.{ℕ, suc, ◌-◌, Bool, true, false, ◌||◌, not, nat_lt, List, [], ◌∷◌, length, Option, Some}
use Rattle.std.specs.Prelude.{None, if◌then◌else◌}
use Rattle.std.specs.List.{list_any, slice_get}
use Rattle.pat_types.specs.declared.expr.Arg.{Arg}
use Rattle.pat_types.specs.declared.expr.Arg.TheVariants.{Label, Star, Nowhere}
use Rattle.pat_types.specs.declared.expr.Function.{Function}
use Rattle.pat_types.specs.declared.pattern.LabelAt.{LabelAt}
use Rattle.pat_types.specs.Labels.{names, arity_of, takes_moves}
use Rattle.cons_parse.specs.declared.error.ConsError.{ConsError}
use Rattle.cons_parse.specs.declared.error.ConsError.TheVariants.{TooDeep, UnknownFunction, Arity, UnknownLabel}
use Rattle.cons_parse.specs.declared.token.Name.{Name}
use Rattle.cons_parse.specs.declared.token.Name.TheVariants.{Letter, Known, Unknown}
use Rattle.cons_parse.specs.declared.calls.Item.{Item}
use Rattle.cons_parse.specs.declared.calls.Item.TheVariants as item
use Rattle.cons_parse.specs.Grammar.{Written, Num, Call, Parens, Not, Neg, Bin}

-- the most levels within which a number, a name or an argument may stand
abbrev pub most_levels : ℕ
most_levels = 32

-- some leaf stands within too many levels, if n levels are around the expression
abbrev pub is_too_deep : ℕ → Written → Bool
is_too_deep n (Num k) = nat_lt most_levels n
is_too_deep n (Call name args) = nat_lt most_levels n
is_too_deep n (Parens e) = is_too_deep (suc n) e
is_too_deep n (Not e) = is_too_deep (suc n) e
is_too_deep n (Neg e) = is_too_deep (suc n) e
is_too_deep n (Bin op a b) = is_too_deep n a || is_too_deep n b

-- the name is not the name of a function
abbrev pub is_unknown : Name → Bool
is_unknown (Letter c) = true
is_unknown (Known f) = false
is_unknown Unknown = true

-- the argument is a pass
abbrev pub is_nowhere : Arg → Bool
is_nowhere Nowhere = true
is_nowhere Star = false
is_nowhere (Label c) = false

-- there is an argument, and it is a pass
abbrev pub is_some_nowhere : Option Arg → Bool
is_some_nowhere None = false
is_some_nowhere (Some a) = is_nowhere a

-- the last argument is a pass
abbrev pub ends_nowhere : List Arg → Bool
ends_nowhere args = is_some_nowhere (slice_get args (length args - 1))

-- a pass stands where no move may: as the last argument, or as any argument if the function takes no moves
abbrev pub has_stray_pass : Function → List Arg → Bool
has_stray_pass f args = if takes_moves f then ends_nowhere args else list_any is_nowhere args

-- the function does not take these arguments: they are too few or too many, or a pass stands where no move may
abbrev pub is_miscalled : Function → List Arg → Bool
is_miscalled f args =
    nat_lt (length args) (arity_of f).0 || nat_lt (arity_of f).1 (length args) || has_stray_pass f args

-- the name is that of a function that does not take these arguments
abbrev pub misses : Name → List Arg → Bool
misses (Letter c) args = false
misses (Known f) args = is_miscalled f args
misses Unknown args = false

-- the argument is a letter that no label has
abbrev pub is_unknown_label : List LabelAt → Arg → Bool
is_unknown_label labels (Label letter) = not (names labels letter)
is_unknown_label labels Star = false
is_unknown_label labels Nowhere = false

-- the item is a call that passes the test
abbrev pub calls : (Name → List Arg → Bool) → Item → Bool
calls test (item.Number n) = false
calls test (item.Call name args) = test name args
calls test (item.Operator op) = false
calls test item.Bang = false
calls test item.Open = false
calls test item.Close = false

-- some call of an expression passes the test
abbrev pub some_call : (Name → List Arg → Bool) → Written → Bool
some_call test (Num n) = false
some_call test (Call name args) = test name args
some_call test (Parens e) = some_call test e
some_call test (Not e) = some_call test e
some_call test (Neg e) = some_call test e
some_call test (Bin op a b) = some_call test a || some_call test b

-- the name of the call is not the name of a function
abbrev pub is_unknown_call : Name → List Arg → Bool
is_unknown_call name args = is_unknown name

-- an argument of the call is a letter that no label has
abbrev pub is_unlabelled : List LabelAt → Name → List Arg → Bool
is_unlabelled labels name args = list_any (is_unknown_label labels) args

-- the first fault whose test is true
abbrev pub first_of : List (Bool × ConsError) → Option ConsError
first_of [] = None
first_of (fault ∷ more) = if fault.0 then Some fault.1 else first_of more

-- the first fault of the calls among the items
abbrev pub call_fault : List LabelAt → List Item → Option ConsError
call_fault labels is = first_of (
    (list_any (calls is_unknown_call) is, UnknownFunction)
    ∷ (list_any (calls misses) is, Arity)
    ∷ (list_any (calls (is_unlabelled labels)) is, UnknownLabel)
    ∷ [])

-- the first fault of an expression that is in the grammar
unfoldable pub fault_of : List LabelAt → Written → Option ConsError
fault_of labels e = first_of (
    (is_too_deep 0 e, TooDeep)
    ∷ (some_call is_unknown_call e, UnknownFunction)
    ∷ (some_call misses e, Arity)
    ∷ (some_call (is_unlabelled labels) e, UnknownLabel)
    ∷ [])
