-- What the scan goes over to its end is spelled by an expression.
use Rattle.std.proofs.Common.{◌≡◌, ℕ, ◌<◌, ◌≤◌, Bool, true, false, ◌||◌, nat_lt, cond, List, [], ◌∷◌, ◌++◌, length}
use Rattle.std.proofs.Common.{Some, None, refl, ap, sym, ◌∙◌, arith, append_assoc}
use Rattle.std.specs.Option.{option_and_then}
use Rattle.std.proofs.lemmas.List.{append-nil}
use Rattle.std.proofs.lemmas.Bool.{ltb-true, ltb-false}
use Rattle.pat_types.specs.declared.expr.Op.{Op}
use Rattle.pat_types.specs.declared.expr.Op.TheVariants.{Or, And, Eq, Ne, Lt, Le, Gt, Ge, Add, Sub}
use Rattle.cons_parse.specs.declared.calls.Item.{Item}
use Rattle.cons_parse.specs.declared.calls.Item.TheVariants as item
use Rattle.cons_parse.specs.declared.scan.Opener.{Opener}
use Rattle.cons_parse.specs.declared.scan.Opener.TheVariants.{Prefix, Parenthesis}
use Rattle.cons_parse.specs.Grammar.{Written, Num, Call, Parens, Not, Neg, Bin, level_of_op, level_of, IsWell, spelling}
use Rattle.cons_parse.specs.Scan.{settled, scanned_from, scanned, is_sub}
use Rattle.cons_parse.specs.Building.{Pending, OpenNot, OpenNeg, OpenParens, OpenLeft}
use Rattle.cons_parse.proofs.SpellingScans.{to_come, come, op_level}

-- an expression with an operator and an operand behind it
abbrev pub extended : Written → Op → Written → Written
extended (Num n) op e = Bin op (Num n) e
extended (Call name args) op e = Bin op (Call name args) e
extended (Parens a) op e = Bin op (Parens a) e
extended (Not a) op e = Bin op (Not a) e
extended (Neg a) op e = Bin op (Neg a) e
extended (Bin o a b) op e =
    cond (nat_lt (level_of_op o) (level_of_op op)) (Bin o a (extended b op e)) (Bin op (Bin o a b) e)

-- the spelling of an extended expression, by the levels of its operators
spelling_if : (t : Bool) (o op : Op) (a b x e : Written) → spelling x ≡ spelling b ++ item.Operator op ∷ spelling e
    → spelling (cond t (Bin o a x) (Bin op (Bin o a b) e))
    ≡ (spelling a ++ item.Operator o ∷ spelling b) ++ item.Operator op ∷ spelling e
spelling_if true o op a b x e h = grind (arith, append_assoc)
spelling_if false o op a b x e h = refl

-- an extended expression spells its parts in order
extended_spelling : (a : Written) (op : Op) (e : Written)
    → spelling (extended a op e) ≡ spelling a ++ item.Operator op ∷ spelling e
extended_spelling (Num n) op e = refl
extended_spelling (Call name args) op e = refl
extended_spelling (Parens a) op e = refl
extended_spelling (Not a) op e = refl
extended_spelling (Neg a) op e = refl
extended_spelling (Bin o a b) op e = grind (arith, spelling_if, nat_lt, extended_spelling b op e)

-- a level below both parts is below the whole
below_if : (k : ℕ) (t : Bool) (o op : Op) (a b x e : Written) → k < level_of_op o → k < level_of_op op
    → k < level_of (cond t (Bin o a x) (Bin op (Bin o a b) e))
below_if k true o op a b x e h l = h
below_if k false o op a b x e h l = l

-- a level below an expression and an operator is below the extended one
extended_level : (k : ℕ) (a : Written) (op : Op) (e : Written) → k < level_of a → k < level_of_op op
    → k < level_of (extended a op e)
extended_level k (Num n) op e h l = l
extended_level k (Call name args) op e h l = l
extended_level k (Parens a) op e h l = l
extended_level k (Not a) op e h l = l
extended_level k (Neg a) op e h l = l
extended_level k (Bin o a b) op e h l = grind (arith, below_if, nat_lt)

-- an extended expression is of the grammar, by the levels of its operators
well_if : (t : Bool) (o op : Op) (a b x e : Written) → nat_lt (level_of_op o) (level_of_op op) ≡ t
    → IsWell (Bin o a b) → IsWell e → 5 ≤ level_of e
    → (level_of_op o < level_of_op op → level_of_op o < level_of x) → IsWell x
    → IsWell (cond t (Bin o a x) (Bin op (Bin o a b) e))
well_if true o op a b x e t v w l r y = (v.0, r (ltb-true (level_of_op o) (level_of_op op) t), v.2, y)
well_if false o op a b x e t v w l r y = grind (arith, ltb-false, op_level)

-- an extended expression is of the grammar where its parts are
extended_well : (a : Written) (op : Op) (e : Written) → IsWell a → IsWell e → 5 ≤ level_of e → IsWell (extended a op e)
extended_well (Num n) op e v w l = (omega (arith, op_level op), omega (arith, op_level op), v, w)
extended_well (Call name args) op e v w l = (omega (arith, op_level op), omega (arith, op_level op), v, w)
extended_well (Parens a) op e v w l = (omega (arith, op_level op), omega (arith, op_level op), v, w)
extended_well (Not a) op e v w l = (omega (arith, op_level op), omega (arith, op_level op), v, w)
extended_well (Neg a) op e v w l = (omega (arith, op_level op), omega (arith, op_level op), v, w)
extended_well (Bin o a b) op e v w l =
    well_if (nat_lt (level_of_op o) (level_of_op op)) o op a b (extended b op e) e refl v w l
    (λ h. extended_level (level_of_op o) b op e v.1 h) (extended_well b op e v.3 w l)

-- what is open, as openers; the items that were read; a front that no sign ends
abbrev pub openers_of : List (Pending Written) → List Opener
openers_of [] = []
openers_of (OpenNot ∷ ps) = Prefix ∷ openers_of ps
openers_of (OpenNeg ∷ ps) = Prefix ∷ openers_of ps
openers_of (OpenParens ∷ ps) = Parenthesis ∷ openers_of ps
openers_of (OpenLeft op a ∷ ps) = openers_of ps

-- the items that were read for what is open
abbrev pub read_by : List (Pending Written) → List Item
read_by [] = []
read_by (OpenNot ∷ ps) = read_by ps ++ item.Bang ∷ []
read_by (OpenNeg ∷ ps) = read_by ps ++ item.Operator Sub ∷ []
read_by (OpenParens ∷ ps) = read_by ps ++ item.Open ∷ []
read_by (OpenLeft op a ∷ ps) = read_by ps ++ (spelling a ++ item.Operator op ∷ [])

-- no sign and no left side is the newest
abbrev pub IsBase : List (Pending Written) → Type 0
IsBase [] = Unit {0}
IsBase (OpenNot ∷ ps) = ⊥
IsBase (OpenNeg ∷ ps) = ⊥
IsBase (OpenParens ∷ ps) = Unit {0}
IsBase (OpenLeft op a ∷ ps) = ⊥

-- each left side that is open is of the grammar and behind a base
abbrev pub IsGood : List (Pending Written) → Type 0
IsGood [] = Unit {0}
IsGood (OpenNot ∷ ps) = IsGood ps
IsGood (OpenNeg ∷ ps) = IsGood ps
IsGood (OpenParens ∷ ps) = IsGood ps
IsGood (OpenLeft op a ∷ ps) = IsWell a × IsBase ps × IsGood ps

-- an operand with what it closes
record Settled (ms : List Opener) (is : List Item) : Type 0 where
  open_ps : List (Pending Written)
  now : Written
  base : IsBase open_ps
  good : IsGood open_ps
  well : IsWell now
  openers : openers_of open_ps ≡ settled ms
  read : read_by open_ps ++ spelling now ≡ is

-- what an operand closes, by equal openers and equal items
with_read : (ms ns : List Opener) (is js : List Item) → settled ms ≡ settled ns → is ≡ js → Settled ms is
    → Settled ns js
with_read ms ns is js e f s = grind arith

-- an operand closes nothing of a base
base_settled : (ps : List (Pending Written)) → IsBase ps → openers_of ps ≡ settled (openers_of ps)
base_settled [] b = refl
base_settled (OpenNot ∷ ps) b = absurd b
base_settled (OpenNeg ∷ ps) b = absurd b
base_settled (OpenParens ∷ ps) b = refl
base_settled (OpenLeft op a ∷ ps) b = absurd b

-- an operand closes the sign before it
sign_closed : (ps : List (Pending Written)) (sign : Item) (e : Written)
    → Settled (openers_of ps) (read_by ps ++ sign ∷ spelling e)
    → Settled (Prefix ∷ openers_of ps) (read_by ps ++ sign ∷ [] ++ spelling e)
sign_closed ps sign e = grind (arith, with_read, append_assoc)

-- an operand joins the left side before it
left_joined : (ps : List (Pending Written)) (op : Op) (a e : Written) → IsGood (OpenLeft op a ∷ ps) → IsWell e
    → 5 ≤ level_of e → Settled (openers_of (OpenLeft op a ∷ ps)) (read_by (OpenLeft op a ∷ ps) ++ spelling e)
left_joined ps op a e g v l =
    grind (
      arith,
      extended_well a op e g.0 v l,
      base_settled ps g.1,
      extended_spelling a op e,
      append_assoc (spelling a) (item.Operator op ∷ []) (spelling e),
      append_assoc (read_by ps) (spelling a ++ item.Operator op ∷ []) (spelling e),
    )

-- an operand closes the signs before it and joins the left side
settle : (ps : List (Pending Written)) (e : Written) → IsGood ps → IsWell e → 5 ≤ level_of e
    → Settled (openers_of ps) (read_by ps ++ spelling e)
settle [] e g v l = record { open_ps = []; now = e; base = tt; good = tt; well = v; openers = refl; read = refl }
settle (OpenNot ∷ ps) e g v l = sign_closed ps item.Bang e (settle ps (Not e) g (l, v) (omega arith))
settle (OpenNeg ∷ ps) e g v l = sign_closed ps (item.Operator Sub) e (settle ps (Neg e) g (l, v) (omega arith))
settle (OpenParens ∷ ps) e g v l =
    record { open_ps = OpenParens ∷ ps; now = e; base = tt; good = g; well = v; openers = refl; read = refl }
settle (OpenLeft op a ∷ ps) e g v l = left_joined ps op a e g v l

-- some expression is spelled by these items
abbrev pub IsSpelled : List Item → Type 0
IsSpelled is = (w : Written) × IsWell w × (spelling w ≡ is)

-- equal items are spelled by the same expression
spelled_along : (is js : List Item) → is ≡ js → IsSpelled is → IsSpelled js
spelled_along is js e s = (s.0, s.1, s.2 ∙ e)

-- only `-` is a sign
sub_is : (op : Op) → is_sub op ≡ true → op ≡ Sub
sub_is Or h = cc
sub_is And h = cc
sub_is Eq h = cc
sub_is Ne h = cc
sub_is Lt h = cc
sub_is Le h = cc
sub_is Gt h = cc
sub_is Ge h = cc
sub_is Add h = cc
sub_is Sub h = refl

-- behind an operator where an operand is to come, which is `-`
from_sign : (t : Bool) (op : Op) (is : List Item) (ps : List (Pending Written)) (d x : Bool)
    → (scanned_from (to_come (Prefix ∷ openers_of ps) d) is ≡ Some x
    → IsSpelled (read_by ps ++ item.Operator Sub ∷ [] ++ is)) → is_sub op ≡ t
    → option_and_then (λ s. scanned_from s is) (cond t (Some (to_come (Prefix ∷ openers_of ps) d)) None) ≡ Some x
    → IsSpelled (read_by ps ++ item.Operator op ∷ is)
from_sign false op is ps d x f e h = cc
from_sign true op is ps d x f e h = grind (arith, spelled_along, append_assoc, sub_is)

mutual
  unfolding scanned_from

  pub from_operand : (is : List Item) (ps : List (Pending Written)) (d x : Bool) → IsGood ps
      → scanned_from (to_come (openers_of ps) d) is ≡ Some x → IsSpelled (read_by ps ++ is)
  from_operand [] ps d x g h = cc
  from_operand (item.Number n ∷ is) ps d x g h =
      let s = settle ps (Num n) g tt (omega arith) in
      let j = from_behind is s.open_ps s.now (d || nat_lt 32 (length (openers_of ps))) x s.base s.good s.well
      (ap (λ (m : List Opener). scanned_from (come m (d || nat_lt 32 (length (openers_of ps)))) is) s.openers ∙ h) in
      spelled_along (read_by s.open_ps ++ spelling s.now ++ is) (read_by ps ++ item.Number n ∷ is)
      (ap (λ (js : List Item). js ++ is) s.read ∙ append_assoc (read_by ps) (item.Number n ∷ []) is) j
  from_operand (item.Call name args ∷ is) ps d x g h =
      let s = settle ps (Call name args) g tt (omega arith) in
      let j = from_behind is s.open_ps s.now (d || nat_lt 32 (length (openers_of ps))) x s.base s.good s.well
      (ap (λ (m : List Opener). scanned_from (come m (d || nat_lt 32 (length (openers_of ps)))) is) s.openers ∙ h) in
      spelled_along (read_by s.open_ps ++ spelling s.now ++ is) (read_by ps ++ item.Call name args ∷ is)
      (ap (λ (js : List Item). js ++ is) s.read ∙ append_assoc (read_by ps) (item.Call name args ∷ []) is) j
  from_operand (item.Operator op ∷ is) ps d x g h =
      from_sign (is_sub op) op is ps d x (λ h. from_operand is (OpenNeg ∷ ps) d x g h) refl h
  from_operand (item.Bang ∷ is) ps d x g h =
      spelled_along (read_by ps ++ item.Bang ∷ [] ++ is) (read_by ps ++ item.Bang ∷ is)
      (append_assoc (read_by ps) (item.Bang ∷ []) is) (from_operand is (OpenNot ∷ ps) d x g h)
  from_operand (item.Open ∷ is) ps d x g h =
      spelled_along (read_by ps ++ item.Open ∷ [] ++ is) (read_by ps ++ item.Open ∷ is)
      (append_assoc (read_by ps) (item.Open ∷ []) is) (from_operand is (OpenParens ∷ ps) d x g h)
  from_operand (item.Close ∷ is) ps d x g h = cc

  pub from_behind : (is : List Item) (ps : List (Pending Written)) (e : Written) (d x : Bool) → IsBase ps → IsGood ps
      → IsWell e → scanned_from (come (openers_of ps) d) is ≡ Some x → IsSpelled (read_by ps ++ spelling e ++ is)
  from_behind [] [] e d x b g v h = (e, v, sym (append-nil (spelling e)))
  from_behind [] (OpenParens ∷ ps) e d x b g v h = cc
  from_behind [] (OpenNot ∷ ps) e d x b g v h = absurd b
  from_behind [] (OpenNeg ∷ ps) e d x b g v h = absurd b
  from_behind [] (OpenLeft op a ∷ ps) e d x b g v h = absurd b
  from_behind (item.Number n ∷ is) ps e d x b g v h = cc
  from_behind (item.Call name args ∷ is) ps e d x b g v h = cc
  from_behind (item.Bang ∷ is) ps e d x b g v h = cc
  from_behind (item.Open ∷ is) ps e d x b g v h = cc
  from_behind (item.Operator op ∷ is) ps e d x b g v h =
      spelled_along (read_by ps ++ (spelling e ++ item.Operator op ∷ []) ++ is)
      (read_by ps ++ spelling e ++ item.Operator op ∷ is)
      (ap (λ (js : List Item). js ++ is) (sym (append_assoc (read_by ps) (spelling e) (item.Operator op ∷ [])))
      ∙ append_assoc (read_by ps ++ spelling e) (item.Operator op ∷ []) is)
      (from_operand is (OpenLeft op e ∷ ps) d x (v, b, g) h)
  from_behind (item.Close ∷ is) [] e d x b g v h = cc
  from_behind (item.Close ∷ is) (OpenParens ∷ ps) e d x b g v h =
      let s = settle ps (Parens e) g v (omega arith) in
      let j = from_behind is s.open_ps s.now d x s.base s.good s.well
      (ap (λ (m : List Opener). scanned_from (come m d) is) s.openers ∙ h) in
      let q : read_by ps ++ (item.Open ∷ (spelling e ++ item.Close ∷ [])) ≡ read_by ps ++ item.Open
      ∷ [] ++ spelling e ++ item.Close ∷ [] =
      sym (append_assoc (read_by ps) (item.Open ∷ []) (spelling e ++ item.Close ∷ []))
      ∙ sym (append_assoc (read_by ps ++ item.Open ∷ []) (spelling e) (item.Close ∷ [])) in
      spelled_along (read_by s.open_ps ++ spelling s.now ++ is)
      (read_by ps ++ item.Open ∷ [] ++ spelling e ++ item.Close ∷ is)
      (ap (λ (js : List Item). js ++ is) (s.read ∙ q)
      ∙ append_assoc (read_by ps ++ item.Open ∷ [] ++ spelling e) (item.Close ∷ []) is) j
  from_behind (item.Close ∷ is) (OpenNot ∷ ps) e d x b g v h = absurd b
  from_behind (item.Close ∷ is) (OpenNeg ∷ ps) e d x b g v h = absurd b
  from_behind (item.Close ∷ is) (OpenLeft op a ∷ ps) e d x b g v h = absurd b

-- what is scanned to its end is spelled by an expression
pub scanned_is_spelled : (is : List Item) (x : Bool) → scanned is ≡ Some x → IsSpelled is
scanned_is_spelled is x h = from_operand is [] false x tt h
