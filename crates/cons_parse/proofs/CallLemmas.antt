-- A step of the walk over tokens, and over the arguments of a call.
use Rattle.std.proofs.Common.{◌≡◌, ℕ, zero, suc, ◌+◌, ◌<◌, ◌≤◌, true, false, List, [], ◌∷◌, ◌++◌, length, drop, get_or}
use Rattle.std.proofs.Common.{Option, Some, None, refl, ap, sym, ◌∙◌, arith, append_assoc}
use Rattle.std.specs.Option.{option_map}
use Rattle.std.proofs.lemmas.List.{drop_more, drop-drop, drop_all, append-nil, length-drop}
use Rattle.pat_types.specs.declared.expr.Arg.{Arg}
use Rattle.cons_parse.specs.declared.error.ConsError.{ConsError}
use Rattle.cons_parse.specs.declared.error.ConsError.TheVariants.{Syntax, TooDeep, UnknownFunction, Arity, UnknownLabel}
use Rattle.cons_parse.specs.declared.error.ConsError.TheVariants.{NoMemory}
use Rattle.cons_parse.specs.declared.token.Token.{Token}
use Rattle.cons_parse.specs.declared.calls.Item.{Item}
use Rattle.cons_parse.specs.Answers.{Fails}
use Rattle.cons_parse.specs.Calls.{items_after, item_at, and_more, arg_of, is_open, is_close, is_comma, listed_at}
use Rattle.cons_parse.specs.Calls.{arguments_at, arg_before}
use Rattle.cons_parse.proofs.Fronts.{with_front, with_args, front_more}

-- an error that a part may answer is one that the whole may answer
pub fails_along : {X Y : Type 0} (e : ConsError) (part : Option X) (whole : Option Y) → (part ≡ None → whole ≡ None)
    → Fails e part → Fails e whole
fails_along Syntax part whole f h = f h
fails_along NoMemory part whole f h = tt
fails_along TooDeep part whole f h = h
fails_along UnknownFunction part whole f h = h
fails_along Arity part whole f h = h
fails_along UnknownLabel part whole f h = h

-- the tokens of a call are passed over
pub items_skip : (n : ℕ) (ts : List Token) → items_after n ts ≡ items_after 0 (drop n ts)
unfolding items_after
items_skip zero ts = refl
items_skip (suc n) [] = refl
items_skip (suc n) (t ∷ ts) = items_skip n ts

-- the items from a place on begin with the item that stands there
item_step : (t : Token) (ts : List Token) (i : Item) (more : ℕ) → item_at t ts ≡ Some (i, more)
    → items_after 0 (t ∷ ts) ≡ and_more i (items_after 0 (drop more ts))
unfolding items_after
item_step t ts i more h = rw h (ap (and_more i) (items_skip more ts))

-- if no item begins, there are no items
none_step : (t : Token) (ts : List Token) → item_at t ts ≡ None → items_after 0 (t ∷ ts) ≡ None
unfolding items_after
none_step t ts h = rw h refl

-- over an item
pub next_item : (front : List Item) (tokens : List Token) (at : ℕ) (all : Option (List Item)) (d : Token) (i : Item)
    (more : ℕ) → at < length tokens
    → item_at (get_or tokens at d) (drop (at + 1) tokens) ≡ Some (i, more)
    → with_front front (items_after 0 (drop at tokens)) ≡ all
    → with_front (front ++ i ∷ []) (items_after 0 (drop (at + (1 + more)) tokens)) ≡ all
next_item front tokens at all d i more l f h =
    let m = drop_more tokens at d l in
    let s = item_step (get_or tokens at d) (drop (at + 1) tokens) i more f in
    let q : drop more (drop (at + 1) tokens) ≡ drop (at + (1 + more)) tokens =
    drop-drop more (at + 1) tokens ∙ ap (λ (n : ℕ). drop n tokens) (omega arith) in
    sym (front_more front i (items_after 0 (drop (at + (1 + more)) tokens)))
    ∙ (ap (λ (ts : List Token). with_front front (and_more i (items_after 0 ts))) (sym q)
    ∙ (ap (with_front front) (sym (ap (items_after 0) m ∙ s)) ∙ h))

-- no item stands here
pub no_item : (front : List Item) (tokens : List Token) (at : ℕ) (all : Option (List Item)) (d : Token)
    → at < length tokens
    → with_front front (items_after 0 (drop at tokens)) ≡ all
    → item_at (get_or tokens at d) (drop (at + 1) tokens) ≡ None → all ≡ None
no_item front tokens at all d l h f = grind (arith, drop_more, none_step)

-- at the end
pub last_item : (front : List Item) (tokens : List Token) (at : ℕ) (all : Option (List Item)) → length tokens ≤ at
    → with_front front (items_after 0 (drop at tokens)) ≡ all → all ≡ Some front
unfolding items_after
last_item front tokens at all l h = grind (arith, drop_all, append-nil)

-- the arguments of a call: fewer than two tokens
pub too_short : (ts : List Token) → length ts < 2 → arguments_at ts ≡ None
unfolding arguments_at
too_short [] h = refl
too_short (t ∷ []) h = refl
too_short (t ∷ u ∷ ts) h = absurd (omega arith)

-- a name without an opening parenthesis behind it begins no call
pub not_opened : (ts : List Token) (d : Token) → 2 ≤ length ts → is_open (get_or ts 0 d) ≡ false
    → arguments_at ts ≡ None
unfolding arguments_at
not_opened [] d h o = absurd (omega arith)
not_opened (t ∷ []) d h o = absurd (omega arith)
not_opened (t ∷ u ∷ ts) d h o = rw o refl

-- a call may have no arguments
pub at_once_closed : (ts : List Token) (d : Token) → 2 ≤ length ts → is_open (get_or ts 0 d) ≡ true
    → is_close (get_or ts 1 d) ≡ true → arguments_at ts ≡ Some ([], 2)
unfolding arguments_at
at_once_closed [] d h o e = absurd (omega arith)
at_once_closed (t ∷ []) d h o e = absurd (omega arith)
at_once_closed (t ∷ u ∷ ts) d h o e = rw (o, e) refl

-- the arguments begin behind the opening parenthesis
pub first_args : (ts : List Token) (d : Token) → 2 ≤ length ts → is_open (get_or ts 0 d) ≡ true
    → is_close (get_or ts 1 d) ≡ false → with_args [] 1 (listed_at (drop 1 ts)) ≡ arguments_at ts
unfolding arguments_at
first_args [] d h o e = absurd (omega arith)
first_args (t ∷ []) d h o e = absurd (omega arith)
first_args (t ∷ u ∷ ts) d h o e = rw (o, e) refl

-- an argument and the token behind it
two_of : (ts : List Token) (at : ℕ) (d : Token) → at + 1 < length ts
    → listed_at (drop at ts)
    ≡ arg_before (arg_of (get_or ts at d)) (get_or ts (at + 1) d) (listed_at (drop (at + 2) ts))
unfolding listed_at
two_of ts at d h =
    let n : at + 1 + 1 ≡ at + 2 = omega arith in
    let e : drop at ts ≡ get_or ts at d ∷ get_or ts (at + 1) d ∷ drop (at + 2) ts =
    drop_more ts at d (omega arith)
    ∙ (ap (λ (us : List Token). get_or ts at d ∷ us)
    (drop_more ts (at + 1) d h ∙ ap (λ (n : ℕ). get_or ts (at + 1) d ∷ drop n ts) n)) in
    ap listed_at e

-- an argument that was read and those behind it are one list
args_more : (args : List Arg) (a : Arg) (at : ℕ) (rest : Option (List Arg × ℕ))
    → with_args args at (option_map (λ m. (a ∷ m.0, 2 + m.1)) rest) ≡ with_args (args ++ a ∷ []) (at + 2) rest
args_more args a at v3 = grind (arith, append_assoc)

-- what stands in an argument's place is none
pub no_arg : (args : List Arg) (ts : List Token) (at : ℕ) (d : Token) (all : Option (List Arg × ℕ))
    → at + 1 < length ts → arg_of (get_or ts at d) ≡ None
    → with_args args at (listed_at (drop at ts)) ≡ all → all ≡ None
no_arg args ts at d all l n h = grind (arith, two_of ts at d l)

-- the last argument
pub last_arg : (args : List Arg) (ts : List Token) (at : ℕ) (d : Token) (all : Option (List Arg × ℕ)) (a : Arg)
    → at + 1 < length ts → arg_of (get_or ts at d) ≡ Some a
    → is_close (get_or ts (at + 1) d) ≡ true
    → with_args args at (listed_at (drop at ts)) ≡ all → all ≡ Some (args ++ a ∷ [], at + 2)
last_arg args ts at d all a l n e h = grind (arith, two_of ts at d l)

-- an argument and a comma
pub next_arg : (args : List Arg) (ts : List Token) (at : ℕ) (d : Token) (all : Option (List Arg × ℕ)) (a : Arg)
    → at + 1 < length ts → arg_of (get_or ts at d) ≡ Some a
    → is_close (get_or ts (at + 1) d) ≡ false → is_comma (get_or ts (at + 1) d) ≡ true
    → with_args args at (listed_at (drop at ts)) ≡ all
    → with_args (args ++ a ∷ []) (at + 2) (listed_at (drop (at + 2) ts)) ≡ all
next_arg args ts at d all a l n e f h = grind (arith, args_more args, two_of ts at d l)

-- an argument and neither
pub stray_token : (args : List Arg) (ts : List Token) (at : ℕ) (d : Token) (all : Option (List Arg × ℕ)) (a : Arg)
    → at + 1 < length ts → arg_of (get_or ts at d) ≡ Some a
    → is_close (get_or ts (at + 1) d) ≡ false → is_comma (get_or ts (at + 1) d) ≡ false
    → with_args args at (listed_at (drop at ts)) ≡ all → all ≡ None
stray_token args ts at d all a l n e f h = grind (arith, two_of ts at d l)

-- arguments take two tokens at least
listed_short : (ts : List Token) → length ts < 2 → listed_at ts ≡ None
unfolding listed_at
listed_short [] h = refl
listed_short (t ∷ []) h = refl
listed_short (t ∷ u ∷ ts) h = absurd (omega arith)

-- the tokens end before the parenthesis
pub no_end : (args : List Arg) (ts : List Token) (at : ℕ) (all : Option (List Arg × ℕ)) → length ts ≤ at + 1
    → with_args args at (listed_at (drop at ts)) ≡ all → all ≡ None
no_end args ts at all l h = grind (arith, listed_short, length-drop)
