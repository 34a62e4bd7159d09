-- The tokens and the items of a text are no more than its bytes, and their numbers have six digits at most.
use Rattle.std.proofs.Common.{◌≡◌, ℕ, zero, suc, ◌+◌, ◌-◌, ◌*◌, ◌^◌, ◌<◌, ◌≤◌, Bool, true, false, nat_le}
use Rattle.std.proofs.Common.{nat_lt, cond, List, [], ◌∷◌, length, take, Option, Some, None, refl, arith}
use Rattle.std.specs.List.{list_all, prefix_len}
use Rattle.std.specs.Option.{option_map, option_and_then}
use Rattle.std.proofs.lemmas.Bool.{ltb-false, leb-true, lt-ltb, and_parts, and_from}
use Rattle.db_lex.specs.Lines.{is_blank}
use Rattle.pat_types.specs.declared.expr.Arg.{Arg}
use Rattle.cons_parse.specs.declared.token.Token.{Token}
use Rattle.cons_parse.specs.declared.token.Token.TheVariants as token
use Rattle.cons_parse.specs.declared.token.Name.{Name}
use Rattle.cons_parse.specs.declared.calls.Item.{Item}
use Rattle.cons_parse.specs.declared.calls.Item.TheVariants as item
use Rattle.cons_parse.specs.Tokens.{is_digit, value_after, value_of, two_at, one_at}
use Rattle.cons_parse.specs.Tokens.{with_more, or_shorter, sign_at, token_at, and_more as and_tokens}
use Rattle.cons_parse.specs.Tokens.{tokens_after, tokens_of}
use Rattle.cons_parse.specs.Calls.{item_at, arguments_at, and_more as and_items, items_after, items_of, items_in}

-- digits

-- a digit is below ten
digit_range : (d : ℕ) → is_digit d ≡ true → d - 48 < 10
digit_range d h = grind (arith, nat_le, leb-true)

-- one more digit makes a number at most ten times as large
digit_step : (i n d : ℕ) → i < 6 → n < 10 ^ i → d < 10 → n * 10 + d < 10 ^ (i + 1)
digit_step zero n d h b k = omega arith
digit_step (suc zero) n d h b k = omega arith
digit_step (suc (suc zero)) n d h b k = omega arith
digit_step (suc (suc (suc zero))) n d h b k = omega arith
digit_step (suc (suc (suc (suc zero)))) n d h b k = omega arith
digit_step (suc (suc (suc (suc (suc zero))))) n d h b k = omega arith
digit_step (suc (suc (suc (suc (suc (suc i)))))) n d h b k = absurd (omega arith)

-- six digits make less than a million
below_million : (i n : ℕ) → i ≤ 6 → n < 10 ^ i → n < 1000000
below_million zero n h b = omega arith
below_million (suc zero) n h b = omega arith
below_million (suc (suc zero)) n h b = omega arith
below_million (suc (suc (suc zero))) n h b = omega arith
below_million (suc (suc (suc (suc zero)))) n h b = omega arith
below_million (suc (suc (suc (suc (suc zero))))) n h b = omega arith
below_million (suc (suc (suc (suc (suc (suc zero)))))) n h b = omega arith
below_million (suc (suc (suc (suc (suc (suc (suc i))))))) n h b = absurd (omega arith)

-- the value of at most six digits is below a million
value_small : (ds : List ℕ) (i n : ℕ) → i + length ds ≤ 6 → n < 10 ^ i → list_all is_digit ds ≡ true
    → value_after n ds < 1000000
value_small [] i n l h d = below_million i n (omega arith) h
value_small (d ∷ ds) i n l h a =
    grind (
      arith,
      and_parts (is_digit d) (list_all is_digit ds) a,
      value_small ds (i + 1) (n * 10 + (d - 48)),
      digit_step i n (d - 48),
      digit_range d,
    )

-- the digits at the front of a list, by its first byte
front_if : (v : Bool) (b : ℕ) (bs : List ℕ) → is_digit b ≡ v
    → list_all is_digit (take (prefix_len is_digit bs) bs) ≡ true
    → list_all is_digit (take (cond v (1 + prefix_len is_digit bs) 0) (b ∷ bs)) ≡ true
front_if false b bs e h = refl
front_if true b bs e h = let n : 1 + prefix_len is_digit bs ≡ suc (prefix_len is_digit bs) = omega arith in rw (n, e) h

-- the digits at the front are digits
front_digits : (bs : List ℕ) → list_all is_digit (take (prefix_len is_digit bs) bs) ≡ true
front_digits [] = refl
front_digits (b ∷ bs) = front_if (is_digit b) b bs refl (front_digits bs)

-- the front of n has at most n
length_front : (n : ℕ) (bs : List ℕ) → length (take n bs) ≤ n
length_front zero bs = omega arith
length_front (suc n) [] = omega arith
length_front (suc n) (b ∷ bs) = let h = length_front n bs in omega arith

-- tokens

-- the token is no number, or one below a million
abbrev pub is_small : Token → Bool
is_small (token.Number n) = nat_lt n 1000000
is_small (token.Called name) = true
is_small (token.Operator op) = true
is_small token.Bang = true
is_small token.Open = true
is_small token.Close = true
is_small token.Comma = true
is_small token.Asterisk = true
is_small token.Question = true

-- there is no token, or it is small
abbrev pub small_token : Option (Token × ℕ) → Bool
small_token None = true
small_token (Some t) = is_small t.0

-- there is no sign, or it is small
abbrev pub small_sign : Option Token → Bool
small_sign None = true
small_sign (Some t) = is_small t

-- of two small signs the chosen one is small
or_next : (c : Bool) (t : Token) (o : Option Token) → is_small t ≡ true → small_sign o ≡ true
    → small_sign (cond c (Some t) o) ≡ true
or_next true t o h k = h
or_next false t o h k = k

-- a sign of two bytes is small
two_small : (b c : ℕ) → small_sign (two_at b c) ≡ true
two_small b c = grind (arith, or_next)

-- a sign of one byte is small
one_small : (b : ℕ) → small_sign (one_at b) ≡ true
one_small b = grind (arith, or_next)

-- a small sign stays small with its length
with_small : (n : ℕ) (o : Option Token) → small_sign o ≡ true → small_token (with_more n o) ≡ true
with_small n None h = refl
with_small n (Some t) h = h

-- of two small tokens the longer one is small
shorter_small : (o p : Option (Token × ℕ)) → small_token o ≡ true → small_token p ≡ true
    → small_token (or_shorter o p) ≡ true
shorter_small None p h k = k
shorter_small (Some t) p h k = h

-- a sign is small
sign_small : (b : ℕ) (bs : List ℕ) → small_token (sign_at b bs) ≡ true
sign_small b [] = with_small 0 (one_at b) (one_small b)
sign_small b (c ∷ bs) = grind (arith, shorter_small, with_small, two_small, one_small)

-- a number of at most six digits is small
number_small : (v : Bool) (b : ℕ) (bs : List ℕ) → is_digit b ≡ true → nat_lt 5 (prefix_len is_digit bs) ≡ v
    → small_token
    (cond v None
    (Some (token.Number (value_of (take (prefix_len is_digit bs + 1) (b ∷ bs))), prefix_len is_digit bs))) ≡ true
number_small true b bs d e = refl
number_small false b bs d e =
    let n : prefix_len is_digit bs + 1 ≡ suc (prefix_len is_digit bs) = omega arith in
    let few : prefix_len is_digit bs ≤ 5 = ltb-false 5 (prefix_len is_digit bs) e in
    let l = length_front (prefix_len is_digit bs) bs in
    let r : b - 48 < 10 = digit_range b d in
    let s : value_after (0 * 10 + (b - 48)) (take (prefix_len is_digit bs) bs) < 1000000 =
    value_small (take (prefix_len is_digit bs) bs) 1 (0 * 10 + (b - 48)) (omega arith) (omega arith)
    (front_digits bs) in
    rw n (lt-ltb (value_after (0 * 10 + (b - 48)) (take (prefix_len is_digit bs) bs)) 1000000 s)

-- of two small tokens the chosen one is small
choice_small : (v : Bool) (o p : Option (Token × ℕ)) → (v ≡ true → small_token o ≡ true) → small_token p ≡ true
    → small_token (cond v o p) ≡ true
choice_small true o p h k = h refl
choice_small false o p h k = k

-- each token is small
token_small : (b : ℕ) (bs : List ℕ) → small_token (token_at b bs) ≡ true
unfolding token_at
token_small b bs = grind (arith, choice_small, number_small, nat_lt, sign_small)

-- how many there are, and whether each is small
abbrev pub count_of : {X : Type 0} → Option (List X) → ℕ
count_of None = 0
count_of (Some xs) = length xs

-- there is no list, or each of it is small
abbrev pub all_small : {X : Type 0} → (X → Bool) → Option (List X) → Bool
all_small small None = true
all_small small (Some xs) = list_all small xs

-- there are at most n, and each is small
pub record AreFew {X : Type 0} (small : X → Bool) (n : ℕ) (xs : Option (List X)) : Type 0 where
  pub count : count_of xs ≤ n
  pub each : all_small small xs ≡ true

-- of two lists of few the chosen one has few
few_choice : {X : Type 0} (small : X → Bool) (n : ℕ) (v : Bool) (o p : Option (List X)) → AreFew small n o
    → AreFew small n p → AreFew small n (cond v o p)
few_choice small n true o p h k = h
few_choice small n false o p h k = k

-- few are few of one more
few_more : {X : Type 0} (small : X → Bool) (n : ℕ) (xs : Option (List X)) → AreFew small n xs → AreFew small (suc n) xs
few_more small n xs h = let c = h.count in record { count = omega arith; each = h.each }

-- one more small one makes few of one more
few_and : {X : Type 0} (small : X → Bool) (n : ℕ) (x : X) (xs : Option (List X)) → small x ≡ true → AreFew small n xs
    → AreFew small (suc n) (option_map (λ ys. x ∷ ys) xs)
few_and small n x None s h = record { count = omega arith; each = refl }
few_and small n x (Some xs) s h = grind (arith, and_from)

-- a token and those behind it are few
tokens_then : (bs : List ℕ) (t : Option (Token × ℕ)) → small_token t ≡ true
    → ((k : ℕ) → AreFew is_small (length bs) (tokens_after k bs))
    → AreFew is_small (suc (length bs)) (option_and_then (λ t. and_tokens t.0 (tokens_after t.1 bs)) t)
tokens_then bs None s f = record { count = omega arith; each = refl }
tokens_then bs (Some t) s f = few_and is_small (length bs) t.0 (tokens_after t.1 bs) s (f t.1)

-- a text has at most as many tokens as bytes, and each is small
pub tokens_few : (bs : List ℕ) (n : ℕ) → AreFew is_small (length bs) (tokens_after n bs)
unfolding tokens_after
tokens_few [] zero = record { count = omega arith; each = refl }
tokens_few [] (suc n) = record { count = omega arith; each = refl }
tokens_few (b ∷ bs) (suc n) = few_more is_small (length bs) (tokens_after n bs) (tokens_few bs n)
tokens_few (b ∷ bs) zero =
    few_choice is_small (suc (length bs)) (is_blank b) (tokens_after 0 bs) _
    (few_more is_small (length bs) (tokens_after 0 bs) (tokens_few bs 0))
    (tokens_then bs (token_at b bs) (token_small b bs) (tokens_few bs))

-- items

-- the item is no number, or one below a million
abbrev pub is_small_item : Item → Bool
is_small_item (item.Number n) = nat_lt n 1000000
is_small_item (item.Call name args) = true
is_small_item (item.Operator op) = true
is_small_item item.Bang = true
is_small_item item.Open = true
is_small_item item.Close = true

-- there is no item, or it is small
abbrev pub small_item : Option (Item × ℕ) → Bool
small_item None = true
small_item (Some i) = is_small_item i.0

-- a call is small
call_small : (name : Name) (m : Option (List Arg × ℕ))
    → small_item (option_map (λ m. (item.Call name m.0, m.1)) m) ≡ true
call_small name None = refl
call_small name (Some m) = refl

-- an item of a small token is small
item_small : (t : Token) (ts : List Token) → is_small t ≡ true → small_item (item_at t ts) ≡ true
item_small (token.Number n) ts h = h
item_small (token.Called name) ts h = call_small name (arguments_at ts)
item_small (token.Operator op) ts h = refl
item_small token.Bang ts h = refl
item_small token.Open ts h = refl
item_small token.Close ts h = refl
item_small token.Comma ts h = refl
item_small token.Asterisk ts h = refl
item_small token.Question ts h = refl

-- an item and those behind it are few
items_then : (ts : List Token) (i : Option (Item × ℕ)) → small_item i ≡ true
    → ((k : ℕ) → AreFew is_small_item (length ts) (items_after k ts))
    → AreFew is_small_item (suc (length ts)) (option_and_then (λ i. and_items i.0 (items_after i.1 ts)) i)
items_then ts None s f = record { count = omega arith; each = refl }
items_then ts (Some i) s f = few_and is_small_item (length ts) i.0 (items_after i.1 ts) s (f i.1)

-- there are at most as many items as tokens, and each is small
pub items_few : (ts : List Token) (n : ℕ) → list_all is_small ts ≡ true
    → AreFew is_small_item (length ts) (items_after n ts)
unfolding items_after
items_few [] zero h = record { count = omega arith; each = refl }
items_few [] (suc n) h = record { count = omega arith; each = refl }
items_few (t ∷ ts) (suc n) h =
    grind (arith, few_more, and_parts, items_few ts n (and_parts (is_small t) (list_all is_small ts) h).1)
items_few (t ∷ ts) zero h = grind (arith, and_parts, items_then, item_small, items_few ts)

-- few tokens have few items
items_of_tokens : (n : ℕ) (ts : Option (List Token)) → AreFew is_small n ts
    → AreFew is_small_item n (option_and_then items_of ts)
items_of_tokens n None h = record { count = omega arith; each = refl }
items_of_tokens n (Some ts) h = grind (arith, items_few ts 0 h.each)

-- a text has at most as many items as bytes, and each is small
pub text_few : (text : List ℕ) → AreFew is_small_item (length text) (items_in text)
text_few text = items_of_tokens (length text) (tokens_of text) (tokens_few text 0)
