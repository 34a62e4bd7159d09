-- The token at the front of bytes.
use Rattle.std.proofs.Common.{◌+◌, sym, ◌∙◌, ◌<◌, Some, ap, arith}
use Rattle.std.specs.List.{prefix_len}
use Rattle.std.proofs.lemmas.List.{take_rest, get_or-take, length-take}
use Rattle.cons_parse.specs.declared.token.Token.TheVariants.{Called}
use Rattle.cons_parse.specs.declared.token.Name.{Name}
use Rattle.cons_parse.specs.Tokens.{is_digit, is_name_byte}
use Rattle.cons_parse.proofs.TokenLemmas.{number_digits, too_many, few_enough, many_digits, few_digits, letters, signs}
use Rattle.cons_parse.proofs.token.token_at.Goals as goal

-- too many digits begin no token
pub returns-then-are_too_many-clause-value : goal.returns-then-are_too_many-clause-value
returns-then-are_too_many-clause-value c =
    sym (many_digits c.args.bytes.now c.digits_len-more.result c.requires (sym c.is_digit.ensures ∙ c.if-is_digit.true)
    (c.digits_len-more.ensures.value ∙ ap (prefix_len is_digit) (take_rest c.args.bytes.now 1))
    (too_many c.digits_len-more.result c.are_too_many.result c.are_too_many.ensures c.if-are_too_many.true))

-- there are few enough digits
pub value_of-requires-clause-few : goal.value_of-requires-clause-few
value_of-requires-clause-few c = grind (arith, few_enough, length-take)

-- they are digits
pub value_of-requires-clause-digits : goal.value_of-requires-clause-digits
value_of-requires-clause-digits c i h =
    let k : i < c.digits_len-more.result + 1 =
    omega (arith, length-take (c.digits_len-more.result + 1) c.args.bytes.now) in
    ap is_digit (get_or-take (c.digits_len-more.result + 1) c.args.bytes.now i 0 k)
    ∙ number_digits c.args.bytes.now c.digits_len-more.result c.requires (sym c.is_digit.ensures ∙ c.if-is_digit.true)
    (c.digits_len-more.ensures.value ∙ ap (prefix_len is_digit) (take_rest c.args.bytes.now 1)) i k

-- the digits are a number
pub returns-else-are_too_many-clause-value : goal.returns-else-are_too_many-clause-value
returns-else-are_too_many-clause-value c =
    sym (few_digits c.args.bytes.now c.digits_len-more.result c.value_of.result c.requires
    (sym c.is_digit.ensures ∙ c.if-is_digit.true)
    (c.digits_len-more.ensures.value ∙ ap (prefix_len is_digit) (take_rest c.args.bytes.now 1))
    (few_enough c.digits_len-more.result c.are_too_many.result c.are_too_many.ensures c.if-are_too_many.false)
    c.value_of.ensures)

-- a letter begins a name
pub returns-then-is_letter-clause-value : goal.returns-then-is_letter-clause-value
returns-then-is_letter-clause-value c =
    ap (λ (n : Name). Some (Called n, c.name_len-more.result)) c.name_of.ensures
    ∙ sym (letters c.args.bytes.now c.name_len-more.result c.requires (sym c.is_digit.ensures ∙ c.if-is_digit.false)
    (sym c.is_letter.ensures ∙ c.if-is_letter.true)
    (c.name_len-more.ensures.value ∙ ap (prefix_len is_name_byte) (take_rest c.args.bytes.now 1)))

-- what is no digit and no letter begins a sign
pub returns-else-is_letter-clause-value : goal.returns-else-is_letter-clause-value
returns-else-is_letter-clause-value c = grind (arith, signs)
