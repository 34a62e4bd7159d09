-- The walk over bytes by tokens.
use Rattle.std.proofs.Common.{arith}
use Rattle.std.proofs.lemmas.List.{take_rest, length-drop}
use Rattle.cons_parse.proofs.TokenLemmas.{next_blank, next_token, no_token, last_token}
use Rattle.cons_parse.proofs.token.tokens_of.Goals as goal

-- a blank is passed over
pub loop-at-preserved-then-is_blank : goal.loop-at-preserved-then-is_blank
loop-at-preserved-then-is_blank c = grind (arith, next_blank)

-- a token is read
pub loop-at-preserved : goal.loop-at-preserved
loop-at-preserved c = grind (arith, take_rest, length-drop, next_token)

-- no token begins here
pub returns-in-None : goal.returns-in-None
returns-in-None c = grind (arith, no_token, take_rest)

-- the text is read to its end
pub returns : goal.returns
returns c = grind (arith, last_token)
