-- What is answered of the arguments of a call.
use Rattle.std.proofs.Common.{arith}
use Rattle.cons_parse.proofs.CallLemmas.{too_short, not_opened, at_once_closed, first_args, no_arg, last_arg, next_arg}
use Rattle.cons_parse.proofs.CallLemmas.{stray_token, no_end}
use Rattle.cons_parse.proofs.calls.arguments.Goals as goal

-- fewer than two tokens are no arguments
pub returns-then-tokens-lt2-clause-value : goal.returns-then-tokens-lt2-clause-value
returns-then-tokens-lt2-clause-value c = too_short c.args.tokens.now c.if-tokens-lt2.true

-- no parenthesis opens them
pub returns-then-not-opens-clause-value : goal.returns-then-not-opens-clause-value
returns-then-not-opens-clause-value c = grind (arith, not_opened)

-- there are none
pub returns-then-closes-clause-value : goal.returns-then-closes-clause-value
returns-then-closes-clause-value c = grind (arith, at_once_closed)

-- the first argument stands behind the parenthesis
pub loop-at-init : goal.loop-at-init
loop-at-init c = grind (arith, first_args)

-- no argument stands here
pub returns-in-None-clause-value : goal.returns-in-None-clause-value
returns-in-None-clause-value c = grind (arith, no_arg)

-- the tokens end before the closing parenthesis
pub returns-clause-value : goal.returns-clause-value
returns-clause-value c = grind (arith, no_end)

-- the last argument is read
pub returns-then-closes-2-clause-value : goal.returns-then-closes-2-clause-value
returns-then-closes-2-clause-value c = grind (arith, last_arg)

-- neither a comma nor a parenthesis stands behind the argument
pub returns-then-not-goes_on-clause-value : goal.returns-then-not-goes_on-clause-value
returns-then-not-goes_on-clause-value c = grind (arith, stray_token)

-- an argument with its comma is read
pub loop-at-preserved : goal.loop-at-preserved
loop-at-preserved c = grind (arith, next_arg)
