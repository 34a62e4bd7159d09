-- What some texts come to, by computation.
use Rattle.std.proofs.Common.{◌≡◌, ◌++◌, replicate, Some, None, refl, [], ◌∷◌}
use Rattle.std.specs.Prelude.{codes}
use Rattle.cons_parse.specs.declared.error.ConsError.TheVariants.{Syntax, TooDeep, UnknownFunction, Arity, UnknownLabel}
use Rattle.cons_parse.specs.Tokens.{token_at, tokens_after}
use Rattle.cons_parse.specs.Calls.{listed_at, arguments_at, items_after}
use Rattle.cons_parse.specs.Faults.{fault_of}
use Rattle.cons_parse.specs.Scan.{scanned_from}
use Rattle.cons_parse.specs.Building.{run}
use Rattle.cons_parse.specs.Reading.{expression_in, fault_in}

-- a constraint of the sample database has no fault
sample_accepted : fault_in (record { letter = 65; row = 0; col = 0 } ∷ []) (codes "lib(A)==2 && !xplay_attack(*,A)")
    ≡ None
unfolding fault_in expression_in items_after tokens_after token_at listed_at arguments_at scanned_from run fault_of
sample_accepted = refl

-- a blank parts `!` from `=`
sample_syntax : fault_in [] (codes "1! =2") ≡ Some Syntax
unfolding fault_in expression_in items_after tokens_after token_at listed_at arguments_at scanned_from run fault_of
sample_syntax = refl

-- a number has six digits at most
sample_seven_digits : fault_in [] (codes "1234567") ≡ Some Syntax
unfolding fault_in expression_in items_after tokens_after token_at listed_at arguments_at scanned_from run fault_of
sample_seven_digits = refl

-- an unknown function is told before a number of arguments
sample_unknown : fault_in [] (codes "lib(Z,Z)+foo()") ≡ Some UnknownFunction
unfolding fault_in expression_in items_after tokens_after token_at listed_at arguments_at scanned_from run fault_of
sample_unknown = refl

-- the last argument of a play function is no pass
sample_arity : fault_in [] (codes "oplay_attack(*,?)") ≡ Some Arity
unfolding fault_in expression_in items_after tokens_after token_at listed_at arguments_at scanned_from run fault_of
sample_arity = refl

-- a pass may be a move, and an unknown letter is told last
sample_label : fault_in [] (codes "oplay_attack(?,O)") ≡ Some UnknownLabel
unfolding fault_in expression_in items_after tokens_after token_at listed_at arguments_at scanned_from run fault_of
sample_label = refl

-- a number may stand within 32 pairs of parentheses
sample_within : fault_in [] (replicate 32 40 ++ codes "1" ++ replicate 32 41) ≡ None
unfolding fault_in expression_in items_after tokens_after token_at listed_at arguments_at scanned_from run fault_of
sample_within = refl

-- a number may not stand within 33 pairs
sample_deep : fault_in [] (replicate 33 40 ++ codes "1" ++ replicate 33 41) ≡ Some TooDeep
unfolding fault_in expression_in items_after tokens_after token_at listed_at arguments_at scanned_from run fault_of
sample_deep = refl

-- a parenthesis that stays open is told before the depth
sample_unclosed : fault_in [] (replicate 33 40 ++ codes "1" ++ replicate 32 41) ≡ Some Syntax
unfolding fault_in expression_in items_after tokens_after token_at listed_at arguments_at scanned_from run fault_of
sample_unclosed = refl
