-- The functions of constraints and their names.
use Rattle.std.specs.Prelude.{ℕ, List, [], ◌∷◌, Option, codes}
use Rattle.std.specs.List.{find}
use Rattle.std.specs.Option.{option_map}
use Rattle.std.specs.Str.{bytes_eq}
use Rattle.pat_types.specs.declared.expr.Function.{Function}
use Rattle.pat_types.specs.declared.expr.Function.TheVariants.{OfPoint, OfPair, OfPoints, OfMoves}
use Rattle.pat_types.specs.declared.expr.PointFunction.TheVariants.{Lib, Xlib, Olib, Attack, Defend, Ko, SafeXmove}
use Rattle.pat_types.specs.declared.expr.PointFunction.TheVariants.{SafeOmove, LegalXmove, LegalOmove}
use Rattle.pat_types.specs.declared.expr.PairFunction.TheVariants.{SameWorm, DoesAttack, DoesDefend}
use Rattle.pat_types.specs.declared.expr.PairFunction.TheVariants.{OdefendAgainst, XdefendAgainst}
use Rattle.pat_types.specs.declared.expr.PointsFunction.TheVariants.{OSomewhere, XSomewhere}
use Rattle.pat_types.specs.declared.expr.MovesFunction.TheVariants.{OplayAttack, OplayDefend, XplayAttack, XplayDefend}

-- a function and its name; the function says which arguments it takes
pub record FunctionRow : Type 0 where
  pub name : List ℕ
  pub function : Function

-- the functions, grouped by the arguments that they take
abbrev pub functions : List FunctionRow
functions =
    record { name = codes "lib"; function = OfPoint Lib }
    ∷ record { name = codes "xlib"; function = OfPoint Xlib }
    ∷ record { name = codes "olib"; function = OfPoint Olib }
    ∷ record { name = codes "attack"; function = OfPoint Attack }
    ∷ record { name = codes "defend"; function = OfPoint Defend }
    ∷ record { name = codes "ko"; function = OfPoint Ko }
    ∷ record { name = codes "safe_xmove"; function = OfPoint SafeXmove }
    ∷ record { name = codes "safe_omove"; function = OfPoint SafeOmove }
    ∷ record { name = codes "legal_xmove"; function = OfPoint LegalXmove }
    ∷ record { name = codes "legal_omove"; function = OfPoint LegalOmove }
    ∷ record { name = codes "same_worm"; function = OfPair SameWorm }
    ∷ record { name = codes "does_attack"; function = OfPair DoesAttack }
    ∷ record { name = codes "does_defend"; function = OfPair DoesDefend }
    ∷ record { name = codes "odefend_against"; function = OfPair OdefendAgainst }
    ∷ record { name = codes "xdefend_against"; function = OfPair XdefendAgainst }
    ∷ record { name = codes "o_somewhere"; function = OfPoints OSomewhere }
    ∷ record { name = codes "x_somewhere"; function = OfPoints XSomewhere }
    ∷ record { name = codes "oplay_attack"; function = OfMoves OplayAttack }
    ∷ record { name = codes "oplay_defend"; function = OfMoves OplayDefend }
    ∷ record { name = codes "xplay_attack"; function = OfMoves XplayAttack }
    ∷ record { name = codes "xplay_defend"; function = OfMoves XplayDefend }
    ∷ []

-- the function of the first of these rows that has this name
abbrev pub function_in : List FunctionRow → List ℕ → Option Function
function_in rows name = option_map (λ r. r.function) (find (λ r. bytes_eq name r.name) rows)

-- the function with this name, if there is one
abbrev pub function_named : List ℕ → Option Function
function_named name = function_in functions name
