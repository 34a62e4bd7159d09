-- The values of a node that are used, each with what it is for.
use Rattle.std.specs.Prelude.{ℕ, ◌&&◌, ◌==◌, List, [], ◌∷◌, map, Option, Some, None, if◌then◌else◌}
use Rattle.std.specs.List.{flat_map}
use Rattle.go_rules.specs.declared.Cell.TheVariants.{Empty, Black, White}
use Rattle.go_rules.specs.declared.Colour.TheVariants.{Black as black, White as white}
use Rattle.sgf_rules.specs.Bytes.{capital_a, capital_b, capital_e, capital_s, capital_w, capital_z}
use Rattle.sgf_rules.specs.declared.meaning.Meaning.{Meaning}
use Rattle.sgf_rules.specs.declared.meaning.Meaning.TheVariants.{Size, Setup, Play}
use Rattle.sgf_rules.specs.Trees.{Property, Node}

-- what the values of a property with this name of one letter are for
abbrev pub meaning_of_one : ℕ → Option Meaning
meaning_of_one b =
    if b == capital_b then Some (Play black)
    else if b == capital_w then Some (Play white)
    else None

-- what the values of a property with this name of two letters are for
abbrev pub meaning_of_two : ℕ → ℕ → Option Meaning
meaning_of_two b c =
    if b == capital_s && c == capital_z then Some Size
    else if b == capital_a && c == capital_b then Some (Setup Black)
    else if b == capital_a && c == capital_w then Some (Setup White)
    else if b == capital_a && c == capital_e then Some (Setup Empty)
    else None

-- what the values of a property with this name are for, if they are used: B, W, SZ, AB, AW and AE
abbrev pub meaning_of : List ℕ → Option Meaning
meaning_of (b ∷ []) = meaning_of_one b
meaning_of (b ∷ (c ∷ [])) = meaning_of_two b c
meaning_of _ = None

-- a value with what it is for
abbrev pub Use : Type 0
Use = Meaning × List ℕ

-- the values, each with the meaning that all of them have; no values if there is no meaning
abbrev pub uses_under : Option Meaning → List (List ℕ) → List Use
uses_under None values = []
uses_under (Some m) values = map (λ v. (m, v)) values

-- the values of a property, if they are used
abbrev pub uses_in_property : Property → List Use
uses_in_property p = uses_under (meaning_of p.name) (p.value ∷ p.more)

-- the values of a node that are used, in order
abbrev pub uses_in : Node → List Use
uses_in n = flat_map uses_in_property n
