-- Colours, as the GTP version 2 draft writes them.
use Rattle.std.specs.Prelude.{ℕ, ◌||◌, List, Option, None, Some, if◌then◌else◌, codes}
use Rattle.std.specs.Str.{bytes_eq, str_to_ascii_lowercase}
use Rattle.go_rules.specs.declared.Colour.{Colour}
use Rattle.go_rules.specs.declared.Colour.TheVariants.{Black, White}

-- the colour that a word names: `b`, `black`, `w` or `white`, in either case
abbrev pub colour_of : List ℕ → Option Colour
colour_of word =
    let lower = str_to_ascii_lowercase word in
    if bytes_eq lower (codes "b") || bytes_eq lower (codes "black") then Some Black
    else if bytes_eq lower (codes "w") || bytes_eq lower (codes "white") then Some White
    else None
