-- What a short number is made of.
use Rattle.std.proofs.Common.{◌≡◌, ℕ, ◌<◌, ◌≤◌, true, ◌&&◌, List, length}
use Rattle.std.specs.Prelude.{nat_lt, nat_le}
use Rattle.std.specs.List.{list_all, AllPass}
use Rattle.std.specs.Char.{is_ascii_digit}
use Rattle.std.proofs.lemmas.Bool.{and_parts, ltb-true, leb-true}
use Rattle.std.proofs.lemmas.List.Sums.{AllPass-from_list_all}
use Rattle.move_choice.specs.Worth.{most_digits, is_short_number}

-- a short number has a byte, it has few, and each of them is a digit
pub short-parts : (text : List ℕ) → is_short_number text ≡ true
    → (0 < length text) × (length text ≤ most_digits) × AllPass is_ascii_digit text
short-parts text short =
    let few = nat_le (length text) most_digits in
    let digits = list_all is_ascii_digit text in
    let parts = and_parts (nat_lt 0 (length text)) (few && digits) short in
    let rest = and_parts few digits parts.1 in (
      ltb-true 0 (length text) parts.0,
      leb-true (length text) most_digits rest.0,
      AllPass-from_list_all is_ascii_digit text rest.1,
    )
