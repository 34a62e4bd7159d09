-- The form of a komi.
use Rattle.std.specs.Prelude.{ℕ, ◌==◌, ◌&&◌, ◌||◌, nat_le, Bool, List, [], ◌∷◌, length, Option, None, Some}
use Rattle.std.specs.Prelude.{if◌then◌else◌}
use Rattle.std.specs.List.{before_first, after_first}
use Rattle.gtp_cmd.specs.Words.{is_number}

-- the byte of a plus
abbrev pub plus : ℕ
plus = 43

-- the byte of a minus
abbrev pub minus : ℕ
minus = 45

-- the byte of a decimal point
abbrev pub point : ℕ
point = 46

-- how many bytes a komi may have
abbrev pub komi_room : ℕ
komi_room = 32

-- the text without a sign at its front
abbrev pub without_sign : List ℕ → List ℕ
without_sign [] = []
without_sign (b ∷ bs) = if b == plus || b == minus then bs else b ∷ bs

-- the text is digits, or digits, a point and digits
abbrev pub is_decimal : List ℕ → Bool
is_decimal text = is_number text
    || (is_number (before_first (λ b. b == point) text) && is_number (after_first (λ b. b == point) text))

-- the text has the form of a komi: perhaps a sign, digits, perhaps a point and digits, in at most 32 bytes
abbrev pub is_komi : List ℕ → Bool
is_komi text = nat_le (length text) komi_room && is_decimal (without_sign text)

-- the komi that a word writes, if it has the form of a komi
abbrev pub komi_of : List ℕ → Option (List ℕ)
komi_of word = if is_komi word then Some word else None
