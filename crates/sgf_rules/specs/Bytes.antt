-- The bytes of a record that have a meaning, by name.
use Rattle.std.specs.Prelude.{ℕ}

-- `(`
abbrev pub open_byte : ℕ
open_byte = 40

-- `)`
abbrev pub close_byte : ℕ
close_byte = 41

-- `0`
abbrev pub digit_zero : ℕ
digit_zero = 48

-- `9`
abbrev pub digit_nine : ℕ
digit_nine = 57

-- `:`
abbrev pub colon : ℕ
colon = 58

-- `;`
abbrev pub semicolon : ℕ
semicolon = 59

-- `A`
abbrev pub capital_a : ℕ
capital_a = 65

-- `B`
abbrev pub capital_b : ℕ
capital_b = 66

-- `E`
abbrev pub capital_e : ℕ
capital_e = 69

-- `S`
abbrev pub capital_s : ℕ
capital_s = 83

-- `W`
abbrev pub capital_w : ℕ
capital_w = 87

-- `Z`
abbrev pub capital_z : ℕ
capital_z = 90

-- `[`
abbrev pub left_bracket : ℕ
left_bracket = 91

-- the backslash
abbrev pub backslash : ℕ
backslash = 92

-- `]`
abbrev pub right_bracket : ℕ
right_bracket = 93

-- `a`
abbrev pub small_a : ℕ
small_a = 97

-- `t`
abbrev pub small_t : ℕ
small_t = 116

-- `z`
abbrev pub small_z : ℕ
small_z = 122
