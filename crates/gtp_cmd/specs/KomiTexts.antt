-- How the text of a komi is kept: at the front of its room, with zeros behind it.
use Rattle.std.specs.Prelude.{◌≡◌, ℕ, ◌-◌, ◌≤◌, List, ◌++◌, length, take, drop, replicate}
use Rattle.std.proofs.Common.{ap, sym, ◌∙◌, arith, length-take}
use Rattle.std.proofs.lemmas.List.{take-append-drop}
use Rattle.gtp_cmd.specs.Komi.{komi_room}
use Rattle.gtp_cmd.specs.declared.komi.KomiText.TheInside.{Inside}

-- the text of a komi that is kept so
abbrev pub text_kept : Inside → List ℕ
text_kept a = take a.len a.bytes

-- the text lies within its room, and zeros stand behind it
pub record IsKomiText (a : Inside) : Type 0 where
  pub within : a.len ≤ komi_room
  pub whole : length a.bytes ≡ komi_room
  pub padded : drop a.len a.bytes ≡ replicate (komi_room - a.len) 0

-- the fields that keep a text
abbrev pub kept_of : List ℕ → Inside
kept_of text = record { bytes = text ++ replicate (komi_room - length text) 0; len = length text }

-- the length of the text is the length that is kept
pub length-text_kept : (a : Inside) → IsKomiText a → length (text_kept a) ≡ a.len
length-text_kept a h = simp length-take (omega (arith, h.within, h.whole))

-- the text determines the fields that keep it
pub kept_of-text_kept : (a : Inside) → IsKomiText a → kept_of (text_kept a) ≡ a
kept_of-text_kept a h =
    ap (λ (n : ℕ). record { bytes = text_kept a ++ replicate (komi_room - n) 0; len = n }) (length-text_kept a h)
    ∙ ap (λ (bytes : List ℕ). record { bytes = bytes; len = a.len })
    (ap (λ t. text_kept a ++ t) (sym h.padded) ∙ take-append-drop a.len a.bytes)
