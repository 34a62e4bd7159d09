-- How the text of a komi grows in its room.
use Rattle.std.proofs.Common.{◌≡◌, ℕ, ◌+◌, ◌-◌, ◌<◌, true, List, ◌∷◌, length, take, drop, get_or, sym, ap, ◌∙◌, arith}
use Rattle.std.proofs.Common.{length-append, length-set}
use Rattle.std.proofs.Math.ListN.{set, replicate}
use Rattle.std.proofs.lemmas.List.{drop_more, drop-set-lt, drop-replicate}
use Rattle.gtp_cmd.specs.Words.{is_kept, kept}
use Rattle.gtp_cmd.specs.Komi.{komi_room}
use Rattle.gtp_cmd.specs.KomiTexts.{IsKomiText}
use Rattle.gtp_cmd.specs.declared.komi.KomiText.TheInside.{Inside}
use Rattle.vertices.proofs.NumberLemmas.{kept-cut}

-- one zero behind the text gives way to its next byte
pub IsKomiText-push : (a : Inside) (b : ℕ) → IsKomiText a → a.len < komi_room
    → IsKomiText (record { bytes = set a.bytes a.len b; len = a.len + 1 })
IsKomiText-push a b kept_so room =
    let within = kept_so.whole in
    let inside : a.len < length a.bytes = omega arith in
    let next : drop (a.len + 1) a.bytes ≡ drop 1 (drop a.len a.bytes) =
    sym (ap (drop 1) (drop_more a.bytes a.len 0 inside)) in
    record {
      within = omega arith;
      whole = length-set a.bytes a.len b ∙ kept_so.whole;
      padded = drop-set-lt (a.len + 1) a.bytes a.len b (omega arith) ∙ next ∙ ap (drop 1) kept_so.padded
          ∙ drop-replicate 1 (komi_room - a.len) 0 ∙ ap (λ (n : ℕ). replicate n 0) (omega arith);
    }

-- a word with a byte past the room is too long
pub kept-long : (word : List ℕ) (i : ℕ) → i < length word → is_kept (get_or word i 0) ≡ true
    → length (kept (take i word)) ≡ komi_room → komi_room < length (kept word)
kept-long word i within here full =
    grind (
      arith,
      kept-cut word i within here,
      length-append (kept (take i word)) (get_or word i 0 ∷ kept (drop (i + 1) word)),
    )
