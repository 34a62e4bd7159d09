-- How files are joined one after another.
use Rattle.std.proofs.Common.{◌≡◌, ℕ, ◌+◌, ◌<◌, List, [], ◌∷◌, ◌++◌, length, map, take, drop, get_or, Option, Some}
use Rattle.std.proofs.Common.{None, refl, append_assoc, append-nil, arith}
use Rattle.std.proofs.Math.Seq.{drop-append_seam}
use Rattle.std.proofs.lemmas.List.{map-append, take_more}
use Rattle.std.proofs.lemmas.List.Concat.{flat_map-append}
use Rattle.gtp_io.specs.Loading.{IsLoaded}
use Rattle.machine_rules.specs.Files.{IsContents}
use Rattle.session.specs.PatternFiles.{added_feed, AreContents, IsJoined, AddsContents}

-- what was loaded stands behind the bytes that were handed in
loaded : (contents : Option (List ℕ)) (into bytes : List ℕ) → IsLoaded contents into bytes → (more : List ℕ)
    × IsContents contents more × (bytes ≡ into ++ more)
loaded None into bytes is = (is.0, tt, is.1)
loaded (Some told) into bytes is = (told, refl, is)

-- the contents of a file were loaded behind a text, and the line feed that they need was put
pub AddsContents-loaded : (contents : Option (List ℕ)) (into bytes new : List ℕ) → IsLoaded contents into bytes → new
    ≡ bytes ++ added_feed (drop (length into) bytes)
    → AddsContents contents into new
AddsContents-loaded contents into bytes new is fed = grind (arith, loaded, drop-append_seam, append_assoc)

-- one file more
AreContents-next : (contents : List ℕ → Option (List ℕ)) (names texts : List (List ℕ)) (name text : List ℕ)
    → AreContents contents names texts
    → IsContents (contents name) text → AreContents contents (names ++ name ∷ []) (texts ++ text ∷ [])
AreContents-next contents [] [] name text so_far told = (told, tt)
AreContents-next contents [] (t ∷ texts) name text so_far told = absurd so_far
AreContents-next contents (n ∷ names) [] name text so_far told = absurd so_far
AreContents-next contents (n ∷ names) (t ∷ texts) name text so_far told =
    (so_far.0, AreContents-next contents names texts name text so_far.1 told)

-- the files so far, and the next one
pub IsJoined-next : {A : Type 0} (f : A → List ℕ) (contents : List ℕ → Option (List ℕ)) (words : List A) (i : ℕ)
    (word : A) (text new : List ℕ) → i < length words
    → word ≡ get_or words i word → IsJoined contents (map f (take i words)) text
    → AddsContents (contents (f word)) text new → IsJoined contents (map f (take (i + 1) words)) new
IsJoined-next f contents words i word text new within is so_far adds =
    grind (
      arith,
      take_more words i word within,
      map-append f (take i words),
      AreContents-next contents (map f (take i words)) so_far.texts (f word) adds.text so_far.told adds.told,
      flat_map-append,
      append-nil,
    )
