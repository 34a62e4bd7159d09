-- A search of the rows of commands.
use Rattle.std.proofs.Common.{◌≡◌, ℕ, Bool, true, List, [], ◌∷◌, map, Option, Some, None, refl, sym}
use Rattle.std.proofs.Common.{ap, ◌∙◌, All, arith}
use Rattle.std.proofs.lemmas.List.Elements.{All-nil, All-cons}
use Rattle.std.specs.Option.{option_map}
use Rattle.std.specs.List.{find, list_all}
use Rattle.std.proofs.lemmas.Bool.{and_parts}
use Rattle.std.specs.Str.{bytes_eq}
use Rattle.std.proofs.lemmas.Slice.Eq.{bytes_eq-Decides}
use Rattle.gtp_cmd.specs.CodeRows.{is_plain}
use Rattle.gtp_cmd.specs.Commands.{Row}
use Rattle.gtp_cmd.specs.Words.{kept}
use Rattle.gtp_cmd.specs.declared.commands.CommandName.{CommandName}
use Rattle.gtp_cmd.specs.declared.rows.Row.{Row as CodeRow}

-- rows that are kept in another form have the command that a word names among them
pub find-seen : {X : Type 0} (seen : X → Row) (is : List ℕ → Bool) (xs : List X)
    → option_map (λ x. (seen x).command) (find (λ x. is (seen x).word) xs)
    ≡ option_map (λ r. r.command) (find (λ r. is r.word) (map seen xs))
find-seen seen is [] = refl
find-seen seen is (x ∷ xs) = grind (arith, find-seen seen is xs)

-- what holds of each item holds of the one that is found
found-all : {X : Type 0} (p q : X → Bool) (xs : List X) (x : X) → list_all q xs ≡ true → find p xs ≡ Some x
    → (p x ≡ true) × (q x ≡ true)
found-all p q [] x all found = cc
found-all p q (y ∷ ys) x all found = grind (arith, and_parts, found-all p q ys)

-- the command of the first of the rows that has this word, in whatever form
abbrev command_of_word : List CodeRow → List ℕ → Option CommandName
command_of_word rows word = option_map (λ r. r.command) (find (λ r. bytes_eq word r.word.now) rows)

-- a word that a row has as it stands has no byte that is dropped, so the row's command is the one that it names
pub written-named : (rows : List CodeRow) (word : List ℕ) (command : CommandName) → list_all is_plain rows ≡ true
    → Some command ≡ option_map (λ r. r.command) (find (λ r. bytes_eq word r.word.now) rows)
    → Some command ≡ option_map (λ r. r.command) (find (λ r. bytes_eq (kept word) r.word.now) rows)
written-named rows word command plain written =
    written ∙ ap (command_of_word rows) (sym (whole (find (λ r. bytes_eq word r.word.now) rows) refl written))
  where
    whole : (o : Option CodeRow) → find (λ r. bytes_eq word r.word.now) rows ≡ o
        → Some command ≡ option_map (λ r. r.command) o → kept word ≡ word
    whole None is some = absurd (cc)
    whole (Some r) is some =
        let found = found-all (λ r. bytes_eq word r.word.now) is_plain rows r plain is in
        let same : word ≡ r.word.now = (bytes_eq-Decides word r.word.now).0 found.0 in
        let keeps : kept r.word.now ≡ r.word.now = (bytes_eq-Decides (kept r.word.now) r.word.now).0 found.1 in
        ap kept same ∙ keeps ∙ sym same

-- two questions about rows that have the same answers along all of them agree on each
pub agree-each : (f g : Row → Option CommandName) (rows : List Row) → map f rows ≡ map g rows
    → All (λ row. f row ≡ g row) rows
agree-each f g [] same = All-nil (λ row. f row ≡ g row)
agree-each f g (row ∷ rows) same = All-cons (λ r. f r ≡ g r) row rows (cc) (agree-each f g rows (cc))
