-- What is so on every position that agrees with recorded facts is so wherever their points agree.
use Rattle.std.proofs.Common.{◌≡◌, ◌↔◌, ℕ, ◌*◌, ◌<◌, true, ltb, refl, sym, subst, arith}
use Rattle.std.proofs.lemmas.Bool.{and_parts, eq-eqb, ltb-true}
use Rattle.std.specs.Ordering.{nat_cmp}
use Rattle.std.specs.FinSet as sets
use Rattle.go_rules.specs.Position.{BoardState, IsPosition}
use Rattle.go_base.specs.declared.facts.Facts.{Facts}
use Rattle.go_base.specs.Facts.{Fact, SizeIs, CellIs, BanIs, Agrees}
use Rattle.go_base.specs.AmongFacts.{told, IsOf, HasFactOf}
use Rattle.go_base.specs.declared.look.Watch.{Watch}
use Rattle.go_base.specs.Watches.{shown_by, facts_of}
use Rattle.read_rules.specs.ActiveArea.{AgreeOn}
use Rattle.sure_rules.specs.Zones.{points_of}

-- a position that agrees on the points of the facts agrees with the facts
pub agrees_on_points : (f : Facts) (points : sets.FinSet nat_cmp) (pos here : BoardState)
    → ((p : ℕ) → (sets.contains points p ≡ true) ↔ HasFactOf f p) → Agrees (told f) pos → IsPosition here
    → AgreeOn (points_of (sets.contains points)) pos here → Agrees (told f) here
agrees_on_points f points pos here are holds sound same = grind arith

-- a point of a fact is on the board
pub facts_on : (f : Facts) (pos : BoardState) → Agrees (told f) pos → (p : ℕ) → HasFactOf f p → p < pos.size * pos.size
facts_on f pos holds p w = of_fact w.0 w.1 w.2
  where
    inside : (q : ℕ) → ltb q (f.size * f.size) ≡ true → q ≡ p → p < pos.size * pos.size
    inside q low same =
        subst (λ s. p < s * s) (sym (holds.each (SizeIs f.size) (eq-eqb f.size f.size refl)))
        (subst (λ r. r < f.size * f.size) same (ltb-true q (f.size * f.size) low))

    of_fact : (fact : Fact) → told f fact ≡ true → IsOf p fact → p < pos.size * pos.size
    of_fact (SizeIs n) told none = absurd none
    of_fact (CellIs q cell) told same = inside q (and_parts (ltb q (f.size * f.size)) _ told).0 same
    of_fact (BanIs q c forbidden) told same = inside q (and_parts (ltb q (f.size * f.size)) _ told).0 same

-- what a watch recorded is so on the position that it shows
pub watched : (watch : Watch) → Agrees (told (facts_of watch)) (shown_by watch)
watched watch = watch.holds
