-- What one more look adds to the facts.
use Rattle.std.proofs.Common.{◌≡◌, ◌⊎◌, ℕ, ◌*◌, ◌<◌, ◌&&◌, Bool, true, false, ltb, List, Option, refl, sym, ap, subst}
use Rattle.std.proofs.Common.{inl, inr, ◌∙◌, arith}
use Rattle.std.proofs.lemmas.Bool.{both_ways, and_parts, and_from, lt-ltb, eqb-true, eq-eqb}
use Rattle.go_rules.specs.declared.Cell.{Cell}
use Rattle.go_rules.specs.declared.Colour.{Colour}
use Rattle.go_rules.specs.Strings.{cell_at}
use Rattle.go_rules.specs.Position.{BoardState, IsPosition, is_banned}
use Rattle.go_base.specs.Bits.{is_marked}
use Rattle.go_base.specs.declared.facts.Facts.{Facts}
use Rattle.go_base.specs.Facts.{Fact, SizeIs, CellIs, BanIs, IsFactOf, Agrees, Grows, AddsOnly}
use Rattle.go_base.specs.AmongFacts.{told, seen_as, asked_of, same_bool, SeesCell, AsksBan}

-- two truths that are told to be the same are equal
pub same_bool-true : (a b : Bool) → same_bool a b ≡ true → a ≡ b
same_bool-true true b h = sym h
same_bool-true false true h = h
same_bool-true false false h = refl

-- a truth is the same as itself
pub same_bool-refl : (a : Bool) → same_bool a a ≡ true
same_bool-refl true = refl
same_bool-refl false = refl

-- what is told of a cell, by the size and the bits of the points where it was seen
abbrev tells_cell : ℕ → List ℕ → ℕ → Bool
tells_cell n seen p = ltb p (n * n) && is_marked seen p

-- what is told of a ban, by the size, the ban and the bits of the points where it was asked for
abbrev tells_ban : ℕ → Option (ℕ × Colour) → List ℕ → ℕ → Colour → Bool → Bool
tells_ban n ban asked p c forbidden = ltb p (n * n) && (is_marked asked p && same_bool (is_banned ban c p) forbidden)

-- with the same bits the same cells are told
same_cells : (n m : ℕ) (a b : List ℕ) (p : ℕ) → m ≡ n → b ≡ a → tells_cell m b p ≡ tells_cell n a p
same_cells n m a b p size bits = ap (λ k. tells_cell k b p) size ∙ ap (λ w. tells_cell n w p) bits

-- and the same bans
same_bans : (n m : ℕ) (u v : Option (ℕ × Colour)) (a b : List ℕ) (p : ℕ) (c : Colour) (forbidden : Bool) → m ≡ n → v ≡ u
    → b ≡ a → tells_ban m v b p c forbidden ≡ tells_ban n u a p c forbidden
same_bans n m u v a b p c forbidden size ban bits = grind arith

-- a position that agrees has the size of the facts
on_facts : (f : Facts) (pos : BoardState) (p : ℕ) → Agrees (told f) pos → p < pos.size * pos.size
    → ltb p (f.size * f.size) ≡ true
on_facts f pos p a on = lt-ltb p (f.size * f.size)
    (subst (λ n. p < n * n) (a.each (SizeIs f.size) (eq-eqb f.size f.size refl)) on)

-- The cell of a point p of a position was seen, over facts that agree with it.
module _ (f g : Facts) (pos : BoardState) (a : Agrees (told f) pos) (p : ℕ) (on : p < pos.size * pos.size) (cell : Cell)
    (here : cell ≡ cell_at pos.cells p) (sees : SeesCell f g p cell) where
  -- it is among the facts
  pub cell_told : told g (CellIs p cell) ≡ true
  cell_told = and_from _ _ (ap (λ n. ltb p (n * n)) sees.size ∙ on_facts f pos p a on) sees.here

  -- and so is what was
  pub cell_grows : Grows (told f) (told g)
  cell_grows = record { kept = kept }
    where
      kept : (fact : Fact) → told f fact ≡ true → told g fact ≡ true
      kept (SizeIs n) h = eq-eqb g.size n (sees.size ∙ eqb-true f.size n h)
      kept (BanIs q c b) h = same_bans f.size g.size f.ban g.ban (asked_of f c) (asked_of g c) q c b sees.size sees.ban
          (sees.bans c) ∙ h
      kept (CellIs q x) h = let parts = and_parts _ _ h in
          and_from _ _ (ap (λ n. ltb q (n * n)) sees.size ∙ parts.0) (sees.kept x q parts.1)

  -- what is told of a cell now was told before, or is the cell of p
  was : (q : ℕ) (x : Cell) → told g (CellIs q x) ≡ true → (told f (CellIs q x) ≡ true) ⊎ ((q ≡ p) × (x ≡ cell))
  was q x h = let parts = and_parts _ _ h in elim (sees.only x q parts.1) [
    | inl before ↦ inl (and_from _ _ (sym (ap (λ n. ltb q (n * n)) sees.size) ∙ parts.0) before)
    | inr now ↦ inr now
  ]

  -- what else is told now was told before
  size_was : (n : ℕ) → told g (SizeIs n) ≡ true → told f (SizeIs n) ≡ true
  size_was n h = eq-eqb f.size n (sym sees.size ∙ eqb-true g.size n h)

  -- and so was what is told of a ban
  ban_was : (q : ℕ) (c : Colour) (b : Bool) → told g (BanIs q c b) ≡ true → told f (BanIs q c b) ≡ true
  ban_was q c b h = sym (same_bans f.size g.size f.ban g.ban (asked_of f c) (asked_of g c) q c b sees.size sees.ban
      (sees.bans c)) ∙ h

  -- nothing else came
  pub cell_only : AddsOnly (told f) (told g) (CellIs p cell)
  cell_only = record { added = added }
    where
      added : (fact : Fact) → told g fact ≡ true → (told f fact ≡ true) ⊎ (fact ≡ CellIs p cell)
      added (SizeIs n) h = inl (size_was n h)
      added (BanIs q c b) h = inl (ban_was q c b h)
      added (CellIs q x) h = elim (was q x h) [
        | inl o ↦ inl o
        | inr e ↦ inr (ap (λ n. CellIs n x) e.0 ∙ ap (CellIs p) e.1)
      ]

  -- the position still agrees
  pub cell_agrees : Agrees (told g) pos
  cell_agrees = record { sound = a.sound; each = each }
    where
      each : (fact : Fact) → told g fact ≡ true → IsFactOf pos fact
      each (SizeIs n) h = a.each (SizeIs n) (size_was n h)
      each (BanIs q c b) h = a.each (BanIs q c b) (ban_was q c b h)
      each (CellIs q x) h = elim (was q x h) [
        | inl o ↦ a.each (CellIs q x) o
        | inr e ↦ ap (cell_at pos.cells) e.0 ∙ sym here ∙ sym e.1
      ]

-- It was asked whether the ban of a position forbids c to play at p, over facts that agree with it and have its ban.
module _ (f g : Facts) (pos : BoardState) (a : Agrees (told f) pos) (same : f.ban ≡ pos.ban) (p : ℕ)
    (on : p < pos.size * pos.size) (c : Colour) (asks : AsksBan f g p c) where
  -- the facts still have the ban of the position
  now_same : g.ban ≡ pos.ban
  now_same = asks.ban ∙ same

  -- it is among the facts
  pub ban_told : told g (BanIs p c (is_banned pos.ban c p)) ≡ true
  ban_told =
      and_from _ _ (ap (λ n. ltb p (n * n)) asks.size ∙ on_facts f pos p a on)
      (and_from _ _ asks.here (ap (λ b. same_bool (is_banned b c p) (is_banned pos.ban c p)) now_same
      ∙ same_bool-refl (is_banned pos.ban c p)))

  -- and so is what was
  pub ban_grows : Grows (told f) (told g)
  ban_grows = record { kept = kept }
    where
      kept : (fact : Fact) → told f fact ≡ true → told g fact ≡ true
      kept (SizeIs n) h = eq-eqb g.size n (asks.size ∙ eqb-true f.size n h)
      kept (CellIs q x) h = same_cells f.size g.size (seen_as f x) (seen_as g x) q asks.size (asks.cells x) ∙ h
      kept (BanIs q k b) h =
          let parts = and_parts _ _ h in
          let more = and_parts _ _ parts.1 in
          and_from _ _ (ap (λ n. ltb q (n * n)) asks.size ∙ parts.0)
          (and_from _ _ (asks.kept k q more.0) (ap (λ v. same_bool (is_banned v k q) b) asks.ban ∙ more.1))

  -- nothing else came
  pub ban_only : AddsOnly (told f) (told g) (BanIs p c (is_banned pos.ban c p))
  ban_only = record { added = added }
    where
      here : (q : ℕ) (k : Colour) (b : Bool) → q ≡ p → k ≡ c → is_banned g.ban k q ≡ b
          → BanIs q k b ≡ BanIs p c (is_banned pos.ban c p)
      here q k b point colour is =
          ap (BanIs q k) (sym is ∙ ap (λ n. is_banned n k q) now_same ∙ ap (is_banned pos.ban k) point
          ∙ ap (λ x. is_banned pos.ban x p) colour)
          ∙ ap (λ n. BanIs n k (is_banned pos.ban c p)) point
          ∙ ap (λ x. BanIs p x (is_banned pos.ban c p)) colour

      added : (fact : Fact) → told g fact ≡ true
          → (told f fact ≡ true) ⊎ (fact ≡ BanIs p c (is_banned pos.ban c p))
      added (SizeIs n) h = inl (eq-eqb f.size n (sym asks.size ∙ eqb-true g.size n h))
      added (CellIs q x) h = inl (sym (same_cells f.size g.size (seen_as f x) (seen_as g x) q asks.size (asks.cells x))
          ∙ h)
      added (BanIs q k b) h =
          let parts = and_parts _ _ h in
          let more = and_parts _ _ parts.1 in
          elim (asks.only k q more.0) [
            | inl before ↦ inl (and_from _ _ (sym (ap (λ n. ltb q (n * n)) asks.size) ∙ parts.0)
                (and_from _ _ before (sym (ap (λ v. same_bool (is_banned v k q) b) asks.ban) ∙ more.1)))
            | inr e ↦ inr (here q k b e.0 e.1 (same_bool-true (is_banned g.ban k q) b more.1))
          ]

  -- the position still agrees
  pub ban_agrees : Agrees (told g) pos
  ban_agrees = record { sound = a.sound; each = each }
    where
      each : (fact : Fact) → told g fact ≡ true → IsFactOf pos fact
      each (SizeIs n) h = a.each (SizeIs n) (eq-eqb f.size n (sym asks.size ∙ eqb-true g.size n h))
      each (CellIs q x) h = a.each (CellIs q x)
          (sym (same_cells f.size g.size (seen_as f x) (seen_as g x) q asks.size (asks.cells x)) ∙ h)
      each (BanIs q k b) h =
          let more = and_parts _ _ (and_parts _ _ h).1 in
          sym (ap (λ n. is_banned n k q) now_same) ∙ same_bool-true (is_banned g.ban k q) b more.1

-- No cell was seen, and no ban asked for.
module _ (f : Facts) (n : ℕ) (size : f.size ≡ n) (cells : (cell : Cell) (q : ℕ)
    → is_marked (seen_as f cell) q ≡ false) (bans : (c : Colour) (q : ℕ) → is_marked (asked_of f c) q ≡ false) where
  -- no fact but the size was seen
  pub none_told : (fact : Fact) → told f fact ≡ true → fact ≡ SizeIs n
  none_told (SizeIs m) h = ap SizeIs (sym (eqb-true f.size m h) ∙ size)
  none_told (CellIs q x) h = absurd (both_ways (is_marked (seen_as f x) q) (cells x q) (and_parts _ _ h).1)
  none_told (BanIs q c b) h =
      absurd (both_ways (is_marked (asked_of f c) q) (bans c q) (and_parts _ _ (and_parts _ _ h).1).0)

  -- so each position of this size agrees
  pub none_agrees : (pos : BoardState) → IsPosition pos → pos.size ≡ n → Agrees (told f) pos
  none_agrees pos good e = record { sound = good; each = λ fact h. subst (IsFactOf pos) (sym (none_told fact h)) e }
