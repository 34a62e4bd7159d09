-- What the ban says in words: one stone was captured, by a stone that is alone and has one liberty.
use Rattle.std.proofs.Common.{◌≡◌, ℕ, zero, suc, ◌+◌, ◌*◌, ◌<◌, ◌&&◌, Bool, true, false, cond, eqb, Option, Some, None}
use Rattle.std.proofs.Common.{List, Ok, refl, sym, ap, arith, inl, inr, ◌∙◌}
use Rattle.std.proofs.Math.ListN.{set}
use Rattle.std.proofs.lemmas.Bool.{cases_Bool, cases_eq, eqb-true, both_ways, and_parts, false_from_ne_true}
use Rattle.std.specs.Option.{option_map}
use Rattle.go_rules.specs.declared.Cell.{Cell}
use Rattle.go_rules.specs.declared.Colour.{Colour}
use Rattle.go_rules.specs.Below.{count_below, first_below}
use Rattle.go_rules.specs.Strings.{is_stone, cell_at, is_in_string, is_liberty, liberties}
use Rattle.go_rules.specs.Position.{BoardState, other, stone_of}
use Rattle.go_rules.specs.Play.{is_taken, ban_after, play_free}
use Rattle.go_rules.specs.Rules.{LeavesBan}
use Rattle.go_rules.proofs.Counts.{first_below_is, first_below_gives}
use Rattle.go_rules.proofs.Paths.{path_on_board, IsInString-from_test, is_is_in_string-from_fact, IsLiberty-from_test}
use Rattle.go_rules.proofs.Paths.{is_liberty-from_fact}
use Rattle.go_rules.proofs.InWords.{string_itself}
use Rattle.go_rules.proofs.PlayLaws.{captured_from, taken_by_words, stone_after, done_is}

-- no number below n passes
none_pass : (n : ℕ) (test : ℕ → Bool) → count_below n test ≡ 0 → (j : ℕ) → j < n → test j ≡ false
none_pass zero test e j l = absurd (omega arith)
none_pass (suc n) test e j l = elim (cases_Bool (test n)) [
  | inl t ↦ (let g = rw t at e in absurd (omega arith))
  | inr f ↦ elim (cases_eq j n) [
    | inl same ↦ ap test same ∙ f
    | inr ne ↦ none_pass n test (let g : 0 + count_below n test ≡ 0 = rw f at e in omega arith) j (omega arith)
  ]
]

-- k passes, and no other number below n
record IsOnly (n : ℕ) (test : ℕ → Bool) (k : ℕ) : Type 0 where
  below : k < n
  passes : test k ≡ true
  others : (j : ℕ) → j < n → test j ≡ true → j ≡ k

-- the last number passes and none before it
only_last : (n : ℕ) (test : ℕ → Bool) → test n ≡ true → count_below n test ≡ 0 → IsOnly (suc n) test n
only_last n test t none = grind (arith, none_pass n test none, cases_eq, both_ways)

-- the last number does not pass, and one before it is the only one
only_before : (n : ℕ) (test : ℕ → Bool) (k : ℕ) → test n ≡ false → IsOnly n test k → IsOnly (suc n) test k
only_before n test k f rest = grind (arith, cases_eq, both_ways)

-- where one number passes, it is the only one
only_one : (n : ℕ) (test : ℕ → Bool) → count_below n test ≡ 1 → (k : ℕ) × IsOnly n test k
only_one zero test e = absurd (omega arith)
only_one (suc n) test e = elim (cases_Bool (test n)) [
  | inl t ↦ (n, only_last n test t (let g : 1 + count_below n test ≡ 1 = rw t at e in omega arith))
  | inr f ↦ grind (arith, only_one n test, only_before n test)
]

-- the count of a test that no number passes
count_none : (n : ℕ) (test : ℕ → Bool) → ((j : ℕ) → j < n → test j ≡ false) → count_below n test ≡ 0
count_none zero test h = refl
count_none (suc n) test h = rw (h n (omega arith), count_none n test (λ j l. h j (omega arith))) refl

-- where a number is the only one that passes, one passes
count_one : (n : ℕ) (test : ℕ → Bool) (k : ℕ) → IsOnly n test k → count_below n test ≡ 1
count_one zero test k h = absurd (let l = h.below in omega arith)
count_one (suc n) test k h = elim (cases_eq k n) [
  | inl e ↦ grind (arith, count_none, false_from_ne_true)
  | inr ne ↦
      let below : k < n = (let l = h.below in omega arith) in
      let miss = false_from_ne_true (test n) (λ t. let same = h.others n (omega arith) t in omega arith) in
      let rest : count_below n test ≡ 1 =
      count_one n test k (record {
        below = below;
        passes = h.passes;
        others = λ j l t. h.others j (omega arith) t;
      }) in
      rw (miss, rest) refl
]

-- the point of a ban, and 0 if there is none
abbrev ban_point : Option (ℕ × Colour) → ℕ
ban_point None = 0
ban_point (Some b) = b.0

-- the colour of a ban, and c if there is none
abbrev ban_colour : Colour → Option (ℕ × Colour) → Colour
ban_colour c None = c
ban_colour c (Some b) = b.1

-- the cells with the stone put
abbrev put_on : BoardState → Colour → ℕ → List Cell
put_on pos c p = set pos.cells p (stone_of c)

module _ (pos : BoardState) (c : Colour) (p : ℕ) (new : BoardState) (on : p < pos.size * pos.size)
    (played : play_free pos c p ≡ Ok new) where
  -- where the three counts are one, the ban is on the point that was taken
  first_ban : (q : ℕ) → count_below (pos.size * pos.size) (is_taken pos.size (put_on pos c p) c) ≡ 1
      → count_below (pos.size * pos.size) (is_in_string pos.size new.cells p) ≡ 1
      → liberties pos.size new.cells p ≡ 1
      → first_below (pos.size * pos.size) (is_taken pos.size (put_on pos c p) c) ≡ Some q → new.ban ≡ Some (q, other c)
  unfolding ban_after
  first_ban q one alone free first = done_is pos c p new played ∙ rw (one, alone, free, first) refl

  -- the ban's point and colour, if there is one
  pub ban_parts : (q : ℕ) (k : Colour) → new.ban ≡ Some (q, k)
      → (k ≡ other c) × (count_below (pos.size * pos.size) (is_taken pos.size (put_on pos c p) c) ≡ 1)
      × (count_below (pos.size * pos.size) (is_in_string pos.size new.cells p) ≡ 1)
      × (liberties pos.size new.cells p ≡ 1)
      × (first_below (pos.size * pos.size) (is_taken pos.size (put_on pos c p) c) ≡ Some q)
  unfolding ban_after
  ban_parts q k e = split _ _ _ _ (sym (done_is pos c p new played) ∙ e)
    where
      mapped : (o : Option ℕ) → option_map {T = ℕ} {U = ℕ × Colour} (λ x. (x, other c)) o ≡ Some (q, k)
          → (k ≡ other c) × (o ≡ Some q)
      mapped None h = absurd (cc)
      mapped (Some x) h = (sym (ap (ban_colour c) h), ap Some (ap ban_point h))

      split : (a b d : ℕ) (o : Option ℕ)
          → cond (eqb a 1 && eqb b 1 && eqb d 1) (option_map {T = ℕ} {U = ℕ × Colour} (λ x. (x, other c)) o) None
          ≡ Some (q, k) → (k ≡ other c) × (a ≡ 1) × (b ≡ 1) × (d ≡ 1) × (o ≡ Some q)
      split a b d o h = elim (cases_Bool (eqb a 1 && eqb b 1 && eqb d 1)) [
        | inl t ↦
            let parts = and_parts _ _ t in
            let first = and_parts _ _ parts.0 in
            let m = mapped o (rw t at h) in
            (m.0, eqb-true _ _ first.0, eqb-true _ _ first.1, eqb-true _ _ parts.1, m.1)
        | inr f ↦ (let g = rw f at h in absurd (cc))
      ]

  -- the played stone stands
  stands : is_stone (cell_at new.cells p) ≡ true
  stands = stone_after pos c p new on played

  -- a ban that is left means what the rule says
  pub ban_means : (q : ℕ) → new.ban ≡ Some (q, other c) → LeavesBan pos c p new.cells q
  unfolding liberties
  ban_means q e =
      let parts = ban_parts q (other c) e in
      let found = first_below_gives (pos.size * pos.size) (is_taken pos.size (put_on pos c p) c) q parts.4 in
      let one = only_one (pos.size * pos.size) (is_taken pos.size (put_on pos c p) c) parts.1 in
      let alone = only_one (pos.size * pos.size) (is_in_string pos.size new.cells p) parts.2 in
      let free = only_one (pos.size * pos.size) (is_liberty pos.size new.cells p) parts.3 in
      let p_is : p ≡ alone.0 = alone.1.others p on
      (is_is_in_string-from_fact pos.size new.cells p p on (string_itself pos.size new.cells p stands)) in
      record {
        on_board = found.0;
        taken = captured_from pos.size (put_on pos c p) c q found.0 found.1;
        one_taken = λ r l h. one.1.others r l (taken_by_words pos.size (put_on pos c p) c r h)
            ∙ sym (one.1.others q found.0 found.1);
        stone_alone = λ r h. alone.1.others r (path_on_board pos.size new.cells p on h.path)
            (is_is_in_string-from_fact pos.size new.cells p r on h) ∙ sym p_is;
        one_liberty = (
          free.0,
          record {
            its = IsLiberty-from_test pos.size new.cells p free.0 free.1.passes;
            only = λ k h. free.1.others k h.on_board (is_liberty-from_fact pos.size new.cells p k on h);
          },
        );
      }

  -- what the rule says leaves the ban
  pub ban_from : (q : ℕ) → LeavesBan pos c p new.cells q → new.ban ≡ Some (q, other c)
  unfolding liberties
  ban_from q h =
      let taken = taken_by_words pos.size (put_on pos c p) c q h.taken in
      let one = count_one (pos.size * pos.size) (is_taken pos.size (put_on pos c p) c) q (record {
        below = h.on_board;
        passes = taken;
        others = λ j l t. h.one_taken j l (captured_from pos.size (put_on pos c p) c j l t);
      }) in
      let alone = count_one (pos.size * pos.size) (is_in_string pos.size new.cells p) p (record {
        below = on;
        passes = is_is_in_string-from_fact pos.size new.cells p p on (string_itself pos.size new.cells p stands);
        others = λ j l t. h.stone_alone j (IsInString-from_test pos.size new.cells p j t);
      }) in
      let l = h.one_liberty.0 in
      let free = count_one (pos.size * pos.size) (is_liberty pos.size new.cells p) l (record {
        below = h.one_liberty.1.its.on_board;
        passes = is_liberty-from_fact pos.size new.cells p l on h.one_liberty.1.its;
        others = λ j i t. h.one_liberty.1.only j (IsLiberty-from_test pos.size new.cells p j t);
      }) in
      first_ban q one alone free (first_below_is (pos.size * pos.size)
      (is_taken pos.size (put_on pos c p) c) q h.on_board taken
      (λ r l. elim (cases_Bool (is_taken pos.size (put_on pos c p) c r)) [
        | inl t ↦
            let r_on : r < pos.size * pos.size = (let i = h.on_board in omega arith) in
            absurd (let same = h.one_taken r r_on (captured_from pos.size (put_on pos c p) c r r_on t) in omega arith)
        | inr f ↦ f
      ]))
