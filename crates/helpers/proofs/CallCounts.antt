-- What becomes of a list of helpers whose counts of calls rise: the meaning of each name stays, and one more call is
-- one more.
use Rattle.std.proofs.Common.{◌≡◌, ℕ, zero, suc, ◌+◌, add-suc, add-zero, Bool, true, false, cond, ◌&&◌, ◌||◌, List, []}
use Rattle.std.proofs.Common.{◌∷◌, Option, Some, refl, sym, ap, subst, ◌∙◌, arith}
use Rattle.std.specs.List.{list_any}
use Rattle.std.specs.Str.{bytes_eq}
use Rattle.std.proofs.lemmas.Bool.{or_parts, or_from}
use Rattle.go_rules.specs.declared.Colour.{Colour}
use Rattle.go_rules.specs.Position.{BoardState}
use Rattle.helpers.specs.HelperStates.{HelperState, SlotState, asked, has_name, named, slot_says, slot_asked, says_yes}
use Rattle.helpers.specs.HelperStates.{change_first, after_asking}
use Rattle.helpers.specs.Agreement.{slot_on, is_on, asked_often, slot_asked_often, raised_from, raised}
use Rattle.helpers.proofs.Times.{same_name, itself, bytes_eq-false}

-- one more call of the helper of a name, if it is on
unfoldable pub one_more_of : List ℕ → Bool → (List ℕ → ℕ) → List ℕ → ℕ
one_more_of m on times n = cond (bytes_eq m n && on) (suc (times n)) (times n)

-- its name is as before
name_kept : (k : ℕ) (h : HelperState) → (asked_often k h).name ≡ h.name
name_kept zero h = refl
name_kept (suc k) h = name_kept k h

-- its meaning is as before
says_kept : (k : ℕ) (h : HelperState) → (asked_often k h).says ≡ h.says
says_kept zero h = refl
says_kept (suc k) h = says_kept k h

-- lists whose counts rise alike are the same
pub raised_from-cong : (f g : List ℕ → ℕ) (before slots : List SlotState)
    → ((n : List ℕ) → list_any (has_name n) before ≡ false → f n ≡ g n)
    → raised_from before f slots ≡ raised_from before g slots
raised_from-cong f g before [] alike = refl
raised_from-cong f g before (s ∷ slots) alike = grind (arith, or_parts, raised_from-cong f g (s ∷ before) slots)

-- helpers that are asked equally often are after it the same
pub raised-cong : (f g : List ℕ → ℕ) (slots : List SlotState) → ((n : List ℕ) → f n ≡ g n)
    → raised f slots ≡ raised g slots
raised-cong f g slots alike = raised_from-cong f g [] slots (λ n e. alike n)

-- if nothing was asked, the list is as it was
raised_from-zero : (before slots : List SlotState) → raised_from before (λ n. 0) slots ≡ slots
raised_from-zero before [] = refl
raised_from-zero before (s ∷ slots) = grind (arith, raised_from-zero (s ∷ before) slots)

-- a list of which nothing was asked is as it was
pub raised-zero : (slots : List SlotState) → raised (λ n. 0) slots ≡ slots
raised-zero slots = raised_from-zero [] slots

-- what is read of the helper of a name, and does not change with its calls, is as before
module _ {Y : Type 0} (read : Option SlotState → Y)
    (keeps : (k : ℕ) (s : SlotState) → read (Some (slot_asked_often k s)) ≡ read (Some s)) (name : List ℕ)
    (times : List ℕ → ℕ) where
  -- what is read behind some places is as before
  read_from : (before slots : List SlotState)
      → read (named name (raised_from before times slots)) ≡ read (named name slots)
  read_from before [] = refl
  read_from before (s ∷ slots) =
      by_name (has_name name s) refl (list_any (has_name s.helper.name) before) (read_from (s ∷ before) slots)
    where
      same_name' : (b : Bool) → has_name name (cond b s (slot_asked_often (times s.helper.name) s)) ≡ has_name name s
      same_name' true = refl
      same_name' false = ap (λ n. bytes_eq n name) (name_kept (times s.helper.name) s.helper)

      same_read : (b : Bool) → read (Some (cond b s (slot_asked_often (times s.helper.name) s))) ≡ read (Some s)
      same_read true = refl
      same_read false = keeps (times s.helper.name) s

      by_name : (t : Bool) → has_name name s ≡ t → (b : Bool)
          → read (named name (raised_from (s ∷ before) times slots)) ≡ read (named name slots)
          → read (cond (has_name name (cond b s (slot_asked_often (times s.helper.name) s)))
          (Some (cond b s (slot_asked_often (times s.helper.name) s)))
          (named name (raised_from (s ∷ before) times slots)))
          ≡ read (cond (has_name name s) (Some s) (named name slots))
      by_name true e b rest =
          ap (λ t. read (cond t (Some (cond b s (slot_asked_often (times s.helper.name) s)))
          (named name (raised_from (s ∷ before) times slots)))) (same_name' b ∙ e)
          ∙ same_read b ∙ sym (ap (λ t. read (cond t (Some s) (named name slots))) e)
      by_name false e b rest =
          ap (λ t. read (cond t (Some (cond b s (slot_asked_often (times s.helper.name) s)))
          (named name (raised_from (s ∷ before) times slots)))) (same_name' b ∙ e)
          ∙ rest ∙ sym (ap (λ t. read (cond t (Some s) (named name slots))) e)

-- what a name's helper says is as before
pub says_yes-raised : (times : List ℕ → ℕ) (slots : List SlotState) (name : List ℕ) (board : BoardState) (at : ℕ)
    (friend : Colour) → says_yes (raised times slots) name board at friend ≡ says_yes slots name board at friend
says_yes-raised times slots name board at friend =
    read_from (λ o. slot_says o board at friend)
    (λ k s. ap (λ says. s.on && says board at friend) (says_kept k s.helper)) name times [] slots

-- whether it is on is as before
pub is_on-raised : (times : List ℕ → ℕ) (slots : List SlotState) (name : List ℕ)
    → is_on (raised times slots) name ≡ is_on slots name
is_on-raised times slots name = read_from slot_on (λ k s. refl) name times [] slots

-- the helper of the name m is asked once more, which is on or not
module _ (m : List ℕ) (on : Bool) (times : List ℕ → ℕ) where
  -- a name apart from m is asked as often as before
  apart_from : (n : List ℕ) → bytes_eq m n ≡ false → times n ≡ one_more_of m on times n
  unfolding one_more_of
  apart_from n apart = sym (ap (λ b. cond (b && on) (suc (times n)) (times n)) apart)

  -- one place, asked once more
  once : (s : SlotState) (k : ℕ) (b : Bool) → s.on ≡ b
      → slot_asked (slot_asked_often k s) ≡ slot_asked_often (cond b (suc k) k) s
  once s k true is = ap (λ t. cond t (slot_asked_often (suc k) s) (slot_asked_often k s)) is
  once s k false is = ap (λ t. cond t (slot_asked_often (suc k) s) (slot_asked_often k s)) is

  -- the first place is that of the name
  asked_here : (before slots : List SlotState) (s : SlotState) → list_any (has_name m) before ≡ false
      → slot_on (named m (s ∷ slots)) ≡ on → has_name m s ≡ true
      → change_first (has_name m) slot_asked (raised_from before times (s ∷ slots))
      ≡ raised_from before (one_more_of m on times) (s ∷ slots)
  unfolding one_more_of
  asked_here before slots s unseen is here =
      let k = times s.helper.name in
      let rest = raised_from (s ∷ before) times slots in
      let same : s.helper.name ≡ m = same_name s.helper.name m here in
      let unseen_first : list_any (has_name s.helper.name) before ≡ false =
      subst (λ n. list_any (has_name n) before ≡ false) (sym same) unseen in
      let is_first : s.on ≡ on = sym (ap (λ t. slot_on (cond t (Some s) (named m slots))) here) ∙ is in
      let equal : bytes_eq m s.helper.name ≡ true = subst (λ n. bytes_eq m n ≡ true) (sym same) (itself m) in
      ap (λ b. change_first (has_name m) slot_asked (cond b s (slot_asked_often k s) ∷ rest)) unseen_first
      ∙ ap (λ t. cond t (slot_asked (slot_asked_often k s) ∷ rest)
      (slot_asked_often k s ∷ change_first (has_name m) slot_asked rest))
      (ap (λ n. bytes_eq n m) (name_kept k s.helper) ∙ here)
      ∙ ap (λ h. h ∷ rest) (once s k on is_first ∙ ap (λ b. slot_asked_often (cond (b && on) (suc k) k) s) (sym equal))
      ∙ ap (λ l. slot_asked_often (one_more_of m on times s.helper.name) s ∷ l)
      (raised_from-cong times (one_more_of m on times) (s ∷ before) slots
      (λ n e. apart_from n (subst (λ j. bytes_eq j n ≡ false) same
      (or_parts (has_name n s) (list_any (has_name n) before) e).0)))
      ∙ ap (λ b. cond b s (slot_asked_often (one_more_of m on times s.helper.name) s)
      ∷ raised_from (s ∷ before) (one_more_of m on times) slots) (sym unseen_first)

  -- its name as it is seen in the list is as before
  kept_name : (b : Bool) (k : ℕ) (s : SlotState) → has_name m (cond b s (slot_asked_often k s)) ≡ has_name m s
  kept_name true k s = refl
  kept_name false k s = ap (λ n. bytes_eq n m) (name_kept k s.helper)

  -- the first place is that of another name
  asked_behind : (before slots : List SlotState) (s : SlotState) → has_name m s ≡ false
      → change_first (has_name m) slot_asked (raised_from (s ∷ before) times slots)
      ≡ raised_from (s ∷ before) (one_more_of m on times) slots
      → change_first (has_name m) slot_asked (raised_from before times (s ∷ slots))
      ≡ raised_from before (one_more_of m on times) (s ∷ slots)
  asked_behind before slots s other rest_asked =
      let rest = raised_from (s ∷ before) times slots in
      let seen = list_any (has_name s.helper.name) before in
      let head = cond seen s (slot_asked_often (times s.helper.name) s) in
      ap (λ t. cond t (slot_asked head ∷ rest) (head ∷ change_first (has_name m) slot_asked rest))
      (kept_name seen (times s.helper.name) s ∙ other)
      ∙ ap (λ l. head ∷ l) rest_asked
      ∙ ap (λ k. cond seen s (slot_asked_often k s) ∷ raised_from (s ∷ before) (one_more_of m on times) slots)
      (apart_from s.helper.name (bytes_eq-false s.helper.name m other))

  -- a name that was not seen yet is asked once more, at this place or behind it
  asked_by : (before slots : List SlotState) (s : SlotState) (t : Bool) → has_name m s ≡ t
      → list_any (has_name m) before ≡ false → slot_on (named m (s ∷ slots)) ≡ on
      → (list_any (has_name m) (s ∷ before) ≡ false → slot_on (named m slots) ≡ on
      → change_first (has_name m) slot_asked (raised_from (s ∷ before) times slots)
      ≡ raised_from (s ∷ before) (one_more_of m on times) slots)
      → change_first (has_name m) slot_asked (raised_from before times (s ∷ slots))
      ≡ raised_from before (one_more_of m on times) (s ∷ slots)
  asked_by before slots s true here unseen is rest_asked = asked_here before slots s unseen is here
  asked_by before slots s false other unseen is rest_asked =
      asked_behind before slots s other
      (rest_asked (or_from (has_name m s) (list_any (has_name m) before) other unseen)
      (sym (ap (λ t. slot_on (cond t (Some s) (named m slots))) other) ∙ is))

  -- the helper of the name m, which no place before has, is asked once more, if it is on
  asked_from : (before slots : List SlotState) → list_any (has_name m) before ≡ false → slot_on (named m slots) ≡ on
      → change_first (has_name m) slot_asked (raised_from before times slots)
      ≡ raised_from before (one_more_of m on times) slots
  asked_from before [] unseen is = refl
  asked_from before (s ∷ slots) unseen is =
      asked_by before slots s (has_name m s) refl unseen is (λ u i. asked_from (s ∷ before) slots u i)

-- a helper that is asked once more, if it is on
pub after_asking-raised : (m : List ℕ) (times : List ℕ → ℕ) (slots : List SlotState)
    → after_asking m (raised times slots) ≡ raised (one_more_of m (is_on slots m) times) slots
after_asking-raised m times slots = asked_from m (is_on slots m) times [] slots refl refl

-- more calls of a helper that was asked before
asked_often-add : (k n : ℕ) (h : HelperState) → asked_often k (asked_often n h) ≡ asked_often (n + k) h
asked_often-add zero n h = ap (λ i. asked_often i h) (sym (add-zero n))
asked_often-add (suc k) n h = ap asked (asked_often-add k n h) ∙ ap (λ i. asked_often i h) (sym (add-suc n k))

-- one place after calls that follow others
added : (g : List ℕ → ℕ) (k : ℕ) (before later : List SlotState) (s : SlotState) (b : Bool)
    → list_any (has_name s.helper.name) before ≡ b
    → list_any (has_name s.helper.name) later ≡ list_any (has_name s.helper.name) before
    → cond (list_any (has_name (cond b s (slot_asked_often k s)).helper.name) later) (cond b s (slot_asked_often k s))
    (slot_asked_often (g (cond b s (slot_asked_often k s)).helper.name) (cond b s (slot_asked_often k s)))
    ≡ cond b s (slot_asked_often (k + g s.helper.name) s)
added g k before later s true e alike = ap (λ b. cond b s (slot_asked_often (g s.helper.name) s)) (alike ∙ e)
added g k before later s false e alike = grind (arith, name_kept, asked_often-add)

-- calls that follow others add to them
raised_from-add : (f g : List ℕ → ℕ) (before later slots : List SlotState)
    → ((n : List ℕ) → list_any (has_name n) later ≡ list_any (has_name n) before)
    → raised_from later g (raised_from before f slots) ≡ raised_from before (λ n. f n + g n) slots
raised_from-add f g before later [] alike = refl
raised_from-add f g before later (s ∷ slots) alike =
    let seen = list_any (has_name s.helper.name) before in
    let head = cond seen s (slot_asked_often (f s.helper.name) s) in
    ap (λ l. cond (list_any (has_name head.helper.name) later) head (slot_asked_often (g head.helper.name) head) ∷ l)
    (raised_from-add f g (s ∷ before) (head ∷ later) slots
    (λ n. ap (λ b. b || list_any (has_name n) later) (kept_name n true f seen (f s.helper.name) s)
    ∙ ap (λ b. has_name n s || b) (alike n)))
    ∙ ap (λ h. h ∷ raised_from (s ∷ before) (λ n. f n + g n) slots)
    (added g (f s.helper.name) before later s seen refl (alike s.helper.name))

-- calls that follow others add to them, over the whole list
pub raised-add : (f g : List ℕ → ℕ) (slots : List SlotState) → raised g (raised f slots) ≡ raised (λ n. f n + g n) slots
raised-add f g slots = raised_from-add f g [] [] slots (λ n. refl)
