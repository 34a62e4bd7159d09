-- What was gathered is the sets of the rules.
use Rattle.std.proofs.Common.{◌≡◌, ℕ, ◌*◌, ◌<◌, ◌&&◌, ◌||◌, Bool, true, false, not, leb, ltb, List}
use Rattle.std.proofs.Common.{refl, sym, ap, inl, inr, ◌∙◌}
use Rattle.std.proofs.lemmas.Bool.{cases_Bool, both_ways, or_cases, or_left, and_parts, and_from, lt-ltb, eqb-true, eq-eqb}
use Rattle.std.specs.Ordering.{nat_cmp}
use Rattle.std.specs.Cmp.{nat_cmp_total}
use Rattle.std.specs.FinSet as sets
use Rattle.go_rules.specs.declared.Cell.{Cell}
use Rattle.go_rules.specs.declared.Cell.TheVariants.{Empty}
use Rattle.go_rules.specs.Below.{any_below}
use Rattle.go_rules.specs.Board.{are_neighbours}
use Rattle.go_rules.specs.Strings.{cell_at, same_cell, is_in_string, string_at, is_liberty, liberties, liberty_points}
use Rattle.go_rules.specs.BesideStrings.{is_enemy, is_beside_string}
use Rattle.go_rules.proofs.Counts.{any_below_gives, any_below_same, any_below_false}
use Rattle.go_rules.proofs.Tests.{same_tests}
use Rattle.go_base.specs.Floods.{enemy_points}
use Rattle.go_base.specs.Surroundings.{is_only_liberty}
use Rattle.wider_rules.specs.Further.{is_net, is_weak_enemy, is_beside, is_ally, is_rescue, is_linked, is_join}
use Rattle.wider_rules.specs.Further.{is_cutter, is_cut, is_covered, is_covered_liberty, is_cover}
use Rattle.wider_rules.specs.Further.{is_in_the_way, is_approach}
use Rattle.wider_rules.specs.Cramped.{foe_of, is_cramped}
use Rattle.wider_rules.specs.Further.{is_further_always, is_further_wide, is_further}
use Rattle.wider_rules.specs.Strings.{holds_next, has_between, is_few_liberty, is_few_enemy, is_near_friend}
use Rattle.wider_rules.proofs.StringLemmas.{has_liberty, how_many, has_enemy, has_stone, joined, from_none}

-- which of two tests comes first does not matter
and_comm : (a b : Bool) → (a && b) ≡ (b && a)
and_comm true true = refl
and_comm true false = refl
and_comm false true = refl
and_comm false false = refl

-- nor in which order three are joined
and_assoc : (a b c : Bool) → (a && (b && c)) ≡ ((a && b) && c)
and_assoc true b c = refl
and_assoc false b c = refl

-- nor which of the first two is asked first
and_first : (a b c : Bool) → (a && (b && c)) ≡ (b && (a && c))
and_first a b c = and_assoc a b c ∙ ap (λ x. x && c) (and_comm a b) ∙ sym (and_assoc b a c)

-- a test that is the same for all numbers may be asked once
any_once : (n : ℕ) (b : Bool) (test : ℕ → Bool) → any_below n (λ q. b && test q) ≡ (b && any_below n test)
any_once n true test = refl
any_once n false test = any_below_false n (λ q. false && test q) (λ q l. refl)

-- a member that is not of the other set
left_of : (all gone rest : sets.FinSet nat_cmp) (q : ℕ) → rest ≡ sets.difference all gone
    → sets.contains rest q ≡ (sets.contains all q && not (sets.contains gone q))
left_of all gone rest q e = ap (λ t. sets.contains t q) e ∙ sets.contains-difference nat_cmp_total all gone q

-- What stands around the stones of a set, which are those on the board that pass a test.
module _ (s : ℕ) (cells : List Cell) (p : ℕ) (stones : sets.FinSet nat_cmp) (test : ℕ → Bool)
    (is : (q : ℕ) → sets.contains stones q ≡ (ltb q (s * s) && test q)) where
  -- on the board its members are those that pass
  members : (q : ℕ) → q < s * s → sets.contains stones q ≡ test q
  members q on = is q ∙ ap (λ b. b && test q) (lt-ltb q (s * s) on)

  -- the last liberties of their strings
  last_of : any_below (s * s) (λ q. sets.contains stones q && is_only_liberty s cells q p)
      ≡ any_below (s * s) (λ q. test q && is_only_liberty s cells q p)
  last_of = any_below_same (s * s) _ _ (λ q on. ap (λ b. b && is_only_liberty s cells q p) (members q on))

  -- the liberties of their strings that have few
  few_liberties_of : (least most : ℕ)
      → any_below (s * s) (λ q. sets.contains stones q && is_few_liberty least most s cells q p)
      ≡ any_below (s * s) (λ q. (test q && has_between least most s cells q) && is_liberty s cells q p)
  unfolding is_few_liberty
  few_liberties_of least most = any_below_same (s * s) _ _ (λ q on.
      ap (λ b. b && is_few_liberty least most s cells q p) (members q on)
      ∙ and_assoc (test q) (has_between least most s cells q) (is_liberty s cells q p))

  -- the enemies next to these
  few_enemies_of : (least most : ℕ)
      → any_below (s * s) (λ q. sets.contains stones q && is_few_enemy least most s cells q p)
      ≡ (ltb p (s * s) && any_below (s * s) (λ q. (test q && has_between least most s cells q)
      && (is_enemy (cell_at cells q) (cell_at cells p) && is_beside_string s cells q p)))
  unfolding is_few_enemy
  few_enemies_of least most = any_below_same (s * s) _ _ (λ q on.
      let few = has_between least most s cells q in
      let beside = is_beside_string s cells q p in
      let enemy = is_enemy (cell_at cells q) (cell_at cells p) in
      ap (λ b. b && is_few_enemy least most s cells q p) (members q on)
      ∙ and_assoc (test q) few (ltb p (s * s) && (beside && enemy))
      ∙ and_first (test q && few) (ltb p (s * s)) (beside && enemy)
      ∙ ap (λ x. ltb p (s * s) && ((test q && few) && x)) (and_comm beside enemy)) ∙ any_once (s * s) (ltb p (s * s)) _

  -- the liberties of those that have at most so many
  most_liberties_of : (most : ℕ)
      → any_below (s * s) (λ q. sets.contains stones q && is_few_liberty 0 most s cells q p)
      ≡ any_below (s * s) (λ q. (test q && leb (liberties s cells q) most) && is_liberty s cells q p)
  most_liberties_of most = few_liberties_of 0 most ∙ any_below_same (s * s) _ _ (λ q on.
      ap (λ b. (test q && b) && is_liberty s cells q p) (from_none most s cells q))

  -- and the enemies next to these
  most_enemies_of : (most : ℕ)
      → any_below (s * s) (λ q. sets.contains stones q && is_few_enemy 0 most s cells q p)
      ≡ (ltb p (s * s) && any_below (s * s) (λ q. (test q && leb (liberties s cells q) most)
      && (is_enemy (cell_at cells q) (cell_at cells p) && is_beside_string s cells q p)))
  most_enemies_of most =
      few_enemies_of 0 most ∙ ap (λ b. ltb p (s * s) && b) (any_below_same (s * s) _ _ (λ q on.
      ap (λ b. (test q && b) && (is_enemy (cell_at cells q) (cell_at cells p) && is_beside_string s cells q p))
      (from_none most s cells q)))

-- a point next to another at which a cell stands is on the board
pub next_on : (s : ℕ) (cells : List Cell) (cell : Cell) (l r : ℕ) → holds_next s cells cell l r ≡ true
    → ltb r (s * s) ≡ true
unfolding holds_next
next_on s cells cell l r h = (and_parts _ _ (and_parts _ _ h).0).0

-- What was gathered for a target.
module _ (s : ℕ) (cells : List Cell) (target : ℕ) where
  -- the points next to its liberties at which a cell stands
  next_of : (cell : Cell) (p : ℕ) (libs : sets.FinSet nat_cmp) → libs ≡ liberty_points s cells target
      → any_below (s * s) (λ l. sets.contains libs l && holds_next s cells cell l p)
      ≡ ((ltb p (s * s) && same_cell (cell_at cells p) cell)
      && any_below (s * s) (λ l. is_liberty s cells target l && are_neighbours s l p))
  unfolding holds_next
  next_of cell p libs e =
      let place = ltb p (s * s) && same_cell (cell_at cells p) cell in
      any_below_same (s * s) _ _ (λ l on.
      ap (λ b. b && holds_next s cells cell l p) (has_liberty s cells target l libs e)
      ∙ and_first (is_liberty s cells target l) place (are_neighbours s l p)) ∙ any_once (s * s) place _

  -- the empty neighbours of three liberties are Net
  pub net_is : (libs : sets.FinSet nat_cmp) (n p : ℕ) → libs ≡ liberty_points s cells target → n ≡ sets.len libs
      → n ≡ 3
      → any_below (s * s) (λ l. sets.contains libs l && holds_next s cells Empty l p) ≡ is_net s cells target p
  unfolding is_net
  net_is libs n p e count three =
      let place = ltb p (s * s) && same_cell (cell_at cells p) Empty in
      let at = λ (l : ℕ). is_liberty s cells target l && are_neighbours s l p in
      let exact = eq-eqb (liberties s cells target) 3 (sym (how_many s cells target libs e) ∙ sym count ∙ three) in
      next_of Empty p libs e ∙ sym (ap (λ b. (b && place) && any_below (s * s) at) exact)

  -- with another number of liberties there is none
  pub no_net : (libs none : sets.FinSet nat_cmp) (n p : ℕ) → libs ≡ liberty_points s cells target → n ≡ sets.len libs
      → (n ≡ 3 → ⊥) → none ≡ sets.empty → sets.contains none p ≡ is_net s cells target p
  unfolding is_net
  no_net libs none n p e count other empty =
      ap (λ t. sets.contains t p) empty ∙ sets.contains-empty nat_cmp p
      ∙ sym (elim (cases_Bool (is_net s cells target p)) [
        | inl h ↦ absurd (other (count ∙ how_many s cells target libs e
            ∙ eqb-true (liberties s cells target) 3 (and_parts _ _ (and_parts _ _ h).0).0))
        | inr fails ↦ fails
      ])

  -- the enemies next to the target
  foes_are : (foes : sets.FinSet nat_cmp) → foes ≡ enemy_points s cells target → (q : ℕ)
      → sets.contains foes q
      ≡ (ltb q (s * s) && (is_enemy (cell_at cells target) (cell_at cells q) && is_beside_string s cells target q))
  foes_are foes e q =
      has_enemy s cells target q foes e ∙ ap (λ b. ltb q (s * s) && b)
      (and_comm (is_beside_string s cells target q) (is_enemy (cell_at cells target) (cell_at cells q)))

  -- the liberties of those that have few are Beside
  pub beside_is : (most p : ℕ) (foes : sets.FinSet nat_cmp) → foes ≡ enemy_points s cells target
      → any_below (s * s) (λ q. sets.contains foes q && is_few_liberty 0 most s cells q p)
      ≡ is_beside most s cells target p
  unfolding is_beside is_weak_enemy
  beside_is most p foes e = most_liberties_of s cells p foes _ (foes_are foes e) most

  -- the enemies next to these that are not of the target's string are the allies
  pub ally_is : (most r : ℕ) (foes stones found allies : sets.FinSet nat_cmp) → target < s * s
      → foes ≡ enemy_points s cells target → stones ≡ string_at s cells target
      → sets.contains found r ≡ any_below (s * s) (λ q. sets.contains foes q && is_few_enemy 0 most s cells q r)
      → allies ≡ sets.difference found stones
      → sets.contains allies r ≡ (ltb r (s * s) && is_ally most s cells target r)
  unfolding is_ally is_weak_enemy
  ally_is most r foes stones found allies on e its came taken =
      let apart = not (is_in_string s cells target r) in
      left_of found stones allies r taken
      ∙ ap (λ b. sets.contains found r && not b) (has_stone s cells target r stones on its)
      ∙ ap (λ b. b && apart) (came ∙ most_enemies_of s cells r foes _ (foes_are foes e) most)
      ∙ sym (and_assoc (ltb r (s * s)) _ apart)

  -- the last liberties of the allies are Rescue
  pub rescue_is : (p : ℕ) (allies : sets.FinSet nat_cmp)
      → ((r : ℕ) → sets.contains allies r ≡ (ltb r (s * s) && is_ally 2 s cells target r))
      → any_below (s * s) (λ r. sets.contains allies r && is_only_liberty s cells r p) ≡ is_rescue s cells target p
  unfolding is_rescue
  rescue_is p allies is = last_of s cells p allies (is_ally 2 s cells target) is

  -- the stones next to the liberties that are not of the target's string are its near friends
  pub friend_is : (cell : Cell) (q : ℕ) (libs stones found friends : sets.FinSet nat_cmp) → target < s * s
      → cell ≡ cell_at cells target → libs ≡ liberty_points s cells target → stones ≡ string_at s cells target
      → sets.contains found q ≡ any_below (s * s) (λ l. sets.contains libs l && holds_next s cells cell l q)
      → friends ≡ sets.difference found stones
      → sets.contains friends q ≡ (ltb q (s * s) && is_near_friend s cells target q)
  unfolding is_near_friend
  friend_is cell q libs stones found friends on same e its came taken =
      let apart = not (is_in_string s cells target q) in
      let place = ltb q (s * s) in
      let alike = same_cell (cell_at cells q) (cell_at cells target) in
      let at = any_below (s * s) (λ l. is_liberty s cells target l && are_neighbours s l q) in
      left_of found stones friends q taken
      ∙ ap (λ b. sets.contains found q && not b) (has_stone s cells target q stones on its)
      ∙ ap (λ b. b && apart) (came ∙ next_of cell q libs e
      ∙ ap (λ k. (place && same_cell (cell_at cells q) k) && at) same ∙ sym (and_assoc place alike at))
      ∙ sym (and_assoc place (alike && at) apart)

  -- What stands around the near friends that have few liberties.
  module _ (p : ℕ) (friends : sets.FinSet nat_cmp)
      (is : (q : ℕ) → sets.contains friends q ≡ (ltb q (s * s) && is_near_friend s cells target q)) where
    -- their liberties are Join
    pub join_is : (most : ℕ) → any_below (s * s) (λ q. sets.contains friends q && is_few_liberty 0 most s cells q p)
        ≡ is_join most s cells target p
    unfolding is_join is_linked is_near_friend
    join_is most = most_liberties_of s cells p friends (is_near_friend s cells target) is most

    -- the enemies next to them may cut
    pub cutter_is : (most : ℕ) → any_below (s * s) (λ q. sets.contains friends q && is_few_enemy 0 most s cells q p)
        ≡ (ltb p (s * s) && is_cutter most s cells target p)
    unfolding is_cutter is_linked is_near_friend
    cutter_is most = most_enemies_of s cells p friends (is_near_friend s cells target) is most

  -- the last liberties of those that may cut are Cut
  pub cut_is : (p : ℕ) (cutters : sets.FinSet nat_cmp)
      → ((r : ℕ) → sets.contains cutters r ≡ (ltb r (s * s) && is_cutter 4 s cells target r))
      → any_below (s * s) (λ r. sets.contains cutters r && is_only_liberty s cells r p) ≡ is_cut s cells target p
  unfolding is_cut
  cut_is p cutters is = last_of s cells p cutters (is_cutter 4 s cells target) is

  -- the liberties of the enemies next to the target that have two or three are what Cover goes by
  pub covered_is : (l : ℕ) (foes : sets.FinSet nat_cmp) → foes ≡ enemy_points s cells target
      → any_below (s * s) (λ q. sets.contains foes q && is_few_liberty 2 3 s cells q l)
      ≡ is_covered_liberty s cells target l
  unfolding is_covered_liberty is_covered
  covered_is l foes e = few_liberties_of s cells l foes _ (foes_are foes e) 2 3

  -- the empty neighbours of these are Cover
  pub cover_is : (p : ℕ) (libs : sets.FinSet nat_cmp)
      → ((l : ℕ) → sets.contains libs l ≡ is_covered_liberty s cells target l)
      → any_below (s * s) (λ l. sets.contains libs l && holds_next s cells Empty l p) ≡ is_cover s cells target p
  unfolding is_cover holds_next
  cover_is p libs is =
      let place = ltb p (s * s) && same_cell (cell_at cells p) Empty in
      any_below_same (s * s) _ _ (λ l on.
      ap (λ b. b && holds_next s cells Empty l p) (is l)
      ∙ and_first (is_covered_liberty s cells target l) place (are_neighbours s l p)) ∙ any_once (s * s) place _

  -- the enemies next to cramped points of Beside are in the way
  pub way_is : (r : ℕ) (beside found : sets.FinSet nat_cmp) → ((l : ℕ) → sets.contains beside l ≡ is_beside 2 s cells target l)
      → sets.contains found r ≡ any_below (s * s) (λ l. sets.contains beside l
      && (is_cramped s cells (cell_at cells target) l && holds_next s cells (foe_of (cell_at cells target)) l r))
      → sets.contains found r ≡ (ltb r (s * s) && is_in_the_way s cells target r)
  unfolding is_in_the_way
  way_is r beside found is came =
      let own = cell_at cells target in
      let test = λ (l : ℕ). is_cramped s cells own l && holds_next s cells (foe_of own) l r in
      let whole = any_below (s * s) (λ l. is_beside 2 s cells target l && test l) in
      came ∙ any_below_same (s * s) _ _ (λ l on. ap (λ b. b && test l) (is l))
      ∙ same_tests _ _
      (λ h.
      let l = any_below_gives (s * s) _ h in
      and_from _ _ (next_on s cells (foe_of own) l.0 r (and_parts _ _ (and_parts _ _ l.2).1).1) h)
      (λ h. (and_parts (ltb r (s * s)) whole h).1)

  -- the liberties of those that have at most two are Approach
  pub approach_is : (p : ℕ) (found : sets.FinSet nat_cmp)
      → ((r : ℕ) → sets.contains found r ≡ (ltb r (s * s) && is_in_the_way s cells target r))
      → any_below (s * s) (λ r. sets.contains found r && is_few_liberty 0 2 s cells r p) ≡ is_approach s cells target p
  unfolding is_approach
  approach_is p found is = most_liberties_of s cells p found (is_in_the_way s cells target) is 2

-- What was joined of the sets of a target.
module _ (s : ℕ) (cells : List Cell) (target p : ℕ) where
  -- Beside and Rescue are the attacker's of every ply
  pub attacker_always : (beside allies rescues new : sets.FinSet nat_cmp) → new ≡ sets.union beside rescues
      → sets.contains beside p ≡ is_beside 2 s cells target p
      → ((r : ℕ) → sets.contains allies r ≡ (ltb r (s * s) && is_ally 2 s cells target r))
      → sets.contains rescues p ≡ any_below (s * s) (λ r. sets.contains allies r && is_only_liberty s cells r p)
      → sets.contains new p ≡ is_further_always true s cells target p
  unfolding is_further_always
  attacker_always beside allies rescues new e besides allied last =
      joined beside rescues new p e
      ∙ ap (λ y. y || sets.contains rescues p) besides
      ∙ ap (λ y. is_beside 2 s cells target p || y) (last ∙ rescue_is s cells target p allies allied)

  -- Net and Link are the attacker's of a wide ply
  pub attacker_wide : (net link new : sets.FinSet nat_cmp) → new ≡ sets.union net link
      → sets.contains net p ≡ is_net s cells target p → sets.contains link p ≡ is_join 2 s cells target p
      → sets.contains new p ≡ is_further_wide true s cells target p
  unfolding is_further_wide
  attacker_wide net link new e nets links =
      joined net link new p e ∙ ap (λ y. y || sets.contains link p) nets
      ∙ ap (λ y. is_net s cells target p || y) links

  -- Save and Cut are the defender's of every ply
  pub defender_always : (allies saves cutters cuts new : sets.FinSet nat_cmp) → new ≡ sets.union saves cuts
      → ((r : ℕ) → sets.contains allies r ≡ (ltb r (s * s) && is_ally 2 s cells target r))
      → sets.contains saves p ≡ any_below (s * s) (λ r. sets.contains allies r && is_only_liberty s cells r p)
      → ((r : ℕ) → sets.contains cutters r ≡ (ltb r (s * s) && is_cutter 4 s cells target r))
      → sets.contains cuts p ≡ any_below (s * s) (λ r. sets.contains cutters r && is_only_liberty s cells r p)
      → sets.contains new p ≡ is_further_always false s cells target p
  unfolding is_further_always
  defender_always allies saves cutters cuts new e allied first cutting last =
      joined saves cuts new p e
      ∙ ap (λ y. y || sets.contains cuts p) (first ∙ rescue_is s cells target p allies allied)
      ∙ ap (λ y. is_rescue s cells target p || y) (last ∙ cut_is s cells target p cutters cutting)

  -- Beside, Join, Cover and Approach are the defender's of a wide ply
  pub defender_wide : (beside join cover near mid more new : sets.FinSet nat_cmp) → mid ≡ sets.union beside join
      → more ≡ sets.union mid cover → new ≡ sets.union more near → sets.contains beside p ≡ is_beside 4 s cells target p
      → sets.contains join p ≡ is_join 4 s cells target p → sets.contains cover p ≡ is_cover s cells target p
      → sets.contains near p ≡ is_approach s cells target p
      → sets.contains new p ≡ is_further_wide false s cells target p
  unfolding is_further_wide
  defender_wide beside join cover near mid more new e f g besides joins covers nears =
      joined more near new p g ∙ ap (λ y. y || sets.contains near p)
      (joined mid cover more p f ∙ ap (λ y. y || sets.contains cover p) (joined beside join mid p e)
      ∙ ap (λ y. (y || sets.contains join p) || sets.contains cover p) besides
      ∙ ap (λ y. (is_beside 4 s cells target p || y) || sets.contains cover p) joins
      ∙ ap (λ y. (is_beside 4 s cells target p || is_join 4 s cells target p) || y) covers)
      ∙ ap (λ y. ((is_beside 4 s cells target p || is_join 4 s cells target p) || is_cover s cells target p) || y) nears

  -- those of every ply, joined with those of a wide ply where one is left, are the further candidates
  pub further_joined : (attacker : Bool) (always wide new : sets.FinSet nat_cmp) → new ≡ sets.union always wide
      → sets.contains always p ≡ is_further_always attacker s cells target p
      → sets.contains wide p ≡ is_further_wide attacker s cells target p
      → sets.contains new p ≡ is_further true attacker s cells target p
  unfolding is_further
  further_joined attacker always wide new e first later =
      joined always wide new p e ∙ ap (λ y. y || sets.contains wide p) first
      ∙ ap (λ y. is_further_always attacker s cells target p || y) later

  -- where none is left, those of every ply are
  pub further_alone : (attacker x : Bool) → x ≡ is_further_always attacker s cells target p
      → x ≡ is_further false attacker s cells target p
  unfolding is_further
  further_alone attacker x is =
      is ∙ same_tests _ _ (λ h. or_left _ _ h) (λ h. elim (or_cases _ _ h) [ inl i ↦ i | inr j ↦ absurd (false_is_not j) ])
    where
      false_is_not : false ≡ true → ⊥
      false_is_not e = both_ways false refl e
