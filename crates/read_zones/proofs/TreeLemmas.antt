-- The zones of a node, by those of its plays and replies.
use Rattle.std.proofs.Common.{◌≡◌, ◌∙◌, ℕ, suc, ◌+◌, ◌*◌, ◌<◌, ◌≤◌, ◌&&◌, Bool, true, false, Option, Some, None}
use Rattle.std.proofs.Common.{refl, sym, ap, subst, inl, inr, add-one, arith}
use Rattle.std.specs.Prelude.{MatchOption}
use Rattle.std.specs.FinSet as sets
use Rattle.std.specs.Ordering.{nat_cmp}
use Rattle.std.proofs.lemmas.Bool.{cases_Bool, cases_lt, both_ways, and_from}
use Rattle.go_rules.specs.Position.{BoardState, IsPosition}
use Rattle.go_rules.specs.Play.{pass}
use Rattle.go_rules.proofs.PlayLaws.{free_keeps}
use Rattle.read_rules.specs.ActiveArea.{AgreeOn}
use Rattle.read_rules.specs.Candidates.{is_candidate}
use Rattle.read_rules.specs.declared.node.Node.{Node}
use Rattle.read_rules.specs.GameTree.{child_of, some_child, each_child, next_node, allowance_of}
use Rattle.read_rules.specs.Turns.{mover_of}
use Rattle.read_rules.proofs.LibertyLemmas.{child_free, play_size}
use Rattle.read_rules.proofs.RuleLemmas.{child_gives, child_from}
use Rattle.sure_rules.specs.Nodes.{is_attackers, is_gone, has_too_many}
use Rattle.sure_rules.specs.SureTree.{surely_wins}
use Rattle.sure_rules.specs.Zones.{points_of, WhereverAgrees, IsZone}
use Rattle.sure_rules.proofs.SureLemmas.{sure-captured, sure_attacker_gives, sure_attacker_from, sure_defender_gives}
use Rattle.sure_rules.proofs.SureLemmas.{none_at_attackers}
use Rattle.sure_rules.proofs.ZoneLemmas.{zone_defender}
use Rattle.sure_proof.specs.Alike.{AreAlikeChildren, IsGuarded}

-- positions that agree on more points agree on fewer
pub agree_less : {Y Z : ℕ → Bool} {a b : BoardState} → ((q : ℕ) → Y q ≡ true → Z q ≡ true)
    → AgreeOn (points_of Z) a b → AgreeOn (points_of Y) a b
agree_less within same = grind arith

-- a position agrees with itself
pub agree_self : {Z : ℕ → Bool} (pos : BoardState) → AgreeOn (points_of Z) pos pos
agree_self pos = record { sizes = refl; cells = λ q inside. refl; bans = λ q c inside. refl }

-- A play from a position with a zone of its child, and a position where it looks the same.
module _ (n : ℕ) (node : Node) (p : ℕ) (here : BoardState) (sound : IsPosition here) (on : p < here.size * here.size)
    (after : ℕ → Bool) where
  -- the child there is a position
  child_sound : (next : Node) (new : BoardState) → child_of node here p ≡ Some (next, new) → IsPosition new
  child_sound next new is =
      let free = child_free node here p next new (child_gives node here p next new is) in
      free_keeps here (mover_of node.turn) p new sound on free.1

  -- so a play that captures captures there
  some_by : (next : Node) (new : BoardState) → IsZone n next new after → (o : Option (Node × BoardState))
      → child_of node here p ≡ o → AreAlikeChildren after (Some (next, new)) o → some_child (surely_wins n) o ≡ true
  some_by next new zone None is alike = absurd alike
  some_by next new zone (Some child) is alike =
      ap (λ (m : Node). surely_wins n m child.1) (sym alike.0)
      ∙ zone child.1 (child_sound child.0 child.1 is)
      (record { sizes = alike.1; cells = alike.2.cells; bans = alike.2.bans })

  -- and a reply that fails fails there
  each_by : (next : Node) (new : BoardState) → IsZone n next new after → (o : Option (Node × BoardState))
      → child_of node here p ≡ o → AreAlikeChildren after (Some (next, new)) o → each_child (surely_wins n) o ≡ true
  each_by next new zone None is alike = refl
  each_by next new zone (Some child) is alike = some_by next new zone (Some child) is alike

-- a play that captures shows it wherever it looks the same
pub some_shown : (n : ℕ) (node : Node) (p : ℕ) (pos next_pos : BoardState) (next : Node) (after Z : ℕ → Bool)
    → p < pos.size * pos.size → child_of node pos p ≡ Some (next, next_pos) → IsZone n next next_pos after
    → WhereverAgrees pos Z (λ here. AreAlikeChildren after (child_of node pos p) (child_of node here p))
    → WhereverAgrees pos Z (λ here. some_child (surely_wins n) (child_of node here p) ≡ true)
some_shown n node p pos new next after Z on is zone shown = λ here sound same.
    some_by n node p here sound (subst (λ s. p < s * s) same.sizes on) after next new zone (child_of node here p) refl
    (subst (λ o. AreAlikeChildren after o (child_of node here p)) is (shown here sound same))

-- a reply that fails shows it wherever it looks the same
pub each_shown : (n : ℕ) (node : Node) (p : ℕ) (pos next_pos : BoardState) (next : Node) (after Z : ℕ → Bool)
    → p < pos.size * pos.size → child_of node pos p ≡ Some (next, next_pos) → IsZone n next next_pos after
    → WhereverAgrees pos Z (λ here. AreAlikeChildren after (child_of node pos p) (child_of node here p))
    → WhereverAgrees pos Z (λ here. each_child (surely_wins n) (child_of node here p) ≡ true)
each_shown n node p pos new next after Z on is zone shown = λ here sound same.
    each_by n node p here sound (subst (λ s. p < s * s) same.sizes on) after next new zone (child_of node here p) refl
    (subst (λ o. AreAlikeChildren after o (child_of node here p)) is (shown here sound same))

-- the child that passes
some_there : (n : ℕ) (o : Option (Node × BoardState)) → some_child (surely_wins n) o ≡ true
    → (next : Node) × (new : BoardState) × (o ≡ Some (next, new)) × (surely_wins n next new ≡ true)
some_there n None h = absurd (let wrong = h in cc)
some_there n (Some child) h = (child.0, child.1, refl, h)

-- the attacker's turn, by a candidate that captures on every position that agrees
pub attacker_has : (n : ℕ) (node : Node) (pos : BoardState) (Y W Z : ℕ → Bool) (p : ℕ) → is_attackers node ≡ true
    → WhereverAgrees pos Y (λ here. (has_too_many node here ≡ false) × (is_candidate node.turn here p ≡ true))
    → WhereverAgrees pos W (λ here. some_child (surely_wins n) (child_of node here p) ≡ true)
    → ((q : ℕ) → Y q ≡ true → Z q ≡ true) → ((q : ℕ) → W q ≡ true → Z q ≡ true) → IsZone (n + 1) node pos Z
attacker_has n node pos Y W Z p turn shown captures y_in w_in = λ here sound same.
    ap (λ m. surely_wins m node here) (add-one n) ∙ elim (cases_Bool (is_gone node here)) [
      | inl gone ↦ sure-captured (suc n) node here gone (none_at_attackers node here turn)
      | inr stands ↦ grind (arith, agree_less, some_there, sure_attacker_from, child_gives)
    ]

-- no candidate captures, if none of the first ones does and none of the others
pub attacker_none : (n : ℕ) (node : Node) (pos : BoardState) (first others : ℕ → Bool) → is_attackers node ≡ true
    → is_gone node pos ≡ false
    → ((q : ℕ) → is_candidate node.turn pos q ≡ true → first q ≡ false → others q ≡ true)
    → ((q : ℕ) → (first q && some_child (surely_wins n) (child_of node pos q)) ≡ false)
    → ((q : ℕ) → (others q && some_child (surely_wins n) (child_of node pos q)) ≡ false)
    → surely_wins (n + 1) node pos ≡ false
attacker_none n node pos first others turn stands are none none_other =
    ap (λ m. surely_wins m node pos) (add-one n) ∙ elim (cases_Bool (surely_wins (suc n) node pos)) [
      | inr f ↦ f
      | inl sure ↦
          let w = (sure_attacker_gives n node pos stands turn sure).1 in
          let captures : some_child (surely_wins n) (child_of node pos w.point) ≡ true =
          ap (some_child (surely_wins n)) (child_from node pos w.point w.next w.new w.child) ∙ w.wins in
          elim (cases_Bool (first w.point)) [
            | inl is ↦ absurd (both_ways (first w.point && some_child (surely_wins n) (child_of node pos w.point))
                (none w.point) (and_from _ _ is captures))
            | inr isnt ↦ absurd (both_ways (others w.point && some_child (surely_wins n) (child_of node pos w.point))
                (none_other w.point) (and_from _ _ (are w.point w.candidate isnt) captures))
          ]
    ]

-- an answer of which none tells this tells by none what follows from it
pub none_gives : (A B : Type 0) (P : sets.FinSet nat_cmp → Type 0) (o : Option (sets.FinSet nat_cmp)) → (A → B)
    → MatchOption o A P → MatchOption o B P
none_gives A B P None gives a = gives a
none_gives A B P (Some zone) gives p = p

-- the target has too many liberties
pub attacker_barred : (n : ℕ) (node : Node) (pos : BoardState) → is_attackers node ≡ true → is_gone node pos ≡ false
    → has_too_many node pos ≡ true → surely_wins (n + 1) node pos ≡ false
attacker_barred n node pos turn stands many =
    grind (
      arith,
      add-one n,
      cases_Bool (surely_wins (suc n) node pos),
      both_ways (has_too_many node pos),
      sure_attacker_gives n node pos stands turn,
    )

-- the pass holds
pub defender_passes : (n : ℕ) (node : Node) (pos : BoardState) → is_attackers node ≡ false → is_gone node pos ≡ false
    → surely_wins n (next_node node (allowance_of node)) (pass pos) ≡ false → surely_wins (n + 1) node pos ≡ false
defender_passes n node pos turn stands holds = grind (arith, add-one, cases_Bool, both_ways, sure_defender_gives)

-- a reply holds
pub defender_replies : (n : ℕ) (node : Node) (pos : BoardState) (p : ℕ) → is_attackers node ≡ false
    → is_gone node pos ≡ false → p < pos.size * pos.size → each_child (surely_wins n) (child_of node pos p) ≡ false
    → surely_wins (n + 1) node pos ≡ false
defender_replies n node pos p turn stands on holds =
    grind (
      arith,
      add-one,
      cases_Bool,
      both_ways,
      sure_defender_gives,
      child_gives,
      add-one n,
      cases_Bool (surely_wins (suc n) node pos),
      both_ways (each_child (surely_wins n) (child_of node pos p)) holds,
      sure_defender_gives n node pos stands turn,
      child_gives node pos p,
    )

-- every reply that is read fails
pub defender_has : (n : ℕ) (node : Node) (pos : BoardState) (passed replies Y Z : ℕ → Bool)
    → is_attackers node ≡ false → IsPosition pos → IsZone n (next_node node (allowance_of node)) (pass pos) passed
    → ((q : ℕ) → passed q ≡ true → q < pos.size * pos.size)
    → WhereverAgrees pos Y (λ here. IsGuarded node passed here replies)
    → ((q : ℕ) → passed q ≡ true → Z q ≡ true) → ((q : ℕ) → Y q ≡ true → Z q ≡ true)
    → ((p : ℕ) → replies p ≡ true
    → WhereverAgrees pos Z (λ here. each_child (surely_wins n) (child_of node here p) ≡ true))
    → IsZone (n + 1) node pos Z
defender_has n node pos passed replies Y Z turn sound zone on guarded p_in y_in fails = λ here here_sound same.
    ap (λ m. surely_wins m node here) (add-one n) ∙ zone_defender n node pos Z turn (record {
      passed = passed;
      is_read = replies;
      zone = zone;
      within = p_in;
      on_board = on;
      empty_points = (guarded pos sound (agree_self pos)).empty_points;
      last_liberties = λ there there_sound agrees.
          (guarded there there_sound (agree_less y_in agrees)).last_liberties;
      fails = λ p read there there_sound agrees next made child.
          sym (ap (each_child (surely_wins n)) (child_from node there p next made child))
          ∙ fails p read there there_sound agrees;
    }) here here_sound same

-- a child's board has the same size
pub child_size : (node : Node) (pos : BoardState) (p : ℕ) (next : Node) (new : BoardState)
    → child_of node pos p ≡ Some (next, new) → new.size ≡ pos.size
child_size node pos p next new is =
    play_size pos (mover_of node.turn) p new (child_free node pos p next new (child_gives node pos p next new is)).1

-- no number passes both tests if none below a bound does and none from there on passes the first
pub none_left : (points test : ℕ → Bool) (from : ℕ) → ((q : ℕ) → q < from → (points q && test q) ≡ false)
    → ((q : ℕ) → from ≤ q → points q ≡ false) → (q : ℕ) → (points q && test q) ≡ false
none_left points test from low high q = grind (arith, cases_lt)
