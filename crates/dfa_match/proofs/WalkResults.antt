-- Which hits have been given out, as walks begin, go on and end.
use Rattle.std.proofs.Common.{◌≡◌, ℕ, ◌+◌, ◌*◌, ◌<◌, ◌≤◌, ◌⊎◌, inl, inr, Bool, false, List}
use Rattle.std.proofs.Common.{[], map, filter, Contains, ◌∙◌, subst, arith}
use Rattle.std.specs.List.{range_with_len}
use Rattle.std.proofs.lemmas.Bool.{cases_lt, cases_Bool}
use Rattle.go_rules.specs.declared.Colour.{Colour}
use Rattle.go_rules.specs.Position.{BoardState}
use Rattle.go_rules.specs.Transform.{transformations}
use Rattle.spiral.specs.Spiral.{offset_count}
use Rattle.match_rules.proofs.Lists.{Contains-map_from, Contains-nil, Contains-filter}
use Rattle.match_rules.proofs.Lists.{Contains-filter_from, Contains-below_from}
use Rattle.dfa_core.specs.Automata.{Row, accepted}
use Rattle.dfa_match.specs.declared.Hit.{Hit}
use Rattle.dfa_match.specs.declared.walks.Walk.{Walk}
use Rattle.dfa_match.specs.SeenLetters.{word_at}
use Rattle.dfa_match.specs.Hits.{IsHit, AreHits, AreHitsBefore, nothing_read}
use Rattle.dfa_match.specs.Walks.{first_walks_of, AreWalks}
use Rattle.dfa_match.proofs.SeenWalks.{first_letters}
use Rattle.dfa_match.proofs.ReadBelow.{read_below, before_giving, read_cases, read_there, read_none, read_changed}
use Rattle.dfa_match.proofs.StandingWalks.{first_walk}
use Rattle.dfa_match.proofs.Cursors.{anchor_of_corner}
use Rattle.dfa_match.specs.Walks.{anchor_of}
use Rattle.go_rules.specs.Board.{largest_size}

module _ (automaton : List Row) (pos : BoardState) (friend : Colour) where
  -- behind the last transformation the hits are all
  pub hits_all : (n : ℕ) (hits : List Hit) → transformations ≤ n
      → AreHitsBefore automaton pos friend n nothing_read hits → AreHits automaton pos friend hits
  hits_all n hits all before = record {
    sound = λ hit there. (before.sound hit there).is;
    complete = λ hit is. before.complete hit (record { is = is; before = inl (omega (arith, is.transform)) });
    once = before.once;
  }

  module _ (t : ℕ) where
    -- what a hit under this transformation accepts
    pub accepts_now : (hit : Hit) (is : IsHit automaton pos friend hit) → hit.transform ≡ t
        → Contains (accepted automaton (word_at pos friend t hit.anchor is.letters)) hit.pattern
    accepts_now hit is transform = grind arith

    -- words of more letters have been read if nothing is accepted at the end of these
    hits_past : (below more : ℕ → ℕ) (hits : List Hit) → AreHitsBefore automaton pos friend t below hits
        → ((m n : ℕ) → m < pos.size * pos.size → n ≤ offset_count → n < below m → n < more m)
        → ((m n : ℕ) → m < pos.size * pos.size → n ≤ offset_count → below m ≤ n → n < more m
        → accepted automaton (word_at pos friend t m n) ≡ [])
        → AreHitsBefore automaton pos friend t more hits
    hits_past below more hits before still silent = record {
      sound = λ hit there. let was = before.sound hit there in
          record {
            is = was.is;
            before = elim was.before [
              | inl earlier ↦ inl earlier
              | inr now ↦ inr (now.0, still hit.anchor was.is.letters was.is.anchor was.is.spiral now.1)
            ];
          };
      complete = λ hit is. before.complete hit (elim is.before [
        | inl earlier ↦ record { is = is.is; before = inl earlier }
        | inr now ↦ elim (cases_lt is.is.letters (below hit.anchor)) [
          | inl less ↦ record { is = is.is; before = inr (now.0, less) }
          | inr past ↦ absurd (Contains-nil hit.pattern (subst (λ ns. Contains ns hit.pattern)
              (silent hit.anchor is.is.letters is.is.anchor is.is.spiral past now.1) (accepts_now hit is.is now.0)))
        ]
      ]);
      once = before.once;
    }

    -- from each point a walk begins
    pub hits_begun : (hits : List Hit) → pos.size ≤ largest_size
        → AreHitsBefore automaton pos friend t nothing_read hits
        → AreHitsBefore automaton pos friend t
        (read_below pos.size before_giving (first_walks_of automaton pos.size)) hits
    hits_begun hits small before =
        hits_past nothing_read (read_below pos.size before_giving (first_walks_of automaton pos.size)) hits
        before (λ m n on few less. absurd (omega (arith, less)))
        (λ m n on few low less. elim (read_cases pos.size before_giving (first_walks_of automaton pos.size) m) [
          | inl some ↦ absurd (omega (arith, less, some.3, first_letters automaton pos.size some.0 some.1))
          | inr none ↦ absurd (none.0 (first_walk automaton pos.size m)
              (Contains-map_from (first_walk automaton pos.size) (range_with_len 0 (pos.size * pos.size)) m
              (Contains-below_from (pos.size * pos.size) m on)) (anchor_of_corner pos.size m small on))
        ])

    -- where each walk that is left has read the whole spiral no hit follows
    pub hits_ended : (f : Walk → ℕ) (walks : List Walk) (hits : List Hit)
        → ((w : Walk) → Contains walks w → offset_count < f w)
        → AreHitsBefore automaton pos friend t (read_below pos.size f walks) hits
        → AreHitsBefore automaton pos friend (t + 1) nothing_read hits
    hits_ended f walks hits past before = record {
      sound = λ hit there. let was = before.sound hit there in
          record {
            is = was.is;
            before = inl (elim was.before [ inl earlier ↦ omega (arith, earlier) | inr now ↦ omega (arith, now.0) ]);
          };
      complete = λ hit is. before.complete hit (elim is.before [
        | inl earlier ↦ elim (cases_lt hit.transform t) [
          | inl less ↦ record { is = is.is; before = inl less }
          | inr here ↦ record {
            is = is.is;
            before = grind (arith, read_cases pos.size f walks hit.anchor);
          }
        ]
        | inr never ↦ absurd (omega (arith, never.1))
      ]);
      once = before.once;
    }

    module _ (walks : List Walk) (are : AreWalks automaton pos friend t walks) where
      -- walks that are changed go on from where they were, if nothing is accepted between
      pub hits_changed : (f : Walk → Walk) (g h : Walk → ℕ) (hits : List Hit)
          → ((w : Walk) → (f w).corner ≡ w.corner)
          → AreHitsBefore automaton pos friend t (read_below pos.size g walks) hits
          → ((w : Walk) → Contains walks w → g w ≤ h (f w))
          → ((w : Walk) (n : ℕ) → Contains walks w → n ≤ offset_count → g w ≤ n → n < h (f w)
          → accepted automaton (word_at pos friend t (anchor_of pos.size w) n) ≡ [])
          → AreHitsBefore automaton pos friend t (read_below pos.size h (map f walks)) hits
      hits_changed f g h hits keeps before more silent =
          hits_past (read_below pos.size g walks) (read_below pos.size h (map f walks)) hits before
          (λ m n on few less. elim (both m) [
            | inl some ↦ omega (arith, less, some.3, some.4, more some.0 some.1)
            | inr none ↦ omega (arith, few, none.1)
          ])
          (λ m n on few low less. elim (both m) [
            | inl some ↦ subst (λ k. accepted automaton (word_at pos friend t k n) ≡ []) some.2
                (silent some.0 n some.1 few (omega (arith, low, some.3)) (omega (arith, less, some.4)))
            | inr none ↦ absurd (omega (arith, few, low, none.0))
          ])
        where
          both : (m : ℕ) → ((w : Walk) × Contains walks w × (anchor_of pos.size w ≡ m)
              × (read_below pos.size g walks m ≡ g w)
              × (read_below pos.size h (map f walks) m ≡ h (f w)))
              ⊎ ((read_below pos.size g walks m ≡ offset_count + 1)
              × (read_below pos.size h (map f walks) m ≡ offset_count + 1))
          both m = elim (read_cases pos.size g walks m) [
            | inl some ↦ inl (
              some.0,
              some.1,
              some.2,
              some.3,
              read_changed pos.size f h walks m keeps
                  ∙ subst (λ k. read_below pos.size (λ w. h (f w)) walks k ≡ h (f some.0)) some.2
                  (read_there pos.size (λ w. h (f w)) walks some.0 are.rising some.1),
            )
            | inr none ↦ inr (
              none.1,
              read_changed pos.size f h walks m keeps ∙ read_none pos.size (λ w. h (f w)) walks m none.0,
            )
          ]

      -- walks that fail a test are dropped, if nothing is accepted on their ways
      pub hits_kept : (test : Walk → Bool) (f : Walk → ℕ) (hits : List Hit)
          → AreHitsBefore automaton pos friend t (read_below pos.size f walks) hits
          → ((w : Walk) (n : ℕ) → Contains walks w → test w ≡ false → n ≤ offset_count → f w ≤ n
          → accepted automaton (word_at pos friend t (anchor_of pos.size w) n) ≡ [])
          → AreHitsBefore automaton pos friend t (read_below pos.size f (filter test walks)) hits
      hits_kept test f hits before silent =
          hits_past (read_below pos.size f walks) (read_below pos.size f (filter test walks)) hits before
          (λ m n on few less. elim (read_cases pos.size f (filter test walks) m) [
            | inl some ↦ omega (arith, less, some.3, same m some.0 some.1 some.2)
            | inr none ↦ omega (arith, few, none.1)
          ])
          (λ m n on few low less. elim (read_cases pos.size f (filter test walks) m) [
            | inl some ↦ absurd (omega (arith, low, less, some.3, same m some.0 some.1 some.2))
            | inr none ↦ elim (read_cases pos.size f walks m) [
              | inl was ↦ elim (cases_Bool (test was.0)) [
                | inl passes ↦ absurd (none.0 was.0 (Contains-filter_from test walks was.0 was.1 passes) was.2)
                | inr fails ↦ subst (λ k. accepted automaton (word_at pos friend t k n) ≡ []) was.2
                    (silent was.0 n was.1 fails few (omega (arith, low, was.3)))
              ]
              | inr never ↦ absurd (omega (arith, few, low, never.1))
            ]
          ])
        where
          same : (m : ℕ) (w : Walk) → Contains (filter test walks) w → anchor_of pos.size w ≡ m
              → read_below pos.size f walks m ≡ f w
          same m w there at = subst (λ k. read_below pos.size f walks k ≡ f w) at
              (read_there pos.size f walks w are.rising (Contains-filter test walks w there).0)
