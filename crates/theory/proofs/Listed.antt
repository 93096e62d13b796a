-- The names of the listing are right, and the only ones that are.
use Rattle.std.proofs.Common.{◌≡◌, ℕ, suc, ◌-◌, ◌<◌, ◌≤◌, true, ◌⊎◌, List, ◌∷◌, length, drop, filter, inl, inr, arith}
use Rattle.std.specs.List.{AllByRecursion}
use Rattle.std.proofs.ByRecursion.{All-drop, All-weaker, kept_by_passes}
use Rattle.std.proofs.lemmas.List.{length-drop}
use Rattle.std.proofs.lemmas.Bool.{both_ways, cases_lt}
use Rattle.theory.specs.Graphs.{Graph, Lawful}
use Rattle.theory.specs.Listing.{Choice, every, innermost, is_chosen, last, LevelLists, names, ranked, Wanted}
use Rattle.theory.specs.ListingLaws.{LevelListingIsRight}
use Rattle.theory.specs.Orders.{Order, Ranking}
use Rattle.theory.specs.Sets.{◌among◌, Pairwise, Relation}
use Rattle.theory.proofs.Lists.{all_among, among_drop, among_kept, pairwise_drop, pairwise_kept}
use Rattle.theory.proofs.Named.{chosen_tells}
use Rattle.theory.proofs.Ranked.{ranked_holds, ranked_rising, rising_fits, rising_same}

module _ (g : Graph) (o : Lawful g) (le : Relation) (t : Order le) (wk : Relation) (rk : Ranking le wk) where
  module _ (k r : ℕ) (ch : Choice) where
    -- what one names has another has
    pinned_part : (ws us : List ℕ) → LevelLists g le wk k r ch ws → LevelLists g le wk k r ch us → (v : ℕ) → v among ws → v among us
    pinned_part ws us a b v m = go (b.strongest v (all_among _ ws v a.each m))
      where
        go : (v among us) ⊎ ((length us ≡ r) × AllByRecursion (λ u. wk v u ≡ true) us) → v among us
        go (inl n) = n
        go (inr (e, al)) =
            let fits : suc (length us) ≤ length ws = rising_fits wk rk (v ∷ us) ws (al, b.rising) a.rising (λ u h. elim h [ inl s ↦ rw s m | inr n ↦ has u n ]) in
            absurd (omega (arith, a.few))
          where
            has : (u : ℕ) → u among us → u among ws
            has u n = elim (a.strongest u (all_among _ us u b.each n)) [
              | inl h ↦ h
              | inr h ↦ absurd (both_ways (wk v u) (rk.one_way u v (all_among _ ws v h.1 m)) (all_among _ us u al n))
            ]

    pub pinned : (ws us : List ℕ) → LevelLists g le wk k r ch ws → LevelLists g le wk k r ch us → ws ≡ us
    pinned ws us a b = rising_same wk rk ws us a.rising b.rising (pinned_part ws us a b) (pinned_part us ws b a)

    pub lists : LevelLists g le wk k r ch (names g le wk k r ch)
    unfolding names last
    lists =
        record {
          each = All-weaker _ _ (λ w h. (chosen_tells g o le t wk rk k ch w).0 h) _ (All-drop _ (length xs - r) xs (kept_by_passes (is_chosen g le wk k ch) (ranked wk g.size)));
          rising = pairwise_drop _ (length xs - r) xs rise;
          few = omega (arith, length-drop (length xs - r) xs);
          strongest = λ w want. strong w want (cases_lt r (length xs));
        }
      where
        xs : List ℕ
        xs = filter (is_chosen g le wk k ch) (ranked wk g.size)

        rise : Pairwise (λ u v. wk u v ≡ true) xs
        rise = pairwise_kept _ (is_chosen g le wk k ch) (ranked wk g.size) (ranked_rising wk rk g.size)

        person : (c : Choice) (w : ℕ) → Wanted g le wk k c w → w < g.size
        person every w (S, c, n) = c.group.inside w n.0
        person innermost w (S, c, n) = c.0.group.inside w n.0

        strong : (w : ℕ) → Wanted g le wk k ch w → (r < length xs) ⊎ (length xs ≤ r) → (w among drop (length xs - r) xs) ⊎ ((length (drop (length xs - r) xs) ≡ r) × AllByRecursion (λ v. wk w v ≡ true) (drop (length xs - r) xs))
        strong w want c = elim c [
          | inl l ↦ elim (among_drop _ (length xs - r) xs w rise has) [ inl m ↦ inl m | inr a ↦ inr (omega (arith, length-drop (length xs - r) xs), a) ]
          | inr l ↦ let z : length xs - r ≡ 0 = omega arith in inl (rw z has)
        ]
          where
            has : w among xs
            has = among_kept (is_chosen g le wk k ch) (ranked wk g.size) w (ranked_holds wk rk g.size w (person ch w want)) ((chosen_tells g o le t wk rk k ch w).1 want)

pub level_listing_is_right : LevelListingIsRight
level_listing_is_right g o le t wk rk k r ch = (lists g o le t wk rk k r ch, λ ws a. pinned g o le t wk rk k r ch ws (names g le wk k r ch) a (lists g o le t wk rk k r ch))
