-- Peeling meets the circles, each once, rising.
use Rattle.std.proofs.Common.{◌≡◌, ℕ, zero, suc, ◌≤◌, Bool, true, false, not, ◌≢◌, ◌⊎◌, List, [], ◌∷◌, sym, refl, ap, ◌∙◌, inl, inr, arith}
use mathlib.Core.Option.{none, Option, some}
use Rattle.std.specs.List.{AllByRecursion}
use Rattle.std.proofs.ByRecursion.{All-weaker}
use Rattle.std.proofs.lemmas.Bool.{both_ways, cases_eq, not_from_false, not-true}
use Rattle.theory.specs.Circles.{Circle}
use Rattle.theory.specs.Cores.{above, circle_at, component, core, everyone}
use Rattle.theory.specs.Graphs.{Graph, Lawful}
use Rattle.theory.specs.Orders.{Below, Order, Strict, Weakest, weakest}
use Rattle.theory.specs.Peeling.{peel}
use Rattle.theory.specs.PeelingLaws.{PeelingMeetsCirclesOnce}
use Rattle.theory.specs.Sets.{◌among◌, count, Pairwise, Relation, Set, without, ◌∈◌, ◌⊆◌}
use Rattle.theory.proofs.Circles.{at_weakest, circle_known, circle_made}
use Rattle.theory.proofs.Cores.{core_greatest, core_part, core_same, core_tight, core_within, everyone_in}
use Rattle.theory.proofs.Counting.{count_le, count_mono, without_less}
use Rattle.theory.proofs.Orders.{le_other, le_self, weakest_is, WeakestIs}
use Rattle.theory.proofs.Sets.{without_from, without_in}

-- those stronger than w
unfoldable pub beyond : Relation → ℕ → Set
beyond le w v = not (le v w)

unfoldable pub Upward : Relation → Set → Type 0
Upward le B = (u v : ℕ) → u ∈ B → le u v ≡ true → v ∈ B

module _ (le : Relation) (t : Order le) where
  pub beyond_in : (w v : ℕ) → le v w ≡ false → v ∈ beyond le w
  unfolding beyond
  beyond_in w v h = not_from_false (le v w) h

  pub beyond_from : (w v : ℕ) → v ∈ beyond le w → Below le w v
  unfolding beyond
  beyond_from w v m = let f : le v w ≡ false = not-true (le v w) m in (le_other le t v w f, f)

  pub beyond_upward : (w : ℕ) → Upward le (beyond le w)
  unfolding Upward
  beyond_upward w u v m h = beyond_in w v (go (le v w) refl)
    where
      go : (b : Bool) → le v w ≡ b → le v w ≡ false
      go true e = absurd (both_ways (le u w) (beyond_from w u m).1 (t.chain u v w h e))
      go false e = e

-- what peeling a set that is the core of an upward set gives
record Peeled (g : Graph) (le : Relation) (k : ℕ) (B : Set) (es : List (ℕ × Set)) : Type 0 where
  each : AllByRecursion (λ e. (e.0 ∈ B) × Circle g le k e.1 × Weakest le e.1 e.0) es
  rising : Pairwise (λ e f. Below le e.0 f.0) es
  complete : (S : Set) (w : ℕ) → Circle g le k S → Weakest le S w → w ∈ B → (w, S) among es

module _ (g : Graph) (o : Lawful g) (le : Relation) (t : Order le) (str : Strict le) (k : ℕ) where
  -- a circle's weakest, if in B, is in the core of B
  in_core : (B : Set) → Upward le B → (S : Set) (w : ℕ) → Circle g le k S → Weakest le S w → w ∈ B → w ∈ core g k B
  unfolding Upward
  in_core B up S w c we b = core_greatest g k B S c.inside (λ v m. up w v b (we.1 v m)) c.tight w we.0

  pub stronger : (w x : ℕ) → le w x ≡ true → x ≢ w → x ∈ beyond le w
  stronger w x h d = beyond_in le t w x (go (le x w) refl)
    where
      go : (b : Bool) → le x w ≡ b → le x w ≡ false
      go true e = absurd (d (str x w e h))
      go false e = e

  peeled_none : (B : Set) → Upward le B → ((v : ℕ) → v ∈ core g k B → ⊥) → Peeled g le k B []
  peeled_none B up no_one = record { each = tt; rising = tt; complete = λ S w c we b. no_one w (in_core B up S w c we b) }

  peeled_one : (B : Set) → Upward le B → (w : ℕ) → Weakest le (core g k B) w → (es : List (ℕ × Set)) → Peeled g le k (beyond le w) es → Peeled g le k B ((w, component g (core g k B) w) ∷ es)
  unfolding Upward circle_at
  peeled_one B up w we es p =
      record {
        each = ((b, rw same (circle_made g o le t str k w c), rw same (at_weakest g o le t k w c)), All-weaker _ _ (λ e h. (down e.0 h.0, h.1, h.2)) es p.each);
        rising = (All-weaker _ _ (λ e h. beyond_from le t w e.0 h.0) es p.each, p.rising);
        complete = λ S x ci wx m. go S x ci wx m (cases_eq x w);
      }
    where
      b : w ∈ B
      b = core_part g k B w we.0

      same : core g k B ≡ core g k (above le w)
      same = core_same g k B (above le w) we.1 (λ v m. up w v b (core_part g k (above le w) v m))

      c : w ∈ core g k (above le w)
      c = rw same at we.0

      down : (v : ℕ) → v ∈ beyond le w → v ∈ B
      down v m = up w v b (beyond_from le t w v m).0

      go : (S : Set) (x : ℕ) → Circle g le k S → Weakest le S x → x ∈ B → (x ≡ w) ⊎ (x ≡ w → ⊥) → (x, S) among ((w, component g (core g k B) w) ∷ es)
      go S x ci wx m (inl e) =
          let q : S ≡ component g (core g k B) w = (circle_known g o le t str k S x ci wx).1 ∙ ap (circle_at g le k) e ∙ sym (ap (λ R. component g R w) same) in
          inl (λ i. (e i, q i))
      go S x ci wx m (inr d) = inr (p.complete S x ci wx (stronger w x (we.1 x (in_core B up S x ci wx m)) d))

  pub rest_same : (B : Set) → Upward le B → (w : ℕ) → Weakest le (core g k B) w → core g k (without (core g k B) w) ≡ core g k (beyond le w)
  unfolding Upward
  rest_same B up w we = core_same g k (without (core g k B) w) (beyond le w) fewer more
    where
      fewer : core g k (without (core g k B) w) ⊆ beyond le w
      fewer v m =
          let (a, d) = without_from (core g k B) w v (core_part g k (without (core g k B) w) v m) in
          stronger w v (we.1 v a) d

      more : core g k (beyond le w) ⊆ without (core g k B) w
      more v m =
          let up' : beyond le w ⊆ B = λ u n. up w u (core_part g k B w we.0) (beyond_from le t w u n).0 in
          let not_w : v ≢ w = λ e. both_ways (le v w) (beyond_from le t w v (core_part g k (beyond le w) v m)).1 (rw e (le_self le t w)) in
          without_in (core g k B) w v (core_greatest g k B (core g k (beyond le w)) (core_within g k (beyond le w)) (λ u n. up' u (core_part g k (beyond le w) u n)) (core_tight g k (beyond le w)) v m) not_w

  peeled : (m : ℕ) (B : Set) → Upward le B → count (core g k B) g.size ≤ m → Peeled g le k B (peel g le k m (core g k B))
  unfolding peel
  peeled zero B up l = peeled_none B up (λ v m. omega (arith, without_less (core g k B) v g.size (core_within g k B v m) m))
  peeled (suc m) B up l = go (weakest le R g.size) (weakest_is le t R g.size) (peeled m)
    where
      R : Set
      R = core g k B

      go : (x : Option ℕ) → WeakestIs le R g.size x → ((B' : Set) → Upward le B' → count (core g k B') g.size ≤ m → Peeled g le k B' (peel g le k m (core g k B'))) → Peeled g le k B (elim x [ none ↦ [] | some w ↦ (w, component g R w) ∷ peel g le k m (core g k (without R w)) ])
      go none f ih = peeled_none B up (λ v n. f v (core_within g k B v n) n)
      go (some w) (i, n, f) ih =
          let we : Weakest le R w = (n, λ v s. f v (core_within g k B v s) s) in
          let e : core g k (without R w) ≡ core g k (beyond le w) = rest_same B up w we in
          let less : count (core g k (without R w)) g.size ≤ m = omega (arith, without_less R w g.size i n, count_mono (core g k (without R w)) (without R w) g.size (λ v _. core_part g k (without R w) v)) in
          peeled_one B up w we (peel g le k m (core g k (without R w))) (rw e (ih (beyond le w) (beyond_upward le t w) (rw e at less)))

pub peeling_meets_circles_once : PeelingMeetsCirclesOnce
unfolding Upward
peeling_meets_circles_once g o le t str k = rw e (All-weaker _ _ (λ e h. (h.1, h.2)) _ p.each, p.rising, λ S w c we. p.complete S w c we refl)
  where
    all : Set
    all _ = true

    e : core g k (everyone g) ≡ core g k all
    e = core_same g k (everyone g) all (λ _ _. refl) (λ v m. everyone_in g v (core_within g k all v m))

    p : Peeled g le k all (peel g le k g.size (core g k all))
    p = peeled g o le t str k g.size all (λ _ _ _ _. refl) (count_le (core g k all) g.size)
