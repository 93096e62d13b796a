-- A round of peeling stays in the component of the person that is taken out.
use Rattle.std.proofs.Common.{◌≡◌, ℕ, true, false, ◌&&◌, ◌||◌, ◌⊎◌, inl, inr, arith}
use Rattle.std.proofs.lemmas.Bool.{and_from, and_parts, both_ways, cases_Bool, or_cases, or_left, or_right}
use Rattle.theory.specs.Cores.{component, core}
use Rattle.theory.specs.Graphs.{Graph, Inside, Lawful, Tight}
use Rattle.theory.specs.Peeling.{dropped}
use Rattle.theory.specs.PeelingLaws.{RoundStaysInComponent}
use Rattle.theory.specs.Sets.{both_of, minus, Set, without, ◌∈◌, ◌⊆◌}
use Rattle.theory.proofs.Components.{component_closed, component_holds, component_part}
use Rattle.theory.proofs.Cores.{core_greatest, core_mono, core_part, core_tight, core_within, degree_mono}
use Rattle.theory.proofs.Sets.{false_since, minus_from, minus_in, same_set, without_from, without_in}

module _ (g : Graph) (o : Lawful g) (k : ℕ) (R : Set) (w : ℕ) (ins : Inside g R) (ti : Tight g k R) (x : w ∈ R) where
  C : Set
  C = component g R w

  part : C ⊆ R
  unfolding C
  part = component_part g o R w (ins w x) x

  shut : (u v : ℕ) → u ∈ C → g.linked u v ≡ true → v ∈ R → v ∈ C
  unfolding C
  shut = component_closed g o R w (ins w x) x

  -- the other components stay
  others : minus R C ⊆ core g k (without R w)
  unfolding C
  others =
      core_greatest g k (without R w) (minus R C) (λ u m. ins u (minus_from R C u m).0) (λ u m. let (a, f) = minus_from R C u m in without_in R w u a (λ e. both_ways (C u) f (rw e (component_holds g o R w (ins w x) x))))
      (λ u m. let (a, f) = minus_from R C u m in omega (arith, ti u a, degree_mono g R (minus R C) u (λ v l r. minus_in R C v r (false_since (C v) (λ c. both_ways (C u) f (shut v u c (o.symmetric u v l) a))))))

  inner : core g k (without C w) ⊆ core g k (without R w)
  inner = core_mono g k (without C w) (without R w) (λ v m. let (a, d) = without_from C w v m in without_in R w v (part v a) d)

  -- what is left of the component is the core of the rest of it
  rest : (v : ℕ) → v ∈ core g k (without R w) → v ∈ C → v ∈ core g k (without C w)
  rest v m c = core_greatest g k (without C w) Y (λ u n. core_within g k (without R w) u (and_parts _ _ n).0) (λ u n. let (a, b) = and_parts _ _ n in without_in C w u b (without_from R w u (core_part g k (without R w) u a)).1) ty v (and_from _ _ m c)
    where
      Y : Set
      Y u = core g k (without R w) u && C u

      ty : Tight g k Y
      ty u n =
          let (a, b) = and_parts (core g k (without R w) u) (C u) n in
          omega (arith, core_tight g k (without R w) u a, degree_mono g (core g k (without R w)) Y u (λ v l r. and_from _ _ r (shut u v b l (without_from R w v (core_part g k (without R w) v r)).0)))

  splits : core g k (without R w) ≡ both_of (minus R C) (core g k (without C w))
  unfolding both_of
  splits = same_set _ _ (λ v m. go v m (cases_Bool (C v))) (λ v m. elim (or_cases (minus R C v) _ m) [ inl h ↦ others v h | inr h ↦ inner v h ])
    where
      go : (v : ℕ) → v ∈ core g k (without R w) → (C v ≡ true) ⊎ (C v ≡ false) → (minus R C v || core g k (without C w) v) ≡ true
      go v m (inl c) = or_right (minus R C v) _ (rest v m c)
      go v m (inr f) = or_left _ _ (minus_in R C v (without_from R w v (core_part g k (without R w) v m)).0 f)

  dropped_part : dropped g k R w ⊆ C
  unfolding dropped
  dropped_part v m = let (a, f) = minus_from R _ v m in elim (cases_Bool (C v)) [ inl c ↦ c | inr d ↦ absurd (both_ways _ f (others v (minus_in R C v a d))) ]

  dropped_same : dropped g k R w ≡ dropped g k C w
  unfolding dropped
  dropped_same = same_set _ _ there back
    where
      there : minus R (core g k (without R w)) ⊆ minus C (core g k (without C w))
      there v m = minus_in C _ v (dropped_part v m) (false_since _ (λ n. both_ways _ (minus_from R _ v m).1 (inner v n)))

      back : minus C (core g k (without C w)) ⊆ minus R (core g k (without R w))
      back v m = let (a, f) = minus_from C _ v m in minus_in R _ v (part v a) (false_since _ (λ n. both_ways _ f (rest v n a)))

pub round_stays_in_component : RoundStaysInComponent
unfolding C
round_stays_in_component g o k R w ins ti x = (splits g o k R w ins ti x, dropped_part g o k R w ins ti x, dropped_same g o k R w ins ti x)
