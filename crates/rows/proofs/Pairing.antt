-- What a pair more or less leaves of the laws of links. Assumes nothing.
use Rattle.std.proofs.Common.{◌≡◌, ℕ, Bool, true, false, cond, not, ◌&&◌, ◌||◌, refl, ap, arith}
use Rattle.std.proofs.lemmas.Bool.Decides.{nat_tests}
use Rattle.networks.specs.Changes.{is_pair}
use Rattle.rows.specs.Rows.{Apart, Bothways}

-- one row more or less, as a test on ordered pairs
pub one_more : (e a h l : Bool) → (e ≡ true → h ≡ l) → cond e (a || h) l ≡ ((e && a) || l)
one_more true a h l f = ap (λ t. a || t) (f refl)
one_more false a h l f = refl

pub one_less : (e a h l : Bool) → (e ≡ true → h ≡ l) → cond e (not a && h) l ≡ (not (e && a) && l)
one_less true a h l f = ap (λ t. not a && t) (f refl)
one_less false a h l f = refl

-- both ordered pairs are the pair
pub both_more : (a b l : Bool) → (b || (a || l)) ≡ ((a || b) || l)
both_more a b l = grind (arith, nat_tests)

pub both_less : (a b l : Bool) → (not b && (not a && l)) ≡ (not (a || b) && l)
both_less a b l = grind (arith, nat_tests)

module _ (linked : ℕ → ℕ → Bool) (u v : ℕ) where
  pub apart_more : (u ≡ v → ⊥) → Apart linked → Apart (λ x y. is_pair u v x y || linked x y)
  apart_more ne apart x = let h = apart x in grind (arith, nat_tests)

  pub bothways_more : Bothways linked → Bothways (λ x y. is_pair u v x y || linked x y)
  bothways_more both x y = let h = both x y in grind (arith, nat_tests)

  pub apart_less : Apart linked → Apart (λ x y. not (is_pair u v x y) && linked x y)
  apart_less apart x = let h = apart x in grind (arith, nat_tests)

  pub bothways_less : Bothways linked → Bothways (λ x y. not (is_pair u v x y) && linked x y)
  bothways_less both x y = let h = both x y in grind (arith, nat_tests)
