-- When a change is granted. Assumes nothing.
use Rattle.std.proofs.Common.{◌≡◌, ℕ, ◌<◌, true, false, is_ok, Ok, Some, None, Option, refl, arith}
use Rattle.faults.specs.Answers.{answered}
use Rattle.faults.specs.declared.call_fault.CallFault.{CallFault}
use Rattle.std.proofs.lemmas.Bool.Decides.{nat_tests}
use Rattle.networks.specs.Fixed.{opened_size}
use Rattle.networks.specs.Net.{Net, degree_of}
use Rattle.networks.specs.Changes.{pair_fault, new_pair_fault, link_fault, unlink_fault, regrade_fault}

-- what a check that grants says of a pair
pub granted : (f : Option CallFault) → answered f (tt {0}) ≡ Ok (tt {0}) → f ≡ None
granted None h = refl
granted (Some x) h = cc

-- and a check that refuses opens a network of nobody
pub refused_none : (f : Option CallFault) (n : ℕ) → is_ok (answered f (tt {0})) ≡ false → opened_size f n ≡ 0
refused_none None n h = cc
refused_none (Some x) n h = refl

module _ {G : Type 0} (net : Net G) (u v : ℕ) (a : u < net.persons) (b : v < net.persons) (ne : u ≡ v → ⊥) where
  -- two persons who are not one: the other refusals decide
  pub pair_passes : (other : Option CallFault) → pair_fault net u v other ≡ other
  pair_passes other = grind (arith, nat_tests)

  pub free_pair : net.linked u v ≡ false → new_pair_fault net u v ≡ None
  free_pair free = grind (arith, nat_tests)

  pub unlink_granted : net.linked u v ≡ true → unlink_fault net u v ≡ None
  unlink_granted held = grind (arith, nat_tests)

pub regrade_granted : {G : Type 0} (net : Net G) (u : ℕ) → u < net.persons → regrade_fault net u ≡ None
regrade_granted net u a = grind (arith, nat_tests)

module _ {G : Type 0} (net : Net G) (u v : ℕ) where
  pub new_pair : new_pair_fault net u v ≡ None → (u < net.persons) × (v < net.persons) × (u ≡ v → ⊥) × (net.linked u v ≡ false)
  new_pair h = (grind (arith, nat_tests), grind (arith, nat_tests), λ e. grind (arith, nat_tests), grind (arith, nat_tests))

  pub link_granted : (ceiling : ℕ) → new_pair_fault net u v ≡ None → degree_of net u < ceiling → degree_of net v < ceiling → link_fault ceiling net u v ≡ None
  link_granted ceiling h p q = grind (arith, nat_tests)

  pub linked_pair : unlink_fault net u v ≡ None → (u < net.persons) × (v < net.persons) × (u ≡ v → ⊥) × (net.linked u v ≡ true)
  linked_pair h = (grind (arith, nat_tests), grind (arith, nat_tests), λ e. grind (arith, nat_tests), grind (arith, nat_tests))
