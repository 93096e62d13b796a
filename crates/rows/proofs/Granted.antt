-- What a change is, by the answer of its check. Assumes nothing.
use Rattle.std.proofs.Common.{◌≡◌, ℕ, Err, Ok, Some, None, Option, Result, sym, refl, ap, ◌∙◌, arith}
use Rattle.std.proofs.lemmas.Bool.Decides.{nat_tests}
use Rattle.faults.specs.Answers.{answered, unless}
use Rattle.faults.specs.declared.call_fault.CallFault.{CallFault}
use Rattle.networks.specs.Changes.{link_fault}
use Rattle.networks.specs.Net.{Net}
use Rattle.networks.proofs.Refusals.{granted}

module _ {A : Type 0} (f : Option CallFault) (a b : A) (r : Result (Unit {0}) CallFault) (e : r ≡ answered f (tt {0})) where
  pub granted_is : r ≡ Ok (tt {0}) → a ≡ unless f a b
  granted_is h = sym (ap (λ g. unless g a b) (granted f (sym e ∙ h)))

  pub refused_is : (x : CallFault) → r ≡ Err x → b ≡ unless f a b
  refused_is x h = refusal f (sym e ∙ h)
    where
      refusal : (f : Option CallFault) → answered f (tt {0}) ≡ Err x → b ≡ unless f a b
      refusal None h = absurd (cc)
      refusal (Some f) h = refl

pub linked_apart : {G : Type 0} (ceiling : ℕ) (net : Net G) (u v : ℕ) (r : Result (Unit {0}) CallFault) → r ≡ answered (link_fault ceiling net u v) (tt {0}) → r ≡ Ok (tt {0}) → u ≡ v → ⊥
linked_apart ceiling net u v r e h same = let none = granted (link_fault ceiling net u v) (sym e ∙ h) in grind (arith, nat_tests)
