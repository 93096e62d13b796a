-- Unordered pairs, and the links of a network that they stand for. Assumes nothing.
use Rattle.std.proofs.Common.{◌≡◌, ℕ, ◌<◌, min, max, Bool, true, false, cond, not, ◌&&◌, ◌||◌, eqb, ltb, Some, None, Option, sym, refl, ap, ◌∙◌, inl, inr, arith}
use mathlib.Core.Path.{fun_ext}
use Rattle.std.proofs.lemmas.Bool.{cases_order, lt-ltb, le-ltb}
use Rattle.std.proofs.lemmas.Bool.Decides.{nat_tests}
use borrow.Author.Tests.{eq-eqb}
use Rattle.networks.specs.Net.{Net, Sound}
use Rattle.networks.specs.Changes.{is_pair, with_link, without_link, link_fault, after_link}
use Rattle.faults.specs.Answers.{unless}
use Rattle.faults.specs.declared.call_fault.CallFault.{CallFault}
use Rattle.faults.specs.declared.call_fault.CallFault.TheVariants.{NoSuchPerson, SamePerson}
use Rattle.histories.specs.declared.edit.Edit.TheVariants.{Link, Unlink}
use Rattle.histories.specs.Edits.{after_edit}
use Rattle.histories.specs.Pairs.{net_of, drawn_from, is_the_pair, changed, pair_edits}

module _ {G : Type 0} (net : Net G) (sound : Sound net) where
  asked : (a b u v : ℕ) → min u v ≡ a → max u v ≡ b → a < b → (ltb (min u v) (max u v) && net.linked (min u v) (max u v)) ≡ net.linked a b
  asked a b u v e f h =
      ap (λ x. ltb x (max u v) && net.linked x (max u v)) e ∙ ap (λ y. ltb a y && net.linked a y) f ∙ ap (λ t. t && net.linked a b) (lt-ltb a b h)

  linked_min_max : (u v : ℕ) → (ltb (min u v) (max u v) && net.linked (min u v) (max u v)) ≡ net.linked u v
  linked_min_max u v = elim (cases_order u v) [
    | inr (inl h) ↦ asked u v u v (omega arith) (omega arith) h
    | inr (inr h) ↦ asked v u u v (omega arith) (omega arith) h ∙ sound.bothways v u
    | inl h ↦ (let same : min u v ≡ max u v = omega arith in
        ap (λ x. x && net.linked (min u v) (max u v)) (le-ltb (min u v) (max u v) (omega arith)) ∙ sym (ap (net.linked u) (sym h) ∙ sound.apart u))
  ]

  pub means_drawn : (ceiling : ℕ) → net_of (drawn_from ceiling net) ≡ net
  means_drawn ceiling = ap (λ l. record { persons = net.persons; grades = net.grades; linked = l }) (fun_ext (λ u. fun_ext (λ v. linked_min_max u v)))

pair_added : (u v x y : ℕ) (b : Bool) → (u ≡ v → ⊥) → (ltb x y && (is_pair u v x y || b)) ≡ (is_the_pair u v x y || (ltb x y && b))
pair_added u v x y b h = grind (arith, nat_tests)

pair_taken : (u v x y : ℕ) (b : Bool) → (ltb x y && (not (is_pair u v x y) && b)) ≡ (not (is_the_pair u v x y) && (ltb x y && b))
pair_taken u v x y b = grind (arith, nat_tests)

module _ {G : Type 0} (net : Net G) (ceiling u v : ℕ) where
  pub link_drawn : (u ≡ v → ⊥) → drawn_from ceiling (with_link net u v) ≡ changed (drawn_from ceiling net) (Link u v)
  link_drawn h = ap (λ p. record { persons = net.persons; ceiling = ceiling; grades = net.grades; paired = p }) (fun_ext (λ x. fun_ext (λ y. pair_added u v x y (net.linked x y) h)))

  pub unlink_drawn : drawn_from ceiling (without_link net u v) ≡ changed (drawn_from ceiling net) (Unlink u v)
  unlink_drawn = ap (λ p. record { persons = net.persons; ceiling = ceiling; grades = net.grades; paired = p }) (fun_ext (λ x. fun_ext (λ y. pair_taken u v x y (net.linked x y))))

  -- ---- after a change, granted or refused

  granted_apart : (t : Bool) (other : Option CallFault) → cond t (Some NoSuchPerson) (cond (eqb u v) (Some SamePerson) other) ≡ None → u ≡ v → ⊥
  granted_apart true other n h = cc
  granted_apart false other n h = let e : eqb u v ≡ true = eq-eqb u v h in cc

  after_link_by : (f : Option CallFault) → (f ≡ None → u ≡ v → ⊥)
      → drawn_from ceiling (unless f (with_link net u v) net) ≡ unless f (changed (drawn_from ceiling net) (Link u v)) (drawn_from ceiling net)
  after_link_by None h = link_drawn (h refl)
  after_link_by (Some f) h = refl

  pub after_link_lem : Sound net → drawn_from ceiling (after_link ceiling net u v) ≡ after_edit pair_edits (drawn_from ceiling net) (Link u v)
  after_link_lem s =
      after_link_by (link_fault ceiling net u v) (λ n h. granted_apart _ _ n h)
      ∙ ap (λ m. unless (link_fault ceiling m u v) (changed (drawn_from ceiling net) (Link u v)) (drawn_from ceiling net)) (sym (means_drawn net s ceiling))
