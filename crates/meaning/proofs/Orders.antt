-- Sound networks are lawful graphs, and grades with two laws give strict orders of persons. Assumes nothing.
use Rattle.std.proofs.Common.{◌≡◌, Bool, true, false, ◌⊎◌, Some, None, Option, sym, refl, ◌∙◌, inl, inr}
use Rattle.std.proofs.lemmas.Bool.{both_ways}
use Rattle.std.specs.List.{slice_get}
use Rattle.networks.specs.Net.{Net, Sound}
use Rattle.theory.specs.Graphs.{Lawful}
use Rattle.theory.specs.Orders.{Order, StrictOrder, by_number}
use Rattle.theory.proofs.Rankings.{ties_are_broken}
use Rattle.meaning.specs.Persons.{graph_of, grade_at_most, by_grades, order_of}

pub lawful : {G : Type 0} (net : Net G) → Sound net → Lawful (graph_of net)
lawful net s = record { symmetric = λ u v h. sym (s.bothways u v) ∙ h; within = s.within; apart = s.apart }

module _ {G : Type 0} (le : G → G → Bool) (total : (a b : G) → le a b ≡ false → le b a ≡ true) (transitive : (a b c : G) → le a b ≡ true → le b c ≡ true → le a c ≡ true) where
  either : (a b : Option G) → (grade_at_most le a b ≡ true) ⊎ (grade_at_most le b a ≡ true)
  either None b = inl refl
  either (Some a) None = inr refl
  either (Some a) (Some b) = go (le a b) refl
    where
      go : (t : Bool) → le a b ≡ t → (le a b ≡ true) ⊎ (le b a ≡ true)
      go true e = inl e
      go false e = inr (total a b e)

  through : (a b c : Option G) → grade_at_most le a b ≡ true → grade_at_most le b c ≡ true → grade_at_most le a c ≡ true
  through None b c p q = refl
  through (Some a) None c p q = absurd (both_ways false refl p)
  through (Some a) (Some b) None p q = q
  through (Some a) (Some b) (Some c) p q = transitive a b c p q

  pub grades_order : (net : Net G) → Order (by_grades le net)
  grades_order net = record { total = λ u v. either (slice_get net.grades u) (slice_get net.grades v); chain = λ u v w. through (slice_get net.grades u) (slice_get net.grades v) (slice_get net.grades w) }

  pub persons_order : (net : Net G) → StrictOrder (order_of le net)
  persons_order net =
      let (ranking, broken) = ties_are_broken (by_grades le net) (grades_order net) in
      let (order, strict, _) = broken (by_number (by_grades le net)) ranking in
      (order, strict)
