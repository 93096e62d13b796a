-- Graphs from lists of pairs and orders from lists of grades are lawful.
use Rattle.std.proofs.Common.{◌≡◌, ℕ, true, not, ◌&&◌, ◌||◌, eqb, ltb, leb, ◌≢◌, ◌⊎◌, List, sym, refl, inl, inr, arith}
use Rattle.std.proofs.lemmas.Bool.{and_from, and_parts, cases_lt, eqb-false, le-leb, leb-true, ltb-true, ne_eqb, not_from_false, not-true, or_cases, or_left, or_right}
use Rattle.theory.specs.Graphs.{from_pairs, joins}
use Rattle.theory.specs.ListingLaws.{DataIsLawful}
use Rattle.theory.specs.Orders.{by_grade}
use Rattle.theory.proofs.Sets.{false_since}

pub data_is_lawful : DataIsLawful
unfolding from_pairs by_grade
data_is_lawful = ((λ n ps. record { symmetric = turn n ps; within = λ u v h. ltb-true u n (and_parts (ltb u n) _ (and_parts _ _ h).0).0; apart = λ u. false_since _ (λ h. eqb-false u u (not-true (eqb u u) (and_parts _ _ (and_parts _ _ h).1).0) refl) }), (λ grade. record { total = tot grade; chain = λ u v w a b. le-leb (grade u) (grade w) (omega (arith, leb-true _ _ a, leb-true _ _ b)) }))
  where
    turn : (n : ℕ) (ps : List (ℕ × ℕ)) (u v : ℕ) → ((ltb u n && ltb v n) && (not (eqb u v) && (joins u v ps || joins v u ps))) ≡ true → ((ltb v n && ltb u n) && (not (eqb v u) && (joins v u ps || joins u v ps))) ≡ true
    turn n ps u v h =
        let (a, b) = and_parts (ltb u n && ltb v n) _ h in
        let (c, d) = and_parts (ltb u n) (ltb v n) a in
        let (e, f) = and_parts (not (eqb u v)) _ b in
        let apart : v ≢ u = λ s. eqb-false u v (not-true (eqb u v) e) (sym s) in
        and_from _ _ (and_from _ _ d c) (and_from _ _ (not_from_false (eqb v u) (ne_eqb v u apart)) (elim (or_cases (joins u v ps) (joins v u ps) f) [ inl p ↦ or_right _ _ p | inr p ↦ or_left _ _ p ]))

    tot : (grade : ℕ → ℕ) (u v : ℕ) → (leb (grade u) (grade v) ≡ true) ⊎ (leb (grade v) (grade u) ≡ true)
    tot grade u v = elim (cases_lt (grade u) (grade v)) [ inl l ↦ inl (le-leb (grade u) (grade v) (omega arith)) | inr l ↦ inr (le-leb (grade v) (grade u) l) ]
