-- What an array holds whose elements a closure gave, each at its index. Assumes nothing.
use Rattle.std.proofs.Common.{◌≡◌, ℕ, zero, suc, ◌+◌, ◌<◌, ◌≤◌, List, get_or, ap, ◌∙◌, subst, inl, inr, arith}
use Rattle.std.specs.Array.{IsFromFnResultFrom}
use Rattle.std.specs.Fn.{Called}
use Rattle.std.proofs.lemmas.Bool.{cases_lt}
use denote.Param.Members.{Mut}

pub gave_each : {F : Type 0} (g : Mut F (ℕ × Unit {0}) ℕ) (f : F) (h : ℕ → ℕ) (ys : List ℕ) → ((k r : ℕ) (q : F) → Called g f (k, tt) r q → (r ≡ h k) × (q ≡ f)) → (n i : ℕ) → IsFromFnResultFrom g f ys i n → (k : ℕ) → i ≤ k → k < i + n → get_or ys k 0 ≡ h k
gave_each g f h ys call zero i r k l m = absurd (omega arith)
gave_each g f h ys call (suc n) i r k l m =
    let (said, stays) = call i r.1 r.0 r.3 in
    elim (cases_lt i k) [
      | inl later ↦ gave_each g f h ys call n (i + 1) (subst (λ q. IsFromFnResultFrom g q ys (i + 1) n) stays r.4) k (omega arith) (omega arith)
      | inr here ↦ (let e : k ≡ i = omega arith in ap (λ j. get_or ys j 0) e ∙ r.2.1 0 ∙ said ∙ ap h (omega arith))
    ]
