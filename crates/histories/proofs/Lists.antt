-- A list of calls, one more at a time. Assumes nothing.
use Rattle.std.proofs.Common.{◌≡◌, ℕ, ◌+◌, ◌<◌, ◌≤◌, Bool, false, List, [], ◌∷◌, ◌++◌, length, get_or, take, sym, ap, ◌∙◌, subst}
use Rattle.std.proofs.lemmas.List.{append-nil, append_assoc, take_more, take_all}
use Rattle.networks.specs.Net.{Net}
use Rattle.meaning.specs.Persons.{graph_of, order_of}
use Rattle.histories.specs.declared.call.Call.{Call}
use Rattle.histories.specs.Edits.{Edits, drawn_by}
use Rattle.histories.specs.Answers.{Told}
use Rattle.histories.specs.Law.{Nests, Kept}
use Rattle.histories.specs.Standing.{Stands, Step, Ran}
use Rattle.histories.proofs.History.{kept_none, kept_more}
use Rattle.histories.proofs.Steps.{stands_none}

module _ {G D C : Type 0} (le : G → G → Bool) (k : Edits G D C) (d : D) (room : ℕ) (valid : Bool) (Tree : Net G → Type 0) where
  pub ran_none : (first : List Told) → Ran {C = C} le k d room valid Tree d room valid Tree [] first first
  ran_none first d0 size past s h = (
    subst (λ p. Kept le k d0 size p first) (sym (append-nil past)) h,
    subst (λ p. Stands k d0 size p first d room valid Tree) (sym (append-nil past)) s,
  )

  pub ran_more : (d₁ : D) (room₁ : ℕ) (valid₁ : Bool) (Tree₁ : Net G → Type 0) (d₂ : D) (room₂ : ℕ) (valid₂ : Bool) (Tree₂ : Net G → Type 0)
      (calls : List (Call C)) (first last grown : List Told) (i : ℕ) (c : Call C) (a : Told)
      → i < length calls → c ≡ get_or calls i c → grown ≡ last ++ a ∷ []
      → Nests (graph_of (k.means d₂)) (order_of le (k.means d₂))
      → Ran le k d room valid Tree d₁ room₁ valid₁ Tree₁ (take i calls) first last
      → Step le k d₁ room₁ valid₁ Tree₁ d₂ room₂ valid₂ Tree₂ c a
      → Ran le k d room valid Tree d₂ room₂ valid₂ Tree₂ (take (i + 1) calls) first grown
  ran_more d₁ room₁ valid₁ Tree₁ d₂ room₂ valid₂ Tree₂ calls first last grown i c a l e g nests ran step d0 size past s h =
      let r = ran d0 size past s h in
      let n = step d0 size (past ++ take i calls) last r.1 in
      let longer : (past ++ take i calls) ++ c ∷ [] ≡ past ++ take (i + 1) calls =
      append_assoc past (take i calls) (c ∷ []) ∙ ap (λ y. past ++ y) (ap (λ y. take i calls ++ y ∷ []) e ∙ sym (take_more calls i c l)) in
      let nested : Nests (graph_of (k.means (drawn_by k d0 ((past ++ take i calls) ++ c ∷ [])))) (order_of le (k.means (drawn_by k d0 ((past ++ take i calls) ++ c ∷ [])))) =
      subst (λ y. Nests (graph_of (k.means y)) (order_of le (k.means y))) n.1.state nests in
      let kept = kept_more le k d0 size (past ++ take i calls) last c a r.0 n.0 nested in (
        subst (λ p. Kept le k d0 size p grown) longer (subst (Kept le k d0 size ((past ++ take i calls) ++ c ∷ [])) (sym g) kept),
        subst (λ p. Stands k d0 size p grown d₂ room₂ valid₂ Tree₂) longer (subst (λ y. Stands k d0 size ((past ++ take i calls) ++ c ∷ []) y d₂ room₂ valid₂ Tree₂) (sym g) n.1),
      )

  pub ran_all : (d₁ : D) (room₁ : ℕ) (valid₁ : Bool) (Tree₁ : Net G → Type 0) (calls : List (Call C)) (first last : List Told) (i : ℕ) → length calls ≤ i
      → Ran le k d room valid Tree d₁ room₁ valid₁ Tree₁ (take i calls) first last → Ran le k d room valid Tree d₁ room₁ valid₁ Tree₁ calls first last
  ran_all d₁ room₁ valid₁ Tree₁ calls first last i h = subst (λ y. Ran le k d room valid Tree d₁ room₁ valid₁ Tree₁ y first last) (take_all i calls h)

-- from an opening, with no call and an invalid tree, on
pub from_opening : {G D C : Type 0} (le : G → G → Bool) (k : Edits G D C) (d0 : D) (room : ℕ) (Tree : Net G → Type 0) (d₁ : D) (room₁ : ℕ) (valid₁ : Bool) (Tree₁ : Net G → Type 0) (calls : List (Call C)) (last : List Told)
    → Nests (graph_of (k.means d0)) (order_of le (k.means d0)) → Ran le k d0 room false Tree d₁ room₁ valid₁ Tree₁ calls [] last
    → Kept le k d0 room calls last × Stands k d0 room calls last d₁ room₁ valid₁ Tree₁
from_opening le k d0 room Tree d₁ room₁ valid₁ Tree₁ calls last nests ran =
    ran d0 room [] (stands_none k d0 room Tree) (kept_none le k d0 room nests)
