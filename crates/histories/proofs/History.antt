-- Histories that grow by one call. Assumes nothing.
use Rattle.std.proofs.Common.{◌≡◌, ℕ, ◌+◌, ◌<◌, ◌≤◌, Bool, true, false, List, [], ◌∷◌, ◌++◌, length, take, sym, refl, ap, ◌∙◌, subst, inl, inr, arith}
use Rattle.std.proofs.lemmas.List.{get_or_append_left, length-append, take-append-le, take_all}
use Rattle.std.proofs.lemmas.Bool.{cases_lt, true≢false}
use Rattle.std.proofs.Math.Seq.{get_or-append_seam}
use Rattle.meaning.specs.Persons.{graph_of, order_of}
use Rattle.histories.specs.declared.call.Call.{Call}
use Rattle.histories.specs.declared.call.Call.TheVariants.{Pick, Holder}
use Rattle.histories.specs.Edits.{Edits, drawn_by}
use Rattle.histories.specs.Answers.{Told, granted}
use Rattle.histories.specs.Law.{is_change, is_plant, call_at, answer_at, Planted, Right, Nests, Kept}

-- where two histories have the same first calls and answers, a tree planted in one is planted in the other
planted_along : {C : Type 0} (calls calls' : List (Call C)) (answers answers' : List Told) (i : ℕ)
    → ((m : ℕ) → m < i → call_at calls m ≡ call_at calls' m) → ((m : ℕ) → m < i → answer_at answers m ≡ answer_at answers' m)
    → Planted calls answers i → Planted calls' answers' i
planted_along calls calls' answers answers' i c a h = record {
  place = h.place;
  before = h.before;
  plant = sym (ap is_plant (c h.place h.before)) ∙ h.plant;
  given = sym (ap granted (a h.place h.before)) ∙ h.given;
  since = λ m l b x y. h.since m l b (ap is_change (c m b) ∙ x) (ap granted (a m b) ∙ y);
}

module _ {C : Type 0} (calls cs : List (Call C)) (answers zs : List Told) where
  call_kept : (i : ℕ) → i < length calls → call_at (calls ++ cs) i ≡ call_at calls i
  call_kept i l = get_or_append_left calls cs _ i l

  answer_kept : (i : ℕ) → i < length answers → answer_at (answers ++ zs) i ≡ answer_at answers i
  answer_kept i l = get_or_append_left answers zs _ i l

  pub planted_on : (i : ℕ) → i ≤ length calls → i ≤ length answers → Planted calls answers i → Planted (calls ++ cs) (answers ++ zs) i
  planted_on i p q = planted_along calls (calls ++ cs) answers (answers ++ zs) i
      (λ m l. sym (call_kept m (omega arith))) (λ m l. sym (answer_kept m (omega arith)))

  pub planted_back : (i : ℕ) → i ≤ length calls → i ≤ length answers → Planted (calls ++ cs) (answers ++ zs) i → Planted calls answers i
  planted_back i p q = planted_along (calls ++ cs) calls (answers ++ zs) answers i
      (λ m l. call_kept m (omega arith)) (λ m l. answer_kept m (omega arith))

module _ {C : Type 0} (calls : List (Call C)) (answers : List Told) (c : Call C) (a : Told) (e : length answers ≡ length calls) where
  call_last : (i : ℕ) → i ≡ length calls → call_at (calls ++ c ∷ []) i ≡ c
  call_last i h = ap (λ t. call_at (calls ++ c ∷ []) t) h ∙ get_or-append_seam calls c [] _

  answer_last : (i : ℕ) → i ≡ length calls → answer_at (answers ++ a ∷ []) i ≡ a
  answer_last i h = ap (λ t. answer_at (answers ++ a ∷ []) t) (h ∙ sym e) ∙ get_or-append_seam answers a [] _

  -- a call that is no granted change leaves the tree
  pub still_planted : (is_change c ≡ true → granted a ≡ true → ⊥) → Planted calls answers (length calls) → Planted (calls ++ c ∷ []) (answers ++ a ∷ []) (length calls + 1)
  still_planted quiet h =
      let g = planted_on calls (c ∷ []) answers (a ∷ []) (length calls) (omega arith) (omega arith) h in
      record {
        place = g.place;
        before = omega (arith, g.before);
        plant = g.plant;
        given = g.given;
        since = λ m x y u v. elim (cases_lt m (length calls)) [
          | inl l ↦ g.since m x l u v
          | inr l ↦ quiet (sym (ap is_change (call_last m (omega arith))) ∙ u) (sym (ap granted (answer_last m (omega arith))) ∙ v)
        ];
      }

  -- a call that is no granted plant makes none
  pub was_planted : (is_plant c ≡ true → granted a ≡ true → ⊥) → Planted (calls ++ c ∷ []) (answers ++ a ∷ []) (length calls + 1) → Planted calls answers (length calls)
  was_planted other h = elim (cases_lt h.place (length calls)) [
    | inl l ↦ planted_back calls (c ∷ []) answers (a ∷ []) (length calls) (omega arith) (omega arith)
        (record { place = h.place; before = l; plant = h.plant; given = h.given; since = λ m x y. h.since m x (omega arith) })
    | inr l ↦ (let p = call_last h.place (omega (arith, h.before)) in
        let q = answer_last h.place (omega (arith, h.before)) in
        absurd (other (sym (ap is_plant p) ∙ h.plant) (sym (ap granted q) ∙ h.given)))
  ]

  pub now_planted : is_plant c ≡ true → granted a ≡ true → Planted (calls ++ c ∷ []) (answers ++ a ∷ []) (length calls + 1)
  now_planted x y = record {
    place = length calls;
    before = omega arith;
    plant = ap is_plant (call_last (length calls) refl) ∙ x;
    given = ap granted (answer_last (length calls) refl) ∙ y;
    since = λ m u v. absurd (omega arith);
  }

  -- after a granted change there is none
  pub not_planted : is_change c ≡ true → is_plant c ≡ false → granted a ≡ true → Planted (calls ++ c ∷ []) (answers ++ a ∷ []) (length calls + 1) → ⊥
  not_planted x z y h = elim (cases_lt h.place (length calls)) [
    | inl l ↦ h.since (length calls) l (omega arith) (ap is_change (call_last (length calls) refl) ∙ x) (ap granted (answer_last (length calls) refl) ∙ y)
    | inr l ↦ true≢false (sym h.plant ∙ ap is_plant (call_last h.place (omega (arith, h.before))) ∙ z)
  ]

-- what is right stays so where the tree is there in the same cases
right_moved : {G D C : Type 0} (le : G → G → Bool) (k : Edits G D C) (d : D) (size : ℕ) (P Q : Type 0) (c : Call C) (a : Told) → (P → Q) → (Q → P) → Right le k d size P c a → Right le k d size Q c a
right_moved le k d size P Q (Pick q m) a f g h = ((λ y. h.0 (g y)), (λ n. h.1 (λ p. n (f p))))
right_moved le k d size P Q (Holder q w) a f g h = ((λ y. h.0 (g y)), (λ n. h.1 (λ p. n (f p))))
right_moved le k d size P Q _ a f g h = h

abbrev NestsAt : {G D C : Type 0} → (G → G → Bool) → Edits G D C → D → List (Call C) → Type 0
NestsAt le k d0 calls = Nests (graph_of (k.means (drawn_by k d0 calls))) (order_of le (k.means (drawn_by k d0 calls)))

pub kept_none : {G D C : Type 0} (le : G → G → Bool) (k : Edits G D C) (d0 : D) (size : ℕ) → Nests (graph_of (k.means d0)) (order_of le (k.means d0)) → Kept {C = C} le k d0 size [] []
kept_none le k d0 size n = record {
  one_for_one = refl;
  each = λ i h. absurd (omega arith);
  nests = λ i h. subst (NestsAt le k d0) (sym (take_all i [] (omega arith))) n;
}

module _ {G D C : Type 0} (le : G → G → Bool) (k : Edits G D C) (d0 : D) (size : ℕ) (calls : List (Call C)) (answers : List Told) (c : Call C) (a : Told) (h : Kept le k d0 size calls answers) where
  earlier : (i : ℕ) → i < length calls → Right le k (drawn_by k d0 (take i (calls ++ c ∷ []))) size (Planted (calls ++ c ∷ []) (answers ++ a ∷ []) i) (call_at (calls ++ c ∷ []) i) (answer_at (answers ++ a ∷ []) i)
  earlier i b =
      let e = h.one_for_one in
      let on = planted_on calls (c ∷ []) answers (a ∷ []) i (omega arith) (omega arith) in
      let back = planted_back calls (c ∷ []) answers (a ∷ []) i (omega arith) (omega arith) in
      let P = Planted calls answers i in
      subst (λ y. Right le k (drawn_by k d0 (take i (calls ++ c ∷ []))) size (Planted (calls ++ c ∷ []) (answers ++ a ∷ []) i) (call_at (calls ++ c ∷ []) i) y) (sym (answer_kept calls (c ∷ []) answers (a ∷ []) i (omega arith)))
      (subst (λ x. Right le k (drawn_by k d0 (take i (calls ++ c ∷ []))) size (Planted (calls ++ c ∷ []) (answers ++ a ∷ []) i) x (answer_at answers i)) (sym (call_kept calls (c ∷ []) answers (a ∷ []) i b))
      (subst (λ t. Right le k (drawn_by k d0 t) size (Planted (calls ++ c ∷ []) (answers ++ a ∷ []) i) (call_at calls i) (answer_at answers i)) (sym (take-append-le i calls (c ∷ []) (omega arith)))
      (right_moved le k (drawn_by k d0 (take i calls)) size P (Planted (calls ++ c ∷ []) (answers ++ a ∷ []) i) (call_at calls i) (answer_at answers i) on back (h.each i b))))

  newest : (i : ℕ) → i ≡ length calls → Right le k (drawn_by k d0 calls) size (Planted calls answers (length calls)) c a
      → Right le k (drawn_by k d0 (take i (calls ++ c ∷ []))) size (Planted (calls ++ c ∷ []) (answers ++ a ∷ []) i) (call_at (calls ++ c ∷ []) i) (answer_at (answers ++ a ∷ []) i)
  newest i s r =
      let e = h.one_for_one in
      let Q = Planted (calls ++ c ∷ []) (answers ++ a ∷ []) in
      let on : Planted calls answers (length calls) → Q i = λ p. subst Q (sym s) (planted_on calls (c ∷ []) answers (a ∷ []) (length calls) (omega arith) (omega arith) p) in
      let back : Q i → Planted calls answers (length calls) = λ p. planted_back calls (c ∷ []) answers (a ∷ []) (length calls) (omega arith) (omega arith) (subst Q s p) in
      subst (λ y. Right le k (drawn_by k d0 (take i (calls ++ c ∷ []))) size (Q i) (call_at (calls ++ c ∷ []) i) y) (sym (answer_last calls answers c a e i s))
      (subst (λ x. Right le k (drawn_by k d0 (take i (calls ++ c ∷ []))) size (Q i) x a) (sym (call_last calls answers c a e i s))
      (subst (λ t. Right le k (drawn_by k d0 t) size (Q i) c a) (sym (take-append-le i calls (c ∷ []) (omega arith) ∙ take_all i calls (omega arith)))
      (right_moved le k (drawn_by k d0 calls) size (Planted calls answers (length calls)) (Q i) c a on back r)))

  pub kept_more : Right le k (drawn_by k d0 calls) size (Planted calls answers (length calls)) c a → NestsAt le k d0 (calls ++ c ∷ []) → Kept le k d0 size (calls ++ c ∷ []) (answers ++ a ∷ [])
  kept_more r n =
      let lc = length-append calls (c ∷ []) in
      let la = length-append answers (a ∷ []) in
      record {
        one_for_one = omega (arith, lc, la, h.one_for_one);
        each = λ i l. elim (cases_lt i (length calls)) [ inl b ↦ earlier i b | inr b ↦ newest i (omega (arith, lc)) r ];
        nests = λ i l. elim (cases_lt i (length calls + 1)) [
          | inl b ↦ subst (NestsAt le k d0) (sym (take-append-le i calls (c ∷ []) (omega arith))) (h.nests i (omega arith))
          | inr b ↦ subst (NestsAt le k d0) (sym (take_all i (calls ++ c ∷ []) (omega (arith, lc)))) n
        ];
      }
