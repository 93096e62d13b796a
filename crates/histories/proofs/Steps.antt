-- One call, by the way it ends: what the state stands for afterwards. Assumes nothing.
use Rattle.std.proofs.Common.{◌≡◌, ℕ, ◌+◌, Bool, true, false, List, [], ◌∷◌, ◌++◌, length, Some, None, Option, sym, refl, ap, ◌∙◌, subst, arith}
use Rattle.std.proofs.lemmas.List.{length-append}
use Rattle.std.proofs.lemmas.List.Sums.{fold_push}
use Rattle.std.proofs.lemmas.Bool.{true≢false}
use Rattle.faults.specs.Answers.{unless}
use Rattle.faults.specs.declared.call_fault.CallFault.{CallFault}
use Rattle.networks.specs.Net.{Net}
use Rattle.histories.specs.declared.call.Call.{Call}
use Rattle.histories.specs.declared.call.Call.TheVariants.{Change}
use Rattle.histories.specs.Edits.{Edits, after, after_edit, drawn_by}
use Rattle.histories.specs.Answers.{Told, done, said, granted}
use Rattle.histories.specs.Law.{is_change, is_plant, Planted, Right}
use Rattle.histories.specs.Standing.{Stands, Step}
use Rattle.histories.proofs.History.{still_planted, was_planted, now_planted, not_planted}

module _ {G D C : Type 0} (k : Edits G D C) (d0 : D) (size : ℕ) (calls : List (Call C)) (answers : List Told) (d : D) (room : ℕ) (valid : Bool) (Tree : Net G → Type 0) (s : Stands k d0 size calls answers d room valid Tree) (c : Call C) (a : Told) where
  longer : length (calls ++ c ∷ []) ≡ length calls + 1
  longer = length-append calls (c ∷ [])

  told_more : length (answers ++ a ∷ []) ≡ length (calls ++ c ∷ [])
  told_more = length-append answers (a ∷ []) ∙ ap (λ n. n + 1) s.told ∙ sym longer

  drawn_more : (d' : D) → d' ≡ after k d c → d' ≡ drawn_by k d0 (calls ++ c ∷ [])
  drawn_more d' e = e ∙ ap (λ y. after k y c) s.state ∙ sym (fold_push (after k) d0 calls c)

  -- neither a granted change nor a granted plant
  pub stands_on : after k d c ≡ d → (is_change c ≡ true → granted a ≡ true → ⊥) → (is_plant c ≡ true → granted a ≡ true → ⊥)
      → Stands k d0 size (calls ++ c ∷ []) (answers ++ a ∷ []) d room valid Tree
  stands_on e x y = record {
    told = told_more;
    state = drawn_more d (sym e);
    roomy = s.roomy;
    planted = λ v. subst (Planted (calls ++ c ∷ []) (answers ++ a ∷ [])) (sym longer) (still_planted calls answers c a s.told x (s.planted v));
    valid_if = λ p. s.valid_if (was_planted calls answers c a s.told y (subst (Planted (calls ++ c ∷ []) (answers ++ a ∷ [])) longer p));
    grown = s.grown;
  }

  pub stands_changed : (d' : D) (Tree' : Net G → Type 0) → is_change c ≡ true → is_plant c ≡ false → granted a ≡ true → d' ≡ after k d c
      → Stands k d0 size (calls ++ c ∷ []) (answers ++ a ∷ []) d' room false Tree'
  stands_changed d' Tree' x z y e = record {
    told = told_more;
    state = drawn_more d' e;
    roomy = s.roomy;
    planted = λ v. absurd (true≢false (sym v));
    valid_if = λ p. absurd (not_planted calls answers c a s.told x z y (subst (Planted (calls ++ c ∷ []) (answers ++ a ∷ [])) longer p));
    grown = λ v. absurd (true≢false (sym v));
  }

  pub stands_planted : (Tree' : Net G → Type 0) → after k d c ≡ d → is_plant c ≡ true → granted a ≡ true → Tree' (k.means d)
      → Stands k d0 size (calls ++ c ∷ []) (answers ++ a ∷ []) d room true Tree'
  stands_planted Tree' e x y t = record {
    told = told_more;
    state = drawn_more d (sym e);
    roomy = s.roomy;
    planted = λ v. subst (Planted (calls ++ c ∷ []) (answers ++ a ∷ [])) (sym longer) (now_planted calls answers c a s.told x y);
    valid_if = λ p. refl;
    grown = λ v. t;
  }

pub stands_none : {G D C : Type 0} (k : Edits G D C) (d0 : D) (room : ℕ) (Tree : Net G → Type 0) → Stands {C = C} k d0 room [] [] d0 room false Tree
stands_none k d0 room Tree = record {
  told = refl;
  state = refl;
  roomy = refl;
  planted = λ v. absurd (true≢false (sym v));
  valid_if = λ p. absurd (omega (arith, p.before));
  grown = λ v. absurd (true≢false (sym v));
}

-- ---- the ways a call ends

module _ {G D C : Type 0} (le : G → G → Bool) (k : Edits G D C) (d : D) (room : ℕ) (valid : Bool) (Tree : Net G → Type 0) where
  -- a call that alters neither the network nor the tree
  pub quiet : (c : Call C) (a : Told) → after k d c ≡ d → (is_change c ≡ true → granted a ≡ true → ⊥) → (is_plant c ≡ true → granted a ≡ true → ⊥)
      → ((planted : Type 0) → (valid ≡ true → planted × Tree (k.means d)) → (planted → valid ≡ true) → Right le k d room planted c a)
      → Step le k d room valid Tree d room valid Tree c a
  quiet c a e x y right d0 size calls answers s = (
    subst (λ z. Right le k z size (Planted calls answers (length calls)) c a) s.state
        (subst (λ z. Right le k d z (Planted calls answers (length calls)) c a) s.roomy
        (right (Planted calls answers (length calls)) (λ v. (s.planted v, s.grown v)) s.valid_if)),
    stands_on k d0 size calls answers d room valid Tree s c a e x y,
  )

  pub changes : (e : C) (o : Option CallFault) (d' : D) (valid' : Bool) (Tree' : Net G → Type 0) → o ≡ k.refusal d e → d' ≡ after_edit k d e → valid' ≡ unless o false valid
      → ((net : Net G) → Tree net → Tree' net) → Step le k d room valid Tree d' room valid' Tree' (Change e) (said o done)
  changes e None d' valid' Tree' r m v t d0 size calls answers s = (
    subst (λ z. said None done ≡ said (k.refusal z e) done) s.state (ap (λ z. said z done) r),
    subst (λ z. Stands k d0 size (calls ++ Change e ∷ []) (answers ++ done ∷ []) d' room z Tree') (sym v)
        (stands_changed k d0 size calls answers d room valid Tree s (Change e) done d' Tree' refl refl refl m),
  )
  changes e (Some f) d' valid' Tree' r m v t d0 size calls answers s =
      let same : after_edit k d e ≡ d = ap (λ z. unless z (k.effect d e) d) (sym r) in (
        subst (λ z. said (Some f) done ≡ said (k.refusal z e) done) s.state (ap (λ z. said z done) r),
        subst (λ z. Stands k d0 size (calls ++ Change e ∷ []) (answers ++ said (Some f) done ∷ []) z room valid' Tree') (sym (m ∙ same))
            (subst (λ z. Stands k d0 size (calls ++ Change e ∷ []) (answers ++ said (Some f) done ∷ []) d room z Tree') (sym v)
            (moved (stands_on k d0 size calls answers d room valid Tree s (Change e) (said (Some f) done) same (λ x y. true≢false (sym y)) (λ x y. true≢false (sym y))))),
      )
    where
      moved : Stands k d0 size (calls ++ Change e ∷ []) (answers ++ said (Some f) done ∷ []) d room valid Tree → Stands k d0 size (calls ++ Change e ∷ []) (answers ++ said (Some f) done ∷ []) d room valid Tree'
      moved h = record { told = h.told; state = h.state; roomy = h.roomy; planted = h.planted; valid_if = h.valid_if; grown = λ y. t (k.means d) (h.grown y) }

  pub plants : (c : Call C) (a : Told) (Tree' : Net G → Type 0) → after k d c ≡ d → is_plant c ≡ true → granted a ≡ true → Tree' (k.means d)
      → ((planted : Type 0) → Right le k d room planted c a) → Step le k d room valid Tree d room true Tree' c a
  plants c a Tree' e x y t right d0 size calls answers s = (
    subst (λ z. Right le k z size (Planted calls answers (length calls)) c a) s.state
        (subst (λ z. Right le k d z (Planted calls answers (length calls)) c a) s.roomy (right (Planted calls answers (length calls)))),
    stands_planted k d0 size calls answers d room valid Tree s c a Tree' e x y t,
  )
