-- Every kind of request, at its length, is read. Assumes nothing.
use Rattle.std.proofs.Common.{◌≡◌, ℕ, ◌+◌, ◌≤◌, Bool, true, false, cond, eqb, List, length, take, drop, is_some, Some, None, Option, refl, ap, ◌∙◌, arith}
use Rattle.std.proofs.lemmas.List.{length-drop, length-take-le}
use Rattle.std.proofs.lemmas.Bool.{eqb-true, eqb-false}
use Rattle.std.proofs.lemmas.Bool.Decides.{nat_tests}
use Rattle.frames.specs.Frames.{kind_in, word_at}
use Rattle.frames.specs.Kinds.{is_request, length_of}
use Rattle.frames.specs.Requests.{request_of, regraded}

pub some_kind : {X : Type 0} (k n : ℕ) (a rest : Option X) → (k ≡ n → is_some a ≡ true) → ((k ≡ n → ⊥) → is_some rest ≡ true) → is_some (cond (eqb k n) a rest) ≡ true
some_kind k n a rest f g = go (eqb k n) refl
  where
    go : (t : Bool) → eqb k n ≡ t → is_some (cond t a rest) ≡ true
    go true e = f (eqb-true k n e)
    go false e = g (eqb-false k n e)

module _ {G : Type 0} (get : List ℕ → Option G) (size : ℕ) (known : (bs : List ℕ) → length bs ≡ size → is_some (get bs) ≡ true) where
  regraded_some : (p : ℕ) (o : Option G) → is_some o ≡ true → is_some (regraded p o) ≡ true
  regraded_some p None e = e
  regraded_some p (Some g) e = refl

  pub request_meant : (bs : List ℕ) → is_request (kind_in bs) ≡ true → length bs ≡ length_of size (kind_in bs) → is_some (request_of get size bs) ≡ true
  request_meant bs k l =
      let part : (kind_in bs ≡ 2) → length (take size (drop 3 bs)) ≡ size = λ e. (
      let n : length bs ≡ 4 + size = l ∙ ap (length_of size) e in
      let d = length-drop 3 bs in
      length-take-le size (drop 3 bs) (omega arith)) in
      let in_turn : (1 ≤ kind_in bs) × (kind_in bs ≤ 9) = (grind (arith, nat_tests), grind (arith, nat_tests)) in
      let low = in_turn.0 in
      let high = in_turn.1 in
      some_kind (kind_in bs) 1 _ _ (λ _. refl) (λ n1.
      some_kind (kind_in bs) 2 _ _ (λ e. regraded_some (word_at bs 1) _ (known _ (part e))) (λ n2.
      some_kind (kind_in bs) 3 _ _ (λ _. refl) (λ n3.
      some_kind (kind_in bs) 4 _ _ (λ _. refl) (λ n4.
      some_kind (kind_in bs) 5 _ _ (λ _. refl) (λ n5.
      some_kind (kind_in bs) 6 _ _ (λ _. refl) (λ n6.
      some_kind (kind_in bs) 7 _ _ (λ _. refl) (λ n7.
      some_kind (kind_in bs) 8 _ _ (λ _. refl) (λ n8.
      some_kind (kind_in bs) 9 _ _ (λ _. refl) (λ n9. absurd (omega arith))))))))))
