-- Requests are read from the bytes that they are written as, and from no others. Assumes nothing.
--     request_back                what is written is read back
--     request_forth               what is read fits, and is what was written
use Rattle.std.specs.Prelude.{◌≡◌, ℕ, ◌+◌, ◌-◌, ◌<◌, List, ◌∷◌, ◌++◌, length, take, drop, Some, None, Option, refl}
use Rattle.std.specs.List.{AllByRecursion}
use Rattle.std.proofs.Common.{[], ap, ◌∙◌, arith}
use Rattle.std.proofs.ByRecursion.{All-take, All-drop}
use Rattle.std.proofs.lemmas.List.{take_at}
use Rattle.grades.specs.Places.{Byte}
use Rattle.frames.specs.declared.request.Request.{Request}
use Rattle.frames.specs.declared.request.Request.TheVariants.{Open, Regrade, Link, Unlink, Peel, Plant, Pick, Cores, Holder}
use Rattle.frames.specs.Fields.{byte_at, word_back, word_at_lem, landed, no_field, one_word, two_words, two_words_byte, one_word_rest, this_kind, no_kind}
use Rattle.frames.specs.Frames.{kind_in, bytes16, word_at, framed, check_of}
use Rattle.frames.specs.Kinds.{length_of}
use Rattle.frames.specs.Requests.{request_bytes, request_of, regraded, RequestFits}

module _ {G : Type 0} (In : G → Type 0) (put : G → List ℕ) (get : List ℕ → Option G) (size : ℕ) where
  pub request_back : ((g : G) → length (put g) ≡ size) → ((g : G) → In g → get (put g) ≡ Some g) → (q : Request G) → RequestFits In q → request_of get size (framed (request_bytes put q)) ≡ Some q
  request_back sized again (Open n) h = ap (λ x. Some (Open x)) (word_back n h)
  request_back sized again (Regrade p g) h =
      ap (λ x. regraded x (get (take size (put g ++ check_of (request_bytes put (Regrade p g)) ∷ [])))) (word_back p h.0)
      ∙ ap (λ x. regraded p (get x)) (take_at (put g) (check_of (request_bytes put (Regrade p g)) ∷ []) size (sized g)) ∙ ap (regraded p) (again g h.1)
  request_back sized again (Link u v) h = ap (λ x. Some (Link x (word_at (framed (request_bytes put (Link u v))) 3))) (word_back u h.0) ∙ ap (λ x. Some (Link u x)) (word_back v h.1)
  request_back sized again (Unlink u v) h = ap (λ x. Some (Unlink x (word_at (framed (request_bytes put (Unlink u v))) 3))) (word_back u h.0) ∙ ap (λ x. Some (Unlink u x)) (word_back v h.1)
  request_back sized again (Peel k r choice) h = ap (λ x. Some (Peel x (word_at (framed (request_bytes put (Peel k r choice))) 3) choice)) (word_back k h.0) ∙ ap (λ x. Some (Peel k x choice)) (word_back r h.1)
  request_back sized again Plant h = refl
  request_back sized again (Pick k r choice) h = ap (λ x. Some (Pick x (word_at (framed (request_bytes put (Pick k r choice))) 3) choice)) (word_back k h.0) ∙ ap (λ x. Some (Pick k x choice)) (word_back r h.1)
  request_back sized again Cores h = refl
  request_back sized again (Holder k p) h = ap (λ x. Some (Holder x (word_at (framed (request_bytes put (Holder k p))) 3))) (word_back k h.0) ∙ ap (λ x. Some (Holder k x)) (word_back p h.1)

  -- what the laws of a grade say
  module _ (spells : (bs : List ℕ) (g : G) → AllByRecursion Byte bs → get bs ≡ Some g → put g ≡ bs) (ranged : (bs : List ℕ) (g : G) → AllByRecursion Byte bs → get bs ≡ Some g → In g) (bs : List ℕ) (q : Request G) (h : AllByRecursion Byte bs) where
    abbrev Fits : Request G → Type 0
    Fits x = RequestFits In x × (request_bytes put x ≡ take (length bs - 1) bs)

    first_word : word_at bs 1 < 65536
    first_word = (word_at_lem bs h 1).0

    second_word : word_at bs 3 < 65536
    second_word = (word_at_lem bs h 3).0

    regraded_forth : (o : Option G) → get (take size (drop 3 bs)) ≡ o → kind_in bs ≡ 2 → length bs ≡ 4 + size → regraded (word_at bs 1) o ≡ Some q → Fits q
    regraded_forth None p k l e = let z : ◌≡◌ {A = ℕ} 0 1 = cc in absurd (omega arith)
    regraded_forth (Some g) p k l e =
        let part : AllByRecursion Byte (take size (drop 3 bs)) = All-take Byte size (drop 3 bs) (All-drop Byte 3 bs h) in
        landed Fits _ q e (((first_word, ranged _ g part p)), ap (λ x. 2 ∷ bytes16 (word_at bs 1) ++ x) (spells _ g part p) ∙ one_word_rest bs h 2 k size l)

    pub request_forth : length bs ≡ length_of size (kind_in bs) → request_of get size bs ≡ Some q → Fits q
    request_forth l =
        let k = kind_in bs in
        this_kind k 1 _ _ q (λ c m. landed Fits _ q m (first_word, one_word bs h 1 c (l ∙ ap (length_of size) c)))
        (this_kind k 2 _ _ q (λ c m. regraded_forth _ refl c (l ∙ ap (length_of size) c) m)
        (this_kind k 3 _ _ q (λ c m. landed Fits _ q m ((first_word, second_word), two_words bs h 3 c (l ∙ ap (length_of size) c)))
        (this_kind k 4 _ _ q (λ c m. landed Fits _ q m ((first_word, second_word), two_words bs h 4 c (l ∙ ap (length_of size) c)))
        (this_kind k 5 _ _ q (λ c m. landed Fits _ q m ((first_word, second_word, byte_at bs h 5), two_words_byte bs h 5 c (l ∙ ap (length_of size) c)))
        (this_kind k 6 _ _ q (λ c m. landed Fits _ q m (tt, no_field bs h 6 c (l ∙ ap (length_of size) c)))
        (this_kind k 7 _ _ q (λ c m. landed Fits _ q m ((first_word, second_word, byte_at bs h 5), two_words_byte bs h 7 c (l ∙ ap (length_of size) c)))
        (this_kind k 8 _ _ q (λ c m. landed Fits _ q m (tt, no_field bs h 8 c (l ∙ ap (length_of size) c)))
        (this_kind k 9 _ _ q (λ c m. landed Fits _ q m ((first_word, second_word), two_words bs h 9 c (l ∙ ap (length_of size) c)))
        (no_kind q)))))))))
