-- Replies are read from the bytes that they are written as, and from no others. Assumes nothing.
--     reply_forth                 what is read fits, and is what was written
use Rattle.std.specs.Prelude.{◌≡◌, ℕ, ◌-◌, ◌<◌, List, ◌∷◌, length, take, Some, None, Option}
use Rattle.std.specs.List.{AllByRecursion}
use Rattle.std.proofs.Common.{get_or, sym, refl, ap, ◌∙◌, arith}
use Rattle.grades.specs.Encoding.{bytes32}
use Rattle.grades.specs.Places.{Byte}
use Rattle.frames.specs.declared.fault.Layer.{Layer}
use Rattle.frames.specs.declared.reply.Reply.{Reply}
use Rattle.frames.specs.Fields.{byte_at, word_at_lem, long_at_lem, landed, no_field, one_byte, one_word, two_words, one_long, two_bytes_long, this_kind, no_kind}
use Rattle.frames.specs.Frames.{kind_in, word_at, long_at}
use Rattle.frames.specs.Kinds.{table_length}
use Rattle.frames.specs.Refusals.{layer_number, layer_of}
use Rattle.frames.specs.Replies.{reply_bytes, reply_of, refusal_from, ReplyFits}

layer_forth : (b : ℕ) (l : Layer) → layer_of b ≡ Some l → layer_number l ≡ b
layer_forth b l =
    this_kind b 1 _ _ l (λ c m. landed (λ x. layer_number x ≡ b) _ l m (sym c))
    (this_kind b 2 _ _ l (λ c m. landed (λ x. layer_number x ≡ b) _ l m (sym c))
    (this_kind b 3 _ _ l (λ c m. landed (λ x. layer_number x ≡ b) _ l m (sym c)) (no_kind l)))

module _ (bs : List ℕ) (p : Reply) (h : AllByRecursion Byte bs) where
  abbrev Fits : Reply → Type 0
  Fits x = ReplyFits x × (reply_bytes x ≡ take (length bs - 1) bs)

  first_word : word_at bs 1 < 65536
  first_word = (word_at_lem bs h 1).0

  second_word : word_at bs 3 < 65536
  second_word = (word_at_lem bs h 3).0

  refusal_forth : (o : Option Layer) → layer_of (get_or bs 2 0) ≡ o → kind_in bs ≡ 255 → length bs ≡ 8 → refusal_from (get_or bs 1 0) o (long_at bs 3) ≡ Some p → Fits p
  refusal_forth None q k l e = let z : ◌≡◌ {A = ℕ} 0 1 = cc in absurd (omega arith)
  refusal_forth (Some from) q k l e =
      landed Fits _ p e ((byte_at bs h 1, (long_at_lem bs h 3).0), ap (λ x. 255 ∷ get_or bs 1 0 ∷ x ∷ bytes32 (long_at bs 3)) (layer_forth (get_or bs 2 0) from q) ∙ two_bytes_long bs h 255 k l)

  pub reply_forth : length bs ≡ table_length (kind_in bs) → reply_of bs ≡ Some p → Fits p
  reply_forth l =
      let k = kind_in bs in
      this_kind k 128 _ _ p (λ c m. landed Fits _ p m (byte_at bs h 1, one_byte bs h 128 c (l ∙ ap table_length c)))
      (this_kind k 129 _ _ p (λ c m. landed Fits _ p m ((long_at_lem bs h 1).0, one_long bs h 129 c (l ∙ ap table_length c)))
      (this_kind k 130 _ _ p (λ c m. landed Fits _ p m ((first_word, second_word), two_words bs h 130 c (l ∙ ap table_length c)))
      (this_kind k 131 _ _ p (λ c m. landed Fits _ p m (first_word, one_word bs h 131 c (l ∙ ap table_length c)))
      (this_kind k 132 _ _ p (λ c m. landed Fits _ p m ((first_word, second_word), two_words bs h 132 c (l ∙ ap table_length c)))
      (this_kind k 133 _ _ p (λ c m. landed Fits _ p m (first_word, one_word bs h 133 c (l ∙ ap table_length c)))
      (this_kind k 134 _ _ p (λ c m. landed Fits _ p m (tt, no_field bs h 134 c (l ∙ ap table_length c)))
      (this_kind k 255 _ _ p (λ c m. refusal_forth _ refl c (l ∙ ap table_length c) m) (no_kind p))))))))
