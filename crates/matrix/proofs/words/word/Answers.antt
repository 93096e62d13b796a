use Rattle.std.proofs.Common.{[], ◌∷◌, ◌++◌, length, drop, ap, ◌∙◌, arith}
use Rattle.matrix.specs.Bits.{bit_of}
use Rattle.matrix.proofs.Bytes.{sum_of, padded_word, whole_padded, word_bit}
use Rattle.matrix.proofs.words.word.Goals as goal

pub returns-in-Some : goal.returns-in-Some
returns-in-Some c = λ j.
    let bytes = c.args.bytes.now in
    let whole = whole_padded bytes c.in-Some.eight.now (omega (arith, c.in-Some.ensures.cases.enough)) c.in-Some.ensures.cases.same in
    ap (λ w. bit_of w j) (c.from_le_bytes.ensures ∙ ap sum_of whole ∙ padded_word bytes c.requires) ∙ word_bit bytes j (λ k. (c.type_inv.bytes k).fits)

pub returns : goal.returns
returns c = λ j.
    let bytes = c.args.bytes.now in
    let copied = ap (λ t. sum_of (t ++ drop (length bytes) (0 ∷ 0 ∷ 0 ∷ 0 ∷ 0 ∷ 0 ∷ 0 ∷ 0 ∷ []))) c.copy_from_slice.ensures.after in
    ap (λ w. bit_of w j) (c.from_le_bytes-2.ensures ∙ copied ∙ padded_word bytes c.requires) ∙ word_bit bytes j (λ k. (c.type_inv.bytes k).fits)
