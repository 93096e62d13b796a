use Rattle.std.proofs.Common.{ℕ, ◌<◌, List, get_or, sym, refl, subst}
use Rattle.std.proofs.lemmas.List.{take-append-drop}
use Rattle.matrix.proofs.Packs.{packs}
use Rattle.matrix.proofs.opening.BitMatrixOpening.close.Goals as goal

pub returns : goal.returns
returns g c =
    let s = c.args.self.square in
    let grades = c.args.self.grades.items in
    let small : (i : ℕ) → get_or s.bits.items i 0 < 256 = λ i. subst (λ (t : List ℕ). get_or t i 0 < 256) c.deref.ensures.value (c.are_bytes.ensures i) in
    record { bytes = packs s.n s.bits.items s.spare small grades s.room; graded = sym (take-append-drop s.n grades); sized = refl }
