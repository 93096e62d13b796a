-- The two kinds of grade as bytes, the high byte first. Assumes nothing.
--     bytes32 n                   the four bytes of n
--     point_bytes z               two's complement
--     point_of bytes              the points of four bytes
--     laurel_bytes c s            the class, then the score
--     laurel_of bytes             the laurels of five bytes
use Rattle.std.specs.Prelude.{ℕ, ◌+◌, ◌*◌, ◌/◌, ◌%◌, List, [], ◌∷◌, Some, None, Option}
use Rattle.std.specs.Int.{w32}
use Rattle.std.proofs.Common.{of_z, to_z}
use Rattle.grades.specs.declared.points.Points.{Points}
use Rattle.grades.specs.declared.laurels.Laurels.{Laurels}

abbrev pub bytes32 : ℕ → List ℕ
bytes32 n = (n / 16777216 % 256) ∷ (n / 65536 % 256) ∷ (n / 256 % 256) ∷ (n % 256) ∷ []

abbrev pub number32 : ℕ → ℕ → ℕ → ℕ → ℕ
number32 a b c d = a * 16777216 + b * 65536 + c * 256 + d

abbrev pub point_bytes : Points → List ℕ
point_bytes g = bytes32 (of_z w32 g.0)

abbrev pub point_of : List ℕ → Option Points
point_of (a ∷ b ∷ c ∷ d ∷ []) = Some (record { 0 = to_z w32 (number32 a b c d) })
point_of _ = None

abbrev pub laurel_bytes : Laurels → List ℕ
laurel_bytes g = g.class ∷ bytes32 g.score

abbrev pub laurel_of : List ℕ → Option Laurels
laurel_of (a ∷ b ∷ c ∷ d ∷ e ∷ []) = Some (record { class = a; score = number32 b c d e })
laurel_of _ = None
