-- Bytes, and the front of a row of places. Assumes nothing.
--     Byte b                      b is a byte
--     onto xs ys                  ys with xs written over its front, as far as ys goes
use Rattle.std.specs.Prelude.{ℕ, ◌<◌, List, ◌++◌, length, take, drop}

abbrev pub Byte : ℕ → Type 0
Byte b = b < 256

abbrev pub onto : {X : Type 0} → List X → List X → List X
onto xs ys = take (length ys) xs ++ drop (length xs) ys
