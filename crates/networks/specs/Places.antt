-- The front of a row of places. Assumes nothing.
--     filled n x xs               xs with x at its first n places, as far as it goes
use Rattle.std.specs.Prelude.{ℕ, min, List, ◌++◌, length, drop, replicate}

abbrev pub filled : {X : Type 0} → ℕ → X → List X → List X
filled n x xs = replicate (min n (length xs)) x ++ drop n xs
