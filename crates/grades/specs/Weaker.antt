-- The order of persons: by grade, and of level grades the smaller number is weaker. Assumes nothing.
--     weaker_by le g u h v        person u with grade g is weaker than person v with grade h
--     rank_at_most le g u h v     .. or is that person
use Rattle.std.specs.Prelude.{ℕ, Bool, not, ◌&&◌, ◌||◌, nat_le, nat_lt}

abbrev pub weaker_by : {G : Type 0} → (G → G → Bool) → G → ℕ → G → ℕ → Bool
weaker_by le g u h v = le g h && (not (le h g) || nat_lt u v)

abbrev pub rank_at_most : {G : Type 0} → (G → G → Bool) → G → ℕ → G → ℕ → Bool
rank_at_most le g u h v = le g h && (not (le h g) || nat_le u v)
