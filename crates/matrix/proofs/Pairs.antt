-- A pair whose two bits are flipped: the network with a link more or less, and what the square keeps. Assumes nothing.
use Rattle.std.proofs.Common.{◌≡◌, ℕ, ◌-◌, ◌*◌, ◌%◌, ◌^◌, ◌<◌, ◌≤◌, Bool, true, false, cond, not, ◌&&◌, ◌||◌, List, [], ◌∷◌, length, get_or, take, drop, set, sym, ap, ◌∙◌, subst, ap₂, arith}
use mathlib.Core.Path.{fun_ext}
use lib.Bits.{bit_xor}
use Rattle.std.proofs.lemmas.Grind.{common_steps}
use Rattle.std.proofs.lemmas.List.{length-set, drop-set-lt}
use Rattle.std.proofs.lemmas.Bool.{cond-false}
use Rattle.std.proofs.lemmas.Bool.Decides.{nat_tests}
use Rattle.networks.specs.Fixed.{Fixed}
use Rattle.networks.specs.Net.{Net}
use Rattle.networks.specs.Changes.{is_pair, with_link, without_link}
use Rattle.matrix.specs.Bits.{stride, place, bit_at, spare_at, net_in, flipped, pair_flipped}
use Rattle.matrix.specs.Memory.{fixed_in}
use Rattle.matrix.proofs.Squares.{place_lt, flip_here, flip_there, flip_spare}

-- what the bits of a matrix keep
pub record Kept (n : ℕ) (bits : List ℕ) : Type 0 where
  pub room : n * stride n ≤ length bits
  pub mirror : (x y : ℕ) → bit_at n bits x y ≡ bit_at n bits y x
  pub apart : (x : ℕ) → bit_at n bits x x ≡ false
  pub spare : (x y : ℕ) → spare_at n bits x y ≡ false

-- two bytes written, as the program does it
pub pair_written : (n : ℕ) (bits : List ℕ) (u v here there a b : ℕ) → here ≡ place n u v → there ≡ place n v u → here < length bits → there < length bits
    → let once = set bits here (bit_xor a (1 * 2 ^ (v % 8) % 256)) in a ≡ get_or bits here a → b ≡ get_or once there b → set once there (bit_xor b (1 * 2 ^ (u % 8) % 256)) ≡ pair_flipped n bits u v
pair_written n bits u v here there a b p q l m e f = grind (arith, common_steps)

pair_mirror : (u v x y : ℕ) → is_pair u v x y ≡ is_pair u v y x
pair_mirror u v x y = grind (arith, nat_tests)

pair_apart : (u v x : ℕ) → (u ≡ v → ⊥) → is_pair u v x x ≡ false
pair_apart u v x ne = grind (arith, nat_tests)

module _ (n : ℕ) (bits : List ℕ) (u v : ℕ) (lu : u < n) (lv : v < n) (ne : u ≡ v → ⊥) (room : n * stride n ≤ length bits) where
  pair_length : length (pair_flipped n bits u v) ≡ length bits
  pair_length = length-set _ _ _ ∙ length-set _ _ _

  room_once : n * stride n ≤ length (flipped n bits u v)
  room_once = let e : length (flipped n bits u v) ≡ length bits = length-set _ _ _ in omega arith

  first_here : bit_at n (pair_flipped n bits u v) u v ≡ not (bit_at n bits u v)
  first_here = flip_there n (flipped n bits u v) v u lv lu room_once u v (λ e. ne e.0) ∙ flip_here n bits u v lu lv room

  second_here : bit_at n (pair_flipped n bits u v) v u ≡ not (bit_at n bits v u)
  second_here = flip_here n (flipped n bits u v) v u lv lu room_once ∙ ap not (flip_there n bits u v lu lv room v u (λ e. ne e.1))

  neither : (x y : ℕ) → ((x ≡ u) × (y ≡ v) → ⊥) → ((x ≡ v) × (y ≡ u) → ⊥) → bit_at n (pair_flipped n bits u v) x y ≡ bit_at n bits x y
  neither x y a b = flip_there n (flipped n bits u v) v u lv lu room_once x y b ∙ flip_there n bits u v lu lv room x y a

  pair_bit : (x y : ℕ) → bit_at n (pair_flipped n bits u v) x y ≡ cond (is_pair u v x y) (not (bit_at n bits x y)) (bit_at n bits x y)
  pair_bit x y = grind (arith, nat_tests, first_here, second_here, neither x y)

  -- what the square keeps
  pair_mirrors : ((x y : ℕ) → bit_at n bits x y ≡ bit_at n bits y x) → (x y : ℕ) → bit_at n (pair_flipped n bits u v) x y ≡ bit_at n (pair_flipped n bits u v) y x
  pair_mirrors mirror x y =
      pair_bit x y ∙ ap₂ (λ b t. cond b (not t) t) (pair_mirror u v x y) (mirror x y) ∙ sym (pair_bit y x)

  pair_aparts : ((x : ℕ) → bit_at n bits x x ≡ false) → (x : ℕ) → bit_at n (pair_flipped n bits u v) x x ≡ false
  pair_aparts apart x = pair_bit x x ∙ cond-false _ _ _ (pair_apart u v x ne) ∙ apart x

  pair_spares : ((x y : ℕ) → spare_at n bits x y ≡ false) → (x y : ℕ) → spare_at n (pair_flipped n bits u v) x y ≡ false
  pair_spares spare x y = flip_spare n (flipped n bits u v) v u lv lu room_once x y ∙ flip_spare n bits u v lu lv room x y ∙ spare x y

  one_more : bit_at n bits u v ≡ false → bit_at n bits v u ≡ false → (x y : ℕ) → bit_at n (pair_flipped n bits u v) x y ≡ (is_pair u v x y || bit_at n bits x y)
  one_more p q x y = grind (arith, nat_tests, pair_bit x y)

  one_less : bit_at n bits u v ≡ true → bit_at n bits v u ≡ true → (x y : ℕ) → bit_at n (pair_flipped n bits u v) x y ≡ (not (is_pair u v x y) && bit_at n bits x y)
  one_less p q x y = grind (arith, nat_tests, pair_bit x y)

  pub net_linked : {G : Type 0} (grades : List G) → bit_at n bits u v ≡ false → bit_at n bits v u ≡ false → net_in n (pair_flipped n bits u v) grades ≡ with_link (net_in n bits grades) u v
  net_linked {G} grades p q =
      let of : (ℕ → ℕ → Bool) → Net G = λ f. record { persons = n; grades = take n grades; linked = f } in
      ap of (fun_ext (λ x. fun_ext (λ y. one_more p q x y)))

  pub net_unlinked : {G : Type 0} (grades : List G) → bit_at n bits u v ≡ true → bit_at n bits v u ≡ true → net_in n (pair_flipped n bits u v) grades ≡ without_link (net_in n bits grades) u v
  net_unlinked {G} grades p q =
      let of : (ℕ → ℕ → Bool) → Net G = λ f. record { persons = n; grades = take n grades; linked = f } in
      ap of (fun_ext (λ x. fun_ext (λ y. one_less p q x y)))

  -- what lies behind the rows stays
  pair_behind : drop (n * stride n) (pair_flipped n bits u v) ≡ drop (n * stride n) bits
  pair_behind =
      drop-set-lt (n * stride n) (flipped n bits u v) (place n v u) _ (place_lt n v u lv (omega arith))
      ∙ drop-set-lt (n * stride n) bits (place n u v) _ (place_lt n u v lu (omega arith))

  pub pair_fixed : {G : Type 0} (grades : List G) → fixed_in n (pair_flipped n bits u v) grades ≡ fixed_in n bits grades
  pair_fixed {G} grades =
      let of : ℕ → List ℕ → Fixed G = λ k b. record { sizes = k ∷ length grades ∷ []; ceiling = n - 1; grades_behind = drop n grades; cells_behind = b ∷ [] } in
      ap₂ of pair_length pair_behind

  pub pair_keeps : Kept n bits → (after : List ℕ) → after ≡ pair_flipped n bits u v → Kept n after
  pair_keeps k after e = subst (Kept n) (sym e) (record {
    room = omega (arith, pair_length);
    mirror = pair_mirrors k.mirror;
    apart = pair_aparts k.apart;
    spare = pair_spares k.spare;
  })
