-- Frames: kind, fields with the high byte first, check byte. Assumes nothing.
--     total bs                    the sum of the bytes
--     check_of bs                 the byte that they lack for their sum to be a multiple of 256
--     framed bs                   kind and fields with their check byte
--     kind_in bs                  the first byte; 0 where there is none
--     bytes16 n                   the two bytes of n; four are bytes32 n
--     word_at bs i, long_at bs i  the number that stands at byte i, in two bytes and in four
--     frame_fault known n bs      the first refusal of a frame, if its kind is known and has length n
use Rattle.std.specs.Prelude.{ℕ, ◌+◌, ◌-◌, ◌*◌, ◌/◌, ◌%◌, Bool, cond, List, [], ◌∷◌, ◌++◌, length, Some, None, Option, ◌==◌, slice_index}
use Rattle.grades.specs.Encoding.{number32}
use Rattle.frames.specs.declared.fault.FrameFault.{FrameFault}
use Rattle.frames.specs.declared.fault.FrameFault.TheVariants.{UnknownKind, WrongLength, WrongCheck}

abbrev pub total : List ℕ → ℕ
total [] = 0
total (b ∷ bs) = b + total bs

abbrev pub check_of : List ℕ → ℕ
check_of bs = (256 - total bs % 256) % 256

abbrev pub framed : List ℕ → List ℕ
framed bs = bs ++ check_of bs ∷ []

abbrev pub kind_in : List ℕ → ℕ
kind_in bs = slice_index bs 0

abbrev pub bytes16 : ℕ → List ℕ
bytes16 n = (n / 256 % 256) ∷ (n % 256) ∷ []

abbrev pub word_at : List ℕ → ℕ → ℕ
word_at bs i = slice_index bs i * 256 + slice_index bs (i + 1)

abbrev pub long_at : List ℕ → ℕ → ℕ
long_at bs i = number32 (slice_index bs i) (slice_index bs (i + 1)) (slice_index bs (i + 2)) (slice_index bs (i + 3))

abbrev pub frame_fault : Bool → ℕ → List ℕ → Option FrameFault
frame_fault known n bs =
    cond known (cond (length bs == n) (cond (total bs % 256 == 0) None (Some WrongCheck)) (Some WrongLength)) (Some UnknownKind)
