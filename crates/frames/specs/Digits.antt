-- Hexadecimal digits: 0 to 9 and A to F. Assumes nothing.
--     is_digit c                  the character c is a digit
--     value_of c                  what the digit c stands for
--     letter_of d                 the digit that stands for d
--     digit_of c                  what c stands for, or its refusal
use Rattle.std.specs.Prelude.{ℕ, ◌+◌, ◌-◌, Bool, cond, ◌&&◌, ◌||◌, Ok, Err, Result, nat_le, nat_lt}
use Rattle.frames.specs.declared.fault.LineFault.{LineFault}
use Rattle.frames.specs.declared.fault.LineFault.TheVariants.{NoDigit}

abbrev pub is_digit : ℕ → Bool
is_digit c = (nat_le 48 c && nat_le c 57) || (nat_le 65 c && nat_le c 70)

abbrev pub value_of : ℕ → ℕ
value_of c = cond (nat_le c 57) (c - 48) (c - 55)

abbrev pub letter_of : ℕ → ℕ
letter_of d = cond (nat_lt d 10) (d + 48) (d + 55)

abbrev pub digit_of : ℕ → Result ℕ LineFault
digit_of c = cond (is_digit c) (Ok (value_of c)) (Err NoDigit)
