-- A line of digits, and the bytes that it stands for, in a frame. Assumes nothing.
--     all_digits cs               every character is a digit
--     bytes_in cs                 the bytes of a line, two digits each
--     line_of bs                  the line that the bytes are written as
--     wrong_size n                no line has n characters: none, an odd number or more than 64
--     line_fault cs               the first refusal of the line
--     held f                      the bytes of the frame
--     padded bs                   32 places with the bytes in front; those behind are 0
--     frame_of bs                 the frame of the bytes
--     frame_after f cs            what f holds once the line was read into it
--     shown l                     the characters of the line
--     typed cs                    the line of the characters; the places behind them are 0
--     granted o, unless o y x     what follows from a first refusal, or from none: the answer; y, or x on refusal
use Rattle.std.specs.Prelude.{ℕ, ◌+◌, ◌-◌, ◌*◌, ◌/◌, ◌%◌, Bool, true, cond, ◌&&◌, ◌||◌, List, [], ◌∷◌, ◌++◌, length, take, replicate, Some, None, Ok, Err, Option, Result, ◌==◌, nat_lt}
use Rattle.frames.specs.declared.fault.LineFault.{LineFault}
use Rattle.frames.specs.declared.fault.LineFault.TheVariants.{WrongSize, NoDigit}
use Rattle.frames.specs.declared.frame.Frame.{Frame}
use Rattle.frames.specs.declared.line.Line.{Line}
use Rattle.frames.specs.Digits.{is_digit, value_of, letter_of}

abbrev pub all_digits : List ℕ → Bool
all_digits [] = true
all_digits (c ∷ cs) = is_digit c && all_digits cs

abbrev pub bytes_in : List ℕ → List ℕ
bytes_in [] = []
bytes_in (a ∷ []) = []
bytes_in (a ∷ b ∷ cs) = (value_of a * 16 + value_of b) ∷ bytes_in cs

abbrev pub line_of : List ℕ → List ℕ
line_of [] = []
line_of (b ∷ bs) = letter_of (b / 16 % 16) ∷ letter_of (b % 16) ∷ line_of bs

abbrev pub wrong_size : ℕ → Bool
wrong_size n = n == 0 || (n % 2 == 1 || nat_lt 64 n)

abbrev pub line_fault : List ℕ → Option LineFault
line_fault cs = cond (wrong_size (length cs)) (Some WrongSize) (cond (all_digits cs) None (Some NoDigit))

abbrev pub granted : {E : Type 0} → Option E → Result (Unit {0}) E
granted None = Ok tt
granted (Some e) = Err e

abbrev pub unless : {E X : Type 0} → Option E → X → X → X
unless None y x = y
unless (Some e) y x = x

abbrev pub held : Frame → List ℕ
held f = take f.len f.bytes

abbrev pub padded : List ℕ → List ℕ
padded bs = bs ++ replicate (32 - length bs) 0

abbrev pub frame_of : List ℕ → Frame
frame_of bs = record { bytes = padded bs; len = length bs }

abbrev pub frame_after : Frame → List ℕ → Frame
frame_after f cs = unless (line_fault cs) (frame_of (bytes_in cs)) f

abbrev pub shown : Line → List ℕ
shown l = take l.len l.text

abbrev pub typed : List ℕ → Line
typed cs = record { text = cs ++ replicate (64 - length cs) 0; len = length cs }
