-- What a row of the example table says. Assumes nothing.
--     example_line e              the characters of the row
--     Stands e                    the line is granted, as a request over points or as a reply, and stands for these bytes
use Rattle.std.specs.Prelude.{◌≡◌, ℕ, ◌*◌, cond, List, take, None}
use Rattle.frames.specs.declared.examples.Example.{Example}
use Rattle.frames.specs.Frames.{kind_in}
use Rattle.frames.specs.Kinds.{is_request}
use Rattle.frames.specs.Lines.{bytes_in, frame_of}
use Rattle.frames.specs.Reading.{request_refusal, reply_refusal}

abbrev pub example_line : Example → List ℕ
example_line e = take (2 * e.frame.len) e.line

abbrev pub Stands : Example → Type 0
Stands e =
    (frame_of (bytes_in (example_line e)) ≡ e.frame) × (kind_in e.frame.bytes ≡ e.kind)
    × (cond (is_request e.kind) (request_refusal 4 (example_line e)) (reply_refusal (example_line e)) ≡ None)
