-- A line is accepted exactly when it is the line that its request or reply is written as. Assumes nothing.
--     written_line bytes x        the line of the bytes of x with their check byte
--     request_line put q          the line that q is written as, where put g are the bytes of the grade g
--     reply_line p                the line that p is written as
--     refusal_in r                the refusal that r tells, if any
--     Exact In write cs r         r is what is written as cs and meets In, both ways
use Rattle.std.specs.Prelude.{◌≡◌, ℕ, List, Some, None, Ok, Err, Option, Result}
use Rattle.frames.specs.declared.fault.FrameFault.{FrameFault}
use Rattle.frames.specs.declared.reply.Reply.{Reply}
use Rattle.frames.specs.declared.request.Request.{Request}
use Rattle.frames.specs.Frames.{framed}
use Rattle.frames.specs.Lines.{line_of}
use Rattle.frames.specs.Replies.{reply_bytes}
use Rattle.frames.specs.Requests.{request_bytes}

abbrev pub written_line : {X : Type 0} → (X → List ℕ) → X → List ℕ
written_line bytes x = line_of (framed (bytes x))

abbrev pub request_line : {G : Type 0} → (G → List ℕ) → Request G → List ℕ
request_line put = written_line (request_bytes put)

abbrev pub reply_line : Reply → List ℕ
reply_line = written_line reply_bytes

abbrev pub refusal_in : {X : Type 0} → Result X FrameFault → Option FrameFault
refusal_in (Ok x) = None
refusal_in (Err e) = Some e

pub record Exact {X : Type 0} (In : X → Type 0) (write : X → List ℕ) (cs : List ℕ) (r : Result X FrameFault) : Type 0 where
  pub only : (q : X) → r ≡ Ok q → In q × (cs ≡ write q)
  pub all : (q : X) → In q → cs ≡ write q → r ≡ Ok q
