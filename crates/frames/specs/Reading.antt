-- What a line is read as. Assumes nothing.
--     request_fault size bs       the first refusal of a frame that is sent to a program, where a grade takes size bytes
--     reply_fault bs              .. of one that a program printed
--     first_refusal o p           the first refusal of a line, or else of its frame
--     request_refusal size cs     the first refusal of a line that is sent to a program
--     reply_refusal cs            .. of one that a program printed
--     answered o m                the answer: the refusal, or what the frame means
--     reading known long m cs     what a line is read as, by which kinds are known, how long they are and what frames mean
--     read_request get size cs    the request in the line, or the line's first refusal
--     read_reply cs               the reply in the line, or its first refusal; an FF of no layer is of no kind
use Rattle.std.specs.Prelude.{ℕ, Bool, List, Some, None, Err, Option, Result}
use Rattle.frames.specs.declared.fault.FrameFault.{FrameFault}
use Rattle.frames.specs.declared.fault.FrameFault.TheVariants.{Line}
use Rattle.frames.specs.declared.fault.LineFault.{LineFault}
use Rattle.frames.specs.declared.reply.Reply.{Reply}
use Rattle.frames.specs.declared.request.Request.{Request}
use Rattle.frames.specs.Frames.{kind_in, frame_fault}
use Rattle.frames.specs.Kinds.{is_request, is_reply, table_length, length_of}
use Rattle.frames.specs.Lines.{bytes_in, line_fault}
use Rattle.frames.specs.Refusals.{meant}
use Rattle.frames.specs.Replies.{reply_of}
use Rattle.frames.specs.Requests.{request_of}

abbrev pub request_fault : ℕ → List ℕ → Option FrameFault
request_fault size bs = frame_fault (is_request (kind_in bs)) (length_of size (kind_in bs)) bs

abbrev pub reply_fault : List ℕ → Option FrameFault
reply_fault bs = frame_fault (is_reply (kind_in bs)) (table_length (kind_in bs)) bs

abbrev pub first_refusal : Option LineFault → Option FrameFault → Option FrameFault
first_refusal None p = p
first_refusal (Some e) p = Some (Line e)

abbrev pub request_refusal : ℕ → List ℕ → Option FrameFault
request_refusal size cs = first_refusal (line_fault cs) (request_fault size (bytes_in cs))

abbrev pub reply_refusal : List ℕ → Option FrameFault
reply_refusal cs = first_refusal (line_fault cs) (reply_fault (bytes_in cs))

abbrev pub answered : {X : Type 0} → Option FrameFault → Option X → Result X FrameFault
answered (Some e) m = Err e
answered None m = meant m

abbrev pub reading : {X : Type 0} → (ℕ → Bool) → (ℕ → ℕ) → (List ℕ → Option X) → List ℕ → Result X FrameFault
reading known long meaning cs =
    let bs = bytes_in cs in
    answered (first_refusal (line_fault cs) (frame_fault (known (kind_in bs)) (long (kind_in bs)) bs)) (meaning bs)

abbrev pub read_request : {G : Type 0} → (List ℕ → Option G) → ℕ → List ℕ → Result (Request G) FrameFault
read_request get size cs = answered (request_refusal size cs) (request_of get size (bytes_in cs))

abbrev pub read_reply : List ℕ → Result Reply FrameFault
read_reply cs = answered (reply_refusal cs) (reply_of (bytes_in cs))
