-- Replies as bytes, both ways. Assumes nothing.
--     reply_kind p                the kind of the reply
--     reply_bytes p               its kind and fields
--     reply_of bs                 the reply whose kind and fields stand in the bytes
--     refusal_of f line           the reply that tells the refusal f of that line
--     ReplyFits p                 the fields are in the range of their types
use Rattle.std.specs.Prelude.{ℕ, ◌<◌, cond, List, [], ◌∷◌, ◌++◌, Some, None, Option, ◌==◌, slice_index}
use Rattle.grades.specs.Encoding.{bytes32}
use Rattle.frames.specs.declared.fault.FrameFault.{FrameFault}
use Rattle.frames.specs.declared.fault.Layer.{Layer}
use Rattle.frames.specs.declared.reply.Reply.{Reply}
use Rattle.frames.specs.declared.reply.Reply.TheVariants.{Done, Entries, Circle, Member, Core, Holder, NoHolder, Refusal}
use Rattle.frames.specs.Frames.{kind_in, bytes16, word_at, long_at}
use Rattle.frames.specs.Refusals.{fault_number, fault_layer, layer_number, layer_of}

abbrev pub reply_kind : Reply → ℕ
reply_kind (Done kind) = 128
reply_kind (Entries count) = 129
reply_kind (Circle weakest members) = 130
reply_kind (Member person) = 131
reply_kind (Core person number) = 132
reply_kind (Holder person) = 133
reply_kind NoHolder = 134
reply_kind (Refusal number from line) = 255

abbrev pub reply_bytes : Reply → List ℕ
reply_bytes (Done kind) = 128 ∷ kind ∷ []
reply_bytes (Entries count) = 129 ∷ bytes32 count
reply_bytes (Circle weakest members) = 130 ∷ bytes16 weakest ++ bytes16 members
reply_bytes (Member person) = 131 ∷ bytes16 person
reply_bytes (Core person number) = 132 ∷ bytes16 person ++ bytes16 number
reply_bytes (Holder person) = 133 ∷ bytes16 person
reply_bytes NoHolder = 134 ∷ []
reply_bytes (Refusal number from line) = 255 ∷ number ∷ layer_number from ∷ bytes32 line

abbrev pub refusal_from : ℕ → Option Layer → ℕ → Option Reply
refusal_from number None line = None
refusal_from number (Some from) line = Some (Refusal number from line)

abbrev pub reply_as : ℕ → List ℕ → Option Reply
reply_as kind bs =
    cond (kind == 128) (Some (Done (slice_index bs 1)))
    (cond (kind == 129) (Some (Entries (long_at bs 1)))
    (cond (kind == 130) (Some (Circle (word_at bs 1) (word_at bs 3)))
    (cond (kind == 131) (Some (Member (word_at bs 1)))
    (cond (kind == 132) (Some (Core (word_at bs 1) (word_at bs 3)))
    (cond (kind == 133) (Some (Holder (word_at bs 1)))
    (cond (kind == 134) (Some NoHolder)
    (cond (kind == 255) (refusal_from (slice_index bs 1) (layer_of (slice_index bs 2)) (long_at bs 3)) None)))))))

abbrev pub reply_of : List ℕ → Option Reply
reply_of bs = reply_as (kind_in bs) bs

abbrev pub ReplyFits : Reply → Type 0
ReplyFits (Done kind) = kind < 256
ReplyFits (Entries count) = count < 4294967296
ReplyFits (Circle weakest members) = (weakest < 65536) × (members < 65536)
ReplyFits (Member person) = person < 65536
ReplyFits (Core person number) = (person < 65536) × (number < 65536)
ReplyFits (Holder person) = person < 65536
ReplyFits NoHolder = Unit {0}
ReplyFits (Refusal number from line) = (number < 256) × (line < 4294967296)

abbrev pub refusal_of : FrameFault → ℕ → Reply
refusal_of f line = Refusal (fault_number f) (fault_layer f) line
