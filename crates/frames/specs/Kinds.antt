-- The kinds of frames, and the length of each. Assumes nothing.
--     lengths                     each kind with its length, check byte included; of 2, without the grade
--     table_length k              the length of kind k, 0 for no kind
--     length_of size k            .. where a grade takes size bytes
--     is_request k, is_reply k    the kinds that programs read, and those that they print
--     request_number k            the number of the kind of request k; of a kind of reply, reply_number k
--     KindRead number known b r   r is the kind of number b, or its refusal, where known says which numbers kinds have
use Rattle.std.specs.Prelude.{◌≡◌, ℕ, ◌+◌, Bool, true, false, cond, Result, MatchResult, ◌&&◌, ◌||◌, List, [], ◌∷◌, ◌==◌, nat_le}
use Rattle.frames.specs.declared.fault.FrameFault.{FrameFault}
use Rattle.frames.specs.declared.fault.FrameFault.TheVariants.{UnknownKind}
use Rattle.frames.specs.declared.reply.ReplyKind.{ReplyKind}
use Rattle.frames.specs.declared.reply.ReplyKind.TheVariants as reply
use Rattle.frames.specs.declared.request.RequestKind.{RequestKind}
use Rattle.frames.specs.declared.request.RequestKind.TheVariants as request

abbrev pub lengths : List (ℕ × ℕ)
lengths =
    (1, 4) ∷ (2, 4) ∷ (3, 6) ∷ (4, 6) ∷ (5, 7) ∷ (6, 2) ∷ (7, 7) ∷ (8, 2) ∷ (9, 6)
    ∷ (128, 3) ∷ (129, 6) ∷ (130, 6) ∷ (131, 4) ∷ (132, 6) ∷ (133, 4) ∷ (134, 2) ∷ (255, 8) ∷ []

abbrev pub beside : List (ℕ × ℕ) → ℕ → ℕ
beside [] k = 0
beside (row ∷ rows) k = cond (k == row.0) row.1 (beside rows k)

abbrev pub table_length : ℕ → ℕ
table_length k = beside lengths k

abbrev pub length_of : ℕ → ℕ → ℕ
length_of size k = table_length k + cond (k == 2) size 0

abbrev pub is_request : ℕ → Bool
is_request k = nat_le 1 k && nat_le k 9

abbrev pub is_reply : ℕ → Bool
is_reply k = (nat_le 128 k && nat_le k 134) || k == 255

abbrev pub request_number : RequestKind → ℕ
request_number request.Open = 1
request_number request.Regrade = 2
request_number request.Link = 3
request_number request.Unlink = 4
request_number request.Peel = 5
request_number request.Plant = 6
request_number request.Pick = 7
request_number request.Cores = 8
request_number request.Holder = 9

abbrev pub reply_number : ReplyKind → ℕ
reply_number reply.Done = 128
reply_number reply.Entries = 129
reply_number reply.Circle = 130
reply_number reply.Member = 131
reply_number reply.Core = 132
reply_number reply.Holder = 133
reply_number reply.NoHolder = 134
reply_number reply.Refusal = 255

abbrev pub KindRead : {K : Type 0} → (K → ℕ) → (ℕ → Bool) → ℕ → Result K FrameFault → Type 0
KindRead number known b r = MatchResult r (λ k. (number k ≡ b) × (known b ≡ true)) (λ e. (e ≡ UnknownKind) × (known b ≡ false))
