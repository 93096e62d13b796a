-- Requests as bytes, both ways. Assumes nothing.
--     request_kind q              the kind of the request
--     request_bytes put q         its kind and fields, where put g are the bytes of the grade g
--     request_of get size bs      the request whose kind and fields stand in the bytes, where get gives the grade of size bytes
--     RequestFits In q            the fields are in the range of their types, a grade where it meets In
use Rattle.std.specs.Prelude.{ℕ, ◌<◌, cond, List, [], ◌∷◌, ◌++◌, take, drop, Some, None, Option, ◌==◌, slice_index}
use Rattle.frames.specs.declared.request.Request.{Request}
use Rattle.frames.specs.declared.request.Request.TheVariants.{Open, Regrade, Link, Unlink, Peel, Plant, Pick, Cores, Holder}
use Rattle.frames.specs.Frames.{kind_in, bytes16, word_at}

abbrev pub request_kind : {G : Type 0} → Request G → ℕ
request_kind (Open n) = 1
request_kind (Regrade person grade) = 2
request_kind (Link u v) = 3
request_kind (Unlink u v) = 4
request_kind (Peel k r choice) = 5
request_kind Plant = 6
request_kind (Pick k r choice) = 7
request_kind Cores = 8
request_kind (Holder k person) = 9

abbrev pub request_bytes : {G : Type 0} → (G → List ℕ) → Request G → List ℕ
request_bytes put (Open n) = 1 ∷ bytes16 n
request_bytes put (Regrade person grade) = 2 ∷ bytes16 person ++ put grade
request_bytes put (Link u v) = 3 ∷ bytes16 u ++ bytes16 v
request_bytes put (Unlink u v) = 4 ∷ bytes16 u ++ bytes16 v
request_bytes put (Peel k r choice) = 5 ∷ bytes16 k ++ bytes16 r ++ choice ∷ []
request_bytes put Plant = 6 ∷ []
request_bytes put (Pick k r choice) = 7 ∷ bytes16 k ++ bytes16 r ++ choice ∷ []
request_bytes put Cores = 8 ∷ []
request_bytes put (Holder k person) = 9 ∷ bytes16 k ++ bytes16 person

abbrev pub regraded : {G : Type 0} → ℕ → Option G → Option (Request G)
regraded person None = None
regraded person (Some g) = Some (Regrade person g)

abbrev pub request_as : {G : Type 0} → (List ℕ → Option G) → ℕ → ℕ → List ℕ → Option (Request G)
request_as get size kind bs =
    cond (kind == 1) (Some (Open (word_at bs 1)))
    (cond (kind == 2) (regraded (word_at bs 1) (get (take size (drop 3 bs))))
    (cond (kind == 3) (Some (Link (word_at bs 1) (word_at bs 3)))
    (cond (kind == 4) (Some (Unlink (word_at bs 1) (word_at bs 3)))
    (cond (kind == 5) (Some (Peel (word_at bs 1) (word_at bs 3) (slice_index bs 5)))
    (cond (kind == 6) (Some Plant)
    (cond (kind == 7) (Some (Pick (word_at bs 1) (word_at bs 3) (slice_index bs 5)))
    (cond (kind == 8) (Some Cores)
    (cond (kind == 9) (Some (Holder (word_at bs 1) (word_at bs 3))) None))))))))

abbrev pub request_of : {G : Type 0} → (List ℕ → Option G) → ℕ → List ℕ → Option (Request G)
request_of get size bs = request_as get size (kind_in bs) bs

abbrev pub RequestFits : {G : Type 0} → (G → Type 0) → Request G → Type 0
RequestFits In (Open n) = n < 65536
RequestFits In (Regrade person grade) = (person < 65536) × In grade
RequestFits In (Link u v) = (u < 65536) × (v < 65536)
RequestFits In (Unlink u v) = (u < 65536) × (v < 65536)
RequestFits In (Peel k r choice) = (k < 65536) × (r < 65536) × (choice < 256)
RequestFits In Plant = Unit {0}
RequestFits In (Pick k r choice) = (k < 65536) × (r < 65536) × (choice < 256)
RequestFits In Cores = Unit {0}
RequestFits In (Holder k person) = (k < 65536) × (person < 65536)
