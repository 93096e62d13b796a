-- What makes the reading of a kind of message exact, whatever the message. Assumes nothing.
use Rattle.std.proofs.Common.{◌≡◌, ℕ, ◌+◌, ◌-◌, ◌<◌, Bool, true, false, List, [], ◌∷◌, length, take, replicate, is_some, Some, None, Ok, Err, Option, Result, sym, refl, ap, ◌∙◌, subst, arith}
use Rattle.std.specs.List.{AllByRecursion}
use Rattle.std.proofs.lemmas.List.{take_at, get_or_append_left}
use Rattle.std.proofs.lemmas.Bool.{both_ways}
use Rattle.grades.specs.Places.{Byte}
use Rattle.frames.specs.declared.fault.FrameFault.{FrameFault}
use Rattle.frames.specs.declared.fault.FrameFault.TheVariants.{Line, UnknownKind}
use Rattle.frames.specs.declared.fault.LineFault.{LineFault}
use Rattle.frames.specs.declared.frame.Frame.{Frame}
use Rattle.frames.specs.Exact.{Exact, refusal_in}
use Rattle.frames.specs.Frames.{kind_in, framed, check_of, frame_fault}
use Rattle.frames.specs.Lines.{line_of, bytes_in, line_fault, granted, unless, held, frame_of, frame_after}
use Rattle.frames.specs.Reading.{first_refusal, answered, reading}
use Rattle.frames.specs.Refusals.{meant}
use Rattle.frames.proofs.Checks.{framed_sum, framed_bytes, length_framed, unframed, frame_means, frame_granted}
use Rattle.frames.proofs.Letters.{spelt_line, bytes_back, line_granted}

refused_by : {E : Type 0} (o : Option E) (e : E) → Err e ≡ granted o → o ≡ Some e
refused_by None e p = let z : ◌≡◌ {A = ℕ} 0 1 = cc in absurd (omega arith)
refused_by (Some f) e p = cc

granted_by : {E : Type 0} (o : Option E) → Ok tt ≡ granted o → o ≡ None
granted_by None p = refl
granted_by (Some f) p = let z : ◌≡◌ {A = ℕ} 0 1 = cc in absurd (omega arith)

-- a refused line is told as such
pub read_refused : {X : Type 0} (cs : List ℕ) (p : Option FrameFault) (m : Option X) (e : LineFault) (r : Result X FrameFault) → r ≡ Err (Line e) → Err e ≡ granted (line_fault cs) → r ≡ answered (first_refusal (line_fault cs) p) m
read_refused cs p m e r a b = a ∙ sym (ap (λ o. answered (first_refusal o p) m) (refused_by (line_fault cs) e b))

-- the frame that was filled holds the bytes of the line
pub read_passed : {X : Type 0} (fault : List ℕ → Option FrameFault) (meaning : List ℕ → Option X) (f g : Frame) (cs : List ℕ) (r : Result X FrameFault) → Ok tt ≡ granted (line_fault cs) → g ≡ frame_after f cs
    → r ≡ answered (fault (held g)) (meaning (held g)) → r ≡ answered (first_refusal (line_fault cs) (fault (bytes_in cs))) (meaning (bytes_in cs))
read_passed fault meaning f g cs r a b e =
    let none = granted_by (line_fault cs) a in
    let bs = bytes_in cs in
    let same : held g ≡ bs = ap held (b ∙ ap (λ o. unless o (frame_of bs) f) none) ∙ take_at bs (replicate (32 - length bs) 0) (length bs) refl in
    e ∙ ap (λ x. answered (fault x) (meaning x)) same ∙ sym (ap (λ o. answered (first_refusal o (fault bs)) (meaning bs)) none)

-- the ways out behind the line: its kind, its length or its check byte is refused, or it is read
module _ {X : Type 0} (known : ℕ → Bool) (long : ℕ → ℕ) (meaning : List ℕ → Option X) (bs : List ℕ) where
  abbrev pub Answers : Result X FrameFault → Type 0
  Answers r = r ≡ answered (frame_fault (known (kind_in bs)) (long (kind_in bs)) bs) (meaning bs)

  pub kind_refused : (r : Result X FrameFault) → r ≡ Err UnknownKind → known (kind_in bs) ≡ false → Answers r
  kind_refused r e k = e ∙ sym (ap (λ b. answered (frame_fault b (long (kind_in bs)) bs) (meaning bs)) k)

  module _ (n : ℕ) (r : Result X FrameFault) where
    as_known : known (kind_in bs) ≡ true → n ≡ long (kind_in bs) → (o : Option FrameFault) → frame_fault true n bs ≡ o → frame_fault (known (kind_in bs)) (long (kind_in bs)) bs ≡ o
    as_known k l o e = ap (λ b. frame_fault b (long (kind_in bs)) bs) k ∙ ap (λ m. frame_fault true m bs) (sym l) ∙ e

    pub frame_refused : (e : FrameFault) → r ≡ Err e → known (kind_in bs) ≡ true → n ≡ long (kind_in bs) → Err e ≡ granted (frame_fault true n bs) → Answers r
    frame_refused e p k l g = p ∙ sym (ap (λ o. answered o (meaning bs)) (as_known k l (Some e) (refused_by (frame_fault true n bs) e g)))

    pub frame_passed : known (kind_in bs) ≡ true → n ≡ long (kind_in bs) → Ok tt ≡ granted (frame_fault true n bs) → r ≡ meant (meaning bs) → Answers r
    frame_passed k l g e = e ∙ sym (ap (λ o. answered o (meaning bs)) (as_known k l None (granted_by (frame_fault true n bs) g)))

pub record Faithful {X : Type 0} (known : ℕ → Bool) (long : ℕ → ℕ) (meaning : List ℕ → Option X) (fields : X → List ℕ) (In : X → Type 0) : Type 0 where
  pub bytes : (q : X) → In q → AllByRecursion Byte (fields q)
  pub kind : (q : X) → known (kind_in (fields q)) ≡ true
  pub size : (q : X) → length (fields q) + 1 ≡ long (kind_in (fields q))
  pub some : (q : X) → 0 < length (fields q)
  pub room : (q : X) → length (fields q) < 32
  pub back : (q : X) → In q → meaning (framed (fields q)) ≡ Some q
  pub ranged : (bs : List ℕ) (q : X) → AllByRecursion Byte bs → length bs ≡ long (kind_in bs) → meaning bs ≡ Some q → In q
  pub forth : (bs : List ℕ) (q : X) → AllByRecursion Byte bs → length bs ≡ long (kind_in bs) → meaning bs ≡ Some q → fields q ≡ take (length bs - 1) bs

answer_ok : {X : Type 0} (o : Option FrameFault) (m : Option X) (q : X) → answered o m ≡ Ok q → (o ≡ None) × (m ≡ Some q)
answer_ok (Some e) m q p = let z : ◌≡◌ {A = ℕ} 0 1 = cc in absurd (omega arith)
answer_ok None None q p = let z : ◌≡◌ {A = ℕ} 0 1 = cc in absurd (omega arith)
answer_ok None (Some x) q p = (refl, cc)

first_none : (o : Option LineFault) (p : Option FrameFault) → first_refusal o p ≡ None → (o ≡ None) × (p ≡ None)
first_none None p e = (refl, e)
first_none (Some x) p e = let z : ◌≡◌ {A = ℕ} 0 1 = cc in absurd (omega arith)

module _ {X : Type 0} (known : ℕ → Bool) (long : ℕ → ℕ) (meaning : List ℕ → Option X) where
  module _ (fields : X → List ℕ) (In : X → Type 0) (faithful : Faithful known long meaning fields In) where
    read_only : (cs : List ℕ) (q : X) → reading known long meaning cs ≡ Ok q → In q × (cs ≡ line_of (framed (fields q)))
    read_only cs q e =
        let bs = bytes_in cs in
        let (none, some) = answer_ok _ (meaning bs) q e in
        let (line, frame) = first_none (line_fault cs) _ none in
        let (s, positive) = spelt_line cs line in
        let (k, l, t) = frame_means (known (kind_in bs)) (long (kind_in bs)) bs frame in
        let half = s.half in
        let same = faithful.forth bs q s.bytes l some in
        (faithful.ranged bs q s.bytes l some, sym (ap (λ x. line_of (framed x)) same ∙ ap line_of (unframed bs s.bytes (omega arith) t) ∙ s.again))

    meant_back : (q : X) → In q → reading known long meaning (line_of (framed (fields q))) ≡ Ok q
    meant_back q h =
        let bs = framed (fields q) in
        let n = length_framed (fields q) in
        let some = faithful.some q in
        let few = faithful.room q in
        let same : bytes_in (line_of bs) ≡ bs = bytes_back bs (framed_bytes (fields q) (faithful.bytes q h)) in
        let kind : kind_in bs ≡ kind_in (fields q) = get_or_append_left (fields q) (check_of (fields q) ∷ []) 0 0 some in
        let frame = frame_granted (known (kind_in bs)) (long (kind_in bs)) bs (ap known kind ∙ faithful.kind q) (n ∙ faithful.size q ∙ ap long (sym kind)) (framed_sum (fields q)) in
        ap (λ o. answered (first_refusal o (frame_fault (known (kind_in (bytes_in (line_of bs)))) (long (kind_in (bytes_in (line_of bs)))) (bytes_in (line_of bs)))) (meaning (bytes_in (line_of bs)))) (line_granted bs (omega arith) (omega arith))
        ∙ ap (λ x. answered (frame_fault (known (kind_in x)) (long (kind_in x)) x) (meaning x)) same
        ∙ ap (λ o. answered o (meaning bs)) frame ∙ ap (λ m. answered None m) (faithful.back q h)

    pub exact_of : (cs : List ℕ) → Exact In (λ q. line_of (framed (fields q))) cs (reading known long meaning cs)
    exact_of cs = record { only = read_only cs; all = λ q h e. ap (reading known long meaning) e ∙ meant_back q h }

    -- what the reader owes, of whatever it answers
    pub record Told (cs : List ℕ) (r : Result X FrameFault) : Type 0 where
      pub answer : r ≡ reading known long meaning cs
      pub exact : Exact In (λ q. line_of (framed (fields q))) cs r

    pub told : (cs : List ℕ) (r : Result X FrameFault) → r ≡ reading known long meaning cs → Told cs r
    told cs r e = record { answer = e; exact = subst (Exact In (λ q. line_of (framed (fields q))) cs) (sym e) (exact_of cs) }

    -- .. once the line is read into the frame
    pub told_passed : (f g : Frame) (cs : List ℕ) (r : Result X FrameFault) → Ok tt ≡ granted (line_fault cs) → g ≡ frame_after f cs → Answers known long meaning (held g) r → Told cs r
    told_passed f g cs r a b e = told cs r (read_passed (λ bs. frame_fault (known (kind_in bs)) (long (kind_in bs)) bs) meaning f g cs r a b e)

  -- where the frame's refusals leave nothing unread, the answer tells the first of them all
  pub refusal_of_lem : ((bs : List ℕ) → known (kind_in bs) ≡ true → length bs ≡ long (kind_in bs) → is_some (meaning bs) ≡ true) → (cs : List ℕ)
      → refusal_in (reading known long meaning cs) ≡ first_refusal (line_fault cs) (frame_fault (known (kind_in (bytes_in cs))) (long (kind_in (bytes_in cs))) (bytes_in cs))
  refusal_of_lem meant cs =
      tells (first_refusal (line_fault cs) _) (meaning (bytes_in cs)) (λ e. (let (k, l, t) = frame_means _ _ (bytes_in cs) (first_none (line_fault cs) _ e).1 in meant (bytes_in cs) k l))
    where
      tells : (o : Option FrameFault) (m : Option X) → (o ≡ None → is_some m ≡ true) → refusal_in (answered o m) ≡ o
      tells (Some e) m f = refl
      tells None (Some x) f = refl
      tells None None f = absurd (both_ways false refl (f refl))
