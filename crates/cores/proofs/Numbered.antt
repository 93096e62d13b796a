-- Core numbers, one k after another, and when they are refused. Assumes nothing.
use Rattle.std.proofs.Common.{◌≡◌, ℕ, suc, ◌+◌, ◌-◌, ◌*◌, ◌<◌, ◌≤◌, min, Bool, true, false, ◌⊎◌, List, ◌++◌, length, get_or, drop, set, Some, None, Ok, Option, Result, sym, refl, ap, ◌∙◌, inl, inr, arith}
use Rattle.std.proofs.lemmas.List.FromFn.{length-map-range_with_len, get_or-map-range_with_len}
use Rattle.std.proofs.lemmas.List.{get_or-set_same, get_or-set_other, get_or_append_left, get_or-append_right, get_or-drop, ext_get_or, length-append, length-drop, take_all}
use Rattle.std.proofs.lemmas.Bool.{cases_lt, cases_eq, cases_Bool, both_ways, cond-false, le-ltb}
use Rattle.faults.specs.Answers.{answered, unless}
use Rattle.faults.specs.declared.call_fault.CallFault.{CallFault}
use Rattle.grades.specs.Places.{onto}
use Rattle.networks.specs.Net.{Net}
use Rattle.meaning.specs.Persons.{graph_of, cores_of}
use Rattle.theory.specs.Cores.{core, everyone, core_number}
use Rattle.theory.specs.Graphs.{Graph}
use Rattle.theory.specs.Sets.{Set, ◌∈◌}
use Rattle.theory.proofs.Cores.{core_part, core_less, core_same, everyone_within}
use Rattle.theory.proofs.Counting.{count_le}
use Rattle.theory.proofs.Loops.{cascade_keeps_core}
use Rattle.theory.proofs.Numbers.{number_tells}
use Rattle.cores.specs.Answer.{Noted, cores_fault, KeptIf}
use Rattle.cores.specs.Lanes.{Lanes, alive, fitting, Fits, Ready, Fallen}
use Rattle.cores.specs.Lent.{lanes_of, SameLanes}
use Rattle.cores.specs.declared.lanes.Cascade.{Cascade}
use Rattle.cores.proofs.Alive.{alive_past}
use Rattle.cores.proofs.Fitting.{fits_when}

pub noted_yes : (S : Set) (k v : ℕ) (old new : List ℕ) → v < length new → v ∈ S → Noted S k v old new → Noted S k (v + 1) old (set new v k)
noted_yes S k v old new l m n =
    record {
      written = λ u i s. elim (cases_eq u v) [ inl e ↦ rw e (get_or-set_same new v k 0 l) | inr d ↦ get_or-set_other new v u k 0 d ∙ n.written u (omega arith) s ];
      others = λ u h. let d : u ≡ v → ⊥ = λ e. out u h e in get_or-set_other new v u k 0 d ∙ n.others u (elim h [ inl p ↦ inl (omega arith) | inr p ↦ inr p ]);
    }
  where
    out : (u : ℕ) → (v + 1 ≤ u) ⊎ (S u ≡ false) → u ≡ v → ⊥
    out u (inl h) e = omega arith
    out u (inr h) e = both_ways (S v) (rw e at h) m

pub noted_no : (S : Set) (k v : ℕ) (old new : List ℕ) → S v ≡ false → Noted S k v old new → Noted S k (v + 1) old new
noted_no S k v old new f n =
    record {
      written = λ u i s. elim (cases_eq u v) [ inl e ↦ absurd (both_ways (S v) f (rw e at s)) | inr d ↦ n.written u (omega arith) s ];
      others = λ u h. n.others u (elim h [ inl p ↦ inl (omega arith) | inr p ↦ inr p ]);
    }

-- ---- one k after another

-- at first all are left
pub core_zero : (g : Graph) → core g 0 (everyone g) ≡ everyone g
core_zero g = (cascade_keeps_core g 0 (everyone g)).1 (everyone_within g) (λ v m. omega arith)

-- the core of the core before
pub core_next : (g : Graph) (k k' : ℕ) → k ≤ k' → core g k' (core g k (everyone g)) ≡ core g k' (everyone g)
core_next g k k' h = core_same g k' (core g k (everyone g)) (everyone g) (λ v m. core_part g k (everyone g) v (core_part g k' (core g k (everyone g)) v m)) (λ v m. core_less g k k' (everyone g) h v m)

-- the numbers so far, cut off at k
numbered : (g : Graph) (j k : ℕ) (S : Set) (old new : List ℕ) → k ≡ j + 1 → S ≡ core g k (everyone g) → ((v : ℕ) → v < g.size → get_or old v 0 ≡ min j (core_number g v)) →
    ((v : ℕ) → v ∈ S → get_or new v 0 ≡ k) → ((v : ℕ) → S v ≡ false → get_or new v 0 ≡ get_or old v 0) → (v : ℕ) → v < g.size → get_or new v 0 ≡ min k (core_number g v)
numbered g j k S old new s e so hit same v l = go (cases_Bool (S v))
  where
    go : (S v ≡ true) ⊎ (S v ≡ false) → get_or new v 0 ≡ min k (core_number g v)
    go (inl m) = omega (arith, hit v m, (number_tells g v l k).0 (rw e at m))
    go (inr f) = omega (arith, same v f, so v l, few)
      where
        few : ¬ (k ≤ core_number g v)
        few h = both_ways (S v) f (rw e ((number_tells g v l k).1 h))

pub number_bound : (g : Graph) (v : ℕ) → core_number g v ≤ g.size
unfolding core_number
number_bound g v = count_le (λ c. core g (suc c) (everyone g) v) g.size

-- nobody is left: all are numbered
pub number_few : (g : Graph) (k : ℕ) (S : Set) (v : ℕ) → v < g.size → S ≡ core g k (everyone g) → S v ≡ false → core_number g v < k
number_few g k S v l e f = omega (arith, few)
  where
    few : ¬ (k ≤ core_number g v)
    few h = both_ways (S v) f (rw e ((number_tells g v l k).1 h))

-- lanes that are ready again
pub ready_next : (g : Graph) (k mark : ℕ) (old l : Lanes) → Ready g old → Fallen g k mark old l → Ready g l
ready_next g k mark old l r f = record { counted = f.counted; room = omega (arith, r.room, f.room) }

-- the cascade has come to k, and the row has the numbers so far
pub record Numbered (g : Graph) (k : ℕ) (c : Cascade) (row old : List ℕ) : Type 0 where
  pub fits : Fits g.size 1 (lanes_of c) c.near.now
  pub stands : alive c.fell.now ≡ core g k (everyone g)
  pub ready : Ready g (lanes_of c)
  pub numbers : (v : ℕ) → v < g.size → get_or row v 0 ≡ min k (core_number g v)
  pub rest : (v : ℕ) → g.size ≤ v → get_or row v 0 ≡ get_or old v 0

pub numbered_next : {g : Graph} {j : ℕ} {c : Cascade} {row old : List ℕ} → Numbered g j c row old → (k i : ℕ) (c' : Cascade) (row' : List ℕ) → k ≡ j + 1 → i ≡ k → SameLanes c c' →
    (fitting g.size 1 (lanes_of c) c.near.now ≡ true → Ready g (lanes_of c) → (alive c'.fell.now ≡ core g k (alive c.fell.now)) × Fallen g k 1 (lanes_of c) (lanes_of c')) →
    ((v : ℕ) → v ∈ alive c'.fell.now → get_or row' v 0 ≡ k) → ((v : ℕ) → alive c'.fell.now v ≡ false → get_or row' v 0 ≡ get_or row v 0) → Numbered g i c' row' old
numbered_next {g} {j} {c} {row} {old} h k i c' row' s here same falls hit kept =
    let (e, f) = falls (fits_when g.size 1 (lanes_of c) c.near.now h.fits) h.ready in
    let stands : alive c'.fell.now ≡ core g k (everyone g) = e ∙ ap (core g k) h.stands ∙ core_next g j k (omega arith) in
    rw here (record {
      fits = record { marks = h.fits.marks; ends = omega (arith, h.ready.room, f.room); fell = same.0.1 ∙ h.fits.fell; degrees = same.1.1 ∙ h.fits.degrees; order = same.2.1 ∙ h.fits.order; room = same.3.1 ∙ h.fits.room };
      stands = stands;
      ready = ready_next g k 1 (lanes_of c) (lanes_of c') h.ready f;
      numbers = numbered g j k (alive c'.fell.now) row row' s stands h.numbers hit kept;
      rest = λ v i. kept v (alive_past c'.fell.now v (omega (arith, same.0.1, h.fits.fell))) ∙ h.rest v i;
    })

-- all who can have a number have it
pub numbered_ends : {g : Graph} {k : ℕ} {c : Cascade} {row old : List ℕ} → Numbered g k c row old → g.size ≤ k → (v : ℕ) → v < g.size → get_or row v 0 ≡ core_number g v
numbered_ends {g} h l v i = omega (arith, h.numbers v i, number_bound g v)

-- nobody is left
pub numbered_out : {g : Graph} {k : ℕ} {c : Cascade} {row old : List ℕ} → Numbered g k c row old → ((v : ℕ) → alive c.fell.now v ≡ false) → (v : ℕ) → v < g.size → get_or row v 0 ≡ core_number g v
numbered_out {g} {k} {c} h none v i = omega (arith, h.numbers v i, number_few g k (alive c.fell.now) v i h.stands (none v))

pub none_stands : (S : Set) (some : Bool) → some ≡ false → ((v : ℕ) → v ∈ S → some ≡ true) → (v : ℕ) → S v ≡ false
none_stands S some f h v = go (cases_Bool (S v))
  where
    go : (S v ≡ true) ⊎ (S v ≡ false) → S v ≡ false
    go (inl m) = absurd (both_ways some f (h v m))
    go (inr n) = n

-- ---- as a list

pub numbers_list : {G : Type 0} (net : Net G) (old new : List ℕ) → length new ≡ length old → net.persons ≤ length old → ((v : ℕ) → v < net.persons → get_or new v 0 ≡ core_number (graph_of net) v) → ((v : ℕ) → net.persons ≤ v → get_or new v 0 ≡ get_or old v 0) → new ≡ onto (cores_of net) old
numbers_list net old new l h hit rest = ext_get_or 0 new (onto (cores_of net) old) (omega (arith, l, long)) (λ i b. at i (cases_lt i net.persons))
  where
    L : List ℕ
    L = cores_of net

    size : length (cores_of net) ≡ net.persons
    size = length-map-range_with_len (core_number (graph_of net)) 0 net.persons

    cut : onto (cores_of net) old ≡ cores_of net ++ drop (length (cores_of net)) old
    cut = ap (λ t. t ++ drop (length (cores_of net)) old) (take_all (length old) (cores_of net) (omega (arith, size)))

    long : length (onto (cores_of net) old) ≡ length old
    long = ap length cut ∙ length-append (cores_of net) (drop (length (cores_of net)) old) ∙ omega (arith, size, length-drop (length (cores_of net)) old)

    at : (i : ℕ) → (i < net.persons) ⊎ (net.persons ≤ i) → get_or new i 0 ≡ get_or (onto (cores_of net) old) i 0
    at i (inl b) =
        hit i b ∙ sym (ap (λ t. get_or t i 0) cut ∙ get_or_append_left (cores_of net) (drop (length (cores_of net)) old) 0 i (omega (arith, size)) ∙ get_or-map-range_with_len (core_number (graph_of net)) 0 net.persons i i 0 b (omega arith))
    at i (inr b) =
        let z : length (cores_of net) + (i - net.persons) ≡ i = omega (arith, size) in
        rest i b ∙ sym (ap (λ t. get_or t i 0) cut ∙ get_or-append_right (cores_of net) (drop (length (cores_of net)) old) net.persons i 0 size b ∙ get_or-drop (length (cores_of net)) old (i - net.persons) 0 ∙ ap (λ j. get_or old j 0) z)

-- ---- the refusals

pub cores_open : (n scratch places : ℕ) → 8 * n ≤ scratch → n ≤ places → cores_fault n scratch places ≡ None
cores_open n scratch places a b = cond-false _ _ _ (le-ltb scratch (8 * n) a) ∙ cond-false _ _ _ (le-ltb places n b)

pub opened : (f : Option CallFault) → f ≡ None → (out new old a b : List ℕ) → out ≡ new → (◌≡◌ {A = Result (Unit {0}) CallFault} (Ok tt) (answered f tt)) × (out ≡ unless f new old) × KeptIf f a b
opened None e out new old a b h = (refl, h, tt)
opened (Some x) e out new old a b h = let z : ◌≡◌ {A = ℕ} 0 1 = cc in absurd (omega arith)
