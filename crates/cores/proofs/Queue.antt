-- The lanes while persons wait in the order: one falls, one degree is lowered, one is taken off. Assumes nothing.
use Rattle.std.proofs.Common.{◌≡◌, ℕ, ◌+◌, ◌-◌, ◌<◌, ◌≤◌, Bool, true, false, cond, not, ◌&&◌, eqb, ltb, ◌⊎◌, List, [], ◌∷◌, length, get_or, take, set, count_by, refl, ap, ◌∙◌, inl, inr, arith}
use Rattle.std.proofs.lemmas.List.{get_or-set_same, get_or-set_other, take_more, take_more_set, take-set-le}
use Rattle.std.proofs.lemmas.List.Sums.{sum_by_push}
use Rattle.std.proofs.lemmas.Bool.{cases_eq, cases_lt, eqb-true, both_ways, cond-true, cond-false, lt-ltb, le-ltb}
use Rattle.networks.specs.Net.{Net, Sound, neighbours}
use Rattle.meaning.specs.Persons.{graph_of}
use Rattle.theory.specs.Graphs.{Graph, degree}
use Rattle.theory.specs.Sets.{Set, ◌∈◌, bit, count, without}
use Rattle.theory.proofs.Counting.{count_split}
use Rattle.theory.proofs.Loops.{degree_falls_by_one}
use Rattle.theory.proofs.Sets.{without_from}
use Rattle.cores.specs.Falling.{Owed, Queued, pushed, lowered}
use Rattle.cores.specs.Lanes.{Lanes, lanes, alive, Ready}
use Rattle.cores.proofs.Alive.{alive_set, alive_within, marked_set}
use Rattle.cores.proofs.Near.{head_other, head_same, neighbours_count, front_splits}

-- where the tail is after a fall
pub next_place : (tail n r : ℕ) → r ≡ cond (ltb tail n) (tail + 1) tail → (tail ≤ r) × (r ≤ tail + 1) × (tail ≤ n → r ≤ n) × (tail < n → r ≡ tail + 1)
next_place tail n r e = elim (cases_lt tail n) [
  | inl l ↦ (let s : r ≡ tail + 1 = e ∙ cond-true (ltb tail n) (tail + 1) tail (lt-ltb tail n l) in (omega arith, omega arith, λ _. omega arith, λ _. s))
  | inr l ↦ (let s : r ≡ tail = e ∙ cond-false (ltb tail n) (tail + 1) tail (le-ltb tail n l) in (omega arith, omega arith, λ h. omega arith, λ h. absurd (omega arith)))
]

bit_cond : (b : Bool) → bit b ≡ cond b 1 0
bit_cond true = refl
bit_cond false = refl

pub without_one : (S : Set) (w n : ℕ) → w < n → w ∈ S → count S n ≡ 1 + count (without S w) n
unfolding without
without_one S w n l m = omega (arith, count_split S w n l, ap bit m)

bit_without : (S : Set) (x v : ℕ) → x ∈ S → bit (S v) ≡ bit (without S x v) + cond (eqb v x) 1 0
unfolding without
bit_without S x v m = go (eqb v x) (S v) (λ e. ap S (eqb-true v x e) ∙ m)
  where
    go : (b c : Bool) → (b ≡ true → c ≡ true) → bit c ≡ bit (c && not b) + cond b 1 0
    go true true h = refl
    go true false h = absurd (both_ways false refl (h refl))
    go false true h = refl
    go false false h = refl

push_owed : (g : Graph) (mark : ℕ) (l : Lanes) (head x : ℕ) (rest : List ℕ) → 0 < mark → length l.fell ≡ g.size → l.tail < length l.order → head ≤ l.tail → x ∈ alive l.fell →
    Owed g l head rest → Owed g (pushed mark x l) head rest
push_owed g mark l head x rest p lf t q a owed v m =
    let inside : x < length l.fell = alive_within l.fell x a in
    let e : alive (set l.fell x mark) ≡ without (alive l.fell) x = alive_set l.fell x mark p inside in
    let b : v ∈ alive l.fell = (without_from (alive l.fell) x v (rw e at m)).0 in
    let more : count_by (g.linked v) (take (l.tail + 1) (set l.order l.tail x)) ≡ count_by (g.linked v) (take l.tail l.order) + cond (g.linked v x) 1 0 = ap (count_by (g.linked v)) (take_more_set l.order l.tail x t) ∙ sum_by_push (λ y. cond (g.linked v y) 1 0) (take l.tail l.order) x in
    let front : count_by (g.linked v) (take head (set l.order l.tail x)) ≡ count_by (g.linked v) (take head l.order) = ap (count_by (g.linked v)) (take-set-le head l.order l.tail x q) in
    let falls : degree g (alive l.fell) v ≡ bit (g.linked v x) + degree g (without (alive l.fell) x) v = degree_falls_by_one g (alive l.fell) x v (omega arith) a in
    let same_degree : degree g (alive (set l.fell x mark)) v ≡ degree g (without (alive l.fell) x) v = ap (λ S. degree g S v) e in
    omega (arith, owed v b, more, front, falls, same_degree, bit_cond (g.linked v x))

push_listed : (fell order : List ℕ) (mark tail x v : ℕ) → 0 < mark → tail < length order → x ∈ alive fell →
    count_by (eqb v) (take (tail + 1) (set order tail x)) + bit (alive (set fell x mark) v) ≡ count_by (eqb v) (take tail order) + bit (alive fell v)
push_listed fell order mark tail x v p t a =
    let e : alive (set fell x mark) ≡ without (alive fell) x = alive_set fell x mark p (alive_within fell x a) in
    let more : count_by (eqb v) (take (tail + 1) (set order tail x)) ≡ count_by (eqb v) (take tail order) + cond (eqb v x) 1 0 = ap (count_by (eqb v)) (take_more_set order tail x t) ∙ sum_by_push (λ y. cond (eqb v y) 1 0) (take tail order) x in
    let now : bit (alive (set fell x mark) v) ≡ bit (without (alive fell) x v) = ap (λ S. bit (S v)) e in
    omega (arith, more, now, bit_without (alive fell) x v a)

-- nobody falls: what the degrees owe is all that changes
queue_owes : (g : Graph) (mark : ℕ) (old l : Lanes) (head head' : ℕ) (degrees rest rest' : List ℕ) → Owed g (lanes l.fell degrees l.order l.tail) head' rest' → head ≤ head' → head' ≤ l.tail → Queued g mark old l head rest →
    Queued g mark old (lanes l.fell degrees l.order l.tail) head' rest'
queue_owes g mark old l head head' degrees rest rest' owed a b q =
    record { owed = owed; few = q.few; room = q.room; marked = q.marked; kept = q.kept; listed = q.listed; later = omega (arith, q.later); queued = b }

module _ (g : Graph) (mark : ℕ) (old l : Lanes) (head x : ℕ) (rest : List ℕ) where
  -- who stands has a place in the order
  pub queue_place : length l.fell ≡ g.size → x ∈ alive l.fell → Queued g mark old l head rest → l.tail < g.size
  queue_place lf a q = omega (arith, without_one (alive l.fell) x g.size (omega (arith, alive_within l.fell x a)) a, q.room, q.few)

  pub queue_push : 0 < mark → length l.fell ≡ g.size → length l.order ≡ g.size → x ∈ alive l.fell → Queued g mark old l head rest → Queued g mark old (pushed mark x l) head rest
  queue_push p lf lo a q =
      let inside : x < length l.fell = alive_within l.fell x a in
      let e : alive (set l.fell x mark) ≡ without (alive l.fell) x = alive_set l.fell x mark p inside in
      let less : count (alive (set l.fell x mark)) g.size ≡ count (without (alive l.fell) x) g.size = ap (λ S. count S g.size) e in
      let one : count (alive l.fell) g.size ≡ 1 + count (without (alive l.fell) x) g.size = without_one (alive l.fell) x g.size (omega arith) a in
      let t : l.tail < length l.order = omega (arith, queue_place lf a q) in
      record {
        owed = push_owed g mark l head x rest p lf t q.queued a q.owed;
        few = q.few;
        room = omega (arith, less, one, q.room);
        marked = marked_set mark old.fell l.fell x inside a q.marked;
        kept = take-set-le old.tail l.order l.tail x (omega (arith, q.later, q.queued)) ∙ q.kept;
        listed = λ v. omega (arith, push_listed l.fell l.order mark l.tail x v p t a, q.listed v);
        later = q.later;
        queued = omega (arith, q.queued);
      }

  -- a neighbour that has fallen already
  pub queue_skip : alive l.fell x ≡ false → Queued g mark old l head (x ∷ rest) → Queued g mark old l head rest
  queue_skip n q = queue_owes g mark old l head head l.degrees (x ∷ rest) rest (λ v m. omega (arith, q.owed v m, head_other v x rest (λ e. both_ways (alive l.fell x) n (rw e at m)))) (omega arith) q.queued q

  -- a neighbour that stands has one less
  pub queue_lower : x < length l.degrees → x ∈ alive l.fell → Queued g mark old l head (x ∷ rest) → Queued g mark old (lowered x l) head rest
  queue_lower i a q = queue_owes g mark old l head head (set l.degrees x (get_or l.degrees x 0 - 1)) (x ∷ rest) rest (λ v m. go v m (cases_eq v x)) (omega arith) q.queued q
    where
      go : (v : ℕ) → v ∈ alive l.fell → (v ≡ x) ⊎ (v ≡ x → ⊥) → get_or (set l.degrees x (get_or l.degrees x 0 - 1)) v 0 + count_by (g.linked v) (take head l.order) ≡ degree g (alive l.fell) v + count_by (g.linked v) (take l.tail l.order) + count_by (eqb v) rest
      go v m (inl e) = rw e (omega (arith, get_or-set_same l.degrees x (get_or l.degrees x 0 - 1) 0 i, q.owed x a, head_same x rest, front_splits (g.linked x) head l.tail l.order q.queued))
      go v m (inr d) = omega (arith, get_or-set_other l.degrees x v (get_or l.degrees x 0 - 1) 0 d, q.owed v m, head_other v x rest d)

  -- the degree is what the lane holds at most
  pub queue_degree : x ∈ alive l.fell → Queued g mark old l head rest → degree g (alive l.fell) x ≤ get_or l.degrees x 0
  queue_degree a q = omega (arith, q.owed x a, front_splits (g.linked x) head l.tail l.order q.queued)

pub queue_starts : (g : Graph) (mark : ℕ) (l : Lanes) → Ready g l → Queued g mark l l l.tail []
queue_starts g mark l r =
    record { owed = λ v m. omega (arith, r.counted v m); few = r.room; room = refl; marked = λ v. inl refl; kept = refl; listed = λ v. refl; later = omega arith; queued = omega arith }

-- whoever is taken off the queue is to be taken off the degrees of the neighbours
pub queue_pop : {G : Type 0} (net : Net G) → Sound net → (mark : ℕ) (old l : Lanes) (head : ℕ) → length l.fell ≡ net.persons → length l.order ≡ net.persons → head < l.tail →
    Queued (graph_of net) mark old l head [] → Queued (graph_of net) mark old l (head + 1) (neighbours net (get_or l.order head 0))
queue_pop net s mark old l head lf lo h q = queue_owes (graph_of net) mark old l head (head + 1) l.degrees [] _ (λ v m. go v m (alive_within l.fell v m)) (omega arith) (omega arith) q
  where
    go : (v : ℕ) → v ∈ alive l.fell → v < length l.fell → get_or l.degrees v 0 + count_by (net.linked v) (take (head + 1) l.order) ≡ degree (graph_of net) (alive l.fell) v + count_by (net.linked v) (take l.tail l.order) + count_by (eqb v) (neighbours net (get_or l.order head 0))
    go v m i =
        let u = get_or l.order head 0 in
        let more : count_by (net.linked v) (take (head + 1) l.order) ≡ count_by (net.linked v) (take head l.order) + cond (net.linked v u) 1 0 = ap (count_by (net.linked v)) (take_more l.order head 0 (omega (arith, q.room, q.few))) ∙ sum_by_push (λ y. cond (net.linked v y) 1 0) (take head l.order) u in
        let turn : ◌≡◌ {A = ℕ} (cond (net.linked v u) 1 0) (cond (net.linked u v) 1 0) = ap (λ b. cond b 1 0) (s.bothways v u) in
        omega (arith, q.owed v m, more, turn, neighbours_count net u v (omega arith))
