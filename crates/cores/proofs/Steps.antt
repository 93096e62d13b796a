-- One step of a fall on the way to the core. Assumes nothing.
use Rattle.std.proofs.Common.{◌≡◌, ℕ, ◌+◌, ◌-◌, ◌<◌, ◌≤◌, Bool, true, false, not, ◌&&◌, eqb, ◌⊎◌, List, [], ◌∷◌, length, get_or, take, drop, set, count_by, sym, refl, ap, ◌∙◌, inl, inr, arith}
use Rattle.std.proofs.lemmas.List.{get_or-set_same, get_or-set_other}
use Rattle.std.proofs.lemmas.Bool.{cases_eq}
use Rattle.networks.specs.Net.{Net, Sound, neighbours}
use Rattle.meaning.specs.Persons.{graph_of}
use Rattle.theory.specs.Cores.{core}
use Rattle.theory.specs.Graphs.{Graph, degree}
use Rattle.theory.specs.Sets.{Set, ◌∈◌, bit, without, minus}
use Rattle.theory.proofs.Loops.{cascade_keeps_core}
use Rattle.theory.proofs.Sets.{without_from}
use Rattle.cores.specs.Falling.{Queued, Falling, pushed, lowered}
use Rattle.cores.specs.Lanes.{Lanes, alive, Counted, Ready, Fallen}
use Rattle.cores.proofs.Alive.{alive_set, alive_within}
use Rattle.cores.proofs.Near.{front_splits}
use Rattle.cores.proofs.Queue.{queue_push, queue_skip, queue_lower, queue_degree, queue_starts, queue_pop}

-- x has too few and falls
too_few : (g : Graph) (k mark : ℕ) (X : Set) (l : Lanes) (x : ℕ) → 0 < mark → x ∈ alive l.fell → degree g (alive l.fell) x < k → core g k (alive l.fell) ≡ core g k X → core g k (alive (set l.fell x mark)) ≡ core g k X
too_few g k mark X l x p a few same = ap (core g k) (alive_set l.fell x mark p (alive_within l.fell x a)) ∙ (cascade_keeps_core g k (alive l.fell)).0 x few ∙ same

still : (fell : List ℕ) (x mark v : ℕ) → 0 < mark → x ∈ alive fell → v ∈ alive (set fell x mark) → (v ∈ alive fell) × (v ≡ x → ⊥)
still fell x mark v p a m =
    let e : alive (set fell x mark) ≡ without (alive fell) x = alive_set fell x mark p (alive_within fell x a) in
    without_from (alive fell) x v (rw e at m)

-- the three ways on at a neighbour
module _ (g : Graph) (k mark : ℕ) (X : Set) (old l : Lanes) (head x : ℕ) (rest : List ℕ) (f : Falling g k g.size mark X old l head (x ∷ rest)) where
  pub skips : alive l.fell x ≡ false → Falling g k g.size mark X old l head rest
  skips n = record { same = f.same; enough = f.enough; queue = queue_skip g mark old l head x rest n f.queue }

  pub lowers : x < length l.degrees → x ∈ alive l.fell → k ≤ get_or l.degrees x 0 - 1 → Falling g k g.size mark X old (lowered x l) head rest
  lowers i a h = record { same = f.same; enough = λ v b m. go v b m (cases_eq v x); queue = queue_lower g mark old l head x rest i a f.queue }
    where
      go : (v : ℕ) → v < g.size → v ∈ alive l.fell → (v ≡ x) ⊎ (v ≡ x → ⊥) → k ≤ get_or (set l.degrees x (get_or l.degrees x 0 - 1)) v 0
      go v b m (inl e) = rw e (omega (arith, get_or-set_same l.degrees x (get_or l.degrees x 0 - 1) 0 i))
      go v b m (inr d) = omega (arith, get_or-set_other l.degrees x v (get_or l.degrees x 0 - 1) 0 d, f.enough v b m)

  pub falls : 0 < mark → length l.fell ≡ g.size → length l.degrees ≡ g.size → length l.order ≡ g.size → x ∈ alive l.fell → get_or l.degrees x 0 - 1 < k → Falling g k g.size mark X old (pushed mark x (lowered x l)) head rest
  falls p lf ld lo a h =
      let i : x < length l.degrees = omega (arith, alive_within l.fell x a) in
      let q : Queued g mark old (lowered x l) head rest = queue_lower g mark old l head x rest i a f.queue in
      record {
        same = too_few g k mark X l x p a (omega (arith, queue_degree g mark old (lowered x l) head x rest a q, get_or-set_same l.degrees x (get_or l.degrees x 0 - 1) 0 i)) f.same;
        enough = λ v b m. let (n, d) = still l.fell x mark v p a m in omega (arith, get_or-set_other l.degrees x v (get_or l.degrees x 0 - 1) 0 d, f.enough v b n);
        queue = queue_push g mark old (lowered x l) head x rest p lf lo a q;
      }

-- from degrees that are right
pub falling_starts : (g : Graph) (k mark : ℕ) (l : Lanes) → Ready g l → Falling g k 0 mark (alive l.fell) l l l.tail []
falling_starts g k mark l r = record { same = refl; enough = λ v b m. absurd (omega arith); queue = queue_starts g mark l r }

-- u is looked at and stays
pub passes : (g : Graph) (k u mark : ℕ) (X : Set) (old l : Lanes) (head : ℕ) → (u ∈ alive l.fell → k ≤ get_or l.degrees u 0) → Falling g k u mark X old l head [] → Falling g k (u + 1) mark X old l head []
passes g k u mark X old l head h f = record { same = f.same; enough = λ v b m. go v b m (cases_eq v u); queue = f.queue }
  where
    go : (v : ℕ) → v < u + 1 → v ∈ alive l.fell → (v ≡ u) ⊎ (v ≡ u → ⊥) → k ≤ get_or l.degrees v 0
    go v b m (inl e) = rw e (h (rw e at m))
    go v b m (inr d) = f.enough v (omega arith) m

-- u is looked at and falls
pub drops : (g : Graph) (k u mark : ℕ) (X : Set) (old l : Lanes) (head : ℕ) → 0 < mark → length l.fell ≡ g.size → length l.order ≡ g.size → u ∈ alive l.fell → get_or l.degrees u 0 < k →
    Falling g k u mark X old l head [] → Falling g k (u + 1) mark X old (pushed mark u l) head []
drops g k u mark X old l head p lf lo a h f =
    record {
      same = too_few g k mark X l u p a (omega (arith, queue_degree g mark old l head u [] a f.queue)) f.same;
      enough = λ v b m. let (n, d) = still l.fell u mark v p a m in f.enough v (omega arith) n;
      queue = queue_push g mark old l head u [] p lf lo a f.queue;
    }

-- one falls that need not
pub one_falls : (g : Graph) (k mark : ℕ) (l : Lanes) (w : ℕ) → 0 < mark → length l.fell ≡ g.size → length l.order ≡ g.size → w ∈ alive l.fell → Ready g l → ((v : ℕ) → v ∈ alive l.fell → k ≤ get_or l.degrees v 0) →
    Falling g k g.size mark (without (alive l.fell) w) l (pushed mark w l) l.tail []
one_falls g k mark l w p lf lo a r enough =
    record {
      same = ap (core g k) (alive_set l.fell w mark p (alive_within l.fell w a));
      enough = λ v _ m. enough v (still l.fell w mark v p a m).0;
      queue = queue_push g mark l l l.tail w [] p lf lo a (queue_starts g mark l r);
    }

pub pops : {G : Type 0} (net : Net G) → Sound net → (k mark : ℕ) (X : Set) (old l : Lanes) (head : ℕ) → length l.fell ≡ net.persons → length l.order ≡ net.persons → head < l.tail →
    Falling (graph_of net) k net.persons mark X old l head [] → Falling (graph_of net) k net.persons mark X old l (head + 1) (neighbours net (get_or l.order head 0))
pops net s k mark X old l head lf lo h f = record { same = f.same; enough = f.enough; queue = queue_pop net s mark old l head lf lo h f.queue }

-- the end: nobody waits
fell_once : (S T : Set) (v n : ℕ) → n + bit (T v) ≡ bit (S v) → n ≡ bit (minus S T v)
unfolding minus
fell_once S T v n e = go (S v) (T v) e
  where
    go : (b c : Bool) → n + bit c ≡ bit b → n ≡ bit (b && not c)
    go true true e = omega arith
    go true false e = omega arith
    go false true e = absurd (omega arith)
    go false false e = omega arith

pub falling_ends : (g : Graph) (k mark : ℕ) (X : Set) (old l : Lanes) (head : ℕ) → length l.fell ≡ g.size → l.tail ≤ head → Falling g k g.size mark X old l head [] → (alive l.fell ≡ core g k X) × Fallen g k mark old l
falling_ends g k mark X old l head lf z f = (
  sym ((cascade_keeps_core g k (alive l.fell)).1 (λ v m. omega (arith, alive_within l.fell v m)) (λ v m. omega (arith, counted v m, enough v m))) ∙ f.same,
  record { counted = counted; enough = enough; marked = q.marked; kept = q.kept; once = λ v. fell_once (alive old.fell) (alive l.fell) v _ (once v); room = q.room },
)
  where
    q : Queued g mark old l head []
    q = f.queue

    counted : Counted g l.fell l.degrees
    counted v m =
        let e : head ≡ l.tail = omega (arith, f.queue.queued) in
        let all : count_by (g.linked v) (take head l.order) ≡ count_by (g.linked v) (take l.tail l.order) = ap (λ t. count_by (g.linked v) (take t l.order)) e in
        omega (arith, f.queue.owed v m, all)

    enough : (v : ℕ) → v ∈ alive l.fell → k ≤ get_or l.degrees v 0
    enough v m = f.enough v (omega (arith, alive_within l.fell v m)) m

    once : (v : ℕ) → count_by (eqb v) (drop old.tail (take l.tail l.order)) + bit (alive l.fell v) ≡ bit (alive old.fell v)
    once v =
        let same : count_by (eqb v) (take old.tail l.order) ≡ count_by (eqb v) (take old.tail old.order) = ap (count_by (eqb v)) f.queue.kept in
        omega (arith, f.queue.listed v, front_splits (eqb v) old.tail l.tail l.order (omega (arith, f.queue.later, f.queue.queued)), same)
