-- Lanes that fit, and lanes in which everyone stands. Assumes nothing.
use Rattle.std.proofs.Common.{◌≡◌, ℕ, ◌+◌, ◌<◌, ◌≤◌, true, false, ◌&&◌, List, length, get_or, sym, ap, ◌∙◌, arith}
use Rattle.std.proofs.lemmas.Bool.{both_ways, and_from, and_parts}
use Rattle.networks.specs.Net.{Net, degree_of}
use Rattle.meaning.specs.Persons.{graph_of}
use Rattle.theory.specs.Cores.{core, everyone}
use Rattle.theory.specs.Graphs.{Graph, degree}
use Rattle.theory.specs.Sets.{◌∈◌, count, without}
use Rattle.theory.proofs.Cores.{everyone_in, everyone_within}
use Rattle.theory.proofs.Counting.{count_same, count_zero}
use Rattle.theory.proofs.Members.{members_length}
use Rattle.theory.proofs.Sets.{same_set, same_test, without_in, without_from}
use Rattle.cores.specs.Lanes.{Lanes, fitting, Fits, alive, Counted, Ready, Fallen}
use Rattle.cores.proofs.Alive.{alive_read, alive_within}
use Rattle.cores.proofs.Queue.{queue_starts}
use Rattle.cores.proofs.Steps.{falling_ends}

pub fits_when : (n mark : ℕ) (l : Lanes) (near : List ℕ) → Fits n mark l near → fitting n mark l near ≡ true
fits_when n mark l near f = grind (arith, f.marks, f.ends, f.fell, f.degrees, f.order, f.room)

pub fits_gives : (n mark : ℕ) (l : Lanes) (near : List ℕ) → fitting n mark l near ≡ true → Fits n mark l near
fits_gives n mark l near e = record { marks = grind (arith, e); ends = grind (arith, e); fell = grind (arith, e); degrees = grind (arith, e); order = grind (arith, e); room = grind (arith, e) }

all_stand : (g : Graph) (fell : List ℕ) → length fell ≡ g.size → ((v : ℕ) → v < g.size → get_or fell v 0 ≡ 0) → alive fell ≡ everyone g
all_stand g fell l h =
    same_set (alive fell) (everyone g) (λ v m. everyone_in g v (omega (arith, alive_within fell v m)))
    (λ v m. let i : v < g.size = everyone_within g v m in alive_read fell v (omega arith) (h v i))

-- the degree among everyone is the number of neighbours
degree_all : {G : Type 0} (net : Net G) (u : ℕ) → degree_of net u ≡ degree (graph_of net) (everyone (graph_of net)) u
unfolding degree
degree_all net u =
    let e : 0 + net.persons ≡ net.persons = omega arith in
    omega (
      arith,
      members_length (net.linked u) 0 net.persons,
      count_zero (net.linked u),
      ap (count (net.linked u)) e,
      count_same (net.linked u) (λ v. net.linked u v && everyone (graph_of net) v) net.persons (λ v l. same_test _ _ (λ h. and_from _ _ h (everyone_in (graph_of net) v l)) (λ h. (and_parts (net.linked u v) _ h).0)),
    )

pub raised : {G : Type 0} (net : Net G) (fell degrees : List ℕ) → length fell ≡ net.persons → ((v : ℕ) → v < net.persons → get_or fell v 0 ≡ 0) → ((v : ℕ) → v < net.persons → get_or degrees v 0 ≡ degree_of net v) →
    (alive fell ≡ everyone (graph_of net)) × Counted (graph_of net) fell degrees
raised net fell degrees l f d =
    let e : alive fell ≡ everyone (graph_of net) = all_stand (graph_of net) fell l f in
    (e, λ v m. d v (omega (arith, alive_within fell v m)) ∙ degree_all net v ∙ ap (λ S. degree (graph_of net) S v) (sym e))

-- nobody is taken out
pub none_out : (g : Graph) (k mark : ℕ) (l : Lanes) (w : ℕ) → length l.fell ≡ g.size → Ready g l → ((v : ℕ) → v ∈ alive l.fell → k ≤ get_or l.degrees v 0) → alive l.fell w ≡ false →
    (alive l.fell ≡ core g k (without (alive l.fell) w)) × Fallen g k mark l l
none_out g k mark l w lf r enough n =
    falling_ends g k mark (without (alive l.fell) w) l l l.tail lf (omega arith) (record { same = ap (core g k) same; enough = λ v _ m. enough v m; queue = queue_starts g mark l r })
  where
    same : alive l.fell ≡ without (alive l.fell) w
    same = same_set (alive l.fell) (without (alive l.fell) w) (λ v m. without_in (alive l.fell) w v m (λ e. both_ways (alive l.fell w) n (rw e at m))) (λ v m. (without_from (alive l.fell) w v m).0)
