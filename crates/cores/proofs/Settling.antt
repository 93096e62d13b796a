-- The lanes after one neighbour, and after all of them: they still fit, and nobody is lost. Assumes nothing.
use Rattle.std.proofs.Common.{◌≡◌, ℕ, ◌+◌, ◌-◌, ◌<◌, ◌≤◌, Bool, true, false, cond, ltb, List, [], ◌∷◌, length, get_or, drop, set, sym, refl, ap, ◌∙◌, arith}
use Rattle.std.proofs.lemmas.List.{length-set, drop_more}
use Rattle.std.proofs.lemmas.Bool.{cond-true, cond-false, ltb-true, ltb-false, lt-ltb, le-ltb}
use Rattle.theory.specs.Graphs.{Graph}
use Rattle.theory.specs.Sets.{Set, ◌∈◌, count, without}
use Rattle.cores.specs.Falling.{Falling, pushed, lowered, let_fall, eased, settled}
use Rattle.cores.specs.Lanes.{Lanes, lanes, alive, Fits, Ready}
use Rattle.cores.proofs.Alive.{alive_read, alive_read_not, alive_within, set_fewer}
use Rattle.cores.proofs.Queue.{next_place, queue_place, queue_starts}
use Rattle.cores.proofs.Steps.{skips, lowers, falls, drops, one_falls}

-- what holds in each of the three cases holds after the neighbour
eased_by : (k mark x : ℕ) (l : Lanes) (P : Lanes → Type 0) → (alive l.fell x ≡ false → P l) → (x ∈ alive l.fell → k ≤ get_or l.degrees x 0 - 1 → P (lowered x l)) → (x ∈ alive l.fell → get_or l.degrees x 0 - 1 < k → P (let_fall mark x (lowered x l))) →
    P (eased k mark x l)
eased_by k mark x l P skip low fall = go (alive l.fell x) (ltb (get_or l.degrees x 0 - 1) k) refl refl
  where
    go : (a b : Bool) → alive l.fell x ≡ a → ltb (get_or l.degrees x 0 - 1) k ≡ b → P (cond a (cond b (let_fall mark x (lowered x l)) (lowered x l)) l)
    go false b e _ = skip e
    go true false e f = low e (ltb-false (get_or l.degrees x 0 - 1) k f)
    go true true e f = fall e (ltb-true (get_or l.degrees x 0 - 1) k f)

module _ (k mark x : ℕ) (l : Lanes) (i : x < length l.fell) where
  pub eased_stays : (get_or l.fell x 0 ≡ 0 → ⊥) → l ≡ eased k mark x l
  eased_stays n = sym (cond-false (alive l.fell x) _ l (alive_read_not l.fell x i n))

  pub eased_lowers : get_or l.fell x 0 ≡ 0 → k ≤ get_or l.degrees x 0 - 1 → lowered x l ≡ eased k mark x l
  eased_lowers a h = sym (cond-true (alive l.fell x) _ l (alive_read l.fell x i a) ∙ cond-false (ltb (get_or l.degrees x 0 - 1) k) _ _ (le-ltb (get_or l.degrees x 0 - 1) k h))

  pub eased_falls : get_or l.fell x 0 ≡ 0 → get_or l.degrees x 0 - 1 < k → let_fall mark x (lowered x l) ≡ eased k mark x l
  eased_falls a h = sym (cond-true (alive l.fell x) _ l (alive_read l.fell x i a) ∙ cond-true (ltb (get_or l.degrees x 0 - 1) k) _ _ (lt-ltb (get_or l.degrees x 0 - 1) k h))

-- who falls has a place in the order
pub let_fall_pushed : (mark x : ℕ) (l : Lanes) → l.tail < length l.order → let_fall mark x l ≡ pushed mark x l
let_fall_pushed mark x l h = ap (lanes (set l.fell x mark) l.degrees (set l.order l.tail x)) (cond-true (ltb l.tail (length l.order)) (l.tail + 1) l.tail (lt-ltb l.tail (length l.order) h))

-- the neighbour at i is the next
pub settled_next : (k mark : ℕ) (xs : List ℕ) (i x : ℕ) (l l' : Lanes) → i < length xs → x ≡ get_or xs i 0 → l' ≡ eased k mark x l → settled k mark (drop (i + 1) xs) l' ≡ settled k mark (drop i xs) l
settled_next k mark xs i x l l' h s e = ap (settled k mark (drop (i + 1) xs)) (e ∙ ap (λ y. eased k mark y l) s) ∙ ap (λ ys. settled k mark ys l) (sym (drop_more xs i 0 h))

module _ {n mark : ℕ} {near : List ℕ} where
  pub let_fall_fits : (x : ℕ) (l : Lanes) → Fits n mark l near → Fits n mark (let_fall mark x l) near
  let_fall_fits x l f =
      let p = next_place l.tail (length l.order) _ refl in
      record {
        marks = f.marks;
        ends = omega (arith, p.2, f.ends, f.order);
        fell = length-set l.fell x mark ∙ f.fell;
        degrees = f.degrees;
        order = length-set l.order l.tail x ∙ f.order;
        room = f.room;
      }

  lowered_fits : (x : ℕ) (l : Lanes) → Fits n mark l near → Fits n mark (lowered x l) near
  lowered_fits x l f = record { marks = f.marks; ends = f.ends; fell = f.fell; degrees = length-set l.degrees x _ ∙ f.degrees; order = f.order; room = f.room }

  pub eased_fits : (k x : ℕ) (l : Lanes) → Fits n mark l near → Fits n mark (eased k mark x l) near
  eased_fits k x l f = eased_by k mark x l (λ l'. Fits n mark l' near) (λ _. f) (λ _ _. lowered_fits x l f) (λ _ _. let_fall_fits x (lowered x l) (lowered_fits x l f))

  eased_fewer : (k x : ℕ) (l : Lanes) → Fits n mark l near → ((eased k mark x l).tail + count (alive (eased k mark x l).fell) n ≤ l.tail + count (alive l.fell) n) × (l.tail ≤ (eased k mark x l).tail)
  eased_fewer k x l f =
      eased_by k mark x l (λ l'. (l'.tail + count (alive l'.fell) n ≤ l.tail + count (alive l.fell) n) × (l.tail ≤ l'.tail)) (λ _. (omega arith, omega arith)) (λ _ _. (omega arith, omega arith))
      (λ a _. let p = next_place l.tail (length l.order) _ refl in (omega (arith, p.1, set_fewer n l.fell x mark f.marks f.fell a), omega (arith, p.0)))

  all_fewer : (k : ℕ) (xs : List ℕ) (l : Lanes) → Fits n mark l near → ((settled k mark xs l).tail + count (alive (settled k mark xs l).fell) n ≤ l.tail + count (alive l.fell) n) × (l.tail ≤ (settled k mark xs l).tail)
  all_fewer k [] l f = (omega arith, omega arith)
  all_fewer k (x ∷ xs) l f =
      let one = eased_fewer k x l f in
      let more = all_fewer k xs (eased k mark x l) (eased_fits k x l f) in
      (omega (arith, one.0, more.0), omega (arith, one.1, more.1))

  -- each who falls takes one place
  pub settled_fewer : (k : ℕ) (xs : List ℕ) (l l' : Lanes) → l' ≡ settled k mark xs l → Fits n mark l near → (l'.tail + count (alive l'.fell) n ≤ l.tail + count (alive l.fell) n) × (l.tail ≤ l'.tail)
  settled_fewer k xs l l' e f = rw e (all_fewer k xs l f)

module _ (g : Graph) (k mark : ℕ) (near : List ℕ) (X : Set) (old : Lanes) (head : ℕ) where
  eased_falling : (x : ℕ) (rest : List ℕ) (l : Lanes) → Fits g.size mark l near → Falling g k g.size mark X old l head (x ∷ rest) → Falling g k g.size mark X old (eased k mark x l) head rest
  eased_falling x rest l f h =
      eased_by k mark x l (λ l'. Falling g k g.size mark X old l' head rest) (skips g k mark X old l head x rest h)
      (λ a b. lowers g k mark X old l head x rest h (omega (arith, alive_within l.fell x a, f.fell, f.degrees)) a b)
      (λ a b. let place = queue_place g mark old l head x (x ∷ rest) f.fell a h.queue in
      rw (let_fall_pushed mark x (lowered x l) (omega (arith, place, f.order))) (falls g k mark X old l head x rest h f.marks f.fell f.degrees f.order a b))

  -- u is looked at and falls
  pub falls_at : (u : ℕ) (l : Lanes) → Fits g.size mark l near → u ∈ alive l.fell → get_or l.degrees u 0 < k → Falling g k u mark X old l head [] → Falling g k (u + 1) mark X old (let_fall mark u l) head []
  falls_at u l f a b h =
      let place = queue_place g mark old l head u [] f.fell a h.queue in
      rw (let_fall_pushed mark u l (omega (arith, place, f.order))) (drops g k u mark X old l head f.marks f.fell f.order a b h)

  pub settled_falling : (xs : List ℕ) (l : Lanes) → Fits g.size mark l near → Falling g k g.size mark X old l head xs → Falling g k g.size mark X old (settled k mark xs l) head []
  settled_falling [] l f h = h
  settled_falling (x ∷ xs) l f h = settled_falling xs (eased k mark x l) (eased_fits k x l f) (eased_falling x xs l f h)

-- one falls that need not
pub one_falls_at : (g : Graph) (k mark : ℕ) (near : List ℕ) (w : ℕ) (l : Lanes) → Fits g.size mark l near → w ∈ alive l.fell → Ready g l → ((v : ℕ) → v ∈ alive l.fell → k ≤ get_or l.degrees v 0) →
    Falling g k g.size mark (without (alive l.fell) w) l (let_fall mark w l) l.tail []
one_falls_at g k mark near w l f a r enough =
    let place = queue_place g mark l l l.tail w [] f.fell a (queue_starts g mark l r) in
    rw (let_fall_pushed mark w l (omega (arith, place, f.order))) (one_falls g k mark l w f.marks f.fell f.order a r enough)
