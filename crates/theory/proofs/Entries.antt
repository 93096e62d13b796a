-- The listing with its members, from the names, where no two persons are level.
use Rattle.std.proofs.Common.{◌≡◌, ℕ, ◌-◌, ◌<◌, true, List, [], ◌∷◌, map, length, drop, filter, sym, refl, ap, ◌∙◌, subst, inl, inr, arith}
use mathlib.Core.List.{map-map}
use Rattle.std.specs.List.{AllByRecursion}
use Rattle.std.proofs.ByRecursion.{All-map, All-weaker}
use Rattle.std.proofs.lemmas.List.{drop-map, length-map}
use Rattle.theory.specs.Circles.{Circle, LevelCircle}
use Rattle.theory.specs.Cores.{circle_at, core, everyone}
use Rattle.theory.specs.Graphs.{Graph, Lawful}
use Rattle.theory.specs.Listing.{Choice, Chosen, Entered, Entry, entry, every, innermost, is_chosen, is_name, last, LevelLists, listing, Lists, names, ranked, Wanted}
use Rattle.theory.specs.ListingLaws.{ListingIsRight, PeelingLists}
use Rattle.theory.specs.Orders.{Below, by_number, Order, Strict, Weakest}
use Rattle.theory.specs.Peeling.{peel}
use Rattle.theory.specs.Sets.{◌among◌, ListOf, members, Pairwise, Relation, Set, ◌∈◌}
use Rattle.theory.proofs.Circles.{at_weakest, circle_known, circle_made, from_level, to_level}
use Rattle.theory.proofs.Listed.{level_listing_is_right}
use Rattle.theory.proofs.Lists.{all_among, among_kept, among_map, kept_among, map_among, map_same, pairwise_kept, pairwise_map}
use Rattle.theory.proofs.Members.{list_same, members_list}
use Rattle.theory.proofs.Named.{name_from, name_in}
use Rattle.theory.proofs.Peeling.{peeling_meets_circles_once}
use Rattle.theory.proofs.Ranked.{ranked_holds, ranked_rising, rising_same}
use Rattle.theory.proofs.Rankings.{below_weaker, by_number_lem, named_weakest, weaker_below, weakest_name}

-- a choice of circles of one form is a choice of circles of another with the same circles
chosen_as : (A B : Set → Type 0) → ((S : Set) → A S → B S) → ((S : Set) → B S → A S) → (ch : Choice) (S : Set) → Chosen A ch S → Chosen B ch S
chosen_as A B f h every S c = f S c
chosen_as A B f h innermost S c = (f S c.0, λ S' b p. c.1 S' (h S' b) p)

chosen_circle : (A : Set → Type 0) (ch : Choice) (S : Set) → Chosen A ch S → A S
chosen_circle A every S c = c
chosen_circle A innermost S c = c.0

-- w is the weakest person of a chosen circle
abbrev pub Head : Graph → Relation → ℕ → Choice → ℕ → Type 0
Head g le k ch w = (S : Set) × Chosen (Circle g le k) ch S × Weakest le S w

module _ (g : Graph) (o : Lawful g) (le : Relation) (t : Order le) (str : Strict le) (k : ℕ) (ch : Choice) where
  pub wanted_head : (w : ℕ) → Wanted g le (by_number le) k ch w → Head g le k ch w
  wanted_head w (S, c, n) = (S, chosen_as _ _ (from_level g le t k) (to_level g le str k) ch S c, named_weakest (by_number le) (by_number_lem le t) t S w n)

  pub head_wanted : (w : ℕ) → Head g le k ch w → Wanted g le (by_number le) k ch w
  head_wanted w (S, c, we) = (S, chosen_as _ _ (to_level g le str k) (from_level g le t k) ch S c, weakest_name le t (by_number le) (by_number_lem le t) str S w we)

  pub head_person : (w : ℕ) → Head g le k ch w → w < g.size
  head_person w (S, c, we) = (chosen_circle (Circle g le k) ch S c).inside w we.0

  pub wanted_entered : (w : ℕ) → Wanted g le (by_number le) k ch w → Entered g le k ch (entry g le k w)
  unfolding entry
  wanted_entered w want =
      let (S, c, we) = wanted_head w want in
      let ci : Circle g le k S = chosen_circle (Circle g le k) ch S c in
      let e : S ≡ circle_at g le k w = (circle_known g o le t str k S w ci we).1 in
      (S, c, we, subst (λ X. ListOf (λ v. v ∈ S) (members X g.size)) e (members_list S g.size ci.inside))

  pub entered_wanted : (e : Entry) → Entered g le k ch e → Wanted g le (by_number le) k ch e.0 × (e ≡ entry g le k e.0)
  unfolding entry
  entered_wanted (w, vs) (S, c, we, ls) =
      let ci : Circle g le k S = chosen_circle (Circle g le k) ch S c in
      let e : S ≡ circle_at g le k w = (circle_known g o le t str k S w ci we).1 in
      let same : vs ≡ members (circle_at g le k w) g.size = list_same (λ v. v ∈ S) vs (members S g.size) ls (members_list S g.size ci.inside) ∙ ap (λ X. members X g.size) e in
      (head_wanted w (S, c, we), ap (λ xs. (w, xs)) same)

  module _ (r : ℕ) where
    entered_names : (ws : List ℕ) → LevelLists g le (by_number le) k r ch ws → Lists g le k r ch (map (entry g le k) ws)
    unfolding entry
    entered_names ws l =
        record {
          each = All-map _ _ ws (All-weaker _ _ wanted_entered ws l.each);
          rising = pairwise_map _ _ _ (weaker_below le str (by_number le) (by_number_lem le t)) ws l.rising;
          few = omega (arith, length-map ws (entry g le k), l.few);
          strongest = λ e x. let (want, q) = entered_wanted e x in elim (l.strongest e.0 want) [
            | inl m ↦ inl (subst (λ z. z among map (entry g le k) ws) (sym q) (among_map (entry g le k) ws e.0 m))
            | inr h ↦ inr (length-map ws (entry g le k) ∙ h.0, All-map _ _ ws (All-weaker _ _ (λ v b. weaker_below le str (by_number le) (by_number_lem le t) e.0 v b) ws h.1))
          ];
        }

    names_entered : (es : List Entry) → Lists g le k r ch es → LevelLists g le (by_number le) k r ch (map (λ e. e.0) es)
    unfolding entry
    names_entered es l =
        record {
          each = All-map _ _ es (All-weaker _ _ (λ e x. (entered_wanted e x).0) es l.each);
          rising = pairwise_map _ _ _ (λ e f b. below_weaker le t (by_number le) (by_number_lem le t) e.0 f.0 b) es l.rising;
          few = omega (arith, length-map es (λ e. e.0), l.few);
          strongest = λ w want. elim (l.strongest (entry g le k w) (wanted_entered w want)) [
            | inl m ↦ inl (among_map (λ e. e.0) es (entry g le k w) m)
            | inr h ↦ inr (length-map es (λ e. e.0) ∙ h.0, All-map _ _ es (All-weaker _ _ (λ e b. below_weaker le t (by_number le) (by_number_lem le t) w e.0 b) es h.1))
          ];
        }

    refilled : (es : List Entry) → AllByRecursion (Entered g le k ch) es → es ≡ map (entry g le k) (map (λ e. e.0) es)
    refilled [] a = refl
    refilled (e ∷ es) a = let p : e ≡ entry g le k e.0 = (entered_wanted e a.0).1 in let q : es ≡ map (entry g le k) (map (λ e. e.0) es) = refilled es a.1 in cc

pub listing_is_right : ListingIsRight
unfolding listing
listing_is_right g o le t str k r ch = (
  entered_names g o le t str k ch r (names g le (by_number le) k r ch) right.0,
  (λ es l. refilled g o le t str k ch r es l.each ∙ ap (map (entry g le k)) (right.1 (map (λ e. e.0) es) (names_entered g o le t str k ch r es l))),
)
  where
    right : LevelLists g le (by_number le) k r ch (names g le (by_number le) k r ch) × ((ws : List ℕ) → LevelLists g le (by_number le) k r ch ws → ws ≡ names g le (by_number le) k r ch)
    right = level_listing_is_right g o le t (by_number le) (by_number_lem le t) k r ch

pub peeling_lists : PeelingLists
unfolding listing names last is_chosen entry
peeling_lists g o le t str k r = ap (λ xs. map (entry g le k) (drop (length xs - r) xs)) same ∙ sym (drop-map (entry g le k) (length keys - r) keys) ∙ ap (λ n. drop (n - r) (map (entry g le k) keys)) (length-map es (λ e. e.0) ∙ sym (length-map es shown)) ∙ ap (drop (length (map shown es) - r)) (map-map (entry g le k) (λ e. e.0) es ∙ map_same _ _ es as_shown)
  where
    es : List (ℕ × Set)
    es = peel g le k g.size (core g k (everyone g))

    keys : List ℕ
    keys = map (λ e. e.0) es

    shown : ℕ × Set → Entry
    shown e = (e.0, members e.1 g.size)

    xs : List ℕ
    xs = filter (is_name g le (by_number le) k) (ranked (by_number le) g.size)

    met : AllByRecursion (λ e. Circle g le k e.1 × Weakest le e.1 e.0) es × Pairwise (λ e f. Below le e.0 f.0) es × ((S : Set) (w : ℕ) → Circle g le k S → Weakest le S w → (w, S) among es)
    met = peeling_meets_circles_once g o le t str k

    there : (v : ℕ) → v among xs → v among keys
    there v m =
        let h : is_name g le (by_number le) k v ≡ true = (kept_among (is_name g le (by_number le) k) (ranked (by_number le) g.size) v m).1 in
        let n = name_from g o le t (by_number le) (by_number_lem le t) k v h in
        among_map (λ e. e.0) es (v, circle_at g le k v) (met.2 (circle_at g le k v) v (circle_made g o le t str k v n.0) (at_weakest g o le t k v n.0))

    back : (v : ℕ) → v among keys → v among xs
    back v m =
        let (e, n, q) = map_among (λ e. e.0) es v m in
        let (c, we) = all_among (λ e. Circle g le k e.1 × Weakest le e.1 e.0) es e met.0 n in
        let lc : LevelCircle g le k e.1 = to_level g le str k e.1 c in
        let h : is_name g le (by_number le) k e.0 ≡ true = (name_in g o le t (by_number le) (by_number_lem le t) k e.1 e.0 lc (weakest_name le t (by_number le) (by_number_lem le t) str e.1 e.0 we)).0 in
        subst (λ z. z among xs) (sym q) (among_kept (is_name g le (by_number le) k) (ranked (by_number le) g.size) e.0 (ranked_holds (by_number le) (by_number_lem le t) g.size e.0 (c.inside e.0 we.0)) h)

    same : xs ≡ keys
    same =
        rising_same (by_number le) (by_number_lem le t) xs keys (pairwise_kept (λ u v. by_number le u v ≡ true) (is_name g le (by_number le) k) (ranked (by_number le) g.size) (ranked_rising (by_number le) (by_number_lem le t) g.size))
        (pairwise_map (λ e f. Below le e.0 f.0) (λ u v. by_number le u v ≡ true) (λ e. e.0) (λ e f b. below_weaker le t (by_number le) (by_number_lem le t) e.0 f.0 b) es met.1) there back

    as_shown : (e : ℕ × Set) → e among es → entry g le k e.0 ≡ shown e
    as_shown e m =
        let (c, we) = all_among (λ e. Circle g le k e.1 × Weakest le e.1 e.0) es e met.0 m in
        ap (λ X. (e.0, members X g.size)) (sym (circle_known g o le t str k e.1 e.0 c we).1)
