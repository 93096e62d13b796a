-- What is told is right: from the defined results to the relations of the law. Assumes nothing.
use Rattle.std.proofs.Common.{◌≡◌, ℕ, suc, ◌*◌, ◌<◌, ◌≤◌, Bool, true, false, cond, eqb, length, get_or, sym, refl, ap, ◌∙◌, subst, inl, inr, arith}
use Rattle.std.proofs.lemmas.Bool.{true≢false}
use Rattle.std.proofs.lemmas.List.FromFn.{length-map-range_with_len, get_or-map-range_with_len}
use Rattle.faults.specs.declared.call_fault.CallFault.TheVariants.{NotWeakest}
use Rattle.networks.specs.Net.{Net}
use Rattle.meaning.specs.Persons.{graph_of, cores_of}
use Rattle.theory.specs.Sets.{Relation, total, any_of}
use Rattle.theory.specs.Graphs.{Graph, Lawful, links}
use Rattle.theory.specs.Orders.{StrictOrder}
use Rattle.theory.specs.Cores.{IsCore, core_number, circle_at}
use Rattle.theory.specs.Listing.{Choice, Lists, listing}
use Rattle.theory.proofs.Numbers.{core_number_is_greatest, core_number_tells_circles, core_sizes_sum_to_core_numbers}
use Rattle.theory.proofs.Nesting.{apart_or_nested, nested_by_k}
use Rattle.theory.proofs.Entries.{listing_is_right}
use Rattle.theory.proofs.Totals.{total_same}
use Rattle.forest.specs.Trees.{tree}
use Rattle.forest.specs.Picking.{of_number, under_of}
use Rattle.forest.proofs.Vertices.{holder_is_found}
use Rattle.histories.specs.Answers.{refused, holder, Numbered, sum_of, Cored, Holding}
use Rattle.histories.specs.Law.{Nests}

module _ {G : Type 0} (net : Net G) where
  core_at : (u : ℕ) → u < net.persons → get_or (cores_of net) u 0 ≡ core_number (graph_of net) u
  core_at u h = get_or-map-range_with_len (core_number (graph_of net)) 0 net.persons u u 0 h (omega arith)

  length_cores : length (cores_of net) ≡ net.persons
  length_cores = length-map-range_with_len (core_number (graph_of net)) 0 net.persons

  pub cores_numbered : Numbered (graph_of net) (cores_of net)
  cores_numbered = (length_cores, λ u h. subst (IsCore (graph_of net) u) (sym (core_at u h)) (core_number_is_greatest (graph_of net) u h).0)

  pub cores_sum : sum_of (cores_of net) ≡ total (core_number (graph_of net)) net.persons
  cores_sum = ap (total (λ u. get_or (cores_of net) u 0)) length_cores ∙ total_same _ _ net.persons core_at

  pub cores_few : Lawful (graph_of net) → sum_of (cores_of net) ≤ 2 * links (graph_of net)
  cores_few l = omega (arith, cores_sum, (core_sizes_sum_to_core_numbers (graph_of net) l).1)

  pub cores_cored : Lawful (graph_of net) → (le : Relation) → StrictOrder le → Cored (graph_of net) le (cores_of net)
  cores_cored l le o k u p h =
      let t = core_number_tells_circles (graph_of net) l le o u h k in
      ((λ c. t.1 (omega (arith, c, core_at u h))), (λ s. omega (arith, t.0 s, core_at u h)))

pub nested : (g : Graph) → Lawful g → (le : Relation) → StrictOrder le → Nests g le
nested g l le o = record {
  apart = λ k S S' p c c'. apart_or_nested g l le o k S S' c c';
  deeper = λ k w S p c m. (let n = nested_by_k g l le o k (suc k) (omega arith) S w c m in (circle_at g le k w, n.0, n.1, n.2));
}

pub lists : (g : Graph) → Lawful g → (le : Relation) → StrictOrder le → (k r : ℕ) (choice : Choice) → Lists g le k r choice (listing g le k r choice)
lists g l le o k r choice = (listing_is_right g l le o.0 o.1 k r choice).0

pub holding : (g : Graph) → Lawful g → (le : Relation) → StrictOrder le → (k w : ℕ) → 1 ≤ k → (b : Bool)
    → b ≡ any_of (λ x. eqb x.weakest w) (of_number k (tree g le)) → Holding g le k w (cond b (holder (under_of (of_number k (tree g le)) w)) (refused NotWeakest))
holding g l le o k w p true e =
    let f = holder_is_found g l le o.0 o.1 k w p in
    let c = f.0.0 (sym e) in
    inr (c.0, under_of (of_number k (tree g le)) w, c.1, c.2, f.1 c.0 c.1 c.2, refl)
holding g l le o k w p false e =
    let f = holder_is_found g l le o.0 o.1 k w p in
    inl ((λ S c m. true≢false (sym (f.0.1 (S, c, m)) ∙ sym e)), refl)
