-- Changes of pairs and of grades, on a network drawn from the calls alone. Assumes nothing.
--     Drawn G                     how many persons, the ceiling, a grade each, and a set of unordered pairs
--     net_of d                    the network that it means: two are linked when they are a pair
--     drawn_from ceiling net      what is drawn of a network
--     start n ceiling grades      as opened: n persons with the first n grades found, and no pair
--     refused_there d e           the first refusal of link, unlink or regrade that applies there
--     changed d e                 with the pair, without it, or with one grade replaced
--     pair_edits                  these as a kind of change
use Rattle.std.specs.Prelude.{ℕ, min, max, Bool, false, not, ◌&&◌, ◌||◌, List, take, Option, ◌==◌, nat_lt, slice_set}
use Rattle.faults.specs.declared.call_fault.CallFault.{CallFault}
use Rattle.networks.specs.Net.{Net}
use Rattle.networks.specs.Changes.{link_fault, unlink_fault, regrade_fault}
use Rattle.histories.specs.declared.edit.Edit.{Edit}
use Rattle.histories.specs.declared.edit.Edit.TheVariants.{Link, Unlink, Regrade}
use Rattle.histories.specs.Edits.{Edits}

-- a pair is asked for as the smaller number and the greater
pub record Drawn (G : Type 0) : Type 0 where
  pub persons : ℕ
  pub ceiling : ℕ
  pub grades : List G
  pub paired : ℕ → ℕ → Bool

abbrev pub net_of : {G : Type 0} → Drawn G → Net G
net_of d = record { persons = d.persons; grades = d.grades; linked = λ u v. d.paired (min u v) (max u v) }

abbrev pub drawn_from : {G : Type 0} → ℕ → Net G → Drawn G
drawn_from ceiling net = record { persons = net.persons; ceiling = ceiling; grades = net.grades; paired = λ u v. nat_lt u v && net.linked u v }

abbrev pub start : {G : Type 0} → ℕ → ℕ → List G → Drawn G
start n ceiling grades = record { persons = n; ceiling = ceiling; grades = take n grades; paired = λ u v. false }

abbrev pub refused_there : {G : Type 0} → Drawn G → Edit G → Option CallFault
refused_there d (Link u v) = link_fault d.ceiling (net_of d) u v
refused_there d (Unlink u v) = unlink_fault (net_of d) u v
refused_there d (Regrade u g) = regrade_fault (net_of d) u

abbrev pub is_the_pair : ℕ → ℕ → ℕ → ℕ → Bool
is_the_pair u v x y = x == min u v && y == max u v

abbrev pub changed : {G : Type 0} → Drawn G → Edit G → Drawn G
changed d (Link u v) = record d { paired = λ x y. is_the_pair u v x y || d.paired x y }
changed d (Unlink u v) = record d { paired = λ x y. not (is_the_pair u v x y) && d.paired x y }
changed d (Regrade u g) = record d { grades = slice_set d.grades u g }

abbrev pub pair_edits : {G : Type 0} → Edits G (Drawn G) (Edit G)
pair_edits = record { refusal = refused_there; effect = changed; means = net_of }
