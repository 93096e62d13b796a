-- The three changes of a network: the first refusal that applies, and what a granted one does. Assumes nothing.
--     is_pair u v x y             x and y are u and v, either way round
--     with_link, without_link, with_grade   the network changed in just that
--     pair_fault net u v other    8, 9, or what else applies
--     new_pair_fault net u v      8, 9, 10 for a link, whatever the ceiling
--     link_fault ceiling net u v  8, 9, 10, 12 for link; 8, 9, 11 for unlink; 8 for regrade
--     after_link ceiling net u v  the network after the call, granted or refused
use Rattle.std.specs.Prelude.{ℕ, Bool, cond, not, ◌&&◌, ◌||◌, Some, None, Option, ◌==◌, nat_le, slice_set}
use Rattle.faults.specs.Answers.{unless}
use Rattle.faults.specs.declared.call_fault.CallFault.{CallFault}
use Rattle.faults.specs.declared.call_fault.CallFault.TheVariants.{NoSuchPerson, SamePerson, AlreadyLinked, NotLinked, AtCeiling}
use Rattle.networks.specs.Net.{Net, degree_of}

abbrev pub is_pair : ℕ → ℕ → ℕ → ℕ → Bool
is_pair u v x y = (x == u && y == v) || (x == v && y == u)

abbrev pub with_link : {G : Type 0} → Net G → ℕ → ℕ → Net G
with_link net u v = record { persons = net.persons; grades = net.grades; linked = λ x y. is_pair u v x y || net.linked x y }

abbrev pub without_link : {G : Type 0} → Net G → ℕ → ℕ → Net G
without_link net u v = record { persons = net.persons; grades = net.grades; linked = λ x y. not (is_pair u v x y) && net.linked x y }

abbrev pub with_grade : {G : Type 0} → Net G → ℕ → G → Net G
with_grade net u g = record { persons = net.persons; grades = slice_set net.grades u g; linked = net.linked }

-- u or v is no person, or they are one
abbrev pub pair_fault : {G : Type 0} → Net G → ℕ → ℕ → Option CallFault → Option CallFault
pair_fault net u v other = cond (nat_le net.persons u || nat_le net.persons v) (Some NoSuchPerson) (cond (u == v) (Some SamePerson) other)

-- what a link is refused for whatever the ceiling
abbrev pub new_pair_fault : {G : Type 0} → Net G → ℕ → ℕ → Option CallFault
new_pair_fault net u v = pair_fault net u v (cond (net.linked u v) (Some AlreadyLinked) None)

abbrev pub link_fault : {G : Type 0} → ℕ → Net G → ℕ → ℕ → Option CallFault
link_fault ceiling net u v =
    pair_fault net u v (cond (net.linked u v) (Some AlreadyLinked) (cond (nat_le ceiling (degree_of net u) || nat_le ceiling (degree_of net v)) (Some AtCeiling) None))

abbrev pub unlink_fault : {G : Type 0} → Net G → ℕ → ℕ → Option CallFault
unlink_fault net u v = pair_fault net u v (cond (net.linked u v) None (Some NotLinked))

abbrev pub regrade_fault : {G : Type 0} → Net G → ℕ → Option CallFault
regrade_fault net u = cond (nat_le net.persons u) (Some NoSuchPerson) None

abbrev pub after_link : {G : Type 0} → ℕ → Net G → ℕ → ℕ → Net G
after_link ceiling net u v = unless (link_fault ceiling net u v) (with_link net u v) net

abbrev pub after_unlink : {G : Type 0} → Net G → ℕ → ℕ → Net G
after_unlink net u v = unless (unlink_fault net u v) (without_link net u v) net

abbrev pub after_regrade : {G : Type 0} → Net G → ℕ → G → Net G
after_regrade net u g = unless (regrade_fault net u) (with_grade net u g) net
