-- The network that rows of numbers in memory mean, and what the rows keep, by the numbers alone. Assumes nothing.
--     linked_in n span counts cells u v     u is below n, and v stands in the row of u
--     net_in n span counts cells grades     the first n grades, and these links
--     Within n span counts        no count of the first n passes the span
--     Listed n span counts cells  the first n rows are tidy
--     Apart linked                nobody is linked to themselves
--     Bothways linked             a link holds both ways
--     Frame                       what no change of links alters
--     frame_in n span counts cells    the numbers, the sizes of the memory and what lies behind the rows
use Rattle.std.specs.Prelude.{◌≡◌, ℕ, ◌*◌, ◌<◌, ◌≤◌, Bool, false, ◌&&◌, List, length, take, drop, nat_lt, slice_index}
use Rattle.networks.specs.Net.{Net}
use Rattle.rows.specs.Row.{has, row_of, Tidy}

abbrev pub linked_in : ℕ → ℕ → List ℕ → List ℕ → ℕ → ℕ → Bool
linked_in n span counts cells u v = nat_lt u n && has v (row_of span counts cells u)

abbrev pub net_in : {G : Type 0} → ℕ → ℕ → List ℕ → List ℕ → List G → Net G
net_in n span counts cells grades = record { persons = n; grades = take n grades; linked = linked_in n span counts cells }

abbrev pub Within : ℕ → ℕ → List ℕ → Type 0
Within n span counts = (u : ℕ) → u < n → slice_index counts u ≤ span

abbrev pub Listed : ℕ → ℕ → List ℕ → List ℕ → Type 0
Listed n span counts cells = (u : ℕ) → u < n → Tidy n (row_of span counts cells u)

abbrev pub Apart : (ℕ → ℕ → Bool) → Type 0
Apart linked = (u : ℕ) → linked u u ≡ false

abbrev pub Bothways : (ℕ → ℕ → Bool) → Type 0
Bothways linked = (u v : ℕ) → linked u v ≡ linked v u

pub record Frame : Type 0 where
  pub persons : ℕ
  pub span : ℕ
  pub counts : ℕ
  pub cells : ℕ
  pub counts_behind : List ℕ
  pub cells_behind : List ℕ

abbrev pub frame_in : ℕ → ℕ → List ℕ → List ℕ → Frame
frame_in n span counts cells = record {
  persons = n;
  span = span;
  counts = length counts;
  cells = length cells;
  counts_behind = drop n counts;
  cells_behind = drop (n * span) cells;
}
