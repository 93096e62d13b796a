-- A kind of change: when it is refused, what it does, and which network a drawn state means. Assumes nothing.
--     Edits G D C                 of changes C on drawn states D, which mean networks with grades G
--     after_edit k d e            the drawn state after a change, granted or refused
--     after k d c                 after any call: only a change alters the drawn state
--     drawn_by k d calls          after a list of calls; it reads no answer and no memory
use Rattle.std.specs.Prelude.{List, fold, Option}
use Rattle.faults.specs.Answers.{unless}
use Rattle.faults.specs.declared.call_fault.CallFault.{CallFault}
use Rattle.networks.specs.Net.{Net}
use Rattle.histories.specs.declared.call.Call.{Call}
use Rattle.histories.specs.declared.call.Call.TheVariants.{Change}

pub record Edits (G D C : Type 0) : Type 0 where
  pub refusal : D → C → Option CallFault
  pub effect : D → C → D
  pub means : D → Net G

abbrev pub after_edit : {G D C : Type 0} → Edits G D C → D → C → D
after_edit k d e = unless (k.refusal d e) (k.effect d e) d

abbrev pub after : {G D C : Type 0} → Edits G D C → D → Call C → D
after k d (Change e) = after_edit k d e
after k d _ = d

abbrev pub drawn_by : {G D C : Type 0} → Edits G D C → D → List (Call C) → D
drawn_by k d calls = fold (after k) d calls
