use Rattle.theory.proofs.core_laws.core_sizes_sum_to_core_numbers.Goals as goal
use Rattle.theory.proofs.Numbers.{core_sizes_sum_to_core_numbers}

pub returns : goal.returns
returns c = core_sizes_sum_to_core_numbers
