use Rattle.std.proofs.Common.{ℕ, ltb, ltb-true, ltb-false, arith, rules}
use Rattle.std.proofs.lemmas.List.Sorted.{IsPartitionPoint-from_clause, IsPartitionedBy-ltb}
use Rattle.rows.proofs.Standing.{ordered, place_is}
use Rattle.rows.proofs.cells.place.Goals as goal

pub returns : goal.returns
returns c =
    let row = c.args.row.now in
    let parted = IsPartitionedBy-ltb (λ (x : ℕ). x) row c.args.v (ordered row c.requires) in
    let point = IsPartitionPoint-from_clause (λ x. ltb x c.args.v) row c.partition_point.result c.partition_point.ensures.partitioned parted (λ a r q k. search rules) in
    place_is row c.args.v c.partition_point.result c.partition_point.ensures.bound
    (λ k h. ltb-true _ _ (point.0 k 0 (omega arith) h))
    (λ k h l. ltb-false _ _ (point.1 k 0 h l))
