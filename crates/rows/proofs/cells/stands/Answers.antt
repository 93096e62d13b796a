use Rattle.std.proofs.Common.{◌∙◌, rules}
use Rattle.std.proofs.lemmas.List.Sorted.{answers_always}
use Rattle.rows.proofs.Standing.{found_has}
use Rattle.rows.proofs.cells.stands.Goals as goal

pub returns : goal.returns
returns c =
    let position = c.binary_search_by_key.ensures.position (λ x. x) (answers_always _ _ _ (λ f a r g h. search rules)) in
    c.is_ok.ensures.value ∙ found_has c.args.row.now c.args.v c.binary_search_by_key.result position c.requires
