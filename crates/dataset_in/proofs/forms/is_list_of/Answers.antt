-- A list has as many parts as the vector that it is made of.
use Rattle.std.proofs.Common.{◌≡◌, ◌∙◌, ap, arith, nat_eq, length}
use Rattle.dataset_in.specs.Datasets.{has_width, rows_of}
use Rattle.serde_json.specs.View.{items_view}
use Rattle.dataset_in.proofs.Counting.{as_many_rows}
use Rattle.dataset_in.proofs.forms.is_list_of.Goals as goal

pub returns-in-Some : goal.returns-in-Some
returns-in-Some c =
    let count : c.len.result ≡ length (rows_of (items_view c.in-Some.parts.now.items)) =
    omega (arith, c.len.ensures, c.in-Some.parts.now.ok.0, as_many_rows c.in-Some.parts.now.items) in
    ap (λ n. nat_eq n c.args.count) count ∙ ap (has_width c.args.count) c.in-Some.ensures
