use Rattle.std.proofs.Common.{◌≡◌, ◌∙◌, ap, arith, sym, take}
use Rattle.std.specs.List.{insert}
use Rattle.std.proofs.lemmas.List.Sums.{prefix_len-le-length}
use Rattle.sql_select.specs.Order.{comes_before, first_place}
use Rattle.sql_select.proofs.Cutting.{few-before, placed-at}
use Rattle.sql_select.proofs.ordering.keep.Goals as goal

pub insert-requires : goal.insert-requires
insert-requires c =
    let place : c.first_place-place.result ≡ first_place (comes_before c.args.keys.now) c.args.row c.args.kept.now.items = rw c.deref.ensures.value at c.first_place-place.ensures in
    let within = prefix_len-le-length (λ y. comes_before c.args.keys.now y c.args.row) c.args.kept.now.items in
    omega (arith, place, within)

pub returns-in_ok-insert-clause-kept : goal.returns-in_ok-insert-clause-kept
returns-in_ok-insert-clause-kept c =
    let place : c.first_place-place.result ≡ first_place (comes_before c.args.keys.now) c.args.row c.args.kept.now.items = rw c.deref.ensures.value at c.first_place-place.ensures in
    c.truncate.ensures.items ∙ ap (take c.args.count)
    (c.in_ok-insert.ensures.items ∙ ap (λ n. insert c.args.kept.now.items n c.args.row) place ∙ sym (placed-at (comes_before c.args.keys.now) c.args.row c.args.kept.now.items))

pub returns-else-place-count-clause-kept : goal.returns-else-place-count-clause-kept
returns-else-place-count-clause-kept c =
    let place : c.first_place-place.result ≡ first_place (comes_before c.args.keys.now) c.args.row c.args.kept.now.items = rw c.deref.ensures.value at c.first_place-place.ensures in
    let within = prefix_len-le-length (λ y. comes_before c.args.keys.now y c.args.row) c.args.kept.now.items in
    sym (ap (take c.args.count) (placed-at (comes_before c.args.keys.now) c.args.row c.args.kept.now.items)
    ∙ few-before c.args.count (first_place (comes_before c.args.keys.now) c.args.row c.args.kept.now.items) c.args.row c.args.kept.now.items (omega (arith, place, c.if-place-count.false)) within c.requires.few)
