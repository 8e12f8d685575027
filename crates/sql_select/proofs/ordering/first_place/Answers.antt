use Rattle.std.proofs.Common.{◌∙◌, ap, sym}
use Rattle.std.specs.Ordering.{is_lt}
use Rattle.sql_select.specs.Order.{comes_before}
use Rattle.sql_select.proofs.Cutting.{behind-last}
use Rattle.sql_select.proofs.SortKeys.{weak}
use Rattle.sql_select.proofs.ordering.first_place.Goals as goal

pub returns-in-Some : goal.returns-in-Some
returns-in-Some c =
    sym (behind-last (comes_before c.args.keys.now) (weak c.args.keys.now) c.args.kept.now c.args.row.now c.in-Some.last.now c.requires (sym c.in-Some.ensures.value) (ap is_lt (sym c.compare_by_all.ensures) ∙ sym c.is_lt.ensures ∙ c.if-is_lt.true))
