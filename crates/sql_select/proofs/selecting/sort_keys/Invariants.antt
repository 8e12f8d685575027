use Rattle.std.proofs.Common.{◌≡◌, drop}
use Rattle.sql_select.specs.Each.{each, onto}
use Rattle.sql_select.specs.Select.{sort_key}
use Rattle.sql_select.proofs.selecting.sort_keys.Given as goal

abbrev pub invariant-loop-key : goal.invariant-loop-key
invariant-loop-key l =
    onto l.keys.items (each (sort_key l.select l.scope l.columns) (drop l.key-index l.key-items)) ≡ each (sort_key l.select l.scope l.columns) l.select.order_by
