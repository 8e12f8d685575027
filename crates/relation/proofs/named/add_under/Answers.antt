use Rattle.std.proofs.Common.{refl}
use Rattle.relation.proofs.Naming.{item_added}
use Rattle.relation.proofs.named.add_under.Goals as goal

pub returns : goal.returns
returns g c = λ name.
    item_added c.args.kept.now c.remove.new.self c.insert.new.self c.args.table.now c.in_ok-copy.field-0 name c.args.item c.push.new.self c.remove.ensures.updates.0 c.in_ok-insert.ensures.updates.0 c.in_ok-copy.ensures
    (rw (c.in_ok-push.ensures.ok, c.unwrap_or-items.ensures, c.new.ensures, c.remove.ensures.value) refl)
