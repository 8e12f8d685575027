use Rattle.std.proofs.Common.{◌≡◌, ◌-◌, suc, arith}
use Rattle.tree_index.proofs.index.keep.Goals as goal

pub returns-clause-drafted : goal.returns-clause-drafted
returns-clause-drafted c =
    let some : c.args.count ≡ suc (c.args.count - 1) = omega (arith, c.if-count-eq0.false) in
    rw some c.store.ensures.drafted
