use Rattle.std.proofs.Common.{ℕ, List, length, ap, arith, length-drop}
use Rattle.std.proofs.lemmas.List.{take_rest}
use Rattle.gate_log.proofs.Splits.{count_behind, record_split}
use Rattle.gate_log.proofs.records.split_record.Goals as goal

pub returns-then-behind-count-clause-over : goal.returns-then-behind-count-clause-over
returns-then-behind-count-clause-over c =
    let whole = ap (λ (l : List ℕ). length l) (take_rest c.args.rest.now 5) in
    omega (arith, whole, c.if-behind-count.true, c.if-rest-lt6.false, length-drop 5 c.args.rest.now, length-drop 1 c.args.rest.now, c.get_u32-count.ensures, count_behind c.args.rest.now)

pub returns-clause-split : goal.returns-clause-split
returns-clause-split c =
    record_split _ c.get_u32-count.result c.args.rest.now c.split_at.result.0.now c.split_at.result.1.now (λ i. omega (arith, c.type_inv.rest i)) c.if-rest-lt6.false c.requires.is_open c.get_u32-count.ensures c.if-behind-count.false c.split_at.ensures.front c.split_at.ensures.back
