use Rattle.std.proofs.Common.{List, ℕ, length, ap, arith}
use Rattle.retro_base.specs.Framing.{records_of}
use Rattle.gate_log.specs.Bodies.{bodies_of}
use Rattle.gate_log.proofs.Framing.{length-records-split}
use Rattle.area_log.proofs.Records.{bodies_behind}
use Rattle.area_log.proofs.log.AreaLog.gate_behind.Goals as goal

pub records_bytes-requires : goal.records_bytes-requires
records_bytes-requires c =
    let tail = ap (λ (bs : List (List ℕ)). length (records_of bs)) (bodies_behind c.args.bodies.now c.args.behind c.min-front.result c.min-front.ensures) in
    omega (arith, tail, length-records-split (bodies_of c.args.bodies.now) c.args.behind, c.requires, c.end.ensures, c.end.type_inv)

pub overflow_sub-result : goal.overflow_sub-result
overflow_sub-result c =
    let tail = ap (λ (bs : List (List ℕ)). length (records_of bs)) (bodies_behind c.args.bodies.now c.args.behind c.min-front.result c.min-front.ensures) in
    omega (arith, tail, length-records-split (bodies_of c.args.bodies.now) c.args.behind, c.requires, c.end.ensures, c.records_bytes.ensures)

pub returns : goal.returns
returns c =
    let tail = ap (λ (bs : List (List ℕ)). length (records_of bs)) (bodies_behind c.args.bodies.now c.args.behind c.min-front.result c.min-front.ensures) in
    omega (arith, tail, length-records-split (bodies_of c.args.bodies.now) c.args.behind, c.requires, c.end.ensures, c.records_bytes.ensures)
