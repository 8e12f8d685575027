use Rattle.std.proofs.Common.{◌-◌, ℕ, List, length, take, drop, sym, subst, arith}
use Rattle.gate_log.specs.Bodies.{bodies_of, BreaksAs, Reads}
use Rattle.records.specs.InTurn.{stopping}
use Rattle.records.specs.Maplog.{IsMaplog}
use Rattle.records.proofs.Maps.{breaks_at_first}
use Rattle.records.proofs.Turns.{bodies_split}
use Rattle.records.proofs.maplog.read_maplog.Goals as goal

pub returns-in-Ok : goal.returns-in-Ok
returns-in-Ok c =
    let split = bodies_split c.args.bodies.now c.first-item.result c.deref.result.now (omega arith) c.first-item.is c.deref.ensures.value in
    subst (λ (l : List (List ℕ)). Reads (IsMaplog c.args.version c.args.page_count c.args.capacity) l c.mappings_of.result) split (c.mappings_of.ensures c.args.capacity c.deref.result.now c.in-Ok.ensures)

pub returns-in-Err : goal.returns-in-Err
returns-in-Err c =
    let bodies = c.args.bodies.now in
    let others = bodies_of (take (length bodies - 1) (drop 1 bodies)) in
    let split = bodies_split bodies c.first-item.result c.deref.result.now (omega arith) c.first-item.is c.deref.ensures.value in
    subst (BreaksAs (IsMaplog c.args.version c.args.page_count c.args.capacity) (bodies_of bodies)) (sym c.stopped_at.ensures)
    (subst (λ (l : List (List ℕ)). BreaksAs (IsMaplog c.args.version c.args.page_count c.args.capacity) l (stopping c.in-Err.error 0)) split
    (breaks_at_first c.args.version c.args.page_count c.args.capacity c.deref.result.now others c.in-Err.error c.in-Err.ensures))
