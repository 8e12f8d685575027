use Rattle.std.proofs.Common.{◌-◌, ℕ, List, length, take, drop, sym, subst, arith}
use Rattle.gate_log.specs.Bodies.{bodies_of, BreaksAs}
use Rattle.records.specs.InTurn.{stopping}
use Rattle.records.specs.Log.{IsLog}
use Rattle.records.proofs.Logs.{breaks_at_first}
use Rattle.records.proofs.Turns.{bodies_split}
use Rattle.records.proofs.log.read_log.Goals as goal

pub returns-in-Err-clause-reads : goal.returns-in-Err-clause-reads
returns-in-Err-clause-reads c =
    let bodies = c.args.bodies.now in
    let others = bodies_of (take (length bodies - 1) (drop 1 bodies)) in
    let split = bodies_split bodies c.first-item.result c.deref.result.now (omega arith) c.first-item.is c.deref.ensures.value in
    subst (BreaksAs (IsLog c.args.version) (bodies_of bodies)) (sym c.stopped_at.ensures)
    (subst (λ (l : List (List ℕ)). BreaksAs (IsLog c.args.version) l (stopping c.in-Err.error 0)) split (breaks_at_first c.args.version c.deref.result.now others c.in-Err.error c.in-Err.ensures))

pub returns-in-Err-changes_of-clause-reads : goal.returns-in-Err-changes_of-clause-reads
returns-in-Err-changes_of-clause-reads c =
    let bodies = c.args.bodies.now in
    let split = bodies_split bodies c.first-item.result c.deref.result.now (omega arith) c.first-item.is c.deref.ensures.value in
    subst (λ (l : List (List ℕ)). BreaksAs (IsLog c.args.version) l c.in-Err-changes_of.error) split (c.in-Err-changes_of.ensures.broken c.deref.result.now c.in-Ok.ensures)
