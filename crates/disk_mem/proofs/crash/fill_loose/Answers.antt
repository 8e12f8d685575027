use Rattle.std.proofs.Common.{◌∙◌, List, ◌∷◌, length, ap, subst}
use Rattle.std.specs.List.{AllByRecursion}
use Rattle.std.specs.VecDeque.Iter.{deque_iter_rest}
use Rattle.disk_mem.specs.History.{FitsIn, IsLoose}
use Rattle.disk_mem.specs.declared.recording.Event.{Event}
use Rattle.disk_mem.specs.declared.recording.Event.TheVariants.{Wrote, Lost}
use Rattle.disk_mem.proofs.Taken.{fills_on, all_taken}
use Rattle.disk_mem.proofs.crash.fill_loose.Goals as goal

pub loop-step-preserved-in-Wrote : goal.loop-step-preserved-in-Wrote
loop-step-preserved-in-Wrote c =
    let later = deque_iter_rest c.next.new.self in
    let split = c.in-Some.ensures.steps ∙ ap (λ (s : Event). s ∷ later) c.in-Wrote.is in
    let within = subst (AllByRecursion (FitsIn (length c.args.bytes.now))) split c.loop-step.invariant.within in
    rw (c.fill_range.ensures, c.len.ensures)
    (fills_on c.args.fill _ _ later (Wrote c.in-Wrote.place c.in-Wrote.copy) c.in-Wrote.place (length c.in-Wrote.copy) c.args.bytes.now c.loop-step.bytes
    split within.0 within.1 (λ i loose. loose) (λ i loose. loose) c.loop-step.invariant)

pub loop-step-preserved : goal.loop-step-preserved
loop-step-preserved c =
    let later = deque_iter_rest c.next.new.self in
    let split = c.in-Some.ensures.steps ∙ ap (λ (s : Event). s ∷ later) c.in-Lost.is in
    let within = subst (AllByRecursion (FitsIn (length c.args.bytes.now))) split c.loop-step.invariant.within in
    rw c.fill_range-in-Lost.ensures
    (fills_on c.args.fill _ _ later (Lost c.in-Lost.place c.in-Lost.count) c.in-Lost.place c.in-Lost.count c.args.bytes.now c.loop-step.bytes
    split within.0 within.1 (λ i loose. loose) (λ i loose. loose) c.loop-step.invariant)

pub returns-in-Synced : goal.returns-in-Synced
returns-in-Synced c =
    let split = c.in-Some.ensures.steps ∙ ap (λ (s : Event). s ∷ deque_iter_rest c.next.new.self) c.in-Synced.is in
    all_taken _ _ _ _ _ (λ i loose. subst (λ (steps : List Event). IsLoose steps i) split loose) c.loop-step.invariant
