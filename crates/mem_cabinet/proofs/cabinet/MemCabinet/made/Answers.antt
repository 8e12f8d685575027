use Rattle.std.proofs.Common.{◌∙◌, List, ap, refl, sym}
use Rattle.mem_cabinet.specs.Shelves.{IsOut, shelf_of}
use Rattle.mem_cabinet.specs.declared.cabinet.Shelf.{Shelf}
use Rattle.mem_cabinet.proofs.cabinet.MemCabinet.made.Goals as goal

pub returns-then-is_listed-clause-none : goal.returns-then-is_listed-clause-none
returns-then-is_listed-clause-none c = λ other. rw c.is_listed.ensures.shelves refl

pub returns-then-is_listed-clause-once : goal.returns-then-is_listed-clause-once
returns-then-is_listed-clause-once c = λ out. refl

pub returns-then-is_listed-clause-listed : goal.returns-then-is_listed-clause-listed
returns-then-is_listed-clause-listed c = λ listed. refl

pub returns-then-is_listed-clause-faults : goal.returns-then-is_listed-clause-faults
returns-then-is_listed-clause-faults c = c.is_listed.ensures.faults

pub returns-then-is_out-clause-none : goal.returns-then-is_out-clause-none
returns-then-is_out-clause-none c = λ other. rw c.is_listed.ensures.shelves refl

pub returns-then-is_out-clause-once : goal.returns-then-is_out-clause-once
returns-then-is_out-clause-once c = λ out. refl

pub returns-then-is_out-clause-listed : goal.returns-then-is_out-clause-listed
returns-then-is_out-clause-listed c = λ listed. refl

pub returns-then-is_out-clause-faults : goal.returns-then-is_out-clause-faults
returns-then-is_out-clause-faults c = c.is_listed.ensures.faults

pub returns-in-Ok-clause-fresh : goal.returns-in-Ok-clause-fresh
returns-in-Ok-clause-fresh c = c.in-Ok.ensures.fresh

pub returns-in-Ok-clause-some : goal.returns-in-Ok-clause-some
returns-in-Ok-clause-some c = rw (sym c.is_listed.ensures.shelves) c.in-Ok.ensures.ok

pub returns-in-Ok-clause-once : goal.returns-in-Ok-clause-once
returns-in-Ok-clause-once c = λ out. let at : IsOut c.deref.result.now c.args.dir.now = rw (c.deref.ensures.value, c.is_listed.ensures.shelves) out in sym (c.is_out.ensures.1 at) ∙ c.if-is_out.false

pub returns-in-Ok-clause-listed : goal.returns-in-Ok-clause-listed
returns-in-Ok-clause-listed c = λ listed. sym (c.is_listed.ensures.listed.1 listed) ∙ c.if-is_listed.false

pub returns-in-Ok-clause-faults : goal.returns-in-Ok-clause-faults
returns-in-Ok-clause-faults c = c.is_listed.ensures.faults

pub returns-in-Err-clause-none : goal.returns-in-Err-clause-none
returns-in-Err-clause-none c = λ other. ap (λ (l : List Shelf). shelf_of l other) c.in-Err.ensures.err ∙ rw c.is_listed.ensures.shelves refl

pub returns-in-Err-clause-once : goal.returns-in-Err-clause-once
returns-in-Err-clause-once c = λ out. refl

pub returns-in-Err-clause-listed : goal.returns-in-Err-clause-listed
returns-in-Err-clause-listed c = λ listed. refl

pub returns-in-Err-clause-faults : goal.returns-in-Err-clause-faults
returns-in-Err-clause-faults c = c.is_listed.ensures.faults
