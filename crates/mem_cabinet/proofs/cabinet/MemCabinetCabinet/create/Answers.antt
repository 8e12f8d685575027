use Rattle.std.proofs.Common.{ℕ, arith, refl, subst}
use Rattle.retro_base.specs.Cause.{Rose}
use Rattle.mem_cabinet.proofs.Shelved.{blank_blank, blank_sized, goes_err, goes_ok, takes_err, takes_ok}
use Rattle.mem_cabinet.proofs.cabinet.MemCabinetCabinet.create.Goals as goal

pub returns-in-Some-clause-cause : goal.returns-in-Some-clause-cause
returns-in-Some-clause-cause c = let same = c.made.ensures.faults in record { later = omega (arith, same); failed = tt; steady = same }

pub returns-in-Some-clause-out : goal.returns-in-Some-clause-out
returns-in-Some-clause-out c = goes_ok c.args.dir.now c.args.self.now.shelves.items c.made.new.self.shelves.items c.in-Some.four c.in-Some.ensures.some

pub returns-in-Some-clause-once : goal.returns-in-Some-clause-once
returns-in-Some-clause-once c = λ out. let none = c.in-Some.ensures.once out in absurd cc

pub returns-in-Some-clause-sized : goal.returns-in-Some-clause-sized
returns-in-Some-clause-sized c = blank_sized c.args.sizes c.in-Some.four c.in-Some.ensures.fresh

pub returns-in-Some-clause-blank : goal.returns-in-Some-clause-blank
returns-in-Some-clause-blank c = blank_blank c.args.sizes c.in-Some.four c.in-Some.ensures.fresh

pub returns-in-Some-clause-stands : goal.returns-in-Some-clause-stands
returns-in-Some-clause-stands c = takes_ok c.args.dir.now c.args.self.now.shelves.items c.made.new.self.shelves.items c.in-Some.four c.in-Some.ensures.some

pub returns-in-Some-clause-listed : goal.returns-in-Some-clause-listed
returns-in-Some-clause-listed c = λ listed. let none = c.in-Some.ensures.listed listed in absurd cc

pub returns-in-None-clause-cause : goal.returns-in-None-clause-cause
returns-in-None-clause-cause c =
    let same = c.made.ensures.faults in
    let more = c.fault.ensures.later in
    record { later = omega (arith, same, more); failed = subst (λ (n : ℕ). Rose n c.fault.new.self.faults) same c.fault.ensures.rose; steady = tt }

pub returns-in-None-clause-out : goal.returns-in-None-clause-out
returns-in-None-clause-out c = goes_err c.args.dir.now c.args.self.now.shelves.items c.fault.new.self.shelves.items c.fault.result (λ q. rw c.fault.ensures.shelves (c.in-None.ensures.none q))

pub returns-in-None-clause-once : goal.returns-in-None-clause-once
returns-in-None-clause-once c = λ out. refl

pub returns-in-None-clause-stands : goal.returns-in-None-clause-stands
returns-in-None-clause-stands c = takes_err c.args.dir.now c.args.self.now.shelves.items c.fault.new.self.shelves.items c.fault.result (λ q. rw c.fault.ensures.shelves (c.in-None.ensures.none q))

pub returns-in-None-clause-listed : goal.returns-in-None-clause-listed
returns-in-None-clause-listed c = λ listed. refl
