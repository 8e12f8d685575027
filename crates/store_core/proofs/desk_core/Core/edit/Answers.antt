use Rattle.std.proofs.Common.{◌∙◌, ◌||◌, Bool, sym, ap}
use Rattle.journal_book.specs.Works.{editing}
use Rattle.retro_base.specs.declared.device.Device.TheVariants.{Pages}
use Rattle.block_file.specs.Blocks.{File}
use Rattle.page_pool.specs.Side.{held}
use Rattle.txn_set.specs.Ledger.{kept_behind}
use Rattle.desk.proofs.Steps.{is_none}
use Rattle.store_core.proofs.Edits.{core_read, core_with, edit_answered, edit_cause, edit_core, kept_edits, swapped}
use Rattle.store_core.proofs.desk_core.Core.edit.Goals as goal

pub returns-in-Some-clause-core : goal.returns-in-Some-clause-core
returns-in-Some-clause-core g c = λ opening plain is.
    core_with g.D.Disk.is_honest g.D.Disk.state opening c.args.self.now plain is c.keep.new.self c.args.who c.requires.is_open.transaction (kept_behind c.in-Some.why c.requires.is_open.transaction) c.requires.is_open.open_there
    (kept_edits c.in-Some.why c.requires.is_open.transaction) (c.keep.ensures.done c.requires.is_open.transaction c.requires.is_open.open_there) c.keep.ensures.fits

pub returns-in-Ok-clause-ledger : goal.returns-in-Ok-clause-ledger
returns-in-Ok-clause-ledger g c = λ t there.
    edit_answered c.args.who t (editing (record { page = c.args.page; bytes = c.args.bytes.now }) t) _ c.args.self.now.ledger c.add_held.new.self.ledger c.add_held.result
    (sym (c.edit_refused.ensures t there) ∙ is_none c.edit_refused.result c.in_default.not-Some) there (c.add_held.ensures.done t there) c.add_held.ensures.memory

pub returns-in-Ok-clause-core : goal.returns-in-Ok-clause-core
returns-in-Ok-clause-core g c = λ opening plain is.
    let t = c.requires.is_open.transaction in
    let there = c.requires.is_open.open_there in
    edit_core g.D.Disk.is_honest g.D.Disk.state opening c.args.self.now plain is c.hold.new.self c.add_held.new.self.desk c.add_held.new.self.ledger c.args.who t (record { page = c.args.page; bytes = c.args.bytes.now }) c.add_held.result there
    (sym (c.edit_refused.ensures t there) ∙ is_none c.edit_refused.result c.in_default.not-Some) c.add_held.ensures.whole c.hold.ensures.rest c.add_held.ensures.rest
    (c.add_held.ensures.desk plain (c.hold.ensures.desk plain is.is)) (λ other. c.in-Ok.ensures.held other ∙ ap (λ (b : Bool). held c.args.self.now.desk.pool other || b) (swapped c.args.page other)) c.add_held.ensures.works (c.add_held.ensures.done t there) c.add_held.ensures.kept c.add_held.ensures.memory (c.add_held.ensures.released t there)

pub returns-in-Err-clause-core : goal.returns-in-Err-clause-core
returns-in-Err-clause-core g c = λ opening plain is.
    let t = c.requires.is_open.transaction in
    let there = c.requires.is_open.open_there in
    core_with g.D.Disk.is_honest g.D.Disk.state opening (record { desk = c.hold.new.self; ledger = c.args.self.now.ledger }) plain
    (core_read g.D.Disk.is_honest g.D.Disk.state opening c.args.self.now plain is c.hold.new.self c.hold.ensures.rest (c.hold.ensures.desk plain is.is) c.in-Err.ensures.as_before)
    c.keep-in-Err.new.self c.args.who t (kept_behind c.in-Err.why t) there (kept_edits c.in-Err.why t) (c.keep-in-Err.ensures.done t there) c.keep-in-Err.ensures.fits

pub returns-in-Ok-clause-cause : goal.returns-in-Ok-clause-cause
returns-in-Ok-clause-cause g c = λ t there none.
    edit_cause _ c.add_held.result Pages (g.D.Disk.faults c.args.self.now.desk.pool.file.disk) (g.D.Disk.faults c.hold.new.self.pool.file.disk) (g.D.Disk.faults c.add_held.new.self.desk.pool.file.disk) c.in-Ok.ensures.cause
    (ap (λ (f : File g.row.D.Denot). g.D.Disk.faults f.disk) c.add_held.ensures.file) c.add_held.ensures.memory
