use Rattle.std.proofs.Common.{[], sym, subst}
use Rattle.desk.specs.Fetched.{IsPagesRefusal}
use Rattle.desk.proofs.Joined.{desk_of, of_store}
use Rattle.desk.proofs.fetch.open.Goals as goal

pub returns-in-Ok-clause-free : goal.returns-in-Ok-clause-free
returns-in-Ok-clause-free g c = (c.in-Ok.ensures.memory c.requires.pages.bytes (λ slot. []) c.requires.pages.side).free

pub returns-in-Ok-clause-desk : goal.returns-in-Ok-clause-desk
returns-in-Ok-clause-desk g c = λ bytes slots side.
    let m = c.in-Ok.ensures.memory bytes slots side in (
      desk_of g.D.Disk.is_honest g.D.Disk.state c.args.log c.args.list bytes c.args.mappings.now slots c.joined.new.pool c.in-Ok.base c.in-Ok.queue c.requires.read c.requires.version c.requires.side m,
      of_store c.args.list bytes c.args.mappings.now slots c.requires.read m.joined,
      m.joined,
    )

pub returns-in-Err-clause-cause : goal.returns-in-Err-clause-cause
returns-in-Err-clause-cause g c = λ extent bytes side.
    subst (λ (d : _). IsPagesRefusal c.args.list extent bytes c.args.mappings.now c.args.end (g.D.Disk.faults c.args.pool.file.disk) (g.D.Disk.faults d) c.in-Err.why) (sym c.into_disk-in-Err.ensures.disk) (c.in-Err.ensures.cause extent bytes side)
