use Rattle.std.proofs.Common.{sym}
use Rattle.mem_cabinet.proofs.Shelved.{goes_ok}
use Rattle.mem_cabinet.proofs.cabinet.MemCabinetCabinet.fetch.Goals as goal

pub returns-in-Some-clause-out : goal.returns-in-Some-clause-out
returns-in-Some-clause-out c =
    goes_ok c.args.dir.now c.args.self.now.shelves.items c.take.new.shelves.items c.in-Some.four (rw (sym c.is_listed.ensures.shelves) c.in-Some.ensures.some)
