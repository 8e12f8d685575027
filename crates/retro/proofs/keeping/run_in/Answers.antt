use Rattle.std.proofs.Common.{inr}
use Rattle.retro.proofs.TakenBack.{took_back}
use Rattle.retro.proofs.keeping.run_in.Goals as goal

pub returns : goal.returns
returns g c =
    let k = g.C.Cabinet in
    let gone = c.in-Ok.ensures in
    let put = c.put_back.ensures in
    inr (
      c.in-Ok.disks,
      c.run_on-disks.result.0,
      gone.found,
      took_back k.faults k.is_out k.tells k.store c.args.dir.now c.args.cabinet.now c.fetch.new.self c.put_back.new.self c.run_on-disks.result.0
          gone.cause.steady gone.told gone.out.ok (λ t. (gone.stands t).ok) put.faults put.told put.out put.stands,
      c.run_on-disks.ensures,
    )
