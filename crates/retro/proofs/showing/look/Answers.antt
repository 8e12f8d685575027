use Rattle.std.proofs.Common.{inr}
use Rattle.retro.proofs.TakenBack.{took_back}
use Rattle.retro.proofs.showing.look.Goals as goal

pub returns-in-Ok-show_devices : goal.returns-in-Ok-show_devices
returns-in-Ok-show_devices g c =
    let k = g.C.Cabinet in
    let gone = c.in-Ok.ensures in
    let put = c.put_back.ensures in
    inr (
      c.in-Ok.disks,
      c.in-Ok-show_devices.disks,
      gone.found,
      took_back k.faults k.is_out k.tells k.store c.args.dir.now c.args.cabinet.now c.fetch.new.self c.put_back.new.self c.in-Ok-show_devices.disks
          gone.cause.steady gone.told gone.out.ok (λ t. (gone.stands t).ok) put.faults put.told put.out put.stands,
      record {
        unwritten = c.in-Ok-show_devices.ensures.back;
        cause = c.in-Ok-show_devices.ensures.cause;
        shown = c.in-Ok-show_devices.ensures.shown;
      },
    )

pub returns-in-Err : goal.returns-in-Err
returns-in-Err g c =
    let k = g.C.Cabinet in
    let gone = c.in-Ok.ensures in
    let put = c.put_back-in-Err.ensures in
    inr (
      c.in-Ok.disks,
      c.in-Err.disks,
      gone.found,
      took_back k.faults k.is_out k.tells k.store c.args.dir.now c.args.cabinet.now c.fetch.new.self c.put_back-in-Err.new.self c.in-Err.disks
          gone.cause.steady gone.told gone.out.ok (λ t. (gone.stands t).ok) put.faults put.told put.out put.stands,
      record {
        unwritten = c.in-Err.ensures.back;
        cause = c.in-Err.ensures.cause;
        shown = tt;
      },
    )
