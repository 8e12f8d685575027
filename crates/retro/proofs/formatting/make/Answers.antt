use Rattle.std.proofs.Common.{inr}
use Rattle.retro.proofs.FromEmpty.{empty_shows, still_honest}
use Rattle.retro.proofs.TakenBack.{took_back}
use Rattle.retro.proofs.formatting.make.Goals as goal

pub returns-in-Ok-format : goal.returns-in-Ok-format
returns-in-Ok-format g c =
    let k = g.C.Cabinet in
    let made = c.in-Ok.ensures in
    let put = c.put_back.ensures in
    inr (
      c.in-Ok.disks,
      c.in-Ok-format.disks,
      took_back k.faults k.is_out k.tells k.store c.args.dir.now c.args.cabinet.now c.create.new.self c.put_back.new.self c.in-Ok-format.disks
          made.cause.steady made.told made.out.ok (λ t. (made.stands t).ok) put.faults put.told put.out put.stands,
      record {
        sized = made.sized;
        cause = c.in-Ok-format.ensures.cause;
        honest = λ t. still_honest g.C.Device.Disk.extent g.C.Device.Disk.is_honest g.C.Device.Disk.state c.in-Ok.disks c.in-Ok-format.disks (made.blank t) c.in-Ok-format.ensures.same;
        empty = λ t. c.in-Ok-format.ensures.empty (made.blank t);
        shows = λ t. empty_shows g.C.Device.Disk.state c.args.sizes c.in-Ok-format.disks c.requires (c.in-Ok-format.ensures.empty (made.blank t));
      },
    )

pub returns-in-Err : goal.returns-in-Err
returns-in-Err g c =
    let k = g.C.Cabinet in
    let made = c.in-Ok.ensures in
    let put = c.put_back-in-Err.ensures in
    inr (
      c.in-Ok.disks,
      c.in-Err.disks,
      took_back k.faults k.is_out k.tells k.store c.args.dir.now c.args.cabinet.now c.create.new.self c.put_back-in-Err.new.self c.in-Err.disks
          made.cause.steady made.told made.out.ok (λ t. (made.stands t).ok) put.faults put.told put.out put.stands,
      record {
        sized = made.sized;
        cause = c.in-Err.ensures.cause;
        honest = λ t. still_honest g.C.Device.Disk.extent g.C.Device.Disk.is_honest g.C.Device.Disk.state c.in-Ok.disks c.in-Err.disks (made.blank t) c.in-Err.ensures.same;
        empty = λ t. tt;
        shows = λ t. tt;
      },
    )
