use Rattle.std.proofs.Common.{refl, arith}
use Rattle.area_log.proofs.Headers.{header_of}
use Rattle.area_log.proofs.header.read_header.Goals as goal

pub returns-in-Ok-clause-header : goal.returns-in-Ok-clause-header
returns-in-Ok-clause-header g c = λ honest.
    header_of c.args.place (g.D.Disk.state c.args.disk.now).seen c.read_at.new.out _ (omega (arith, c.requires, g.met.D.Disk.sized c.args.disk.now honest)) (omega arith)
    (c.in-Ok.ensures.read honest).read refl c.get_u64.ensures
