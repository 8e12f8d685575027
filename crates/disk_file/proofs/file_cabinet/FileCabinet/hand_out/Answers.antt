use Rattle.std.proofs.Common.{rules}
use Rattle.disk_file.proofs.Listed.{goes_out}
use Rattle.disk_file.proofs.file_cabinet.FileCabinet.hand_out.Goals as goal

-- src/file_cabinet.rt:55:13
pub returns-clause-out : goal.returns-clause-out
returns-clause-out g c = goes_out c.args.self.now.out.items c.add_name.new.names.items c.in-Ok-from_str.name c.args.dir.now c.in-Ok.four c.in-Ok-from_str.ensures.ok (search rules)
