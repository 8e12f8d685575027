use Rattle.disk_file.proofs.Listed.{comes_back}
use Rattle.disk_file.proofs.file_cabinet.FileCabinetCabinet.put_back.Goals as goal

-- src/file_cabinet.rt:169:5
pub returns-clause-out : goal.returns-clause-out
returns-clause-out g c = comes_back c.args.self.now.out.items c.remove_name.new.names.items c.args.dir.now c.remove_name.ensures
