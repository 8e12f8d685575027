use Rattle.race_model.proofs.DeskKeeps.{may_write_back, may_cut_settled}
use Rattle.race_model.proofs.Sending.{may_send}
use Rattle.race_model.proofs.laws.work_goes_on.Goals as goal

pub returns : goal.returns
returns c = record {
  write = λ desk page f goes soiled none. may_write_back desk f page goes soiled none;
  cut = λ desk f goes clean all. may_cut_settled desk f goes clean all;
  send = may_send;
}
