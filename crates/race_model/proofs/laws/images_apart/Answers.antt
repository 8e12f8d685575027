use Rattle.race_model.proofs.DeskKeeps.{desk_opens}
use Rattle.race_model.proofs.Keeps.{apart_open}
use Rattle.race_model.proofs.VaultKeeps.{vault_holds}
use Rattle.race_model.proofs.laws.images_apart.Goals as goal

pub returns : goal.returns
returns c = record {
  desk = λ desk contents f is_log are_pages holds. desk_opens desk f contents is_log are_pages holds;
  vault = λ history floor vault maplog slots f is_maplog are_slots. vault_holds history floor vault f maplog slots is_maplog are_slots;
  together = apart_open;
}
