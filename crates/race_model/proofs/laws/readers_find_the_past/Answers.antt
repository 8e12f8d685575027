use Rattle.race_model.specs.Invariant.{ToldFits}
use Rattle.race_model.proofs.Apart.{finds_alike, past_is_right, past_over_lines, vault_finds}
use Rattle.race_model.proofs.Grows.{all_at}
use Rattle.race_model.proofs.Readings.{found_is, told_fits}
use Rattle.race_model.proofs.laws.readers_find_the_past.Goals as goal

pub returns : goal.returns
returns c = record {
  tells = λ desk snapshot page fits retained. told_fits desk fits snapshot page retained;
  finds = vault_finds;
  alike = finds_alike;
  past = past_is_right;
  over_lines = past_over_lines;
  machine = λ machine told f is pinned.
      found_is machine.desk.history machine.desk.floor f.desk.history machine.vault f.vault told machine.desk.acked f.order (all_at (ToldFits machine.desk.history machine.desk.acked) machine.told told f.told is) (f.pins told.snapshot pinned);
}
