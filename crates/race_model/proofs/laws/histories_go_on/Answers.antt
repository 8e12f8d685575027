use Rattle.race_model.proofs.Apart.{history_outlives, history_outlives_lines, all_outlive, all_outlive_lines}
use Rattle.race_model.proofs.laws.histories_go_on.Goals as goal

pub returns : goal.returns
returns c = record { history = history_outlives; changes = all_outlive; history_lines = history_outlives_lines; lines = all_outlive_lines }
