use Rattle.history.proofs.Items.{ended_pins_nothing, others_pins_stay, looks_pin}
use Rattle.history.proofs.laws.laws_of_pins.Goals as goal

pub returns : goal.returns
returns c = record { looks = looks_pin; ended = ended_pins_nothing; others = others_pins_stay }
