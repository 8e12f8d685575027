use Rattle.history.proofs.Items.{none_stops, first_stops, only_stops_leave_doubt}
use Rattle.history.proofs.laws.laws_of_stops.Goals as goal

pub returns : goal.returns
returns c = record { no_stop = none_stops; first = first_stops; doubt = only_stops_leave_doubt }
