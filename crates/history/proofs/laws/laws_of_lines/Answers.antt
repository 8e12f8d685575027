use Rattle.history.proofs.Lines.{base_of_one_more, pins_of_one_more, lines_of_one_more, images_in_one_more, open_in_one_more, last_change_in_one_more, changed_since_in_one_more, doubt_in_one_more, first_stop_in_one_more, faults_of_one_more, faults_differ_in_one_more, faults_of_front_differ}
use Rattle.history.proofs.laws.laws_of_lines.Goals as goal

pub returns : goal.returns
returns c = record {
  base = base_of_one_more;
  pins = pins_of_one_more;
  lines = lines_of_one_more;
  images = images_in_one_more;
  open_items = open_in_one_more;
  changes = last_change_in_one_more;
  since = changed_since_in_one_more;
  stops = first_stop_in_one_more;
  doubts = doubt_in_one_more;
  faults = faults_of_one_more;
  differ = faults_differ_in_one_more;
  front = faults_of_front_differ;
}
