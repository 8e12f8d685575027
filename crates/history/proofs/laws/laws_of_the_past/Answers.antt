use Rattle.history.proofs.AsOf.{as_of_the_declaration, as_of_stays}
use Rattle.history.proofs.Lines.{page_of_the_declaring_line, pages_as_of_stay}
use Rattle.history.proofs.laws.laws_of_the_past.Goals as goal

pub returns : goal.returns
returns c = record { declared = as_of_the_declaration; stays = as_of_stays; declaring_line = page_of_the_declaring_line; more_lines = pages_as_of_stay }
