use Rattle.redo_log.proofs.Staying.{fitting_bases_stay}
use Rattle.redo_log.proofs.fits.fitting_bases_stay.Goals as goal

pub returns : goal.returns
returns c = fitting_bases_stay
