use Rattle.std.proofs.Common.{◌≡◌, drop}
use Rattle.sql_tree.specs.Rows.{fits}
use Rattle.sql_tree.proofs.rows.fits.Given as goal

abbrev pub invariant-loop-i : goal.invariant-loop-i
invariant-loop-i l = fits (drop l.i l.columns) (drop l.i l.row) ≡ fits l.columns l.row
