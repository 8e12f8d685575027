use Rattle.std.proofs.Common.{◌++◌, [], ◌∷◌, sym}
use Rattle.redo_log.proofs.Logs.{if_ok, listed_version, log_more, own_version, writes_log}
use Rattle.redo_log.specs.Redo.{one_more}
use Rattle.redo_log.proofs.log.RedoLog.add.Goals as goal

pub returns-clause-cause : goal.returns-clause-cause
returns-clause-cause g c = rw (← c.self.view_is) c.append.ensures.cause

pub returns-clause-writes : goal.returns-clause-writes
returns-clause-writes g c =
    rw (← c.self.view_is)
    (λ log change honest keeps more.
    let version = c.self.inside.version in
    let grown = log_more version keeps.bodies log c.args.framed.now change keeps.stands more in
    writes_log g.D.Disk.remembers g.D.Disk.state g.D.Disk.clock c.args.disk.now c.append.new.disk c.self.inside.log c.append.new.self version version c.self.invariant.size (λ bodies. bodies ++ c.args.framed.now ∷ []) log (one_more log change)
    keeps.bodies c.append.result keeps.stands keeps.holds (own_version version _ (one_more log change) grown) (if_ok c.append.result (sym (listed_version version keeps.bodies log keeps.stands)))
    (c.append.ensures.writes honest))
