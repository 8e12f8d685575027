use Rattle.std.proofs.Common.{◌≡◌, ◌+◌, ◌-◌, [], ◌∷◌, ◌++◌, length, inl, inr, true, sym, subst}
use Rattle.std.proofs.lemmas.Bool.{cases_lt}
use Rattle.disk_model.specs.Moments.{LeavesOnly}
use Rattle.disk_model.proofs.Images.{image-seen}
use Rattle.disk_model.proofs.Moments.{now_has, started, weaker}
use Rattle.gate_log.specs.Appending.{after_append, Appending}
use Rattle.gate_log.specs.Log as log
use Rattle.area_log.specs.Area.{Area, Holds, ListsEither}
use Rattle.area_log.proofs.Areas.{appending, either_at_rest, full_alone, holds_appended, holds_log}
use Rattle.area_log.proofs.log.AreaLog.append.Goals as goal

pub returns-in-Some-clause-writes : goal.returns-in-Some-clause-writes
returns-in-Some-clause-writes g c = λ honest.
    let disk = c.args.disk.now in
    record {
      holds = λ bodies holds. tt;
      any_moment = λ bodies holds. started g.D.Disk.remembers (g.D.Disk.clock disk) _ (λ image left. either_at_rest c.args.self.now bodies _ (g.D.Disk.state disk) holds image (g.met.D.Disk.only_now disk image honest left));
    }

-- the bytes at the end are an image of their own
pub returns-in-Ok-clause-writes : goal.returns-in-Ok-clause-writes
returns-in-Ok-clause-writes g c = λ honest.
    let disk = c.args.disk.now in
    let next = c.append.new.disk in
    let state = g.D.Disk.state disk in
    let new = g.D.Disk.state next in
    let body = c.args.framed.now in
    let area : Area = record { log = c.self.inside.log; generation = c.self.inside.generation; is_other_open = c.self.inside.is_other_open; fault = c.self.inside.fault } in
    let is : area ≡ c.args.self.now = c.self.view_is in
    let appends = c.append.ensures.appends honest in
    let room = c.in-Ok.ensures.cause.0 in
    let log_is : c.append.new.self ≡ after_append area.log body true = c.in-Ok.ensures.log in
    record {
      holds = λ bodies holds.
          let held : Holds area bodies state = subst (λ (a : Area). Holds a bodies state) (sym is) holds in
          let step : Appending area.log bodies body state new.seen =
          now_has g.D.Disk.remembers (g.D.Disk.clock disk) (g.D.Disk.clock next) _ _ (appends.any_moment bodies (holds_log area bodies state held))
          (λ t image le image_is. g.met.D.Disk.counts_now next t image (c.append.ensures.same.honest.0 honest) le image_is) new.seen (image-seen new) in
          let more : log.HoldsBodies (after_append area.log body true) (bodies ++ body ∷ []) new = subst (λ (l : log.Region). log.HoldsBodies l (bodies ++ body ∷ []) new) log_is ((c.in-Ok.ensures.appends honest).holds bodies (holds_log area bodies state held)) in
          subst (λ (l : log.Region). Holds (record { log = l; generation = area.generation; is_other_open = area.is_other_open; fault = area.fault }) (bodies ++ body ∷ []) new) (sym log_is)
          (holds_appended area bodies state held body room new step more (c.in-Ok.ensures.appends honest).durable);
      any_moment = λ bodies holds.
          let held : Holds area bodies state = subst (λ (a : Area). Holds a bodies state) (sym is) holds in
          subst (λ (a : Area). LeavesOnly g.D.Disk.remembers (g.D.Disk.clock disk) (g.D.Disk.clock next) (ListsEither a.log.size bodies (bodies ++ body ∷ []))) is
          (weaker g.D.Disk.remembers (g.D.Disk.clock disk) (g.D.Disk.clock next) _ _ (λ image step. appending area bodies state held body room image step) (appends.any_moment bodies (holds_log area bodies state held)));
    }

pub returns-in-Err-clause-writes : goal.returns-in-Err-clause-writes
returns-in-Err-clause-writes g c = λ honest.
    let disk = c.args.disk.now in
    let next = c.append.new.disk in
    let state = g.D.Disk.state disk in
    let body = c.args.framed.now in
    let area : Area = record { log = c.self.inside.log; generation = c.self.inside.generation; is_other_open = c.self.inside.is_other_open; fault = c.self.inside.fault } in
    let is : area ≡ c.args.self.now = c.self.view_is in
    let appends = c.append.ensures.appends honest in
    record {
      holds = λ bodies holds. tt;
      any_moment = λ bodies holds.
          let held : Holds area bodies state = subst (λ (a : Area). Holds a bodies state) (sym is) holds in
          elim (cases_lt (area.log.size - area.log.gate) (length body + 6)) [
            | inl full ↦
                subst (λ d. LeavesOnly g.D.Disk.remembers (g.D.Disk.clock disk) (g.D.Disk.clock d) (ListsEither c.args.self.now.log.size bodies (bodies ++ body ∷ []))) (sym (c.in-Err.ensures.untouched (full_alone area.log (length body) _ _ c.in-Err.refusal c.in-Err.ensures.cause full)))
                (started g.D.Disk.remembers (g.D.Disk.clock disk) _ (λ image left. either_at_rest c.args.self.now bodies _ state holds image (g.met.D.Disk.only_now disk image honest left)))
            | inr room ↦ subst (λ (a : Area). LeavesOnly g.D.Disk.remembers (g.D.Disk.clock disk) (g.D.Disk.clock next) (ListsEither a.log.size bodies (bodies ++ body ∷ []))) is
                (weaker g.D.Disk.remembers (g.D.Disk.clock disk) (g.D.Disk.clock next) _ _ (λ image step. appending area bodies state held body room image step) (appends.any_moment bodies (holds_log area bodies state held)))
          ];
    }
