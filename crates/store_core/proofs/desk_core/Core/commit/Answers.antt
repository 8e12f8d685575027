use Rattle.std.proofs.Common.{◌≡◌, ℕ, List, false, refl, sym, subst, Option}
use Rattle.std.specs.Prelude.{option_copied}
use Rattle.history.specs.declared.entry.Change.TheVariants.{Commit}
use Rattle.race_model.specs.Machine.{change_failed}
use Rattle.desk.proofs.Steps.{log_rests}
use Rattle.txn_set.specs.Ledger.{kept_behind}
use Rattle.txn_set.specs.Refused.{leaves_record}
use Rattle.store_core.specs.Commits.{IsAllowed, desk_behind}
use Rattle.store_core.specs.Core.{IsCore}
use Rattle.store_core.proofs.Committed.{may_commit, no_mark}
use Rattle.store_core.proofs.Edits.{core_with, kept_edits}
use Rattle.store_core.proofs.desk_core.Core.commit.Goals as goal

pub returns-in-Some-clause-stays : goal.returns-in-Some-clause-stays
returns-in-Some-clause-stays g c = λ t why refused opening plain is.
    core_with g.D.Disk.is_honest g.D.Disk.state opening c.args.self.now plain is c.keep.new.self c.args.who t (kept_behind c.in-Some.why t) refused.is_open (kept_edits c.in-Some.why t) (c.keep.ensures.done t refused.is_open) c.keep.ensures.fits

pub returns-in-Err-clause-any_moment : goal.returns-in-Err-clause-any_moment
returns-in-Err-clause-any_moment g c = λ opening plain t is allowed leaves told.
    log_rests g.D.Disk.is_honest g.D.Disk.remembers g.D.Disk.state g.D.Disk.clock c.args.self.now.desk plain is.is is.fits _
    (may_commit g.D.Disk.is_honest g.D.Disk.state opening c.args.self.now plain is c.args.who t (option_copied c.args.mark) allowed.is_open allowed.free leaves).goes told
    (λ image left. g.met.D.Disk.only_now c.args.self.now.desk.log.disk image told left)

pub returns-in-Ok-commit_allowed-clause-done : goal.returns-in-Ok-commit_allowed-clause-done
returns-in-Ok-commit_allowed-clause-done g c = λ opening plain t is allowed.
    subst (λ (l : Option (List ℕ)). IsCore g.D.Disk.is_honest g.D.Disk.state opening c.commit_allowed.new.self (desk_behind plain l t.edits)) c.in-Ok.ensures
    (c.in-Ok-commit_allowed.ensures.done opening plain t is (subst (λ (l : Option (List ℕ)). IsAllowed c.args.self.now c.args.who l t) (sym c.in-Ok.ensures) allowed))

pub returns-in-Err-commit_allowed-clause-failed : goal.returns-in-Err-commit_allowed-clause-failed
returns-in-Err-commit_allowed-clause-failed g c = λ opening plain t is allowed fault.
    subst (λ (l : Option (List ℕ)). IsCore g.D.Disk.is_honest g.D.Disk.state opening c.commit_allowed.new.self (change_failed plain (Commit l t.edits))) c.in-Ok.ensures
    (c.in-Err-commit_allowed.ensures.failed opening plain t is (subst (λ (l : Option (List ℕ)). IsAllowed c.args.self.now c.args.who l t) (sym c.in-Ok.ensures) allowed) fault)

pub returns-in-Err-clause-nothing : goal.returns-in-Err-clause-nothing
returns-in-Err-clause-nothing g c = λ t allowed none. absurd (no_mark c.args.mark t.edits none c.in-Err.ensures)

pub returns-in-Ok-commit_allowed-clause-nothing : goal.returns-in-Ok-commit_allowed-clause-nothing
returns-in-Ok-commit_allowed-clause-nothing g c = λ t allowed none. (
  refl,
  (c.in-Ok-commit_allowed.ensures.nothing t (subst (λ (l : Option (List ℕ)). IsAllowed c.args.self.now c.args.who l t) (sym c.in-Ok.ensures) allowed)
      (subst (λ (l : Option (List ℕ)). leaves_record l t.edits ≡ false) (sym c.in-Ok.ensures) none)).1,
)

pub returns-in-Err-commit_allowed-clause-nothing : goal.returns-in-Err-commit_allowed-clause-nothing
returns-in-Err-commit_allowed-clause-nothing g c = λ t allowed none. absurd (cc
    (c.in-Err-commit_allowed.ensures.nothing t (subst (λ (l : Option (List ℕ)). IsAllowed c.args.self.now c.args.who l t) (sym c.in-Ok.ensures) allowed)
    (subst (λ (l : Option (List ℕ)). leaves_record l t.edits ≡ false) (sym c.in-Ok.ensures) none)).0)
