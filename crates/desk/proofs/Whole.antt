-- A desk that is whole stays so.
use Rattle.std.proofs.Common.{◌≡◌, ◌⊎◌, inl, inr, sym, subst}
use Rattle.std.specs.Prelude.{None}
use Rattle.disk_model.specs.Disk.{State}
use Rattle.retro_base.specs.declared.refusal.Refusal.{Refusal}
use Rattle.retro_base.specs.declared.refusal.Refusal.TheVariants.{DiskFault}
use Rattle.gate_log.specs.Cause.{IsDiskFault}
use Rattle.history.specs.declared.entry.Base.{Base}
use Rattle.history.specs.declared.entry.Change.{Change}
use Rattle.history.specs.Right.{IsRight}
use Rattle.records.specs.declared.entry.Entry.{Entry}
use Rattle.records.specs.declared.entry.Entry.TheVariants as entries
use Rattle.records.specs.Entries.{EntryFits}
use Rattle.race_model.specs.Desk.{Desk}
use Rattle.race_model.specs.Fits.{DeskFits}
use Rattle.desk.specs.declared.desk.RunningDesk.{RunningDesk}
use Rattle.desk.specs.Desk.{IsDesk, IsWhole}
use Rattle.desk.specs.Steps.{IsChangeOf, IsRightChange}
use Rattle.desk.proofs.Joined.{rises_of}
use Rattle.desk.proofs.Steps.{entry_right, going}

fault_or : (why : Refusal) → IsDiskFault why ⊎ (IsDiskFault why → ⊥)
fault_or (DiskFault device count) = inl tt
fault_or other = inr (λ is. is)

-- a call that failed, or was refused
pub whole_or : {D : Type 0} (honest : D → Type 0) (state : D → State) (old new : RunningDesk D) → IsWhole honest state old → (why : Refusal) (failed : Desk) → (IsDiskFault why → IsDesk honest state new failed) → DeskFits failed → ((IsDiskFault why → ⊥) → new ≡ old)
    → IsWhole honest state new
whole_or honest state old new whole why failed is fits same = elim (fault_or why) [
  | inl fault ↦ record { desk = failed; is = is fault; fits = fits }
  | inr none ↦ subst (IsWhole honest state) (sym (same none)) whole
]

-- an entry that is right is a change of the desk that is whole
pub change_of : {D : Type 0} (honest : D → Type 0) (state : D → State) (old : RunningDesk D) (entry : Entry) (change : Change) (whole : IsWhole honest state old) → old.stop ≡ None → entry ≡ entries.Change change → IsRightChange old.base entry
    → EntryFits old.log.log.version entry → IsChangeOf honest state old entry whole.desk change
change_of honest state old entry change whole none is right fits = record {
  is = whole.is;
  fits = whole.fits;
  goes = going old.stop whole.desk.stopped whole.is.stopped none;
  spells = is;
  follows = record {
    right = subst (λ (b : Base). IsRight b change) whole.is.base (entry_right old.base entry change is right);
    rises = rises_of old.log.log.version change (subst (EntryFits old.log.log.version) is fits);
  };
}
