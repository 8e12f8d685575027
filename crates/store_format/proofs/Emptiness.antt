-- Zeros as pages, and the store that opens from them.
use Rattle.std.proofs.Common.{◌≡◌, ◌∙◌, inl, inr, ◌-◌, ◌*◌, ℕ, List, [], length, take, replicate, refl, sym, ap, subst, arith, Result, Ok, Err, OnOk}
use Rattle.std.proofs.Math.Path.{fun_ext}
use Rattle.std.proofs.lemmas.List.{drop-replicate, take-replicate, get_or-replicate, get_or_past, length-replicate}
use Rattle.std.proofs.lemmas.Bool.{cases_lt}
use Rattle.disk_model.specs.Cabinet.{AreSized, IsBlank}
use Rattle.disk_model.specs.Disk.{IsDurable, State}
use Rattle.disk_model.specs.Moments.{Clock}
use Rattle.disk_model.specs.Runs.{SameDevice, WritesNothing}
use Rattle.disk_model.specs.declared.four.Four.{Four}
use Rattle.disk_model.specs.declared.four.Sizes.{Sizes}
use Rattle.disk_model.proofs.Images.{image-durable}
use Rattle.history.specs.Replayed.{page_in}
use Rattle.history.specs.declared.entry.Base.{Base}
use Rattle.history.specs.declared.log.Version.{Version}
use Rattle.map_log.specs.Log.{ListsMappings, none_yet}
use Rattle.opening.specs.Devices.{AreImages}
use Rattle.opening.specs.Opening.{Hold, page_at}
use Rattle.redo_log.specs.Made.{MakesLog}
use Rattle.redo_log.specs.Redo.{base_alone, ListsLog}
use Rattle.retro_base.specs.declared.refusal.Refusal.{Refusal}
use Rattle.replay.specs.Joined.{AreJoined}
use Rattle.replay.specs.Opened.{Opens}
use Rattle.store_format.specs.Empty.{AreFilled, IsEmptyStore, IsSettledZero, empty_base, empty_contents, empty_store, zero_pages}

-- the pages of a device of zeros
zeros_at : (count number : ℕ) → page_in (zero_pages count) number ≡ page_at (replicate (1024 * count) 0) number
zeros_at count number = elim (cases_lt number count) [
  | inl lt ↦
      get_or-replicate count number (replicate 1024 0) [] lt
      ∙ sym (ap (take 1024) (drop-replicate (1024 * number) (1024 * count) 0) ∙ take-replicate 1024 (1024 * count - 1024 * number) 0 (omega arith))
  | inr ge ↦
      get_or_past (zero_pages count) number [] (omega (arith, length-replicate count (replicate {A = ℕ} 1024 0), ge))
      ∙ sym (ap (take 1024) (drop-replicate (1024 * number) (1024 * count) 0 ∙ ap (λ (n : ℕ). replicate {A = ℕ} n 0) (let n : 1024 * count - 1024 * number ≡ 0 = omega (arith, ge) in n)))
]

pages_of_zeros : (count size : ℕ) (bytes : List ℕ) → size ≡ 1024 * count → bytes ≡ replicate size 0 → page_in (zero_pages count) ≡ page_at bytes
pages_of_zeros count size bytes whole zeros =
    fun_ext (λ number. zeros_at count number ∙ ap (λ (b : List ℕ). page_at b number) (sym (zeros ∙ ap (λ (n : ℕ). replicate {A = ℕ} n 0) whole)))

joined : (version : Version) (sizes : Sizes) → AreJoined (empty_contents version sizes)
joined version sizes = record {
  holds_base = record { counted = omega arith; room = omega arith; different = refl; captured = refl };
  holds_changes = record { known = omega arith; needed = omega arith; same = refl };
}

opens_so : (version : Version) (sizes : Sizes) → Opens (empty_contents version sizes) (empty_store sizes)
opens_so version sizes = record { base = refl; pages = λ page. refl; low = refl; held = refl; captures = refl }

-- devices that were filled open to the empty store, whatever a crash leaves of them
pub opens_empty : {D : Type 0} (extent : D → ℕ) (state : D → State) (version : Version) (sizes : Sizes) (disks : Four D) → AreSized extent sizes disks → AreFilled extent state version sizes disks → (devices : Four (List ℕ)) → AreImages state disks devices → IsEmptyStore version sizes devices
opens_empty extent state version sizes disks sized filled devices images =
    let log = image-durable (state disks.log) devices.log filled.log_durable images.log in
    let pages = image-durable (state disks.pages) devices.pages filled.pages.durable images.pages ∙ filled.pages.zeros in
    let pagelog = image-durable (state disks.pagelog) devices.pagelog filled.pagelog.durable images.pagelog ∙ filled.pagelog.zeros in
    let maplog = image-durable (state disks.maplog) devices.maplog filled.maplog_durable images.maplog in
    let hold : Hold version devices (empty_contents version sizes) = record {
      log = subst (ListsLog (base_alone version (empty_base sizes))) (sym log) filled.log;
      sized = record {
        pages = ap length pages ∙ length-replicate (extent disks.pages) 0 ∙ sized.pages;
        pagelog = ap length pagelog ∙ length-replicate (extent disks.pagelog) 0 ∙ sized.pagelog;
      };
      pages = pages_of_zeros sizes.pages (extent disks.pages) devices.pages sized.pages pages;
      slots = pages_of_zeros sizes.capacity (extent disks.pagelog) devices.pagelog sized.pagelog pagelog;
      maplog = subst (ListsMappings version sizes.pages sizes.capacity none_yet) (sym maplog) filled.maplog;
    } in
    record { hold = hold; opens = record { contents = empty_contents version sizes; hold = hold; joined = joined version sizes; opens = opens_so version sizes } }

-- a device of zeros that was settled
pub settled_zero : {D : Type 0} (extent : D → ℕ) (is_honest : D → Type 0) (remembers : Type 0) (state : D → State) (clock : D → Clock) (old new : D) → IsBlank extent is_honest state old → SameDevice extent is_honest old new
    → (is_honest old → WritesNothing remembers state clock old new) → IsDurable (state new) → IsSettledZero (extent new) (state new)
settled_zero extent is_honest remembers state clock old new blank same quiet durable =
    record { zeros = (quiet blank.honest).same ∙ blank.zeros ∙ ap (λ (n : ℕ). replicate {A = ℕ} n 0) (sym same.size); durable = durable }

-- the log was made behind the three others
pub filled : {D : Type 0} (extent : D → ℕ) (remembers : Type 0) (state : D → State) (clock : D → Clock) (version : Version) (sizes : Sizes) (old : D) (disks : Four D) (base : Base) (made : Result (Unit {0}) Refusal) → base ≡ empty_base sizes
    → MakesLog (base_alone version base) remembers state clock old disks.log made → IsSettledZero (extent disks.pages) (state disks.pages) → IsSettledZero (extent disks.pagelog) (state disks.pagelog)
    → ListsMappings version sizes.pages sizes.capacity none_yet (state disks.maplog).seen → IsDurable (state disks.maplog) → OnOk made (AreFilled extent state version sizes disks)
filled extent remembers state clock version sizes old disks base (Ok x) is makes pages pagelog maplog durable = record {
  log = subst (λ (b : Base). ListsLog (base_alone version b) (state disks.log).seen) is makes.lists;
  log_durable = makes.durable;
  pages = pages;
  pagelog = pagelog;
  maplog = maplog;
  maplog_durable = durable;
}
filled extent remembers state clock version sizes old disks base (Err e) is makes pages pagelog maplog durable = tt
