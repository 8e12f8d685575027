-- What a crash leaves of the four devices within calls.
use Rattle.std.proofs.Common.{◌≡◌, ◌∙◌, ◌⊎◌, ◌*◌, ◌≤◌, ℕ, List, length, Option, refl, sym, ap, subst, arith, inl, inr, Some, None}
use Rattle.block_file.proofs.Blocks.{image_settled}
use Rattle.disk_model.specs.declared.four.Four.{Four}
use Rattle.disk_model.specs.Disk.{IsImage, State}
use Rattle.disk_model.specs.Sizes.{maplog_half}
use Rattle.retro_base.specs.declared.limits.TheConstants.{LOG_REGION_BYTES, PAGE_BYTES}
use Rattle.area_log.specs.Listed.{DeviceStandsFor}
use Rattle.history.specs.declared.entry.Base.{Base}
use Rattle.history.specs.declared.entry.Change.{Change}
use Rattle.history.specs.declared.log.Log as declared
use Rattle.history.specs.declared.log.Version.{Version}
use Rattle.history.specs.History.{History, State as Place, run}
use Rattle.history.specs.Journal.{after_journal}
use Rattle.history.specs.Lines.{doubt_in}
use Rattle.opening.specs.Devices.{AreHonest}
use Rattle.opening.specs.Opening.{AreSized, page_at}
use Rattle.race_model.specs.Desk.{Desk, IsInDoubt, capacity_of, Doubt, NewBase, OneMore, Sure}
use Rattle.race_model.specs.Fits.{DeskFits, VaultFits, DoubtFits}
use Rattle.race_model.specs.Machine.{change_failed, cut_failed, enter_failed, lay_failed, stopped, write_failed}
use Rattle.race_model.specs.Vault.{AreSlotsOf, LeavesOthers, Vault, IsMaplogOf, Maplog as MaplogOf}
use Rattle.race_model.proofs.DeskKeeps.{change_failed_keeps, cut_failed_keeps, stop_keeps, write_failed_keeps}
use Rattle.race_model.proofs.Keeps.{apart_open}
use Rattle.race_model.proofs.VaultKeeps.{enter_failed_keeps, lay_failed_keeps}
use Rattle.records.specs.Log.{IsLog}
use Rattle.records.specs.Maplog.{IsMaplog}
use Rattle.replay.specs.Laws.{AreRightContents}
use Rattle.replay.specs.Opened.{Contents, opened}
use Rattle.skippy.specs.Mappings.{end_of}
use Rattle.archive.specs.Archive.{Running}
use Rattle.archive.specs.Side.{ListsMaplogOf}
use Rattle.desk.specs.Desk.{HoldsPagesOf, ListsLogOf, log_of, other_log}
use Rattle.store_core.specs.Core.{IsToldDoubt}
use Rattle.store.specs.declared.desk_side.DeskSide.{DeskSide}
use Rattle.store.specs.Crashes.{HoldWorld, OpensTo}
use Rattle.store.specs.Opening.{disks_of}
use Rattle.store.specs.Seats.{journal}
use Rattle.store.specs.Start.{IsCoreFrom, IsDoubtIn, IsVaultFrom, IsVaultIn, Origin}
use Rattle.store.specs.Within.{AtRest, InChange, InCut, InEntering, InLaying, InSettling, InWriteBack, LeftOfDesk, LeftOfVault, LeftOpens, Quiet, StandTogether}
use Rattle.store.proofs.Looked.{page_count_stays}
use Rattle.history.specs.declared.journal.Line.{Line}
use Rattle.race_model.specs.Images.{IsSameWorld, OpenInDoubt}
use Rattle.race_model.proofs.Grows.{all_at}
use Rattle.race_model.proofs.Histories.{capacity_stays}

-- ---- the change in doubt

abbrev change_in : Doubt → Option Change
change_in Sure = None
change_in (OneMore change) = Some change
change_in (NewBase version) = None

-- that no reader can tell the contents from the history is told whatever is in doubt
in_no_doubt : (contents : Contents) (history : History) (doubt : Option Change) → IsSameWorld (opened contents) history → OpensTo contents history doubt
in_no_doubt contents history None same = same
in_no_doubt contents history (Some change) same = inl same

-- what is in doubt is told
told_opens : (contents : Contents) (history : History) (doubt : Doubt) (lines : List Line) → IsToldDoubt doubt lines → OpensTo contents history (change_in doubt) → OpensTo contents history (doubt_in lines)
told_opens contents history Sure lines told opens = in_no_doubt contents history (doubt_in lines) opens
told_opens contents history (NewBase version) lines told opens = in_no_doubt contents history (doubt_in lines) opens
told_opens contents history (OneMore change) lines told opens = subst (OpensTo contents history) (sym told) opens

-- what an image opens to, and its log's version
opened_as : (contents : Contents) (desk : Desk) (doubt : Doubt) → DoubtFits desk doubt → OpenInDoubt contents desk doubt → IsDoubtIn desk.version doubt → AreRightContents contents × (contents.log.version ≡ desk.version) × OpensTo contents desk.history (change_in doubt)
opened_as contents desk Sure f o v = (o.store.right, o.in_version, o.same)
opened_as contents desk (NewBase version) f o v = elim o [ inl x ↦ (x.store.right, x.in_version, x.same) | inr x ↦ (x.store.right, x.in_version ∙ v, x.same) ]
opened_as contents desk (OneMore change) f o v = elim o [ inl x ↦ (x.store.right, x.in_version, inl x.same) | inr x ↦ (x.store.right, x.in_version, inr (f.0, x.same)) ]

may_log : (desk : Desk) (doubt : Doubt) (log : declared.Log) → (log ≡ log_of desk) ⊎ (other_log desk doubt ≡ Some log) → (log ≡ log_of desk) ⊎ IsInDoubt desk doubt log
may_log desk doubt log (inl same) = inl same
may_log desk Sure log (inr e) = absurd cc
may_log desk (OneMore change) log (inr e) = inr cc
may_log desk (NewBase version) log (inr e) = inr cc

-- ---- sizes

-- the sizes of a place
abbrev SizesOf : Base → Base → Type 0
SizesOf base other = (base.page_count ≡ other.page_count) × (base.capacity ≡ other.capacity)

base_sizes : (place : Place) (changes : List Change) (base : Base) → base ≡ (run place changes).base → SizesOf base place.base
base_sizes place changes base e = (ap (λ (b : Base). b.page_count) e ∙ page_count_stays place changes, ap (λ (b : Base). b.capacity) e ∙ capacity_stays place changes)

log_sizes : (desk : Desk) (doubt : Doubt) (log : declared.Log) → (log ≡ log_of desk) ⊎ IsInDoubt desk doubt log → SizesOf log.base desk.history.origin.base
log_sizes desk doubt log (inl e) = base_sizes desk.history.origin desk.past log.base (ap (λ (l : declared.Log). l.base) e)
log_sizes desk Sure log (inr e) = absurd e
log_sizes desk (OneMore change) log (inr e) = base_sizes desk.history.origin desk.past log.base (ap (λ (l : declared.Log). l.base) e)
log_sizes desk (NewBase version) log (inr e) = base_sizes desk.history.origin desk.history.changes log.base (ap (λ (l : declared.Log). l.base) e)

maplog_in : (version : Version) (vault : Vault) (maplog : MaplogOf) → IsVaultIn version vault → IsMaplogOf vault maplog → maplog.version ≡ version
maplog_in version vault maplog v (inl e) = ap (λ (m : MaplogOf). m.version) e ∙ v.0
maplog_in version vault maplog v (inr among) = all_at (λ (other : MaplogOf). other.version ≡ version) vault.others maplog v.1 among

-- ---- the devices within calls

-- the devices hold that, with the mappings of a Maplog that the vault may have
pub record HoldsMapped (version : Version) (devices : Four (List ℕ)) (history : History) (doubt : Option Change) (vault : Vault) : Type 0 where
  pub holds : HoldWorld version devices history doubt
  pub maplog : MaplogOf
  pub is : IsMaplogOf vault maplog
  pub mapped : holds.contents.mappings ≡ maplog.mappings

module _ {D : Type 0} (is_honest : D → Type 0) (state : D → State) (side : DeskSide D) (archive : Running D) (origin : Origin) (devices : Four (List ℕ)) (together : StandTogether is_honest state side archive origin) (from : IsCoreFrom is_honest state origin side.core)
    (from_vault : IsVaultFrom is_honest state (is_honest side.start.core.value.desk.pool.file.disk) origin (journal side) archive) (pages_size : length devices.pages ≡ PAGE_BYTES * side.core.desk.pool.file.blocks) (slots_size : length devices.pagelog ≡ PAGE_BYTES * archive.pagelog.blocks) where
  abbrev Here : History
  Here = after_journal origin.history (journal side)

  honest : AreHonest is_honest (disks_of side.core archive)
  honest = record {
    log = together.stands.honest.log.0 together.begun.honest.log;
    pages = together.stands.honest.pages.0 together.begun.honest.pages;
    pagelog = together.vault.honest.pagelog.0 together.begun.honest.pagelog;
    maplog = together.vault.honest.maplog.0 together.begun.honest.maplog;
  }

  -- the sizes are those at the opening
  same_origin : from.plain.history.origin.base ≡ origin.history.origin.base
  same_origin = ap (λ (h : History). h.origin.base) from.is.journal

  blocks_are : side.core.desk.pool.file.blocks ≡ origin.history.origin.base.page_count
  blocks_are = from.is.is.whole ∙ (page_count_stays from.plain.history.origin from.plain.history.changes ∙ ap (λ (b : Base). b.page_count) same_origin)

  count_is : archive.side.log.page_count ≡ origin.history.origin.base.page_count
  count_is = from_vault.pages ∙ page_count_stays origin.history.origin origin.history.changes

  -- the two devices of the archive, as they stand
  maplog_stands : IsImage (state archive.side.disk) devices.maplog → ListsMaplogOf archive.side.log from_vault.vault devices.maplog
  maplog_stands image = from_vault.is.mapped.images honest.maplog devices.maplog image

  slots_stand : IsImage (state archive.pagelog.disk) devices.pagelog → AreSlotsOf from_vault.vault (page_at devices.pagelog)
  slots_stand image slot sure = let r = from_vault.is.slots honest.pagelog in image_settled (state archive.pagelog.disk) devices.pagelog slot image (r.sure slot sure) ∙ r.reads slot

  -- the two devices of the desk, as they stand
  log_stands : IsImage (state side.core.desk.log.disk) devices.log → ListsLogOf from.plain devices.log
  log_stands image = from.is.is.log.images honest.log devices.log image

  pages_stand : IsImage (state side.core.desk.pool.file.disk) devices.pages → HoldsPagesOf from.plain devices.pages
  pages_stand image page sure = let r = from.is.is.pages.reads honest.pages in image_settled (state side.core.desk.pool.file.disk) devices.pages page image (r.sure page sure) ∙ r.reads page

  -- a desk of the same history, that has as many captures acknowledged
  module _ (desk : Desk) (fits : DeskFits desk) (same : desk.history ≡ from.plain.history) (floor : desk.floor ≡ from.plain.floor) (acked : desk.acked ≡ from.plain.acked) (version : desk.version ≡ from.plain.version) (in_version : IsDoubtIn origin.log desk.doubt)
      (log_here : ListsLogOf desk devices.log) (pages_here : HoldsPagesOf desk devices.pages)
      (vault : Vault) (vault_fits_here : VaultFits Here origin.floor vault) (ends : end_of vault.mappings ≡ end_of from_vault.vault.mappings) (vault_in : IsVaultIn origin.maplog vault) (slots_here : AreSlotsOf vault (page_at devices.pagelog)) (maplog_here : ListsMaplogOf archive.side.log vault devices.maplog) where
    same_here : desk.history ≡ Here
    same_here = same ∙ from.is.journal

    vault_fits : VaultFits desk.history desk.floor vault
    vault_fits = subst (λ (h : History). VaultFits h desk.floor vault) (sym same_here) (subst (λ (n : ℕ). VaultFits Here n vault) (sym (floor ∙ from.floor)) vault_fits_here)

    enough : desk.need ≤ end_of vault.mappings
    enough = let n = fits.needed in let a = acked in let f = from.is.is.first in let e = from_vault.is.mapped.shows.end in let h = together.acked in omega (arith, n, a, f, e, h, ends)

    version_is : desk.version ≡ origin.log
    version_is = version ∙ from.in_version.0

    log_may : (log_here.log ≡ log_of desk) ⊎ IsInDoubt desk desk.doubt log_here.log
    log_may = may_log desk desk.doubt log_here.log log_here.may

    abbrev Found : Contents
    Found = record { log = log_here.log; pages = page_at devices.pages; mappings = maplog_here.maplog.mappings; slots = page_at devices.pagelog }

    open_so : AreRightContents Found × (log_here.log.version ≡ desk.version) × OpensTo Found desk.history (change_in desk.doubt)
    open_so = opened_as Found desk desk.doubt fits.doubt
        (apart_open desk vault maplog_here.maplog.version Found fits vault_fits enough log_may pages_here maplog_here.is slots_here)
        (subst (λ (v : Version). IsDoubtIn v desk.doubt) (sym version_is) in_version)

    sizes_here : SizesOf log_here.log.base origin.history.origin.base
    sizes_here = subst (λ (b : Base). SizesOf log_here.log.base b) (ap (λ (h : History). h.origin.base) same ∙ same_origin) (log_sizes desk desk.doubt log_here.log log_may)

    sized_here : AreSized devices log_here.log
    sized_here = record {
      pages = pages_size ∙ ap (λ (n : ℕ). PAGE_BYTES * n) (blocks_are ∙ sym sizes_here.0);
      pagelog = slots_size ∙ ap (λ (n : ℕ). PAGE_BYTES * n) (from_vault.slots ∙ sym sizes_here.1);
    }

    map_stands : DeviceStandsFor (maplog_half log_here.log.base.capacity) (IsMaplog origin.log log_here.log.base.page_count log_here.log.base.capacity) devices.maplog maplog_here.maplog.mappings
    map_stands =
        let version : maplog_here.maplog.version ≡ origin.log = maplog_in origin.maplog vault maplog_here.maplog vault_in maplog_here.is ∙ together.begun.in_version in
        let pages : archive.side.log.page_count ≡ log_here.log.base.page_count = count_is ∙ sym sizes_here.0 in
        let capacity : archive.side.log.capacity ≡ log_here.log.base.capacity = together.vault.slots ∙ (from_vault.slots ∙ sym sizes_here.1) in
        subst (λ (v : Version). DeviceStandsFor (maplog_half log_here.log.base.capacity) (IsMaplog v log_here.log.base.page_count log_here.log.base.capacity) devices.maplog maplog_here.maplog.mappings) version
        (subst (λ (n : ℕ). DeviceStandsFor (maplog_half log_here.log.base.capacity) (IsMaplog maplog_here.maplog.version n log_here.log.base.capacity) devices.maplog maplog_here.maplog.mappings) pages
        (subst (λ (n : ℕ). DeviceStandsFor (maplog_half n) (IsMaplog maplog_here.maplog.version archive.side.log.page_count n) devices.maplog maplog_here.maplog.mappings) capacity maplog_here.lists))

    holds_so : (doubt : Option Change) → OpensTo Found Here doubt → HoldsMapped origin.log devices Here doubt vault
    holds_so doubt opens = record {
      holds = record {
        contents = Found;
        hold = record {
          log = subst (λ (v : Version). DeviceStandsFor LOG_REGION_BYTES (IsLog v) devices.log log_here.log) (open_so.1 ∙ version_is) log_here.lists;
          sized = sized_here;
          pages = refl;
          slots = refl;
          maplog = map_stands;
        };
        joined = open_so.0.joined;
        opens = opens;
      };
      maplog = maplog_here.maplog;
      is = maplog_here.is;
      mapped = refl;
    }

    opens_here : OpensTo Found Here (change_in desk.doubt)
    opens_here = subst (λ (h : History). OpensTo Found h (change_in desk.doubt)) same_here open_so.2

    -- with what is in doubt of the desk, or what is told to be
    holds_change : HoldsMapped origin.log devices Here (change_in desk.doubt) vault
    holds_change = holds_so (change_in desk.doubt) opens_here

    holds_told : IsToldDoubt desk.doubt (journal side) → HoldsMapped origin.log devices Here (doubt_in (journal side)) vault
    holds_told told = holds_so (doubt_in (journal side)) (told_opens Found Here desk.doubt (journal side) told opens_here)

  -- whatever is left of the vault's devices
  module _ (vault : Vault) (fits : VaultFits Here origin.floor vault) (ends : end_of vault.mappings ≡ end_of from_vault.vault.mappings) (vault_in : IsVaultIn origin.maplog vault) (slots : AreSlotsOf vault (page_at devices.pagelog)) (maplog : ListsMaplogOf archive.side.log vault devices.maplog) where
    desk_left : {doubt : Option Change} → LeftOfDesk state side from.plain devices.log devices.pages doubt → HoldsMapped origin.log devices Here doubt vault
    desk_left (AtRest log pages) = holds_told from.plain from.is.fits refl refl refl refl from.in_version.1 (log_stands log) (pages_stand pages) vault fits ends vault_in slots maplog from.is.doubt
    desk_left (InChange change may lists pages) =
        holds_change (change_failed from.plain change) (change_failed_keeps from.plain from.is.fits change may) refl refl refl refl tt lists (pages_stand pages) vault fits ends vault_in slots maplog
    desk_left (InWriteBack page need left may log holds) =
        holds_told (write_failed from.plain page need left) (write_failed_keeps from.plain from.is.fits page need left may) refl refl refl refl from.in_version.1 (log_stands log) holds vault fits ends vault_in slots maplog from.is.doubt
    desk_left (InSettling log holds) = holds_told (stopped from.plain) (stop_keeps from.plain from.is.fits) refl refl refl refl from.in_version.1 (log_stands log) holds vault fits ends vault_in slots maplog from.is.doubt
    desk_left (InCut may lists pages) = holds_told (cut_failed from.plain) (cut_failed_keeps from.plain from.is.fits may) refl refl refl refl from.in_version.0 lists (pages_stand pages) vault fits ends vault_in slots maplog tt

  vault_here : VaultFits Here origin.floor from_vault.vault
  vault_here = from_vault.fits together.begun.honest.pages

  capacity_is : archive.pagelog.blocks ≡ capacity_of Here
  capacity_is = from_vault.slots

  -- where the vault's are as they stand
  pub quiet_left : {doubt : Option Change} → LeftOfDesk state side from.plain devices.log devices.pages doubt → IsImage (state archive.pagelog.disk) devices.pagelog → IsImage (state archive.side.disk) devices.maplog
      → HoldsMapped origin.log devices Here doubt from_vault.vault
  quiet_left desk slots maplog = desk_left from_vault.vault vault_here refl from_vault.in_version (slots_stand slots) (maplog_stands maplog) desk

  both_left : {doubt : Option Change} → LeftOfDesk state side from.plain devices.log devices.pages doubt → LeftOfVault state archive Here from_vault.vault devices.pagelog devices.maplog → HoldWorld origin.log devices Here doubt
  both_left desk (Quiet slots maplog) = (quiet_left desk slots maplog).holds
  both_left desk (InLaying batch fits goes may some maplog) =
      (desk_left (lay_failed from_vault.vault some.slots some.loose)
      (lay_failed_keeps Here origin.floor from_vault.vault vault_here batch fits some.slots some.loose goes may (subst (λ (n : ℕ). LeavesOthers n from_vault.vault batch some.slots some.loose) capacity_is some.others)) refl from_vault.in_version some.is (let m = maplog_stands maplog in record { maplog = m.maplog; is = m.is; lists = m.lists }) desk).holds
  both_left desk (InEntering batch fits may slots maplog) =
      (desk_left (enter_failed from_vault.vault batch) (enter_failed_keeps Here origin.floor from_vault.vault vault_here batch fits may) refl (from_vault.in_version.0, (from_vault.in_version.0, (from_vault.in_version.0, tt))) (slots_stand slots) maplog desk).holds

pub left_opens : {D : Type 0} (is_honest : D → Type 0) (state : D → State) → LeftOpens is_honest state
left_opens is_honest state side archive origin devices doubt together from vault pages_size slots_size desk slots = both_left is_honest state side archive origin devices together from vault pages_size slots_size desk slots
