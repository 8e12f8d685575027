-- What a crash leaves of the devices of a store that is closed.
use Rattle.std.proofs.Common.{◌≡◌, ◌∙◌, inl, inr, ◌*◌, ◌<◌, ◌≤◌, ℕ, Bool, true, cond, eqb, List, [], ◌∷◌, length, Some, refl, sym, ap, subst, arith, eq-eqb}
use Rattle.std.specs.List.{AllByRecursion}
use Rattle.disk_model.specs.declared.four.Four.{Four}
use Rattle.disk_model.specs.Disk.{State}
use Rattle.disk_model.specs.Moments.{Clock}
use Rattle.retro_base.specs.declared.device.Device.{Device}
use Rattle.retro_base.specs.declared.device.Device.TheVariants.{Log, Pages, Pagelog, Maplog, Cabinet}
use Rattle.retro_base.specs.declared.limits.TheConstants.{PAGE_BYTES}
use Rattle.history.specs.declared.entry.Base.{Base}
use Rattle.history.specs.declared.journal.Line.{Line}
use Rattle.history.specs.declared.journal.What.{What}
use Rattle.history.specs.declared.journal.What.TheVariants.{Fault}
use Rattle.history.specs.declared.log.Log as declared
use Rattle.history.specs.declared.log.Version.{Version}
use Rattle.history.specs.History.{History, now}
use Rattle.history.specs.Journal.{after_journal}
use Rattle.history.specs.Lines.{base_of, doubt_in, same_device}
use Rattle.journal_law.specs.Lawful.{CountedBy, IsCounted}
use Rattle.opening.specs.Devices.{AreHonest, AreImages, of_each}
use Rattle.opening.specs.Opening.{Hold}
use Rattle.opening.proofs.OneWay.{are_read_one_way}
use Rattle.race_model.specs.Fits.{VaultFits}
use Rattle.race_model.specs.Vault.{IsMaplogOf, Maplog as MaplogOf}
use Rattle.records.specs.Log.{IsLog}
use Rattle.replay.specs.Opened.{Contents}
use Rattle.skippy.specs.Mappings.{end_of}
use Rattle.archive.specs.Archive.{Running}
use Rattle.desk.proofs.Steps.{counted}
use Rattle.store_core.specs.declared.desk_core.Core.{Core}
use Rattle.turn.specs.Faults.{count_of, fault_lines, line_fault, one_fault}
use Rattle.store.specs.declared.desk_side.DeskSide.{DeskSide}
use Rattle.store.specs.declared.start.Start.{Start}
use Rattle.store.specs.Crashes.{CrashesOpen}
use Rattle.store.specs.Closing.{IsCopied}
use Rattle.store.specs.Opening.{AreOpenedFrom, AreReadBy, IsHonestlyOpened, disks_of}
use Rattle.store.specs.Seats.{journal}
use Rattle.store.specs.Sides.{DeskStands, VaultStands}
use Rattle.store.specs.Start.{AreOpenedTo, IsCoreFrom, IsStartOf, IsVaultFrom, Origin, desk_counts, opened_base, vault_counts}
use Rattle.store.proofs.Captures.{all_counted}
use Rattle.store.specs.Within.{AtRest, StandTogether}
use Rattle.store.proofs.Within.{HoldsMapped, quiet_left}

-- ---- the opening

listed_in : (version : Version) (bodies : List (List ℕ)) (log : declared.Log) → IsLog version bodies log → log.version ≡ version
listed_in version [] log is = absurd is
listed_in version (body ∷ bodies) log is = is.0

pub opened_honestly : {D : Type 0} (extent : D → ℕ) (is_honest : D → Type 0) (remembers : Type 0) (state : D → State) (clock : D → Clock) (version : Version) (disks : Four D) (core : Core D) (archive : Running D) (start : Start D)
    (from : AreOpenedFrom is_honest state version disks core archive) → AreReadBy extent is_honest remembers state clock disks core archive → IsStartOf core archive (Some start) → AreHonest is_honest disks → IsHonestlyOpened is_honest state start from.opened.origin
opened_honestly {D = D} extent is_honest remembers state clock version disks core archive start from read begins honest =
    let log = (from.are.hold honest).log in
    record {
      opened = subst (λ (c : Core D). AreOpenedTo is_honest state c start.archive.value from.opened.origin) (sym begins.0)
          (subst (λ (a : Running D). AreOpenedTo is_honest state core a from.opened.origin) (sym begins.1) from.opened.opened);
      honest = subst (λ (c : Core D). AreHonest is_honest (disks_of c start.archive.value)) (sym begins.0) (subst (λ (a : Running D). AreHonest is_honest (disks_of core a)) (sym begins.1)
          (record { log = read.log.same.honest.0 honest.log; pages = read.honest.0 honest.pages; pagelog = read.pagelog.same.honest.0 honest.pagelog; maplog = read.maplog.same.honest.0 honest.maplog }));
      in_version = ap (λ (o : Origin). o.maplog) from.origin ∙ (sym (listed_in version log.bodies from.contents.log log.stands) ∙ ap (λ (o : Origin). o.log) (sym from.origin));
    }

-- ---- faults are counted

same_self : (d : Device) → same_device d d ≡ true
same_self Log = refl
same_self Pages = refl
same_self Pagelog = refl
same_self Maplog = refl
same_self Cabinet = refl

own_fault : (d : Device) (c : ℕ) → 0 < one_fault d c (d, c)
own_fault d c =
    let e : one_fault d c (d, c) ≡ 1 = ap (λ (b : Bool). cond b (cond (eqb c c) 1 0) 0) (same_self d) ∙ ap (λ (b : Bool). cond b 1 0) (eq-eqb c c refl) in
    omega (arith, e)

pub counted_lines : (ending : Device → ℕ) (lines : List Line) → ((d : Device) (c : ℕ) → 0 < fault_lines d c lines → c ≤ ending d) → AllByRecursion (IsCounted ending) lines
counted_lines ending [] below = tt
counted_lines ending (line ∷ lines) below = (at line.what (λ d c h. below d c (omega (arith, h))), counted_lines ending lines (λ d c h. below d c (omega (arith, h)))) where
  at : (what : What) → ((d : Device) (c : ℕ) → 0 < line_fault d c what → c ≤ ending d) → CountedBy ending what
  at (Fault d c call) told = told d c (own_fault d c)
  at what told = tt

pub each_count : {D : Type 0} (faults : D → ℕ) (core : Core D) (archive : Running D) (d : Device) → count_of (desk_counts faults core) (vault_counts faults archive) d ≡ of_each faults (disks_of core archive) d
each_count faults core archive Log = refl
each_count faults core archive Pages = refl
each_count faults core archive Pagelog = refl
each_count faults core archive Maplog = refl
each_count faults core archive Cabinet = refl

-- ---- the devices of a store that is closed

module _ {D : Type 0} (extent : D → ℕ) (is_honest : D → Type 0) (state : D → State) (sized : (d : D) → is_honest d → length (state d).seen ≡ extent d) (side : DeskSide D) (archive : Running D) (origin : Origin)
    (begun : IsHonestlyOpened is_honest state side.start origin) (stands : DeskStands is_honest state side) (vault : VaultStands is_honest state archive side.start (journal side)) (acked : side.core.desk.queue.first ≤ archive.side.held)
    (pages_whole : extent side.core.desk.pool.file.disk ≡ PAGE_BYTES * side.core.desk.pool.file.blocks) (slots_whole : extent archive.pagelog.disk ≡ PAGE_BYTES * archive.pagelog.blocks) where
  abbrev Here : History
  Here = after_journal origin.history (journal side)

  from_desk : IsCoreFrom is_honest state origin side.core
  from_desk = stands.stands origin begun.opened

  from_vault : IsVaultFrom is_honest state (is_honest side.start.core.value.desk.pool.file.disk) origin (journal side) archive
  from_vault = vault.stands origin begun.opened

  together : StandTogether is_honest state side archive origin
  together = record { begun = begun; stands = stands; vault = vault; acked = acked }

  vault_fits : VaultFits from_desk.plain.history from_desk.plain.floor from_vault.vault
  vault_fits = subst (λ (h : History). VaultFits h from_desk.plain.floor from_vault.vault) (sym from_desk.is.journal)
      (subst (λ (n : ℕ). VaultFits Here n from_vault.vault) (sym from_desk.floor) (from_vault.fits begun.honest.pages))

  holds_here : (devices : Four (List ℕ)) → AreImages state (disks_of side.core archive) devices → HoldsMapped origin.log devices Here (doubt_in (journal side)) from_vault.vault
  holds_here devices images = quiet_left is_honest state side archive origin devices together from_desk from_vault
      (images.pages.size ∙ (sized side.core.desk.pool.file.disk (stands.honest.pages.0 begun.honest.pages) ∙ pages_whole))
      (images.pagelog.size ∙ (sized archive.pagelog.disk (vault.honest.pagelog.0 begun.honest.pagelog) ∙ slots_whole))
      (AtRest images.log images.pages) images.pagelog images.maplog

  pub crashes_open : CrashesOpen state origin.log origin.history (journal side) (disks_of side.core archive)
  crashes_open devices images = (holds_here devices images).holds

  -- where all is copied, the Maplog of each image maps all
  module _ (copied : IsCopied side archive) (devices : Four (List ℕ)) (contents : Contents) (images : AreImages state (disks_of side.core archive) devices) (hold : Hold origin.log devices contents) where
    abbrev All : ℕ
    All = (base_of (opened_base side.start) (journal side)).captures

    captured_is : (now from_desk.plain.history).base.captures ≡ All
    captured_is =
        let base = ap (λ (b : Base). b.captures) from_desk.is.is.base in
        let first = counted is_honest state side.core.desk from_desk.plain from_desk.is.is from_desk.is.fits in
        let all = all_counted is_honest state side stands in
        omega (arith, base, first, all)

    abbrev Held : HoldsMapped origin.log devices Here (doubt_in (journal side)) from_vault.vault
    Held = holds_here devices images

    end_here : IsMaplogOf from_vault.vault Held.maplog → end_of Held.maplog.mappings ≡ All
    end_here (inl listed) =
        let same = ap (λ (m : MaplogOf). end_of m.mappings) listed in let held = from_vault.is.mapped.shows.end in
        omega (arith, same, held, copied)
    end_here (inr among) =
        let other = vault_fits.others Held.maplog among in
        let more = other.1 in let few = other.2 in let held = from_vault.is.mapped.shows.end in let laid = vault_fits.laid in let all = captured_is in
        omega (arith, more, few, held, laid, all, copied)

    pub maps_all : end_of contents.mappings ≡ All
    maps_all =
        ap (λ (c : Contents). end_of c.mappings) (are_read_one_way.one_store origin.log devices contents Held.holds.contents hold Held.holds.hold)
        ∙ (ap end_of Held.mapped ∙ end_here Held.is)
