-- What four devices hold, and why they are refused.
use Rattle.std.proofs.Common.{◌≡◌, ◌≢◌, inl, inr, ◌∙◌, ℕ, List, length, refl, sym, subst, Result, Ok, Err, IfOk, IfErr, OnOk, MatchResult}
use Rattle.std.specs.Result.{IsErrAnd}
use Rattle.std.proofs.Math.Path.{fun_ext}
use Rattle.disk_model.specs.Disk.{State, IsImage}
use Rattle.disk_model.specs.Moments.{Clock}
use Rattle.disk_model.specs.Runs.{OnlyReads, SameDevice}
use Rattle.disk_model.specs.Sizes.{log_bytes, maplog_bytes, maplog_half, pagelog_bytes, pages_bytes}
use Rattle.disk_model.specs.declared.four.Four.{Four}
use Rattle.disk_model.proofs.Moments.{reads_write_nothing, started}
use Rattle.retro_base.specs.declared.device.Device.{Device}
use Rattle.retro_base.specs.declared.device.Device.TheVariants.{Log, Pages, Pagelog, Maplog, Cabinet}
use Rattle.retro_base.specs.declared.limits.TheConstants.{LOG_REGION_BYTES}
use Rattle.retro_base.specs.declared.refusal.Refusal.{Refusal}
use Rattle.retro_base.specs.declared.refusal.Refusal.TheVariants as refusals
use Rattle.gate_log.specs.Cause.{IsReadRefusal}
use Rattle.area_log.specs.Listed.{DeviceStandsFor, IsRefused}
use Rattle.history.specs.Replayed.{page_in}
use Rattle.history.specs.declared.log.Log as declared
use Rattle.history.specs.declared.log.Version.{Version}
use Rattle.records.specs.Log.{IsLog}
use Rattle.records.specs.Maplog.{IsMaplog}
use Rattle.replay.specs.Joined.{AreJoined}
use Rattle.replay.specs.Opened.{contents_of, Opens}
use Rattle.replay.specs.declared.opened.Opened.{Opened}
use Rattle.skippy.specs.Mappings.{Mappings}
use Rattle.opening.specs.Devices.{AreHonest, IsUnopened, of_each, SameCounts, seen_of, SizesTell, StandsWithGate, Unwritten}
use Rattle.opening.specs.Opening.{AreSized, DevicesBreak, DevicesOpen, IsApart, page_at}

-- a refusal that is passed on
pub passed_on : {T : Type 0} (r : Result T Refusal) (Q : T → Type 0) (P : Refusal → Type 0) (why : Refusal) → IsErrAnd r (λ e. e ≡ why) → P why → MatchResult r Q P
passed_on (Ok x) Q P why is p = absurd is
passed_on (Err e) Q P why is p = subst P (sym is) p

module _ {D : Type 0} (extent : D → ℕ) (is_honest : D → Type 0) (remembers : Type 0) (state : D → State) (clock : D → Clock) where
  -- a device that no call was made of
  pub untouched : (only_now : (d : D) (image : List ℕ) → is_honest d → (clock d).left_since (clock d).moment image → IsImage (state d) image) (disk : D) → Unwritten extent is_honest remembers state clock disk disk
  untouched only_now disk = record {
    same = record { size = refl; honest = (λ h. h, λ h. h) };
    quiet = λ h. record { same = refl; loose = λ i l. l; any_moment = started remembers (clock disk) (IsImage (state disk)) (λ image left. only_now disk image h left) };
  }

  pub read_only : (old new : D) → SameDevice extent is_honest old new → (is_honest old → OnlyReads remembers state clock old new) → Unwritten extent is_honest remembers state clock old new
  read_only old new same quiet = record { same = same; quiet = λ h. reads_write_nothing remembers state clock old new (quiet h) }

module _ {D : Type 0} (extent faults : D → ℕ) (is_honest : D → Type 0) (state : D → State) (version : Version) (disks : Four D) where
  abbrev Breaks : Device → ℕ → Type 0
  Breaks device broken = SizesTell (of_each extent disks) device broken × (AreHonest is_honest disks → DevicesBreak version (seen_of state disks) device broken)

  -- the log was read, and the devices of pages have the sizes that it says
  pub record LogRead (log : declared.Log) : Type 0 where
    pub log_size : extent disks.log ≡ log_bytes
    pub pages : extent disks.pages ≡ pages_bytes log.base.page_count
    pub pagelog : extent disks.pagelog ≡ pagelog_bytes log.base.capacity
    pub stands : is_honest disks.log → DeviceStandsFor LOG_REGION_BYTES (IsLog version) (state disks.log).seen log
    pub whole : (d : D) → is_honest d → length (state d).seen ≡ extent d

  are_sized : (log : declared.Log) → LogRead log → AreHonest is_honest disks → AreSized (seen_of state disks) log
  are_sized log read h = record { pages = read.whole disks.pages h.pages ∙ read.pages; pagelog = read.whole disks.pagelog h.pagelog ∙ read.pagelog }

  module _ (new : Four D) (log_count : faults new.log ≡ faults disks.log) (pages_count : faults new.pages ≡ faults disks.pages) (pagelog_count : faults new.pagelog ≡ faults disks.pagelog) where
    same_counts : faults new.maplog ≡ faults disks.maplog → SameCounts (of_each faults disks) (of_each faults new)
    same_counts maplog Log = log_count
    same_counts maplog Pages = pages_count
    same_counts maplog Pagelog = pagelog_count
    same_counts maplog Maplog = maplog
    same_counts maplog Cabinet = refl

    others : (other : Device) → other ≢ Maplog → of_each faults new other ≡ of_each faults disks other
    others Log ne = log_count
    others Pages ne = pages_count
    others Pagelog ne = pagelog_count
    others Maplog ne = absurd (ne refl)
    others Cabinet ne = refl

    -- the Maplog was refused
    pub maplog_unopened : (log : declared.Log) → LogRead log → (e : Refusal)
        → IsReadRefusal (IsRefused (maplog_half log.base.capacity) (IsMaplog version log.base.page_count log.base.capacity) (is_honest disks.maplog) (extent disks.maplog) (state disks.maplog).seen) Maplog (faults disks.maplog) (faults new.maplog) e
        → IsUnopened Breaks (of_each faults disks) (of_each faults new) e
    maplog_unopened log read refusals.OutOfMemory is = same_counts is
    maplog_unopened log read (refusals.NotAStore which broken) is = (
      same_counts is.1,
      subst (λ (d : Device). Breaks d broken) (sym is.0) (
        (read.log_size, (log.base.page_count, read.pages), (log.base.capacity, read.pagelog, is.2.size)),
        λ h. inl (record { log = log; stands = read.stands h.log; sized = are_sized log read h; refused = is.2.breaks h.maplog }),
      ),
    )
    maplog_unopened log read (refusals.DiskFault which count) is =
        subst (λ (d : Device). IsUnopened Breaks (of_each faults disks) (of_each faults new) (refusals.DiskFault d count)) (sym is.0) ((refl, is.1, is.2, is.3), others)
    maplog_unopened log read _ is = absurd is

    module _ (maplog_count : faults new.maplog ≡ faults disks.maplog) (log : declared.Log) (read : LogRead log) (maplog_size : extent disks.maplog ≡ maplog_bytes log.base.capacity) (mappings : Mappings) (end : ℕ)
        (maps : is_honest disks.maplog → StandsWithGate (maplog_half log.base.capacity) (IsMaplog version log.base.page_count log.base.capacity) (state disks.maplog).seen mappings end) (pages slots : List (List ℕ))
        (same : is_honest disks.pages → (k : ℕ) → page_in pages k ≡ page_at (state disks.pages).seen k) (alike : is_honest disks.pagelog → (k : ℕ) → page_in slots k ≡ page_at (state disks.pagelog).seen k) where
      -- contents that do not open
      pub joined_told : (r : Result Opened Refusal) → IfErr r (IsApart (contents_of log pages mappings slots) end) → MatchResult r (λ _. SameCounts (of_each faults disks) (of_each faults new)) (IsUnopened Breaks (of_each faults disks) (of_each faults new))
      joined_told (Ok store) is = same_counts maplog_count
      joined_told (Err refusals.OutOfMemory) is = same_counts maplog_count
      joined_told (Err (refusals.NotAStore which broken)) is = (
        same_counts maplog_count,
        subst (λ (d : Device). Breaks d broken) (sym is.0) (
          (read.log_size, (log.base.page_count, read.pages), (log.base.capacity, read.pagelog, inr maplog_size)),
          λ h. inr (record {
            contents = contents_of log pages mappings slots;
            hold = record { log = read.stands h.log; sized = are_sized log read h; pages = fun_ext (same h.pages); slots = fun_ext (alike h.pagelog); maplog = (maps h.maplog).device };
            apart = is.2;
            told = is.1 ∙ (maps h.maplog).closed;
          }),
        ),
      )
      joined_told (Err _) is = absurd is

      -- contents that open
      pub joined_opens : (r : Result Opened Refusal) → IfOk r (Opens (contents_of log pages mappings slots)) → OnOk r (AreJoined (contents_of log pages mappings slots)) → AreHonest is_honest disks → IfOk r (DevicesOpen version (seen_of state disks))
      joined_opens (Ok store) opens joined h = record {
        contents = contents_of log pages mappings slots;
        hold = record { log = read.stands h.log; sized = are_sized log read h; pages = fun_ext (same h.pages); slots = fun_ext (alike h.pagelog); maplog = (maps h.maplog).device };
        joined = joined;
        opens = opens;
      }
      joined_opens (Err e) opens joined h = tt
