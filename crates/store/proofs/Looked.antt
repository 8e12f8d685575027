-- What was looked at of four devices, and why they are refused.
use Rattle.std.proofs.Common.{◌≡◌, ◌∙◌, inl, inr, ◌⊎◌, ◌+◌, ◌*◌, ◌↔◌, ℕ, List, [], ◌∷◌, length, refl, sym, ap, subst, arith}
use Rattle.disk_model.specs.declared.four.Four.{Four}
use Rattle.disk_model.specs.declared.four.Sizes.{Sizes}
use Rattle.disk_model.specs.Disk.{State}
use Rattle.disk_model.specs.Moments.{Clock}
use Rattle.disk_model.specs.Runs.{WritesNothing}
use Rattle.disk_model.specs.Sizes.{log_bytes, maplog_half, pagelog_bytes, pages_bytes}
use Rattle.disk_model.proofs.Moments.{writes_nothing_on}
use Rattle.retro_base.specs.declared.device.Device.{Device}
use Rattle.retro_base.specs.declared.device.Device.TheVariants.{Log, Pages, Pagelog, Maplog}
use Rattle.retro_base.specs.declared.limits.TheConstants.{LOG_REGION_BYTES, PAGE_BYTES}
use Rattle.retro_base.specs.declared.refusal.Refusal.{Refusal}
use Rattle.retro_base.specs.declared.refusal.Refusal.TheVariants as refusals
use Rattle.gate_log.specs.Cause.{IsReadRefusal}
use Rattle.area_log.specs.Listed.{closed_gate, DeviceRefused, DeviceStandsFor, IsRefused, WrongSize}
use Rattle.area_log.proofs.Unique.{device_one_way}
use Rattle.block_file.specs.Blocks.{block_at}
use Rattle.history.specs.declared.entry.Base.{Base}
use Rattle.history.specs.declared.journal.Line.{Line}
use Rattle.history.specs.declared.log.Log as declared
use Rattle.history.specs.declared.log.Version.{Version}
use Rattle.history.specs.History.{State as Place, after, run}
use Rattle.history.specs.declared.entry.Change.{Change}
use Rattle.race_model.proofs.Histories.{capacity_stays, page_count_after}
use Rattle.records.specs.Log.{IsLog}
use Rattle.records.specs.Maplog.{IsMaplog}
use Rattle.records.proofs.Logs.{log_one_way}
use Rattle.replay.specs.Opened.{Contents, opened}
use Rattle.skippy.specs.Mappings.{Mappings, end_of}
use Rattle.archive.specs.Archive.{Running}
use Rattle.archive.specs.Fetching.{IsRefusedFetch, NotAnArchive}
use Rattle.desk.specs.declared.fetch.Unopened.{Unopened}
use Rattle.desk.specs.Fetched.{ArePagesUnread, IsLogUnread, IsPagesRefusal, contents_of}
use Rattle.opening.specs.Devices.{AreHonest, AreUnwritten, IsUnopened, of_each, SameCounts, seen_of, StandsWithGate, Unwritten}
use Rattle.opening.specs.Opening.{Hold}
use Rattle.opening.proofs.Refusing.{each_same, others_same, unopened_by}
use Rattle.store_core.specs.Core.{AreSizesOf, FetchesCore}
use Rattle.store_core.specs.declared.desk_core.Core.{Core}
use Rattle.txn_set.specs.declared.ledger.Ledger.{Ledger}
use Rattle.txn_set.specs.Ledger.{no_lines}
use Rattle.store.specs.Opening.{AreLooked, AreOpenedFrom, AreReadBy, AreRefused, disks_of, four_of}
use Rattle.store.proofs.Opened.{opened_to}

one_log : (version : Version) (bytes : List ℕ) (log other : declared.Log) → DeviceStandsFor LOG_REGION_BYTES (IsLog version) bytes log → DeviceStandsFor LOG_REGION_BYTES (IsLog version) bytes other → log ≡ other
one_log version bytes log other this that =
    (log_one_way version).one_value that.bodies log other (subst (λ (bs : List (List ℕ)). IsLog version bs log) (device_one_way.one_list LOG_REGION_BYTES bytes this.bodies that.bodies this.lists that.lists) this.stands) that.stands

pub page_count_stays : (place : Place) (changes : List Change) → (run place changes).base.page_count ≡ place.base.page_count
page_count_stays place [] = refl
page_count_stays place (change ∷ changes) = page_count_stays (after place change) changes ∙ page_count_after place.base change

-- a list of a Maplog beside a log of the same sizes
at_sizes : (version : Version) (pages other capacity more : ℕ) (bytes : List ℕ) (mappings : Mappings) (gate : ℕ) → pages ≡ other → capacity ≡ more → StandsWithGate (maplog_half capacity) (IsMaplog version pages capacity) bytes mappings gate
    → StandsWithGate (maplog_half more) (IsMaplog version other more) bytes mappings gate
at_sizes version pages other capacity more bytes mappings gate same alike stands =
    subst (λ (k : ℕ). StandsWithGate (maplog_half k) (IsMaplog version other k) bytes mappings gate) alike
    (subst (λ (n : ℕ). StandsWithGate (maplog_half capacity) (IsMaplog version n capacity) bytes mappings gate) same stands)

module _ {D : Type 0} (extent faults : D → ℕ) (is_honest : D → Type 0) (remembers : Type 0) (state : D → State) (clock : D → Clock) where
  -- nothing was written, and then nothing was
  pub unwritten_on : (old mid new : D) → Unwritten extent is_honest remembers state clock old mid → Unwritten extent is_honest remembers state clock mid new → Unwritten extent is_honest remembers state clock old new
  unwritten_on old mid new first second = record {
    same = record {
      size = second.same.size ∙ first.same.size;
      honest = (λ h. second.same.honest.0 (first.same.honest.0 h), λ h. first.same.honest.1 (second.same.honest.1 h));
    };
    quiet = λ h. writes_nothing_on remembers state clock old mid new (first.quiet h) (second.quiet (first.same.honest.0 h));
  }

  -- the devices of a core and an archive that are taken apart
  pub taken_apart : (given : Four D) (core : Core D) (archive : Running D) → AreReadBy extent is_honest remembers state clock given core archive → extent core.desk.pool.file.disk ≡ PAGE_BYTES * core.desk.pool.file.blocks
      → AreUnwritten extent is_honest remembers state clock given (disks_of core archive)
  taken_apart given core archive read whole = record {
    log = read.log;
    pages = record { same = record { size = whole ∙ sym read.blocks; honest = read.honest }; quiet = read.pages };
    pagelog = read.pagelog;
    maplog = read.maplog;
  }

  pub gathered_so : (core given : Core D) (archive passed : Running D) (parts : D × D × List Line) (four : Four D) → given ≡ core → passed ≡ archive → parts ≡ (given.desk.log.disk, given.desk.pool.file.disk, given.ledger.book.lines)
      → four ≡ four_of parts.0 parts.1 passed.pagelog.disk passed.side.disk → four ≡ disks_of core archive
  gathered_so core given archive passed parts four same alike split is =
      is
      ∙ ap (λ (q : D × D × List Line). four_of q.0 q.1 passed.pagelog.disk passed.side.disk) split
      ∙ ap (λ (k : Core D). four_of k.desk.log.disk k.desk.pool.file.disk passed.pagelog.disk passed.side.disk) same
      ∙ ap (λ (a : Running D). four_of core.desk.log.disk core.desk.pool.file.disk a.pagelog.disk a.side.disk) alike

  pub whole_so : (core given : Core D) (parts : D × D × List Line) → given ≡ core → parts ≡ (given.desk.log.disk, given.desk.pool.file.disk, given.ledger.book.lines) → extent parts.1 ≡ PAGE_BYTES * given.desk.pool.file.blocks
      → extent core.desk.pool.file.disk ≡ PAGE_BYTES * core.desk.pool.file.blocks
  whole_so core given parts same split whole =
      ap (λ (k : Core D). extent k.desk.pool.file.disk) (sym same) ∙ ap (λ (q : D × D × List Line). extent q.1) (sym split) ∙ whole ∙ ap (λ (k : Core D). PAGE_BYTES * k.desk.pool.file.blocks) same

  module _ (sized : (d : D) → is_honest d → length (state d).seen ≡ extent d) (version : Version) (first pages slots maps : D) where
    abbrev disks : Four D
    disks = four_of first pages slots maps

    abbrev Refused : Device → ℕ → Type 0
    Refused = AreRefused extent is_honest state version disks

    abbrev Unopened_by : Four D → Refusal → Type 0
    Unopened_by new why = IsUnopened Refused (of_each faults disks) (of_each faults new) why

    -- the log was refused
    pub log_refused : (log : D) (why : Refusal) → IsReadRefusal (IsRefused LOG_REGION_BYTES (IsLog version) (is_honest first) (extent first) (state first).seen) Log (faults first) (faults log) why → Unopened_by (four_of log pages slots maps) why
    log_refused log why is =
        unopened_by (of_each faults disks) (of_each faults (four_of log pages slots maps)) Log
        (others_same faults disks (four_of log pages slots maps) Log (λ apart. absurd (apart refl)) (λ apart. refl) (λ apart. refl) (λ apart. refl))
        Refused (IsRefused LOG_REGION_BYTES (IsLog version) (is_honest first) (extent first) (state first).seen)
        (λ broken refused. record { sizes = refused.size; breaks = λ h. refused.breaks h.log }) why is

    module _ (sizes : Sizes) (log_size : extent first ≡ log_bytes) (listed : is_honest first → AreSizesOf version (state first).seen sizes) where
      -- the pages have another size
      pub pages_refused : (log : D) (place : ℕ) → faults log ≡ faults first → place ≡ extent pages → (place ≡ pages_bytes sizes.pages → ⊥) → Unopened_by (four_of log pages slots maps) (refusals.NotAStore Pages place)
      pages_refused log place steady told other = (
        each_same faults disks (four_of log pages slots maps) steady refl refl refl,
        record {
          sizes = (log_size, (sizes.pages, record { other = λ e. other (told ∙ e); told = told }));
          breaks = λ h.
              let at = listed h.log in
              record {
                log = at.list;
                stands = at.lists;
                size = record { other = λ e. other (told ∙ sym (sized pages h.pages) ∙ e ∙ sym (ap pages_bytes at.pages)); told = told ∙ sym (sized pages h.pages) };
              };
        },
      )

      module _ (pages_size : extent pages ≡ pages_bytes sizes.pages) where
        -- the devices hold these contents
        holds : AreHonest is_honest disks → extent slots ≡ pagelog_bytes sizes.capacity → (list : declared.Log) → DeviceStandsFor LOG_REGION_BYTES (IsLog version) (state first).seen list → (mappings : Mappings) (bytes : List ℕ) → bytes ≡ (state slots).seen
            → (gate : ℕ) → StandsWithGate (maplog_half sizes.capacity) (IsMaplog version sizes.pages sizes.capacity) (state maps).seen mappings gate
            → (hold : Hold version (seen_of state disks) (contents_of list (state pages).seen mappings (block_at bytes))) × (gate ≡ closed_gate hold.maplog)
        holds h slots_size list stands mappings bytes same gate maplog =
            let at = listed h.log in
            let one = one_log version (state first).seen at.list list at.lists stands in
            let count : sizes.pages ≡ list.base.page_count = at.pages ∙ ap (λ (l : declared.Log). l.base.page_count) one in
            let most : sizes.capacity ≡ list.base.capacity = at.capacity ∙ ap (λ (l : declared.Log). l.base.capacity) one in
            let there = at_sizes version sizes.pages list.base.page_count sizes.capacity list.base.capacity (state maps).seen mappings gate count most maplog in (
              record {
                log = stands;
                sized = record { pages = sized pages h.pages ∙ pages_size ∙ ap pages_bytes count; pagelog = sized slots h.pagelog ∙ slots_size ∙ ap pagelog_bytes most };
                pages = refl;
                slots = ap block_at same;
                maplog = there.device;
              },
              there.closed,
            )

        -- the archive was refused
        pub archive_refused : (log pagelog maplog : D) (why : Refusal) → faults log ≡ faults first → IsRefusedFetch extent is_honest state faults version sizes.pages sizes.capacity slots maps pagelog maplog why → Unopened_by (four_of log pages pagelog maplog) why
        archive_refused log pagelog maplog why steady (inl (is, same)) =
            unopened_by (of_each faults disks) (of_each faults (four_of log pages pagelog maplog)) Pagelog
            (others_same faults disks (four_of log pages pagelog maplog) Pagelog (λ apart. steady) (λ apart. refl) (λ apart. absurd (apart refl)) (λ apart. same))
            Refused (WrongSize (pagelog_bytes sizes.capacity) (extent slots))
            (λ broken wrong. record {
              sizes = (log_size, (sizes.pages, pages_size), (sizes.capacity, wrong));
              breaks = λ h.
                  let at = listed h.log in
                  record {
                    log = at.list;
                    stands = at.lists;
                    pages = sized pages h.pages ∙ pages_size ∙ ap pages_bytes at.pages;
                    size = record { other = λ e. wrong.other (sym (sized slots h.pagelog) ∙ e ∙ sym (ap pagelog_bytes at.capacity)); told = wrong.told ∙ sym (sized slots h.pagelog) };
                  };
            }) why is
        archive_refused log pagelog maplog why steady (inr (size, same, is)) =
            unopened_by (of_each faults disks) (of_each faults (four_of log pages pagelog maplog)) Maplog
            (others_same faults disks (four_of log pages pagelog maplog) Maplog (λ apart. steady) (λ apart. refl) (λ apart. same) (λ apart. absurd (apart refl)))
            Refused (NotAnArchive version sizes.pages sizes.capacity (extent maps) (is_honest maps) (state maps).seen)
            (λ broken bad. not_an_archive broken bad) why is
          where
            not_an_archive : (broken : ℕ) → NotAnArchive version sizes.pages sizes.capacity (extent maps) (is_honest maps) (state maps).seen broken → Refused Maplog broken
            not_an_archive broken (inl bad) = record {
              sizes = (log_size, (sizes.pages, pages_size), (sizes.capacity, size, bad.size));
              breaks = λ h.
                  let at = listed h.log in
                  inl (record {
                    log = at.list;
                    stands = at.lists;
                    sized = record { pages = sized pages h.pages ∙ pages_size ∙ ap pages_bytes at.pages; pagelog = sized slots h.pagelog ∙ size ∙ ap pagelog_bytes at.capacity };
                    refused =
                        subst (λ (k : ℕ). DeviceRefused (maplog_half k) (IsMaplog version at.list.base.page_count k) (state maps).seen broken) at.capacity
                        (subst (λ (n : ℕ). DeviceRefused (maplog_half sizes.capacity) (IsMaplog version n sizes.capacity) (state maps).seen broken) at.pages (bad.breaks h.maplog));
                  });
            }
            not_an_archive broken (inr (whole, many)) = record {
              sizes = (log_size, (sizes.pages, pages_size), (sizes.capacity, size, inr whole));
              breaks = λ h.
                  let at = listed h.log in
                  let more = many h.maplog in
                  let held = holds h size at.list at.lists more.mappings (state slots).seen refl broken (record { device = more.stands; closed = more.told }) in
                  inr (record {
                    contents = contents_of at.list (state pages).seen more.mappings (block_at (state slots).seen);
                    hold = held.0;
                    apart = λ joined. let room = joined.holds_base.room in let too = more.many in let most = at.capacity in absurd (omega (arith, room, too, most));
                    told = held.1;
                  });
            }

  -- ---- the core beside the archive
  module _ (sized : (d : D) → is_honest d → length (state d).seen ≡ extent d) (version : Version) (first log pages slots maps : D) (archive : Running D) (sizes : Sizes)
      (looked : AreLooked extent faults is_honest remembers state clock version first log pages slots maps archive sizes) where
    abbrev told : Four D
    told = four_of first pages slots maps

    abbrev now_of : D → D → Four D
    now_of new_log new_pages = four_of new_log new_pages archive.pagelog.disk archive.side.disk

    same_bytes : is_honest first → (state log).seen ≡ (state first).seen
    same_bytes h = (looked.log_read.quiet h).same

    listed_first : (list : declared.Log) → (is_honest log → DeviceStandsFor LOG_REGION_BYTES (IsLog version) (state log).seen list) → is_honest first → DeviceStandsFor LOG_REGION_BYTES (IsLog version) (state first).seen list
    listed_first list lists h = subst (λ (b : List ℕ). DeviceStandsFor LOG_REGION_BYTES (IsLog version) b list) (same_bytes h) (lists (looked.log_read.same.honest.0 h))

    -- no call failed
    pub steady : (new_log new_pages : D) → faults new_log ≡ faults log → faults new_pages ≡ faults pages → SameCounts (of_each faults told) (of_each faults (now_of new_log new_pages))
    steady new_log new_pages one two = each_same faults told (now_of new_log new_pages) (one ∙ looked.log_count) two looked.slots_count looked.maps_count

    -- the devices came back
    pub unwritten : (new_log new_pages : D) → Unwritten extent is_honest remembers state clock log new_log → Unwritten extent is_honest remembers state clock pages new_pages → AreUnwritten extent is_honest remembers state clock told (now_of new_log new_pages)
    unwritten new_log new_pages one two = record { log = unwritten_on first log new_log looked.log_read one; pages = two; pagelog = looked.slots_read; maplog = looked.maps_read }

    log_unread : (e : Unopened D) → IsLogUnread is_honest extent faults state version log pages e → IsUnopened (AreRefused extent is_honest state version told) (of_each faults told) (of_each faults (now_of e.log e.pages)) e.why
    log_unread e (is, same) =
        unopened_by (of_each faults told) (of_each faults (now_of e.log e.pages)) Log
        (others_same faults told (now_of e.log e.pages) Log (λ apart. absurd (apart refl)) (λ apart. ap faults same) (λ apart. looked.slots_count) (λ apart. looked.maps_count))
        (AreRefused extent is_honest state version told) (IsRefused LOG_REGION_BYTES (IsLog version) (is_honest log) (extent log) (state log).seen)
        (λ broken refused. record {
          sizes = subst (λ (n : ℕ). WrongSize log_bytes n broken ⊎ (n ≡ log_bytes)) looked.log_read.same.size refused.size;
          breaks = λ h. subst (λ (b : List ℕ). DeviceRefused LOG_REGION_BYTES (IsLog version) b broken) (same_bytes h.log) (refused.breaks (looked.log_read.same.honest.0 h.log));
        }) e.why
        (subst (λ (n : ℕ). IsReadRefusal (IsRefused LOG_REGION_BYTES (IsLog version) (is_honest log) (extent log) (state log).seen) Log n (faults e.log) e.why) looked.log_count is)

    pages_unread : (e_log e_pages : D) (list : declared.Log) (end : ℕ) → faults e_log ≡ faults log → (is_honest log → DeviceStandsFor LOG_REGION_BYTES (IsLog version) (state log).seen list)
        → end ≡ archive.side.log.area.log.place + archive.side.log.area.log.gate → (why : Refusal) → IsPagesRefusal list (extent pages) (state pages).seen archive.side.levels end (faults pages) (faults e_pages) why
        → IsUnopened (AreRefused extent is_honest state version told) (of_each faults told) (of_each faults (now_of e_log e_pages)) why
    pages_unread e_log e_pages list end same lists at refusals.OutOfMemory is = steady e_log e_pages same is
    pages_unread e_log e_pages list end same lists at (refusals.NotAStore Pages place) is = (
      steady e_log e_pages same is.1,
      record {
        sizes = (looked.log_size, (list.base.page_count, is.0));
        breaks = λ h. record { log = list; stands = listed_first list lists h.log; size = record { other = λ e. is.0.other (sym (sized pages h.pages) ∙ e); told = is.0.told ∙ sym (sized pages h.pages) } };
      },
    )
    pages_unread e_log e_pages list end same lists at (refusals.NotAStore Maplog place) is = (
      steady e_log e_pages same is.2,
      record {
        sizes = (looked.log_size, (sizes.pages, looked.pages_size), (sizes.capacity, looked.slots_size, inr looked.maps_size));
        breaks = λ h.
            let held = holds sized version first pages slots maps sizes looked.log_size looked.listed looked.pages_size h looked.slots_size list (listed_first list lists h.log) archive.side.levels (state slots).seen refl place
            (record { device = looked.opened.mappings h.maplog; closed = is.0 ∙ at ∙ looked.opened.closed h.maplog }) in
            inr (record { contents = contents_of list (state pages).seen archive.side.levels (block_at (state slots).seen); hold = held.0; apart = is.1 (block_at (state slots).seen); told = held.1 });
      },
    )
    pages_unread e_log e_pages list end same lists at (refusals.NotAStore _ place) is = absurd is
    pages_unread e_log e_pages list end same lists at (refusals.DiskFault which count) is =
        unopened_by (of_each faults told) (of_each faults (now_of e_log e_pages)) Pages
        (others_same faults told (now_of e_log e_pages) Pages (λ apart. same ∙ looked.log_count) (λ apart. absurd (apart refl)) (λ apart. looked.slots_count) (λ apart. looked.maps_count))
        (AreRefused extent is_honest state version told) (λ broken. ⊥) (λ broken bad. absurd bad) (refusals.DiskFault which count) is
    pages_unread e_log e_pages list end same lists at _ is = absurd is

    -- the core was refused
    pub core_refused : (e : Unopened D) (mappings : Mappings) (end : ℕ) → mappings ≡ archive.side.levels → end ≡ archive.side.log.area.log.place + archive.side.log.area.log.gate
        → IsLogUnread is_honest extent faults state version log pages e ⊎ ArePagesUnread is_honest extent faults state version log pages mappings end e
        → IsUnopened (AreRefused extent is_honest state version told) (of_each faults told) (of_each faults (now_of e.log e.pages)) e.why
    core_refused e mappings end same at (inl is) = log_unread e is
    core_refused e mappings end same at (inr is) =
        pages_unread e.log e.pages is.list end is.steady is.lists at e.why (subst (λ (m : Mappings). IsPagesRefusal is.list (extent pages) (state pages).seen m end (faults pages) (faults e.pages) e.why) same is.refused)

    module _ (mappings : Mappings) (same : mappings ≡ archive.side.levels) (core : Core D) (fetched : FetchesCore is_honest state version log pages mappings core) where
      told_base : is_honest first → (core.desk.base.page_count ≡ sizes.pages) × (core.desk.base.capacity ≡ sizes.capacity)
      told_base h =
          let at = looked.listed h in
          let contents : Contents = contents_of fetched.list (state pages).seen mappings (block_at (state archive.pagelog.disk).seen) in
          let is = fetched.is (block_at (state archive.pagelog.disk).seen) in
          let one = one_log version (state first).seen fetched.list at.list (listed_first fetched.list fetched.lists h) at.lists in (
            ap (λ (b : Base). b.page_count) is.is.base ∙ page_count_stays (opened contents).origin (opened contents).changes ∙ ap (λ (l : declared.Log). l.base.page_count) one ∙ sym at.pages,
            ap (λ (b : Base). b.capacity) is.is.base ∙ capacity_stays (opened contents).origin (opened contents).changes ∙ ap (λ (l : declared.Log). l.base.capacity) one ∙ sym at.capacity,
          )

      -- the log told other sizes than before
      pub told_twice : (core.desk.base.capacity ≡ sizes.capacity → core.desk.base.page_count ≡ sizes.pages → ⊥) → AreRefused extent is_honest state version told Log 0
      told_twice other = record { sizes = inr looked.log_size; breaks = λ h. let at = told_base h.log in absurd (other at.1 at.0) }

      pub opens_from : core.desk.base.capacity ≡ sizes.capacity → core.desk.base.page_count ≡ sizes.pages → (count : ℕ) → core.ledger ≡ no_lines count → AreOpenedFrom is_honest state version told core archive
      opens_from capacity page_count count empty = record {
        contents = contents_of fetched.list (state pages).seen mappings (block_at (state archive.pagelog.disk).seen);
        are = record {
          hold = λ h.
              (holds sized version first pages slots maps sizes looked.log_size looked.listed looked.pages_size h looked.slots_size fetched.list (listed_first fetched.list fetched.lists h.log) mappings (state archive.pagelog.disk).seen (looked.slots_read.quiet h.pagelog).same
              (archive.side.log.area.log.place + archive.side.log.area.log.gate)
              (subst (λ (m : Mappings). StandsWithGate (maplog_half sizes.capacity) (IsMaplog version sizes.pages sizes.capacity) (state maps).seen m (archive.side.log.area.log.place + archive.side.log.area.log.gate)) (sym same)
              (record { device = looked.opened.mappings h.maplog; closed = looked.opened.closed h.maplog }))).0;
          joined = fetched.joined (block_at (state archive.pagelog.disk).seen);
        };
        opened = record {
          origin = record { history = opened (contents_of fetched.list (state pages).seen mappings (block_at (state archive.pagelog.disk).seen)); floor = mappings.low; log = fetched.list.version; maplog = version };
          opened = opened_to is_honest state version log pages maps mappings core archive sizes fetched same looked.opened capacity page_count;
          lines = ap (λ (l : Ledger). l.book.lines) empty;
          works = ap (λ (l : Ledger). l.works.slots) empty;
          workers = ap (λ (l : Ledger). l.book.workers) empty;
          slots = looked.opened.log.images ∙ sym looked.opened.slots;
          held = let f = (fetched.is (block_at (state archive.pagelog.disk).seen)).is.first in let h = looked.opened.held in let e = ap end_of same in omega (arith, f, h, e);
        };
        origin = refl;
      }

      pub read_by : Unwritten extent is_honest remembers state clock log core.desk.log.disk → (is_honest pages → WritesNothing remembers state clock pages core.desk.pool.file.disk) → (is_honest pages ↔ is_honest core.desk.pool.file.disk)
          → extent pages ≡ PAGE_BYTES * core.desk.pool.file.blocks → AreReadBy extent is_honest remembers state clock told core archive
      read_by log_read pages_read honest blocks = record { log = unwritten_on first log core.desk.log.disk looked.log_read log_read; pages = pages_read; honest = honest; blocks = blocks; pagelog = looked.slots_read; maplog = looked.maps_read }
