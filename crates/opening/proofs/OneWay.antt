-- Four devices are read in one way.
use Rattle.std.proofs.Common.{◌≡◌, inl, inr, ◌∙◌, ◌+◌, ◌*◌, ℕ, List, length, refl, sym, ap, subst}
use Rattle.disk_model.specs.Sizes.{maplog_half}
use Rattle.disk_model.specs.declared.four.Four.{Four}
use Rattle.retro_base.specs.declared.device.Device.{Device}
use Rattle.retro_base.specs.declared.device.Device.TheVariants.{Log, Pages, Pagelog, Maplog, Cabinet}
use Rattle.retro_base.specs.declared.limits.TheConstants.{LOG_REGION_BYTES}
use Rattle.gate_log.specs.Region.{gate_behind}
use Rattle.area_log.specs.Regions.{Counts, DeviceLists}
use Rattle.area_log.proofs.Unique.{counts_once, device_one_way}
use Rattle.skippy.specs.Mappings.{Mappings}
use Rattle.history.specs.declared.log.Log as declared
use Rattle.history.specs.declared.log.Version.{Version}
use Rattle.gate_log.specs.Bodies.{BreaksBehind}
use Rattle.replay.specs.Joined.{AreJoined}
use Rattle.records.specs.Laws.{IsReadOneWay}
use Rattle.records.specs.Log.{IsLog}
use Rattle.records.specs.Maplog.{IsMaplog}
use Rattle.replay.specs.Opened.{Contents}
use Rattle.records.proofs.Logs.{log_one_way}
use Rattle.records.proofs.Maps.{maplog_one_way}
use Rattle.opening.specs.Laws.{AreReadOneWay}
use Rattle.area_log.specs.Listed.{DeviceRefused, DeviceStandsFor, ListBreaks}
use Rattle.opening.specs.Opening.{LogStandsFor, AreSized, Hold, PagesRefused, PagelogRefused, MaplogRefused, DevicesBreak}

-- ---- a device of two halves

module _ {X : Type 0} (half : ℕ) (StandsFor : List (List ℕ) → X → Type 0) (one_way : IsReadOneWay StandsFor) (bytes : List ℕ) where
  one_value : (x y : X) → DeviceStandsFor half StandsFor bytes x → DeviceStandsFor half StandsFor bytes y → x ≡ y
  one_value x y this that =
      one_way.one_value that.bodies x y (subst (λ (bs : List (List ℕ)). StandsFor bs x) (device_one_way.one_list half bytes this.bodies that.bodies this.lists that.lists) this.stands) that.stands

  one_place : (bodies others : List (List ℕ)) (this : DeviceLists half bodies bytes) (that : DeviceLists half others bytes) → this.place ≡ that.place
  one_place bodies others this that = counts_once half this.place that.place bytes this.counts that.counts

  one_break : (broken other : ℕ) → ListBreaks half StandsFor bytes broken → ListBreaks half StandsFor bytes other → broken ≡ other
  one_break broken other this that =
      let lists = device_one_way.one_list half bytes this.bodies that.bodies this.lists that.lists in
      let front = one_way.one_front that.bodies this.front that.front (subst (λ (bs : List (List ℕ)). BreaksBehind StandsFor bs this.front) lists this.breaks) that.breaks in
      this.told
      ∙ ap (λ (p : ℕ). p + gate_behind this.front) (one_place this.bodies that.bodies this.lists that.lists)
      ∙ ap (λ (bs : List (List ℕ)). that.lists.place + gate_behind bs) front
      ∙ sym that.told

  refused_once : (broken other : ℕ) → DeviceRefused half StandsFor bytes broken → DeviceRefused half StandsFor bytes other → broken ≡ other
  refused_once broken other (inl size) (inl also) = size.told ∙ sym also.told
  refused_once broken other (inl size) (inr right) = absurd (size.other right.0)
  refused_once broken other (inr right) (inl size) = absurd (size.other right.0)
  refused_once broken other (inr (size, inl breaks)) (inr (whole, inl also)) = device_one_way.one_place half bytes broken other breaks also
  refused_once broken other (inr (size, inl breaks)) (inr (whole, inr list)) = absurd (device_one_way.not_both half bytes list.bodies broken list.lists breaks)
  refused_once broken other (inr (size, inr list)) (inr (whole, inl breaks)) = absurd (device_one_way.not_both half bytes list.bodies other list.lists breaks)
  refused_once broken other (inr (size, inr list)) (inr (whole, inr also)) = one_break broken other list also

  not_refused : (x : X) (broken : ℕ) → DeviceStandsFor half StandsFor bytes x → DeviceRefused half StandsFor bytes broken → ⊥
  not_refused x broken this (inl size) = size.other this.size
  not_refused x broken this (inr (size, inl breaks)) = device_one_way.not_both half bytes this.bodies broken this.lists breaks
  not_refused x broken this (inr (size, inr list)) =
      one_way.not_both list.bodies list.front x (subst (λ (bs : List (List ℕ)). StandsFor bs x) (device_one_way.one_list half bytes this.bodies list.bodies this.lists list.lists) this.stands) list.breaks

-- the closed gate of a list stands at one place
one_gate : (half more : ℕ) (bytes : List ℕ) → half ≡ more → (bodies others : List (List ℕ)) (this : DeviceLists half bodies bytes) (that : DeviceLists more others bytes) → this.place + gate_behind bodies ≡ that.place + gate_behind others
one_gate half more bytes same bodies others this that =
    ap (λ (p : ℕ). p + gate_behind bodies) (counts_once more this.place that.place bytes (subst (λ (h : ℕ). Counts h this.place bytes) same this.counts) that.counts)
    ∙ ap (λ (bs : List (List ℕ)). that.place + gate_behind bs) (device_one_way.one_list more bytes bodies others (subst (λ (h : ℕ). DeviceLists h bodies bytes) same this) that)

-- ---- the four devices

module _ (version : Version) (devices : Four (List ℕ)) where
  same_log : (log other : declared.Log) → LogStandsFor version devices log → LogStandsFor version devices other → log ≡ other
  same_log = one_value LOG_REGION_BYTES (IsLog version) (log_one_way version) devices.log

  abbrev MaplogStandsFor : declared.Log → Mappings → Type 0
  MaplogStandsFor log mappings = DeviceStandsFor (maplog_half log.base.capacity) (IsMaplog version log.base.page_count log.base.capacity) devices.maplog mappings

  same_maplog : (log other : declared.Log) (mappings more : Mappings) → log ≡ other → MaplogStandsFor log mappings → MaplogStandsFor other more → mappings ≡ more
  same_maplog log other mappings more same this that =
      one_value (maplog_half other.base.capacity) (IsMaplog version other.base.page_count other.base.capacity) (maplog_one_way version other.base.page_count other.base.capacity) devices.maplog mappings more
      (subst (λ (l : declared.Log). MaplogStandsFor l mappings) same this) that

  contents_are : (log other : declared.Log) (pages more slots others : ℕ → List ℕ) (mappings maps : Mappings) → log ≡ other → pages ≡ more → mappings ≡ maps → slots ≡ others
      → let one : Contents = record { log = log; pages = pages; mappings = mappings; slots = slots } in let two : Contents = record { log = other; pages = more; mappings = maps; slots = others } in one ≡ two
  contents_are log other pages more slots others mappings maps a b c d =
      ap (λ (l : declared.Log). let one : Contents = record { log = l; pages = pages; mappings = mappings; slots = slots } in one) a
      ∙ ap (λ (p : ℕ → List ℕ). let one : Contents = record { log = other; pages = p; mappings = mappings; slots = slots } in one) b
      ∙ ap (λ (m : Mappings). let one : Contents = record { log = other; pages = more; mappings = m; slots = slots } in one) c
      ∙ ap (λ (s : ℕ → List ℕ). let one : Contents = record { log = other; pages = more; mappings = maps; slots = s } in one) d

  one_store : (contents other : Contents) → Hold version devices contents → Hold version devices other → contents ≡ other
  one_store contents other this that =
      let log = same_log contents.log other.log this.log that.log in
      contents_are contents.log other.log contents.pages other.pages contents.slots other.slots contents.mappings other.mappings log (this.pages ∙ sym that.pages)
      (same_maplog contents.log other.log contents.mappings other.mappings log this.maplog that.maplog) (this.slots ∙ sym that.slots)

  -- the log's device is refused for no log
  log_stands : (log : declared.Log) (broken : ℕ) → LogStandsFor version devices log → DevicesBreak version devices Log broken → ⊥
  log_stands = not_refused LOG_REGION_BYTES (IsLog version) (log_one_way version) devices.log

  pages_whole : (log : declared.Log) (broken : ℕ) → LogStandsFor version devices log → AreSized devices log → PagesRefused version devices broken → ⊥
  pages_whole log broken stands sized refused =
      let same = same_log log refused.log stands refused.stands in
      refused.size.other (subst (AreSized devices) same sized).pages

  pagelog_whole : (log : declared.Log) (broken : ℕ) → LogStandsFor version devices log → AreSized devices log → PagelogRefused version devices broken → ⊥
  pagelog_whole log broken stands sized refused =
      let same = same_log log refused.log stands refused.stands in
      refused.size.other (subst (AreSized devices) same sized).pagelog

  maplog_stands : (log : declared.Log) (mappings : Mappings) (broken : ℕ) → LogStandsFor version devices log → MaplogStandsFor log mappings → MaplogRefused version devices broken → ⊥
  maplog_stands log mappings broken stands maps refused =
      let same = same_log log refused.log stands refused.stands in
      not_refused (maplog_half refused.log.base.capacity) (IsMaplog version refused.log.base.page_count refused.log.base.capacity) (maplog_one_way version refused.log.base.page_count refused.log.base.capacity) devices.maplog mappings broken
      (subst (λ (l : declared.Log). MaplogStandsFor l mappings) same maps) refused.refused

  joined_not_refused : (contents : Contents) (device : Device) (broken : ℕ) → Hold version devices contents → AreJoined contents → DevicesBreak version devices device broken → ⊥
  joined_not_refused contents Log broken hold joined breaks = log_stands contents.log broken hold.log breaks
  joined_not_refused contents Pages broken hold joined breaks = pages_whole contents.log broken hold.log hold.sized breaks
  joined_not_refused contents Pagelog broken hold joined breaks = pagelog_whole contents.log broken hold.log hold.sized breaks
  joined_not_refused contents Maplog broken hold joined (inl breaks) = maplog_stands contents.log contents.mappings broken hold.log hold.maplog breaks
  joined_not_refused contents Maplog broken hold joined (inr breaks) = breaks.apart (subst AreJoined (one_store contents breaks.contents hold breaks.hold) joined)
  joined_not_refused contents Cabinet broken hold joined breaks = breaks

  -- what the devices before the one that breaks hold
  log_of : (device : Device) (broken : ℕ) → (device ≡ Log → ⊥) → DevicesBreak version devices device broken → (log : declared.Log) × LogStandsFor version devices log
  log_of Log broken other breaks = absurd (other refl)
  log_of Pages broken other breaks = (breaks.log, breaks.stands)
  log_of Pagelog broken other breaks = (breaks.log, breaks.stands)
  log_of Maplog broken other (inl breaks) = (breaks.log, breaks.stands)
  log_of Maplog broken other (inr breaks) = (breaks.contents.log, breaks.hold.log)
  log_of Cabinet broken other breaks = absurd breaks

  sized_at_maplog : (broken : ℕ) → DevicesBreak version devices Maplog broken → (log : declared.Log) × LogStandsFor version devices log × AreSized devices log
  sized_at_maplog broken (inl breaks) = (breaks.log, breaks.stands, breaks.sized)
  sized_at_maplog broken (inr breaks) = (breaks.contents.log, breaks.hold.log, breaks.hold.sized)

  pages_and_pagelog : (broken place : ℕ) → PagesRefused version devices broken → PagelogRefused version devices place → ⊥
  pages_and_pagelog broken place this that =
      let same = same_log this.log that.log this.stands that.stands in
      this.size.other (subst (λ (l : declared.Log). length devices.pages ≡ 1024 * l.base.page_count) (sym same) that.pages)

  pages_and_maplog : (broken place : ℕ) → PagesRefused version devices broken → DevicesBreak version devices Maplog place → ⊥
  pages_and_maplog broken place this that = let at = sized_at_maplog place that in pages_whole at.0 broken at.1 at.2 this

  pagelog_and_maplog : (broken place : ℕ) → PagelogRefused version devices broken → DevicesBreak version devices Maplog place → ⊥
  pagelog_and_maplog broken place this that = let at = sized_at_maplog place that in pagelog_whole at.0 broken at.1 at.2 this

  log_and_other : (device : Device) (broken place : ℕ) → (device ≡ Log → ⊥) → DevicesBreak version devices Log broken → DevicesBreak version devices device place → ⊥
  log_and_other device broken place other this that = let at = log_of device place other that in log_stands at.0 broken at.1 this

  one_device : (device other : Device) (broken place : ℕ) → DevicesBreak version devices device broken → DevicesBreak version devices other place → device ≡ other
  one_device Log Log broken place this that = refl
  one_device Log Pages broken place this that = absurd (log_and_other Pages broken place (λ e. absurd cc) this that)
  one_device Log Pagelog broken place this that = absurd (log_and_other Pagelog broken place (λ e. absurd cc) this that)
  one_device Log Maplog broken place this that = absurd (log_and_other Maplog broken place (λ e. absurd cc) this that)
  one_device Pages Log broken place this that = absurd (log_and_other Pages place broken (λ e. absurd cc) that this)
  one_device Pages Pages broken place this that = refl
  one_device Pages Pagelog broken place this that = absurd (pages_and_pagelog broken place this that)
  one_device Pages Maplog broken place this that = absurd (pages_and_maplog broken place this that)
  one_device Pagelog Log broken place this that = absurd (log_and_other Pagelog place broken (λ e. absurd cc) that this)
  one_device Pagelog Pages broken place this that = absurd (pages_and_pagelog place broken that this)
  one_device Pagelog Pagelog broken place this that = refl
  one_device Pagelog Maplog broken place this that = absurd (pagelog_and_maplog broken place this that)
  one_device Maplog Log broken place this that = absurd (log_and_other Maplog place broken (λ e. absurd cc) that this)
  one_device Maplog Pages broken place this that = absurd (pages_and_maplog place broken that this)
  one_device Maplog Pagelog broken place this that = absurd (pagelog_and_maplog place broken that this)
  one_device Maplog Maplog broken place this that = refl
  one_device Cabinet other broken place this that = absurd this
  one_device Log Cabinet broken place this that = absurd that
  one_device Pages Cabinet broken place this that = absurd that
  one_device Pagelog Cabinet broken place this that = absurd that
  one_device Maplog Cabinet broken place this that = absurd that

  maplog_once : (broken place : ℕ) → DevicesBreak version devices Maplog broken → DevicesBreak version devices Maplog place → broken ≡ place
  maplog_once broken place (inl this) (inl that) =
      let same = same_log this.log that.log this.stands that.stands in
      refused_once (maplog_half that.log.base.capacity) (IsMaplog version that.log.base.page_count that.log.base.capacity) (maplog_one_way version that.log.base.page_count that.log.base.capacity) devices.maplog broken place
      (subst (λ (l : declared.Log). DeviceRefused (maplog_half l.base.capacity) (IsMaplog version l.base.page_count l.base.capacity) devices.maplog broken) same this.refused) that.refused
  maplog_once broken place (inl this) (inr that) = absurd (maplog_stands that.contents.log that.contents.mappings broken that.hold.log that.hold.maplog this)
  maplog_once broken place (inr this) (inl that) = absurd (maplog_stands this.contents.log this.contents.mappings place this.hold.log this.hold.maplog that)
  maplog_once broken place (inr this) (inr that) =
      this.told
      ∙ one_gate (maplog_half this.contents.log.base.capacity) (maplog_half that.contents.log.base.capacity) devices.maplog
      (ap (λ (l : declared.Log). maplog_half l.base.capacity) (same_log this.contents.log that.contents.log this.hold.log that.hold.log)) this.hold.maplog.bodies that.hold.maplog.bodies this.hold.maplog.lists that.hold.maplog.lists
      ∙ sym that.told

  once : (device : Device) (broken place : ℕ) → DevicesBreak version devices device broken → DevicesBreak version devices device place → broken ≡ place
  once Log broken place this that = refused_once LOG_REGION_BYTES (IsLog version) (log_one_way version) devices.log broken place this that
  once Pages broken place this that = this.size.told ∙ sym that.size.told
  once Pagelog broken place this that = this.size.told ∙ sym that.size.told
  once Maplog broken place this that = maplog_once broken place this that
  once Cabinet broken place this that = absurd this

pub are_read_one_way : AreReadOneWay
are_read_one_way = record { one_store = one_store; one_device = one_device; one_place = once; not_both = joined_not_refused }
