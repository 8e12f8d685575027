-- Runs over an empty store that was made for them.
use Rattle.std.proofs.Common.{◌≡◌, ◌∙◌, ◌≤◌, ℕ, List, [], ◌∷◌, Result, Ok, Err, refl, sym, ap, subst, length, replicate, arith}
use Rattle.std.specs.Prelude.{IfErr, IfOk}
use Rattle.std.proofs.Math.Path.{fun_ext}
use Rattle.std.proofs.lemmas.List.{get_or-replicate, length-replicate}
use Rattle.disk_model.specs.Cabinet.{Each, IsBlank}
use Rattle.disk_model.specs.Disk.{State}
use Rattle.disk_model.specs.Moments.{Clock}
use Rattle.disk_model.specs.declared.four.Four.{Four}
use Rattle.disk_model.specs.declared.four.Sizes.{Sizes}
use Rattle.std.specs.declared.alloc.AllocError.{AllocError}
use Rattle.retro_base.specs.declared.limits.TheConstants.{MEMORY_PAGES}
use Rattle.retro_base.specs.declared.device.Device.{Device}
use Rattle.retro_base.specs.declared.device.Device.TheVariants.{Log, Pages, Pagelog, Maplog, Cabinet}
use Rattle.retro_base.specs.declared.refusal.Refusal.{Refusal}
use Rattle.retro_base.specs.declared.refusal.Refusal.TheVariants.{DiskFault, NotAStore, OutOfMemory}
use Rattle.retro_base.specs.Cause.{IsFault, Rose}
use Rattle.history.specs.declared.entry.Base.{Base}
use Rattle.history.specs.declared.log.Version.TheVariants.{One}
use Rattle.history.specs.History.{History, now}
use Rattle.history.specs.Lines.{base_of}
use Rattle.history.specs.Replayed.{page_in}
use Rattle.opening.specs.Devices.{AreHonest, AreImages, IsUnopened, SameCounts, of_each, seen_of}
use Rattle.opening.specs.Laws.{AreReadOneWay}
use Rattle.opening.proofs.OneWay.{are_read_one_way}
use Rattle.replay.specs.Opened.{Contents, opened}
use Rattle.journal_law.specs.Lawful.{Ground, Opening}
use Rattle.journal_law.specs.Pages.{Pages as PagesOf}
use Rattle.journal_law.specs.Shows.{Shows}
use Rattle.journal_law.specs.World.{Mark, World, newest}
use Rattle.relation_laws.specs.Laws.{StoreLaw}
use Rattle.relation_laws.proofs.Beginning.{store_law}
use Rattle.tables.specs.Tables.{no_tables}
use Rattle.session.specs.Plan.{Plan}
use Rattle.session.specs.Replies.{kept_by_place, printed}
use Rattle.session.specs.Sql.{sql}
use Rattle.session.specs.declared.kept.Kept.{Kept}
use Rattle.store_format.specs.Empty.{AreInRange, AreSame, IsEmptyStore, empty_base, empty_contents, zero_pages}
use Rattle.store.specs.Opening.{AreRefused}
use Rattle.store.specs.Worlds.{AreMarksOf, IsWorldOf}
use Rattle.retro.specs.Memory.{LeftFrom, RunsFrom, empty_ground, empty_opening, memory_opening, memory_sizes}
use Rattle.retro.specs.Phases.{RanOver, RepliedOver}
use Rattle.retro.specs.Storing.{HasRunOver, IsPrinted, Leaves, OpenAs, OpensShowing, RunsOn}
use Rattle.retro.specs.declared.storing.Ended.{Ended}
use Rattle.retro.proofs.Phased.{prints}

-- ---- what an empty store is opened with

none_marked : (history : History) (held : List (Mark PagesOf)) → AreMarksOf history [] held → held ≡ []
none_marked history [] are = refl
none_marked history (mark ∷ marks) are = absurd are

pub ground_is : AreReadOneWay → (sizes : Sizes) (devices : Four (List ℕ)) (ground : Ground) (faults : Device → ℕ) → IsEmptyStore One sizes devices → OpenAs devices ground → SameCounts faults ground.faults
    → ground ≡ empty_ground sizes faults
ground_is law sizes devices ground faults empty opens counts =
    ap (λ (b : Base). by_parts b ground.pages ground.faults) base ∙ ap (λ (w : World PagesOf). by_parts (empty_base sizes) w ground.faults) pages
    ∙ ap (λ (f : Device → ℕ). by_parts (empty_base sizes) (empty_ground sizes faults).pages f) (fun_ext counts)
  where
    by_parts : Base → World PagesOf → (Device → ℕ) → Ground
    by_parts base pages faults = record { base = base; pages = pages; faults = faults }

    world_by : PagesOf → List (Mark PagesOf) → World PagesOf
    world_by current marks = record { current = current; marks = marks }

    same : opens.contents ≡ empty_contents One sizes
    same = law.one_store One devices opens.contents (empty_contents One sizes) opens.hold empty.hold

    base : ground.base ≡ empty_base sizes
    base = sym opens.base ∙ ap (λ (c : Contents). (now (opened c)).base) same

    shown : IsWorldOf (opened (empty_contents One sizes)) ground.pages
    shown = subst (λ (c : Contents). IsWorldOf (opened c) ground.pages) same opens.shown

    pages : ground.pages ≡ (empty_ground sizes faults).pages
    pages =
        ap (λ (current : PagesOf). world_by current ground.pages.marks) (fun_ext shown.current)
        ∙ ap (λ (marks : List (Mark PagesOf)). world_by (page_in (zero_pages sizes.pages)) marks) (none_marked (opened (empty_contents One sizes)) ground.pages.marks shown.marks)

-- its pages hold no tables
shows_none : StoreLaw → (sizes : Sizes) (faults : Device → ℕ) → AreInRange sizes → Shows (sql sizes.pages) (empty_ground sizes faults).pages (empty_opening sizes faults).tables
shows_none law sizes faults range =
    let least : 16 ≤ sizes.pages = range.pages.0 in
    let most : sizes.pages ≤ 65536 = range.pages.1 in
    record {
      current = record { all = _; store = law.fresh sizes.pages _ (λ page less. get_or-replicate sizes.pages page (replicate 1024 0) [] less) (omega (arith, least)) (omega (arith, most)); same = refl };
      marks = tt;
    }

-- so a store that is opened from a crash of it shows none
pub empty_shows : {D : Type 0} (state : D → State) (sizes : Sizes) (disks : Four D) → AreInRange sizes → ((devices : Four (List ℕ)) → AreImages state disks devices → IsEmptyStore One sizes devices)
    → OpensShowing state sizes.pages (λ tables. tables ≡ record { current = no_tables; marks = [] }) disks
empty_shows state sizes disks range empty devices ground images opens =
    let is = ground_is are_read_one_way sizes devices ground ground.faults (empty devices images) opens (λ device. refl) in (
      ap (λ (g : Ground). g.base.page_count) is,
      (empty_opening sizes ground.faults).tables,
      refl,
      subst (λ (g : Ground). Shows (sql sizes.pages) g.pages (empty_opening sizes ground.faults).tables) (sym is) (shows_none store_law sizes ground.faults range),
    )

-- ---- the run

-- devices that told what they held do so still
pub still_honest : {D : Type 0} (extent : D → ℕ) (is_honest : D → Type 0) (state : D → State) (first made : Four D) → Each (IsBlank extent is_honest state) first → AreSame extent is_honest first made → AreHonest is_honest made
still_honest extent is_honest state first made blank same = record {
  log = same.log.honest.0 blank.log.honest;
  pages = same.pages.honest.0 blank.pages.honest;
  pagelog = same.pagelog.honest.0 blank.pagelog.honest;
  maplog = same.maplog.honest.0 blank.maplog.honest;
}

module _ {D : Type 0} (extent faults : D → ℕ) (is_honest : D → Type 0) (remembers : Type 0) (state : D → State) (clock : D → Clock) where
  -- a crash may leave what reads return
  seen_images : (disks : Four D) → AreImages state disks (seen_of state disks)
  seen_images disks = record {
    log = record { size = refl; kept = λ place apart. refl };
    pages = record { size = refl; kept = λ place apart. refl };
    pagelog = record { size = refl; kept = λ place apart. refl };
    maplog = record { size = refl; kept = λ place apart. refl };
  }

  module _ (sizes : Sizes) (first made last : Four D) (blank : Each (IsBlank extent is_honest state) first) (same : AreSame extent is_honest first made) (counts : SameCounts (of_each faults first) (of_each faults made))
      (empty : (devices : Four (List ℕ)) → AreImages state made devices → IsEmptyStore One sizes devices) (read : AreReadOneWay) where
    honest : AreHonest is_honest made
    honest = still_honest extent is_honest state first made blank same

    holds : IsEmptyStore One sizes (seen_of state made)
    holds = empty (seen_of state made) (seen_images made)

    -- it is not refused as no store
    unopened : (why : Refusal) → IsUnopened (AreRefused extent is_honest state One made) (of_each faults made) (of_each faults last) why
        → IsUnopened (λ (device : Device) (broken : ℕ). ⊥) (of_each faults first) (of_each faults last) why
    unopened OutOfMemory is = λ device. is device ∙ counts device
    unopened (NotAStore device broken) is =
        absurd (read.not_both One (seen_of state made) holds.opens.contents device broken holds.opens.hold holds.opens.joined (is.1.breaks honest))
    unopened (DiskFault device count) is = (
      subst (λ (n : ℕ). IsFault device n (of_each faults last device) (DiskFault device count)) (counts device) is.0,
      λ other apart. is.1 other apart ∙ counts other,
    )
    unopened why is = absurd is

    left : StoreLaw → AreInRange sizes → (plan : Plan) (ended : Ended) → Leaves faults is_honest state plan made last ended
        → LeftFrom sizes.pages plan (empty_opening sizes (of_each faults first)) (of_each faults last) ended
    left zeros range plan ended leaves =
        let is = ground_is read sizes (seen_of state made) leaves.ground (of_each faults first) holds (leaves.opens honest) (λ device. leaves.counts device ∙ counts device) in
        let ran : HasRunOver plan (empty_ground sizes (of_each faults first)) (of_each faults last) ended = subst (λ (g : Ground). HasRunOver plan g (of_each faults last) ended) is (leaves.ran honest) in
        let tables = (empty_opening sizes (of_each faults first)).tables in
        let shows = shows_none zeros sizes (of_each faults first) range in
        record {
          lawful = ran.lawful tables shows;
          replied = ran.replied tables shows;
          newest_is = leaves.newest_is ∙ ap (λ (g : Ground). newest g.pages) is;
          captures_are = leaves.captures_are ∙ ap (λ (g : Ground). (base_of g.base ended.journal).captures) is;
        }

    pub unopened_so : (plan : Plan) (result : Result Ended Refusal) → RunsOn extent faults is_honest remembers state clock plan made last result
        → IfErr result (IsUnopened (λ (device : Device) (broken : ℕ). ⊥) (of_each faults first) (of_each faults last))
    unopened_so plan (Ok ended) runs = tt
    unopened_so plan (Err why) runs = unopened why runs.unopened

    pub left_so : StoreLaw → AreInRange sizes → (plan : Plan) (result : Result Ended Refusal) → RunsOn extent faults is_honest remembers state clock plan made last result
        → IfOk result (LeftFrom sizes.pages plan (empty_opening sizes (of_each faults first)) (of_each faults last))
    left_so zeros range plan (Ok ended) runs = left zeros range plan ended runs.leaves
    left_so zeros range plan (Err why) runs = tt

-- ---- what is printed of a run

-- it is the transcript of its journal
pub told_from : (size : ℕ) (plan : Plan) (o : Opening (sql size)) (ending : Device → ℕ) (ended : Ended) (text : List ℕ) → LeftFrom size plan o ending ended → IsPrinted plan ended text → RanOver size plan o ending ended.journal text
told_from size plan o ending ended text left print =
    prints size plan o ending ended.journal (kept_by_place print.kept) text
    (subst (λ (k : Result (List (List (List Kept))) AllocError). IfOk k (λ kept. RepliedOver size plan o ending ended.journal (kept_by_place kept))) print.kept_is left.replied)
    (print.text_is ∙ ap (λ (n : ℕ). printed plan (kept_by_place print.kept) n ended.journal) left.newest_is)

-- ---- in memory, where no call fails

-- so many faults have all
no_faults : {D : Type 0} (disks : Four D) → of_each (λ (disk : D). 0) disks ≡ (λ (device : Device). 0)
no_faults disks = fun_ext at
  where
    at : (device : Device) → of_each (λ disk. 0) disks device ≡ 0
    at Log = refl
    at Pages = refl
    at Pagelog = refl
    at Maplog = refl
    at Cabinet = refl

-- what was refused was refused for want of memory
wants_memory : (before after : Device → ℕ) (why : Refusal) → before ≡ (λ (device : Device). 0) → after ≡ (λ (device : Device). 0) → IsUnopened (λ (device : Device) (broken : ℕ). ⊥) before after why → why ≡ OutOfMemory
wants_memory before after OutOfMemory old new is = refl
wants_memory before after (NotAStore device broken) old new is = absurd is.1
wants_memory before after (DiskFault device count) old new is =
    let none : before device ≡ 0 = ap (λ (f : Device → ℕ). f device) old in
    let still : after device ≡ 0 = ap (λ (f : Device → ℕ). f device) new in
    let rose : Rose 0 0 = subst (λ (n : ℕ). Rose n 0) none (subst (λ (n : ℕ). Rose (before device) n) still is.0.3) in
    absurd (omega (arith, rose))
wants_memory before after why old new is = absurd is

-- a run there is one from its opening
pub runs_from : {D : Type 0} (first last : Four D) (plan : Plan) (result : Result Ended Refusal)
    → IfOk result (LeftFrom MEMORY_PAGES plan (empty_opening memory_sizes (of_each (λ (disk : D). 0) first)) (of_each (λ (disk : D). 0) last))
    → IfErr result (IsUnopened (λ (device : Device) (broken : ℕ). ⊥) (of_each (λ (disk : D). 0) first) (of_each (λ (disk : D). 0) last)) → RunsFrom MEMORY_PAGES memory_opening plan result
runs_from {D} first last plan (Ok ended) left cause =
    subst (λ (f : Device → ℕ). LeftFrom MEMORY_PAGES plan (empty_opening memory_sizes f) (λ device. 0) ended) (no_faults first)
    (subst (λ (f : Device → ℕ). LeftFrom MEMORY_PAGES plan (empty_opening memory_sizes (of_each (λ (disk : D). 0) first)) f ended) (no_faults last) left)
runs_from {D} first last plan (Err why) left cause = wants_memory (of_each (λ (disk : D). 0) first) (of_each (λ (disk : D). 0) last) why (no_faults first) (no_faults last) cause

-- a device of zeros is blank, and has its size
pub size_is : (size : ℕ) (disk : List ℕ) → disk ≡ replicate size 0 → length disk ≡ size
size_is size disk is = ap length is ∙ length-replicate size 0

pub is_blank : (size : ℕ) (disk : List ℕ) → disk ≡ replicate size 0 → IsBlank (λ (d : List ℕ). length d) (λ (d : List ℕ). Unit {0}) (λ (d : List ℕ). record { seen = d; is_loose = λ place. ⊥ }) disk
is_blank size disk is = record { honest = tt; zeros = is ∙ ap (λ (n : ℕ). replicate {A = ℕ} n 0) (sym (size_is size disk is)); durable = λ place loose. loose }
