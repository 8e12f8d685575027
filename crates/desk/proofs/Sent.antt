-- Pages that may be written back, and when the log may be cut.
use Rattle.std.proofs.Common.{◌≡◌, ◌∙◌, ◌≤◌, ◌<◌, ◌+◌, ◌-◌, inl, inr, ◌||◌, ℕ, zero, suc, Bool, true, false, cond, eqb, List, [], ◌∷◌, length, get_or, refl, sym, ap, arith, length-drop}
use Rattle.std.specs.Prelude.{Option, Some, None}
use Rattle.std.specs.List.{AllByRecursion}
use Rattle.std.proofs.lemmas.Bool.{both_ways, cases_lt, cases_eq, eq-eqb, eqb-true, or_cases}
use Rattle.std.proofs.lemmas.List.{get_or-drop}
use Rattle.disk_model.specs.Disk.{State, IsImage}
use Rattle.disk_model.specs.Moments.{Clock, LeavesOnly}
use Rattle.disk_model.proofs.Moments.{started}
use Rattle.block_file.specs.Blocks.{block_at}
use Rattle.block_file.proofs.Blocks.{image_settled}
use Rattle.retro_base.specs.Cause.{IsFault}
use Rattle.retro_base.specs.declared.device.Device.{Device}
use Rattle.retro_base.specs.declared.refusal.Refusal.{Refusal}
use Rattle.retro_base.specs.declared.refusal.Refusal.TheVariants.{DiskFault, Stopped}
use Rattle.gate_log.specs.Cause.{IsDiskFault}
use Rattle.area_log.specs.Area.{Area}
use Rattle.area_log.specs.Cause.{IsWriteRefusal as IsAreaRefusal}
use Rattle.redo_log.specs.Cause.{IsMemoryOrFault}
use Rattle.redo_log.specs.Redo.{base_alone}
use Rattle.history.specs.declared.log.Version.{Version}
use Rattle.history.specs.declared.entry.Base.{Base}
use Rattle.history.specs.declared.entry.Change.{Change}
use Rattle.history.specs.declared.entry.Change.TheVariants.{Commit, Drop}
use Rattle.history.specs.declared.writes.PageImage.{PageImage}
use Rattle.history.specs.Writes.{pages_of, is_among}
use Rattle.history.specs.Right.{AreRight}
use Rattle.history.specs.History.{now, captures, base_after, bases_after}
use Rattle.history.proofs.Consistent.{captures_are_counted}
use Rattle.replay.specs.Opened.{forgotten}
use Rattle.page_pool.specs.Frames.{count_below}
use Rattle.page_pool.specs.Side.{soiled}
use Rattle.race_model.specs.Desk.{Desk, behind, is_written, log_from, writes_page}
use Rattle.race_model.specs.Fits.{DeskFits}
use Rattle.race_model.specs.Machine.{MayCut, MayWrite, stopped, write_failed, written_desk}
use Rattle.race_model.proofs.DeskKeeps.{may_write_back}
use Rattle.race_model.proofs.Histories.{page_count_after}
use Rattle.race_model.proofs.LogKeeps.{base_whole}
use Rattle.desk.specs.declared.desk.RunningDesk.{RunningDesk}
use Rattle.history.specs.declared.stop.Stop.{Stop}
use Rattle.desk.specs.Cause.{IsWriteRefusal}
use Rattle.desk.specs.Desk.{HasPassed, HoldsPagesOf, IsDesk, pending_of}
use Rattle.desk.specs.Steps.{IsLeastWritable}
use Rattle.desk.proofs.Passing.{still_dirty}
use Rattle.desk.proofs.Steps.{counted}

-- ---- while the pages' device is as it was

module _ {D : Type 0} (honest : D → Type 0) (remembers : Type 0) (state : D → State) (clock : D → Clock) (old : RunningDesk D) (desk : Desk) (is : IsDesk honest state old desk) (told : honest old.pool.file.disk)
    (only : (image : List ℕ) → (clock old.pool.file.disk).left_since (clock old.pool.file.disk).moment image → IsImage (state old.pool.file.disk) image) where
  image_holds : (image : List ℕ) → (clock old.pool.file.disk).left_since (clock old.pool.file.disk).moment image → (page : ℕ) → desk.loose page ≡ false → block_at image page ≡ desk.pages page
  image_holds image left page sure = let reads = is.pages.reads told in image_settled (state old.pool.file.disk) image page (only image left) (reads.sure page sure) ∙ reads.reads page

  pub pages_rest : LeavesOnly remembers (clock old.pool.file.disk) (clock old.pool.file.disk) (HoldsPagesOf (stopped desk))
  pages_rest = started remembers (clock old.pool.file.disk) (HoldsPagesOf (stopped desk)) image_holds

  pub write_rests : (page need : ℕ) (left : List ℕ) → LeavesOnly remembers (clock old.pool.file.disk) (clock old.pool.file.disk) (HoldsPagesOf (write_failed desk page need left))
  write_rests page need left = started remembers (clock old.pool.file.disk) (HoldsPagesOf (write_failed desk page need left)) (λ image at other sure. case image at other (eqb other page) refl sure)
    where
      case : (image : List ℕ) → (clock old.pool.file.disk).left_since (clock old.pool.file.disk).moment image → (other : ℕ) (b : Bool) → eqb other page ≡ b → cond b true (desk.loose other) ≡ false → block_at image other ≡ cond b left (desk.pages other)
      case image at other true e sure = absurd (both_ways true sure refl)
      case image at other false e sure = image_holds image at other sure

-- ---- the page that is written back

among_at : (page : ℕ) (images : List PageImage) (i : ℕ) (d : PageImage) → i < length images → (get_or images i d).page ≡ page → is_among page (pages_of images) ≡ true
among_at page [] i d lt is = absurd (omega (arith, lt))
among_at page (image ∷ images) zero d lt is = ap (λ (b : Bool). b || is_among page (pages_of images)) (eq-eqb image.page page is)
among_at page (image ∷ images) (suc i) d lt is = ap (λ (b : Bool). eqb image.page page || b) (among_at page images i d (omega (arith, lt)) is) ∙ or_true (eqb image.page page) where
  or_true : (b : Bool) → b || true ≡ true
  or_true true = refl
  or_true false = refl

-- none of the captures that are not acknowledged is of the page
none_of : (desk : Desk) (page : ℕ) → DeskFits desk → is_among page (pages_of (pending_of desk)) ≡ false → (number : ℕ) → desk.acked ≤ number → number < (now desk.history).base.captures
    → (get_or (captures desk.history) number forgotten).page ≡ page → ⊥
none_of desk page f none number from lt is =
    let there : number - desk.acked < length (pending_of desk) = omega (arith, lt, from, captures_are_counted desk.history f.history.consistent, length-drop desk.acked (captures desk.history)) in
    let same : desk.acked + (number - desk.acked) ≡ number = omega (arith, from) in
    both_ways (is_among page (pages_of (pending_of desk))) none
    (among_at page (pending_of desk) (number - desk.acked) forgotten there (ap (λ (image : PageImage). image.page) (get_or-drop desk.acked (captures desk.history) (number - desk.acked) forgotten ∙ ap (λ n. get_or (captures desk.history) n forgotten) same) ∙ is))

pub may_write : (desk : Desk) (page : ℕ) → DeskFits desk → desk.stopped ≡ false → IsLeastWritable desk page → MayWrite desk page desk.acked
may_write desk page f goes least = may_write_back desk f page goes least.soiled (none_of desk page f least.copied)

pub one_least : (desk : Desk) (page other : ℕ) → IsLeastWritable desk page → IsLeastWritable desk other → page ≡ other
one_least desk page other this that = elim (cases_lt page other) [
  | inl lt ↦ absurd (both_ways (is_among page (pages_of (pending_of desk))) this.copied (that.least page lt this.soiled))
  | inr ge ↦ elim (cases_lt other page) [
    | inl lt ↦ absurd (both_ways (is_among other (pages_of (pending_of desk))) that.copied (this.least other lt that.soiled))
    | inr le ↦ omega (arith, ge, le)
  ]
]

-- behind the write of the least, each dirty page below it waits
pub passed_written : (desk : Desk) (page need first : ℕ) → first ≡ desk.acked → IsLeastWritable desk page → HasPassed (record { page = page; first = first }) (written_desk desk page need)
passed_written desk page need first is least = record {
  known = omega (arith, is);
  waits = λ e other lt dirty. least.least other lt (still_dirty desk page other dirty);
}

module _ {D : Type 0} (honest : D → Type 0) (state : D → State) (running : RunningDesk D) (desk : Desk) (is : IsDesk honest state running desk) where
  listed : (page : ℕ) → is_among page (pages_of running.queue.images) ≡ is_among page (pages_of (pending_of desk))
  listed page = ap (is_among page) is.pending

  -- what is least in memory is so of the desk
  pub least_of : (page : ℕ) → soiled running.pool page ≡ true → is_among page (pages_of running.queue.images) ≡ false
      → ((other : ℕ) → other < page → soiled running.pool other ≡ true → is_among other (pages_of running.queue.images) ≡ true) → IsLeastWritable desk page
  least_of page dirty none less = record {
    soiled = sym (is.pages.marks page) ∙ dirty;
    copied = sym (listed page) ∙ none;
    least = λ other lt soils. sym (listed other) ∙ less other lt (is.pages.marks other ∙ soils);
  }

-- ---- refusals

pub fault_is : (which : Device) (before now : ℕ) (why : Refusal) → IsFault which before now why → IsDiskFault why
fault_is which before now (DiskFault device count) is = tt
fault_is which before now other is = absurd is

pub fault_refused : (stop : Option Stop) (which : Device) (before now : ℕ) (why : Refusal) → stop ≡ None → IsFault which before now why → IsWriteRefusal stop (IsFault which before now) why
fault_refused stop which before now (Stopped device count) none is = absurd is
fault_refused stop which before now other none is = (none, is)

-- ---- when the log may be cut

step_zero : (b : Bool) (n : ℕ) → n + cond b 1 0 ≡ 0 → (n ≡ 0) × (b ≡ false)
step_zero true n e = absurd (omega (arith, e))
step_zero false n e = (omega (arith, e), refl)

count_zero : (test : ℕ → Bool) (pages : ℕ) → count_below test pages ≡ 0 → (page : ℕ) → page < pages → test page ≡ false
count_zero test zero e page lt = absurd (omega (arith, lt))
count_zero test (suc pages) e page lt =
    let parts = step_zero (test pages) (count_below test pages) e in
    elim (cases_eq page pages) [ inl same ↦ ap test same ∙ parts.1 | inr apart ↦ count_zero test pages parts.0 page (omega (arith, lt, apart)) ]

count_none : (test : ℕ → Bool) (pages : ℕ) → ((page : ℕ) → test page ≡ false) → count_below test pages ≡ 0
count_none test zero none = refl
count_none test (suc pages) none = omega (arith, count_none test pages none, ap {B = ℕ} (λ (b : Bool). cond b 1 0) (none pages))

written_among : (limit page : ℕ) (writes : List PageImage) → AllByRecursion (λ write. write.page < limit) writes → is_among page (pages_of writes) ≡ true → page < limit
written_among limit page [] all e = absurd cc
written_among limit page (write ∷ writes) all e = elim (or_cases (eqb write.page page) (is_among page (pages_of writes)) e) [
  | inl here ↦ omega (arith, all.0, eqb-true write.page page here)
  | inr later ↦ written_among limit page writes all.1 later
]

written_inside : (changes : List Change) (base : Base) (page : ℕ) → AreRight base changes → is_written page changes ≡ true → page < base.page_count
written_inside [] base page right e = absurd cc
written_inside (Commit label writes ∷ changes) base page right e = elim (or_cases (writes_page page (Commit label writes)) (is_written page changes) e) [
  | inl here ↦ written_among base.page_count page writes right.0.0 here
  | inr later ↦ written_inside changes (base_after base (Commit label writes)) page right.1 later
]
written_inside (Drop below ∷ changes) base page right e = elim (or_cases (writes_page page (Drop below)) (is_written page changes) e) [
  | inl here ↦ absurd cc
  | inr later ↦ written_inside changes (base_after base (Drop below)) page right.1 later
]

pub count_stays : (changes : List Change) (base : Base) → (bases_after base changes).page_count ≡ base.page_count
count_stays [] base = refl
count_stays (change ∷ changes) base = count_stays changes (base_after base change) ∙ page_count_after base change

-- a dirty page is one of the store
pub dirty_inside : (desk : Desk) (page : ℕ) → DeskFits desk → desk.dirty page ≡ true → page < (now desk.history).base.page_count
dirty_inside desk page f soils =
    let inside = written_inside desk.rest (behind desk.history desk.past).base page f.log.fits.right (f.soiled page soils) in
    omega (arith, inside, sym (count_stays desk.rest (behind desk.history desk.past).base) ∙ ap (λ (b : Base). b.page_count) (base_whole desk.history desk.past desk.rest f.log.split))

module _ {D : Type 0} (honest : D → Type 0) (state : D → State) (running : RunningDesk D) (desk : Desk) (is : IsDesk honest state running desk) (f : DeskFits desk) where
  pub may_cut : desk.stopped ≡ false → running.pool.is_unsettled ≡ false → count_below (soiled running.pool) running.pool.file.blocks ≡ 0 → length running.queue.images ≤ 0 → MayCut desk
  may_cut goes settles none empty = record {
    goes = goes;
    clean = λ page. (case page (desk.dirty page) refl, is.pages.settled settles page);
    acked = omega (arith, empty, counted honest state running desk is f, is.first, ap (λ (b : Base). b.captures) is.base);
  } where
    case : (page : ℕ) (b : Bool) → desk.dirty page ≡ b → b ≡ false
    case page false e = refl
    case page true e =
        absurd (both_ways (soiled running.pool page) (count_zero (soiled running.pool) running.pool.file.blocks none page (omega (arith, dirty_inside desk page f e, is.whole))) (is.pages.marks page ∙ e))

  pub cannot_cut : MayCut desk → (running.pool.is_unsettled ≡ false) × (count_below (soiled running.pool) running.pool.file.blocks ≡ 0) × (length running.queue.images ≡ 0)
  cannot_cut can = (
    case running.pool.is_unsettled refl,
    count_none (soiled running.pool) running.pool.file.blocks (λ page. is.pages.marks page ∙ (can.clean page).0),
    omega (arith, can.acked, counted honest state running desk is f, is.first, ap (λ (b : Base). b.captures) is.base),
  ) where
    case : (b : Bool) → running.pool.is_unsettled ≡ b → running.pool.is_unsettled ≡ false
    case false e = e
    case true e = let loose = is.pages.unsettled e in absurd (both_ways (desk.loose loose.0) (can.clean loose.0).1 loose.1)

-- ---- the base in the log's place

pub alone_is : (version : Version) (base : Base) (desk : Desk) → version ≡ desk.version → base ≡ (now desk.history).base → base_alone version base ≡ log_from desk.version desk.history desk.history.changes []
alone_is version base desk a b = ap (λ (v : Version). base_alone v base) a ∙ ap (λ (x : Base). base_alone desk.version x) b

pub cut_refused : (area : Area) (which : Device) (before now : ℕ) (why : Refusal) → area.fault ≡ None → IsAreaRefusal area (IsMemoryOrFault which before now) before now why → IsMemoryOrFault which before now why
cut_refused area which before now (Stopped device number) fault h = absurd (let e : None ≡ Some number = sym fault ∙ h.1 in cc)
cut_refused area which before now other fault h = h.1
