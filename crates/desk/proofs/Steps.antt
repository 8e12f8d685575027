-- The desk behind each of its steps.
use Rattle.std.proofs.Common.{◌≡◌, ◌∙◌, inl, inr, ◌≤◌, ◌<◌, ◌+◌, ◌-◌, ℕ, length-drop, Bool, true, false, ◌||◌, List, [], ◌∷◌, ◌++◌, length, take, drop, map, refl, sym, ap, subst, arith}
use Rattle.std.specs.Prelude.{Option, Some, None, is_some, max}
use Rattle.std.proofs.lemmas.List.{drop-append-le, take-append-le}
use Rattle.std.proofs.lemmas.Bool.{both_ways}
use Rattle.disk_model.specs.Disk.{State, IsImage}
use Rattle.disk_model.specs.Moments.{Clock, LeavesOnly}
use Rattle.disk_model.proofs.Moments.{started}
use Rattle.block_file.specs.Blocks.{File}
use Rattle.retro_base.specs.declared.limits.TheConstants.{MAX_CAPTURES}
use Rattle.retro_base.specs.declared.refusal.Refusal.{Refusal}
use Rattle.retro_base.specs.declared.refusal.Refusal.TheVariants.{DiskFault, OutOfMemory, Stopped}
use Rattle.gate_log.specs.Cause.{IsAppendRefusal, IsDiskFault}
use Rattle.area_log.specs.Area.{Area}
use Rattle.area_log.specs.Cause.{IsWriteRefusal as IsAreaRefusal}
use Rattle.history.specs.declared.entry.Base.{Base}
use Rattle.history.specs.declared.entry.Change.{Change}
use Rattle.history.specs.declared.entry.Change.TheVariants.{Commit, Drop}
use Rattle.history.specs.declared.log.Log.{Log}
use Rattle.history.specs.declared.log.Version.{Version}
use Rattle.history.specs.declared.writes.PageImage.{PageImage}
use Rattle.history.specs.Writes.{is_among, pages_of}
use Rattle.history.specs.Right.{IsBase, IsRight, MayFollow}
use Rattle.history.specs.History.{State as Place, History, now, captures, captured_by, with_change, pages_after, base_after, before_write, capturing}
use Rattle.history.proofs.Captures.{now-with}
use Rattle.history.proofs.Consistent.{captures_grow, captures_are_counted}
use Rattle.records.specs.declared.entry.Entry.{Entry}
use Rattle.records.specs.declared.entry.Entry.TheVariants as entries
use Rattle.records.specs.Entries.{entry_bytes, EntryFits, BaseFits}
use Rattle.records.specs.Laws.{IsRightBase}
use Rattle.records.specs.Log.{IsChangeBody}
use Rattle.redo_log.specs.Redo.{base_at_end, ListsOneOf}
use Rattle.redo_log.specs.Side.{IsLogSide, LogSide}
use Rattle.copy_queue.specs.Pending.{Pending}
use Rattle.page_pool.specs.Side.{Pool, IsPageSide}
use Rattle.race_model.specs.Desk.{Desk, Doubt, Sure, OneMore, NewBase, writes_of, writes_page}
use Rattle.race_model.specs.Fits.{DeskFits, DoubtFits}
use Rattle.race_model.specs.Machine.{acked_to, changed, change_failed, cut, cut_failed, written_desk, write_failed, settled, stopped}
use Rattle.race_model.proofs.Histories.{page_count_after}
use Rattle.race_model.proofs.Lists.{drop-to, pages_of-append, pages_of-drop, pages_of-length}
use Rattle.race_model.proofs.LogKeeps.{base_whole}
use Rattle.desk.specs.declared.desk.Passed.{Passed}
use Rattle.desk.specs.declared.desk.RunningDesk.{RunningDesk}
use Rattle.desk.proofs.Passing.{passed_acked, passed_as, passed_changed, still_dirty}
use Rattle.history.specs.declared.stop.Stop.{Stop}
use Rattle.desk.specs.Cause.{IsWriteRefusal, IsChangeRefusal, stop_behind}
use Rattle.desk.specs.Desk.{HasPassed, IsDesk, IsWhole, log_of, other_log, pending_of}
use Rattle.desk.specs.Steps.{IsRightChange}
use Rattle.redo_log.proofs.Staying.{fitting_bases_stay}

-- ---- what an entry is

pub right_base : (base : Base) (entry : Entry) → IsRightChange base entry → IsRightBase entry
right_base base (entries.Base other) right = absurd right
right_base base (entries.Change change) right = tt

-- the record of a change that may follow is one that may stand at the log's end
pub change_body : (desk : Desk) (version : Version) (change : Change) (entry : Entry) (body : List ℕ) → DeskFits desk → MayFollow (now desk.history).base change → entry ≡ entries.Change change → body ≡ entry_bytes version entry → EntryFits version entry
    → IsChangeBody version (base_at_end (log_of desk)) body change
change_body desk version change entry body f may is spelled fits = record {
  spelled = spelled ∙ ap (entry_bytes version) is;
  fits = subst (EntryFits version) is fits;
  right = subst (λ (b : Base). IsRight b change) (sym (base_whole desk.history desk.past desk.rest f.log.split)) may.right;
}

pub entry_fits : (version other : Version) (entry : Entry) (change : Change) → version ≡ other → entry ≡ entries.Change change → EntryFits version entry → EntryFits other (entries.Change change)
entry_fits version other entry change same is fits = subst (λ (v : Version). EntryFits v (entries.Change change)) same (subst (EntryFits version) is fits)

-- ---- what it writes and captures

captures_change : (place : Place) (change : Change) → map (before_write place.pages) (capturing place.base (writes_of change)) ≡ captured_by place change
captures_change place (Commit label writes) = refl
captures_change place (Drop below) = refl

pub captures_at : (place : Place) (base : Base) (change : Change) → base ≡ place.base → map (before_write place.pages) (capturing base (writes_of change)) ≡ captured_by place change
captures_at place base change same = ap (λ (b : Base). map (before_write place.pages) (capturing b (writes_of change))) same ∙ captures_change place change

pages_before : (pages : ℕ → List ℕ) (writes : List PageImage) → pages_of (map (before_write pages) writes) ≡ pages_of writes
pages_before pages [] = refl
pages_before pages (write ∷ writes) = ap (λ (l : List ℕ). write.page ∷ l) (pages_before pages writes)

pub pages_at : (place : Place) (base : Base) (change : Change) → base ≡ place.base → pages_of (capturing base (writes_of change)) ≡ pages_of (captured_by place change)
pages_at place base change same = sym (pages_before place.pages (capturing base (writes_of change))) ∙ ap pages_of (captures_at place base change same)

-- the queue with more behind it
pub more_pages : (old queue : Pending) (more : List PageImage) (pages : List ℕ) → queue ≡ record { first = old.first; images = old.images ++ more } → pages_of more ≡ pages → pages_of queue.images ≡ pages_of old.images ++ pages
more_pages old queue more pages is same = ap (λ (q : Pending). pages_of q.images) is ∙ pages_of-append old.images more ∙ ap (λ (l : List ℕ). pages_of old.images ++ l) same

pub more_images : (old queue : Pending) (more images : List PageImage) → queue ≡ record { first = old.first; images = old.images ++ more } → more ≡ images → queue.images ≡ old.images ++ images
more_images old queue more images is same = ap (λ (q : Pending). q.images) is ∙ ap (λ (l : List PageImage). old.images ++ l) same

-- ---- the desk behind a change

module _ {D : Type 0} (honest : D → Type 0) (state : D → State) (old : RunningDesk D) (desk : Desk) (is : IsDesk honest state old desk) (f : DeskFits desk) where
  -- the captures that are pending are those behind the acknowledged count
  pub counted : old.queue.first + length old.queue.images ≡ old.base.captures
  counted =
      omega (
        arith,
        is.first,
        f.pending,
        ap (λ (b : Base). b.captures) is.base,
        ap (λ (l : List ℕ). length l) is.pending,
        pages_of-length old.queue.images,
        pages_of-length (pending_of desk),
        length-drop desk.acked (captures desk.history),
        captures_are_counted desk.history f.history.consistent,
      )

  grown : (change : Change) → pending_of (changed desk change) ≡ pending_of desk ++ captured_by (now desk.history) change
  grown change =
      ap (drop desk.acked) (captures_grow desk.history change f.history.consistent)
      ∙ drop-append-le desk.acked (captures desk.history) (captured_by (now desk.history) change) (omega (arith, f.pending, captures_are_counted desk.history f.history.consistent))

  pub desk_changed : (log : LogSide D) (pool : Pool D) (queue : Pending) (base : Base) (change : Change) → MayFollow (now desk.history).base change → EntryFits desk.version (entries.Change change)
      → IsLogSide honest state log (log_of (changed desk change)) (other_log (changed desk change) desk.doubt) false → desk.stopped ≡ false → log.log.version ≡ old.log.log.version
      → pool.file ≡ old.pool.file
      → IsPageSide honest state pool (pages_after (now desk.history).pages change) desk.pages desk.loose (λ page. desk.dirty page || writes_page page change)
      → queue.first ≡ old.queue.first → pages_of queue.images ≡ pages_of old.queue.images ++ pages_of (captured_by (now desk.history) change)
      → (honest old.pool.file.disk → queue.images ≡ old.queue.images ++ captured_by (now desk.history) change)
      → base ≡ base_after old.base change
      → (place : ℕ) → place ≤ old.passed.page → ((page : ℕ) → page < place → writes_page page change ≡ true → is_among page (pages_of queue.images) ≡ true)
      → IsDesk honest state (record { log = log; pool = pool; queue = queue; base = base; stop = old.stop; passed = record { page = place; first = old.passed.first } }) (changed desk change)
  desk_changed log pool queue base change may entry side goes version file pages first listed bytes is_base place less waits =
      let after_base : base ≡ (now (with_change desk.history change)).base = is_base ∙ ap (λ (b : Base). base_after b change) is.base ∙ ap (λ (s : Place). s.base) (sym (now-with desk.history change)) in
      let more : pages_of (pending_of (changed desk change)) ≡ pages_of (pending_of desk) ++ pages_of (captured_by (now desk.history) change) = ap pages_of (grown change) ∙ pages_of-append (pending_of desk) (captured_by (now desk.history) change) in
      let all_listed = listed ∙ ap (λ (l : List ℕ). l ++ pages_of (captured_by (now desk.history) change)) is.pending ∙ sym more in
      record {
        log = subst (λ (b : Bool). IsLogSide honest state log (log_of (changed desk change)) (other_log (changed desk change) desk.doubt) b) (sym goes) side;
        version = version ∙ is.version;
        pages = subst (λ (p : ℕ → List ℕ). IsPageSide honest state pool p desk.pages desk.loose (λ page. desk.dirty page || writes_page page change)) (ap (λ (s : Place). s.pages) (sym (now-with desk.history change))) pages;
        whole = ap (λ (x : File D). x.blocks) file ∙ is.whole ∙ sym (page_count_after (now desk.history).base change) ∙ ap (λ (s : Place). s.base.page_count) (sym (now-with desk.history change));
        first = first ∙ is.first;
        pending = all_listed;
        bytes = λ told.
            let was : honest old.pool.file.disk = subst (λ (x : File D). honest x.disk) file told in
            bytes was ∙ ap (λ (l : List PageImage). l ++ captured_by (now desk.history) change) (is.bytes was) ∙ sym (grown change);
        base = after_base;
        fits = subst (BaseFits desk.version) (sym is_base)
            (fitting_bases_stay desk.version old.base change (subst IsBase (sym is.base) f.history.right) is.fits entry (subst (λ (b : Base). IsRight b change) (sym is.base) may.right));
        stopped = is.stopped;
        passed = passed_changed desk change old.passed is.passed (pages_of (captured_by (now desk.history) change)) more place less (λ page lt wrote. ap (is_among page) (sym all_listed) ∙ waits page lt wrote);
      }

module _ {D : Type 0} (honest : D → Type 0) (state : D → State) (old : RunningDesk D) (desk : Desk) (is : IsDesk honest state old desk) where
  pub desk_change_failed : (log : LogSide D) (queue : Pending) (stop : Option Stop) (change : Change)
      → IsLogSide honest state log (log_of desk) (other_log (change_failed desk change) (OneMore change)) true → log.log.version ≡ old.log.log.version → queue ≡ old.queue → is_some stop ≡ true
      → IsDesk honest state (record { log = log; pool = old.pool; queue = queue; base = old.base; stop = stop; passed = old.passed }) (change_failed desk change)
  desk_change_failed log queue stop change side version same stops = record {
    log = side;
    version = version ∙ is.version;
    pages = is.pages;
    whole = is.whole;
    first = ap (λ (q : Pending). q.first) same ∙ is.first;
    pending = ap (λ (q : Pending). pages_of q.images) same ∙ is.pending;
    bytes = λ told. ap (λ (q : Pending). q.images) same ∙ is.bytes told;
    base = is.base;
    fits = is.fits;
    stopped = sym stops;
    passed = passed_as old.passed desk (change_failed desk change) is.passed refl refl (λ page dirty. dirty);
  }

  -- ---- behind a step of the pages

  -- a desk that has the same history and log, and other pages
  desk_paged : (other : Desk) (pool : Pool D) (stop : Option Stop) → other.history ≡ desk.history → other.acked ≡ desk.acked → other.version ≡ desk.version
      → IsLogSide honest state old.log (log_of other) (other_log other other.doubt) other.stopped
      → IsPageSide honest state pool (now desk.history).pages other.pages other.loose other.dirty → pool.file.blocks ≡ old.pool.file.blocks → (honest pool.file.disk → honest old.pool.file.disk)
      → other.stopped ≡ is_some stop → ((page : ℕ) → other.dirty page ≡ true → desk.dirty page ≡ true)
      → IsDesk honest state (record { log = old.log; pool = pool; queue = old.queue; base = old.base; stop = stop; passed = old.passed }) other
  desk_paged other pool stop history acked version side pages blocks back stops less =
      let same : pending_of desk ≡ pending_of other = ap (λ (n : ℕ). drop n (captures desk.history)) (sym acked) ∙ ap (λ (h : History). drop other.acked (captures h)) (sym history) in
      record {
        log = side;
        version = is.version ∙ sym version;
        pages = subst (λ (h : History). IsPageSide honest state pool (now h).pages other.pages other.loose other.dirty) (sym history) pages;
        whole = blocks ∙ is.whole ∙ ap (λ (h : History). (now h).base.page_count) (sym history);
        first = is.first ∙ sym acked;
        pending = is.pending ∙ ap pages_of same;
        bytes = λ told. is.bytes (back told) ∙ same;
        base = is.base ∙ ap (λ (h : History). (now h).base) (sym history);
        fits = subst (λ (v : Version). BaseFits v old.base) (sym version) is.fits;
        stopped = stops;
        passed = passed_as old.passed desk other is.passed acked (sym same) less;
      }

  stopped_side : (other : Option Log) → IsLogSide honest state old.log (log_of desk) (other_log desk desk.doubt) desk.stopped → other ≡ other_log desk desk.doubt → IsLogSide honest state old.log (log_of desk) other true
  stopped_side other side same = record {
    going = λ on. absurd (both_ways true on refl);
    keeps = λ told on. absurd (both_ways true on refl);
    images = λ told image at. subst (λ (o : Option Log). ListsOneOf (log_of desk) o image) (sym same) (side.images told image at);
  }

  pub desk_written : (pool : Pool D) (page need : ℕ) → IsPageSide honest state pool (now desk.history).pages (written_desk desk page need).pages (written_desk desk page need).loose (written_desk desk page need).dirty
      → pool.file.blocks ≡ old.pool.file.blocks → (honest pool.file.disk → honest old.pool.file.disk) → IsDesk honest state (record { log = old.log; pool = pool; queue = old.queue; base = old.base; stop = old.stop; passed = old.passed }) (written_desk desk page need)
  desk_written pool page need pages blocks back = desk_paged (written_desk desk page need) pool old.stop refl refl refl is.log pages blocks back is.stopped (λ other dirty. still_dirty desk page other dirty)

  pub desk_write_failed : (pool : Pool D) (stop : Option Stop) (page need : ℕ) (left : List ℕ) → IsPageSide honest state pool (now desk.history).pages (write_failed desk page need left).pages (write_failed desk page need left).loose desk.dirty
      → pool.file.blocks ≡ old.pool.file.blocks → (honest pool.file.disk → honest old.pool.file.disk) → is_some stop ≡ true
      → IsDesk honest state (record { log = old.log; pool = pool; queue = old.queue; base = old.base; stop = stop; passed = old.passed }) (write_failed desk page need left)
  desk_write_failed pool stop page need left pages blocks back stops =
      desk_paged (write_failed desk page need left) pool stop refl refl refl (stopped_side (other_log (write_failed desk page need left) desk.doubt) is.log refl) pages blocks back (sym stops) (λ page dirty. dirty)

  pub desk_settled : (pool : Pool D) → IsPageSide honest state pool (now desk.history).pages desk.pages (λ page. false) desk.dirty → pool.file.blocks ≡ old.pool.file.blocks → (honest pool.file.disk → honest old.pool.file.disk)
      → IsDesk honest state (record { log = old.log; pool = pool; queue = old.queue; base = old.base; stop = old.stop; passed = old.passed }) (settled desk)
  desk_settled pool pages blocks back = desk_paged (settled desk) pool old.stop refl refl refl is.log pages blocks back is.stopped (λ page dirty. dirty)

  pub desk_stopped : (pool : Pool D) (stop : Option Stop) → IsPageSide honest state pool (now desk.history).pages desk.pages desk.loose desk.dirty → pool.file.blocks ≡ old.pool.file.blocks → (honest pool.file.disk → honest old.pool.file.disk)
      → is_some stop ≡ true → IsDesk honest state (record { log = old.log; pool = pool; queue = old.queue; base = old.base; stop = stop; passed = old.passed }) (stopped desk)
  desk_stopped pool stop pages blocks back stops =
      desk_paged (stopped desk) pool stop refl refl refl (stopped_side (other_log (stopped desk) desk.doubt) is.log refl) pages blocks back (sym stops) (λ page dirty. dirty)

  -- ---- behind an acknowledgement, and behind a cut

  pub desk_acked : (queue : Pending) (number : ℕ) → queue ≡ record { first = max old.queue.first number; images = drop (number - old.queue.first) old.queue.images }
      → IsDesk honest state (record { log = old.log; pool = old.pool; queue = queue; base = old.base; stop = old.stop; passed = old.passed }) (acked_to desk number)
  desk_acked queue number same =
      let gone : drop (number - desk.acked) (pending_of desk) ≡ pending_of (acked_to desk number) = drop-to desk.acked (number - desk.acked) (max desk.acked number) (captures desk.history) (omega arith) in
      record {
        log = is.log;
        version = is.version;
        pages = is.pages;
        whole = is.whole;
        first = ap (λ (q : Pending). q.first) same ∙ ap (λ (n : ℕ). max n number) is.first;
        pending = ap (λ (q : Pending). pages_of q.images) same ∙ pages_of-drop (number - old.queue.first) old.queue.images
            ∙ ap (λ (n : ℕ). drop (number - n) (pages_of old.queue.images)) is.first ∙ ap (λ (l : List ℕ). drop (number - desk.acked) l) is.pending
            ∙ sym (pages_of-drop (number - desk.acked) (pending_of desk)) ∙ ap pages_of gone;
        bytes = λ told. ap (λ (q : Pending). q.images) same ∙ ap (λ (n : ℕ). drop (number - n) old.queue.images) is.first ∙ ap (λ (l : List PageImage). drop (number - desk.acked) l) (is.bytes told) ∙ gone;
        base = is.base;
        fits = is.fits;
        stopped = is.stopped;
        passed = passed_acked old.passed desk number is.passed;
      }

  pub desk_cut : (log : LogSide D) → IsLogSide honest state log (log_of (cut desk)) (other_log (cut desk) desk.doubt) false → desk.stopped ≡ false → log.log.version ≡ old.log.log.version
      → IsDesk honest state (record { log = log; pool = old.pool; queue = old.queue; base = old.base; stop = old.stop; passed = old.passed }) (cut desk)
  desk_cut log side goes version = record {
    log = subst (λ (b : Bool). IsLogSide honest state log (log_of (cut desk)) (other_log (cut desk) desk.doubt) b) (sym goes) side;
    version = version ∙ is.version;
    pages = is.pages;
    whole = is.whole;
    first = is.first;
    pending = is.pending;
    bytes = is.bytes;
    base = is.base;
    fits = is.fits;
    stopped = is.stopped;
    passed = passed_as old.passed desk (cut desk) is.passed refl refl (λ page dirty. dirty);
  }

  pub desk_cut_failed : (log : LogSide D) (stop : Option Stop) → IsLogSide honest state log (log_of desk) (other_log (cut_failed desk) (NewBase desk.version)) true → log.log.version ≡ old.log.log.version → is_some stop ≡ true
      → IsDesk honest state (record { log = log; pool = old.pool; queue = old.queue; base = old.base; stop = stop; passed = old.passed }) (cut_failed desk)
  desk_cut_failed log stop side version stops = record {
    log = side;
    version = version ∙ is.version;
    pages = is.pages;
    whole = is.whole;
    first = is.first;
    pending = is.pending;
    bytes = is.bytes;
    base = is.base;
    fits = is.fits;
    stopped = sym stops;
    passed = passed_as old.passed desk (cut_failed desk) is.passed refl refl (λ page dirty. dirty);
  }

-- the desk with another place behind which pages may be written
pub desk_passed : {D : Type 0} (honest : D → Type 0) (state : D → State) (running : RunningDesk D) (desk : Desk) (passed : Passed) → IsDesk honest state running desk → HasPassed passed desk → IsDesk honest state (record running { passed = passed }) desk
desk_passed honest state running desk passed is has = record {
  log = is.log;
  version = is.version;
  pages = is.pages;
  whole = is.whole;
  first = is.first;
  pending = is.pending;
  bytes = is.bytes;
  base = is.base;
  fits = is.fits;
  stopped = is.stopped;
  passed = has;
}

-- ---- while a device is as it was

-- a desk that goes on is in no doubt
calm : (desk : Desk) (doubt : Doubt) → desk.stopped ≡ false → DoubtFits desk doubt → other_log desk doubt ≡ None
calm desk Sure goes f = refl
calm desk (OneMore change) goes f = absurd (both_ways desk.stopped goes f.1)
calm desk (NewBase version) goes f = absurd (both_ways desk.stopped goes f.2)

-- what lists a log surely lists that or another
surely : (sure : Log) (other : Option Log) (bytes : List ℕ) → ListsOneOf sure None bytes → ListsOneOf sure other bytes
surely sure other bytes lists = record {
  log = lists.log;
  may = elim lists.may [ inl same ↦ inl same | inr never ↦ absurd cc ];
  lists = lists.lists;
}

module _ {D : Type 0} (honest : D → Type 0) (remembers : Type 0) (state : D → State) (clock : D → Clock) (old : RunningDesk D) (desk : Desk) (is : IsDesk honest state old desk) (f : DeskFits desk) where
  -- each image of the log's device lists the log, whatever other there may be
  pub log_rests : (other : Option Log) → desk.stopped ≡ false → honest old.log.disk → ((image : List ℕ) → (clock old.log.disk).left_since (clock old.log.disk).moment image → IsImage (state old.log.disk) image)
      → LeavesOnly remembers (clock old.log.disk) (clock old.log.disk) (ListsOneOf (log_of desk) other)
  log_rests other goes told only =
      started remembers (clock old.log.disk) (ListsOneOf (log_of desk) other)
      (λ image left. surely (log_of desk) other image (subst (λ (o : Option Log). ListsOneOf (log_of desk) o image) (calm desk desk.doubt goes f.doubt) (is.log.images told image (only image left))))

-- ---- refusals

pub is_none : {X : Type 0} (o : Option X) → ((x : X) → o ≡ Some x → ⊥) → o ≡ None
is_none None not = refl
is_none (Some x) not = absurd (not x refl)

pub going : (stop : Option Stop) (stopped : Bool) → stopped ≡ is_some stop → stop ≡ None → stopped ≡ false
going stop stopped is none = is ∙ ap (λ (o : Option Stop). is_some o) none

-- the side of a log that goes on
pub on_side : {D : Type 0} (honest : D → Type 0) (state : D → State) (old : RunningDesk D) (desk : Desk) → IsDesk honest state old desk → desk.stopped ≡ false → IsLogSide honest state old.log (log_of desk) (other_log desk desk.doubt) false
on_side honest state old desk is goes = subst (λ (b : Bool). IsLogSide honest state old.log (log_of desk) (other_log desk desk.doubt) b) goes is.log

pub no_fault : {D : Type 0} (honest : D → Type 0) (state : D → State) (old : RunningDesk D) → IsWhole honest state old → ((stop : Stop) → old.stop ≡ Some stop → ⊥) → old.log.log.area.fault ≡ None
no_fault honest state old whole none = whole.is.log.going (going old.stop whole.desk.stopped whole.is.stopped (is_none old.stop none))

pub stops_behind : (stop : Option Stop) (why : Refusal) → IsDiskFault why → is_some (stop_behind stop why) ≡ true
stops_behind stop (DiskFault device count) is = refl
stops_behind stop other is = absurd is

pub no_stop : (stop : Option Stop) (why : Refusal) → (IsDiskFault why → ⊥) → stop_behind stop why ≡ stop
no_stop stop (DiskFault device count) none = absurd (none tt)
no_stop stop other none = refl

-- the log's own refusal is the desk's, where neither has stopped
pub change_refused : (area : Area) (stop : Option Stop) (count before now : ℕ) (why : Refusal) → area.fault ≡ None → stop ≡ None
    → IsAreaRefusal area (IsAppendRefusal area.log count before now) before now why → IsWriteRefusal stop (IsChangeRefusal area.log count before now) why
change_refused area stop count before now (Stopped device number) fault none h = absurd (let e : None ≡ Some number = sym fault ∙ h.1 in cc)
change_refused area stop count before now OutOfMemory fault none h = absurd h.1.1
change_refused area stop count before now other fault none h = (none, h.1)

-- the queue without what was added
pub taken_back : (queue added kept : Pending) (more : List PageImage) (count : ℕ) → count ≡ length queue.images → added ≡ record { first = queue.first; images = queue.images ++ more } → kept ≡ record { first = added.first; images = take count added.images } → kept ≡ queue
taken_back queue added kept more count is e f =
    f ∙ ap (λ (q : Pending). let r : Pending = record { first = q.first; images = take count q.images } in r) e
    ∙ ap (λ (l : List PageImage). let r : Pending = record { first = queue.first; images = l } in r)
    (ap (λ (n : ℕ). take n (queue.images ++ more)) is ∙ take-append-le (length queue.images) queue.images more (omega arith) ∙ take_whole queue.images)
  where
    take_whole : (l : List PageImage) → take (length l) l ≡ l
    take_whole [] = refl
    take_whole (x ∷ l) = ap (λ (r : List PageImage). x ∷ r) (take_whole l)

-- the same log, queue and stop make the same desk
pub desk_same : {D : Type 0} (desk : RunningDesk D) (log : LogSide D) (queue : Pending) (stop : Option Stop) → log ≡ desk.log → queue ≡ desk.queue → stop ≡ desk.stop
    → (let r : RunningDesk D = record { log = log; pool = desk.pool; queue = queue; base = desk.base; stop = stop; passed = desk.passed } in r) ≡ desk
desk_same {D = D} desk log queue stop a b e =
    ap (λ (l : LogSide D). let r : RunningDesk D = record { log = l; pool = desk.pool; queue = queue; base = desk.base; stop = stop; passed = desk.passed } in r) a
    ∙ ap (λ (q : Pending). let r : RunningDesk D = record { log = desk.log; pool = desk.pool; queue = q; base = desk.base; stop = stop; passed = desk.passed } in r) b
    ∙ ap (λ (o : Option Stop). let r : RunningDesk D = record { log = desk.log; pool = desk.pool; queue = desk.queue; base = desk.base; stop = o; passed = desk.passed } in r) e

-- ---- there is a number for each capture

captured_room : (base : Base) (change : Change) (captures : List PageImage) → IsBase base → IsRight base change → pages_of captures ≡ pages_of (capturing base (writes_of change)) → base.captures + length captures ≤ MAX_CAPTURES
captured_room base (Commit label writes) captures is right same =
    omega (arith, right.2.total, ap (λ (l : List ℕ). length l) same, pages_of-length captures)
captured_room base (Drop below) captures is right same =
    omega (arith, is.limits.total, ap (λ (l : List ℕ). length l) same, pages_of-length captures)

pub queue_room : {D : Type 0} (honest : D → Type 0) (state : D → State) (old : RunningDesk D) (change : Change) (captures : List PageImage) → IsWhole honest state old → IsRight old.base change
    → pages_of captures ≡ pages_of (capturing old.base (writes_of change)) → old.queue.first + length old.queue.images + length captures ≤ MAX_CAPTURES
queue_room honest state old change captures whole right same =
    omega (arith, captured_room old.base change captures (subst IsBase (sym whole.is.base) whole.fits.history.right) right same, counted honest state old whole.desk whole.is whole.fits)

-- ---- an entry that is a change

pub entry_right : (base : Base) (entry : Entry) (change : Change) → entry ≡ entries.Change change → IsRightChange base entry → IsRight base change
entry_right base entry change is right = subst (IsRightChange base) is right

pub same_change : (change other : Change) → entries.Change change ≡ entries.Change other → change ≡ other
same_change change other same = cc

pub at_change : (change other : Change) (desk : Desk) → entries.Change change ≡ entries.Change other → MayFollow (now desk.history).base other → MayFollow (now desk.history).base change
at_change change other desk same may = subst (MayFollow (now desk.history).base) (sym (same_change change other same)) may
