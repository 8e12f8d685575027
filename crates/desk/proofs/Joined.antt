-- What belongs together, and the desk that it opens to.
use Rattle.std.proofs.Common.{◌≡◌, ◌∙◌, ◌≤◌, ◌+◌, ◌-◌, ℕ, false, List, [], ◌∷◌, length, drop, refl, sym, ap, subst, arith, length-drop}
use Rattle.std.specs.Prelude.{None, Result, Ok, Err, IfOk, MatchResult}
use Rattle.std.proofs.lemmas.List.{drop_at}
use Rattle.disk_model.specs.Disk.{State}
use Rattle.retro_base.specs.declared.device.Device.TheVariants as kinds
use Rattle.retro_base.specs.declared.limits.TheConstants.{LOG_REGION_BYTES, MAX_CAPTURES}
use Rattle.retro_base.specs.declared.refusal.Refusal.{Refusal}
use Rattle.retro_base.specs.declared.refusal.Refusal.TheVariants.{NotAStore, OutOfMemory}
use Rattle.area_log.specs.Listed.{DeviceStandsFor}
use Rattle.block_file.specs.Blocks.{block_at}
use Rattle.copy_queue.specs.Pending.{Pending}
use Rattle.history.specs.declared.entry.Base.{Base}
use Rattle.history.specs.declared.entry.Change.{Change}
use Rattle.history.specs.declared.entry.Change.TheVariants.{Commit, Drop}
use Rattle.history.specs.declared.log.Log.{Log}
use Rattle.history.specs.declared.log.Version.{Version}
use Rattle.history.specs.History.{State as Place, base_after, bases_after, captures_of, now, run}
use Rattle.history.specs.Right.{AreRight, IsBase, WritesRise}
use Rattle.history.specs.Writes.{pages_of}
use Rattle.history.proofs.BaseStays.{stays_right}
use Rattle.history.proofs.Captures.{run-base}
use Rattle.page_pool.specs.Cause.{IsHoldRefusal}
use Rattle.page_pool.specs.Side.{held, Pool}
use Rattle.race_model.specs.Desk.{Desk}
use Rattle.race_model.specs.Fits.{DeskFits}
use Rattle.race_model.specs.Reopened.{opened_desk}
use Rattle.race_model.proofs.Histories.{run_count}
use Rattle.race_model.proofs.Lists.{pages_of-length}
use Rattle.race_model.proofs.Reopens.{opened_fits, read_fits}
use Rattle.records.specs.Entries.{BaseFits, ChangeFits}
use Rattle.records.specs.InTurn.{InTurn}
use Rattle.records.specs.Log.{IsChangeBody, IsLog}
use Rattle.records.proofs.Logs.{in_turn_right}
use Rattle.redo_log.proofs.Staying.{fitting_bases_stay}
use Rattle.redo_log.specs.Side.{IsLogSide, LogSide}
use Rattle.replay.specs.Joined.{AreJoined, HoldsBase, HoldsChanges}
use Rattle.replay.specs.Opened.{Contents, opened}
use Rattle.replay.proofs.Belonging.{held_long}
use Rattle.skippy.specs.Mappings.{Mappings, end_of}
use Rattle.desk.specs.declared.desk.RunningDesk.{RunningDesk}
use Rattle.desk.specs.declared.fetch.Redone.{Redone}
use Rattle.desk.specs.declared.fetch.Unopened.{Unopened}
use Rattle.desk.specs.Desk.{IsDesk, IsWhole, pending_of}
use Rattle.desk.specs.Fetched.{contents_of, FetchesDesk, IsMemoryOf, IsPagesRefusal, IsReadable, IsRedone, IsSizeRefusal}
use Rattle.desk.proofs.Sent.{count_stays}

-- ---- a log that bodies stand for

pub readable_right : (list : Log) → IsReadable list → AreRight list.base list.changes
readable_right list read = go read.bodies read.stands where
  go : (bodies : List (List ℕ)) → IsLog list.version bodies list → AreRight list.base list.changes
  go [] is = absurd is
  go (body ∷ bodies) is = in_turn_right list.version list.base bodies list.changes is.2

pub rises_of : (version : Version) (change : Change) → ChangeFits version change → WritesRise change
rises_of version (Commit label writes) fits = fits.2
rises_of version (Drop below) fits = tt

fits_all : (changes : List Change) (version : Version) (base : Base) (bodies : List (List ℕ)) → BaseFits version base → IsBase base → InTurn (IsChangeBody version) base_after base bodies changes → BaseFits version (bases_after base changes)
fits_all [] version base bodies fits right are = fits
fits_all (change ∷ changes) version base [] fits right are = absurd are
fits_all (change ∷ changes) version base (body ∷ bodies) fits right are =
    let rises : WritesRise change = rises_of version change are.0.fits in
    fits_all changes version (base_after base change) bodies (fitting_bases_stay version base change right fits are.0.fits are.0.right) (stays_right base change right rises are.0.right) are.1

pub readable_fits : (list : Log) → IsReadable list → BaseFits list.version (bases_after list.base list.changes)
readable_fits list read = go read.bodies read.stands where
  go : (bodies : List (List ℕ)) → IsLog list.version bodies list → BaseFits list.version (bases_after list.base list.changes)
  go [] is = absurd is
  go (body ∷ bodies) is = fits_all list.changes list.version list.base bodies is.1.fits is.1.right is.2

pub of_store : (list : Log) (bytes : List ℕ) (mappings : Mappings) (slots : ℕ → List ℕ) → IsReadable list → AreJoined (contents_of list bytes mappings slots) → DeskFits (opened_desk (contents_of list bytes mappings slots))
of_store list bytes mappings slots read joined =
    let contents : Contents = contents_of list bytes mappings slots in
    (opened_fits list.version contents (read_fits list.version read.bodies contents read.stands joined)).desk

-- ---- what belongs together

module _ {D : Type 0} (honest : D → Type 0) (state : D → State) (list : Log) (bytes : List ℕ) (mappings : Mappings) (slots : ℕ → List ℕ) (redone : Redone) (pool : Pool D) where
  abbrev origin : Place
  origin = record { base = list.base; pages = block_at bytes }

  abbrev contents : Contents
  contents = contents_of list bytes mappings slots

  module _ (is : IsRedone honest state redone pool origin (end_of mappings) list.changes) where
    pub captured_count : redone.base.captures ≡ list.base.captures + length redone.captured.items
    captured_count =
        ap (λ (b : Base). b.captures) is.base ∙ run_count origin list.changes
        ∙ ap (λ (n : ℕ). list.base.captures + n) (sym (pages_of-length (captures_of origin list.changes)) ∙ ap (λ (l : List ℕ). length l) (sym is.captured))

    pub not_joined : (HoldsChanges list.base.captures redone.base redone.captured.items mappings → ⊥) → AreJoined contents → ⊥
    not_joined not joined =
        not (subst (λ (b : Base). HoldsChanges list.base.captures b redone.captured.items mappings) (sym is.base) (subst (λ (l : List ℕ). HoldsChanges list.base.captures (run origin list.changes).base l mappings) (sym is.captured) joined.holds_changes))

    pub are_joined : HoldsBase list.base mappings → HoldsChanges list.base.captures redone.base redone.captured.items mappings → AreJoined contents
    are_joined base changes = record {
      holds_base = base;
      holds_changes = subst (λ (b : Base). HoldsChanges list.base.captures b (pages_of (captures_of origin list.changes)) mappings) is.base (subst (λ (l : List ℕ). HoldsChanges list.base.captures redone.base l mappings) is.captured changes);
    }

    -- there is a number for each pending capture
    pub pending_room : IsReadable list → AreJoined contents → end_of mappings + length redone.pending.items ≤ MAX_CAPTURES
    pending_room read joined =
        omega (
          arith,
          (of_store list bytes mappings slots read joined).history.right.limits.total,
          joined.holds_changes.known,
          joined.holds_base.counted,
          run_count origin list.changes,
          sym (pages_of-length redone.pending.items) ∙ ap (λ (l : List ℕ). length l) is.pending ∙ pages_of-length (drop (end_of mappings - list.base.captures) (captures_of origin list.changes)),
          length-drop (end_of mappings - list.base.captures) (captures_of origin list.changes),
        )

    pending_is : drop (end_of mappings - list.base.captures) (captures_of origin list.changes) ≡ pending_of (opened_desk contents)
    pending_is = ap (λ (n : ℕ). drop (n - list.base.captures) (captures_of origin list.changes)) (sym (held_long contents)) ∙ sym (drop_at (opened contents).held (drop (length (opened contents).held - list.base.captures) (captures_of origin list.changes)) (end_of mappings) (held_long contents))

    pub memory_of : (queue : Pending) → AreJoined contents → pool.file.blocks ≡ list.base.page_count → ((page : ℕ) → held pool page ≡ false) → queue ≡ record { first = end_of mappings; images = redone.pending.items }
        → IsMemoryOf honest state contents pool redone.base queue
    memory_of queue joined whole free same = record {
      joined = joined;
      side = is.side;
      whole = whole ∙ sym (count_stays list.changes list.base) ∙ ap (λ (b : Base). b.page_count) (sym (run-base origin list.changes));
      base = is.base;
      first = ap (λ (q : Pending). q.first) same;
      pending = ap (λ (q : Pending). pages_of q.images) same ∙ is.pending ∙ ap pages_of pending_is;
      bytes = λ told. ap (λ (q : Pending). q.images) same ∙ is.bytes told ∙ pending_is;
      free = free;
    }

pub redone_as : {D : Type 0} (honest : D → Type 0) (state : D → State) (redone : Redone) (pool : Pool D) (place : Place) (n m : ℕ) (changes others : List Change) → n ≡ m → changes ≡ others → IsRedone honest state redone pool place n changes → IsRedone honest state redone pool place m others
redone_as honest state redone pool place n m changes others a b is =
    subst (λ (k : ℕ). IsRedone honest state redone pool place k others) a (subst (λ (l : List Change). IsRedone honest state redone pool place n l) b is)

-- ---- the desk that it is

pub desk_of : {D : Type 0} (honest : D → Type 0) (state : D → State) (log : LogSide D) (list : Log) (bytes : List ℕ) (mappings : Mappings) (slots : ℕ → List ℕ) (pool : Pool D) (base : Base) (queue : Pending) → IsReadable list → log.log.version ≡ list.version
    → IsLogSide honest state log list None false → IsMemoryOf honest state (contents_of list bytes mappings slots) pool base queue
    → IsDesk honest state (record { log = log; pool = pool; queue = queue; base = base; stop = None; passed = record { page = 0; first = 0 } }) (opened_desk (contents_of list bytes mappings slots))
desk_of honest state log list bytes mappings slots pool base queue read version side m = record {
  log = side;
  version = version;
  pages = m.side;
  whole = m.whole;
  first = m.first;
  pending = m.pending;
  bytes = m.bytes;
  base = m.base;
  fits = subst (BaseFits list.version) (sym (m.base ∙ run-base (record { base = list.base; pages = block_at bytes }) list.changes)) (readable_fits list read);
  stopped = refl;
  passed = record { known = omega arith; waits = λ e page lt dirty. absurd (omega (arith, lt)) };
}

pub fetches : {D : Type 0} (honest : D → Type 0) (state : D → State) (version : Version) (log pages : D) (mappings : Mappings) (list : Log) (r : Result (RunningDesk D) (Unopened D)) → (honest log → DeviceStandsFor LOG_REGION_BYTES (IsLog version) (state log).seen list)
    → ((slots : ℕ → List ℕ) → IfOk r (λ desk. IsDesk honest state desk (opened_desk (contents_of list (state pages).seen mappings slots)) × DeskFits (opened_desk (contents_of list (state pages).seen mappings slots))
    × AreJoined (contents_of list (state pages).seen mappings slots)))
    → IfOk r (λ desk. (page : ℕ) → held desk.pool page ≡ false) → IfOk r (FetchesDesk honest state version log pages mappings)
fetches honest state version log pages mappings list (Ok desk) lists is free = record { list = list; lists = lists; joined = λ slots. (is slots).2; is = λ slots. (is slots).0; fits = λ slots. (is slots).1; free = free }
fetches honest state version log pages mappings list (Err e) lists is free = tt

pub whole_of : {D : Type 0} (honest : D → Type 0) (state : D → State) (r : Result (RunningDesk D) (Unopened D)) (desk : Desk) (Joined : Type 0) → IfOk r (λ running. IsDesk honest state running desk × DeskFits desk × Joined) → IfOk r (IsWhole honest state)
whole_of honest state (Ok running) desk Joined is = record { desk = desk; is = is.0; fits = is.1 }
whole_of honest state (Err e) desk Joined is = tt

-- ---- refusals

pub size_refused : (list : Log) (extent : ℕ) (bytes : List ℕ) (mappings : Mappings) (end before now : ℕ) (why : Refusal) → IsSizeRefusal list.base.page_count extent before now why → IsPagesRefusal list extent bytes mappings end before now why
size_refused list extent bytes mappings end before now OutOfMemory is = is
size_refused list extent bytes mappings end before now (NotAStore kinds.Pages place) is = is
size_refused list extent bytes mappings end before now (NotAStore kinds.Maplog place) is = absurd is
size_refused list extent bytes mappings end before now other is = is

pub hold_refused : (list : Log) (extent : ℕ) (bytes : List ℕ) (mappings : Mappings) (end before now : ℕ) (why : Refusal) → IsHoldRefusal before now why → IsPagesRefusal list extent bytes mappings end before now why
hold_refused list extent bytes mappings end before now OutOfMemory is = is
hold_refused list extent bytes mappings end before now (NotAStore which place) is = absurd is
hold_refused list extent bytes mappings end before now other is = is

pub match_on : {T E : Type 0} (r : Result T E) (P Q : T → Type 0) (F G : E → Type 0) → ((x : T) → P x → Q x) → ((e : E) → F e → G e) → MatchResult r P F → MatchResult r Q G
match_on (Ok x) P Q F G good bad h = good x h
match_on (Err e) P Q F G good bad h = bad e h

pub match_two : {T E : Type 0} (r : Result T E) (P Q R : T → Type 0) (F G H : E → Type 0) → ((x : T) → P x → Q x → R x) → ((e : E) → F e → G e → H e) → MatchResult r P F → MatchResult r Q G → MatchResult r R H
match_two (Ok x) P Q R F G H good bad h k = good x h k
match_two (Err e) P Q R F G H good bad h k = bad e h k
