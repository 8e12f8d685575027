-- What reads and edits give.
use Rattle.std.proofs.Common.{◌≡◌, ◌≤◌, ◌<◌, ◌+◌, ◌⊎◌, ◌++◌, ◌||◌, ◌&&◌, ◌∙◌, ℕ, Bool, true, false, cond, eqb, ltb, not, List, [], ◌∷◌, drop, length, take, Option, Some, None, IfSome, Result, Ok, Err, refl, sym, ap, subst, inl, inr, arith, append-nil, eq-eqb}
use Rattle.std.specs.Prelude.{IfErr, OnOk, MatchResult, nat_le, option_map}
use Rattle.std.specs.Option.{option_or}
use Rattle.std.specs.BTreeSet.{insert_key}
use Rattle.std.proofs.Common.{Equal, Greater, Less}
use Rattle.std.specs.Ordering.{match_ordering, nat_cmp}
use Rattle.std.proofs.lemmas.Bool.{eqb-true, leb-true}
use Rattle.std.proofs.lemmas.List.{drop-append-le, length-drop, take-append-le}
use Rattle.atomic_table.specs.Seated.{TableId}
use Rattle.block_file.specs.Blocks.{block_at}
use Rattle.disk_model.specs.Disk.{State}
use Rattle.disk_model.specs.Moments.{Clock}
use Rattle.redo_log.specs.Cause.{IsMemoryOrFault}
use Rattle.retro_base.specs.declared.device.Device.{Device}
use Rattle.retro_base.specs.declared.device.Device.TheVariants.{Pages as PagesDevice}
use Rattle.retro_base.specs.declared.limits.TheConstants.{EDITED_PAGES}
use Rattle.retro_base.specs.declared.refusal.Refusal.{Refusal}
use Rattle.retro_base.specs.declared.refusal.Refusal.TheVariants as refusal
use Rattle.retro_base.specs.declared.who.Who.{Who}
use Rattle.history.specs.declared.journal.Line.{Line}
use Rattle.history.specs.declared.journal.What.TheVariants.{Began}
use Rattle.history.specs.History.{History, now, written}
use Rattle.history.specs.Journal.{after_journal}
use Rattle.history.specs.Lines.{changed_since, lines_of}
use Rattle.history.specs.Writes.{is_among, pages_of}
use Rattle.history.proofs.Captures.{with_changes-none}
use Rattle.history.proofs.Journals.{journal_pages}
use Rattle.journal_book.specs.declared.work.Transaction.{Transaction}
use Rattle.journal_book.specs.declared.work.Work.{Work}
use Rattle.journal_book.specs.declared.work.Work.TheVariants as work
use Rattle.journal_book.specs.Works.{editing, keeping_refusal, latch_holder, own_edit, reading, who_of, with_edit, work_at}
use Rattle.journal_law.specs.Lawful.{IsOverlapBy}
use Rattle.journal_law.specs.Own.{line}
use Rattle.journal_law.specs.Pages.{Pages, page_world}
use Rattle.journal_law.specs.Seats as seat
use Rattle.journal_law.specs.Seats.{AlsoReads, EditGives, IsNew, ReadGives, View, Waits}
use Rattle.page_pool.specs.declared.frames.Frame.{Frame}
use Rattle.page_pool.specs.Frames.{frame_at, is_dirty_in}
use Rattle.race_model.specs.Desk.{Desk}
use Rattle.store_core.specs.declared.desk_core.Core.{Core}
use Rattle.store_core.specs.Core.{IsCore}
use Rattle.txn_set.specs.declared.ledger.Ledger.{Ledger}
use Rattle.txn_set.specs.Ledger.{is_kept, kept_behind, with_open}
use Rattle.txn_set.specs.Refused.{edit_refused, overlap, read_refused, too_many, where_so}
use Rattle.txn_set.specs.WorksFit.{MayKeep, TransactionFits}
use Rattle.turn.specs.Seats.{mine, opening, seen}
use Rattle.store.specs.declared.desk_side.DeskSide.{DeskSide}
use Rattle.store.specs.declared.start.Start.{Start}
use Rattle.store.specs.Calls.{EditDoes, ReadDoes}
use Rattle.store.specs.Seats.{IsReady, Sat, Visited, journal, slots_of}
use Rattle.store.specs.Start.{AreJustOpened, IsOpenedTo, Origin, opened_base, opened_counts}
use Rattle.store.proofs.Adding.{slot_own}
use Rattle.store.proofs.Finding.{above_so, some_is}
use Rattle.store.proofs.Trying.{kept_who}
use Rattle.journal_law.specs.declared.seat.ToldFault.{ToldFault}
use Rattle.store.specs.Ground.{framed, ground_of, pages_of_core, world_of}
use Rattle.store.specs.Seen.{HasBegun, IsHonest, IsSeated, ground_in, view_of}
use Rattle.store.proofs.Agreeing.{after_at, current_is, or_none, unchanged_agrees}
use Rattle.store.proofs.Coming.{Came, came, lines_append, open_same, still_told, there}
use Rattle.store.proofs.Edited.{also_edits, edit_found, edit_missing}
use Rattle.store.proofs.Gives.{waits}
use Rattle.store.proofs.Overlaps.{changed_overlaps, holder_overlaps}

-- ---- a transaction that has begun

pub begun_few : (lines : List Line) (session : ℕ) (t : Transaction) → HasBegun lines session t → t.began + 1 ≤ length lines
begun_few lines session t begun = let room = length-drop t.began lines in let one = ap length begun.here in omega (arith, room, one)

-- others' lines leave it so
pub begun_on : (lines others : List Line) (session : ℕ) (t : Transaction) → HasBegun lines session t → lines_of session others ≡ [] → HasBegun (lines ++ others) session t
begun_on lines others session t begun none =
    let few = begun_few lines session t begun in
    let next : drop (t.began + 1) (lines ++ others) ≡ drop (t.began + 1) lines ++ others = drop-append-le (t.began + 1) lines others few in
    record {
      here = drop-append-le t.began lines others (omega (arith, few)) ∙ (ap (λ (l : List Line). l ++ others) begun.here ∙ ap (λ (l : List Line). line t.who Began ∷ l) (sym next));
      last = ap (lines_of session) next ∙ (lines_append session (drop (t.began + 1) lines) others ∙ (ap (λ (l : List Line). l ++ lines_of session others) begun.last ∙ none));
    }

-- ---- pages read

or_true : (b : Bool) → (b || true) ≡ true
or_true true = refl
or_true false = refl

also_here : (page : ℕ) (keys : List ℕ) → is_among page (insert_key nat_cmp keys page) ≡ true
also_here page [] = ap (λ (b : Bool). b || false) (eq-eqb page page refl)
also_here page (x ∷ xs) = at (ltb page x) (eqb page x) refl (also_here page xs) where
  at : (less same : Bool) → eqb page x ≡ same → is_among page (insert_key nat_cmp xs page) ≡ true → is_among page (match_ordering (cond less Less (cond same Equal Greater)) (page ∷ x ∷ xs) (x ∷ xs) (x ∷ insert_key nat_cmp xs page)) ≡ true
  at true same e again = ap (λ (b : Bool). b || is_among page (x ∷ xs)) (eq-eqb page page refl)
  at false true e again = ap (λ (b : Bool). b || is_among page xs) (eq-eqb x page (sym (eqb-true page x e)))
  at false false e again = ap (λ (b : Bool). eqb x page || b) again ∙ or_true (eqb x page)

also_before : (page : ℕ) (keys : List ℕ) (other : ℕ) → is_among other keys ≡ true → is_among other (insert_key nat_cmp keys page) ≡ true
also_before page [] other e = absurd (cc e)
also_before page (x ∷ xs) other e = at (ltb page x) (eqb page x) (also_before page xs other) where
  at : (less same : Bool) → (is_among other xs ≡ true → is_among other (insert_key nat_cmp xs page) ≡ true) → is_among other (match_ordering (cond less Less (cond same Equal Greater)) (page ∷ x ∷ xs) (x ∷ xs) (x ∷ insert_key nat_cmp xs page)) ≡ true
  at true same again = ap (λ (b : Bool). eqb page other || b) e ∙ or_true (eqb page other)
  at false true again = e
  at false false again = later (eqb x other) e again where
    later : (here : Bool) → (here || is_among other xs) ≡ true → (is_among other xs ≡ true → is_among other (insert_key nat_cmp xs page) ≡ true) → (here || is_among other (insert_key nat_cmp xs page)) ≡ true
    later true f more = refl
    later false f more = more f

pub also_reads : (page : ℕ) (keys : List ℕ) → AlsoReads keys page (insert_key nat_cmp keys page)
also_reads page keys = record { here = also_here page keys; before = also_before page keys }

pub kept_began : (why : Refusal) (t : Transaction) → (kept_behind why t).began ≡ t.began
kept_began why t = at (is_kept why) where
  at : (test : Bool) → (cond test (keeping_refusal why t) t).began ≡ t.began
  at true = refl
  at false = refl

-- the page is one of the store's
pub page_in : {D : Type 0} (state : D → State) (faults : D → ℕ) (page : ℕ) (o : Option (Start D)) → page < (ground_in state faults o).base.page_count → IfSome o (λ start. page < (opened_base start).page_count)
page_in state faults page None lt = tt
page_in state faults page (Some start) lt = lt

-- ---- the pages at the opening

module _ {D : Type 0} (is_honest : D → Type 0) (state : D → State) where
  pub pages_are : (opening : History) (core : Core D) (plain : Desk) → IsCore is_honest state opening core plain → is_honest core.desk.pool.file.disk → (page : ℕ) → pages_of_core state core page ≡ (now plain.history).pages page
  pages_are opening core plain is honest page = at (frame_at core.desk.pool.frames page) refl where
    at : (frame : Option Frame) → frame_at core.desk.pool.frames page ≡ frame → framed (block_at (state core.desk.pool.file.disk).seen page) frame ≡ (now plain.history).pages page
    at (Some frame) e = subst (λ (f : Option Frame). IfSome f (λ x. x.bytes ≡ (now plain.history).pages page)) e ((is.is.pages.shows honest).frames page)
    at None e = (is.is.pages.reads honest).reads page ∙ is.is.pages.same honest page (sym (is.is.pages.marks page) ∙ ap is_dirty_in e)

  pub opened_pages : (start : Start D) (origin : Origin) → IsOpenedTo is_honest state start origin → start.core.value.ledger.book.lines ≡ [] → is_honest start.core.value.desk.pool.file.disk → (page : ℕ) → pages_of_core state start.core.value page ≡ (now origin.history).pages page
  opened_pages start origin op none honest page =
      pages_are origin.history start.core.value op.core.plain op.core.is honest page
      ∙ ap (λ (h : History). (now h).pages page) (op.core.is.journal ∙ (ap (after_journal origin.history) none ∙ with_changes-none origin.history))

module _ {D : Type 0} (is_honest : D → Type 0) (state : D → State) (faults : D → ℕ) (z : TableId) (s0 s1 : Sat D) (d0 d1 : DeskSide D) (ready : IsReady z s0) (v : Visited is_honest state faults z s0 s1 d0 d1) (who : Who) (asked : Option ℕ) (before : List ToldFault) (own : who.session ≡ s0.number)
    (t : Transaction) (is_open : (mine s0).work ≡ Some (work.Open t)) (of : t.who ≡ who) (begun : HasBegun (seen s0) s0.number t) where
  abbrev Old : View
  Old = view_of state faults asked before s0

  abbrev New : View
  New = view_of state faults asked before s1

  abbrev A : seat.Attempt
  A = record { who = t.who; since = take t.began (seen s0); read = t.reads.keys; edits = t.edits; kept = t.kept }

  open_there : work_at (slots_of d0) who.session ≡ Some (work.Open t)
  open_there = ap (work_at (slots_of d0)) own ∙ (sym v.work ∙ is_open)

  fits : TransactionFits d0.core.ledger.book.pages (journal d0) t
  fits = (v.stands.stands v.stands.origin v.stands.opened).is.ledger.works.each who.session (work.Open t) open_there

  begun_there : HasBegun (journal d0) t.who.session t
  begun_there = subst (λ (n : ℕ). HasBegun (journal d0) n t) (sym (ap (λ (w : Who). w.session) of ∙ own)) (subst (λ (l : List Line). HasBegun l s0.number t) v.place (begun_on (seen s0) v.others s0.number t begun v.apart))

  few : t.began ≤ length (seen s0)
  few = let f = begun_few (seen s0) s0.number t begun in omega (arith, f)

  since_stays : take t.began (seen s0 ++ v.others) ≡ take t.began (seen s0)
  since_stays = take-append-le t.began (seen s0) v.others few

  since_there : take t.began (journal d0) ≡ take t.began (seen s0)
  since_there = ap (take t.began) (sym v.place) ∙ since_stays

  -- the seat has seen what the desk kept
  front_is : journal d1 ≡ journal d0 → New.front ≡ journal d0
  front_is same = v.seen ∙ same

  came_open : (u : Transaction) → d1.core.ledger ≡ with_open who u d0.core.ledger → Came s0 s1 v.others [] (Some (work.Open u))
  came_open u e = came is_honest state faults z s0 s1 d0 d1 ready v [] (Some (work.Open u)) (ap (λ (l : Ledger). l.book.lines) e ∙ sym (append-nil (journal d0)))
      (there is_honest state faults z s0 s1 d0 d1 ready v who own (Some (work.Open u)) (with_open who u d0.core.ledger) e (slot_own (slots_of d0) who.session (Some (work.Open u))))

  -- what the seat keeps of it
  still_open : (u : Transaction) → u.who ≡ t.who → u.began ≡ t.began → d1.core.ledger ≡ with_open who u d0.core.ledger → IsSeated who asked before s0 → IsSeated who asked before s1
  still_open u same began e seated =
      let c = came_open u e in
      let lines : journal d1 ≡ journal d0 = ap (λ (l : Ledger). l.book.lines) e in
      record {
        item = λ w f. subst (λ (x : Work). who_of x ≡ who) (some_is (work.Open u) w (sym c.work_is ∙ f)) (same ∙ of);
        no_drop = λ other f. absurd (cc (f, c.work_is));
        begun = λ x f. subst (HasBegun (seen s1) s1.number) (open_same u x (sym c.work_is ∙ f)) (begun_after u same began lines);
        pins = λ start look o f. absurd (cc (f, c.work_is));
        quiet = λ f. absurd (cc (f, c.work_is));
        silent = λ x f. seated.silent t is_open;
        told_it = λ d k in_it. still_told is_honest state faults z s0 s1 d0 d1 ready v lines d k (seated.told_it d k in_it);
      }
    where
      begun_after : (u : Transaction) → u.who ≡ t.who → u.began ≡ t.began → journal d1 ≡ journal d0 → HasBegun (seen s1) s1.number u
      begun_after u same began lines =
          let here : HasBegun (seen s1) s1.number t = subst (λ (l : List Line). HasBegun l s1.number t) (sym (v.seen ∙ lines)) (subst (λ (n : ℕ). HasBegun (journal d0) n t) (ap (λ (w : Who). w.session) of ∙ (own ∙ sym v.same.number)) begun_there) in
          record {
            here = ap (λ (n : ℕ). drop n (seen s1)) began ∙ (here.here ∙ (λ i. line (sym same i) Began ∷ drop (sym began i + 1) (seen s1)));
            last = ap (λ (n : ℕ). lines_of s1.number (drop (n + 1) (seen s1))) began ∙ here.last;
          }

  -- its transaction is another one then, that began there too
  goes_on : (u : Transaction) → u.who ≡ t.who → u.began ≡ t.began → d1.core.ledger ≡ with_open who u d0.core.ledger → Waits Old New (seat.Open (record { who = t.who; since = take t.began (seen s0); read = u.reads.keys; edits = u.edits; kept = u.kept }))
  goes_on u same began e =
      let c = came_open u e in
      waits is_honest state faults z s0 s1 d0 d1 ready v who asked before (Some (work.Open u)) asked _ c
      (λ i. seat.Open (record { who = same i; since = (ap (λ (n : ℕ). take n (seen s0 ++ v.others)) began ∙ since_stays) i; read = u.reads.keys; edits = u.edits; kept = u.kept }))

  waits_kept : (why : Refusal) → d1.core.ledger ≡ with_open who (kept_behind why t) d0.core.ledger → Waits Old New (seat.Open (record A { kept = (kept_behind why t).kept }))
  waits_kept why = at (is_kept why) where
    Then : Bool → Transaction
    Then test = cond test (keeping_refusal why t) t

    at : (test : Bool) → d1.core.ledger ≡ with_open who (Then test) d0.core.ledger → Waits Old New (seat.Open (record A { kept = (Then test).kept }))
    at true e = goes_on (keeping_refusal why t) refl refl e
    at false e = goes_on t refl refl e

  -- why it is refused for the first time
  abbrev First : Refusal → Type 0
  First (refusal.Overlap session item) = IsOverlapBy t.who (journal d0) session item
  First (refusal.DiskFault d c) = IsNew New d c
  First refusal.OutOfMemory = Unit {0}
  First _ = ⊥

  abbrev Reason : Refusal → Type 0
  Reason why = (t.kept ≡ Some why) ⊎ First why

  lines_same : (u : Transaction) → d1.core.ledger ≡ with_open who u d0.core.ledger → journal d1 ≡ journal d0
  lines_same u e = ap (λ (l : Ledger). l.book.lines) e

  overlap_now : (u : Transaction) (session item : ℕ) → d1.core.ledger ≡ with_open who u d0.core.ledger → Reason (refusal.Overlap session item) → seat.IsKeptOrWhy New A (refusal.Overlap session item)
  overlap_now u session item e (inl k) = inl k
  overlap_now u session item e (inr o) = inr (subst (λ (l : List Line). IsOverlapBy t.who l session item) (sym (front_is (lines_same u e))) o)

  fault_now : (d : Device) (c : ℕ) → Reason (refusal.DiskFault d c) → seat.IsKeptOrWhy New A (refusal.DiskFault d c)
  fault_now d c (inl k) = inl k
  fault_now d c (inr n) = inr n

  never : (why : Refusal) → is_kept why ≡ false → t.kept ≡ Some why → ⊥
  never why not k = absurd (cc (not, subst MayKeep k fits.may_keep))

  pub read_err : (honest : Type 0) (page : ℕ) (out : List ℕ) (why : Refusal) → d1.core.ledger ≡ with_open who (kept_behind why t) d0.core.ledger → Reason why → ReadGives honest page out Old New A (Err why)
  read_err honest page out (refusal.Overlap session item) e r = (waits_kept (refusal.Overlap session item) e, overlap_now _ session item e r)
  read_err honest page out (refusal.DiskFault d c) e r = (waits_kept (refusal.DiskFault d c) e, fault_now d c r)
  read_err honest page out (refusal.TooManyPages needed) e (inl k) = (subst (λ (o : Option Refusal). Waits Old New (seat.Open (record A { kept = o }))) (sym k) (waits_kept (refusal.TooManyPages needed) e), k)
  read_err honest page out (refusal.TooManyPages needed) e (inr n) = absurd n
  read_err honest page out refusal.OutOfMemory e r = (waits_kept refusal.OutOfMemory e, refl)
  read_err honest page out why e (inl k) = absurd (never why refl k)
  read_err honest page out why e (inr n) = absurd n

  -- ---- why the desk refused

  new_fault : (why : Refusal) → IsMemoryOrFault PagesDevice (faults d0.core.desk.pool.file.disk) (faults d1.core.desk.pool.file.disk) why → First why
  new_fault refusal.OutOfMemory e = tt
  new_fault (refusal.DiskFault d c) e = λ less.
      let opened_is : New.opened ≡ ground_of state faults d0.start = ap (ground_in state faults) (v.same.opening ∙ v.opening) in
      let up = v.keeps.later PagesDevice in
      let lower : opened_counts faults d0.start PagesDevice < c = above_so (faults d0.start.core.value.desk.pool.file.disk) (faults d0.core.desk.pool.file.disk) (faults d1.core.desk.pool.file.disk) c up e.3 e.1 less in
      subst (λ (x : Device). New.opened.faults x < c) (sym e.0) (subst (λ g. g.faults PagesDevice < c) (sym opened_is) lower)
  new_fault _ e = absurd e

  kept_reason : (why because : Refusal) → why ≡ because → t.kept ≡ Some because → Reason why
  kept_reason why because same k = inl (k ∙ ap Some (sym same))

  changed_reason : (page : ℕ) (why : Refusal) (other : Who) → why ≡ overlap other → changed_since t.who page t.began (journal d0) ≡ Some other → Reason why
  changed_reason page why other same c = subst Reason (sym same) (inr (changed_overlaps (journal d0) t begun_there d0.core.ledger refl v.keeps.tried page other c))

  -- ---- read

  pages_then : (page : ℕ) → changed_since t.who page t.began (journal d0) ≡ None → (page_world (ground_in state faults (opening s0)).pages (journal d0)).current page ≡ seat.at_began Old A page
  pages_then page none =
      unchanged_agrees (ground_in state faults (opening s0)).pages t.who page t.began (journal d0) none fits.is_open.own ∙ ap (λ (l : List Line). (page_world (ground_in state faults (opening s0)).pages l).current page) since_there

  -- what the desk shows of a page where the devices are honest
  shown_there : (origin : Origin) (plain : Desk) (op : IsOpenedTo is_honest state d0.start origin) → IsCore is_honest state origin.history d0.core plain → d0.start.core.value.ledger.book.lines ≡ [] → is_honest d0.start.core.value.desk.pool.file.disk → (page : ℕ)
      → (now plain.history).pages page ≡ (page_world (ground_in state faults (opening s0)).pages (journal d0)).current page
  shown_there origin plain op is none honest page =
      ap (λ (h : History). (now h).pages page) is.journal
      ∙ (journal_pages origin.history (journal d0) page
      ∙ (after_at (now origin.history).pages (pages_of_core state d0.start.core.value) page (journal d0) (sym (opened_pages is_honest state d0.start origin op none honest page))
      ∙ (ap (λ (f : Pages). f page) (sym (current_is (world_of state d0.start.core.value d0.start.archive.value) (journal d0)))
      ∙ ap (λ g. (page_world g.pages (journal d0)).current page) (sym (ap (ground_in state faults) v.opening)))))

  module _ (page : ℕ) (bytes_before after : List ℕ) (r : Result (Unit {0}) Refusal) {remembers : Type 0} {clock : D → Clock} (does : ReadDoes is_honest state faults remembers clock who page bytes_before after t r d0.core d1.core) where
    abbrev pub Gives : Result (Unit {0}) Refusal → Type 0
    Gives x = ReadGives (IsHonest is_honest state s1) page after Old New A x

    shown : r ≡ Ok tt → read_refused (journal d0) t page ≡ None → IsHonest is_honest state s1 → after ≡ written (seat.at_began Old A) t.edits page
    shown e free honest = at (own_edit page t.edits) refl where
      none : changed_since t.who page t.began (journal d0) ≡ None
      none = at_none (changed_since t.who page t.began (journal d0)) (or_none t.kept (option_map overlap (changed_since t.who page t.began (journal d0))) free).1 where
        at_none : (o : Option Who) → option_map overlap o ≡ None → o ≡ None
        at_none None f = refl
        at_none (Some x) f = absurd (cc f)

      here : (is_honest d0.start.core.value.desk.pool.file.disk × is_honest d0.start.archive.value.pagelog.disk) × AreJustOpened is_honest state d0.start.core.value d0.start.archive.value
      here = subst (λ (o : Option (Start D)). IfSome o (λ x. (is_honest x.core.value.desk.pool.file.disk × is_honest x.archive.value.pagelog.disk) × AreJustOpened is_honest state x.core.value x.archive.value)) (v.same.opening ∙ v.opening) honest

      at : (edit : Option (List ℕ)) → own_edit page t.edits ≡ edit → after ≡ written (seat.at_began Old A) t.edits page
      at (Some bytes) f = subst (λ (x : Result (Unit {0}) Refusal). OnOk x (after ≡ bytes)) e (does.own bytes f) ∙ edit_found t.edits page (seat.at_began Old A) bytes fits.edits_rise (sym f)
      at None f =
          let from_ = v.stands.stands v.stands.origin v.stands.opened in
          subst (λ (x : Result (Unit {0}) Refusal). OnOk x (after ≡ (now from_.plain.history).pages page)) e (does.current v.stands.origin.history from_.plain from_.is (v.stands.honest.pages.0 here.0.0) f)
          ∙ (shown_there v.stands.origin from_.plain v.stands.opened from_.is here.1.lines here.0.0 page ∙ (pages_then page none ∙ edit_missing t.edits page (seat.at_began Old A) fits.edits_rise (sym f)))

    pub read_ok : r ≡ Ok tt → Gives (Ok tt)
    read_ok e =
        let a = subst (λ (x : Result (Unit {0}) Refusal). OnOk x ((read_refused (journal d0) t page ≡ None) × (d1.core.ledger ≡ with_open who (reading page t) d0.core.ledger))) e does.answered.allowed in
        (insert_key nat_cmp t.reads.keys page, goes_on (reading page t) refl refl a.1, also_reads page t.reads.keys, λ honest. shown e a.0 honest)

    read_reason : (why : Refusal) → r ≡ Err why → Reason why
    read_reason why e = at (read_refused (journal d0) t page) refl where
      at : (o : Option Refusal) → read_refused (journal d0) t page ≡ o → Reason why
      at None free = inr (new_fault why (subst (λ (x : Result (Unit {0}) Refusal). MatchResult x (λ _. faults d1.core.desk.pool.file.disk ≡ faults d0.core.desk.pool.file.disk) (IsMemoryOrFault PagesDevice (faults d0.core.desk.pool.file.disk) (faults d1.core.desk.pool.file.disk))) e (does.cause free)))
      at (Some because) refused = by_kept t.kept refl (changed_since t.who page t.began (journal d0)) refl refused where
        same : why ≡ because
        same = cc (e, (does.refused because refused).0)

        by_kept : (k : Option Refusal) → t.kept ≡ k → (c : Option Who) → changed_since t.who page t.began (journal d0) ≡ c → option_or k (option_map overlap c) ≡ Some because → Reason why
        by_kept (Some x) k c f s = kept_reason why because same (k ∙ s)
        by_kept None k (Some other) f s = changed_reason page why other (same ∙ sym (some_is (overlap other) because s)) f
        by_kept None k None f s = absurd (cc s)

    pub read_refuses : (why : Refusal) → r ≡ Err why → Gives (Err why)
    read_refuses why e = read_err (IsHonest is_honest state s1) page after why (subst (λ (x : Result (Unit {0}) Refusal). IfErr x (λ w. d1.core.ledger ≡ with_open who (kept_behind w t) d0.core.ledger)) e does.answered.kept) (read_reason why e)

    pub read_gives : (x : Result (Unit {0}) Refusal) → r ≡ x → Gives x
    read_gives (Ok y) e = read_ok e
    read_gives (Err why) e = read_refuses why e

    pub read_keeps : (x : Result (Unit {0}) Refusal) → r ≡ x → IsSeated who asked before s0 → IsSeated who asked before s1
    read_keeps (Ok y) e seated =
        let a = subst (λ (x : Result (Unit {0}) Refusal). OnOk x ((read_refused (journal d0) t page ≡ None) × (d1.core.ledger ≡ with_open who (reading page t) d0.core.ledger))) e does.answered.allowed in
        still_open (reading page t) refl refl a.1 seated
    read_keeps (Err why) e seated =
        still_open (kept_behind why t) (kept_who why t) (kept_began why t) (subst (λ (x : Result (Unit {0}) Refusal). IfErr x (λ w. d1.core.ledger ≡ with_open who (kept_behind w t) d0.core.ledger)) e does.answered.kept) seated

  -- ---- edit

  abbrev IsFull : ℕ → Refusal → Type 0
  IsFull page why = (why ≡ refusal.TooManyPages (EDITED_PAGES + 1)) × (length t.edits ≡ EDITED_PAGES) × (is_among page (pages_of t.edits) ≡ false)

  abbrev EditReason : ℕ → Refusal → Type 0
  EditReason page why = Reason why ⊎ IsFull page why

  full_so : (page : ℕ) (why : Refusal) → too_many t page ≡ Some why → IsFull page why
  full_so page why = at (nat_le EDITED_PAGES (length t.edits)) refl (is_among page (pages_of t.edits)) refl where
    at : (full : Bool) → nat_le EDITED_PAGES (length t.edits) ≡ full → (here : Bool) → is_among page (pages_of t.edits) ≡ here → where_so (full && not here) (refusal.TooManyPages (EDITED_PAGES + 1)) ≡ Some why → IsFull page why
    at true f false h e = (sym (some_is _ why e), (let few_edits = fits.few in let many = leb-true EDITED_PAGES (length t.edits) f in omega (arith, few_edits, many)), h)
    at true f true h e = absurd (cc e)
    at false f here h e = absurd (cc e)

  edit_err : (page : ℕ) (bytes : List ℕ) (why : Refusal) → d1.core.ledger ≡ with_open who (kept_behind why t) d0.core.ledger → EditReason page why → EditGives page bytes Old New A (Err why)
  edit_err page bytes (refusal.Overlap session item) e (inl r) = (waits_kept (refusal.Overlap session item) e, overlap_now _ session item e r)
  edit_err page bytes (refusal.Overlap session item) e (inr m) = absurd (cc m.0)
  edit_err page bytes (refusal.DiskFault d c) e (inl r) = (waits_kept (refusal.DiskFault d c) e, fault_now d c r)
  edit_err page bytes (refusal.DiskFault d c) e (inr m) = absurd (cc m.0)
  edit_err page bytes (refusal.TooManyPages needed) e (inl (inl k)) = (waits_kept (refusal.TooManyPages needed) e, inl k)
  edit_err page bytes (refusal.TooManyPages needed) e (inl (inr n)) = absurd n
  edit_err page bytes (refusal.TooManyPages needed) e (inr m) = (waits_kept (refusal.TooManyPages needed) e, inr (many_is needed (EDITED_PAGES + 1) m.0, m.1, m.2)) where
    many_is : (a b : ℕ) → refusal.TooManyPages a ≡ refusal.TooManyPages b → a ≡ b
    many_is a b f = cc f
  edit_err page bytes refusal.OutOfMemory e r = (waits_kept refusal.OutOfMemory e, refl)
  edit_err page bytes why e (inl (inl k)) = absurd (never why refl k)
  edit_err page bytes why e (inl (inr n)) = absurd n
  edit_err page bytes why e (inr m) = absurd (cc m.0)

  module _ (page : ℕ) (bytes : List ℕ) (r : Result (Unit {0}) Refusal) {remembers : Type 0} {clock : D → Clock} (does : EditDoes is_honest state faults remembers clock who page bytes t r d0.core d1.core) where
    edit_allowed : r ≡ Ok tt → d1.core.ledger ≡ with_open who (editing (record { page = page; bytes = bytes }) t) d0.core.ledger
    edit_allowed e = (subst (λ (x : Result (Unit {0}) Refusal). OnOk x ((edit_refused (journal d0) (slots_of d0) t page ≡ None) × (d1.core.ledger ≡ with_open who (editing (record { page = page; bytes = bytes }) t) d0.core.ledger))) e does.answered.allowed).1

    edit_kept : (why : Refusal) → r ≡ Err why → d1.core.ledger ≡ with_open who (kept_behind why t) d0.core.ledger
    edit_kept why e = subst (λ (x : Result (Unit {0}) Refusal). IfErr x (λ w. d1.core.ledger ≡ with_open who (kept_behind w t) d0.core.ledger)) e does.answered.kept

    edit_reason : (why : Refusal) → r ≡ Err why → EditReason page why
    edit_reason why e = at (edit_refused (journal d0) (slots_of d0) t page) refl where
      at : (o : Option Refusal) → edit_refused (journal d0) (slots_of d0) t page ≡ o → EditReason page why
      at None free = inl (inr (new_fault why (subst (λ (x : Result (Unit {0}) Refusal). MatchResult x (λ _. faults d1.core.desk.pool.file.disk ≡ faults d0.core.desk.pool.file.disk) (IsMemoryOrFault PagesDevice (faults d0.core.desk.pool.file.disk) (faults d1.core.desk.pool.file.disk))) e (does.cause free))))
      at (Some because) refused = by_kept t.kept refl (latch_holder t.who page (slots_of d0)) refl (changed_since t.who page t.began (journal d0)) refl refused where
        same : why ≡ because
        same = cc (e, (does.refused because refused).0)

        by_kept : (k : Option Refusal) → t.kept ≡ k → (h : Option Who) → latch_holder t.who page (slots_of d0) ≡ h → (c : Option Who) → changed_since t.who page t.began (journal d0) ≡ c
            → option_or k (option_or (option_map overlap h) (option_or (option_map overlap c) (too_many t page))) ≡ Some because → EditReason page why
        by_kept (Some x) k h hh c f s = inl (kept_reason why because same (k ∙ s))
        by_kept None k (Some other) hh c f s = inl (subst Reason (sym (same ∙ sym (some_is (overlap other) because s))) (inr (holder_overlaps (journal d0) t begun_there d0.core.ledger refl v.keeps.tried page other hh)))
        by_kept None k None hh (Some other) f s = inl (changed_reason page why other (same ∙ sym (some_is (overlap other) because s)) f)
        by_kept None k None hh None f s = inr (full_so page why (s ∙ ap Some (sym same)))

    pub edit_gives : (x : Result (Unit {0}) Refusal) → r ≡ x → EditGives page bytes Old New A x
    edit_gives (Ok y) e = (with_edit (record { page = page; bytes = bytes }) t.edits, goes_on (editing (record { page = page; bytes = bytes }) t) refl refl (edit_allowed e), also_edits t.edits page bytes fits.edits_rise)
    edit_gives (Err why) e = edit_err page bytes why (edit_kept why e) (edit_reason why e)

    pub edit_keeps : (x : Result (Unit {0}) Refusal) → r ≡ x → IsSeated who asked before s0 → IsSeated who asked before s1
    edit_keeps (Ok y) e seated = still_open (editing (record { page = page; bytes = bytes }) t) refl refl (edit_allowed e) seated
    edit_keeps (Err why) e seated = still_open (kept_behind why t) (kept_who why t) (kept_began why t) (edit_kept why e) seated
