-- A line of each kind fits, by what its session knows when it records it.
use Rattle.std.proofs.Common.{◌≡◌, ◌⊎◌, ◌-◌, ◌^◌, ◌<◌, ◌++◌, ◌||◌, ◌==◌, ltb, cond, ℕ, Bool, true, false, List, [], ◌∷◌, Option, Some, None, Result, Ok, Err, refl, ap, sym, subst, ◌∙◌, inl, inr}
use Rattle.std.specs.Prelude.{is_some}
use mathlib.Core.Bool.{true≢false}
use Rattle.retro_base.specs.Gives.{◌>>=◌}
use Rattle.retro_base.specs.declared.device.Device.{Device}
use Rattle.retro_base.specs.declared.refusal.Refusal.{Refusal}
use Rattle.retro_base.specs.declared.refusal.Refusal.TheVariants.{OutOfMemory, NoSuchSnapshot, Pinned, Stopped}
use Rattle.retro_base.specs.declared.refusal.Refusal.TheVariants as refusal
use Rattle.retro_base.specs.declared.who.Who.{Who}
use Rattle.history.specs.declared.entry.Change.TheVariants as change
use Rattle.history.specs.declared.journal.FailedCall.{FailedCall}
use Rattle.history.specs.declared.journal.FailedCall.TheVariants.{Append, Read, Write}
use Rattle.history.specs.declared.journal.Line.{Line}
use Rattle.history.specs.declared.journal.What.{What}
use Rattle.history.specs.declared.journal.What.TheVariants.{Began, Done, Overlapped, RolledBack, Looked, LookedAll, Unlooked, Dropped, Refused, Fault}
use Rattle.history.specs.declared.writes.PageImage.{PageImage}
use Rattle.history.specs.History.{written}
use Rattle.history.specs.Lines.{begins, first_stop, is_write}
use Rattle.journal_law.specs.Facts.{Fits, with_tables}
use Rattle.journal_law.specs.Fates.{began_of, fate}
use Rattle.journal_law.specs.Language.{AsOf, Commit, DropBelow, End, Kind, Language, OverAll, Rollback, Transaction, after_of, answer, answer_by}
use Rattle.journal_law.specs.Lawful.{AtDrop, DoubtAt, DropRefused, FaultIsNew, Ground, IsEnding, IsLimit, IsOverlapBy, IsWorker, MayDrop, MemoryAt, OverlapAt, RulesAt, SnapshotAt, WritesNothing, at_drop, doubt_by, limit_of, query_end}
use Rattle.journal_law.specs.LinesFit.{All, Answers, At, LeavesCommit, LeavesDrop, LeavesNone, LinesFit, LookAt, kind_at, opened_by}
use Rattle.journal_law.specs.Own.{SinceLine, is_began, is_looked, is_looking, is_trying, line}
use Rattle.journal_law.specs.Pages.{Pages, page_world, pins_of}
use Rattle.journal_law.specs.Shows.{Shows, ShowsAlong, world}
use Rattle.journal_law.specs.World.{Mark, World, as_of, held_by, mark_of, newest, oldest_of}
use Rattle.journal_law.proofs.Journal.{along_end, along_front, page_append, world_append}
use Rattle.journal_law.proofs.Lasts.{began_there, last_there}
use Rattle.journal_law.proofs.Marks.{Leaves, newest_same, refused_of, shows_behind, tables_of}

-- no memory is wanting where a snapshot is refused by its number
not_memory : {X : Type 0} (n : ℕ) (w : World X) (why : Refusal) → as_of n w ≡ Err why → (is_open : Bool) → MemoryAt is_open (Refused why)
not_memory {X} n w why e is_open = by_test ((n == 0) || ltb (newest w) n) (mark_of n w.marks) e
  where
    by_mark : (m : Option (Mark X)) → held_by n (oldest_of w.marks) m ≡ Err why → MemoryAt is_open (Refused why)
    by_mark None e =
        let is : refusal.Dropped n (oldest_of w.marks) ≡ why = cc in
        subst (λ (r : Refusal). MemoryAt is_open (Refused r)) is tt
    by_mark (Some m) e = cc

    by_test : (b : Bool) (m : Option (Mark X)) → cond b (Err (NoSuchSnapshot n (newest w))) (held_by n (oldest_of w.marks) m) ≡ Err why → MemoryAt is_open (Refused why)
    by_test true m e =
        let is : NoSuchSnapshot n (newest w) ≡ why = cc in
        subst (λ (r : Refusal). MemoryAt is_open (Refused r)) is tt
    by_test false m e = by_mark m e

-- neither is it where a drop is refused
drop_not_memory : (at : AtDrop) (below : ℕ) (why : Refusal) → DropRefused at below why → (is_open : Bool) → MemoryAt is_open (Refused why)
drop_not_memory at below why (inl (stop, _, is)) is_open = subst (λ (r : Refusal). MemoryAt is_open (Refused r)) (sym is) tt
drop_not_memory at below why (inr (inl (_, _, is))) is_open = subst (λ (r : Refusal). MemoryAt is_open (Refused r)) (sym is) tt
drop_not_memory at below why (inr (inr (_, _, _, (snapshot, session, _, is)))) is_open = subst (λ (r : Refusal). MemoryAt is_open (Refused r)) (sym is) tt

-- an open attempt is no look
trying_looks_not : (who : Who) (lines since rest : List Line) → SinceLine who Began lines since rest → is_looking who lines ≡ false
trying_looks_not who lines since rest at = ap is_looked (last_there who Began lines since rest at)

trying : (who : Who) (lines since rest : List Line) → SinceLine who Began lines since rest → is_trying who lines ≡ true
trying who lines since rest at = ap is_began (last_there who Began lines since rest at)

no_look_fault : (b write : Bool) → b ≡ false → b ≡ true → write ≡ false
no_look_fault b write e f = absurd (true≢false (sym f ∙ e))

or_left : (b c : Bool) → b ≡ true → (b || c) ≡ true
or_left true c e = refl
or_left false c e = absurd (true≢false (sym e))

or_right : (b c : Bool) → c ≡ true → (b || c) ≡ true
or_right true c e = refl
or_right false c e = e

-- what a failed call leaves in doubt is the item's own change
own_commit : (L : Language) (pages : Pages) (at : AtDrop) (tables : L.Tables) (item : L.Item) → L.IsStored pages tables → (end : End) (device : Device) (count : ℕ) (call : FailedCall)
    → LeavesCommit L pages item end call → doubt_by L pages at tables item (Transaction end) (Fault device count call)
own_commit L pages at tables item stored end device count Read leaves = tt
own_commit L pages at tables item stored end device count Write leaves = tt
own_commit L pages at tables item stored (Commit given) device count (Append (change.Commit label writes)) leaves = (leaves.0, leaves.1 tables stored)
own_commit L pages at tables item stored (Commit given) device count (Append (change.Drop number)) leaves = absurd leaves
own_commit L pages at tables item stored Rollback device count (Append other) leaves = absurd leaves

own_drop : (L : Language) (pages : Pages) (at : AtDrop) (tables : L.Tables) (item : L.Item) (below : ℕ) (device : Device) (count : ℕ) (call : FailedCall)
    → LeavesDrop at below call → doubt_by L pages at tables item (DropBelow below) (Fault device count call)
own_drop L pages at tables item below device count Read leaves = tt
own_drop L pages at tables item below device count Write leaves = tt
own_drop L pages at tables item below device count (Append (change.Commit label writes)) leaves = absurd leaves
own_drop L pages at tables item below device count (Append (change.Drop number)) leaves = leaves

no_doubt : (L : Language) (pages : Pages) (at : AtDrop) (tables : L.Tables) (device : Device) (count : ℕ) (call : FailedCall) → LeavesNone call → DoubtAt L pages at tables None (Fault device count call)
no_doubt L pages at tables device count Read leaves = tt
no_doubt L pages at tables device count Write leaves = tt
no_doubt L pages at tables device count (Append other) leaves = absurd leaves

module _ (L : Language) (items : Who → Option L.Item) (ground : Ground) (before : List Line) (who : Who) (item : L.Item) (k : Kind) where
  -- what is to be shown of a line of an item of this kind, at any tables
  pub record Shown (tables : World L.Tables) (what : What) : Type 0 where
    pub leaves : Leaves L (page_world ground.pages before).current what (L.after item (world L items tables before).current)
    pub ending : IsEnding (Some k) what
    pub query : query_end L item k (began_of (fate L items who tables before)) (is_looking who before) what
    pub overlap : OverlapAt who before what
    pub snapshot : SnapshotAt (world L items tables before) (at_drop ground.pages (world L items tables before) before) (Some k) (is_looking who before) what
    pub limit : limit_of L ground who before item k what
    pub new : FaultIsNew ground.faults (is_looking who before) what
    pub stopped : is_some (first_stop before) ≡ true → WritesNothing (oldest_of (world L items tables before).marks) what
    pub doubt : doubt_by L (page_world ground.pages before).current (at_drop ground.pages (world L items tables before) before) (world L items tables before).current item k what
    pub memory : MemoryAt (is_trying who before || is_looking who before) what

  abbrev pub AllShown : What → Type 0
  AllShown what = (tables : World L.Tables) → ShowsAlong L items ground.pages tables before → Shows L (page_world ground.pages before) (world L items tables before) → Shown tables what

  rules_by : (tables : World L.Tables) (what : What) → L.kind item ≡ k → Shown tables what → RulesAt L items (with_tables L items ground tables) before who (Some item) (world L items tables before) what
  rules_by tables what e at = record {
    known = inl refl;
    ending = subst (λ (j : Kind). IsEnding (Some j) what) (sym e) at.ending;
    query = subst (λ (j : Kind). query_end L item j (began_of (fate L items who tables before)) (is_looking who before) what) (sym e) at.query;
    overlap = at.overlap;
    snapshot = subst (λ (j : Kind). SnapshotAt (world L items tables before) (at_drop ground.pages (world L items tables before) before) (Some j) (is_looking who before) what) (sym e) at.snapshot;
    limit = subst (λ (j : Kind). limit_of L ground who before item j what) (sym e) at.limit;
    fault = record { new = at.new; stopped = at.stopped };
    doubt = subst (λ (j : Kind). doubt_by L (page_world ground.pages before).current (at_drop ground.pages (world L items tables before) before) (world L items tables before).current item j what) (sym e) at.doubt;
    memory = at.memory;
  }

  pub fits_by : (what : What) → items who ≡ Some item → L.kind item ≡ k → AllShown what → Fits L items ground before (line who what)
  fits_by what is e shown tables along =
      let here = along_end L items ground.pages tables before along in
      let at = shown tables along here in
      let leaves : Leaves L (page_world ground.pages before).current what (after_of L (items who) (world L items tables before).current) =
      subst (λ (one : Option L.Item). Leaves L (page_world ground.pages before).current what (after_of L one (world L items tables before).current)) (sym is) at.leaves in
      let next = shows_behind L (page_world ground.pages before) (world L items tables before) what (after_of L (items who) (world L items tables before).current) here leaves in
      let rules : RulesAt L items (with_tables L items ground tables) before who (items who) (world L items tables before) what =
      subst (λ (one : Option L.Item). RulesAt L items (with_tables L items ground tables) before who one (world L items tables before) what) (sym is) (rules_by tables what e at) in
      (rw (page_append ground.pages before (line who what ∷ []), world_append L items tables before (line who what ∷ [])) next, rules)

module _ (L : Language) (items : Who → Option L.Item) (ground : Ground) (before : List Line) (who : Who) (item : L.Item) (is : items who ≡ Some item) where
  -- ---- transactions

  module _ (end : End) (e : L.kind item ≡ Transaction end) where
    pub began_fits : Fits L items ground before (line who Began)
    began_fits = fits_by L items ground before who item (Transaction end) Began is e
        (λ tables along shows. record { leaves = tt; ending = tt; query = tt; overlap = tt; snapshot = tt; limit = tt; new = tt; stopped = λ _. tt; doubt = tt; memory = tt })

    pub overlapped_fits : (session number : ℕ) → IsOverlapBy who before session number → Fits L items ground before (line who (Overlapped session number))
    overlapped_fits session number over = fits_by L items ground before who item (Transaction end) (Overlapped session number) is e
        (λ tables along shows. record { leaves = tt; ending = tt; query = tt; overlap = over; snapshot = tt; limit = tt; new = tt; stopped = λ _. tt; doubt = tt; memory = tt })

    module _ (since rest : List Line) (at : SinceLine who Began before since rest) where
      -- an attempt is refused for a limit that it met
      pub limit_fits : (why : Refusal) → IsLimit L ground who before item end why → Fits L items ground before (line who (Refused why))
      limit_fits why limit = fits_by L items ground before who item (Transaction end) (Refused why) is e
          (λ tables along shows. record { leaves = tt; ending = tt; query = tt; overlap = tt; snapshot = tt; limit = limit; new = tt; stopped = λ _. tt; doubt = tt; memory = memory why })
        where
          memory : (why : Refusal) → MemoryAt (is_trying who before || is_looking who before) (Refused why)
          memory OutOfMemory = or_left (is_trying who before) (is_looking who before) (trying who before since rest at)
          memory why = tt

      pub attempt_fault_fits : (device : Device) (count : ℕ) (call : FailedCall) → (count < 2 ^ 64 - 1 → ground.faults device < count) → LeavesCommit L (page_world ground.pages before).current item end call
          → Fits L items ground before (line who (Fault device count call))
      attempt_fault_fits device count call new leaves = fits_by L items ground before who item (Transaction end) (Fault device count call) is e
          (λ tables along shows. record {
            leaves = tt;
            ending = tt;
            query = tt;
            overlap = tt;
            snapshot = tt;
            limit = tt;
            new = (new, no_look_fault (is_looking who before) (is_write call) (trying_looks_not who before since rest at));
            stopped = λ _. tt;
            doubt = own_commit L (page_world ground.pages before).current (at_drop ground.pages (world L items tables before) before) (world L items tables before).current item shows.current end device count call leaves;
            memory = tt;
          })

  pub rolled_fits : L.kind item ≡ Transaction Rollback → Fits L items ground before (line who RolledBack)
  rolled_fits e = fits_by L items ground before who item (Transaction Rollback) RolledBack is e
      (λ tables along shows. record { leaves = tt; ending = tt; query = tt; overlap = tt; snapshot = tt; limit = tt; new = tt; stopped = λ _. tt; doubt = tt; memory = tt })

  -- a commit writes pages that hold the tables behind its statements; behind a stop it commits nothing
  pub done_fits : (label : Option (List ℕ)) (writes : List PageImage) → L.kind item ≡ Transaction (Commit label)
      → ((tables : L.Tables) → L.IsStored (page_world ground.pages before).current tables → L.IsStored (written (page_world ground.pages before).current writes) (L.after item tables))
      → (is_some (first_stop before) ≡ true → (label ≡ None) × (writes ≡ []))
      → Fits L items ground before (line who (Done label writes))
  done_fits label writes e makes quiet = fits_by L items ground before who item (Transaction (Commit label)) (Done label writes) is e
      (λ tables along shows. record {
        leaves = makes (world L items tables before).current shows.current;
        ending = refl;
        query = tt;
        overlap = tt;
        snapshot = tt;
        limit = tt;
        new = tt;
        stopped = λ stop. nothing (oldest_of (world L items tables before).marks) (quiet stop).0 (quiet stop).1;
        doubt = tt;
        memory = tt;
      })
    where
      nothing : (oldest : ℕ) → label ≡ None → writes ≡ [] → WritesNothing oldest (Done label writes)
      nothing oldest p q = rw (p, q) tt

  -- ---- looks

  -- of a look at one snapshot it is the answer over the tables that the pages of the snapshot hold
  pub answers_as_of : (n : ℕ) (since : List Line) (held : Pages) (answered : Result (List ℕ) Refusal) → L.kind item ≡ AsOf n → as_of n (page_world ground.pages since) ≡ Ok held
      → ((tables : L.Tables) → L.IsStored held tables → L.asks item tables ≡ answered) → Answers L ground item since answered
  answers_as_of n since held answered e stands asks w shows =
      let found = tables_of L n (page_world ground.pages since) w held shows stands in
      ap (λ (k : Kind). answer_by L k item w) e ∙ ap (λ (r : Result L.Tables Refusal). r >>= L.asks item) found.1 ∙ asks found.0 found.2

  pub answers_all : (since : List Line) (answered : Result (List ℕ) Refusal) → L.kind item ≡ OverAll
      → ((w : World L.Tables) → Shows L (page_world ground.pages since) w → L.asks_all item w ≡ answered) → Answers L ground item since answered
  answers_all since answered e asks w shows = ap (λ (k : Kind). answer_by L k item w) e ∙ asks w shows

  pub looked_fits : (n : ℕ) (held : Pages) → L.kind item ≡ AsOf n → as_of n (page_world ground.pages before) ≡ Ok held → Fits L items ground before (line who (Looked n))
  looked_fits n held e stands = fits_by L items ground before who item (AsOf n) (Looked n) is e
      (λ tables along shows.
      let found = tables_of L n (page_world ground.pages before) (world L items tables before) held shows stands in
      record { leaves = tt; ending = tt; query = tt; overlap = tt; snapshot = (refl, (found.0, found.1)); limit = tt; new = tt; stopped = λ _. tt; doubt = tt; memory = tt })

  pub looked_all_fits : L.kind item ≡ OverAll → Fits L items ground before (line who LookedAll)
  looked_all_fits e = fits_by L items ground before who item OverAll LookedAll is e
      (λ tables along shows. record { leaves = tt; ending = tt; query = tt; overlap = tt; snapshot = tt; limit = tt; new = tt; stopped = λ _. tt; doubt = tt; memory = tt })

  pub look_refused_fits : (n : ℕ) (why : Refusal) → L.kind item ≡ AsOf n → is_looking who before ≡ false → as_of n (page_world ground.pages before) ≡ Err why → Fits L items ground before (line who (Refused why))
  look_refused_fits n why e fresh stands = fits_by L items ground before who item (AsOf n) (Refused why) is e
      (λ tables along shows.
      let same = refused_of L n (page_world ground.pages before) (world L items tables before) why shows stands in
      record {
        leaves = tt;
        ending = tt;
        query = rw fresh tt;
        overlap = tt;
        snapshot = rw fresh same;
        limit = tt;
        new = tt;
        stopped = λ _. tt;
        doubt = tt;
        memory = not_memory n (page_world ground.pages before) why stands (is_trying who before || is_looking who before);
      })

  module _ (look : LookAt) (e : L.kind item ≡ kind_at look) (since rest : List Line) (at : SinceLine who (opened_by look) before since rest) where
    is_now : is_looking who before ≡ true
    is_now = ap is_looked (last_there who (opened_by look) before since rest at) ∙ by_look look
      where
        by_look : (look : LookAt) → is_looked (Some (opened_by look)) ≡ true
        by_look (At n) = refl
        by_look All = refl

    stood : (tables : World L.Tables) → began_of (fate L items who tables before) ≡ Some (world L items tables since)
    stood tables = began_there L items who (opened_by look) tables before since rest (opens look) at
      where
        opens : (look : LookAt) → begins (opened_by look) ≡ true
        opens (At n) = refl
        opens All = refl

    shown_there : (tables : World L.Tables) → ShowsAlong L items ground.pages tables before → Shows L (page_world ground.pages since) (world L items tables since)
    shown_there tables along =
        along_end L items ground.pages tables since
        (along_front L items ground.pages tables since (line who (opened_by look) ∷ [])
        (along_front L items ground.pages tables (since ++ line who (opened_by look) ∷ []) rest (subst (ShowsAlong L items ground.pages tables) at.whole along)))

    pub unlooked_fits : (text : List ℕ) → Answers L ground item since (Ok text) → Fits L items ground before (line who Unlooked)
    unlooked_fits text answers = fits_by L items ground before who item (kind_at look) Unlooked is e
        (λ tables along shows. shown look tables (began_of (fate L items who tables before)) (is_looking who before) (stood tables) is_now (text, answers (world L items tables since) (shown_there tables along)))
      where
        query : (look : LookAt) (w : World L.Tables) → ((text : List ℕ) × (answer L item w ≡ Ok text)) → query_end L item (kind_at look) (Some w) true Unlooked
        query (At n) w it = it
        query All w it = it

        ending : (look : LookAt) → IsEnding (Some (kind_at look)) Unlooked
        ending (At n) = tt
        ending All = tt

        snapshot : (look : LookAt) (now : World L.Tables) (at : AtDrop) (looking : Bool) → SnapshotAt now at (Some (kind_at look)) looking Unlooked
        snapshot (At n) now at looking = tt
        snapshot All now at looking = tt

        limit : (look : LookAt) → limit_of L ground who before item (kind_at look) Unlooked
        limit (At n) = tt
        limit All = tt

        shown : (look : LookAt) (tables : World L.Tables) (began : Option (World L.Tables)) (looking : Bool) → began_of (fate L items who tables before) ≡ Some (world L items tables since) → is_looking who before ≡ true
            → ((text : List ℕ) × (answer L item (world L items tables since) ≡ Ok text)) → Shown L items ground before who item (kind_at look) tables Unlooked
        shown look tables began looking p q it = record {
          leaves = tt;
          ending = ending look;
          query = rw (p, q) (query look (world L items tables since) it);
          overlap = tt;
          snapshot = snapshot look (world L items tables before) (at_drop ground.pages (world L items tables before) before) (is_looking who before);
          limit = limit look;
          new = tt;
          stopped = λ _. tt;
          doubt = tt;
          memory = tt;
        }

    -- a look that has begun is refused with its refusal, or for want of memory
    pub unanswered_fits : (why : Refusal) → (why ≡ OutOfMemory) ⊎ Answers L ground item since (Err why) → Fits L items ground before (line who (Refused why))
    unanswered_fits why answers = fits_by L items ground before who item (kind_at look) (Refused why) is e
        (λ tables along shows. record {
          leaves = tt;
          ending = ending look;
          query = rw (stood tables, is_now) (query look (world L items tables since) (asked tables (shown_there tables along) answers));
          overlap = tt;
          snapshot = rw is_now (snapshot look (world L items tables before) (at_drop ground.pages (world L items tables before) before));
          limit = limit look;
          new = tt;
          stopped = λ _. tt;
          doubt = tt;
          memory = memory why is_now;
        })
      where
        asked : (tables : World L.Tables) → Shows L (page_world ground.pages since) (world L items tables since) → (why ≡ OutOfMemory) ⊎ Answers L ground item since (Err why) → (why ≡ OutOfMemory) ⊎ (answer L item (world L items tables since) ≡ Err why)
        asked tables shows (inl none) = inl none
        asked tables shows (inr answers) = inr (answers (world L items tables since) shows)

        ending : (look : LookAt) → IsEnding (Some (kind_at look)) (Refused why)
        ending (At n) = tt
        ending All = tt

        query : (look : LookAt) (w : World L.Tables) → ((why ≡ OutOfMemory) ⊎ (answer L item w ≡ Err why)) → query_end L item (kind_at look) (Some w) true (Refused why)
        query (At n) w it = it
        query All w it = it

        snapshot : (look : LookAt) (now : World L.Tables) (at : AtDrop) → SnapshotAt now at (Some (kind_at look)) true (Refused why)
        snapshot (At n) now at = tt
        snapshot All now at = tt

        limit : (look : LookAt) → limit_of L ground who before item (kind_at look) (Refused why)
        limit (At n) = tt
        limit All = tt

        memory : (why : Refusal) → is_looking who before ≡ true → MemoryAt (is_trying who before || is_looking who before) (Refused why)
        memory OutOfMemory now = or_right (is_trying who before) (is_looking who before) now
        memory why now = tt

  pub look_fault_fits : (look : LookAt) → L.kind item ≡ kind_at look → (device : Device) (count : ℕ) → (count < 2 ^ 64 - 1 → ground.faults device < count) → Fits L items ground before (line who (Fault device count Read))
  look_fault_fits (At n) e device count new = fits_by L items ground before who item (AsOf n) (Fault device count Read) is e
      (λ tables along shows. record { leaves = tt; ending = tt; query = tt; overlap = tt; snapshot = tt; limit = tt; new = (new, λ _. refl); stopped = λ _. tt; doubt = tt; memory = tt })
  look_fault_fits All e device count new = fits_by L items ground before who item OverAll (Fault device count Read) is e
      (λ tables along shows. record { leaves = tt; ending = tt; query = tt; overlap = tt; snapshot = tt; limit = tt; new = (new, λ _. refl); stopped = λ _. tt; doubt = tt; memory = tt })

  -- ---- drops

  module _ (below : ℕ) (e : L.kind item ≡ DropBelow below) where
    same_newest : (tables : World L.Tables) → Shows L (page_world ground.pages before) (world L items tables before)
        → at_drop ground.pages (page_world ground.pages before) before ≡ at_drop ground.pages (world L items tables before) before
    same_newest tables shows = ap (λ (n : ℕ). record { stop = first_stop before; newest = n; pins = pins_of ground.pages before }) (newest_same L 0 (page_world ground.pages before).marks (world L items tables before).marks shows.marks)

    pub dropped_fits : MayDrop (at_drop ground.pages (page_world ground.pages before) before) below → Fits L items ground before (line who (Dropped below))
    dropped_fits may = fits_by L items ground before who item (DropBelow below) (Dropped below) is e
        (λ tables along shows. record {
          leaves = tt;
          ending = tt;
          query = tt;
          overlap = tt;
          snapshot = (refl, subst (λ (at : AtDrop). MayDrop at below) (same_newest tables shows) may);
          limit = tt;
          new = tt;
          stopped = λ stop. absurd (true≢false (sym stop ∙ ap is_some may.goes));
          doubt = tt;
          memory = tt;
        })

    pub drop_refused_fits : (why : Refusal) → DropRefused (at_drop ground.pages (page_world ground.pages before) before) below why → Fits L items ground before (line who (Refused why))
    drop_refused_fits why refused = fits_by L items ground before who item (DropBelow below) (Refused why) is e
        (λ tables along shows. record {
          leaves = tt;
          ending = tt;
          query = tt;
          overlap = tt;
          snapshot = subst (λ (at : AtDrop). DropRefused at below why) (same_newest tables shows) refused;
          limit = tt;
          new = tt;
          stopped = λ _. tt;
          doubt = tt;
          memory = drop_not_memory (at_drop ground.pages (page_world ground.pages before) before) below why refused (is_trying who before || is_looking who before);
        })

    pub drop_fault_fits : (device : Device) (count : ℕ) (call : FailedCall) → is_looking who before ≡ false → (count < 2 ^ 64 - 1 → ground.faults device < count)
        → LeavesDrop (at_drop ground.pages (page_world ground.pages before) before) below call → Fits L items ground before (line who (Fault device count call))
    drop_fault_fits device count call none new leaves = fits_by L items ground before who item (DropBelow below) (Fault device count call) is e
        (λ tables along shows. record {
          leaves = tt;
          ending = tt;
          query = tt;
          overlap = tt;
          snapshot = tt;
          limit = tt;
          new = (new, no_look_fault (is_looking who before) (is_write call) none);
          stopped = λ _. tt;
          doubt = own_drop L (page_world ground.pages before).current (at_drop ground.pages (world L items tables before) before) (world L items tables before).current item below device count call
              (subst (λ (at : AtDrop). LeavesDrop at below call) (same_newest tables shows) leaves);
          memory = tt;
        })

-- a worker's fault
pub worker_fault_fits : (L : Language) (items : Who → Option L.Item) (ground : Ground) (before : List Line) (who : Who) (device : Device) (count : ℕ) (call : FailedCall)
    → items who ≡ None → IsWorker who → is_looking who before ≡ false → (count < 2 ^ 64 - 1 → ground.faults device < count) → LeavesNone call → Fits L items ground before (line who (Fault device count call))
worker_fault_fits L items ground before who device count call is worker none new leaves tables along =
    let what : What = Fault device count call in
    let here = along_end L items ground.pages tables before along in
    let next = shows_behind L (page_world ground.pages before) (world L items tables before) what (after_of L (items who) (world L items tables before).current) here tt in
    let at : RulesAt L items (with_tables L items ground tables) before who None (world L items tables before) what = record {
      known = inr (worker, tt);
      ending = tt;
      query = tt;
      overlap = tt;
      snapshot = tt;
      limit = tt;
      fault = record { new = (new, no_look_fault (is_looking who before) (is_write call) none); stopped = λ _. tt };
      doubt = no_doubt L (page_world ground.pages before).current (at_drop ground.pages (world L items tables before) before) (world L items tables before).current device count call leaves;
      memory = tt;
    } in (
      rw (page_append ground.pages before (line who what ∷ []), world_append L items tables before (line who what ∷ [])) next,
      subst (λ (one : Option L.Item). RulesAt L items (with_tables L items ground tables) before who one (world L items tables before) what) (sym is) at,
    )

pub lines_fit : (L : Language) → LinesFit L
lines_fit L = record {
  transactions = record {
    began = began_fits L;
    overlapped = overlapped_fits L;
    refused = limit_fits L;
    failed = attempt_fault_fits L;
    rolled_back = rolled_fits L;
    done = λ items ground before who item is label writes e makes quiet. done_fits L items ground before who item is label writes e makes quiet;
  };
  looks = record {
    looked = looked_fits L;
    looked_all = looked_all_fits L;
    refused = look_refused_fits L;
    unlooked = unlooked_fits L;
    unanswered = unanswered_fits L;
    failed = look_fault_fits L;
    as_of = answers_as_of L;
    over_all = answers_all L;
  };
  drops = record {
    dropped = dropped_fits L;
    refused = λ items ground before who item is below e why. drop_refused_fits L items ground before who item is below e why;
    failed = drop_fault_fits L;
  };
  workers = worker_fault_fits L;
}
