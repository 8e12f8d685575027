-- What the calls give that read no bytes.
use Rattle.std.proofs.Common.{◌≡◌, ◌≤◌, ◌<◌, ◌-◌, ◌⊎◌, ◌++◌, ◌==◌, ◌∙◌, ℕ, Bool, true, false, cond, List, [], ◌∷◌, length, map, reverse, take, Option, Some, None, Result, Ok, Err, refl, sym, ap, subst, inl, inr, ⊎_elim, arith, append-nil}
use Rattle.std.specs.Prelude.{◌||◌, nat_lt}
use Rattle.std.specs.Option.{option_or}
use Rattle.std.proofs.lemmas.Bool.{ltb-false, ltb-true}
use Rattle.atomic_table.specs.Seated.{TableId}
use Rattle.disk_model.specs.Disk.{State}
use Rattle.retro_base.specs.declared.limits.TheConstants.{JOURNAL_LINES, WORKER_LINES}
use Rattle.retro_base.specs.declared.refusal.Refusal.{Refusal}
use Rattle.retro_base.specs.declared.refusal.Refusal.TheVariants as refusal
use Rattle.retro_base.specs.declared.who.Who.{Who}
use Rattle.history.specs.declared.entry.Base.{Base}
use Rattle.history.specs.declared.entry.Mark.{Mark as MarkOf}
use Rattle.history.specs.declared.journal.Line.{Line}
use Rattle.history.specs.declared.journal.What.{What}
use Rattle.history.specs.declared.journal.What.TheVariants.{Began, Looked, LookedAll, Refused}
use Rattle.history.specs.Lines.{base_of, images_in}
use Rattle.history.specs.Marks as marks
use Rattle.history.specs.Marks.{is_retained}
use Rattle.history.specs.Right.{IsBase}
use Rattle.history.specs.Writes.{rises}
use Rattle.history.specs.Sound.{IsSound}
use Rattle.history.proofs.Lines.{base_of_one_more}
use Rattle.history.proofs.SoundLaws.{base_stays_right, looked_at_stays}
use Rattle.journal_book.specs.declared.work.Look.{Look}
use Rattle.journal_book.specs.declared.work.Transaction.{Transaction}
use Rattle.journal_book.specs.declared.work.Work.{Work}
use Rattle.journal_book.specs.declared.work.Work.TheVariants as work
use Rattle.journal_book.specs.Book.{Book, lines_needed, lines_refused}
use Rattle.journal_law.proofs.Marks.{numbers_rise}
use Rattle.journal_law.specs.Own.{line}
use Rattle.journal_law.specs.Pages.{Pages, page_world}
use Rattle.journal_law.specs.Seats as seat
use Rattle.journal_law.specs.Seats.{Adds, BeginGives, LookAllGives, LookGives, MayEnd, RollbackGives, UnlookGives, View, Waits, one}
use Rattle.journal_law.specs.World.{Mark, World, as_of}
use Rattle.journal_law.specs.declared.seat.Ending.{Ending}
use Rattle.journal_law.specs.declared.seat.Ending.TheVariants as ending
use Rattle.archive.specs.Archive.{Running}
use Rattle.store_core.specs.declared.desk_core.Core.{Core}
use Rattle.store_core.proofs.Cores.{base_is}
use Rattle.txn_set.specs.declared.ledger.Ledger.{Ledger}
use Rattle.txn_set.specs.Ledger.{closed, closing, ended, fresh, given_up, looking, opened, with_told_line}
use Rattle.txn_set.specs.Refused.{look_refused, where_so}
use Rattle.turn.specs.Seats.{mine, opening, seen}
use Rattle.store.specs.declared.desk_side.DeskSide.{DeskSide}
use Rattle.store.specs.declared.start.Start.{Start}
use Rattle.store.specs.Calls.{BeginDoes, LookAllDoes, LookDoes, RollbackDoes, UnlookDoes}
use Rattle.store.specs.Seats.{EndingIsTold, IsReady, Sat, Visited, Visits, journal}
use Rattle.store.specs.Start.{opened_base}
use Rattle.store.proofs.Adding.{slot_own}
use Rattle.store.proofs.Finding.{some_is}
use Rattle.store.proofs.Leaving.{sound_journal}
use Rattle.journal_law.specs.declared.seat.ToldFault.{ToldFault}
use Rattle.store.specs.Ending.{ending_of}
use Rattle.store.specs.Ground.{ground_of, past_of, world_of}
use Rattle.store.specs.Seen.{IsSeated, ground_in, view_of, work_in}
use Rattle.store.specs.Worlds.{AreNamed}
use Rattle.store.proofs.Coming.{Came, came, given_none, looking_is, moves, none_there, open_is, seated_begun, seated_looking, seated_none, take_front, there, work_so}
use Rattle.store.proofs.Named.{names_same, names_stay, others_refused, retained_held}

-- ---- no room in the journal

pub full_is : (book : Book) (more : ℕ) (why : Refusal) → lines_refused book more ≡ Some why → (lines : ℕ) × (images : ℕ) × (why ≡ refusal.JournalFull lines images) × (JOURNAL_LINES - WORKER_LINES < lines)
full_is book more why e = at (nat_lt (JOURNAL_LINES - WORKER_LINES) (lines_needed book more)) refl e where
  at : (test : Bool) → nat_lt (JOURNAL_LINES - WORKER_LINES) (lines_needed book more) ≡ test → cond test (Some (refusal.JournalFull (lines_needed book more) (images_in book.lines))) None ≡ Some why
      → (lines : ℕ) × (images : ℕ) × (why ≡ refusal.JournalFull lines images) × (JOURNAL_LINES - WORKER_LINES < lines)
  at true t s = (lines_needed book more, images_in book.lines, sym (some_is _ why s), ltb-true (JOURNAL_LINES - WORKER_LINES) (lines_needed book more) t)
  at false t s = absurd (cc s)

-- the opening's snapshots are named as the log says
pub own_names : {D : Type 0} (state : D → State) (core : Core D) (archive : Running D) → AreNamed core.desk.base.marks (world_of state core archive).marks
own_names state core archive = at core.desk.base.marks where
  at : (ms : List MarkOf) → AreNamed ms (map (λ (mark : MarkOf). let held : Mark Pages = record { number = mark.number; label = mark.label; held = past_of state core archive mark.start } in held) ms)
  at [] = tt
  at (m ∷ ms) = (refl, refl, at ms)

module _ {D : Type 0} (is_honest : D → Type 0) (state : D → State) (faults : D → ℕ) (z : TableId) (s0 s1 : Sat D) (d0 d1 : DeskSide D) (ready : IsReady z s0) (v : Visited is_honest state faults z s0 s1 d0 d1) (who : Who) (asked : Option ℕ) (before : List ToldFault) where
  abbrev Old : View
  Old = view_of state faults asked before s0

  abbrev New : Option ℕ → List ToldFault → View
  New other after = view_of state faults other after s1

  -- the lines before its own
  abbrev Since : List Line
  Since = seen s0 ++ v.others

  -- ---- a line of its own, or none

  abbrev pub waits : (w : Option Work) (other : Option ℕ) (k : seat.Work) → Came s0 s1 v.others [] w → work_in other Since w ≡ k → Waits Old (New other before) k
  waits w other k c e = record {
    moves = moves state faults asked other before before s0 s1 v.others [] w c;
    work_is = work_so state faults asked other before before s0 s1 v.others [] w c ∙ (ap (λ (l : List Line). work_in other l w) (append-nil Since) ∙ e);
    told_is = refl;
  }

  abbrev pub adds : (what : What) (w : Option Work) (other : Option ℕ) (after : List ToldFault) (k : seat.Work) → after ≡ [] → Came s0 s1 v.others (one who what) w → work_in other (Since ++ one who what) w ≡ k → Adds Old (New other after) who what k
  adds what w other after k quiet c e = record {
    moves = moves state faults asked other before after s0 s1 v.others (one who what) w c;
    work_is = work_so state faults asked other before after s0 s1 v.others (one who what) w c ∙ e;
    told_is = ap reverse quiet;
  }

  module _ (own : who.session ≡ s0.number) where
    closed_came : (what : What) → d1.core.ledger ≡ closed who what d0.core.ledger → Came s0 s1 v.others (one who what) None
    closed_came what e = came is_honest state faults z s0 s1 d0 d1 ready v (one who what) None (ap (λ (l : Ledger). l.book.lines) e)
        (there is_honest state faults z s0 s1 d0 d1 ready v who own None _ e (slot_own d0.core.ledger.works.slots who.session None))

    module _ (none : (mine s0).work ≡ None) where
      pub same_given : given_up who d0.core.ledger ≡ d0.core.ledger
      same_given = given_none who d0.core.ledger (none_there is_honest state faults z s0 s1 d0 d1 ready v who own none)

      given_came : d1.core.ledger ≡ given_up who d0.core.ledger → Came s0 s1 v.others [] None
      given_came e = came is_honest state faults z s0 s1 d0 d1 ready v [] None (ap (λ (l : Ledger). l.book.lines) (e ∙ same_given) ∙ sym (append-nil (journal d0)))
          (there is_honest state faults z s0 s1 d0 d1 ready v who own None d0.core.ledger (e ∙ same_given) (none_there is_honest state faults z s0 s1 d0 d1 ready v who own none))

      opened_came : (what : What) (w : Work) → d1.core.ledger ≡ opened who what w (given_up who d0.core.ledger) → Came s0 s1 v.others (one who what) (Some w)
      opened_came what w e = came is_honest state faults z s0 s1 d0 d1 ready v (one who what) (Some w) (ap (λ (l : Ledger). l.book.lines) (e ∙ ap (opened who what w) same_given))
          (there is_honest state faults z s0 s1 d0 d1 ready v who own (Some w) _ e (slot_own (given_up who d0.core.ledger).works.slots who.session (Some w)))

      told_came : (what : What) → d1.core.ledger ≡ with_told_line who what (given_up who d0.core.ledger) → Came s0 s1 v.others (one who what) None
      told_came what e = came is_honest state faults z s0 s1 d0 d1 ready v (one who what) None (ap (λ (l : Ledger). l.book.lines) (e ∙ ap (with_told_line who what) same_given))
          (there is_honest state faults z s0 s1 d0 d1 ready v who own None _ (e ∙ ap (with_told_line who what) same_given) (none_there is_honest state faults z s0 s1 d0 d1 ready v who own none))

      -- nothing is open, and nothing was told
      pub still_none : (other : Option ℕ) → before ≡ [] → (mine s1).work ≡ None → IsSeated who other before s1
      still_none other quiet e = subst (λ (ts : List ToldFault). IsSeated who other ts s1) (sym quiet) (seated_none who other s1 e)

      idle_still : (other : Option ℕ) → d1.core.ledger ≡ given_up who d0.core.ledger → Waits Old (New other before) Old.work
      idle_still other e = waits None other Old.work (given_came e) (sym (ap (work_in asked (seen s0)) none))

      -- ---- begin

      since_is : (own_lines : List Line) → take (length (journal d0)) (Since ++ own_lines) ≡ Since
      since_is own_lines = ap (λ (j : List Line). take (length j) (Since ++ own_lines)) (sym v.place) ∙ take_front Since own_lines

      begin_ok : before ≡ [] → BeginDoes is_honest state who (Ok tt) d0.core d1.core → BeginGives who Old (New asked before) (Ok tt)
      begin_ok quiet does =
          let c = opened_came Began (fresh who (journal d0)) does.begun.done in
          (Since, adds Began (Some (fresh who (journal d0))) asked before _ quiet c (ap (λ (l : List Line). seat.Open (record { who = who; since = l; read = []; edits = []; kept = None })) (since_is (one who Began))), c.front)

      begin_err : (why : Refusal) → BeginDoes is_honest state who (Err why) d0.core d1.core → BeginGives who Old (New asked before) (Err why)
      begin_err why does = at (lines_refused (given_up who d0.core.ledger).book 2) refl where
        at : (r : Option Refusal) → lines_refused (given_up who d0.core.ledger).book 2 ≡ r → BeginGives who Old (New asked before) (Err why)
        at None e = let m : why ≡ refusal.OutOfMemory = does.begun.memory e in subst (λ (w : Refusal). BeginGives who Old (New asked before) (Err w)) (sym m) (idle_still asked does.begun.stays, refl)
        at (Some because) e =
            let f = full_is (given_up who d0.core.ledger).book 2 because e in
            let same : why ≡ because = cc (does.begun.full because e) in
            subst (λ (w : Refusal). BeginGives who Old (New asked before) (Err w)) (sym (same ∙ f.2)) (idle_still asked does.begun.stays, f.3)

      pub begin_gives : before ≡ [] → (r : Result (Unit {0}) Refusal) → BeginDoes is_honest state who r d0.core d1.core → BeginGives who Old (New asked before) r
      begin_gives quiet (Ok x) does = begin_ok quiet does
      begin_gives quiet (Err why) does = begin_err why does

      pub begin_keeps : before ≡ [] → (r : Result (Unit {0}) Refusal) → BeginDoes is_honest state who r d0.core d1.core → IsSeated who asked before s1
      begin_keeps quiet (Ok x) does =
          let c = opened_came Began (fresh who (journal d0)) does.begun.done in
          seated_begun who asked before s1 (journal d0) quiet (c.front ∙ ap (λ (l : List Line). l ++ one who Began) v.place) c.work_is
      begin_keeps quiet (Err why) does = still_none asked quiet (given_came does.begun.stays).work_is

      -- ---- looks

      -- what the journal's front says there is what the desk says
      base_there : d0.core.desk.base ≡ base_of (opened_base d0.start) (journal d0)
      base_there = let found = v.stands.stands v.stands.origin v.stands.opened in
          base_is is_honest state v.stands.origin.history d0.core found.plain found.is ∙ ap (λ (b : Base). base_of b (journal d0)) v.stands.opened.base

      ground_there : ground_in state faults (opening s0) ≡ ground_of state faults d0.start
      ground_there = ap (ground_in state faults) v.opening

      -- the snapshots at the place of the line
      abbrev There : World Pages
      There = page_world (ground_in state faults (opening s0)).pages Since

      named : AreNamed d0.core.desk.base.marks There.marks
      named = subst (λ (b : Base). AreNamed b.marks There.marks) (sym base_there)
          (subst (λ (w : World Pages). AreNamed (base_of (opened_base d0.start) (journal d0)).marks (page_world w Since).marks) (ap (λ g. g.pages) (sym ground_there))
          (subst (λ (l : List Line). AreNamed (base_of (opened_base d0.start) (journal d0)).marks (page_world (world_of state d0.start.core.value d0.start.archive.value) l).marks) (sym v.place)
          (names_stay (opened_base d0.start) (world_of state d0.start.core.value d0.start.archive.value) (journal d0) (own_names state d0.start.core.value d0.start.archive.value))))

      right_there : IsBase d0.core.desk.base
      right_there = subst IsBase (sym base_there) (base_stays_right (opened_base d0.start) (journal d0) (sound_journal is_honest state d0 v.stands))

      marks_there : marks.AreMarks d0.core.desk.base.captures d0.core.desk.base.marks
      marks_there = right_there.marks

      opened_there : (start : Start D) → opening s1 ≡ Some start → d0.start ≡ start
      opened_there start e = some_is d0.start start (sym v.opening ∙ (sym v.same.opening ∙ e))

      -- ---- a look at all

      abbrev All : Work
      All = looking who (journal d0) (map (λ (mark : MarkOf). mark.number) d0.core.desk.base.marks)

      all_ok : (marks : List MarkOf) → before ≡ [] → LookAllDoes is_honest state who (Ok marks) d0.core d1.core → LookAllGives who Old (New None before) (Ok marks)
      all_ok marks quiet does =
          let c = opened_came LookedAll All does.looked.done in (
            Since,
            adds LookedAll (Some All) None before _ quiet c (ap (λ (l : List Line). seat.Looking (record { who = who; since = l; snapshot = None })) (since_is (one who LookedAll))),
            c.front,
            ap seat.names_of does.marks ∙ (names_same d0.core.desk.base There named).0,
            ap (λ (ms : List MarkOf). rises 1 (map (λ (mark : MarkOf). mark.number) ms)) does.marks ∙ numbers_rise d0.core.desk.base.captures 0 0 d0.core.desk.base.marks marks_there 1 (omega arith),
          )

      all_seated : (marks : List MarkOf) → before ≡ [] → LookAllDoes is_honest state who (Ok marks) d0.core d1.core → IsSeated who None before s1
      all_seated marks quiet does =
          let c = opened_came LookedAll All does.looked.done in
          let look : Look = record { who = who; began = length (journal d0); pins = map (λ (mark : MarkOf). mark.number) d0.core.desk.base.marks } in
          seated_looking who None before s1 look quiet refl c.work_is (λ start e.
          ap (λ (b : Base). map (λ (mark : MarkOf). mark.number) b.marks)
          (base_there ∙ (ap (λ (x : Start D). base_of (opened_base x) (journal d0)) (opened_there start e)
          ∙ ap (base_of (opened_base start)) (sym v.place ∙ (sym (since_is (one who LookedAll)) ∙ ap (take (length (journal d0))) (sym c.front))))))

      all_err : (why : Refusal) → LookAllDoes is_honest state who (Err why) d0.core d1.core → LookAllGives who Old (New None before) (Err why)
      all_err why does = at (lines_refused (given_up who d0.core.ledger).book 2) refl where
        at : (r : Option Refusal) → lines_refused (given_up who d0.core.ledger).book 2 ≡ r → LookAllGives who Old (New None before) (Err why)
        at None e = let m : why ≡ refusal.OutOfMemory = does.looked.memory e in subst (λ (w : Refusal). LookAllGives who Old (New None before) (Err w)) (sym m) (idle_still None does.looked.stays, refl)
        at (Some because) e =
            let f = full_is (given_up who d0.core.ledger).book 2 because e in
            let same : why ≡ because = cc (does.looked.full because e) in
            subst (λ (w : Refusal). LookAllGives who Old (New None before) (Err w)) (sym (same ∙ f.2)) (idle_still None does.looked.stays, f.3)

      pub all_gives : before ≡ [] → (r : Result (List MarkOf) Refusal) → LookAllDoes is_honest state who r d0.core d1.core → LookAllGives who Old (New None before) r
      all_gives quiet (Ok marks) does = all_ok marks quiet does
      all_gives quiet (Err why) does = all_err why does

      pub all_keeps : before ≡ [] → (r : Result (List MarkOf) Refusal) → LookAllDoes is_honest state who r d0.core d1.core → IsSeated who None before s1
      all_keeps quiet (Ok marks) does = all_seated marks quiet does
      all_keeps quiet (Err why) does = still_none None quiet (given_came does.looked.stays).work_is

      -- ---- a look at a snapshot

      module _ (n : ℕ) where
        abbrev At : Work
        At = looking who (journal d0) (n ∷ [])

        -- where the look stands, its snapshot is retained
        retained_there : journal d1 ≡ journal d0 ++ one who (Looked n) → is_retained n d0.core.desk.base.marks ≡ true
        retained_there lines =
            let sound = subst (λ (x : Start D). IsSound (opened_base x) (journal d1)) v.start (sound_journal is_honest state d1 v.stands_after) in
            let whole = subst (λ (l : List Line). IsSound (opened_base d0.start) l) lines sound in
            let behind = looked_at_stays (opened_base d0.start) (journal d0) [] (line who (Looked n)) n whole refl tt in
            ap (λ (b : Base). is_retained n b.marks) (base_there ∙ sym (base_of_one_more (opened_base d0.start) (journal d0) (line who (Looked n)))) ∙ behind

        -- a number that is not refused is not above the newest
        allowed_below : look_refused n (marks.oldest d0.core.desk.base.marks) (marks.newest d0.core.desk.base.marks) ≡ None → n ≤ marks.newest d0.core.desk.base.marks
        allowed_below e = by_test (n == 0) (nat_lt (marks.newest d0.core.desk.base.marks) n) refl e where
          by_test : (zero_there above : Bool) → nat_lt (marks.newest d0.core.desk.base.marks) n ≡ above
              → option_or (where_so (zero_there || above) (refusal.NoSuchSnapshot n (marks.newest d0.core.desk.base.marks))) (where_so (nat_lt n (marks.oldest d0.core.desk.base.marks)) (refusal.Dropped n (marks.oldest d0.core.desk.base.marks))) ≡ None
              → n ≤ marks.newest d0.core.desk.base.marks
          by_test true above a s = absurd (cc s)
          by_test false true a s = absurd (cc s)
          by_test false false a s = ltb-false (marks.newest d0.core.desk.base.marks) n a

        pub look_ok : (start : ℕ) → before ≡ [] → LookDoes is_honest state who n (Ok start) d0.core d1.core → LookGives who n Old (New (Some n) before) (Ok tt)
        look_ok start quiet does =
            let c = opened_came (Looked n) At does.looked.done.1 in (
              Since,
              adds (Looked n) (Some At) (Some n) before _ quiet c (ap (λ (l : List Line). seat.Looking (record { who = who; since = l; snapshot = Some n })) (since_is (one who (Looked n)))),
              c.front,
              retained_held d0.core.desk.base There n marks_there named (retained_there (ap (λ (l : Ledger). l.book.lines) (does.looked.done.1 ∙ ap (opened who (Looked n) At) same_given))),
              let low = allowed_below does.looked.done.0 in let high = right_there.limits.newest in omega (arith, low, high),
            )

        look_seated : (start : ℕ) → before ≡ [] → LookDoes is_honest state who n (Ok start) d0.core d1.core → IsSeated who (Some n) before s1
        look_seated start quiet does =
            let c = opened_came (Looked n) At does.looked.done.1 in
            let look : Look = record { who = who; began = length (journal d0); pins = n ∷ [] } in
            seated_looking who (Some n) before s1 look quiet refl c.work_is (λ x e. refl)

        -- a look that was refused with a line
        abbrev told_so : (why : Refusal) → before ≡ [] → d1.core.ledger ≡ with_told_line who (Refused why) (given_up who d0.core.ledger) → Adds Old (New (Some n) before) who (Refused why) seat.Idle
        told_so why quiet e = adds (Refused why) None (Some n) before seat.Idle quiet (told_came (Refused why) e) refl

        number_is : (why : Refusal) → look_refused n (marks.oldest d0.core.desk.base.marks) (marks.newest d0.core.desk.base.marks) ≡ Some why
            → (why ≡ refusal.NoSuchSnapshot n (marks.newest d0.core.desk.base.marks)) ⊎ (why ≡ refusal.Dropped n (marks.oldest d0.core.desk.base.marks))
        number_is why e = by_number ((n == 0) || nat_lt (marks.newest d0.core.desk.base.marks) n) (nat_lt n (marks.oldest d0.core.desk.base.marks)) e where
          by_number : (one other : Bool) → option_or (where_so one (refusal.NoSuchSnapshot n (marks.newest d0.core.desk.base.marks))) (where_so other (refusal.Dropped n (marks.oldest d0.core.desk.base.marks))) ≡ Some why
              → (why ≡ refusal.NoSuchSnapshot n (marks.newest d0.core.desk.base.marks)) ⊎ (why ≡ refusal.Dropped n (marks.oldest d0.core.desk.base.marks))
          by_number true other s = inl (sym (some_is _ why s))
          by_number false true s = inr (sym (some_is _ why s))
          by_number false false s = absurd (cc s)

        pub look_err : (why : Refusal) → before ≡ [] → LookDoes is_honest state who n (Err why) d0.core d1.core → LookGives who n Old (New (Some n) before) (Err why)
        look_err why quiet does = full (lines_refused (given_up who d0.core.ledger).book 2) refl where
          Gives : Refusal → Type 0
          Gives w = LookGives who n Old (New (Some n) before) (Err w)

          Told : Refusal → Type 0
          Told w = (adds_it : Adds Old (New (Some n) before) who (Refused w) seat.Idle) × (as_of n (seat.place Old (New (Some n) before) adds_it.moves) ≡ Err w)

          memory : why ≡ refusal.OutOfMemory → d1.core.ledger ≡ given_up who d0.core.ledger → Gives why
          memory m e = subst Gives (sym m) (idle_still (Some n) e)

          asked_so : (r : Option Refusal) → look_refused n (marks.oldest d0.core.desk.base.marks) (marks.newest d0.core.desk.base.marks) ≡ r → lines_refused (given_up who d0.core.ledger).book 2 ≡ None → Gives why
          asked_so None e none = let m = does.looked.memory none e in memory m.0 m.1
          asked_so (Some because) e none = ⊎_elim
              (λ (x : (why ≡ because) × (d1.core.ledger ≡ with_told_line who (Refused because) (given_up who d0.core.ledger))).
              ⊎_elim (λ (i : because ≡ refusal.NoSuchSnapshot n (marks.newest d0.core.desk.base.marks)). subst Gives (sym (x.0 ∙ i))
              (subst Told i (told_so because quiet x.1, others_refused d0.core.desk.base There n because marks_there named e)))
              (λ (i : because ≡ refusal.Dropped n (marks.oldest d0.core.desk.base.marks)). subst Gives (sym (x.0 ∙ i))
              (subst Told i (told_so because quiet x.1, others_refused d0.core.desk.base There n because marks_there named e)))
              (number_is because e))
              (λ (x : (why ≡ refusal.OutOfMemory) × (d1.core.ledger ≡ given_up who d0.core.ledger)). memory x.0 x.1)
              (does.looked.refused because none e)

          full : (r : Option Refusal) → lines_refused (given_up who d0.core.ledger).book 2 ≡ r → Gives why
          full None e = asked_so (look_refused n (marks.oldest d0.core.desk.base.marks) (marks.newest d0.core.desk.base.marks)) refl e
          full (Some because) e =
              let f = full_is (given_up who d0.core.ledger).book 2 because e in
              let l = does.looked.full because e in
              subst Gives (sym (cc l.0 ∙ f.2)) (idle_still (Some n) l.1, f.3)

        none_after : (why : Refusal) → LookDoes is_honest state who n (Err why) d0.core d1.core → (mine s1).work ≡ None
        none_after why does = full (lines_refused (given_up who d0.core.ledger).book 2) refl where
          asked_so : (r : Option Refusal) → look_refused n (marks.oldest d0.core.desk.base.marks) (marks.newest d0.core.desk.base.marks) ≡ r → lines_refused (given_up who d0.core.ledger).book 2 ≡ None → (mine s1).work ≡ None
          asked_so None e room = (given_came (does.looked.memory room e).1).work_is
          asked_so (Some because) e room = ⊎_elim (λ (x : (why ≡ because) × (d1.core.ledger ≡ with_told_line who (Refused because) (given_up who d0.core.ledger))). (told_came (Refused because) x.1).work_is)
              (λ (x : (why ≡ refusal.OutOfMemory) × (d1.core.ledger ≡ given_up who d0.core.ledger)). (given_came x.1).work_is) (does.looked.refused because room e)

          full : (r : Option Refusal) → lines_refused (given_up who d0.core.ledger).book 2 ≡ r → (mine s1).work ≡ None
          full None e = asked_so (look_refused n (marks.oldest d0.core.desk.base.marks) (marks.newest d0.core.desk.base.marks)) refl e
          full (Some because) e = (given_came (does.looked.full because e).1).work_is

        pub look_keeps : before ≡ [] → (r : Result ℕ Refusal) → LookDoes is_honest state who n r d0.core d1.core → IsSeated who (Some n) before s1
        look_keeps quiet (Ok start) does = look_seated start quiet does
        look_keeps quiet (Err why) does = still_none (Some n) quiet (none_after why does)

-- ---- ends

-- the two closing lines are one
same_closing : (kept : Option Refusal) (why : Ending) → closing kept (ending_of why) ≡ seat.closing kept why
same_closing (Some (refusal.Overlap session item)) why = refl
same_closing (Some (refusal.DiskFault device count)) why = refl
same_closing (Some _) why = refl
same_closing None ending.Asked = refl
same_closing None (ending.Refused why) = refl
same_closing None (ending.Failed device count) = refl

same_end : (why : Ending) → ended (ending_of why) ≡ seat.unlooking why
same_end ending.Asked = refl
same_end (ending.Refused why) = refl
same_end (ending.Failed device count) = refl

module _ {D : Type 0} (state : D → State) (faults : D → ℕ) (who : Who) (asked : Option ℕ) (before : List ToldFault) (s : Sat D) (seated : IsSeated who asked before s) where
  -- a fault by which something may end was told to the seat
  pub may_end : (why : Ending) → MayEnd (view_of state faults asked before s) why → EndingIsTold (ending_of why) (mine s).faults
  may_end ending.Asked may = tt
  may_end (ending.Failed device count) may = seated.told_it device count may
  may_end (ending.Refused (refusal.Overlap session item)) may = absurd may
  may_end (ending.Refused _) may = tt

module _ {D : Type 0} (is_honest : D → Type 0) (state : D → State) (faults : D → ℕ) (z : TableId) (s0 s1 : Sat D) (ready : IsReady z s0) (who : Who) (own : who.session ≡ s0.number) (asked : Option ℕ) (before after : List ToldFault) (quiet : after ≡ []) (seated : IsSeated who asked before s0) (why : Ending) where
  -- nothing is open then
  pub still_seated : (mine s1).work ≡ None → IsSeated who asked after s1
  still_seated none = subst (λ (ts : List ToldFault). IsSeated who asked ts s1) (sym quiet) (seated_none who asked s1 none)

  pub rolls_back : ((t : Transaction) → (mine s0).work ≡ Some (work.Open t) → Visits is_honest state faults z (RollbackDoes is_honest state who (ending_of why) t) s0 s1)
      → (a : seat.Attempt) → (view_of state faults asked before s0).work ≡ seat.Open a → RollbackGives why (view_of state faults asked before s0) (view_of state faults asked after s1) a
  rolls_back visits a e =
      let o = open_is asked (seen s0) (mine s0).work a e in
      let t : Transaction = o.0 in
      let v = visits t o.1 in
      let c = closed_came is_honest state faults z s0 s1 v.before v.after ready v.visited who asked before own (closing t.kept (ending_of why)) v.does.closed in
      let done : Adds (view_of state faults asked before s0) (view_of state faults asked after s1) who (closing t.kept (ending_of why)) seat.Idle =
      adds is_honest state faults z s0 s1 v.before v.after ready v.visited who asked before (closing t.kept (ending_of why)) None asked after seat.Idle quiet c refl in
      subst (λ (x : seat.Attempt). RollbackGives why (view_of state faults asked before s0) (view_of state faults asked after s1) x) o.2
      (subst (λ (w : Who). Adds (view_of state faults asked before s0) (view_of state faults asked after s1) w (seat.closing t.kept why) seat.Idle) (sym (seated.item (work.Open t) o.1))
      (subst (λ (what : What). Adds (view_of state faults asked before s0) (view_of state faults asked after s1) who what seat.Idle) (same_closing t.kept why) done))

  pub unlooks : Visits is_honest state faults z (UnlookDoes is_honest state who (ending_of why)) s0 s1
      → (l : seat.Look) → (view_of state faults asked before s0).work ≡ seat.Looking l → UnlookGives why (view_of state faults asked before s0) (view_of state faults asked after s1) l
  unlooks v l e =
      let o = looking_is asked (seen s0) (mine s0).work l e in
      let c = closed_came is_honest state faults z s0 s1 v.before v.after ready v.visited who asked before own (ended (ending_of why)) v.does.closed in
      let done : Adds (view_of state faults asked before s0) (view_of state faults asked after s1) who (ended (ending_of why)) seat.Idle =
      adds is_honest state faults z s0 s1 v.before v.after ready v.visited who asked before (ended (ending_of why)) None asked after seat.Idle quiet c refl in
      subst (λ (x : seat.Look). UnlookGives why (view_of state faults asked before s0) (view_of state faults asked after s1) x) o.2
      (subst (λ (w : Who). Adds (view_of state faults asked before s0) (view_of state faults asked after s1) w (seat.unlooking why) seat.Idle) (sym (seated.item (work.Looking o.0) o.1))
      (subst (λ (what : What). Adds (view_of state faults asked before s0) (view_of state faults asked after s1) who what seat.Idle) (same_end why) done))
