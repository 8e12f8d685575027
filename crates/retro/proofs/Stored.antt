-- Runs over the store on four devices.
use Rattle.std.proofs.Common.{◌≡◌, ◌⊎◌, ◌<◌, ◌≤◌, ◌+◌, ◌++◌, ℕ, zero, suc, Bool, true, false, List, [], ◌∷◌, length, length-append, append-nil, append_assoc, slice_get, map, Option, Some, None, Result, Ok, Err, inl, inr, refl, sym, ap, subst, ◌∙◌, arith, if◌then◌else◌}
use Rattle.std.specs.Prelude.{IfOk, IfSome, nat_lt}
use Rattle.std.specs.List.{AllByRecursion}
use Rattle.std.proofs.lemmas.Option.{slice_get_within}
use Rattle.atomic_table.specs.Seated.{TableId}
use Rattle.disk_model.specs.Disk.{State}
use Rattle.disk_model.specs.Moments.{Clock}
use Rattle.disk_model.specs.declared.four.Four.{Four}
use Rattle.retro_base.specs.declared.device.Device.{Device}
use Rattle.retro_base.specs.declared.device.Device.TheVariants.{Log, Pages, Pagelog, Maplog, Cabinet}
use Rattle.retro_base.specs.declared.limits.TheConstants.{SESSIONS}
use Rattle.history.specs.declared.entry.Change.{Change}
use Rattle.history.specs.declared.entry.Mark.{Mark as MarkOf}
use Rattle.history.specs.declared.journal.Line.{Line}
use Rattle.history.specs.declared.log.Version.{Version}
use Rattle.history.specs.declared.log.Version.TheVariants.{One}
use Rattle.history.specs.History.{now}
use Rattle.history.specs.Journal.{after_journal, changes_of}
use Rattle.history.specs.Lines.{FaultsDiffer, base_of, doubt_in, lines_of}
use Rattle.history.specs.declared.entry.Base.{Base}
use Rattle.history.proofs.Lines.{base_after_journal}
use Rattle.desk.proofs.Sent.{count_stays}
use Rattle.history.specs.Marks.{newest}
use Rattle.opening.specs.Devices.{AreHonest, AreImages, SameCounts, of_each, seen_of}
use Rattle.opening.specs.Opening.{Hold}
use Rattle.opening.proofs.OneWay.{are_read_one_way}
use Rattle.replay.specs.Opened.{Contents, opened}
use Rattle.archive.specs.Archive.{Running}
use Rattle.journal_law.specs.Facts.{HasSeen}
use Rattle.journal_law.specs.Language.{after_of}
use Rattle.journal_law.specs.Lawful.{Ground, IsCounted}
use Rattle.journal_law.specs.Pages.{Pages as PagesOf, page_world}
use Rattle.journal_law.specs.Seats.{Idle, View, Waits}
use Rattle.journal_law.specs.Shows.{Shows as ShowsTables, world as tables_behind}
use Rattle.journal_law.proofs.Journal.{along_end}
use Rattle.journal_law.specs.World.{Mark, World, behind, newest_behind}
use Rattle.journal_law.specs.World as world
use Rattle.tables.specs.Tables.{Tables}
use Rattle.session.specs.Plan.{Plan, PlanFits, SessionsFit, item_of, tasks_at}
use Rattle.session.specs.Replies.{kept_by_place}
use Rattle.session.specs.Sql.{sql}
use Rattle.session.specs.declared.kept.Kept.{Kept}
use Rattle.store_core.specs.declared.desk_core.Core.{Core}
use Rattle.turn.specs.Faults.{count_of}
use Rattle.turn.specs.Seats.{mine, opening, seen}
use Rattle.turn.specs.Views.{longer}
use Rattle.store.specs.declared.closing.Closed.{Closed}
use Rattle.store.specs.declared.start.Start.{Start}
use Rattle.store.specs.Closing.{AreReady, Closes, ClosesCopied, HasCopiedAt, HasNoCopier, HaveMet, resting}
use Rattle.store.specs.Crashes.{CrashesMap}
use Rattle.store.specs.Opening.{BeginsWith, disks_of}
use Rattle.store.specs.Seats.{IsReady, IsWhole, Sat, journal}
use Rattle.store.specs.Start.{AreAsHonest, AreJustOpened, AreOpenedTo, IsAsHonest, IsStartOf, Origin, desk_counts, opened_base, vault_counts}
use Rattle.store.specs.Recovery.{ClosedShows, CrashesShow, HoldShown, OpeningShows, changed_world, what_of}
use Rattle.store.specs.Frames.{GoesOn}
use Rattle.store.specs.Ground.{ground_of, past_of, world_of}
use Rattle.store.specs.Seen.{IsHonest, ground_in, work_in}
use Rattle.store.specs.Worlds.{IsWorldOf}
use Rattle.store.specs.declared.held.Held.{Held}
use Rattle.retro.specs.Phases.{AllMet, HasComeTo, HaveSeats, IsFresh, LeavesJournal, LeftLawful, RepliedOver, StandTogether}
use Rattle.retro.specs.Slots.{AllCome, AreHonest as AllHonest, AreSeated, AreTogether, SitsAt, seat_in, view_at}
use Rattle.store.specs.WorkerRounds.{IsFreshOrStopped, TellsFirst, WorkerLeaves, worker}
use Rattle.store.proofs.Coming.{idle_view}
use Rattle.store.proofs.WorkerEnds.{waits_none}
use Rattle.retro.specs.Working.{MayWorkOn}
use Rattle.retro.specs.declared.working.TheConstants.{SEATS}
use Rattle.retro.specs.Steps.{RunsPhases}
use Rattle.retro.specs.Storing.{AllRest, AreFresh, AreHeld, AreIn, AreOf, ComeFrom, HasStood, IsAmong, IsHeld, IsUncopied, Leaves, MayRest, OpenAs, OpensAt, OpensShowing, AreLeft, IsBaseOf, last_phase, opening_with, store_of, view_held}
use Rattle.retro.specs.declared.slots.Slot.{Slot}
use Rattle.retro.specs.declared.storing.Ended.{Ended}
use Rattle.retro.proofs.Chained.{base_count, opens_base, shows_one, worlds_one}
use Rattle.retro.proofs.Doubted.{doubted}
use Rattle.retro.proofs.Copied.{HaveWorked, come_copied, stand_copied}
use Rattle.retro.proofs.Phased.{come_later, ends_at, later, less_or_not, no_session, phases_make_runs}
use Rattle.retro.proofs.Seated.{one_seat, seat_within, sees}
use Rattle.retro.proofs.Stepped.{there_is}

-- ---- lists by their places

pub all_at : {A : Type 0} (P : A → Type 0) (xs : List A) → ((k : ℕ) (x : A) → slice_get xs k ≡ Some x → P x) → AllByRecursion P xs
all_at P [] at = tt
all_at P (x ∷ xs) at = (at 0 x refl, all_at P xs (λ k y there. at (suc k) y there))

-- the next of a list of which these came before
pub next_at : {A : Type 0} (xs : List A) (x : A) (rest : List A) → slice_get (xs ++ x ∷ rest) (length xs) ≡ Some x
next_at [] x rest = refl
next_at (y ∷ xs) x rest = next_at xs x rest

-- what was in a list stays at its place
pub still_at : {A : Type 0} (xs more : List A) (k : ℕ) (x : A) → slice_get xs k ≡ Some x → slice_get (xs ++ more) k ≡ Some x
still_at [] more k x there = absurd (cc there)
still_at (y ∷ xs) more zero x there = there
still_at (y ∷ xs) more (suc k) x there = still_at xs more k x there

pub none_in : {A : Type 0} (xs : List A) → length xs ≡ 0 → xs ≡ []
none_in [] e = refl
none_in (x ∷ xs) e = absurd (omega (arith, e))

if_ok : {V E : Type 0} {P Q : V → Type 0} (t : Result V E) → IfOk t P → ((v : V) → P v → Q v) → IfOk t Q
if_ok (Ok v) p f = f v p
if_ok (Err e) p f = tt

pub longer_is : (xs ys : List Line) → (longer xs ys ≡ xs) ⊎ (longer xs ys ≡ ys)
longer_is xs ys = by_test (nat_lt (length xs) (length ys))
  where
    by_test : (b : Bool) → ((if b then ys else xs) ≡ xs) ⊎ ((if b then ys else xs) ≡ ys)
    by_test true = inr refl
    by_test false = inl refl

-- ---- seats in their slots

module _ {R D : Type 0} (state : D → State) (faults : D → ℕ) (z : TableId) where
  pub held_on : (seats : List (Sat D)) (slots : List (Slot (Held R D))) (seat : Sat D) (slot : Slot (Held R D)) (held : Held R D) → AreHeld state faults z seats slots → slot.seat ≡ Some held → IsHeld state faults z seat held
      → AreHeld state faults z (seats ++ seat ∷ []) (slots ++ slot ∷ [])
  held_on [] [] seat slot held are there is = ((held, there, is), tt)
  held_on (s ∷ ss) (h ∷ hs) seat slot held are there is = (are.0, held_on ss hs seat slot held are.1 there is)
  held_on [] (h ∷ hs) seat slot held are there is = absurd are
  held_on (s ∷ ss) [] seat slot held are there is = absurd are

  pub held_long : (seats : List (Sat D)) (slots : List (Slot (Held R D))) → AreHeld state faults z seats slots → length slots ≡ length seats
  held_long [] [] are = refl
  held_long (s ∷ ss) (h ∷ hs) are = ap suc (held_long ss hs are.1)
  held_long [] (h ∷ hs) are = absurd are
  held_long (s ∷ ss) [] are = absurd are

  held_at : (seats : List (Sat D)) (slots : List (Slot (Held R D))) (k : ℕ) (s : Sat D) → AreHeld state faults z seats slots → slice_get seats k ≡ Some s → (held : Held R D) × SitsAt slots k held × IsHeld state faults z s held
  held_at (s ∷ ss) (h ∷ hs) zero t are there = (are.0.0, are.0.1, subst (λ (x : Sat D). IsHeld state faults z x are.0.0) (one_seat (Sat D) s t there) are.0.2)
  held_at (s ∷ ss) (h ∷ hs) (suc k) t are there = held_at ss hs k t are.1 there
  held_at [] slots k t are there = absurd (cc there)
  held_at (s ∷ ss) [] k t are there = absurd are

  module _ (pages : ℕ) (seats : List (Sat D)) (slots : List (Slot (Held R D))) (are : AreHeld state faults z seats slots) (fresh : AreFresh pages seats) where
    -- the seat in a slot
    pub in_slot : (k : ℕ) → k < length slots → (s : Sat D) × (held : Held R D) × (slice_get seats k ≡ Some s) × SitsAt slots k held × IsHeld state faults z s held
    in_slot k less =
        let one = there_is seats k (subst (λ (n : ℕ). k < n) (held_long seats slots are) less) in
        let two = held_at seats slots k one.0 are one.1 in
        (one.0, two.0, one.1, two.1, two.2)

    pub all_seated : AreSeated (view_held state faults) slots
    all_seated k less =
        let there = in_slot k less in
        record { seat = there.1; sits = there.3; number_is = there.4.number_is ∙ (fresh k there.0 there.2).1; idle = there.4.idle }

    -- no seat has recorded a line
    pub all_fresh : MayWorkOn (view_held state faults) slots
    all_fresh k behind less =
        let there = in_slot k less in
        subst IsFreshOrStopped (sym (sees (Held R D) (view_held state faults) slots k there.1 there.3))
        (inl (ap (λ (lines : List Line). lines_of (view_held state faults there.1).session lines) (there.4.front_is ∙ (fresh k there.0 there.2).3)))

    of_store : (k : ℕ) (held : Held R D) → SitsAt slots k held → store_of held ≡ z
    of_store k held sits =
        let there = in_slot k (seat_within slots k held sits) in
        subst (λ (h : Held R D). store_of h ≡ z) (one_seat (Held R D) there.1 held (sym there.3 ∙ sits)) there.4.store_is

    pub all_together : AreTogether (λ (h k : Held R D). store_of k ≡ store_of h) slots
    all_together number other s t one two apart = of_store other t two ∙ sym (of_store number s one)

    pub all_honest : (is_honest : D → Type 0) → ((k : ℕ) (s : Sat D) → slice_get seats k ≡ Some s → IsHonest is_honest state s) → AllHonest (λ (h : Held R D). IsHonest is_honest state h.seat) slots
    all_honest is_honest each k held sits =
        let there = in_slot k (seat_within slots k held sits) in
        subst (λ (h : Held R D). IsHonest is_honest state h.seat) (one_seat (Held R D) there.1 held (sym there.3 ∙ sits))
        (subst (λ (s : Sat D). IsHonest is_honest state s) (sym there.4.seat_is) (each k there.0 there.2))

    -- they stand before the first phase
    pub all_begin : (plan : Plan) (ground : Ground) → ((k : ℕ) (s : Sat D) → slice_get seats k ≡ Some s → ground_in state faults (opening s) ≡ ground)
        → StandTogether ground.base.page_count plan ground (length slots) 1 [] (view_at (view_held state faults) slots)
    all_begin plan ground each = (phases_make_runs ground.base.page_count).starts plan ground (length slots) (view_at (view_held state faults) slots) (λ k less.
        let there = in_slot k less in
        let new = fresh k there.0 there.2 in
        subst (IsFresh ground k) (sym (sees (Held R D) (view_held state faults) slots k there.1 there.3)) (record {
          number_is = there.4.number_is ∙ new.1;
          ground_is = ap (λ (s : Sat D). ground_in state faults (opening s)) there.4.seat_is ∙ each k there.0 there.2;
          none = there.4.front_is ∙ new.3;
          idle = there.4.idle;
        }))

    -- a seat in its slot rests
    rests_in : (new : List (Slot (Held R D))) (k : ℕ) → k < length new → (held : Held R D) → SitsAt new k held → (view_held state faults held).session ≡ k → (view_held state faults held).work ≡ Idle → MayWorkOn (view_held state faults) new
        → MayRest state faults held.seat
    rests_in new k less held sits number idle may =
        let quiet = idle_view state faults held.who held.asked held.told.items held.seat held.seated idle in (
          quiet.0,
          λ behind.
              subst IsFreshOrStopped (sees (Held R D) (view_held state faults) new k held sits ∙ quiet.1) (may k (subst (λ (n : ℕ). SESSIONS ≤ n) number behind) less),
        )

    -- and they come back in their slots
    pub all_in : (new : List (Slot (Held R D))) → AllCome (view_held state faults) (λ (h k : Held R D). GoesOn (store_of h) (store_of k) h.seat k.seat) slots new → MayWorkOn (view_held state faults) new → AreIn state faults z new
    all_in new come may = all_at _ new (λ k slot there.
        let less = slice_get_within new k slot there in
        let is = come.seated k less in
        let was = in_slot k (subst (λ (n : ℕ). k < n) come.count less) in
        (is.seat, sym (ap seat_in there) ∙ is.sits, (come.each k was.1 is.seat was.3 is.sits).store ∙ was.4.store_is, rests_in new k less is.seat is.sits is.number_is is.idle may))

    pub all_stood : {E : Type 0} (plan : Plan) (ground : Ground) (new : List (Slot (Held R D))) (left : List (Sat D)) (kept : Result (List (List (List Kept))) E)
        → AllCome (view_held state faults) (λ (h k : Held R D). GoesOn (store_of h) (store_of k) h.seat k.seat) slots new → ((number : ℕ) → IsAmong new left number) → AreOf new left
        → RunsPhases plan ground (length slots) (view_at (view_held state faults) new) kept → ComeFrom state faults plan ground (length seats) left kept
    all_stood plan ground new left kept come among of runs = record {
      views = view_at (view_held state faults) new;
      each = λ number less.
          let is = come.seated number (subst (λ (n : ℕ). number < n) (sym (held_long seats slots are) ∙ sym come.count) less) in
          let there = among number is.seat is.sits in
          record {
            seat = is.seat.seat;
            place = there.0;
            there = there.1;
            number_is = is.number_is;
            view_is = sees (Held R D) (view_held state faults) new number is.seat is.sits
                ∙ (idle_view state faults is.seat.who is.seat.asked is.seat.told.items is.seat.seat is.seat.seated is.idle).1;
          };
      places = λ k s there.
          let one = of k s there in
          let less = seat_within new one.0 one.1 one.2 in
          let is = come.seated one.0 less in
          let here : is.seat ≡ one.1 = one_seat (Held R D) is.seat one.1 (sym is.sits ∙ one.2) in (
            one.0,
            subst (λ (n : ℕ). one.0 < n) (come.count ∙ held_long seats slots are) less,
            sees (Held R D) (view_held state faults) new one.0 is.seat is.sits
                ∙ (idle_view state faults is.seat.who is.seat.asked is.seat.told.items is.seat.seat is.seat.seated is.idle).1
                ∙ ap (λ (h : Held R D). resting state faults h.seat) here ∙ ap (resting state faults) one.3,
          );
      runs = subst (λ (n : ℕ). RunsPhases plan ground n (view_at (view_held state faults) new) kept) (held_long seats slots are) runs;
    }

-- ---- seats that were not sat down

-- no seat has run: so they stand before the first phase
pub none_stood : {D E : Type 0} (state : D → State) (faults : D → ℕ) (plan : Plan) (ground : Ground) (pages : ℕ) (seats : List (Sat D)) (why : E) → AreFresh pages seats → ((k : ℕ) (s : Sat D) → slice_get seats k ≡ Some s → ground_in state faults (opening s) ≡ ground)
    → ComeFrom {E = E} state faults plan ground (length seats) seats (Err why)
none_stood {D = D} state faults plan ground pages seats why fresh each = record {
  views = sight;
  each = λ number less.
      let one = there_is seats number less in
      record { seat = one.0; place = number; there = one.1; number_is = (fresh number one.0 one.1).1; view_is = rests number one.0 one.1 };
  places = λ k s there. (k, slice_get_within seats k s there, rests k s there);
  runs = (1, [], omega arith, (phases_make_runs ground.base.page_count).starts plan ground (length seats) sight (λ k less. record { number_is = refl; ground_is = refl; none = refl; idle = refl }));
}
  where
    sight : ℕ → View
    sight number = record { session = number; opened = ground; front = []; work = Idle; told = [] }

    rests : (number : ℕ) (s : Sat D) → slice_get seats number ≡ Some s → sight number ≡ resting state faults s
    rests number s there =
        let new = fresh number s there in
        let opens = each number s there in
        let work : Idle ≡ work_in None (seen s) (mine s).work = sym (ap (work_in None (seen s)) new.2) in
        λ i. record { session = sym new.1 i; opened = sym opens i; front = sym new.3 i; work = work i; told = [] }

-- such a seat rests
pub fresh_rest : {D : Type 0} (state : D → State) (faults : D → ℕ) (pages : ℕ) (seats : List (Sat D)) → AreFresh pages seats → AllRest state faults seats
fresh_rest state faults pages seats fresh k s there =
    let new = fresh k s there in
    (new.2, λ behind. inl (ap (λ (lines : List Line). lines_of s.number lines) new.3))

-- ---- seats out of their slots

-- So far these came out of the slots behind, the last first.
pub record HaveRisen {R D : Type 0} (state : D → State) (faults : D → ℕ) (z : TableId) (slots left gone : List (Slot (Held R D))) (seats : List (Sat D)) : Type 0 where
  pub split : slots ≡ left ++ gone
  pub ready : AreReady z seats
  pub rest : AllRest state faults seats
  pub among : (number : ℕ) → IsAmong gone seats number
  pub of : AreOf gone seats
  pub count : length seats ≡ length gone

module _ {R D : Type 0} (state : D → State) (faults : D → ℕ) (z : TableId) where
  pub none_risen : (slots : List (Slot (Held R D))) (seats : List (Sat D)) → seats ≡ [] → HaveRisen state faults z slots slots [] seats
  none_risen slots seats none = subst (λ (ss : List (Sat D)). HaveRisen state faults z slots slots [] ss) (sym none) (record {
    split = sym (append-nil slots);
    ready = λ k s there. absurd (cc there);
    rest = λ k s there. absurd (cc there);
    among = λ number held there. absurd (cc there);
    of = λ k s there. absurd (cc there);
    count = refl;
  })

  -- the last of those that are left comes out
  pub one_risen : (slots left next gone : List (Slot (Held R D))) (slot : Slot (Held R D)) (held : Held R D) (seats : List (Sat D)) → HaveRisen state faults z slots left gone seats → left ≡ next ++ slot ∷ [] → slot.seat ≡ Some held
      → IsReady z held.seat × IsWhole held.seat → MayRest state faults held.seat → HaveRisen state faults z slots next (slot ∷ gone) (seats ++ held.seat ∷ [])
  one_risen slots left next gone slot held seats so_far last sat ready rest = record {
    split = so_far.split ∙ ap (λ (xs : List (Slot (Held R D))). xs ++ gone) last ∙ append_assoc next (slot ∷ []) gone;
    ready = λ k s there. by_place k s there (last_or seats held.seat k s there);
    rest = λ k s there. rest_by k s there (last_or seats held.seat k s there);
    among = among;
    of = λ k s there. of_by k s (last_or seats held.seat k s there);
    count = length-append seats (held.seat ∷ []) ∙ ap (λ (n : ℕ). n + 1) so_far.count ∙ add_one (length gone);
  }
    where
      add_one : (n : ℕ) → n + 1 ≡ suc n
      add_one n = omega arith

      last_or : (xs : List (Sat D)) (x : Sat D) (k : ℕ) (s : Sat D) → slice_get (xs ++ x ∷ []) k ≡ Some s → (slice_get xs k ≡ Some s) ⊎ (x ≡ s)
      last_or [] x zero s there = inr (one_seat (Sat D) x s there)
      last_or [] x (suc k) s there = absurd (cc there)
      last_or (y ∷ ys) x zero s there = inl there
      last_or (y ∷ ys) x (suc k) s there = last_or ys x k s there

      by_place : (k : ℕ) (s : Sat D) → slice_get (seats ++ held.seat ∷ []) k ≡ Some s → (slice_get seats k ≡ Some s) ⊎ (held.seat ≡ s) → IsReady z s × IsWhole s
      by_place k s there (inl before) = so_far.ready k s before
      by_place k s there (inr it) = subst (λ (t : Sat D). IsReady z t × IsWhole t) it ready

      rest_by : (k : ℕ) (s : Sat D) → slice_get (seats ++ held.seat ∷ []) k ≡ Some s → (slice_get seats k ≡ Some s) ⊎ (held.seat ≡ s) → MayRest state faults s
      rest_by k s there (inl before) = so_far.rest k s before
      rest_by k s there (inr it) = subst (MayRest state faults) it rest

      of_by : (k : ℕ) (s : Sat D) → (slice_get seats k ≡ Some s) ⊎ (held.seat ≡ s) → (number : ℕ) × (other : Held R D) × SitsAt (slot ∷ gone) number other × (other.seat ≡ s)
      of_by k s (inl before) = let one = so_far.of k s before in (suc one.0, one.1, one.2, one.3)
      of_by k s (inr it) = (0, held, sat, it)

      among : (number : ℕ) → IsAmong (slot ∷ gone) (seats ++ held.seat ∷ []) number
      among zero other sits = (length seats, subst (λ (h : Held R D). slice_get (seats ++ held.seat ∷ []) (length seats) ≡ Some h.seat) (one_seat (Held R D) held other (sym sat ∙ sits)) (next_at seats held.seat []))
      among (suc number) other sits = let there = so_far.among number other sits in (there.0, still_at seats (held.seat ∷ []) there.0 other.seat there.1)

  pub seat_risen : (slots left next gone : List (Slot (Held R D))) (slot : Slot (Held R D)) (held : Held R D) (seats : List (Sat D)) (seat : Sat D) → HaveRisen state faults z slots left gone seats → left ≡ next ++ slot ∷ [] → slot.seat ≡ Some held
      → (store_of held ≡ z) × MayRest state faults held.seat → IsReady (store_of held) seat × IsWhole seat → seat ≡ held.seat → HaveRisen state faults z slots next (slot ∷ gone) (seats ++ seat ∷ [])
  seat_risen slots left next gone slot held seats seat so_far last sat store ready is =
      subst (λ (s : Sat D). HaveRisen state faults z slots next (slot ∷ gone) (seats ++ s ∷ [])) (sym is)
      (one_risen slots left next gone slot held seats so_far last sat (subst (λ (s : Sat D). IsReady z s × IsWhole s) is (subst (λ (y : TableId). IsReady y seat) store.0 ready.0, ready.1)) store.1)

  -- there is room for one that is left
  pub room_left : (slots left next gone : List (Slot (Held R D))) (slot : Slot (Held R D)) (seats : List (Sat D)) → HaveRisen state faults z slots left gone seats → left ≡ next ++ slot ∷ [] → length seats < length slots
  room_left slots left next gone slot seats so_far last =
      let count = so_far.count in
      let whole = ap length so_far.split ∙ length-append left gone in
      let one = ap length last ∙ length-append next (slot ∷ []) in
      omega (arith, count, whole, one)

  -- none is left
  pub all_risen : (slots left gone : List (Slot (Held R D))) (seats : List (Sat D)) → HaveRisen state faults z slots left gone seats → length left ≡ 0 → (length seats ≡ length slots) × AreReady z seats × AllRest state faults seats × ((number : ℕ) → IsAmong slots seats number) × AreOf slots seats
  all_risen slots [] gone seats so_far none = (
    so_far.count ∙ ap length (sym so_far.split),
    so_far.ready,
    so_far.rest,
    λ number. subst (λ (xs : List (Slot (Held R D))). IsAmong xs seats number) (sym so_far.split) (so_far.among number),
    subst (λ (xs : List (Slot (Held R D))). AreOf xs seats) (sym so_far.split) so_far.of,
  )
  all_risen slots (x ∷ left) gone seats so_far none = absurd (omega (arith, none))

  -- the last slot that is left has a seat of the store
  pub last_in : (slots left next gone : List (Slot (Held R D))) (slot : Slot (Held R D)) (seats : List (Sat D)) → HaveRisen state faults z slots left gone seats → left ≡ next ++ slot ∷ [] → AreIn state faults z slots
      → (held : Held R D) × (slot.seat ≡ Some held) × (store_of held ≡ z) × MayRest state faults held.seat
  last_in slots left next gone slot seats so_far last are =
      among_all next (subst (AreIn state faults z) (so_far.split ∙ ap (λ (xs : List (Slot (Held R D))). xs ++ gone) last ∙ append_assoc next (slot ∷ []) gone) are)
    where
      among_all : (xs : List (Slot (Held R D))) → AreIn state faults z (xs ++ slot ∷ gone) → (held : Held R D) × (slot.seat ≡ Some held) × (store_of held ≡ z) × MayRest state faults held.seat
      among_all [] all = all.0
      among_all (x ∷ xs) all = among_all xs all.1

-- ---- the store, opened and closed

-- the newest snapshot, by the log and by the pages
pub newest_same : {D : Type 0} (state : D → State) (core : Core D) (archive : Running D) → newest core.desk.base.marks ≡ world.newest (world_of state core archive)
newest_same state core archive = at core.desk.base.marks
  where
    at_mark : MarkOf → Mark PagesOf
    at_mark mark = record { number = mark.number; label = mark.label; held = past_of state core archive mark.start }

    behind : (m : MarkOf) (ms : List MarkOf) → newest (m ∷ ms) ≡ newest_behind m.number (map at_mark ms)
    behind m [] = refl
    behind m (n ∷ ms) = behind n ms

    at : (ms : List MarkOf) → newest ms ≡ newest_behind 0 (map at_mark ms)
    at [] = refl
    at (m ∷ ms) = behind m ms

have_seats : (plan : Plan) → AllByRecursion SessionsFit plan → HaveSeats plan SEATS × HaveSeats plan SESSIONS
have_seats [] fit = (tt, tt)
have_seats (sessions ∷ plan) fit = let few = fit.0.0 in let rest = have_seats plan fit.1 in ((omega (arith, few), rest.0), (few, rest.1))

module _ {D : Type 0} (extent faults : D → ℕ) (is_honest : D → Type 0) (remembers : Type 0) (state : D → State) (clock : D → Clock) (disks : Four D) (start : Start D) (seats : List (Sat D))
    (begun : BeginsWith extent faults is_honest remembers state clock One disks start seats) where
  abbrev Opened : Ground
  Opened = ground_of state faults start

  just_from : (s : Start D) → s.core.value ≡ begun.core → s.archive.value ≡ begun.archive → AreJustOpened is_honest state s.core.value s.archive.value
  just_from s core archive =
      let o = begun.opened.opened in
      record {
        origin = o.origin;
        opened = subst (λ (c : Core D). AreOpenedTo is_honest state c s.archive.value o.origin) (sym core) (subst (λ (a : Running D). AreOpenedTo is_honest state begun.core a o.origin) (sym archive) o.opened);
        lines = ap (λ (c : Core D). c.ledger.book.lines) core ∙ o.lines;
        works = ap (λ (c : Core D). c.ledger.works.slots) core ∙ o.works;
        workers = ap (λ (c : Core D). c.ledger.book.workers) core ∙ o.workers;
        held = subst (λ (c : Core D). c.desk.queue.first ≤ s.archive.value.side.held) (sym core) (subst (λ (a : Running D). begun.core.desk.queue.first ≤ a.side.held) (sym archive) o.held);
        slots = subst (λ (a : Running D). a.side.log.capacity ≡ a.pagelog.blocks) (sym archive) o.slots;
      }

  same_ground : (s : Start D) → s.core.value ≡ begun.core → s.archive.value ≡ begun.archive → ground_of state faults s ≡ Opened
  same_ground s core archive =
      ap (λ (c : Core D). by_two c s.archive.value) (core ∙ sym begun.begins.0) ∙ ap (λ (a : Running D). by_two start.core.value a) (archive ∙ sym begun.begins.1)
    where
      by_two : Core D → Running D → Ground
      by_two c a = record { base = c.desk.base; pages = world_of state c a; faults = count_of (desk_counts faults c) (vault_counts faults a) }

  -- each seat tells that opening
  pub each_opened : AreHonest is_honest disks → (k : ℕ) (s : Sat D) → slice_get seats k ≡ Some s → IsHonest is_honest state s × (ground_in state faults (opening s) ≡ Opened)
  each_opened honest k s there = (by_option (opening s) (begun.each k s there), ground_by (opening s) (begun.each k s there))
    where
      by_option : (o : Option (Start D)) → IsStartOf begun.core begun.archive o → IfSome o (λ start. (is_honest start.core.value.desk.pool.file.disk × is_honest start.archive.value.pagelog.disk) × AreJustOpened is_honest state start.core.value start.archive.value)
      by_option (Some t) is = (
        (subst (λ (c : Core D). is_honest c.desk.pool.file.disk) (sym is.0) (begun.read.honest.0 honest.pages), subst (λ (a : Running D). is_honest a.pagelog.disk) (sym is.1) (begun.read.pagelog.same.honest.0 honest.pagelog)),
        just_from t is.0 is.1,
      )
      by_option None is = absurd is

      ground_by : (o : Option (Start D)) → IsStartOf begun.core begun.archive o → ground_in state faults o ≡ Opened
      ground_by (Some t) is = same_ground t is.0 is.1
      ground_by None is = absurd is

  pub counts_so : SameCounts (of_each faults disks) Opened.faults
  counts_so device = at device ∙ begun.counts device
    where
      of_core : of_each faults (disks_of start.core.value start.archive.value) ≡ of_each faults (disks_of begun.core begun.archive)
      of_core = ap (λ (c : Core D). of_each faults (disks_of c start.archive.value)) begun.begins.0 ∙ ap (λ (a : Running D). of_each faults (disks_of begun.core a)) begun.begins.1

      each : (d : Device) → Opened.faults d ≡ of_each faults (disks_of start.core.value start.archive.value) d
      each Log = refl
      each Pages = refl
      each Pagelog = refl
      each Maplog = refl
      each Cabinet = refl

      at : (d : Device) → Opened.faults d ≡ of_each faults (disks_of begun.core begun.archive) d
      at d = each d ∙ ap (λ (f : Device → ℕ). f d) of_core

  pub opens_so : OpeningShows is_honest state → AreHonest is_honest disks → OpenAs (seen_of state disks) Opened
  unfolding just_from
  opens_so opening_shows honest =
      let o = begun.opened.opened in
      let just = just_from start begun.begins.0 begun.begins.1 in
      record {
        contents = begun.opened.contents;
        hold = begun.opened.are.hold honest;
        joined = begun.opened.are.joined;
        base = ap (λ (x : Origin). (now x.history).base) (sym begun.opened.origin) ∙ o.opened.base ∙ ap (λ (c : Core D). c.desk.base) (sym begun.begins.0);
        shown = subst (λ (x : Origin). IsWorldOf x.history Opened.pages) begun.opened.origin
            (opening_shows start.core.value start.archive.value just (subst (λ (c : Core D). is_honest c.desk.pool.file.disk) (sym begun.begins.0) (begun.read.honest.0 honest.pages))
            (subst (λ (a : Running D). is_honest a.pagelog.disk) (sym begun.begins.1) (begun.read.pagelog.same.honest.0 honest.pagelog)));
      }

  module _ (limit : ℕ) (limit_is : limit ≡ SEATS) (z : TableId) (plan : Plan) (risen : List (Sat D)) (left : Closed D) (copied : Bool) (closes : ClosesCopied is_honest state faults z remembers clock start limit (last_phase plan) risen left copied) where
    abbrev Last : Closes is_honest state faults start limit closes.last left
    Last = closes.ends.closes

    version_is : (honest : AreHonest is_honest disks) → begun.opened.opened.origin.log ≡ One
    version_is honest = sym (begun.honestly honest).in_version ∙ ap (λ (x : Origin). x.maplog) begun.opened.origin

    pub crashes_so : ClosedShows is_honest state faults → AreHonest is_honest disks → CrashesShow state One (page_world Opened.pages left.journal) left.journal left.disks
    unfolding just_from
    crashes_so closed_shows honest =
        subst (λ (v : Version). CrashesShow state v (page_world Opened.pages left.journal) left.journal left.disks) (version_is honest)
        (closed_shows start limit closes.last left Last (just_from start begun.begins.0 begun.begins.1) (begun.honestly honest))

    -- the devices that come back are as honest
    pub honest_so : AreHonest is_honest disks → AreHonest is_honest left.disks
    honest_so honest =
        let first = (begun.honestly honest).honest in
        let desk = subst (λ (s : Start D). AreAsHonest is_honest s.core.value Last.side.core) Last.begun Last.stands.honest in
        let vault = subst (λ (s : Start D). IsAsHonest is_honest s.archive.value Last.archive) Last.begun Last.vault.honest in
        subst (λ (d : Four D). AreHonest is_honest d) (sym Last.disks) (record {
          log = desk.log.0 first.log;
          pages = desk.pages.0 first.pages;
          pagelog = vault.pagelog.0 first.pagelog;
          maplog = vault.maplog.0 first.maplog;
        })

    pub maps_so : AreHonest is_honest disks → copied ≡ true → CrashesMap state One (base_of Opened.base left.journal).captures left.disks
    maps_so honest all =
        subst (λ (v : Version). CrashesMap state v (base_of Opened.base left.journal).captures left.disks) (version_is honest)
        (subst (λ (j : List Line). CrashesMap state begun.opened.opened.origin.log (base_of Opened.base j).captures left.disks) (sym Last.lines)
        (subst (λ (s : Start D). CrashesMap state begun.opened.opened.origin.log (base_of (opened_base s) (journal Last.side)).captures left.disks) Last.begun
        (Last.maps begun.opened.opened.origin (begun.honestly honest) (closes.ends.told.0 all))))

    -- ---- the next run

    module _ (closed_shows : ClosedShows is_honest state faults) (honest : AreHonest is_honest disks) (devices : Four (List ℕ)) (ground : Ground) (images : AreImages state left.disks devices) (opens : OpenAs devices ground) where
      base_so : IsBaseOf ground.base (base_of Opened.base left.journal) (doubt_in left.journal)
      base_so =
          let origin = begun.opened.opened.origin in
          let J = journal Last.side in
          let holds = Last.crashes origin (begun.honestly honest) devices images in
          let one : holds.contents ≡ opens.contents = are_read_one_way.one_store One devices holds.contents opens.contents (subst (λ (v : Version). Hold v devices holds.contents) (version_is honest) holds.hold) opens.hold in
          let started : (now origin.history).base ≡ Opened.base = begun.opened.opened.opened.base ∙ ap (λ (c : Core D). c.desk.base) (sym begun.begins.0) in
          let found : (now (opened holds.contents)).base ≡ ground.base = ap (λ (c : Contents). (now (opened c)).base) one ∙ opens.base in
          let behind : (now (after_journal origin.history J)).base ≡ base_of Opened.base J = base_after_journal origin.history J ∙ ap (λ (b : Base). base_of b J) started in
          subst (λ (j : List Line). IsBaseOf ground.base (base_of Opened.base j) (doubt_in j)) (sym Last.lines)
          (subst (λ (b : Base). IsBaseOf ground.base b (doubt_in J)) behind
          (subst (λ (b : Base). IsBaseOf b (now (after_journal origin.history J)).base (doubt_in J)) found
          (opens_base holds.contents (after_journal origin.history J) (doubt_in J) holds.opens)))

      count_so : ground.base.page_count ≡ Opened.base.page_count
      count_so =
          base_count ground.base (base_of Opened.base left.journal) (doubt_in left.journal) base_so ∙ count_stays (changes_of Opened.base left.journal) Opened.base

      -- the pages behind the journal, or behind the change in doubt
      pages_so : (ground.pages ≡ page_world Opened.pages left.journal)
          ⊎ ((change : Change) × (doubt_in left.journal ≡ Some change) × (ground.pages ≡ changed_world change (page_world Opened.pages left.journal)))
      pages_so = by_case (shows_one holds.contents (page_world Opened.pages left.journal) (doubt_in left.journal) holds.shows)
        where
          holds : HoldShown One devices (page_world Opened.pages left.journal) (doubt_in left.journal)
          holds = crashes_so closed_shows honest devices images

          one : holds.contents ≡ opens.contents
          one = are_read_one_way.one_store One devices holds.contents opens.contents holds.hold opens.hold

          is : (found : World PagesOf) → IsWorldOf (opened holds.contents) found → ground.pages ≡ found
          is found shows = worlds_one (opened opens.contents) ground.pages found opens.shown (subst (λ (c : Contents). IsWorldOf (opened c) found) one shows)

          by_case : IsWorldOf (opened holds.contents) (page_world Opened.pages left.journal)
              ⊎ ((change : Change) × (doubt_in left.journal ≡ Some change) × IsWorldOf (opened holds.contents) (changed_world change (page_world Opened.pages left.journal)))
              → (ground.pages ≡ page_world Opened.pages left.journal)
              ⊎ ((change : Change) × (doubt_in left.journal ≡ Some change) × (ground.pages ≡ changed_world change (page_world Opened.pages left.journal)))
          by_case (inl shows) = inl (is (page_world Opened.pages left.journal) shows)
          by_case (inr (change, in_doubt, shows)) = inr (change, in_doubt, is (changed_world change (page_world Opened.pages left.journal)) shows)

    pub base_at : ClosedShows is_honest state faults → AreHonest is_honest disks → OpensAt state (base_of Opened.base left.journal) (doubt_in left.journal) left.disks
    base_at closed_shows honest devices ground images opens = base_so closed_shows honest devices ground images opens

    pub next_so : ClosedShows is_honest state faults → AreHonest is_honest disks → (tables : World Tables) → LeftLawful Opened.base.page_count plan (opening_with Opened tables) (of_each faults left.disks) left.journal
        → OpensShowing state Opened.base.page_count (AreLeft Opened.base.page_count (item_of plan) tables left.journal) left.disks
    next_so closed_shows honest tables lawful devices ground images opens =
        let found = by_case (pages_so closed_shows honest devices ground images opens) in
        (count_so closed_shows honest devices ground images opens, found.0, found.1, found.2)
      where
        by_case : (ground.pages ≡ page_world Opened.pages left.journal)
            ⊎ ((change : Change) × (doubt_in left.journal ≡ Some change) × (ground.pages ≡ changed_world change (page_world Opened.pages left.journal)))
            → (next : World Tables) × AreLeft Opened.base.page_count (item_of plan) tables left.journal next × ShowsTables (sql Opened.base.page_count) ground.pages next
        by_case (inl is) = (
          tables_behind (sql Opened.base.page_count) (item_of plan) tables left.journal,
          inl refl,
          subst (λ (w : World PagesOf). ShowsTables (sql Opened.base.page_count) w (tables_behind (sql Opened.base.page_count) (item_of plan) tables left.journal)) (sym is)
              (along_end (sql Opened.base.page_count) (item_of plan) Opened.pages tables left.journal lawful.shows),
        )
        by_case (inr (change, in_doubt, is)) =
            let one = doubted (sql Opened.base.page_count) (item_of plan) (opening_with Opened tables) (of_each faults left.disks) left.journal change lawful.lawful lawful.shows in_doubt in
            let next = behind (after_of (sql Opened.base.page_count) (item_of plan one.2.who) (tables_behind (sql Opened.base.page_count) (item_of plan) tables one.0).current) (what_of change) (tables_behind (sql Opened.base.page_count) (item_of plan) tables left.journal) in (
              next,
              inr (record { before = one.0; after = one.1; line = one.2; place = one.3; change = change; doubt = one.4; is = refl }),
              subst (λ (w : World PagesOf). ShowsTables (sql Opened.base.page_count) w next) (sym is) one.5,
            )

    -- ---- the lines of the last copying

    module _ {E : Type 0} (kept : Result (List (List (List Kept))) E) (come : ComeFrom state faults plan Opened SEATS risen kept) where
      abbrev J : List Line
      J = left.journal

      -- the seat of a number in the end
      last_of : (number : ℕ) (less : number < SEATS) → (t : Sat D) × (slice_get closes.last (come.each number less).place ≡ Some t) × ((t ≡ (come.each number less).seat) ⊎ HasCopiedAt is_honest state faults z remembers clock (last_phase plan) (come.each number less).seat t)
      last_of number less = let one = come.each number less in closes.worked.each one.place one.seat one.there

      abbrev after_at : (number : ℕ) → (number < SEATS) ⊎ (SEATS ≤ number) → View
      after_at number (inl less) = resting state faults (last_of number less).0
      after_at number (inr past) = come.views number

      abbrev after : ℕ → View
      after number = after_at number (less_or_not number SEATS)

      -- and what it would see of the whole journal
      abbrev met : ℕ → View
      met number = record (after number) { front = J }

      by_seat : (P : ℕ → View → Type 0) → ((number : ℕ) (less : number < SEATS) → P number (resting state faults (last_of number less).0)) → (number : ℕ) → number < SEATS → P number (after number)
      by_seat P at number less = by_case (less_or_not number SEATS)
        where
          by_case : (test : (number < SEATS) ⊎ (SEATS ≤ number)) → P number (after_at number test)
          by_case (inl within) = at number within
          by_case (inr past) = absurd (omega (arith, less, past))

      worked_at : (number : ℕ) (less : number < SEATS) → Waits (come.views number) (resting state faults (last_of number less).0) (come.views number).work
          ⊎ ((SESSIONS ≤ number) × TellsFirst (worker (last_phase plan) number) (come.views number) (resting state faults (last_of number less).0))
      worked_at number less = by_case (last_of number less).2
        where
          one : HasStood state faults risen number (come.views number)
          one = come.each number less

          t : Sat D
          t = (last_of number less).0

          by_leaves : one.seat.number ≡ SESSIONS → WorkerLeaves (worker (last_phase plan) one.seat.number) (resting state faults one.seat) (resting state faults t) → Waits (come.views number) (resting state faults t) (come.views number).work
              ⊎ ((SESSIONS ≤ number) × TellsFirst (worker (last_phase plan) number) (come.views number) (resting state faults t))
          by_leaves copier (inl waits) = inl (subst (λ (v : View). Waits v (resting state faults t) v.work) (sym one.view_is) waits)
          by_leaves copier (inr first) =
              let is : one.seat.number ≡ number = one.number_is in
              inr (
                omega (arith, copier, is),
                subst (λ (n : ℕ). TellsFirst (worker (last_phase plan) n) (come.views number) (resting state faults t)) is
                    (subst (λ (v : View). TellsFirst (worker (last_phase plan) one.seat.number) v (resting state faults t)) (sym one.view_is) first),
              )

          by_case : (t ≡ one.seat) ⊎ HasCopiedAt is_honest state faults z remembers clock (last_phase plan) one.seat t → Waits (come.views number) (resting state faults t) (come.views number).work
              ⊎ ((SESSIONS ≤ number) × TellsFirst (worker (last_phase plan) number) (come.views number) (resting state faults t))
          by_case (inl same) = inl (subst (λ (v : View). Waits v (resting state faults t) v.work) (sym (one.view_is ∙ ap (resting state faults) (sym same))) (waits_none (resting state faults t)))
          by_case (inr copied_there) = by_leaves copied_there.number copied_there.leaves

      worked : HaveWorked SEATS (last_phase plan) come.views after
      worked = by_seat (λ number v. Waits (come.views number) v (come.views number).work ⊎ ((SESSIONS ≤ number) × TellsFirst (worker (last_phase plan) number) (come.views number) v)) worked_at

      sees_all : (number : ℕ) (less : number < SEATS) → Waits (resting state faults (last_of number less).0) (record (resting state faults (last_of number less).0) { front = J }) (resting state faults (last_of number less).0).work
      sees_all number less =
          let last = last_of number less in
          let r = Last.each (come.each number less).place last.0 last.1 in
          let seen_in : HasSeen last.0.number (seen last.0) (journal Last.side) = (phases_make_runs 0).seen last.0.number (seen last.0) r.front.0 (journal Last.side) r.front.1 r.lines in
          record {
            moves = record {
              session = refl;
              opened = refl;
              others = seen_in.rest;
              apart = seen_in.others;
              front = Last.lines ∙ seen_in.whole ∙ sym (append-nil (seen last.0 ++ seen_in.rest));
            };
            work_is = refl;
            told_is = refl;
          }

      all_met : AllMet SEATS after met J
      all_met number less = (by_seat (λ n v. Waits v (record v { front = J }) v.work) sees_all number less, refl)

      leaves : LeavesJournal (of_each faults left.disks) SEATS met J
      leaves = record {
        each = λ number less. record { rest = []; whole = sym (append-nil J); others = tt };
        foreign = λ number le. subst (λ (j : List Line). lines_of number j ≡ []) (sym Last.lines) (Last.foreign number (subst (λ (n : ℕ). n ≤ number) (sym limit_is) le));
        differ = subst FaultsDiffer (sym Last.lines) Last.differ;
        counted = subst (λ (j : List Line). AllByRecursion (IsCounted (of_each faults left.disks)) j) (sym Last.lines) Last.counted;
      }

      -- all seats had seen one front
      stood : (k : Result (List (List (List Kept))) E) → RunsPhases plan Opened SEATS come.views k → (phase : ℕ) × (front : List Line) × StandTogether Opened.base.page_count plan Opened SEATS phase front come.views
      stood (Ok all) runs = (_, runs.front, runs.together)
      stood (Err why) runs = (runs.0, runs.1, runs.3)

      of_opening : (o : Option (Start D)) → ground_in state faults o ≡ Opened → IfSome o (λ own. opened_base own ≡ opened_base start)
      of_opening None is = tt
      of_opening (Some own) is = ap (λ (g : Ground). g.base) is

      abbrev Stood : (phase : ℕ) × (front : List Line) × StandTogether Opened.base.page_count plan Opened SEATS phase front come.views
      Stood = stood kept come.runs

      front_of : (k : ℕ) (s : Sat D) → slice_get risen k ≡ Some s → seen s ≡ Stood.1
      front_of k s there = let p = come.places k s there in ap (λ (v : View). v.front) (sym p.2) ∙ (Stood.2.each p.0 p.1).front_is

      pub met_before : HaveMet start limit risen
      met_before = record {
        each = λ number less. let one = come.each number (subst (λ (n : ℕ). number < n) limit_is less) in (one.place, one.seat, one.there, one.number_is);
        began = λ k s there. let p = come.places k s there in of_opening (opening s) (ap (λ (v : View). v.opened) (sym p.2) ∙ (Stood.2.each p.0 p.1).ground_is);
        seen = λ k j s t one two copier. ([], append-nil (seen t) ∙ front_of j t two ∙ sym (front_of k s one));
      }

      -- why not all is copied
      none_at : (seats : List (Sat D)) (k : ℕ) (s : Sat D) → HasNoCopier seats → slice_get seats k ≡ Some s → s.number ≡ SESSIONS → ⊥
      none_at [] k s none there is = absurd (cc there)
      none_at (t ∷ ts) zero s none there is = none.0 (ap (λ (u : Sat D). u.number) (one_seat (Sat D) t s there) ∙ is)
      none_at (t ∷ ts) (suc k) s none there is = none_at ts k s none.1 there is

      pub uncopied : copied ≡ false → IsUncopied faults is_honest remembers state clock (last_phase plan) left.journal
      uncopied not_all =
          let one = come.each SESSIONS (omega arith) in
          record {
            z = z;
            old = risen;
            new = closes.last;
            copier = λ none. none_at risen one.place one.seat none one.there one.number_is;
            cause = closes.pending not_all met_before;
          }

      long : length plan ≤ last_phase plan
      long = omega arith

      some : 1 ≤ last_phase plan
      some = omega arith

      module _ (seats_fit : HaveSeats plan SEATS × HaveSeats plan SESSIONS) (tables : World Tables) (shows : ShowsTables (sql Opened.base.page_count) Opened.pages tables) where
        no_worker : (earlier number : ℕ) → SESSIONS ≤ number → tasks_at plan earlier number ≡ []
        no_worker earlier number behind = no_session plan earlier SESSIONS number (ends_at plan SESSIONS earlier seats_fit.1) behind

        -- the phases, and behind them the last copying
        comes : (all : List (List (List Kept))) → RunsPhases {E = E} plan Opened SEATS come.views (Ok all) → HasComeTo Opened.base.page_count plan Opened SEATS (last_phase plan + 1) (kept_by_place all) met
        comes all runs =
            let behind = come_later Opened.base.page_count plan Opened SEATS (length plan + 1) (last_phase plan + 1) (kept_by_place all) come.views (omega arith) (omega (arith, long)) runs in
            come_copied Opened.base.page_count plan Opened SEATS (last_phase plan) J come.views after met worked all_met no_worker (kept_by_place all) behind

        lawful_by : (k : Result (List (List (List Kept))) E) → RunsPhases plan Opened SEATS come.views k → LeftLawful Opened.base.page_count plan (opening_with Opened tables) (of_each faults left.disks) J
        lawful_by (Ok all) runs =
            let here = comes all runs in
            (phases_make_runs Opened.base.page_count).left plan (opening_with Opened tables) (of_each faults left.disks) SEATS (last_phase plan + 1) here.front J met shows leaves here.together
        lawful_by (Err why) runs =
            let few = runs.2 in
            let behind = later Opened.base.page_count plan Opened SEATS runs.0 (last_phase plan + 1) runs.1 come.views (omega (arith, few, long)) runs.3 in
            (phases_make_runs Opened.base.page_count).left plan (opening_with Opened tables) (of_each faults left.disks) SEATS (last_phase plan + 1) J J met shows leaves
            (stand_copied Opened.base.page_count plan Opened SEATS (last_phase plan) runs.1 J come.views after met worked all_met behind)

        pub lawful_so : LeftLawful Opened.base.page_count plan (opening_with Opened tables) (of_each faults left.disks) J
        lawful_so = lawful_by kept come.runs

        pub replied_so : (all : List (List (List Kept))) → kept ≡ Ok all → RepliedOver Opened.base.page_count plan (opening_with Opened tables) (of_each faults left.disks) J (kept_by_place all)
        replied_so all is =
            (phases_make_runs Opened.base.page_count).replies plan (opening_with Opened tables) (of_each faults left.disks) SEATS (last_phase plan + 1) J (kept_by_place all) met shows (omega (arith, long)) seats_fit.0 leaves
            (comes all (subst (λ (k : Result (List (List (List Kept))) E). RunsPhases plan Opened SEATS come.views k) is come.runs))

        pub replied_all : (k : Result (List (List (List Kept))) E) → kept ≡ k → IfOk k (λ all. RepliedOver Opened.base.page_count plan (opening_with Opened tables) (of_each faults left.disks) J (kept_by_place all))
        replied_all (Ok all) is = replied_so all is
        replied_all (Err why) is = tt

    captures_so : left.captures ≡ (base_of Opened.base left.journal).captures
    captures_so =
        Last.captures ∙ ap (λ (s : Start D). (base_of (opened_base s) (journal Last.side)).captures) Last.begun
        ∙ ap (λ (j : List Line). (base_of Opened.base j).captures) (sym Last.lines)

    -- why not all of it is copied
    pub pending_so : length seats ≡ SEATS → (ended : Ended)
        → ((ground : Ground) → ((k : ℕ) (s : Sat D) → slice_get seats k ≡ Some s → IsHonest is_honest state s × (ground_in state faults (opening s) ≡ ground)) → ComeFrom state faults plan ground (length seats) risen ended.kept)
        → ended.journal ≡ left.journal → ended.copied ≡ copied → AreHonest is_honest disks → ended.copied ≡ false → IsUncopied faults is_honest remembers state clock (last_phase plan) ended.journal
    pending_so long ended ran journal_is copied_is honest not_all =
        let come = subst (λ (n : ℕ). ComeFrom state faults plan Opened n risen ended.kept) long (ran Opened (each_opened honest)) in
        subst (λ (j : List Line). IsUncopied faults is_honest remembers state clock (last_phase plan) j) (sym journal_is) (uncopied ended.kept come (sym copied_is ∙ not_all))

    -- what a run leaves
    pub leaves_so : OpeningShows is_honest state → ClosedShows is_honest state faults → PlanFits plan → length seats ≡ SEATS → (ended : Ended)
        → ((ground : Ground) → ((k : ℕ) (s : Sat D) → slice_get seats k ≡ Some s → IsHonest is_honest state s × (ground_in state faults (opening s) ≡ ground)) → ComeFrom state faults plan ground (length seats) risen ended.kept)
        → ended.newest ≡ newest start.core.value.desk.base.marks → ended.journal ≡ left.journal → ended.captures ≡ left.captures → ended.copied ≡ copied → Leaves faults is_honest state plan disks left.disks ended
    leaves_so opening_shows closed_shows fits long ended ran newest_is journal_is captures_is copied_is = record {
      ground = Opened;
      counts = counts_so;
      opens = opens_so opening_shows;
      ran = λ honest.
          let come = subst (λ (n : ℕ). ComeFrom state faults plan Opened n risen ended.kept) long (ran Opened (each_opened honest)) in
          let seats_fit = have_seats plan fits.1 in
          record {
            lawful = λ tables shows. subst (λ (j : List Line). LeftLawful Opened.base.page_count plan (opening_with Opened tables) (of_each faults left.disks) j) (sym journal_is) (lawful_so ended.kept come seats_fit tables shows);
            replied = λ tables shows.
                subst (λ (j : List Line). IfOk ended.kept (λ all. RepliedOver Opened.base.page_count plan (opening_with Opened tables) (of_each faults left.disks) j (kept_by_place all))) (sym journal_is)
                (replied_all ended.kept come seats_fit tables shows ended.kept refl);
          };
      honest = honest_so;
      newest_is = newest_is ∙ newest_same state start.core.value start.archive.value;
      captures_are = captures_is ∙ captures_so ∙ ap (λ (j : List Line). (base_of Opened.base j).captures) (sym journal_is);
      crashes = λ honest. subst (λ (j : List Line). CrashesShow state One (page_world Opened.pages j) j left.disks) (sym journal_is) (crashes_so closed_shows honest);
      base = λ honest. subst (λ (j : List Line). OpensAt state (base_of Opened.base j) (doubt_in j) left.disks) (sym journal_is) (base_at closed_shows honest);
      next = λ honest tables shows.
          let come = subst (λ (n : ℕ). ComeFrom state faults plan Opened n risen ended.kept) long (ran Opened (each_opened honest)) in
          subst (λ (j : List Line). OpensShowing state Opened.base.page_count (AreLeft Opened.base.page_count (item_of plan) tables j) left.disks) (sym journal_is)
          (next_so closed_shows honest tables (lawful_so ended.kept come (have_seats plan fits.1) tables shows));
      maps = λ honest all. subst (λ (j : List Line). CrashesMap state One (base_of Opened.base j).captures left.disks) (sym journal_is) (maps_so honest (sym copied_is ∙ all));
    }
