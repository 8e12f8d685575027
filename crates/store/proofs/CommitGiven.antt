-- What a commit gives.
use Rattle.std.proofs.Common.{◌≡◌, ◌≤◌, ◌<◌, ◌+◌, ◌⊎◌, ◌||◌, ◌++◌, ◌∙◌, ℕ, Bool, true, false, cond, eqb, List, [], ◌∷◌, length, reverse, take, Option, Some, None, Result, Ok, Err, refl, sym, ap, subst, inl, inr, ⊎_elim, arith, append-nil, append_assoc}
use Rattle.std.specs.Prelude.{IfErr, IfOk, MatchResult, is_some, nat_lt, option_map}
use Rattle.std.specs.Option.{option_or}
use Rattle.std.proofs.lemmas.Bool.{eqb-true, ltb-true}
use Rattle.std.proofs.lemmas.Bool.Decides.{nat_tests}
use Rattle.std.proofs.lemmas.List.{take-append-le}
use Rattle.atomic_table.specs.Seated.{TableId}
use Rattle.disk_model.specs.Disk.{State}
use Rattle.disk_model.specs.Moments.{Clock}
use Rattle.retro_base.specs.declared.device.Device.{Device}
use Rattle.retro_base.specs.declared.device.Device.TheVariants.{Log}
use Rattle.retro_base.specs.declared.refusal.Refusal.{Refusal}
use Rattle.retro_base.specs.declared.refusal.Refusal.TheVariants as refusal
use Rattle.retro_base.specs.declared.who.Who.{Who}
use Rattle.desk.specs.Cause.{IsChangeRefusal}
use Rattle.gate_log.specs.Cause.{IsDiskFault}
use Rattle.history.specs.declared.entry.Change.TheVariants.{Commit}
use Rattle.journal_book.specs.Works.{keeping_refusal}
use Rattle.journal_law.specs.Lawful.{IsCommitRefused, IsOverlapBy}
use Rattle.store.specs.Rounds.{AnswersAtLast, IsNoRoom, IsRoom, Passes}
use Rattle.store_core.specs.declared.desk_core.Core.{Core}
use Rattle.history.specs.declared.entry.Base.{Base}
use Rattle.history.specs.declared.journal.FailedCall.TheVariants.{Append, Write}
use Rattle.history.specs.declared.journal.Line.{Line}
use Rattle.history.specs.declared.journal.What.{What}
use Rattle.history.specs.declared.journal.What.TheVariants.{Done, Fault}
use Rattle.history.specs.declared.stop.Stop.{Stop}
use Rattle.history.specs.declared.writes.PageImage.{PageImage}
use Rattle.history.specs.Lines.{base_of, changed_since, first_stop, lines_of}
use Rattle.history.specs.Marks as marks
use Rattle.history.specs.Writes.{is_among}
use Rattle.journal_book.specs.declared.work.Transaction.{Transaction}
use Rattle.journal_book.specs.declared.work.Work.{Work}
use Rattle.journal_book.specs.declared.work.Work.TheVariants as work
use Rattle.journal_book.specs.Works.{work_at}
use Rattle.journal_law.specs.Own.{line}
use Rattle.journal_law.specs.Pages.{Pages, page_step, page_world}
use Rattle.journal_law.specs.Seats as seat
use Rattle.journal_law.specs.Seats.{Adds, CommitEnds, CommitGives, CommitWaits, IsNew, View, Waits, one}
use Rattle.journal_law.specs.World.{Mark, World, newest, newest_behind}
use Rattle.records.specs.Entries.{change_bytes}
use Rattle.txn_set.specs.declared.ledger.Ledger.{Ledger}
use Rattle.txn_set.specs.Ledger.{closed, committed, faulted, is_kept, kept_behind, taken, with_open}
use Rattle.txn_set.specs.Refused.{archive_refused, counts_of, first_changed, images_refused, overlap, snapshots_refused, stopped, stopped_refused}
use Rattle.txn_set.specs.WorksFit.{MayKeep, TransactionFits}
use Rattle.turn.specs.Seats.{mine, opening, seen}
use Rattle.store.specs.declared.desk_side.DeskSide.{DeskSide}
use Rattle.store.specs.declared.start.Start.{Start}
use Rattle.store.specs.Calls.{CommitDoes, refused_so}
use Rattle.store.specs.Seats.{IsReady, Sat, Visited, journal, slots_of}
use Rattle.store.specs.Start.{opened_base}
use Rattle.store.proofs.Adding.{faulted_closed, slot_own}
use Rattle.store.proofs.Finding.{above_so, some_is}
use Rattle.store.proofs.Meeting.{work_stays}
use Rattle.store.proofs.Trying.{kept_who}
use Rattle.store_core.specs.Calls.{failed_at}
use Rattle.store_core.proofs.Cores.{base_is}
use Rattle.journal_law.specs.declared.seat.ToldFault.{ToldFault}
use Rattle.store.specs.Ground.{ground_of, world_of}
use Rattle.store.specs.Seen.{HasBegun, IsSeated, ground_in, view_of, work_in}
use Rattle.store.specs.Worlds.{AreNamed}
use Rattle.store.proofs.Agreeing.{or_none, unchanged_agrees}
use Rattle.store.proofs.Asking.{commit_so}
use Rattle.store.proofs.Coming.{Came, came, lines_append, moves, seated_none, seated_open, there, work_so}
use Rattle.store.proofs.Gives.{own_names}
use Rattle.store.proofs.Limits.{IsLimit, archive_limit, images_limit, snapshots_limit}
use Rattle.store.proofs.Named.{names_same, names_stay}
use Rattle.store.proofs.Overlaps.{changed_overlaps}
use Rattle.store.proofs.ReadGiven.{begun_few, begun_on, kept_began}
use Rattle.store.proofs.Reaching.{AnswersSo, IsNewSince, RoomRefused}

newest_last : (n : ℕ) (ms : List (Mark Pages)) (m : Mark Pages) → newest_behind n (ms ++ m ∷ []) ≡ m.number
newest_last n [] m = refl
newest_last n (x ∷ ms) m = newest_last x.number ms m

world_append : (w : World Pages) (lines more : List Line) → page_world w (lines ++ more) ≡ page_world (page_world w lines) more
world_append w [] more = refl
world_append w (l ∷ lines) more = world_append (page_step w l) lines more

-- no page that was read has changed
none_changed : (lines : List Line) (t : Transaction) (pages : List ℕ) → first_changed lines t pages ≡ None → (page : ℕ) → is_among page pages ≡ true → changed_since t.who page t.began lines ≡ None
none_changed lines t [] e page is = absurd (cc is)
none_changed lines t (first ∷ pages) e page is = at (eqb first page) refl is (or_none (changed_since t.who first t.began lines) (first_changed lines t pages) e) (λ f. none_changed lines t pages f page) where
  at : (here : Bool) → eqb first page ≡ here → (here || is_among page pages) ≡ true → (changed_since t.who first t.began lines ≡ None) × (first_changed lines t pages ≡ None) → (first_changed lines t pages ≡ None → is_among page pages ≡ true → changed_since t.who page t.began lines ≡ None)
      → changed_since t.who page t.began lines ≡ None
  at true h f both again = ap (λ (n : ℕ). changed_since t.who n t.began lines) (sym (eqb-true first page h)) ∙ both.0
  at false h f both again = again both.1 f

-- the page that the first change is of
changed_page : (lines : List Line) (t : Transaction) (pages : List ℕ) (other : Who) → first_changed lines t pages ≡ Some other → (page : ℕ) × (changed_since t.who page t.began lines ≡ Some other)
changed_page lines t [] other e = absurd (cc e)
changed_page lines t (page ∷ pages) other e = at (changed_since t.who page t.began lines) refl e (changed_page lines t pages other) where
  at : (c : Option Who) → changed_since t.who page t.began lines ≡ c → option_or c (first_changed lines t pages) ≡ Some other → (first_changed lines t pages ≡ Some other → (p : ℕ) × (changed_since t.who p t.began lines ≡ Some other)) → (p : ℕ) × (changed_since t.who p t.began lines ≡ Some other)
  at (Some x) is f again = (page, is ∙ f)
  at None is f again = again f

module _ {D : Type 0} (is_honest : D → Type 0) (state : D → State) (faults : D → ℕ) (remembers : Type 0) (clock : D → Clock) (z : TableId) (s0 m s1 : Sat D) (d0 d1 : DeskSide D) (ready : IsReady z s0) (passes : Passes z s0 m) (v : Visited is_honest state faults z m s1 d0 d1) (who : Who) (asked : Option ℕ)
    (before after : List ToldFault) (own : who.session ≡ s0.number) (t : Transaction) (is_open : (mine s0).work ≡ Some (work.Open t)) (of : t.who ≡ who) (begun : HasBegun (seen s0) s0.number t) where
  abbrev Old : View
  Old = view_of state faults asked before s0

  abbrev New : List ToldFault → View
  New told = view_of state faults asked told s1

  abbrev A : seat.Attempt
  A = record { who = t.who; since = take t.began (seen s0); read = t.reads.keys; edits = t.edits; kept = t.kept }

  abbrev More : List Line
  More = passes.waits.others ++ v.others

  place_is : seen s0 ++ More ≡ journal d0
  place_is = sym (append_assoc (seen s0) passes.waits.others v.others) ∙ (ap (λ (l : List Line). l ++ v.others) passes.waits.front ∙ v.place)

  none_own : lines_of s0.number More ≡ []
  none_own = lines_append s0.number passes.waits.others v.others ∙ (ap (λ (l : List Line). l ++ lines_of s0.number v.others) passes.waits.apart ∙ (ap (λ (n : ℕ). lines_of n v.others) (sym passes.stays.same.number) ∙ v.apart))

  own_there : who.session ≡ m.number
  own_there = own ∙ sym passes.stays.same.number

  open_there : work_at (slots_of d0) who.session ≡ Some (work.Open t)
  open_there = ap (work_at (slots_of d0)) own_there ∙ (sym v.work ∙ (work_stays s0 m passes.stays ∙ is_open))

  fits : TransactionFits d0.core.ledger.book.pages (journal d0) t
  fits = (v.stands.stands v.stands.origin v.stands.opened).is.ledger.works.each who.session (work.Open t) open_there

  begun_there : HasBegun (journal d0) t.who.session t
  begun_there = subst (λ (n : ℕ). HasBegun (journal d0) n t) (sym (ap (λ (w : Who). w.session) of ∙ own)) (subst (λ (l : List Line). HasBegun l s0.number t) place_is (begun_on (seen s0) More s0.number t begun none_own))

  since_stays : take t.began (seen s0 ++ More) ≡ take t.began (seen s0)
  since_stays = take-append-le t.began (seen s0) More (let f = begun_few (seen s0) s0.number t begun in omega (arith, f))

  came_all : (own_lines : List Line) (w : Option Work) → journal d1 ≡ journal d0 ++ own_lines → work_at (slots_of d1) m.number ≡ w → Came s0 s1 More own_lines w
  came_all own_lines w lines at_it =
      let c = came is_honest state faults z m s1 d0 d1 passes.ready v own_lines w lines at_it in
      record {
        apart = none_own;
        front = c.front ∙ ap (λ (l : List Line). l ++ own_lines) (v.place ∙ sym place_is);
        work_is = c.work_is;
        number = c.number ∙ passes.stays.same.number;
        opening_is = c.opening_is ∙ passes.stays.same.opening;
      }

  -- ---- the ways in which it ends

  abbrev done_so : (what : What) → after ≡ [] → Came s0 s1 More (one t.who what) None → Adds Old (New after) t.who what seat.Idle
  done_so what quiet c = record {
    moves = moves state faults asked asked before after s0 s1 More (one t.who what) None c;
    work_is = work_so state faults asked asked before after s0 s1 More (one t.who what) None c;
    told_is = ap reverse quiet;
  }

  abbrev stays_so : (u : Transaction) (k : seat.Work) → Came s0 s1 More [] (Some (work.Open u)) → work_in asked (seen s0 ++ More) (Some (work.Open u)) ≡ k → Waits Old (New before) k
  stays_so u k c e = record {
    moves = moves state faults asked asked before before s0 s1 More [] (Some (work.Open u)) c;
    work_is = work_so state faults asked asked before before s0 s1 More [] (Some (work.Open u)) c ∙ (ap (λ (l : List Line). work_in asked l (Some (work.Open u))) (append-nil (seen s0 ++ More)) ∙ e);
    told_is = refl;
  }

  came_kept : (u : Transaction) → d1.core.ledger ≡ with_open who u d0.core.ledger → Came s0 s1 More [] (Some (work.Open u))
  came_kept u e = came_all [] (Some (work.Open u)) (ap (λ (l : Ledger). l.book.lines) e ∙ sym (append-nil (journal d0)))
      (there is_honest state faults z m s1 d0 d1 passes.ready v who own_there (Some (work.Open u)) (with_open who u d0.core.ledger) e (slot_own (slots_of d0) who.session (Some (work.Open u))))

  abbrev waits_open : (u : Transaction) → u.who ≡ t.who → u.began ≡ t.began → d1.core.ledger ≡ with_open who u d0.core.ledger → Waits Old (New before) (seat.Open (record { who = t.who; since = take t.began (seen s0); read = u.reads.keys; edits = u.edits; kept = u.kept }))
  waits_open u same began e = stays_so u _ (came_kept u e) (λ i. seat.Open (record { who = same i; since = (ap (λ (n : ℕ). take n (seen s0 ++ More)) began ∙ since_stays) i; read = u.reads.keys; edits = u.edits; kept = u.kept }))

  came_core : d1.core ≡ d0.core → Came s0 s1 More [] (Some (work.Open t))
  came_core same =
      let ledger = ap (λ (c : Core D). c.ledger) same in
      came_all [] (Some (work.Open t)) (ap (λ (l : Ledger). l.book.lines) ledger ∙ sym (append-nil (journal d0)))
      (there is_honest state faults z m s1 d0 d1 passes.ready v who own_there (Some (work.Open t)) d0.core.ledger ledger open_there)

  core_work : d1.core ≡ d0.core → (mine s1).work ≡ Some (work.Open t)
  core_work same = (came_core same).work_is

  -- a fault of a round ends it
  pub round_fault : (label : Option (List ℕ)) (d : Device) (c : ℕ) → after ≡ [] → d1.core.ledger ≡ faulted who d c Write d0.core.ledger → IsNewSince is_honest state faults z d c s1
      → (seat.FailsCommit label Old (New after) A d c × IsNew (New after) d c) × ((mine s1).work ≡ None)
  round_fault label d c quiet e since =
      let closes = e ∙ faulted_closed who d0.core.ledger d c Write (work.Open t) open_there in
      let came_so = came_all (one t.who (Fault d c Write)) None (ap (λ (l : Ledger). l.book.lines) closes ∙ ap (λ (w : Who). journal d0 ++ line w (Fault d c Write) ∷ []) (sym of))
      (there is_honest state faults z m s1 d0 d1 passes.ready v who own_there None (closed who (Fault d c Write) d0.core.ledger) closes (slot_own (slots_of d0) who.session None)) in
      let there = v.same.opening ∙ v.opening in
      ((inl (done_so (Fault d c Write) quiet came_so), λ less. subst (λ g. g.faults d < c) (sym (ap (ground_in state faults) there)) (since d0.start there less)), came_so.work_is)

  waits_core : d1.core ≡ d0.core → Waits Old (New before) (seat.Open A)
  waits_core same =
      let c = came_core same in
      stays_so t _ c (ap (λ (l : List Line). seat.Open (record A { since = l })) since_stays)

  -- ---- reads

  abbrev Opened : World Pages
  Opened = (ground_in state faults (opening s0)).pages

  agrees : first_changed (journal d0) t t.reads.keys ≡ None → seat.Agree t.reads.keys (page_world Opened (seen s0 ++ More)).current (seat.at_began Old A)
  agrees none page is =
      ap (λ (l : List Line). (page_world Opened l).current page) place_is
      ∙ (unchanged_agrees Opened t.who page t.began (journal d0) (none_changed (journal d0) t t.reads.keys none page is) fits.is_open.own
      ∙ ap (λ (l : List Line). (page_world Opened l).current page) (ap (take t.began) (sym place_is) ∙ since_stays))

  -- ---- numbers

  opening_there : opening s0 ≡ Some d0.start
  opening_there = sym passes.stays.same.opening ∙ v.opening

  named : (side : DeskSide D) → side.start ≡ d0.start → (base : side.core.desk.base ≡ base_of (opened_base side.start) (journal side)) → AreNamed side.core.desk.base.marks (page_world Opened (journal side)).marks
  named side start base =
      subst (λ (b : Base). AreNamed b.marks (page_world Opened (journal side)).marks) (sym (base ∙ ap (λ (x : Start D). base_of (opened_base x) (journal side)) start))
      (subst (λ (w : World Pages). AreNamed (base_of (opened_base d0.start) (journal side)).marks (page_world w (journal side)).marks) (ap (λ g. g.pages) (sym (ap (ground_in state faults) opening_there)))
      (names_stay (opened_base d0.start) (world_of state d0.start.core.value d0.start.archive.value) (journal side) (own_names state d0.start.core.value d0.start.archive.value)))

  base_there : d0.core.desk.base ≡ base_of (opened_base d0.start) (journal d0)
  base_there = let found = v.stands.stands v.stands.origin v.stands.opened in base_is is_honest state v.stands.origin.history d0.core found.plain found.is ∙ ap (λ (b : Base). base_of b (journal d0)) v.stands.opened.base

  base_after_it : d1.core.desk.base ≡ base_of (opened_base d1.start) (journal d1)
  base_after_it = let found = v.stands_after.stands v.stands_after.origin v.stands_after.opened in base_is is_honest state v.stands_after.origin.history d1.core found.plain found.is ∙ ap (λ (b : Base). base_of b (journal d1)) v.stands_after.opened.base

  newest_is : (label : List ℕ) (writes : List PageImage) → journal d1 ≡ journal d0 ++ one t.who (Done (Some label) writes) → marks.newest d1.core.desk.base.marks ≡ newest (page_world Opened (seen s0 ++ More)) + 1
  newest_is label writes lines =
      (names_same d1.core.desk.base (page_world Opened (journal d1)) (named d1 v.start base_after_it)).1
      ∙ (ap (λ (l : List Line). newest (page_world Opened l)) (lines ∙ ap (λ (l : List Line). l ++ one t.who (Done (Some label) writes)) (sym place_is))
      ∙ (ap newest (world_append Opened (seen s0 ++ More) (one t.who (Done (Some label) writes))) ∙ newest_last 0 (page_world Opened (seen s0 ++ More)).marks _))

  stop_none : (fault : Option Stop) (label : Option (List ℕ)) (writes : List PageImage) → stopped_refused fault (is_some label) writes ≡ None → is_some fault ≡ true → (label ≡ None) × (writes ≡ [])
  stop_none None label writes e some = absurd (cc some)
  stop_none (Some stop) (Some text) writes e some = absurd (cc e)
  stop_none (Some stop) None [] e some = (refl, refl)
  stop_none (Some stop) None (x ∷ writes) e some =
      let more : nat_lt 0 (length (x ∷ writes)) ≡ true = grind (arith, nat_tests) in
      absurd (cc (sym (ap (λ (b : Bool). cond b (Some (stopped stop)) None) more) ∙ e))

  stop_some : (fault : Option Stop) (label : Option (List ℕ)) (writes : List PageImage) (why : Refusal) → stopped_refused fault (is_some label) writes ≡ Some why → (stop : Stop) × (fault ≡ Some stop) × (stopped stop ≡ why) × ((is_some label ≡ true) ⊎ (0 < length writes))
  stop_some fault label writes why e = at (is_some label) refl (nat_lt 0 (length writes)) refl fault refl e where
    Answer : Type 0
    Answer = (stop : Stop) × (fault ≡ Some stop) × (stopped stop ≡ why) × ((is_some label ≡ true) ⊎ (0 < length writes))

    at : (one : Bool) → is_some label ≡ one → (two : Bool) → nat_lt 0 (length writes) ≡ two → (f : Option Stop) → fault ≡ f → cond (one || two) (option_map stopped f) None ≡ Some why → Answer
    at true a two b (Some stop) f s = (stop, f, some_is (stopped stop) why s, inl a)
    at true a two b None f s = absurd (cc s)
    at false a true b (Some stop) f s = (stop, f, some_is (stopped stop) why s, inr (ltb-true 0 (length writes) b))
    at false a true b None f s = absurd (cc s)
    at false a false b g f s = absurd (cc s)

  module _ (label : Option (List ℕ)) (r : Result (Option ℕ) Refusal) (does : CommitDoes is_honest state faults remembers clock who label t r d0.core d1.core) (quiet : before ≡ []) (same_told : after ≡ before) where
    abbrev Images : Option Refusal
    Images = images_refused (journal d0) t.edits

    abbrev Snapshots : Option Refusal
    Snapshots = snapshots_refused (counts_of d0.core.desk.base t.edits) (is_some label)

    abbrev Archive : Option Refusal
    Archive = archive_refused (counts_of d0.core.desk.base t.edits) (is_some label)

    abbrev pub Gives : Result (Option ℕ) Refusal → Type 0
    Gives x = CommitGives label Old (New after) A x

    free_parts : refused_so is_honest state faults d0.core t label ≡ None → (stopped_refused (first_stop (journal d0)) (is_some label) t.edits ≡ None) × (first_changed (journal d0) t t.reads.keys ≡ None)
    free_parts free =
        let a = or_none t.kept _ free in
        let b = or_none (stopped_refused (first_stop (journal d0)) (is_some label) t.edits) _ a.1 in
        let c = or_none (option_map overlap (first_changed (journal d0) t t.reads.keys)) _ b.1 in
        (b.0, at_none (first_changed (journal d0) t t.reads.keys) c.0) where
          at_none : (o : Option Who) → option_map overlap o ≡ None → o ≡ None
          at_none None f = refl
          at_none (Some x) f = absurd (cc f)

    -- a line of its own, by which it ends
    ended_came : (what : What) (l : Ledger) → d1.core.ledger ≡ l → l.book.lines ≡ journal d0 ++ line who what ∷ [] → work_at l.works.slots who.session ≡ None → Came s0 s1 More (one t.who what) None
    ended_came what l e lines none = came_all (one t.who what) None (ap (λ (x : Ledger). x.book.lines) e ∙ (lines ∙ ap (λ (w : Who). journal d0 ++ line w what ∷ []) (sym of)))
        (there is_honest state faults z m s1 d0 d1 passes.ready v who own_there None l e none)

    commit_ok : (number : Option ℕ) → r ≡ Ok number → Gives (Ok number)
    commit_ok number e = at (refused_so is_honest state faults d0.core t label) refl where
      at : (o : Option Refusal) → refused_so is_honest state faults d0.core t label ≡ o → Gives (Ok number)
      at (Some why) refused = absurd (cc (e, (does.refused why refused).0))
      at None free =
          let parts = free_parts free in
          let ledger = subst (λ (x : Result (Option ℕ) Refusal). MatchResult x (λ _. d1.core.ledger ≡ committed who label t.edits (taken who d0.core.ledger)) (λ why. d1.core.ledger ≡ failed_at (Append (Commit label t.edits)) who why d0.core.ledger)) e (does.makes free).ended in
          let c = ended_came (Done label t.edits) (committed who label t.edits (taken who d0.core.ledger)) ledger refl (slot_own (slots_of d0) who.session None) in
          let lines : journal d1 ≡ journal d0 ++ one t.who (Done label t.edits) = ap (λ (x : Ledger). x.book.lines) ledger ∙ ap (λ (w : Who). journal d0 ++ line w (Done label t.edits) ∷ []) (sym of) in (
            record { adds = done_so (Done label t.edits) (same_told ∙ quiet) c; agree = agrees parts.1 },
            number_so label lines (subst (λ (x : Result (Option ℕ) Refusal). IfOk x (λ n. n ≡ cond (is_some label) (Some (marks.newest d1.core.desk.base.marks)) None)) e does.number),
            λ some. stop_none (first_stop (journal d0)) label t.edits parts.0 (ap (λ (l : List Line). is_some (first_stop l)) (sym place_is) ∙ some),
          ) where
            number_so : (l : Option (List ℕ)) → journal d1 ≡ journal d0 ++ one t.who (Done l t.edits) → number ≡ cond (is_some l) (Some (marks.newest d1.core.desk.base.marks)) None → number ≡ seat.number_of l (page_world Opened (seen s0 ++ More))
            number_so None lines f = f
            number_so (Some text) lines f = f ∙ ap Some (newest_is text t.edits lines)

    -- ---- refused before it took any memory

    -- its transaction stays open
    waits_same : (why : Refusal) → is_kept why ≡ false → d1.core.ledger ≡ with_open who (kept_behind why t) d0.core.ledger → Waits Old (New after) (seat.Open A)
    waits_same why not e = subst (λ (ts : List ToldFault). Waits Old (New ts) (seat.Open A)) (sym same_told)
        (waits_open t refl refl (e ∙ ap (λ (b : Bool). with_open who (cond b (keeping_refusal why t) t) d0.core.ledger) not))

    waits_keeping : (why : Refusal) → is_kept why ≡ true → d1.core.ledger ≡ with_open who (kept_behind why t) d0.core.ledger → Waits Old (New after) (seat.Open (record A { kept = Some why }))
    waits_keeping why is e = subst (λ (ts : List ToldFault). Waits Old (New ts) (seat.Open (record A { kept = Some why }))) (sym same_told)
        (waits_open (keeping_refusal why t) refl refl (e ∙ ap (λ (b : Bool). with_open who (cond b (keeping_refusal why t) t) d0.core.ledger) is))

    front_is : d1.core.ledger.book.lines ≡ journal d0 → (New after).front ≡ journal d0
    front_is lines = v.seen ∙ lines

    -- what the transaction keeps
    kept_so : (why : Refusal) → t.kept ≡ Some why → d1.core.ledger ≡ with_open who (kept_behind why t) d0.core.ledger → Gives (Err why)
    kept_so (refusal.DiskFault d c) k e = inl (k, subst (λ (o : Option Refusal). Waits Old (New after) (seat.Open (record A { kept = o }))) (sym k) (waits_keeping (refusal.DiskFault d c) refl e))
    kept_so (refusal.Overlap session item) k e = (waits_keeping (refusal.Overlap session item) refl e, inl k)
    kept_so (refusal.TooManyPages needed) k e = (subst (λ (o : Option Refusal). Waits Old (New after) (seat.Open (record A { kept = o }))) (sym k) (waits_keeping (refusal.TooManyPages needed) refl e), k)
    kept_so why k e = absurd (never why refl k) where
      never : (w : Refusal) → is_kept w ≡ false → t.kept ≡ Some w → ⊥
      never w not k = absurd (cc (not, subst MayKeep k fits.may_keep))

    overlap_so : (other : Who) → first_changed (journal d0) t t.reads.keys ≡ Some other → d1.core.ledger ≡ with_open who (kept_behind (overlap other) t) d0.core.ledger → Gives (Err (overlap other))
    overlap_so other changed e =
        let p = changed_page (journal d0) t t.reads.keys other changed in
        let lines = ap (λ (l : Ledger). l.book.lines) e in
        (waits_keeping (overlap other) refl e, inr (subst (λ (l : List Line). IsOverlapBy t.who l other.session other.item) (sym (front_is lines)) (changed_overlaps (journal d0) t begun_there d0.core.ledger refl v.keeps.tried p.0 other p.1)))

    stop_so : (stop : Stop) → first_stop (journal d0) ≡ Some stop → ((is_some label ≡ true) ⊎ (0 < length t.edits)) → d1.core.ledger ≡ with_open who (kept_behind (stopped stop) t) d0.core.ledger → Gives (Err (stopped stop))
    stop_so stop first some e = (waits_same (stopped stop) refl e, ap first_stop (front_is (ap (λ (l : Ledger). l.book.lines) e)) ∙ first, some)

    limit_so : (why : Refusal) → IsLimit d0.core.desk.base (journal d0) label t.edits why → d1.core.ledger ≡ with_open who (kept_behind why t) d0.core.ledger → Gives (Err why)
    limit_so why limit e = ⊎_elim (λ x. subst (λ (w : Refusal). Gives (Err w)) (sym x.0) (record { waits = still (refusal.JournalFull limit.count limit.images) x.0 refl; is = moved (refusal.JournalFull limit.count limit.images) x.1 }))
        (λ y. ⊎_elim (λ x. subst (λ (w : Refusal). Gives (Err w)) (sym x.0) (record { waits = still (refusal.SnapshotsFull limit.count) x.0 refl; is = moved (refusal.SnapshotsFull limit.count) x.1 }))
        (λ x. subst (λ (w : Refusal). Gives (Err w)) (sym x.0) (record { waits = still (refusal.ArchiveFull limit.count limit.images) x.0 refl; is = moved (refusal.ArchiveFull limit.count limit.images) x.1 })) y) limit.what where
          lines : d1.core.ledger.book.lines ≡ journal d0
          lines = ap (λ (l : Ledger). l.book.lines) e

          still : (w : Refusal) → why ≡ w → is_kept w ≡ false → Waits Old (New after) (seat.Open A)
          still w same not = waits_same why (ap is_kept same ∙ not) e

          moved : (w : Refusal) → IsCommitRefused d0.core.desk.base (journal d0) label t.edits w → IsCommitRefused (base_of (New after).opened.base (New after).front) (New after).front label t.edits w
          moved w is =
              let opened_is : (New after).opened.base ≡ opened_base d0.start = ap (λ o. (ground_in state faults o).base) (v.same.opening ∙ v.opening) in
              subst (λ (l : List Line). IsCommitRefused (base_of (New after).opened.base l) l label t.edits w) (sym (front_is lines))
              (subst (λ (b : Base). IsCommitRefused b (journal d0) label t.edits w) (base_there ∙ ap (λ (b : Base). base_of b (journal d0)) (sym opened_is)) is)

    refused_gives : (because : Refusal) → refused_so is_honest state faults d0.core t label ≡ Some because → d1.core.ledger ≡ with_open who (kept_behind because t) d0.core.ledger → Gives (Err because)
    refused_gives because e ledger = by_kept t.kept refl (stopped_refused (first_stop (journal d0)) (is_some label) t.edits) refl (first_changed (journal d0) t t.reads.keys) refl Images refl Snapshots refl Archive refl e where
      by_kept : (k : Option Refusal) → t.kept ≡ k → (s : Option Refusal) → stopped_refused (first_stop (journal d0)) (is_some label) t.edits ≡ s → (c : Option Who) → first_changed (journal d0) t t.reads.keys ≡ c → (i : Option Refusal) → Images ≡ i → (n : Option Refusal) → Snapshots ≡ n
          → (a : Option Refusal) → Archive ≡ a → option_or k (option_or s (option_or (option_map overlap c) (option_or i (option_or n a)))) ≡ Some because → Gives (Err because)
      by_kept (Some x) k s se c ce i ie n ne a ae f = kept_so because (k ∙ f) ledger
      by_kept None k (Some x) se c ce i ie n ne a ae f =
          let st = stop_some (first_stop (journal d0)) label t.edits because (se ∙ f) in
          subst (λ (w : Refusal). Gives (Err w)) st.2 (stop_so st.0 st.1 st.3 (subst (λ (w : Refusal). d1.core.ledger ≡ with_open who (kept_behind w t) d0.core.ledger) (sym st.2) ledger))
      by_kept None k None se (Some other) ce i ie n ne a ae f =
          let same : overlap other ≡ because = some_is (overlap other) because f in
          subst (λ (w : Refusal). Gives (Err w)) same (overlap_so other ce (subst (λ (w : Refusal). d1.core.ledger ≡ with_open who (kept_behind w t) d0.core.ledger) (sym same) ledger))
      by_kept None k None se None ce (Some x) ie n ne a ae f = limit_so because (images_limit d0.core.desk.base (journal d0) label t.edits because (ie ∙ f)) ledger
      by_kept None k None se None ce None ie (Some x) ne a ae f = limit_so because (snapshots_limit d0.core.desk.base (journal d0) label t.edits because (ne ∙ f)) ledger
      by_kept None k None se None ce None ie None ne a ae f = limit_so because (archive_limit d0.core.desk.base (journal d0) label t.edits because (ae ∙ f)) ledger

    -- ---- refused while it was made

    fault_so : (d : Device) (c : ℕ) → r ≡ Err (refusal.DiskFault d c) → refused_so is_honest state faults d0.core t label ≡ None → Gives (Err (refusal.DiskFault d c))
    fault_so d c e free =
        let made = does.makes free in
        let ledger : d1.core.ledger ≡ faulted who d c (Append (Commit label t.edits)) d0.core.ledger = subst (λ (x : Result (Option ℕ) Refusal). MatchResult x (λ _. d1.core.ledger ≡ committed who label t.edits (taken who d0.core.ledger)) (λ why. d1.core.ledger ≡ failed_at (Append (Commit label t.edits)) who why d0.core.ledger)) e made.ended in
        let closes = ledger ∙ faulted_closed who d0.core.ledger d c (Append (Commit label t.edits)) (work.Open t) open_there in
        let cause = (subst (λ (x : Result (Option ℕ) Refusal). MatchResult x (λ _. faults d1.core.desk.log.disk ≡ faults d0.core.desk.log.disk)
        (IsChangeRefusal d0.core.desk.log.log.area.log (length (change_bytes d0.core.desk.log.log.version (Commit label t.edits))) (faults d0.core.desk.log.disk) (faults d1.core.desk.log.disk))) e made.cause).1 in
        let log : d ≡ Log = cause.0 ∙ does.names in
        let opened_is : (New after).opened ≡ ground_of state faults d0.start = ap (ground_in state faults) (v.same.opening ∙ v.opening) in
        inr (
          inr (record {
            adds = done_so (Fault d c (Append (Commit label t.edits))) (same_told ∙ quiet)
                (ended_came (Fault d c (Append (Commit label t.edits))) (closed who (Fault d c (Append (Commit label t.edits))) d0.core.ledger) closes refl (slot_own (slots_of d0) who.session None));
            agree = agrees (free_parts free).1;
          }),
          λ less. subst (λ (x : Device). (New after).opened.faults x < c) (sym log) (subst (λ g. g.faults Log < c) (sym opened_is)
              (above_so (faults d0.start.core.value.desk.log.disk) (faults d0.core.desk.log.disk) (faults d1.core.desk.log.disk) c (v.keeps.later Log) cause.3 cause.1 less)),
        )

    pub commit_gives : (x : Result (Option ℕ) Refusal) → r ≡ x → ((why : Refusal) → x ≡ Err why → IsRoom why → ⊥) → Gives x
    commit_gives (Ok number) e none = commit_ok number e
    commit_gives (Err why) e none = at (refused_so is_honest state faults d0.core t label) refl where
      not_room : IsRoom why → ⊥
      not_room room = none why refl room

      made : (w : Refusal) → why ≡ w → refused_so is_honest state faults d0.core t label ≡ None → Gives (Err w)
      made (refusal.DiskFault d c) same free = fault_so d c (e ∙ ap Err same) free
      made refusal.OutOfMemory same free =
          let none_changed_here = subst (λ (x : Result (Option ℕ) Refusal). IfErr x (λ w. (IsDiskFault w → ⊥) → d1.core ≡ d0.core)) (e ∙ ap Err same) (does.makes free).untouched (λ f. f) in
          (subst (λ (ts : List ToldFault). Waits Old (New ts) (seat.Open A)) (sym same_told) (waits_core none_changed_here), refl)
      made (refusal.NoRoom needed free_bytes) same free = absurd (not_room (subst IsRoom (sym same) tt))
      made w same free = absurd ((subst (λ (x : Result (Option ℕ) Refusal). MatchResult x (λ _. faults d1.core.desk.log.disk ≡ faults d0.core.desk.log.disk)
          (IsChangeRefusal d0.core.desk.log.log.area.log (length (change_bytes d0.core.desk.log.log.version (Commit label t.edits))) (faults d0.core.desk.log.disk) (faults d1.core.desk.log.disk))) (e ∙ ap Err same) (does.makes free).cause).1)

      at : (o : Option Refusal) → refused_so is_honest state faults d0.core t label ≡ o → Gives (Err why)
      at None free = made why refl free
      at (Some because) refused =
          let d = does.refused because refused in
          subst (λ (w : Refusal). Gives (Err w)) (sym (cc (e, d.0))) (refused_gives because refused d.2)

    -- ---- what the seat keeps

    begun_now : journal d1 ≡ journal d0 → HasBegun (seen s1) s1.number t
    begun_now lines = subst (λ (l : List Line). HasBegun l s1.number t) (sym (v.seen ∙ lines)) (subst (λ (n : ℕ). HasBegun (journal d0) n t) (ap (λ (w : Who). w.session) of ∙ (own ∙ sym (v.same.number ∙ passes.stays.same.number))) begun_there)

    keeps_kept : (why : Refusal) → d1.core.ledger ≡ with_open who (kept_behind why t) d0.core.ledger → IsSeated who asked after s1
    keeps_kept why e = seated_open who asked after s1 t (kept_behind why t) (same_told ∙ quiet) of (kept_who why t) (kept_began why t) (begun_now (ap (λ (l : Ledger). l.book.lines) e)) (came_kept (kept_behind why t) e).work_is

    keeps_none : (mine s1).work ≡ None → IsSeated who asked after s1
    keeps_none none = subst (λ (ts : List ToldFault). IsSeated who asked ts s1) (sym (same_told ∙ quiet)) (seated_none who asked s1 none)

    pub commit_keeps : (x : Result (Option ℕ) Refusal) → r ≡ x → ((why : Refusal) → x ≡ Err why → IsRoom why → ⊥) → IsSeated who asked after s1
    commit_keeps (Ok number) e none = at (refused_so is_honest state faults d0.core t label) refl where
      at : (o : Option Refusal) → refused_so is_honest state faults d0.core t label ≡ o → IsSeated who asked after s1
      at (Some why) refused = absurd (cc (e, (does.refused why refused).0))
      at None free =
          let ledger = subst (λ (x : Result (Option ℕ) Refusal). MatchResult x (λ _. d1.core.ledger ≡ committed who label t.edits (taken who d0.core.ledger)) (λ why. d1.core.ledger ≡ failed_at (Append (Commit label t.edits)) who why d0.core.ledger)) e (does.makes free).ended in
          keeps_none (ended_came (Done label t.edits) (committed who label t.edits (taken who d0.core.ledger)) ledger refl (slot_own (slots_of d0) who.session None)).work_is
    commit_keeps (Err why) e none = at (refused_so is_honest state faults d0.core t label) refl where
      made : (w : Refusal) → why ≡ w → refused_so is_honest state faults d0.core t label ≡ None → IsSeated who asked after s1
      made (refusal.DiskFault d c) same free =
          let ledger : d1.core.ledger ≡ faulted who d c (Append (Commit label t.edits)) d0.core.ledger = subst (λ (x : Result (Option ℕ) Refusal). MatchResult x (λ _. d1.core.ledger ≡ committed who label t.edits (taken who d0.core.ledger)) (λ why. d1.core.ledger ≡ failed_at (Append (Commit label t.edits)) who why d0.core.ledger)) (e ∙ ap Err same) (does.makes free).ended in
          keeps_none (ended_came (Fault d c (Append (Commit label t.edits))) (closed who (Fault d c (Append (Commit label t.edits))) d0.core.ledger) (ledger ∙ faulted_closed who d0.core.ledger d c (Append (Commit label t.edits)) (work.Open t) open_there) refl (slot_own (slots_of d0) who.session None)).work_is
      made refusal.OutOfMemory same free =
          let core = subst (λ (x : Result (Option ℕ) Refusal). IfErr x (λ w. (IsDiskFault w → ⊥) → d1.core ≡ d0.core)) (e ∙ ap Err same) (does.makes free).untouched (λ f. f) in
          seated_open who asked after s1 t t (same_told ∙ quiet) of refl refl (begun_now (ap (λ (c : Core D). c.ledger.book.lines) core)) (core_work core)
      made (refusal.NoRoom needed free_bytes) same free = absurd (none why refl (subst IsRoom (sym same) tt))
      made w same free = absurd ((subst (λ (x : Result (Option ℕ) Refusal). MatchResult x (λ _. faults d1.core.desk.log.disk ≡ faults d0.core.desk.log.disk)
          (IsChangeRefusal d0.core.desk.log.log.area.log (length (change_bytes d0.core.desk.log.log.version (Commit label t.edits))) (faults d0.core.desk.log.disk) (faults d1.core.desk.log.disk))) (e ∙ ap Err same) (does.makes free).cause).1)

      at : (o : Option Refusal) → refused_so is_honest state faults d0.core t label ≡ o → IsSeated who asked after s1
      at None free = made why refl free
      at (Some because) refused = keeps_kept because (does.refused because refused).2

-- ---- the commit as a whole

module _ {D : Type 0} (is_honest : D → Type 0) (state : D → State) (faults : D → ℕ) (remembers : Type 0) (clock : D → Clock) (z : TableId) (s0 s1 : Sat D) (ready : IsReady z s0) (who : Who) (asked : Option ℕ)
    (before after : List ToldFault) (own : who.session ≡ s0.number) (t : Transaction) (is_open : (mine s0).work ≡ Some (work.Open t)) (of : t.who ≡ who) (begun : HasBegun (seen s0) s0.number t) (quiet : before ≡ []) (same_told : after ≡ before) (label : Option (List ℕ)) where
  abbrev Was : View
  Was = view_of state faults asked before s0

  abbrev Is : View
  Is = view_of state faults asked after s1

  abbrev Tried : seat.Attempt
  Tried = record { who = t.who; since = take t.began (seen s0); read = t.reads.keys; edits = t.edits; kept = t.kept }

  -- visits that left nothing leave it open
  passed : Passes z s0 s1 → Waits Was Is (seat.Open Tried) × IsSeated who asked after s1
  passed p =
      let work_is : (mine s1).work ≡ Some (work.Open t) = work_stays s0 s1 p.stays ∙ is_open in
      let c : Came s0 s1 p.waits.others [] (Some (work.Open t)) = record { apart = p.waits.apart; front = sym p.waits.front ∙ sym (append-nil (seen s0 ++ p.waits.others)); work_is = work_is; number = p.stays.same.number; opening_is = p.stays.same.opening } in
      let few : t.began ≤ length (seen s0) = (let f = begun_few (seen s0) s0.number t begun in omega (arith, f)) in (
        record {
          moves = moves state faults asked asked before after s0 s1 p.waits.others [] (Some (work.Open t)) c;
          work_is = work_so state faults asked asked before after s0 s1 p.waits.others [] (Some (work.Open t)) c
              ∙ ap (λ (l : List Line). seat.Open (record Tried { since = l })) (ap (take t.began) (append-nil (seen s0 ++ p.waits.others)) ∙ take-append-le t.began (seen s0) p.waits.others few);
          told_is = ap reverse same_told;
        },
        seated_open who asked after s1 t t (same_told ∙ quiet) of refl refl
            (subst (λ (n : ℕ). HasBegun (seen s1) n t) (sym p.stays.same.number) (subst (λ (l : List Line). HasBegun l s0.number t) p.waits.front (begun_on (seen s0) p.waits.others s0.number t begun p.waits.apart))) work_is,
      )

  answers_give : (r : Result (Option ℕ) Refusal) → AnswersSo is_honest state faults z who (CommitDoes is_honest state faults remembers clock who label t) r s0 s1 → CommitGives label Was Is Tried r × IsSeated who asked after s1
  answers_give r (inl (reaches, none)) =
      let v = reaches.visits in
      let no : (why : Refusal) → r ≡ Err why → IsRoom why → ⊥ = λ why e room. none (subst (λ (x : Result (Option ℕ) Refusal). IsNoRoom x) (sym e) room) in (
        commit_gives is_honest state faults remembers clock z s0 reaches.middle s1 v.before v.after ready reaches.passes v.visited who asked before after own t is_open of begun label r v.does quiet same_told r refl no,
        commit_keeps is_honest state faults remembers clock z s0 reaches.middle s1 v.before v.after ready reaches.passes v.visited who asked before after own t is_open of begun label r v.does quiet same_told r refl no,
      )
  answers_give r (inr (why, e, refused)) = subst (λ (x : Result (Option ℕ) Refusal). CommitGives label Was Is Tried x × IsSeated who asked after s1) (sym e) (at why refused) where
    at : (w : Refusal) → RoomRefused is_honest state faults z who w s0 s1 → CommitGives label Was Is Tried (Err w) × IsSeated who asked after s1
    at (refusal.DiskFault d c) e =
        let reaches = e.0 in
        let v = reaches.visits in
        let f = round_fault is_honest state faults remembers clock z s0 reaches.middle s1 v.before v.after ready reaches.passes v.visited who asked before after own t is_open of begun label d c (same_told ∙ quiet) v.does e.1 in
        (inr f.0, subst (λ (ts : List ToldFault). IsSeated who asked ts s1) (sym (same_told ∙ quiet)) (seated_none who asked s1 f.1))
    at refusal.OutOfMemory p = let w = passed p in ((w.0, refl), w.1)
    at _ p = absurd p

  pub commit_answers : (r : Result (Option ℕ) Refusal) → AnswersAtLast is_honest state faults z remembers clock who (CommitDoes is_honest state faults remembers clock who label t) r s0 s1 → CommitGives label Was Is Tried r × IsSeated who asked after s1
  commit_answers r answers = answers_give r (commit_so is_honest state faults z remembers clock who label t r s0 s1 ready own is_open answers)
