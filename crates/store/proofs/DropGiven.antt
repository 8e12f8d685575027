-- What a drop gives.
use Rattle.std.proofs.Common.{◌≡◌, ◌≤◌, ◌<◌, ◌-◌, ◌⊎◌, ◌++◌, ◌∙◌, ℕ, Bool, true, false, cond, List, [], ◌∷◌, length, reverse, Option, Some, None, Result, Ok, Err, refl, sym, ap, subst, inl, inr, ⊎_elim, arith, append-nil, append_assoc}
use Rattle.std.specs.Prelude.{IfErr, MatchResult, OnOk, is_some}
use Rattle.std.specs.List.{AllByRecursion}
use Rattle.std.proofs.lemmas.List.{length-append}
use Rattle.atomic_table.specs.Seated.{TableId}
use Rattle.disk_model.specs.Disk.{State}
use Rattle.disk_model.specs.Moments.{Clock}
use Rattle.retro_base.specs.declared.device.Device.{Device}
use Rattle.retro_base.specs.declared.device.Device.TheVariants.{Log}
use Rattle.retro_base.specs.declared.limits.TheConstants.{JOURNAL_LINES, WORKER_LINES}
use Rattle.retro_base.specs.declared.refusal.Refusal.{Refusal}
use Rattle.retro_base.specs.declared.refusal.Refusal.TheVariants as refusal
use Rattle.retro_base.specs.declared.who.Who.{Who}
use Rattle.history.specs.declared.entry.Base.{Base}
use Rattle.history.specs.declared.entry.Change.TheVariants.{Drop}
use Rattle.history.specs.declared.journal.FailedCall.{FailedCall}
use Rattle.history.specs.declared.journal.FailedCall.TheVariants.{Append, Write}
use Rattle.txn_set.proofs.Drops.{drops_stay_sound}
use Rattle.history.specs.declared.journal.Line.{Line}
use Rattle.history.specs.declared.journal.What.{What}
use Rattle.history.specs.declared.journal.What.TheVariants.{Dropped, Fault, Refused}
use Rattle.history.specs.declared.stop.Stop.{Stop}
use Rattle.history.specs.Lines.{base_of, first_stop, lines_of}
use Rattle.history.specs.Marks as marks
use Rattle.history.specs.Sound as sound
use Rattle.history.specs.Sound.{IsSound, KeepsRules, Pin}
use Rattle.history.proofs.SoundLaws.{sound_with_one_more}
use Rattle.journal_book.specs.Book.{noting}
use Rattle.journal_book.specs.Works.{least_pin, work_at}
use Rattle.journal_law.specs.Lawful.{AtDrop, DropRefused, IsLeastPin, IsNone, MayDrop, at_drop}
use Rattle.journal_law.specs.Own.{line}
use Rattle.journal_law.specs.Pages.{Pages, page_world, pins_of}
use Rattle.journal_law.specs.Seats as seat
use Rattle.journal_law.specs.Seats.{Adds, DropGives, DropRefusedThere, IsNew, MayDropThere, NeedsLines, TellsDropNeed, View, Waits, one}
use Rattle.journal_law.specs.World.{World, newest}
use Rattle.records.specs.Entries.{change_bytes}
use Rattle.desk.specs.Cause.{IsChangeRefusal}
use Rattle.txn_set.specs.declared.ledger.Ledger.{Ledger}
use Rattle.txn_set.specs.Ledger.{closed, drop_kept, faulted, given_up, gives_up, is_closed, line_of}
use Rattle.txn_set.specs.Refused.{drop_refused}
use Rattle.txn_set.specs.WorksFit.{PinsFit}
use Rattle.store_core.specs.Drops.{HasEndedDrop, drop_line_refused, drop_refused_by, is_kept_drop}
use Rattle.store_core.proofs.Cores.{base_is}
use Rattle.turn.specs.Seats.{mine, opening, seen}
use Rattle.store.specs.declared.desk_side.DeskSide.{DeskSide}
use Rattle.store.specs.declared.start.Start.{Start}
use Rattle.store.specs.RoundCalls.{DropDoes}
use Rattle.store.specs.Rounds.{DropAnswers, IsNoRoom, tells_drop}
use Rattle.store.specs.Seats.{IsReady, Sat, Visited, Visits, journal, slots_of}
use Rattle.store.specs.Start.{opened_base}
use Rattle.store.proofs.Adding.{given_lines, kept_lines}
use Rattle.store.proofs.Finding.{some_is}
use Rattle.store.proofs.Leaving.{sound_journal}
use Rattle.store.proofs.Passing.{new_fault}
use Rattle.store.proofs.Reaching.{AnswersSo, DropSo, IsNewSince, RoomRefused}
use Rattle.store.proofs.Redropping.{drop_as}
use Rattle.journal_law.specs.declared.seat.ToldFault.{ToldFault}
use Rattle.store.specs.Ground.{ground_of}
use Rattle.store.specs.Seen.{ground_in, seats_in, view_of, work_in}
use Rattle.store.specs.Worlds.{AreNamed}
use Rattle.store.proofs.Coming.{Came, lines_append, moves, work_so}
use Rattle.store.proofs.DropKinds.{Kind, Numbers, Pins, Stops, goes_on, kind_of}
use Rattle.store.proofs.Gives.{full_is, own_names}
use Rattle.store.proofs.LeastPins.{least_pin_is}
use Rattle.store.proofs.Needs.{drop_needs}
use Rattle.store.proofs.SeenMore.{Reached, reached_none, reached_on, reached_passes, reached_quiet}
use Rattle.store.proofs.Named.{names_same, names_stay, pins_same}

-- the line of a fault stands in any case
faulted_line : (who : Who) (device : Device) (count : ℕ) (call : FailedCall) (l : Ledger) → (faulted who device count call l).book.lines ≡ l.book.lines ++ line who (Fault device count call) ∷ []
faulted_line who device count call l = at (is_some (work_at l.works.slots who.session)) where
  at : (test : Bool) → (cond test (closed who (Fault device count call) l) (record l { book = noting l.book (line_of who (Fault device count call)) })).book.lines ≡ l.book.lines ++ line who (Fault device count call) ∷ []
  at true = refl
  at false = refl

module _ {D : Type 0} (is_honest : D → Type 0) (state : D → State) (faults : D → ℕ) (z : TableId) where
  -- ---- one visit to the desk

  module _ (remembers : Type 0) (clock : D → Clock) (who : Who) (below : ℕ) (m s1 : Sat D) (d0 d1 : DeskSide D) (v : Visited is_honest state faults z m s1 d0 d1) where
    abbrev Newest : ℕ
    Newest = marks.newest d0.core.desk.base.marks

    abbrev Told : What → Type 0
    Told what = journal d1 ≡ journal d0 ++ one who what

    -- what it has left
    abbrev Left : Result (Unit {0}) Refusal → Type 0
    Left (Ok u) = Told (Dropped below) × (drop_refused_by Newest below d0.core.ledger ≡ None)
    Left (Err (refusal.DiskFault d c)) = Told (Fault d c (Append (Drop below))) × (drop_refused_by Newest below d0.core.ledger ≡ None) × IsNewSince is_honest state faults z d c s1
    Left (Err (refusal.JournalFull lines images)) = (journal d1 ≡ journal d0) × (JOURNAL_LINES - WORKER_LINES < lines) × NeedsLines (seats_in (opening s1)) (journal d0) 1 lines images
    Left (Err refusal.OutOfMemory) = journal d1 ≡ journal d0
    Left (Err (refusal.NoRoom needed free)) = journal d1 ≡ journal d0
    Left (Err why) = Told (Refused why) × (drop_refused_by Newest below d0.core.ledger ≡ Some why)

    start_is : (start : Start D) → opening s1 ≡ Some start → d0.start ≡ start
    start_is start e = some_is d0.start start (sym v.opening ∙ (sym v.same.opening ∙ e))

    module _ (r : Result (Unit {0}) Refusal) (does : DropDoes is_honest state faults remembers clock who below r d0.core d1.core) where
      abbrev Kept : Ledger
      Kept = drop_kept who d0.core.ledger

      closed_line : (what : What) → d1.core.ledger ≡ closed who what Kept → Told what
      closed_line what e = ap (λ (l : Ledger). l.book.lines) e ∙ ap (λ (l : List Line). l ++ one who what) (kept_lines who d0.core.ledger)

      given_line : d1.core.ledger ≡ given_up who d0.core.ledger → journal d1 ≡ journal d0
      given_line e = ap (λ (l : Ledger). l.book.lines) e ∙ given_lines who d0.core.ledger

      kept_line : d1.core.ledger ≡ Kept → journal d1 ≡ journal d0
      kept_line e = ap (λ (l : Ledger). l.book.lines) e ∙ kept_lines who d0.core.ledger

      gave_line : d1.core.ledger ≡ gives_up who.session Kept → journal d1 ≡ journal d0
      gave_line e = ap (λ (l : Ledger). l.book.lines) e ∙ kept_lines who d0.core.ledger

      memory_left : (why : Refusal) → why ≡ refusal.OutOfMemory → journal d1 ≡ journal d0 → Left (Err why)
      memory_left why is quiet = subst (λ (w : Refusal). Left (Err w)) (sym is) quiet

      module _ (room : drop_line_refused who d0.core.ledger ≡ None) where
        refused_left : (because : Refusal) → drop_refused_by Newest below d0.core.ledger ≡ Some because → d1.core.ledger ≡ closed who (Refused because) Kept → Left (Err because)
        refused_left because is ledger = at (kind_of Newest below (least_pin (slots_of d0)) (first_stop (journal d0)) because is) where
          said : Told (Refused because) × (drop_refused_by Newest below d0.core.ledger ≡ Some because)
          said = (closed_line (Refused because) ledger, is)

          Say : Refusal → Type 0
          Say w = Told (Refused w) × (drop_refused_by Newest below d0.core.ledger ≡ Some w)

          at : Kind Newest below (least_pin (slots_of d0)) (first_stop (journal d0)) because → Left (Err because)
          at (Stops s there e) = subst (λ (w : Refusal). Left (Err w)) (sym e) (subst Say e said)
          at (Numbers goes none e) = subst (λ (w : Refusal). Left (Err w)) (sym e) (subst Say e said)
          at (Pins goes low high pin there less e) = subst (λ (w : Refusal). Left (Err w)) (sym e) (subst Say e said)

        module _ (free : drop_refused_by Newest below d0.core.ledger ≡ None) where
          cause : (why : Refusal) → r ≡ Err why → IsChangeRefusal d0.core.desk.log.log.area.log (length (change_bytes d0.core.desk.log.log.version (Drop below))) (faults d0.core.desk.log.disk) (faults d1.core.desk.log.disk) why
          cause why e = subst (λ (x : Result (Unit {0}) Refusal). MatchResult x (λ _. faults d1.core.desk.log.disk ≡ faults d0.core.desk.log.disk)
              (IsChangeRefusal d0.core.desk.log.log.area.log (length (change_bytes d0.core.desk.log.log.version (Drop below))) (faults d0.core.desk.log.disk) (faults d1.core.desk.log.disk))) e (does.cause (record { room = room; free = free }))

          ended_left : (why : Refusal) → r ≡ Err why → HasEndedDrop who below why Kept d1.core.ledger → Left (Err why)
          ended_left (refusal.DiskFault d c) e end =
              let f = (cause (refusal.DiskFault d c) e).1 in (
                ap (λ (l : Ledger). l.book.lines) (end.other (λ m. absurd (cc m))) ∙ (faulted_line who d c (Append (Drop below)) Kept ∙ ap (λ (l : List Line). l ++ one who (Fault d c (Append (Drop below)))) (kept_lines who d0.core.ledger)),
                free,
                λ start at. new_fault faults Log _ _ d c (f.0 ∙ does.names, f.1, f.2, f.3) start (subst (λ (x : Start D). faults x.core.value.desk.log.disk ≤ faults d0.core.desk.log.disk) (start_is start at) (v.keeps.later Log)),
              )
          ended_left refusal.OutOfMemory e end = gave_line (end.memory refl)
          ended_left (refusal.NoRoom needed free_bytes) e end = kept_line (end.other (λ m. absurd (cc m)))
          ended_left why e end = absurd (cause why e).1

        answered : (refused : Option Refusal) → drop_refused_by Newest below d0.core.ledger ≡ refused → (x : Result (Unit {0}) Refusal) → r ≡ x → Left x
        answered refused is (Ok u) e =
            let d = subst (λ (x : Result (Unit {0}) Refusal). OnOk x ((drop_refused_by Newest below d0.core.ledger ≡ None) × (d1.core.ledger ≡ closed who (Dropped below) Kept))) e does.dropped.done in (closed_line (Dropped below) d.1, d.0)
        answered None is (Err why) e = ⊎_elim (ended_left is why e) (λ (g : (why ≡ refusal.OutOfMemory) × (d1.core.ledger ≡ given_up who d0.core.ledger)). memory_left why g.0 (given_line g.1))
            (subst (λ (x : Result (Unit {0}) Refusal). IfErr x (λ w. HasEndedDrop who below w Kept d1.core.ledger ⊎ ((w ≡ refusal.OutOfMemory) × (d1.core.ledger ≡ given_up who d0.core.ledger)))) e (does.dropped.kept room is))
        answered (Some because) is (Err why) e = ⊎_elim (λ (l : (why ≡ because) × (d1.core.ledger ≡ closed who (Refused because) Kept)). subst (λ (w : Refusal). Left (Err w)) (sym l.0) (refused_left because is l.1))
            (λ (g : (why ≡ refusal.OutOfMemory) × (d1.core.ledger ≡ given_up who d0.core.ledger)). memory_left why g.0 (given_line g.1))
            (subst (λ (x : Result (Unit {0}) Refusal). IfErr x (λ o. ((o ≡ because) × (d1.core.ledger ≡ closed who (Refused because) Kept)) ⊎ ((o ≡ refusal.OutOfMemory) × (d1.core.ledger ≡ given_up who d0.core.ledger)))) e (does.dropped.refused because room is))

      left : Left r
      left = at (drop_line_refused who d0.core.ledger) refl where
        at : (refused : Option Refusal) → drop_line_refused who d0.core.ledger ≡ refused → Left r
        at None room = answered room (drop_refused_by Newest below d0.core.ledger) refl r refl
        at (Some why) full =
            let f = does.dropped.full why full in
            let w = full_is (given_up who d0.core.ledger).book _ why full in
            subst Left (sym (f.0 ∙ ap Err w.2)) (given_line f.1, w.3, drop_needs is_honest state faults z m s1 d0 d1 v who w.0 w.1 (full ∙ ap Some w.2))

  -- ---- what the seat has seen by then

  module _ (s0 s1 : Sat D) (asked : Option ℕ) (told : List ToldFault) (quiet : told ≡ []) (none : (mine s1).work ≡ None) where
    abbrev Old : View
    Old = view_of state faults asked told s0

    abbrev New : View
    New = view_of state faults asked told s1

    -- lines of others alone
    waits_so : Reached s0 s1 → (mine s0).work ≡ None → Waits Old New Old.work
    waits_so reached none_before =
        let c : Came s0 s1 reached.waits.others [] None = record { apart = reached.waits.apart; front = sym reached.waits.front ∙ sym (append-nil (seen s0 ++ reached.waits.others)); work_is = none; number = reached.same.number; opening_is = reached.same.opening } in
        record {
          moves = moves state faults asked asked told told s0 s1 reached.waits.others [] None c;
          work_is = work_so state faults asked asked told told s0 s1 reached.waits.others [] None c ∙ sym (ap (work_in asked (seen s0)) none_before);
          told_is = refl;
        }

    module _ (who : Who) (below : ℕ) (m : Sat D) (reached : Reached s0 m) (d0 d1 : DeskSide D) (v : Visited is_honest state faults z m s1 d0 d1) where
      abbrev More : List Line
      More = reached.waits.others ++ v.others

      place_is : seen s0 ++ More ≡ journal d0
      place_is = sym (append_assoc (seen s0) reached.waits.others v.others) ∙ (ap (λ (l : List Line). l ++ v.others) reached.waits.front ∙ v.place)

      none_own : lines_of s0.number More ≡ []
      none_own = lines_append s0.number reached.waits.others v.others ∙ (ap (λ (l : List Line). l ++ lines_of s0.number v.others) reached.waits.apart ∙ (ap (λ (n : ℕ). lines_of n v.others) (sym reached.same.number) ∙ v.apart))

      came_line : (what : What) → journal d1 ≡ journal d0 ++ one who what → Came s0 s1 More (one who what) None
      came_line what e = record {
        apart = none_own;
        front = v.seen ∙ (e ∙ ap (λ (l : List Line). l ++ one who what) (sym place_is));
        work_is = none;
        number = v.same.number ∙ reached.same.number;
        opening_is = v.same.opening ∙ reached.same.opening;
      }

      abbrev adds_so : (what : What) → journal d1 ≡ journal d0 ++ one who what → Adds Old New who what seat.Idle
      adds_so what e = record {
        moves = moves state faults asked asked told told s0 s1 More (one who what) None (came_line what e);
        work_is = work_so state faults asked asked told told s0 s1 More (one who what) None (came_line what e);
        told_is = ap reverse quiet;
      }

      opening_there : opening s0 ≡ Some d0.start
      opening_there = sym reached.same.opening ∙ v.opening

      is_new : (d : Device) (c : ℕ) → IsNewSince is_honest state faults z d c s1 → IsNew New d c
      is_new d c since less =
          let there = v.same.opening ∙ v.opening in subst (λ g. g.faults d < c) (sym (ap (ground_in state faults) there)) (since d0.start there less)

      -- ---- what stands at the place of its line

      abbrev Opened : World Pages
      Opened = (ground_in state faults (opening s0)).pages

      abbrev There : World Pages
      There = page_world Opened (seen s0 ++ More)

      abbrev Meets : AtDrop
      Meets = at_drop Opened There (seen s0 ++ More)

      abbrev Opening : Base
      Opening = opened_base d0.start

      ground_there : ground_of state faults d0.start ≡ ground_in state faults (opening s0)
      ground_there = sym (ap (ground_in state faults) opening_there)

      opened_named : AreNamed Opening.marks Opened.marks
      opened_named = subst (λ g. AreNamed Opening.marks g.pages.marks) ground_there (own_names state d0.start.core.value d0.start.archive.value)

      base_there : d0.core.desk.base ≡ base_of Opening (journal d0)
      base_there = let found = v.stands.stands v.stands.origin v.stands.opened in base_is is_honest state v.stands.origin.history d0.core found.plain found.is ∙ ap (λ (b : Base). base_of b (journal d0)) v.stands.opened.base

      newest_there : marks.newest d0.core.desk.base.marks ≡ newest There
      newest_there =
          ap (λ (b : Base). marks.newest b.marks) base_there
          ∙ ((names_same (base_of Opening (journal d0)) (page_world Opened (journal d0)) (names_stay Opening Opened (journal d0) opened_named)).1
          ∙ ap (λ (l : List Line). newest (page_world Opened l)) (sym place_is))

      pins_there : pins_of Opened (seen s0 ++ More) ≡ sound.pins_of Opening [] (journal d0)
      pins_there = ap (pins_of Opened) place_is ∙ pins_same Opening Opened (journal d0) opened_named

      stop_there : (o : Option Stop) → first_stop (journal d0) ≡ o → first_stop (seen s0 ++ More) ≡ o
      stop_there o e = ap first_stop place_is ∙ e

      pins_fit : PinsFit Opening d0.core.ledger
      pins_fit = let found = v.stands.stands v.stands.origin v.stands.opened in subst (λ (b : Base). PinsFit b d0.core.ledger) v.stands.opened.base found.is.ledger.pins

      -- a drop that is done may be done
      may_drop : journal d1 ≡ journal d0 ++ one who (Dropped below) → drop_refused_by (marks.newest d0.core.desk.base.marks) below d0.core.ledger ≡ None → MayDrop Meets below
      may_drop lines free =
          let sound_after = subst (λ (x : Start D). IsSound (opened_base x) (journal d1)) v.start (sound_journal is_honest state d1 v.stands_after) in
          let rules : KeepsRules (base_of Opening (journal d0)) (sound.pins_of Opening [] (journal d0)) (Dropped below) =
          ((sound_with_one_more Opening (journal d0) (line who (Dropped below))).0 (subst (IsSound Opening) lines sound_after)).2 in
          let newest_is = ap (λ (b : Base). marks.newest b.marks) (sym base_there) ∙ newest_there in
          record {
            goes = stop_there None (goes_on (first_stop (journal d0)) _ free);
            numbered = (rules.0, subst (λ (n : ℕ). below ≤ n) newest_is rules.1);
            free = subst (AllByRecursion (λ (pin : Pin). below ≤ pin.snapshot)) (sym pins_there) rules.2;
          }

      -- so may one that a fault leaves in doubt
      may_doubt : (call : FailedCall) (d : Device) (c : ℕ) → journal d1 ≡ journal d0 ++ one who (Fault d c call) → drop_refused_by (marks.newest d0.core.desk.base.marks) below d0.core.ledger ≡ None → MayDrop Meets below
      may_doubt call d c lines free =
          let found = v.stands.stands v.stands.origin v.stands.opened in
          let short = (subst (λ (x : Start D). IsSound (opened_base x) (journal d1)) v.start (sound_journal is_honest state d1 v.stands_after)).short in
          let place : length (journal d0) < JOURNAL_LINES = omega (arith, short, ap (λ (l : List Line). length l) lines ∙ length-append (journal d0) (one who (Fault d c call))) in
          let sound_before : IsSound Opening (journal d0) = subst (λ (b : Base). IsSound b (journal d0)) v.stands.opened.base found.is.ledger.sound in
          let rules : KeepsRules (base_of Opening (journal d0)) (sound.pins_of Opening [] (journal d0)) (Dropped below) =
          ((sound_with_one_more Opening (journal d0) (line who (Dropped below))).0
          (drops_stay_sound Opening (first_stop (journal d0)) d0.core.ledger (line who (Dropped below)) below sound_before place found.is.ledger.works pins_fit
          (subst (λ (b : Base). drop_refused (first_stop (journal d0)) (marks.newest b.marks) below (slots_of d0) ≡ None) base_there free) refl)).2 in
          let newest_is = ap (λ (b : Base). marks.newest b.marks) (sym base_there) ∙ newest_there in
          record {
            goes = stop_there None (goes_on (first_stop (journal d0)) _ free);
            numbered = (rules.0, subst (λ (n : ℕ). below ≤ n) newest_is rules.1);
            free = subst (AllByRecursion (λ (pin : Pin). below ≤ pin.snapshot)) (sym pins_there) rules.2;
          }

      -- a drop that was refused is refused so
      refused_there : (why : Refusal) → drop_refused_by (marks.newest d0.core.desk.base.marks) below d0.core.ledger ≡ Some why → DropRefused Meets below why
      refused_there why e = at (kind_of (marks.newest d0.core.desk.base.marks) below (least_pin (slots_of d0)) (first_stop (journal d0)) why e) where
        at : Kind (marks.newest d0.core.desk.base.marks) below (least_pin (slots_of d0)) (first_stop (journal d0)) why → DropRefused Meets below why
        at (Stops s there is) = inl (s, stop_there (Some s) there, is)
        at (Numbers goes none_there is) = inr (inl (stop_there None goes, subst (IsNone below) newest_there none_there, is ∙ ap (refusal.NoSuchSnapshot below) newest_there))
        at (Pins goes low high pin there less is) =
            let found = v.stands.stands v.stands.origin v.stands.opened in
            inr (inr (
              stop_there None goes,
              low,
              subst (λ (n : ℕ). below ≤ n) newest_there high,
              (pin.0, pin.1, subst (λ (pins : List Pin). IsLeastPin pins below pin.0 pin.1) (sym pins_there) (least_pin_is Opening d0.core.ledger found.is.ledger.works pins_fit pin there below less), is),
            ))

      -- ---- what it gives

      module _ (remembers : Type 0) (clock : D → Clock) where
        abbrev Leaves : Result (Unit {0}) Refusal → Type 0
        Leaves = Left remembers clock who below m s1 d0 d1 v

        told_gives : (r : Result (Unit {0}) Refusal) → tells_drop r ≡ true → Leaves r → DropGives who below Old New r
        told_gives (Ok u) tells left = (adds_so (Dropped below) left.0, may_drop left.0 left.1)
        told_gives (Err (refusal.DiskFault d c)) tells left = (inr (adds_so (Fault d c (Append (Drop below))) left.0, may_doubt (Append (Drop below)) d c left.0 left.1), is_new d c left.2)
        told_gives (Err (refusal.Stopped d c)) tells left = (adds_so (Refused (refusal.Stopped d c)) left.0, refused_there (refusal.Stopped d c) left.1)
        told_gives (Err (refusal.NoSuchSnapshot n k)) tells left = (adds_so (Refused (refusal.NoSuchSnapshot n k)) left.0, refused_there (refusal.NoSuchSnapshot n k) left.1)
        told_gives (Err (refusal.Pinned n k)) tells left = (adds_so (Refused (refusal.Pinned n k)) left.0, refused_there (refusal.Pinned n k) left.1)
        told_gives (Err _) tells left = absurd (cc tells)

  -- ---- the drop as a whole

  module _ (remembers : Type 0) (clock : D → Clock) (who : Who) (below : ℕ) where
    abbrev Asks : Result (Unit {0}) Refusal → Sat D → Sat D → Type 0
    Asks = DropSo is_honest state faults z who (DropDoes is_honest state faults remembers clock who below)

    abbrev Again : Result (Unit {0}) Refusal → Sat D → Sat D → Type 0
    Again = AnswersSo is_honest state faults z who (DropDoes is_honest state faults remembers clock who below)

    abbrev Visit : Result (Unit {0}) Refusal → Sat D → Sat D → Type 0
    Visit r = Visits is_honest state faults z (DropDoes is_honest state faults remembers clock who below r)

    -- a visit that found no room left nothing
    first_reached : (s0 s1 : Sat D) (first : Result (Unit {0}) Refusal) → IsNoRoom first → Visit first s0 s1 → Reached s0 s1
    first_reached s0 s1 (Ok u) room v = absurd room
    first_reached s0 s1 (Err (refusal.NoRoom needed free)) room v = reached_quiet is_honest state faults z s0 s1 v.before v.after v.visited (left remembers clock who below s0 s1 v.before v.after v.visited (Err (refusal.NoRoom needed free)) v.does)
    first_reached s0 s1 (Err _) room v = absurd room

    module _ (s0 s1 : Sat D) (asked : Option ℕ) (told : List ToldFault) (quiet : told ≡ []) (none : (mine s1).work ≡ None) where
      abbrev Gives : Result (Unit {0}) Refusal → Type 0
      Gives r = DropGives who below (view_of state faults asked told s0) (view_of state faults asked told s1) r

      -- of a drop that its line tells
      asked_gives : (r : Result (Unit {0}) Refusal) → tells_drop r ≡ true → Asks r s0 s1 → Gives r
      asked_gives r tells (inl (v, room)) =
          told_gives s0 s1 asked told quiet none who below s0 (reached_none s0) v.before v.after v.visited remembers clock r tells (left remembers clock who below s0 s1 v.before v.after v.visited r v.does)
      asked_gives r tells (inr (first, kept, room, v, answers)) = again answers where
        to_kept : Reached s0 kept
        to_kept = first_reached s0 kept first room v

        fault : (d : Device) (c : ℕ) → RoomRefused is_honest state faults z who (refusal.DiskFault d c) kept s1 → Gives (Err (refusal.DiskFault d c))
        fault d c f =
            let u = f.0.visits in
            let reached = reached_on s0 kept f.0.middle to_kept (reached_passes z kept f.0.middle f.0.passes) in (
              inl (adds_so s0 s1 asked told quiet none who below f.0.middle reached u.before u.after u.visited (Fault d c Write) (ap (λ (l : Ledger). l.book.lines) u.does ∙ faulted_line who d c Write u.before.core.ledger)),
              is_new s0 s1 asked told quiet none who below f.0.middle reached u.before u.after u.visited d c f.1,
            )

        at : (why : Refusal) → tells_drop (Err why) ≡ true → RoomRefused is_honest state faults z who why kept s1 → Gives (Err why)
        at (refusal.DiskFault d c) t f = fault d c f
        at (refusal.Stopped d c) t f = absurd f
        at refusal.OutOfMemory t f = absurd (cc t)
        at _ t f = absurd f

        again : Again r kept s1 → Gives r
        again (inl (reaches, room)) =
            let u = reaches.visits in
            told_gives s0 s1 asked told quiet none who below reaches.middle (reached_on s0 kept reaches.middle to_kept (reached_passes z kept reaches.middle reaches.passes)) u.before u.after u.visited remembers clock r tells
            (left remembers clock who below reaches.middle s1 u.before u.after u.visited r u.does)
        again (inr (why, e, refused)) = subst Gives (sym e) (at why (subst (λ (x : Result (Unit {0}) Refusal). tells_drop x ≡ true) e tells) refused)

    -- what is known where no line tells it
    abbrev Untold : Sat D → Sat D → Result (Unit {0}) Refusal → Type 0
    Untold s0 s1 (Err (refusal.JournalFull lines images)) =
        (JOURNAL_LINES - WORKER_LINES < lines)
        × ((others : List Line) × (later : List Line) × (seen s1 ≡ (seen s0 ++ others) ++ later) × NeedsLines (seats_in (opening s1)) (seen s0 ++ others) 1 lines images)
    Untold s0 s1 (Err refusal.OutOfMemory) = Unit {0}
    Untold s0 s1 r = ⊥

    -- between seats that have seen more
    untold_within : (s0 m n s1 : Sat D) (r : Result (Unit {0}) Refusal) → Reached s0 m → Reached n s1 → Untold m n r → Untold s0 s1 r
    untold_within s0 m n s1 (Err (refusal.JournalFull lines images)) before after u =
        let w = before.waits in
        let from : seen m ++ u.1.0 ≡ seen s0 ++ (w.others ++ u.1.0) = ap (λ (l : List Line). l ++ u.1.0) (sym w.front) ∙ append_assoc (seen s0) w.others u.1.0 in
        let whole : seen s1 ≡ (seen m ++ u.1.0) ++ (u.1.1 ++ after.waits.others) = sym after.waits.front ∙ (ap (λ (l : List Line). l ++ after.waits.others) u.1.2 ∙ append_assoc (seen m ++ u.1.0) u.1.1 after.waits.others) in (
          u.0,
          (
            w.others ++ u.1.0,
            u.1.1 ++ after.waits.others,
            whole ∙ ap (λ (l : List Line). l ++ (u.1.1 ++ after.waits.others)) from,
            subst (λ (l : List Line). NeedsLines (seats_in (opening s1)) l 1 lines images) from (subst (λ (n : ℕ). NeedsLines n (seen m ++ u.1.0) 1 lines images) (ap seats_in (sym after.same.opening)) u.1.3),
          ),
        )
    untold_within s0 m n s1 (Err refusal.OutOfMemory) before after u = tt
    untold_within s0 m n s1 (Ok x) before after u = absurd u
    untold_within s0 m n s1 (Err _) before after u = absurd u

    -- a visit that no line tells
    visit_untold : (s0 s1 : Sat D) (r : Result (Unit {0}) Refusal) → tells_drop r ≡ false → (IsNoRoom r → ⊥) → Visit r s0 s1 → Reached s0 s1 × Untold s0 s1 r
    visit_untold s0 s1 r untold room v = at r untold room (left remembers clock who below s0 s1 v.before v.after v.visited r v.does) refl where
      Here : Result (Unit {0}) Refusal → Type 0
      Here = Left remembers clock who below s0 s1 v.before v.after v.visited

      at : (x : Result (Unit {0}) Refusal) → tells_drop x ≡ false → (IsNoRoom x → ⊥) → Here x → r ≡ x → Reached s0 s1 × Untold s0 s1 x
      at (Err (refusal.JournalFull lines images)) t n l e =
          let w = v.visited in (
            reached_quiet is_honest state faults z s0 s1 v.before v.after w l.0,
            (
              l.1,
              (
                w.others,
                [],
                w.seen ∙ (l.0 ∙ (sym w.place ∙ sym (append-nil (seen s0 ++ w.others)))),
                subst (λ (ls : List Line). NeedsLines (seats_in (opening s1)) ls 1 lines images) (sym w.place) l.2,
              ),
            ),
          )
      at (Err refusal.OutOfMemory) t n l e = (reached_quiet is_honest state faults z s0 s1 v.before v.after v.visited l, tt)
      at (Err (refusal.NoRoom needed free)) t n l e = absurd (n tt)
      at (Ok u) t n l e = absurd (cc t)
      at (Err (refusal.DiskFault d c)) t n l e = absurd (cc t)
      at (Err why) t n l e = absurd (none_else why t l.1) where
        none_else : (why : Refusal) → tells_drop (Err why) ≡ false → drop_refused_by (marks.newest v.before.core.desk.base.marks) below v.before.core.ledger ≡ Some why → ⊥
        none_else why t is = kinds (kind_of _ below (least_pin (slots_of v.before)) (first_stop (journal v.before)) why is) where
          other : (w : Refusal) → tells_drop (Err w) ≡ true → why ≡ w → ⊥
          other w told e = absurd (cc (told, subst (λ (x : Refusal). tells_drop (Err x) ≡ false) e t))

          kinds : Kind (marks.newest v.before.core.desk.base.marks) below (least_pin (slots_of v.before)) (first_stop (journal v.before)) why → ⊥
          kinds (Stops s there e) = other _ refl e
          kinds (Numbers goes none_there e) = other _ refl e
          kinds (Pins goes low high pin there less e) = other _ refl e

    asked_untold : (s0 s1 : Sat D) (r : Result (Unit {0}) Refusal) → tells_drop r ≡ false → Asks r s0 s1 → Reached s0 s1 × Untold s0 s1 r
    asked_untold s0 s1 r untold (inl (v, room)) = visit_untold s0 s1 r untold room v
    asked_untold s0 s1 r untold (inr (first, kept, room, v, answers)) = again answers where
      to_kept : Reached s0 kept
      to_kept = first_reached s0 kept first room v

      at : (why : Refusal) → tells_drop (Err why) ≡ false → RoomRefused is_honest state faults z who why kept s1 → Reached s0 s1 × Untold s0 s1 (Err why)
      at (refusal.DiskFault d c) t f = absurd (cc t)
      at (refusal.Stopped d c) t f = absurd f
      at refusal.OutOfMemory t f = (reached_on s0 kept s1 to_kept (reached_passes z kept s1 f), tt)
      at _ t f = absurd f

      again : Again r kept s1 → Reached s0 s1 × Untold s0 s1 r
      again (inl (reaches, none_room)) =
          let u = visit_untold reaches.middle s1 r untold none_room reaches.visits in
          let to_middle = reached_on s0 kept reaches.middle to_kept (reached_passes z kept reaches.middle reaches.passes) in
          (reached_on s0 reaches.middle s1 to_middle u.0, untold_within s0 reaches.middle s1 s1 r to_middle (reached_none s1) u.1)
      again (inr (why, e, refused)) = subst (λ (x : Result (Unit {0}) Refusal). Reached s0 s1 × Untold s0 s1 x) (sym e) (at why (subst (λ (x : Result (Unit {0}) Refusal). tells_drop x ≡ false) e untold) refused)

    module _ (s0 s1 : Sat D) (asked : Option ℕ) (told : List ToldFault) (quiet : told ≡ []) (none_before : (mine s0).work ≡ None) (none : (mine s1).work ≡ None) where
      abbrev Answer : Result (Unit {0}) Refusal → Type 0
      Answer r = DropGives who below (view_of state faults asked told s0) (view_of state faults asked told s1) r

      untold_gives : (r : Result (Unit {0}) Refusal) → Reached s0 s1 → Untold s0 s1 r → Answer r
      untold_gives (Err (refusal.JournalFull lines images)) reached many = (waits_so s0 s1 asked told quiet none reached none_before, many.0)
      untold_gives (Err refusal.OutOfMemory) reached x = waits_so s0 s1 asked told quiet none reached none_before
      untold_gives (Ok u) reached x = absurd x
      untold_gives (Err _) reached x = absurd x

      asks : IsReady z s0 → who.session ≡ s0.number → (r : Result (Unit {0}) Refusal) → (answers : DropAnswers is_honest state faults z remembers clock who below r s0 s1) → Asks r s0 answers.asked
      asks ready own r answers = drop_as is_honest state faults z remembers clock who below r s0 answers.asked ready own (ap is_closed none_before) answers.asks

      -- a drop that no line tells gives up its own
      gave_up : IsReady z s0 → who.session ≡ s0.number → (r : Result (Unit {0}) Refusal) → DropAnswers is_honest state faults z remembers clock who below r s0 s1 → tells_drop r ≡ false → Reached s0 s1 × Untold s0 s1 r
      gave_up ready own r answers tells =
          let u = asked_untold s0 answers.asked r tells (asks ready own r answers) in
          let v = answers.gives_up tells in
          let on = reached_quiet is_honest state faults z answers.asked s1 v.before v.after v.visited (without_lines (is_kept_drop (work_at (slots_of v.before) who.session)) v.before v.after v.does.ledger) in
          (reached_on s0 answers.asked s1 u.0 on, untold_within s0 s0 answers.asked s1 r (reached_none s0) on u.1) where
            without_lines : (test : Bool) (d0 d1 : DeskSide D) → d1.core.ledger ≡ cond test (gives_up who.session d0.core.ledger) d0.core.ledger → journal d1 ≡ journal d0
            without_lines true d0 d1 e = ap (λ (l : Ledger). l.book.lines) e
            without_lines false d0 d1 e = ap (λ (l : Ledger). l.book.lines) e

      pub drop_gives : IsReady z s0 → who.session ≡ s0.number → (r : Result (Unit {0}) Refusal) → DropAnswers is_honest state faults z remembers clock who below r s0 s1 → Answer r
      drop_gives ready own r answers = at (tells_drop r) refl where
        at : (test : Bool) → tells_drop r ≡ test → Answer r
        at true tells =
            let same = answers.told tells in
            subst (λ (s : Sat D). DropGives who below (view_of state faults asked told s0) (view_of state faults asked told s) r) (sym same)
            (asked_gives s0 answers.asked asked told quiet (subst (λ (s : Sat D). (mine s).work ≡ None) same none) r tells (asks ready own r answers))
        at false tells = let gave = gave_up ready own r answers tells in untold_gives r gave.0 gave.1

      pub drop_tells : IsReady z s0 → who.session ≡ s0.number → (r : Result (Unit {0}) Refusal) → DropAnswers is_honest state faults z remembers clock who below r s0 s1
          → TellsDropNeed (seats_in (opening s1)) (view_of state faults asked told s0) (view_of state faults asked told s1) r
      drop_tells ready own (Err (refusal.JournalFull lines images)) answers = (gave_up ready own (Err (refusal.JournalFull lines images)) answers refl).1.1
      drop_tells ready own (Err _) answers = tt
      drop_tells ready own (Ok x) answers = tt
