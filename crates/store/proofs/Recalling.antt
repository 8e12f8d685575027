-- What a seat has behind a read of the past.
use Rattle.std.proofs.Common.{◌≡◌, ◌∙◌, ◌≤◌, ◌<◌, ◌++◌, ℕ, Bool, true, false, cond, List, [], Option, Some, Result, Ok, Err, refl, sym, ap, subst, inl, inr, arith, append_assoc, append-nil}
use Rattle.std.specs.Prelude.{IfOk, MatchResult, OnOk}
use Rattle.std.proofs.lemmas.List.Elements.{filter-append}
use Rattle.atomic_table.specs.Seated.{TableId}
use Rattle.disk_model.specs.Disk.{State}
use Rattle.disk_model.specs.Moments.{Clock}
use Rattle.retro_base.specs.Cause.{FaultsAlone, IsFault}
use Rattle.retro_base.specs.declared.device.Device.{Device}
use Rattle.retro_base.specs.declared.device.Device.TheVariants.{Pages}
use Rattle.retro_base.specs.declared.refusal.Refusal.{Refusal}
use Rattle.retro_base.specs.declared.refusal.Refusal.TheVariants.{DiskFault}
use Rattle.history.specs.declared.entry.Base.{Base}
use Rattle.history.specs.declared.journal.Line.{Line}
use Rattle.history.specs.History.{History, now, pages_as_of}
use Rattle.history.specs.Journal.{after_journal}
use Rattle.history.specs.Lines.{base_of, lines_of, pinned_by}
use Rattle.history.specs.Marks.{is_retained, start_of}
use Rattle.history.specs.Sound.{IsSound, pins_of}
use Rattle.history.specs.Writes.{is_among}
use Rattle.history.proofs.Items.{same_self}
use Rattle.history.proofs.Journals.{front_is_sound}
use Rattle.history.proofs.Lines.{base_after_journal}
use Rattle.journal_book.specs.declared.work.Work.{Work}
use Rattle.journal_book.specs.declared.work.Work.TheVariants.{Looking}
use Rattle.journal_book.specs.Works.{work_at}
use Rattle.page_table.specs.Table.{Table}
use Rattle.race_model.specs.declared.fault.Fault.{Fault}
use Rattle.race_model.specs.Desk.{Desk, capacity_of}
use Rattle.race_model.specs.Fits.{VaultFits}
use Rattle.race_model.specs.Reading.{in_slot, told_of}
use Rattle.race_model.specs.Vault.{Vault, listing}
use Rattle.race_model.proofs.Apart.{past_over_lines}
use Rattle.skippy.specs.Mappings.{end_of, first_in}
use Rattle.store_core.specs.declared.copying.Peeked.{Peeked}
use Rattle.txn_set.specs.declared.ledger.Ledger.{Ledger}
use Rattle.txn_set.specs.WorksFit.{pins_at}
use Rattle.turn.specs.declared.view.Holding.{Holding}
use Rattle.turn.specs.Faults.{desk_faults, fault_times}
use Rattle.turn.specs.Seats.{held, mine, opening, seen}
use Rattle.turn.specs.Views.{holding, still_told}
use Rattle.turn.proofs.Faults.{told_still}
use Rattle.store.specs.declared.desk_side.DeskSide.{DeskSide}
use Rattle.store.specs.declared.start.Start.{Start}
use Rattle.store.specs.Calls.{PeekDoes}
use Rattle.store.specs.Past.{FindsIn, IsNewFault, IsPastCause, IsPastOf, IsPinnedBy, IsSeeking, IsTableOf, ScansBelow}
use Rattle.store.specs.Seats.{CountFits, IsReady, Sat, StaysIn, Visited, Visits, Waits, journal, slots_of}
use Rattle.store.specs.Start.{IsAbove, IsOpenedTo, Origin, desk_counts, opened_base}
use Rattle.store.proofs.Answering.{page_told}
use Rattle.store.proofs.Committing.{more_told}
use Rattle.store.proofs.Finding.{above_so, some_is, table_moves}
use Rattle.store.proofs.Leaving.{sound_journal}
use Rattle.store.proofs.Reading.{pinned_retained, pins_stay}

pub lines_append : (n : ℕ) (xs ys : List Line) → lines_of n (xs ++ ys) ≡ lines_of n xs ++ lines_of n ys
lines_append n xs ys = rw filter-append refl

-- ---- one behind the other

module _ {D : Type 0} (s0 s1 s2 : Sat D) where
  pub stays_on : StaysIn s0 s1 → StaysIn s1 s2 → StaysIn s0 s2
  stays_on one two = record {
    same = record { id = two.same.id ∙ one.same.id; number = two.same.number ∙ one.same.number; opening = two.same.opening ∙ one.same.opening };
    rises = let a = one.rises in let b = two.rises in omega (arith, a, b);
    more = one.more ++ two.more;
    mine_is = two.mine_is ∙ (ap (λ (h : Holding Work). record h { faults = h.faults ++ two.more }) one.mine_is ∙ ap (λ (fs : List (Device × ℕ)). record (mine s0) { faults = fs }) (append_assoc (mine s0).faults one.more two.more));
  }

  pub waits_on : s1.number ≡ s0.number → Waits s0 s1 → Waits s1 s2 → Waits s0 s2
  waits_on same one two = record {
    others = one.others ++ two.others;
    front = sym (append_assoc (seen s0) one.others two.others) ∙ (ap (λ (l : List Line). l ++ two.others) one.front ∙ two.front);
    apart = lines_append s0.number one.others two.others ∙ (ap (λ (l : List Line). l ++ lines_of s0.number two.others) one.apart ∙ (ap (λ (n : ℕ). lines_of n two.others) (sym same) ∙ two.apart));
  }

-- ---- behind a visit that tells nothing

module _ {D : Type 0} (is_honest : D → Type 0) (state : D → State) (faults : D → ℕ) (z : TableId) (s0 s1 : Sat D) (d0 d1 : DeskSide D) (ready : IsReady z s0) (v : Visited is_honest state faults z s0 s1 d0 d1) (quiet : d1.core.ledger ≡ d0.core.ledger) where
  pub sees_glance : seen s1 ≡ journal d0
  sees_glance = v.seen ∙ ap (λ (l : Ledger). l.book.lines) quiet

  pub place_glance : seen s0 ++ v.others ≡ seen s1
  place_glance = v.place ∙ sym sees_glance

  abbrev pub ToldIn : List (Device × ℕ)
  ToldIn = desk_faults (desk_counts faults d0.core) (desk_counts faults d1.core)

  pub waits_glance : Waits s0 s1
  waits_glance = record { others = v.others; front = place_glance; apart = v.apart }

  pub mine_glance : mine s1 ≡ record (mine s0) { faults = (mine s0).faults ++ ToldIn }
  mine_glance =
      let h = mine s0 in
      let number : h.number ≡ s0.number = ready.rests.seat.number in
      let same : journal d1 ≡ journal d0 = ap (λ (l : Ledger). l.book.lines) quiet in
      let lines : lines_of h.number (journal d1) ≡ h.lines =
      ap (λ (k : ℕ). lines_of k (journal d1)) number
      ∙ (ap (lines_of s0.number) (same ∙ sym v.place)
      ∙ (lines_append s0.number (seen s0) v.others ∙ (ap (λ (l : List Line). lines_of s0.number (seen s0) ++ l) v.apart ∙ (append-nil (lines_of s0.number (seen s0)) ∙ sym ready.lines)))) in
      let work : work_at (slots_of d1) h.number ≡ h.work = ap (work_at (slots_of d1)) number ∙ (ap (λ (l : Ledger). work_at l.works.slots s0.number) quiet ∙ sym v.work) in
      let told : still_told (journal d0) (journal d1) (h.faults ++ ToldIn) ≡ h.faults ++ ToldIn = told_still (journal d0) (journal d1) (h.faults ++ ToldIn) same in
      v.mine
      ∙ (ap (λ (l : List Line). holding h.number h.parts l (work_at (slots_of d1) h.number) (still_told (journal d0) (journal d1) (h.faults ++ ToldIn))) lines
      ∙ (ap (λ (w : Option Work). holding h.number h.parts h.lines w (still_told (journal d0) (journal d1) (h.faults ++ ToldIn))) work ∙ ap (λ (fs : List (Device × ℕ)). holding h.number h.parts h.lines h.work fs) told))

  pub stays_glance : StaysIn s0 s1
  stays_glance = record { same = v.same; rises = v.rises; more = ToldIn; mine_is = mine_glance }

-- ---- behind the desk

module _ {D : Type 0} (is_honest : D → Type 0) (state : D → State) (faults : D → ℕ) (z : TableId) (s0 s1 : Sat D) (page n : ℕ) (before mid : List ℕ) (result : Result Peeked Refusal) (ready : IsReady z s0)
    {remembers : Type 0} {clock : D → Clock} (v : Visits is_honest state faults z (PeekDoes is_honest state faults remembers clock page n before mid result) s0 s1) where
  sees : seen s1 ≡ journal v.before
  sees = sees_glance is_honest state faults z s0 s1 v.before v.after ready v.visited v.does.ledger

  place_is : seen s0 ++ v.visited.others ≡ seen s1
  place_is = place_glance is_honest state faults z s0 s1 v.before v.after ready v.visited v.does.ledger

  abbrev Told : List (Device × ℕ)
  Told = ToldIn is_honest state faults z s0 s1 v.before v.after ready v.visited v.does.ledger

  pub waits_so : Waits s0 s1
  waits_so = waits_glance is_honest state faults z s0 s1 v.before v.after ready v.visited v.does.ledger

  mine_so : mine s1 ≡ record (mine s0) { faults = (mine s0).faults ++ Told }
  mine_so = mine_glance is_honest state faults z s0 s1 v.before v.after ready v.visited v.does.ledger

  pub stays_so : StaysIn s0 s1
  stays_so = stays_glance is_honest state faults z s0 s1 v.before v.after ready v.visited v.does.ledger

  -- a fault of the pages' device is told
  pub cause_so : (covered upto : ℕ) (why : Refusal) → CountFits result → result ≡ Err why → IsPastCause s1 covered upto why
  cause_so covered upto why few is = at why is (subst (λ (r : Result Peeked Refusal). FaultsAlone Pages (faults v.before.core.desk.pool.file.disk) (faults v.after.core.desk.pool.file.disk) r) is v.does.cause) where
    at : (w : Refusal) → result ≡ Err w → IsFault Pages (faults v.before.core.desk.pool.file.disk) (faults v.after.core.desk.pool.file.disk) w → IsPastCause s1 covered upto w
    at (DiskFault d c) e f = subst (λ (h : Holding Work). 0 < fault_times d c h.faults) (sym mine_so) (more_told (mine s0).faults Told d c (page_told faults v.before.core v.after.core d c (few d c e) f))
    at _ e f = absurd f

  -- and is new
  pub fault_so : (fault : Fault) → result ≡ Err fault.why → IsNewFault faults s0 fault
  fault_so fault is start d c e w =
      let f = subst (λ (r : Result Peeked Refusal). FaultsAlone Pages (faults v.before.core.desk.pool.file.disk) (faults v.after.core.desk.pool.file.disk) r) (is ∙ ap Err w) v.does.cause in
      let now_is : v.before.start ≡ start = some_is v.before.start start (sym v.visited.opening ∙ e) in
      let up : faults start.core.value.desk.pool.file.disk ≤ faults v.before.core.desk.pool.file.disk = subst (λ (x : Start D). faults x.core.value.desk.pool.file.disk ≤ faults v.before.core.desk.pool.file.disk) now_is (v.visited.keeps.later Pages) in
      subst (λ (y : Device). IsAbove faults start y c) (sym f.0) (λ less. above_so (faults start.core.value.desk.pool.file.disk) (faults v.before.core.desk.pool.file.disk) (faults v.after.core.desk.pool.file.disk) c up f.3 f.1 less)

  module _ (pinned : IsPinnedBy s0 n) where
    abbrev Now : Start D
    Now = v.before.start

    abbrev From : Origin
    From = v.visited.stands.origin

    opened_so : IsOpenedTo is_honest state Now From
    opened_so = v.visited.stands.opened

    own_so : pinned.look.who.session ≡ s0.number
    own_so = (v.visited.stands.stands From opened_so).is.ledger.works.sessions s0.number (Looking pinned.look) (sym v.visited.work ∙ pinned.there)

    pins_so : pinned_by pinned.look.who (pins_of (opened_base Now) [] (journal v.before)) ≡ pinned.look.pins
    pins_so =
        ap (λ (b : Base). pinned_by pinned.look.who (pins_of b [] (journal v.before))) (sym opened_so.base)
        ∙ ((v.visited.stands.stands From opened_so).is.ledger.pins.pins pinned.look.who
        ∙ (ap (pins_at pinned.look.who) (ap (work_at (slots_of v.before)) own_so ∙ (sym v.visited.work ∙ pinned.there)) ∙ ap (λ (b : Bool). cond b pinned.look.pins []) (same_self pinned.look.who)))

    sound_so : IsSound (opened_base Now) (journal v.before)
    sound_so = sound_journal is_honest state v.before v.visited.stands

    pinned_then : is_among n (pinned_by pinned.look.who (pins_of (opened_base Now) [] (journal v.before))) ≡ true
    pinned_then = ap (is_among n) pins_so ∙ pinned.pinned

    pub retained_then : is_retained n (base_of (opened_base Now) (journal v.before)).marks ≡ true
    retained_then = pinned_retained (opened_base Now) (journal v.before) pinned.look.who n sound_so pinned_then

    retained_first : is_retained n (base_of (opened_base Now) (seen s0)).marks ≡ true
    retained_first =
        let none : lines_of pinned.look.who.session v.visited.others ≡ [] = ap (λ (k : ℕ). lines_of k v.visited.others) own_so ∙ v.visited.apart in
        pinned_retained (opened_base Now) (seen s0) pinned.look.who n
        (front_is_sound (opened_base Now) (seen s0) v.visited.others (subst (λ (l : List Line). IsSound (opened_base Now) l) (sym v.visited.place) sound_so))
        (ap (is_among n) (sym (pins_stay (opened_base Now) pinned.look.who (seen s0) v.visited.others none)) ∙ (ap (λ (l : List Line). is_among n (pinned_by pinned.look.who (pins_of (opened_base Now) [] l))) v.visited.place ∙ pinned_then))

    pub table_so : (table : Table) → IsTableOf is_honest state s0 n table → IsTableOf is_honest state s1 n table
    table_so table is = table_moves is_honest state s0 s1 v.visited.others place_is v.visited.same.opening v.visited.rises Now From v.visited.opening opened_so
        (λ x e. subst (λ (y : Start D). IsSound (opened_base y) (seen s1)) (some_is Now x (sym v.visited.opening ∙ e)) (subst (λ (l : List Line). IsSound (opened_base Now) l) (sym sees) sound_so)) n retained_first
        (ap (λ (l : List Line). is_retained n (base_of (opened_base Now) l).marks) sees ∙ retained_then) table is

    pub seeks_so : (table : Table) → IsTableOf is_honest state s0 n table → IsSeeking is_honest state s1 n table
    seeks_so table is = record {
      start = Now;
      origin = From;
      opening_is = v.visited.same.opening ∙ v.visited.opening;
      opened = opened_so;
      who = pinned.look.who;
      own = own_so ∙ sym v.visited.same.number;
      pinned = ap (λ (l : List Line). is_among n (pinned_by pinned.look.who (pins_of (opened_base Now) [] l))) sees ∙ pinned_then;
      table_is = table_so table is;
    }

    -- ---- and then behind the vault

    module _ (s2 : Sat D) (table next : Table) (peeked : Peeked) (is_peeked : result ≡ Ok peeked) (is : IsTableOf is_honest state s1 n table) (after : List ℕ) (found : Result Bool Fault)
        (finds : FindsIn is_honest state s1 s2 n table next peeked.acked page mid after found) (same : opening s2 ≡ opening s1) (waits : Waits s1 s2) (b : Bool) (is_found : found ≡ Ok b) where
      pub past_so : IsPastOf is_honest state s2 n page after
      past_so x o e op honest_pages honest_slots =
          let e1 : opening s1 ≡ Some x = sym same ∙ e in
          let is_now : Now ≡ x = some_is Now x (sym v.visited.opening ∙ (sym v.visited.same.opening ∙ e1)) in
          let op0 : IsOpenedTo is_honest state Now o = subst (λ (y : Start D). IsOpenedTo is_honest state y o) (sym is_now) op in
          let core = v.visited.stands.stands o op0 in
          let plain : Desk = core.plain in
          let lines : List Line = journal v.before in
          let more : List Line = waits.others in
          let place : lines ++ more ≡ seen s2 = ap (λ (l : List Line). l ++ more) (sym sees) ∙ waits.front in
          let fi = finds.found x o e1 op in
          let base : (all : List Line) → (now (after_journal o.history all)).base ≡ base_of (opened_base x) all = λ all. base_after_journal o.history all ∙ ap (λ (y : Base). base_of y all) op.base in
          let sound : IsSound (now o.history).base (lines ++ more) = subst (λ (y : Base). IsSound y (lines ++ more)) (sym op.base) (subst (λ (l : List Line). IsSound (opened_base x) l) (sym place) (finds.sound x e1)) in
          let told = subst (λ (r : Result Peeked Refusal). IfOk r (λ p. (mid ≡ (told_of plain n page).bytes) × (p.acked ≡ (told_of plain n page).upto))) is_peeked
          (v.does.told o.history plain core.is (v.visited.stands.honest.pages.0 (subst (λ (y : Start D). is_honest y.core.value.desk.pool.file.disk) (sym is_now) honest_pages))) in
          let vault : Vault = fi.vault in
          let fits : VaultFits (after_journal o.history (lines ++ more)) plain.floor vault =
          subst (λ (l : List Line). VaultFits (after_journal o.history l) plain.floor vault) (sym place) (subst (λ (k : ℕ). VaultFits (after_journal o.history (seen s2)) k vault) (sym core.floor) (fi.fits honest_pages)) in
          let acked : plain.acked ≤ end_of vault.mappings = (let a = told.1 in let h = fi.held_is in omega (arith, a, h)) in
          let marks : (now plain.history).base ≡ base_of (opened_base x) lines = ap (λ (h : History). (now h).base) core.is.journal ∙ base lines in
          let was : is_retained n (now plain.history).base.marks ≡ true =
          ap (λ (y : Base). is_retained n y.marks) marks ∙ subst (λ (y : Start D). is_retained n (base_of (opened_base y) lines).marks ≡ true) is_now retained_then in
          let still : is_retained n (now (after_journal o.history (lines ++ more))).base.marks ≡ true =
          ap (λ (y : Base). is_retained n y.marks) (base (lines ++ more)) ∙ (ap (λ (l : List Line). is_retained n (base_of (opened_base x) l).marks) place ∙ finds.retained x e1) in
          let right = past_over_lines o.history lines more plain vault (listing vault vault.mappings) n page sound core.is.journal core.is.fits fits (inl refl) acked was still in
          let start : table.start ≡ (told_of plain n page).start =
          is.start x e1 ∙ (ap (λ (l : List Line). start_of n (base_of (opened_base x) l).marks) sees ∙ ap (λ (y : Base). start_of n y.marks) (sym marks)) in
          let bytes : after ≡ in_slot vault (capacity_of o.history) mid (first_in vault.mappings table.start peeked.acked page) =
          subst (λ (r : Result Bool Fault). OnOk r (after ≡ in_slot vault (capacity_of o.history) mid (first_in vault.mappings table.start peeked.acked page))) is_found (fi.bytes honest_slots) in
          bytes
          ∙ (ap (λ (m : List ℕ). in_slot vault (capacity_of o.history) m (first_in vault.mappings table.start peeked.acked page)) told.0
          ∙ (ap (λ (k : ℕ). in_slot vault (capacity_of o.history) (told_of plain n page).bytes (first_in vault.mappings k peeked.acked page)) start
          ∙ (ap (λ (k : ℕ). in_slot vault (capacity_of o.history) (told_of plain n page).bytes (first_in vault.mappings (told_of plain n page).start k page)) told.1
          ∙ (right ∙ ap (λ (l : List Line). pages_as_of (after_journal o.history l) n page) place))))

-- ---- the two visits

module _ {D : Type 0} (is_honest : D → Type 0) (state : D → State) (faults : D → ℕ) (z : TableId) (remembers : Type 0) (clock : D → Clock) (covered before after : ℕ) (s1 s2 : Sat D) (result : Result (Unit {0}) Fault) (told : Result Peeked Refusal) where
  abbrev Finds : Result Peeked Refusal → Type 0
  Finds told = MatchResult told (λ peeked. ScansBelow is_honest state faults z remembers clock covered before after peeked.acked s1 s2)
      (λ why. (s2 ≡ s1) × (after ≡ before) × (result ≡ Err (let f : Fault = record { why = why; wrote = false } in f)))

  pub finds_so : (peeked : Peeked) → told ≡ Ok peeked → ScansBelow is_honest state faults z remembers clock covered before after peeked.acked s1 s2 → Finds told
  finds_so peeked is scans = subst Finds (sym is) scans

  pub finds_none : (why : Refusal) → told ≡ Err why → s2 ≡ s1 → after ≡ before → result ≡ Err (let f : Fault = record { why = why; wrote = false } in f) → Finds told
  finds_none why is same none err = subst Finds (sym is) (same, none, err)
