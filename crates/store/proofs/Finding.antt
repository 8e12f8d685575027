-- What a seat finds in the vault.
use Rattle.std.proofs.Common.{◌≡◌, ◌∙◌, ◌+◌, ◌≤◌, ◌<◌, ◌++◌, ℕ, Bool, true, false, cond, max, List, [], ◌∷◌, Some, Result, Ok, Err, refl, sym, ap, subst, ⊎_elim, arith, eq-eqb}
use Rattle.std.specs.Prelude.{◌↔◌, IfErr, MatchResult, OnOk}
use Rattle.atomic_table.specs.Seated.{TableId}
use Rattle.block_file.specs.Blocks.{SameFile}
use Rattle.disk_model.specs.Disk.{State}
use Rattle.retro_base.specs.Cause.{Rose}
use Rattle.retro_base.specs.declared.device.Device.{Device}
use Rattle.retro_base.specs.declared.device.Device.TheVariants.{Log, Pages, Pagelog, Maplog, Cabinet}
use Rattle.retro_base.specs.declared.refusal.Refusal.{Refusal}
use Rattle.retro_base.specs.declared.refusal.Refusal.TheVariants.{DiskFault, OutOfMemory}
use Rattle.history.specs.declared.entry.Base.{Base}
use Rattle.history.specs.declared.journal.Line.{Line}
use Rattle.history.specs.History.{History, now}
use Rattle.history.specs.Journal.{after_journal}
use Rattle.history.specs.Lines.{base_of, lines_of, pinned_by}
use Rattle.history.specs.Marks.{is_retained, start_of}
use Rattle.history.specs.Sound.{IsSound, pins_of}
use Rattle.history.specs.Writes.{is_among}
use Rattle.history.proofs.Captures.{with_changes-none}
use Rattle.history.proofs.Consistent.{captures_are_counted}
use Rattle.history.proofs.Journals.{front_is_sound}
use Rattle.history.proofs.Lines.{base_after_journal}
use Rattle.page_table.specs.Table.{IsFirstMet, Table}
use Rattle.race_model.specs.declared.fault.Fault.{Fault}
use Rattle.race_model.specs.Fits.{HistoryFits, VaultFits}
use Rattle.race_model.specs.Reading.{in_slot}
use Rattle.race_model.specs.Vault.{Vault}
use Rattle.race_model.proofs.Apart.{history_outlives_lines}
use Rattle.skippy.specs.Mappings.{first_in}
use Rattle.archive.specs.Archive.{Finds, IsVault, Running}
use Rattle.archive.specs.Cause.{IsRefusedFind}
use Rattle.archive.specs.Finding.{Covers}
use Rattle.archive.specs.Side.{IsLowestOf}
use Rattle.turn.specs.declared.view.Holding.{Holding}
use Rattle.turn.specs.Faults.{LAST, fault_times, one_fault, rose, vault_faults}
use Rattle.turn.specs.Seats.{held, mine, opening, seen}
use Rattle.turn.proofs.Faults.{times_append}
use Rattle.store.specs.declared.start.Start.{Start}
use Rattle.store.specs.Past.{IsNewFault, FindsIn, IsPastCause, IsPastRefusal, IsSeeking, IsTableIn, IsTableOf}
use Rattle.store.specs.Seats.{HasEnteredVault, Sat, VisitedVault}
use Rattle.store.specs.Sides.{VaultStands}
use Rattle.store.specs.Start.{IsAbove, IsOpenedTo, IsVaultFrom, Origin, opened_base, vault_counts, with_slots}
use Rattle.journal_book.specs.declared.work.Work.{Work}
use Rattle.store.proofs.Committing.{more_told}
use Rattle.store.proofs.Entering.{apart}
use Rattle.store.proofs.Leaving.{both}
use Rattle.store.proofs.Reading.{pinned_retained, pins_stay, start_stays, table_goes_on, table_in_memory, table_of_history}
use Rattle.store.proofs.Telling.{rose_so}

pub some_is : {X : Type 0} (x y : X) → Some x ≡ Some y → x ≡ y
some_is x y e = cc e

find_up : (covered upto before after : ℕ) (why : Refusal) (wrote : Bool) → IsRefusedFind covered upto before after why wrote → before ≤ after
find_up covered upto before after OutOfMemory wrote e = let s = e.2 in omega (arith, s)
find_up covered upto before after (DiskFault d c) wrote e = let f = e.1 in f.2
find_up covered upto before after _ wrote e = absurd e.1

pub find_rises : (covered upto before after : ℕ) (result : Result Bool Fault) → MatchResult result (λ _. after ≡ before) (λ e. IsRefusedFind covered upto before after e.why e.wrote) → before ≤ after
find_rises covered upto before after (Ok x) e = omega (arith, e)
find_rises covered upto before after (Err fault) e = find_up covered upto before after fault.why fault.wrote e

pub all_causes : (result : Result Bool Fault) (P : Type 0) (Q R : Fault → Type 0) → MatchResult result (λ _. P) Q → ((fault : Fault) → result ≡ Err fault → Q fault → R fault) → IfErr result R
all_causes (Ok x) P Q R m to = tt
all_causes (Err fault) P Q R m to = to fault refl m

-- ---- a journal that goes on

module _ {D : Type 0} (is_honest : D → Type 0) (state : D → State) (start : Start D) (origin : Origin) (opened : IsOpenedTo is_honest state start origin) (lines more : List Line) (sound : IsSound (opened_base start) (lines ++ more)) where
  sound_from : IsSound (now origin.history).base (lines ++ more)
  sound_from = subst (λ (b : Base). IsSound b (lines ++ more)) (sym opened.base) sound

  -- what the log says behind the lines
  pub base_behind : (all : List Line) → (now (after_journal origin.history all)).base ≡ base_of (opened_base start) all
  base_behind all = base_after_journal origin.history all ∙ ap (λ (b : Base). base_of b all) opened.base

  pub right_behind : HistoryFits (after_journal origin.history (lines ++ more)) origin.floor
  right_behind = history_outlives_lines origin.history origin.floor [] (lines ++ more) sound_from (subst (λ (h : History). HistoryFits h origin.floor) (sym (with_changes-none origin.history)) opened.fits)

  pub start_goes_on : (n : ℕ) → is_retained n (base_of (opened_base start) lines).marks ≡ true → is_retained n (base_of (opened_base start) (lines ++ more)).marks ≡ true
      → start_of n (base_of (opened_base start) (lines ++ more)).marks ≡ start_of n (base_of (opened_base start) lines).marks
  start_goes_on n was is = subst
      (λ (b : Base). is_retained n (base_of b lines).marks ≡ true → is_retained n (base_of b (lines ++ more)).marks ≡ true → start_of n (base_of b (lines ++ more)).marks ≡ start_of n (base_of b lines).marks)
      opened.base (λ w i. start_stays origin.history opened.fits.consistent lines more n sound_from w i) was is

  pub table_behind : (table : Table) → IsTableIn (after_journal origin.history lines) table → IsTableIn (after_journal origin.history (lines ++ more)) table
  table_behind table is = table_goes_on origin.history lines more table opened.fits.consistent sound_from is

-- a table stays the snapshot's where its seat has seen more
module _ {D : Type 0} (is_honest : D → Type 0) (state : D → State) (s0 s1 : Sat D) (more : List Line) (place : seen s0 ++ more ≡ seen s1) (same : opening s1 ≡ opening s0) (rises : held s0 ≤ held s1) (start : Start D) (origin : Origin) (opening_is : opening s0 ≡ Some start)
    (opened : IsOpenedTo is_honest state start origin) (sound : (x : Start D) → opening s0 ≡ Some x → IsSound (opened_base x) (seen s1)) (n : ℕ) (was : is_retained n (base_of (opened_base start) (seen s0)).marks ≡ true) (is : is_retained n (base_of (opened_base start) (seen s1)).marks ≡ true) where
  sound_so : (x : Start D) → opening s0 ≡ Some x → IsSound (opened_base x) (seen s0 ++ more)
  sound_so x e = subst (λ (l : List Line). IsSound (opened_base x) l) (sym place) (sound x e)

  pub start_there : start_of n (base_of (opened_base start) (seen s1)).marks ≡ start_of n (base_of (opened_base start) (seen s0)).marks
  start_there =
      ap (λ (l : List Line). start_of n (base_of (opened_base start) l).marks) (sym place)
      ∙ start_goes_on is_honest state start origin opened (seen s0) more (sound_so start opening_is) n was (ap (λ (l : List Line). is_retained n (base_of (opened_base start) l).marks) place ∙ is)

  pub table_moves : (table : Table) → IsTableOf is_honest state s0 n table → IsTableOf is_honest state s1 n table
  table_moves table fits = record {
    start = λ x e.
        subst (λ (y : Start D). table.start ≡ start_of n (base_of (opened_base y) (seen s1)).marks) (some_is start x (sym opening_is ∙ (sym same ∙ e))) (fits.start start opening_is ∙ sym start_there);
    held = let h = fits.held in omega (arith, h, rises);
    among = λ x o e op.
        subst (λ (l : List Line). IsTableIn (after_journal o.history l) table) place
        (table_behind is_honest state x o op (seen s0) more (sound_so x (sym same ∙ e)) table (fits.among x o (sym same ∙ e) op));
  }

-- ---- new faults

pub fault_device : (x y : Device) (k c : ℕ) → DiskFault x k ≡ DiskFault y c → x ≡ y
fault_device x y k c e = cc e

pub fault_count : (x y : Device) (k c : ℕ) → DiskFault x k ≡ DiskFault y c → k ≡ c
fault_count x y k c e = cc e

-- a count that rose is above what it was at the opening
pub above_so : (opened before now c : ℕ) → opened ≤ before → Rose before now → c ≡ now → c < LAST → opened < c
above_so opened before now c le up is less = omega (arith, le, up, is, less)

-- ---- in the vault

pub told_pagelog : (old new : Device → ℕ) → Rose (old Pagelog) (new Pagelog) → new Pagelog ≤ LAST → 0 < fault_times Pagelog (new Pagelog) (vault_faults old new)
told_pagelog old new up few =
    let all = times_append Pagelog (new Pagelog) (rose old new Pagelog) (rose old new Maplog ++ rose old new Cabinet) in
    let here : fault_times Pagelog (new Pagelog) (rose old new Pagelog) ≡ one_fault Pagelog (new Pagelog) (Pagelog, new Pagelog) + 0 =
    ap (λ (b : Bool). fault_times Pagelog (new Pagelog) (cond b ((Pagelog, new Pagelog) ∷ []) [])) (rose_so (old Pagelog) (new Pagelog) up few) in
    let one : one_fault Pagelog (new Pagelog) (Pagelog, new Pagelog) ≡ 1 = ap (λ (b : Bool). cond b 1 0) (eq-eqb (new Pagelog) (new Pagelog) refl) in
    omega (arith, all, here, one)

pub told_maplog : (old new : Device → ℕ) → Rose (old Maplog) (new Maplog) → new Maplog ≤ LAST → 0 < fault_times Maplog (new Maplog) (vault_faults old new)
told_maplog old new up few =
    let all = times_append Maplog (new Maplog) (rose old new Pagelog) (rose old new Maplog ++ rose old new Cabinet) in
    let rest = times_append Maplog (new Maplog) (rose old new Maplog) (rose old new Cabinet) in
    let here : fault_times Maplog (new Maplog) (rose old new Maplog) ≡ one_fault Maplog (new Maplog) (Maplog, new Maplog) + 0 =
    ap (λ (b : Bool). fault_times Maplog (new Maplog) (cond b ((Maplog, new Maplog) ∷ []) [])) (rose_so (old Maplog) (new Maplog) up few) in
    let one : one_fault Maplog (new Maplog) (Maplog, new Maplog) ≡ 1 = ap (λ (b : Bool). cond b 1 0) (eq-eqb (new Maplog) (new Maplog) refl) in
    omega (arith, all, rest, here, one)

module _ {D : Type 0} (is_honest : D → Type 0) (state : D → State) (faults : D → ℕ) (z : TableId) (s0 s1 : Sat D) (a0 : Running D) (entered : HasEnteredVault is_honest state faults z s0 s1 a0) (snapshot : ℕ) (table : Table) (seeking : IsSeeking is_honest state s0 snapshot table) where
  abbrev More : List Line
  More = entered.front.0

  place_is : seen s0 ++ More ≡ seen s1
  place_is = entered.front.1

  none_own : lines_of seeking.who.session More ≡ []
  none_own = ap (λ (n : ℕ). lines_of n More) seeking.own ∙ apart s0.number (seen s0) More (seen s1) entered.front.1 (sym entered.ready.lines ∙ entered.lines)

  sound_now : IsSound (opened_base seeking.start) (seen s1)
  sound_now = entered.sound seeking.start seeking.opening_is

  sound_whole : IsSound (opened_base seeking.start) (seen s0 ++ More)
  sound_whole = subst (λ (l : List Line). IsSound (opened_base seeking.start) l) (sym place_is) sound_now

  retained_was : is_retained snapshot (base_of (opened_base seeking.start) (seen s0)).marks ≡ true
  retained_was = pinned_retained (opened_base seeking.start) (seen s0) seeking.who snapshot (front_is_sound (opened_base seeking.start) (seen s0) More sound_whole) seeking.pinned

  -- the snapshot is still pinned, so retained
  pub retained_now : is_retained snapshot (base_of (opened_base seeking.start) (seen s1)).marks ≡ true
  retained_now = pinned_retained (opened_base seeking.start) (seen s1) seeking.who snapshot sound_now
      (ap (λ (l : List Line). is_among snapshot (pinned_by seeking.who (pins_of (opened_base seeking.start) [] l))) (sym place_is)
      ∙ (ap (is_among snapshot) (pins_stay (opened_base seeking.start) seeking.who (seen s0) More none_own) ∙ seeking.pinned))

  pub retained_for : (x : Start D) → opening s0 ≡ Some x → is_retained snapshot (base_of (opened_base x) (seen s1)).marks ≡ true
  retained_for x e = subst (λ (y : Start D). is_retained snapshot (base_of (opened_base y) (seen s1)).marks ≡ true) (some_is seeking.start x (sym seeking.opening_is ∙ e)) retained_now

  table_now : IsTableOf is_honest state s1 snapshot table
  table_now = table_moves is_honest state s0 s1 More place_is entered.same.opening entered.rises seeking.start seeking.origin seeking.opening_is seeking.opened entered.sound snapshot retained_was retained_now table seeking.table_is

  module _ (x : Start D) (o : Origin) (e : opening s0 ≡ Some x) (op : IsOpenedTo is_honest state x o) where
    abbrev Here : History
    Here = after_journal o.history (seen s1)

    from_vault : IsVaultFrom is_honest state (is_honest x.core.value.desk.pool.file.disk) o (seen s1) a0
    from_vault = (entered.stands x e).stands o op

    right_here : HistoryFits Here o.floor
    right_here = subst (λ (l : List Line). HistoryFits (after_journal o.history l) o.floor) place_is
        (right_behind is_honest state x o op (seen s0) More (subst (λ (l : List Line). IsSound (opened_base x) l) (sym place_is) (entered.sound x e)))

    base_here : (now Here).base ≡ base_of (opened_base x) (seen s1)
    base_here = base_after_journal o.history (seen s1) ∙ ap (λ (b : Base). base_of b (seen s1)) op.base

    retained_here : is_retained snapshot (now Here).base.marks ≡ true
    retained_here = ap (λ (b : Base). is_retained snapshot b.marks) base_here ∙ retained_for x e

    lowest_here : IsLowestOf a0.side.levels.low (with_slots from_vault.captured from_vault.vault)
    lowest_here = let l = from_vault.is.mapped.lowest in record { maplog = l.maplog; is = l.is; same = l.same }

    start_here : (t : Table) → t.start ≡ table.start → t.start ≡ start_of snapshot (now Here).base.marks
    start_here t same = same ∙ (table_now.start x (entered.same.opening ∙ e) ∙ ap (λ (b : Base). start_of snapshot b.marks) (sym base_here))

    -- the table is one of the mappings in memory
    pub met_here : IsFirstMet table a0.side.levels
    met_here =
        table_in_memory Here o.floor (with_slots from_vault.captured from_vault.vault) from_vault.numbers right_here a0.side.levels a0.side.held from_vault.is.mapped.shows lowest_here snapshot retained_here table (start_here table refl)
        (let h = table_now.held in let i = entered.held_is in omega (arith, h, i)) (table_now.among x o (entered.same.opening ∙ e) op).met

    module _ (upto : ℕ) (known : upto ≤ held s0) (next : Table) (before after : ℕ) (covers : Covers a0.side.levels upto table next before after) where
      within_held : next.covered ≤ max next.start a0.side.held
      within_held =
          let h = table_now.held in let i = entered.held_is in let r = entered.rises in let s = covers.start in
          ⊎_elim (λ (same : next.covered ≡ table.covered). omega (arith, h, i, s, same)) (λ (grown : next.covered ≡ max table.covered upto). omega (arith, h, i, r, s, known, grown)) covers.covered

      pub table_in : IsTableIn Here next
      table_in = record {
        met = table_of_history Here o.floor (with_slots from_vault.captured from_vault.vault) from_vault.numbers right_here a0.side.levels a0.side.held from_vault.is.mapped.shows lowest_here snapshot retained_here next (start_here next covers.start) within_held covers.met;
        within =
            let w = within_held in let end = from_vault.is.mapped.shows.end in let a = from_vault.numbers.held in let b = from_vault.numbers.laid in let count = captures_are_counted Here right_here.consistent in
            omega (arith, w, end, a, b, count);
      }

  -- ---- leaving, and what the seat then has

  module _ (upto page : ℕ) (known : upto ≤ held s0) (next : Table) (before after : ℕ) (covers : Covers a0.side.levels upto table next before after) (s2 : Sat D) (a1 : Running D) (v : VisitedVault is_honest state faults z s0 s2 a0 a1) (sees : seen s2 ≡ seen s1) (before_bytes after_bytes : List ℕ) where
    pub table_found : IsTableOf is_honest state s2 snapshot next
    table_found = record {
      start = λ x e. covers.start ∙ (table_now.start x (entered.same.opening ∙ (sym v.same.opening ∙ e)) ∙ ap (λ (l : List Line). start_of snapshot (base_of (opened_base x) l).marks) (sym sees));
      held =
          let h = seeking.table_is.held in let r = v.rises in let s = covers.start in
          ⊎_elim (λ (same : next.covered ≡ table.covered). omega (arith, h, r, s, same)) (λ (grown : next.covered ≡ max table.covered upto). omega (arith, h, r, s, known, grown)) covers.covered;
      among = λ x o e op. subst (λ (l : List Line). IsTableIn (after_journal o.history l) next) (sym sees) (table_in x o (sym v.same.opening ∙ e) op upto known next before after covers);
    }

    pub finds_in : (result : Result Bool Fault) → SameFile is_honest a0.pagelog a1.pagelog
        → ((vault : Vault) → IsVault is_honest state a0 vault → Finds is_honest state a0 a1 vault table.start upto page before_bytes after_bytes result) → FindsIn is_honest state s0 s2 snapshot table next upto page before_bytes after_bytes result
    finds_in result file finds = record {
      table_is = table_found;
      sound = v.sound;
      retained = λ x e. subst (λ (l : List Line). is_retained snapshot (base_of (opened_base x) l).marks ≡ true) (sym sees) (retained_for x e);
      found = λ x o e op.
          let from_ = from_vault x o e op in
          let f = finds from_.vault from_.is in
          record {
            vault = from_.vault;
            fits = λ honest. subst (λ (l : List Line). VaultFits (after_journal o.history l) o.floor from_.vault) (sym sees) (from_.fits honest);
            held_is = let end = from_.is.mapped.shows.end in let i = entered.held_is in let r = entered.rises in omega (arith, known, end, i, r);
            bytes = λ honest. subst (λ (n : ℕ). OnOk result (after_bytes ≡ in_slot from_.vault n before_bytes (first_in from_.vault.mappings table.start upto page))) from_.slots (f.bytes ((entered.stands x e).honest.pagelog.0 honest));
          };
    }

    -- why it was refused
    pub cause_in : (fault : Fault) → ((d : Device) (c : ℕ) → fault.why ≡ DiskFault d c → c ≤ LAST) → IsRefusedFind table.covered upto (faults a0.pagelog.disk) (faults a1.pagelog.disk) fault.why fault.wrote → IsPastRefusal s2 table.covered upto fault
    cause_in fault few refused = at fault.why refl refused where
      at : (why : Refusal) → fault.why ≡ why → IsRefusedFind table.covered upto (faults a0.pagelog.disk) (faults a1.pagelog.disk) why fault.wrote → (fault.wrote ≡ false) × IsPastCause s2 table.covered upto fault.why
      at OutOfMemory e r = (r.1, subst (IsPastCause s2 table.covered upto) (sym e) r.0)
      at (DiskFault d c) e r =
          let f = r.1 in
          let here = told_pagelog (vault_counts faults a0) (vault_counts faults a1) f.3 (subst (λ (n : ℕ). n ≤ LAST) f.1 (few d c e)) in
          let told : 0 < fault_times d c (vault_faults (vault_counts faults a0) (vault_counts faults a1)) =
          subst (λ (x : Device × ℕ). 0 < fault_times x.0 x.1 (vault_faults (vault_counts faults a0) (vault_counts faults a1))) (λ i. (sym f.0 i, sym f.1 i)) here in
          (r.0, subst (IsPastCause s2 table.covered upto) (sym e) (subst (λ (h : Holding Work). 0 < fault_times d c h.faults) (sym v.mine_is) (more_told (mine s0).faults _ d c told)))
      at _ e r = absurd r.1

  module _ (a1 : Running D) (same : a1 ≡ record a0 { pagelog = a1.pagelog }) (file : SameFile is_honest a0.pagelog a1.pagelog) where
    honest_maplog : is_honest a0.side.disk ↔ is_honest a1.side.disk
    honest_maplog = subst (λ (a : Running D). is_honest a0.side.disk ↔ is_honest a.side.disk) (sym same) ((λ h. h), (λ h. h))

    pub vault_still : ((vault : Vault) → IsVault is_honest state a0 vault → IsVault is_honest state a1 vault) → (x : Start D) → opening s1 ≡ Some x → VaultStands is_honest state a1 x (seen s1)
    vault_still stays x e =
        let old = entered.stands x (sym entered.same.opening ∙ e) in
        record {
          honest = record { pagelog = both old.honest.pagelog file.honest; maplog = both old.honest.maplog honest_maplog };
          slots = ap (λ (a : Running D). a.side.log.capacity) same ∙ (old.slots ∙ sym file.blocks);
          stands = λ o op.
              let from_ = old.stands o op in
              record {
                vault = from_.vault;
                is = stays from_.vault from_.is;
                captured = from_.captured;
                numbers = from_.numbers;
                fits = from_.fits;
                slots = file.blocks ∙ from_.slots;
                pages = ap (λ (a : Running D). a.side.log.page_count) same ∙ from_.pages;
                in_version = from_.in_version;
              };
        }

    pub counts_rise : faults a0.pagelog.disk ≤ faults a1.pagelog.disk → (d : Device) → vault_counts faults a0 d ≤ vault_counts faults a1 d
    counts_rise up Log = omega arith
    counts_rise up Pages = omega arith
    counts_rise up Pagelog = up
    counts_rise up Maplog = let e = ap (λ (a : Running D). faults a.side.disk) same in omega (arith, e)
    counts_rise up Cabinet = omega arith

    -- a fault that a search met is new
    pub fault_is_new : (fault : Fault) (covered upto : ℕ) → IsRefusedFind covered upto (faults a0.pagelog.disk) (faults a1.pagelog.disk) fault.why fault.wrote → IsNewFault faults s0 fault
    fault_is_new fault covered upto refused start d c e w = at fault.why w refused where
      at : (why : Refusal) → why ≡ DiskFault d c → IsRefusedFind covered upto (faults a0.pagelog.disk) (faults a1.pagelog.disk) why fault.wrote → IsAbove faults start d c
      at OutOfMemory e r = absurd (cc e)
      at (DiskFault x k) is r =
          let f = r.1 in
          let up = entered.later start e Pagelog in
          let device : d ≡ Pagelog = sym (fault_device x d k c is) ∙ f.0 in
          let count : c ≡ faults a1.pagelog.disk = sym (fault_count x d k c is) ∙ f.1 in
          subst (λ (y : Device). IsAbove faults start y c) (sym device) (λ less. above_so (faults start.archive.value.pagelog.disk) (faults a0.pagelog.disk) (faults a1.pagelog.disk) c up f.3 count less)
      at _ e r = absurd r.1
