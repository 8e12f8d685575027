-- What a seat sees behind calls that add no line: reads of the past, and seats that meet.
use Rattle.std.proofs.Common.{◌≡◌, ◌<◌, ◌++◌, ◌∙◌, ℕ, List, [], ◌∷◌, drop, map, reverse, take, true, Option, Some, None, Ok, Err, refl, sym, ap, subst, ⊎_elim, append-nil, append_assoc}
use Rattle.std.specs.Prelude.{Contains, IfErr, IfSome, Result, false}
use Rattle.std.proofs.lemmas.List.{reverse-append, take-append-drop, take-append-le}
use Rattle.atomic_table.specs.Seated.{TableId}
use Rattle.disk_model.specs.Disk.{State}
use Rattle.retro_base.specs.declared.device.Device.{Device}
use Rattle.retro_base.specs.declared.refusal.Refusal.{Refusal}
use Rattle.retro_base.specs.declared.refusal.Refusal.TheVariants as refusal
use Rattle.retro_base.specs.declared.who.Who.{Who}
use Rattle.history.specs.declared.entry.Base.{Base}
use Rattle.history.specs.declared.journal.Line.{Line}
use Rattle.history.specs.History.{History, now, pages_as_of}
use Rattle.history.specs.Journal.{after_journal}
use Rattle.history.specs.Lines.{base_of, lines_of}
use Rattle.history.specs.Marks.{is_retained}
use Rattle.history.specs.Sound.{IsSound}
use Rattle.journal_book.specs.declared.work.Look.{Look}
use Rattle.journal_book.specs.declared.work.Transaction.{Transaction}
use Rattle.journal_book.specs.declared.work.Work.{Work}
use Rattle.journal_book.specs.declared.work.Work.TheVariants as work
use Rattle.journal_law.specs.Pages.{Pages, page_world}
use Rattle.journal_law.specs.Seats as seat
use Rattle.journal_law.specs.Seats.{Moves, PastGives, View}
use Rattle.journal_law.specs.World.{as_of}
use Rattle.race_model.specs.declared.fault.Fault.{Fault}
use Rattle.race_model.proofs.Grows.{contains_cons}
use Rattle.turn.specs.declared.view.Holding.{Holding}
use Rattle.turn.specs.Faults.{fault_times}
use Rattle.turn.specs.Seats.{mine, opening, seen}
use Rattle.store.specs.declared.start.Start.{Start}
use Rattle.store.specs.Kept.{IsTabled, Tabled, looks}
use Rattle.store.specs.Past.{IsNewFault, IsPastCause, IsPastOf, IsPinnedBy, IsRetainedBy}
use Rattle.store.specs.Seats.{IsPage, IsReady, IsSized, Sat, StaysIn, Waits, began_of}
use Rattle.store.specs.Start.{AreJustOpened, IsAbove, opened_base}
use Rattle.store.proofs.Calling.{told_more as told_still}
use Rattle.store.proofs.Meeting.{work_stays}
use Rattle.journal_law.specs.declared.seat.ToldFault.{ToldFault}
use Rattle.store.specs.Ground.{world_of}
use Rattle.store.specs.Seen.{HasBegun, IsHonest, IsSeated, ground_in, pins_of_look, told_more, view_of, work_in}
use Rattle.store.proofs.Coming.{Came, moves}
use Rattle.store.proofs.Grounds.{opened_world}
use Rattle.store.proofs.Pasts.{past_stays, some_there}
use Rattle.store.proofs.ReadGiven.{begun_on}

-- ---- told faults

told_end : (told : List ToldFault) (fault : ToldFault) → reverse (told ++ fault ∷ []) ≡ fault ∷ reverse told
told_end told fault = reverse-append told (fault ∷ [])

-- behind the room that was made for one
pub told_on : (before room after : List ToldFault) (why : Refusal) → room ≡ before → after ≡ told_more room why → after ≡ told_more before why
told_on before room after why same is = is ∙ ap (λ (ts : List ToldFault). told_more ts why) same

-- ---- a table that is kept

-- where the seat does not look there is none
pub no_table : {D : Type 0} (s0 s1 : Sat D) (kept : Option (Tabled D)) → looks (mine s0).work ≡ false → IsTabled s0 kept → IsTabled s1 kept
no_table s0 s1 None not is = tt
no_table s0 s1 (Some t) not is = absurd (cc (not, is.0))

-- ---- what stays where a seat has seen more

pub pinned_on : {D : Type 0} (s0 s1 : Sat D) (n : ℕ) → StaysIn s0 s1 → IsPinnedBy s0 n → IsPinnedBy s1 n
pinned_on s0 s1 n stays pinned = record { look = pinned.look; there = work_stays s0 s1 stays ∙ pinned.there; pinned = pinned.pinned }

pub page_on : {D : Type 0} (s0 s1 : Sat D) (page : ℕ) → opening s1 ≡ opening s0 → IsPage s0 page → IsPage s1 page
page_on {D = D} s0 s1 page same is = subst (λ (o : Option (Start D)). IfSome o (λ (start : Start D). page < (opened_base start).page_count)) (sym same) is

pub fault_on : {D T : Type 0} (faults : D → ℕ) (s0 s1 : Sat D) (result : Result T Fault) → opening s1 ≡ opening s0 → IfErr result (IsNewFault faults s1) → IfErr result (IsNewFault faults s0)
fault_on faults s0 s1 (Ok x) same is = tt
fault_on faults s0 s1 (Err fault) same is = λ start d c o e. is start d c (same ∙ o) e

-- ---- how many pages there are

pub sized_on : {D : Type 0} (pages : ℕ) (s0 s1 : Sat D) → opening s1 ≡ opening s0 → IsSized pages s0 → IsSized pages s1
sized_on pages s0 s1 same is = λ start e. is start (sym same ∙ e)

pub pages_so : {D : Type 0} (state : D → State) (faults : D → ℕ) (z : TableId) (pages : ℕ) (s : Sat D) → IsReady z s → IsSized pages s → pages ≡ (ground_in state faults (opening s)).base.page_count
pages_so {D = D} state faults z pages s ready is =
    let found = some_there (opening s) ready.rests.seat.opened in
    is found.0 found.1 ∙ ap (λ (o : Option (Start D)). (ground_in state faults o).base.page_count) (sym found.1)

-- ---- a seat that has seen more

module _ {D : Type 0} (state : D → State) (faults : D → ℕ) (z : TableId) (s0 s1 : Sat D) (ready : IsReady z s0) (stays : StaysIn s0 s1) (more : Waits s0 s1) (who : Who) (asked : Option ℕ) (before : List ToldFault) where
  abbrev Old : View
  Old = view_of state faults asked before s0

  abbrev New : List ToldFault → View
  New after = view_of state faults asked after s1

  same_work : (mine s1).work ≡ (mine s0).work
  same_work = work_stays s0 s1 stays

  comes : Came s0 s1 more.others [] (mine s0).work
  comes = record {
    apart = more.apart;
    front = sym more.front ∙ sym (append-nil (seen s0 ++ more.others));
    work_is = same_work;
    number = stays.same.number;
    opening_is = stays.same.opening;
  }

  on : (after : List ToldFault) → Moves Old (New after) []
  on after = moves state faults asked asked before after s0 s1 more.others [] (mine s0).work comes

  early : (w : Work) → (mine s0).work ≡ Some w → take (began_of w) (seen s1) ≡ take (began_of w) (seen s0)
  early w e = ap (take (began_of w)) (sym more.front) ∙ take-append-le (began_of w) (seen s0) more.others (ready.work.began w e)

  same_in : work_in asked (seen s1) (mine s1).work ≡ work_in asked (seen s0) (mine s0).work
  same_in = ap (work_in asked (seen s1)) same_work ∙ at (mine s0).work refl where
    at : (w : Option Work) → (mine s0).work ≡ w → work_in asked (seen s1) w ≡ work_in asked (seen s0) w
    at None e = refl
    at (Some (work.Open t)) e = ap (λ (l : List Line). seat.Open (record { who = t.who; since = l; read = t.reads.keys; edits = t.edits; kept = t.kept })) (early (work.Open t) e)
    at (Some (work.Looking look)) e = ap (λ (l : List Line). seat.Looking (record { who = look.who; since = l; snapshot = asked })) (early (work.Looking look) e)
    at (Some (work.KeptDrop other)) e = refl

  pub waits_seen : seat.Waits Old (New before) Old.work
  waits_seen = record { moves = on before; work_is = same_in; told_is = refl }

  still_told : (d : Device) (c : ℕ) → 0 < fault_times d c (mine s0).faults → 0 < fault_times d c (mine s1).faults
  still_told d c there = subst (λ (h : Holding Work). 0 < fault_times d c h.faults) (sym stays.mine_is) (told_still (mine s0).faults stays.more d c there)

  module _ (seated : IsSeated who asked before s0) where
    -- what is known of the faults that it was told
    keeps : (after : List ToldFault) → ((mine s0).work ≡ None → after ≡ []) → ((t : Transaction) → (mine s0).work ≡ Some (work.Open t) → after ≡ [])
        → ((d : Device) (c : ℕ) → Contains (reverse after) (record { device = d; count = c }) → 0 < fault_times d c (mine s1).faults) → IsSeated who asked after s1
    keeps after quiet silent told = record {
      item = λ w e. seated.item w (sym same_work ∙ e);
      no_drop = λ other e. seated.no_drop other (sym same_work ∙ e);
      begun = λ t e. subst (λ (l : List Line). HasBegun l s1.number t) more.front
          (begun_on (seen s0) more.others s1.number t
          (subst (λ (n : ℕ). HasBegun (seen s0) n t) (sym stays.same.number) (seated.begun t (sym same_work ∙ e)))
          (ap (λ (n : ℕ). lines_of n more.others) stays.same.number ∙ more.apart));
      pins = λ start look o e.
          seated.pins start look (sym stays.same.opening ∙ o) (sym same_work ∙ e)
          ∙ pins_on asked start look (early (work.Looking look) (sym same_work ∙ e));
      quiet = λ e. quiet (sym same_work ∙ e);
      silent = λ t e. silent t (sym same_work ∙ e);
      told_it = told;
    }
      where
        pins_on : (a : Option ℕ) (start : Start D) (look : Look) → take look.began (seen s1) ≡ take look.began (seen s0) → pins_of_look a (seen s0) start look ≡ pins_of_look a (seen s1) start look
        pins_on (Some n) start look e = refl
        pins_on None start look e = ap (λ (l : List Line). map (λ mark. mark.number) (base_of (opened_base start) l).marks) (sym e)

    pub keeps_seated : IsSeated who asked before s1
    keeps_seated = keeps before seated.quiet seated.silent (λ d c in_it. still_told d c (seated.told_it d c in_it))

    -- ---- a read of the past

    module _ (look : Look) (is : (mine s0).work ≡ Some (work.Looking look)) where
      abbrev L : seat.Look
      L = record { who = look.who; since = take look.began (seen s0); snapshot = asked }

      looks_now : Old.work ≡ seat.Looking L
      looks_now = ap (work_in asked (seen s0)) is

      pub past_keeps : (why : Refusal) (covered upto : ℕ) → IsPastCause s1 covered upto why → IsSeated who asked (told_more before why) s1
      past_keeps (refusal.DiskFault device count) covered upto cause =
          keeps (before ++ (let f : ToldFault = record { device = device; count = count } in f) ∷ []) (λ e. absurd (cc (e, is))) (λ t e. absurd (cc (e, is))) told where
            told : (d : Device) (c : ℕ) → Contains (reverse (before ++ (let f : ToldFault = record { device = device; count = count } in f) ∷ [])) (record { device = d; count = c }) → 0 < fault_times d c (mine s1).faults
            told d c in_it = ⊎_elim
                (λ (x : (let t : ToldFault = record { device = d; count = c } in t) ≡ record { device = device; count = count }). subst (λ (t : ToldFault). 0 < fault_times t.device t.count (mine s1).faults) (sym x) cause)
                (λ (x : Contains (reverse before) (record { device = d; count = c })). still_told d c (seated.told_it d c x))
                (contains_cons (record { device = device; count = count }) (record { device = d; count = c }) (reverse before)
                (subst (λ (ts : List ToldFault). Contains ts (record { device = d; count = c })) (told_end before (record { device = device; count = count })) in_it))
      past_keeps _ covered upto cause = keeps_seated

      pub past_err : (honest : Type 0) (n page : ℕ) (out : List ℕ) (why : Refusal) (covered upto : ℕ) → IsPastCause s1 covered upto why → ((start : Start D) (d : Device) (c : ℕ) → opening s0 ≡ Some start → why ≡ refusal.DiskFault d c → IsAbove faults start d c)
          → PastGives honest n page out Old (New (told_more before why)) L (Err why)
      past_err honest n page out (refusal.DiskFault device count) covered upto cause above = (on (told_more before (refusal.DiskFault device count)), same_in ∙ looks_now, told_end before (record { device = device; count = count }), new) where
        new : seat.IsNew (New (told_more before (refusal.DiskFault device count))) device count
        new less =
            let found = some_there (opening s0) ready.rests.seat.opened in
            subst (λ (x : Option (Start D)). (ground_in state faults x).faults device < count) (sym (stays.same.opening ∙ found.1)) (above found.0 device count found.1 refl less)
      past_err honest n page out refusal.OutOfMemory covered upto cause above = (subst (seat.Waits Old (New before)) looks_now waits_seen, refl)
      past_err honest n page out _ covered upto cause above = absurd cause

      pub past_ok : (is_honest : D → Type 0) (n page : ℕ) (out : List ℕ) → IsPastOf is_honest state s1 n page out → IsRetainedBy s1 n → PastGives (IsHonest is_honest state s1) n page out Old (New before) L (Ok tt)
      past_ok is_honest n page out past kept = (subst (seat.Waits Old (New before)) looks_now waits_seen, right) where
        right : IsHonest is_honest state s1 → (held : Pages) → as_of n (seat.at_look Old L) ≡ Ok held → out ≡ held page
        right honest held held_is =
            let found = some_there (opening s0) ready.rests.seat.opened in
            let start : Start D = found.0 in
            let opened : opening s1 ≡ Some start = stays.same.opening ∙ found.1 in
            let is_so = subst (λ (x : Option (Start D)). IfSome x (λ (y : Start D). (is_honest y.core.value.desk.pool.file.disk × is_honest y.archive.value.pagelog.disk) × AreJustOpened is_honest state y.core.value y.archive.value)) opened honest in
            let just : AreJustOpened is_honest state start.core.value start.archive.value = is_so.1 in
            let h : History = just.origin.history in
            let since : List Line = take look.began (seen s0) in
            let rest : List Line = drop look.began (seen s0) ++ more.others in
            let whole : since ++ rest ≡ seen s1 = sym (append_assoc since (drop look.began (seen s0)) more.others) ∙ (ap (λ (l : List Line). l ++ more.others) (take-append-drop look.began (seen s0)) ∙ more.front) in
            let sound : IsSound (now h).base (since ++ rest) = subst (λ (b : Base). IsSound b (since ++ rest)) (sym just.opened.base) (subst (λ (l : List Line). IsSound (opened_base start) l) (sym whole) (kept.sound start opened)) in
            let retained : is_retained n (base_of (now h).base (since ++ rest)).marks ≡ true =
            ap (λ (b : Base). is_retained n (base_of b (since ++ rest)).marks) just.opened.base ∙ (ap (λ (l : List Line). is_retained n (base_of (opened_base start) l).marks) whole ∙ kept.retained start opened) in
            let as_there : as_of n (page_world (world_of state start.core.value start.archive.value) since) ≡ Ok held = subst (λ (x : Option (Start D)). as_of n (page_world (ground_in state faults x).pages since) ≡ Ok held) found.1 held_is in
            past start just.origin opened just.opened is_so.0.0 is_so.0.1
            ∙ (ap (λ (l : List Line). pages_as_of (after_journal h l) n page) (sym whole)
            ∙ past_stays h (world_of state start.core.value start.archive.value) since rest n page held just.opened.fits.consistent
            (opened_world is_honest state start.core.value start.archive.value just is_so.0.0 is_so.0.1) sound retained as_there)
