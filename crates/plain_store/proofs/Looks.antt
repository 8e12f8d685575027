-- What looks give.
use Rattle.std.proofs.Common.{◌≡◌, ◌∙◌, ◌+◌, ◌<◌, ◌≤◌, ◌==◌, ◌||◌, ◌++◌, ℕ, Bool, true, false, cond, ltb, List, [], ◌∷◌, length, map, refl, sym, ap, subst, arith, append-nil}
use Rattle.std.specs.Prelude.{Option, Some, None, Ok, Err}
use Rattle.std.specs.Option.{option_or}
use Rattle.std.proofs.lemmas.Bool.{ltb-false}
use Rattle.retro_base.specs.declared.refusal.Refusal.{Refusal}
use Rattle.retro_base.specs.declared.refusal.Refusal.TheVariants as refusal
use Rattle.retro_base.specs.declared.who.Who.{Who}
use Rattle.history.specs.declared.entry.Mark.{Mark as MarkOf}
use Rattle.history.specs.declared.journal.Line.{Line}
use Rattle.history.specs.declared.journal.What.TheVariants.{Looked, LookedAll, Refused}
use Rattle.history.specs.Marks as base
use Rattle.history.specs.Writes.{rises}
use Rattle.journal_book.specs.Book.{Book}
use Rattle.journal_law.specs.Own.{line}
use Rattle.journal_law.specs.Pages.{Pages, page_world, pins_of}
use Rattle.journal_law.specs.Seats as seat
use Rattle.journal_law.specs.World.{Mark, as_of}
use Rattle.journal_law.proofs.Marks.{numbers_rise}
use Rattle.plain_store.specs.Numbers.{look_refused}
use Rattle.plain_store.specs.Page.{bytes_at, page_at}
use Rattle.plain_store.specs.Plain.{IsPlain, Plain, WorkFits, ground_of, looked_by, view_of, without_last, work_in, world_of, zeros}
use Rattle.plain_store.specs.declared.work.Look.{Look}
use Rattle.plain_store.specs.declared.work.Work.{Work}
use Rattle.plain_store.specs.declared.work.Work.TheVariants as work
use Rattle.plain_store.proofs.Gives.{adds, adds_here, idle_is, look_is, since_world}
use Rattle.plain_store.proofs.Snapshots.{held_mark, look_is_held, look_is_refused}
use Rattle.plain_store.proofs.Stores.{IsQuiet, looked, looked_all, looked_all_quiet, looked_quiet, refused_alone, without_more}

pub refused_keeps : (p : Plain) (who : Who) (why : Refusal) (book : Book) → IsPlain p → (view_of p).work ≡ seat.Idle → book ≡ record p.book { lines = p.book.lines ++ line who (Refused why) ∷ [] } → IsPlain (record { session = p.session; base = p.base; book = book; pages = p.pages; work = p.work })
refused_keeps p who why book is idle b =
    subst (λ (k : Book). IsPlain (record { session = p.session; base = p.base; book = k; pages = p.pages; work = p.work })) (sym b) (refused_alone p who why is (idle_is _ _ p.work idle))

-- a refusal by the number of a snapshot
abbrev IsByNumber : Refusal → Type 0
IsByNumber (refusal.NoSuchSnapshot asked newest) = Unit {0}
IsByNumber (refusal.Dropped asked oldest) = Unit {0}
IsByNumber why = ⊥

by_number : (snapshot : ℕ) (marks : List MarkOf) (why : Refusal) → look_refused snapshot marks ≡ Some why → IsByNumber why
by_number snapshot marks why e = by_test ((snapshot == 0) || ltb (base.newest marks) snapshot) (ltb snapshot (base.oldest marks)) e
  where
    by_test : (none below : Bool) → option_or (cond none (Some (refusal.NoSuchSnapshot snapshot (base.newest marks))) None) (cond below (Some (refusal.Dropped snapshot (base.oldest marks))) None) ≡ Some why → IsByNumber why
    by_test true below h = let same : refusal.NoSuchSnapshot snapshot (base.newest marks) ≡ why = cc in subst IsByNumber same tt
    by_test false true h = let same : refusal.Dropped snapshot (base.oldest marks) ≡ why = cc in subst IsByNumber same tt
    by_test false false h = cc

pub look_refused_gives : (p q : Plain) (who : Who) (snapshot : ℕ) (why : Refusal) → IsPlain p → (view_of p).work ≡ seat.Idle → q.session ≡ p.session → ground_of q ≡ ground_of p → q.book.lines ≡ p.book.lines ++ line who (Refused why) ∷ [] → q.work ≡ p.work
    → look_refused snapshot p.base.marks ≡ Some why → seat.LookGives who snapshot (view_of p) (view_of q) (Err why)
look_refused_gives p q who snapshot why is idle session ground lines same refused = by_why why refused lines
  where
    there : (why : Refusal) → look_refused snapshot p.base.marks ≡ Some why → q.book.lines ≡ p.book.lines ++ line who (Refused why) ∷ []
        → (adds : seat.Adds (view_of p) (view_of q) who (Refused why) seat.Idle) × (as_of snapshot (seat.place (view_of p) (view_of q) adds.moves) ≡ Err why)
    there why refused lines =
        let a = adds_here p q who (Refused why) seat.Idle session ground lines (ap (work_in q.base.page_count q.book.lines) (same ∙ idle_is _ _ p.work idle)) in
        (a.0, ap (λ (ls : List Line). as_of snapshot (page_world zeros ls)) a.1 ∙ look_is_refused (world_of p) p.base.marks is.names is.numbered snapshot why refused)

    -- these are the only refusals
    by_why : (why : Refusal) → look_refused snapshot p.base.marks ≡ Some why → q.book.lines ≡ p.book.lines ++ line who (Refused why) ∷ [] → seat.LookGives who snapshot (view_of p) (view_of q) (Err why)
    by_why (refusal.JournalFull count images) refused lines = absurd (by_number snapshot p.base.marks _ refused)
    by_why refusal.OutOfMemory refused lines = absurd (by_number snapshot p.base.marks _ refused)
    by_why why refused lines = there why refused lines

pub looked_keeps : (p : Plain) (who : Who) (snapshot : ℕ) (book : Book) → IsPlain p → (view_of p).work ≡ seat.Idle → who.session ≡ p.session → book ≡ record p.book { lines = p.book.lines ++ line who (Looked snapshot) ∷ []; kept = p.book.kept + 1 }
    → IsPlain (record { session = p.session; base = p.base; book = book; pages = p.pages; work = work.Looking (record { who = who; snapshot = Some snapshot }) })
looked_keeps p who snapshot book is idle mine b =
    subst (λ (k : Book). IsPlain (record { session = p.session; base = p.base; book = k; pages = p.pages; work = work.Looking (record { who = who; snapshot = Some snapshot }) })) (sym b) (looked p who snapshot is (idle_is _ _ p.work idle) mine)

-- a number that is not refused is not above the newest
within : (snapshot : ℕ) (marks : List MarkOf) → look_refused snapshot marks ≡ None → snapshot ≤ base.newest marks
within snapshot marks e = by_test (snapshot == 0) (ltb (base.newest marks) snapshot) refl e
  where
    by_test : (none above : Bool) → ltb (base.newest marks) snapshot ≡ above
        → option_or (cond (none || above) (Some (refusal.NoSuchSnapshot snapshot (base.newest marks))) None) (cond (ltb snapshot (base.oldest marks)) (Some (refusal.Dropped snapshot (base.oldest marks))) None) ≡ None
        → snapshot ≤ base.newest marks
    by_test true above a h = cc
    by_test false true a h = cc
    by_test false false a h = ltb-false _ _ a

pub look_gives : (p q : Plain) (who : Who) (snapshot : ℕ) → IsPlain p → q.session ≡ p.session → ground_of q ≡ ground_of p → q.book.lines ≡ p.book.lines ++ line who (Looked snapshot) ∷ []
    → q.work ≡ work.Looking (record { who = who; snapshot = Some snapshot }) → look_refused snapshot p.base.marks ≡ None → seat.LookGives who snapshot (view_of p) (view_of q) (Ok tt)
look_gives p q who snapshot is session ground lines w free =
    let since : without_last q.book.lines ≡ p.book.lines = ap without_last lines ∙ without_more p.book.lines (line who (Looked snapshot)) in (
      p.book.lines,
      adds p q who (Looked snapshot) _ session ground lines
          (ap (work_in q.base.page_count q.book.lines) w ∙ ap (λ (ls : List Line). seat.Looking (record { who = who; since = ls; snapshot = Some snapshot })) since),
      lines,
      look_is_held (world_of p) p.base.marks is.names is.numbered snapshot free,
      omega (arith, within snapshot p.base.marks free, is.right.limits.newest),
    )

pub looked_all_keeps : (p : Plain) (who : Who) (book : Book) → IsPlain p → (view_of p).work ≡ seat.Idle → who.session ≡ p.session → book ≡ record p.book { lines = p.book.lines ++ line who LookedAll ∷ []; kept = p.book.kept + 1 }
    → IsPlain (record { session = p.session; base = p.base; book = book; pages = p.pages; work = work.Looking (record { who = who; snapshot = None }) })
looked_all_keeps p who book is idle mine b =
    subst (λ (k : Book). IsPlain (record { session = p.session; base = p.base; book = k; pages = p.pages; work = work.Looking (record { who = who; snapshot = None }) })) (sym b) (looked_all p who is (idle_is _ _ p.work idle) mine)

pub look_all_gives : (p q : Plain) (who : Who) (marks : List MarkOf) → IsPlain p → q.session ≡ p.session → ground_of q ≡ ground_of p → q.book.lines ≡ p.book.lines ++ line who LookedAll ∷ []
    → q.work ≡ work.Looking (record { who = who; snapshot = None }) → marks ≡ p.base.marks → seat.LookAllGives who (view_of p) (view_of q) (Ok marks)
look_all_gives p q who marks is session ground lines w same =
    let since : without_last q.book.lines ≡ p.book.lines = ap without_last lines ∙ without_more p.book.lines (line who LookedAll) in (
      p.book.lines,
      adds p q who LookedAll _ session ground lines
          (ap (work_in q.base.page_count q.book.lines) w ∙ ap (λ (ls : List Line). seat.Looking (record { who = who; since = ls; snapshot = None })) since),
      lines,
      ap seat.names_of same ∙ sym is.names,
      ap (λ (ms : List MarkOf). rises 1 (map (λ (mark : MarkOf). mark.number) ms)) same ∙ numbers_rise p.base.captures 0 0 p.base.marks is.right.marks 1 (omega arith),
    )

looked_by_quiet : (o : Option ℕ) → IsQuiet (looked_by o)
looked_by_quiet None = looked_all_quiet
looked_by_quiet (Some n) = looked_quiet n

looking_is : (count : ℕ) (lines : List Line) (w : Work) (a : seat.Look) → work_in count lines w ≡ seat.Looking a → (l : Look) × (w ≡ work.Looking l)
looking_is count lines work.Idle a e = cc
looking_is count lines (work.Open t) a e = cc
looking_is count lines (work.Looking l) a e = (l, refl)

pub past_gives : (p : Plain) (snapshot page : ℕ) (out : List ℕ) (a : seat.Look) → IsPlain p → page < p.base.page_count → out ≡ bytes_at snapshot (page_at p.pages page).bytes (page_at p.pages page).past
    → (view_of p).work ≡ seat.Looking a → seat.PastGives (Unit {0}) snapshot page out (view_of p) (view_of p) a (Ok tt)
past_gives p snapshot page out a is lt out_is view =
    let l = looking_is _ _ p.work a view in
    let same = look_is p l.0 a l.1 view in
    let fits = subst (WorkFits p.session p.base.page_count p.book.lines (pins_of zeros p.book.lines)) l.1 is.work in
    let since : page_world zeros a.since ≡ world_of p = ap (λ (k : seat.Look). page_world zeros k.since) (sym same) ∙ since_world p.session p.book.lines l.0.who (looked_by l.0.snapshot) fits.1 (looked_by_quiet l.0.snapshot) in (
      record {
        moves = record { session = refl; opened = refl; others = []; apart = tt; front = sym (append-nil (p.book.lines ++ []) ∙ append-nil p.book.lines) };
        work_is = view;
        told_is = refl;
      },
      λ honest held e.
          let found = held_mark snapshot (world_of p) held (λ (mark : Mark Pages). (q : ℕ) → q < length p.pages → bytes_at mark.number (page_at p.pages q).bytes (page_at p.pages q).past ≡ mark.held q) is.held.marks
          (ap (as_of snapshot) (sym since) ∙ e) in
          out_is
          ∙ ap (λ (n : ℕ). bytes_at n (page_at p.pages page).bytes (page_at p.pages page).past) (sym found.2)
          ∙ found.1 page (omega (arith, lt, is.long))
          ∙ ap (λ (f : Pages). f page) found.3,
    )
