-- What the calls give, but for commits and drops.
use Rattle.std.proofs.Common.{◌≡◌, ◌≢◌, ◌∙◌, ◌⊎◌, ◌+◌, ◌-◌, ◌<◌, ◌==◌, ◌||◌, ◌++◌, ℕ, zero, suc, Bool, true, false, cond, List, [], ◌∷◌, refl, sym, ap, subst, inl, inr, arith, append-nil}
use Rattle.std.specs.Prelude.{Contains, None, Ok}
use Rattle.std.proofs.lemmas.Bool.Decides.{eqb_tells}
use Rattle.retro_base.specs.declared.who.Who.{Who}
use Rattle.history.specs.declared.journal.Line.{Line}
use Rattle.history.specs.declared.journal.What.{What}
use Rattle.history.specs.declared.journal.What.TheVariants.{Began}
use Rattle.history.specs.declared.writes.PageImage.{PageImage}
use Rattle.history.specs.History.{with_write, written}
use Rattle.history.specs.Writes.{is_among}
use Rattle.journal_book.specs.Book.{Book}
use Rattle.journal_law.specs.Lawful.{IsFault}
use Rattle.journal_law.specs.Own.{line}
use Rattle.journal_law.specs.Pages.{Pages, page_world, pins_of}
use Rattle.journal_law.specs.Seats as seat
use Rattle.journal_law.specs.World.{World}
use Rattle.journal_law.specs.declared.seat.Ending.{Ending}
use Rattle.journal_law.specs.declared.seat.Ending.TheVariants as ending
use Rattle.journal_law.specs.declared.seat.ToldFault.{ToldFault}
use Rattle.journal_law.proofs.Journal.{page_append}
use Rattle.plain_store.specs.Page.{bytes_in}
use Rattle.plain_store.specs.Plain.{IsOpened, IsPlain, Plain, WorkFits, ground_of, kept_of, pages_below, read_of, view_of, without_last, work_in, world_of, zeros}
use Rattle.plain_store.specs.Turns.{GoesOn}
use Rattle.plain_store.specs.declared.work.Look.{Look}
use Rattle.plain_store.specs.declared.work.Transaction.{Transaction}
use Rattle.plain_store.specs.declared.work.Work.{Work}
use Rattle.plain_store.specs.declared.work.Work.TheVariants as work
use Rattle.plain_store.proofs.Stores.{IsQuiet, began_quiet, behind_line, begun, closed, unlooked, without_more}

-- ---- views

pub adds : (p q : Plain) (who : Who) (what : What) (w : seat.Work) → q.session ≡ p.session → ground_of q ≡ ground_of p → q.book.lines ≡ p.book.lines ++ line who what ∷ [] → (view_of q).work ≡ w → seat.Adds (view_of p) (view_of q) who what w
adds p q who what w session ground lines is = record {
  moves = record { session = session; opened = ground; others = []; apart = tt; front = lines ∙ ap (λ (ls : List Line). ls ++ line who what ∷ []) (sym (append-nil p.book.lines)) };
  work_is = is;
  told_is = refl;
}

-- and with what stands before the line
pub adds_here : (p q : Plain) (who : Who) (what : What) (w : seat.Work) → q.session ≡ p.session → ground_of q ≡ ground_of p → q.book.lines ≡ p.book.lines ++ line who what ∷ [] → (view_of q).work ≡ w
    → (a : seat.Adds (view_of p) (view_of q) who what w) × (seat.lines_before (view_of p) (view_of q) a.moves ≡ p.book.lines)
adds_here p q who what w session ground lines is = (
  record {
    moves = record { session = session; opened = ground; others = []; apart = tt; front = lines ∙ ap (λ (ls : List Line). ls ++ line who what ∷ []) (sym (append-nil p.book.lines)) };
    work_is = is;
    told_is = refl;
  },
  append-nil p.book.lines,
)

pub waits : (p q : Plain) (w : seat.Work) → q.session ≡ p.session → ground_of q ≡ ground_of p → q.book.lines ≡ p.book.lines → (view_of q).work ≡ w → seat.Waits (view_of p) (view_of q) w
waits p q w session ground lines is = record {
  moves = record { session = session; opened = ground; others = []; apart = tt; front = lines ∙ sym (append-nil (p.book.lines ++ []) ∙ append-nil p.book.lines) };
  work_is = is;
  told_is = refl;
}

-- the turn goes on by a line
goes_by : (p q : Plain) (who : Who) (what : What) → q.session ≡ p.session → ground_of q ≡ ground_of p → who.session ≡ p.session → (IsFault what → ⊥) → q.book.lines ≡ p.book.lines ++ line who what ∷ [] → GoesOn p q
goes_by p q who what session ground mine none lines = record { session = session; opened = ground; more = line who what ∷ []; own = ((mine, none), tt); whole = lines }

pub goes : (p old q : Plain) (who : Who) (what : What) → p ≡ old → q.session ≡ p.session → ground_of q ≡ ground_of p → who.session ≡ p.session → (IsFault what → ⊥) → q.book.lines ≡ p.book.lines ++ line who what ∷ [] → GoesOn old q
goes p old q who what is session ground mine none lines = subst (λ (r : Plain). GoesOn r q) is (goes_by p q who what session ground mine none lines)

-- a plain store tells of no fault, so that none ends what is open
pub no_fault_closes : (view : seat.View) (too_many : Bool) (why : Ending) → view.told ≡ [] → seat.MayEnd view why → IsFault (seat.closing (kept_of too_many) why) → ⊥
no_fault_closes view true why none may fault = fault
no_fault_closes view false ending.Asked none may fault = fault
no_fault_closes view false (ending.Refused why) none may fault = fault
no_fault_closes view false (ending.Failed device count) none may fault = not_told (subst (λ (told : List ToldFault). Contains told (record { device = device; count = count })) none may)
  where
    not_told : Contains {X = ToldFault} [] (record { device = device; count = count }) → ⊥
    not_told there = absurd (omega (arith, there.1))

pub no_fault_unlooks : (view : seat.View) (why : Ending) → view.told ≡ [] → seat.MayEnd view why → IsFault (seat.unlooking why) → ⊥
no_fault_unlooks view ending.Asked none may fault = fault
no_fault_unlooks view (ending.Refused why) none may fault = fault
no_fault_unlooks view (ending.Failed device count) none may fault = not_told (subst (λ (told : List ToldFault). Contains told (record { device = device; count = count })) none may)
  where
    not_told : Contains {X = ToldFault} [] (record { device = device; count = count }) → ⊥
    not_told there = absurd (omega (arith, there.1))

-- ---- works

pub idle_is : (count : ℕ) (lines : List Line) (w : Work) → work_in count lines w ≡ seat.Idle → w ≡ work.Idle
idle_is count lines work.Idle e = refl
idle_is count lines (work.Open t) e = cc
idle_is count lines (work.Looking l) e = cc

abbrev pub attempt_of : ℕ → List Line → Transaction → seat.Attempt
attempt_of count lines t = record { who = t.who; since = without_last lines; read = read_of count t.has_read; edits = t.edits; kept = kept_of t.too_many }

open_same : (a b : seat.Attempt) → seat.Open a ≡ seat.Open b → a ≡ b
open_same a b e = cc

pub attempt_is : (p : Plain) (t : Transaction) (a : seat.Attempt) → p.work ≡ work.Open t → (view_of p).work ≡ seat.Open a → attempt_of p.base.page_count p.book.lines t ≡ a
attempt_is p t a is view = open_same _ _ (sym (ap (work_in p.base.page_count p.book.lines) is) ∙ view)

looking_same : (a b : seat.Look) → seat.Looking a ≡ seat.Looking b → a ≡ b
looking_same a b e = cc

pub look_is : (p : Plain) (l : Look) (a : seat.Look) → p.work ≡ work.Looking l → (view_of p).work ≡ seat.Looking a → (record { who = l.who; since = without_last p.book.lines; snapshot = l.snapshot }) ≡ a
look_is p l a is view = looking_same _ _ (sym (ap (work_in p.base.page_count p.book.lines) is) ∙ view)

-- the pages at the line that opened the work are those now
pub since_world : (session : ℕ) (lines : List Line) (who : Who) (what : What) → IsOpened session lines who what → IsQuiet what → page_world zeros (without_last lines) ≡ page_world zeros lines
since_world session lines who what is q =
    sym (ap (page_world zeros) is.last ∙ page_append zeros (without_last lines) (line who what ∷ []) ∙ q.world (page_world zeros (without_last lines)))

-- ---- begin

pub begin_keeps : (p : Plain) (who : Who) (book : Book) (edits : List PageImage) → IsPlain p → (view_of p).work ≡ seat.Idle → who.session ≡ p.session
    → book ≡ record p.book { lines = p.book.lines ++ line who Began ∷ []; kept = p.book.kept + 1 } → edits ≡ []
    → IsPlain (record { session = p.session; base = p.base; book = book; pages = p.pages; work = work.Open (record { who = who; has_read = false; edits = edits; too_many = false }) })
begin_keeps p who book edits is idle mine b e =
    subst (λ (k : Book). IsPlain (record { session = p.session; base = p.base; book = k; pages = p.pages; work = work.Open (record { who = who; has_read = false; edits = edits; too_many = false }) })) (sym b)
    (subst (λ (es : List PageImage). IsPlain (behind_line p who Began p.base p.pages (p.book.kept + 1) (work.Open (record { who = who; has_read = false; edits = es; too_many = false })))) (sym e)
    (begun p who is (idle_is _ _ p.work idle) mine))

pub begin_gives : (p q : Plain) (who : Who) (edits : List PageImage) → q.session ≡ p.session → ground_of q ≡ ground_of p → q.book.lines ≡ p.book.lines ++ line who Began ∷ []
    → q.work ≡ work.Open (record { who = who; has_read = false; edits = edits; too_many = false }) → edits ≡ [] → seat.BeginGives who (view_of p) (view_of q) (Ok tt)
begin_gives p q who edits session ground lines w none =
    let since : without_last q.book.lines ≡ p.book.lines = ap without_last lines ∙ without_more p.book.lines (line who Began) in (
      p.book.lines,
      adds p q who Began _ session ground lines
          (ap (work_in q.base.page_count q.book.lines) w
          ∙ ap (λ (es : List PageImage). seat.Open (record { who = who; since = without_last q.book.lines; read = []; edits = es; kept = None })) none
          ∙ ap (λ (ls : List Line). seat.Open (record { who = who; since = ls; read = []; edits = []; kept = None })) since),
      lines,
    )

-- ---- rollback and unlook

pub closed_keeps : (p : Plain) (t : Transaction) (what : What) (why : Ending) (book : Book) (w : Work) → IsPlain p → p.work ≡ work.Open t → what ≡ seat.closing (kept_of t.too_many) why
    → book ≡ record p.book { lines = p.book.lines ++ line t.who what ∷ []; kept = p.book.kept - 1 } → w ≡ work.Idle → IsPlain (record { session = p.session; base = p.base; book = book; pages = p.pages; work = w })
closed_keeps p t what why book w is open_now says b idle =
    subst (λ (k : Book). IsPlain (record { session = p.session; base = p.base; book = k; pages = p.pages; work = w })) (sym b)
    (subst (λ (v : Work). IsPlain (behind_line p t.who what p.base p.pages (p.book.kept - 1) v)) (sym idle)
    (subst (λ (says : What). IsPlain (behind_line p t.who says p.base p.pages (p.book.kept - 1) work.Idle)) (sym says) (closed p t why is open_now)))

pub rollback_gives : (p q : Plain) (t : Transaction) (what : What) (why : Ending) (a : seat.Attempt) → p.work ≡ work.Open t → what ≡ seat.closing (kept_of t.too_many) why → q.session ≡ p.session → ground_of q ≡ ground_of p
    → q.book.lines ≡ p.book.lines ++ line t.who what ∷ [] → q.work ≡ work.Idle → (view_of p).work ≡ seat.Open a → seat.RollbackGives why (view_of p) (view_of q) a
rollback_gives p q t what why a open_now says session ground lines idle view =
    subst (λ (x : seat.Attempt). seat.RollbackGives why (view_of p) (view_of q) x) (attempt_is p t a open_now view)
    (adds p q t.who (seat.closing (kept_of t.too_many) why) seat.Idle session ground (lines ∙ ap (λ (w : What). p.book.lines ++ line t.who w ∷ []) says) (ap (work_in q.base.page_count q.book.lines) idle))

pub unlooked_keeps : (p : Plain) (l : Look) (what : What) (why : Ending) (book : Book) (w : Work) → IsPlain p → p.work ≡ work.Looking l → what ≡ seat.unlooking why
    → book ≡ record p.book { lines = p.book.lines ++ line l.who what ∷ []; kept = p.book.kept - 1 } → w ≡ work.Idle → IsPlain (record { session = p.session; base = p.base; book = book; pages = p.pages; work = w })
unlooked_keeps p l what why book w is looking says b idle =
    subst (λ (k : Book). IsPlain (record { session = p.session; base = p.base; book = k; pages = p.pages; work = w })) (sym b)
    (subst (λ (v : Work). IsPlain (behind_line p l.who what p.base p.pages (p.book.kept - 1) v)) (sym idle)
    (subst (λ (says : What). IsPlain (behind_line p l.who says p.base p.pages (p.book.kept - 1) work.Idle)) (sym says) (unlooked p l why is looking)))

pub unlook_gives : (p q : Plain) (l : Look) (what : What) (why : Ending) (a : seat.Look) → p.work ≡ work.Looking l → what ≡ seat.unlooking why → q.session ≡ p.session → ground_of q ≡ ground_of p
    → q.book.lines ≡ p.book.lines ++ line l.who what ∷ [] → q.work ≡ work.Idle → (view_of p).work ≡ seat.Looking a → seat.UnlookGives why (view_of p) (view_of q) a
unlook_gives p q l what why a looking says session ground lines idle view =
    subst (λ (x : seat.Look). seat.UnlookGives why (view_of p) (view_of q) x) (look_is p l a looking view)
    (adds p q l.who (seat.unlooking why) seat.Idle session ground (lines ∙ ap (λ (w : What). p.book.lines ++ line l.who w ∷ []) says) (ap (work_in q.base.page_count q.book.lines) idle))

-- whose the open work is
pub mine_open : (p : Plain) (t : Transaction) → IsPlain p → p.work ≡ work.Open t → t.who.session ≡ p.session
mine_open p t is open_now = (subst (WorkFits p.session p.base.page_count p.book.lines _) open_now is.work).1.mine

pub mine_looking : (p : Plain) (l : Look) → IsPlain p → p.work ≡ work.Looking l → l.who.session ≡ p.session
mine_looking p l is looking = (subst (WorkFits p.session p.base.page_count p.book.lines _) looking is.work).1.mine

-- ---- pages under edits

pub written_at : (writes : List PageImage) (page : ℕ) (one other : Pages) → one page ≡ other page → written one writes page ≡ written other writes page
written_at [] page one other same = same
written_at (w ∷ writes) page one other same = written_at writes page (with_write one w) (with_write other w) (by_test (w.page == page))
  where
    by_test : (here : Bool) → cond here w.bytes (one page) ≡ cond here w.bytes (other page)
    by_test true = refl
    by_test false = same

-- ---- reads

among_below : (count page : ℕ) → page < count → is_among page (pages_below count) ≡ true
among_below zero page lt = absurd (omega arith)
among_below (suc count) page lt = by_test (eqb_tells count page) (among_below count page)
  where
    by_test : (((count == page) ≡ true) × (count ≡ page)) ⊎ (((count == page) ≡ false) × (count ≢ page)) → (page < count → is_among page (pages_below count) ≡ true) → ((count == page) || is_among page (pages_below count)) ≡ true
    by_test (inl is) rest = rw is.0 refl
    by_test (inr is) rest = rw is.0 (rest (omega (arith, lt, is.1)))

pub read_gives : (p q : Plain) (t : Transaction) (page : ℕ) (out : List ℕ) (a : seat.Attempt) → IsPlain p → p.work ≡ work.Open t → page < p.base.page_count → out ≡ written (bytes_in p.pages) t.edits page
    → q.session ≡ p.session → q.base ≡ p.base → q.book ≡ p.book → q.work ≡ work.Open (record t { has_read = true }) → (view_of p).work ≡ seat.Open a → seat.ReadGives (Unit {0}) page out (view_of p) (view_of q) a (Ok tt)
read_gives p q t page out a is open_now lt out_is session base book w view =
    subst (λ (x : seat.Attempt). seat.ReadGives (Unit {0}) page out (view_of p) (view_of q) x (Ok tt)) (attempt_is p t a open_now view) (
      pages_below p.base.page_count,
      waits p q _ session (ap (λ b. ground_of (record p { base = b })) base) (ap (λ (b : Book). b.lines) book)
          (ap (work_in q.base.page_count q.book.lines) w
          ∙ ap (λ b. work_in b.page_count q.book.lines (work.Open (record t { has_read = true }))) base
          ∙ ap (λ (b : Book). work_in p.base.page_count b.lines (work.Open (record t { has_read = true }))) book),
      record { here = among_below p.base.page_count page lt; before = before t.has_read },
      λ honest. out_is ∙ written_at t.edits page (bytes_in p.pages) (page_world zeros (without_last p.book.lines)).current (here ∙ sym began),
    )
  where
    fits : WorkFits p.session p.base.page_count p.book.lines (pins_of zeros p.book.lines) (work.Open t)
    fits = subst (WorkFits p.session p.base.page_count p.book.lines (pins_of zeros p.book.lines)) open_now is.work

    began : (page_world zeros (without_last p.book.lines)).current page ≡ (world_of p).current page
    began = ap (λ (v : World Pages). v.current page) (since_world p.session p.book.lines t.who Began fits.1 began_quiet)

    here : bytes_in p.pages page ≡ (world_of p).current page
    here = is.held.current page (omega (arith, lt, is.long))

    any : (other : ℕ) (lines : List ℕ) → lines ≡ [] → is_among other lines ≡ true → is_among other (pages_below p.base.page_count) ≡ true
    any other [] e h = cc
    any other (x ∷ xs) e h = cc

    before : (has_read : Bool) (other : ℕ) → is_among other (read_of p.base.page_count has_read) ≡ true → is_among other (pages_below p.base.page_count) ≡ true
    before true other h = h
    before false other h = any other [] refl h
