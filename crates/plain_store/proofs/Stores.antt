-- What a plain store keeps, line by line.
use Rattle.std.proofs.Common.{◌≡◌, ◌∙◌, ◌+◌, ◌-◌, ◌++◌, ℕ, Bool, true, false, not, cond, List, [], ◌∷◌, length, map, refl, sym, ap, subst, arith}
use Rattle.std.specs.Prelude.{Option, Some, None}
use Rattle.std.specs.Option.{option_or, option_to_list}
use Rattle.retro_base.specs.declared.refusal.Refusal.{Refusal}
use Rattle.retro_base.specs.declared.who.Who.{Who}
use Rattle.history.specs.declared.entry.Base.{Base}
use Rattle.history.specs.declared.entry.Change.{Change}
use Rattle.history.specs.declared.journal.Line.{Line}
use Rattle.history.specs.declared.journal.What.{What}
use Rattle.history.specs.declared.journal.What.TheVariants.{Began, Looked, LookedAll, Refused}
use Rattle.history.specs.declared.stop.Stop.{Stop}
use Rattle.history.specs.History.{bases_after}
use Rattle.history.specs.Journal.{change_of, pages_behind}
use Rattle.history.specs.Lines.{base_of, stop_of}
use Rattle.history.specs.Right.{IsBase}
use Rattle.history.specs.Sound.{Pin, unpinned}
use Rattle.history.proofs.Items.{same_self}
use Rattle.history.proofs.Lines.{base_of_one_more, first_stop_in_one_more}
use Rattle.journal_law.specs.Own.{line}
use Rattle.journal_law.specs.Pages.{Pages, page_step, page_world, pins_from, pins_of}
use Rattle.journal_law.specs.Seats.{closing, names_in, names_of, unlooking}
use Rattle.journal_law.specs.World.{Mark, World, behind, oldest_of, pins_behind}
use Rattle.journal_law.specs.declared.seat.Ending.{Ending}
use Rattle.journal_law.specs.declared.seat.Ending.TheVariants as ending
use Rattle.journal_law.proofs.Journal.{page_append}
use Rattle.plain_store.specs.Page.{PlainPage}
use Rattle.plain_store.specs.Plain.{AreHeld, AreNumbered, IsOpened, IsPlain, Plain, WorkFits, closing_lines, empty_base, kept_of, without_last, world_of, zeros}
use Rattle.plain_store.specs.declared.work.Look.{Look}
use Rattle.plain_store.specs.declared.work.Transaction.{Transaction}
use Rattle.plain_store.specs.declared.work.Work.{Work}
use Rattle.plain_store.specs.declared.work.Work.TheVariants as work

pub without_more : (lines : List Line) (last : Line) → without_last (lines ++ last ∷ []) ≡ lines
without_more [] last = refl
without_more (one ∷ []) last = refl
without_more (one ∷ next ∷ lines) last = ap (λ (ls : List Line). one ∷ ls) (without_more (next ∷ lines) last)

pins_more : (opening : World Pages) (pins : List Pin) (lines : List Line) (last : Line) → pins_from opening pins (lines ++ last ∷ []) ≡ pins_behind (page_world opening lines) (pins_from opening pins lines) last.who last.what
pins_more opening pins [] last = refl
pins_more opening pins (one ∷ lines) last = pins_more (page_step opening one) (pins_behind opening pins one.who one.what) lines last

-- the store behind a line
abbrev pub behind_line : Plain → Who → What → Base → List PlainPage → ℕ → Work → Plain
behind_line p who what base pages kept w = record {
  session = p.session;
  base = base;
  book = record p.book { lines = p.book.lines ++ line who what ∷ []; kept = kept };
  pages = pages;
  work = w;
}

-- the world behind it
abbrev pub world_behind : Plain → Who → What → World Pages
world_behind p who what = page_step (world_of p) (line who what)

-- what has to hold of it
pub record Follows (p : Plain) (who : Who) (what : What) (base : Base) (pages : List PlainPage) (kept : ℕ) (w : Work) : Type 0 where
  pub same_count : base.page_count ≡ p.base.page_count
  pub same_capacity : base.capacity ≡ p.base.capacity
  pub change : base ≡ bases_after p.base (option_to_list (change_of p.base what))
  pub right : IsBase base
  pub long : length pages ≡ length p.pages
  pub keeps : kept ≡ closing_lines w
  pub names : names_in (world_behind p who what) ≡ names_of base.marks
  pub numbered : AreNumbered (oldest_of (world_behind p who what).marks) (world_behind p who what).marks
  pub held : AreHeld (world_behind p who what) pages
  pub stop : stop_of what ≡ None
  pub work : WorkFits p.session p.base.page_count (p.book.lines ++ line who what ∷ []) (pins_behind (world_of p) (pins_of zeros p.book.lines) who what) w

pub follows : (p : Plain) (who : Who) (what : What) (base : Base) (pages : List PlainPage) (kept : ℕ) (w : Work) → IsPlain p → Follows p who what base pages kept w → IsPlain (behind_line p who what base pages kept w)
follows p who what base pages kept w is f =
    let lines = p.book.lines in
    let world : page_world zeros (lines ++ line who what ∷ []) ≡ world_behind p who what = page_append zeros lines (line who what ∷ []) in
    let opening : Base = empty_base p.base.page_count p.base.capacity in
    record {
      base =
          f.change
          ∙ ap (λ (b : Base). bases_after b (option_to_list (change_of b what))) is.base
          ∙ sym (base_of_one_more opening lines (line who what))
          ∙ ap (λ (n : ℕ). base_of (empty_base n p.base.capacity) (lines ++ line who what ∷ [])) (sym f.same_count)
          ∙ ap (λ (n : ℕ). base_of (empty_base base.page_count n) (lines ++ line who what ∷ [])) (sym f.same_capacity);
      right = f.right;
      long = f.long ∙ is.long ∙ sym f.same_count;
      book_pages = is.book_pages ∙ sym f.same_count;
      workers = is.workers;
      kept = f.keeps;
      names = ap names_in world ∙ f.names;
      numbered = subst (λ (v : World Pages). AreNumbered (oldest_of v.marks) v.marks) (sym world) f.numbered;
      held = subst (λ (v : World Pages). AreHeld v pages) (sym world) f.held;
      goes = first_stop_in_one_more lines (line who what) ∙ ap (λ (o : Option Stop). option_or o (stop_of what)) is.goes ∙ f.stop;
      work =
          subst (λ (n : ℕ). WorkFits p.session n (lines ++ line who what ∷ []) (pins_of zeros (lines ++ line who what ∷ [])) w) (sym f.same_count)
          (subst (λ (pins : List Pin). WorkFits p.session p.base.page_count (lines ++ line who what ∷ []) pins w) (sym (pins_more zeros [] lines (line who what))) f.work);
    }

-- ---- lines that leave the world, the log and the going as they were

pub record IsQuiet (what : What) : Type 0 where
  pub change : (base : Base) → change_of base what ≡ None
  pub world : (v : World Pages) → behind (pages_behind v.current what) what v ≡ v
  pub stop : stop_of what ≡ None

pub quiet : (p : Plain) (who : Who) (what : What) (kept : ℕ) (w : Work) → IsPlain p → IsQuiet what → kept ≡ closing_lines w
    → WorkFits p.session p.base.page_count (p.book.lines ++ line who what ∷ []) (pins_behind (world_of p) (pins_of zeros p.book.lines) who what) w
    → IsPlain (behind_line p who what p.base p.pages kept w)
quiet p who what kept w is q keeps fits =
    let world : world_behind p who what ≡ world_of p = q.world (world_of p) in
    follows p who what p.base p.pages kept w is
    (record {
      same_count = refl;
      same_capacity = refl;
      change = sym (ap (λ (o : Option Change). bases_after p.base (option_to_list o)) (q.change p.base));
      right = is.right;
      long = refl;
      keeps = keeps;
      names = ap names_in world ∙ is.names;
      numbered = subst (λ (v : World Pages). AreNumbered (oldest_of v.marks) v.marks) (sym world) is.numbered;
      held = subst (λ (v : World Pages). AreHeld v p.pages) (sym world) is.held;
      stop = q.stop;
      work = fits;
    })

pub began_quiet : IsQuiet Began
began_quiet = record { change = λ base. refl; world = λ v. refl; stop = refl }

pub looked_quiet : (n : ℕ) → IsQuiet (Looked n)
looked_quiet n = record { change = λ base. refl; world = λ v. refl; stop = refl }

pub looked_all_quiet : IsQuiet LookedAll
looked_all_quiet = record { change = λ base. refl; world = λ v. refl; stop = refl }

refused_quiet : (why : Refusal) → IsQuiet (Refused why)
refused_quiet why = record { change = λ base. refl; world = λ v. refl; stop = refl }

unlooking_quiet : (why : Ending) → IsQuiet (unlooking why)
unlooking_quiet ending.Asked = record { change = λ base. refl; world = λ v. refl; stop = refl }
unlooking_quiet (ending.Refused why) = refused_quiet why
unlooking_quiet (ending.Failed device count) = record { change = λ base. refl; world = λ v. refl; stop = refl }

closing_quiet : (too_many : Bool) (why : Ending) → IsQuiet (closing (kept_of too_many) why)
closing_quiet true why = refused_quiet _
closing_quiet false ending.Asked = record { change = λ base. refl; world = λ v. refl; stop = refl }
closing_quiet false (ending.Refused why) = refused_quiet why
closing_quiet false (ending.Failed device count) = record { change = λ base. refl; world = λ v. refl; stop = refl }

-- ---- what opens

opened : (p : Plain) (who : Who) (what : What) → who.session ≡ p.session → IsOpened p.session (p.book.lines ++ line who what ∷ []) who what
opened p who what mine = record { mine = mine; last = ap (λ (ls : List Line). ls ++ line who what ∷ []) (sym (without_more p.book.lines (line who what))) }

idle_pins : (p : Plain) → IsPlain p → p.work ≡ work.Idle → pins_of zeros p.book.lines ≡ []
idle_pins p is idle = subst (WorkFits p.session p.base.page_count p.book.lines (pins_of zeros p.book.lines)) idle is.work

pub begun : (p : Plain) (who : Who) → IsPlain p → p.work ≡ work.Idle → who.session ≡ p.session
    → IsPlain (behind_line p who Began p.base p.pages (p.book.kept + 1) (work.Open (record { who = who; has_read = false; edits = []; too_many = false })))
begun p who is idle mine =
    quiet p who Began (p.book.kept + 1) _ is began_quiet (ap (λ (n : ℕ). n + 1) (is.kept ∙ ap closing_lines idle))
    (idle_pins p is idle, opened p who Began mine, tt, omega arith)

unpinned_own : (who : Who) (numbers : List (Mark Pages)) (pins : List Pin) → pins ≡ [] → unpinned who (map (λ (mark : Mark Pages). record { who = who; snapshot = mark.number }) numbers ++ pins) ≡ []
unpinned_own who [] pins none = ap (unpinned who) none
unpinned_own who (mark ∷ numbers) pins none =
    ap (λ (b : Bool). cond (not b) (record { who = who; snapshot = mark.number } ∷ unpinned who (map (λ (m : Mark Pages). record { who = who; snapshot = m.number }) numbers ++ pins)) (unpinned who (map (λ (m : Mark Pages). record { who = who; snapshot = m.number }) numbers ++ pins))) (same_self who)
    ∙ unpinned_own who numbers pins none

pub looked : (p : Plain) (who : Who) (snapshot : ℕ) → IsPlain p → p.work ≡ work.Idle → who.session ≡ p.session
    → IsPlain (behind_line p who (Looked snapshot) p.base p.pages (p.book.kept + 1) (work.Looking (record { who = who; snapshot = Some snapshot })))
looked p who snapshot is idle mine =
    quiet p who (Looked snapshot) (p.book.kept + 1) _ is (looked_quiet snapshot) (ap (λ (n : ℕ). n + 1) (is.kept ∙ ap closing_lines idle))
    (ap (λ (b : Bool). cond (not b) (record { who = who; snapshot = snapshot } ∷ unpinned who (pins_of zeros p.book.lines)) (unpinned who (pins_of zeros p.book.lines))) (same_self who) ∙ ap (unpinned who) (idle_pins p is idle), opened p who (Looked snapshot) mine)

pub looked_all : (p : Plain) (who : Who) → IsPlain p → p.work ≡ work.Idle → who.session ≡ p.session
    → IsPlain (behind_line p who LookedAll p.base p.pages (p.book.kept + 1) (work.Looking (record { who = who; snapshot = None })))
looked_all p who is idle mine =
    quiet p who LookedAll (p.book.kept + 1) _ is looked_all_quiet (ap (λ (n : ℕ). n + 1) (is.kept ∙ ap closing_lines idle))
    (unpinned_own who (world_of p).marks (pins_of zeros p.book.lines) (idle_pins p is idle), opened p who LookedAll mine)

-- a line alone, in nothing that is open
pub refused_alone : (p : Plain) (who : Who) (why : Refusal) → IsPlain p → p.work ≡ work.Idle → IsPlain (behind_line p who (Refused why) p.base p.pages p.book.kept p.work)
refused_alone p who why is idle =
    quiet p who (Refused why) p.book.kept p.work is (refused_quiet why) is.kept
    (subst (WorkFits p.session p.base.page_count (p.book.lines ++ line who (Refused why) ∷ []) (unpinned who (pins_of zeros p.book.lines))) (sym idle) (ap (unpinned who) (idle_pins p is idle)))

-- ---- what ends

pub closed : (p : Plain) (t : Transaction) (why : Ending) → IsPlain p → p.work ≡ work.Open t
    → IsPlain (behind_line p t.who (closing (kept_of t.too_many) why) p.base p.pages (p.book.kept - 1) work.Idle)
closed p t why is open_now =
    let fits = subst (WorkFits p.session p.base.page_count p.book.lines (pins_of zeros p.book.lines)) open_now is.work in
    quiet p t.who (closing (kept_of t.too_many) why) (p.book.kept - 1) work.Idle is (closing_quiet t.too_many why) (ap (λ (n : ℕ). n - 1) (is.kept ∙ ap closing_lines open_now))
    (pins t.too_many why fits.0)
  where
    pins : (too_many : Bool) (why : Ending) → pins_of zeros p.book.lines ≡ [] → pins_behind (world_of p) (pins_of zeros p.book.lines) t.who (closing (kept_of too_many) why) ≡ []
    pins true why none = ap (unpinned t.who) none
    pins false ending.Asked none = none
    pins false (ending.Refused why) none = ap (unpinned t.who) none
    pins false (ending.Failed device count) none = ap (unpinned t.who) none

pub unlooked : (p : Plain) (l : Look) (why : Ending) → IsPlain p → p.work ≡ work.Looking l
    → IsPlain (behind_line p l.who (unlooking why) p.base p.pages (p.book.kept - 1) work.Idle)
unlooked p l why is looking =
    let fits = subst (WorkFits p.session p.base.page_count p.book.lines (pins_of zeros p.book.lines)) looking is.work in
    quiet p l.who (unlooking why) (p.book.kept - 1) work.Idle is (unlooking_quiet why) (ap (λ (n : ℕ). n - 1) (is.kept ∙ ap closing_lines looking))
    (pins why fits.0)
  where
    pins : (why : Ending) → unpinned l.who (pins_of zeros p.book.lines) ≡ [] → pins_behind (world_of p) (pins_of zeros p.book.lines) l.who (unlooking why) ≡ []
    pins ending.Asked none = none
    pins (ending.Refused why) none = none
    pins (ending.Failed device count) none = none

-- the same lines, and another work
pub working : (p : Plain) (w : Work) → IsPlain p → closing_lines w ≡ closing_lines p.work → WorkFits p.session p.base.page_count p.book.lines (pins_of zeros p.book.lines) w → IsPlain (record p { work = w })
working p w is same fits = record {
  base = is.base;
  right = is.right;
  long = is.long;
  book_pages = is.book_pages;
  workers = is.workers;
  kept = is.kept ∙ sym same;
  names = is.names;
  numbered = is.numbered;
  held = is.held;
  goes = is.goes;
  work = fits;
}
