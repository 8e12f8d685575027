-- What drops keep and give.
use Rattle.std.proofs.Common.{◌≡◌, ◌∙◌, ◌⊎◌, ◌+◌, ◌<◌, ◌≤◌, ◌==◌, ◌||◌, ◌++◌, ℕ, zero, suc, Bool, true, false, cond, leb, ltb, List, [], ◌∷◌, refl, sym, ap, subst, inl, inr, arith, append-nil}
use Rattle.std.specs.Prelude.{Option, Some, None, Ok, Err}
use Rattle.std.specs.List.{AllByRecursion}
use Rattle.std.specs.Option.{option_to_list}
use Rattle.std.proofs.lemmas.Bool.{eqb-true, leb-false, le-leb, lt-ltb, le-ltb, ltb-true, ltb-false}
use Rattle.retro_base.specs.declared.refusal.Refusal.{Refusal}
use Rattle.retro_base.specs.declared.refusal.Refusal.TheVariants as refusal
use Rattle.retro_base.specs.declared.who.Who.{Who}
use Rattle.history.specs.declared.entry.Base.{Base}
use Rattle.history.specs.declared.entry.Mark.{Mark as MarkOf}
use Rattle.history.specs.declared.entry.Change.{Change}
use Rattle.history.specs.declared.entry.Change.TheVariants as change
use Rattle.history.specs.declared.journal.Line.{Line}
use Rattle.history.specs.declared.journal.What.TheVariants.{Dropped, Refused}
use Rattle.history.specs.History.{base_after, bases_after}
use Rattle.history.specs.Journal.{change_of}
use Rattle.history.specs.Lines.{first_stop, images_in}
use Rattle.history.specs.Marks as base
use Rattle.history.specs.Right.{IsBase}
use Rattle.history.specs.Sound.{Pin}
use Rattle.history.proofs.BaseStays.{stays_right}
use Rattle.journal_book.specs.Book.{Book, SESSION_LINES, lines_needed, lines_refused}
use Rattle.journal_law.specs.Lawful.{DropRefused, MayDrop, at_drop}
use Rattle.journal_law.specs.Own.{line}
use Rattle.journal_law.specs.Pages.{Pages, page_world, pins_of}
use Rattle.journal_law.specs.Seats as seat
use Rattle.journal_law.specs.World.{Mark, kept, newest, newest_behind, oldest_of}
use Rattle.plain_store.specs.Numbers.{no_snapshot}
use Rattle.plain_store.specs.Page.{IsWithin, page_at}
use Rattle.plain_store.specs.Plain.{AreNumbered, IsPlain, Plain, WorkFits, closing_lines, ground_of, view_of, work_in, world_of, zeros}
use Rattle.plain_store.specs.declared.work.Work.TheVariants as work
use Rattle.plain_store.proofs.Gives.{adds_here, idle_is}
use Rattle.plain_store.proofs.Snapshots.{same_newest, same_oldest}
use Rattle.plain_store.proofs.Stores.{behind_line, follows}

kept_names : (below : ℕ) (marks : List (Mark Pages)) (others : List MarkOf) → seat.names_in (record { current = λ page. []; marks = marks }) ≡ seat.names_of others
    → seat.names_in (record { current = λ page. []; marks = kept below marks }) ≡ seat.names_of (base.kept_marks below others)
kept_names below [] [] e = refl
kept_names below [] (o ∷ others) e = cc
kept_names below (m ∷ marks) [] e = cc
kept_names below (m ∷ marks) (o ∷ others) e =
    let one : (record { number = m.number; label = m.label }) ≡ record { number = o.number; label = o.label } = cc in
    let rest : seat.names_in (record { current = λ page. []; marks = marks }) ≡ seat.names_of others = cc in
    by_test (leb below m.number) (leb below o.number) (ap (λ (n : seat.Name). leb below n.number) one) (kept_names below marks others rest)
  where
    by_test : (a b : Bool) → a ≡ b → seat.names_in (record { current = λ page. []; marks = kept below marks }) ≡ seat.names_of (base.kept_marks below others)
        → seat.names_in (record { current = λ page. []; marks = cond a (m ∷ marks) (kept below marks) }) ≡ seat.names_of (cond b (o ∷ others) (base.kept_marks below others))
    by_test true true same rest = e
    by_test false false same rest = rest
    by_test true false same rest = cc
    by_test false true same rest = cc

kept_same : (below : ℕ) (marks : List (Mark Pages)) → below ≤ oldest_of marks → kept below marks ≡ marks
kept_same below [] le = refl
kept_same below (m ∷ marks) le = ap (λ (b : Bool). cond b (m ∷ marks) (kept below marks)) (le-leb below m.number le)

kept_numbered : (below number : ℕ) (marks : List (Mark Pages)) → AreNumbered number marks → AreNumbered (oldest_of (kept below marks)) (kept below marks)
kept_numbered below number [] are = tt
kept_numbered below number (m ∷ marks) are = by_test (leb below m.number) (kept_numbered below (number + 1) marks are.1)
  where
    by_test : (b : Bool) → AreNumbered (oldest_of (kept below marks)) (kept below marks) → AreNumbered (oldest_of (cond b (m ∷ marks) (kept below marks))) (cond b (m ∷ marks) (kept below marks))
    by_test true rest = (refl, subst (λ (n : ℕ). AreNumbered (n + 1) marks) (sym are.0) are.1)
    by_test false rest = rest

kept_newest : (below top : ℕ) (marks : List (Mark Pages)) → below ≤ newest_behind top marks → newest_behind top (kept below marks) ≡ newest_behind top marks
kept_newest below top [] le = refl
kept_newest below top (m ∷ []) le = by_test (leb below m.number) refl
  where
    by_test : (b : Bool) → leb below m.number ≡ b → newest_behind top (cond b (m ∷ []) []) ≡ m.number
    by_test true e = refl
    by_test false e = absurd (omega (arith, leb-false _ _ e, le))
kept_newest below top (m ∷ next ∷ marks) le = by_test (leb below m.number) (kept_newest below top (next ∷ marks) le)
  where
    by_test : (b : Bool) → newest_behind top (kept below (next ∷ marks)) ≡ newest_behind top (next ∷ marks) → newest_behind top (cond b (m ∷ next ∷ marks) (kept below (next ∷ marks))) ≡ newest_behind next.number marks
    by_test true rest = refl
    by_test false rest = rest

kept_all : (P : Mark Pages → Type 0) (below : ℕ) (marks : List (Mark Pages)) → AllByRecursion P marks → AllByRecursion P (kept below marks)
kept_all P below [] all = tt
kept_all P below (m ∷ marks) all = by_test (leb below m.number) (kept_all P below marks all.1)
  where
    by_test : (b : Bool) → AllByRecursion P (kept below marks) → AllByRecursion P (cond b (m ∷ marks) (kept below marks))
    by_test true rest = all
    by_test false rest = rest

-- a number of a snapshot
pub numbered_from : (number : ℕ) (marks : List MarkOf) → no_snapshot number marks ≡ None → (1 ≤ number) × (number ≤ base.newest marks)
numbered_from number marks e = by_test (number == 0) (ltb (base.newest marks) number) refl refl e
  where
    by_test : (none above : Bool) → (number == 0) ≡ none → ltb (base.newest marks) number ≡ above → cond (none || above) (Some (refusal.NoSuchSnapshot number (base.newest marks))) None ≡ None → (1 ≤ number) × (number ≤ base.newest marks)
    by_test true above f g h = cc
    by_test false true f g h = cc
    by_test false false f g h = (one number f, ltb-false _ _ g)
      where
        one : (n : ℕ) → (n == 0) ≡ false → 1 ≤ n
        one zero e = absurd cc
        one (suc n) e = omega arith

-- and one of none
pub numbered_not : (number : ℕ) (marks : List MarkOf) (why : Refusal) → no_snapshot number marks ≡ Some why → (why ≡ refusal.NoSuchSnapshot number (base.newest marks)) × ((number ≡ 0) ⊎ (base.newest marks < number))
numbered_not number marks why e = by_test (number == 0) (ltb (base.newest marks) number) refl refl e
  where
    by_test : (none above : Bool) → (number == 0) ≡ none → ltb (base.newest marks) number ≡ above → cond (none || above) (Some (refusal.NoSuchSnapshot number (base.newest marks))) None ≡ Some why
        → (why ≡ refusal.NoSuchSnapshot number (base.newest marks)) × ((number ≡ 0) ⊎ (base.newest marks < number))
    by_test true above f g h = (cc, inl (eqb-true number 0 f))
    by_test false true f g h = (cc, inr (ltb-true _ _ g))
    by_test false false f g h = cc

-- a drop that finds no room tells what it needs
pub drop_tells : (p : Plain) (why : Refusal) → IsPlain p → (view_of p).work ≡ seat.Idle → lines_refused p.book 1 ≡ Some why → seat.TellsDropNeed 1 (view_of p) (view_of p) (Err why)
drop_tells p why is idle e = by_test (ltb SESSION_LINES (lines_needed p.book 1)) e
  where
    none_kept : p.book.kept ≡ 0
    none_kept = is.kept ∙ ap closing_lines (idle_is _ _ p.work idle)

    needs : seat.NeedsLines 1 p.book.lines 1 (lines_needed p.book 1) (images_in p.book.lines)
    needs = record { kept = p.book.kept; one_each = omega (arith, none_kept); sum = refl; images_are = refl }

    by_test : (full : Bool) → cond full (Some (refusal.JournalFull (lines_needed p.book 1) (images_in p.book.lines))) None ≡ Some why → seat.TellsDropNeed 1 (view_of p) (view_of p) (Err why)
    by_test true h =
        let same : refusal.JournalFull (lines_needed p.book 1) (images_in p.book.lines) ≡ why = cc in
        subst (λ (w : Refusal). seat.TellsDropNeed 1 (view_of p) (view_of p) (Err w)) same
        ([], [], sym (append-nil (p.book.lines ++ []) ∙ append-nil p.book.lines), subst (λ (ls : List Line). seat.NeedsLines 1 ls 1 (lines_needed p.book 1) (images_in p.book.lines)) (sym (append-nil p.book.lines)) needs)
    by_test false h = cc

idle_pins : (p : Plain) → IsPlain p → p.work ≡ work.Idle → pins_of zeros p.book.lines ≡ []
idle_pins p is idle = subst (WorkFits p.session p.base.page_count p.book.lines (pins_of zeros p.book.lines)) idle is.work

module _ (p : Plain) (who : Who) (below : ℕ) (is : IsPlain p) (idle : (view_of p).work ≡ seat.Idle) (free : no_snapshot below p.base.marks ≡ None) where
  dropped : (new : Base) → new.page_count ≡ p.base.page_count → new.capacity ≡ p.base.capacity → new ≡ bases_after p.base (option_to_list (change_of p.base (Dropped below))) → IsBase new
      → seat.names_in (record { current = λ page. []; marks = kept below (world_of p).marks }) ≡ seat.names_of new.marks → IsPlain (behind_line p who (Dropped below) new p.pages p.book.kept p.work)
  dropped new count capacity change right names =
      let top : below ≤ newest (world_of p) = omega (arith, (numbered_from below p.base.marks free).1, same_newest (world_of p) p.base.marks is.names) in
      follows p who (Dropped below) new p.pages p.book.kept p.work is
      (record {
        same_count = count;
        same_capacity = capacity;
        change = change;
        right = right;
        long = refl;
        keeps = is.kept;
        names = names;
        numbered = kept_numbered below (oldest_of (world_of p).marks) (world_of p).marks is.numbered;
        held = record {
          current = is.held.current;
          marks = kept_all _ below (world_of p).marks is.held.marks;
          within = λ page. subst (λ (n : ℕ). IsWithin n (page_at p.pages page)) (sym (kept_newest below 0 (world_of p).marks top)) (is.held.within page);
        };
        stop = refl;
        work = subst (WorkFits p.session p.base.page_count (p.book.lines ++ line who (Dropped below) ∷ []) (pins_of zeros p.book.lines)) (sym (idle_is _ _ p.work idle)) (idle_pins p is (idle_is _ _ p.work idle));
      })

  pub dropped_some : (book : Book) (new : Base) → base.oldest p.base.marks < below → new ≡ base_after p.base (change.Drop below) → book ≡ record p.book { lines = p.book.lines ++ line who (Dropped below) ∷ [] }
      → IsPlain (record { session = p.session; base = new; book = book; pages = p.pages; work = p.work })
  dropped_some book new lt e b =
      let made : change_of p.base (Dropped below) ≡ Some (change.Drop below) = ap (λ (t : Bool). cond t (Some (change.Drop below)) None) (lt-ltb _ _ lt) in
      subst (λ (k : Book). IsPlain (record { session = p.session; base = new; book = k; pages = p.pages; work = p.work })) (sym b)
      (dropped new (ap (λ (x : Base). x.page_count) e) (ap (λ (x : Base). x.capacity) e) (e ∙ sym (ap (λ (o : Option Change). bases_after p.base (option_to_list o)) made))
      (subst IsBase (sym e) (stays_right p.base (change.Drop below) is.right tt (lt, (numbered_from below p.base.marks free).1)))
      (kept_names below (world_of p).marks p.base.marks is.names ∙ ap (λ (x : Base). seat.names_of x.marks) (sym e)))

  pub dropped_none : (book : Book) → below ≤ base.oldest p.base.marks → book ≡ record p.book { lines = p.book.lines ++ line who (Dropped below) ∷ [] }
      → IsPlain (record { session = p.session; base = p.base; book = book; pages = p.pages; work = p.work })
  dropped_none book le b =
      let made : change_of p.base (Dropped below) ≡ None = ap (λ (t : Bool). cond t (Some (change.Drop below)) None) (le-ltb _ _ le) in
      subst (λ (k : Book). IsPlain (record { session = p.session; base = p.base; book = k; pages = p.pages; work = p.work })) (sym b)
      (dropped p.base refl refl (sym (ap (λ (o : Option Change). bases_after p.base (option_to_list o)) made)) is.right
      (ap (λ (ms : List (Mark Pages)). seat.names_in (record { current = λ page. []; marks = ms })) (kept_same below (world_of p).marks (omega (arith, le, same_oldest (world_of p) p.base.marks is.names))) ∙ is.names))

  pub drop_gives : (q : Plain) → q.session ≡ p.session → ground_of q ≡ ground_of p → q.book.lines ≡ p.book.lines ++ line who (Dropped below) ∷ [] → q.work ≡ p.work → seat.DropGives who below (view_of p) (view_of q) (Ok tt)
  drop_gives q session ground lines same =
      let a = adds_here p q who (Dropped below) seat.Idle session ground lines (ap (work_in q.base.page_count q.book.lines) (same ∙ idle_is _ _ p.work idle)) in
      let at = numbered_from below p.base.marks free in (
        a.0,
        subst (λ (ls : List Line). MayDrop (at_drop zeros (page_world zeros ls) ls) below) (sym a.1)
            (record {
              goes = is.goes;
              numbered = (at.0, omega (arith, at.1, same_newest (world_of p) p.base.marks is.names));
              free = subst (λ (pins : List Pin). AllByRecursion (λ (pin : Pin). below ≤ pin.snapshot) pins) (sym (idle_pins p is (idle_is _ _ p.work idle))) tt;
            }),
      )

pub drop_refused_gives : (p q : Plain) (who : Who) (below : ℕ) (why : Refusal) → IsPlain p → (view_of p).work ≡ seat.Idle → q.session ≡ p.session → ground_of q ≡ ground_of p → q.book.lines ≡ p.book.lines ++ line who (Refused why) ∷ [] → q.work ≡ p.work
    → no_snapshot below p.base.marks ≡ Some why → seat.DropGives who below (view_of p) (view_of q) (Err why)
drop_refused_gives p q who below why is idle session ground lines same refused =
    let not_one = numbered_not below p.base.marks why refused in
    let top = same_newest (world_of p) p.base.marks is.names in
    subst (λ (w : Refusal). seat.DropGives who below (view_of p) (view_of q) (Err w)) (sym not_one.0)
    (there (lines ∙ ap (λ (w : Refusal). p.book.lines ++ line who (Refused w) ∷ []) not_one.0) not_one.1 top)
  where
    there : q.book.lines ≡ p.book.lines ++ line who (Refused (refusal.NoSuchSnapshot below (base.newest p.base.marks))) ∷ [] → (below ≡ 0) ⊎ (base.newest p.base.marks < below) → newest (world_of p) ≡ base.newest p.base.marks
        → seat.DropGives who below (view_of p) (view_of q) (Err (refusal.NoSuchSnapshot below (base.newest p.base.marks)))
    there lines none top =
        let a = adds_here p q who (Refused (refusal.NoSuchSnapshot below (base.newest p.base.marks))) seat.Idle session ground lines (ap (work_in q.base.page_count q.book.lines) (same ∙ idle_is _ _ p.work idle)) in (
          a.0,
          subst (λ (ls : List Line). DropRefused (at_drop zeros (page_world zeros ls) ls) below (refusal.NoSuchSnapshot below (base.newest p.base.marks))) (sym a.1)
              (subst (λ (n : ℕ). DropRefused (record { stop = first_stop p.book.lines; newest = newest (world_of p); pins = pins_of zeros p.book.lines }) below (refusal.NoSuchSnapshot below n)) top
              (inr (inl (is.goes, subst (λ (n : ℕ). (below ≡ 0) ⊎ (n < below)) (sym top) none, refl)))),
        )
