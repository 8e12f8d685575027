-- What commits keep and give.
use Rattle.std.proofs.Common.{◌≡◌, ◌≢◌, ◌∙◌, ◌⊎◌, ◌+◌, ◌-◌, ◌^◌, ◌<◌, ◌≤◌, ◌==◌, ◌||◌, ◌++◌, ℕ, Bool, true, false, List, [], ◌∷◌, length, take, drop, refl, sym, ap, subst, inl, inr, arith}
use Rattle.std.specs.Prelude.{Option, Some, None, Ok, is_some}
use Rattle.std.specs.List.{AllByRecursion}
use Rattle.std.specs.Option.{option_to_list}
use Rattle.std.proofs.lemmas.Bool.Decides.{eqb_tells}
use Rattle.history.specs.declared.entry.Base.{Base}
use Rattle.history.specs.declared.entry.Mark.{Mark as MarkOf}
use Rattle.history.specs.declared.entry.Change.TheVariants.{Commit}
use Rattle.history.specs.declared.journal.Line.{Line}
use Rattle.history.specs.declared.journal.What.TheVariants.{Began, Done}
use Rattle.history.specs.declared.writes.PageImage.{PageImage}
use Rattle.history.specs.History.{declared as logged_marks, base_after, bases_after, written}
use Rattle.history.specs.Journal.{change_of}
use Rattle.history.specs.Lines.{first_stop}
use Rattle.history.specs.Marks as base
use Rattle.history.specs.Right.{DoesSomething, IsBase, IsRight}
use Rattle.history.specs.Writes.{is_among, pages_of, rises}
use Rattle.history.proofs.AsOf.{unwritten}
use Rattle.history.proofs.BaseStays.{stays_right}
use Rattle.history.proofs.PageLists.{written_back}
use Rattle.history.proofs.MarkLaws.{newest-push}
use Rattle.journal_book.specs.Book.{Book}
use Rattle.journal_law.specs.Own.{line}
use Rattle.journal_law.specs.Pages.{Pages, page_world, pins_of}
use Rattle.journal_law.specs.Seats as seat
use Rattle.journal_law.specs.World.{Mark, World, declared, newest, newest_behind, oldest_of}
use Rattle.plain_store.specs.Limits.{MayCommit}
use Rattle.plain_store.specs.Page.{AreCaptured, AreWritten, IsWithin, MayChange, PlainPage, bytes_at, bytes_in, captured, may_change, page_at}
use Rattle.plain_store.specs.Plain.{AreHeld, AreNumbered, IsPlain, Plain, WorkFits, closing_lines, zero_ground, ground_of, view_of, without_last, work_in, world_of, zeros}
use Rattle.plain_store.specs.Work.{number_behind}
use Rattle.plain_store.specs.declared.page.Version.{Version}
use Rattle.plain_store.specs.declared.work.Transaction.{Transaction}
use Rattle.plain_store.specs.declared.work.Work.{Work}
use Rattle.plain_store.specs.declared.work.Work.TheVariants as work
use Rattle.plain_store.proofs.Gives.{adds_here, attempt_is, since_world, written_at}
use Rattle.plain_store.proofs.Snapshots.{same_newest, same_oldest}
use Rattle.plain_store.proofs.Stored.{all_within, captured_same, fixed, now_at}
use Rattle.plain_store.proofs.Stores.{began_quiet, behind_line, follows}

-- ---- captures

same_page : (newest : ℕ) (old new : PlainPage) → (new ≡ old) ⊎ (new ≡ captured newest old) → (new.bytes ≡ old.bytes) × ((snapshot : ℕ) → bytes_at snapshot new.bytes new.past ≡ bytes_at snapshot old.bytes old.past)
same_page newest old new (inl same) = (ap (λ (p : PlainPage). p.bytes) same, λ snapshot. ap (λ (p : PlainPage). bytes_at snapshot p.bytes p.past) same)
same_page newest old new (inr same) = (
  ap (λ (p : PlainPage). p.bytes) same ∙ (captured_same newest 0 old).0,
  λ snapshot. ap (λ (p : PlainPage). bytes_at snapshot p.bytes p.past) same ∙ (captured_same newest snapshot old).1,
)

all_marks : (P Q : Mark Pages → Type 0) (marks : List (Mark Pages)) → ((mark : Mark Pages) → P mark → Q mark) → AllByRecursion P marks → AllByRecursion Q marks
all_marks P Q [] step all = tt
all_marks P Q (mark ∷ marks) step all = (step mark all.0, all_marks P Q marks step all.1)

captured_held : (world : World Pages) (old new : List PlainPage) → AreCaptured (newest world) old new → AreHeld world old → AreHeld world new
captured_held world old new are held = record {
  current = λ page lt. (same_page (newest world) (page_at old page) (page_at new page) (are.each page)).0 ∙ held.current page (omega (arith, lt, are.long));
  marks = all_marks _ _ world.marks (λ mark was page lt. (same_page (newest world) (page_at old page) (page_at new page) (are.each page)).1 mark.number ∙ was page (omega (arith, lt, are.long))) held.marks;
  within = all_within (newest world) old new are held.within;
}

pub within_base : (p : Plain) → IsPlain p → (page : ℕ) → IsWithin (base.newest p.base.marks) (page_at p.pages page)
within_base p is page = subst (λ (n : ℕ). IsWithin n (page_at p.pages page)) (same_newest (world_of p) p.base.marks is.names) (is.held.within page)

pub captured_keeps : (p : Plain) (pages : List PlainPage) → IsPlain p → AreCaptured (base.newest p.base.marks) p.pages pages → IsPlain (record { session = p.session; base = p.base; book = p.book; pages = pages; work = p.work })
captured_keeps p pages is are = record {
  base = is.base;
  right = is.right;
  long = are.long ∙ is.long;
  book_pages = is.book_pages;
  workers = is.workers;
  kept = is.kept;
  names = is.names;
  numbered = is.numbered;
  held = captured_held (world_of p) p.pages pages (subst (λ (n : ℕ). AreCaptured n p.pages pages) (sym (same_newest (world_of p) p.base.marks is.names)) are) is.held;
  goes = is.goes;
  work = is.work;
}

-- ---- a line of a commit

numbers_within : (number top : ℕ) (marks : List (Mark Pages)) → AreNumbered number marks → top < number → AllByRecursion (λ (mark : Mark Pages). (number ≤ mark.number) × (mark.number ≤ newest_behind top marks)) marks
numbers_within number top [] are lt = tt
numbers_within number top (mark ∷ marks) are lt = (
  (omega (arith, are.0), last mark.number number marks are.1 (omega (arith, are.0))),
  all_marks _ _ marks (λ m was. (omega (arith, was.0), was.1)) (numbers_within (number + 1) mark.number marks are.1 (omega (arith, are.0))),
)
  where
    last : (top number : ℕ) (marks : List (Mark Pages)) → AreNumbered (number + 1) marks → top ≤ number → top ≤ newest_behind top marks
    last top number [] are le = omega arith
    last top number (m ∷ marks) are le = omega (arith, are.0, le, last m.number (number + 1) marks are.1 (omega (arith, are.0)))

newest_push : (top : ℕ) (marks : List (Mark Pages)) (mark : Mark Pages) → newest_behind top (marks ++ mark ∷ []) ≡ mark.number
newest_push top [] mark = refl
newest_push top (m ∷ marks) mark = newest_push m.number marks mark

numbered_more : (number top : ℕ) (marks : List (Mark Pages)) (mark : Mark Pages) → AreNumbered number marks → top + 1 ≡ number → mark.number ≡ newest_behind top marks + 1 → AreNumbered number (marks ++ mark ∷ [])
numbered_more number top [] mark are next is = (omega (arith, next, is), tt)
numbered_more number top (m ∷ marks) mark are next is = (are.0, numbered_more (number + 1) m.number marks mark are.1 (omega (arith, are.0)) is)

numbered_push : (marks : List (Mark Pages)) (mark : Mark Pages) → AreNumbered (oldest_of marks) marks → mark.number ≡ newest_behind 0 marks + 1 → AreNumbered (oldest_of (marks ++ mark ∷ [])) (marks ++ mark ∷ [])
numbered_push [] mark are is = (refl, tt)
numbered_push (m ∷ marks) mark are is = (refl, numbered_more (m.number + 1) m.number marks mark are.1 refl is)

names_push : (marks : List (Mark Pages)) (others : List MarkOf) (mark : Mark Pages) (other : MarkOf) → seat.names_in (record { current = λ page. []; marks = marks }) ≡ seat.names_of others → mark.number ≡ other.number → mark.label ≡ other.label
    → seat.names_in (record { current = λ page. []; marks = marks ++ mark ∷ [] }) ≡ seat.names_of (others ++ other ∷ [])
names_push [] [] mark other e number label = ap (λ (n : seat.Name). n ∷ []) (ap (λ (n : ℕ). record { number = n; label = mark.label }) number ∙ ap (λ (l : List ℕ). record { number = other.number; label = l }) label)
names_push [] (o ∷ others) mark other e number label = cc
names_push (m ∷ marks) [] mark other e number label = cc
names_push (m ∷ marks) (o ∷ others) mark other e number label =
    let one : (record { number = m.number; label = m.label }) ≡ record { number = o.number; label = o.label } = cc in
    let rest : seat.names_in (record { current = λ page. []; marks = marks }) ≡ seat.names_of others = cc in
    ap (λ (n : seat.Name). n ∷ seat.names_in (record { current = λ page. []; marks = marks ++ mark ∷ [] })) one
    ∙ ap (λ (ns : List seat.Name). (record { number = o.number; label = o.label }) ∷ ns) (names_push marks others mark other rest number label)

all_push : (P : Mark Pages → Type 0) (marks : List (Mark Pages)) (mark : Mark Pages) → AllByRecursion P marks → P mark → AllByRecursion P (marks ++ mark ∷ [])
all_push P [] mark all one = (one, tt)
all_push P (m ∷ marks) mark all one = (all.0, all_push P marks mark all.1 one)

may_at : (newest page : ℕ) (pages : List PlainPage) (writes : List PageImage) → MayChange newest pages writes → is_among page (pages_of writes) ≡ true → may_change newest (page_at pages page).past ≡ true
may_at newest page pages [] may is = cc
may_at newest page pages (w ∷ writes) may is = by_test (eqb_tells w.page page) is (may_at newest page pages writes may.1)
  where
    by_test : (((w.page == page) ≡ true) × (w.page ≡ page)) ⊎ (((w.page == page) ≡ false) × (w.page ≢ page)) → ((w.page == page) || is_among page (pages_of writes)) ≡ true
        → (is_among page (pages_of writes) ≡ true → may_change newest (page_at pages page).past ≡ true) → may_change newest (page_at pages page).past ≡ true
    by_test (inl e) is rest = subst (λ (n : ℕ). may_change newest (page_at pages n).past ≡ true) e.1 may.0
    by_test (inr e) is rest = rest (sym (ap (λ (b : Bool). b || is_among page (pages_of writes)) e.0) ∙ is)

-- the pages at a snapshot stay, whatever was written behind it
stays_at : (newest snapshot page : ℕ) (writes : List PageImage) (old new : List PlainPage) → MayChange newest old writes → AreWritten writes old new → 1 ≤ snapshot → snapshot ≤ newest
    → bytes_at snapshot (page_at new page).bytes (page_at new page).past ≡ bytes_at snapshot (page_at old page).bytes (page_at old page).past
stays_at newest snapshot page writes old new may are low high = by_test (is_among page (pages_of writes)) refl
  where
    by_test : (there : Bool) → is_among page (pages_of writes) ≡ there → bytes_at snapshot (page_at new page).bytes (page_at new page).past ≡ bytes_at snapshot (page_at old page).bytes (page_at old page).past
    by_test true e = ap (bytes_at snapshot (page_at new page).bytes) (are.past page) ∙ fixed newest snapshot (page_at old page).past (page_at new page).bytes (page_at old page).bytes (may_at newest page old writes may e) low high
    by_test false e =
        ap (bytes_at snapshot (page_at new page).bytes) (are.past page)
        ∙ ap (λ (b : List ℕ). bytes_at snapshot b (page_at old page).past) (are.bytes page ∙ unwritten (bytes_in old) writes page e)

within_later : (number more : ℕ) (past : List Version) → number ≤ more → AllByRecursion (λ (version : Version). version.upto ≤ number) past → AllByRecursion (λ (version : Version). version.upto ≤ more) past
within_later number more [] le all = tt
within_later number more (version ∷ past) le all = (omega (arith, all.0, le), within_later number more past le all.1)

one_or_more : (marks : List (Mark Pages)) → AreNumbered (oldest_of marks) marks → (0 < oldest_of marks) → AllByRecursion (λ (mark : Mark Pages). (1 ≤ mark.number) × (mark.number ≤ newest_behind 0 marks)) marks
one_or_more marks are lt = all_marks _ _ marks (λ m was. (omega (arith, was.0, lt), was.1)) (numbers_within (oldest_of marks) 0 marks are lt)

written_held : (world : World Pages) (label : Option (List ℕ)) (writes : List PageImage) (old new : List PlainPage) → AreNumbered (oldest_of world.marks) world.marks → 0 < oldest_of world.marks → AreHeld world old → MayChange (newest world) old writes
    → AreWritten writes old new → AreHeld (declared label (record { current = written world.current writes; marks = world.marks })) new
written_held world label writes old new numbered lt held may are = by_label label
  where
    now : (page : ℕ) → page < length new → bytes_in new page ≡ written world.current writes page
    now page lt = are.bytes page ∙ written_at writes page (bytes_in old) world.current (held.current page (omega (arith, lt, are.long)))

    past : AllByRecursion (λ (mark : Mark Pages). (page : ℕ) → page < length new → bytes_at mark.number (page_at new page).bytes (page_at new page).past ≡ mark.held page) world.marks
    past = both world.marks (one_or_more world.marks numbered lt) held.marks
      where
        both : (marks : List (Mark Pages)) → AllByRecursion (λ (mark : Mark Pages). (1 ≤ mark.number) × (mark.number ≤ newest world)) marks
            → AllByRecursion (λ (mark : Mark Pages). (page : ℕ) → page < length old → bytes_at mark.number (page_at old page).bytes (page_at old page).past ≡ mark.held page) marks
            → AllByRecursion (λ (mark : Mark Pages). (page : ℕ) → page < length new → bytes_at mark.number (page_at new page).bytes (page_at new page).past ≡ mark.held page) marks
        both [] one two = tt
        both (mark ∷ marks) one two = (λ page lt. stays_at (newest world) mark.number page writes old new may are one.0.0 one.0.1 ∙ two.0 page (omega (arith, lt, are.long)), both marks one.1 two.1)

    within : (page : ℕ) → IsWithin (newest world) (page_at new page)
    within page = subst (AllByRecursion (λ (version : Version). version.upto ≤ newest world)) (sym (are.past page)) (held.within page)

    by_label : (label : Option (List ℕ)) → AreHeld (declared label (record { current = written world.current writes; marks = world.marks })) new
    by_label None = record { current = now; marks = past; within = within }
    by_label (Some label) =
        let mark : Mark Pages = record { number = newest world + 1; label = label; held = written world.current writes } in
        record {
          current = now;
          marks = all_push _ world.marks mark past (λ page lt. now_at (newest world) (newest world + 1) (page_at new page).bytes (page_at new page).past (within page) (omega arith) ∙ now page lt);
          within = λ page.
              subst (λ (n : ℕ). IsWithin n (page_at new page)) (sym (newest_push 0 world.marks mark))
              (within_later (newest world) (newest world + 1) (page_at new page).past (omega arith) (within page));
        }

-- what the log says behind it
record Behind (old new : Base) (label : Option (List ℕ)) : Type 0 where
  count : new.page_count ≡ old.page_count
  capacity : new.capacity ≡ old.capacity
  start : ℕ
  marks : new.marks ≡ logged_marks old.marks start label

behind : (old : Base) (label : Option (List ℕ)) (writes : List PageImage) → Behind old (bases_after old (option_to_list (change_of old (Done label writes)))) label
behind old None [] = record { count = refl; capacity = refl; start = 0; marks = refl }
behind old None (w ∷ writes) = record { count = refl; capacity = refl; start = 0; marks = refl }
behind old (Some label) writes = record { count = refl; capacity = refl; start = (base_after old (Commit (Some label) writes)).captures; marks = refl }

stays_base : (old : Base) (label : Option (List ℕ)) (writes : List PageImage) → IsBase old → rises 0 (pages_of writes) ≡ true → (DoesSomething label writes → IsRight old (Commit label writes)) → IsBase (bases_after old (option_to_list (change_of old (Done label writes))))
stays_base old None [] right rise may = right
stays_base old None (w ∷ writes) right rise may = stays_right old (Commit None (w ∷ writes)) right rise (may tt)
stays_base old (Some label) writes right rise may = stays_right old (Commit (Some label) writes) right rise (may tt)

pub is_right : (p : Plain) (t : Transaction) (label : Option (List ℕ)) → IsPlain p → p.work ≡ work.Open t → MayCommit p.base p.book.lines label t.edits → DoesSomething label t.edits → IsRight p.base (Commit label t.edits)
is_right p t label is open_now may something =
    let fits = subst (WorkFits p.session p.base.page_count p.book.lines (pins_of zeros p.book.lines)) open_now is.work in
    (fits.2, something, may.limits)

oldest_base : (p : Plain) → IsPlain p → 0 < oldest_of (world_of p).marks
oldest_base p is = by_marks p.base.marks is.right.marks (same_oldest (world_of p) p.base.marks is.names)
  where
    by_marks : (marks : List MarkOf) → base.AreMarks p.base.captures marks → oldest_of (world_of p).marks ≡ base.oldest marks → 0 < oldest_of (world_of p).marks
    by_marks [] are e = omega (arith, e)
    by_marks (m ∷ marks) are e = omega (arith, e, are.0)

pub commit_keeps : (p : Plain) (t : Transaction) (label : Option (List ℕ)) (new : Base) (one two : List PlainPage) (kept : ℕ) → IsPlain p → p.work ≡ work.Open t → rises 0 (pages_of t.edits) ≡ true → MayCommit p.base p.book.lines label t.edits
    → AreCaptured (base.newest p.base.marks) p.pages one → MayChange (base.newest p.base.marks) one t.edits → AreWritten t.edits one two → new ≡ bases_after p.base (option_to_list (change_of p.base (Done label t.edits))) → kept ≡ p.book.kept - 1
    → IsPlain (behind_line p t.who (Done label t.edits) new two kept work.Idle)
commit_keeps p t label new one two kept is open_now rise may are changing wrote change keeps =
    let world = world_of p in
    let top = same_newest world p.base.marks is.names in
    let fits = subst (WorkFits p.session p.base.page_count p.book.lines (pins_of zeros p.book.lines)) open_now is.work in
    let logged = subst (λ (b : Base). Behind p.base b label) (sym change) (behind p.base label t.edits) in
    follows p t.who (Done label t.edits) new two kept work.Idle is
    (record {
      same_count = logged.count;
      same_capacity = logged.capacity;
      change = change;
      right = subst IsBase (sym change) (stays_base p.base label t.edits is.right rise (is_right p t label is open_now may));
      long = wrote.long ∙ are.long;
      keeps = keeps ∙ ap (λ (n : ℕ). n - 1) (is.kept ∙ ap closing_lines open_now);
      names = names label logged.start ∙ ap seat.names_of (sym logged.marks);
      numbered = numbered label;
      held = written_held world label t.edits one two is.numbered (oldest_base p is)
          (captured_held world p.pages one (subst (λ (n : ℕ). AreCaptured n p.pages one) (sym top) are) is.held)
          (subst (λ (n : ℕ). MayChange n one t.edits) (sym top) changing) wrote;
      stop = refl;
      work = fits.0;
    })
  where
    names : (label : Option (List ℕ)) (start : ℕ) → seat.names_in (declared label (record { current = written (world_of p).current t.edits; marks = (world_of p).marks })) ≡ seat.names_of (logged_marks p.base.marks start label)
    names None start = is.names
    names (Some label) start = names_push (world_of p).marks p.base.marks _ _ is.names (ap (λ (n : ℕ). n + 1) (same_newest (world_of p) p.base.marks is.names)) refl

    numbered : (label : Option (List ℕ)) → let after : World Pages = declared label (record { current = written (world_of p).current t.edits; marks = (world_of p).marks }) in AreNumbered (oldest_of after.marks) after.marks
    numbered None = is.numbered
    numbered (Some label) = numbered_push (world_of p).marks (record { number = newest (world_of p) + 1; label = label; held = written (world_of p).current t.edits }) is.numbered refl

pub commit_gives : (p q : Plain) (t : Transaction) (label : Option (List ℕ)) (number : Option ℕ) (a : seat.Attempt) → IsPlain p → p.work ≡ work.Open t → q.session ≡ p.session → ground_of q ≡ ground_of p
    → q.book.lines ≡ p.book.lines ++ line t.who (Done label t.edits) ∷ [] → q.work ≡ work.Idle → number ≡ number_behind (base.newest p.base.marks) label → (view_of p).work ≡ seat.Open a → seat.CommitGives label (view_of p) (view_of q) a (Ok number)
commit_gives p q t label number a is open_now session ground lines idle numbered view =
    subst (λ (x : seat.Attempt). seat.CommitGives label (view_of p) (view_of q) x (Ok number)) (attempt_is p t a open_now view) (
      record { adds = added.0; agree = λ page among. ap (λ (ls : List Line). (page_world zeros ls).current page) added.1 ∙ sym (ap (λ (v : World Pages). v.current page) began) },
      numbered ∙ by_label label ∙ ap (λ (ls : List Line). seat.number_of label (page_world zeros ls)) (sym added.1),
      λ stops. absurd (not_stopped (sym (ap (λ (ls : List Line). is_some (first_stop ls)) added.1 ∙ ap is_some is.goes) ∙ stops)),
    )
  where
    added : (x : seat.Adds (view_of p) (view_of q) t.who (Done label t.edits) seat.Idle) × (seat.lines_before (view_of p) (view_of q) x.moves ≡ p.book.lines)
    added = adds_here p q t.who (Done label t.edits) seat.Idle session ground lines (ap (work_in q.base.page_count q.book.lines) idle)

    began : page_world zeros (without_last p.book.lines) ≡ world_of p
    began = since_world p.session p.book.lines t.who Began (subst (WorkFits p.session p.base.page_count p.book.lines (pins_of zeros p.book.lines)) open_now is.work).1 began_quiet

    by_label : (label : Option (List ℕ)) → number_behind (base.newest p.base.marks) label ≡ seat.number_of label (world_of p)
    by_label None = refl
    by_label (Some label) = ap (λ (n : ℕ). Some (n + 1)) (sym (same_newest (world_of p) p.base.marks is.names))

    not_stopped : false ≡ true → ⊥
    not_stopped e = cc

-- ---- as the body has it

same_transaction : (w : Work) (t u : Transaction) → w ≡ work.Open t → w ≡ work.Open u → t ≡ u
same_transaction w t u one two =
    let both : work.Open t ≡ work.Open u = sym one ∙ two in
    cc

pub edits_same : (w : Work) (t u : Transaction) → w ≡ work.Open t → w ≡ work.Open u → t.edits ≡ u.edits
edits_same w t u one two = ap (λ (x : Transaction). x.edits) (same_transaction w t u one two)

pub commit_whole : (p : Plain) (t : Transaction) (label : Option (List ℕ)) (new : Base) (one two raw : List PlainPage) (book : Book) (w : Work) → IsPlain p → p.work ≡ work.Open t → rises 0 (pages_of t.edits) ≡ true → MayCommit p.base p.book.lines label t.edits
    → AreCaptured (base.newest p.base.marks) p.pages one → MayChange (base.newest p.base.marks) one t.edits → AreWritten t.edits one two → new ≡ bases_after p.base (option_to_list (change_of p.base (Done label t.edits)))
    → book ≡ record p.book { lines = p.book.lines ++ line t.who (Done label t.edits) ∷ []; kept = p.book.kept - 1 } → w ≡ work.Idle → raw ≡ two
    → IsPlain (record { session = p.session; base = new; book = book; pages = raw; work = w })
commit_whole p t label new one two raw book w is open_now rise may are changing wrote change b idle pages =
    subst (λ (k : Book). IsPlain (record { session = p.session; base = new; book = k; pages = raw; work = w })) (sym b)
    (subst (λ (v : Work). IsPlain (behind_line p t.who (Done label t.edits) new raw (p.book.kept - 1) v)) (sym idle)
    (subst (λ (ps : List PlainPage). IsPlain (behind_line p t.who (Done label t.edits) new ps (p.book.kept - 1) work.Idle)) (sym pages)
    (commit_keeps p t label new one two (p.book.kept - 1) is open_now rise may are changing wrote change refl)))

pub change_ground : (p : Plain) (t : Transaction) (label : Option (List ℕ)) (new : Base) → new ≡ bases_after p.base (option_to_list (change_of p.base (Done label t.edits))) → (book : Book) (pages : List PlainPage) (w : Work)
    → ground_of (record { session = p.session; base = new; book = book; pages = pages; work = w }) ≡ ground_of p
change_ground p t label new change book pages w =
    let logged = subst (λ (b : Base). Behind p.base b label) (sym change) (behind p.base label t.edits) in
    ap (λ (n : ℕ). zero_ground n new.capacity) logged.count ∙ ap (zero_ground p.base.page_count) logged.capacity

pub number_free : (p : Plain) (label : Option (List ℕ)) (writes : List PageImage) → MayCommit p.base p.book.lines label writes → is_some label ≡ true → base.newest p.base.marks < 2 ^ 32 - 1
number_free p None writes may some = cc
number_free p (Some label) writes may some =
    omega (arith, may.limits.newest, newest-push p.base.marks (record { number = base.newest p.base.marks + 1; label = label; start = (base_after p.base (Commit (Some label) writes)).captures }))

pub edits_in_book : (p : Plain) (t : Transaction) → IsPlain p → p.work ≡ work.Open t → AllByRecursion (λ (w : PageImage). w.page < p.book.pages) t.edits
edits_in_book p t is open_now =
    let fits = subst (WorkFits p.session p.base.page_count p.book.lines (pins_of zeros p.book.lines)) open_now is.work in
    subst (λ (n : ℕ). AllByRecursion (λ (w : PageImage). w.page < n) t.edits) (sym is.book_pages) fits.2

pub edits_in_pages : (p : Plain) (t : Transaction) (pages : List PlainPage) → IsPlain p → p.work ≡ work.Open t → length pages ≡ length p.pages → AllByRecursion (λ (w : PageImage). w.page < length pages) t.edits
edits_in_pages p t pages is open_now long =
    let fits = subst (WorkFits p.session p.base.page_count p.book.lines (pins_of zeros p.book.lines)) open_now is.work in
    subst (λ (n : ℕ). AllByRecursion (λ (w : PageImage). w.page < n) t.edits) (sym (long ∙ is.long)) fits.2

-- pages that were captured and then written, as the vector holds them
pub two_back : (items one two : List PlainPage) (len : ℕ) → len ≡ length items → length one ≡ length items → length two ≡ length one → take len (two ++ drop (length two) (take len (one ++ drop (length one) items))) ≡ two
two_back items one two len whole first second =
    let back = written_back items one len first whole in
    ap (λ (ps : List PlainPage). take len (two ++ drop (length two) ps)) back ∙ written_back one two len second (whole ∙ sym first)
