-- A row is added to a table of a well-formed store.
use Rattle.std.proofs.Common.{◌≡◌, ◌≢◌, ◌<◌, ◌≤◌, ◌+◌, ◌-◌, ◌^◌, ◌++◌, ◌∙◌, ◌⊎◌, ℕ, zero, suc, Bool, true, false, eqb, List, [], ◌∷◌, length, get_or, Result, Ok, Err, inl, inr, refl, sym, ap, arith, subst, eq-eqb, ne_eqb}
use Rattle.std.specs.List.{Contains, list_any}
use Rattle.std.proofs.lemmas.Bool.Decides.{eqb_tells}
use Rattle.std.proofs.lemmas.List.Sorted.{IsPermutation-append_left, IsNonDecreasingBy-push}
use Rattle.retro_base.specs.declared.refusal.Refusal.{Refusal}
use Rattle.retro_base.specs.declared.refusal.Refusal.TheVariants.{PagesFull}
use Rattle.values.specs.declared.value.Value.{Value}
use Rattle.pager.specs.Pages.{Pages, with_bytes}
use Rattle.pager.specs.Root.{taken}
use Rattle.pager.specs.Allows.{◌>>=◌, only, either}
use Rattle.heap_file.specs.declared.page.Entry.{Entry}
use Rattle.heap_file.specs.declared.page.HeapPage.{HeapPage}
use Rattle.heap_file.specs.declared.chain.Link.{Link}
use Rattle.heap_file.specs.declared.chain.Placed.{Placed}
use Rattle.heap_file.specs.Chain.{heap_page, InOrder, IsAt, last_page, rows_of}
use Rattle.heap_file.specs.HeapPage.{IsEntry, page_bytes}
use Rattle.heap_file.specs.Work.{added, appended, lengthened, page_with}
use Rattle.heap_laws.specs.Laws.{AddLaw, DoesOrIsFull}
use Rattle.heap_laws.specs.Store.{Chain, IsSized, WellFormed, end_of, pages_held, pages_of, times, times_numbered}
use Rattle.heap_laws.specs.Table.{AddsRow, AddIsFull, AllStay, EditsExactly, EndsAt, has_room, IsAdded, IsStorable, IsTable, Table, TakesPage, TakesNone, with_row}
use Rattle.heap_laws.proofs.Appending.{Appended, end_link, first-there, head-sized, next-sized, number-sized, put-last, put-new, rehead, storable-entry, update-head}
use Rattle.heap_laws.proofs.Counts.{keyed-cons, one_if}
use Rattle.heap_laws.proofs.Editing.{edits-as, edits-none, edits-write, finish, finish-on, Finished, free-same, twice}
use Rattle.heap_laws.proofs.Reading.{ok-err, Reads, reads, rows-read}
use Rattle.heap_laws.proofs.Roots.{rooted-edits, rooted-same, take-answer, Taken}
use Rattle.heap_laws.proofs.Routes.{around, at-one, at-same, at-written, first_link, IsRoute, last_link, link_of, pages_on, times-append, times-here, times-links, written-other}
use Rattle.heap_laws.proofs.Rows.{keyed-at, numbered-append, numbered-permutation}
use Rattle.heap_laws.proofs.Stores.{times-chains}

-- where an entry is put, and on which pages
abbrev pub IsPut : Bool → ℕ → Pages → Pages → ℕ → ℕ → ℕ → Type 0
IsPut true size pages after first last page = (page ≡ last) × TakesNone size pages after × EditsExactly pages after (last ∷ [])
IsPut false size pages after first last page = TakesPage size pages after page × EditsExactly pages after (first ∷ last ∷ page ∷ 0 ∷ [])

-- an entry was put at the end of a table, perhaps on a page that was taken
pub record Put (size : ℕ) (pages : Pages) (firsts indexes : List ℕ) (first : ℕ) (entry : Entry) (page : ℕ) (after : Pages) : Type 0 where
  pub base : Pages
  pub extra : List ℕ
  pub well : WellFormed size base firsts (extra ++ indexes)
  pub stay : AllStay size pages base firsts
  pub read : Reads size base firsts (extra ++ indexes) first well
  pub put : Appended size base after first read.one.chain.links read.one.lawful.head extra page entry
  pub last : ℕ
  pub tail : HeapPage
  pub ends : EndsAt size pages first last tail
  pub effect : IsPut (has_room tail entry) size pages after first last page

-- no answer but a refusal for want of pages
abbrev pub PutAnswer : ℕ → Pages → List ℕ → List ℕ → ℕ → Entry → Result (ℕ × Pages) Refusal → Type 0
PutAnswer size pages firsts indexes first entry (Ok next) = Put size pages firsts indexes first entry next.0 next.1
PutAnswer size pages firsts indexes first entry (Err why) = (why ≡ PagesFull size) × AddIsFull size pages first entry

-- the page that is there is not broken
pub not-broken : (size : ℕ) (pages : Pages) (page : ℕ) (held : HeapPage) (why : Refusal) → IsAt size pages page held → heap_page size pages page (Err why) → ⊥
not-broken size pages page held why at refused = refused.1 held at

-- the last page has room
put-here : (size : ℕ) (pages : Pages) (firsts indexes : List ℕ) (first : ℕ) (entry : Entry) (well : WellFormed size pages firsts indexes) → Contains firsts first → IsEntry entry
    → (head tail : HeapPage) → IsAt size pages first head → IsAt size pages (last_page first head) tail → has_room tail entry ≡ true
    → Put size pages firsts indexes first entry (last_page first head) (with_bytes pages (last_page first head) (page_bytes (record tail { entries = tail.entries ++ entry ∷ [] })))
put-here size pages firsts indexes first entry well has is head tail at at_last room =
    let read = reads size pages firsts indexes first well has in
    let lawful = read.one.lawful in
    let last = last_page first head in
    let bytes = page_bytes (record tail { entries = tail.entries ++ entry ∷ [] }) in
    let same : lawful.head ≡ head = at-one size size pages first lawful.head head read.head_at at in
    let named : last_page first lawful.head ≡ last = ap (last_page first) same in
    let ends : end_of first read.one.chain.links ≡ last = sym (subst (λ (f : ℕ). last_page f lawful.head ≡ end_of f read.one.chain.links) read.one.named lawful.names_last) ∙ named in
    record {
      base = pages;
      extra = [];
      well = well;
      stay = λ other there table shows. shows;
      read = read;
      put = put-last size pages first last read.one.chain.links lawful.head tail entry read.route read.head_at at_last named ends is room;
      last = last;
      tail = tail;
      ends = record { head = head; at_first = at; named = refl; at_last = at_last };
      effect = rw room (refl, free-same size pages (with_bytes pages last bytes) (written-other pages last 0 bytes (λ e. absurd (omega (arith, e, at_last.named)))), edits-write pages pages [] last bytes (edits-none pages));
    }

-- a page that was taken is in no chain
chain-apart : (size : ℕ) (pages : Pages) (firsts indexes : List ℕ) (first page : ℕ) (base : Pages) (taken : Taken size pages firsts indexes page base) (read : Reads size base firsts (page ∷ indexes) first taken.well) → times page (pages_on read.one.chain.links) ≡ 0
chain-apart size pages firsts indexes first page base taken read =
    let one = read.one in
    omega (arith, taken.well.once page, ap (λ (cs : List Chain). times page (pages_held cs (page ∷ indexes) taken.well.free)) one.is, times-chains page pages_of one.before one.chain one.behind (page ∷ indexes) taken.well.free, times-here page indexes)

-- the last page has no room, and a page was taken
put-there : (size : ℕ) (pages : Pages) (firsts indexes : List ℕ) (first : ℕ) (entry : Entry) (page : ℕ) (base : Pages) → Contains firsts first → IsEntry entry → Taken size pages firsts indexes page base
    → (head tail found : HeapPage) → IsAt size pages first head → IsAt size pages (last_page first head) tail → has_room tail entry ≡ false
    → IsAt size (with_bytes (with_bytes base page (page_bytes (page_with entry))) (last_page first head) (page_bytes (record tail { next = page }))) first found
    → Put size pages firsts indexes first entry page (with_bytes (with_bytes (with_bytes base page (page_bytes (page_with entry))) (last_page first head) (page_bytes (record tail { next = page }))) first (page_bytes (record found { last = page })))
put-there size pages firsts indexes first entry page base has is taken head tail found at at_last room found_at =
    let well = taken.well in
    let read = reads size base firsts (page ∷ indexes) first well has in
    let lawful = read.one.lawful in
    let last = last_page first head in
    let off : (p : ℕ) → 0 < p → base.at p ≡ pages.at p = λ p some. ap (λ (q : Pages). q.at p) taken.after_is ∙ rooted-same pages taken.root p (λ e. absurd (omega (arith, e, some))) in
    let at_base = at-same size pages base first head (off first at.named) at in
    let last_base = at-same size pages base last tail (off last at_last.named) at_last in
    let same : lawful.head ≡ head = at-one size size base first lawful.head head read.head_at at_base in
    let named : last_page first lawful.head ≡ last = ap (last_page first) same in
    let ends : end_of first read.one.chain.links ≡ last = sym (subst (λ (f : ℕ). last_page f lawful.head ≡ end_of f read.one.chain.links) read.one.named lawful.names_last) ∙ named in
    let one = with_bytes base page (page_bytes (page_with entry)) in
    let two = with_bytes one last (page_bytes (record tail { next = page })) in
    let three = with_bytes two first (page_bytes (record found { last = page })) in
    let zero_same : three.at 0 ≡ base.at 0 =
    written-other two first 0 _ (λ e. absurd (omega (arith, e, at.named))) ∙ written-other one last 0 _ (λ e. absurd (omega (arith, e, at_last.named))) ∙ written-other base page 0 _ (λ e. absurd (omega (arith, e, taken.behind))) in
    record {
      base = base;
      extra = page ∷ [];
      well = well;
      stay = taken.stay;
      read = read;
      put = put-new size base first last page read.one.chain.links lawful.head tail entry well.small read.route read.head_at last_base ends is (omega (arith, taken.behind)) taken.there (chain-apart size pages firsts indexes first page base taken read) found found_at;
      last = last;
      tail = tail;
      ends = record { head = head; at_first = at; named = refl; at_last = at_last };
      effect = rw room (
        record { next = taken.takes.next; one_less = ap (λ (k : ℕ). 1 + k) (free-same size base three zero_same) ∙ taken.takes.one_less },
        edits-write pages two (last ∷ page ∷ 0 ∷ []) first _ (edits-write pages one (page ∷ 0 ∷ []) last _ (edits-write pages base (0 ∷ []) page _ (subst (λ (q : Pages). EditsExactly pages q (0 ∷ [])) (sym taken.after_is) (rooted-edits pages taken.root)))),
      );
    }

-- the last page of a chain can be written, and names none
pub tail-facts : (size : ℕ) (pages : Pages) (firsts indexes : List ℕ) (first : ℕ) → WellFormed size pages firsts indexes → Contains firsts first → (head tail : HeapPage) → IsAt size pages first head → IsAt size pages (last_page first head) tail → IsSized tail × (tail.next ≡ 0)
tail-facts size pages firsts indexes first well has head tail at at_last =
    let read = reads size pages firsts indexes first well has in
    let lawful = read.one.lawful in
    let same : lawful.head ≡ head = at-one size size pages first lawful.head head read.head_at at in
    let ends : end_of first read.one.chain.links ≡ last_page first head = sym (subst (λ (f : ℕ). last_page f lawful.head ≡ end_of f read.one.chain.links) read.one.named lawful.names_last) ∙ ap (last_page first) same in
    let split = end_link size pages first (last_page first head) read.one.chain.links lawful.head tail read.route read.head_at at_last ends in
    let here = around size pages first split.0 (link_of (last_page first head) tail) [] (subst (IsRoute size pages first) split.1 read.route) in
    (here.sized_here, here.rest)

-- the first page is there when a page was taken and linked
linked-head : (size : ℕ) (pages : Pages) (firsts indexes : List ℕ) (first : ℕ) (entry : Entry) (page : ℕ) (base : Pages) → WellFormed size pages firsts indexes → Contains firsts first → Taken size pages firsts indexes page base
    → (head tail : HeapPage) → IsAt size pages first head → IsAt size pages (last_page first head) tail
    → (found : HeapPage) × IsAt size (with_bytes (with_bytes base page (page_bytes (page_with entry))) (last_page first head) (page_bytes (record tail { next = page }))) first found
linked-head size pages firsts indexes first entry page base well has taken head tail at at_last =
    let read = reads size base firsts (page ∷ indexes) first taken.well has in
    let last = last_page first head in
    let off : (p : ℕ) → 0 < p → base.at p ≡ pages.at p = λ p some. ap (λ (q : Pages). q.at p) taken.after_is ∙ rooted-same pages taken.root p (λ e. absurd (omega (arith, e, some))) in
    let at_base = at-same size pages base first head (off first at.named) at in
    let last_base = at-same size pages base last tail (off last at_last.named) at_last in
    let same : read.one.lawful.head ≡ head = at-one size size base first read.one.lawful.head head read.head_at at_base in
    let ends : end_of first read.one.chain.links ≡ last = sym (subst (λ (f : ℕ). last_page f read.one.lawful.head ≡ end_of f read.one.chain.links) read.one.named read.one.lawful.names_last) ∙ ap (last_page first) same in
    let split = end_link size base first last read.one.chain.links read.one.lawful.head tail read.route read.head_at last_base ends in
    let none = chain-apart size pages firsts indexes first page base taken read in
    let there = first-there size base first read.one.chain.links read.one.lawful.head read.route.leads read.head_at in
    let last_there : 0 < times last (pages_on read.one.chain.links) = omega (arith, ap (λ (l : List Link). times last (pages_on l)) split.1, times-links last split.0 (link_of last tail) [], ap one_if (eq-eqb last last refl)) in
    let one = with_bytes base page (page_bytes (page_with entry)) in
    let away : (p : ℕ) → 0 < times p (pages_on read.one.chain.links) → one.at p ≡ base.at p = λ p some. written-other base page p (page_bytes (page_with entry)) (λ e. absurd (omega (arith, subst (λ (q : ℕ). 0 < times q (pages_on read.one.chain.links)) e some, none))) in
    let sized = next-sized tail page (tail-facts size pages firsts indexes first well has head tail at at_last).0 (omega (arith, taken.there, well.small)) in
    let now = update-head size one first head last tail (record tail { next = page }) (at-same size base one first head (away first there) at_base) (at-same size base one last tail (away last last_there) last_base) sized refl refl in
    (now.0, now.1)

-- the last page of a chain is there
pub tail-there : (size : ℕ) (pages : Pages) (firsts indexes : List ℕ) (first : ℕ) → WellFormed size pages firsts indexes → Contains firsts first → (head : HeapPage) → IsAt size pages first head → (tail : HeapPage) × IsAt size pages (last_page first head) tail
tail-there size pages firsts indexes first well has head at =
    let read = reads size pages firsts indexes first well has in
    let lawful = read.one.lawful in
    let same : lawful.head ≡ head = at-one size size pages first lawful.head head read.head_at at in
    let ends : end_of first read.one.chain.links ≡ last_page first head = sym (subst (λ (f : ℕ). last_page f lawful.head ≡ end_of f read.one.chain.links) read.one.named lawful.names_last) ∙ ap (last_page first) same in
    let front = first_link size pages first read.one.chain.links lawful.head read.route.leads read.head_at in
    let split = last_link first (link_of first lawful.head) front.0 in
    let here = around size pages first split.0 split.1 [] (subst (IsRoute size pages first) (front.1 ∙ split.2) read.route) in
    let page : split.1.page ≡ last_page first head = sym (ap (end_of first) front.1 ∙ split.3) ∙ ends in
    (split.1.held, subst (λ (p : ℕ). IsAt size pages p split.1.held) page here.here)

pub put-answer : (size : ℕ) (pages : Pages) (firsts indexes : List ℕ) (first : ℕ) (entry : Entry) (answer : Result (ℕ × Pages) Refusal) → WellFormed size pages firsts indexes → Contains firsts first → IsEntry entry
    → appended size pages first entry answer → PutAnswer size pages firsts indexes first entry answer
put-answer size pages firsts indexes first entry (Ok y) well has is (head, at, (tail, at_last, work)) =
    room (has_room tail entry) refl (rw (eq-eqb 0 tail.next (sym (tail-facts size pages firsts indexes first well has head tail at at_last).1)) at work)
  where
    room : (b : Bool) → has_room tail entry ≡ b → either b (only (Ok (last_page first head, with_bytes pages (last_page first head) (page_bytes (record tail { entries = tail.entries ++ entry ∷ [] }))))) (lengthened size pages first (last_page first head) tail entry) (Ok y) → PutAnswer size pages firsts indexes first entry (Ok y)
    room true e h = subst (PutAnswer size pages firsts indexes first entry) h (put-here size pages firsts indexes first entry well has is head tail at at_last e)
    room false e (next, take, (found, found_at, h)) =
        subst (PutAnswer size pages firsts indexes first entry) h
        (put-there size pages firsts indexes first entry next.0 next.1 has is (take-answer size pages firsts indexes (Ok next) well take) head tail found at at_last e found_at)
put-answer size pages firsts indexes first entry (Err why) well has is (inl refused) =
    let read = reads size pages firsts indexes first well has in
    absurd (not-broken size pages first read.one.lawful.head why read.head_at refused)
put-answer size pages firsts indexes first entry (Err why) well has is (inr (head, at, inl refused)) =
    let tail = tail-there size pages firsts indexes first well has head at in
    absurd (not-broken size pages (last_page first head) tail.0 why tail.1 refused)
put-answer size pages firsts indexes first entry (Err why) well has is (inr (head, at, inr (tail, at_last, work))) =
    room (has_room tail entry) refl (rw (eq-eqb 0 tail.next (sym (tail-facts size pages firsts indexes first well has head tail at at_last).1)) at work)
  where
    long : has_room tail entry ≡ false → lengthened size pages first (last_page first head) tail entry (Err why) → PutAnswer size pages firsts indexes first entry (Err why)
    long e (inl take) =
        let full = take-answer size pages firsts indexes (Err why) well take in
        (full.0, record { last = last_page first head; tail = tail; ends = record { head = head; at_first = at; named = refl; at_last = at_last }; room = e; none = full.1 })
    long e (inr (next, take, inl refused)) =
        let found = linked-head size pages firsts indexes first entry next.0 next.1 well has (take-answer size pages firsts indexes (Ok next) well take) head tail at at_last in
        absurd (not-broken size _ first found.0 why found.1 refused)
    long e (inr (next, take, inr (found, found_at, h))) = ok-err h

    room : (b : Bool) → has_room tail entry ≡ b → either b (only (Ok (last_page first head, with_bytes pages (last_page first head) (page_bytes (record tail { entries = tail.entries ++ entry ∷ [] }))))) (lengthened size pages first (last_page first head) tail entry) (Err why) → PutAnswer size pages firsts indexes first entry (Err why)
    room true e h = ok-err h
    room false e h = long e h

-- rows in rising number, and one more above them
pub order-push : (rows sorted : List Placed) (placed : Placed) → InOrder rows sorted → ((number : ℕ) → 0 < times_numbered number sorted → number < placed.number) → InOrder (rows ++ placed ∷ []) (sorted ++ placed ∷ [])
order-push rows sorted placed order below = (
  IsPermutation-append_left (placed ∷ []) rows sorted order.0,
  IsNonDecreasingBy-push (λ (p : Placed). p.number) sorted placed order.1
      (λ d some. omega (arith, below (get_or sorted (length sorted - 1) d).number (keyed-at (λ (p : Placed). p.number) sorted (length sorted - 1) d (omega (arith, some))))),
)

-- how often a number stands among rows and one more
pub numbered-push : (number : ℕ) (rows : List Placed) (placed : Placed) → times_numbered number (rows ++ placed ∷ []) ≡ times_numbered number rows + one_if (eqb placed.number number)
numbered-push number rows placed =
    omega (arith, numbered-append number rows (placed ∷ []), keyed-cons (λ (p : Placed). p.number) number placed [])

-- the first page counts one row more
count-row : (size : ℕ) (pages : Pages) (firsts indexes : List ℕ) (first : ℕ) (table : Table) (row : List Value) (page : ℕ) (after : Pages) (found : HeapPage) → Contains firsts first → IsTable size pages first table → table.next_number < 2 ^ 64 - 1
    → (put : Put size pages firsts indexes first (record { number = table.next_number; row = row }) page after) → IsAt size after first found
    → Finished size pages (with_bytes after first (page_bytes (record found { next_number = table.next_number + 1 }))) firsts indexes first (with_row table page row)
count-row size pages firsts indexes first table row page after found has shows small put found_at =
    let placed : Placed = record { number = table.next_number; page = page; row = row } in
    let done = put.put in
    let read = put.read in
    let lawful = read.one.lawful in
    let links = read.one.chain.links in
    let rows = rows-read size put.base first table links lawful.head (put.stay first has table shows) read.route.leads read.head_at in
    let counted : HeapPage = record found { next_number = table.next_number + 1 } in
    let same : found ≡ done.head_now = at-one size size after first found done.head_now found_at done.at_first in
    let sized = number-sized found (table.next_number + 1) (head-sized size after first done.now found done.route found_at) (omega (arith, small)) in
    let again = rehead size after first done.now found counted done.route found_at refl refl sized in
    let all : rows_of again.now ≡ rows_of links ++ placed ∷ [] = again.rows_same ∙ done.rows in
    let before : (number : ℕ) → (times_numbered number (rows_of links) ≤ 1) × (0 < times_numbered number (rows_of links) → number < table.next_number) =
    λ number. (lawful.differ number, λ some. omega (arith, lawful.below number some, rows.next_number)) in
    let count : (number : ℕ) → times_numbered number (rows_of again.now) ≡ times_numbered number (rows_of links) + one_if (eqb table.next_number number) = λ number. ap (times_numbered number) all ∙ numbered-push number (rows_of links) placed in
    finish-on size pages put.base (with_bytes after first (page_bytes counted)) firsts indexes first (with_row table page row) put.stay
    (finish size put.base (with_bytes after first (page_bytes counted)) firsts (put.extra ++ indexes) indexes first (with_row table page row) put.well read has (record {
      now = again.now;
      route = again.route;
      head = counted;
      at_first = at-written size after first counted found_at.named found_at.there sized;
      names_last = ap (λ (h : HeapPage). last_page first h) same ∙ done.names_last ∙ sym again.end_same;
      differ = λ number. once number (times_numbered number (rows_of links)) (before number) (eqb_tells table.next_number number) (count number);
      below = λ number some. under number (times_numbered number (rows_of links)) (before number) (eqb_tells table.next_number number) (count number) some;
      counts = λ p. omega (arith, ap (times p) again.pages_same, done.counts p, times-append p put.extra indexes);
      same = λ p off. written-other after first p (page_bytes counted) (λ e. absurd (omega (arith, subst (λ (q : ℕ). times q (pages_on links) + times q (put.extra ++ indexes) ≡ 0) e off, first-there size put.base first links lawful.head read.route.leads read.head_at)))
          ∙ done.same p (omega (arith, off, times-append p put.extra indexes));
      next_number = refl;
      order = subst (λ (r : List Placed). InOrder r (table.rows ++ placed ∷ [])) (sym all)
          (order-push (rows_of links) table.rows placed (rows.permutation, rows.sorted) (λ number some. (before number).1 (omega (arith, some, numbered-permutation number (rows_of links) table.rows rows.permutation))));
    }))
  where
    once : (number rows : ℕ) → (rows ≤ 1) × (0 < rows → number < table.next_number) → ((eqb table.next_number number ≡ true) × (table.next_number ≡ number)) ⊎ ((eqb table.next_number number ≡ false) × (table.next_number ≢ number))
        → {all : ℕ} → all ≡ rows + one_if (eqb table.next_number number) → all ≤ 1
    once number zero before (inl here) e = omega (arith, e, ap one_if here.0)
    once number (suc k) before (inl here) e = absurd (omega (arith, before.1 (omega arith), here.1))
    once number k before (inr away) e = omega (arith, e, before.0, ap one_if away.0)

    under : (number rows : ℕ) → (rows ≤ 1) × (0 < rows → number < table.next_number) → ((eqb table.next_number number ≡ true) × (table.next_number ≡ number)) ⊎ ((eqb table.next_number number ≡ false) × (table.next_number ≢ number))
        → {all : ℕ} → all ≡ rows + one_if (eqb table.next_number number) → 0 < all → number < table.next_number + 1
    under number k before (inl here) e some = omega (arith, here.1)
    under number k before (inr away) e some = omega (arith, before.1 (omega (arith, e, some, ap one_if away.0)))

-- the pages that are edited with the count
count-edits : (size : ℕ) (pages after : Pages) (first last page : ℕ) (bytes : List ℕ) (room : Bool) → 0 < first → IsPut room size pages after first last page → IsAdded room size pages (with_bytes after first bytes) first last page
count-edits size pages after first last page bytes true some (is, none, edits) =
    (is, free-same size after (with_bytes after first bytes) (written-other after first 0 bytes (λ e. absurd (omega (arith, e, some)))) ∙ none, edits-write pages after (last ∷ []) first bytes edits)
count-edits size pages after first last page bytes false some (takes, edits) =
    let same = free-same size after (with_bytes after first bytes) (written-other after first 0 bytes (λ e. absurd (omega (arith, e, some)))) in (
      record { next = takes.next; one_less = ap (λ (k : ℕ). 1 + k) same ∙ takes.one_less },
      edits-as pages (with_bytes after first bytes) (first ∷ first ∷ last ∷ page ∷ 0 ∷ []) (first ∷ last ∷ page ∷ 0 ∷ [])
          (λ p. twice (eqb p first) (list_any (λ other. eqb p other) (last ∷ page ∷ 0 ∷ []))) (edits-write pages after (first ∷ last ∷ page ∷ 0 ∷ []) first bytes edits),
    )

-- the first page counts the row that was put
abbrev counted_on : ℕ → ℕ → ℕ → ℕ × Pages → Result ((ℕ × ℕ) × Pages) Refusal → Type 0
counted_on size first number placed = do
  after ← heap_page size placed.1 first
  only (Ok ((number, placed.0), with_bytes placed.1 first (page_bytes (record after { next_number = number + 1 }))))

-- a row that is added to a table
pub adds-row : (size : ℕ) (pages : Pages) (firsts indexes : List ℕ) (first : ℕ) (table : Table) (row : List Value) (answer : Result ((ℕ × ℕ) × Pages) Refusal)
    → WellFormed size pages firsts indexes → Contains firsts first → IsTable size pages first table → IsStorable row → table.next_number < 2 ^ 64 - 1 → added size pages first row answer
    → DoesOrIsFull size (λ placed after. AddsRow size pages firsts indexes first table row placed after) (AddIsFull size pages first (record { number = table.next_number; row = row })) answer
adds-row size pages firsts indexes first table row answer well has shows storable small work = go answer work
  where
    is : IsEntry (record { number = table.next_number; row = row })
    is = storable-entry table.next_number row (omega (arith, small)) storable

    number_of : (head : HeapPage) → IsAt size pages first head → head.next_number ≡ table.next_number
    number_of head at =
        let read = reads size pages firsts indexes first well has in
        (rows-read size pages first table read.one.chain.links head shows read.route.leads at).next_number

    not_last : eqb table.next_number (2 ^ 64 - 1) ≡ false
    not_last = ne_eqb table.next_number (2 ^ 64 - 1) (λ e. absurd (omega (arith, small, e)))

    adds : (page : ℕ) (after : Pages) (found : HeapPage) → appended size pages first (record { number = table.next_number; row = row }) (Ok (page, after)) → IsAt size after first found
        → AddsRow size pages firsts indexes first table row (table.next_number, page) (with_bytes after first (page_bytes (record found { next_number = table.next_number + 1 })))
    adds page after found work found_at =
        let put = put-answer size pages firsts indexes first (record { number = table.next_number; row = row }) (Ok (page, after)) well has is work in
        let done = count-row size pages firsts indexes first table row page after found has shows small put found_at in
        record {
          number = refl;
          shows = done.shows;
          others = done.others;
          well = done.well;
          last = put.last;
          tail = put.tail;
          ends = put.ends;
          effect = count-edits size pages after first put.last page (page_bytes (record found { next_number = table.next_number + 1 })) (has_room put.tail (record { number = table.next_number; row = row })) found_at.named put.effect;
        }

    go : (answer : Result ((ℕ × ℕ) × Pages) Refusal) → added size pages first row answer → DoesOrIsFull size (λ placed after. AddsRow size pages firsts indexes first table row placed after) (AddIsFull size pages first (record { number = table.next_number; row = row })) answer
    go (Ok y) (head, at, work) =
        let next = rw (number_of head at, not_last) at work in
        subst (λ (a : Result ((ℕ × ℕ) × Pages) Refusal). DoesOrIsFull size (λ placed after. AddsRow size pages firsts indexes first table row placed after) (AddIsFull size pages first (record { number = table.next_number; row = row })) a)
        next.2.2 (adds next.0.0 next.0.1 next.2.0 next.1 next.2.1)
    go (Err why) (inl refused) =
        let read = reads size pages firsts indexes first well has in
        absurd (not-broken size pages first read.one.lawful.head why read.head_at refused)
    go (Err why) (inr (head, at, work)) = refuse why (rw (number_of head at, not_last) at work)
      where
        refuse : (why : Refusal) → (appended size pages first (record { number = table.next_number; row = row }) >>= counted_on size first table.next_number) (Err why)
            → (why ≡ PagesFull size) × AddIsFull size pages first (record { number = table.next_number; row = row })
        refuse why (inl full) = put-answer size pages firsts indexes first (record { number = table.next_number; row = row }) (Err why) well has is full
        refuse why (inr (placed, put, inl refused)) =
            let done = put-answer size pages firsts indexes first (record { number = table.next_number; row = row }) (Ok placed) well has is put in
            absurd (not-broken size placed.1 first done.put.head_now why done.put.at_first refused)
        refuse why (inr (placed, put, inr (after, at, h))) = ok-err h

pub add_law : AddLaw
add_law size pages firsts indexes first table row answer is storable small work =
    adds-row size pages firsts indexes first table row answer is.well is.there is.shows storable small work
