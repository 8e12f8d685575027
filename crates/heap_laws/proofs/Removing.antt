-- A row is taken out of a table of a well-formed store.
use Rattle.std.proofs.Common.{◌≡◌, ◌<◌, ◌≤◌, ◌+◌, ◌++◌, ◌∙◌, ◌&&◌, ◌||◌, ℕ, suc, Bool, true, false, not, cond, eqb, List, [], ◌∷◌, length, map, Some, Result, Ok, Err, inl, inr, refl, sym, ap, arith, subst, eq-eqb, ne_eqb, append_assoc, append-nil, length-append}
use Rattle.std.specs.List.{Contains, list_any, remove}
use Rattle.std.proofs.lemmas.Bool.{eqb-true}
use Rattle.std.proofs.lemmas.Bool.Decides.{eqb_tells}
use Rattle.std.proofs.lemmas.List.{map-append}
use Rattle.std.proofs.lemmas.List.Sorted.{Contains-permutation, IsPermutation-sym}
use Rattle.retro_base.specs.declared.refusal.Refusal.{Refusal}
use Rattle.pager.specs.Pages.{Pages, with_bytes}
use Rattle.pager.specs.Allows.{◌>>=◌, only, either}
use Rattle.heap_file.specs.declared.page.Entry.{Entry}
use Rattle.heap_file.specs.declared.page.HeapPage.{HeapPage}
use Rattle.heap_file.specs.declared.chain.Link.{Link}
use Rattle.heap_file.specs.declared.chain.Placed.{Placed}
use Rattle.heap_file.specs.Chain.{heap_page, InOrder, IsAt, last_page, IsWay, met, rows_of, rows_on}
use Rattle.heap_file.specs.HeapPage.{page_bytes}
use Rattle.heap_file.specs.Work.{place_of, last_field, place_in, removed, renamed, unlinked, without}
use Rattle.heap_file.proofs.Ones.{differ}
use Rattle.heap_file.proofs.Packing.{without_fits}
use Rattle.heap_laws.specs.Laws.{DoesOrIsFull, RemoveLaw}
use Rattle.heap_laws.specs.Store.{IsSized, WellFormed, end_of, times, times_numbered}
use Rattle.heap_laws.specs.Table.{EditsExactly, IsTable, leaves, RemovesRow, Table, without_row}
use Rattle.heap_laws.proofs.Adding.{not-broken}
use Rattle.heap_laws.proofs.Appending.{first-there, head-sized, last-sized, next-sized, rehead, update-head}
use Rattle.heap_laws.proofs.Counts.{keyed-gone, keyed-left, one_if, others}
use Rattle.heap_laws.proofs.Editing.{edits-as, edits-none, edits-write, finish, Finished, free-same}
use Rattle.heap_laws.proofs.Meeting.{Meets, meets}
use Rattle.heap_laws.proofs.Ones.{met-one}
use Rattle.heap_laws.proofs.Orders.{number_of, order-others}
use Rattle.heap_laws.proofs.Reading.{ok-err, ok-one, Reads, reads, rows-read, Same}
use Rattle.heap_laws.proofs.Roots.{freed-well}
use Rattle.heap_laws.proofs.Routes.{AllSized, Around, around, at-one, at-written, end-append, first_link, IsRoute, leads-relink, link_of, pages_on, route-update, rows-append, rows-middle, sized-append, times-cons, times-here, times-links, written-other}
use Rattle.heap_laws.proofs.Rows.{placed_on, remove-at, Standing, standing}
use Rattle.heap_laws.proofs.Spotting.{met-never, place-never, split-others, split-rows, Spot, spot}

-- the numbers that are left are those of rows that were there
pub others-differ : (number : ℕ) (rows : List Placed) → ((n : ℕ) → times_numbered n rows ≤ 1) → (n : ℕ) → times_numbered n (others number_of number rows) ≤ 1
others-differ number rows once n =
    elim (eqb_tells number n) [
      | inl same ↦ rw (sym same.1) (omega (arith, keyed-gone number_of number rows))
      | inr differ ↦ omega (arith, once n, keyed-left number_of number n rows differ.1)
    ]

pub others-below : (number next : ℕ) (rows : List Placed) → ((n : ℕ) → 0 < times_numbered n rows → n < next) → (n : ℕ) → 0 < times_numbered n (others number_of number rows) → n < next
others-below number next rows below n some =
    elim (eqb_tells number n) [
      | inl same ↦ absurd (omega (arith, subst (λ (k : ℕ). 0 < times_numbered k (others number_of number rows)) (sym same.1) some, keyed-gone number_of number rows))
      | inr differ ↦ below n (omega (arith, some, keyed-left number_of number n rows differ.1))
    ]

-- what is left on the page
pub rest-are : (links : List Link) (page number previous : ℕ) (held : HeapPage) (place : ℕ) (it : Spot links page number previous held place) → (without held place).entries ≡ it.front ++ it.rest
rest-are links page number previous held place it = ap (λ (es : List Entry). remove es place) it.entries_are ∙ remove-at it.front it.entry it.rest place it.place_is

pub place-there : (links : List Link) (page number previous : ℕ) (held : HeapPage) (place : ℕ) (it : Spot links page number previous held place) → place < length held.entries
place-there links page number previous held place it = omega (arith, ap length it.entries_are, length-append it.front (it.entry ∷ it.rest), it.place_is)

pub without-sized : (held : HeapPage) (place : ℕ) → place < length held.entries → IsSized held → IsSized (without held place)
without-sized held place lt sized = record { page = without_fits held place lt sized.page; next = sized.next; next_number = sized.next_number; last = sized.last }

-- the rows of a page without one, and of those around it
pub rows-left : (before : List Link) (page : ℕ) (held : HeapPage) (behind : List Link) (front rest : List Entry) → held.entries ≡ front ++ rest
    → rows_of (before ++ link_of page held ∷ behind) ≡ (rows_of before ++ map (placed_on page) front) ++ (map (placed_on page) rest ++ rows_of behind)
rows-left before page held behind front rest e =
    let on : rows_on (link_of page held) ≡ map (placed_on page) front ++ map (placed_on page) rest = ap (map (placed_on page)) e ∙ map-append (placed_on page) front rest in
    rows-middle before (link_of page held) behind
    ∙ ap (λ (r : List Placed). rows_of before ++ (r ++ rows_of behind)) on
    ∙ ap (λ (r : List Placed). rows_of before ++ r) (append_assoc (map (placed_on page) front) (map (placed_on page) rest) (rows_of behind))
    ∙ sym (append_assoc (rows_of before) (map (placed_on page) front) (map (placed_on page) rest ++ rows_of behind))

-- the row is taken out of its page, which stays in the chain
pub take-out : (size : ℕ) (pages : Pages) (firsts indexes : List ℕ) (first : ℕ) (table : Table) (page number previous : ℕ) (held : HeapPage) (place : ℕ) (well : WellFormed size pages firsts indexes) → Contains firsts first → IsTable size pages first table
    → (read : Reads size pages firsts indexes first well) → Spot read.one.chain.links page number previous held place
    → Finished size pages (with_bytes pages page (page_bytes (without held place))) firsts indexes first (without_row table number)
take-out size pages firsts indexes first table page number previous held place well has shows read it =
    let links = read.one.chain.links in
    let lawful = read.one.lawful in
    let rows = rows-read size pages first table links lawful.head shows read.route.leads read.head_at in
    let route = subst (IsRoute size pages first) it.links_are read.route in
    let here = around size pages first it.before (link_of page held) it.behind route in
    let left = without held place in
    let sized = without-sized held place (place-there links page number previous held place it) here.sized_here in
    let now = it.before ++ link_of page left ∷ it.behind in
    let head = update-head size pages first lawful.head page held left read.head_at here.here sized refl refl in
    let split = split-rows links page number held it.before it.behind it.front it.entry it.rest it.links_are it.entries_are it.number_is (lawful.differ number) in
    let rows_now : rows_of now ≡ others number_of number (rows_of links) =
    rows-left it.before page left it.behind it.front it.rest (rest-are links page number previous held place it) ∙ sym (split-others links page number held it.before it.behind it.front it.entry it.rest it.number_is split) in
    let count : (p : ℕ) → times p (pages_on now) ≡ times p (pages_on links) =
    λ p. times-links p it.before (link_of page left) it.behind ∙ sym (times-links p it.before (link_of page held) it.behind) ∙ ap (λ (l : List Link). times p (pages_on l)) (sym it.links_are) in
    let names : last_page first lawful.head ≡ end_of first links = subst (λ (f : ℕ). last_page f lawful.head ≡ end_of f links) read.one.named lawful.names_last in
    finish size pages (with_bytes pages page (page_bytes left)) firsts indexes indexes first (without_row table number) well read has (record {
      now = now;
      route = route-update size pages first it.before (link_of page held) it.behind left route refl sized;
      head = head.0;
      at_first = head.1;
      names_last = ap (λ (l : ℕ). cond (eqb l 0) first l) head.2 ∙ names ∙ ap (end_of first) it.links_are ∙ end-append first it.before (link_of page held) it.behind ∙ sym (end-append first it.before (link_of page left) it.behind);
      differ = λ n. rw rows_now (others-differ number (rows_of links) lawful.differ n);
      below = λ n some. rw head.3 (others-below number lawful.head.next_number (rows_of links) lawful.below n (rw rows_now at some));
      counts = λ p. omega (arith, count p);
      same = λ p off. written-other pages page p (page_bytes left) (λ e. absurd (omega (arith, subst (λ (q : ℕ). times q (pages_on links) + times q indexes ≡ 0) e off, count page, times-links page it.before (link_of page left) it.behind, ap one_if (eq-eqb page page refl))));
      next_number = head.3 ∙ rows.next_number;
      order = subst (λ (r : List Placed). InOrder r (without_row table number).rows) (sym rows_now) (order-others (rows_of links) table.rows number (rows.permutation, rows.sorted));
    })

-- how the first page names the last one
last-named : (first last : ℕ) → (last ≡ 0 → ⊥) → cond (eqb (last_field first last) 0) first (last_field first last) ≡ last
last-named first last some =
    elim (eqb_tells first last) [
      | inl same ↦ rw same.0 same.1
      | inr differ ↦ rw differ.0 (rw (ne_eqb last 0 some) refl)
    ]

-- nothing leads on from page 0
no-way : (size : ℕ) (pages : Pages) (from : ℕ) (links : List Link) → from ≡ 0 → IsWay size pages from links 0 → links ≡ []
no-way size pages from [] e leads = refl
no-way size pages from (link ∷ links) e leads = absurd (omega (arith, e, leads.0, leads.1.named))

-- the end of links does not hang on what stands before them
end-other : (a b : ℕ) (links : List Link) → (links ≡ [] → ⊥) → end_of a links ≡ end_of b links
end-other a b [] some = absurd (some refl)
end-other a b (link ∷ links) some = refl

-- a list that is not long
none-left : {X : Type 0} (a b : List X) → length (a ++ b) ≡ 0 → (a ≡ []) × (b ≡ [])
none-left [] [] none = (refl, refl)
none-left [] (y ∷ b) none = absurd cc
none-left (x ∷ a) b none = absurd cc

-- the pages after the way goes past a page: the first page is written where the last page is another
abbrev pub relinked_pages : ℕ → ℕ → ℕ → List ℕ
relinked_pages first previous next = cond (eqb next 0) (first ∷ previous ∷ []) (previous ∷ [])

-- a page was taken out of its chain, and is the indexes' now
pub record Unlinked (size : ℕ) (pages after : Pages) (firsts indexes : List ℕ) (first page previous next : ℕ) (table : Table) : Type 0 where
  pub done : Finished size pages after firsts (page ∷ indexes) first table
  pub root_same : after.at 0 ≡ pages.at 0
  pub edits : EditsExactly pages after (relinked_pages first previous next)

-- a page whose only row is taken out, behind another of its chain
pub record Lone (size : ℕ) (pages : Pages) (first : ℕ) (links : List Link) (page number previous : ℕ) (held before : HeapPage) : Type 0 where
  pub front : List Link
  pub behind : List Link
  pub links_are : links ≡ front ++ link_of previous before ∷ link_of page held ∷ behind
  pub rows_left : others number_of number (rows_of links) ≡ rows_of (front ++ link_of previous before ∷ behind)
  pub at_previous : Around size pages first front (link_of previous before) (link_of page held ∷ behind)
  pub next_part : IsWay size pages held.next behind 0
  pub sized : IsSized held
  pub sized_behind : AllSized behind

pub lone : (size : ℕ) (pages : Pages) (first : ℕ) (links : List Link) (page number previous : ℕ) (held before : HeapPage) (place : ℕ) → IsRoute size pages first links → (it : Spot links page number previous held place) → (previous ≡ 0 → ⊥)
    → length (it.front ++ it.rest) ≡ 0 → times_numbered number (rows_of links) ≤ 1 → IsAt size pages previous before → Lone size pages first links page number previous held before
lone size pages first links page number previous held before place route it some single once at =
    elim it.previous_is [
      | inl start ↦ absurd (some start.1)
      | inr later ↦ made later.0 later.1 later.2 later.3
    ]
  where
    made : (front : List Link) (last : Link) → it.before ≡ front ++ last ∷ [] → last.page ≡ previous → Lone size pages first links page number previous held before
    made front last before_is page_is =
        let b = link_of page held in
        let whole : links ≡ front ++ last ∷ b ∷ it.behind = it.links_are ∙ ap (λ (l : List Link). l ++ b ∷ it.behind) before_is ∙ append_assoc front (last ∷ []) (b ∷ it.behind) in
        let around_last = around size pages first front last (b ∷ it.behind) (subst (IsRoute size pages first) whole route) in
        let held_is : last.held ≡ before = at-one size size pages previous last.held before (subst (λ (p : ℕ). IsAt size pages p last.held) page_is around_last.here) at in
        let link_is : last ≡ link_of previous before = same last page_is held_is in
        let links_are : links ≡ front ++ link_of previous before ∷ b ∷ it.behind = whole ∙ ap (λ (l : Link). front ++ l ∷ b ∷ it.behind) link_is in
        let around_page = around size pages first it.before b it.behind (subst (IsRoute size pages first) it.links_are route) in
        let empty = none-left it.front it.rest single in
        let split = split-rows links page number held it.before it.behind it.front it.entry it.rest it.links_are it.entries_are it.number_is once in
        let rows : others number_of number (rows_of links) ≡ rows_of it.before ++ rows_of it.behind =
        split-others links page number held it.before it.behind it.front it.entry it.rest it.number_is split
        ∙ ap (λ (es : List Entry). (rows_of it.before ++ map (placed_on page) es) ++ (map (placed_on page) it.rest ++ rows_of it.behind)) empty.0
        ∙ ap (λ (es : List Entry). (rows_of it.before ++ []) ++ (map (placed_on page) es ++ rows_of it.behind)) empty.1
        ∙ ap (λ (r : List Placed). r ++ rows_of it.behind) (append-nil (rows_of it.before)) in
        record {
          front = front;
          behind = it.behind;
          links_are = links_are;
          rows_left = rows ∙ sym (rows-append it.before it.behind) ∙ ap (λ (l : List Link). rows_of (l ++ it.behind)) (before_is ∙ ap (λ (l : Link). front ++ l ∷ []) link_is) ∙ ap rows_of (append_assoc front (link_of previous before ∷ []) it.behind);
          at_previous = around size pages first front (link_of previous before) (b ∷ it.behind) (subst (IsRoute size pages first) links_are route);
          next_part = around_page.rest;
          sized = around_page.sized_here;
          sized_behind = around_page.sized_behind;
        }
      where
        same : (link : Link) → link.page ≡ previous → link.held ≡ before → link ≡ link_of previous before
        same link p q = λ i. record { page = p i; held = q i }

-- the page before names the next one
abbrev pub past : HeapPage → ℕ → HeapPage
past before next = record before { next = next }

-- the chain once the page before names the next one
pub record Relinked (size : ℕ) (pages : Pages) (first : ℕ) (links : List Link) (head : HeapPage) (page previous : ℕ) (front : List Link) (now : HeapPage) (behind : List Link) : Type 0 where
  pub route : IsRoute size (with_bytes pages previous (page_bytes now)) first (front ++ link_of previous now ∷ behind)
  pub head_now : HeapPage
  pub at_first : IsAt size (with_bytes pages previous (page_bytes now)) first head_now
  pub last_same : head_now.last ≡ head.last
  pub next_number : head_now.next_number ≡ head.next_number
  pub counts : (p : ℕ) → times p (pages_on (front ++ link_of previous now ∷ behind)) + one_if (eqb page p) ≡ times p (pages_on links)

relinked : (size : ℕ) (pages : Pages) (first : ℕ) (links : List Link) (head : HeapPage) (page number previous : ℕ) (held before : HeapPage) → IsRoute size pages first links → IsAt size pages first head → (it : Lone size pages first links page number previous held before)
    → Relinked size pages first links head page previous it.front (past before held.next) it.behind
relinked size pages first links head page number previous held before route at it =
    let q = it.at_previous in
    let now = past before held.next in
    let sized = next-sized before held.next q.sized_here it.sized.next in
    let count : (p : ℕ) → times p (pages_on links) ≡ times p (pages_on it.front) + (one_if (eqb previous p) + (one_if (eqb page p) + times p (pages_on it.behind))) =
    λ p. ap (λ (l : List Link). times p (pages_on l)) it.links_are ∙ times-links p it.front (link_of previous before) (link_of page held ∷ it.behind) ∙ ap (λ (k : ℕ). times p (pages_on it.front) + (one_if (eqb previous p) + k)) (times-cons p page (pages_on it.behind)) in
    let counts : (p : ℕ) → times p (pages_on (it.front ++ link_of previous now ∷ it.behind)) + one_if (eqb page p) ≡ times p (pages_on links) = λ p. omega (arith, count p, times-links p it.front (link_of previous now) it.behind) in
    let head_at = update-head size pages first head previous before now at q.here sized refl refl in
    record {
      route = record {
        leads = leads-relink size pages first it.front previous now it.behind 0 q.first_part it.next_part q.off_before (omega (arith, q.off_behind, times-cons previous page (pages_on it.behind))) q.here.named q.here.there sized;
        sized = sized-append it.front (link_of previous now ∷ it.behind) q.sized_before (sized, it.sized_behind);
        once = λ p. omega (arith, route.once p, counts p);
      };
      head_now = head_at.0;
      at_first = head_at.1;
      last_same = head_at.2;
      next_number = head_at.3;
      counts = counts;
    }

-- what a chain without the page leaves of the store
unlinked-done : (size : ℕ) (pages after : Pages) (firsts indexes : List ℕ) (first : ℕ) (table : Table) (page number previous : ℕ) (held before : HeapPage) (well : WellFormed size pages firsts indexes) → Contains firsts first → IsTable size pages first table
    → (read : Reads size pages firsts indexes first well) → (it : Lone size pages first read.one.chain.links page number previous held before)
    → (now : List Link) → IsRoute size after first now → pages_on now ≡ pages_on (it.front ++ link_of previous (past before held.next) ∷ it.behind) → rows_of now ≡ rows_of (it.front ++ link_of previous (past before held.next) ∷ it.behind)
    → (head : HeapPage) → IsAt size after first head → head.next_number ≡ read.one.lawful.head.next_number → last_page first head ≡ end_of first now
    → ((p : ℕ) → (p ≡ first → ⊥) → (p ≡ previous → ⊥) → after.at p ≡ pages.at p)
    → Finished size pages after firsts (page ∷ indexes) first (without_row table number)
unlinked-done size pages after firsts indexes first table page number previous held before well has shows read it now route pages_same rows_same head at next_number names_last same =
    let links = read.one.chain.links in
    let lawful = read.one.lawful in
    let rows = rows-read size pages first table links lawful.head shows read.route.leads read.head_at in
    let relinked_ = relinked size pages first links lawful.head page number previous held before read.route read.head_at it in
    let rows_now : rows_of now ≡ others number_of number (rows_of links) =
    rows_same ∙ rows-middle it.front (link_of previous (past before held.next)) it.behind ∙ sym (rows-middle it.front (link_of previous before) it.behind) ∙ sym it.rows_left in
    let there = first-there size pages first links lawful.head read.route.leads read.head_at in
    let previous_there : 0 < times previous (pages_on links) =
    omega (arith, relinked_.counts previous, times-links previous it.front (link_of previous (past before held.next)) it.behind, ap one_if (eq-eqb previous previous refl)) in
    finish size pages after firsts indexes (page ∷ indexes) first (without_row table number) well read has (record {
      now = now;
      route = route;
      head = head;
      at_first = at;
      names_last = names_last;
      differ = λ n. rw rows_now (others-differ number (rows_of links) lawful.differ n);
      below = λ n some. rw next_number (others-below number lawful.head.next_number (rows_of links) lawful.below n (rw rows_now at some));
      counts = λ p. omega (arith, ap (times p) pages_same, relinked_.counts p, times-cons p page indexes);
      same = λ p off. same p (λ e. absurd (omega (arith, subst (λ (q : ℕ). times q (pages_on links) + times q indexes ≡ 0) e off, there)))
          (λ e. absurd (omega (arith, subst (λ (q : ℕ). times q (pages_on links) + times q indexes ≡ 0) e off, previous_there)));
      next_number = next_number ∙ rows.next_number;
      order = subst (λ (r : List Placed). InOrder r (without_row table number).rows) (sym rows_now) (order-others (rows_of links) table.rows number (rows.permutation, rows.sorted));
    })

-- the first page names the last one
abbrev renamed_first : ℕ → Pages → ℕ → ℕ → Result (Unit {0} × Pages) Refusal → Type 0
renamed_first size pages first last = do
  head ← heap_page size pages first
  only (Ok (tt, with_bytes pages first (page_bytes (record head { last = last_field first last }))))

abbrev unchanged : Pages → Result (Unit {0} × Pages) Refusal → Type 0
unchanged pages = only (Ok (tt, pages))

-- the pages after an answer
after-one : {a b : Pages} → Same {A = Unit {0} × Pages} (Ok (tt, a)) (Ok (tt, b)) → a ≡ b
after-one e = ap (λ (x : Unit {0} × Pages). x.1) (ok-one e)

-- the way goes past the page, and the first page names the last one
pub unlink : (size : ℕ) (pages after : Pages) (firsts indexes : List ℕ) (first : ℕ) (table : Table) (page number previous : ℕ) (held before : HeapPage) (well : WellFormed size pages firsts indexes) → Contains firsts first → IsTable size pages first table
    → (read : Reads size pages firsts indexes first well) → Lone size pages first read.one.chain.links page number previous held before
    → renamed size (with_bytes pages previous (page_bytes (past before held.next))) first previous held.next (Ok (tt, after))
    → Unlinked size pages after firsts indexes first page previous held.next (without_row table number)
unlink size pages after firsts indexes first table page number previous held before well has shows read it work =
    go (eqb held.next 0) refl work
  where
    go : (b : Bool) → eqb held.next 0 ≡ b → either b (renamed_first size (with_bytes pages previous (page_bytes (past before held.next))) first previous) (unchanged (with_bytes pages previous (page_bytes (past before held.next)))) (Ok (tt, after))
        → Unlinked size pages after firsts indexes first page previous held.next (without_row table number)
    go true e (found, found_at, h) =
        let links = read.one.chain.links in
        let q = it.at_previous in
        let again = relinked size pages first links read.one.lawful.head page number previous held before read.route read.head_at it in
        let linked = it.front ++ link_of previous (past before held.next) ∷ it.behind in
        let named : HeapPage = record found { last = last_field first previous } in
        let found_is : found ≡ again.head_now = at-one size size (with_bytes pages previous (page_bytes (past before held.next))) first found again.head_now found_at again.at_first in
        let sized = last-sized found (last_field first previous) (head-sized size (with_bytes pages previous (page_bytes (past before held.next))) first linked found again.route found_at) (omega (arith, well.small, last-le first previous, q.here.there)) in
        let renamed_ = rehead size (with_bytes pages previous (page_bytes (past before held.next))) first linked found named again.route found_at refl refl sized in
        let after_is : with_bytes (with_bytes pages previous (page_bytes (past before held.next))) first (page_bytes named) ≡ after = after-one h in
        let none : it.behind ≡ [] = no-way size pages held.next it.behind (eqb-true held.next 0 e) it.next_part in
        let ends : end_of first linked ≡ previous = end-append first it.front (link_of previous (past before held.next)) it.behind ∙ ap (end_of previous) none in
        subst (λ (a : Pages). Unlinked size pages a firsts indexes first page previous held.next (without_row table number)) after_is (record {
          done = unlinked-done size pages (with_bytes (with_bytes pages previous (page_bytes (past before held.next))) first (page_bytes named)) firsts indexes first table page number previous held before well has shows read it
              renamed_.now renamed_.route renamed_.pages_same renamed_.rows_same named (at-written size (with_bytes pages previous (page_bytes (past before held.next))) first named found_at.named found_at.there sized)
              (ap (λ (h : HeapPage). h.next_number) found_is ∙ again.next_number)
              (last-named first previous (λ z. absurd (omega (arith, z, q.here.named))) ∙ sym ends ∙ sym renamed_.end_same)
              (λ p first_ previous_. written-other (with_bytes pages previous (page_bytes (past before held.next))) first p (page_bytes named) first_ ∙ written-other pages previous p (page_bytes (past before held.next)) previous_);
          root_same = written-other (with_bytes pages previous (page_bytes (past before held.next))) first 0 (page_bytes named) (λ z. absurd (omega (arith, z, found_at.named))) ∙ written-other pages previous 0 (page_bytes (past before held.next)) (λ z. absurd (omega (arith, z, q.here.named)));
          edits = rw e (edits-write pages (with_bytes pages previous (page_bytes (past before held.next))) (previous ∷ []) first (page_bytes named) (edits-write pages pages [] previous (page_bytes (past before held.next)) (edits-none pages)));
        })
      where
        last-le : (first last : ℕ) → last_field first last ≤ last
        last-le first last = elim (eqb_tells first last) [
          | inl same ↦ rw same.0 (omega arith)
          | inr differ ↦ rw differ.0 (omega arith)
        ]
    go false e h =
        let links = read.one.chain.links in
        let q = it.at_previous in
        let lawful = read.one.lawful in
        let again = relinked size pages first links lawful.head page number previous held before read.route read.head_at it in
        let linked = it.front ++ link_of previous (past before held.next) ∷ it.behind in
        let some : it.behind ≡ [] → ⊥ = λ none. absurd (ended e (subst (λ (l : List Link). IsWay size pages held.next l 0) none it.next_part)) in
        let names : last_page first lawful.head ≡ end_of first links = subst (λ (f : ℕ). last_page f lawful.head ≡ end_of f links) read.one.named lawful.names_last in
        let ends : end_of first links ≡ end_of first linked =
        ap (end_of first) it.links_are ∙ end-append first it.front (link_of previous before) (link_of page held ∷ it.behind) ∙ end-other page previous it.behind some ∙ sym (end-append first it.front (link_of previous (past before held.next)) it.behind) in
        subst (λ (a : Pages). Unlinked size pages a firsts indexes first page previous held.next (without_row table number)) (after-one h) (record {
          done = unlinked-done size pages (with_bytes pages previous (page_bytes (past before held.next))) firsts indexes first table page number previous held before well has shows read it
              linked again.route refl refl again.head_now again.at_first again.next_number
              (ap (λ (l : ℕ). cond (eqb l 0) first l) again.last_same ∙ names ∙ ends)
              (λ p first_ previous_. written-other pages previous p (page_bytes (past before held.next)) previous_);
          root_same = written-other pages previous 0 (page_bytes (past before held.next)) (λ z. absurd (omega (arith, z, q.here.named)));
          edits = rw e (edits-write pages pages [] previous (page_bytes (past before held.next)) (edits-none pages));
        })
      where
        ended : eqb held.next 0 ≡ false → held.next ≡ 0 → ⊥
        ended e z = clash (sym (eq-eqb held.next 0 z) ∙ e)
          where
            clash : true ≡ false → ⊥
            clash x = cc

-- the page before is there
previous-there : (size : ℕ) (pages : Pages) (first : ℕ) (links : List Link) (page number previous : ℕ) (held : HeapPage) (place : ℕ) → IsRoute size pages first links → Spot links page number previous held place → (previous ≡ 0 → ⊥) → (before : HeapPage) × IsAt size pages previous before
previous-there size pages first links page number previous held place route it some =
    elim it.previous_is [
      | inl start ↦ absurd (some start.1)
      | inr later ↦ there later.0 later.1 later.2 later.3
    ]
  where
    there : (front : List Link) (last : Link) → it.before ≡ front ++ last ∷ [] → last.page ≡ previous → (before : HeapPage) × IsAt size pages previous before
    there front last before_is page_is =
        let whole : links ≡ front ++ last ∷ link_of page held ∷ it.behind = it.links_are ∙ ap (λ (l : List Link). l ++ link_of page held ∷ it.behind) before_is ∙ append_assoc front (last ∷ []) (link_of page held ∷ it.behind) in
        let here = around size pages first front last (link_of page held ∷ it.behind) (subst (IsRoute size pages first) whole route) in
        (last.held, subst (λ (p : ℕ). IsAt size pages p last.held) page_is here.here)

-- a page has a page before it where it is not the first
first-page : (size : ℕ) (pages : Pages) (first : ℕ) (links : List Link) (head : HeapPage) (page number previous : ℕ) (held : HeapPage) (place : ℕ) → IsRoute size pages first links → IsAt size pages first head → Spot links page number previous held place → eqb previous 0 ≡ eqb page first
first-page size pages first links head page number previous held place route at it =
    elim it.previous_is [
      | inl start ↦
          let leads : IsWay size pages first (link_of page held ∷ it.behind) 0 = subst (λ (l : List Link). IsWay size pages first l 0) (it.links_are ∙ ap (λ (l : List Link). l ++ link_of page held ∷ it.behind) start.0) route.leads in
          eq-eqb previous 0 start.1 ∙ sym (eq-eqb page first leads.0)
      | inr later ↦ behind later.0 later.1 later.2 later.3
    ]
  where
    behind : (front : List Link) (last : Link) → it.before ≡ front ++ last ∷ [] → last.page ≡ previous → eqb previous 0 ≡ eqb page first
    behind front last before_is page_is =
        let here = around size pages first it.before (link_of page held) it.behind (subst (IsRoute size pages first) it.links_are route) in
        let known : link_of first head ∷ (first_link size pages first links head route.leads at).0 ≡ (front ++ last ∷ []) ++ link_of page held ∷ it.behind = sym (first_link size pages first links head route.leads at).1 ∙ it.links_are ∙ ap (λ (l : List Link). l ++ link_of page held ∷ it.behind) before_is in
        let there : 0 < times first (pages_on it.before) = subst (λ (l : List Link). 0 < times first (pages_on l)) (sym before_is) (fronts front last known) in
        let whole : links ≡ front ++ last ∷ link_of page held ∷ it.behind = it.links_are ∙ ap (λ (l : List Link). l ++ link_of page held ∷ it.behind) before_is ∙ append_assoc front (last ∷ []) (link_of page held ∷ it.behind) in
        let at_last = around size pages first front last (link_of page held ∷ it.behind) (subst (IsRoute size pages first) whole route) in
        ne_eqb previous 0 (λ e. absurd (omega (arith, e, page_is, at_last.here.named)))
        ∙ sym (ne_eqb page first (λ e. absurd (omega (arith, here.off_before, subst (λ (q : ℕ). 0 < times q (pages_on it.before)) (sym e) there))))
      where
        fronts : (front : List Link) (last : Link) {rest : List Link} → link_of first head ∷ rest ≡ (front ++ last ∷ []) ++ link_of page held ∷ it.behind → 0 < times first (pages_on (front ++ last ∷ []))
        fronts [] last e = let same : first ≡ last.page = cc in rw same (omega (arith, times-here last.page []))
        fronts (link ∷ front) last e = let same : first ≡ link.page = cc in rw same (omega (arith, times-here link.page (pages_on (front ++ last ∷ []))))

-- the code's test whether a page leaves its chain is the definition's
leaves-is : (size : ℕ) (pages : Pages) (first : ℕ) (links : List Link) (head : HeapPage) (page number previous : ℕ) (held : HeapPage) (place : ℕ) → IsRoute size pages first links → IsAt size pages first head → (it : Spot links page number previous held place)
    → leaves first page held ≡ (not (eqb previous 0) && eqb (length (without held place).entries) 0)
leaves-is size pages first links head page number previous held place route at it =
    let left : length held.entries ≡ suc (length (without held place).entries) =
    omega (arith, ap length it.entries_are, length-append it.front (it.entry ∷ it.rest), ap length (rest-are links page number previous held place it), length-append it.front it.rest) in
    ap (λ (b : Bool). not b && eqb (length held.entries) 1) (sym (first-page size pages first links head page number previous held place route at it))
    ∙ ap (λ (b : Bool). not (eqb previous 0) && b) (one (length held.entries) (length (without held place).entries) left)
  where
    one : (k n : ℕ) → k ≡ suc n → eqb k 1 ≡ eqb n 0
    one k n e = elim (eqb_tells n 0) [
      | inl same ↦ eq-eqb k 1 (omega (arith, e, same.1)) ∙ sym same.0
      | inr differ ↦ ne_eqb k 1 (λ x. absurd (omega (arith, e, x, differ.1))) ∙ sym differ.0
    ]

-- the pages edited, in the order in which the law names them
edits-order : (pages after : Pages) (first page previous next : ℕ) → EditsExactly pages after (0 ∷ page ∷ relinked_pages first previous next) → EditsExactly pages after (previous ∷ page ∷ 0 ∷ cond (eqb next 0) (first ∷ []) [])
edits-order pages after first page previous next edits =
    edits-as pages after (0 ∷ page ∷ relinked_pages first previous next) (previous ∷ page ∷ 0 ∷ cond (eqb next 0) (first ∷ []) []) (λ p. go (eqb next 0) (eqb p 0) (eqb p page) (eqb p first) (eqb p previous) p refl refl refl refl) edits
  where
    four : (a b c d : Bool) → (a || (b || (c || (d || false)))) ≡ (d || (b || (a || (c || false))))
    four true true true true = refl
    four true true true false = refl
    four true true false true = refl
    four true true false false = refl
    four true false true true = refl
    four true false true false = refl
    four true false false true = refl
    four true false false false = refl
    four false true true true = refl
    four false true true false = refl
    four false true false true = refl
    four false true false false = refl
    four false false true true = refl
    four false false true false = refl
    four false false false true = refl
    four false false false false = refl

    three : (a b d : Bool) → (a || (b || (d || false))) ≡ (d || (b || (a || false)))
    three true true true = refl
    three true true false = refl
    three true false true = refl
    three true false false = refl
    three false true true = refl
    three false true false = refl
    three false false true = refl
    three false false false = refl

    go : (n a b c d : Bool) (p : ℕ) → eqb p 0 ≡ a → eqb p page ≡ b → eqb p first ≡ c → eqb p previous ≡ d
        → list_any (λ other. eqb p other) (0 ∷ page ∷ cond n (first ∷ previous ∷ []) (previous ∷ [])) ≡ list_any (λ other. eqb p other) (previous ∷ page ∷ 0 ∷ cond n (first ∷ []) [])
    go true a b c d p _ _ _ _ = four (eqb p 0) (eqb p page) (eqb p first) (eqb p previous)
    go false a b c d p _ _ _ _ = three (eqb p 0) (eqb p page) (eqb p previous)

and-both : (a b : Bool) → (a && b) ≡ true → (a ≡ true) × (b ≡ true)
and-both true b e = (refl, e)
and-both false b e = absurd cc

-- a page that was left without a row is freed
leave : (size : ℕ) (pages : Pages) (firsts indexes : List ℕ) (first : ℕ) (table : Table) (page number previous : ℕ) (held : HeapPage) (place : ℕ) (well : WellFormed size pages firsts indexes) → Contains firsts first → IsTable size pages first table
    → (read : Reads size pages firsts indexes first well) → met size pages first page (Ok (previous, held)) → Spot read.one.chain.links page number previous held place
    → (not (eqb previous 0) && eqb (length (without held place).entries) 0) ≡ true → (after : Pages) → unlinked size pages first previous page held.next (Ok (tt, after))
    → RemovesRow size pages firsts indexes first table page number after
leave size pages firsts indexes first table page number previous held place well has shows read found it goes after (before, at, (named, renamed_, freed_)) =
    let parts = and-both (not (eqb previous 0)) _ goes in
    let some : previous ≡ 0 → ⊥ = λ e. absurd (nonzero parts.0 (eq-eqb previous 0 e)) in
    let links = read.one.chain.links in
    let single : length (it.front ++ it.rest) ≡ 0 = ap length (sym (rest-are links page number previous held place it)) ∙ eqb-true _ 0 parts.1 in
    let alone = lone size pages first links page number previous held before place read.route it some single (read.one.lawful.differ number) at in
    let past_ = unlink size pages named.1 firsts indexes first table page number previous held before well has shows read alone renamed_ in
    let free = freed-well size named.1 firsts indexes page past_.done.well in
    let after_is : free.0 ≡ after = after-one (sym free.1 ∙ freed_) in
    subst (RemovesRow size pages firsts indexes first table page number) after_is (record {
      shows = free.2.stay first has (without_row table number) past_.done.shows;
      others = λ other there differ table_ shows_. free.2.stay other there table_ (past_.done.others other there differ table_ shows_);
      well = free.2.well;
      previous = previous;
      held = held;
      stood = found;
      effect = rw (leaves-is size pages first links read.one.lawful.head page number previous held place read.route read.head_at it, goes) (
        record { front = free.2.frees.front; one_more = free.2.frees.one_more ∙ ap (λ (k : ℕ). 1 + k) (free-same size pages named.1 past_.root_same) },
        edits-order pages free.0 first page previous held.next
            (subst (λ (q : Pages). EditsExactly pages q (0 ∷ page ∷ relinked_pages first previous held.next)) (sym free.2.after_is)
            (edits-write pages (with_bytes named.1 page _) (page ∷ relinked_pages first previous held.next) 0 _ (edits-write pages named.1 (relinked_pages first previous held.next) page _ past_.edits))),
      );
    })
  where
    nonzero : not (eqb previous 0) ≡ true → eqb previous 0 ≡ true → ⊥
    nonzero a b = clash (ap not (sym b) ∙ a)
      where
        clash : false ≡ true → ⊥
        clash x = cc

-- a page that keeps a row, or is the first, stays
keep : (size : ℕ) (pages : Pages) (firsts indexes : List ℕ) (first : ℕ) (table : Table) (page number previous : ℕ) (held : HeapPage) (place : ℕ) (well : WellFormed size pages firsts indexes) → Contains firsts first → IsTable size pages first table
    → (read : Reads size pages firsts indexes first well) → met size pages first page (Ok (previous, held)) → Spot read.one.chain.links page number previous held place
    → (not (eqb previous 0) && eqb (length (without held place).entries) 0) ≡ false
    → RemovesRow size pages firsts indexes first table page number (with_bytes pages page (page_bytes (without held place)))
keep size pages firsts indexes first table page number previous held place well has shows read found it stays =
    let done = take-out size pages firsts indexes first table page number previous held place well has shows read it in
    let links = read.one.chain.links in
    let here = around size pages first it.before (link_of page held) it.behind (subst (IsRoute size pages first) it.links_are read.route) in
    let bytes = page_bytes (without held place) in
    record {
      shows = done.shows;
      others = done.others;
      well = done.well;
      previous = previous;
      held = held;
      stood = found;
      effect = rw (leaves-is size pages first links read.one.lawful.head page number previous held place read.route read.head_at it, stays)
          (free-same size pages (with_bytes pages page bytes) (written-other pages page 0 bytes (λ e. absurd (omega (arith, e, here.here.named)))), edits-write pages pages [] page bytes (edits-none pages));
    }

-- the way past a page is found, and the page is freed
unlinked-never : (size : ℕ) (pages : Pages) (firsts indexes : List ℕ) (first : ℕ) (table : Table) (page number previous : ℕ) (held : HeapPage) (place : ℕ) (why : Refusal) (well : WellFormed size pages firsts indexes) → Contains firsts first → IsTable size pages first table
    → (read : Reads size pages firsts indexes first well) → Spot read.one.chain.links page number previous held place
    → (not (eqb previous 0) && eqb (length (without held place).entries) 0) ≡ true → unlinked size pages first previous page held.next (Err why) → ⊥
unlinked-never size pages firsts indexes first table page number previous held place why well has shows read it goes work = go work
  where
    parts : (not (eqb previous 0) ≡ true) × (eqb (length (without held place).entries) 0 ≡ true)
    parts = and-both (not (eqb previous 0)) (eqb (length (without held place).entries) 0) goes

    some : previous ≡ 0 → ⊥
    some e = clash (ap not (sym (eq-eqb previous 0 e)) ∙ (and-both (not (eqb previous 0)) (eqb (length (without held place).entries) 0) goes).0)
      where
        clash : false ≡ true → ⊥
        clash x = cc

    alone : (before : HeapPage) → IsAt size pages previous before → Lone size pages first read.one.chain.links page number previous held before
    alone before at = lone size pages first read.one.chain.links page number previous held before place read.route it some (ap length (sym (rest-are read.one.chain.links page number previous held place it)) ∙ eqb-true (length (without held place).entries) 0 parts.1) (read.one.lawful.differ number) at

    missed : (before : HeapPage) → IsAt size pages previous before → renamed size (with_bytes pages previous (page_bytes (record before { next = held.next }))) first previous held.next (Err why) → ⊥
    missed before at h = either-never (eqb held.next 0) h
      where
        either-never : (b : Bool) → either b (renamed_first size (with_bytes pages previous (page_bytes (past before held.next))) first previous) (unchanged (with_bytes pages previous (page_bytes (past before held.next)))) (Err why) → ⊥
        either-never true (inl refused) =
            let again = relinked size pages first read.one.chain.links read.one.lawful.head page number previous held before read.route read.head_at (alone before at) in
            not-broken size (with_bytes pages previous (page_bytes (past before held.next))) first again.head_now why again.at_first refused
        either-never true (inr next) = ok-err next.2
        either-never false h = ok-err h

    go : unlinked size pages first previous page held.next (Err why) → ⊥
    go (inl refused) =
        let before = previous-there size pages first read.one.chain.links page number previous held place read.route it some in
        not-broken size pages previous before.0 why before.1 refused
    go (inr (before, at, inl refused)) = missed before at refused
    go (inr (before, at, inr (named, renamed_, freed_))) =
        let past_ = unlink size pages named.1 firsts indexes first table page number previous held before well has shows read (alone before at) renamed_ in
        let free = freed-well size named.1 firsts indexes page past_.done.well in
        ok-err (sym free.1 ∙ freed_)

-- a row is taken out of the page where it was met
abbrev removed_on : ℕ → Pages → ℕ → ℕ → ℕ → HeapPage → Result (Unit {0} × Pages) Refusal → Type 0
removed_on size pages first page number held =
    place_in page number held.entries >>= λ place.
    either (not (eqb page first) && eqb (length (without held place).entries) 0)
    (met size pages first page >>= λ found. unlinked size pages first found.0 page held.next)
    (only (Ok (tt, with_bytes pages page (page_bytes (without held place)))))

abbrev removed_met : ℕ → Pages → ℕ → ℕ → ℕ → Result (Unit {0} × Pages) Refusal → Type 0
removed_met size pages first page number =
    met size pages first page >>= λ found.
    place_in page number found.1.entries >>= λ place.
    either (not (eqb found.0 0) && eqb (length (without found.1 place).entries) 0)
    (unlinked size pages first found.0 page found.1.next)
    (only (Ok (tt, with_bytes pages page (page_bytes (without found.1 place)))))

removed-met : (size : ℕ) (pages : Pages) (first : ℕ) (links : List Link) (head : HeapPage) (page number : ℕ) (meets : Meets size pages first page) → IsRoute size pages first links → IsAt size pages first head
    → (a : Result (Unit {0} × Pages) Refusal) → removed size pages first page number a → removed_met size pages first page number a
removed-met size pages first links head page number meets route at_first a work = go a work
  where
    previous_is : (found : ℕ × HeapPage) → met size pages first page (Ok found) → found.0 ≡ meets.previous
    previous_is found at = one (met-one size pages first page (Ok found) (Ok (meets.previous, meets.held)) at meets.found)
      where
        one : Same {A = ℕ × HeapPage} (Ok found) (Ok (meets.previous, meets.held)) → found.0 ≡ meets.previous
        one e = cc

    relink : (place : ℕ) (b : Bool) (a : Result (Unit {0} × Pages) Refusal)
        → either b (met size pages first page >>= λ found. unlinked size pages first found.0 page meets.held.next) (only (Ok (tt, with_bytes pages page (page_bytes (without meets.held place))))) a
        → either b (unlinked size pages first meets.previous page meets.held.next) (only (Ok (tt, with_bytes pages page (page_bytes (without meets.held place))))) a
    relink place true (Ok y) (found, at, h) = subst (λ (p : ℕ). unlinked size pages first p page meets.held.next (Ok y)) (previous_is found at) h
    relink place true (Err why) (inl refused) = differ (meets.previous, meets.held) why (met-one size pages first page (Ok (meets.previous, meets.held)) (Err why) meets.found refused)
    relink place true (Err why) (inr (found, at, h)) = subst (λ (p : ℕ). unlinked size pages first p page meets.held.next (Err why)) (previous_is found at) h
    relink place false a h = h

    turned : (place : ℕ) → place_of number meets.held.entries ≡ Some place → (a : Result (Unit {0} × Pages) Refusal)
        → either (not (eqb page first) && eqb (length (without meets.held place).entries) 0) (met size pages first page >>= λ found. unlinked size pages first found.0 page meets.held.next) (only (Ok (tt, with_bytes pages page (page_bytes (without meets.held place))))) a
        → either (not (eqb meets.previous 0) && eqb (length (without meets.held place).entries) 0) (unlinked size pages first meets.previous page meets.held.next) (only (Ok (tt, with_bytes pages page (page_bytes (without meets.held place))))) a
    turned place is a h =
        let it = spot size pages first page number meets.previous place meets.held links route.leads meets.found is in
        subst (λ (b : Bool). either (not b && eqb (length (without meets.held place).entries) 0) (unlinked size pages first meets.previous page meets.held.next) (only (Ok (tt, with_bytes pages page (page_bytes (without meets.held place))))) a)
        (sym (first-page size pages first links head page number meets.previous meets.held place route at_first it))
        (relink place (not (eqb page first) && eqb (length (without meets.held place).entries) 0) a h)

    same : (held : HeapPage) → IsAt size pages page held → (a : Result (Unit {0} × Pages) Refusal) → removed_on size pages first page number held a → removed_on size pages first page number meets.held a
    same held at a h = subst (λ (q : HeapPage). removed_on size pages first page number q a) (at-one size size pages page held meets.held at meets.at) h

    go : (a : Result (Unit {0} × Pages) Refusal) → removed size pages first page number a → removed_met size pages first page number a
    go (Ok y) (held, at, h) = let rest = same held at (Ok y) h in ((meets.previous, meets.held), meets.found, (rest.0, rest.1, turned rest.0 rest.1 (Ok y) rest.2))
    go (Err why) (inl broken) = absurd (broken.1 meets.held meets.at)
    go (Err why) (inr (held, at, h)) =
        inr (
          (meets.previous, meets.held),
          meets.found,
          elim (same held at (Err why) h) [
            | inl refused ↦ inl refused
            | inr rest ↦ inr (rest.0, rest.1, turned rest.0 rest.1 (Err why) rest.2)
          ],
        )

-- a row that is taken out of a table
pub removes-row : (size : ℕ) (pages : Pages) (firsts indexes : List ℕ) (first : ℕ) (table : Table) (placed : Placed) (answer : Result (Unit {0} × Pages) Refusal)
    → WellFormed size pages firsts indexes → Contains firsts first → IsTable size pages first table → Contains table.rows placed → removed size pages first placed.page placed.number answer
    → DoesOrIsFull size (λ u after. RemovesRow size pages firsts indexes first table placed.page placed.number after) ⊥ answer
removes-row size pages firsts indexes first table placed answer well has shows among_rows work =
    let read = reads size pages firsts indexes first well has in
    go answer (removed-met size pages first read.one.chain.links read.one.lawful.head placed.page placed.number (meets size pages first read.one.chain.links placed read.route read.few stands) read.route read.head_at answer work)
  where
    stands : Standing (reads size pages firsts indexes first well has).one.chain.links placed
    stands =
        let read = reads size pages firsts indexes first well has in
        let rows = rows-read size pages first table read.one.chain.links read.one.lawful.head shows read.route.leads read.head_at in
        standing read.one.chain.links placed (Contains-permutation table.rows (rows_of read.one.chain.links) placed (IsPermutation-sym (rows_of read.one.chain.links) table.rows rows.permutation) among_rows)

    go : (answer : Result (Unit {0} × Pages) Refusal) → removed_met size pages first placed.page placed.number answer → DoesOrIsFull size (λ u after. RemovesRow size pages firsts indexes first table placed.page placed.number after) ⊥ answer
    go (Ok y) (found, at, (place, is, work)) = choose (not (eqb found.0 0) && eqb (length (without found.1 place).entries) 0) refl work
      where
        it : Spot (reads size pages firsts indexes first well has).one.chain.links placed.page placed.number found.0 found.1 place
        it = let read = reads size pages firsts indexes first well has in spot size pages first placed.page placed.number found.0 place found.1 read.one.chain.links read.route.leads at is

        choose : (b : Bool) → (not (eqb found.0 0) && eqb (length (without found.1 place).entries) 0) ≡ b
            → either b (unlinked size pages first found.0 placed.page found.1.next) (unchanged (with_bytes pages placed.page (page_bytes (without found.1 place)))) (Ok y)
            → RemovesRow size pages firsts indexes first table placed.page placed.number y.1
        choose true e h = leave size pages firsts indexes first table placed.page placed.number found.0 found.1 place well has shows (reads size pages firsts indexes first well has) at it e y.1 h
        choose false e h = subst (RemovesRow size pages firsts indexes first table placed.page placed.number) (after-one h) (keep size pages firsts indexes first table placed.page placed.number found.0 found.1 place well has shows (reads size pages firsts indexes first well has) at it e)
    go (Err why) (inl refused) =
        let read = reads size pages firsts indexes first well has in
        absurd (met-never size pages first read.one.chain.links placed why read.route read.few (λ e. absurd (omega (arith, e, read.head_at.named))) stands refused)
    go (Err why) (inr (found, at, inl refused)) =
        let read = reads size pages firsts indexes first well has in
        absurd (place-never size pages first found.0 found.1 read.one.chain.links placed why read.route stands at refused)
    go (Err why) (inr (found, at, inr (place, is, work))) = absurd (choose (not (eqb found.0 0) && eqb (length (without found.1 place).entries) 0) refl work)
      where
        choose : (b : Bool) → (not (eqb found.0 0) && eqb (length (without found.1 place).entries) 0) ≡ b
            → either b (unlinked size pages first found.0 placed.page found.1.next) (unchanged (with_bytes pages placed.page (page_bytes (without found.1 place)))) (Err why) → ⊥
        choose true e h =
            let read = reads size pages firsts indexes first well has in
            unlinked-never size pages firsts indexes first table placed.page placed.number found.0 found.1 place why well has shows read (spot size pages first placed.page placed.number found.0 place found.1 read.one.chain.links read.route.leads at is) e h
        choose false e h = ok-err h

pub remove_law : RemoveLaw
remove_law size pages firsts indexes first table placed answer is among_rows work =
    removes-row size pages firsts indexes first table placed answer is.well is.there is.shows among_rows work
