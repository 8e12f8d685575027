-- Which pages are edited, and what a call leaves of the store.
use Rattle.std.proofs.Common.{◌≡◌, ◌<◌, ◌≤◌, ◌+◌, ◌∙◌, ◌||◌, ℕ, Bool, true, false, eqb, List, [], ◌∷◌, length, Ok, refl, sym, ap, subst}
use Rattle.std.specs.List.{Contains, list_any}
use Rattle.pager.specs.Pages.{Pages, with_bytes}
use Rattle.heap_file.specs.declared.page.HeapPage.{HeapPage}
use Rattle.heap_file.specs.declared.chain.Link.{Link}
use Rattle.heap_file.specs.Chain.{InOrder, IsAt, last_page, rows_of}
use Rattle.heap_laws.specs.Store.{Chain, IsChain, WellFormed, end_of, free_pages, pages_of, times, times_numbered}
use Rattle.heap_laws.specs.Table.{AllStay, EditsExactly, IsTable, OthersStay, Table}
use Rattle.heap_laws.proofs.Reading.{Reads, reads}
use Rattle.heap_laws.proofs.Routes.{IsRoute, leads-one, pages_on}
use Rattle.heap_laws.proofs.Stores.{others-stay, Swap, swapped}

-- no page is edited yet
pub edits-none : (pages : Pages) → EditsExactly pages pages []
edits-none pages = record { same = λ p off. refl; edited = λ p. refl }

or-false : (a b : Bool) → (a || b) ≡ false → (a ≡ false) × (b ≡ false)
or-false true b e = absurd cc
or-false false b e = (refl, e)

or-assoc : (a b c : Bool) → (a || (b || c)) ≡ ((a || b) || c)
or-assoc true b c = refl
or-assoc false b c = refl

-- one page more is edited
pub edits-write : (pages after : Pages) (list : List ℕ) (page : ℕ) (bytes : List ℕ) → EditsExactly pages after list → EditsExactly pages (with_bytes after page bytes) (page ∷ list)
edits-write pages after list page bytes edits = record {
  same = λ p off.
      let parts = or-false (eqb p page) (list_any (λ other. eqb p other) list) off in
      written-at p parts.0 ∙ edits.same p parts.1;
  edited = λ p. ap (λ (b : Bool). eqb p page || b) (edits.edited p) ∙ or-assoc (eqb p page) (list_any (λ other. eqb p other) list) (pages.edited p);
}
  where
    written-at : (p : ℕ) → eqb p page ≡ false → (with_bytes after page bytes).at p ≡ after.at p
    written-at p e = rw e refl

-- the same pages in another order
pub edits-as : (pages after : Pages) (list others : List ℕ) → ((p : ℕ) → list_any (λ other. eqb p other) list ≡ list_any (λ other. eqb p other) others) → EditsExactly pages after list → EditsExactly pages after others
edits-as pages after list others alike edits = record {
  same = λ p off. edits.same p (alike p ∙ off);
  edited = λ p. edits.edited p ∙ ap (λ (b : Bool). b || pages.edited p) (alike p);
}

-- a page that stands first once more
pub twice : (a b : Bool) → (a || (a || b)) ≡ (a || b)
twice true b = refl
twice false b = refl

-- the free count is the root page's
pub free-same : (size : ℕ) (pages after : Pages) → after.at 0 ≡ pages.at 0 → free_pages size after ≡ free_pages size pages
free-same size pages after same = rw same refl

-- what a call on a table leaves
pub record Finished (size : ℕ) (pages after : Pages) (firsts indexes : List ℕ) (first : ℕ) (table : Table) : Type 0 where
  pub well : WellFormed size after firsts indexes
  pub others : OthersStay size pages after firsts first
  pub shows : IsTable size after first table

-- a chain as it is after a call
pub record Ends (size : ℕ) (pages after : Pages) (first : ℕ) (chain : Chain) (before behind : List ℕ) (table : Table) : Type 0 where
  pub now : List Link
  pub route : IsRoute size after first now
  pub head : HeapPage
  pub at_first : IsAt size after first head
  pub names_last : last_page first head ≡ end_of first now
  pub differ : (number : ℕ) → times_numbered number (rows_of now) ≤ 1
  pub below : (number : ℕ) → 0 < times_numbered number (rows_of now) → number < head.next_number
  pub counts : (p : ℕ) → times p (pages_on now) + times p behind ≡ times p (pages_of chain) + times p before
  pub same : (p : ℕ) → times p (pages_of chain) + times p before ≡ 0 → after.at p ≡ pages.at p
  pub next_number : head.next_number ≡ table.next_number
  pub order : InOrder (rows_of now) table.rows

pub finish : (size : ℕ) (pages after : Pages) (firsts before behind : List ℕ) (first : ℕ) (table : Table) (well : WellFormed size pages firsts before) (read : Reads size pages firsts before first well) → Contains firsts first
    → Ends size pages after first read.one.chain before behind table → Finished size pages after firsts behind first table
finish size pages after firsts before behind first table well read has ends =
    let named = read.one.named in
    let swap : Swap size pages after read.one.chain ends.now before behind = record {
      lawful = subst (λ (f : ℕ). IsChain size after (record { first = f; links = ends.now })) (sym named) (record {
        leads = ends.route.leads;
        sized = ends.route.sized;
        head = ends.head;
        at_first = ends.at_first;
        names_last = ends.names_last;
        differ = ends.differ;
        below = ends.below;
      });
      counts = ends.counts;
      same = ends.same;
    } in
    let again = swapped size pages after firsts before behind first ends.now well read.one swap in
    let reread = reads size after firsts behind first again has in
    let one : reread.one.chain.links ≡ ends.now = leads-one size size after first reread.one.chain.links ends.now reread.route.leads ends.route.leads in
    record {
      well = again;
      others = others-stay size pages after firsts before behind first ends.now well read.one swap;
      shows = record {
        next_number = (ends.head, ends.at_first, ap (λ (n : ℕ). Ok n) ends.next_number);
        rows = (ends.now, (subst (λ (l : List Link). 1 ≤ length l) one reread.some, subst (λ (l : List Link). length l ≤ size) one reread.few, ends.route.leads), ends.order);
      };
    }

-- a call after a step that leaves all tables
pub finish-on : (size : ℕ) (pages base after : Pages) (firsts indexes : List ℕ) (first : ℕ) (table : Table) → AllStay size pages base firsts → Finished size base after firsts indexes first table → Finished size pages after firsts indexes first table
finish-on size pages base after firsts indexes first table stay done = record {
  well = done.well;
  others = λ other has differ table_ shows. done.others other has differ table_ (stay other has table_ shows);
  shows = done.shows;
}
