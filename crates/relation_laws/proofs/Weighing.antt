-- The bytes of the rows on a page, and the pages where the rows of a table stand.
use Rattle.std.proofs.Common.{◌≡◌, ◌∙◌, ◌<◌, ◌≤◌, ◌++◌, ◌==◌, cond, ℕ, Bool, List, [], ◌∷◌, length, map, inl, inr, refl, sym, ap, subst, arith, eq-eqb, ne_eqb, length-append}
use Rattle.std.specs.List.{AllByRecursion, Contains, sum_by}
use Rattle.std.proofs.lemmas.Bool.Decides.{eqb_tells}
use Rattle.std.proofs.lemmas.List.Concat.{flat_map-cons}
use Rattle.std.proofs.lemmas.List.Sorted.{Contains-permutation, IsPermutation-sym, sum_by-IsPermutation}
use Rattle.std.proofs.lemmas.List.Sums.{sum_by-append, sum_by-cons}
use Rattle.pager.specs.Pages.{Pages}
use Rattle.heap_file.specs.declared.chain.Link.{Link}
use Rattle.heap_file.specs.declared.chain.Placed.{Placed}
use Rattle.heap_file.specs.declared.page.Entry.{Entry}
use Rattle.heap_file.specs.declared.page.HeapPage.{HeapPage}
use Rattle.heap_file.specs.Chain.{rows_of, rows_on}
use Rattle.heap_file.specs.HeapPage.{entry_bytes, entry_code}
use Rattle.heap_laws.specs.Store.{WellFormed, end_of, times, times_numbered}
use Rattle.heap_laws.specs.Table.{EndsAt, IsTable, Table}
use Rattle.heap_laws.proofs.Appending.{end_link}
use Rattle.heap_laws.proofs.Counts.{keyed-more, one_if}
use Rattle.heap_laws.proofs.Orders.{number_of}
use Rattle.heap_laws.proofs.Reading.{named-last, reads, rows-read}
use Rattle.heap_laws.proofs.Routes.{IsRoute, around, leads-one, link_of, pages_on, rows-cons, rows-middle, times-cons, times-links}
use Rattle.heap_laws.proofs.Rows.{placed_on, standing}
use Rattle.relation_laws.specs.Needs.{bytes_on, page_under, entry_size}
use Rattle.relation_laws.proofs.Lists.{contains-cases, contains-cons, contains-head, keyed-one}
use Rattle.relation_laws.proofs.Needing.{entry-length}
use Rattle.relation_laws.proofs.Reaching.{own}

-- what a row weighs on a page
abbrev weight : ℕ → Placed → ℕ
weight page placed = cond (placed.page == page) (entry_size placed.row) 0

off-link : (page other : ℕ) (entries : List Entry) → (other ≡ page → ⊥) → sum_by (weight page) (map (placed_on other) entries) ≡ 0
off-link page other [] apart = refl
off-link page other (entry ∷ entries) apart =
    omega (arith, sum_by-cons (weight page) (placed_on other entry) (map (placed_on other) entries), ap (λ (b : Bool). cond b (entry_size entry.row) 0) (ne_eqb other page apart), off-link page other entries apart)

on-link : (page : ℕ) (entries : List Entry) → sum_by (weight page) (map (placed_on page) entries) ≡ length (entry_bytes entries)
on-link page [] = refl
on-link page (entry ∷ entries) =
    omega (arith, sum_by-cons (weight page) (placed_on page entry) (map (placed_on page) entries), ap (λ (b : Bool). cond b (entry_size entry.row) 0) (eq-eqb page page refl), on-link page entries, entry-length entry.number entry.row, ap length (flat_map-cons entry_code entry entries), length-append (entry_code entry) (entry_bytes entries))

off-links : (page : ℕ) (links : List Link) → times page (pages_on links) ≡ 0 → sum_by (weight page) (rows_of links) ≡ 0
off-links page [] none = refl
off-links page (link ∷ links) none =
    omega (
      arith,
      ap (sum_by (weight page)) (rows-cons link links),
      sum_by-append (weight page) (rows_on link) (rows_of links),
      off-link page link.page link.held.entries (λ e. absurd (omega (arith, none, times-cons page link.page (pages_on links), ap one_if (eq-eqb link.page page e)))),
      off-links page links (omega (arith, none, times-cons page link.page (pages_on links))),
    )

-- the rows on a page of a table take the bytes of its entries
pub on-page : (size : ℕ) (pages : Pages) (first : ℕ) (table : Table) (a : List Link) (page : ℕ) (held : HeapPage) (b : List Link) → IsRoute size pages first (a ++ link_of page held ∷ b) → IsTable size pages first table → bytes_on page table.rows ≡ length (entry_bytes held.entries)
on-page size pages first table a page held b route shows =
    let here = around size pages first a (link_of page held) b route in
    let links = shows.rows.0 in
    let same : links ≡ a ++ link_of page held ∷ b = leads-one size size pages first links (a ++ link_of page held ∷ b) shows.rows.1.2 route.leads in
    omega (
      arith,
      sum_by-IsPermutation (weight page) (rows_of links) table.rows shows.rows.2.0,
      ap (λ (l : List Link). sum_by (weight page) (rows_of l)) same,
      ap (sum_by (weight page)) (rows-middle a (link_of page held) b),
      sum_by-append (weight page) (rows_of a) (rows_on (link_of page held) ++ rows_of b),
      sum_by-append (weight page) (rows_on (link_of page held)) (rows_of b),
      off-links page a here.off_before,
      off-links page b here.off_behind,
      on-link page held.entries,
    )

-- so do those on its last page
pub on-last : (size : ℕ) (pages : Pages) (firsts indexes : List ℕ) (first : ℕ) (table : Table) (last : ℕ) (tail : HeapPage) → WellFormed size pages firsts indexes → Contains firsts first → IsTable size pages first table → EndsAt size pages first last tail → bytes_on last table.rows ≡ length (entry_bytes tail.entries)
on-last size pages firsts indexes first table last tail well has shows ends =
    let read = reads size pages firsts indexes first well has in
    let links = read.one.chain.links in
    let found = named-last size pages firsts indexes first last tail well has ends in
    let same : found.0 ≡ links = leads-one size size pages first found.0 links found.1.2 read.route.leads in
    let end : end_of first links ≡ last = ap (end_of first) (sym same) ∙ found.2 in
    let split = end_link size pages first last links ends.head tail read.route ends.at_first ends.at_last end in
    on-page size pages first table split.0 last tail [] (subst (IsRoute size pages first) split.1 read.route) shows

all-from : {A : Type 0} (P : A → Type 0) (xs : List A) → ((x : A) → Contains xs x → P x) → AllByRecursion P xs
all-from P [] go = tt
all-from P (x ∷ xs) go = (go x (contains-head x xs), all-from P xs (λ y has. go y (contains-cons y x xs has)))

-- the rows of a table stand on its own pages
pub rows-own : (size : ℕ) (pages : Pages) (firsts indexes : List ℕ) (first : ℕ) (table : Table) (well : WellFormed size pages firsts indexes) (has : Contains firsts first) → IsTable size pages first table → AllByRecursion (λ (placed : Placed). 0 < times placed.page (own size pages firsts indexes first well has)) table.rows
rows-own size pages firsts indexes first table well has shows = all-from (λ (placed : Placed). 0 < times placed.page (own size pages firsts indexes first well has)) table.rows here
  where
    here : (placed : Placed) → Contains table.rows placed → 0 < times placed.page (own size pages firsts indexes first well has)
    here placed among =
        let read = reads size pages firsts indexes first well has in
        let links = read.one.chain.links in
        let rows = rows-read size pages first table links read.one.lawful.head shows read.route.leads read.head_at in
        let at = standing links placed (Contains-permutation table.rows (rows_of links) placed (IsPermutation-sym (rows_of links) table.rows rows.permutation) among) in
        omega (arith, ap (λ (l : List Link). times placed.page (pages_on l)) at.links_are, times-links placed.page at.before (link_of placed.page at.held) at.behind, ap one_if (eq-eqb placed.page placed.page refl))

-- the page of the one row of a number
pub under-one : (number : ℕ) (rows : List Placed) (placed : Placed) → times_numbered number rows ≤ 1 → Contains rows placed → placed.number ≡ number → page_under number rows ≡ placed.page
under-one number [] placed once has is = absurd (omega (arith, has.1))
under-one number (row ∷ rows) placed once has is =
    elim (eqb_tells row.number number) [
      | inl same ↦ rw same.0 (ap (λ (p : Placed). p.page) (keyed-one number_of number (row ∷ rows) row placed once (contains-head row rows) has same.1 is))
      | inr differ ↦ rw differ.0 (under-one number rows placed (omega (arith, once, keyed-more number_of number row rows)) (contains-cases row placed rows has (λ same. absurd (differ.1 (ap (λ (p : Placed). p.number) same ∙ is))) (λ there. there)) is)
    ]
