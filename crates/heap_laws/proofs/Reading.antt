-- What is read of a table of a well-formed store.
use Rattle.std.proofs.Common.{◌≡◌, ◌<◌, ◌≤◌, ◌+◌, ◌∙◌, ℕ, zero, suc, List, [], ◌∷◌, length, get_or, flat_map, Option, Some, Result, Ok, Err, inl, inr, refl, sym, ap, arith, subst, eq-eqb}
use Rattle.std.specs.List.{Contains}
use Rattle.std.specs.List.Sorted.{IsPermutation, IsNonDecreasingBy}
use Rattle.std.proofs.lemmas.List.Sorted.{Contains-permutation, IsPermutation-sym, IsPermutation-trans}
use Rattle.std.proofs.lemmas.Bool.{cases_lt}
use Rattle.retro_base.specs.declared.refusal.Refusal.{Refusal}
use Rattle.values.specs.declared.value.Value.{Value}
use Rattle.pager.specs.Pages.{Pages}
use Rattle.heap_file.specs.declared.page.Entry.{Entry}
use Rattle.heap_file.specs.declared.page.HeapPage.{HeapPage}
use Rattle.heap_file.specs.declared.chain.Link.{Link}
use Rattle.heap_file.specs.declared.chain.Placed.{Placed}
use Rattle.heap_file.specs.Laws.{IsOne}
use Rattle.heap_file.specs.Chain.{chain, IsOpenWay, IsAt, last_page, IsWay, rows_of, scanned, Stops}
use Rattle.heap_file.specs.Work.{got, next_of}
use Rattle.heap_laws.specs.Laws.{ReadLaw}
use Rattle.heap_laws.specs.Store.{Chain, WellFormed, end_of, pages_of, pages_held, root_at, times, times_numbered}
use Rattle.heap_laws.specs.Table.{EndsAt, Table, IsNumbered, IsTable}
use Rattle.heap_laws.proofs.Appending.{end_link}
use Rattle.heap_laws.proofs.Counts.{one_if, pigeons}
use Rattle.heap_laws.proofs.Orders.{number_of, sorted-one}
use Rattle.heap_laws.proofs.Roots.{root-is}
use Rattle.heap_laws.proofs.Routes.{at-one, around, first_link, IsRoute, leads-one, link_of, pages_on}
use Rattle.heap_laws.proofs.Rows.{entries_numbered, entry_of, keyed-at, numbered-middle, numbered-on, numbered-permutation, row-of, standing}
use Rattle.heap_laws.proofs.Stores.{Among, among, times-chains}
use Rattle.heap_laws.proofs.Counts.{keyed-cons, keyed-middle, keyed-same}

-- a table of a store, singled out, with its way
pub record Reads (size : ℕ) (pages : Pages) (firsts indexes : List ℕ) (first : ℕ) (well : WellFormed size pages firsts indexes) : Type 0 where
  pub one : Among size pages well.chains first
  pub route : IsRoute size pages first one.chain.links
  pub head_at : IsAt size pages first one.lawful.head
  pub few : length one.chain.links ≤ size
  pub some : 1 ≤ length one.chain.links
  pub inside : (p : ℕ) → 0 < times p (pages_of one.chain) → (1 ≤ p) × (p < size)

pub reads : (size : ℕ) (pages : Pages) (firsts indexes : List ℕ) (first : ℕ) (well : WellFormed size pages firsts indexes) → Contains firsts first → Reads size pages firsts indexes first well
reads size pages firsts indexes first well has =
    let one = among size pages firsts indexes first well has in
    let held : (p : ℕ) → times p (pages_held well.chains indexes well.free) ≡ (times p (flat_map pages_of one.before) + (times p (pages_of one.chain) + times p (flat_map pages_of one.behind))) + (times p indexes + times p well.free) =
    λ p. ap (λ (cs : List Chain). times p (pages_held cs indexes well.free)) one.is ∙ times-chains p pages_of one.before one.chain one.behind indexes well.free in
    let room = root-is size pages well.root in
    let within : (p : ℕ) → 0 < times p (pages_of one.chain) → (1 ≤ p) × (p < 1 + (1 + (root_at pages).used)) =
    λ p some. let here = well.inside p (omega (arith, some, held p)) in (here.0, omega (arith, here.1)) in
    let front = first_link size pages one.chain.first one.chain.links one.lawful.head one.lawful.leads one.lawful.at_first in
    record {
      one = one;
      route = record {
        leads = subst (λ (f : ℕ). IsWay size pages f one.chain.links 0) one.named one.lawful.leads;
        sized = one.lawful.sized;
        once = λ p. omega (arith, well.once p, held p);
      };
      head_at = subst (λ (f : ℕ). IsAt size pages f one.lawful.head) one.named one.lawful.at_first;
      few = omega (arith, pigeons (1 + (root_at pages).used) 1 (pages_of one.chain) (λ p. omega (arith, well.once p, held p)) within, room.1.within, length-pages one.chain.links);
      some = omega (arith, ap length front.1);
      inside = λ p some. let here = within p some in (here.0, omega (arith, here.1, room.1.within));
    }
  where
    length-pages : (links : List Link) → length (pages_on links) ≡ length links
    length-pages [] = refl
    length-pages (link ∷ links) = ap suc (length-pages links)

-- a way that stops at a page goes on where another goes on
goes-on : (size : ℕ) (pages : Pages) (from : ℕ) (links whole : List Link) (page : ℕ) → IsWay size pages from links page → IsWay size pages from whole 0 → (page ≡ 0 → ⊥) → (length links < length whole) × (held : HeapPage) × IsAt size pages page held
goes-on size pages from [] [] page leads all named = absurd (named (sym leads ∙ all))
goes-on size pages from [] (w ∷ ws) page leads all named = (omega arith, w.held, subst (λ (p : ℕ). IsAt size pages p w.held) (all.0 ∙ leads) all.1)
goes-on size pages from (l ∷ ls) [] page leads all named = absurd (omega (arith, all, leads.0, leads.1.named))
goes-on size pages from (l ∷ ls) (w ∷ ws) page leads all named =
    let held : l.held ≡ w.held = at-one size size pages from l.held w.held (subst (λ (p : ℕ). IsAt size pages p l.held) leads.0 leads.1) (subst (λ (p : ℕ). IsAt size pages p w.held) all.0 all.1) in
    let more = goes-on size pages w.held.next ls ws page (subst (λ (h : HeapPage). IsWay size pages h.next ls page) held leads.2) all.2 named in
    (omega (arith, more.0), more.1, more.2)

-- a chain that ends is read to its end
pub chain-never : (size : ℕ) (pages : Pages) (first : ℕ) (whole : List Link) (why : Refusal) → IsWay size pages first whole 0 → length whole ≤ size → (first ≡ 0 → ⊥) → chain size pages first (Err why) → ⊥
chain-never size pages first whole why all few named (links, page, e, leads, goes, stops) =
    let more = goes-on size pages first links whole page leads all (open_ links leads goes) in
    stuck more.0 more.1 more.2 stops
  where
    open_ : (links : List Link) → IsWay size pages first links page → IsOpenWay links page → page ≡ 0 → ⊥
    open_ [] leads goes e = named (leads ∙ e)
    open_ (link ∷ links) leads goes e = goes e

    stuck : length links < length whole → (held : HeapPage) → IsAt size pages page held → Stops size pages links page → ⊥
    stuck short held at (inl long) = omega (arith, short, few, long)
    stuck short held at (inr none) = none held at

-- two answers are one
abbrev pub Same : {A : Type 0} → Result A Refusal → Result A Refusal → Type 0
Same r s = r ≡ s

pub ok-one : {A : Type 0} {x y : A} → Same (Ok x) (Ok y) → x ≡ y
ok-one e = cc

pub ok-err : {A P : Type 0} {x : A} {why : Refusal} → Same (Ok x) (Err why) → P
ok-err e = absurd cc

-- the rows of a table, with those of its chain
pub record Rows (size : ℕ) (pages : Pages) (first : ℕ) (table : Table) (links : List Link) (head : HeapPage) : Type 0 where
  pub next_number : head.next_number ≡ table.next_number
  pub permutation : IsPermutation (rows_of links) table.rows
  pub sorted : IsNonDecreasingBy (λ (placed : Placed). placed.number) table.rows

pub rows-read : (size : ℕ) (pages : Pages) (first : ℕ) (table : Table) (links : List Link) (head : HeapPage) → IsTable size pages first table → IsWay size pages first links 0 → IsAt size pages first head → Rows size pages first table links head
rows-read size pages first table links head shows leads at =
    let one : links ≡ shows.rows.0 = leads-one size size pages first links shows.rows.0 leads shows.rows.1.2 in
    let head_is : head ≡ shows.next_number.0 = at-one size size pages first head shows.next_number.0 at shows.next_number.1 in
    record {
      next_number = ap (λ (h : HeapPage). h.next_number) head_is ∙ ok-one shows.next_number.2;
      permutation = subst (λ (l : List Link). IsPermutation (rows_of l) table.rows) (sym one) shows.rows.2.0;
      sorted = shows.rows.2.1;
    }

-- each row's number stands once, below the next row number
pub rows-numbered : (size : ℕ) (pages : Pages) (firsts indexes : List ℕ) (first : ℕ) (table : Table) (well : WellFormed size pages firsts indexes) → Contains firsts first → IsTable size pages first table
    → (number : ℕ) → (times_numbered number table.rows ≤ 1) × (0 < times_numbered number table.rows → number < table.next_number)
rows-numbered size pages firsts indexes first table well has shows number =
    let read = reads size pages firsts indexes first well has in
    let lawful = read.one.lawful in
    let rows = rows-read size pages first table read.one.chain.links lawful.head shows read.route.leads read.head_at in
    let same = numbered-permutation number (rows_of read.one.chain.links) table.rows rows.permutation in
    (omega (arith, same, lawful.differ number), λ some. omega (arith, lawful.below number (omega (arith, some, same)), rows.next_number))

-- a key that stands at two places
keyed-two : (xs : List Placed) (i j : ℕ) (d : Placed) → i < j → j < length xs → (get_or xs i d).number ≡ (get_or xs j d).number → 2 ≤ times_numbered (get_or xs j d).number xs
keyed-two [] i j d lt inside same = absurd (omega (arith, inside))
keyed-two (x ∷ xs) i zero d lt inside same = absurd (omega (arith, lt))
keyed-two (x ∷ xs) zero (suc j) d lt inside same =
    omega (arith, keyed-same number_of (get_or xs j d).number x xs same, keyed-at number_of xs j d (omega (arith, inside)))
keyed-two (x ∷ xs) (suc i) (suc j) d lt inside same =
    omega (arith, keyed-two xs i j d (omega (arith, lt)) (omega (arith, inside)) same, keyed-cons number_of (get_or xs j d).number x xs)

-- the row numbers rise, and lie below the next one
pub table-numbered : (size : ℕ) (pages : Pages) (firsts indexes : List ℕ) (first : ℕ) (table : Table) → WellFormed size pages firsts indexes → Contains firsts first → IsTable size pages first table → IsNumbered table
table-numbered size pages firsts indexes first table well has shows =
    let all = rows-numbered size pages firsts indexes first table well has shows in
    record {
      rise = λ i j d lt inside. elim (cases_lt (get_or table.rows i d).number (get_or table.rows j d).number) [
        | inl less ↦ less
        | inr least ↦
            let up : (get_or table.rows i d).number ≤ (get_or table.rows j d).number = shows.rows.2.1 i j d (omega (arith, lt)) inside in
            absurd (omega (arith, (all (get_or table.rows j d).number).0, keyed-two table.rows i j d lt inside (omega (arith, up, least))))
      ];
      below = λ i d inside. (all (get_or table.rows i d).number).1 (keyed-at number_of table.rows i d inside);
    }

-- a row is found on its page
pub row-got : (size : ℕ) (pages : Pages) (firsts indexes : List ℕ) (first : ℕ) (table : Table) (placed : Placed) (well : WellFormed size pages firsts indexes) → Contains firsts first → IsTable size pages first table
    → Contains table.rows placed → got size pages placed.page placed.number (Ok (Some placed.row))
row-got size pages firsts indexes first table placed well has shows among_rows =
    let read = reads size pages firsts indexes first well has in
    let lawful = read.one.lawful in
    let rows = rows-read size pages first table read.one.chain.links lawful.head shows read.route.leads read.head_at in
    let stands = standing read.one.chain.links placed (Contains-permutation table.rows (rows_of read.one.chain.links) placed (IsPermutation-sym (rows_of read.one.chain.links) table.rows rows.permutation) among_rows) in
    let link = link_of placed.page stands.held in
    let at = around size pages first stands.before link stands.behind (subst (IsRoute size pages first) stands.links_are read.route) in
    let number = placed.number in
    let count = ap (λ (l : List Link). times_numbered number (rows_of l)) stands.links_are ∙ numbered-middle number stands.before link stands.behind in
    let none : entries_numbered number stands.front ≡ 0 =
    omega (arith, lawful.differ number, count, numbered-on number placed.page stands.held, ap (entries_numbered number) stands.entries_are, keyed-middle (λ (e : Entry). e.number) number stands.front (entry_of placed) stands.rest, ap one_if (eq-eqb number number refl)) in
    let found = row-of number stands.front (entry_of placed) stands.rest refl none in
    (stands.held, at.here, rw stands.entries_are (ap (λ (r : Option (List Value)). Ok r) found))

next-never : (size : ℕ) (pages : Pages) (first : ℕ) (head : HeapPage) (why : Refusal) → IsAt size pages first head → next_of size pages first (Err why) → ⊥
next-never size pages first head why at (inl refused) = refused.1 head at
next-never size pages first head why at (inr next) = ok-err next.2

scan-never : (size : ℕ) (pages : Pages) (firsts indexes : List ℕ) (first : ℕ) (why : Refusal) → WellFormed size pages firsts indexes → Contains firsts first → scanned size pages first (Err why) → ⊥
scan-never size pages firsts indexes first why well has refused =
    let read = reads size pages firsts indexes first well has in
    chain-never size pages first read.one.chain.links why read.route.leads read.few (λ e. absurd (omega (arith, e, read.head_at.named))) refused

pub scan-one : (size : ℕ) (pages : Pages) (firsts indexes : List ℕ) (first : ℕ) → WellFormed size pages firsts indexes → Contains firsts first → IsOne (scanned size pages first)
scan-one size pages firsts indexes first well has (Ok xs) (Ok ys) (links, whole, order) (others_, also, other) =
    let read = reads size pages firsts indexes first well has in
    let mine : read.one.chain.links ≡ links = leads-one size size pages first read.one.chain.links links read.route.leads whole.2 in
    let same : links ≡ others_ = leads-one size size pages first links others_ whole.2 also.2 in
    let perm = IsPermutation-trans xs (rows_of links) ys (IsPermutation-sym (rows_of links) xs order.0) (subst (λ (l : List Link). IsPermutation (rows_of l) ys) (sym same) other.0) in
    let once : (n : ℕ) → times_numbered n xs ≤ 1 = λ n. omega (arith, read.one.lawful.differ n, ap (λ (l : List Link). times_numbered n (rows_of l)) mine, numbered-permutation n (rows_of links) xs order.0) in
    ap (λ (l : List Placed). Ok l) (sorted-one xs ys perm once order.1 other.1)
scan-one size pages firsts indexes first well has (Ok xs) (Err why) a refused = absurd (scan-never size pages firsts indexes first why well has refused)
scan-one size pages firsts indexes first well has (Err why) (Ok ys) refused b = absurd (scan-never size pages firsts indexes first why well has refused)
scan-one size pages firsts indexes first well has (Err why) (Err reason) refused b = absurd (scan-never size pages firsts indexes first why well has refused)

-- the page that is named as the last one
pub named-last : (size : ℕ) (pages : Pages) (firsts indexes : List ℕ) (first last : ℕ) (tail : HeapPage) → WellFormed size pages firsts indexes → Contains firsts first → EndsAt size pages first last tail
    → (links : List Link) × chain size pages first (Ok links) × (end_of first links ≡ last) × (tail.next ≡ 0)
named-last size pages firsts indexes first last tail well has ends =
    let read = reads size pages firsts indexes first well has in
    let lawful = read.one.lawful in
    let links = read.one.chain.links in
    let same : lawful.head ≡ ends.head = at-one size size pages first lawful.head ends.head read.head_at ends.at_first in
    let end_is : end_of first links ≡ last = sym (subst (λ (f : ℕ). last_page f lawful.head ≡ end_of f links) read.one.named lawful.names_last) ∙ ap (last_page first) same ∙ ends.named in
    let split = end_link size pages first last links lawful.head tail read.route read.head_at ends.at_last end_is in
    let here = around size pages first split.0 (link_of last tail) [] (subst (IsRoute size pages first) split.1 read.route) in
    (links, (read.some, read.few, read.route.leads), end_is, here.rest)

pub read_law : ReadLaw
read_law size pages firsts indexes first well has = record {
  scan = λ why refused. scan-never size pages firsts indexes first why well has refused;
  next_number = λ why refused.
      let read = reads size pages firsts indexes first well has in
      next-never size pages first read.one.lawful.head why read.head_at refused;
  numbers = λ table shows number. rows-numbered size pages firsts indexes first table well has shows number;
  numbered = λ table shows. table-numbered size pages firsts indexes first table well has shows;
  get = λ table placed shows among_rows. row-got size pages firsts indexes first table placed well has shows among_rows;
  rows_one = scan-one size pages firsts indexes first well has;
  last = λ last tail ends. named-last size pages firsts indexes first last tail well has ends;
}
