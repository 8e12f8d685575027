-- Rows where they stand, and under their numbers.
use Rattle.std.proofs.Common.{◌≡◌, ◌∙◌, ◌<◌, ℕ, zero, suc, List, [], ◌∷◌, length, get_or, map, Ok, inl, inr, refl, sym, ap, subst, arith}
use Rattle.std.specs.List.{AllByRecursion, Contains}
use Rattle.std.proofs.lemmas.Bool.Decides.{eqb_tells}
use Rattle.values.specs.declared.value.Value.{Value}
use Rattle.pager.specs.Pages.{Pages}
use Rattle.heap_file.specs.declared.chain.Placed.{Placed}
use Rattle.pager.specs.Allows.{only}
use Rattle.heap_laws.proofs.Orders.{number_of}
use Rattle.heap_laws.proofs.Reading.{ok-one, rows-numbered, table-numbered}
use Rattle.relation.specs.declared.catalog.StoredTable.{StoredTable}
use Rattle.relation.specs.declared.drafting.RowChange.{RowChange}
use Rattle.relation.specs.Each.{each}
use Rattle.relation.specs.Work.{change_of, placed_of, rows_at, table_in}
use Rattle.relation_laws.specs.Laws.{IsNumbered, IsStoreOf, PlacedLaw, numbered_change}
use Rattle.relation_laws.specs.Tables.{PlainTable, PlainTables, numbered_row}
use Rattle.relation_laws.proofs.Lists.{contains-cases, contains-cons, contains-head, keyed-one}
use Rattle.relation_laws.proofs.Singling.{Single, firsts_of, has-first, named-in, rows-read, single}
use Rattle.relation_laws.proofs.TableStores.{IsTableStoreOf, tables_of}

-- a row under its number, at its place
map-at : (rows : List Placed) (i : ℕ) (d : ℕ × List Value) (e : Placed) → i < length rows → (get_or (map numbered_row rows) i d).0 ≡ (get_or rows i e).number
map-at [] i d e lt = absurd (omega (arith, lt))
map-at (row ∷ rows) zero d e lt = refl
map-at (row ∷ rows) (suc i) d e lt = map-at rows i d e (omega (arith, lt))

map-long : (rows : List Placed) → length (map numbered_row rows) ≡ length rows
map-long [] = refl
map-long (row ∷ rows) = ap suc (map-long rows)

pub numbered : (size : ℕ) (pages : Pages) (all : PlainTables) (table : PlainTable) → IsTableStoreOf size pages all → Contains all.tables table → IsNumbered table
numbered size pages all table is has =
    let one = single size pages all table is has in
    let rows = one.shows.placed in
    let told = table-numbered size pages (firsts_of is.store.found) is.store.held one.stored.first (record { next_number = table.next_number; rows = rows }) is.store.heap (has-first is.store.found one.stored one.has) one.shows.is_table in
    let some : Placed = record { number = 0; page = 0; row = [] } in
    let long : length table.rows ≡ length rows = ap length one.shows.rows ∙ map-long rows in
    let at : (i : ℕ) (d : ℕ × List Value) → i < length rows → (get_or table.rows i d).0 ≡ (get_or rows i some).number = λ i d lt. ap (λ (r : List (ℕ × List Value)). (get_or r i d).0) one.shows.rows ∙ map-at rows i d some lt in
    record {
      rise = λ i j d below_ lt. omega (arith, at i d (omega (arith, below_, lt, long)), at j d (omega (arith, lt, long)), told.rise i j some below_ (omega (arith, lt, long)));
      below = λ i d lt. omega (arith, at i d (omega (arith, lt, long)), told.below i some (omega (arith, lt, long)));
    }

-- the row that is found under its number is the only one
found-one : (first number : ℕ) (rows : List Placed) (placed : Placed) → Contains rows placed → placed.number ≡ number → ((other : Placed) → Contains rows other → other.number ≡ number → other ≡ placed) → placed_of first number rows ≡ Ok placed
found-one first number [] placed has is one = absurd (omega (arith, has.1))
found-one first number (row ∷ rows) placed has is one = elim (eqb_tells row.number number) [
  | inl same ↦ rw same.0 (ap (λ (p : Placed). Ok p) (one row (contains-head row rows) same.1))
  | inr differ ↦ rw differ.0 (found-one first number rows placed (contains-cases row placed rows has (λ here. absurd (differ.1 (ap (λ (p : Placed). p.number) here ∙ is))) (λ there. there)) is (λ other also. one other (contains-cons other row rows also)))
]

pub placed-found : (size : ℕ) (pages : Pages) (all : PlainTables) (table : PlainTable) (is : IsTableStoreOf size pages all) (one : Single size pages all table is) (placed : Placed) → Contains one.shows.placed placed → placed_of one.stored.first placed.number one.shows.placed ≡ Ok placed
placed-found size pages all table is one placed among =
    let numbers = rows-numbered size pages (firsts_of is.store.found) is.store.held one.stored.first (record { next_number = table.next_number; rows = one.shows.placed }) is.store.heap (has-first is.store.found one.stored one.has) one.shows.is_table placed.number in
    found-one one.stored.first placed.number one.shows.placed placed among refl (λ other also same. keyed-one number_of placed.number one.shows.placed other placed numbers.0 also among same refl)

told : (size : ℕ) (pages : Pages) (all : PlainTables) (table : PlainTable) (stored : StoredTable) (rows : List Placed) (placed : Placed) → IsStoreOf size pages all → Contains all.tables table → table_in size pages table.name (Ok stored) → rows_at size pages stored (Ok rows) → Contains rows placed → placed_of stored.first placed.number rows ≡ Ok placed
told size pages all table stored rows placed store has named read among =
    let is = tables_of size pages all store in
    let one = single size pages all table is has in
    let same : stored ≡ one.stored = ok-one (named-in size pages all table is one (Ok stored) named) in
    let shown : rows ≡ one.shows.placed = ok-one (rows-read size pages all table is one (Ok rows) (subst (λ (t : StoredTable). rows_at size pages t (Ok rows)) same read)) in
    subst (λ (t : StoredTable). placed_of t.first placed.number rows ≡ Ok placed) (sym same)
    (subst (λ (r : List Placed). placed_of one.stored.first placed.number r ≡ Ok placed) (sym shown) (placed-found size pages all table is one placed (subst (λ (r : List Placed). Contains r placed) shown among)))

changes : (first : ℕ) (rows : List Placed) (list : List RowChange) → AllByRecursion (λ (change : RowChange). placed_of first change.was.number rows ≡ Ok change.was) list → each (change_of first rows) (map numbered_change list) (Ok list)
changes first rows [] at = refl
changes first rows (change ∷ list) at = (change, (change.was, at.0, refl), (list, changes first rows list at.1, refl))

removes : (first : ℕ) (rows list : List Placed) → AllByRecursion (λ (placed : Placed). placed_of first placed.number rows ≡ Ok placed) list → each (λ number. only (placed_of first number rows)) (map (λ (placed : Placed). placed.number) list) (Ok list)
removes first rows [] at = refl
removes first rows (placed ∷ list) at = (placed, at.0, (list, removes first rows list at.1, refl))

pub placed_law : PlacedLaw
placed_law = record { told = told; changes = changes; removes = removes }
