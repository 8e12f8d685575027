-- Rows that are added one after the other.
use Rattle.std.proofs.Common.{◌≡◌, ◌∙◌, ◌<◌, ◌+◌, ◌++◌, ◌^◌, ℕ, true, false, List, [], ◌∷◌, length, map, Ok, Err, inl, inr, refl, sym, ap, subst, arith, append_assoc, append-nil}
use Rattle.std.specs.List.{AllByRecursion, Contains}
use Rattle.std.proofs.lemmas.List.{map-append}
use Rattle.retro_base.specs.declared.refusal.Refusal.{Refusal}
use Rattle.retro_base.specs.declared.refusal.Refusal.TheVariants.{PagesFull}
use Rattle.values.specs.declared.value.Value.{Value}
use Rattle.pager.specs.Pages.{Pages}
use Rattle.heap_file.specs.declared.chain.Placed.{Placed}
use Rattle.heap_laws.specs.Laws.{AreSpared}
use Rattle.heap_laws.specs.Store.{WellFormed}
use Rattle.heap_laws.specs.Table.{IsStorable, IsTable, OthersStay, Table, with_row}
use Rattle.heap_laws.proofs.Adding.{adds-row}
use Rattle.heap_laws.proofs.Reading.{ok-one}
use Rattle.heap_laws.proofs.Staying.{indexes_stay_law}
use Rattle.heap_laws.proofs.Stores.{all-join}
use Rattle.relation.specs.declared.catalog.StoredTable.{StoredTable}
use Rattle.relation.specs.Work.{all_added, all_placed}
use Rattle.sql_tree.specs.Rows.{fits}
use Rattle.relation_laws.specs.Laws.{IsRowFor, with_rows}
use Rattle.relation_laws.specs.Tables.{PlainTable, ShowsTable, numbered, numbered_row}
use Rattle.relation_laws.proofs.Reaching.{Spares, added-spares, spares-none, spares-then, untouched-then}
use Rattle.pager.proofs.Turns.{left_pages}

-- Rows were added to the table that begins with a page: they stand last, in order, under the next row numbers. The other
-- tables are as they were, and so are the other pages that are held.
pub record Extends (size : ℕ) (pages : Pages) (firsts indexes : List ℕ) (first : ℕ) (table : Table) (rows_added : List (List Value)) (more : List Placed) (after : Pages) : Type 0 where
  pub is_table : IsTable size after first (record { next_number = table.next_number + length rows_added; rows = table.rows ++ more })
  pub are : map numbered_row more ≡ numbered table.next_number rows_added
  pub others : OthersStay size pages after firsts first
  pub well : WellFormed size after firsts indexes
  pub spares : Spares false size pages after firsts first
  pub spared : AreSpared indexes pages after

-- rows that are added stand somewhere
pub added-placed : (size first : ℕ) (rows : List (List Value)) (pages after : Pages) → all_added size first rows pages (Ok (tt, after)) → (placed : List Placed) × all_placed size first rows pages (Ok (placed, after))
added-placed size first [] pages after h = ([], ap (λ (p : Pages). Ok ([], p)) (left_pages pages after h))
added-placed size first (row ∷ rows) pages after h =
    let rest = added-placed size first rows h.0.1 after h.2 in
    let placed : Placed = record { number = h.0.0.0; page = h.0.0.1; row = row } in
    (placed ∷ rest.0, ((placed, h.0.1), (h.0, h.1, refl), ((rest.0, after), rest.1, refl)))

pub extended : (size : ℕ) (pages after : Pages) (firsts indexes : List ℕ) (first : ℕ) (table : Table) (rows : List (List Value)) (placed : List Placed) → WellFormed size pages firsts indexes → Contains firsts first → IsTable size pages first table → AllByRecursion IsStorable rows → table.next_number + length rows < 2 ^ 64 → all_placed size first rows pages (Ok (placed, after))
    → Extends size pages firsts indexes first table rows placed after
extended size pages after firsts indexes first table [] placed well among is storable room h =
    subst (λ (p : List Placed × Pages). Extends size pages firsts indexes first table [] p.0 p.1) (ok-one h) none
  where
    next : table.next_number ≡ table.next_number + 0
    next = omega arith

    none : Extends size pages firsts indexes first table [] [] pages
    none = record {
      is_table = subst (λ (n : ℕ). IsTable size pages first (record { next_number = n; rows = table.rows ++ [] })) next (subst (λ (rows : List Placed). IsTable size pages first (record { next_number = table.next_number; rows = rows })) (sym (append-nil table.rows)) is);
      are = refl;
      others = λ other there apart t told. told;
      well = well;
      spares = spares-none false size pages firsts first;
      spared = λ page has. (refl, refl);
    }
extended size pages after firsts indexes first table (row ∷ rows) placed well among is storable room (next, (at, add, made), (rest, more, joined)) =
    let stands : Placed = record { number = at.0.0; page = at.0.1; row = row } in
    let here = ok-one made in
    let one = adds-row size pages firsts indexes first table row (Ok at) well among is storable.0 (omega (arith, room)) add in
    let whole = ok-one joined in
    let behind : all_placed size first rows at.1 (Ok rest) = subst (λ (q : Placed × Pages). all_placed size first rows q.1 (Ok rest)) (sym here) more in
    let follow = extended size at.1 rest.1 firsts indexes first (with_row table at.0.1 row) rows rest.0 one.well among one.shows storable.1 (omega (arith, room)) behind in
    let last : Placed = record { number = table.next_number; page = at.0.1; row = row } in
    let lasts : last ≡ next.0 = (λ i. record { number = sym one.number i; page = at.0.1; row = row }) ∙ ap (λ (q : Placed × Pages). q.0) here in
    let count : (table.next_number + 1) + length rows ≡ table.next_number + length (row ∷ rows) = omega arith in
    subst (λ (p : List Placed × Pages). Extends size pages firsts indexes first table (row ∷ rows) p.0 p.1) whole
    (subst (λ (p : Placed). Extends size pages firsts indexes first table (row ∷ rows) (p ∷ rest.0) rest.1) lasts (record {
      is_table = subst (λ (n : ℕ). IsTable size rest.1 first (record { next_number = n; rows = table.rows ++ last ∷ rest.0 })) count (subst (λ (held : List Placed). IsTable size rest.1 first (record { next_number = (table.next_number + 1) + length rows; rows = held })) (append_assoc table.rows (last ∷ []) rest.0) follow.is_table);
      are = ap (λ (l : List (ℕ × List Value)). (table.next_number, row) ∷ l) follow.are;
      others = λ other there apart t told. follow.others other there apart t (one.others other there apart t told);
      well = follow.well;
      spares = spares-then false size pages at.1 rest.1 firsts first (added-spares size pages at.1 firsts indexes first table row at.0 well among one) follow.spares;
      spared = λ page has. untouched-then pages at.1 rest.1 page (indexes_stay_law.add size pages at.1 firsts indexes first table row at.0 well among one page has) (follow.spared page has);
    }))

pub full : (size : ℕ) (pages : Pages) (firsts indexes : List ℕ) (first : ℕ) (table : Table) (rows : List (List Value)) (why : Refusal) → WellFormed size pages firsts indexes → Contains firsts first → IsTable size pages first table → AllByRecursion IsStorable rows → table.next_number + length rows < 2 ^ 64 → all_added size first rows pages (Err why) → why ≡ PagesFull size
full size pages firsts indexes first table [] why well among is storable room h = absurd cc
full size pages firsts indexes first table (row ∷ rows) why well among is storable room (inl h) =
    (adds-row size pages firsts indexes first table row (Err why) well among is storable.0 (omega (arith, room)) h).0
full size pages firsts indexes first table (row ∷ rows) why well among is storable room (inr h) =
    let placed = h.0.0 in
    let one = adds-row size pages firsts indexes first table row (Ok h.0) well among is storable.0 (omega (arith, room)) h.1 in
    full size h.0.1 firsts indexes first (with_row table placed.1 row) rows why one.well among one.shows storable.1 (omega (arith, room)) h.2

pub storable-rows : (table : PlainTable) (rows : List (List Value)) → AllByRecursion (IsRowFor table) rows → AllByRecursion IsStorable rows
storable-rows table [] all = tt
storable-rows table (row ∷ rows) all = (all.0.0, storable-rows table rows all.1)

pub fitting-rows : (table : PlainTable) (next : ℕ) (rows : List (List Value)) → AllByRecursion (IsRowFor table) rows → AllByRecursion (λ (row : ℕ × List Value). fits table.columns row.1 ≡ true) (numbered next rows)
fitting-rows table next [] all = tt
fitting-rows table next (row ∷ rows) all = (all.0.1, fitting-rows table (next + 1) rows all.1)

-- what the pages show of a table with more rows
pub longer-shows : (size : ℕ) (pages after : Pages) (firsts indexes : List ℕ) (stored : StoredTable) (table : PlainTable) (rows : List (List Value)) (more : List Placed) (shows : ShowsTable size pages stored table) → AllByRecursion (IsRowFor table) rows
    → Extends size pages firsts indexes stored.first (record { next_number = table.next_number; rows = shows.placed }) rows more after → ShowsTable size after stored (with_rows rows table)
longer-shows size pages after firsts indexes stored table rows more shows all ext = record {
  name = shows.name;
  columns = shows.columns;
  placed = shows.placed ++ more;
  is_table = ext.is_table;
  rows = ap (λ (l : List (ℕ × List Value)). l ++ numbered table.next_number rows) shows.rows ∙ ap (λ (l : List (ℕ × List Value)). map numbered_row shows.placed ++ l) (sym ext.are) ∙ sym (map-append numbered_row shows.placed more);
  fitting = all-join (λ (row : ℕ × List Value). fits table.columns row.1 ≡ true) table.rows (numbered table.next_number rows) shows.fitting (fitting-rows table table.next_number rows all);
}
