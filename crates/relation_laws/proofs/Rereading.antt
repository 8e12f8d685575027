-- What is read of the tables.
use Rattle.std.proofs.Common.{◌≡◌, ℕ, List, [], ◌∷◌, map, Result, Ok, refl, sym, subst}
use Rattle.std.specs.List.{AllZip}
use Rattle.retro_base.specs.declared.refusal.Refusal.{Refusal}
use Rattle.sql_tree.specs.declared.schema.Schema.{Schema}
use Rattle.pager.specs.Pages.{Pages}
use Rattle.heap_file.specs.declared.chain.Placed.{Placed}
use Rattle.pager.specs.Allows.{only}
use Rattle.heap_file.specs.Work.{next_of}
use Rattle.heap_file.proofs.Ones.{answers_are_one}
use Rattle.relation.specs.declared.catalog.StoredTable.{StoredTable}
use Rattle.relation.specs.Catalog.{catalog, schema_of}
use Rattle.relation.specs.Work.{rows_at}
use Rattle.relation_laws.specs.Laws.{IsRead, ReadLaw, without_contents}
use Rattle.relation_laws.specs.Tables.{PlainTable, ShowsTable, numbered_row}
use Rattle.relation_laws.proofs.Catalogs.{goes-on}
use Rattle.relation_laws.proofs.Placing.{numbered}
use Rattle.relation_laws.proofs.Singling.{by-name, rows-read, shown-here, single, store-catalog}
use Rattle.relation_laws.proofs.TableStores.{tables_of}

is-read : {A : Type 0} (P : A → Type 0) (answer : Result A Refusal) (x : A) → answer ≡ Ok x → P x → IsRead P answer
is-read P answer x e h = subst (λ (r : Result _ Refusal). IsRead P r) (sym e) h

schemas : (size : ℕ) (pages : Pages) (stored : List StoredTable) (tables : List PlainTable) → AllZip (ShowsTable size pages) stored tables → map (λ (table : StoredTable). record { name = table.name; columns = table.columns }) stored ≡ map without_contents tables
schemas size pages [] [] all = refl
schemas size pages [] (t ∷ ts) all = absurd all
schemas size pages (s ∷ ss) [] all = absurd all
schemas size pages (s ∷ ss) (t ∷ ts) all =
    let rest = schemas size pages ss ts all.1 in
    let name = all.0.name in
    let columns = all.0.columns in
    cc (rest, name, columns)

pub read_law : ReadLaw
read_law = record {
  schema = λ size pages all answer store h.
      let is = tables_of size pages all store in
      let here = shown-here size pages all is in
      let known = goes-on (catalog size pages) (λ found. only (Ok (schema_of found))) is.store.found (store-catalog size pages is.store) answer h in
      is-read (λ (schema : Schema). (schema.tables ≡ map without_contents all.tables) × (schema.indexes ≡ all.indexes)) answer (schema_of is.store.found) (sym known) (schemas size pages is.store.found.tables all.tables here.0, sym here.1);
  rows = λ size pages all table answer store has h.
      let is = tables_of size pages all store in
      let one = single size pages all table is has in
      is-read (λ (rows : List Placed). map numbered_row rows ≡ table.rows) answer one.shows.placed (rows-read size pages all table is one answer (by-name size pages all table is one (rows_at size pages) answer h)) (sym one.shows.rows);
  numbered = λ size pages all table store has. numbered size pages all table (tables_of size pages all store) has;
  next_number = λ size pages all table answer store has h.
      let is = tables_of size pages all store in
      let one = single size pages all table is has in
      is-read (λ (number : ℕ). number ≡ table.next_number) answer table.next_number
      (answers_are_one.next_number size pages one.stored.first answer (Ok table.next_number) (by-name size pages all table is one (λ stored. next_of size pages stored.first) answer h) one.shows.is_table.next_number) refl;
}
