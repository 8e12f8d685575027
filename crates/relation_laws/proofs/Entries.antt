-- The entries of the catalog's table.
use Rattle.std.proofs.Common.{◌≡◌, ◌<◌, ◌≤◌, ◌+◌, ◌*◌, ◌^◌, ◌==◌, ℕ, Bool, true, false, List, [], ◌∷◌, length, Ok, Err, refl, sym, ap, subst, arith, length-append}
use Rattle.std.specs.List.{AllByRecursion, Contains}
use Rattle.std.proofs.lemmas.Bool.{eqb-true, leb-true}
use Rattle.std.proofs.lemmas.List.{length-map}
use Rattle.std.proofs.lemmas.List.Concat.{flat_map-cons}
use Rattle.std.proofs.lemmas.List.Sorted.{length_permutation}
use Rattle.retro_base.specs.Fields.{field_bytes}
use Rattle.retro_base.proofs.FieldLaws.{length-field_bytes}
use Rattle.row_codec.specs.RowCode.{row_code}
use Rattle.pager.specs.Pages.{Pages, broken}
use Rattle.heap_file.specs.declared.chain.Link.{Link}
use Rattle.heap_file.specs.declared.chain.Placed.{Placed}
use Rattle.heap_file.specs.declared.page.Entry.{Entry}
use Rattle.heap_file.specs.declared.page.TheConstants.{ENTRY_BYTES}
use Rattle.pager.specs.Allows.{either, only}
use Rattle.heap_file.specs.Chain.{rows_of, rows_on}
use Rattle.heap_file.specs.HeapPage.{entry_bytes, entry_code}
use Rattle.heap_file.specs.Work.{next_of}
use Rattle.heap_laws.specs.Store.{IsSized, WellFormed}
use Rattle.heap_laws.specs.Table.{IsTable, Table as HeapTable}
use Rattle.heap_laws.proofs.Reading.{ok-one, reads, rows-read, scan-one}
use Rattle.heap_laws.proofs.Routes.{rows-cons}
use Rattle.heap_file.proofs.Ones.{differ}
use Rattle.relation.specs.declared.catalog.TheConstants.{CATALOG}
use Rattle.relation.specs.Catalog.{row_told}
use Rattle.relation.specs.Each.{each}
use Rattle.relation_laws.specs.Tables.{IsTableStore}
use Rattle.relation_laws.proofs.Singling.{firsts_of, has-catalog}

entries-few : (entries : List Entry) → length entries ≤ length (entry_bytes entries)
entries-few [] = omega arith
entries-few (entry ∷ entries) =
    omega (arith, ap length (flat_map-cons entry_code entry entries), length-append (entry_code entry) (entry_bytes entries), entries-few entries, some entry)
  where
    some : (entry : Entry) → 1 ≤ length (entry_code entry)
    some entry = omega (arith, length-append (field_bytes 2 (length (row_code entry.number entry.row))) (row_code entry.number entry.row), length-field_bytes 2 (length (row_code entry.number entry.row)))

rows-few : (links : List Link) → AllByRecursion (λ (link : Link). IsSized link.held) links → length (rows_of links) ≤ ENTRY_BYTES * length links
rows-few [] all = omega arith
rows-few (link ∷ links) all =
    omega (arith, ap length (rows-cons link links), length-append (rows_on link) (rows_of links), length-map {B = Placed} link.held.entries (λ (entry : Entry). record { number = entry.number; page = link.page; row = entry.row }), entries-few link.held.entries, leb-true _ _ all.0.page.fits, rows-few links all.1)

-- a table of a store has fewer rows than there are row numbers
pub few-rows : (size : ℕ) (pages : Pages) (firsts indexes : List ℕ) (first : ℕ) (table : HeapTable) → WellFormed size pages firsts indexes → Contains firsts first → IsTable size pages first table → length table.rows + 2 ^ 32 < 2 ^ 64
few-rows size pages firsts indexes first table well has is =
    let read = reads size pages firsts indexes first well has in
    let links = read.one.chain.links in
    let rows = rows-read size pages first table links read.one.lawful.head is read.route.leads read.head_at in
    omega (arith, length_permutation (rows_of links) table.rows rows.permutation, rows-few links read.route.sized, read.few, well.small)

-- the catalog's table: what its rows tell, and its next row number, which is their count
pub record Entries (size : ℕ) (pages : Pages) (store : IsTableStore size pages) : Type 0 where
  pub is_table : IsTable size pages CATALOG (record { next_number = length store.placed; rows = store.placed })
  pub tell : each row_told store.placed (Ok store.told)

pub entries : (size : ℕ) (pages : Pages) (store : IsTableStore size pages) → Entries size pages store
entries size pages store =
    let rows = store.rows in
    let same : rows.0 ≡ store.placed = ok-one (scan-one size pages (firsts_of store.found) store.held CATALOG store.heap (has-catalog store.found) (Ok rows.0) (Ok store.placed) rows.1 store.scan) in
    let counted = count rows.0 rows.2.0 (rows.2.0 == length rows.0) refl rows.2.2 in
    record {
      is_table = record {
        next_number = subst (λ (l : List Placed). next_of size pages CATALOG (Ok (length l))) same (subst (λ (n : ℕ). next_of size pages CATALOG (Ok n)) counted.0 rows.2.1);
        rows = store.scan;
      };
      tell = subst (λ (l : List Placed). each row_told l (Ok store.told)) same counted.1;
    }
  where
    count : (placed : List Placed) (next : ℕ) (b : Bool) → (next == length placed) ≡ b → either b (each row_told placed) (only (Err (broken CATALOG))) (Ok store.told) → (next ≡ length placed) × each row_told placed (Ok store.told)
    count placed next true e h = (eqb-true next (length placed) e, h)
    count placed next false e h = differ store.told (broken CATALOG) (sym h)
