-- The rows of a table can be listed: their values are of the columns' kinds, and their entries can stand in an index.
use Rattle.std.proofs.Common.{◌≡◌, ◌∙◌, ◌<◌, ◌^◌, ◌&&◌, ℕ, zero, suc, Bool, true, false, List, [], ◌∷◌, Option, Some, None, refl, sym, ap, subst, arith}
use Rattle.std.specs.List.{AllByRecursion, Contains}
use Rattle.std.specs.Option.{option_map}
use Rattle.std.specs.Prelude.{slice_get}
use Rattle.std.proofs.lemmas.List.Sorted.{Contains-permutation, IsPermutation-sym}
use Rattle.row_codec.specs.RowCode.{IsValue}
use Rattle.values.specs.Value.{kind_of}
use Rattle.values.specs.declared.value.Kind.{Kind}
use Rattle.values.specs.declared.value.Kind.TheVariants as kind
use Rattle.values.specs.declared.value.Value.{Value}
use Rattle.values.specs.declared.value.Value.TheVariants.{Int, Text}
use Rattle.sql_tree.specs.Rows.{fits, same_kind}
use Rattle.sql_tree.specs.declared.statement.Column.{Column as TableColumn}
use Rattle.pager.specs.Index.{IsIndexed}
use Rattle.pager.specs.Pages.{Pages}
use Rattle.pager.specs.declared.index.Found.{Found}
use Rattle.heap_file.specs.declared.chain.Placed.{Placed}
use Rattle.heap_file.specs.Chain.{rows_of}
use Rattle.heap_file.specs.HeapPage.{IsEntry}
use Rattle.heap_laws.specs.Store.{WellFormed}
use Rattle.heap_laws.specs.Table.{IsTable, Table}
use Rattle.heap_laws.proofs.Reading.{reads, rows-read}
use Rattle.heap_laws.proofs.Routes.{IsRoute, around, link_of}
use Rattle.heap_laws.proofs.Rows.{entry_of as heap_entry, standing}
use Rattle.heap_laws.proofs.Stores.{all-split}
use Rattle.relation.specs.Entries.{entry_of}
use Rattle.relation_laws.proofs.Turning.{CanStand, IsOfKind}

-- the kind of a table's column at a place
abbrev pub kind_in : List TableColumn → ℕ → Kind
kind_in [] place = kind.Int
kind_in (column ∷ columns) zero = column.kind
kind_in (column ∷ columns) (suc place) = kind_in columns place

same-kind-is : (a b : Kind) → same_kind a b ≡ true → a ≡ b
same-kind-is kind.Int kind.Int e = refl
same-kind-is kind.Int kind.Text e = absurd cc
same-kind-is kind.Text kind.Int e = absurd cc
same-kind-is kind.Text kind.Text e = refl

and-parts : (a b : Bool) → (a && b) ≡ true → (a ≡ true) × (b ≡ true)
and-parts true b e = (refl, e)
and-parts false b e = absurd cc

-- a value of a row that fits is of its column's kind
value-kind : (columns : List TableColumn) (row : List Value) (place : ℕ) (value : Value) → fits columns row ≡ true → slice_get row place ≡ Some value → kind_of value ≡ kind_in columns place
value-kind columns [] place value fit at = absurd cc
value-kind [] (v ∷ row) place value fit at = absurd cc
value-kind (column ∷ columns) (v ∷ row) zero value fit at =
    let same : v ≡ value = some-of at in
    ap kind_of (sym same) ∙ sym (same-kind-is column.kind (kind_of v) (and-parts (same_kind column.kind (kind_of v)) (fits columns row) fit).0)
  where
    some-of : Some v ≡ Some value → v ≡ value
    some-of e = cc
value-kind (column ∷ columns) (v ∷ row) (suc place) value fit at = value-kind columns row place value (and-parts (same_kind column.kind (kind_of v)) (fits columns row) fit).1 at

abbrev entry_made : Placed → Option Value → Option Found
entry_made placed value = option_map (λ (value : Value). record { value = value; number = placed.number; page = placed.page }) value

pub entry-kind : (columns : List TableColumn) (place : ℕ) (placed : Placed) → fits columns placed.row ≡ true → IsOfKind (kind_in columns place) (entry_of place placed)
entry-kind columns place placed fit = go (slice_get placed.row place) (λ value at. value-kind columns placed.row place value fit at)
  where
    go : (o : Option Value) → ((value : Value) → o ≡ Some value → kind_of value ≡ kind_in columns place) → IsOfKind (kind_in columns place) (entry_made placed o)
    go None is = tt
    go (Some value) is = is value refl

-- an entry of a table of a well-formed store, on a page of it
pub row-stands : (size : ℕ) (pages : Pages) (firsts indexes : List ℕ) (first : ℕ) (table : Table) (placed : Placed) → WellFormed size pages firsts indexes → Contains firsts first → IsTable size pages first table → Contains table.rows placed
    → IsEntry (heap_entry placed) × (placed.page < 2 ^ 32)
row-stands size pages firsts indexes first table placed well has shows among =
    let read = reads size pages firsts indexes first well has in
    let rows = rows-read size pages first table read.one.chain.links read.one.lawful.head shows read.route.leads read.head_at in
    let stands = standing read.one.chain.links placed (Contains-permutation table.rows (rows_of read.one.chain.links) placed (IsPermutation-sym (rows_of read.one.chain.links) table.rows rows.permutation) among) in
    let here = around size pages first stands.before (link_of placed.page stands.held) stands.behind (subst (IsRoute size pages first) stands.links_are read.route) in
    let all = all-split IsEntry stands.front (heap_entry placed ∷ stands.rest) (subst (AllByRecursion IsEntry) stands.entries_are here.sized_here.page.lawful) in
    (all.1.0, omega (arith, here.here.there, well.small))

value-at : (row : List Value) (place : ℕ) (value : Value) → AllByRecursion IsValue row → slice_get row place ≡ Some value → IsValue value
value-at [] place value all at = absurd cc
value-at (v ∷ row) zero value all at = subst IsValue (some-of at) all.0
  where
    some-of : Some v ≡ Some value → v ≡ value
    some-of e = cc
value-at (v ∷ row) (suc place) value all at = value-at row place value all.1 at

indexed-value : (value : Value) → IsValue value → IsIndexed value
indexed-value (Int n) is = is
indexed-value (Text t) is = is

-- so its entry can stand in an index
pub entry-stands : (columns : List TableColumn) (place : ℕ) (placed : Placed) → fits columns placed.row ≡ true → IsEntry (heap_entry placed) → placed.page < 2 ^ 32 → CanStand (kind_in columns place) (entry_of place placed)
entry-stands columns place placed fit is low = go (slice_get placed.row place) (λ value at. (value-kind columns placed.row place value fit at, value-at placed.row place value is.lawful.values at))
  where
    go : (o : Option Value) → ((value : Value) → o ≡ Some value → (kind_of value ≡ kind_in columns place) × IsValue value) → CanStand (kind_in columns place) (entry_made placed o)
    go None it = tt
    go (Some value) it =
        let one = it value refl in
        (record { value = indexed-value value one.1; number = is.fits; page = low }, one.0)
