-- How long encoded rows are.
use Rattle.std.proofs.Common.{◌≡◌, ◌≤◌, ◌<◌, ◌+◌, ◌*◌, ◌++◌, ◌∷◌, ◌^◌, ℕ, Bool, true, false, List, [], length, map, take, get_or, Ok, Err, refl, arith, sum_by}
use Rattle.std.specs.List.{AllByRecursion, flat_map}
use Rattle.std.specs.Prelude.{nat_le}
use Rattle.std.proofs.lemmas.Bool.{le-leb, leb-true, lt-leb}
use Rattle.std.proofs.lemmas.List.{take_more}
use Rattle.std.proofs.lemmas.List.Concat.{flat_map-cons}
use Rattle.std.proofs.lemmas.List.Elements.{All-from_recursion, recursion_from_All}
use Rattle.std.proofs.lemmas.List.Sorted.{All-permutation}
use Rattle.std.proofs.lemmas.List.Sums.{sum_by-cons}
use Rattle.retro_base.specs.declared.refusal.Refusal.TheVariants.{RowTooLong}
use Rattle.values.specs.declared.value.Value.{Value}
use Rattle.values.specs.declared.value.Value.TheVariants.{Int, Text}
use Rattle.row_codec.specs.RowCode.{IsRow, IsValue}
use Rattle.row_codec.proofs.Codes.{row_size}
use Rattle.pager.specs.Pages.{Pages}
use Rattle.heap_file.specs.declared.chain.Link.{Link}
use Rattle.heap_file.specs.declared.chain.Placed.{Placed}
use Rattle.relation.specs.declared.drafting.RowChange.{RowChange}
use Rattle.heap_file.specs.declared.page.Entry.{Entry}
use Rattle.heap_file.specs.Chain.{IsWay, rows_of as chain_rows, rows_on, scanned}
use Rattle.heap_file.specs.HeapPage.{IsEntry, IsShort}
use Rattle.heap_laws.proofs.Stores.{all-join}
use Rattle.heap_laws.specs.Table.{IsStorable}
use Rattle.tables.specs.Meaning.{check_lengths}
use Rattle.values.specs.Row.{value_bytes, row_bytes}
use Rattle.sql_exec.specs.Running.{IsOfWidth, values_of}

value-bound : (value : Value) → IsValue value → value_bytes value ≤ 202
value-bound (Int n) is = omega arith
value-bound (Text t) is = omega (arith, is.0)

values-bound : (row : List Value) → AllByRecursion IsValue row → sum_by value_bytes row ≤ 202 * length row
values-bound [] all = omega arith
values-bound (value ∷ row) all = omega (arith, sum_by-cons value_bytes value row, value-bound value all.0, values-bound row all.1)

pub row-bound : (row : List Value) → IsRow row → row_bytes row < 2 ^ 32
row-bound row is = omega (arith, values-bound row is.values, is.few)

-- what the check of lengths lets through, and what it tells
pub one-passes : (row : List Value) → row_bytes row ≤ 900 → check_lengths (row ∷ []) ≡ Ok tt
one-passes row short = rw (le-leb (row_bytes row) 900 short) refl

pub one-told : (row : List Value) → 900 < row_bytes row → check_lengths (row ∷ []) ≡ Err (RowTooLong (row_bytes row))
one-told row long = rw (lt-leb (row_bytes row) 900 long) refl

pub passed-each : (rows : List (List Value)) → check_lengths rows ≡ Ok tt → AllByRecursion (λ (row : List Value). row_bytes row ≤ 900) rows
passed-each [] passes = tt
passed-each (row ∷ rows) passes = go (nat_le (row_bytes row) 900) refl (passed-each rows)
  where
    go : (b : Bool) → nat_le (row_bytes row) 900 ≡ b → (check_lengths rows ≡ Ok tt → AllByRecursion (λ (row : List Value). row_bytes row ≤ 900) rows) → AllByRecursion (λ (row : List Value). row_bytes row ≤ 900) (row ∷ rows)
    go true e rest = (leb-true (row_bytes row) 900 e, rest (rw e at passes))
    go false e rest = absurd (cc (rw e at passes))

pub short-each : (rows : List (List Value)) → AllByRecursion IsOfWidth rows → AllByRecursion (λ (row : List Value). row_bytes row ≤ 900) rows → AllByRecursion IsShort rows
short-each [] wide short = tt
short-each (row ∷ rows) wide short = (record { some = wide.0.0; few = wide.0.1; short = short.0 }, short-each rows wide.1 short.1)

pub storable-each : (rows : List (List Value)) → AllByRecursion IsRow rows → AllByRecursion (λ (row : List Value). row_bytes row ≤ 900) rows → AllByRecursion IsStorable rows
storable-each [] lawful short = tt
storable-each (row ∷ rows) lawful short = (record { fits = omega arith; lawful = lawful.0; code = refl; short = omega (arith, row_size 0 row, short.0) }, storable-each rows lawful.1 short.1)

-- one item more of which it holds
all-push : {A : Type 0} (P : A → Type 0) (xs : List A) (x : A) → AllByRecursion P xs → P x → AllByRecursion P (xs ++ x ∷ [])
all-push P [] x all one = (one, tt)
all-push P (y ∷ xs) x all one = (all.0, all-push P xs x all.1 one)

pub all-next : {A : Type 0} (P : A → Type 0) (xs : List A) (i : ℕ) (x : A) → i < length xs → x ≡ get_or xs i x → AllByRecursion P (take i xs) → P x → AllByRecursion P (take (i + 1) xs)
all-next P xs i x lt is all one = rw (take_more xs i x lt, ← is) (all-push P (take i xs) x all one)

-- stored rows are lawful, and short
abbrev IsKept : Placed → Type 0
IsKept placed = IsRow placed.row × (row_bytes placed.row ≤ 900)

entries-kept : (page : ℕ) (entries : List Entry) → AllByRecursion IsEntry entries → AllByRecursion IsKept (map (λ (entry : Entry). record { number = entry.number; page = page; row = entry.row }) entries)
entries-kept page [] all = tt
entries-kept page (entry ∷ entries) all = ((all.0.lawful, omega (arith, row_size entry.number entry.row, all.0.short)), entries-kept page entries all.1)

links-kept : (size : ℕ) (pages : Pages) (from to : ℕ) (links : List Link) → IsWay size pages from links to → AllByRecursion IsKept (chain_rows links)
links-kept size pages from to [] leads = tt
links-kept size pages from to (link ∷ links) leads = rw (flat_map-cons rows_on link links) (all-join IsKept (rows_on link) (flat_map rows_on links) (entries-kept link.page link.held.entries leads.1.holds.lawful) (links-kept size pages link.held.next to links leads.2))

rows-kept : (size : ℕ) (pages : Pages) (first : ℕ) (rows : List Placed) → scanned size pages first (Ok rows) → AllByRecursion IsKept rows
rows-kept size pages first rows h =
    recursion_from_All IsKept rows (All-permutation IsKept (chain_rows h.0) rows h.2.0 (All-from_recursion IsKept (chain_rows h.0) (links-kept size pages first 0 h.0 h.1.2)))

pub rows-lawful : (size : ℕ) (pages : Pages) (first : ℕ) (rows : List Placed) → scanned size pages first (Ok rows) → AllByRecursion (λ (placed : Placed). IsRow placed.row) rows
rows-lawful size pages first rows h = go rows (rows-kept size pages first rows h)
  where
    go : (rows : List Placed) → AllByRecursion IsKept rows → AllByRecursion (λ (placed : Placed). IsRow placed.row) rows
    go [] all = tt
    go (row ∷ rows) all = (all.0.0, go rows all.1)

pub rows-short : (size : ℕ) (pages : Pages) (first : ℕ) (rows : List Placed) → scanned size pages first (Ok rows) → AllByRecursion (λ (placed : Placed). row_bytes placed.row ≤ 900) rows
rows-short size pages first rows h = go rows (rows-kept size pages first rows h)
  where
    go : (rows : List Placed) → AllByRecursion IsKept rows → AllByRecursion (λ (placed : Placed). row_bytes placed.row ≤ 900) rows
    go [] all = tt
    go (row ∷ rows) all = (all.0.1, go rows all.1)

pub each-row : (P : List Value → Type 0) (changes : List RowChange) → AllByRecursion P (values_of changes) → AllByRecursion (λ (change : RowChange). P change.row) changes
each-row P [] all = tt
each-row P (change ∷ changes) all = (all.0, each-row P changes all.1)
