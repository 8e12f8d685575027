-- Rows that are added up as they are read, and the answer that they make.
use Rattle.std.proofs.Common.{◌≡◌, ◌∙◌, ◌<◌, ◌≤◌, ◌+◌, ◌-◌, ◌++◌, ℕ, suc, Bool, true, false, List, [], ◌∷◌, length, get_or, map, Option, Some, None, Result, Ok, Err, inl, inr, refl, sym, ap, subst, arith, append_assoc}
use Rattle.std.specs.List.{AllByRecursion}
use Rattle.std.specs.List.Sorted.{IsNonDecreasingBy}
use Rattle.std.proofs.lemmas.Bool.{cases_lt, ltb-false}
use Rattle.std.proofs.lemmas.List.{length-append, map-append}
use Rattle.std.proofs.lemmas.List.Elements.{All-from_recursion}
use Rattle.std.proofs.lemmas.List.Sorted.{IsNonDecreasingBy-push, IsNonDecreasingBy-short, IsPermutation-refl}
use Rattle.retro_base.specs.declared.refusal.Refusal.{Refusal}
use Rattle.values.specs.declared.value.Value.{Value}
use Rattle.sql_tree.specs.declared.schema.TableSchema.{TableSchema}
use Rattle.sql_tree.specs.declared.select.Select.{Select as SelectRecord}
use Rattle.std.specs.Prelude.{◌&&◌, ◌||◌, ◌==◌, is_none, is_some}
use Rattle.sql_tree.specs.Select.{is_grouped}
use Rattle.sql_totals.specs.Totals.{AreOf, is_of_one_group, tally_with}
use Rattle.sql_totals.specs.declared.totals.Totals.{Totals}
use Rattle.heap_file.specs.declared.chain.Placed.{Placed}
use Rattle.heap_file.specs.declared.chain.Link.{Link}
use Rattle.heap_file.specs.Chain.{chain, rows_of}
use Rattle.heap_file.specs.Sieving.{meets}
use Rattle.heap_file.proofs.Sieves.{all-pass}
use Rattle.pager.specs.Pages.{Pages}
use Rattle.relation.specs.Catalog.{table_named}
use Rattle.relation.specs.Sieving.{fitting}
use Rattle.relation.specs.Work.{AllPlacedFit, rows_at, rows_by}
use Rattle.relation.specs.declared.catalog.Catalog.{Catalog}
use Rattle.relation.specs.declared.catalog.StoredTable.{StoredTable}
use Rattle.relation.proofs.Steps.{next_step}
use Rattle.sql_select.specs.declared.answer.Answer.{Answer}
use Rattle.tables.specs.Meaning.{known}
use Rattle.sql_exec.specs.declared.adding.Adding.{Adding}
use Rattle.sql_exec.specs.declared.ranges.Range.{Range}
use Rattle.sql_exec.specs.declared.source.Source.{Source}
use Rattle.sql_exec.specs.Adding.{AreAdded, AreOver, GoesOn, NotSummed, NotSummedOver, Stops, added_or_not, comes_before, is_left_out, last_number}
use Rattle.sql_exec.specs.Asking.{answered, answered_beside, over_one, source_at, source_of, where_alone, where_beside}
use Rattle.sql_exec.specs.Ranges.{plan_of}
use Rattle.sql_exec.specs.Reading.{read_at, read_by, schema_at}
use Rattle.sql_exec.proofs.Leaving.{sifted-left}

abbrev number_of : Placed → ℕ
number_of placed = placed.number

abbrev row_at : Placed → List Value
row_at placed = placed.row

last-of-more : (rows : List Placed) (next : Placed) → last_number (rows ++ next ∷ []) ≡ Some next.number
last-of-more [] next = refl
last-of-more (row ∷ []) next = refl
last-of-more (row ∷ second ∷ rows) next = last-of-more (second ∷ rows) next

-- the last row so far has no number above that of the next
below-next : (rows : List Placed) (next : Placed) → comes_before next (last_number rows) ≡ false → (d : Placed) → 0 < length rows → number_of (get_or rows (length rows - 1) d) ≤ number_of next
below-next [] next late d some = absurd (omega (arith, some))
below-next (row ∷ []) next late d some = ltb-false next.number row.number late
below-next (row ∷ second ∷ rows) next late d some =
    let e : length (row ∷ second ∷ rows) - 1 ≡ suc (length (second ∷ rows) - 1) = omega arith in
    rw e (below-next (second ∷ rows) next late d (omega arith))

-- a row more that was added in its place
pub one-more : (start was now : Adding) (rows : List Placed) (next : Placed) → GoesOn start rows was → comes_before next was.last ≡ false → now.last ≡ Some next.number
    → ((select : SelectRecord) (scope : List TableSchema) (snapshot : Option ℕ) (before : List (List Value)) → AreOf select scope snapshot before was.totals → AreOf select scope snapshot (before ++ next.row ∷ []) now.totals)
    → GoesOn start (rows ++ next ∷ []) now
one-more start was now rows next so_far late last more =
    record {
      rising = IsNonDecreasingBy-push number_of rows next so_far.rising (below-next rows next (subst (λ (l : Option ℕ). comes_before next l ≡ false) so_far.last late));
      last = last ∙ sym (last-of-more rows next);
      totals = λ select scope snapshot begins.
          subst (λ (l : List (List Value)). AreOf select scope snapshot l now.totals) (sym (map-append row_at rows (next ∷ [])))
          (more select scope snapshot (map row_at rows) (so_far.totals select scope snapshot begins));
    }

-- what leaves a row out: one of a higher number before it, or a refusal
pub left-out-behind : (next : Placed) (last : Option ℕ) (totals : Totals) → comes_before next last ≡ true → is_left_out next last totals ≡ true
left-out-behind next last totals behind = rw behind refl

pub left-out-refused : (next : Placed) (last : Option ℕ) (totals : Totals) (why : Refusal) → tally_with next.row totals ≡ Err why → is_left_out next last totals ≡ true
left-out-refused next last totals why refused = rw refused (go (comes_before next last))
  where
    go : (b : Bool) → (b || true) ≡ true
    go true = refl
    go false = refl

-- the first row that is left out
pub stops-here : (start was : Adding) (rows : List Placed) (next : Placed) → GoesOn start rows was → is_left_out next was.last was.totals ≡ true → Stops (AreAdded start.totals) (rows ++ next ∷ [])
stops-here start was rows next so_far left_out = record {
  front = rows;
  next = next;
  rest = [];
  parts = refl;
  totals = was.totals;
  so_far = so_far.totals;
  left_out = subst (λ (l : Option ℕ). is_left_out next l was.totals ≡ true) so_far.last left_out;
}

-- it stays so with a row more
pub stays-stopped : (are : List Placed → Totals → Type 0) (rows : List Placed) (next : Placed) → Stops are rows → Stops are (rows ++ next ∷ [])
stays-stopped are rows next stops = record {
  front = stops.front;
  next = stops.next;
  rest = stops.rest ++ next ∷ [];
  parts = ap (λ (l : List Placed). l ++ next ∷ []) stops.parts ∙ append_assoc stops.front (stops.next ∷ stops.rest) (next ∷ []);
  totals = stops.totals;
  so_far = stops.so_far;
  left_out = stops.left_out;
}

-- the same, as it is told by whether it went on
pub took-or-not : (took : Bool) (start was now : Adding) (rows : List Placed) → added_or_not took start rows was → now.last ≡ was.last → now.totals ≡ was.totals → added_or_not took start rows now
took-or-not true start was now rows on last totals = record {
  rising = on.rising;
  last = last ∙ on.last;
  totals = subst (λ (t : Totals). AreAdded start.totals rows t) (sym totals) on.totals;
}
took-or-not false start was now rows stops last totals = stops

-- and of each select whose totals those at the start were
pub stops-of : (start : Totals) (rows : List Placed) (select : SelectRecord) (scope : List TableSchema) (snapshot : Option ℕ) → AreOver select scope snapshot [] start → Stops (AreAdded start) rows → Stops (AreOver select scope snapshot) rows
stops-of start rows select scope snapshot begins stops = record {
  front = stops.front;
  next = stops.next;
  rest = stops.rest;
  parts = stops.parts;
  totals = stops.totals;
  so_far = stops.so_far select scope snapshot begins;
  left_out = stops.left_out;
}

-- at the start there is none
pub none-yet : (start : Adding) → start.last ≡ None → GoesOn start [] start
none-yet start none = record {
  rising = IsNonDecreasingBy-short number_of [] (omega arith);
  last = none;
  totals = λ select scope snapshot begins. begins;
}

pub none-of : {X : Type 0} (found : Option X) → is_some found ≡ false → found ≡ None
none-of None there = refl
none-of (Some x) there = let not_so : ⊥ = cc in absurd not_so

pub alone-of : (select : SelectRecord) → is_of_one_group select ≡ true → select.second ≡ None
alone-of select one = go select.second (length select.group_by == 0) (is_grouped select) one
  where
    go : (second : Option (List ℕ)) (ungrouped grouped : Bool) → (is_none second && ungrouped && grouped) ≡ true → second ≡ None
    go None ungrouped grouped one = refl
    go (Some name) true grouped one = let not_so : ⊥ = cc in absurd not_so
    go (Some name) false grouped one = let not_so : ⊥ = cc in absurd not_so

-- a table's rows are not added up to the end
pub not-summed : (size : ℕ) (found : Catalog) (query : SelectRecord) (snapshot : Option ℕ) (pages : Pages) (table : StoredTable) → table_named query.table found.tables ≡ Some table
    → meets (Stops (AreOver query (schema_at table ∷ []) snapshot)) size pages table.first [] → NotSummed size found query snapshot pages
not-summed size found query snapshot pages table named stops =
    inr (subst (λ (t : Option StoredTable). NotSummedOver size query snapshot pages t) (sym named) (inr stops))

-- what follows of a table whose rows no index has bounds for
module _ (size : ℕ) (found : Catalog) (query : SelectRecord) (snapshot : Option ℕ) (pages : Pages) (table : StoredTable) (named : table_named query.table found.tables ≡ Some table) (unplanned : plan_of (schema_at table) table.indexes query.condition ≡ None) (alone : query.second ≡ None) where
  -- what its rows are by the whole table
  whole : (a : Result (List Placed) Refusal) → rows_at size pages table a → read_at size pages table (where_alone query) a
  whole a h = subst (λ (s : Option (List ℕ)). read_at size pages table (where_beside s query.condition) a) (sym alone)
      (subst (λ (plan : Option Range). read_by size pages table plan a) (sym unplanned) h)

  is_known : known (table_named query.table found.tables) ≡ Ok table
  is_known = ap known named

  -- a row of it, or a page, is refused
  pub summed-not : (why : Refusal) → rows_by (λ placed. Ok false) size pages table (Err why) → answered size found query snapshot pages (Err why)
  summed-not why refused =
      inl (inr (table, is_known, inl (whole (Err why) (sifted-left table.columns (λ placed. false) size pages table.first (Err why) refused))))

  -- each of its rows was added in its place
  pub summed-one : (links : List Link) → chain size pages table.first (Ok links) → AllPlacedFit table.columns (rows_of links) → IsNonDecreasingBy number_of (rows_of links) → (b : Result Answer Refusal) → over_one query snapshot (source_of table (rows_of links)) ≡ b → answered size found query snapshot pages b
  summed-one links ways fit rising b h =
      let rows = rows_of links in
      let all : rows_at size pages table (Ok rows) = (rows, (links, ways, (IsPermutation-refl rows, rising)), all-pass (fitting table.columns (λ placed. Ok true)) rows (fit-passes rows fit)) in
      let first : source_at size pages (table_named query.table found.tables) (where_alone query) (Ok (source_of table rows)) = (table, is_known, (rows, whole (Ok rows) all, refl)) in
      next_step (source_at size pages (table_named query.table found.tables) (where_alone query)) (λ (source : Source). answered_beside size found query snapshot pages source query.second) (source_of table rows) first b
      (subst (λ (s : Option (List ℕ)). answered_beside size found query snapshot pages (source_of table rows) s b) (sym alone) h)
    where
      fit-passes : (rows : List Placed) → AllPlacedFit table.columns rows → AllByRecursion (λ (row : Placed). fitting table.columns (λ placed. Ok true) row ≡ Ok true) rows
      fit-passes [] fit = tt
      fit-passes (row ∷ rows) fit = (rw fit.0 refl, fit-passes rows fit.1)
