-- Rows that are tested as they are read: those that pass are those that the test leaves of all.
use Rattle.std.proofs.Common.{◌≡◌, ◌∙◌, ℕ, Bool, true, false, cond, List, [], ◌∷◌, Option, Some, None, Result, Ok, Err, inl, inr, refl, sym, ap, subst}
use Rattle.std.specs.List.{AllByRecursion, cons_option, filter}
use Rattle.retro_base.specs.Gives.{◌>>=◌}
use Rattle.retro_base.specs.declared.refusal.Refusal.{Refusal}
use Rattle.values.specs.declared.value.Value.{Value}
use Rattle.sql_tree.specs.Condition.{ConditionTree}
use Rattle.sql_tree.specs.Rows.{fits}
use Rattle.sql_tree.specs.declared.statement.Column.{Column}
use Rattle.sql_select.specs.Rows.{holds_at}
use Rattle.pager.specs.Pages.{Pages, broken}
use Rattle.pager.specs.declared.index.Found.{Found}
use Rattle.heap_file.specs.declared.chain.Placed.{Placed}
use Rattle.heap_file.specs.Chain.{rows_of}
use Rattle.heap_file.specs.Sieving.{passing, sifted}
use Rattle.heap_file.proofs.Ones.{differ}
use Rattle.relation.specs.declared.catalog.StoredTable.{StoredTable}
use Rattle.relation.specs.Each.{each_some}
use Rattle.relation.specs.Sieving.{fitting}
use Rattle.relation.specs.Work.{ranged_at, ranged_by, row_found, rows_at, rows_by}
use Rattle.tree_index.specs.Work.{ranged}
use Rattle.sql_exec.specs.declared.ranges.Range.{Range}
use Rattle.sql_exec.specs.Bound.{left_at, left_of, passes_by, stays, stays_by}
use Rattle.sql_exec.specs.Planning.{picked}
use Rattle.sql_exec.specs.Ranges.{plan_of}
use Rattle.sql_exec.specs.Reading.{read_by, schema_at}
use Rattle.sql_exec.proofs.Sifting.{picked-without}

-- the row of an entry, where it stands
abbrev at_entry : Found → List Value → Placed
at_entry entry row = record { number = entry.number; page = entry.page; row = row }

module _ (columns : List Column) (test : Placed → Bool) where
  abbrev some : Placed → Result Bool Refusal
  some = fitting columns (λ placed. Ok (test placed))

  abbrev every : Placed → Result Bool Refusal
  every = fitting columns (λ placed. Ok true)

  abbrev leave : Result (List Placed) Refusal → Result (List Placed) Refusal
  leave r = r >>= (λ (all : List Placed). Ok (filter test all))

  -- the rows of a list
  passing-left : (rows : List Placed) → passing some rows ≡ leave (passing every rows)
  passing-left [] = refl
  passing-left (row ∷ rows) = go (fits columns row.row) (passing-left rows)
    where
      more : (r : Result (List Placed) Refusal) → (leave r >>= (λ (others : List Placed). Ok (cond (test row) (row ∷ others) others))) ≡ leave (r >>= (λ (others : List Placed). Ok (row ∷ others)))
      more (Ok all) = refl
      more (Err why) = refl

      go : (b : Bool) → passing some rows ≡ leave (passing every rows)
          → (cond b (Ok (test row)) (Err (broken row.page)) >>= (λ (stays : Bool). passing some rows >>= (λ (others : List Placed). Ok (cond stays (row ∷ others) others))))
          ≡ leave (cond b (Ok true) (Err (broken row.page)) >>= (λ (stays : Bool). passing every rows >>= (λ (others : List Placed). Ok (cond stays (row ∷ others) others))))
      go true same = ap (λ (r : Result (List Placed) Refusal). r >>= (λ (others : List Placed). Ok (cond (test row) (row ∷ others) others))) same ∙ more (passing every rows)
      go false same = refl

  passing-all : (rows all : List Placed) → passing every rows ≡ Ok all → passing some rows ≡ Ok (filter test all)
  passing-all rows all e = passing-left rows ∙ ap leave e

  passing-not : (rows : List Placed) (why : Refusal) → passing every rows ≡ Err why → passing some rows ≡ Err why
  passing-not rows why e = passing-left rows ∙ ap leave e

  -- the rows of a table
  pub sifted-left : (size : ℕ) (pages : Pages) (first : ℕ) (a : Result (List Placed) Refusal) → sifted some size pages first a → left_of test (sifted every size pages first) a
  sifted-left size pages first (Ok left) (rows, read, e) = go (passing every rows) refl
    where
      go : (r : Result (List Placed) Refusal) → passing every rows ≡ r → left_of test (sifted every size pages first) (Ok left)
      go (Ok all) s =
          let is : Ok left ≡ Ok (filter test all) = sym e ∙ passing-all rows all s in
          let same : left ≡ filter test all = cc is in
          (all, (rows, read, s), same)
      go (Err why) s = differ left why (sym e ∙ passing-not rows why s)
  sifted-left size pages first (Err why) (inl stops) = inl stops
  sifted-left size pages first (Err why) (inr (links, to, way, e)) = go (passing every (rows_of links)) refl
    where
      go : (r : Result (List Placed) Refusal) → passing every (rows_of links) ≡ r → sifted every size pages first (Err why)
      go (Ok all) s = differ (filter test all) why (sym (passing-all (rows_of links) all s) ∙ e)
      go (Err other) s = inr (links, to, way, s ∙ sym (passing-not (rows_of links) other s) ∙ e)

  -- the row of an entry
  found-left : (size : ℕ) (pages : Pages) (entry : Found) (found : Option Placed) → row_found some size pages entry (Ok found)
      → (whole : Option Placed) × row_found every size pages entry (Ok whole) × ((rows : List Placed) → cons_option found (filter test rows) ≡ filter test (cons_option whole rows))
  found-left size pages entry found (None, held, e) =
      let none : None ≡ found = cc e in
      (None, (None, held, refl), λ rows. ap (λ (f : Option Placed). cons_option f (filter test rows)) (sym none))
  found-left size pages entry found (Some row, held, e) = go (fits columns row) refl
    where
      by : (b : Bool) (rows : List Placed) → cons_option (cond b (Some (at_entry entry row)) None) rows ≡ cond b (at_entry entry row ∷ rows) rows
      by true rows = refl
      by false rows = refl

      go : (b : Bool) → fits columns row ≡ b → (whole : Option Placed) × row_found every size pages entry (Ok whole) × ((rows : List Placed) → cons_option found (filter test rows) ≡ filter test (cons_option whole rows))
      go true f =
          let is : Ok (cond (test (at_entry entry row)) (Some (at_entry entry row)) None) ≡ Ok found = sym (ap (λ (b : Bool). cond b (Ok (test (at_entry entry row))) (Err (broken entry.page)) >>= (λ (stays : Bool). Ok (cond stays (Some (at_entry entry row)) None))) f) ∙ e in
          let same : cond (test (at_entry entry row)) (Some (at_entry entry row)) None ≡ found = cc is in (
            Some (at_entry entry row),
            (Some row, held, ap (λ (b : Bool). cond b (Ok true) (Err (broken entry.page)) >>= (λ (stays : Bool). Ok (cond stays (Some (at_entry entry row)) None))) f),
            λ rows. ap (λ (o : Option Placed). cons_option o (filter test rows)) (sym same) ∙ by (test (at_entry entry row)) (filter test rows),
          )
      go false f =
          let no : Err (broken entry.page) ≡ Ok found = sym (ap (λ (b : Bool). cond b (Ok (test (at_entry entry row))) (Err (broken entry.page)) >>= (λ (stays : Bool). Ok (cond stays (Some (at_entry entry row)) None))) f) ∙ e in
          differ found (broken entry.page) (sym no)

  found-not : (size : ℕ) (pages : Pages) (entry : Found) (why : Refusal) → row_found some size pages entry (Err why) → row_found every size pages entry (Err why)
  found-not size pages entry why (inl refused) = inl refused
  found-not size pages entry why (inr (None, held, e)) = differ _ why e
  found-not size pages entry why (inr (Some row, held, e)) = go (fits columns row) refl
    where
      go : (b : Bool) → fits columns row ≡ b → row_found every size pages entry (Err why)
      go true f = differ _ why (sym (ap (λ (b : Bool). cond b (Ok (test (at_entry entry row))) (Err (broken entry.page)) >>= (λ (stays : Bool). Ok (cond stays (Some (at_entry entry row)) None))) f) ∙ e)
      go false f =
          let same = ap (λ (b : Bool). cond b (Ok (test (at_entry entry row))) (Err (broken entry.page)) >>= (λ (stays : Bool). Ok (cond stays (Some (at_entry entry row)) None))) f in
          inr (Some row, held, ap (λ (b : Bool). cond b (Ok true) (Err (broken entry.page)) >>= (λ (stays : Bool). Ok (cond stays (Some (at_entry entry row)) None))) f ∙ sym same ∙ e)

  -- the rows of entries
  each-left : (size : ℕ) (pages : Pages) (entries : List Found) (a : Result (List Placed) Refusal) → each_some (row_found some size pages) entries a → left_of test (each_some (row_found every size pages) entries) a
  each-left size pages [] (Ok left) h = let same : [] ≡ left = cc h in ([], refl, sym same)
  each-left size pages [] (Err why) h = differ _ why h
  each-left size pages (entry ∷ entries) (Ok left) (found, here, (others, rest, e)) =
      let one = found-left size pages entry found here in
      let more = each-left size pages entries (Ok others) rest in
      let same : cons_option found others ≡ left = cc e in
      (cons_option one.0 more.0, (one.0, one.1, (more.0, more.1, refl)), sym same ∙ ap (λ (l : List Placed). cons_option found l) more.2 ∙ one.2 more.0)
  each-left size pages (entry ∷ entries) (Err why) (inl refused) = inl (found-not size pages entry why refused)
  each-left size pages (entry ∷ entries) (Err why) (inr (found, here, inl refused)) =
      let one = found-left size pages entry found here in
      inr (one.0, one.1, inl (each-left size pages entries (Err why) refused))
  each-left size pages (entry ∷ entries) (Err why) (inr (found, here, inr (others, rest, e))) = differ _ why e

-- the rows that an index finds
ranged-left : (test : Placed → Bool) (size : ℕ) (pages : Pages) (table : StoredTable) (range : Range) (a : Result (List Placed) Refusal) → ranged_by (λ placed. Ok (test placed)) ranged size pages table range.index range.low range.high a → left_of test (ranged_at ranged size pages table range.index range.low range.high) a
ranged-left test size pages table range (Ok left) (found, listed, (sorted, order, h)) =
    let rows = each-left table.columns test size pages sorted (Ok left) h in
    (rows.0, (found, listed, (sorted, order, rows.1)), rows.2)
ranged-left test size pages table range (Err why) (inl refused) = inl refused
ranged-left test size pages table range (Err why) (inr (found, listed, inl refused)) = inr (found, listed, inl refused)
ranged-left test size pages table range (Err why) (inr (found, listed, inr (sorted, order, h))) =
    inr (found, listed, inr (sorted, order, each-left table.columns test size pages sorted (Err why) h))

-- ---- what a statement reads whose WHERE is this

module _ (size : ℕ) (snapshot : Option ℕ) (pages : Pages) (table : StoredTable) (condition : Option ConditionTree) (a : Result (List Placed) Refusal) where
  abbrev holds : List Value → Result Bool Refusal
  holds = holds_at (schema_at table ∷ []) snapshot condition

  pub rows-left : plan_of (schema_at table) table.indexes condition ≡ None → rows_by (passes_by holds) size pages table a → left_at size snapshot pages table condition a
  rows-left e h = subst (λ (plan : Option Range). left_of (stays_by holds) (read_by size pages table plan) a) (sym e)
      (sifted-left table.columns (stays_by holds) size pages table.first a h)

  pub range-left : (range : Range) → plan_of (schema_at table) table.indexes condition ≡ Some range → ranged_by (passes_by holds) ranged size pages table range.index range.low range.high a → left_at size snapshot pages table condition a
  range-left range e h = subst (λ (plan : Option Range). left_of (stays_by holds) (read_by size pages table plan) a) (sym e)
      (ranged-left (stays_by holds) size pages table range a h)

-- no row is left out without a condition
pub filter-true : (rows : List Placed) → filter (λ placed. true) rows ≡ rows
filter-true [] = refl
filter-true (row ∷ rows) = ap (λ (rest : List Placed). row ∷ rest) (filter-true rows)

pub all-left : (size : ℕ) (snapshot : Option ℕ) (pages : Pages) (table : StoredTable) (a : Result (List Placed) Refusal) → rows_at size pages table a → left_at size snapshot pages table None a
all-left size snapshot pages table (Ok rows) h = (rows, h, sym (filter-true rows))
all-left size snapshot pages table (Err why) h = h

-- ---- what is left out counts for nothing

false-of : (r : Result Bool Refusal) → stays r ≡ false → r ≡ Ok false
false-of (Ok holds) e = ap (λ (b : Bool). Ok b) e
false-of (Err why) e = let no : ⊥ = cc in absurd no

pub left-out : (holds : List Value → Result Bool Refusal) (rows : List Placed) → AllByRecursion (λ (placed : Placed). stays_by holds placed ≡ false → holds placed.row ≡ Ok false) rows
left-out holds [] = tt
left-out holds (row ∷ rows) = ((λ out. false-of (holds row.row) out), left-out holds rows)

pub picked-left : {B : Type 0} (holds : List Value → Result Bool Refusal) (step : Placed → Result (List B) Refusal) (rows left : List Placed) → ((placed : Placed) → holds placed.row ≡ Ok false → step placed ≡ Ok []) → left ≡ filter (stays_by holds) rows → picked step left ≡ picked step rows
picked-left holds step rows left nothing same =
    ap (picked step) same ∙ picked-without holds step (stays_by holds) rows (left-out holds rows) nothing
