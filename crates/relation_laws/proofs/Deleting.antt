-- Rows that are taken out one after the other.
use Rattle.std.proofs.Common.{◌≡◌, ◌≢◌, ◌∙◌, ◌==◌, ◌||◌, not, cond, ℕ, Bool, true, false, List, [], ◌∷◌, map, filter, Ok, Err, Result, inl, inr, refl, sym, ap, subst, arith}
use Rattle.std.specs.List.{AllByRecursion, Contains, list_any}
use Rattle.std.proofs.lemmas.Bool.{eqb-true}
use Rattle.std.proofs.lemmas.Bool.Decides.{eqb_tells}
use Rattle.retro_base.specs.declared.refusal.Refusal.{Refusal}
use Rattle.values.specs.declared.value.Value.{Value}
use Rattle.pager.specs.Pages.{Pages}
use Rattle.heap_file.specs.declared.chain.Placed.{Placed}
use Rattle.heap_file.specs.Work.{removed}
use Rattle.heap_laws.specs.Store.{WellFormed}
use Rattle.heap_laws.specs.Table.{IsTable, OthersStay, Table, without_row}
use Rattle.heap_laws.proofs.Removing.{removes-row}
use Rattle.relation.specs.declared.catalog.StoredTable.{StoredTable}
use Rattle.relation.proofs.Halves.{page_of, row_removed}
use Rattle.sql_tree.specs.Rows.{fits}
use Rattle.relation_laws.specs.Laws.{without_rows}
use Rattle.relation_laws.specs.Tables.{AreDifferent, PlainTable, ShowsTable, numbered_row}
use Rattle.relation_laws.proofs.Catalogs.{goes-on}
use Rattle.relation_laws.proofs.Lists.{contains-cases, contains-cons, contains-head, contains-of}
use Rattle.heap_laws.specs.Laws.{AreSpared}
use Rattle.heap_laws.proofs.Staying.{indexes_stay_law}
use Rattle.relation_laws.proofs.Reaching.{untouched-then, Spares, removed-spares, spares-none, spares-then}
use Rattle.pager.specs.Allows.{in_turn}
use Rattle.pager.proofs.Turns.{left_pages}

-- a row of another number stays
kept : (number : ℕ) (placed : Placed) (rows : List Placed) → placed.number ≢ number → Contains rows placed → Contains (filter (λ (p : Placed). not (p.number == number)) rows) placed
kept number placed [] apart h = absurd (omega (arith, h.1))
kept number placed (row ∷ rows) apart h = go (kept number placed rows apart) (row.number == number) refl
  where
    eqb-is : (row.number == number) ≡ true → row.number ≡ number
    eqb-is e = eqb-true row.number number e

    go : (Contains rows placed → Contains (filter (λ (p : Placed). not (p.number == number)) rows) placed) → (b : Bool) → (row.number == number) ≡ b → Contains (cond (not b) (row ∷ filter (λ (p : Placed). not (p.number == number)) rows) (filter (λ (p : Placed). not (p.number == number)) rows)) placed
    go rest true e = contains-cases row placed rows h (λ same. absurd (apart (ap (λ (p : Placed). p.number) (sym same) ∙ eqb-is e))) rest
    go rest false e = contains-cases row placed rows h (λ same. subst (λ (p : Placed). Contains (row ∷ filter (λ (p : Placed). not (p.number == number)) rows) p) same (contains-head row _)) (λ there. contains-cons placed row _ (rest there))

-- the first row of a number, which is the one whose page is told
pub first_of : (first number : ℕ) (rows : List Placed) (placed : Placed) → placed.number ≡ number → Contains rows placed → (found : Placed) × (found.number ≡ number) × Contains rows found × (page_of first number rows ≡ Ok found.page)
first_of first number [] placed is h = absurd (omega (arith, h.1))
first_of first number (row ∷ rows) placed is h =
    elim (eqb_tells row.number number) [
      | inl same ↦ (row, same.1, contains-head row rows, rw same.0 refl)
      | inr differ ↦
          let rest = first_of first number rows placed is (contains-cases row placed rows h (λ same. absurd (differ.1 (ap (λ (p : Placed). p.number) same ∙ is))) (λ there. there)) in
          (rest.0, rest.1, contains-cons rest.0 row rows rest.2, rw differ.0 rest.3)
    ]

-- each number's row is still where the first look found it
abbrev pub StillThere : ℕ → List Placed → Table → List ℕ → Type 0
StillThere first rows table [] = Unit {0}
StillThere first rows table (number ∷ numbers) =
    ((found : Placed) × (found.number ≡ number) × Contains table.rows found × (page_of first number rows ≡ Ok found.page))
    × AllByRecursion (λ (other : ℕ). other ≢ number) numbers × StillThere first rows table numbers

pub still : (first : ℕ) (table : Table) (numbers : List ℕ) → AllByRecursion (λ (number : ℕ). Contains (map (λ (row : ℕ × List Value). row.0) (map numbered_row table.rows)) number) numbers → AreDifferent numbers → StillThere first table.rows table numbers
still first table [] all apart = tt
still first table (number ∷ numbers) all apart =
    let row = contains-of (λ (row : ℕ × List Value). row.0) (map numbered_row table.rows) number all.0 in
    let placed = contains-of numbered_row table.rows row.0 row.1 in
    (first_of first number table.rows placed.0 (ap (λ (row : ℕ × List Value). row.0) placed.2 ∙ row.2) placed.1, apart.0, still first table numbers all.1 apart.1)

pub still-without : (first : ℕ) (rows : List Placed) (table : Table) (number : ℕ) (numbers : List ℕ) → AllByRecursion (λ (other : ℕ). other ≢ number) numbers → StillThere first rows table numbers → StillThere first rows (without_row table number) numbers
still-without first rows table number [] apart h = tt
still-without first rows table number (other ∷ numbers) apart h =
    let found = h.0.0 in
    ((found, h.0.1, kept number found table.rows (λ e. apart.0 (sym h.0.1 ∙ e)) h.0.2, h.0.3), h.1, still-without first rows table number numbers apart.1 h.2)

-- the step that takes out one row
pub taken_out : (size first : ℕ) (rows : List Placed) (found : Placed) (number : ℕ) (pages : Pages) (a : Result (Unit {0} × Pages) Refusal) → found.number ≡ number → page_of first number rows ≡ Ok found.page → row_removed size first rows number pages a → removed size pages first found.page found.number a
taken_out size first rows found number pages a is page h =
    subst (λ (n : ℕ). removed size pages first found.page n a) (sym is)
    (goes-on _ (λ (p : ℕ). removed size pages first p number) found.page (λ b told. sym told ∙ page) a h)

-- the table without the rows of these numbers, one taken out after the other
abbrev pub left : List ℕ → Table → Table
left [] table = table
left (number ∷ numbers) table = left numbers (without_row table number)

-- rows were taken out of the table that begins with a page; the other tables are as they were
pub record Shrinks (size : ℕ) (pages : Pages) (firsts indexes : List ℕ) (first : ℕ) (table : Table) (numbers : List ℕ) (after : Pages) : Type 0 where
  pub is_table : IsTable size after first (left numbers table)
  pub others : OthersStay size pages after firsts first
  pub well : WellFormed size after firsts indexes
  pub spares : Spares true size pages after firsts first
  pub spared : AreSpared indexes pages after

pub shrunk : (size : ℕ) (pages after : Pages) (firsts indexes : List ℕ) (first : ℕ) (rows : List Placed) (table : Table) (numbers : List ℕ) → WellFormed size pages firsts indexes → Contains firsts first → IsTable size pages first table → StillThere first rows table numbers → in_turn (row_removed size first rows) numbers pages (Ok (tt, after)) → Shrinks size pages firsts indexes first table numbers after
shrunk size pages after firsts indexes first rows table [] well among is there h =
    subst (λ (p : Pages). Shrinks size pages firsts indexes first table [] p) (left_pages pages after h)
    (record { is_table = is; others = λ other c apart t told. told; well = well; spares = spares-none true size pages firsts first; spared = λ page has. (refl, refl) })
shrunk size pages after firsts indexes first rows table (number ∷ numbers) well among is there h =
    let found = there.0.0 in
    let one = removes-row size pages firsts indexes first table found (Ok h.0) well among is there.0.2 (taken_out size first rows found number pages (Ok h.0) there.0.1 there.0.3 h.1) in
    let without : IsTable size h.0.1 first (without_row table number) = subst (λ (n : ℕ). IsTable size h.0.1 first (without_row table n)) there.0.1 one.shows in
    let rest = shrunk size h.0.1 after firsts indexes first rows (without_row table number) numbers one.well among without (still-without first rows table number numbers there.1 there.2) h.2 in
    record {
      is_table = rest.is_table;
      others = λ other c apart t told. rest.others other c apart t (one.others other c apart t told);
      well = rest.well;
      spares = spares-then true size pages h.0.1 after firsts first (removed-spares size pages h.0.1 firsts indexes first table found.page found.number well among one) rest.spares;
      spared = λ page has. untouched-then pages h.0.1 after page (indexes_stay_law.remove size pages h.0.1 firsts indexes first table found.page found.number well among one page has) (rest.spared page has);
    }

pub never : (size : ℕ) (pages : Pages) (firsts indexes : List ℕ) (first : ℕ) (rows : List Placed) (table : Table) (numbers : List ℕ) (why : Refusal) → WellFormed size pages firsts indexes → Contains firsts first → IsTable size pages first table → StillThere first rows table numbers → in_turn (row_removed size first rows) numbers pages (Err why) → ⊥
never size pages firsts indexes first rows table [] why well among is there h = absurd cc
never size pages firsts indexes first rows table (number ∷ numbers) why well among is there (inl h) =
    let found = there.0.0 in
    (removes-row size pages firsts indexes first table found (Err why) well among is there.0.2 (taken_out size first rows found number pages (Err why) there.0.1 there.0.3 h)).1
never size pages firsts indexes first rows table (number ∷ numbers) why well among is there (inr h) =
    let found = there.0.0 in
    let one = removes-row size pages firsts indexes first table found (Ok h.0) well among is there.0.2 (taken_out size first rows found number pages (Ok h.0) there.0.1 there.0.3 h.1) in
    let without : IsTable size h.0.1 first (without_row table number) = subst (λ (n : ℕ). IsTable size h.0.1 first (without_row table n)) there.0.1 one.shows in
    never size h.0.1 firsts indexes first rows (without_row table number) numbers why one.well among without (still-without first rows table number numbers there.1 there.2) h.2

-- whether a row is none of those numbers'
abbrev apart_from : List ℕ → ℕ × List Value → Bool
apart_from numbers row = not (list_any (λ number. row.0 == number) numbers)

filter-all : {A : Type 0} (xs : List A) → filter (λ x. true) xs ≡ xs
filter-all [] = refl
filter-all (x ∷ xs) = ap (λ l. x ∷ l) (filter-all xs)

-- a filter after one that takes out a number
filter-next : (number : ℕ) (numbers : List ℕ) (rows : List Placed) → filter (apart_from numbers) (map numbered_row (filter (λ (p : Placed). not (p.number == number)) rows)) ≡ filter (apart_from (number ∷ numbers)) (map numbered_row rows)
filter-next number numbers [] = refl
filter-next number numbers (row ∷ rows) = go (filter-next number numbers rows) (row.number == number)
  where
    go : filter (apart_from numbers) (map numbered_row (filter (λ (p : Placed). not (p.number == number)) rows)) ≡ filter (apart_from (number ∷ numbers)) (map numbered_row rows) → (b : Bool) → filter (apart_from numbers) (map numbered_row (cond (not b) (row ∷ filter (λ (p : Placed). not (p.number == number)) rows) (filter (λ (p : Placed). not (p.number == number)) rows)))
        ≡ cond (not (b || list_any (λ other. row.number == other) numbers)) (numbered_row row ∷ filter (apart_from (number ∷ numbers)) (map numbered_row rows)) (filter (apart_from (number ∷ numbers)) (map numbered_row rows))
    go rest true = rest
    go rest false = ap (λ (l : List (ℕ × List Value)). cond (apart_from numbers (numbered_row row)) (numbered_row row ∷ l) l) rest

left-rows : (numbers : List ℕ) (table : Table) → map numbered_row (left numbers table).rows ≡ filter (apart_from numbers) (map numbered_row table.rows)
left-rows [] table = sym (filter-all (map numbered_row table.rows))
left-rows (number ∷ numbers) table = left-rows numbers (without_row table number) ∙ filter-next number numbers table.rows

left-next : (numbers : List ℕ) (table : Table) → (left numbers table).next_number ≡ table.next_number
left-next [] table = refl
left-next (number ∷ numbers) table = left-next numbers (without_row table number)

pub fitting-left : {A : Type 0} (P : A → Type 0) (test : A → Bool) (xs : List A) → AllByRecursion P xs → AllByRecursion P (filter test xs)
fitting-left P test [] all = tt
fitting-left P test (x ∷ xs) all = go (fitting-left P test xs all.1) (test x)
  where
    go : AllByRecursion P (filter test xs) → (b : Bool) → AllByRecursion P (cond b (x ∷ filter test xs) (filter test xs))
    go rest true = (all.0, rest)
    go rest false = rest

pub shorter-shows : (size : ℕ) (pages after : Pages) (firsts indexes : List ℕ) (stored : StoredTable) (table : PlainTable) (numbers : List ℕ) (shows : ShowsTable size pages stored table)
    → Shrinks size pages firsts indexes stored.first (record { next_number = table.next_number; rows = shows.placed }) numbers after → ShowsTable size after stored (without_rows numbers table)
shorter-shows size pages after firsts indexes stored table numbers shows shrinks =
    let before : Table = record { next_number = table.next_number; rows = shows.placed } in
    record {
      name = shows.name;
      columns = shows.columns;
      placed = (left numbers before).rows;
      is_table = subst (λ (next : ℕ). IsTable size after stored.first (record { next_number = next; rows = (left numbers before).rows })) (left-next numbers before) shrinks.is_table;
      rows = ap (filter (apart_from numbers)) shows.rows ∙ sym (left-rows numbers before);
      fitting = fitting-left (λ (row : ℕ × List Value). fits table.columns row.1 ≡ true) (apart_from numbers) table.rows shows.fitting;
    }
