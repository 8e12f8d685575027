-- Pieces of work, and several one after the other.
use Rattle.std.proofs.Common.{◌≡◌, ◌∙◌, ◌<◌, ◌+◌, ◌^◌, cond, ℕ, Bool, true, false, List, [], ◌∷◌, length, map, Result, Ok, Err, inl, inr, refl, sym, ap, subst}
use Rattle.std.specs.List.{AllByRecursion, AllZip, Contains}
use Rattle.retro_base.specs.declared.refusal.Refusal.{Refusal}
use Rattle.values.specs.declared.value.Value.{Value}
use Rattle.values.specs.Name.{same_name}
use Rattle.sql_tree.specs.declared.statement.Column.{Column as TableColumn}
use Rattle.pager.specs.Pages.{Pages}
use Rattle.tree_index.specs.Work.{added, made, removed}
use Rattle.relation.specs.declared.catalog.StoredTable.{StoredTable}
use Rattle.relation.specs.Work.{created, deleted, indexed, inserted, updated}
use Rattle.relation_laws.specs.Laws.{AreChangesOf, AreNumbersOf, AreTableColumns, HasColumn, IsNewName, IsRowFor, IsStoreOf, with_changes, with_rows, with_table, without_rows}
use Rattle.relation_laws.specs.Tables.{AreDifferent, PlainTable, PlainTables, ShowsTable, names_of}
use Rattle.relation_laws.specs.Work.{AreAllowed, AreWorked, Changes, Creates, Indexes, Inserts, IsAllowed, IsInReach, IsInReachOf, IsWorked, Removes, Work, WorkLaw, all_worked, tables_behind, where_named, worked}
use Rattle.relation_laws.proofs.Created.{create_law}
use Rattle.relation_laws.proofs.Deleted.{delete_law}
use Rattle.relation_laws.proofs.Indexed.{index_law}
use Rattle.relation_laws.proofs.Inserted.{insert_law}
use Rattle.relation_laws.proofs.Lists.{contains-cons, contains-head, different-split, one-keyed}
use Rattle.relation_laws.proofs.Names.{name-is}
use Rattle.relation_laws.proofs.Needed.{needs_law}
use Rattle.relation_laws.proofs.OneNeed.{need-one}
use Rattle.relation_laws.proofs.Singling.{shown-here}
use Rattle.relation_laws.proofs.TableStores.{IsTableStoreOf, tables_of}
use Rattle.relation_laws.proofs.Touched.{change-within, create-within, index-within, insert-within, removed-within}
use Rattle.relation_laws.proofs.Updated.{update_law}
use Rattle.relation_laws.proofs.Within.{within-then}
use Rattle.pager.proofs.Turns.{left_pages}

-- what is so of each item
map-in : {A B : Type 0} (f g : A → B) (xs : List A) → ((x : A) → Contains xs x → f x ≡ g x) → map f xs ≡ map g xs
map-in {B = B} f g [] same = refl
map-in {B = B} f g (x ∷ xs) same = both (same x (contains-head x xs)) (map-in f g xs (λ y has. same y (contains-cons y x xs has)))
  where
    both : {y z : B} {ys zs : List B} → y ≡ z → ys ≡ zs → y ∷ ys ≡ z ∷ zs
    both e f = λ i. e i ∷ f i

-- the names of the tables are those of the catalog
names-shown : (size : ℕ) (pages : Pages) (stored : List StoredTable) (tables : List PlainTable) → AllZip (ShowsTable size pages) stored tables → names_of stored ≡ map (λ (table : PlainTable). table.name) tables
names-shown size pages [] [] all = refl
names-shown size pages [] (t ∷ ts) all = absurd all
names-shown size pages (s ∷ ss) [] all = absurd all
names-shown size pages (s ∷ ss) (t ∷ ts) all =
    let rest = names-shown size pages ss ts all.1 in
    let name : t.name ≡ s.name = all.0.name in
    λ i. sym name i ∷ rest i

-- one table of a name becomes another
pub named-one : (size : ℕ) (pages : Pages) (all : PlainTables) (table : PlainTable) (becomes : PlainTable → PlainTable) → IsStoreOf size pages all → Contains all.tables table → (becomes table).name ≡ table.name → with_table (becomes table) all ≡ where_named table.name becomes all
named-one size pages all table becomes store has named =
    ap (λ (tables : List PlainTable). record all { tables = tables })
    (map-in (λ (t : PlainTable). cond (same_name t.name (becomes table).name) (becomes table) t) (λ (t : PlainTable). cond (same_name t.name table.name) (becomes t) t) all.tables same)
  where
    is : IsTableStoreOf size pages all
    is = tables_of size pages all store

    same : (t : PlainTable) → Contains all.tables t → cond (same_name t.name (becomes table).name) (becomes table) t ≡ cond (same_name t.name table.name) (becomes t) t
    same t also = ap (λ (name : List ℕ). cond (same_name t.name name) (becomes table) t) named ∙ go (same_name t.name table.name) refl
      where
        go : (b : Bool) → same_name t.name table.name ≡ b → cond b (becomes table) t ≡ cond b (becomes t) t
        go true e =
            let names = names-shown size pages is.store.found.tables all.tables (shown-here size pages all is).0 in
            ap becomes (one-keyed (λ (t : PlainTable). t.name) all.tables table t (subst AreDifferent names (different-split (names_of is.store.found.tables) _ is.store.names)) has also (sym (name-is t.name table.name e)))
        go false e = refl

-- one piece of work
work-insert : (size : ℕ) (pages : Pages) (all : PlainTables) (table : PlainTable) (rows : List (List Value)) (answer : Result (Unit {0} × Pages) Refusal) → IsStoreOf size pages all → Contains all.tables table → AllByRecursion (IsRowFor table) rows → table.next_number + length rows < 2 ^ 64 → inserted added size pages table.name rows answer → IsWorked size pages all (Inserts table.name rows) answer
work-insert size pages all table rows (Ok y) is has fit room work =
    let need = needs_law.insert size pages all table rows (Ok y) is has fit room work in
    record {
      store = subst (IsStoreOf size y.1) (named-one size pages all table (with_rows rows) is has refl) (insert_law size pages all table rows (Ok y) is has fit room work).0;
      needs = need.0;
      are_needed = need.1;
      takes = need.2;
      within = insert-within size pages y.1 all table rows is has fit room work;
    }
work-insert size pages all table rows (Err why) is has fit room work = (insert_law size pages all table rows (Err why) is has fit room work, needs_law.insert size pages all table rows (Err why) is has fit room work)

work-change : (size : ℕ) (pages : Pages) (all : PlainTables) (table : PlainTable) (changes : List (ℕ × List Value)) (answer : Result (Unit {0} × Pages) Refusal) → IsStoreOf size pages all → Contains all.tables table → AreChangesOf table changes → updated added removed size pages table.name changes answer → IsWorked size pages all (Changes table.name changes) answer
work-change size pages all table changes (Ok y) is has these work =
    let need = needs_law.update size pages all table changes (Ok y) is has these work in
    record {
      store = subst (IsStoreOf size y.1) (named-one size pages all table (with_changes changes) is has refl) (update_law size pages all table changes (Ok y) is has these work).0;
      needs = need.0;
      are_needed = need.1;
      takes = need.2;
      within = change-within size pages y.1 all table changes is has these work;
    }
work-change size pages all table changes (Err why) is has these work = (update_law size pages all table changes (Err why) is has these work, needs_law.update size pages all table changes (Err why) is has these work)

work-create : (size : ℕ) (pages : Pages) (all : PlainTables) (name : List ℕ) (columns : List TableColumn) (answer : Result (Unit {0} × Pages) Refusal) → IsStoreOf size pages all → IsNewName all name → AreTableColumns columns → created size pages name columns answer → IsWorked size pages all (Creates name columns) answer
work-create size pages all name columns (Ok y) is new_name are work =
    let need = needs_law.create size pages all name columns (Ok y) is new_name are work in
    record {
      store = (create_law size pages all name columns (Ok y) is new_name are work).0;
      needs = need.0;
      are_needed = need.1;
      takes = need.2;
      within = create-within size pages y.1 all name columns is new_name are work;
    }
work-create size pages all name columns (Err why) is new_name are work = (create_law size pages all name columns (Err why) is new_name are work, needs_law.create size pages all name columns (Err why) is new_name are work)

work-index : (size : ℕ) (pages : Pages) (all : PlainTables) (table : PlainTable) (name column : List ℕ) (answer : Result (Unit {0} × Pages) Refusal) → IsStoreOf size pages all → Contains all.tables table → IsNewName all name → HasColumn column table → indexed made added size pages name table.name column answer → IsWorked size pages all (Indexes name table.name column) answer
work-index size pages all table name column (Ok y) is has new there work =
    let need = needs_law.index size pages all table name column (Ok y) is has new there work in
    record {
      store = (index_law size pages all table name column (Ok y) is has new there work).0;
      needs = need.0;
      are_needed = need.1;
      takes = need.2;
      within = index-within size pages y.1 all table name column is has new there work;
    }
work-index size pages all table name column (Err why) is has new there work = (index_law size pages all table name column (Err why) is has new there work, needs_law.index size pages all table name column (Err why) is has new there work)

work-remove : (size : ℕ) (pages : Pages) (all : PlainTables) (table : PlainTable) (numbers : List ℕ) (answer : Result (Unit {0} × Pages) Refusal) → IsStoreOf size pages all → Contains all.tables table → AreNumbersOf table numbers → deleted removed size pages table.name numbers answer → IsWorked size pages all (Removes table.name numbers) answer
work-remove size pages all table numbers (Ok y) is has these work =
    let gone = removed-within size pages y.1 all table numbers is has these work in
    record {
      store = subst (IsStoreOf size y.1) (named-one size pages all table (without_rows numbers) is has refl) (delete_law size pages all table numbers (Ok y) is has these work).0;
      needs = 0;
      are_needed = refl;
      takes = gone.0;
      within = gone.1;
    }
work-remove size pages all table numbers (Err why) is has these work = absurd (delete_law size pages all table numbers (Err why) is has these work).1

work-one : (size : ℕ) (pages : Pages) (all : PlainTables) (work : Work) (answer : Result (Unit {0} × Pages) Refusal) → IsStoreOf size pages all → IsAllowed all work → worked size work pages answer → IsWorked size pages all work answer
work-one size pages all (Creates name columns) answer is allowed = work-create size pages all name columns answer is allowed.0 allowed.1
work-one size pages all (Indexes name of column) answer is (new, (table, has, named, allowed)) = subst (λ (n : List ℕ). indexed made added size pages name n column answer → IsWorked size pages all (Indexes name n column) answer) named (work-index size pages all table name column answer is has new allowed)
work-one size pages all (Inserts name rows) answer is (table, has, named, allowed) = subst (λ (n : List ℕ). inserted added size pages n rows answer → IsWorked size pages all (Inserts n rows) answer) named (work-insert size pages all table rows answer is has allowed.0 allowed.1)
work-one size pages all (Changes name changes) answer is (table, has, named, allowed) = subst (λ (n : List ℕ). updated added removed size pages n changes answer → IsWorked size pages all (Changes n changes) answer) named (work-change size pages all table changes answer is has allowed)
work-one size pages all (Removes name numbers) answer is (table, has, named, allowed) = subst (λ (n : List ℕ). deleted removed size pages n numbers answer → IsWorked size pages all (Removes n numbers) answer) named (work-remove size pages all table numbers answer is has allowed)

-- several pieces of work
works : (size : ℕ) (pages : Pages) (all : PlainTables) (list : List Work) (answer : Result (Unit {0} × Pages) Refusal) → IsStoreOf size pages all → AreAllowed all list → all_worked size list pages answer → AreWorked size pages all list answer
works size pages all [] (Ok y) is allowed h =
    let same : pages ≡ y.1 = left_pages pages y.1 h in
    (subst (λ (p : Pages). IsStoreOf size p all) same is, λ page. inl (ap (λ (p : Pages). p.at page) (sym same), ap (λ (p : Pages). p.edited page) (sym same)))
works size pages all [] (Err why) is allowed h = absurd cc
works size pages all (work ∷ list) (Ok y) is allowed (next, one, rest) =
    let leaves = work-one size pages all work (Ok next) is allowed.0 one in
    let behind = works size next.1 (tables_behind work all) list (Ok y) leaves.store allowed.1 rest in
    (behind.0, within-then (IsInReach size pages work) (IsInReachOf size next.1 list) (IsInReachOf size pages (work ∷ list)) pages next.1 y.1 (λ p here. inl here) (λ p here. inr (next.1, one, here)) leaves.within behind.1)
works size pages all (work ∷ list) (Err why) is allowed (inl refused) =
    let full = work-one size pages all work (Err why) is allowed.0 refused in
    (full.0, inl full.1)
works size pages all (work ∷ list) (Err why) is allowed (inr (next, one, rest)) =
    let leaves = work-one size pages all work (Ok next) is allowed.0 one in
    let behind = works size next.1 (tables_behind work all) list (Err why) leaves.store allowed.1 rest in
    (behind.0, inr (next.1, one, behind.1))

pub work_law : WorkLaw
work_law = record { one_need = need-one; single = work-one; several = works }
