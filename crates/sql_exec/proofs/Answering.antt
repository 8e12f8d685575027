-- What is read along the way of a select.
use Rattle.std.proofs.Common.{◌≡◌, ◌∙◌, ◌⊎◌, ◌≤◌, ℕ, Bool, true, false, cond, List, [], ◌∷◌, length, Option, Some, None, Result, Ok, Err, inl, inr, refl, sym, subst}
use Rattle.retro_base.specs.declared.refusal.Refusal.{Refusal}
use Rattle.sql_tree.specs.declared.select.Select.{Select as SelectRecord}
use Rattle.sql_tree.specs.declared.statement.Statement.{Statement}
use Rattle.sql_tree.specs.declared.statement.Statement.TheVariants.{Select}
use Rattle.sql_check.specs.Check.{checked}
use Rattle.sql_select.specs.declared.answer.Answer.{Answer}
use Rattle.tables.specs.Meaning.{asked}
use Rattle.tables.specs.Tables.{Tables}
use Rattle.pager.specs.Allows.{◌>>=◌, only}
use Rattle.pager.specs.Pages.{Pages, Narrows}
use Rattle.pager.specs.Stop.{Allowed, Answers}
use Rattle.pager.specs.declared.stop.Stop.{Stop}
use Rattle.pager.specs.declared.stop.Stop.TheVariants as stop
use Rattle.relation.specs.declared.catalog.Catalog.{Catalog}
use Rattle.relation.specs.declared.catalog.StoredTable.{StoredTable}
use Rattle.relation.specs.Catalog.{HaveFewColumns, catalog, schema_of, table_named}
use Rattle.values.specs.Name.{same_name}
use Rattle.relation.proofs.Steps.{next_step}
use Rattle.sql_exec.specs.declared.source.Source.{Source}
use Rattle.sql_exec.specs.Asking.{answered, answered_beside, asked_of, opened, over_one, over_two, source_at, where_alone, where_beside}
use Rattle.sql_exec.specs.Bound.{source_left}
use Rattle.sql_exec.specs.Promises.{Asks}
use Rattle.sql_exec.proofs.Asked.{asked-law}
use Rattle.sql_exec.proofs.Sources.{source-not, source-one, source-whole}

-- what follows of an answer follows of what was answered
pub allowed-then : {X Y F : Type 0} (view : X → Y) (one other : Result Y Refusal → Type 0) → ((b : Result Y Refusal) → one b → other b) → (result : Result X (Stop F)) → Allowed view one result → Allowed view other result
allowed-then view one other follows (Ok x) h = follows (Ok (view x)) h
allowed-then view one other follows (Err (stop.Refused why)) (inl memory) = inl memory
allowed-then view one other follows (Err (stop.Refused why)) (inr h) = inr (follows (Err why) h)
allowed-then view one other follows (Err (stop.Pager fault)) h = tt

-- a refusal that is handed on
pub handed : {M P Q : Type 0} → (P → Q) → M ⊎ P → M ⊎ Q
handed go (inl memory) = inl memory
handed go (inr h) = inr (go h)

-- what is read of the pages is what is meant over their tables
pub asks-of : {F : Type 0} (size : ℕ) (query : SelectRecord) (snapshot : Option ℕ) (tells : Pages → Pages → Type 0) (result : Result Answer (Stop F)) → Answers (λ (answer : Answer). answer) tells (asked_of size query snapshot) result → Asks size query snapshot tells result
asks-of size query snapshot tells result answers = record {
  over_tables = λ base shown tables told stored. allowed-then (λ (answer : Answer). answer) (asked_of size query snapshot shown) (only (asked query snapshot tables))
      (λ b h. subst (λ (t : Tables). asked query snapshot t ≡ b) (sym stored.same) (asked-law size shown stored.all stored.store query snapshot b h)) result (answers base shown told);
  over_pages = answers;
}

-- the catalog is read, and the check passes
pub opened-by : (size : ℕ) (statement : Statement) (snapshot : Option ℕ) (shown : Pages) (found : Catalog) → catalog size shown (Ok found) → checked statement snapshot (schema_of found) ≡ Ok tt → opened size statement snapshot shown (Ok found)
opened-by size statement snapshot shown found read passes = (found, read, (tt, passes, refl))

-- or refuses
pub opened-not : (size : ℕ) (statement : Statement) (snapshot : Option ℕ) (shown : Pages) (found : Catalog) (why : Refusal) → catalog size shown (Ok found) → checked statement snapshot (schema_of found) ≡ Err why → opened size statement snapshot shown (Err why)
opened-not size statement snapshot shown found why read refuses = inr (found, read, inl refuses)

pub asked-by : {F : Type 0} (size width : ℕ) (query : SelectRecord) (snapshot : Option ℕ) (found : Catalog) (between tells : Pages → Pages → Type 0) (result : Result Answer (Stop F)) → width ≡ size → Narrows between tells → ((base shown : Pages) → between base shown → catalog size shown (Ok found)) → checked (Select query) snapshot (schema_of found) ≡ Ok tt
    → Answers (λ (answer : Answer). answer) tells (answered width found query snapshot) result → Answers (λ (answer : Answer). answer) tells (asked_of size query snapshot) result
asked-by size width query snapshot found between tells result same narrows read passes answers = λ base shown told.
    allowed-then (λ (answer : Answer). answer) (answered width found query snapshot shown) (asked_of size query snapshot shown)
    (λ b h. next_step (opened size (Select query) snapshot shown) (λ (c : Catalog). answered size c query snapshot shown) found (opened-by size (Select query) snapshot shown found (read base shown (narrows base shown told)) passes) b (subst (λ (s : ℕ). answered s found query snapshot shown b) same h)) result (answers base shown told)

module _ (size : ℕ) (found : Catalog) (query : SelectRecord) (snapshot : Option ℕ) (shown : Pages) where
  abbrev reads_first : Result Source Refusal → Type 0
  reads_first = source_left size snapshot shown (table_named query.table found.tables) (where_alone query)

  -- a first table that is not read
  pub answered-not : (why : Refusal) → reads_first (Err why) → answered size found query snapshot shown (Err why)
  answered-not why h = inl (source-not size snapshot shown (table_named query.table found.tables) (where_alone query) why h)

  -- the answer over one table
  pub answered-one : (first : Source) → query.second ≡ None → reads_first (Ok first) → (b : Result Answer Refusal) → over_one query snapshot first ≡ b → answered size found query snapshot shown b
  answered-one first alone read b h =
      let one = source-one size snapshot shown (table_named query.table found.tables) query first (subst (λ (s : Option (List ℕ)). source_left size snapshot shown (table_named query.table found.tables) (where_beside s query.condition) (Ok first)) alone read) in
      next_step (source_at size shown (table_named query.table found.tables) (where_alone query)) (λ (first : Source). answered_beside size found query snapshot shown first query.second) one.0
      (subst (λ (s : Option (List ℕ)). source_at size shown (table_named query.table found.tables) (where_beside s query.condition) (Ok one.0)) (sym alone) one.1) b
      (subst (λ (s : Option (List ℕ)). answered_beside size found query snapshot shown one.0 s b) (sym alone) (one.2 ∙ h))

  module _ (width : ℕ) (first : Source) (name : List ℕ) (two : query.second ≡ Some name) (same : width ≡ size) (read : reads_first (Ok first)) where
    beside : (b : Result Answer Refusal) → (source_at size shown (table_named name found.tables) None >>= (λ (second : Source). only (over_two query snapshot first second))) b → answered size found query snapshot shown b
    beside b h =
        let whole = source-whole size snapshot shown (table_named query.table found.tables) (Ok first) (subst (λ (s : Option (List ℕ)). source_left size snapshot shown (table_named query.table found.tables) (where_beside s query.condition) (Ok first)) two read) in
        next_step (source_at size shown (table_named query.table found.tables) (where_alone query)) (λ (first : Source). answered_beside size found query snapshot shown first query.second) first
        (subst (λ (s : Option (List ℕ)). source_at size shown (table_named query.table found.tables) (where_beside s query.condition) (Ok first)) (sym two) whole) b
        (subst (λ (s : Option (List ℕ)). answered_beside size found query snapshot shown first s b) (sym two) h)

    reads_second : (a : Result Source Refusal) → source_left width snapshot shown (table_named name found.tables) None a → source_at size shown (table_named name found.tables) None a
    reads_second a h = subst (λ (s : ℕ). source_at s shown (table_named name found.tables) None a) same (source-whole width snapshot shown (table_named name found.tables) a h)

    -- a second table that is not read
    pub answered-unread : (why : Refusal) → source_left width snapshot shown (table_named name found.tables) None (Err why) → answered size found query snapshot shown (Err why)
    answered-unread why h = beside (Err why) (inl (reads_second (Err why) h))

    -- the answer over two tables
    pub answered-two : (second : Source) → source_left width snapshot shown (table_named name found.tables) None (Ok second) → (b : Result Answer Refusal) → over_two query snapshot first second ≡ b → answered size found query snapshot shown b
    answered-two second also b h =
        beside b (next_step (source_at size shown (table_named name found.tables) None) (λ (other : Source). only (over_two query snapshot first other)) second (reads_second (Ok second) also) b h)

-- a table of the catalog has few columns
pub few-named : (name : List ℕ) (tables : List StoredTable) (table : StoredTable) → HaveFewColumns tables → table_named name tables ≡ Some table → (1 ≤ length table.columns) × (length table.columns ≤ 16)
few-named name [] table few is = absurd (none is)
  where
    none : None ≡ Some table → ⊥
    none e = cc
few-named name (first ∷ tables) table few is = go (same_name first.name name) is (few-named name tables table few.1)
  where
    go : (b : Bool) → cond b (Some first) (table_named name tables) ≡ Some table → (table_named name tables ≡ Some table → (1 ≤ length table.columns) × (length table.columns ≤ 16)) → (1 ≤ length table.columns) × (length table.columns ≤ 16)
    go true e rest =
        let same : first ≡ table = cc e in
        subst (λ (t : StoredTable). (1 ≤ length t.columns) × (length t.columns ≤ 16)) same few.0
    go false e rest = rest e
