-- Rows are deleted from a table that keeps indexes.
use Rattle.std.proofs.Common.{◌≡◌, ◌∙◌, ◌+◌, ◌==◌, not, cond, ℕ, Bool, true, false, List, [], ◌∷◌, map, Option, Some, None, Result, Ok, Err, inl, inr, refl, sym, ap, subst, arith}
use Rattle.std.specs.List.{AllByRecursion, Contains, cons_option}
use Rattle.std.proofs.lemmas.Bool.{eq-eqb, ne_eqb}
use Rattle.retro_base.specs.declared.refusal.Refusal.{Refusal}
use Rattle.values.specs.declared.value.Value.{Value}
use Rattle.sql_tree.specs.declared.statement.Column.{Column as TableColumn}
use Rattle.pager.specs.Allows.{◌>>=◌, in_turn, only}
use Rattle.pager.specs.Pages.{Pages}
use Rattle.pager.specs.declared.index.Found.{Found}
use Rattle.tree_index.specs.Work.{added, removed}
use Rattle.heap_file.specs.declared.chain.Placed.{Placed}
use Rattle.heap_laws.specs.Laws.{DoesOrIsFull}
use Rattle.heap_laws.specs.Table.{Table, without_row}
use Rattle.heap_laws.proofs.Reading.{ok-one, rows-numbered}
use Rattle.relation.specs.declared.catalog.Catalog.{Catalog}
use Rattle.relation.specs.declared.catalog.StoredIndex.{StoredIndex}
use Rattle.relation.specs.declared.catalog.StoredTable.{StoredTable}
use Rattle.relation.specs.Each.{each}
use Rattle.relation.specs.Entries.{EditsIndex, entries_edited, entries_of, entry_edited, entry_of, rows_listed}
use Rattle.relation.specs.Work.{all_removed, placed_of, rows_at, table_deleted}
use Rattle.relation.proofs.Halves.{page_of, placed-page, removes-numbered}
use Rattle.sql_tree.specs.Rows.{fits}
use Rattle.relation_laws.specs.Laws.{DeleteLaw, IsStoreOf, with_table, without_rows}
use Rattle.relation_laws.specs.Reach.{Reaches}
use Rattle.relation_laws.specs.Tables.{IsTableStore, PlainTable, PlainTables, numbered_row}
use Rattle.relation_laws.specs.Turns.{Turn, given_up, goes, taken_in, turns_open}
use Rattle.tree_index.specs.Tree.{Shape, opens, put, without}
use Rattle.relation_laws.proofs.Catalogs.{goes-on}
use Rattle.relation_laws.proofs.ColumnKinds.{entry-kind, kind_in}
use Rattle.relation_laws.proofs.Coming.{in_turn-as}
use Rattle.relation_laws.proofs.Deleting.{Shrinks, StillThere, left, never, shorter-shows, shrunk, still, still-without}
use Rattle.relation_laws.proofs.Following.{Fitting, all_open}
use Rattle.relation_laws.proofs.Holding.{Waiting, follow-answer, tree, waiting}
use Rattle.relation_laws.proofs.KeyTurns.{filter-keeps, filter-of, row_number, some-is}
use Rattle.relation_laws.proofs.Lists.{all-at, contains-cons, contains-head, contains-map, keyed-one}
use Rattle.relation_laws.proofs.Sparing.{reaches-behind}
use Rattle.relation_laws.proofs.Singling.{Single, by-name, firsts_of, has-first, one-changed, rows-read, single}
use Rattle.relation_laws.proofs.TableStores.{HoldsStill, tables_of}
use Rattle.relation_laws.proofs.Turning.{IsOfKind, RowsTurn, TurnFits, turn_work}

-- a row that is found under its number is one of the rows
pub found-among : (first number : ℕ) (rows : List Placed) (placed : Placed) → placed_of first number rows ≡ Ok placed → Contains rows placed
found-among first number [] placed e = absurd cc
found-among first number (row ∷ rows) placed e = go (found-among first number rows placed) (row.number == number) e
  where
    go : (placed_of first number rows ≡ Ok placed → Contains rows placed) → (b : Bool) → cond b (Ok row) (placed_of first number rows) ≡ Ok placed → Contains (row ∷ rows) placed
    go rest true h = subst (Contains (row ∷ rows)) (ok-one h) (contains-head row rows)
    go rest false h = contains-cons placed row rows (rest h)

-- rows that are there are found
never-missed : (first : ℕ) (rows : List Placed) (table : Table) (numbers : List ℕ) (why : Refusal) → StillThere first rows table numbers → each (λ number. only (placed_of first number rows)) numbers (Err why) → ⊥
never-missed first rows table [] why there h = absurd cc
never-missed first rows table (number ∷ numbers) why there (inl h) = missed rows there.0.3 h
  where
    missed : (rows : List Placed) → page_of first number rows ≡ Ok there.0.0.page → placed_of first number rows ≡ Err why → ⊥
    missed [] e h = absurd cc
    missed (row ∷ rows) e h = go (missed rows) (row.number == number) e h
      where
        go : (page_of first number rows ≡ Ok there.0.0.page → placed_of first number rows ≡ Err why → ⊥) → (b : Bool) → cond b (Ok row.page) (page_of first number rows) ≡ Ok there.0.0.page → cond b (Ok row) (placed_of first number rows) ≡ Err why → ⊥
        go rest true e h = absurd cc
        go rest false e h = rest e h
never-missed first rows table (number ∷ numbers) why there (inr (g, is, inl more)) = never-missed first rows table numbers why there.2 more
never-missed first rows table (number ∷ numbers) why there (inr (g, is, inr (rest, more, same))) = absurd cc

-- the rows that are left, as rows go
went : (first : ℕ) (rows : List Placed) (table : Table) (numbers : List ℕ) (gone : List Placed) → ((x y : Placed) → Contains rows x → Contains rows y → x.number ≡ y.number → x ≡ y) → ((x : Placed) → Contains table.rows x → Contains rows x) → StillThere first rows table numbers → each (λ number. only (placed_of first number rows)) numbers (Ok gone)
    → RowsTurn table.rows (map goes gone) (left numbers table).rows
went first rows table [] gone one within there told = subst (λ (l : List Placed). RowsTurn table.rows (map goes l) table.rows) (ok-one told) refl
went first rows table (number ∷ numbers) gone one within there (g, is, (rest, more, same)) =
    subst (λ (l : List Placed). RowsTurn table.rows (map goes l) (left (number ∷ numbers) table).rows) (ok-one same) (
      number,
      (without_row table number).rows,
      record {
        told = λ x has e. ap (λ (p : Placed). Some p) (one g x g_there (within x has) (named ∙ sym e));
        listed = λ x e. let it : g ≡ x = some-is e in (ap row_number (sym it) ∙ named, subst (Contains table.rows) it g_here);
      },
      record {
        stays = λ x apart has. filter-keeps (λ (p : Placed). not (p.number == number)) table.rows x has (rw (ne_eqb x.number number apart) refl);
        stood = λ x apart has. (filter-of (λ (p : Placed). not (p.number == number)) table.rows x has).0;
        is_own = record {
          told = λ x has e. absurd (clash (sym (ap not (eq-eqb x.number number e)) ∙ (filter-of (λ (p : Placed). not (p.number == number)) table.rows x has).1));
          listed = λ x e. absurd (none e);
        };
      },
      went first rows (without_row table number) numbers rest one (λ x has. within x (filter-of (λ (p : Placed). not (p.number == number)) table.rows x has).0) (still-without first rows table number numbers there.1 there.2) more,
    )
  where
    clash : false ≡ true → ⊥
    clash e = absurd cc

    none : {x : Placed} → None ≡ Some x → ⊥
    none e = cc

    named : g.number ≡ number
    named = (placed-page first number rows g is).1

    g_there : Contains rows g
    g_there = found-among first number rows g is

    g_here : Contains table.rows g
    g_here = subst (Contains table.rows) (one there.0.0 g (within there.0.0 there.0.2) g_there (there.0.1 ∙ sym named)) there.0.2

-- entries of rows that are taken out one after the other, as the rows go
listed-went : (add remove : EditsIndex) (size root place : ℕ) (rows : List Placed) (pages : Pages) (a : Result (Unit {0} × Pages) Refusal) → in_turn (remove size root) (entries_of place rows) pages a → in_turn (λ (turn : Turn) (p : Pages). (entry_edited remove size root (given_up place turn.before turn.behind) p >>= λ less. entry_edited add size root (taken_in place turn.before turn.behind) less.1)) (map goes rows) pages a
listed-went add remove size root place [] pages a h = h
listed-went add remove size root place (p ∷ rows) pages a h = go (entry_of place p) (λ q b more. listed-went add remove size root place rows q b more) a h
  where
    step : Option Found → Pages → Result (Unit {0} × Pages) Refusal → Type 0
    step o q = entry_edited remove size root o q >>= λ less. entry_edited add size root None less.1

    steps : Pages → Result (Unit {0} × Pages) Refusal → Type 0
    steps = in_turn (λ (turn : Turn) (p : Pages). (entry_edited remove size root (given_up place turn.before turn.behind) p >>= λ less. entry_edited add size root (taken_in place turn.before turn.behind) less.1)) (map goes rows)

    go : (o : Option Found) → ((q : Pages) (b : Result (Unit {0} × Pages) Refusal) → in_turn (remove size root) (entries_of place rows) q b → steps q b) → (a : Result (Unit {0} × Pages) Refusal) → in_turn (remove size root) (cons_option o (entries_of place rows)) pages a → (step o pages >>= λ next. steps next.1) a
    go None more (Ok y) h = ((tt, pages), ((tt, pages), refl, refl), more pages (Ok y) h)
    go None more (Err why) h = inr ((tt, pages), ((tt, pages), refl, refl), more pages (Err why) h)
    go (Some e) more (Ok y) (next, first, rest) = (next, (next, first, refl), more next.1 (Ok y) rest)
    go (Some e) more (Err why) (inl first) = inl (inl first)
    go (Some e) more (Err why) (inr (next, first, rest)) = inr (next, (next, first, refl), more next.1 (Err why) rest)

pub unlisted-rows : (size : ℕ) (indexes : List StoredIndex) (gone : List Placed) (mid : Pages) (answer : Result (Unit {0} × Pages) Refusal) → rows_listed removed size indexes gone mid answer → in_turn (λ (index : StoredIndex). in_turn (turn_work tree size index.root index.place) (map goes gone)) indexes mid answer
unlisted-rows size indexes gone mid answer h =
    in_turn-as (λ (index : StoredIndex). entries_edited removed size index.root (entries_of index.place gone)) (λ (index : StoredIndex). in_turn (turn_work tree size index.root index.place) (map goes gone)) indexes mid answer
    (λ index p b work. listed-went added removed size index.root index.place gone p b work) h

-- rows that go open no page
gone-open : (place : ℕ) (gone : List Placed) (shape : Shape) → turns_open put without opens place (map goes gone) shape ≡ 0
gone-open place [] shape = refl
gone-open place (g ∷ gone) shape = ap (λ (n : ℕ). 0 + n) (gone-open place gone _)

pub none-open : (gone : List Placed) (indexes : List StoredIndex) (shapes : List Shape) → all_open tree (map goes gone) indexes shapes ≡ 0
none-open gone [] shapes = refl
none-open gone (i ∷ indexes) [] = refl
none-open gone (i ∷ indexes) (s ∷ shapes) = omega (arith, gone-open i.place gone s, none-open gone indexes shapes)

-- rows of a table of the store are taken out, and the indexes wait
pub record RowsOut (size : ℕ) (pages mid : Pages) (all : PlainTables) (table : PlainTable) (numbers : List ℕ) (store : IsStoreOf size pages all) (one : Single size pages all table (tables_of size pages all store)) (gone : List Placed) : Type 0 where
  pub shrinks : Shrinks size pages (firsts_of store.store.base.found) store.store.base.held one.stored.first (record { next_number = table.next_number; rows = one.shows.placed }) numbers mid
  pub still : HoldsStill size mid (with_table (without_rows numbers table) all) store.store.base.found store.store.base.held
  pub waits : Waiting size mid still.is.store one.stored one.shows.placed
  pub among : Contains still.is.store.found.tables one.stored
  pub fits : (place : ℕ) → Fitting tree one.shows.placed (map goes gone) place
  pub turned : RowsTurn one.shows.placed (map goes gone) (left numbers (record { next_number = table.next_number; rows = one.shows.placed })).rows

pub rows-out : (size : ℕ) (pages mid : Pages) (all : PlainTables) (table : PlainTable) (numbers : List ℕ) (store : IsStoreOf size pages all) (one : Single size pages all table (tables_of size pages all store)) (gone : List Placed) → StillThere one.stored.first one.shows.placed (record { next_number = table.next_number; rows = one.shows.placed }) numbers
    → each (λ number. only (placed_of one.stored.first number one.shows.placed)) numbers (Ok gone) → all_removed size one.stored.first gone pages (Ok (tt, mid)) → RowsOut size pages mid all table numbers store one gone
rows-out size pages mid all table numbers store one gone there told h = record {
  shrinks = shrinks;
  still = still_;
  waits = waiting size pages mid all (with_table (without_rows numbers table) all) store table one still_ shrinks.others shrinks.spared;
  among = subst (λ (c : Catalog). Contains c.tables one.stored) (sym still_.found_is) one.has;
  fits = λ place. record {
    kind = kind_in one.stored.columns place;
    stand = λ p has. stands place p has;
    turn = all-gone place gone (gone-among numbers gone told);
  };
  turned = went one.stored.first one.shows.placed before numbers gone unique (λ x has. has) there told;
}
  where
    base : IsTableStore size pages
    base = store.store.base

    before : Table
    before = record { next_number = table.next_number; rows = one.shows.placed }

    shrinks : Shrinks size pages (firsts_of store.store.base.found) store.store.base.held one.stored.first (record { next_number = table.next_number; rows = one.shows.placed }) numbers mid
    shrinks = shrunk size pages mid (firsts_of store.store.base.found) store.store.base.held one.stored.first one.shows.placed before numbers store.store.base.heap (has-first store.store.base.found one.stored one.has) one.shows.is_table there (removes-numbered size one.stored.first one.shows.placed numbers gone pages (Ok (tt, mid)) told h)

    still_ : HoldsStill size mid (with_table (without_rows numbers table) all) store.store.base.found store.store.base.held
    still_ = one-changed size pages mid all table (without_rows numbers table) (tables_of size pages all store) one refl shrinks.others shrinks.well (shorter-shows size pages mid (firsts_of store.store.base.found) store.store.base.held one.stored table numbers one.shows shrinks)

    unique : (x y : Placed) → Contains one.shows.placed x → Contains one.shows.placed y → x.number ≡ y.number → x ≡ y
    unique x y has also same = keyed-one row_number x.number one.shows.placed x y (rows-numbered size pages (firsts_of store.store.base.found) store.store.base.held one.stored.first before store.store.base.heap (has-first store.store.base.found one.stored one.has) one.shows.is_table x.number).0 has also refl (sym same)

    fit_old : AllByRecursion (λ (row : ℕ × List Value). fits one.stored.columns row.1 ≡ true) (map numbered_row one.shows.placed)
    fit_old = subst (λ (l : List (ℕ × List Value)). AllByRecursion (λ (row : ℕ × List Value). fits one.stored.columns row.1 ≡ true) l) one.shows.rows
        (subst (λ (columns : List TableColumn). AllByRecursion (λ (row : ℕ × List Value). fits columns row.1 ≡ true) table.rows) one.shows.columns one.shows.fitting)

    stands : (place : ℕ) (p : Placed) → Contains one.shows.placed p → IsOfKind (kind_in one.stored.columns place) (entry_of place p)
    stands place p has = entry-kind one.stored.columns place p (all-at (λ (row : ℕ × List Value). fits one.stored.columns row.1 ≡ true) (map numbered_row one.shows.placed) (numbered_row p) fit_old (contains-map numbered_row one.shows.placed p has))

    gone-among : (numbers : List ℕ) (gone : List Placed) → each (λ number. only (placed_of one.stored.first number one.shows.placed)) numbers (Ok gone) → AllByRecursion (Contains one.shows.placed) gone
    gone-among [] gone told = subst (AllByRecursion (Contains one.shows.placed)) (ok-one told) tt
    gone-among (number ∷ numbers) gone (g, is, (rest, more, same)) = subst (AllByRecursion (Contains one.shows.placed)) (ok-one same) (found-among one.stored.first number one.shows.placed g is, gone-among numbers rest more)

    all-gone : (place : ℕ) (gone : List Placed) → AllByRecursion (Contains one.shows.placed) gone → AllByRecursion (TurnFits (kind_in one.stored.columns place) place) (map goes gone)
    all-gone place [] all = tt
    all-gone place (g ∷ gone) all = ((stands place g all.0, tt), all-gone place gone all.1)

pub delete_law : DeleteLaw
delete_law size pages all table numbers answer store has these work =
    go answer (goes-on (rows_at size pages one.stored) (λ rows. each (λ number. only (placed_of one.stored.first number rows)) numbers >>= λ gone. table_deleted removed size one.stored gone pages) one.shows.placed (rows-read size pages all table (tables_of size pages all store) one) answer
    (by-name size pages all table (tables_of size pages all store) one (λ (stored : StoredTable). rows_at size pages stored >>= λ rows. each (λ number. only (placed_of stored.first number rows)) numbers >>= λ gone. table_deleted removed size stored gone pages) answer work))
  where
    one : Single size pages all table (tables_of size pages all store)
    one = single size pages all table (tables_of size pages all store) has

    before : Table
    before = record { next_number = table.next_number; rows = one.shows.placed }

    behind : PlainTables
    behind = with_table (without_rows numbers table) all

    there : StillThere one.stored.first one.shows.placed before numbers
    there = still one.stored.first before numbers (subst (λ (rows : List (ℕ × List Value)). AllByRecursion (λ (number : ℕ). Contains (map (λ (row : ℕ × List Value). row.0) rows) number) numbers) one.shows.rows these.0) these.1

    go : (answer : Result (Unit {0} × Pages) Refusal) → (each (λ number. only (placed_of one.stored.first number one.shows.placed)) numbers >>= λ gone. table_deleted removed size one.stored gone pages) answer
        → DoesOrIsFull size (λ u after. IsStoreOf size after (with_table (without_rows numbers table) all) × Reaches size pages table.name after) ⊥ answer
    go (Ok y) (gone, told, (x, out, listing)) =
        let ready = rows-out size pages x.1 all table numbers store one gone there told out in
        let done = follow-answer size x.1 behind ready.still.is one.stored one.shows.placed (left numbers before).rows (map goes gone) ready.waits (Ok y) ready.among ready.shrinks.is_table.rows ready.fits ready.turned (unlisted-rows size one.stored.indexes gone x.1 (Ok y) listing) in
        let none = none-open gone one.stored.indexes ready.waits.shapes in (
          done.0,
          reaches-behind true size pages x.1 y.1 all behind store table one ready.still ready.waits (left numbers before).rows _ _ ready.shrinks.spared ready.shrinks.spares done.1 (λ same. (omega (arith, same, done.1.fewer, none), none)),
        )
    go (Err why) (inl told) = absurd (never-missed one.stored.first one.shows.placed before numbers why there told)
    go (Err why) (inr (gone, told, inl out)) =
        absurd (never size pages (firsts_of store.store.base.found) store.store.base.held one.stored.first one.shows.placed before numbers why store.store.base.heap (has-first store.store.base.found one.stored one.has) one.shows.is_table there (removes-numbered size one.stored.first one.shows.placed numbers gone pages (Err why) told out))
    go (Err why) (inr (gone, told, inr (x, out, listing))) =
        let ready = rows-out size pages x.1 all table numbers store one gone there told out in
        let done = follow-answer size x.1 behind ready.still.is one.stored one.shows.placed (left numbers before).rows (map goes gone) ready.waits (Err why) ready.among ready.shrinks.is_table.rows ready.fits ready.turned (unlisted-rows size one.stored.indexes gone x.1 (Err why) listing) in
        absurd (omega (arith, done.1, none-open gone one.stored.indexes ready.waits.shapes))
