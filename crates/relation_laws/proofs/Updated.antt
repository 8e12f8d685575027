-- Rows of a table that keeps indexes are changed.
use Rattle.std.proofs.Common.{◌≡◌, ◌∙◌, ◌==◌, ◌&&◌, cond, ℕ, Bool, true, false, List, [], ◌∷◌, map, None, Result, Ok, Err, inl, inr, refl, sym, ap, subst, arith}
use Rattle.std.specs.List.{AllByRecursion, Contains}
use Rattle.retro_base.specs.declared.refusal.Refusal.{Refusal}
use Rattle.values.specs.declared.value.Value.{Value}
use Rattle.sql_tree.specs.declared.statement.Column.{Column as TableColumn}
use Rattle.pager.specs.Allows.{◌>>=◌, in_turn}
use Rattle.pager.specs.Pages.{Pages}
use Rattle.tree_index.specs.Work.{added, removed}
use Rattle.heap_file.specs.declared.chain.Placed.{Placed}
use Rattle.heap_laws.specs.Table.{IsStorable, Table}
use Rattle.heap_laws.proofs.Reading.{ok-one}
use Rattle.relation.specs.declared.catalog.Catalog.{Catalog}
use Rattle.relation.specs.declared.catalog.StoredIndex.{StoredIndex}
use Rattle.relation.specs.declared.catalog.StoredTable.{StoredTable}
use Rattle.relation.specs.declared.drafting.RowChange.{RowChange}
use Rattle.relation.specs.declared.listing.Moved.{Moved}
use Rattle.relation.specs.Each.{each}
use Rattle.relation.specs.Entries.{entry_of, row_moved, rows_moved, value_stays}
use Rattle.relation.specs.Work.{all_changed, change_of, placed_of, rows_at, table_updated}
use Rattle.relation.proofs.Halves.{changes-numbered-err, page_of, placed-page}
use Rattle.sql_tree.specs.Rows.{fits}
use Rattle.relation_laws.specs.Laws.{AreChangesOf, IsRowFor, IsStoreOf, LeavesOrIsFull, UpdateLaw, changed_to, numbered_change, with_changes, with_table}
use Rattle.relation_laws.specs.Reach.{Reaches}
use Rattle.relation_laws.specs.Tables.{AreDifferent, PlainTable, PlainTables, numbered_row}
use Rattle.relation_laws.specs.Turns.{moves}
use Rattle.relation_laws.proofs.Catalogs.{goes-on}
use Rattle.relation_laws.proofs.ColumnKinds.{entry-kind, entry-stands, kind_in}
use Rattle.relation_laws.proofs.Coming.{in_turn-as}
use Rattle.relation_laws.proofs.Deleted.{found-among}
use Rattle.relation_laws.proofs.Deleting.{StillThere, still}
use Rattle.relation_laws.proofs.Following.{Fitting}
use Rattle.relation_laws.proofs.Holding.{Waiting, follow-answer, tree, waiting}
use Rattle.relation_laws.proofs.Lists.{all-at, contains-map}
use Rattle.relation_laws.proofs.Sparing.{reaches-behind}
use Rattle.relation_laws.proofs.Singling.{Single, by-name, firsts_of, has-first, one-changed, rows-read, single}
use Rattle.relation_laws.proofs.TableStores.{HoldsStill, tables_of}
use Rattle.relation_laws.proofs.Turning.{CanStand, IsOfKind, TurnFits, turn_work}
use Rattle.relation_laws.proofs.Updating.{Alters, BothFit, Stands, altered, fitting-changes, full, numbers-told, numbers_of, storable-changes, was_number}

-- a step for what is made of each item
pub in_turn-map : {A B X : Type 0} (f : A → B) (step : B → Pages → Result (X × Pages) Refusal → Type 0) (xs : List A) (pages : Pages) (a : Result (Unit {0} × Pages) Refusal) → in_turn (λ x. step (f x)) xs pages a → in_turn step (map f xs) pages a
in_turn-map f step [] pages a h = h
in_turn-map f step (x ∷ xs) pages (Ok y) (next, first, rest) = (next, first, in_turn-map f step xs next.1 (Ok y) rest)
in_turn-map f step (x ∷ xs) pages (Err why) (inl first) = inl first
in_turn-map f step (x ∷ xs) pages (Err why) (inr (next, first, rest)) = inr (next, first, in_turn-map f step xs next.1 (Err why) rest)

pub moved-rows : (size : ℕ) (indexes : List StoredIndex) (moved : List Moved) (mid : Pages) (answer : Result (Unit {0} × Pages) Refusal) → rows_moved added removed size indexes moved mid answer → in_turn (λ (index : StoredIndex). in_turn (turn_work tree size index.root index.place) (map moves moved)) indexes mid answer
moved-rows size indexes moved mid answer h =
    in_turn-as (λ (index : StoredIndex). in_turn (row_moved added removed size index) moved) (λ (index : StoredIndex). in_turn (turn_work tree size index.root index.place) (map moves moved)) indexes mid answer
    (λ index p b work. in_turn-map moves (turn_work tree size index.root index.place) moved p b work) h

-- what the changes tell of rows that are there
pub record Told (first : ℕ) (rows : List Placed) (changes : List (ℕ × List Value)) (told : List RowChange) : Type 0 where
  pub numbered : map numbered_change told ≡ changes
  pub there : AllByRecursion (λ (change : RowChange). Contains rows change.was) told

pub told-of : (first : ℕ) (rows : List Placed) (changes : List (ℕ × List Value)) (told : List RowChange) → each (change_of first rows) changes (Ok told) → Told first rows changes told
told-of first rows [] told h = subst (Told first rows []) (ok-one h) (record { numbered = refl; there = tt })
told-of first rows (change ∷ changes) told (c, (w, found, made), (rest, more, joined)) =
    let follow = told-of first rows changes rest more in
    let named : w.number ≡ change.0 = (placed-page first change.0 rows w found).1 in
    let here : numbered_change (record { was = w; row = change.1 }) ≡ change = λ i. (named i, change.1) in
    subst (Told first rows (change ∷ changes)) (ok-one joined)
    (subst (λ (k : RowChange). Told first rows (change ∷ changes) (k ∷ rest)) (ok-one made) (record {
      numbered = both here follow.numbered;
      there = (found-among first change.0 rows w found, follow.there);
    }))
  where
    both : {x y : ℕ × List Value} {xs ys : List (ℕ × List Value)} → x ≡ y → xs ≡ ys → x ∷ xs ≡ y ∷ ys
    both e f = λ i. e i ∷ f i

-- rows that are there are found
pub never-missed : (first : ℕ) (rows : List Placed) (table : Table) (changes : List (ℕ × List Value)) (why : Refusal) → StillThere first rows table (numbers_of changes) → each (change_of first rows) changes (Err why) → ⊥
never-missed first rows table [] why there h = absurd cc
never-missed first rows table (change ∷ changes) why there (inl (inl h)) = missed rows there.0.3 h
  where
    missed : (rows : List Placed) → page_of first change.0 rows ≡ Ok there.0.0.page → placed_of first change.0 rows ≡ Err why → ⊥
    missed [] e h = absurd cc
    missed (row ∷ rows) e h = go (missed rows) (row.number == change.0) e h
      where
        go : (page_of first change.0 rows ≡ Ok there.0.0.page → placed_of first change.0 rows ≡ Err why → ⊥) → (b : Bool) → cond b (Ok row.page) (page_of first change.0 rows) ≡ Ok there.0.0.page → cond b (Ok row) (placed_of first change.0 rows) ≡ Err why → ⊥
        go rest true e h = absurd cc
        go rest false e h = rest e h
never-missed first rows table (change ∷ changes) why there (inl (inr (w, found, made))) = absurd cc
never-missed first rows table (change ∷ changes) why there (inr (c, one, inl more)) = never-missed first rows table changes why there.2 more
never-missed first rows table (change ∷ changes) why there (inr (c, one, inr (rest, more, joined))) = absurd cc

-- a row that moved can be listed
moved-fits : (columns : List TableColumn) (place : ℕ) (moved : Moved) → Stands columns moved → TurnFits (kind_in columns place) place (moves moved)
moved-fits columns place moved stands = (
  out (value_stays place moved),
  in_ (value_stays place moved && (moved.was.page == moved.becomes.page)),
)
  where
    out : (b : Bool) → IsOfKind (kind_in columns place) (cond b None (entry_of place moved.was))
    out true = tt
    out false = entry-kind columns place moved.was stands.was

    in_ : (b : Bool) → CanStand (kind_in columns place) (cond b None (entry_of place moved.becomes))
    in_ true = tt
    in_ false = entry-stands columns place moved.becomes stands.becomes stands.is stands.low

-- rows of a table of the store are changed, and the indexes wait
pub record RowsMove (size : ℕ) (pages mid : Pages) (all : PlainTables) (table : PlainTable) (changes : List (ℕ × List Value)) (store : IsStoreOf size pages all) (one : Single size pages all table (tables_of size pages all store)) (told : List RowChange) (moved : List Moved) : Type 0 where
  pub alters : Alters size pages (firsts_of store.store.base.found) store.store.base.held one.stored.first (record { next_number = table.next_number; rows = one.shows.placed }) one.stored.columns told moved mid
  pub still : HoldsStill size mid (with_table (with_changes changes table) all) store.store.base.found store.store.base.held
  pub waits : Waiting size mid still.is.store one.stored one.shows.placed
  pub among : Contains still.is.store.found.tables one.stored
  pub fits : (place : ℕ) → Fitting tree one.shows.placed (map moves moved) place

pub rows-move : (size : ℕ) (pages mid : Pages) (all : PlainTables) (table : PlainTable) (changes : List (ℕ × List Value)) (store : IsStoreOf size pages all) (one : Single size pages all table (tables_of size pages all store)) (told : List RowChange) (moved : List Moved) → AreChangesOf table changes
    → each (change_of one.stored.first one.shows.placed) changes (Ok told) → all_changed size one.stored.first told pages (Ok (moved, mid)) → RowsMove size pages mid all table changes store one told moved
rows-move size pages mid all table changes store one told moved these tells h = record {
  alters = alters;
  still = still_;
  waits = waiting size pages mid all (with_table (with_changes changes table) all) store table one still_ alters.others alters.spared;
  among = subst (λ (c : Catalog). Contains c.tables one.stored) (sym still_.found_is) one.has;
  fits = λ place. record {
    kind = kind_in one.stored.columns place;
    stand = λ p has. entry-kind one.stored.columns place p (old-fits p has);
    turn = all-move place moved alters.stand;
  };
}
  where
    before : Table
    before = record { next_number = table.next_number; rows = one.shows.placed }

    is_told : Told one.stored.first one.shows.placed changes told
    is_told = told-of one.stored.first one.shows.placed changes told tells

    fit_old : AllByRecursion (λ (row : ℕ × List Value). fits one.stored.columns row.1 ≡ true) (map numbered_row one.shows.placed)
    fit_old = subst (λ (l : List (ℕ × List Value)). AllByRecursion (λ (row : ℕ × List Value). fits one.stored.columns row.1 ≡ true) l) one.shows.rows
        (subst (λ (columns : List TableColumn). AllByRecursion (λ (row : ℕ × List Value). fits columns row.1 ≡ true) table.rows) one.shows.columns one.shows.fitting)

    old-fits : (p : Placed) → Contains one.shows.placed p → fits one.stored.columns p.row ≡ true
    old-fits p has = all-at (λ (row : ℕ × List Value). fits one.stored.columns row.1 ≡ true) (map numbered_row one.shows.placed) (numbered_row p) fit_old (contains-map numbered_row one.shows.placed p has)

    rows-for : AllByRecursion (λ (change : ℕ × List Value). IsRowFor table change.1) (map numbered_change told)
    rows-for = subst (AllByRecursion (λ (change : ℕ × List Value). IsRowFor table change.1)) (sym is_told.numbered) these.1

    storable : (told : List RowChange) → AllByRecursion (λ (change : ℕ × List Value). IsRowFor table change.1) (map numbered_change told) → AllByRecursion (λ (change : RowChange). IsStorable change.row) told
    storable [] all = tt
    storable (c ∷ told) all = (all.0.0, storable told all.1)

    both-fit : (told : List RowChange) → AllByRecursion (λ (change : ℕ × List Value). IsRowFor table change.1) (map numbered_change told) → AllByRecursion (λ (change : RowChange). Contains one.shows.placed change.was) told → AllByRecursion (BothFit one.stored.columns) told
    both-fit [] all there = tt
    both-fit (c ∷ told) all there = ((old-fits c.was there.0, subst (λ (columns : List TableColumn). fits columns c.row ≡ true) one.shows.columns all.0.1), both-fit told all.1 there.1)

    different : AreDifferent (map was_number told)
    different = subst AreDifferent (ap numbers_of (sym is_told.numbered) ∙ numbers-told told) these.0.1

    alters : Alters size pages (firsts_of store.store.base.found) store.store.base.held one.stored.first (record { next_number = table.next_number; rows = one.shows.placed }) one.stored.columns told moved mid
    alters = altered size pages mid (firsts_of store.store.base.found) store.store.base.held one.stored.first before one.stored.columns told moved store.store.base.heap (has-first store.store.base.found one.stored one.has) one.shows.is_table (storable told rows-for) (both-fit told rows-for is_told.there) is_told.there different h

    still_ : HoldsStill size mid (with_table (with_changes changes table) all) store.store.base.found store.store.base.held
    still_ = one-changed size pages mid all table (with_changes changes table) (tables_of size pages all store) one refl alters.others alters.well (record {
      name = one.shows.name;
      columns = one.shows.columns;
      placed = alters.placed;
      is_table = alters.is_table;
      rows = ap (map (changed_to changes)) one.shows.rows ∙ ap (λ (c : List (ℕ × List Value)). map (changed_to c) (map numbered_row one.shows.placed)) (sym is_told.numbered) ∙ sym alters.rows;
      fitting = fitting-changes table changes table.rows these.1 one.shows.fitting;
    })

    all-move : (place : ℕ) (moved : List Moved) → AllByRecursion (Stands one.stored.columns) moved → AllByRecursion (TurnFits (kind_in one.stored.columns place) place) (map moves moved)
    all-move place [] all = tt
    all-move place (m ∷ moved) all = (moved-fits one.stored.columns place m all.0, all-move place moved all.1)

pub update_law : UpdateLaw
update_law size pages all table changes answer store has these work =
    go answer (goes-on (rows_at size pages one.stored) (λ rows. each (change_of one.stored.first rows) changes >>= λ told. table_updated added removed size one.stored told pages) one.shows.placed (rows-read size pages all table (tables_of size pages all store) one) answer
    (by-name size pages all table (tables_of size pages all store) one (λ (stored : StoredTable). rows_at size pages stored >>= λ rows. each (change_of stored.first rows) changes >>= λ told. table_updated added removed size stored told pages) answer work))
  where
    one : Single size pages all table (tables_of size pages all store)
    one = single size pages all table (tables_of size pages all store) has

    before : Table
    before = record { next_number = table.next_number; rows = one.shows.placed }

    behind : PlainTables
    behind = with_table (with_changes changes table) all

    there : StillThere one.stored.first one.shows.placed before (numbers_of changes)
    there = still one.stored.first before (numbers_of changes) (subst (λ (rows : List (ℕ × List Value)). AllByRecursion (λ (number : ℕ). Contains (map (λ (row : ℕ × List Value). row.0) rows) number) (numbers_of changes)) one.shows.rows these.0.0) these.0.1

    go : (answer : Result (Unit {0} × Pages) Refusal) → (each (change_of one.stored.first one.shows.placed) changes >>= λ told. table_updated added removed size one.stored told pages) answer
        → LeavesOrIsFull size (λ after. IsStoreOf size after (with_table (with_changes changes table) all) × Reaches size pages table.name after) answer
    go (Ok y) (told, tells, (x, move, listing)) =
        let ready = rows-move size pages x.1 all table changes store one told x.0 these tells move in
        let done = follow-answer size x.1 behind ready.still.is one.stored one.shows.placed ready.alters.placed (map moves x.0) ready.waits (Ok y) ready.among ready.alters.is_table.rows ready.fits ready.alters.turned (moved-rows size one.stored.indexes x.0 x.1 (Ok y) listing) in (
          done.0,
          reaches-behind false size pages x.1 y.1 all behind store table one ready.still ready.waits ready.alters.placed _ _ ready.alters.spared ready.alters.spares done.1 (λ same. (omega (arith, same, done.1.fewer, ready.alters.spares.turn), omega (arith, same, done.1.fewer, ready.alters.spares.turn))),
        )
    go (Err why) (inl tells) = absurd (never-missed one.stored.first one.shows.placed before changes why there tells)
    go (Err why) (inr (told, tells, inl move)) =
        full size pages (firsts_of store.store.base.found) store.store.base.held one.stored.first one.shows.placed before changes why store.store.base.heap (has-first store.store.base.found one.stored one.has) one.shows.is_table (storable-changes table changes these.1) there (changes-numbered-err size one.stored.first one.shows.placed changes told pages why tells move)
    go (Err why) (inr (told, tells, inr (x, move, listing))) =
        let ready = rows-move size pages x.1 all table changes store one told x.0 these tells move in
        (follow-answer size x.1 behind ready.still.is one.stored one.shows.placed ready.alters.placed (map moves x.0) ready.waits (Err why) ready.among ready.alters.is_table.rows ready.fits ready.alters.turned (moved-rows size one.stored.indexes x.0 x.1 (Err why) listing)).0
