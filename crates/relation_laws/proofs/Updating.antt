-- Rows that are changed one after the other.
use Rattle.std.proofs.Common.{◌≡◌, ◌≢◌, ◌∙◌, ◌==◌, ◌<◌, ◌^◌, cond, ℕ, Bool, true, false, List, [], ◌∷◌, map, Some, Ok, Err, Result, inl, inr, refl, sym, ap, subst}
use Rattle.std.specs.List.{AllByRecursion, Contains}
use Rattle.std.proofs.lemmas.Bool.{eq-eqb, ne_eqb}
use Rattle.std.proofs.lemmas.List.{map-id}
use Rattle.retro_base.specs.declared.refusal.Refusal.{Refusal}
use Rattle.retro_base.specs.declared.refusal.Refusal.TheVariants.{PagesFull}
use Rattle.values.specs.declared.value.Value.{Value}
use Rattle.pager.specs.Pages.{Pages}
use Rattle.heap_file.specs.declared.chain.Placed.{Placed}
use Rattle.heap_file.specs.Work.{changed}
use Rattle.heap_laws.specs.Store.{WellFormed}
use Rattle.heap_laws.specs.Table.{IsStorable, IsTable, OthersStay, Table, with_changed}
use Rattle.heap_file.specs.HeapPage.{IsEntry}
use Rattle.heap_laws.specs.Laws.{AreSpared}
use Rattle.heap_laws.proofs.Changing.{changes-row}
use Rattle.heap_laws.proofs.Reading.{ok-one, rows-numbered}
use Rattle.heap_laws.proofs.Rows.{entry_of as heap_entry}
use Rattle.heap_laws.proofs.Staying.{indexes_stay_law}
use Rattle.relation.specs.declared.drafting.RowChange.{RowChange}
use Rattle.relation.specs.declared.listing.Moved.{Moved}
use Rattle.sql_tree.specs.declared.statement.Column.{Column as TableColumn}
use Rattle.relation.specs.Work.{all_changed}
use Rattle.relation.proofs.Halves.{page_of, row_changed}
use Rattle.sql_tree.specs.Rows.{fits}
use Rattle.relation_laws.specs.Laws.{IsRowFor, changed_to, numbered_change}
use Rattle.relation_laws.specs.Turns.{moves}
use Rattle.relation_laws.specs.Tables.{AreDifferent, PlainTable, numbered_row}
use Rattle.relation_laws.proofs.Catalogs.{goes-on}
use Rattle.relation_laws.proofs.Deleting.{StillThere}
use Rattle.relation_laws.proofs.ColumnKinds.{row-stands}
use Rattle.relation_laws.proofs.KeyTurns.{KeyTurn, row_number, some-is}
use Rattle.relation_laws.proofs.Turning.{RowsTurn}
use Rattle.relation_laws.proofs.Lists.{contains-map, contains-of, keyed-one}
use Rattle.relation_laws.proofs.Reaching.{Spares, spares-none, spares-then, untouched-then}
use Rattle.relation_laws.proofs.Moving.{changed-spares}
use Rattle.pager.specs.Allows.{in_turn}

abbrev pub numbers_of : List (ℕ × List Value) → List ℕ
numbers_of changes = map (λ (change : ℕ × List Value). change.0) changes

abbrev pub was_number : RowChange → ℕ
was_number change = change.was.number

-- a row of another number stays where another row changes
stays : (table : Table) (to : Placed) (placed : Placed) → placed.number ≢ to.number → Contains table.rows placed → Contains (with_changed table to).rows placed
stays table to placed apart has =
    let same : cond (placed.number == to.number) to placed ≡ placed = rw (ne_eqb placed.number to.number apart) refl in
    subst (λ (p : Placed). Contains (with_changed table to).rows p) same (contains-map (λ (p : Placed). cond (p.number == to.number) to p) table.rows placed has)

pub still-changed : (first : ℕ) (rows : List Placed) (table : Table) (to : Placed) (numbers : List ℕ) → AllByRecursion (λ (other : ℕ). other ≢ to.number) numbers → StillThere first rows table numbers → StillThere first rows (with_changed table to) numbers
still-changed first rows table to [] apart h = tt
still-changed first rows table to (other ∷ numbers) apart h =
    let found = h.0.0 in
    ((found, h.0.1, stays table to found (λ e. apart.0 (sym h.0.1 ∙ e)) h.0.2, h.0.3), h.1, still-changed first rows table to numbers apart.1 h.2)

-- the step that changes one row
pub changed_at : (size first : ℕ) (rows : List Placed) (found : Placed) (change : ℕ × List Value) (pages : Pages) (a : Result (ℕ × Pages) Refusal) → found.number ≡ change.0 → page_of first change.0 rows ≡ Ok found.page → row_changed size first rows change pages a → changed size pages first found.page (record { number = found.number; row = change.1 }) a
changed_at size first rows found change pages a is page h =
    subst (λ (n : ℕ). changed size pages first found.page (record { number = n; row = change.1 }) a) (sym is)
    (goes-on _ (λ (p : ℕ). changed size pages first p (record { number = change.0; row = change.1 })) found.page (λ b told. sym told ∙ page) a h)

-- a change of another row leaves a row
changed-other : (changes : List (ℕ × List Value)) (row : ℕ × List Value) → AllByRecursion (λ (other : ℕ). other ≢ row.0) (numbers_of changes) → changed_to changes row ≡ row
changed-other [] row apart = refl
changed-other (change ∷ changes) row apart = rw (ne_eqb row.0 change.0 (λ e. apart.0 (sym e))) (changed-other changes row apart.1)

-- a change before others
changed-next : (change : ℕ × List Value) (changes : List (ℕ × List Value)) (page : ℕ) (rows : List Placed) → AllByRecursion (λ (other : ℕ). other ≢ change.0) (numbers_of changes)
    → map (changed_to changes) (map numbered_row (map (λ (p : Placed). cond (p.number == change.0) (record { number = change.0; page = page; row = change.1 }) p) rows)) ≡ map (changed_to (change ∷ changes)) (map numbered_row rows)
changed-next change changes page [] apart = refl
changed-next change changes page (row ∷ rows) apart = both (go (row.number == change.0)) (changed-next change changes page rows apart)
  where
    go : (b : Bool) → changed_to changes (numbered_row (cond b (record { number = change.0; page = page; row = change.1 }) row)) ≡ cond b change (changed_to changes (numbered_row row))
    go true = changed-other changes change apart
    go false = refl

    both : {x y : ℕ × List Value} {xs ys : List (ℕ × List Value)} → x ≡ y → xs ≡ ys → x ∷ xs ≡ y ∷ ys
    both e f = cc (e, f)

-- a row has one value of each column's kind, as it was and as it becomes, and stands then
pub record Stands (columns : List TableColumn) (moved : Moved) : Type 0 where
  pub was : fits columns moved.was.row ≡ true
  pub becomes : fits columns moved.becomes.row ≡ true
  pub is : IsEntry (heap_entry moved.becomes)
  pub low : moved.becomes.page < 2 ^ 32

abbrev pub BothFit : List TableColumn → RowChange → Type 0
BothFit columns change = (fits columns change.was.row ≡ true) × (fits columns change.row ≡ true)

-- Rows of the table that begins with a page were changed, and moved so. The other tables are as they were, and so are the
-- other pages that are held.
pub record Alters (size : ℕ) (pages : Pages) (firsts indexes : List ℕ) (first : ℕ) (table : Table) (columns : List TableColumn) (told : List RowChange) (moved : List Moved) (after : Pages) : Type 0 where
  pub placed : List Placed
  pub is_table : IsTable size after first (record { next_number = table.next_number; rows = placed })
  pub rows : map numbered_row placed ≡ map (changed_to (map numbered_change told)) (map numbered_row table.rows)
  pub others : OthersStay size pages after firsts first
  pub well : WellFormed size after firsts indexes
  pub spares : Spares false size pages after firsts first
  pub spared : AreSpared indexes pages after
  pub turned : RowsTurn table.rows (map moves moved) placed
  pub stand : AllByRecursion (Stands columns) moved

-- the rows of which one turned
changed-turn : (table : Table) (w to : Placed) → to.number ≡ w.number → Contains table.rows w → KeyTurn row_number w.number table.rows (with_changed table to).rows (Some to)
changed-turn table w to named has = record {
  stays = λ x apart there. stays table to x (λ e. apart (e ∙ named)) there;
  stood = λ x apart there.
      let it = contains-of (λ (p : Placed). cond (p.number == to.number) to p) table.rows x there in
      stood-one x apart it.0 it.1 (it.0.number == to.number) it.2;
  is_own = record {
    told = λ x there same.
        let it = contains-of (λ (p : Placed). cond (p.number == to.number) to p) table.rows x there in
        own-one x same it.0 (it.0.number == to.number) refl it.2;
    listed = λ x e.
        let same : to ≡ x = some-is e in
        (sym (ap row_number same) ∙ named, subst (Contains (with_changed table to).rows) (here ∙ same) (contains-map (λ (p : Placed). cond (p.number == to.number) to p) table.rows w has));
  };
}
  where
    here : cond (w.number == to.number) to w ≡ to
    here = rw (eq-eqb w.number to.number (sym named)) refl

    stood-one : (x : Placed) → x.number ≢ w.number → (y : Placed) → Contains table.rows y → (b : Bool) → cond b to y ≡ x → Contains table.rows x
    stood-one x apart y also true e = absurd (apart (sym (ap row_number e) ∙ named))
    stood-one x apart y also false e = subst (Contains table.rows) e also

    own-one : (x : Placed) → x.number ≡ w.number → (y : Placed) → (b : Bool) → (y.number == to.number) ≡ b → cond b to y ≡ x → Some to ≡ Some x
    own-one x same y true is e = ap (λ (p : Placed). Some p) e
    own-one x same y false is e = absurd (clash (sym (eq-eqb y.number to.number (ap row_number e ∙ same ∙ sym named)) ∙ is))
      where
        clash : true ≡ false → ⊥
        clash c = cc

-- the rows that changes tell are still there where another one changed
still-there : (table : Table) (to : Placed) (told : List RowChange) → AllByRecursion (λ (other : ℕ). other ≢ to.number) (map was_number told) → AllByRecursion (λ (change : RowChange). Contains table.rows change.was) told → AllByRecursion (λ (change : RowChange). Contains (with_changed table to).rows change.was) told
still-there table to [] apart all = tt
still-there table to (change ∷ told) apart all = (stays table to change.was apart.0 all.0, still-there table to told apart.1 all.1)

pub numbers-told : (told : List RowChange) → numbers_of (map numbered_change told) ≡ map was_number told
numbers-told [] = refl
numbers-told (change ∷ told) = ap (λ (l : List ℕ). change.was.number ∷ l) (numbers-told told)

pub altered : (size : ℕ) (pages after : Pages) (firsts indexes : List ℕ) (first : ℕ) (table : Table) (columns : List TableColumn) (told : List RowChange) (moved : List Moved) → WellFormed size pages firsts indexes → Contains firsts first → IsTable size pages first table → AllByRecursion (λ (change : RowChange). IsStorable change.row) told
    → AllByRecursion (BothFit columns) told → AllByRecursion (λ (change : RowChange). Contains table.rows change.was) told → AreDifferent (map was_number told) → all_changed size first told pages (Ok (moved, after)) → Alters size pages firsts indexes first table columns told moved after
altered size pages after firsts indexes first table columns [] moved well among is storable fit there apart h =
    subst (λ (p : List Moved × Pages). Alters size pages firsts indexes first table columns [] p.0 p.1) (ok-one h) (record {
      placed = table.rows;
      is_table = is;
      rows = sym (map-id (map numbered_row table.rows));
      others = λ other c apart t told. told;
      well = well;
      spares = spares-none false size pages firsts first;
      spared = λ page has. (refl, refl);
      turned = refl;
      stand = tt;
    })
altered size pages after firsts indexes first table columns (change ∷ told) moved well among is storable fit there apart (next, (page, work, made), (rest, more, joined)) =
    let w = change.was in
    let one = changes-row size pages firsts indexes first table w change.row (Ok page) well among is there.0 storable.0 work in
    let to : Placed = record { number = w.number; page = page.0; row = change.row } in
    let m : Moved = record { was = w; becomes = to } in
    let here = ok-one made in
    let behind : all_changed size first told page.1 (Ok rest) = subst (λ (q : Moved × Pages). all_changed size first told q.1 (Ok rest)) (sym here) more in
    let follow = altered size page.1 rest.1 firsts indexes first (with_changed table to) columns told rest.0 one.well among one.shows storable.1 fit.1 (still-there table to told apart.0 there.1) apart.1 behind in
    let turn = changed-turn table w to refl there.0 in
    let stood = row-stands size page.1 firsts indexes first (with_changed table to) to one.well among one.shows (turn.is_own.listed to refl).1 in
    let numbers = rows-numbered size pages firsts indexes first table well among is w.number in
    subst (λ (p : List Moved × Pages). Alters size pages firsts indexes first table columns (change ∷ told) p.0 p.1) (ok-one joined)
    (subst (λ (k : Moved). Alters size pages firsts indexes first table columns (change ∷ told) (k ∷ rest.0) rest.1) (ap (λ (q : Moved × Pages). q.0) here) (record {
      placed = follow.placed;
      is_table = follow.is_table;
      rows = follow.rows ∙ changed-next (numbered_change change) (map numbered_change told) page.0 table.rows (subst (AllByRecursion (λ (other : ℕ). other ≢ w.number)) (sym (numbers-told told)) apart.0);
      others = λ other c differ t shows. follow.others other c differ t (one.others other c differ t shows);
      well = follow.well;
      spares = spares-then false size pages page.1 rest.1 firsts first (changed-spares size pages page.1 firsts indexes first table w.page (record { number = w.number; row = change.row }) page.0 well among one) follow.spares;
      spared = λ p has. untouched-then pages page.1 rest.1 p (indexes_stay_law.change size pages page.1 firsts indexes first table w.page (record { number = w.number; row = change.row }) page.0 well among one p has) (follow.spared p has);
      turned = (
        w.number,
        (with_changed table to).rows,
        record {
          told = λ x has same. ap (λ (p : Placed). Some p) (keyed-one row_number w.number table.rows w x numbers.0 there.0 has refl same);
          listed = λ x e. let it : w ≡ x = some-is e in (ap row_number (sym it), subst (Contains table.rows) it there.0);
        },
        turn,
        follow.turned,
      );
      stand = (record { was = fit.0.0; becomes = fit.0.1; is = stood.0; low = stood.1 }, follow.stand);
    }))

pub full : (size : ℕ) (pages : Pages) (firsts indexes : List ℕ) (first : ℕ) (rows : List Placed) (table : Table) (changes : List (ℕ × List Value)) (why : Refusal) → WellFormed size pages firsts indexes → Contains firsts first → IsTable size pages first table → AllByRecursion (λ (change : ℕ × List Value). IsStorable change.1) changes → StillThere first rows table (numbers_of changes)
    → in_turn (row_changed size first rows) changes pages (Err why) → why ≡ PagesFull size
full size pages firsts indexes first rows table [] why well among is storable there h = absurd cc
full size pages firsts indexes first rows table (change ∷ changes) why well among is storable there (inl h) =
    let found = there.0.0 in
    (changes-row size pages firsts indexes first table found change.1 (Err why) well among is there.0.2 storable.0 (changed_at size first rows found change pages (Err why) there.0.1 there.0.3 h)).0
full size pages firsts indexes first rows table (change ∷ changes) why well among is storable there (inr h) =
    let found = there.0.0 in
    let one = changes-row size pages firsts indexes first table found change.1 (Ok h.0) well among is there.0.2 storable.0 (changed_at size first rows found change pages (Ok h.0) there.0.1 there.0.3 h.1) in
    let to : Placed = record { number = change.0; page = h.0.0; row = change.1 } in
    let now_shown : IsTable size h.0.1 first (with_changed table to) = subst (λ (n : ℕ). IsTable size h.0.1 first (with_changed table (record { number = n; page = h.0.0; row = change.1 }))) there.0.1 one.shows in
    full size h.0.1 firsts indexes first rows (with_changed table to) changes why one.well among now_shown storable.1 (still-changed first rows table to (numbers_of changes) there.1 there.2) h.2

pub storable-changes : (table : PlainTable) (changes : List (ℕ × List Value)) → AllByRecursion (λ (change : ℕ × List Value). IsRowFor table change.1) changes → AllByRecursion (λ (change : ℕ × List Value). IsStorable change.1) changes
storable-changes table [] all = tt
storable-changes table (change ∷ changes) all = (all.0.0, storable-changes table changes all.1)

-- a changed row has one value of each column's kind too
fitting-change : (table : PlainTable) (changes : List (ℕ × List Value)) (row : ℕ × List Value) → AllByRecursion (λ (change : ℕ × List Value). IsRowFor table change.1) changes → fits table.columns row.1 ≡ true → fits table.columns (changed_to changes row).1 ≡ true
fitting-change table [] row all fit = fit
fitting-change table (change ∷ changes) row all fit = go (fitting-change table changes row all.1 fit) (row.0 == change.0)
  where
    go : fits table.columns (changed_to changes row).1 ≡ true → (b : Bool) → fits table.columns (cond b change (changed_to changes row)).1 ≡ true
    go rest true = all.0.1
    go rest false = rest

pub fitting-changes : (table : PlainTable) (changes : List (ℕ × List Value)) (rows : List (ℕ × List Value)) → AllByRecursion (λ (change : ℕ × List Value). IsRowFor table change.1) changes → AllByRecursion (λ (row : ℕ × List Value). fits table.columns row.1 ≡ true) rows → AllByRecursion (λ (row : ℕ × List Value). fits table.columns row.1 ≡ true) (map (changed_to changes) rows)
fitting-changes table changes [] all fit = tt
fitting-changes table changes (row ∷ rows) all fit = (fitting-change table changes row all fit.0, fitting-changes table changes rows all fit.1)
