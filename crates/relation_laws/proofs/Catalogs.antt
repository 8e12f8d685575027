-- The pages tell one catalog.
use Rattle.std.proofs.Common.{◌≡◌, ◌∙◌, ◌<◌, ◌≤◌, ℕ, List, [], ◌∷◌, length, map, get_or, Result, Ok, Err, inl, inr, refl, sym, ap, subst, arith}
use Rattle.std.specs.List.{Contains}
use Rattle.std.proofs.lemmas.List.{same_lists, get_or_default, length-map}
use Rattle.retro_base.specs.declared.refusal.Refusal.{Refusal}
use Rattle.values.specs.declared.value.Kind.{Kind}
use Rattle.values.specs.declared.value.Kind.TheVariants as kind
use Rattle.sql_tree.specs.declared.statement.Column.{Column as TableColumn}
use Rattle.pager.specs.Pages.{Pages}
use Rattle.heap_file.specs.declared.chain.Placed.{Placed}
use Rattle.pager.specs.Allows.{◌>>=◌}
use Rattle.heap_file.specs.Laws.{IsOne}
use Rattle.heap_file.proofs.Ones.{answers_are_one, differ, either-one, next-one, only-one}
use Rattle.heap_laws.specs.Store.{WellFormed, times}
use Rattle.heap_laws.proofs.Counts.{keyed, keyed-map}
use Rattle.heap_laws.proofs.Reading.{Same, ok-one, scan-one}
use Rattle.heap_laws.proofs.Rows.{keyed-at}
use Rattle.relation.specs.declared.catalog.StoredTable.{StoredTable}
use Rattle.relation.specs.declared.catalog.TheConstants.{CATALOG}
use Rattle.relation.specs.declared.catalog.CatalogEntry.{CatalogEntry}
use Rattle.relation.specs.declared.row.CatalogRow.{CatalogRow}
use Rattle.relation.specs.declared.row.CatalogRow.TheVariants.{Table, Column, Index}
use Rattle.relation.specs.declared.row.ColumnRow.{ColumnRow}
use Rattle.relation.specs.declared.row.IndexForm.{IndexForm}
use Rattle.relation.specs.declared.row.IndexForm.TheVariants.{Named, Tree}
use Rattle.relation.specs.declared.row.TableRow.{TableRow}
use Rattle.relation.specs.Catalog.{AreColumns, catalog, catalog_rows, column_rows, index_rows, index_told, table_rows, table_told, row_told}
use Rattle.relation.specs.CatalogRow.{form_number, kind_number, row_values}
use Rattle.relation.specs.Each.{each}
use Rattle.relation_laws.proofs.Lists.{keyed-one, placed-once}

pub each-one : {A B : Type 0} (step : A → Result B Refusal → Type 0) → ((x : A) → IsOne (step x)) → (xs : List A) → IsOne (each step xs)
each-one step one [] = only-one _
each-one step one (x ∷ xs) = next-one _ _ (one x) (λ y. next-one _ _ (each-one step one xs) (λ ys. only-one _))

same-kind : (a b : Kind) → kind_number a ≡ kind_number b → a ≡ b
same-kind kind.Int kind.Int e = refl
same-kind kind.Int kind.Text e = absurd (omega (arith, e))
same-kind kind.Text kind.Int e = absurd (omega (arith, e))
same-kind kind.Text kind.Text e = refl

same-form : (a b : IndexForm) → form_number a ≡ form_number b → a ≡ b
same-form Named Named e = refl
same-form Named Tree e = absurd (omega (arith, e))
same-form Tree Named e = absurd (omega (arith, e))
same-form Tree Tree e = refl

-- rows with the same values are one row
pub same-row : (a b : CatalogRow) → row_values a ≡ row_values b → a ≡ b
same-row (Table a) (Table b) e =
    let same : Table (record { name = a.name; first = a.first }) ≡ Table (record { name = b.name; first = b.first }) = cc e in
    same
same-row (Table a) (Column b) e = absurd (cc e)
same-row (Table a) (Index b) e = absurd (cc e)
same-row (Column a) (Table b) e = absurd (cc e)
same-row (Column a) (Column b) e =
    let kinds : kind_number a.column.kind ≡ kind_number b.column.kind = cc e in
    let kind = same-kind a.column.kind b.column.kind kinds in
    let same : Column (record { table = a.table; place = a.place; column = record { name = a.column.name; kind = a.column.kind } }) ≡ Column (record { table = b.table; place = b.place; column = record { name = b.column.name; kind = b.column.kind } }) = cc (e, kind) in
    same
same-row (Column a) (Index b) e = absurd (cc e)
same-row (Index a) (Table b) e = absurd (cc e)
same-row (Index a) (Column b) e = absurd (cc e)
same-row (Index a) (Index b) e =
    let forms : form_number a.form ≡ form_number b.form = cc e in
    let form = same-form a.form b.form forms in
    let same : Index (record { name = a.name; table = a.table; place = a.place; form = a.form; root = a.root }) ≡ Index (record { name = b.name; table = b.table; place = b.place; form = b.form; root = b.root }) = cc (e, form) in
    same

same : (a b : CatalogEntry) → a.page ≡ b.page → a.row ≡ b.row → Same (Ok a) (Ok b)
same a b page row =
    let joined : Same {A = CatalogEntry} (Ok (record { page = a.page; row = a.row })) (Ok (record { page = b.page; row = b.row })) = cc (page, row) in
    joined

told-one : (placed : Placed) → IsOne (row_told placed)
told-one placed (Ok a) (Ok b) p q =
    let row : a.row ≡ b.row = same-row a.row b.row (sym p.1.1 ∙ q.1.1) in
    let page : a.page ≡ b.page = p.0 ∙ sym q.0 in
    same a b page row
told-one placed (Ok a) (Err why) p q = absurd (q.1 a.row p.1.0 p.1.1)
told-one placed (Err why) (Ok b) p q = absurd (p.1 b.row q.1.0 q.1.1)
told-one placed (Err why) (Err other) p q = ap (λ (w : Refusal). Err w) (p.0 ∙ sym q.0)

place_of : ColumnRow → ℕ
place_of row = row.place

-- the columns that rows tell are one list
columns-one : (rows : List ColumnRow) (a b : List TableColumn) → AreColumns rows a → AreColumns rows b → a ≡ b
columns-one rows a b p q = same_lists a b (sym p.many ∙ q.many) each-same
  where
    times-place : (place : ℕ) → times place (map (λ (row : ColumnRow). row.place) rows) ≡ keyed (λ (row : ColumnRow). row.place) place rows
    times-place place = keyed-map (λ (row : ColumnRow). row.place) place rows

    some : (place : ℕ) → place < length rows → 0 < times place (map (λ (row : ColumnRow). row.place) rows)
    some place lt = from a p place lt
      where
        from : (columns : List TableColumn) → AreColumns rows columns → (place : ℕ) → place < length rows → 0 < times place (map (λ (row : ColumnRow). row.place) rows)
        from [] are place lt = absurd (omega (arith, are.many, lt))
        from (column ∷ columns) are place lt =
            let is = are.each place column (omega (arith, are.many, lt)) in
            let d : ColumnRow = record { table = []; place = 0; column = column } in
            omega (arith, times-place place, subst (λ (k : ℕ). 0 < keyed (λ (row : ColumnRow). row.place) k rows) (is.2 d).0 (keyed-at (λ (row : ColumnRow). row.place) rows is.0 d is.1))

    each-same : (place : ℕ) (d : TableColumn) → place < length a → get_or a place d ≡ get_or b place d
    each-same place d lt =
        let e : ColumnRow = record { table = []; place = 0; column = d } in
        let left = p.each place d lt in
        let right = q.each place d (omega (arith, lt, p.many, q.many)) in
        let once : keyed (λ (row : ColumnRow). row.place) place rows ≤ 1 = omega (arith, times-place place, placed-once (length rows) (map (λ (row : ColumnRow). row.place) rows) (length-map rows (λ (row : ColumnRow). row.place)) some place (omega (arith, lt, p.many))) in
        let row = keyed-one (λ (row : ColumnRow). row.place) place rows (get_or rows left.0 e) (get_or rows right.0 e) once (left.0, left.1, get_or_default rows left.0 (get_or rows left.0 e) e left.1) (right.0, right.1, get_or_default rows right.0 (get_or rows right.0 e) e right.1) (left.2 e).0 (right.2 e).0 in
        sym (left.2 e).1 ∙ ap (λ (r : ColumnRow). r.column) row ∙ (right.2 e).1

table_told-one : (rows : List CatalogEntry) (row : ℕ × TableRow) → IsOne (table_told rows row)
table_told-one rows row (Ok a) (Ok b) p q =
    let columns : a.columns ≡ b.columns = columns-one (column_rows row.1.name rows) a.columns b.columns p.2 q.2 in
    let indexes : a.indexes ≡ b.indexes = p.3 ∙ sym q.3 in
    let name : a.name ≡ b.name = p.0 ∙ sym q.0 in
    let first : a.first ≡ b.first = p.1 ∙ sym q.1 in
    let joined : Same {A = StoredTable} (Ok (record { name = a.name; first = a.first; columns = a.columns; indexes = a.indexes })) (Ok (record { name = b.name; first = b.first; columns = b.columns; indexes = b.indexes })) = cc (name, first, columns, indexes) in
    joined
table_told-one rows row (Ok a) (Err why) p q = absurd (q.1 a.columns p.2)
table_told-one rows row (Err why) (Ok b) p q = absurd (p.1 b.columns q.2)
table_told-one rows row (Err why) (Err other) p q = ap (λ (w : Refusal). Err w) (p.0 ∙ sym q.0)

pub rows-one : (size : ℕ) (pages : Pages) (firsts indexes : List ℕ) → WellFormed size pages firsts indexes → Contains firsts CATALOG → IsOne (catalog_rows size pages)
rows-one size pages firsts indexes well has =
    next-one _ _ (scan-one size pages firsts indexes CATALOG well has) (λ rows.
    next-one _ _ (answers_are_one.next_number size pages CATALOG) (λ next.
    either-one _ _ _ (each-one row_told told-one rows) (only-one _)))

-- the pages tell one catalog
pub catalog-one : (size : ℕ) (pages : Pages) (firsts indexes : List ℕ) → WellFormed size pages firsts indexes → Contains firsts CATALOG → IsOne (catalog size pages)
catalog-one size pages firsts indexes well has =
    next-one _ _ (rows-one size pages firsts indexes well has) (λ rows.
    next-one _ _ (each-one (table_told rows) (table_told-one rows) (table_rows rows)) (λ tables.
    next-one _ _ (each-one (index_told tables) (λ row. only-one _) (index_rows rows)) (λ indexes.
    only-one _)))

-- a step whose answer is known goes on with it
pub goes-on : {A B : Type 0} (m : Result A Refusal → Type 0) (f : A → Result B Refusal → Type 0) (x : A) → ((a : Result A Refusal) → m a → a ≡ Ok x) → (b : Result B Refusal) → (m >>= f) b → f x b
goes-on m f x one (Ok y) (z, told, h) = subst (λ v. f v (Ok y)) (ok-one (one (Ok z) told)) h
goes-on m f x one (Err why) (inl refused) = differ x why (sym (one (Err why) refused))
goes-on m f x one (Err why) (inr (z, told, h)) = subst (λ v. f v (Err why)) (ok-one (one (Ok z) told)) h
