-- The plain list of snapshots gives the numbers of all marks, and those of a store are retained.
use Rattle.std.proofs.Common.{◌≡◌, ◌∙◌, ◌&&◌, ◌||◌, ◌==◌, ℕ, Bool, true, false, List, [], ◌∷◌, length, map, Option, None, Some, Result, Ok, refl, ap, sym, subst, pos, arith, eq-eqb}
use Rattle.std.specs.Prelude.{flat_map, nat_le, not}
use Rattle.std.specs.List.{AllByRecursion, list_all}
use Rattle.std.specs.Ordering.{is_lt}
use Rattle.std.proofs.lemmas.Bool.{eqb-true}
use Rattle.retro_base.specs.Gives.{◌>>=◌}
use Rattle.retro_base.specs.declared.refusal.Refusal.{Refusal}
use Rattle.history.specs.Marks.{newest}
use Rattle.history.specs.declared.entry.Mark.{Mark as MarkOf}
use Rattle.values.specs.declared.value.Value.{Value}
use Rattle.values.specs.declared.value.Value.TheVariants as value
use Rattle.sql_tree.specs.Expression.{Column}
use Rattle.sql_tree.specs.Select.{outputs_of}
use Rattle.sql_tree.specs.Condition.{ConditionTree}
use Rattle.sql_tree.specs.declared.name.ColumnName.{ColumnName}
use Rattle.sql_tree.specs.declared.schema.TableSchema.{TableSchema}
use Rattle.sql_tree.specs.declared.select.OrderKey.{OrderKey}
use Rattle.sql_tree.specs.declared.select.Output.{Output}
use Rattle.sql_tree.specs.declared.select.OutputValue.{OutputValue}
use Rattle.sql_tree.specs.declared.select.OutputValue.TheVariants as output
use Rattle.sql_tree.specs.declared.select.Select.{Select}
use Rattle.sql_tree.specs.declared.select.SelectList.{SelectList}
use Rattle.sql_tree.specs.declared.select.SelectList.TheVariants.{All, Outputs}
use Rattle.sql_check.specs.Outputs.{answer_columns}
use Rattle.sql_select.specs.Each.{each}
use Rattle.sql_select.specs.Order.{keys_cmp, placed, sorted_by}
use Rattle.sql_select.specs.Rows.{holds_at, kept}
use Rattle.sql_select.specs.Select.{finished, outputs_of as outputs_in, row_of_row}
use Rattle.sql_select.specs.declared.answer.Answer.{Answer}
use Rattle.sql_select.specs.declared.output_row.OutputRow.{OutputRow}
use Rattle.session.specs.Calls.{IsNumber, ListsAll, has_number, is_bare, is_retained, marked_numbers, number_column}
use Rattle.session.specs.OverSnapshots.{numbers_of, snapshots_table}
use Rattle.session.specs.Singles.{row_of_mark}

-- ---- the plain list

abbrev scope : List TableSchema
scope = snapshots_table ∷ []

abbrev number_list : Option (List ℕ) → SelectList
number_list name = Outputs (record { value = output.Expression (Column number_column); name = name } ∷ [])

abbrev plain : List ℕ → Option (List ℕ) → Select
plain table name = record { distinct = false; list = number_list name; table = table; second = None; condition = None; group_by = []; order_by = []; limit = None }

-- all rows are kept
all_kept : (rows : List (List Value)) → kept (holds_at scope None None) rows ≡ Ok rows
all_kept [] = refl
all_kept (row ∷ rows) = ap (λ (r : Result (List (List Value)) Refusal). r >>= (λ others. Ok (row ∷ others))) (all_kept rows)

abbrev row_out : MarkOf → OutputRow
row_out mark = record { outputs = value.Int (pos mark.number) ∷ []; origin = row_of_mark mark }

-- and each gives its number
each_number : (name : Option (List ℕ)) (marks : List MarkOf) → each (row_of_row scope None (number_list name)) (map row_of_mark marks) ≡ Ok (map row_out marks)
each_number name [] = refl
each_number name (mark ∷ marks) = ap (λ (r : Result (List OutputRow) Refusal). r >>= (λ rows. Ok (row_out mark ∷ rows))) (each_number name marks)

-- no key leaves them in their order
unordered : (rows : List OutputRow) → sorted_by [] rows ≡ rows
unordered [] = refl
unordered (row ∷ rows) = ap (placed (λ a b. is_lt (keys_cmp [] a b)) row) (unordered rows) ∙ first rows
  where
    first : (rows : List OutputRow) → placed (λ a b. is_lt (keys_cmp [] a b)) row rows ≡ row ∷ rows
    first [] = refl
    first (next ∷ rows) = refl

-- the numbers that these rows hold
numbers_out : (marks : List MarkOf) → flat_map numbers_of (map outputs_in (map row_out marks)) ≡ marked_numbers marks
numbers_out [] = refl
numbers_out (mark ∷ marks) = ap (λ (numbers : List ℕ). mark.number ∷ numbers) (numbers_out marks)

-- what stands behind the rows that are kept, and behind those of the answer
abbrev from_found : List ℕ → Option (List ℕ) → Result (List OutputRow) Refusal → Result (List ℕ) Refusal
from_found table name rows =
    (rows >>= (λ (found : List OutputRow). Ok (record { columns = answer_columns scope (number_list name); rows = finished (plain table name) [] found })))
    >>= (λ (listed : Answer). Ok (flat_map numbers_of listed.rows))

abbrev from_kept : List ℕ → Option (List ℕ) → Result (List (List Value)) Refusal → Result (List ℕ) Refusal
from_kept table name rows =
    (do
      here ← rows
      found ← each (row_of_row scope None (number_list name)) here
      Ok (record { columns = answer_columns scope (number_list name); rows = finished (plain table name) [] found }))
    >>= (λ (listed : Answer). Ok (flat_map numbers_of listed.rows))

plain_lists_all : (table : List ℕ) (name : Option (List ℕ)) → ListsAll (plain table name)
plain_lists_all table name marks =
    ap (from_kept table name) (all_kept (map row_of_mark marks))
    ∙ ap (from_found table name) (each_number name marks)
    ∙ ap (λ (rows : List OutputRow). Ok (flat_map numbers_of (map outputs_in rows))) (unordered (map row_out marks))
    ∙ ap (λ (numbers : List ℕ). Ok numbers) (numbers_out marks)

-- ---- a select that is the plain list

both : (a b : Bool) → (a && b) ≡ true → (a ≡ true) × (b ≡ true)
both true b e = (refl, e)
both false b e = cc

is_list : (list : SelectList) (one : Output) → outputs_of list ≡ one ∷ [] → IsNumber one → list ≡ number_list one.name
is_list All one is number = cc
is_list (Outputs outputs) one is number = ap (λ (os : List Output). Outputs os) is ∙ ap (λ (v : OutputValue). Outputs (record { value = v; name = one.name } ∷ [])) number

none_there : {X : Type 0} (xs : List X) → (length xs == 0) ≡ true → xs ≡ []
none_there [] e = refl
none_there (x ∷ xs) e = absurd (omega (arith, eqb-true (length (x ∷ xs)) 0 e))

abbrev with_parts : Bool → SelectList → List ℕ → Option (List ℕ) → Option ConditionTree → List ColumnName → List OrderKey → Option ℕ → Select
with_parts distinct list table second condition group_by order_by limit =
    record { distinct = distinct; list = list; table = table; second = second; condition = condition; group_by = group_by; order_by = order_by; limit = limit }

by_parts : (distinct : Bool) (list : SelectList) (table : List ℕ) (second : Option (List ℕ)) (condition : Option ConditionTree) (group_by : List ColumnName) (order_by : List OrderKey) (limit : Option ℕ) (name : Option (List ℕ))
    → list ≡ number_list name → is_bare (with_parts distinct list table second condition group_by order_by limit) ≡ true → ListsAll (with_parts distinct list table second condition group_by order_by limit)
by_parts true list table second condition group_by order_by limit name is bare = cc
by_parts false list table (Some other) condition group_by order_by limit name is bare = cc
by_parts false list table None (Some condition) group_by order_by limit name is bare = cc
by_parts false list table None None group_by order_by (Some limit) name is bare = absurd (clash (both ((length group_by == 0) && (length order_by == 0)) false bare).1)
  where
    clash : false ≡ true → ⊥
    clash e = cc
by_parts false list table None None group_by order_by None name is bare =
    let lists = both (length group_by == 0) (length order_by == 0) (both ((length group_by == 0) && (length order_by == 0)) true bare).0 in
    subst (λ (l : SelectList). ListsAll (with_parts false l table None None group_by order_by None)) (sym is)
    (subst (λ (g : List ColumnName). ListsAll (with_parts false (number_list name) table None None g order_by None)) (sym (none_there group_by lists.0))
    (subst (λ (o : List OrderKey). ListsAll (with_parts false (number_list name) table None None [] o None)) (sym (none_there order_by lists.1)) (plain_lists_all table name)))

pub parts_list_all : (query : Select) (one : Output) → outputs_of query.list ≡ one ∷ [] → is_bare query ≡ true → IsNumber one → ListsAll query
parts_list_all query one list bare number =
    by_parts query.distinct query.list query.table query.second query.condition query.group_by query.order_by query.limit one.name (is_list query.list one list number) bare

-- ---- the numbers of a store's marks

retained_among : (last : ℕ) (whole marks : List MarkOf) → ((n : ℕ) → has_number n marks ≡ true → has_number n whole ≡ true)
    → list_all (λ (mark : MarkOf). not (mark.number == 0) && nat_le mark.number last) marks ≡ true
    → AllByRecursion (λ (n : ℕ). (not (n == 0) && nat_le n last && has_number n whole) ≡ true) (marked_numbers marks)
retained_among last whole [] among within = tt
retained_among last whole (mark ∷ marks) among within =
    let parts = both (not (mark.number == 0) && nat_le mark.number last) (list_all (λ (m : MarkOf). not (m.number == 0) && nat_le m.number last) marks) within in (
      joined (not (mark.number == 0) && nat_le mark.number last) (has_number mark.number whole) parts.0 (among mark.number (here (mark.number == mark.number) (eq-eqb mark.number mark.number refl))),
      retained_among last whole marks (λ n has. among n (behind (mark.number == n) (has_number n marks) has)) parts.1,
    )
  where
    joined : (a b : Bool) → a ≡ true → b ≡ true → (a && b) ≡ true
    joined true true e f = refl
    joined true false e f = cc
    joined false b e f = cc

    here : (same : Bool) → same ≡ true → (same || has_number mark.number marks) ≡ true
    here true e = refl
    here false e = cc

    behind : (same has : Bool) → has ≡ true → (same || has) ≡ true
    behind true has e = refl
    behind false has e = e

-- no number is 0, and none is above the last
pub all_retained : (marks : List MarkOf) → list_all (λ (mark : MarkOf). not (mark.number == 0) && nat_le mark.number (newest marks)) marks ≡ true
    → AllByRecursion (λ (number : ℕ). is_retained number marks ≡ true) (marked_numbers marks)
all_retained marks within = retained_among (newest marks) marks marks (λ n has. has) within
