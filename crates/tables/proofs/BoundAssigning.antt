-- Assignments whose names are bound set what the assignments are defined to set.
use Rattle.std.proofs.Common.{◌≡◌, ◌∙◌, ◌<◌, ◌+◌, ℕ, List, [], ◌∷◌, ◌++◌, Option, Result, append_assoc, drop, get_or, length, map, refl, sym, ap}
use Rattle.std.proofs.lemmas.List.{map-append}
use Rattle.std.specs.Prelude.{slice_set}
use Rattle.retro_base.specs.Gives.{◌>>=◌}
use Rattle.retro_base.specs.declared.refusal.Refusal.{Refusal}
use Rattle.values.specs.declared.value.Value.{Value}
use Rattle.sql_tree.specs.Evaluation.{value_of}
use Rattle.sql_tree.specs.Scope.{column_place}
use Rattle.sql_tree.specs.declared.schema.TableSchema.{TableSchema}
use Rattle.sql_tree.specs.declared.statement.Assignment.{Assignment}
use Rattle.sql_tree.specs.declared.statement.Column.{Column}
use Rattle.evaluation.specs.Bound.{value_at}
use Rattle.evaluation.specs.declared.expression.BoundExpression.{BoundExpression}
use Rattle.sql_select.proofs.Eaches.{item_at}
use Rattle.std.proofs.Common.{Ok, Err}
use Rattle.tables.specs.Bound.{Part, assigns, assigns_all, part, part_of}
use Rattle.tables.specs.Meaning.{assigned, known}
use Rattle.tables.specs.declared.assigning.BoundAssignment.{BoundAssignment}
use Rattle.tables.specs.declared.assigning.BoundAssignments.{BoundAssignments}

abbrev by_parts : List Part → List Value → List Value → Result (List Value) Refusal
by_parts [] before row = Ok row
by_parts (p ∷ parts) before row = p.0 before >>= (λ value. known p.1 >>= (λ place. by_parts parts before (slice_set row place value)))

on_same : {X Y : Type 0} (x : Result X Refusal) (f g : X → Result Y Refusal) → ((v : X) → f v ≡ g v) → (x >>= f) ≡ (x >>= g)
on_same (Ok v) f g h = h v
on_same (Err e) f g h = refl

assigns-parts : (bound : List BoundAssignment) (before row : List Value) → assigns_all bound before row ≡ by_parts (map part bound) before row
assigns-parts [] before row = refl
assigns-parts (b ∷ bound) before row =
    on_same (value_at b.value before) (λ value. known b.place >>= (λ place. assigns_all bound before (slice_set row place value))) (λ value. known b.place >>= (λ place. by_parts (map part bound) before (slice_set row place value)))
    (λ value. on_same (known b.place) (λ place. assigns_all bound before (slice_set row place value)) (λ place. by_parts (map part bound) before (slice_set row place value)) (λ place. assigns-parts bound before (slice_set row place value)))

module _ (table : TableSchema) (n : Option ℕ) where
  assigned-parts : (assignments : List Assignment) (before row : List Value) → by_parts (map (part_of table n) assignments) before row ≡ assigned table n before assignments row
  assigned-parts [] before row = refl
  assigned-parts (a ∷ assignments) before row =
      on_same (value_of (table ∷ []) n before a.value) (λ value. known (column_place a.column table.columns) >>= (λ place. by_parts (map (part_of table n) assignments) before (slice_set row place value))) (λ value. known (column_place a.column table.columns) >>= (λ place. assigned table n before assignments (slice_set row place value)))
      (λ value. on_same (known (column_place a.column table.columns)) (λ place. by_parts (map (part_of table n) assignments) before (slice_set row place value)) (λ place. assigned table n before assignments (slice_set row place value)) (λ place. assigned-parts assignments before (slice_set row place value)))

  pub assigns-is : (bound : BoundAssignments) (assignments : List Assignment) → map part bound.assignments ≡ map (part_of table n) assignments → assigns bound ≡ (λ row. assigned table n row assignments row)
  assigns-is bound assignments e = λ i row. (assigns-parts bound.assignments row row ∙ ap (λ parts. by_parts parts row row) e ∙ assigned-parts assignments row row) i

  -- an assignment more
  pub part_same : (value : BoundExpression) (place : Option ℕ) (a : Assignment) (scope : List TableSchema) (columns : List Column) → scope ≡ table ∷ [] → columns ≡ table.columns → value_at value ≡ (λ row. value_of scope n row a.value) → place ≡ column_place a.column columns
      → part (record { place = place; value = value }) ≡ part_of table n a
  part_same value place a scope columns s c v p =
      let own : value_at value ≡ (λ row. value_of (table ∷ []) n row a.value) = v ∙ (λ i row. value_of (s i) n row a.value) in
      let there : place ≡ column_place a.column table.columns = p ∙ ap (λ (cs : List Column). column_place a.column cs) c in
      λ i. (own i, there i)

  pub more_parts : (bounds : List BoundAssignment) (bound : BoundAssignment) (assignments : List Assignment) (i : ℕ) (a : Assignment) → i < length assignments → a ≡ get_or assignments i a → part bound ≡ part_of table n a
      → map part bounds ++ map (part_of table n) (drop i assignments) ≡ map (part_of table n) assignments → map part (bounds ++ bound ∷ []) ++ map (part_of table n) (drop (i + 1) assignments) ≡ map (part_of table n) assignments
  more_parts bounds bound assignments i a lt is e so_far =
      let rest = map (part_of table n) (drop (i + 1) assignments) in
      ap (λ (l : List Part). l ++ rest) (map-append part bounds (bound ∷ []))
      ∙ append_assoc (map part bounds) (part bound ∷ []) rest
      ∙ ap (λ (p : Part). map part bounds ++ p ∷ rest) e
      ∙ ap (λ (l : List Assignment). map part bounds ++ map (part_of table n) l) (sym (item_at assignments i a lt is))
      ∙ so_far
