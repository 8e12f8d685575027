-- Rows in a set, one row more at a time.
use Rattle.std.proofs.Common.{◌≡◌, ◌∙◌, List, [], ◌∷◌, ◌++◌, ap, append-nil, append_assoc, sym}
use Rattle.indexmap.specs.IndexSet.{insert_all}
use Rattle.values.specs.declared.value.Value.{Value}
use Rattle.sql_select.specs.Same.{same_row}
use Rattle.sql_select.specs.Sameness.{same_row_equiv}
use Rattle.sql_select.proofs.Firsts.{firsts_more}
use Rattle.rql_intervals.specs.Intervals.{set_of}

inserted_behind : (met rows : List (List Value)) → insert_all same_row (set_of met) rows ≡ set_of (met ++ rows)
inserted_behind met [] = ap set_of (sym (append-nil met))
inserted_behind met (row ∷ rows) =
    ap (λ keys. insert_all same_row keys rows) (sym (firsts_more same_row same_row_equiv met row))
    ∙ inserted_behind (met ++ row ∷ []) rows
    ∙ ap set_of (append_assoc met (row ∷ []) rows)

-- all rows, into the empty set
pub inserted_all : (rows : List (List Value)) → insert_all same_row [] rows ≡ set_of rows
inserted_all rows = inserted_behind [] rows
