-- The answer of a select whose tables are found.
use Rattle.std.proofs.Common.{◌≡◌, ◌∙◌, ℕ, List, [], ◌∷◌, Option, Some, None, ap}
use Rattle.retro_base.specs.Gives.{◌>>=◌}
use Rattle.sql_tree.specs.declared.select.Select.{Select}
use Rattle.sql_check.specs.Outputs.{answer_columns}
use Rattle.sql_select.specs.Select.{answer}
use Rattle.tables.specs.Meaning.{answer_of, answer_over, known, second_named}
use Rattle.tables.specs.Rows.{rows_of}
use Rattle.tables.specs.Tables.{Found, Tables, table_named}

pub answer_one : (query : Select) (snapshot : Option ℕ) (tables : Tables) (first : Found) → table_named query.table tables ≡ Some first → query.second ≡ None
    → answer_of query snapshot tables ≡ answer query (first.schema ∷ []) (answer_columns (first.schema ∷ []) query.list) snapshot (rows_of first.contents.rows) None
answer_one query snapshot tables first is alone =
    ap (λ (f : Option Found). known f >>= (λ (x : Found). answer_over query snapshot x (second_named query.second tables))) is
    ∙ ap (λ (s : Option (List ℕ)). answer_over query snapshot first (second_named s tables)) alone

pub answer_two : (query : Select) (snapshot : Option ℕ) (tables : Tables) (name : List ℕ) (first second : Found) → table_named query.table tables ≡ Some first → query.second ≡ Some name → table_named name tables ≡ Some second
    → answer_of query snapshot tables ≡ answer query (first.schema ∷ second.schema ∷ []) (answer_columns (first.schema ∷ second.schema ∷ []) query.list) snapshot (rows_of first.contents.rows) (Some (rows_of second.contents.rows))
answer_two query snapshot tables name first second is two other =
    ap (λ (f : Option Found). known f >>= (λ (x : Found). answer_over query snapshot x (second_named query.second tables))) is
    ∙ ap (λ (s : Option (List ℕ)). answer_over query snapshot first (second_named s tables)) two
    ∙ ap (λ (f : Option Found). answer_over query snapshot first (Some f)) other
