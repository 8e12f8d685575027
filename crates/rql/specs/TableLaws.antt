-- What follows from the meaning of a table.
use Rattle.std.specs.Prelude.{ℕ, IfOk, List, Result}
use Rattle.std.specs.List.{AllByRecursion}
use Rattle.retro_base.specs.declared.refusal.Refusal.{Refusal}
use Rattle.sql_tree.specs.Rows.{AllFit}
use Rattle.sql_select.specs.declared.answer.Answer.{Answer}
use Rattle.rql.specs.Table.{in_table}
use Rattle.rql.specs.declared.pair.Pair.{Pair}

-- each row of an answer, if there is one, has one value of each column's kind
abbrev pub AnswerFits : Result Answer Refusal → Type 0
AnswerFits result = IfOk result (λ answer. AllFit answer.columns answer.rows)

-- where the rows of all answers fit their columns, the rows of the table fit its own
abbrev pub TablesFit : Type 0
TablesFit = (pairs : List Pair) (answers : ℕ → Result Answer Refusal) (snapshots : List ℕ) →
    AllByRecursion (λ snapshot. AnswerFits (answers snapshot)) snapshots → AnswerFits (in_table pairs answers snapshots)
