use Rattle.std.proofs.Common.{inl, inr, ◌∙◌, List, Result, ap, sym, subst}
use Rattle.std.proofs.lemmas.Result.{err_from_is_err_and}
use Rattle.retro_base.specs.Gives.{◌>>=◌, Gives}
use Rattle.retro_base.specs.declared.refusal.Refusal.{Refusal}
use Rattle.sql_select.specs.Select.{answer_of}
use Rattle.sql_select.specs.declared.answer.Answer.{Answer}
use Rattle.sql_select.specs.declared.output_row.OutputRow.{OutputRow}
use Rattle.sql_totals.proofs.Totalling.{answer_is}
use Rattle.sql_totals.proofs.totals.Totals.answer.Goals as goal

pub returns-in_err-found : goal.returns-in_err-found
returns-in_err-found c snapshot rows are =
    let p = err_from_is_err_and c.from_residual.result c.from_residual.ensures.1 in
    let goes_on = λ (r : Result (List OutputRow) Refusal). r >>= answer_of c.args.select.now c.args.scope.now c.args.columns in
    let is = answer_is c.args.select.now c.args.scope.now snapshot rows c.args.self are c.args.columns in
    rw (p.1, p.2)
    (elim c.in_err-found.ensures [
      | inl memory ↦ inl memory
      | inr refused ↦ inr (is ∙ ap goes_on (rw (c.outputs.ensures, c.deref.ensures.value) at refused))
    ])

pub returns : goal.returns
returns c snapshot rows are =
    let goes_on = λ (r : Result (List OutputRow) Refusal). r >>= answer_of c.args.select.now c.args.scope.now c.args.columns in
    let is = answer_is c.args.select.now c.args.scope.now snapshot rows c.args.self are c.args.columns in
    let found = rw (c.outputs.ensures, c.deref.ensures.value) at c.in_ok-found.ensures in
    subst (λ (d : Result Answer Refusal). Gives (λ (answer : Answer). answer) c.answer_of.result d) (sym (is ∙ ap goes_on found)) c.answer_of.ensures
