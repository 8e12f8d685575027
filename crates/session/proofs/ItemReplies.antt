-- What a query of a result table replies.
use Rattle.std.proofs.Common.{◌≡◌, ◌⊎◌, ℕ, List, [], Option, Some, Result, Ok, Err, inl, inr, ap, sym, ◌∙◌}
use Rattle.std.specs.Prelude.{IfOk}
use Rattle.retro_base.specs.Gives.{Gives}
use Rattle.retro_base.specs.declared.refusal.Refusal.{Refusal}
use Rattle.retro_base.specs.declared.refusal.Refusal.TheVariants as refusal
use Rattle.sql_select.specs.declared.answer.Answer.{Answer}
use Rattle.sql_tree.specs.declared.select.Select.{Select}
use Rattle.session.specs.OverSnapshots.{results_asked}
use Rattle.session.specs.Replies.{answer_or_refusal, lineless}
use Rattle.session.specs.Wording.{refusal_text}
use Rattle.session.specs.declared.plan.Task.TheVariants.{Results}
use Rattle.session.specs.declared.result_table.ResultTable.{ResultTable}

pub results_told : (answered : Result Answer Refusal) (query : Select) (results : List ResultTable) (told : Option (List ℕ)) → Gives (λ answer. answer) answered (results_asked query results)
    → told ≡ Some (answer_or_refusal answered) → (told ≡ Some (refusal_text [] refusal.OutOfMemory)) ⊎ (told ≡ Some (lineless results (Results query)))
results_told answered query results told gives is = by_answer answered gives is
  where
    so : (found : Result Answer Refusal) → results_asked query results ≡ found → told ≡ Some (answer_or_refusal found) → told ≡ Some (lineless results (Results query))
    so found e is = is ∙ ap (λ (r : Result Answer Refusal). Some (answer_or_refusal r)) (sym e)

    by_answer : (found : Result Answer Refusal) → Gives (λ answer. answer) found (results_asked query results) → told ≡ Some (answer_or_refusal found)
        → (told ≡ Some (refusal_text [] refusal.OutOfMemory)) ⊎ (told ≡ Some (lineless results (Results query)))
    by_answer (Ok answer) gives is = inr (so (Ok answer) gives is)
    by_answer (Err why) (inl memory) is = inl (is ∙ ap (λ (w : Refusal). Some (refusal_text [] w)) memory)
    by_answer (Err why) (inr refused) is = inr (so (Err why) refused is)

pub results_replied : {E : Type 0} (answered : Result Answer Refusal) (query : Select) (results : List ResultTable) (told : Result (Option (List ℕ)) E) → Gives (λ answer. answer) answered (results_asked query results)
    → IfOk told (λ text. text ≡ Some (answer_or_refusal answered))
    → IfOk told (λ text. (text ≡ Some (refusal_text [] refusal.OutOfMemory)) ⊎ (text ≡ Some (lineless results (Results query))))
results_replied answered query results (Ok text) gives is = results_told answered query results text gives is
results_replied answered query results (Err why) gives is = tt
