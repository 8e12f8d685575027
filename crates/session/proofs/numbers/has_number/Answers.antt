use Rattle.std.proofs.Common.{rules, ◌∙◌}
use Rattle.std.proofs.lemmas.List.Sorted.{answers_always}
use Rattle.session.proofs.Found.{search_is}
use Rattle.session.proofs.Rising.{rising_sorted}
use Rattle.history.specs.declared.entry.Mark.{Mark}
use Rattle.session.proofs.numbers.has_number.Goals as goal

pub returns : goal.returns
returns c =
    c.is_ok.ensures.value ∙ search_is (λ (mark : Mark). mark.number) c.args.number c.args.marks.now c.binary_search_by_key.result c.binary_search_by_key.ensures.bound
    (c.binary_search_by_key.ensures.position (λ (mark : Mark). mark.number) (answers_always _ _ _ (λ f a r g called. search (rules, called)))) (rising_sorted c.args.marks.now c.requires)
