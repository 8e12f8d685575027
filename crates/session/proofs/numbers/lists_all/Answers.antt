use Rattle.std.proofs.Common.{◌≡◌, ◌∙◌, ◌<◌, ◌≤◌, List, [], ◌∷◌, ap, arith, get_or, length, sym}
use Rattle.session.proofs.ListedAll.{parts_list_all}
use Rattle.session.proofs.numbers.lists_all.Goals as goal

-- a list of one item
only : {X : Type 0} (xs : List X) (x : X) → 1 ≤ length xs → length xs < 2 → x ≡ get_or xs 0 x → xs ≡ x ∷ []
only [] x least below is = absurd (omega (arith, least))
only (y ∷ []) x least below is = ap (λ z. z ∷ []) (sym is)
only (y ∷ z ∷ zs) x least below is = absurd (omega (arith, below))

pub returns-then-is_bare : goal.returns-then-is_bare
returns-then-is_bare c = λ is.
    parts_list_all c.args.query.now c.output-item.result (sym c.outputs.ensures ∙ only c.outputs.result.now c.output-item.result c.in-len1.len_at_least c.in-len1.len_below c.output-item.is)
    (sym c.is_bare.ensures ∙ c.if-is_bare.true) (c.is_number.ensures is)
