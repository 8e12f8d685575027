use Rattle.std.proofs.Common.{◌≡◌, pos, List, Option, Result, IfOk, length, arith, get_or, subst}
use Rattle.std.proofs.lemmas.Grind.{common_steps}
use Rattle.values.specs.declared.value.Value.{Value}
use Rattle.values.specs.declared.value.Value.TheVariants.{Int, Text}
use Rattle.relation.proofs.Fitting.{five, six}
use Rattle.relation.specs.CatalogRow.{IsRowOf}
use Rattle.relation.specs.declared.row.CatalogRow.{CatalogRow}
use Rattle.relation.proofs.row.row_of.Goals as goal

-- the same values
row_at : {E : Type 0} (xs ys : List Value) (r : Result (Option CatalogRow) E) → IfOk r (IsRowOf xs) → xs ≡ ys → IfOk r (IsRowOf ys)
row_at xs ys r h e = subst (λ vs. IfOk r (IsRowOf vs)) e h

pub returns-in-Int-2 : goal.returns-in-Int-2
returns-in-Int-2 c =
    let values = c.args.values.now in
    let d = Int (pos 0) in
    let at0 : get_or values 0 d ≡ Int (pos 2) = grind (arith, common_steps) in
    let at1 : get_or values 1 d ≡ Text c.in-Int-2.table = grind (arith, common_steps) in
    let at2 : get_or values 2 d ≡ Int c.in-Int-2.place = grind (arith, common_steps) in
    let at3 : get_or values 3 d ≡ Text c.in-Int-2.name = grind (arith, common_steps) in
    let at4 : get_or values 4 d ≡ Int c.in-Int-2.kind = grind (arith, common_steps) in
    let long : length values ≡ 5 = omega arith in
    let e = five values d _ _ _ _ _ long at0 at1 at2 at3 at4 in
    row_at _ values c.column_row.result c.column_row.ensures (grind (arith, common_steps, e))

pub returns-in-Int-3 : goal.returns-in-Int-3
returns-in-Int-3 c =
    let values = c.args.values.now in
    let d = Int (pos 0) in
    let at0 : get_or values 0 d ≡ Int (pos 3) = grind (arith, common_steps) in
    let at1 : get_or values 1 d ≡ Text c.in-Int-3.name = grind (arith, common_steps) in
    let at2 : get_or values 2 d ≡ Text c.in-Int-3.table = grind (arith, common_steps) in
    let at3 : get_or values 3 d ≡ Int c.in-Int-3.place = grind (arith, common_steps) in
    let at4 : get_or values 4 d ≡ Int c.in-Int-3.form = grind (arith, common_steps) in
    let at5 : get_or values 5 d ≡ Int c.in-Int-3.root = grind (arith, common_steps) in
    let long : length values ≡ 6 = omega arith in
    let e = six values d _ _ _ _ _ _ long at0 at1 at2 at3 at4 at5 in
    row_at _ values c.index_row.result c.index_row.ensures (grind (arith, common_steps, e))
