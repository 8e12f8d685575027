use Rattle.std.proofs.Common.{◌≡◌, ◌∙◌, eqb, refl}
use Rattle.std.proofs.lemmas.Bool.{eq-eqb, or_right}
use Rattle.page_pool.specs.Side.{held}
use Rattle.desk_tests.proofs.pool.fill.Goals as goal

pub write-requires : goal.write-requires
write-requires g c =
    let page = c.args.page in
    (c.in_ok-hold.ensures.holds page ∙ or_right (held c.args.pool.now page) (eqb page page) (eq-eqb page page refl), tt)
