use Rattle.std.proofs.Common.{◌≡◌, rules, subst, sym}
use Rattle.values.specs.Text.{IsText}
use Rattle.relation.proofs.Fitting.{is_text}
use Rattle.relation.proofs.row.name_value.Goals as goal

pub new-requires : goal.new-requires
new-requires c =
    let same : c.from.result ≡ c.args.name.now = search rules in
    subst IsText (sym same) (is_text c.args.name.now c.bytes.ensures.is_name)
