use Rattle.std.proofs.Common.{◌∙◌, SFits, rules}
use Rattle.std.specs.Int.{w128}
use Rattle.std.proofs.lemmas.Int.{to_z-of_z}
use Rattle.fold_kit.proofs.combiner.Combiner.combine.Goals as goal

pub returns : goal.returns
returns g c =
    let fits : SFits w128 c.f.result = search rules in
    to_z-of_z w128 c.f.result fits
    ∙ c.args.self.now.combines c.args.a c.args.b c.f.result c.requires.first c.requires.second (rw (to_z-of_z w128 c.args.a c.ranges.a, to_z-of_z w128 c.args.b c.ranges.b) at c.f.ensures.0)
