use Rattle.std.proofs.Common.{refl, rules, true}
use Rattle.std.proofs.Common.{SFits}
use Rattle.std.proofs.lemmas.Int.{to_z-of_z}
use Rattle.std.specs.Int.{w64}
use Rattle.rql.proofs.Tallies.{adds_number, adds_text}
use Rattle.rql.proofs.tally.Tally.add.Goals as goal

pub returns-in_ok-self-in-Int : goal.returns-in_ok-self-in-Int
returns-in_ok-self-in-Int g c =
    let fits : SFits w64 c.in-Int.number = search rules in
    adds_number c.args.function c.args.value.now c.args.self.now (record { best = c.args.self.now.best; sum = c.in_ok-self-in-Int.field-0; has_text = c.args.self.now.has_text })
    c.in-Int.number _ c.in-Sum.is c.in-Int.is refl c.in_ok-self-in-Int.ensures (to_z-of_z w64 c.in-Int.number fits)

pub returns-in-Text : goal.returns-in-Text
returns-in-Text g c =
    adds_text c.args.function c.args.value.now c.args.self.now (record { best = c.args.self.now.best; sum = c.args.self.now.sum; has_text = true }) c.in-Text.field-0 c.in-Sum.is c.in-Text.is refl
