use Rattle.std.proofs.Common.{◌≡◌, ◌∙◌, ◌*◌, ◌/◌, ℕ, inr, sym, subst, arith}
use Rattle.area_log.specs.Regions.{BreaksSettled, IsPlaceOfRefusal}
use Rattle.area_log.proofs.Fetches.{refused_also}
use Rattle.area_log.proofs.listing.listed.Goals as goal

pub returns-clause-cause : goal.returns-clause-cause
returns-clause-cause g c =
    let disk = c.args.disk.now in
    let extent : g.D.Disk.extent disk ≡ 2 * c.args.half = sym c.size-place.ensures ∙ c.if-place-half.false in
    let halved : g.D.Disk.extent disk / 2 ≡ c.args.half = omega (arith, extent) in
    refused_also c.fetch.result _ _ _ _ _ (λ place is. (
      inr (extent, subst (λ (h : ℕ). IsPlaceOfRefusal h place) halved is.0),
      λ honest. inr (g.met.D.Disk.sized disk honest ∙ extent, subst (λ (h : ℕ). BreaksSettled h (g.D.Disk.state disk) (g.D.Disk.state c.fetch.new.disk) place) halved (is.1 honest)),
    ))
    c.fetch.ensures.cause
