use Rattle.std.proofs.Common.{refl, sym, ap, ◌∙◌, ◌≡◌, subst}
use mathlib.Core.Option.{some-injective}
use lib.ListN.{get_elem?}
use Rattle.turn.specs.Rule.{Knows, told_times}
use Rattle.turn.specs.Seats.{AreClosed}
use Rattle.turn.proofs.Ends.{ends}
use Rattle.turn.proofs.Handing.{same_desk, same_vault}
use Rattle.turn.proofs.turn.Turn.take_home.Goals as goal

pub both_of-requires : goal.both_of-requires
both_of-requires g c =
    let e = ends _ _ _ _ _ _ c.args.all.me.0 _ _ c.requires.outside.0 c.requires.outside.1 c.requires.parts c.close_with-closed.ensures.values.2 in
    let first = some-injective _ _ (sym e.2 ∙ c.take-first.ensures.value) in
    let second = some-injective _ _ (sym e.3 ∙ (sym (ap (λ xs. get_elem? xs 1) c.take-first.ensures.others.0) ∙ c.take-second.ensures.value)) in
    (e.0, e.1, sym first, sym second)

pub returns-clause-closed : goal.returns-clause-closed
returns-clause-closed g c =
    let e = ends _ _ _ _ _ _ c.args.all.me.0 _ _ c.requires.outside.0 c.requires.outside.1 c.requires.parts c.close_with-closed.ensures.values.2 in
    let first = some-injective _ _ (sym e.2 ∙ c.take-first.ensures.value) in
    let second = some-injective _ _ (sym e.3 ∙ (sym (ap (λ xs. get_elem? xs 1) c.take-first.ensures.others.0) ∙ c.take-second.ensures.value)) in
    let x : e.0 ≡ c.both_of.result.0 = same_desk _ _ _ _ first refl c.both_of.ensures.0 in
    let y : e.1 ≡ c.both_of.result.1 = same_vault _ _ _ _ second refl c.both_of.ensures.1 in
    subst (λ (v : g.row.A.Denot × g.row.B.Denot). AreClosed g.A.Opening.Opening.meaning g.A.DeskValue.meaning g.B.VaultValue.meaning c.args.self.table.shared.key.seats (λ d k. told_times d k c.args.all.me.0) v.0 v.1) (λ i. (x i, y i)) e.4

pub returns-clause-opening : goal.returns-clause-opening
returns-clause-opening g c =
    let e = ends _ _ _ _ _ _ c.args.all.me.0 _ _ c.requires.outside.0 c.requires.outside.1 c.requires.parts c.close_with-closed.ensures.values.2 in
    let first = some-injective _ _ (sym e.2 ∙ c.take-first.ensures.value) in
    let x : e.0 ≡ c.both_of.result.0 = same_desk _ _ _ _ first refl c.both_of.ensures.0 in
    ap g.A.DeskValue.meaning.opening (sym x) ∙ e.5

pub returns-clause-known : goal.returns-clause-known
returns-clause-known g c =
    let e = ends _ _ _ _ _ _ c.args.all.me.0 _ _ c.requires.outside.0 c.requires.outside.1 c.requires.parts c.close_with-closed.ensures.values.2 in
    let first = some-injective _ _ (sym e.2 ∙ c.take-first.ensures.value) in
    let second = some-injective _ _ (sym e.3 ∙ (sym (ap (λ xs. get_elem? xs 1) c.take-first.ensures.others.0) ∙ c.take-second.ensures.value)) in
    let x : e.0 ≡ c.both_of.result.0 = same_desk _ _ _ _ first refl c.both_of.ensures.0 in
    let y : e.1 ≡ c.both_of.result.1 = same_vault _ _ _ _ second refl c.both_of.ensures.1 in
    subst (λ (v : g.row.A.Denot × g.row.B.Denot). Knows g.A.Opening.Opening.meaning g.A.DeskValue.meaning g.B.VaultValue.meaning v.0 v.1 c.args.all.me.0) (λ i. (x i, y i)) e.6
