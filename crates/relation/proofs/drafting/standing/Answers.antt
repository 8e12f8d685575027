use Rattle.std.proofs.Common.{◌≡◌, ◌⊎◌, length, inl, inr}
use Rattle.relation.proofs.Spots.{none-behind}
use Rattle.relation.proofs.drafting.standing.Goals as goal

pub returns : goal.returns
returns c =
    let rows = c.loop-row.row-iterator.a.rest.now in
    let spots = c.loop-row.row-iterator.b.rest.now in
    let ended : (length rows ≡ 0) ⊎ (length spots ≡ 0) = elim c.in-None.ensures.steps [ inl first ↦ inl first.1.0 | inr second ↦ inr second.1.0 ] in
    none-behind c.loop-row.placed.items _ rows spots ended c.loop-row.invariant
