use Rattle.std.proofs.Common.{ℕ, List, ◌-◌, ◌∙◌, ap, length, refl, sym, subst, slice_get, drop, inl, inr, arith}
use Rattle.pager.specs.Draft.{drafted}
use Rattle.pager.specs.Pages.{Pages, IsPartOf, with_mark, with_bytes}
use Rattle.pager.proofs.Overlays.{drafted-from, drafted-none, inside-at, part-asked, part-made}
use Rattle.pager.proofs.draft.Draft.write.Goals as goal

pub edit-requires : goal.edit-requires
edit-requires g c =
    let less = inside-at c.self.inside.size c.self.inside.edits.entries (c.loop-place.place - 1) (c.in-Some.page.now, c.in-Some.bytes.now) c.self.invariant c.in-Some.ensures.entry in
    omega (arith, less, c.loop-place.invariant.size, c.requires, ap (λ d. d.size) c.self.view_is)

pub loop-place-init : goal.loop-place-init
loop-place-init g c = record {
  made = λ base shown told. (shown, told, drafted-none shown c.args.self.now.list c.len-place.result (c.len-place.ensures.len ∙ ap (λ d. length d.list) c.self.view_is));
  goes = g.met.P.Pager.stays c.args.pager.now;
  size = refl;
  steady = refl;
}

pub loop-place-preserved-in_default-edit : goal.loop-place-preserved-in_default-edit
loop-place-preserved-in_default-edit g c =
    let edit : ℕ × List ℕ = (c.in-Some.page.now, c.in-Some.bytes.now) in
    let list = c.args.self.now.list in
    record {
      made = λ base shown told.
          let made = c.in_default-edit.ensures.ok base shown told in
          let was = c.loop-place.invariant.made base made.0 made.1 in (
            was.0,
            was.1,
            made.2
                ∙ ap (λ (p : Pages). with_bytes p edit.0 edit.1) was.2
                ∙ drafted-from was.0 list c.loop-place.place edit c.loop-place-test.true (c.in-Some.ensures.entry ∙ ap (λ d. slice_get d.list (c.loop-place.place - 1)) c.self.view_is),
          );
      goes = g.met.P.Pager.goes_on _ _ _ c.loop-place.invariant.goes c.in_default-edit.ensures.goes;
      size = c.in_default-edit.ensures.size ∙ c.loop-place.invariant.size;
      steady = c.in_default-edit.ensures.cause.steady ∙ c.loop-place.invariant.steady;
    }

pub returns-in-Err-clause-writes : goal.returns-in-Err-clause-writes
returns-in-Err-clause-writes g c = λ base shown told.
    let edit : ℕ × List ℕ = (c.in-Some.page.now, c.in-Some.bytes.now) in
    let edits = c.self.inside.edits.entries in
    let place = c.loop-place.place in
    let asked_for = c.in-Err.ensures.err base shown told in
    let was = c.loop-place.invariant.made base asked_for.0 asked_for.1 in
    let made = was.2 ∙ sym (ap (λ d. drafted was.0 (drop place d.list)) c.self.view_is) in
    let unique = c.len-place.ensures.unique in (
      was.0,
      was.1,
      subst (λ d. IsPartOf was.0 (drafted was.0 d.list) shown) c.self.view_is
          (elim asked_for.2 [
            | inl same ↦ subst (IsPartOf was.0 (drafted was.0 edits)) (sym (same ∙ made)) (part-made was.0 edits place unique)
            | inr same ↦
                subst (IsPartOf was.0 (drafted was.0 edits)) (sym (same ∙ ap (λ (p : Pages). with_mark p edit.0) made))
                (part-asked was.0 edits place (place - 1) edit unique c.in-Some.ensures.entry)
          ]),
    )
