use Rattle.std.proofs.Common.{◌≡◌, ◌∙◌, ◌&&◌, not, true, false, Ok, Err, eqb, length, ap, sym, inl, inr, subst, arith}
use Rattle.std.proofs.lemmas.Result.{err_from_is_err_and}
use Rattle.std.specs.Prelude.{IfSome}
use Rattle.pager.specs.Draft.{drafted}
use Rattle.pager.specs.Pages.{Pages, with_bytes}
use Rattle.heap_file.specs.declared.page.HeapPage.{HeapPage}
use Rattle.heap_file.specs.Chain.{IsAt}
use Rattle.heap_file.specs.HeapPage.{IsNarrow, page_bytes}
use Rattle.heap_file.specs.Route.{IsRoute}
use Rattle.heap_file.specs.Work.{without}
use Rattle.heap_file.proofs.Heads.{at-own}
use Rattle.heap_file.proofs.Routes.{leaving, next-written, removed-left, route-kept}
use Rattle.heap_file.proofs.Ways.{allowed_stop}
use Rattle.heap_file.proofs.removing.remove_on.Goals as goal

pub leave-requires-clause-apart : goal.leave-requires-clause-apart
leave-requires-clause-apart g c =
    leaving c.args.link.page c.args.first _ (sym c.leaves_chain.ensures ∙ c.if-leaves_chain.true)

pub returns-in_default-clause-removed : goal.returns-in_default-clause-removed
returns-in_default-clause-removed g c = λ base shown told.
    let none = rw (c.as_slice.ensures, c.in_default.is) at (sym c.place_of.ensures) in
    inr (λ at route. inr (c.args.link.held, at, inl (c.broken.ensures, none)))

pub returns-in_err-route-clause-removed : goal.returns-in_err-route-clause-removed
returns-in_err-route-clause-removed g c = λ base shown told.
    let p = err_from_is_err_and c.from_residual.result c.from_residual.ensures.1 in
    let size = c.args.draft.now.size in
    let pages = drafted shown c.args.draft.now.list in
    let held = c.args.link.held in
    let is = rw c.as_slice.ensures at (sym c.in-Some.ensures) in
    let leaves : (not (eqb c.args.link.page c.args.first) && eqb (length (without held c.in-Some.place).entries) 0) ≡ true = rw c.without-held.ensures.without at (sym c.leaves_chain.ensures ∙ c.if-leaves_chain.true) in
    let names : held.next ≡ c.without-held.result.next = ap (λ (h : HeapPage). h.next) (sym c.without-held.ensures.without) in
    rw (p.1, p.2)
    (allowed_stop c.in_err-route.field-0.0
    (λ why h at route. removed-left size pages c.args.first c.args.link.page c.args.number c.in-Some.place _ held at is names leaves (Err why) (h route held at names))
    (c.in_err-route.ensures.left base shown told))

pub returns-then-leaves_chain-clause-removed : goal.returns-then-leaves_chain-clause-removed
returns-then-leaves_chain-clause-removed g c = λ base shown told at route.
    let size = c.args.draft.now.size in
    let pages = drafted shown c.args.draft.now.list in
    let held = c.args.link.held in
    let is = rw c.as_slice.ensures at (sym c.in-Some.ensures) in
    let leaves : (not (eqb c.args.link.page c.args.first) && eqb (length (without held c.in-Some.place).entries) 0) ≡ true = rw c.without-held.ensures.without at (sym c.leaves_chain.ensures ∙ c.if-leaves_chain.true) in
    let names : held.next ≡ c.without-held.result.next = ap (λ (h : HeapPage). h.next) (sym c.without-held.ensures.without) in
    let gone = c.in_ok-route.ensures.left base shown told route held at names in (
      removed-left size pages c.args.first c.args.link.page c.args.number c.in-Some.place _ held at is names leaves (Ok (tt, drafted shown c.leave.new.draft.list)) gone.0,
      (tt, gone.1),
    )

pub returns-clause-removed : goal.returns-clause-removed
returns-clause-removed g c = λ base shown told at route.
    let size = c.args.draft.now.size in
    let pages = drafted shown c.args.draft.now.list in
    let page = c.args.link.page in
    let held = c.args.link.held in
    let now = c.without-held.result in
    let is = rw c.as_slice.ensures at (sym c.in-Some.ensures) in
    let rest = c.without-held.ensures.without in
    let stays : (not (eqb page c.args.first) && eqb (length (without held c.in-Some.place).entries) 0) ≡ false = rw rest at (sym c.leaves_chain.ensures ∙ c.if-leaves_chain.false) in
    let narrow : IsNarrow now = rw rest (record { next = omega arith; next_number = omega arith; last = omega arith }) in
    let same : now.next ≡ held.next = ap (λ (h : HeapPage). h.next) rest in
    let written_now = c.in_ok-store.ensures.drafted shown in
    let stored = rw rest at written_now in (
      (held, at, (c.in-Some.place, is, rw stays (ap (λ (pages : Pages). Ok (tt, pages)) (sym stored)))),
      (
        subst (λ (p : Pages). IsAt size p page now) (sym written_now) (at-own size pages page now at.named at.there narrow c.without-held.ensures.lawful),
        subst (λ (p : Pages). IfSome c.args.route (IsRoute size p c.args.first)) (sym written_now) (route-kept size pages (with_bytes pages page (page_bytes now)) c.args.first c.args.route (next-written size pages page held now at narrow c.without-held.ensures.lawful same) route),
      ),
    )
