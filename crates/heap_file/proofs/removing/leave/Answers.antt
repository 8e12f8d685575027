use Rattle.std.proofs.Common.{inl, inr, subst, sym}
use Rattle.std.proofs.lemmas.Result.{err_from_is_err_and}
use Rattle.pager.specs.Draft.{drafted}
use Rattle.heap_file.specs.Route.{IsPassed, IsRoute}
use Rattle.heap_file.proofs.Routes.{off-route, on-route, route-apart, route-passed}
use Rattle.heap_file.proofs.Ways.{allowed_stop}
use Rattle.heap_file.proofs.removing.leave.Goals as goal

pub returns-in_err-route-clause-left : goal.returns-in_err-route-clause-left
returns-in_err-route-clause-left g c = λ base shown told.
    let p = err_from_is_err_and c.from_residual.result c.from_residual.ensures.1 in
    rw (p.1, p.2)
    (allowed_stop c.in_err-route.field-0.0 (λ why h known held at names. inl (inl (h known))) (c.in_err-route.ensures.read base shown told))

pub returns-in_default-clause-left : goal.returns-in_default-clause-left
returns-in_default-clause-left g c = λ base shown told.
    let size = c.args.draft.now.size in
    let pages = drafted shown c.args.draft.now.list in
    let none = subst (IsPassed c.in_ok-route.route c.args.page) c.in_default.is c.pass.ensures in
    inr (λ known held at names.
    inl (rw c.broken.ensures (off-route size pages c.args.first c.in_ok-route.route c.args.page c.requires.apart (c.in_ok-route.ensures.read base shown told known) none)))

pub returns-in_err-unlink-clause-left : goal.returns-in_err-unlink-clause-left
returns-in_err-unlink-clause-left g c = λ base shown told.
    let p = err_from_is_err_and c.from_residual-in_err-unlink.result c.from_residual-in_err-unlink.ensures.1 in
    let size = c.args.draft.now.size in
    let pages = drafted shown c.args.draft.now.list in
    let passed = c.in-Some.ensures in
    let before = c.in_err-unlink.ensures.only_reads.narrows base shown told in
    rw (p.1, p.2)
    (allowed_stop c.in_err-unlink.field-0.0
    (λ why h known held at names.
    let route = subst (IsRoute size pages c.args.first) passed.2 (c.in_ok-route.ensures.read base shown before known) in
    let found = on-route size pages c.args.first c.in-Some.previous c.args.page passed.0 passed.1 route in
    inr ((c.in-Some.previous, found.0), found.1, h))
    (c.in_err-unlink.ensures.unlinked base shown told))

pub returns-clause-left : goal.returns-clause-left
returns-clause-left g c = λ base shown told known held at names.
    let size = c.args.draft.now.size in
    let pages = drafted shown c.args.draft.now.list in
    let after = drafted shown c.unlink.new.draft.list in
    let previous = c.in-Some.previous in
    let passed = c.in-Some.ensures in
    let before = c.in_ok-unlink.ensures.only_reads.narrows base shown told in
    let route = subst (IsRoute size pages c.args.first) passed.2 (c.in_ok-route.ensures.read base shown before known) in
    let found = on-route size pages c.args.first previous c.args.page passed.0 passed.1 route in
    let apart = route-apart size pages c.args.first previous c.args.page passed.0 passed.1 route in (
      ((previous, found.0), found.1, c.in_ok-unlink.ensures.unlinked base shown told),
      subst (IsRoute size after c.args.first) (sym passed.3)
          (route-passed size pages after c.args.first previous c.args.page c.args.next held passed.0 passed.1 route at names (c.in_ok-unlink.ensures.passes apart base shown told)),
    )
