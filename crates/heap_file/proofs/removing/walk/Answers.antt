use Rattle.std.proofs.Common.{◌∙◌, ◌∷◌, ◌++◌, [], ℕ, List, length, inl, inr, sym, ap, arith}
use Rattle.std.proofs.lemmas.List.{length-append, length-map}
use Rattle.std.proofs.lemmas.Result.{err_from_is_err_and}
use Rattle.pager.specs.Draft.{drafted}
use Rattle.heap_file.specs.declared.chain.Link.{Link}
use Rattle.heap_file.proofs.Routes.{numbers-push, walked}
use Rattle.heap_file.proofs.Ways.{allowed_stop, goes_on, leads-more}
use Rattle.heap_file.proofs.removing.walk.Goals as goal

pub returns-in_err-held-clause-read : goal.returns-in_err-held-clause-read
returns-in_err-held-clause-read g c = λ base shown told.
    let p = err_from_is_err_and c.from_residual.result c.from_residual.ensures.1 in
    let so_far = c.pages.invariant.leads base shown (c.in_err-held.ensures.only_reads.narrows base shown told) in
    rw (p.1, p.2)
    (allowed_stop c.in_err-held.field-0.0 (λ why h. (so_far.0, c.pages.page, h.0, so_far.1, so_far.3, inr h.1))
    (c.in_err-held.ensures.read base shown told))

pub returns-then-next-eq0-clause-read : goal.returns-then-next-eq0-clause-read
returns-then-next-eq0-clause-read g c = λ base shown told.
    let size = c.args.draft.now.size in
    let pages = drafted shown c.args.draft.now.list in
    let held = c.in_ok-held.held in
    let so_far = c.pages.invariant.leads base shown (c.in_ok-held.ensures.only_reads.narrows base shown told) in
    rw c.in_ok-push.ensures.ok
    (walked size pages c.args.first c.pages.page held c.pages.route so_far.0 so_far.1 so_far.2 (c.in_ok-held.ensures.read base shown told) c.if-next-eq0.true (omega (arith, c.pages.invariant.count)))

pub pages-preserved : goal.pages-preserved
pages-preserved g c =
    let size = c.args.draft.now.size in
    let held = c.in_ok-held.held in
    let one : Link = record { page = c.pages.page; held = held } in
    let reads = c.in_ok-held.ensures.only_reads in
    record {
      leads = λ base shown told.
          let so_far = c.pages.invariant.leads base shown (reads.narrows base shown told) in
          (so_far.0 ++ one ∷ [], leads-more size (drafted shown c.args.draft.now.list) c.args.first c.pages.page held so_far.0 so_far.1 (c.in_ok-held.ensures.read base shown told), rw c.in_ok-push.ensures.ok (numbers-push c.pages.route so_far.0 one so_far.2), goes_on so_far.0 one held.next c.if-next-eq0.false);
      count = rw c.in_ok-push.ensures.ok (omega (arith, length-append c.pages.route (c.pages.page ∷ []), c.pages.invariant.count));
      narrows = λ base shown told. c.pages.invariant.narrows base shown (reads.narrows base shown told);
      goes = g.met.P.Pager.goes_on _ _ _ c.pages.invariant.goes reads.goes_on;
      size = reads.size_stays ∙ c.pages.invariant.size;
      steady = reads.cause ∙ c.pages.invariant.steady;
    }

pub returns-clause-read : goal.returns-clause-read
returns-clause-read g c = λ base shown told.
    let so_far = c.pages.invariant.leads base shown told in
    inr (so_far.0, c.pages.page, c.broken.ensures, so_far.1, so_far.3, inl (sym (length-map so_far.0 (λ (link : Link). link.page)) ∙ ap (λ (l : List ℕ). length l) (sym so_far.2) ∙ omega (arith, c.pages.invariant.count)))
