use Rattle.std.proofs.Common.{◌∙◌, ◌++◌, ◌∷◌, [], inl, inr, sym, arith, length-append}
use Rattle.std.proofs.lemmas.Result.{err_from_is_err_and}
use Rattle.pager.specs.Draft.{drafted}
use Rattle.index_page.specs.Entries.{reaches}
use Rattle.run_index.specs.declared.walk.Met.{Met}
use Rattle.run_index.proofs.Walking.{passes-more}
use Rattle.pager.proofs.Stops.{allowed_stop}
use Rattle.run_index.proofs.walk.find.Goals as goal

pub returns-in_err-held-clause-met : goal.returns-in_err-held-clause-met
returns-in_err-held-clause-met g c = λ base shown told.
    let p = err_from_is_err_and c.from_residual.result c.from_residual.ensures.1 in
    let w = c.pages.invariant.walking in
    rw (p.1, p.2, ← c.kind-kind.ensures)
    (allowed_stop c.in_err-held.field-0.0
    (λ why h. (w.passed, c.pages.page, w.way base shown (c.in_err-held.ensures.only_reads.narrows base shown told), h.0, inr h.1))
    (c.in_err-held.ensures.read base shown told))

pub returns-then-ends_at-clause-met : goal.returns-then-ends_at-clause-met
returns-then-ends_at-clause-met g c = λ base shown told.
    let w = c.pages.invariant.walking in
    let reads = c.in_ok-held.ensures.only_reads in
    rw (← c.kind-kind.ensures)
    (w.passed, (w.way base shown (reads.narrows base shown told), c.in_ok-held.ensures.read base shown told, sym c.ends_at.ensures ∙ c.if-ends_at.true, omega (arith, w.count_is, c.size-end.ensures)))

pub pages-preserved : goal.pages-preserved
pages-preserved g c =
    let w = c.pages.invariant.walking in
    let reads = c.in_ok-held.ensures.only_reads in
    let met : Met = record { page = c.pages.page; held = c.in_ok-held.held } in
    record {
      walking = record {
        passed = w.passed ++ met ∷ [];
        count_is = omega (arith, w.count_is, length-append w.passed (met ∷ []));
        way = λ base shown told.
            passes-more (reaches c.args.entry.now) c.kind-kind.result c.args.draft.now.size (drafted shown c.args.draft.now.list) c.args.root c.pages.page c.in_ok-held.held w.passed (w.way base shown (reads.narrows base shown told)) (c.in_ok-held.ensures.read base shown told) (sym c.ends_at.ensures ∙ c.if-ends_at.false);
        also = tt;
      };
      narrows = λ base shown told. c.pages.invariant.narrows base shown (reads.narrows base shown told);
      goes = g.met.P.Pager.goes_on _ _ _ c.pages.invariant.goes reads.goes_on;
      size = reads.size_stays ∙ c.pages.invariant.size;
      steady = reads.cause ∙ c.pages.invariant.steady;
    }

pub returns-clause-met : goal.returns-clause-met
returns-clause-met g c = λ base shown told.
    let w = c.pages.invariant.walking in
    rw (← c.kind-kind.ensures)
    (inr (w.passed, c.pages.page, w.way base shown told, c.broken.ensures, inl (omega (arith, w.count_is, c.size-end.ensures))))
