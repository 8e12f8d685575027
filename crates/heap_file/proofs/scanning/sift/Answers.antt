use Rattle.std.proofs.Common.{◌++◌, List, append_assoc, subst, ◌∙◌, Err, Ok, inl, inr, arith}
use Rattle.std.proofs.lemmas.Result.{err_from_is_err_and}
use Rattle.pager.specs.Draft.{drafted}
use Rattle.heap_file.specs.Chain.{rows_on}
use Rattle.heap_file.specs.declared.chain.Placed.{Placed}
use Rattle.heap_file.proofs.Sifts.{all-pass-on, all-pass-sorted, met-ended, same-test, sift-ended, sift-here, sift-next, sift-stopped}
use Rattle.heap_file.proofs.Ways.{allowed_stop}
use Rattle.heap_file.proofs.scanning.sift.Goals as goal

pub returns-in_err-next-clause-sifted : goal.returns-in_err-next-clause-sifted
returns-in_err-next-clause-sifted g c = λ base shown told.
    let p = err_from_is_err_and c.from_residual.result c.from_residual.ensures.1 in
    let inv = c.pages.invariant in
    let why = c.in_err-next.field-0.0 in
    let walk = same-test (g.S.Sieve.passes c.pages.sieve) (g.S.Sieve.passes c.args.sieve.now) c.pages.page c.pages.number c.pages.kept.items c.push_passing.new.kept.items (Err why) inv.stays c.in_err-next.ensures.walked in
    rw (p.1, p.2)
    (elim walk [
      | inl memory ↦ inl memory
      | inr refused ↦ inr (λ at. sift-here (g.S.Sieve.passes c.args.sieve.now) (λ rows. (start : g.row.S.Denot) (front : List Placed) → g.S.Sieve.met start front c.args.sieve.now → g.S.Sieve.met start (front ++ rows) c.pages.sieve) c.args.draft.now.size (drafted shown c.args.draft.now.list) c.args.first c.pages.counter c.pages.number c.pages.page c.pages.kept.items (inv.so_far base shown told at) why refused)
    ])

pub returns-then-next-eq0-clause-sifted : goal.returns-then-next-eq0-clause-sifted
returns-then-next-eq0-clause-sifted g c = λ base shown told at.
    let inv = c.pages.invariant in
    let walk = same-test (g.S.Sieve.passes c.pages.sieve) (g.S.Sieve.passes c.args.sieve.now) c.pages.page c.pages.number c.pages.kept.items c.push_passing.new.kept.items (Ok c.in_ok-next.next) inv.stays c.in_ok-next.ensures.walked in
    sift-ended (g.S.Sieve.passes c.args.sieve.now) (λ rows. (start : g.row.S.Denot) (front : List Placed) → g.S.Sieve.met start front c.args.sieve.now → g.S.Sieve.met start (front ++ rows) c.pages.sieve) c.args.draft.now.size (drafted shown c.args.draft.now.list) c.args.first c.pages.counter c.pages.number c.pages.page c.pages.kept.items (inv.so_far base shown told at) c.push_passing.new.kept.items c.in_ok-next.next walk
    c.in_ok-in_order.field-0.items c.if-next-eq0.true (omega arith) c.in_ok-in_order.ensures

pub returns-in_err-page-clause-sifted : goal.returns-in_err-page-clause-sifted
returns-in_err-page-clause-sifted g c = λ base shown told.
    let p = err_from_is_err_and c.from_residual-in_err-page.result c.from_residual-in_err-page.ensures.1 in
    let inv = c.pages.invariant in
    let before = c.in_err-page.ensures.only_reads.narrows base shown told in
    let walk = same-test (g.S.Sieve.passes c.pages.sieve) (g.S.Sieve.passes c.args.sieve.now) c.pages.page c.pages.number c.pages.kept.items c.push_passing.new.kept.items (Ok c.in_ok-next.next) inv.stays c.in_ok-next.ensures.walked in
    rw (p.1, p.2)
    (allowed_stop c.in_err-page.field-0.0
    (λ why h at. sift-stopped (g.S.Sieve.passes c.args.sieve.now) (λ rows. (start : g.row.S.Denot) (front : List Placed) → g.S.Sieve.met start front c.args.sieve.now → g.S.Sieve.met start (front ++ rows) c.pages.sieve) c.args.draft.now.size (drafted shown c.args.draft.now.list) c.args.first c.pages.counter c.pages.number c.pages.page c.pages.kept.items (inv.so_far base shown before at) c.push_passing.new.kept.items c.in_ok-next.next walk why c.if-next-eq0.false h)
    (c.in_err-page.ensures.read base shown told))

pub pages-preserved : goal.pages-preserved
pages-preserved g c =
    let inv = c.pages.invariant in
    let reads = c.in_ok-page.ensures.only_reads in
    let walk = same-test (g.S.Sieve.passes c.pages.sieve) (g.S.Sieve.passes c.args.sieve.now) c.pages.page c.pages.number c.pages.kept.items c.push_passing.new.kept.items (Ok c.in_ok-next.next) inv.stays c.in_ok-next.ensures.walked in
    record {
      so_far = λ base shown told at.
          sift-next (g.S.Sieve.passes c.args.sieve.now) (λ rows. (start : g.row.S.Denot) (front : List Placed) → g.S.Sieve.met start front c.args.sieve.now → g.S.Sieve.met start (front ++ rows) c.pages.sieve) c.args.draft.now.size (drafted shown c.args.draft.now.list) c.args.first c.pages.counter c.pages.number c.pages.page c.pages.kept.items (inv.so_far base shown (reads.narrows base shown told) at) c.push_passing.new.kept.items c.in_ok-next.next walk
          (λ rows. (start : g.row.S.Denot) (front : List Placed) → g.S.Sieve.met start front c.args.sieve.now → g.S.Sieve.met start (front ++ rows) c.push_passing.new.sieve)
          (λ rows seen held holds start front at. subst (λ (l : List Placed). g.S.Sieve.met start l c.push_passing.new.sieve) (append_assoc front rows (rows_on (record { page = c.pages.number; held = held }))) (c.in_ok-next.ensures.met start (front ++ rows) (seen start front at) held holds))
          c.in_ok-page.page c.if-next-eq0.false (c.in_ok-page.ensures.read base shown told);
      passed = all-pass-on (g.S.Sieve.passes c.pages.sieve) (g.S.Sieve.passes c.args.sieve.now) c.pages.kept.items c.push_passing.new.kept.items inv.stays inv.passed c.in_ok-next.ensures.passed;
      stays = c.in_ok-next.ensures.stays ∙ inv.stays;
      narrows = λ base shown told. inv.narrows base shown (reads.narrows base shown told);
      goes = g.met.P.Pager.goes_on _ _ _ inv.goes reads.goes_on;
      size = reads.size_stays ∙ inv.size;
      steady = reads.cause ∙ inv.steady;
    }

pub returns-then-next-eq0-clause-passed : goal.returns-then-next-eq0-clause-passed
returns-then-next-eq0-clause-passed g c =
    let inv = c.pages.invariant in
    all-pass-sorted (g.S.Sieve.passes c.args.sieve.now) c.push_passing.new.kept.items c.in_ok-in_order.field-0.items c.in_ok-in_order.ensures
    (all-pass-on (g.S.Sieve.passes c.pages.sieve) (g.S.Sieve.passes c.args.sieve.now) c.pages.kept.items c.push_passing.new.kept.items inv.stays inv.passed c.in_ok-next.ensures.passed)

pub returns-then-next-eq0-clause-met : goal.returns-then-next-eq0-clause-met
returns-then-next-eq0-clause-met g c = λ start before met base shown told at.
    let inv = c.pages.invariant in
    let walk = same-test (g.S.Sieve.passes c.pages.sieve) (g.S.Sieve.passes c.args.sieve.now) c.pages.page c.pages.number c.pages.kept.items c.push_passing.new.kept.items (Ok c.in_ok-next.next) inv.stays c.in_ok-next.ensures.walked in
    met-ended (g.S.Sieve.passes c.args.sieve.now) (λ rows. (start : g.row.S.Denot) (front : List Placed) → g.S.Sieve.met start front c.args.sieve.now → g.S.Sieve.met start (front ++ rows) c.pages.sieve) c.args.draft.now.size (drafted shown c.args.draft.now.list) c.args.first c.pages.counter c.pages.number c.pages.page c.pages.kept.items (inv.so_far base shown told at) c.push_passing.new.kept.items c.in_ok-next.next walk
    (λ rows. (start : g.row.S.Denot) (front : List Placed) → g.S.Sieve.met start front c.args.sieve.now → g.S.Sieve.met start (front ++ rows) c.push_passing.new.sieve)
    (λ rows seen held holds start front at. subst (λ (l : List Placed). g.S.Sieve.met start l c.push_passing.new.sieve) (append_assoc front rows (rows_on (record { page = c.pages.number; held = held }))) (c.in_ok-next.ensures.met start (front ++ rows) (seen start front at) held holds))
    c.if-next-eq0.true (omega arith) before (λ rows. g.S.Sieve.met start rows c.push_passing.new.sieve) (λ all. all start before met)
