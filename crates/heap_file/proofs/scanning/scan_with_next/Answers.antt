use Rattle.std.proofs.Common.{◌∙◌, List, ℕ, ap, inl}
use Rattle.std.proofs.lemmas.Result.{err_from_is_err_and}
use Rattle.retro_base.specs.Fields.{number_at}
use Rattle.pager.specs.Draft.{drafted}
use Rattle.heap_file.proofs.Sifts.{no-chain, with-next, with-next-not}
use Rattle.heap_file.proofs.Ways.{allowed_stop}
use Rattle.heap_file.proofs.scanning.scan_with_next.Goals as goal

pub returns-in_err-head-clause-scanned : goal.returns-in_err-head-clause-scanned
returns-in_err-head-clause-scanned g c = λ base shown told.
    let p = err_from_is_err_and c.from_residual.result c.from_residual.ensures.1 in
    rw (p.1, p.2)
    (allowed_stop c.in_err-head.field-0.0 (λ why h. inl (no-chain c.args.draft.now.size (drafted shown c.args.draft.now.list) c.args.first why h)) (c.in_err-head.ensures.read base shown told))

pub returns-in_err-rows-clause-scanned : goal.returns-in_err-rows-clause-scanned
returns-in_err-rows-clause-scanned g c = λ base shown told.
    let p = err_from_is_err_and c.from_residual-in_err-rows.result c.from_residual-in_err-rows.ensures.1 in
    let there = c.in_ok-head.ensures.read base shown (c.in_err-rows.ensures.only_reads.narrows base shown told) in
    rw (p.1, p.2)
    (allowed_stop c.in_err-rows.field-0.0 (λ why h. with-next-not c.args.draft.now.size (drafted shown c.args.draft.now.list) c.args.first why (h there)) (c.in_err-rows.ensures.sifted base shown told))

pub returns-clause-scanned : goal.returns-clause-scanned
returns-clause-scanned g c = λ base shown told.
    let there = c.in_ok-head.ensures.read base shown (c.in_ok-rows.ensures.only_reads.narrows base shown told) in
    with-next c.args.draft.now.size (drafted shown c.args.draft.now.list) c.args.first c.get_u64-next.result c.in_ok-head.head c.in_ok-rows.rows.items there
    (c.get_u64-next.ensures ∙ ap (λ (b : List ℕ). number_at 8 b 8) c.bytes.ensures.same) (c.in_ok-rows.ensures.sifted base shown told there)
