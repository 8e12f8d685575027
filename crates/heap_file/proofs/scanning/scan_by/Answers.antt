use Rattle.std.proofs.Common.{inl}
use Rattle.std.proofs.lemmas.Result.{err_from_is_err_and}
use Rattle.pager.specs.Draft.{drafted}
use Rattle.heap_file.proofs.Sifts.{no-chain}
use Rattle.heap_file.proofs.Ways.{allowed_stop}
use Rattle.heap_file.proofs.scanning.scan_by.Goals as goal

pub returns-in_err-head-clause-sifted : goal.returns-in_err-head-clause-sifted
returns-in_err-head-clause-sifted g c = λ base shown told.
    let p = err_from_is_err_and c.from_residual.result c.from_residual.ensures.1 in
    rw (p.1, p.2)
    (allowed_stop c.in_err-head.field-0.0 (λ why h. inl (no-chain c.args.draft.now.size (drafted shown c.args.draft.now.list) c.args.first why h)) (c.in_err-head.ensures.read base shown told))
