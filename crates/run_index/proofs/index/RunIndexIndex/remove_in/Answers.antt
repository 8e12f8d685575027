use Rattle.std.proofs.Common.{Ok, ap, sym, arith}
use Rattle.pager.specs.Index.{IsFound}
use Rattle.pager.specs.Pages.{Pages}
use Rattle.index_page.specs.IndexPage.{AreWritable}
use Rattle.index_page.specs.Entries.{taken_out}
use Rattle.index_page.proofs.Ordered.{taken_out-all}
use Rattle.index_page.proofs.Placing.{taken_out-width}
use Rattle.run_index.proofs.index.RunIndexIndex.remove_in.Goals as goal

pub store-requires-clause-held : goal.store-requires-clause-held
store-requires-clause-held g c =
    let entries = c.in_ok-met.met.held.entries in
    let is = c.in_ok-met.ensures.writable in
    let rest : AreWritable (taken_out c.args.entry.now entries) = record { lawful = taken_out-all IsFound c.args.entry.now entries is.lawful; fits = omega (arith, taken_out-width c.args.entry.now entries, is.fits) } in
    rw c.take_out.ensures rest

pub returns-clause-removed : goal.returns-clause-removed
returns-clause-removed g c = λ base shown told.
    let stored = rw c.take_out.ensures at (c.in_ok-store.ensures.drafted shown) in
    (c.in_ok-met.met, c.in_ok-met.ensures.met base shown told, ap (λ (p : Pages). Ok (tt, p)) (sym stored))
