use Rattle.std.proofs.Common.{◌≡◌, ◌∷◌, ◌∙◌, [], Ok, ap, subst, sym, arith}
use Rattle.std.specs.List.{AllByRecursion}
use Rattle.pager.specs.Draft.{drafted}
use Rattle.pager.specs.Index.{IsFound}
use Rattle.pager.specs.Pages.{Pages}
use Rattle.index_page.specs.Entries.{taken_out}
use Rattle.index_page.specs.IndexPage.{AreWritable}
use Rattle.index_page.proofs.Ordered.{taken_out-all}
use Rattle.index_page.proofs.Placing.{taken_out-width}
use Rattle.tree_index.specs.Marking.{all-right}
use Rattle.tree_index.specs.Walk.{IsStored}
use Rattle.tree_index.specs.Work.{all_written, cut}
use Rattle.tree_index.proofs.Climbed.{cut-last}
use Rattle.tree_index.proofs.index.TreeIndexIndex.remove_in.Goals as goal

pub store-requires-clause-held : goal.store-requires-clause-held
store-requires-clause-held g c =
    let leaf = c.in-Some.leaf in
    let entries = leaf.held.entries in
    let is = (all-right (IsStored c.args.draft.now.size) c.pop.new.self.items (leaf ∷ []) (subst (AllByRecursion (IsStored c.args.draft.now.size)) c.in-Some.ensures.items c.in_ok-way.ensures.stored)).0.1 in
    let rest : AreWritable (taken_out c.args.entry.now entries) = record { lawful = taken_out-all IsFound c.args.entry.now entries is.lawful; fits = omega (arith, taken_out-width c.args.entry.now entries, is.fits) } in
    rw c.take_out.ensures rest

pub returns-clause-removed : goal.returns-clause-removed
returns-clause-removed g c = λ base shown told.
    let leaf = c.in-Some.leaf in
    let entry = c.args.entry.now in
    let pages = drafted shown c.args.draft.now.list in
    let way = c.in_ok-way.way.items in
    let last : cut entry way ≡ cut entry (leaf ∷ []) = ap (cut entry) c.in-Some.ensures.items ∙ cut-last entry c.pop.new.self.items leaf in
    let stored : drafted shown c.store.new.draft.list ≡ all_written pages (cut entry (leaf ∷ [])) = rw c.take_out.ensures at (c.in_ok-store.ensures.drafted shown) in
    let all : all_written pages (cut entry way) ≡ drafted shown c.store.new.draft.list = ap (all_written pages) last ∙ sym stored in
    (way, c.in_ok-way.ensures.walked base shown told, ap (λ (p : Pages). Ok (tt, p)) all)
