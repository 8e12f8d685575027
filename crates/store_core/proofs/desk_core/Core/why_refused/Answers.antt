use Rattle.std.proofs.Common.{◌≡◌, ◌∙◌, ◌<◌, ◌^◌, List, sym, ap, subst}
use Rattle.history.specs.declared.entry.Base.{Base}
use Rattle.history.specs.declared.writes.PageImage.{PageImage}
use Rattle.journal_book.specs.declared.work.Work.{Work}
use Rattle.std.specs.Prelude.{Option, None}
use Rattle.journal_book.specs.Works.{edits_of}
use Rattle.txn_set.specs.declared.counts.Counts.{Counts}
use Rattle.txn_set.specs.Refused.{captures_behind, counts_of}
use Rattle.store_core.proofs.Committed.{base_right, captures_below, fitting}
use Rattle.store_core.proofs.desk_core.Core.why_refused.Goals as goal

pub commit_refused-requires-clause-captures : goal.commit_refused-requires-clause-captures
commit_refused-requires-clause-captures g c =
    let t = c.requires.is_open.transaction in
    let there = c.requires.is_open.open_there in
    let counted : c.counts_of-counts.result ≡ counts_of c.args.self.now.desk.base t.edits =
    c.counts_of-counts.ensures ∙ ap (λ (b : Base). counts_of b c.edits_of-edits.result.now) c.base.ensures
    ∙ ap (λ (l : List PageImage). counts_of c.args.self.now.desk.base l) (c.edits_of-edits.ensures ∙ ap (λ (w : Option Work). edits_of w) there) in
    subst (λ (n : Counts). captures_behind n < 2 ^ 64) (sym counted)
    (captures_below c.args.self.now.desk.base t.edits (base_right g.D.Disk.is_honest g.D.Disk.state c.requires.core.opening c.args.self.now c.requires.core.plain c.requires.core.is)
    (fitting g.D.Disk.is_honest g.D.Disk.state c.requires.core.opening c.args.self.now c.requires.core.plain c.requires.core.is c.args.who t None there).few)
