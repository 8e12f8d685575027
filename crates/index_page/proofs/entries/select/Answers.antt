use Rattle.std.proofs.Common.{◌≡◌, rules}
use Rattle.std.proofs.lemmas.Fn.{filter_same}
use Rattle.pager.specs.Index.{between}
use Rattle.index_page.proofs.entries.select.Goals as goal

pub returns : goal.returns
returns c =
    let kept : c.retain.new.self.items ≡ between c.args.low.now c.args.high.now c.from-entries.result.items =
    filter_same _ _ _ (λ x b q called. search rules) _ _ c.retain.ensures.filtered in
    let all : c.retain.new.self.items ≡ between c.args.low.now c.args.high.now c.args.entries = rw c.from-entries.ensures at kept in
    search rules
