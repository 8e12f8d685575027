use Rattle.std.proofs.Common.{◌≡◌, ◌∙◌, replicate, ap, arith}
use Rattle.heap_laws.proofs.Starting.{started}
use Rattle.heap_laws.proofs.store.with_table.Goals as goal

pub returns-clause-table : goal.returns-clause-table
returns-clause-table c =
    let items : c.in_ok-pages.pages.items ≡ replicate c.args.size c.zero.result = c.in_ok-pages.ensures.items_if_clones_equal (λ y e. e) in
    let pages : c.new-pager.result.pages ≡ replicate c.args.size (replicate 1024 0) = ap (λ m. m.pages) c.new-pager.ensures ∙ items ∙ ap (replicate c.args.size) c.zero.ensures in
    (started c.args.size c.new-pager.result c.make.new.pager c.in_ok-first.first c.requires (omega arith) pages c.in_ok-first.ensures.made).shows

pub returns-clause-well : goal.returns-clause-well
returns-clause-well c =
    let items : c.in_ok-pages.pages.items ≡ replicate c.args.size c.zero.result = c.in_ok-pages.ensures.items_if_clones_equal (λ y e. e) in
    let pages : c.new-pager.result.pages ≡ replicate c.args.size (replicate 1024 0) = ap (λ m. m.pages) c.new-pager.ensures ∙ items ∙ ap (replicate c.args.size) c.zero.ensures in
    (started c.args.size c.new-pager.result c.make.new.pager c.in_ok-first.first c.requires (omega arith) pages c.in_ok-first.ensures.made).well
