use Rattle.std.proofs.Common.{◌≡◌, inl, inr, arith}
use Rattle.pager.specs.Draft.{drafted}
use Rattle.pager.specs.Root.{page_in}
use Rattle.heap_file.specs.Chain.{page_there}
use Rattle.heap_file.proofs.Ways.{allowed_on, page-read}
use Rattle.heap_file.proofs.chain.page_there.Goals as goal

pub returns-then-page-eq0-clause-read : goal.returns-then-page-eq0-clause-read
returns-then-page-eq0-clause-read g c = λ base shown told. inr (c.broken.ensures, inl c.if-page-eq0.true)

pub returns-clause-read : goal.returns-clause-read
returns-clause-read g c = λ base shown told.
    let size = c.args.draft.now.size in
    let pages = drafted shown c.args.draft.now.list in
    allowed_on (λ bytes. bytes) (λ r. page_in size pages c.args.page ≡ r) (page_there size pages c.args.page) c.read.result (page-read size pages c.args.page (omega arith)) (c.read.ensures.read base shown told)
