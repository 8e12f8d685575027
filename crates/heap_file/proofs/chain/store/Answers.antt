use Rattle.std.proofs.Common.{◌≡◌, sym}
use Rattle.heap_file.specs.HeapPage.{page_bytes}
use Rattle.heap_file.proofs.chain.store.Goals as goal

pub returns-clause-drafted : goal.returns-clause-drafted
returns-clause-drafted c = λ pages.
    let bytes : page_bytes c.args.held.now ≡ c.in_ok-bytes.bytes = sym c.in_ok-bytes.ensures.page in
    rw bytes (c.in_ok-put.ensures.drafted pages)
