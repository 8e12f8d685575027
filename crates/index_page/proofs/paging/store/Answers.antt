use Rattle.index_page.proofs.paging.store.Goals as goal

pub returns-clause-drafted : goal.returns-clause-drafted
returns-clause-drafted c = λ pages. rw c.in_ok-bytes.ensures.page at (c.in_ok-put.ensures.drafted pages)
