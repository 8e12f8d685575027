use Rattle.std.proofs.Common.{◌≡◌, ◌∙◌, ◌+◌, ◌++◌, ℕ, List, [], ◌∷◌, Bool, true, take, ap, subst, sym}
use Rattle.std.proofs.lemmas.List.{take_all, take_more}
use Rattle.history.specs.declared.writes.PageImage.{PageImage}
use Rattle.history.specs.History.{written}
use Rattle.page_pool.specs.Side.{dirty_behind, IsPageSide, with_page}
use Rattle.page_pool.proofs.Adding.{dirty_push, written_push}
use Rattle.page_pool.proofs.pool.PagePool.write.Goals as goal

pub loop-write-preserved : goal.loop-write-preserved
loop-write-preserved g c =
    let i = c.loop-write.invariant in
    let write = c.write-item.result in
    let n = c.loop-write.write-index in
    let writes = c.args.writes.now in
    let front : List PageImage = take n writes in
    let more : take (n + 1) writes ≡ front ++ write ∷ [] = take_more writes n write c.loop-write-test.true ∙ ap (λ (w : PageImage). front ++ w ∷ []) (sym c.write-item.is) in (
      c.write_page.ensures.file ∙ i.0,
      c.write_page.ensures.settled ∙ i.1,
      λ page. c.write_page.ensures.holds page ∙ i.2 page,
      λ now device loose dirty is.
          let step = c.write_page.ensures.written (written now front) device loose (dirty_behind dirty front) (i.3 now device loose dirty is) in
          let pushed = subst (λ (pages : ℕ → List ℕ). IsPageSide g.D.Disk.is_honest g.D.Disk.state c.write_page.new.self pages device loose (with_page (dirty_behind dirty front) write.page true)) (sym (written_push now front write)) step in
          let marked = subst (λ (marks : ℕ → Bool). IsPageSide g.D.Disk.is_honest g.D.Disk.state c.write_page.new.self (written now (front ++ write ∷ [])) device loose marks) (dirty_push dirty front write) pushed in
          subst (λ (ws : List PageImage). IsPageSide g.D.Disk.is_honest g.D.Disk.state c.write_page.new.self (written now ws) device loose (dirty_behind dirty ws)) (sym more) marked,
    )

pub returns-clause-written : goal.returns-clause-written
returns-clause-written g c = λ now device loose dirty is.
    subst (λ (ws : List PageImage). IsPageSide g.D.Disk.is_honest g.D.Disk.state c.loop-write.self (written now ws) device loose (dirty_behind dirty ws))
    (take_all c.loop-write.write-index c.args.writes.now c.loop-write-test.false) (c.loop-write.invariant.3 now device loose dirty is)
