use Rattle.std.proofs.Common.{◌<◌, ◌^◌, ℕ, List, ap, subst, sym, Contains}
use Rattle.block_file.specs.Blocks.{File}
use Rattle.lru.specs.LruCache.{LruCache}
use Rattle.lru.proofs.Splits.{Contains-nil}
use Rattle.page_pool.specs.Frames.{frame_at, frame_in}
use Rattle.page_pool.proofs.Counts.{none_dirty}
use Rattle.page_pool.proofs.pool.PagePool.new.Goals as goal

pub invariant_of-result : goal.invariant_of-result
invariant_of-result g c = record {
  frames = none_dirty (frame_in c.new-in-Ok.result) _ (λ page. ap (λ l. frame_at l page) c.new-in-Ok.ensures.empty);
  apart = λ entry at some. Contains-nil entry (subst (λ (l : List (ℕ × List ℕ)). Contains l entry) (ap (λ (k : LruCache ℕ (List ℕ)). k.entries) c.in-Ok.ensures.done) at);
  room = ap (λ (k : LruCache ℕ (List ℕ)). k.cap) c.in-Ok.ensures.done;
  few = subst (λ (f : File _). f.blocks < 2 ^ 32) (sym c.new.ensures.file) c.ranges.pages.fits;
}
