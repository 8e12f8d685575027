use Rattle.std.proofs.Common.{ap, sym, subst}
use Rattle.lru.specs.LruCache.{LruCache}
use Rattle.page_pool.specs.Clean.{KeepsBeside}
use Rattle.page_pool.proofs.Caches.{put_keeps}
use Rattle.page_pool.proofs.clean.keep.Goals as goal

pub returns-in-Ok-clause-beside : goal.returns-in-Ok-clause-beside
returns-in-Ok-clause-beside c = subst (λ l. KeepsBeside c.args.clean.now.entries (c.args.page, c.args.bytes.now) l) (sym (ap (λ (x : LruCache _ _). x.entries) c.in-Ok.ensures.entries)) (put_keeps c.args.clean.now c.args.page c.args.bytes.now)
