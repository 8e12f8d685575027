use Rattle.std.proofs.Common.{ap, sym, subst, Contains}
use Rattle.lru.specs.LruCache.{LruCache}
use Rattle.page_pool.specs.Clean.{KeepsNoMore}
use Rattle.page_pool.proofs.Caches.{found, gone, missed, removed}
use Rattle.page_pool.proofs.clean.take.Goals as goal

pub returns-clause-found : goal.returns-clause-found
returns-clause-found c = found c.args.page c.args.clean.now.entries c.pop.result c.pop.ensures.value

pub returns-clause-others : goal.returns-clause-others
returns-clause-others c = subst (λ l. KeepsNoMore c.args.clean.now.entries l) (sym (ap (λ (x : LruCache _ _). x.entries) c.pop.ensures.entries)) (removed c.args.page c.args.clean.now.entries)

pub returns-clause-gone : goal.returns-clause-gone
returns-clause-gone c = λ bytes at. gone c.args.page c.args.clean.now.entries c.len-count.ensures.valid.0 bytes (subst (λ l. Contains l (c.args.page, bytes)) (ap (λ (x : LruCache _ _). x.entries) c.pop.ensures.entries) at)

pub returns-clause-missed : goal.returns-clause-missed
returns-clause-missed c = missed c.args.page c.args.clean.now.entries c.pop.result c.pop.ensures.value
