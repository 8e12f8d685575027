use Rattle.std.proofs.Common.{ap, refl, sym, subst}
use Rattle.std.specs.Prelude.{Some, None}
use Rattle.lru.specs.LruCache.{LruCache}
use Rattle.page_pool.specs.Clean.{KeepsNoMore}
use Rattle.page_pool.proofs.Caches.{found, missed, promoted_keeps}
use Rattle.page_pool.proofs.clean.copy.Goals as goal

pub returns-in_default-clause-missed : goal.returns-in_default-clause-missed
returns-in_default-clause-missed c = λ is. (refl, missed c.args.page c.args.clean.now.entries None c.in_default.ensures.value)

pub returns-in_default-clause-others : goal.returns-in_default-clause-others
returns-in_default-clause-others c = subst (λ l. KeepsNoMore c.args.clean.now.entries l) (sym (ap (λ (x : LruCache _ _). x.entries) c.get.follows.holds-at-none)) (promoted_keeps c.args.page c.args.clean.now.entries)

pub returns-clause-found : goal.returns-clause-found
returns-clause-found c = λ is. found c.args.page c.args.clean.now.entries (Some c.in-Some.bytes.now) c.in-Some.ensures.value

pub returns-clause-others : goal.returns-clause-others
returns-clause-others c = subst (λ l. KeepsNoMore c.args.clean.now.entries l) (sym (ap (λ (x : LruCache _ _). x.entries) c.get.follows.holds-at-none)) (promoted_keeps c.args.page c.args.clean.now.entries)
