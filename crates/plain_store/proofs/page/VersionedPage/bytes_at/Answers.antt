use Rattle.std.proofs.Common.{◌≡◌, ◌<◌, ◌≤◌, ◌∙◌, List, get_or, length, ltb, sym, ap, subst, arith, rules}
use Rattle.std.proofs.lemmas.Bool.{ltb-true, ltb-false}
use Rattle.std.proofs.lemmas.List.Sorted.{IsPartitionPoint-from_clause}
use Rattle.plain_store.specs.Page.{DoNotFall, PlainPage, bytes_at}
use Rattle.plain_store.specs.declared.page.Version.{Version}
use Rattle.plain_store.proofs.Versions.{by_none, by_version, parted}
use Rattle.plain_store.proofs.page.VersionedPage.bytes_at.Goals as goal

pub returns-in-Some : goal.returns-in-Some
returns-in-Some c =
    let past = c.deref.result.now in
    let falls : DoNotFall 0 past = subst (DoNotFall 0) (sym c.deref.ensures.value) c.self.invariant in
    let point = IsPartitionPoint-from_clause (λ (version : Version). ltb version.upto c.args.snapshot) _ _ c.partition_point-place.ensures.partitioned (parted c.args.snapshot past falls) (λ a r q k. search rules) in
    let same : past ≡ c.deref-2.result.now = c.deref.ensures.value ∙ sym c.deref-2.ensures.value in
    let item = c.in-Some.ensures.lookup.3 in
    let at = by_version c.args.snapshot c.self.inside.bytes past c.partition_point-place.result c.in-Some.version.now (λ i d lt. ltb-true _ _ (point.0 i d (omega arith) lt)) (λ i d le lt. ltb-false _ _ (point.1 i d le lt))
    (subst (λ (vs : List Version). c.partition_point-place.result < length vs) (sym same) item.0)
    (subst (λ (vs : List Version). c.in-Some.version.now ≡ get_or vs c.partition_point-place.result c.in-Some.version.now) (sym same) (item.1 c.in-Some.version.now)) in
    sym at ∙ ap (bytes_at c.args.snapshot c.self.inside.bytes) c.deref.ensures.value ∙ ap (λ (p : PlainPage). bytes_at c.args.snapshot p.bytes p.past) c.self.view_is

pub returns-in-None : goal.returns-in-None
returns-in-None c =
    let past = c.deref.result.now in
    let falls : DoNotFall 0 past = subst (DoNotFall 0) (sym c.deref.ensures.value) c.self.invariant in
    let point = IsPartitionPoint-from_clause (λ (version : Version). ltb version.upto c.args.snapshot) _ _ c.partition_point-place.ensures.partitioned (parted c.args.snapshot past falls) (λ a r q k. search rules) in
    let same : past ≡ c.deref-2.result.now = c.deref.ensures.value ∙ sym c.deref-2.ensures.value in
    let at = by_none c.args.snapshot c.self.inside.bytes past c.partition_point-place.result (λ i d lt. ltb-true _ _ (point.0 i d (omega arith) lt))
    (subst (λ (vs : List Version). length vs ≤ c.partition_point-place.result) (sym same) c.in-None.ensures.lookup.3) in
    sym at ∙ ap (bytes_at c.args.snapshot c.self.inside.bytes) c.deref.ensures.value ∙ ap (λ (p : PlainPage). bytes_at c.args.snapshot p.bytes p.past) c.self.view_is
