use Rattle.std.proofs.Common.{sym, subst, arith}
use Rattle.plain_store.specs.Page.{DoNotFall, IsWithin}
use Rattle.plain_store.proofs.Versions.{falls_more}
use Rattle.plain_store.proofs.page.VersionedPage.capture.Goals as goal

pub invariant_of-self-2 : goal.invariant_of-self-2
invariant_of-self-2 c =
    let within = subst (IsWithin c.args.newest) (sym c.self.view_is) c.requires in
    subst (DoNotFall 0) (sym c.in_ok-push.ensures.items) (falls_more 0 c.args.newest c.self.inside.past.items c.self.inside.bytes c.self.invariant (omega arith) within)
