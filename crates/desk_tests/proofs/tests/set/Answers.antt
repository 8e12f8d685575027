use Rattle.std.proofs.Common.{◌≡◌, ◌∙◌, ◌||◌, Bool, true, false, List, sym, subst, refl}
use Rattle.page_pool.specs.Side.{held}
use Rattle.desk.specs.Steps.{AreHeld}
use Rattle.desk_tests.proofs.tests.set.Goals as goal

or_true : (b : Bool) → b || true ≡ true
or_true true = refl
or_true false = refl

pub change-requires-clause-held : goal.change-requires-clause-held
change-requires-clause-held g c =
    subst (AreHeld c.hold.new.self.pool) (sym (c.new.ensures ∙ c.in_ok-vec.ensures.items)) (c.in_default.ensures.held 7 ∙ or_true (held c.args.desk.now.pool 7), tt)
