use Rattle.std.proofs.Common.{◌≡◌, ◌++◌, ◌∷◌, [], Bool, refl, subst, sym}
use Rattle.sql_exec.specs.Adding.{AreAdded, added_or_not}
use Rattle.sql_exec.proofs.Summing.{stays-stopped, took-or-not}
use Rattle.sql_exec.proofs.adding.AddingSieve.test.Goals as goal

pub returns-in_ok-self-clause-meets : goal.returns-in_ok-self-clause-meets
returns-in_ok-self-clause-meets c = λ start rows so_far.
    took-or-not c.in_ok-self.field-0 start c.takes.new.self _ _
    (c.in_ok-self.ensures.takes start rows (subst (λ (b : Bool). added_or_not b start rows c.args.self.now) c.if-self.true so_far)) refl refl

pub returns-else-self-clause-meets : goal.returns-else-self-clause-meets
returns-else-self-clause-meets c = λ start rows so_far.
    subst (λ (b : Bool). added_or_not b start (rows ++ c.args.placed.now ∷ []) c.args.self.now) (sym c.if-self.false)
    (stays-stopped (AreAdded start.totals) rows c.args.placed.now (subst (λ (b : Bool). added_or_not b start rows c.args.self.now) c.if-self.false so_far))
