use Rattle.std.proofs.Common.{rules, ◌∙◌, Some, inl, inr, refl, sym}
use Rattle.sql_exec.proofs.Summing.{left-out-behind, left-out-refused, one-more, stops-here}
use Rattle.sql_exec.proofs.adding.Adding.takes.Goals as goal

pub returns-then-comes_before-clause-takes : goal.returns-then-comes_before-clause-takes
returns-then-comes_before-clause-takes c = λ start rows so_far.
    stops-here start c.args.self.now rows c.args.placed.now so_far
    (left-out-behind c.args.placed.now c.args.self.now.last c.args.self.now.totals (sym c.comes_before.ensures ∙ c.if-comes_before.true))

pub returns-in-Err : goal.returns-in-Err
returns-in-Err c = record {
  takes = λ start rows so_far.
      stops-here start c.args.self.now rows c.args.placed.now so_far
      (elim c.in-Err.ensures.tally [
        | inl memory ↦ search rules
        | inr refused ↦ left-out-refused c.args.placed.now c.args.self.now.last c.args.self.now.totals c.in-Err.field-0 (rw c.as_slice.ensures at refused)
      ]);
  memory = tt;
}

pub returns-in-Ok-clause-takes : goal.returns-in-Ok-clause-takes
returns-in-Ok-clause-takes c = λ start rows so_far.
    one-more start c.args.self.now (record { alloc = c.args.self.now.alloc; totals = c.add.new.self; last = Some c.args.placed.now.number; useful = c.args.self.now.useful }) rows c.args.placed.now so_far
    (sym c.comes_before.ensures ∙ c.if-comes_before.false) refl (λ select scope snapshot before are. rw c.as_slice.ensures at (c.in-Ok.ensures.totals select scope snapshot before are))
