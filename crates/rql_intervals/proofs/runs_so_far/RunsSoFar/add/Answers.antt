use Rattle.std.proofs.Common.{refl, rules}
use Rattle.rql_intervals.specs.declared.runs_so_far.RunsSoFar.{RunsSoFar}
use Rattle.rql_intervals.proofs.RunFolds.{adds_rows}
use Rattle.rql_intervals.proofs.runs_so_far.RunsSoFar.add.Goals as goal

pub returns : goal.returns
returns c =
    let mid : RunsSoFar = record {
      runs = c.go_on.new.runs;
      ongoing = c.in_ok-self.field-0;
      last = c.args.self.now.last;
    } in
    adds_rows c.args.place c.args.rows c.args.self.now mid c.begin.new.self
    (record { runs = c.begin.new.self.runs; ongoing = c.begin.new.self.ongoing; last = c.args.rows })
    (search rules) refl (search rules) refl refl refl
