use Rattle.std.proofs.Common.{◌≡◌, [], map, take}
use Rattle.std.specs.List.{AllByRecursion}
use Rattle.csv.specs.Records.{fields_of, partial_of}
use Rattle.values.specs.Value.{text_of}
use Rattle.session.specs.Rows.{IsShown}
use Rattle.session.proofs.rows.fill.Given as goal

abbrev pub invariant-loop-value : goal.invariant-loop-value
invariant-loop-value l = record {
  fields : fields_of l.out ≡ map text_of (take l.value-index l.value-items);
  whole : partial_of l.out ≡ [];
  shown : AllByRecursion IsShown (take l.value-index l.value-items);
}
