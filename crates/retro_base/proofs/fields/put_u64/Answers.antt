use Rattle.std.proofs.Common.{arith}
use Rattle.std.proofs.lemmas.List.{length-take-le}
use Rattle.retro_base.specs.Fields.{field_bytes}
use Rattle.retro_base.proofs.FieldLaws.{field_put, number_at-field}
use Rattle.retro_base.proofs.fields.put_u64.Goals as goal

pub returns-clause-replaced : goal.returns-clause-replaced
unfolding field_bytes
returns-clause-replaced c = field_put 8 c.args.value c.args.place c.args.bytes.now _ c.write_u64.ensures

pub returns-clause-reads_back : goal.returns-clause-reads_back
unfolding field_bytes
returns-clause-reads_back c =
    rw (field_put 8 c.args.value c.args.place c.args.bytes.now _ c.write_u64.ensures)
    (number_at-field 8 c.args.value c.args.place _ _ (length-take-le c.args.place c.args.bytes.now (omega arith)) (omega arith))
