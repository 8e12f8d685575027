use Rattle.std.proofs.Common.{arith, length, length-append}
use Rattle.retro_base.specs.Fields.{field_bytes}
use Rattle.retro_base.proofs.FieldLaws.{length-field_bytes}
use Rattle.row_codec.specs.RowCode.{row_code}
use Rattle.row_codec.proofs.Codes.{row_size}
use Rattle.heap_file.proofs.page.entry_length.Goals as goal

pub returns-clause-length : goal.returns-clause-length
returns-clause-length c =
    let code = row_code c.args.entry.now.number c.args.entry.now.row in
    omega (arith, c.encoded_length.ensures.length, row_size c.args.entry.now.number c.args.entry.now.row, length-append (field_bytes 2 (length code)) code, length-field_bytes 2 (length code))

pub returns-clause-short : goal.returns-clause-short
returns-clause-short c = omega (arith, c.encoded_length.ensures.length, c.requires.short)
