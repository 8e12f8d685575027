use Rattle.std.proofs.Common.{◌≤◌, ◌<◌, ◌∙◌, Err, sym, ap, arith}
use Rattle.retro_base.specs.declared.refusal.Refusal.TheVariants.{RowTooLong}
use Rattle.values.specs.Row.{row_bytes}
use Rattle.sql_exec.proofs.Shortness.{one-passes, one-told, row-bound}
use Rattle.sql_exec.proofs.lengths.check_length.Goals as goal

pub overflow_cast-bytes : goal.overflow_cast-bytes
overflow_cast-bytes c = omega (arith, row-bound c.args.row.now c.encoded_length-bytes.ensures.lawful, c.encoded_length-bytes.ensures.length)

pub returns-then-bytes-gt-ROW_BYTES-clause-checked : goal.returns-then-bytes-gt-ROW_BYTES-clause-checked
returns-then-bytes-gt-ROW_BYTES-clause-checked c =
    let same = sym c.encoded_length-bytes.ensures.length in
    let long : 900 < row_bytes c.args.row.now = omega (arith, c.encoded_length-bytes.ensures.length) in
    sym (one-told c.args.row.now long ∙ ap (λ (n : _). Err (RowTooLong n)) same)

pub returns-clause-checked : goal.returns-clause-checked
returns-clause-checked c =
    let short : row_bytes c.args.row.now ≤ 900 = omega (arith, c.encoded_length-bytes.ensures.length) in
    sym (one-passes c.args.row.now short)
