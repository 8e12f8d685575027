use Rattle.std.proofs.Common.{arith}
use Rattle.std.proofs.lemmas.List.{take_rest}
use Rattle.row_codec.proofs.Codes.{row_parts, not_values, whole_values, row_read}
use Rattle.row_codec.proofs.reading.decode_into.Goals as goal
use Rattle.row_codec.proofs.reading.decode_into.Goals.{then-bytes-lt9-via-then-bytes-lt9, then-bytes-lt9-via-else-bytes-lt9+then-bytes-gt-ROW_BYTES, then-bytes-lt9-via-else-bytes-lt9+else-bytes-gt-ROW_BYTES+then-bytes-eq0, then-bytes-lt9-via-else-bytes-lt9+else-bytes-gt-ROW_BYTES+else-bytes-eq0+then-bytes}

pub returns-then-bytes-lt9-clause-decoded : goal.returns-then-bytes-lt9-clause-decoded
returns-then-bytes-lt9-clause-decoded c = λ number row is.
    let parts = row_parts c.args.bytes.now number row is in
    let some = is.lawful.some in
    let few = is.lawful.few in
    elim c.then-bytes-lt9.branch [
      | then-bytes-lt9-via-then-bytes-lt9 w ↦ omega arith
      | then-bytes-lt9-via-else-bytes-lt9+then-bytes-gt-ROW_BYTES w ↦ omega (arith, is.short)
      | then-bytes-lt9-via-else-bytes-lt9+else-bytes-gt-ROW_BYTES+then-bytes-eq0 w ↦ omega (arith, parts.1)
      | then-bytes-lt9-via-else-bytes-lt9+else-bytes-gt-ROW_BYTES+else-bytes-eq0+then-bytes w ↦ omega (arith, parts.1)
    ]

pub returns-in_default-clause-decoded : goal.returns-in_default-clause-decoded
returns-in_default-clause-decoded c = λ number row is.
    let bytes = c.args.bytes.now in
    not_values bytes number row (rw (take_rest bytes 9, c.from.ensures, c.in_default.is) at c.in_ok-end.ensures.found) is

pub returns-then-end-bytes-clause-decoded : goal.returns-then-end-bytes-clause-decoded
returns-then-end-bytes-clause-decoded c = λ number row is.
    let bytes = c.args.bytes.now in
    let whole = whole_values bytes number c.in-Some.end row c.first_values.new.row (rw (take_rest bytes 9, c.from.ensures, c.in-Some.is) at c.in_ok-end.ensures.found) is in
    omega arith

pub returns-clause-decoded : goal.returns-clause-decoded
returns-clause-decoded c =
    let bytes = c.args.bytes.now in
    rw c.get_u64.ensures
    (row_read bytes c.in-Some.end c.first_values.new.row (λ i. omega (arith, c.type_inv.bytes i)) (omega arith) (omega arith) (omega arith) (omega arith) (rw (take_rest bytes 9, c.from.ensures, c.in-Some.is) at c.in_ok-end.ensures.found) (omega arith))
