use Rattle.std.proofs.Common.{◌≡◌, ◌≤◌, ◌∙◌, ◌++◌, ◌∷◌, List, ℕ, length, take, inr, ap, arith}
use Rattle.std.proofs.lemmas.List.{take_all}
use Rattle.std.specs.List.{flat_map}
use Rattle.retro_base.specs.Fields.{field_bytes}
use Rattle.values.specs.declared.value.Value.{Value}
use Rattle.row_codec.specs.RowCode.{row_code, value_code}
use Rattle.row_codec.proofs.Codes.{encoded_long, encoded_whole}
use Rattle.row_codec.proofs.writing.encode.Goals as goal

-- what was written when all values are, is the encoding
written : (number place : ℕ) (row : List Value) (bytes : List ℕ) → bytes ≡ field_bytes 8 number ++ length row ∷ flat_map value_code (take place row) → length row ≤ place → bytes ≡ row_code number row
written number place row bytes is past = is ∙ ap (λ (values : List Value). field_bytes 8 number ++ length row ∷ flat_map value_code values) (take_all place row past)

pub returns-then-len-gt-ROW_BYTES-clause-exact : goal.returns-then-len-gt-ROW_BYTES-clause-exact
returns-then-len-gt-ROW_BYTES-clause-exact c =
    let whole = written c.args.number c.loop-value.value-index c.args.row.now c.loop-value.bytes.items c.loop-value.invariant.written (omega (arith, ap length c.as_slice-value-items.ensures)) in
    let told : c.len-then-len-gt-ROW_BYTES.result ≡ length c.loop-value.bytes.items = omega arith in
    inr (rw told (encoded_long c.args.number c.args.row.now c.loop-value.bytes.items whole (omega arith)))

pub returns-clause-exact : goal.returns-clause-exact
returns-clause-exact c =
    let whole = written c.args.number c.loop-value.value-index c.args.row.now c.loop-value.bytes.items c.loop-value.invariant.written (omega (arith, ap length c.as_slice-value-items.ensures)) in
    encoded_whole c.args.number c.args.row.now c.loop-value.bytes.items whole (omega arith)
