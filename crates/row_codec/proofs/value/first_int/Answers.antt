use Rattle.std.proofs.Common.{◌≡◌, ◌∙◌, ap, arith, rules, ℤ}
use Rattle.std.specs.Int.{w64, cast_unsigned, cast_signed}
use Rattle.std.specs.Int.RustNames.{FitsSigned}
use Rattle.std.proofs.lemmas.Int.{to_z-of_z}
use Rattle.retro_base.specs.Fields.{number_at}
use Rattle.row_codec.proofs.Codes.{no_int, an_int}
use Rattle.row_codec.proofs.value.first_int.Goals as goal

pub returns-then-bytes-lt9 : goal.returns-then-bytes-lt9
returns-then-bytes-lt9 c = no_int c.args.bytes.now c.requires.int c.if-bytes-lt9.true

pub returns : goal.returns
returns c =
    let z : ℤ = cast_signed w64 (cast_unsigned w64 c.cast_signed.result) in
    let fits : FitsSigned w64 z = search rules in
    let is : z ≡ cast_signed w64 (number_at 8 c.args.bytes.now 1) = to_z-of_z w64 c.cast_signed.result (search rules) ∙ c.cast_signed.ensures ∙ ap (cast_signed w64) c.get_u64.ensures in
    an_int c.args.bytes.now z (λ i. omega (arith, c.type_inv.bytes i)) c.requires.int c.if-bytes-lt9.false fits is
