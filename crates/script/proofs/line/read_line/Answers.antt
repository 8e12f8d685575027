use Rattle.std.proofs.Common.{◌≡◌, false, ltb, length, arith}
use Rattle.std.proofs.lemmas.Bool.Decides.{nat_tests}
use Rattle.retro_base.specs.declared.limits.TheConstants.{LINE_BYTES}
use Rattle.script.proofs.line.read_line.Goals as goal

pub returns-clause-found : goal.returns-clause-found
returns-clause-found c =
    let short : ltb LINE_BYTES (length c.args.bytes.now) ≡ false = grind (arith, nat_tests) in
    rw (c.if-too_far.false, short) (rw c.text_of.ensures at c.text_line.ensures.found)

pub returns-clause-only : goal.returns-clause-only
returns-clause-only c =
    let short : ltb LINE_BYTES (length c.args.bytes.now) ≡ false = grind (arith, nat_tests) in
    rw (c.if-too_far.false, short) (rw c.text_of.ensures at c.text_line.ensures.only)
