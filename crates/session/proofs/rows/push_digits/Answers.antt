use Rattle.std.proofs.Common.{Result, Ok, Err, OnOk}
use Rattle.session.proofs.Quoting.{signed_printable}
use Rattle.session.proofs.rows.push_digits.Goals as goal

on_ok : {T E : Type 0} (r : Result T E) (P : Type 0) → P → OnOk r P
on_ok (Ok x) P p = p
on_ok (Err e) P p = tt

pub returns-clause-shown : goal.returns-clause-shown
returns-clause-shown c = on_ok c.push_field.result _ (signed_printable c.args.number c.ranges.number.sfits)
