use Rattle.std.proofs.Common.{◌≡◌, ◌∷◌, [], length, ap, refl, arith, append_assoc}
use Rattle.retro_base.specs.Fields.{field_bytes}
use Rattle.row_codec.specs.RowCode.{row_code}
use Rattle.std.proofs.lemmas.Result.{err_from_is_err_and}
use Rattle.index_page.specs.IndexPage.{row_of}
use Rattle.index_page.proofs.Packing.{row-refused}
use Rattle.index_page.proofs.page.push_entry.Goals as goal

pub returns-clause-pushed : goal.returns-clause-pushed
unfolding field_bytes row_of
returns-clause-pushed c =
    let code = row_code c.args.entry.now.number (c.args.entry.now.value ∷ []) in
    let is : c.in_ok-code.code.items ≡ code = rw c.in_ok-row.ensures at c.in_ok-code.ensures.lawful.code in
    let long : c.len.result ≡ length code = omega (arith, ap length is) in
    rw (c.in_ok-extend_from_slice-3.ensures.items, c.in_ok-extend_from_slice-2.ensures.items, c.in_ok-extend_from_slice.ensures.items, c.deref.ensures.value, is, c.to_be_bytes.ensures, c.to_be_bytes-2.ensures, long) (simp append_assoc refl)

pub returns-in_err-code-clause-memory : goal.returns-in_err-code-clause-memory
returns-in_err-code-clause-memory c =
    let p = err_from_is_err_and c.from_residual-in_err-code.result c.from_residual-in_err-code.ensures.1 in
    rw (p.1, p.2) (row-refused c.args.entry.now c.in_err-code.field-0.0 c.requires (rw c.in_ok-row.ensures at c.in_err-code.ensures.exact))
