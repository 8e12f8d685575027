use Rattle.std.proofs.Common.{◌≡◌, ◌≤◌, ◌∙◌, List, Ok, ap, inr, length, subst, sym}
use Rattle.std.proofs.lemmas.Result.{err_from_is_err_and}
use Rattle.values.specs.declared.value.Value.{Value}
use Rattle.tables.specs.declared.contents.NumberedRow.{NumberedRow}
use Rattle.tables.specs.Fates.{becoming, rewritten}
use Rattle.tables.specs.Meaning.{check_lengths, reworked, updated_row}
use Rattle.tables.specs.Rows.{rows_of}
use Rattle.tables.proofs.Rewriting.{becoming-all, updated_made, updated_refused}
use Rattle.tables.proofs.Sound.{reworked_fit, short_rows}
use Rattle.tables.proofs.changes.updated.Goals as goal

pub check_becoming-requires : goal.check_becoming-requires
check_becoming-requires c =
    let table = c.args.table.now in
    let fates = c.in_ok-fates.fates in
    let rows = c.args.contents.now.rows in
    let made = subst (λ (rs : List NumberedRow). reworked (updated_row table c.args.snapshot c.args.update.now) rs ≡ Ok (rewritten fates.each rs, fates.count)) c.as_slice.ensures c.in_ok-fates.ensures.made in
    let each = c.in_ok-fates.ensures.each ∙ ap (λ (rs : List NumberedRow). length rs) c.as_slice.ensures in
    rw c.as_slice-2.ensures
    (becoming-all (λ (row : List Value). length row ≤ 16) fates.each rows each
    (short_rows table.columns (rows_of (rewritten fates.each rows)) c.requires.table.few_columns
    (reworked_fit table c.args.snapshot c.args.update.now rows (rewritten fates.each rows, fates.count) c.requires.table.fitting c.requires.known c.requires.typed made)))

pub returns-in_err-check_becoming-clause-made : goal.returns-in_err-check_becoming-clause-made
returns-in_err-check_becoming-clause-made c =
    let p = err_from_is_err_and c.from_residual-in_err-check_becoming.result c.from_residual-in_err-check_becoming.ensures.1 in
    let table = c.args.table.now in
    let fates = c.in_ok-fates.fates in
    let made = subst (λ (rs : List NumberedRow). reworked (updated_row table c.args.snapshot c.args.update.now) rs ≡ Ok (rewritten fates.each rs, fates.count)) c.as_slice.ensures c.in_ok-fates.ensures.made in
    let each = c.in_ok-fates.ensures.each ∙ ap (λ (rs : List NumberedRow). length rs) c.as_slice.ensures in
    rw (p.1, p.2)
    (inr (updated_refused table c.args.snapshot c.args.contents.now c.args.update.now fates.each fates.count each c.requires.table.short made _ (ap (λ l. check_lengths (becoming l)) (sym c.as_slice-2.ensures) ∙ sym c.in_err-check_becoming.ensures)))

pub returns-clause-made : goal.returns-clause-made
returns-clause-made c =
    let table = c.args.table.now in
    let fates = c.in_ok-fates.fates in
    let made = subst (λ (rs : List NumberedRow). reworked (updated_row table c.args.snapshot c.args.update.now) rs ≡ Ok (rewritten fates.each rs, fates.count)) c.as_slice.ensures c.in_ok-fates.ensures.made in
    let each = c.in_ok-fates.ensures.each ∙ ap (λ (rs : List NumberedRow). length rs) c.as_slice.ensures in
    updated_made table c.args.snapshot c.args.contents.now c.args.update.now fates.each fates.count each c.requires.table.short made _ (ap (λ l. check_lengths (becoming l)) (sym c.as_slice-2.ensures) ∙ sym c.in_ok-check_becoming.ensures)
