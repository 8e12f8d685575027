use Rattle.std.proofs.Common.{◌≡◌, ◌<◌, ◌++◌, ◌+◌, ℕ, false, List, ◌∷◌, length, drop, get_or, Result, Ok, Err, ap, sym, ◌∙◌, append_assoc}
use Rattle.std.proofs.lemmas.List.{drop_more}
use Rattle.std.specs.Result.{is_err, MatchResult}
use Rattle.csv.specs.Records.{fields_of}
use Rattle.csv.specs.Writing.{default_writer, row_text as csv_text}
use Rattle.values.specs.declared.value.Value.{Value}
use Rattle.session.specs.Rows.{row_lines, row_text}
use Rattle.session.proofs.Quoting.{row_same}
use Rattle.session.proofs.rows.rows_bytes.Goals as goal

ok_part : {T E : Type 0} (P : T → Type 0) (Q : E → Type 0) (r : Result T E) → false ≡ is_err r → MatchResult r P Q → (x : T) × P x
ok_part P Q (Ok x) e p = (x, p)
ok_part P Q (Err x) e p = absurd (cc e)

next_row : (rows : List (List Value)) (i : ℕ) (row : List Value) → i < length rows → row ≡ get_or rows i row → drop i rows ≡ row ∷ drop (i + 1) rows
next_row rows i row less is = drop_more rows i row less ∙ ap (λ r. r ∷ drop (i + 1) rows) (sym is)

pub loop-row-preserved : goal.loop-row-preserved
loop-row-preserved c =
    let was = c.loop-row.invariant in
    let done = c.if-is_err.ensures.value in
    let wrote = (ok_part _ _ c.write_byte_record.result done c.write_byte_record.ensures.bytes).1 was.fields was.clean (λ e. absurd (cc (sym (ap (λ s. s.style) was.setup) ∙ e))) in
    let row = c.row-item.result in
    let rest = row_lines (drop (c.loop-row.row-index + 1) c.args.rows.now) in
    let text : csv_text c.loop-row.writer.cfg (fields_of c.fill.new.out) ≡ row_text row =
    ap (λ s. csv_text s (fields_of c.fill.new.out)) was.setup ∙ ap (csv_text default_writer) c.in_ok-fill.ensures.fields ∙ row_same row c.in_ok-fill.ensures.shown in
    let old = c.loop-row.writer.wtr.inner.items ++ c.loop-row.writer.wtr.buf in
    record {
      setup = (ok_part _ _ c.write_byte_record.result done c.write_byte_record.ensures.setup).1 ∙ was.setup;
      fields = (ok_part _ _ c.write_byte_record.result done c.write_byte_record.ensures.ended).1;
      clean = (ok_part _ _ c.write_byte_record.result done c.write_byte_record.ensures.clean).1;
      lines = ap (λ b. b ++ rest) (wrote ∙ ap (λ t. old ++ t) text) ∙ append_assoc old (row_text row) rest ∙ ap (λ r. old ++ row_lines r) (sym (next_row c.args.rows.now c.loop-row.row-index row c.loop-row-test.true c.row-item.is)) ∙ was.lines;
    }
