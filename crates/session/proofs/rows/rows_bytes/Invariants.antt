use Rattle.std.proofs.Common.{◌≡◌, ◌++◌, false, drop}
use Rattle.csv.specs.Writing.{default_writer}
use Rattle.session.specs.Rows.{row_lines}
use Rattle.session.proofs.rows.rows_bytes.Given as goal

abbrev pub invariant-loop-row : goal.invariant-loop-row
invariant-loop-row l = record {
  setup : l.writer.cfg ≡ default_writer;
  fields : l.writer.fields ≡ 0;
  clean : l.writer.wrote ≡ false;
  lines : (l.writer.wtr.inner.items ++ l.writer.wtr.buf) ++ row_lines (drop l.row-index l.rows) ≡ row_lines l.rows;
}
