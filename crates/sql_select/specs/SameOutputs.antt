-- Rows of an answer with the same outputs.
use Rattle.std.specs.Prelude.{◌≡◌, ℕ, IsTrue, List}
use Rattle.std.specs.Cmp.{IsEquivalence}
use Rattle.sql_select.specs.Groups.{same_outputs}
use Rattle.sql_select.specs.Same.{row_writes}
use Rattle.sql_select.specs.Sameness.{same_row_equiv, same_rows_feed_alike}
use Rattle.sql_select.specs.declared.output_row.OutputRow.{OutputRow}

pub same_outputs_equiv : IsEquivalence same_outputs
same_outputs_equiv = record {
  refl = λ x. same_row_equiv.refl x.outputs;
  symm = λ x y. same_row_equiv.symm x.outputs y.outputs;
  congr = λ x y z. same_row_equiv.congr x.outputs y.outputs z.outputs;
}

abbrev pub output_writes : OutputRow → List (List ℕ)
output_writes row = row_writes row.outputs

pub same_outputs_feed_alike : (a b : OutputRow) → IsTrue (same_outputs a b) → output_writes a ≡ output_writes b
same_outputs_feed_alike a b h = same_rows_feed_alike a.outputs b.outputs h
