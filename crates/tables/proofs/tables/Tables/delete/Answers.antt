use Rattle.std.proofs.Common.{◌≡◌, ◌∙◌, ap, subst, List}
use Rattle.std.specs.Prelude.{slice_index_or}
use Rattle.sql_tree.specs.declared.schema.TableSchema.{TableSchema}
use Rattle.tables.specs.declared.contents.Contents.{Contents}
use Rattle.tables.specs.Fates.{contents_after}
use Rattle.tables.specs.Meaning.{remaining}
use Rattle.tables.specs.Tables.{IsTables, Tables}
use Rattle.tables.proofs.Finding.{ReadsAt, changed_there, reads_table, there_after, there_each}
use Rattle.tables.proofs.Sound.{remaining_sound}
use Rattle.tables.proofs.tables.Tables.delete.Goals as goal

pub rewrite-requires-clause-each : goal.rewrite-requires-clause-each
rewrite-requires-clause-each c =
    let tables = c.args.self.now in
    let place = c.in_ok-place.place in
    let table = c.index-as_slice-place.result in
    let contents = c.index.result.now in
    let read : ReadsAt tables place table contents = record {
      table_is = c.index-as_slice-place.is ∙ ap (λ (ts : List TableSchema). slice_index_or ts place table) (c.as_slice.ensures ∙ ap (λ (t : Tables). t.schema.tables) c.self.view_is);
      contents_is = c.index.ensures ∙ ap (λ (t : Tables). slice_index_or t.contents place contents) c.self.view_is;
    } in
    there_each tables place table contents c.in_ok-fates.fates.each c.in_ok-place.ensures.in_contents read c.in_ok-fates.ensures.each

pub rewrite-requires-clause-table : goal.rewrite-requires-clause-table
rewrite-requires-clause-table c =
    let tables = c.args.self.now in
    let place = c.in_ok-place.place in
    let table = c.index-as_slice-place.result in
    let contents = c.index.result.now in
    let read : ReadsAt tables place table contents = record {
      table_is = c.index-as_slice-place.is ∙ ap (λ (ts : List TableSchema). slice_index_or ts place table) (c.as_slice.ensures ∙ ap (λ (t : Tables). t.schema.tables) c.self.view_is);
      contents_is = c.index.ensures ∙ ap (λ (t : Tables). slice_index_or t.contents place contents) c.self.view_is;
    } in
    let is = reads_table tables place table contents (subst IsTables c.self.view_is c.self.invariant) c.in_ok-place.ensures.in_schema read in
    let after = contents_after c.in_ok-fates.fates.each contents in
    there_after tables place table contents c.in_ok-fates.fates.each c.in_ok-place.ensures.in_contents read c.in_ok-place.ensures.in_schema
    (remaining_sound table c.args.snapshot c.args.delete.now contents after c.in_ok-fates.fates.count is c.in_ok-fates.ensures.made)

pub returns-clause-means : goal.returns-clause-means
returns-clause-means c =
    let tables = c.args.self.now in
    let place = c.in_ok-place.place in
    let table = c.index-as_slice-place.result in
    let contents = c.index.result.now in
    let read : ReadsAt tables place table contents = record {
      table_is = c.index-as_slice-place.is ∙ ap (λ (ts : List TableSchema). slice_index_or ts place table) (c.as_slice.ensures ∙ ap (λ (t : Tables). t.schema.tables) c.self.view_is);
      contents_is = c.index.ensures ∙ ap (λ (t : Tables). slice_index_or t.contents place contents) c.self.view_is;
    } in
    changed_there tables place table contents c.in_ok-fates.fates.each c.in_ok-place.ensures.in_contents read c.args.delete.now.table c.rewrite.new.self (λ (s : TableSchema) (x : Contents). remaining c.args.snapshot c.args.delete.now s x) c.in_ok-fates.fates.count c.in_ok-place.ensures c.in_ok-fates.ensures.made c.rewrite.ensures
