use Rattle.std.proofs.Common.{◌≡◌, ◌∙◌, Result, ap, subst, sym, List}
use Rattle.std.specs.Prelude.{slice_index_or}
use Rattle.retro_base.specs.Gives.{Gives}
use Rattle.retro_base.specs.declared.refusal.Refusal.{Refusal}
use Rattle.sql_tree.specs.declared.schema.TableSchema.{TableSchema}
use Rattle.sql_select.specs.declared.answer.Answer.{Answer}
use Rattle.tables.specs.Tables.{Found, IsTables, Tables}
use Rattle.tables.proofs.Answering.{answer_one, answer_two}
use Rattle.tables.proofs.Finding.{ReadsAt, reads_found, reads_table}
use Rattle.tables.proofs.tables.Tables.answer.Goals as goal

pub answer_of_two-requires-clause-few_first : goal.answer_of_two-requires-clause-few_first
answer_of_two-requires-clause-few_first c =
    let tables = c.args.self.now in
    let place = c.in_ok-place.place in
    let table = c.index-as_slice-place.result in
    let contents = c.index-contents.result.now in
    let read : ReadsAt tables place table contents = record {
      table_is = c.index-as_slice-place.is ∙ ap (λ (ts : List TableSchema). slice_index_or ts place table) (c.as_slice.ensures ∙ ap (λ (t : Tables). t.schema.tables) c.self.view_is);
      contents_is = c.index-contents.ensures ∙ ap (λ (t : Tables). slice_index_or t.contents place contents) c.self.view_is;
    } in
    (reads_table tables place table contents (subst IsTables c.self.view_is c.self.invariant) c.in_ok-place.ensures.in_schema read).few_columns

pub answer_of_two-requires-clause-few_second : goal.answer_of_two-requires-clause-few_second
answer_of_two-requires-clause-few_second c =
    let tables = c.args.self.now in
    let place = c.in_ok-place-in-Some.place in
    let table = c.index-as_slice-place-in-Some.result in
    let contents = c.index-others.result.now in
    let read : ReadsAt tables place table contents = record {
      table_is = c.index-as_slice-place-in-Some.is ∙ ap (λ (ts : List TableSchema). slice_index_or ts place table) (c.as_slice-in-Some.ensures ∙ ap (λ (t : Tables). t.schema.tables) c.self.view_is);
      contents_is = c.index-others.ensures ∙ ap (λ (t : Tables). slice_index_or t.contents place contents) c.self.view_is;
    } in
    (reads_table tables place table contents (subst IsTables c.self.view_is c.self.invariant) c.in_ok-place-in-Some.ensures.in_schema read).few_columns

pub returns-in-None : goal.returns-in-None
returns-in-None c =
    let tables = c.args.self.now in
    let place = c.in_ok-place.place in
    let table = c.index-as_slice-place.result in
    let contents = c.index-contents.result.now in
    let read : ReadsAt tables place table contents = record {
      table_is = c.index-as_slice-place.is ∙ ap (λ (ts : List TableSchema). slice_index_or ts place table) (c.as_slice.ensures ∙ ap (λ (t : Tables). t.schema.tables) c.self.view_is);
      contents_is = c.index-contents.ensures ∙ ap (λ (t : Tables). slice_index_or t.contents place contents) c.self.view_is;
    } in
    let first : Found = record { place = place; schema = table; contents = contents } in
    let is = answer_one c.args.query.now c.args.snapshot tables first (reads_found c.args.query.now.table tables place table contents c.in_ok-place.ensures read) c.in-None.is in
    subst (λ (d : Result Answer Refusal). Gives (λ (a : Answer). a) c.answer_of_one.result d) (sym is) c.answer_of_one.ensures

pub returns-in_ok-place-in-Some : goal.returns-in_ok-place-in-Some
returns-in_ok-place-in-Some c =
    let tables = c.args.self.now in
    let place = c.in_ok-place.place in
    let table = c.index-as_slice-place.result in
    let contents = c.index-contents.result.now in
    let read : ReadsAt tables place table contents = record {
      table_is = c.index-as_slice-place.is ∙ ap (λ (ts : List TableSchema). slice_index_or ts place table) (c.as_slice.ensures ∙ ap (λ (t : Tables). t.schema.tables) c.self.view_is);
      contents_is = c.index-contents.ensures ∙ ap (λ (t : Tables). slice_index_or t.contents place contents) c.self.view_is;
    } in
    let other_place = c.in_ok-place-in-Some.place in
    let other = c.index-as_slice-place-in-Some.result in
    let others = c.index-others.result.now in
    let other_read : ReadsAt tables other_place other others = record {
      table_is = c.index-as_slice-place-in-Some.is ∙ ap (λ (ts : List TableSchema). slice_index_or ts other_place other) (c.as_slice-in-Some.ensures ∙ ap (λ (t : Tables). t.schema.tables) c.self.view_is);
      contents_is = c.index-others.ensures ∙ ap (λ (t : Tables). slice_index_or t.contents other_place others) c.self.view_is;
    } in
    let first : Found = record { place = place; schema = table; contents = contents } in
    let second : Found = record { place = other_place; schema = other; contents = others } in
    let name = c.in-Some.second in
    let is = answer_two c.args.query.now c.args.snapshot tables name first second (reads_found c.args.query.now.table tables place table contents c.in_ok-place.ensures read) c.in-Some.is (reads_found name tables other_place other others c.in_ok-place-in-Some.ensures other_read) in
    subst (λ (d : Result Answer Refusal). Gives (λ (a : Answer). a) c.answer_of_two.result d) (sym is) c.answer_of_two.ensures
