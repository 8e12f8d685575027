-- What statements do to well-formed pages is what they mean over their tables.
use Rattle.std.proofs.Common.{◌≡◌, ◌∙◌, ℕ, Option, None, Result, Ok, Err, inl, inr, refl, sym, subst}
use Rattle.retro_base.specs.declared.refusal.Refusal.{Refusal}
use Rattle.sql_tree.specs.Statement.{IsStatement}
use Rattle.sql_tree.specs.declared.select.Select.{Select as SelectRecord}
use Rattle.sql_tree.specs.declared.statement.Statement.{Statement}
use Rattle.sql_tree.specs.declared.statement.Statement.TheVariants.{CreateTable, CreateIndex, Insert, Update, Delete, Select}
use Rattle.sql_check.specs.Check.{checked}
use Rattle.sql_select.specs.declared.answer.Answer.{Answer}
use Rattle.tables.specs.declared.reply.Reply.{Reply}
use Rattle.tables.specs.declared.reply.Reply.TheVariants.{Rows}
use Rattle.tables.specs.Tables.{Tables}
use Rattle.pager.specs.Allows.{◌>>=◌, only}
use Rattle.pager.specs.Pages.{Pages}
use Rattle.pager.specs.Stop.{Makes}
use Rattle.pager.specs.declared.stop.Stop.{Stop}
use Rattle.heap_file.proofs.Ones.{differ}
use Rattle.relation.specs.declared.catalog.Catalog.{Catalog}
use Rattle.relation_laws.specs.Laws.{IsStoreOf}
use Rattle.relation_laws.specs.Tables.{PlainTables}
use Rattle.relation_laws.proofs.Catalogs.{goes-on}
use Rattle.sql_exec.specs.Asking.{answered, opened}
use Rattle.sql_exec.specs.Promises.{IsRunOver, Runs}
use Rattle.sql_exec.specs.Running.{done_on, ran}
use Rattle.sql_exec.specs.Stored.{IsStored, plain}
use Rattle.sql_exec.proofs.Asked.{answer-law, opened-err, opened-ok}
use Rattle.sql_exec.proofs.Created.{create-law}
use Rattle.sql_exec.proofs.Deleted.{delete-law}
use Rattle.sql_exec.proofs.Indexed.{index-law}
use Rattle.sql_exec.proofs.Inserted.{insert-law}
use Rattle.sql_exec.proofs.Leading.{leaves-then}
use Rattle.sql_exec.proofs.Meaning.{does-passed, does-refused, selected-err, selected-ok}
use Rattle.sql_exec.proofs.Updated.{update-law}
use Rattle.sql_exec.proofs.Steps.{ends-there}

select-law : (size : ℕ) (pages : Pages) (all : PlainTables) (is : IsStoreOf size pages all) (query : SelectRecord) (snapshot : Option ℕ) → checked (Select query) snapshot (plain all).schema ≡ Ok tt → (b : Result (Reply × Pages) Refusal)
    → (answered size is.store.base.found query snapshot pages >>= (λ (answer : Answer). only (Ok (Rows answer, pages)))) b → IsRunOver size (Select query) snapshot pages (plain all) b
select-law size pages all is query snapshot passes (Ok y) (answer, told, e) = subst (λ (r : Result (Reply × Pages) Refusal). IsRunOver size (Select query) snapshot pages (plain all) r) e (record {
  behind = plain all;
  means = does-passed (Select query) snapshot (plain all) passes ∙ selected-ok query snapshot (plain all) answer (answer-law size pages all is query snapshot passes (Ok answer) told);
  stored = record { all = all; store = is; same = refl };
  work = None;
  is_work = refl;
  edits = refl;
})
select-law size pages all is query snapshot passes (Err why) (inl refused) = inl (does-passed (Select query) snapshot (plain all) passes ∙ selected-err query snapshot (plain all) why (answer-law size pages all is query snapshot passes (Err why) refused))
select-law size pages all is query snapshot passes (Err why) (inr (answer, told, e)) = differ _ why e

-- a statement that was checked
done-law : (size : ℕ) (pages : Pages) (all : PlainTables) (is : IsStoreOf size pages all) (statement : Statement) (snapshot : Option ℕ) → IsStatement statement → checked statement snapshot (plain all).schema ≡ Ok tt → (b : Result (Reply × Pages) Refusal) → done_on size is.store.base.found statement snapshot pages b → IsRunOver size statement snapshot pages (plain all) b
done-law size pages all is (CreateTable create) snapshot limits passes b h = create-law size pages all is create snapshot limits passes b h
done-law size pages all is (CreateIndex create) snapshot limits passes b h = index-law size pages all is create snapshot passes b h
done-law size pages all is (Insert insert) snapshot limits passes b h = insert-law size pages all is insert snapshot passes b h
done-law size pages all is (Update update) snapshot limits passes b h = update-law size pages all is update snapshot passes b h
done-law size pages all is (Delete delete) snapshot limits passes b h = delete-law size pages all is delete snapshot passes b h
done-law size pages all is (Select query) snapshot limits passes b h = select-law size pages all is query snapshot passes b h

pub ran-law : (size : ℕ) (pages : Pages) (all : PlainTables) (is : IsStoreOf size pages all) (statement : Statement) (snapshot : Option ℕ) → IsStatement statement → (b : Result (Reply × Pages) Refusal) → ran size statement snapshot pages b → IsRunOver size statement snapshot pages (plain all) b
ran-law size pages all is statement snapshot limits b h = go (checked statement snapshot (plain all).schema) refl
  where
    go : (r : Result (Unit {0}) Refusal) → checked statement snapshot (plain all).schema ≡ r → IsRunOver size statement snapshot pages (plain all) b
    go (Ok tt) passes = done-law size pages all is statement snapshot limits passes b (goes-on (opened size statement snapshot pages) (λ (c : Catalog). done_on size c statement snapshot pages) is.store.base.found (opened-ok size pages all is statement snapshot passes) b h)
    go (Err why) refuses = subst (λ (r : Result (Reply × Pages) Refusal). IsRunOver size statement snapshot pages (plain all) r)
        (sym (ends-there (opened size statement snapshot pages) (λ (c : Catalog). done_on size c statement snapshot pages) why (opened-err size pages all is statement snapshot why refuses) b h))
        (inl (does-refused statement snapshot (plain all) why refuses))

-- what is made of the pages is what is meant over their tables
pub runs-of : {F : Type 0} (size : ℕ) (statement : Statement) (snapshot : Option ℕ) (before after : Pages → Pages → Type 0) (result : Result Reply (Stop F)) → IsStatement statement → Makes (λ (reply : Reply). reply) before after (ran size statement snapshot) result → Runs size statement snapshot before after result
runs-of size statement snapshot before after result limits makes = record {
  over_tables = λ base now told.
      let made = makes base now told in (
        made.0,
        made.1,
        λ (tables : Tables) (stored : IsStored size made.0 tables). leaves-then (λ (reply : Reply). reply) (ran size statement snapshot made.0) (IsRunOver size statement snapshot made.0 tables) made.0 now
            (λ b h. subst (λ (t : Tables). IsRunOver size statement snapshot made.0 t b) (sym stored.same) (ran-law size made.0 stored.all stored.store statement snapshot limits b h)) result made.2,
      );
  over_pages = makes;
}
