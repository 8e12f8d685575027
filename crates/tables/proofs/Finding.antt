-- The table of a name: its place, and what a change of its contents gives.
use Rattle.std.proofs.Common.{◌≡◌, ◌<◌, ◌≤◌, ◌==◌, ◌++◌, ◌∙◌, ℕ, zero, suc, Bool, List, [], ◌∷◌, length, Option, Some, None, Result, Ok, Err, get_or, refl, ap, subst, sym, arith}
use Rattle.std.specs.List.{AllZip, position}
use Rattle.std.proofs.lemmas.List.Quantifiers.{position-Some}
use Rattle.std.proofs.lemmas.List.{get_or_default}
use Rattle.std.proofs.lemmas.Option.{slice_get-get_or}
use Rattle.std.proofs.lemmas.Slice.Zip.{AllZip-long}
use Rattle.std.specs.Option.{ok_or}
use Rattle.std.specs.Prelude.{MatchResult, slice_get, slice_index_or, slice_set}
use Rattle.retro_base.specs.Gives.{◌>>=◌}
use Rattle.retro_base.specs.declared.refusal.Refusal.{Refusal}
use Rattle.retro_base.specs.declared.refusal.Refusal.TheVariants.{UnknownName}
use Rattle.sql_tree.specs.declared.schema.TableSchema.{TableSchema}
use Rattle.tables.specs.declared.contents.Contents.{Contents}
use Rattle.tables.specs.declared.fates.Fate.{Fate}
use Rattle.tables.specs.declared.reply.Reply.{Reply}
use Rattle.tables.specs.declared.reply.Reply.TheVariants.{Count}
use Rattle.tables.specs.Fates.{contents_after}
use Rattle.tables.specs.Meaning.{changed, known}
use Rattle.tables.specs.Tables.{Found, IsPlace, IsTable, IsTables, Tables, place_named, table_named, with_contents, with_table}

position_within : {X : Type 0} (p : X → Bool) (xs : List X) (i : ℕ) → position p xs ≡ Some i → i < length xs
position_within p [] i e = cc
position_within p (x ∷ xs) i e = (position-Some p (x ∷ xs) i x e).0

get_within : {X : Type 0} (xs : List X) (i : ℕ) (d : X) → i < length xs → slice_get xs i ≡ Some (slice_index_or xs i d)
get_within xs i d lt = slice_get-get_or xs i d lt

pub is_place : (name : List ℕ) (tables : Tables) (place : ℕ) → IsTables tables → place_named name tables ≡ Some place → IsPlace name tables place
is_place name tables place lawful e =
    let within : place < length tables.schema.tables = position_within _ tables.schema.tables place e in
    let long = AllZip-long IsTable tables.schema.tables tables.contents lawful in
    let inside : place < length tables.contents = omega (arith, long, within) in
    record {
      in_schema = within;
      in_contents = inside;
      found = λ s c. rw (e, get_within tables.schema.tables place s within, get_within tables.contents place c inside) refl;
    }

pub no_place : (name : List ℕ) (tables : Tables) → place_named name tables ≡ None → table_named name tables ≡ None
no_place name tables e = rw e refl

pub by_position : (name : List ℕ) (tables : Tables) (found : Option ℕ) (result : Result ℕ Refusal) → IsTables tables → found ≡ place_named name tables → result ≡ ok_or found UnknownName
    → MatchResult result (IsPlace name tables) (λ why. (why ≡ UnknownName) × (table_named name tables ≡ None))
by_position name tables None result lawful e is = rw is (refl, no_place name tables (sym e))
by_position name tables (Some place) result lawful e is = rw is (is_place name tables place lawful (sym e))

-- what a change of one table's contents gives, where the table is found
pub changed_ok : (name : List ℕ) (tables : Tables) (change : TableSchema → Contents → Result (Contents × ℕ) Refusal) (found : Found) (after : Contents) (count : ℕ) → table_named name tables ≡ Some found → change found.schema found.contents ≡ Ok (after, count)
    → (known (table_named name tables) >>= (λ (f : Found). changed f tables (change f.schema f.contents))) ≡ Ok (with_contents found.place after tables, Count count)
changed_ok name tables change found after count here gives = rw (here, gives) refl

pub changed_err : (name : List ℕ) (tables : Tables) (change : TableSchema → Contents → Result (Contents × ℕ) Refusal) (found : Found) (why : Refusal) → table_named name tables ≡ Some found → change found.schema found.contents ≡ Err why
    → (known (table_named name tables) >>= (λ (f : Found). changed f tables (change f.schema f.contents))) ≡ Err why
changed_err name tables change found why here gives = rw (here, gives) refl

-- tables with other contents of one table
zip_set : {A B : Type 0} (R : A → B → Type 0) (xs : List A) (ys : List B) (i : ℕ) (y : B) → AllZip R xs ys → ((d : A) → i < length xs → R (slice_index_or xs i d) y) → AllZip R xs (slice_set ys i y)
zip_set R [] [] i y all here = tt
zip_set R (x ∷ xs) (z ∷ ys) zero y all here = (here x (omega arith), all.1)
zip_set R (x ∷ xs) (z ∷ ys) (suc i) y all here = (all.0, zip_set R xs ys i y all.1 (λ d lt. here d (omega (arith, lt))))
zip_set R [] (z ∷ ys) i y all here = absurd all
zip_set R (x ∷ xs) [] i y all here = absurd all

pub put_sound : (tables : Tables) (place : ℕ) (contents : Contents) → IsTables tables → ((s : TableSchema) → IsTable (slice_index_or tables.schema.tables place s) contents) → IsTables (with_contents place contents tables)
put_sound tables place contents lawful here = zip_set IsTable tables.schema.tables tables.contents place contents lawful (λ s lt. here s)

-- tables with one more
zip_push : {A B : Type 0} (R : A → B → Type 0) (xs : List A) (ys : List B) (x : A) (y : B) → AllZip R xs ys → R x y → AllZip R (xs ++ x ∷ []) (ys ++ y ∷ [])
zip_push R [] [] x y all here = (here, tt)
zip_push R (a ∷ xs) (b ∷ ys) x y all here = (all.0, zip_push R xs ys x y all.1 here)
zip_push R [] (b ∷ ys) x y all here = absurd all
zip_push R (a ∷ xs) [] x y all here = absurd all

pub table_sound : (table : TableSchema) (tables : Tables) → IsTables tables → length table.columns ≤ 16 → IsTables (with_table table tables)
table_sound table tables lawful few =
    zip_push IsTable tables.schema.tables tables.contents table (record { next = 0; rows = [] }) lawful (record { few_columns = few; rising = omega arith; fitting = tt; short = tt })

-- the table at a place is a table
pub table_there : (tables : Tables) (place : ℕ) → IsTables tables → place < length tables.schema.tables → (s : TableSchema) (c : Contents) → IsTable (slice_index_or tables.schema.tables place s) (slice_index_or tables.contents place c)
table_there tables place lawful lt s c = zip_at IsTable tables.schema.tables tables.contents place s c lawful lt
  where
    zip_at : {A B : Type 0} (R : A → B → Type 0) (xs : List A) (ys : List B) (i : ℕ) (a : A) (b : B) → AllZip R xs ys → i < length xs → R (slice_index_or xs i a) (slice_index_or ys i b)
    zip_at R [] ys i a b all lt = absurd (omega (arith, lt))
    zip_at R (x ∷ xs) [] i a b all lt = absurd all
    zip_at R (x ∷ xs) (y ∷ ys) zero a b all lt = all.0
    zip_at R (x ∷ xs) (y ∷ ys) (suc i) a b all lt = zip_at R xs ys i a b all.1 (omega (arith, lt))

-- a table and its contents, as they were read at their place
pub record ReadsAt (tables : Tables) (place : ℕ) (table : TableSchema) (contents : Contents) : Type 0 where
  pub table_is : table ≡ slice_index_or tables.schema.tables place table
  pub contents_is : contents ≡ slice_index_or tables.contents place contents

at_any : {X : Type 0} (xs : List X) (i : ℕ) (x d : X) → i < length xs → x ≡ slice_index_or xs i x → slice_index_or xs i d ≡ x
at_any xs i x d lt e = get_or_default xs i d x lt ∙ sym e

pub reads_table : (tables : Tables) (place : ℕ) (table : TableSchema) (contents : Contents) → IsTables tables → place < length tables.schema.tables → ReadsAt tables place table contents → IsTable table contents
reads_table tables place table contents lawful lt r =
    subst (λ (c : Contents). IsTable table c) (sym r.contents_is) (subst (λ (t : TableSchema). IsTable t (slice_index_or tables.contents place contents)) (sym r.table_is) (table_there tables place lawful lt table contents))

pub reads_found : (name : List ℕ) (tables : Tables) (place : ℕ) (table : TableSchema) (contents : Contents) → IsPlace name tables place → ReadsAt tables place table contents
    → table_named name tables ≡ Some (record { place = place; schema = table; contents = contents })
reads_found name tables place table contents is r =
    is.found table contents
    ∙ ap (λ (t : TableSchema). Some (the_found t (slice_index_or tables.contents place contents))) (sym r.table_is)
    ∙ ap (λ (c : Contents). Some (the_found table c)) (sym r.contents_is)
  where
    the_found : TableSchema → Contents → Found
    the_found t c = record { place = place; schema = t; contents = c }

pub there_any : (tables : Tables) (place : ℕ) (table : TableSchema) (contents after : Contents) → place < length tables.schema.tables → ReadsAt tables place table contents → IsTable table after
    → (s : TableSchema) → IsTable (slice_index_or tables.schema.tables place s) after
there_any tables place table contents after lt r is s = subst (λ (t : TableSchema). IsTable t after) (sym (at_any tables.schema.tables place table s lt r.table_is)) is

-- the contents at a place, whose rows are done to what becomes of each
module _ (tables : Tables) (place : ℕ) (table : TableSchema) (contents : Contents) (fates : List Fate) (lt : place < length tables.contents) (r : ReadsAt tables place table contents) where
  contents_any : (c : Contents) → contents ≡ slice_index_or tables.contents place c
  contents_any c = sym (at_any tables.contents place contents c lt r.contents_is)

  pub there_each : length fates ≡ length contents.rows → (c : Contents) → length fates ≡ length (slice_index_or tables.contents place c).rows
  there_each e c = e ∙ ap (λ (x : Contents). length x.rows) (contents_any c)

  pub there_after : place < length tables.schema.tables → IsTable table (contents_after fates contents) → (s : TableSchema) (c : Contents) → IsTable (slice_index_or tables.schema.tables place s) (contents_after fates (slice_index_or tables.contents place c))
  there_after inside is s c =
      subst (λ (x : Contents). IsTable (slice_index_or tables.schema.tables place s) (contents_after fates x)) (contents_any c) (there_any tables place table contents (contents_after fates contents) inside r is s)

  pub changed_there : (name : List ℕ) (now : Tables) (change : TableSchema → Contents → Result (Contents × ℕ) Refusal) (count : ℕ) → IsPlace name tables place → change table contents ≡ Ok (contents_after fates contents, count)
      → ((c : Contents) → now ≡ with_contents place (contents_after fates (slice_index_or tables.contents place c)) tables) → (known (table_named name tables) >>= (λ (f : Found). changed f tables (change f.schema f.contents))) ≡ Ok (now, Count count)
  changed_there name now change count is made gives =
      changed_ok name tables change (record { place = place; schema = table; contents = contents }) (contents_after fates contents) count (reads_found name tables place table contents is r) made
      ∙ ap (λ (t : Tables). Ok (t, Count count)) (ap (λ (x : Contents). with_contents place (contents_after fates x) tables) (contents_any contents) ∙ sym (gives contents))
