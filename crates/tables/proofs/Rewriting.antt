-- Rows and what becomes of them, one row more at a time.
use Rattle.std.proofs.Common.{◌≡◌, ◌∙◌, ◌<◌, ◌≤◌, ◌+◌, ℕ, zero, suc, ◌⊎◌, inl, inr, Bool, true, false, List, [], ◌∷◌, ◌++◌, Result, Ok, Err, length, take, drop, drop-cons, get_or, set, length-set, cond, Option, refl, sym, ap, subst, arith, add-one, append-nil}
use Rattle.std.specs.Prelude.{nat_le}
use Rattle.std.specs.List.{AllByRecursion, swap}
use Rattle.std.proofs.lemmas.Bool.{le-leb}
use Rattle.std.proofs.lemmas.List.{drop-set-lt, get_or-set_same, take-set-le, take_more}
use Rattle.std.proofs.lemmas.List.Edits.{swap_is}
use Rattle.retro_base.specs.Gives.{◌>>=◌, Gives}
use Rattle.retro_base.specs.declared.limits.TheConstants.{ROW_BYTES}
use Rattle.retro_base.specs.declared.refusal.Refusal.{Refusal}
use Rattle.retro_base.specs.declared.refusal.Refusal.TheVariants.{RowTooLong}
use Rattle.values.specs.declared.value.Value.{Value}
use Rattle.values.specs.Row.{row_bytes}
use Rattle.sql_tree.specs.declared.schema.TableSchema.{TableSchema}
use Rattle.sql_tree.specs.declared.statement.Delete.{Delete as DeleteRecord}
use Rattle.sql_tree.specs.declared.statement.Update.{Update as UpdateRecord}
use Rattle.sql_select.specs.Rows.{holds_at}
use Rattle.tables.specs.declared.contents.Contents.{Contents}
use Rattle.tables.specs.declared.fates.Fates.{Fates}
use Rattle.tables.specs.Bound.{remaining_by, updated_by}
use Rattle.tables.specs.Fates.{becoming, contents_after, counts, rewritten}
use Rattle.tables.specs.Meaning.{assigned, check_lengths, remaining, remaining_row, reworked, updated, updated_row}
use Rattle.tables.specs.Reworked.{behind}
use Rattle.tables.specs.Rows.{rows_of}
use Rattle.tables.specs.Tables.{AllShort}
use Rattle.tables.specs.declared.contents.NumberedRow.{NumberedRow}
use Rattle.tables.specs.declared.fates.Fate.{Fate}
use Rattle.tables.specs.declared.fates.Fate.TheVariants.{Stays, Goes, Becomes}
use Rattle.tables.proofs.Reworking.{Made, joined_pair, reworked_more}

rewritten-append : (fs gs : List Fate) (rs ss : List NumberedRow) → length fs ≡ length rs → rewritten (fs ++ gs) (rs ++ ss) ≡ rewritten fs rs ++ rewritten gs ss
rewritten-append [] gs [] ss e = refl
rewritten-append [] gs (r ∷ rs) ss e = absurd (omega (arith, e))
rewritten-append (f ∷ fs) gs [] ss e = absurd (omega (arith, e))
rewritten-append (Stays ∷ fs) gs (r ∷ rs) ss e = ap (λ l. r ∷ l) (rewritten-append fs gs rs ss (omega (arith, e)))
rewritten-append (Goes ∷ fs) gs (r ∷ rs) ss e = rewritten-append fs gs rs ss (omega (arith, e))
rewritten-append (Becomes values ∷ fs) gs (r ∷ rs) ss e = ap (λ l. record { number = r.number; row = values } ∷ l) (rewritten-append fs gs rs ss (omega (arith, e)))

length-take_all : {X : Type 0} (i : ℕ) (xs : List X) → i ≤ length xs → length (take i xs) ≡ i
length-take_all zero xs le = refl
length-take_all (suc i) [] le = absurd (omega arith)
length-take_all (suc i) (x ∷ xs) le = let e : length (take i xs) ≡ i = length-take_all i xs (omega arith) in omega arith

-- what becomes of one row more
pub row_more : (fates : List Fate) (fate : Fate) (rows : List NumberedRow) (i : ℕ) (row : NumberedRow) → i < length rows → row ≡ get_or rows i row → length fates ≡ i
    → rewritten (fates ++ fate ∷ []) (take (i + 1) rows) ≡ rewritten fates (take i rows) ++ rewritten (fate ∷ []) (row ∷ [])
row_more fates fate rows i row lt is e =
    ap (rewritten (fates ++ fate ∷ [])) (take_more rows i row lt ∙ ap (λ r. take i rows ++ r ∷ []) (sym is))
    ∙ rewritten-append fates (fate ∷ []) (take i rows) (row ∷ []) (e ∙ sym (length-take_all i rows (omega arith)))

pub counts-one : (fate : Fate) → counts fate ≤ 1
counts-one Stays = omega arith
counts-one Goes = omega arith
counts-one (Becomes values) = omega arith

pub fates_more : (step : NumberedRow → Result Made Refusal) (rows : List NumberedRow) (i : ℕ) (row : NumberedRow) (fates : List Fate) (count : ℕ) (fate : Fate) → i < length rows → row ≡ get_or rows i row → length fates ≡ i
    → step row ≡ Ok (rewritten (fate ∷ []) (row ∷ []), counts fate) → behind (rewritten fates (take i rows), count) (reworked step (drop i rows)) ≡ reworked step rows
    → behind (rewritten (fates ++ fate ∷ []) (take (i + 1) rows), count + counts fate) (reworked step (drop (i + 1) rows)) ≡ reworked step rows
fates_more step rows i row fates count fate lt is e made so_far =
    let before : Made = (rewritten fates (take i rows), count) in
    let here : List NumberedRow = rewritten (fate ∷ []) (row ∷ []) in
    let after : Made = (rewritten (fates ++ fate ∷ []) (take (i + 1) rows), count + counts fate) in
    let same : ◌≡◌ {A = Made} (before.0 ++ (here ++ []), before.1 + (counts fate + 0)) after =
    joined_pair (before.0 ++ (here ++ [])) after.0 (before.1 + (counts fate + 0)) after.1 (ap (λ l. before.0 ++ l) (append-nil here) ∙ sym (row_more fates fate rows i row lt is e)) (omega arith) in
    reworked_more step rows i row before after lt is so_far (rw made (ap (λ m. Ok m) same))

-- only rows that become others can be too long
lengths_past : (b : Bool) (row : List Value) (rest : Result (Unit {0}) Refusal) → b ≡ true → cond b rest (Err (RowTooLong (row_bytes row))) ≡ rest
lengths_past true row rest e = refl
lengths_past false row rest e = cc

pub lengths-becoming : (fates : List Fate) (rows : List NumberedRow) → length fates ≡ length rows → AllShort (rows_of rows) → check_lengths (rows_of (rewritten fates rows)) ≡ check_lengths (becoming fates)
lengths-becoming [] [] e short = refl
lengths-becoming [] (row ∷ rows) e short = absurd (omega (arith, e))
lengths-becoming (fate ∷ fates) [] e short = absurd (omega (arith, e))
lengths-becoming (Stays ∷ fates) (row ∷ rows) e short =
    lengths_past (nat_le (row_bytes row.row) ROW_BYTES) row.row (check_lengths (rows_of (rewritten fates rows))) (le-leb (row_bytes row.row) ROW_BYTES short.0)
    ∙ lengths-becoming fates rows (omega (arith, e)) short.1
lengths-becoming (Goes ∷ fates) (row ∷ rows) e short = lengths-becoming fates rows (omega (arith, e)) short.1
lengths-becoming (Becomes values ∷ fates) (row ∷ rows) e short =
    ap (λ r. cond (nat_le (row_bytes values) ROW_BYTES) r (Err (RowTooLong (row_bytes values)))) (lengths-becoming fates rows (omega (arith, e)) short.1)

pub becoming-all : (P : List Value → Type 0) (fates : List Fate) (rows : List NumberedRow) → length fates ≡ length rows → AllByRecursion P (rows_of (rewritten fates rows)) → AllByRecursion P (becoming fates)
becoming-all P [] rows e all = tt
becoming-all P (fate ∷ fates) [] e all = absurd (omega (arith, e))
becoming-all P (Stays ∷ fates) (row ∷ rows) e all = becoming-all P fates rows (omega (arith, e)) all.1
becoming-all P (Goes ∷ fates) (row ∷ rows) e all = becoming-all P fates rows (omega (arith, e)) all
becoming-all P (Becomes values ∷ fates) (row ∷ rows) e all = (all.0, becoming-all P fates rows (omega (arith, e)) all.1)

-- two places of a list in each other's place
module _ {X : Type 0} where
  front_set : (xs : List X) (k p : ℕ) (v w : X) → k ≤ p → p < length xs → (k ≡ p → w ≡ v) → take (suc k) (set (set xs k v) p w) ≡ take k xs ++ v ∷ []
  front_set [] k p v w le lt same = absurd (omega arith)
  front_set (x ∷ xs) zero zero v w le lt same = ap (λ y. y ∷ []) (same refl)
  front_set (x ∷ xs) zero (suc p) v w le lt same = refl
  front_set (x ∷ xs) (suc k) zero v w le lt same = absurd (omega arith)
  front_set (x ∷ xs) (suc k) (suc p) v w le lt same = ap (λ l. x ∷ l) (front_set xs k p v w (omega arith) (omega arith) (λ e. same (ap (λ n. suc n) e)))

  back_set : (xs : List X) (k p : ℕ) (v w : X) → k ≤ p → drop (suc p) (set (set xs k v) p w) ≡ drop (suc p) xs
  back_set [] k p v w le = refl
  back_set (x ∷ xs) zero zero v w le = refl
  back_set (x ∷ xs) zero (suc p) v w le = back_one xs p w
    where
      back_one : (xs : List X) (p : ℕ) (w : X) → drop (suc p) (set xs p w) ≡ drop (suc p) xs
      back_one [] p w = refl
      back_one (x ∷ xs) zero w = refl
      back_one (x ∷ xs) (suc p) w = back_one xs p w
  back_set (x ∷ xs) (suc k) zero v w le = absurd (omega arith)
  back_set (x ∷ xs) (suc k) (suc p) v w le = back_set xs k p v w (omega arith)

  pub front_swap : (xs : List X) (k p : ℕ) (x : X) → k ≤ p → p < length xs → x ≡ get_or xs p x → take (k + 1) (swap xs k p) ≡ take k xs ++ x ∷ []
  front_swap xs k p x le lt is =
      let low : k < length xs = omega arith in
      rw add-one (ap (take (suc k)) (sym (swap_is xs k p x low lt)) ∙ front_set xs k p (get_or xs p x) (get_or xs k x) le lt (λ e. ap (λ n. get_or xs n x) e) ∙ ap (λ y. take k xs ++ y ∷ []) (sym is))

  pub back_swap : (xs : List X) (k p : ℕ) (x : X) → k ≤ p → p < length xs → drop (p + 1) (swap xs k p) ≡ drop (p + 1) xs
  back_swap xs k p x le lt =
      let low : k < length xs = omega arith in
      rw add-one (ap (drop (suc p)) (sym (swap_is xs k p x low lt)) ∙ back_set xs k p (get_or xs p x) (get_or xs k x) le)

  -- one row
  item : (xs : List X) (p : ℕ) → p < length xs → (x : X) × (drop p xs ≡ x ∷ drop (suc p) xs) × (x ≡ get_or xs p x)
  item [] p lt = absurd (omega arith)
  item (x ∷ xs) zero lt = (x, refl, refl)
  item (x ∷ xs) (suc p) lt = let r = item xs p (omega arith) in (r.0, r.1, r.2)

  drop_next : (xs : List X) (p : ℕ) → drop 1 (drop p xs) ≡ drop (suc p) xs
  drop_next [] zero = refl
  drop_next [] (suc p) = refl
  drop_next (x ∷ xs) zero = refl
  drop_next (x ∷ xs) (suc p) = drop_next xs p

  pub back_next : (xs ys : List X) (p : ℕ) → drop p xs ≡ drop p ys → drop (p + 1) xs ≡ drop (p + 1) ys
  back_next xs ys p e = rw add-one (sym (drop_next xs p) ∙ ap (drop 1) e ∙ drop_next ys p)

module _ (rows : List NumberedRow) (k p : ℕ) (le : k ≤ p) (lt : p < length rows) where
  pub goes_front : take k rows ≡ take k rows ++ rewritten (Goes ∷ []) (take 1 (drop p rows))
  goes_front = let i = item rows p lt in sym (ap (λ l. take k rows ++ rewritten (Goes ∷ []) (take 1 l)) i.1 ∙ append-nil (take k rows))

  pub stays_front : take (k + 1) (swap rows k p) ≡ take k rows ++ rewritten (Stays ∷ []) (take 1 (drop p rows))
  stays_front = let i = item rows p lt in front_swap rows k p i.0 le lt i.2 ∙ sym (ap (λ l. take k rows ++ rewritten (Stays ∷ []) (take 1 l)) i.1)

  -- the row with other values
  module _ (x : NumberedRow) (is : x ≡ get_or rows p x) (values : List Value) where
    abbrev made : NumberedRow
    made = record { number = x.number; row = values }

    long : p < length (set rows p made)
    long = simp length-set lt

    pub becomes_front : take (k + 1) (swap (set rows p made) k p) ≡ take k rows ++ rewritten (Becomes values ∷ []) (take 1 (drop p rows))
    becomes_front =
        let at : drop p rows ≡ x ∷ drop (suc p) rows = drop-cons rows p x lt ∙ ap (λ (y : NumberedRow). y ∷ drop (suc p) rows) (sym is) in
        front_swap (set rows p made) k p made le long (sym (get_or-set_same rows p made made lt))
        ∙ ap (λ l. l ++ made ∷ []) (take-set-le k rows p made le)
        ∙ sym (ap (λ l. take k rows ++ rewritten (Becomes values ∷ []) (take 1 l)) at)

    pub becomes_back : drop (p + 1) (swap (set rows p made) k p) ≡ drop (p + 1) rows
    becomes_back = back_swap (set rows p made) k p made le long ∙ drop-set-lt (p + 1) rows p made (omega arith)

-- the rows so far, with one more
pub front_more : (old rows after : List NumberedRow) (kept place now : ℕ) (fates : List Fate) (fate : Fate) → place < length old → length fates ≡ place → take kept rows ≡ rewritten fates (take place old) → drop place rows ≡ drop place old
    → take now after ≡ take kept rows ++ rewritten (fate ∷ []) (take 1 (drop place rows)) → take now after ≡ rewritten (fates ++ fate ∷ []) (take (place + 1) old)
front_more old rows after kept place now fates fate lt e front back next =
    let i = item old place lt in
    next ∙ ap (λ l. l ++ rewritten (fate ∷ []) (take 1 (drop place rows))) front ∙ ap (λ l. rewritten fates (take place old) ++ rewritten (fate ∷ []) (take 1 l)) (back ∙ i.1)
    ∙ sym (row_more fates fate old place i.0 lt i.2 e)

-- what becomes of rows, by a statement's own words
module _ (table : TableSchema) (n : Option ℕ) where
  pub updates_made : (update : UpdateRecord) (k : List Value → Result Bool Refusal) (a : List Value → Result (List Value) Refusal) (rows : List NumberedRow) (result : Result Fates Refusal) → k ≡ holds_at (table ∷ []) n update.condition → a ≡ (λ row. assigned table n row update.assignments row)
      → Gives (λ (fates : Fates). (rewritten fates.each rows, fates.count)) result (reworked (updated_by k a) rows) → Gives (λ (fates : Fates). (rewritten fates.each rows, fates.count)) result (reworked (updated_row table n update) rows)
  updates_made update k a rows result ke ae h =
      let same : updated_by k a ≡ updated_row table n update = λ i row. updated_by (ke i) (ae i) row in
      subst (λ (step : NumberedRow → Result Made Refusal). Gives (λ (fates : Fates). (rewritten fates.each rows, fates.count)) result (reworked step rows)) same h

  module _ (contents : Contents) where
    after_delete : (delete : DeleteRecord) (result : Result Fates Refusal) → Gives (λ (fates : Fates). (rewritten fates.each contents.rows, fates.count)) result (reworked (remaining_row table n delete) contents.rows)
        → Gives (λ (fates : Fates). (contents_after fates.each contents, fates.count)) result (remaining n delete table contents)
    after_delete delete (Ok fates) h = ap (λ r. r >>= (λ (after : Made). Ok (record contents { rows = after.0 }, after.1))) h
    after_delete delete (Err why) (inl memory) = inl memory
    after_delete delete (Err why) (inr refused) = inr (ap (λ r. r >>= (λ (after : Made). Ok (record contents { rows = after.0 }, after.1))) refused)

    pub remaining_made : (delete : DeleteRecord) (k : List Value → Result Bool Refusal) (rows : List NumberedRow) (result : Result Fates Refusal) → k ≡ holds_at (table ∷ []) n delete.condition → rows ≡ contents.rows
        → Gives (λ (fates : Fates). (rewritten fates.each rows, fates.count)) result (reworked (remaining_by k) rows) → Gives (λ (fates : Fates). (contents_after fates.each contents, fates.count)) result (remaining n delete table contents)
    remaining_made delete k rows result ke is h =
        let same : remaining_by k ≡ remaining_row table n delete = λ i row. remaining_by (ke i) row in
        let own = subst (λ (step : NumberedRow → Result Made Refusal). Gives (λ (fates : Fates). (rewritten fates.each rows, fates.count)) result (reworked step rows)) same h in
        after_delete delete result (subst (λ (rs : List NumberedRow). Gives (λ (fates : Fates). (rewritten fates.each rs, fates.count)) result (reworked (remaining_row table n delete) rs)) is own)

    module _ (update : UpdateRecord) (fates : List Fate) (count : ℕ) (e : length fates ≡ length contents.rows) (short : AllShort (rows_of contents.rows)) (made : reworked (updated_row table n update) contents.rows ≡ Ok (rewritten fates contents.rows, count)) where
      checked : (outcome : Result (Unit {0}) Refusal) → check_lengths (becoming fates) ≡ outcome → updated n update table contents ≡ (outcome >>= (λ (u : Unit {0}). Ok (contents_after fates contents, count)))
      checked outcome is =
          ap (λ r. r >>= (λ (after : Made). check_lengths (rows_of after.0) >>= (λ (u : Unit {0}). Ok (record contents { rows = after.0 }, after.1)))) made
          ∙ ap (λ r. r >>= (λ (u : Unit {0}). Ok (contents_after fates contents, count))) (lengths-becoming fates contents.rows e short ∙ is)

      pub updated_made : (u : Unit {0}) → check_lengths (becoming fates) ≡ Ok u → updated n update table contents ≡ Ok (contents_after fates contents, count)
      updated_made u is = checked (Ok u) is

      pub updated_refused : (why : Refusal) → check_lengths (becoming fates) ≡ Err why → updated n update table contents ≡ Err why
      updated_refused why is = checked (Err why) is
