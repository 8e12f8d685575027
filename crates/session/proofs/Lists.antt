-- Queries of the table of snapshots are run, and their replies are told.
use Rattle.std.proofs.Common.{◌≡◌, ◌∙◌, ℕ, true, List, [], ◌∷◌, map, Option, None, Result, Ok, Err, inl, inr, refl, ap, sym, subst, pos}
use Rattle.std.specs.Prelude.{IfOk}
use Rattle.retro_base.specs.Gives.{Gives}
use Rattle.retro_base.specs.declared.refusal.Refusal.{Refusal}
use Rattle.retro_base.specs.declared.refusal.Refusal.TheVariants as refusal
use Rattle.retro_base.specs.declared.who.Who.{Who}
use Rattle.history.specs.declared.entry.Mark.{Mark as MarkOf}
use Rattle.sql_tree.specs.declared.select.Select.{Select}
use Rattle.tables.specs.Tables.{Tables}
use Rattle.values.specs.declared.value.Value.{Value}
use Rattle.values.specs.declared.value.Value.TheVariants as value
use Rattle.journal_law.specs.Lawful.{Ground}
use Rattle.journal_law.specs.LinesFit.{All, Answers}
use Rattle.journal_law.specs.Pages.{Pages as Bytes, page_world}
use Rattle.journal_law.specs.Seats.{Idle, LookAllGives, Name, View, is_looking, names_of, names_in}
use Rattle.journal_law.specs.Shows.{MarksShow, Shows}
use Rattle.journal_law.specs.World.{Mark, World}
use Rattle.journal_law.proofs.LineFacts.{lines_fit}
use Rattle.session.specs.Ending.{Concludes, IsReason, LookEnds}
use Rattle.session.specs.OneItem.{MayRun}
use Rattle.session.specs.OverSnapshots.{asked_of, snapshot_row, snapshots_asked, snapshots_table}
use Rattle.session.specs.Plan.{Plan, item_of}
use Rattle.session.specs.Singles.{AsksMarks, Settles, item_snap_ids, of_query, row_of_mark, without_seat}
use Rattle.session.specs.Sql.{sql, answer_told}
use Rattle.session.specs.Texts.{answer_text}
use Rattle.session.proofs.Looks.{IsOpen, looked_all}
use Rattle.session.proofs.Settling.{cut_settles, fresh_of, look_settles}

-- ---- rows

abbrev row_of_name : Name → List Value
row_of_name name = value.Int (pos name.number) ∷ value.Text name.label ∷ []

rows_of_marks : (marks : List MarkOf) → map row_of_mark marks ≡ map row_of_name (names_of marks)
rows_of_marks [] = refl
rows_of_marks (mark ∷ marks) = ap (λ (rows : List (List Value)). row_of_mark mark ∷ rows) (rows_of_marks marks)

-- the names of the snapshots of a list
abbrev names_by : List (Mark Bytes) → List Name
names_by marks = map (λ (mark : Mark Bytes). record { number = mark.number; label = mark.label }) marks

-- snapshots of tables have the names of those of the pages that hold them
rows_shown : (size : ℕ) (ps : List (Mark Bytes)) (ts : List (Mark Tables)) → MarksShow (sql size) ps ts → map snapshot_row ts ≡ map row_of_name (names_by ps)
rows_shown size [] [] shows = refl
rows_shown size [] (t ∷ ts) shows = absurd shows
rows_shown size (p ∷ ps) [] shows = absurd shows
rows_shown size (p ∷ ps) (t ∷ ts) shows = same_row p t shows.0 shows.1 (rows_shown size ps ts shows.3)
  where
    same_row : (p : Mark Bytes) (t : Mark Tables) → p.number ≡ t.number → p.label ≡ t.label → map snapshot_row ts ≡ map row_of_name (names_by ps)
        → snapshot_row t ∷ map snapshot_row ts ≡ row_of_name (record { number = p.number; label = p.label }) ∷ map row_of_name (names_by ps)
    same_row p t number label rest =
        ap (λ (n : ℕ). (value.Int (pos n) ∷ value.Text t.label ∷ []) ∷ map snapshot_row ts) (sym number)
        ∙ ap (λ (l : List ℕ). (value.Int (pos p.number) ∷ value.Text l ∷ []) ∷ map snapshot_row ts) (sym label)
        ∙ ap (λ (rows : List (List Value)). row_of_name (record { number = p.number; label = p.label }) ∷ rows) rest

pub same_rows : (size : ℕ) (marks : List MarkOf) (pages : World Bytes) (w : World Tables) → names_of marks ≡ names_in pages → Shows (sql size) pages w → map snapshot_row w.marks ≡ map row_of_mark marks
same_rows size marks pages w names shows = rows_shown size pages.marks w.marks shows.marks ∙ ap (map row_of_name) (sym names) ∙ sym (rows_of_marks marks)

same_answer : (size : ℕ) (query : Select) (marks : List MarkOf) (pages : World Bytes) (w : World Tables) → names_of marks ≡ names_in pages → Shows (sql size) pages w
    → answer_told answer_text (snapshots_asked query w) ≡ answer_told answer_text (asked_of query snapshots_table (map row_of_mark marks))
same_answer size query marks pages w names shows = ap (λ (rows : List (List Value)). answer_told answer_text (asked_of query snapshots_table rows)) (same_rows size marks pages w names shows)

-- ---- a look that does not begin

pub list_refused_settles : {E : Type 0} (names : List (List ℕ)) (who : Who) (query : Select) (why : Refusal) (old new : View) (words : Result (Option (List ℕ)) E) → LookAllGives who old new (Err why)
    → IfOk words (λ w. w ≡ None) → Settles who (item_snap_ids names query) old new words
list_refused_settles names who query (refusal.JournalFull lines images) old new words gives tells = cut_settles who (item_snap_ids names query) old new words tt refl gives.0 tells
list_refused_settles names who query why old new words gives tells = cut_settles who (item_snap_ids names query) old new words tt refl gives.0 tells

pub list_left : (who : Who) (old new : View) (why : Refusal) → old.work ≡ Idle → LookAllGives who old new (Err why) → (new.work ≡ Idle) × (new.session ≡ old.session)
list_left who old new (refusal.JournalFull lines images) idle gives = (gives.0.work_is ∙ idle, gives.0.moves.session)
list_left who old new why idle gives = (gives.0.work_is ∙ idle, gives.0.moves.session)

-- ---- a look that has begun

pub is_now_listing : (who : Who) (marks : List MarkOf) (old new : View) → LookAllGives who old new (Ok marks) → is_looking new.work ≡ true
is_now_listing who marks old new gives = ap is_looking gives.1.work_is

-- what is listed, without what only a seat tells
pub concludes_listed : (query : Select) (marks : List MarkOf) (view : View) (text : Result (List ℕ) Refusal)
    → Gives (λ (words : List ℕ). words) text (without_seat (answer_told answer_text (asked_of query snapshots_table (map row_of_mark marks)))) → Concludes (AsksMarks query marks) view text
concludes_listed query marks view text gives = by_answer (answer_told answer_text (asked_of query snapshots_table (map row_of_mark marks))) text gives
  where
    reason : (answered : Result (List ℕ) Refusal) (why : Refusal) → answered ≡ Err why → IsReason (λ r. answered ≡ r) view (of_query why)
    reason answered (refusal.DiskFault device count) is = inl refl
    reason answered (refusal.Overlap session item) is = inl refl
    reason answered why is = inr is

    by_answer : (answered : Result (List ℕ) Refusal) (text : Result (List ℕ) Refusal) → Gives (λ (words : List ℕ). words) text (without_seat answered) → Concludes (λ r. answered ≡ r) view text
    by_answer (Ok words) (Ok told_words) gives = gives
    by_answer (Ok words) (Err why) (inl memory) = subst (IsReason (λ r. Ok words ≡ r) view) (sym memory) (inl refl)
    by_answer (Ok words) (Err why) (inr clash) = cc
    by_answer (Err other) (Ok words) clash = cc
    by_answer (Err other) (Err why) (inl memory) = subst (IsReason (λ r. Err other ≡ r) view) (sym memory) (inl refl)
    by_answer (Err other) (Err why) (inr same) = subst (Concludes (λ r. Err other ≡ r) view) same (reason (Err other) other refl)

pub listed_settles : {E : Type 0} (names : List (List ℕ)) (who : Who) (query : Select) (marks : List MarkOf) (old now new : View) (words : Result (Option (List ℕ)) E)
    → LookAllGives who old now (Ok marks) → LookEnds names (AsksMarks query marks) now new words → Settles who (item_snap_ids names query) old new words
listed_settles names who query marks old now new words gives ends = look_settles who (item_snap_ids names query) All gives.0 (AsksMarks query marks) old now new words refl opens answers ends
  where
    opens : (size : ℕ) (plan : Plan) → MayRun size plan who (item_snap_ids names query) old → IsOpen (sql size) (item_of plan) who All gives.0 old now
    opens size plan may = looked_all (sql size) (item_of plan) who (item_snap_ids names query) marks old now (fresh_of size plan who (item_snap_ids names query) old may) refl gives

    answers : (size : ℕ) (plan : Plan) → MayRun size plan who (item_snap_ids names query) old → (r : Result (List ℕ) Refusal) → AsksMarks query marks r
        → Answers (sql size) now.opened (item_snap_ids names query) gives.0 r
    answers size plan may r asks =
        (lines_fit (sql size)).looks.over_all (item_of plan) now.opened [] who (item_snap_ids names query) may.is gives.0 r refl
        (λ w shows. same_answer size query marks (page_world now.opened.pages gives.0) w
        (gives.3 ∙ ap (λ (g : Ground). names_in (page_world g.pages gives.0)) (sym gives.1.moves.opened)) shows ∙ asks)

pub of_marks : {E : Type 0} (names : List (List ℕ)) (query : Select) (one other : List MarkOf) (old new : View) (words : Result (Option (List ℕ)) E) → one ≡ other → LookEnds names (AsksMarks query one) old new words
    → LookEnds names (AsksMarks query other) old new words
of_marks names query one other old new words same ends = subst (λ (marks : List MarkOf). LookEnds names (AsksMarks query marks) old new words) same ends
