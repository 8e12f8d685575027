-- Calls over many snapshots are run, their replies are told, and their result tables are left.
use Rattle.std.proofs.Common.{◌≡◌, ◌∙◌, ◌⊎◌, ℕ, List, [], Option, Some, None, Result, Ok, Err, inl, inr, refl, ap, sym, subst}
use Rattle.std.specs.Prelude.{IfOk, flat_map}
use Rattle.retro_base.specs.Gives.{◌>>=◌}
use Rattle.retro_base.specs.declared.refusal.Refusal.{Refusal}
use Rattle.retro_base.specs.declared.refusal.Refusal.TheVariants as refusal
use Rattle.retro_base.specs.declared.who.Who.{Who}
use Rattle.history.specs.declared.entry.Mark.{Mark as MarkOf}
use Rattle.rql_arguments.specs.declared.call.Call.{Call as CallSaid}
use Rattle.sql_select.specs.declared.answer.Answer.{Answer}
use Rattle.sql_tree.specs.declared.select.Select.{Select}
use Rattle.tables.specs.Meaning.{asked}
use Rattle.tables.specs.Tables.{Tables}
use Rattle.values.specs.declared.value.Value.{Value}
use Rattle.journal_law.specs.Lawful.{Ground}
use Rattle.journal_law.specs.LinesFit.{All, Answers}
use Rattle.journal_law.specs.Pages.{page_world}
use Rattle.journal_law.specs.Seats.{Look, LookAllGives, Looking, View, at_look, names_in, names_of}
use Rattle.journal_law.specs.Shows.{Shows}
use Rattle.journal_law.specs.World.{World, as_of}
use Rattle.journal_law.proofs.LineFacts.{lines_fit}
use Rattle.journal_law.proofs.Marks.{tables_of}
use Rattle.seat_pager.proofs.Looks.{same_look}
use Rattle.session.specs.Asking.{TellsPast}
use Rattle.session.specs.Calls.{CallEnds, CallLeaves, CallsOver, Combines, CombinesNone, LooksAtMarks, item_call, numbers_listed}
use Rattle.session.specs.Ending.{Concludes, IsReason, LookEnds}
use Rattle.session.specs.OneItem.{MayRun}
use Rattle.session.specs.OverSnapshots.{answer_at, asked_of, called, combined, numbers_of, snapshots_of, snapshots_table}
use Rattle.session.specs.Plan.{Plan, item_of}
use Rattle.session.specs.Singles.{Settles, of_query}
use Rattle.session.specs.Sql.{sql, answer_told}
use Rattle.session.specs.Wording.{count_text}
use Rattle.session.specs.declared.result_table.ResultTable.{ResultTable}
use Rattle.session.proofs.Conclusions.{concludes_by, reason_by, reason_of}
use Rattle.session.proofs.Lists.{same_rows}
use Rattle.session.proofs.Looks.{IsOpen, looked_all}
use Rattle.session.proofs.Settling.{cut_settles, fresh_of, look_settles}

-- ---- the result of a call over the tables that the pages hold

-- the snapshots of a call, whatever tables the pages hold
snapshots_listed : (size : ℕ) (call : CallSaid) (marks : List MarkOf) (view : View) (look : Look) (w : World Tables) → LooksAtMarks view marks → view.work ≡ Looking look → Shows (sql size) (at_look view look) w
    → snapshots_of call w ≡ numbers_listed call.snapshots marks
snapshots_listed size call marks view look w all at shows =
    ap (λ (rows : List (List Value)). asked_of call.snapshots snapshots_table rows >>= (λ (listed : Answer). Ok (flat_map numbers_of listed.rows)))
    (same_rows size marks (at_look view look) w (all look at).1 shows)

abbrev combines_at : CallSaid → World Tables → List ℕ → Result Answer Refusal
combines_at call w numbers = combined call.combination (answer_at call.query w) numbers

-- a call whose list of snapshots is refused
refused_list : (call : CallSaid) (w : World Tables) (marks : List MarkOf) (why : Refusal) → snapshots_of call w ≡ numbers_listed call.snapshots marks → numbers_listed call.snapshots marks ≡ Err why → called call w ≡ Err why
refused_list call w marks why same is = ap (λ (r : Result (List ℕ) Refusal). r >>= combines_at call w) (same ∙ is)

-- and one whose list has these numbers
listed : (call : CallSaid) (w : World Tables) (marks : List MarkOf) (numbers : List ℕ) → snapshots_of call w ≡ numbers_listed call.snapshots marks → numbers_listed call.snapshots marks ≡ Ok numbers
    → called call w ≡ combines_at call w numbers
listed call w marks numbers same is = ap (λ (r : Result (List ℕ) Refusal). r >>= combines_at call w) (same ∙ is)

-- a world of tables in which an honest look at all looks
pub record SeenBy (honest : Type 0) (view : View) : Type 0 where
  pub is_honest : honest
  pub look : Look
  pub tables : World Tables
  pub at : view.work ≡ Looking look
  pub shows : Shows (sql view.opened.base.page_count) (at_look view look) tables

-- these tables tell what a query answers at each snapshot
tells_by : (view : View) (look : Look) (w : World Tables) → view.work ≡ Looking look → Shows (sql view.opened.base.page_count) (at_look view look) w → TellsPast view (λ (n : ℕ). λ (query : Select). answer_at query w n)
tells_by view look w at shows other snapshot held is stands =
    let same : other ≡ look = same_look view.work look other at is in
    let here = tables_of (sql view.opened.base.page_count) snapshot (at_look view look) w held shows (ap (λ (l : Look). as_of snapshot (at_look view l)) (sym same) ∙ stands) in
    record {
      tables = here.0;
      stored = here.2;
      are = λ query. sym (ap (λ (r : Result Tables Refusal). r >>= asked query (Some snapshot)) here.1);
    }

-- what the query's answers are in one is the call's result
pub combined_called : (call : CallSaid) (honest : Type 0) (old new : View) (marks : List MarkOf) (numbers : List ℕ) (found : Result Answer Refusal) → LooksAtMarks old marks → numbers_listed call.snapshots marks ≡ Ok numbers
    → Concludes (Combines call.query call.combination numbers honest old) new found → Concludes (CallsOver call honest old) new found
combined_called call honest old new marks numbers found all is concludes =
    concludes_by (Combines call.query call.combination numbers honest old) (CallsOver call honest old) new found
    (λ r combines is_honest look w at shows.
    listed call w marks numbers (snapshots_listed old.opened.base.page_count call marks old look w all at shows) is
    ∙ combines is_honest (λ (n : ℕ). λ (query : Select). answer_at query w n) (tells_by old look w at shows))
    concludes

-- over no snapshots
pub none_called : (call : CallSaid) (honest : Type 0) (old : View) (marks : List MarkOf) (numbers : List ℕ) (found : Result Answer Refusal) → LooksAtMarks old marks → numbers_listed call.snapshots marks ≡ Ok numbers → numbers ≡ []
    → Concludes (CombinesNone call.query call.combination) old found → Concludes (CallsOver call honest old) old found
none_called call honest old marks numbers found all is none concludes =
    concludes_by (CombinesNone call.query call.combination) (CallsOver call honest old) old found
    (λ r combines is_honest look w at shows.
    listed call w marks numbers (snapshots_listed old.opened.base.page_count call marks old look w all at shows) is
    ∙ ap (combines_at call w) none
    ∙ combines (λ (n : ℕ). λ (query : Select). answer_at query w n))
    concludes

-- and where the list is refused
pub refused_called : (call : CallSaid) (honest : Type 0) (old : View) (marks : List MarkOf) (why : Refusal) → LooksAtMarks old marks → (why ≡ refusal.OutOfMemory) ⊎ (numbers_listed call.snapshots marks ≡ Err why)
    → Concludes (CallsOver call honest old) old (Err (of_query why))
refused_called call honest old marks why all is =
    reason_by (λ (r : Result Answer Refusal). (w : SeenBy honest old) → called call w.tables ≡ r) (CallsOver call honest old) old (of_query why)
    (λ called_so is_honest look w at shows. called_so (record { is_honest = is_honest; look = look; tables = w; at = at; shows = shows }))
    (reason_of {W = SeenBy honest old} (λ w. called call w.tables) old why (λ w. refuses w is))
  where
    refuses : (w : SeenBy honest old) → (why ≡ refusal.OutOfMemory) ⊎ (numbers_listed call.snapshots marks ≡ Err why) → (why ≡ refusal.OutOfMemory) ⊎ (called call w.tables ≡ Err why)
    refuses w (inl memory) = inl memory
    refuses w (inr is) = inr (refused_list call w.tables marks why (snapshots_listed old.opened.base.page_count call marks old w.look w.tables all w.at w.shows) is)

-- ---- a look that does not begin

pub call_refused_settles : {E : Type 0} (names : List (List ℕ)) (who : Who) (call : CallSaid) (why : Refusal) (old new : View) (words : Result (Option (List ℕ)) E) → LookAllGives who old new (Err why)
    → IfOk words (λ w. w ≡ None) → Settles who (item_call names call) old new words
call_refused_settles names who call (refusal.JournalFull lines images) old new words gives tells = cut_settles who (item_call names call) old new words tt refl gives.0 tells
call_refused_settles names who call why old new words gives tells = cut_settles who (item_call names call) old new words tt refl gives.0 tells

-- ---- a look that has begun

pub looks_at_marks : (who : Who) (marks : List MarkOf) (old new : View) → LookAllGives who old new (Ok marks) → LooksAtMarks new marks
looks_at_marks who marks old new gives look at =
    let one : Look = record { who = who; since = gives.0; snapshot = None } in
    let same : one ≡ look = since_same one look (sym gives.1.work_is ∙ at) in
    subst (λ (l : Look). (l.snapshot ≡ None) × (names_of marks ≡ names_in (at_look new l))) same
    (refl, gives.3 ∙ ap (λ (g : Ground). names_in (page_world g.pages gives.0)) (sym gives.1.moves.opened))
  where
    since_same : (one other : Look) → Looking one ≡ Looking other → one ≡ other
    since_same one other e = cc

-- the reply of a call that an honest look answers
abbrev pub RepliesOver : CallSaid → Type 0 → View → Result (List ℕ) Refusal → Type 0
RepliesOver call honest view answered =
    honest → (look : Look) (tables : World Tables) → view.work ≡ Looking look → Shows (sql view.opened.base.page_count) (at_look view look) tables → answer_told count_text (called call tables) ≡ answered

reply_concludes : (call : CallSaid) (honest : Type 0) (old between : View) (answer : Result Answer Refusal) (text : Result (List ℕ) Refusal) (table : Option ResultTable) → Concludes (CallsOver call honest old) between answer
    → CallEnds call.table answer text table → Concludes (RepliesOver call honest old) between text
reply_concludes call honest old between (Ok answer) (Ok text) table concludes gives = λ is_honest look w at shows. ap (answer_told count_text) (concludes is_honest look w at shows) ∙ ap (λ (t : List ℕ). Ok t) (sym gives.0)
reply_concludes call honest old between (Ok answer) (Err why) table concludes gives = subst (IsReason (RepliesOver call honest old) between) (sym gives.0) (inl refl)
reply_concludes call honest old between (Err why) (Ok text) table concludes gives = absurd gives
reply_concludes call honest old between (Err why) (Err other) table concludes gives =
    subst (IsReason (RepliesOver call honest old) between) (sym gives.0)
    (reason_by (CallsOver call honest old) (RepliesOver call honest old) between why (λ called_so is_honest look w at shows. ap (answer_told count_text) (called_so is_honest look w at shows)) concludes)

-- what is known of the look's end
pub look_of : {E : Type 0} (names : List (List ℕ)) (call : CallSaid) (honest : Type 0) (old new : View) (words : Result (Option (List ℕ)) E) (table : Option ResultTable) → CallLeaves names call honest old new words table
    → LookEnds names (RepliesOver call honest old) old new words
look_of names call honest old new words table leaves = record {
  between = leaves.between;
  moves = leaves.moves;
  work = leaves.work;
  text = leaves.text;
  concludes = reply_concludes call honest old leaves.between leaves.answer leaves.text table leaves.concludes leaves.gives;
  ends = leaves.ends;
  tells = leaves.tells;
}

pub called_settles : {E : Type 0} (names : List (List ℕ)) (who : Who) (call : CallSaid) (honest : Type 0) (marks : List MarkOf) (old now new : View) (words : Result (Option (List ℕ)) E) (table : Option ResultTable)
    → LookAllGives who old now (Ok marks) → honest → CallLeaves names call honest now new words table → Settles who (item_call names call) old new words
called_settles names who call honest marks old now new words table gives is_honest leaves =
    look_settles who (item_call names call) All gives.0 (RepliesOver call honest now) old now new words refl opens answers (look_of names call honest now new words table leaves)
  where
    opens : (size : ℕ) (plan : Plan) → MayRun size plan who (item_call names call) old → IsOpen (sql size) (item_of plan) who All gives.0 old now
    opens size plan may = looked_all (sql size) (item_of plan) who (item_call names call) marks old now (fresh_of size plan who (item_call names call) old may) refl gives

    answers : (size : ℕ) (plan : Plan) → MayRun size plan who (item_call names call) old → (r : Result (List ℕ) Refusal) → RepliesOver call honest now r → Answers (sql size) now.opened (item_call names call) gives.0 r
    answers size plan may r replies =
        let sized : now.opened.base.page_count ≡ size = ap (λ (g : Ground). g.base.page_count) gives.1.moves.opened ∙ may.sized in
        let one : Look = record { who = who; since = gives.0; snapshot = None } in
        (lines_fit (sql size)).looks.over_all (item_of plan) now.opened [] who (item_call names call) may.is gives.0 r refl
        (λ w shows. replies is_honest one w gives.1.work_is (subst (λ (s : ℕ). Shows (sql s) (at_look now one) w) (sym sized) shows))
