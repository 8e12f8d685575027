-- A single item is run, and its reply is told.
use Rattle.std.proofs.Common.{◌≡◌, ◌∙◌, ◌⊎◌, ◌&&◌, ℕ, Bool, true, false, List, [], ◌∷◌, Option, Some, None, Result, Ok, Err, inl, inr, refl, ap, sym, subst}
use Rattle.std.specs.Prelude.{IfOk}
use Rattle.retro_base.specs.declared.refusal.Refusal.{Refusal}
use Rattle.retro_base.specs.declared.refusal.Refusal.TheVariants as refusal
use Rattle.retro_base.specs.declared.who.Who.{Who}
use Rattle.history.specs.declared.journal.FailedCall.TheVariants.{Read}
use Rattle.history.specs.declared.journal.Line.{Line}
use Rattle.history.specs.declared.journal.What.{What}
use Rattle.history.specs.declared.journal.What.TheVariants.{Fault, Refused, Unlooked}
use Rattle.journal_law.specs.Language.{Kind}
use Rattle.journal_law.specs.Lawful.{EndsLook, Ground, IsRun}
use Rattle.journal_law.specs.LinesFit.{Answers, At, All, LookAt, kind_at, opened_by}
use Rattle.journal_law.specs.Seats.{Adds, Idle, UnlookGives, View, Waits}
use Rattle.session.specs.Ending.{Concludes, LookEnds, ending_of, told_of}
use Rattle.session.specs.OneItem.{IsTold, ItemRan, MayRun}
use Rattle.session.specs.Plan.{Item, Plan, item_of}
use Rattle.session.specs.Replies.{is_cut, is_overlap}
use Rattle.session.specs.Singles.{Settles}
use Rattle.session.specs.Sql.{kind_of, sql}
use Rattle.session.specs.Wording.{refusal_text}
use Rattle.session.proofs.Going.{HasGone}
use Rattle.session.proofs.Looks.{HasEnded, IsFresh, IsOpen, answered, cut_short, failed, looks_on, snapshot_at, unanswered}

-- what holds of each value holds of the value that there is
pub on_ok : {T E : Type 0} (r : Result T E) (P Q : T → Type 0) → ((t : T) → P t → Q t) → IfOk r P → IfOk r Q
on_ok (Ok t) P Q follows h = follows t h
on_ok (Err e) P Q follows h = tt

pub fresh_of : (size : ℕ) (plan : Plan) (who : Who) (item : Item) (view : View) → MayRun size plan who item view → IsFresh (sql size) (item_of plan) who item view
fresh_of size plan who item view may = record { mine = may.mine; is = may.is; fits = may.fits; none = may.fresh }

-- an item whose lines are these has run
pub item_ran : (size : ℕ) (plan : Plan) (who : Who) (item : Item) (old new : View) (whats : List What) → HasGone (sql size) (item_of plan) who old new whats → new.work ≡ Idle
    → IsRun (kind_of item.task) whats → ItemRan size plan who item old new
item_ran size plan who item old new whats gone idle run = record {
  session = gone.session;
  opened = gone.opened;
  more = gone.more;
  front = gone.front;
  of_item = gone.of_item;
  idle = idle;
  fits = gone.fits;
  is_run = subst (IsRun (kind_of item.task)) (sym gone.says) run;
}

-- ---- an item that has ended with its reply

pub record IsFinished (size : ℕ) (plan : Plan) (who : Who) (item : Item) (old new : View) (text : List ℕ) : Type 0 where
  pub whats : List What
  pub run : IsRun (kind_of item.task) whats
  pub uncut : is_cut (kind_of item.task) whats ≡ false
  pub ended : HasEnded (sql size) (item_of plan) who item old new whats text

finished_ran : (size : ℕ) (plan : Plan) (who : Who) (item : Item) (old new : View) (text : List ℕ) → IsFinished size plan who item old new text → ItemRan size plan who item old new
finished_ran size plan who item old new text is = item_ran size plan who item old new is.whats is.ended.gone is.ended.idle is.run

finished_told : (size : ℕ) (plan : Plan) (who : Who) (item : Item) (old new : View) (text : List ℕ) → IsFinished size plan who item old new text → IsTold size plan who item new (Some text)
finished_told size plan who item old new text is = (ap (is_cut (kind_of item.task)) is.ended.gone.says ∙ is.uncut, is.ended.reply)

-- it settles the item, where its text is told
pub finished_settles : {E : Type 0} (who : Who) (item : Item) (old new : View) (text : List ℕ) (words : Result (Option (List ℕ)) E)
    → ((size : ℕ) (plan : Plan) → MayRun size plan who item old → IsFinished size plan who item old new text) → IfOk words (λ w. w ≡ Some text) → Settles who item old new words
finished_settles who item old new text words finished tells = record {
  runs = λ size plan may. finished_ran size plan who item old new text (finished size plan may);
  tells = on_ok words (λ w. w ≡ Some text) _ (λ w is size plan may. subst (IsTold size plan who item new) (sym is) (finished_told size plan who item old new text (finished size plan may))) tells;
}

-- ---- an item that was cut short before its first line

pub cut_settles : {E : Type 0} (who : Who) (item : Item) (old new : View) (words : Result (Option (List ℕ)) E) → IsRun (kind_of item.task) [] → is_cut (kind_of item.task) [] ≡ true
    → Waits old new old.work → IfOk words (λ w. w ≡ None) → Settles who item old new words
cut_settles who item old new words run cut waited tells = record {
  runs = λ size plan may. item_ran size plan who item old new [] (gone size plan may) (waited.work_is ∙ may.idle) run;
  tells = on_ok words (λ w. w ≡ None) _ (λ w is size plan may. subst (IsTold size plan who item new) (sym is) (ap (is_cut (kind_of item.task)) (gone size plan may).says ∙ cut)) tells;
}
  where
    gone : (size : ℕ) (plan : Plan) → MayRun size plan who item old → HasGone (sql size) (item_of plan) who old new []
    gone size plan may = cut_short (sql size) (item_of plan) who item old new (fresh_of size plan who item old may)
        (record { moves = waited.moves; work_is = waited.work_is ∙ may.idle; told_is = waited.told_is })

-- ---- a look that has begun

look_run : (look : LookAt) (kind : Kind) (what : What) → kind ≡ kind_at look → EndsLook (what ∷ []) → IsRun kind (opened_by look ∷ what ∷ [])
look_run (At n) kind what e ends = subst (λ (k : Kind). IsRun k (opened_by (At n) ∷ what ∷ [])) (sym e) ends
look_run All kind what e ends = subst (λ (k : Kind). IsRun k (opened_by All ∷ what ∷ [])) (sym e) ends

and_false : (a b : Bool) → a ≡ false → (a && b) ≡ false
and_false true b e = cc
and_false false b e = refl

look_uncut : (look : LookAt) (kind : Kind) (what : What) → kind ≡ kind_at look → is_overlap (Some what) ≡ false → is_cut kind (opened_by look ∷ what ∷ []) ≡ false
look_uncut (At n) kind what e none = ap (λ (k : Kind). is_cut k (opened_by (At n) ∷ what ∷ [])) e ∙ and_false (is_overlap (Some what)) _ none
look_uncut All kind what e none = ap (λ (k : Kind). is_cut k (opened_by All ∷ what ∷ [])) e ∙ and_false (is_overlap (Some what)) _ none

-- its end, refused in place of an answer
look_refused : (size : ℕ) (plan : Plan) (who : Who) (item : Item) (look : LookAt) (since : List Line) (Answered : Result (List ℕ) Refusal → Type 0) (old between new : View) (why : Refusal)
    → IsFresh (sql size) (item_of plan) who item old → kind_of item.task ≡ kind_at look → IsOpen (sql size) (item_of plan) who look since old between
    → ((r : Result (List ℕ) Refusal) → Answered r → Answers (sql size) between.opened item since r) → (why ≡ refusal.OutOfMemory) ⊎ Answered (Err why)
    → Adds between new who (Refused why) Idle → IsFinished size plan who item old new (refusal_text item.names why)
look_refused size plan who item look since Answered old between new why fresh e is_now answers is added = record {
  whats = opened_by look ∷ Refused why ∷ [];
  run = look_run look (kind_of item.task) (Refused why) e tt;
  uncut = look_uncut look (kind_of item.task) (Refused why) e refl;
  ended = unanswered (sql size) (item_of plan) who item look since why old between new fresh e is_now (pass is) added;
}
  where
    pass : (why ≡ refusal.OutOfMemory) ⊎ Answered (Err why) → (why ≡ refusal.OutOfMemory) ⊎ Answers (sql size) between.opened item since (Err why)
    pass (inl memory) = inl memory
    pass (inr is) = inr (answers (Err why) is)

-- the end of a look that is open, by the text of its end
look_finished : (size : ℕ) (plan : Plan) (who : Who) (item : Item) (look : LookAt) (since : List Line) (Answered : Result (List ℕ) Refusal → Type 0) (old between new : View) (text : Result (List ℕ) Refusal)
    → IsFresh (sql size) (item_of plan) who item old → kind_of item.task ≡ kind_at look → IsOpen (sql size) (item_of plan) who look since old between
    → ((r : Result (List ℕ) Refusal) → Answered r → Answers (sql size) between.opened item since r) → Concludes Answered between text
    → UnlookGives (ending_of text) between new (record { who = who; since = since; snapshot = snapshot_at look }) → IsFinished size plan who item old new (told_of item.names text)
look_finished size plan who item look since Answered old between new (Ok words) fresh e is_now answers concludes gives = record {
  whats = opened_by look ∷ Unlooked ∷ [];
  run = look_run look (kind_of item.task) Unlooked e tt;
  uncut = look_uncut look (kind_of item.task) Unlooked e refl;
  ended = answered (sql size) (item_of plan) who item look since words old between new fresh e is_now (answers (Ok words) concludes) gives;
}
look_finished size plan who item look since Answered old between new (Err (refusal.DiskFault device count)) fresh e is_now answers concludes gives = record {
  whats = opened_by look ∷ Fault device count Read ∷ [];
  run = look_run look (kind_of item.task) (Fault device count Read) e tt;
  uncut = look_uncut look (kind_of item.task) (Fault device count Read) e refl;
  ended = failed (sql size) (item_of plan) who item look since device count old between new fresh e is_now concludes.1 gives;
}
look_finished size plan who item look since Answered old between new (Err (refusal.Overlap session other)) fresh e is_now answers concludes gives = absurd concludes
look_finished size plan who item look since Answered old between new (Err why) fresh e is_now answers concludes gives =
    look_refused size plan who item look since Answered old between new why fresh e is_now answers concludes gives

-- A look that has begun, gone on and ended settles its item.
pub look_settles : {E : Type 0} (who : Who) (item : Item) (look : LookAt) (since : List Line) (Answered : Result (List ℕ) Refusal → Type 0) (old now new : View) (words : Result (Option (List ℕ)) E)
    → kind_of item.task ≡ kind_at look → ((size : ℕ) (plan : Plan) → MayRun size plan who item old → IsOpen (sql size) (item_of plan) who look since old now)
    → ((size : ℕ) (plan : Plan) → MayRun size plan who item old → (r : Result (List ℕ) Refusal) → Answered r → Answers (sql size) now.opened item since r)
    → LookEnds item.names Answered now new words → Settles who item old new words
look_settles who item look since Answered old now new words e opens answers ends =
    finished_settles who item old new (told_of item.names ends.text) words finished ends.tells
  where
    finished : (size : ℕ) (plan : Plan) → MayRun size plan who item old → IsFinished size plan who item old new (told_of item.names ends.text)
    finished size plan may =
        let is_now = opens size plan may in
        look_finished size plan who item look since Answered old ends.between new ends.text (fresh_of size plan who item old may) e
        (looks_on (sql size) (item_of plan) who look since old now ends.between may.mine is_now ends.moves ends.work)
        (λ r is. subst (λ (g : Ground). Answers (sql size) g item since r) (sym ends.moves.opened) (answers size plan may r is))
        ends.concludes
        (ends.ends (record { who = who; since = since; snapshot = snapshot_at look }) is_now.work)
