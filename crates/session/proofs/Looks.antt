-- Looks and drops of an item, in any language: how they begin and end.
use Rattle.std.proofs.Common.{◌≡◌, ◌⊎◌, ◌++◌, ℕ, Bool, true, false, List, [], ◌∷◌, Option, Some, None, Ok, Err, refl, ap, sym, subst, ◌∙◌, append-nil}
use Rattle.retro_base.specs.declared.device.Device.{Device}
use Rattle.retro_base.specs.declared.refusal.Refusal.{Refusal}
use Rattle.retro_base.specs.declared.refusal.Refusal.TheVariants.{OutOfMemory}
use Rattle.retro_base.specs.declared.refusal.Refusal.TheVariants as refusal
use Rattle.retro_base.specs.declared.who.Who.{Who}
use Rattle.history.specs.declared.entry.Mark.{Mark as MarkOf}
use Rattle.history.specs.declared.journal.FailedCall.{FailedCall}
use Rattle.history.specs.declared.journal.FailedCall.TheVariants.{Read}
use Rattle.history.specs.declared.journal.Line.{Line}
use Rattle.history.specs.declared.journal.What.{What}
use Rattle.history.specs.declared.journal.What.TheVariants.{Dropped, Fault, Looked, LookedAll, Refused, Unlooked}
use Rattle.history.specs.Lines.{begins}
use Rattle.journal_law.specs.Fates.{IsReply, answer_text}
use Rattle.journal_law.specs.Facts.{AreOthers, Fits}
use Rattle.journal_law.specs.Language.{AsOf, DropBelow, Language, OverAll}
use Rattle.journal_law.specs.Lawful.{Ground, at_drop}
use Rattle.journal_law.specs.LinesFit.{Answers, At, All, IsAbove, LeavesDrop, LookAt, kind_at, opened_by}
use Rattle.journal_law.specs.Own.{SinceLine, is_looked, is_looking, last_behind, line, own}
use Rattle.journal_law.specs.Seating.{IsOwn, Sane}
use Rattle.journal_law.specs.Seats.{Adds, DropGives, DropRefusedThere, Idle, LookAllGives, LookGives, Looking, Moves, View, Waits, lines_before, place}
use Rattle.journal_law.specs.World.{as_of}
use Rattle.journal_law.proofs.Lasts.{since_stays}
use Rattle.journal_law.proofs.LineFacts.{lines_fit}
use Rattle.journal_law.proofs.Replies.{replies_told}
use Rattle.journal_law.proofs.Seating as seating
use Rattle.journal_law.proofs.Journal.{own_others}
use Rattle.session.proofs.Going.{HasGone, adds, adds_fit, own_behind, starts, waits}

abbrev pub snapshot_at : LookAt → Option ℕ
snapshot_at (At n) = Some n
snapshot_at All = None

begins_look : (look : LookAt) → begins (opened_by look) ≡ true
begins_look (At n) = refl
begins_look All = refl

-- no line of an item opens no look
not_looking : (who : Who) (lines : List Line) → own who lines ≡ [] → is_looking who lines ≡ false
not_looking who lines none = ap (λ (whats : List What). is_looked (last_behind None whats)) none

module _ (L : Language) (items : Who → Option L.Item) where
  -- an item that may run: its seat's lines fit, and none of them is its own
  pub record IsFresh (who : Who) (item : L.Item) (view : View) : Type 0 where
    pub mine : who.session ≡ view.session
    pub is : items who ≡ Some item
    pub fits : Sane L items view
    pub none : own who view.front ≡ []

  -- a look that is open, with the lines before its own
  pub record IsOpen (who : Who) (look : LookAt) (since : List Line) (old new : View) : Type 0 where
    pub gone : HasGone L items who old new (opened_by look ∷ [])
    pub rest : List Line
    pub at : SinceLine who (opened_by look) new.front since rest
    pub work : new.work ≡ Looking (record { who = who; since = since; snapshot = snapshot_at look })

  -- an item that has ended with these lines: this is its reply
  pub record HasEnded (who : Who) (item : L.Item) (old new : View) (whats : List What) (text : List ℕ) : Type 0 where
    pub gone : HasGone L items who old new whats
    pub idle : new.work ≡ Idle
    pub reply : IsReply L items new.opened.pages who item new.front text

  -- ---- it begins

  begun : (who : Who) (item : L.Item) (old : View) → IsFresh who item old → HasGone L items who old old []
  begun who item old fresh = starts L items who old fresh.fits fresh.none

  own_item : (who : Who) (item : L.Item) (old : View) → IsFresh who item old → IsOwn L items old who item
  own_item who item old fresh = record { mine = fresh.mine; is = fresh.is }

  pub looked : (who : Who) (item : L.Item) (n : ℕ) (old new : View) → IsFresh who item old → L.kind item ≡ AsOf n → (gives : LookGives who n old new (Ok tt)) → IsOpen who (At n) gives.0 old new
  looked who item n old new fresh e gives = record {
    gone = adds L items who old old new [] (Looked n) fresh.mine (begun who item old fresh) gives.1.moves
        (seating.look L items old new who item n (own_item who item old fresh) e gives fresh.fits).0;
    rest = [];
    at = record { whole = gives.2 ∙ sym (append-nil (gives.0 ++ line who (Looked n) ∷ [])); none = refl };
    work = gives.1.work_is;
  }

  pub looked_all : (who : Who) (item : L.Item) (marks : List MarkOf) (old new : View) → IsFresh who item old → L.kind item ≡ OverAll → (gives : LookAllGives who old new (Ok marks)) → IsOpen who All gives.0 old new
  looked_all who item marks old new fresh e gives = record {
    gone = adds L items who old old new [] LookedAll fresh.mine (begun who item old fresh) gives.1.moves
        (seating.look_all L items old new who item marks (own_item who item old fresh) e gives fresh.fits).0;
    rest = [];
    at = record { whole = gives.2 ∙ sym (append-nil (gives.0 ++ line who LookedAll ∷ [])); none = refl };
    work = gives.1.work_is;
  }

  -- it goes on
  pub looks_on : (who : Who) (look : LookAt) (since : List Line) (old now new : View) → who.session ≡ old.session → IsOpen who look since old now → Moves now new [] → new.work ≡ now.work
      → IsOpen who look since old new
  looks_on who look since old now new mine open_now moves same = record {
    gone = waits L items who old now new (opened_by look ∷ []) mine open_now.gone moves;
    rest = open_now.rest ++ moves.others;
    at = subst (λ (ls : List Line). SinceLine who (opened_by look) ls since (open_now.rest ++ moves.others)) (sym (moves.front ∙ append-nil (now.front ++ moves.others)))
        (since_stays who (opened_by look) now.front since open_now.rest moves.others open_now.at
        (own_others who moves.others (subst (λ (n : ℕ). AreOthers n moves.others) (sym (mine ∙ sym open_now.gone.session)) moves.apart)));
    work = same ∙ open_now.work;
  }

  -- ---- it ends

  -- where the look stands just before its last line
  pub at_end : (who : Who) (look : LookAt) (since : List Line) (what : What) (old now new : View) → who.session ≡ old.session → (open_now : IsOpen who look since old now) → (moves : Moves now new (line who what ∷ []))
      → SinceLine who (opened_by look) (lines_before now new moves) since (open_now.rest ++ moves.others)
  at_end who look since what old now new mine open_now moves = since_stays who (opened_by look) now.front since open_now.rest moves.others open_now.at
      (own_others who moves.others (subst (λ (n : ℕ). AreOthers n moves.others) (sym (mine ∙ sym open_now.gone.session)) moves.apart))

  -- the item ends with a line that fits, and with its reply
  ends : (who : Who) (item : L.Item) (what : What) (whats : List What) (text : List ℕ) (old now new : View) → IsFresh who item old → HasGone L items who old now whats → (added : Adds now new who what Idle)
      → Fits L items now.opened (lines_before now new added.moves) (line who what)
      → IsReply L items new.opened.pages who item (lines_before now new added.moves ++ line who what ∷ []) text → HasEnded who item old new (whats ++ what ∷ []) text
  ends who item what whats text old now new fresh gone added fits reply = record {
    gone = adds_fit L items who old now new whats what fresh.mine gone added.moves fits;
    idle = added.work_is;
    reply = subst (λ (ls : List Line). IsReply L items new.opened.pages who item ls text) (sym added.moves.front) reply;
  }

  -- with its answer
  pub answered : (who : Who) (item : L.Item) (look : LookAt) (since : List Line) (text : List ℕ) (old now new : View) → IsFresh who item old → L.kind item ≡ kind_at look → (open_now : IsOpen who look since old now)
      → Answers L now.opened item since (Ok text) → Adds now new who Unlooked Idle → HasEnded who item old new (opened_by look ∷ Unlooked ∷ []) text
  answered who item look since text old now new fresh e open_now answers added =
      let before = lines_before now new added.moves in
      let rest = open_now.rest ++ added.moves.others in
      let at = at_end who look since Unlooked old now new fresh.mine open_now added.moves in
      let there : Answers L new.opened item since (Ok text) = subst (λ (g : Ground). Answers L g item since (Ok text)) (sym added.moves.opened) answers in
      ends who item Unlooked (opened_by look ∷ []) text old now new fresh open_now.gone added
      ((lines_fit L).looks.unlooked items now.opened before who item fresh.is look e since rest at text answers)
      ((replies_told L).answered items new.opened.pages who item (opened_by look) (begins_look look) before since rest at text
      (λ w shows. sym (ap (answer_text L item) (there w shows))))

  -- with this refusal in place of one
  pub unanswered : (who : Who) (item : L.Item) (look : LookAt) (since : List Line) (why : Refusal) (old now new : View) → IsFresh who item old → L.kind item ≡ kind_at look → (open_now : IsOpen who look since old now)
      → (why ≡ OutOfMemory) ⊎ Answers L now.opened item since (Err why) → Adds now new who (Refused why) Idle → HasEnded who item old new (opened_by look ∷ Refused why ∷ []) ((L.words item).refused why)
  unanswered who item look since why old now new fresh e open_now answers added =
      let before = lines_before now new added.moves in
      let rest = open_now.rest ++ added.moves.others in
      let at = at_end who look since (Refused why) old now new fresh.mine open_now added.moves in
      ends who item (Refused why) (opened_by look ∷ []) ((L.words item).refused why) old now new fresh open_now.gone added
      ((lines_fit L).looks.unanswered items now.opened before who item fresh.is look e since rest at why answers)
      ((replies_told L).refused items new.opened.pages who item before why)

  -- by a fault
  pub failed : (who : Who) (item : L.Item) (look : LookAt) (since : List Line) (device : Device) (count : ℕ) (old now new : View) → IsFresh who item old → L.kind item ≡ kind_at look → (open_now : IsOpen who look since old now)
      → IsAbove now.opened device count → Adds now new who (Fault device count Read) Idle
      → HasEnded who item old new (opened_by look ∷ Fault device count Read ∷ []) ((L.words item).refused (refusal.DiskFault device count))
  failed who item look since device count old now new fresh e open_now above added =
      let before = lines_before now new added.moves in
      ends who item (Fault device count Read) (opened_by look ∷ []) ((L.words item).refused (refusal.DiskFault device count)) old now new fresh open_now.gone added
      ((lines_fit L).looks.failed items now.opened before who item fresh.is look e device count above)
      ((replies_told L).failed items new.opened.pages who item before device count Read)

  -- ---- without a look

  not_open : (who : Who) (item : L.Item) (old new : View) {own_lines : List Line} → IsFresh who item old → (moves : Moves old new own_lines) → is_looking who (lines_before old new moves) ≡ false
  not_open who item old new fresh moves = not_looking who (lines_before old new moves) (own_behind who old.session old.front moves.others fresh.mine moves.apart ∙ fresh.none)

  -- refused by its number
  pub refused_alone : (who : Who) (item : L.Item) (n : ℕ) (why : Refusal) (old new : View) → IsFresh who item old → L.kind item ≡ AsOf n → (added : Adds old new who (Refused why) Idle)
      → as_of n (place old new added.moves) ≡ Err why → HasEnded who item old new (Refused why ∷ []) ((L.words item).refused why)
  refused_alone who item n why old new fresh e added is =
      let before = lines_before old new added.moves in
      ends who item (Refused why) [] ((L.words item).refused why) old old new fresh (begun who item old fresh) added
      ((lines_fit L).looks.refused items old.opened before who item fresh.is n why e (not_open who item old new fresh added.moves) is)
      ((replies_told L).refused items new.opened.pages who item before why)

  -- a drop
  pub dropped : (who : Who) (item : L.Item) (below : ℕ) (old new : View) → IsFresh who item old → L.kind item ≡ DropBelow below → DropGives who below old new (Ok tt)
      → HasEnded who item old new (Dropped below ∷ []) ((L.words item).dropped below)
  dropped who item below old new fresh e gives =
      let before = lines_before old new gives.0.moves in
      ends who item (Dropped below) [] ((L.words item).dropped below) old old new fresh (begun who item old fresh) gives.0
      ((lines_fit L).drops.dropped items old.opened before who item fresh.is below e gives.1)
      ((replies_told L).dropped items new.opened.pages who item before below)

  pub drop_refused : (who : Who) (item : L.Item) (below : ℕ) (why : Refusal) (old new : View) → IsFresh who item old → L.kind item ≡ DropBelow below → (added : Adds old new who (Refused why) Idle)
      → DropRefusedThere old new added.moves below why → HasEnded who item old new (Refused why ∷ []) ((L.words item).refused why)
  drop_refused who item below why old new fresh e added is =
      let before = lines_before old new added.moves in
      ends who item (Refused why) [] ((L.words item).refused why) old old new fresh (begun who item old fresh) added
      ((lines_fit L).drops.refused items old.opened before who item fresh.is below e why is)
      ((replies_told L).refused items new.opened.pages who item before why)

  pub drop_failed : (who : Who) (item : L.Item) (below : ℕ) (device : Device) (count : ℕ) (call : FailedCall) (old new : View) → IsFresh who item old → L.kind item ≡ DropBelow below
      → IsAbove old.opened device count → (added : Adds old new who (Fault device count call) Idle) → LeavesDrop (at_drop old.opened.pages (place old new added.moves) (lines_before old new added.moves)) below call
      → HasEnded who item old new (Fault device count call ∷ []) ((L.words item).refused (refusal.DiskFault device count))
  drop_failed who item below device count call old new fresh e above added leaves =
      let before = lines_before old new added.moves in
      ends who item (Fault device count call) [] ((L.words item).refused (refusal.DiskFault device count)) old old new fresh (begun who item old fresh) added
      ((lines_fit L).drops.failed items old.opened before who item fresh.is below e device count call (not_open who item old new fresh added.moves) above leaves)
      ((replies_told L).failed items new.opened.pages who item before device count call)

  -- cut short: no line
  pub cut_short : (who : Who) (item : L.Item) (old new : View) → IsFresh who item old → Waits old new Idle → HasGone L items who old new []
  cut_short who item old new fresh waited = waits L items who old old new [] fresh.mine (begun who item old fresh) waited.moves
