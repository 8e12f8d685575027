-- Attempts at a transaction from their beginning, one after the other, and what they make of the item.
use Rattle.std.proofs.Common.{◌≡◌, ◌∙◌, ◌+◌, ◌≤◌, ◌++◌, ℕ, zero, suc, true, List, [], ◌∷◌, Option, Some, None, Result, Ok, Err, refl, ap, sym, subst, append-nil, arith}
use Rattle.std.specs.Prelude.{IfErr}
use Rattle.retro_base.specs.declared.refusal.Refusal.{Refusal}
use Rattle.retro_base.specs.declared.refusal.Refusal.TheVariants as refusal
use Rattle.retro_base.specs.declared.who.Who.{Who}
use Rattle.script.specs.declared.structure.Transaction.{Transaction as TransactionRecord}
use Rattle.pager.specs.Pages.{Leads, Pages}
use Rattle.history.specs.declared.writes.PageImage.{PageImage}
use Rattle.history.specs.declared.journal.What.{What}
use Rattle.history.specs.declared.journal.What.TheVariants as said
use Rattle.journal_law.specs.Facts.{Fits}
use Rattle.journal_law.specs.Lawful.{Ground}
use Rattle.journal_law.specs.Own.{line}
use Rattle.journal_law.specs.Seats.{Attempt, BeginGives, Idle, Moves, Open, RollbackGives, View, Waits, lines_before, one}
use Rattle.journal_law.proofs.LineFacts.{lines_fit}
use Rattle.seat_pager.specs.Laws.{unedited}
use Rattle.seat_pager.specs.Transaction.{GoesOn, HasReasons, Tells, under}
use Rattle.session.specs.Plan.{Item}
use Rattle.session.specs.Sql.{end_of, sql}
use Rattle.session.specs.Statements.{Lines}
use Rattle.session.specs.Attempts.{Added, AreOverlaps, IsTrying, OverlapsFit, ending_of}
use Rattle.session.specs.LinesRun.{IsStop, LinesGive}
use Rattle.session.specs.Transacting.{AreTries, AreTry, AttemptEnds, EndsSo, HasBegun, HasEnded, HasRun, HasTried, HasTriedOnce, HaveRun, IsRefused, Stands, ends_so, is_overlapped, item_for}
use Rattle.session.specs.declared.attempt.Tried.{Tried}
use Rattle.session.specs.declared.attempt.Tried.TheVariants as tried
use Rattle.session.proofs.Adding.{added_line, added_none, added_on, trying_on}
use Rattle.session.proofs.Attempted.{cut_ends, err, good}
use Rattle.session.proofs.Trying.{overlaps_more}

-- ---- statement lines over the pager of an attempt

one_attempt : (view : View) (a b : Attempt) → view.work ≡ Open a → view.work ≡ Open b → a ≡ b
one_attempt view a b is also = injective (sym is ∙ also)
  where
    injective : Open a ≡ Open b → a ≡ b
    injective e = cc

-- whatever the base, one list of pages is shown
pub tells_one : (view : View) (asked : Option ℕ) (base one other : Pages) → Tells view asked base one → Tells view asked base other → one ≡ other
tells_one view asked base one other t u = t.shows ∙ ap (λ (a : Attempt). under base asked a.edits) (one_attempt view t.attempt u.attempt t.is_open u.is_open) ∙ sym u.shows

-- an attempt without edits
abbrev pub HasBegunHere : View → Type 0
HasBegunHere view = (a : Attempt) × (view.work ≡ Open a) × (a.edits ≡ [])

-- what lines give over the pages that an attempt shows, they give over all pages that agree with those that it read
pub have_run : (size width : ℕ) (lines : Lines) (start view : View) (asked : Option ℕ) (text : List ℕ) (ran : Result (Unit {0}) Refusal) (Was Is : Type 0) → Is → HasBegunHere start → width ≡ size
    → Leads (λ base shown. Was × Tells start None base shown) (λ base shown. Is × Tells view asked base shown) (LinesGive width lines text ran) → (a : Attempt) → view.work ≡ Open a → HaveRun size lines view a asked text ran
have_run size width lines start view asked text ran Was Is honest begun same leads a is pages tables agree stored =
    let tells : Tells view asked (unedited pages) (under (unedited pages) asked a.edits) = record { attempt = a; is_open = is; agree = agree; shows = refl } in
    let was = leads (unedited pages) (under (unedited pages) asked a.edits) (honest, tells) in
    let first : was.1.1.attempt ≡ begun.0 = one_attempt start was.1.1.attempt begun.0 was.1.1.is_open begun.1 in
    let unchanged : was.0 ≡ unedited pages = was.1.1.shows ∙ ap (λ (b : Attempt). under (unedited pages) None b.edits) first ∙ ap (λ (edits : List PageImage). under (unedited pages) None edits) begun.2 in
    let gave : LinesGive size lines text ran (unedited pages) (under (unedited pages) asked a.edits) =
    subst (λ (w : Pages). LinesGive size lines text ran w (under (unedited pages) asked a.edits)) unchanged (subst (λ (n : ℕ). LinesGive n lines text ran was.0 (under (unedited pages) asked a.edits)) same was.2) in
    gave tables stored

-- the same where views, pages and lines are told in two ways
pub have_run_there : (size width : ℕ) (lines others : Lines) (begin start end view : View) (first asked : Option ℕ) (text : List ℕ) (ran : Result (Unit {0}) Refusal) (Was Is : Type 0) → Is → first ≡ None → others ≡ lines → begin ≡ start → end ≡ view
    → HasBegunHere start → width ≡ size → Leads (λ base shown. Was × Tells begin first base shown) (λ base shown. Is × Tells end asked base shown) (LinesGive width others text ran) → (a : Attempt) → view.work ≡ Open a
    → HaveRun size lines view a asked text ran
have_run_there size width lines others begin start end view first asked text ran Was Is honest none same_lines same_begin same_end begun same leads a is =
    have_run size width lines start view asked text ran Was Is honest begun same
    (subst (λ (ls : Lines). Leads (λ base shown. Was × Tells start None base shown) (λ base shown. Is × Tells view asked base shown) (LinesGive width ls text ran)) same_lines
    (subst (λ (v : View). Leads (λ base shown. Was × Tells start None base shown) (λ base shown. Is × Tells v asked base shown) (LinesGive width others text ran)) same_end
    (subst (λ (v : View). Leads (λ base shown. Was × Tells v None base shown) (λ base shown. Is × Tells end asked base shown) (LinesGive width others text ran)) same_begin
    (subst (λ (o : Option ℕ). Leads (λ base shown. Was × Tells begin o base shown) (λ base shown. Is × Tells end asked base shown) (LinesGive width others text ran)) none leads)))) a is

-- ---- an attempt that has begun

pub not_begun : (who : Who) (old new : View) (why : Refusal) → BeginGives who old new (Err why) → Waits old new old.work
not_begun who old new (refusal.JournalFull lines images) gives = gives.0
not_begun who old new why gives = gives.0

pub not_begun_ended : (who : Who) (old new : View) (why : Refusal) → old.work ≡ Idle → BeginGives who old new (Err why) → HasEnded old new
not_begun_ended who old new why idle gives =
    let waits = not_begun who old new why gives in
    record { idle = waits.work_is ∙ idle; session = waits.moves.session }

-- lines have run, and nothing is kept
ran_so : (ran : Result (Unit {0}) Refusal) (kept : Option Refusal) → ends_so ran kept ≡ good tt → (kept ≡ None) × (ran ≡ good tt)
ran_so (Ok u) None so = (refl, refl)
ran_so (Err why) None so = cc
ran_so ran (Some why) so = cc

module _ (size : ℕ) (items : Who → Option Item) (who : Who) (names : List (List ℕ)) (t : TransactionRecord) where
  abbrev it : Item
  it = item_for names t

  stands_on : (old new : View) → Moves old new [] → Stands size items who it old → Stands size items who it new
  stands_on old new moves stands = record {
    mine = stands.mine ∙ sym moves.session;
    is_item = stands.is_item;
    sized = ap (λ (g : Ground). g.base.page_count) moves.opened ∙ stands.sized;
    fits = (added_none (sql size) items who old new stands.mine moves stands.fits).fits;
  }

  module _ (start view : View) (kept : Option Refusal) (asked : Option ℕ) (text : List ℕ) (ran : Result (Unit {0}) Refusal) (stands : Stands size items who it start) (overlaps : OverlapsFit (sql size) items) (begun : HasBegun who start)
      (reasons : HasReasons (record { view = start; kept = None; asked = None })) (goes : GoesOn (record { view = start; kept = None; asked = None }) (record { view = view; kept = kept; asked = asked }))
      (have : (a : Attempt) → view.work ≡ Open a → HaveRun size t.statements view a asked text ran) where
    now_trying : IsTrying who view
    now_trying = trying_on who (record { view = start; kept = None; asked = None }) (record { view = view; kept = kept; asked = asked }) stands.mine goes begun.trying

    now_stands : Stands size items who it view
    now_stands = stands_on start view goes.moves stands

    -- its lines have run, and it keeps nothing
    pub then_run : ends_so ran kept ≡ good tt → HasRun size items who it t.statements view text
    then_run so =
        let both = ran_so ran kept so in
        record {
          stands = now_stands;
          overlaps = overlaps;
          trying = now_trying;
          asked = asked;
          reasons = subst (λ (k : Option Refusal). HasReasons (record { view = view; kept = k; asked = asked })) both.0 (goes.reasons reasons);
          ran = subst (HaveRun size t.statements view now_trying.attempt asked text) both.1 (have now_trying.attempt now_trying.is_open);
        }

    -- what it ends by is told of it from its beginning
    pub then_ends : (new : View) (result : Tried) → AttemptEnds size items who it view new result → AttemptEnds size items who it start new result
    then_ends new result ended = record {
      what = ended.what;
      added = added_on (sql size) items who start view new [] (ended.what ∷ []) (added_none (sql size) items who start view stands.mine goes.moves stands.fits) ended.added;
      idle = ended.idle;
      ends = ended.ends;
      told = ended.told;
    }

    pub then_cut : (new : View) (why : Refusal) (result : Tried) → IfErr ran IsStop → ends_so ran kept ≡ err why → ((a : Attempt) → view.work ≡ Open a → RollbackGives (ending_of why) view new a) → IsRefused names why result
        → AttemptEnds size items who it start new result
    then_cut new why result stops so gives told =
        then_ends new result
        (cut_ends size items who names t view new kept asked text ran why result now_stands overlaps now_trying (goes.reasons reasons) (have now_trying.attempt now_trying.is_open) stops so gives told)

  -- ---- one attempt

  once_of : (result : Tried) (what : What) → EndsSo result what → AreTry result (said.Began ∷ what ∷ [])
  once_of (tried.Ended text) what ends = (what, refl, ends)
  once_of (tried.Overlapped session number) what ends = (what, refl, ends)
  once_of tried.Untold what ends = (what, refl, ends)
  once_of tried.NotBegun what ends = absurd ends

  pub begins : (old mid : View) (u : Unit {0}) → Stands size items who it old → BeginGives who old mid (Ok u) → Stands size items who it mid × HasBegun who mid × Added (sql size) items who old mid (said.Began ∷ [])
  begins old mid u stands gives =
      let moves = gives.1.moves in
      let fit : Fits (sql size) items old.opened (lines_before old mid moves) (line who said.Began) = (lines_fit (sql size)).transactions.began items old.opened (lines_before old mid moves) who it stands.is_item (end_of t.end) refl in
      let added = added_line (sql size) items who old mid said.Began stands.mine moves fit stands.fits in (
        record { mine = stands.mine ∙ sym moves.session; is_item = stands.is_item; sized = ap (λ (g : Ground). g.base.page_count) moves.opened ∙ stands.sized; fits = added.fits },
        record {
          trying = record {
            attempt = record { who = who; since = gives.0; read = []; edits = []; kept = None };
            is_open = gives.1.work_is;
            is_who = refl;
            rest = [];
            began = record { whole = gives.2 ∙ sym (append-nil (gives.0 ++ one who said.Began)); none = refl };
          };
          edits = refl;
        },
        added,
      )

  pub tried_once : (old mid new : View) (result : Tried) → Added (sql size) items who old mid (said.Began ∷ []) → AttemptEnds size items who it mid new result → HasTriedOnce size items who it old new result
  tried_once old mid new result began ended = record {
    whats = said.Began ∷ ended.what ∷ [];
    added = added_on (sql size) items who old mid new (said.Began ∷ []) (ended.what ∷ []) began ended.added;
    idle = ended.idle;
    are = once_of result ended.what ended.ends;
    told = ended.told;
  }

  pub tried_not : (old new : View) (why : Refusal) → old.work ≡ Idle → Stands size items who it old → BeginGives who old new (Err why) → HasTriedOnce size items who it old new tried.NotBegun
  tried_not old new why idle stands gives =
      let waits = not_begun who old new why gives in
      record { whats = []; added = added_none (sql size) items who old new stands.mine waits.moves stands.fits; idle = waits.work_is ∙ idle; are = refl; told = tt }

  -- ---- one after the other

  pub first_try : (old new : View) (result : Tried) → HasTriedOnce size items who it old new result → HasTried size items who it old new 0 result
  first_try old new result once = record { whats = once.whats; added = once.added; idle = once.idle; are = record { before = []; overlaps = tt; once = once.whats; is_once = once.are; whole = refl }; told = once.told }

  more_overlaps : (attempts : ℕ) (result : Tried) (whats : List What) → AreTries attempts result whats → is_overlapped result ≡ true → AreOverlaps (suc attempts) whats
  more_overlaps attempts (tried.Overlapped session number) whats are is =
      let e : whats ≡ are.before ++ said.Began ∷ said.Overlapped session number ∷ [] =
      are.whole ∙ ap (λ (ws : List What). are.before ++ ws) (are.is_once.1 ∙ ap (λ (w : What). said.Began ∷ w ∷ []) are.is_once.2) in
      subst (AreOverlaps (suc attempts)) (sym e) (overlaps_more attempts are.before session number are.overlaps)
  more_overlaps attempts (tried.Ended text) whats are is = cc
  more_overlaps attempts tried.Untold whats are is = cc
  more_overlaps attempts tried.NotBegun whats are is = cc

  pub next_stands : (old mid : View) (attempts : ℕ) (result : Tried) → Stands size items who it old → HasTried size items who it old mid attempts result → Stands size items who it mid
  next_stands old mid attempts result stands has = record {
    mine = stands.mine ∙ sym has.added.session;
    is_item = stands.is_item;
    sized = ap (λ (g : Ground). g.base.page_count) has.added.opened ∙ stands.sized;
    fits = has.added.fits;
  }

  pub next_try : (old mid new : View) (attempts : ℕ) (result again : Tried) → HasTried size items who it old mid attempts result → is_overlapped result ≡ true → HasTriedOnce size items who it mid new again
      → HasTried size items who it old new (suc attempts) again
  next_try old mid new attempts result again has is once = record {
    whats = has.whats ++ once.whats;
    added = added_on (sql size) items who old mid new has.whats once.whats has.added once.added;
    idle = once.idle;
    are = record { before = has.whats; overlaps = more_overlaps attempts result has.whats has.are is; once = once.whats; is_once = once.are; whole = refl };
    told = once.told;
  }

  -- by how many attempts there were
  pub more_tried : (old mid new : View) (n : ℕ) (result again : Tried) → 1 ≤ n → ((count : ℕ) → count + 1 ≡ n → HasTried size items who it old mid count result) → is_overlapped result ≡ true → HasTriedOnce size items who it mid new again
      → (count : ℕ) → count + 1 ≡ n + 1 → HasTried size items who it old new count again
  more_tried old mid new n result again some has is once zero e = absurd (omega (arith, e, some))
  more_tried old mid new n result again some has is once (suc count) e = next_try old mid new count result again (has count (omega (arith, e))) is once

  pub stands_again : (old mid : View) (n : ℕ) (result : Tried) → 1 ≤ n → ((count : ℕ) → count + 1 ≡ n → HasTried size items who it old mid count result) → Stands size items who it old → Stands size items who it mid
  stands_again old mid zero result some has stands = absurd (omega (arith, some))
  stands_again old mid (suc n) result some has stands = next_stands old mid n result stands (has n (omega arith))
