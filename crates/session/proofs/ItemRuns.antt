-- What the attempts at a transaction make of its item.
use Rattle.std.proofs.Common.{◌≡◌, ◌∙◌, ◌+◌, ◌*◌, ◌≤◌, ◌++◌, ◌&&◌, ℕ, zero, suc, Bool, true, false, List, [], ◌∷◌, length, Option, Some, None, Result, Ok, Err, refl, ap, sym, subst, append-nil, length-append, arith}
use Rattle.std.specs.Prelude.{IfOk, nat_lt}
use Rattle.std.proofs.lemmas.Bool.Decides.{nat_tests}
use Rattle.retro_base.specs.declared.who.Who.{Who}
use Rattle.script.specs.declared.structure.Transaction.{Transaction as TransactionRecord}
use Rattle.history.specs.declared.journal.What.{What}
use Rattle.history.specs.declared.journal.What.TheVariants as said
use Rattle.journal_law.specs.Fates.{IsReply}
use Rattle.journal_law.specs.Language.{End, Kind}
use Rattle.journal_law.specs.Language as law
use Rattle.journal_law.specs.Lawful.{AreAttempts}
use Rattle.journal_law.specs.Own.{own}
use Rattle.journal_law.specs.Seats.{View}
use Rattle.journal_law.proofs.Journal.{own_append}
use Rattle.session.specs.OneItem.{IsTold, ItemRan, MayRun}
use Rattle.session.specs.Plan.{Plan, item_of}
use Rattle.session.specs.Replies.{is_cut, is_overlap, last}
use Rattle.session.specs.Sql.{end_of, sql}
use Rattle.session.specs.Attempts.{AreOverlaps, IsLastEnd}
use Rattle.session.specs.Transacting.{AreTry, HasTried, IsAnswer, IsTried, Stands, is_overlapped, item_for}
use Rattle.session.specs.declared.attempt.Tried.{Tried}
use Rattle.session.specs.declared.attempt.Tried.TheVariants as tried
use Rattle.session.proofs.Trying.{ended_are, overlaps_are, overlaps_many, overlaps_more}

last_of_two : (whats : List What) (what : What) → last (whats ++ said.Began ∷ what ∷ []) ≡ Some what
last_of_two [] what = refl
last_of_two (x ∷ []) what = refl
last_of_two (x ∷ y ∷ whats) what = last_of_two (y ∷ whats) what

no_overlap : (what : What) → IsLastEnd what → is_overlap (Some what) ≡ false
no_overlap (said.Overlapped session item) is = absurd is
no_overlap what is = refl

-- an item whose last attempt ended is not cut short
not_cut : (end : End) (whats : List What) (what : What) → IsLastEnd what → is_cut (law.Transaction end) (whats ++ said.Began ∷ what ∷ []) ≡ false
not_cut end [] what is = ap (λ (b : Bool). b && true) (no_overlap what is)
not_cut end (x ∷ whats) what is =
    ap (λ (o : Option What). is_overlap o && nat_lt (length (x ∷ whats ++ said.Began ∷ what ∷ [])) 128) (last_of_two (x ∷ whats) what)
    ∙ ap (λ (b : Bool). b && nat_lt (length (x ∷ whats ++ said.Began ∷ what ∷ [])) 128) (no_overlap what is)

-- nor is one whose 64th attempt overlapped
and_false : (b : Bool) → (b && false) ≡ false
and_false true = refl
and_false false = refl

at_end : (n : ℕ) → n ≡ 128 → nat_lt n 128 ≡ false
at_end n is = rw is refl

last_overlapped : (end : End) (whats : List What) → AreOverlaps 64 whats → is_cut (law.Transaction end) whats ≡ false
last_overlapped end (said.Began ∷ said.Overlapped session item ∷ whats) are =
    ap (λ (b : Bool). is_overlap (last (said.Began ∷ said.Overlapped session item ∷ whats)) && b) (at_end (suc (suc (length whats))) (omega (arith, overlaps_many 63 whats are)))
    ∙ and_false (is_overlap (last (said.Began ∷ said.Overlapped session item ∷ whats)))
last_overlapped end whats are = absurd are

overlap_last : (n : ℕ) (whats : List What) → AreOverlaps (suc n) whats → is_overlap (last whats) ≡ true
overlap_last zero (said.Began ∷ said.Overlapped session item ∷ []) are = refl
overlap_last (suc n) (said.Began ∷ said.Overlapped session item ∷ said.Began ∷ said.Overlapped s i ∷ whats) are = overlap_last n (said.Began ∷ said.Overlapped s i ∷ whats) are
overlap_last n whats are = absurd are

below_end : (n m : ℕ) → n ≡ 2 * m → m ≤ 63 → nat_lt n 128 ≡ true
below_end n m is few = grind (arith, nat_tests)

-- one that was cut short
cut : (end : End) (n : ℕ) (whats : List What) → AreOverlaps n whats → n ≤ 63 → is_cut (law.Transaction end) whats ≡ true
cut end zero [] are few = refl
cut end (suc n) (said.Began ∷ said.Overlapped session item ∷ whats) are few =
    ap (λ (b : Bool). b && nat_lt (suc (suc (length whats))) 128) (overlap_last n (said.Began ∷ said.Overlapped session item ∷ whats) are)
    ∙ below_end (suc (suc (length whats))) (suc n) (omega (arith, overlaps_many n whats are)) few
cut end n whats are few = absurd are

pub never_both : (b : Bool) (n : ℕ) → b ≡ false → b ≡ true → n ≡ 64
never_both true n not_so so = cc
never_both false n not_so so = cc

pub if_ok_then : {A E : Type 0} (P Q : A → Type 0) (r : Result A E) → ((x : A) → P x → Q x) → IfOk r P → IfOk r Q
if_ok_then P Q (Ok x) go is = go x is
if_ok_then P Q (Err e) go is = is

module _ (size : ℕ) (plan : Plan) (who : Who) (names : List (List ℕ)) (t : TransactionRecord) (old new : View) (may : MayRun size plan who (item_for names t) old) where
  pub may_stand : Stands size (item_of plan) who (item_for names t) old
  may_stand = record { mine = may.mine; is_item = may.is; sized = may.sized; fits = may.fits }

  module _ (attempts : ℕ) (result : Tried) (has : HasTried size (item_of plan) who (item_for names t) old new attempts result) (few : attempts ≤ 63) (full : is_overlapped result ≡ true → attempts ≡ 63) where
    says : own who new.front ≡ has.whats
    says = ap (own who) has.added.front ∙ own_append who old.front has.added.more ∙ ap (λ (ws : List What). ws ++ own who has.added.more) may.fresh ∙ has.added.says

    ended_whole : (what : What) → has.are.once ≡ said.Began ∷ what ∷ [] → has.whats ≡ has.are.before ++ said.Began ∷ what ∷ []
    ended_whole what is = has.are.whole ∙ ap (λ (ws : List What). has.are.before ++ ws) is

    overlapped : (session number : ℕ) (what : What) → has.are.once ≡ said.Began ∷ what ∷ [] → what ≡ said.Overlapped session number → AreOverlaps (suc attempts) has.whats
    overlapped session number what is also =
        subst (AreOverlaps (suc attempts)) (sym (ended_whole what is ∙ ap (λ (w : What). has.are.before ++ said.Began ∷ w ∷ []) also)) (overlaps_more attempts has.are.before session number has.are.overlaps)

    ended_run : (what : What) → has.are.once ≡ said.Began ∷ what ∷ [] → IsLastEnd what → AreAttempts has.whats × (length has.whats ≤ 128)
    ended_run what is ends = (
      subst AreAttempts (sym (ended_whole what is)) (ended_are attempts has.are.before what has.are.overlaps ends),
      omega (arith, ap length (ended_whole what is), length-append has.are.before (said.Began ∷ what ∷ []), overlaps_many attempts has.are.before has.are.overlaps, few),
    )

    -- the lines are those of a run
    run_so : AreAttempts has.whats × (length has.whats ≤ 128)
    run_so = by_result result has.are.is_once
      where
        by_result : (r : Tried) → AreTry r has.are.once → AreAttempts has.whats × (length has.whats ≤ 128)
        by_result (tried.Ended text) is = ended_run is.0 is.1 is.2
        by_result tried.Untold is = ended_run is.0 is.1 is.2
        by_result (tried.Overlapped session number) is =
            let are = overlapped session number is.0 is.1 is.2 in
            (overlaps_are (suc attempts) has.whats are, omega (arith, overlaps_many (suc attempts) has.whats are, few))
        by_result tried.NotBegun is =
            let e : has.whats ≡ has.are.before = has.are.whole ∙ ap (λ (ws : List What). has.are.before ++ ws) is ∙ append-nil has.are.before in
            let are : AreOverlaps attempts has.whats = subst (AreOverlaps attempts) (sym e) has.are.overlaps in
            (overlaps_are attempts has.whats are, omega (arith, overlaps_many attempts has.whats are, few))

    pub item_ran : ItemRan size plan who (item_for names t) old new
    item_ran = record {
      session = has.added.session;
      opened = has.added.opened;
      more = has.added.more;
      front = has.added.front;
      of_item = has.added.of_item;
      idle = has.idle;
      fits = has.added.fits;
      is_run = subst (λ (ws : List What). AreAttempts ws × (length ws ≤ 128)) (sym says) run_so;
    }

    there : (b : Bool) → is_cut (law.Transaction (end_of t.end)) has.whats ≡ b → is_cut (law.Transaction (end_of t.end)) (own who new.front) ≡ b
    there b is = ap (is_cut (law.Transaction (end_of t.end))) says ∙ is

    ended_told : (what : What) → has.are.once ≡ said.Began ∷ what ∷ [] → IsLastEnd what → is_cut (law.Transaction (end_of t.end)) (own who new.front) ≡ false
    ended_told what is ends = there false (ap (is_cut (law.Transaction (end_of t.end))) (ended_whole what is) ∙ not_cut (end_of t.end) has.are.before what ends)

    -- and what is told is the reply
    pub item_told : (told : Option (List ℕ)) → IsAnswer names result told → IsTold size plan who (item_for names t) new told
    item_told told answer = by_result result has.are.is_once has.told full told answer
      where
        by_result : (r : Tried) → AreTry r has.are.once → IsTried size (item_of plan) who (item_for names t) new r → (is_overlapped r ≡ true → attempts ≡ 63) → (told : Option (List ℕ)) → IsAnswer names r told
            → IsTold size plan who (item_for names t) new told
        by_result (tried.Ended text) is reply full (Some told) answer =
            (ended_told is.0 is.1 is.2, subst (λ (x : List ℕ). IsReply (sql size) (item_of plan) new.opened.pages who (item_for names t) new.front x) (sym answer) reply)
        by_result (tried.Ended text) is reply full None answer = absurd answer
        by_result tried.Untold is reply full (Some told) answer = absurd answer
        by_result tried.Untold is reply full None answer = absurd answer
        by_result (tried.Overlapped session number) is reply full (Some told) answer =
            let are : AreOverlaps 64 has.whats = subst (λ (n : ℕ). AreOverlaps (suc n) has.whats) (full refl) (overlapped session number is.0 is.1 is.2) in
            (there false (last_overlapped (end_of t.end) has.whats are), subst (λ (x : List ℕ). IsReply (sql size) (item_of plan) new.opened.pages who (item_for names t) new.front x) (sym answer) reply)
        by_result (tried.Overlapped session number) is reply full None answer = absurd answer
        by_result tried.NotBegun is reply full (Some told) answer = absurd answer
        by_result tried.NotBegun is reply full None answer =
            let e : has.whats ≡ has.are.before = has.are.whole ∙ ap (λ (ws : List What). has.are.before ++ ws) is ∙ append-nil has.are.before in
            there true (cut (end_of t.end) attempts has.whats (subst (AreOverlaps attempts) (sym e) has.are.overlaps) few)

  -- by how many attempts there were
  pub item_ran_by : (n : ℕ) (result : Tried) → 1 ≤ n → n ≤ 64 → ((count : ℕ) → count + 1 ≡ n → HasTried size (item_of plan) who (item_for names t) old new count result) → (is_overlapped result ≡ true → n ≡ 64)
      → ItemRan size plan who (item_for names t) old new
  item_ran_by zero result some few has full = absurd (omega (arith, some))
  item_ran_by (suc n) result some few has full = item_ran n result (has n (omega arith)) (omega (arith, few)) (λ is. omega (arith, full is))

  pub item_told_by : (n : ℕ) (result : Tried) → 1 ≤ n → n ≤ 64 → ((count : ℕ) → count + 1 ≡ n → HasTried size (item_of plan) who (item_for names t) old new count result) → (is_overlapped result ≡ true → n ≡ 64)
      → (told : Option (List ℕ)) → IsAnswer names result told → IsTold size plan who (item_for names t) new told
  item_told_by zero result some few has full told answer = absurd (omega (arith, some))
  item_told_by (suc n) result some few has full told answer = item_told n result (has n (omega arith)) (omega (arith, few)) (λ is. omega (arith, full is)) told answer
