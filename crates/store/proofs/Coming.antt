-- What a seat sees behind a visit to the desk.
use Rattle.std.proofs.Common.{◌≡◌, ◌<◌, ◌+◌, ◌++◌, ◌==◌, ◌∙◌, ℕ, Bool, true, false, cond, List, [], ◌∷◌, drop, length, reverse, take, Option, Some, None, refl, sym, ap, subst, eq-eqb}
use Rattle.std.specs.Prelude.{Contains}
use Rattle.std.proofs.lemmas.List.{drop-drop}
use Rattle.std.proofs.lemmas.List.Elements.{filter-append}
use Rattle.std.proofs.Math.Seq.{drop-append_seam}
use Rattle.atomic_table.specs.Seated.{TableId}
use Rattle.disk_model.specs.Disk.{State}
use Rattle.retro_base.specs.declared.device.Device.{Device}
use Rattle.retro_base.specs.declared.who.Who.{Who}
use Rattle.history.specs.declared.journal.Line.{Line}
use Rattle.history.specs.declared.journal.What.TheVariants.{Began}
use Rattle.history.specs.Lines.{lines_of}
use Rattle.journal_book.specs.declared.work.Look.{Look}
use Rattle.journal_book.specs.declared.work.Transaction.{Transaction}
use Rattle.journal_book.specs.declared.work.Work.{Work}
use Rattle.journal_book.specs.declared.work.Work.TheVariants as work
use Rattle.journal_book.specs.Works.{who_of, work_at}
use Rattle.journal_law.specs.Facts.{AreOthers}
use Rattle.journal_law.specs.Own.{line}
use Rattle.journal_law.specs.Seats as seat
use Rattle.journal_law.specs.Seats.{Moves}
use Rattle.race_model.proofs.Grows.{contains_none}
use Rattle.txn_set.specs.declared.ledger.Ledger.{Ledger}
use Rattle.txn_set.specs.Ledger.{fresh, given_up, gives_up, keeps_other_drop}
use Rattle.turn.specs.declared.view.Holding.{Holding}
use Rattle.turn.specs.Faults.{desk_faults, fault_times}
use Rattle.turn.specs.Seats.{mine, opening, seen}
use Rattle.store.specs.declared.desk_side.DeskSide.{DeskSide}
use Rattle.store.specs.declared.start.Start.{Start}
use Rattle.store.specs.Seats.{IsReady, Sat, Visited, journal, slots_of}
use Rattle.store.specs.Start.{desk_counts}
use Rattle.turn.proofs.Faults.{told_still}
use Rattle.store.proofs.Calling.{told_more}
use Rattle.store.proofs.Finding.{some_is}
use Rattle.journal_law.specs.declared.seat.ToldFault.{ToldFault}
use Rattle.store.specs.Seen.{HasBegun, IsSeated, ground_in, pins_of_look, view_of, work_in}

-- ---- lists

pub take_front : {X : Type 0} (xs ys : List X) → take (length xs) (xs ++ ys) ≡ xs
take_front [] ys = refl
take_front {X} (x ∷ xs) ys = ap (λ (l : List X). x ∷ l) (take_front xs ys)

pub drop_next : {X : Type 0} (xs : List X) (y : X) (ys : List X) → drop (length xs + 1) (xs ++ y ∷ ys) ≡ ys
drop_next {X} xs y ys = sym (drop-drop 1 (length xs) (xs ++ y ∷ ys)) ∙ ap (λ (l : List X). drop 1 l) (drop-append_seam xs (y ∷ ys))

pub lines_append : (n : ℕ) (xs ys : List Line) → lines_of n (xs ++ ys) ≡ lines_of n xs ++ lines_of n ys
lines_append n xs ys = rw filter-append refl

-- lines without any of a session
pub others_of : (n : ℕ) (ls : List Line) → lines_of n ls ≡ [] → AreOthers n ls
others_of n [] none = tt
others_of n (l ∷ ls) none = go (others_of n ls) (l.who.session == n) refl where
  go : (lines_of n ls ≡ [] → AreOthers n ls) → (b : Bool) → (l.who.session == n) ≡ b → AreOthers n (l ∷ ls)
  go more true e = absurd (cc (none, ap (λ (b : Bool). cond b (l ∷ lines_of n ls) (lines_of n ls)) e))
  go more false e = ((λ same. absurd (cc (e, eq-eqb l.who.session n same))), more (sym (ap (λ (b : Bool). cond b (l ∷ lines_of n ls) (lines_of n ls)) e) ∙ none))

-- ---- what came

-- The seat has seen these lines of others more, and these of its own, and has this work.
pub record Came {D : Type 0} (s0 s1 : Sat D) (others own : List Line) (w : Option Work) : Type 0 where
  pub apart : lines_of s0.number others ≡ []
  pub front : seen s1 ≡ (seen s0 ++ others) ++ own
  pub work_is : (mine s1).work ≡ w
  pub number : s1.number ≡ s0.number
  pub opening_is : opening s1 ≡ opening s0

module _ {D : Type 0} (state : D → State) (faults : D → ℕ) (one other : Option ℕ) (before after : List ToldFault) (s0 s1 : Sat D) (others own : List Line) (w : Option Work) (came : Came s0 s1 others own w) where
  abbrev pub moves : Moves (view_of state faults one before s0) (view_of state faults other after s1) own
  moves = record {
    session = came.number;
    opened = ap (ground_in state faults) came.opening_is;
    others = others;
    apart = others_of s0.number others came.apart;
    front = came.front;
  }

  pub work_so : work_in other (seen s1) (mine s1).work ≡ work_in other ((seen s0 ++ others) ++ own) w
  work_so = λ i. work_in other (came.front i) (came.work_is i)

-- ---- works

pub open_is : (asked : Option ℕ) (lines : List Line) (w : Option Work) (a : seat.Attempt) → work_in asked lines w ≡ seat.Open a
    → (t : Transaction) × (w ≡ Some (work.Open t)) × (record { who = t.who; since = take t.began lines; read = t.reads.keys; edits = t.edits; kept = t.kept } ≡ a)
open_is asked lines None a e = absurd (cc e)
open_is asked lines (Some (work.Open t)) a e = (t, refl, cc e)
open_is asked lines (Some (work.Looking look)) a e = absurd (cc e)
open_is asked lines (Some (work.KeptDrop who)) a e = absurd (cc e)

pub some_open : (asked : Option ℕ) (lines : List Line) (w : Option Work) → seat.is_open (work_in asked lines w) ≡ true → (t : Transaction) × (w ≡ Some (work.Open t))
some_open asked lines None e = absurd (cc e)
some_open asked lines (Some (work.Open t)) e = (t, refl)
some_open asked lines (Some (work.Looking look)) e = absurd (cc e)
some_open asked lines (Some (work.KeptDrop who)) e = absurd (cc e)

pub looking_is : (asked : Option ℕ) (lines : List Line) (w : Option Work) (l : seat.Look) → work_in asked lines w ≡ seat.Looking l
    → (look : Look) × (w ≡ Some (work.Looking look)) × (record { who = look.who; since = take look.began lines; snapshot = asked } ≡ l)
looking_is asked lines None l e = absurd (cc e)
looking_is asked lines (Some (work.Open t)) l e = absurd (cc e)
looking_is asked lines (Some (work.Looking look)) l e = (look, refl, cc e)
looking_is asked lines (Some (work.KeptDrop who)) l e = absurd (cc e)

pub some_looking : (asked : Option ℕ) (lines : List Line) (w : Option Work) → seat.is_looking (work_in asked lines w) ≡ true → (look : Look) × (w ≡ Some (work.Looking look))
some_looking asked lines None e = absurd (cc e)
some_looking asked lines (Some (work.Open t)) e = absurd (cc e)
some_looking asked lines (Some (work.Looking look)) e = (look, refl)
some_looking asked lines (Some (work.KeptDrop who)) e = absurd (cc e)

pub idle_is : {D : Type 0} (who : Who) (asked : Option ℕ) (before : List ToldFault) (s : Sat D) → IsSeated who asked before s → work_in asked (seen s) (mine s).work ≡ seat.Idle → (mine s).work ≡ None
idle_is who asked before s seated e = at (mine s).work refl e where
  at : (w : Option Work) → (mine s).work ≡ w → work_in asked (seen s) w ≡ seat.Idle → (mine s).work ≡ None
  at None is e = is
  at (Some (work.Open t)) is e = absurd (cc e)
  at (Some (work.Looking look)) is e = absurd (cc e)
  at (Some (work.KeptDrop other)) is e = absurd (seated.no_drop other is)

-- a seat with nothing open sees the same, whatever it was asked
pub idle_view : {D : Type 0} (state : D → State) (faults : D → ℕ) (who : Who) (asked : Option ℕ) (before : List ToldFault) (s : Sat D) → IsSeated who asked before s → (view_of state faults asked before s).work ≡ seat.Idle
    → ((mine s).work ≡ None) × (view_of state faults asked before s ≡ view_of state faults None [] s)
idle_view state faults who asked before s seated e =
    let none : (mine s).work ≡ None = idle_is who asked before s seated e in (
      none,
      ap (λ (w : seat.Work). record (view_of state faults asked before s) { work = w })
          (ap (work_in asked (seen s)) none ∙ sym (ap (work_in None (seen s)) none))
          ∙ ap (λ (ts : List ToldFault). view_of state faults None ts s) (seated.quiet none),
    )

-- ---- what the seat keeps

-- what the seat has open is of its own session
pub own_session : {D : Type 0} (z : TableId) (s : Sat D) (who : Who) (asked : Option ℕ) (before : List ToldFault) → IsReady z s → IsSeated who asked before s → (w : Work) → (mine s).work ≡ Some w → who.session ≡ s.number
own_session z s who asked before ready seated w e = ap (λ (x : Who). x.session) (sym (seated.item w e)) ∙ ready.work.number w e

-- with nothing open, and nothing told
pub seated_none : {D : Type 0} (who : Who) (asked : Option ℕ) (s : Sat D) → (mine s).work ≡ None → IsSeated who asked [] s
seated_none who asked s none = record {
  item = λ w e. absurd (cc (e, none));
  no_drop = λ other e. absurd (cc (e, none));
  begun = λ t e. absurd (cc (e, none));
  pins = λ start look o e. absurd (cc (e, none));
  quiet = λ e. refl;
  silent = λ t e. refl;
  told_it = λ d c in_it. absurd (contains_none _ in_it);
}

-- a transaction has just begun
pub begun_so : (lines rest : List Line) (session : ℕ) (t : Transaction) → t.began ≡ length lines → lines_of session rest ≡ [] → HasBegun (lines ++ line t.who Began ∷ rest) session t
begun_so lines rest session t began none =
    let whole : List Line = lines ++ line t.who Began ∷ rest in
    let next : drop (t.began + 1) whole ≡ rest = ap (λ (n : ℕ). drop (n + 1) whole) began ∙ drop_next lines (line t.who Began) rest in
    record {
      here = ap (λ (n : ℕ). drop n whole) began ∙ (drop-append_seam lines (line t.who Began ∷ rest) ∙ ap (λ (l : List Line). line t.who Began ∷ l) (sym next));
      last = ap (lines_of session) next ∙ none;
    }

pub open_same : (t u : Transaction) → Some (work.Open t) ≡ Some (work.Open u) → t ≡ u
open_same t u e = cc e

look_same : (l k : Look) → Some (work.Looking l) ≡ Some (work.Looking k) → l ≡ k
look_same l k e = cc e

-- a seat whose transaction began in its last line
pub seated_begun : {D : Type 0} (who : Who) (asked : Option ℕ) (before : List ToldFault) (s : Sat D) (lines : List Line) → before ≡ [] → seen s ≡ lines ++ line who Began ∷ [] → (mine s).work ≡ Some (fresh who lines) → IsSeated who asked before s
seated_begun who asked before s lines quiet front is =
    let t : Transaction = record { who = who; began = length lines; edits = []; reads = record { keys = [] }; kept = None } in
    record {
      item = λ w e. subst (λ (x : Work). who_of x ≡ who) (some_is (fresh who lines) w (sym is ∙ e)) refl;
      no_drop = λ other e. absurd (cc (e, is));
      begun = λ u e. subst (HasBegun (seen s) s.number) (open_same t u (sym is ∙ e)) (subst (λ (l : List Line). HasBegun l s.number t) (sym front) (begun_so lines [] s.number t refl refl));
      pins = λ start look o e. absurd (cc (e, is));
      quiet = λ e. quiet;
      silent = λ u e. quiet;
      told_it = λ d c in_it. absurd (contains_none _ (subst (λ (ts : List ToldFault). Contains (reverse ts) (record { device = d; count = c })) quiet in_it));
    }

-- a seat whose transaction is another one in the place of this, which is open still
pub seated_open : {D : Type 0} (who : Who) (asked : Option ℕ) (before : List ToldFault) (s : Sat D) (t u : Transaction) → before ≡ [] → t.who ≡ who → u.who ≡ t.who → u.began ≡ t.began → HasBegun (seen s) s.number t → (mine s).work ≡ Some (work.Open u)
    → IsSeated who asked before s
seated_open who asked before s t u quiet of same began here is = record {
  item = λ w e. subst (λ (x : Work). who_of x ≡ who) (some_is (work.Open u) w (sym is ∙ e)) (same ∙ of);
  no_drop = λ other e. absurd (cc (e, is));
  begun = λ x e. subst (HasBegun (seen s) s.number) (open_same u x (sym is ∙ e)) (record {
    here = ap (λ (n : ℕ). drop n (seen s)) began ∙ (here.here ∙ (λ i. line (sym same i) Began ∷ drop (sym began i + 1) (seen s)));
    last = ap (λ (n : ℕ). lines_of s.number (drop (n + 1) (seen s))) began ∙ here.last;
  });
  pins = λ start look o e. absurd (cc (e, is));
  quiet = λ e. quiet;
  silent = λ x e. quiet;
  told_it = λ d c in_it. absurd (contains_none _ (subst (λ (ts : List ToldFault). Contains (reverse ts) (record { device = d; count = c })) quiet in_it));
}

-- a seat with an open look
pub seated_looking : {D : Type 0} (who : Who) (asked : Option ℕ) (before : List ToldFault) (s : Sat D) (look : Look) → before ≡ [] → look.who ≡ who → (mine s).work ≡ Some (work.Looking look)
    → ((start : Start D) → opening s ≡ Some start → look.pins ≡ pins_of_look asked (seen s) start look) → IsSeated who asked before s
seated_looking who asked before s look quiet of is pins = record {
  item = λ w e. subst (λ (x : Work). who_of x ≡ who) (some_is (work.Looking look) w (sym is ∙ e)) of;
  no_drop = λ other e. absurd (cc (e, is));
  begun = λ t e. absurd (cc (e, is));
  pins = λ start other o e. subst (λ (x : Look). x.pins ≡ pins_of_look asked (seen s) start x) (look_same look other (sym is ∙ e)) (pins start o);
  quiet = λ e. quiet;
  silent = λ t e. quiet;
  told_it = λ d c in_it. absurd (contains_none _ (subst (λ (ts : List ToldFault). Contains (reverse ts) (record { device = d; count = c })) quiet in_it));
}

module _ {D : Type 0} (is_honest : D → Type 0) (state : D → State) (faults : D → ℕ) (z : TableId) (s0 s1 : Sat D) (d0 d1 : DeskSide D) (ready : IsReady z s0) (v : Visited is_honest state faults z s0 s1 d0 d1) where
  pub came : (own : List Line) (w : Option Work) → journal d1 ≡ journal d0 ++ own → work_at (slots_of d1) s0.number ≡ w → Came s0 s1 v.others own w
  came own w lines there = record {
    apart = v.apart;
    front = v.seen ∙ (lines ∙ ap (λ (l : List Line). l ++ own) (sym v.place));
    work_is = ap (λ (h : Holding Work). h.work) v.mine ∙ (ap (work_at (slots_of d1)) ready.rests.seat.number ∙ there);
    number = v.same.number;
    opening_is = v.same.opening;
  }

  -- a visit that adds no line leaves what the seat was told
  pub still_told : journal d1 ≡ journal d0 → (d : Device) (c : ℕ) → 0 < fault_times d c (mine s0).faults → 0 < fault_times d c (mine s1).faults
  still_told same d c there =
      let more : List (Device × ℕ) = desk_faults (desk_counts faults d0.core) (desk_counts faults d1.core) in
      let all : (mine s1).faults ≡ (mine s0).faults ++ more =
      ap (λ (h : Holding Work). h.faults) v.mine ∙ told_still (journal d0) (journal d1) ((mine s0).faults ++ more) same in
      subst (λ (fs : List (Device × ℕ)). 0 < fault_times d c fs) (sym all) (told_more (mine s0).faults more d c there)

  pub none_there : (who : Who) → who.session ≡ s0.number → (mine s0).work ≡ None → work_at (slots_of d0) who.session ≡ None
  none_there who own none = ap (work_at (slots_of d0)) own ∙ (sym v.work ∙ none)

  pub there : (who : Who) → who.session ≡ s0.number → (w : Option Work) → (l : Ledger) → d1.core.ledger ≡ l → work_at l.works.slots who.session ≡ w → work_at (slots_of d1) s0.number ≡ w
  there who own w l e is = ap (work_at (slots_of d1)) (sym own) ∙ (ap (λ (x : Ledger). work_at x.works.slots who.session) e ∙ is)

-- a session that has nothing open gives nothing up
pub given_none : (who : Who) (l : Ledger) → work_at l.works.slots who.session ≡ None → given_up who l ≡ l
given_none who l none = ap (λ (w : Option Work). cond (keeps_other_drop who w) (gives_up who.session l) l) none
