-- A seat that enters the desk, and leaves it.
use Rattle.std.proofs.Common.{◌≡◌, ◌≤◌, ◌<◌, ◌∙◌, ◌++◌, ℕ, List, [], ◌∷◌, length, Option, IfSome, refl, sym, ap, subst, arith}
use Rattle.std.specs.Prelude.{true}
use Rattle.std.proofs.lemmas.List.Elements.{filter-append}
use Rattle.atomic_table.specs.Seated.{TableId}
use Rattle.disk_model.specs.Disk.{State}
use Rattle.retro_base.specs.declared.device.Device.{Device}
use Rattle.retro_base.specs.declared.who.Who.{Who}
use Rattle.history.specs.declared.entry.Base.{Base}
use Rattle.history.specs.declared.entry.Change.{Change}
use Rattle.history.specs.declared.entry.Change.TheVariants.{Commit, Drop}
use Rattle.history.specs.declared.journal.Line.{Line}
use Rattle.history.specs.History.{base_after, bases_after, now}
use Rattle.history.specs.Journal.{changes_of}
use Rattle.history.specs.Lines.{lines_of}
use Rattle.journal_book.specs.declared.work.Work.{Work}
use Rattle.journal_book.specs.declared.work.Work.TheVariants.{Open, Looking, KeptDrop}
use Rattle.journal_book.specs.Works.{work_at}
use Rattle.desk.proofs.Sent.{count_stays}
use Rattle.txn_set.specs.Ledger.{IsLookingAs, IsOpenAs, is_idle}
use Rattle.txn_set.specs.WorksFit.{WorkFits}
use Rattle.store_core.proofs.Cores.{base_is}
use Rattle.turn.specs.declared.view.Holding.{Holding}
use Rattle.turn.specs.declared.view.Place.{Place}
use Rattle.turn.specs.declared.view.Place.TheVariants.{Inside}
use Rattle.turn.specs.Seats.{IsInDesk, IsSame, Rests, held, mine, opening, seen}
use Rattle.turn.specs.Views.{behind_desk}
use Rattle.store.specs.declared.desk_side.DeskSide.{DeskSide}
use Rattle.store.specs.declared.start.Start.{Start}
use Rattle.store.specs.Seats.{ArchiveBeside, HasEntered, HasOwn, IsLookingIn, IsOneOf, IsOpenIn, IsOwnWork, IsPage, IsVisit, IsWhole, KeptIsTold, MayGiveBack, Sat, Visited, began_of, journal, slots_of}
use Rattle.store.specs.Sides.{DeskStands, of_desk}
use Rattle.store.specs.Start.{opened_base}

-- ---- lines of one session

nothing_more : {X : Type 0} (xs ys : List X) → xs ++ ys ≡ xs → ys ≡ []
nothing_more [] ys e = e
nothing_more (x ∷ xs) ys e = nothing_more xs ys (cc e)

lines_append : (n : ℕ) (xs ys : List Line) → lines_of n (xs ++ ys) ≡ lines_of n xs ++ lines_of n ys
lines_append n xs ys = rw filter-append refl

-- the lines behind a front that has all lines of a session have none of it
pub apart : (n : ℕ) (front rest whole : List Line) → front ++ rest ≡ whole → lines_of n front ≡ lines_of n whole → lines_of n rest ≡ []
apart n front rest whole e same = nothing_more (lines_of n front) (lines_of n rest) (sym (lines_append n front rest) ∙ (ap (lines_of n) e ∙ sym same))

-- ---- what is open

began_fits : (pages : ℕ) (lines : List Line) (w : Work) → WorkFits pages lines w → began_of w ≤ length lines
began_fits pages lines (Open t) fits = fits.is_open.begun
began_fits pages lines (Looking look) fits = fits.begun
began_fits pages lines (KeptDrop who) fits = omega arith

same_inside : {A : Type 0} (p : Place A) (n m : ℕ) (x y : A) → p ≡ Inside n x → p ≡ Inside m y → x ≡ y
same_inside p n m x y e f = cc (e, f)

capacity_after : (base : Base) (change : Change) → (base_after base change).capacity ≡ base.capacity
capacity_after base (Commit label writes) = refl
capacity_after base (Drop below) = refl

slots_stay : (base : Base) (changes : List Change) → (bases_after base changes).capacity ≡ base.capacity
slots_stay base [] = refl
slots_stay base (change ∷ changes) = slots_stay (base_after base change) changes ∙ capacity_after base change

-- the number of a seat that is the same is still one of the store's
pub one_still : {D : Type 0} (s0 s1 : Sat D) → s1.number ≡ s0.number → opening s1 ≡ opening s0 → IsOneOf (opening s0) s0.number → IsOneOf (opening s1) s1.number
one_still s0 s1 number same one = λ start e. subst (λ (n : ℕ). n < start.seats.value) (sym number) (one start (sym same ∙ e))

module _ {D : Type 0} (is_honest : D → Type 0) (state : D → State) where
  pub own_work : (side : DeskSide D) (n : ℕ) → DeskStands is_honest state side → IsOwnWork (journal side) n (work_at (slots_of side) n)
  own_work side n stands =
      let works = (stands.stands stands.origin stands.opened).is.ledger.works in
      record {
        number = λ w e. works.sessions n w e;
        began = λ w e. began_fits side.core.ledger.book.pages (journal side) w (works.each n w e);
      }

  -- a store has as many pages as at the opening
  pub pages_stay : (side : DeskSide D) → DeskStands is_honest state side → side.core.desk.base.page_count ≡ (opened_base side.start).page_count
  pages_stay side stands =
      let found = stands.stands stands.origin stands.opened in
      let base : Base = (now stands.origin.history).base in
      ap (λ (b : Base). b.page_count) (base_is is_honest state stands.origin.history side.core found.plain found.is)
      ∙ (count_stays (changes_of base (journal side)) base ∙ ap (λ (b : Base). b.page_count) stands.opened.base)

  -- and its archive as many slots
  pub capacity_stays : (side : DeskSide D) → DeskStands is_honest state side → side.core.desk.base.capacity ≡ (opened_base side.start).capacity
  capacity_stays side stands =
      let found = stands.stands stands.origin stands.opened in
      let base : Base = (now stands.origin.history).base in
      ap (λ (b : Base). b.capacity) (base_is is_honest state stands.origin.history side.core found.plain found.is)
      ∙ (slots_stay base (changes_of base (journal side)) ∙ ap (λ (b : Base). b.capacity) stands.opened.base)

  module _ (faults : D → ℕ) (z : TableId) (s0 s1 : Sat D) (d0 : DeskSide D) (entered : HasEntered is_honest state faults z s0 s1 d0) where
    pub same_side : (other : DeskSide D) → IsInDesk z s1 other → other ≡ d0
    same_side other inside = same_inside s1.seat.me.0.desk _ _ other d0 inside.desk entered.inside.desk

    -- ---- what the seat has open is open in the desk

    pub idle_there : (who : Who) → who.session ≡ s0.number → is_idle who (mine s0).work ≡ true → is_idle who (work_at (slots_of d0) who.session) ≡ true
    idle_there who own idle = subst (λ (w : Option Work). is_idle who w ≡ true) (entered.work ∙ ap (work_at (slots_of d0)) (sym own)) idle

    pub open_there : (who : Who) → who.session ≡ s0.number → IsOpenIn s0 who → IsOpenAs (slots_of d0) who
    open_there who own is = record { transaction = is.transaction; open_there = ap (work_at (slots_of d0)) own ∙ (sym entered.work ∙ is.open_there); is_of = is.is_of }

    pub looking_there : (who : Who) → who.session ≡ s0.number → IsLookingIn s0 who → IsLookingAs (slots_of d0) who
    looking_there who own is = record { look = is.look; open_there = ap (work_at (slots_of d0)) own ∙ (sym entered.work ∙ is.open_there); is_of = is.is_of }

    pub work_there : (who : Who) → who.session ≡ s0.number → (w : Option Work) → (mine s0).work ≡ w → work_at (slots_of d0) who.session ≡ w
    work_there who own w e = ap (work_at (slots_of d0)) own ∙ (sym entered.work ∙ e)

    pub page_there : (page : ℕ) → IsPage s0 page → page < d0.core.desk.base.page_count
    page_there page is = subst (λ (n : ℕ). page < n) (sym entered.pages) (subst (λ (o : Option (Start D)). IfSome o (λ start. page < (opened_base start).page_count)) entered.opening is)

    pub has_own : (who : Who) (tells : List (Device × ℕ) → Type 0) → who.session ≡ s0.number → IsWhole s0 → tells (mine s0).faults → HasOwn who tells d0 (mine s0)
    has_own who tells own whole told = record {
      parts = whole.parts;
      number = entered.ready.rests.seat.number ∙ sym own;
      work = entered.work ∙ ap (work_at (slots_of d0)) (sym own);
      kept = whole.kept;
      told = told;
      one = subst (λ (n : ℕ). n < d0.start.seats.value) (sym own) (entered.ready.one d0.start entered.opening);
      workers = entered.keeps.workers;
      of_seats = entered.keeps.of_seats;
      tried = entered.keeps.tried;
    }

    -- ---- leaving

    pub may_give : (who : Who) (tells : List (Device × ℕ) → Type 0) (d1 : DeskSide D) → HasOwn who tells d0 (mine s0) → IsVisit is_honest state faults who tells d0 d1 → MayGiveBack is_honest state faults z s1 d1
    may_give who tells d1 own visit = (s0, d0, entered, visit.leaves (held s1) (mine s0) own entered.keeps.later entered.acked)

    module _ (s2 : Sat D) (d1 : DeskSide D) where
      pub visited : Rests z s2 → IsSame s1 s2 → held s2 ≡ held s1 → seen s2 ≡ journal d1 → mine s2 ≡ behind_desk (of_desk is_honest state faults) d0 d1 (mine s1) → d1.start ≡ d0.start → DeskStands is_honest state d1
          → ArchiveBeside is_honest state faults d1 (held s2) → Visited is_honest state faults z s0 s2 d0 d1
      visited rests same kept sees is start stands near =
          let behind : mine s2 ≡ behind_desk (of_desk is_honest state faults) d0 d1 (mine s0) = is ∙ ap (behind_desk (of_desk is_honest state faults) d0 d1) entered.mine_stays in
          let number : s2.number ≡ s0.number = same.number ∙ entered.same.number in
          let own : (mine s0).number ≡ s2.number = entered.ready.rests.seat.number ∙ sym number in
          record {
            ready = record {
              rests = rests;
              one = one_still s0 s2 number (same.opening ∙ entered.same.opening) entered.ready.one;
              lines = ap (λ (h : Holding Work). h.lines) behind ∙ (ap (λ (n : ℕ). lines_of n (journal d1)) own ∙ ap (lines_of s2.number) (sym sees));
              work = subst (λ (w : Option Work). IsOwnWork (seen s2) s2.number w) (sym (ap (λ (h : Holding Work). h.work) behind ∙ ap (work_at (slots_of d1)) own))
                  (subst (λ (l : List Line). IsOwnWork l s2.number (work_at (slots_of d1) s2.number)) (sym sees) (own_work d1 s2.number stands));
            };
            same = record { id = same.id ∙ entered.same.id; number = number; opening = same.opening ∙ entered.same.opening };
            opening = entered.opening;
            start = start;
            stands = entered.stands;
            keeps = entered.keeps;
            stands_after = stands;
            others = entered.front.0;
            place = entered.front.1;
            apart = apart s0.number (seen s0) entered.front.0 (journal d0) entered.front.1 (sym entered.ready.lines ∙ entered.lines);
            work = entered.work;
            seen = sees;
            mine = behind;
            rises = let e = kept in let up = entered.rises in omega (arith, e, up);
            acked = let e = kept in let up = entered.acked in omega (arith, e, up);
            beside = subst (ArchiveBeside is_honest state faults d0) (sym kept) entered.beside;
            beside_after = near;
          }

      pub still_whole : (who : Who) (tells : List (Device × ℕ) → Type 0) → HasOwn who tells d0 (mine s0) → IsVisit is_honest state faults who tells d0 d1 → Visited is_honest state faults z s0 s2 d0 d1 → IsWhole s2
      still_whole who tells own visit v = record {
        parts = ap (λ (h : Holding Work). h.parts) v.mine ∙ own.parts;
        kept = subst (λ (h : Holding Work). KeptIsTold h.work h.faults) (sym v.mine) (visit.keeps (mine s0) own);
      }
