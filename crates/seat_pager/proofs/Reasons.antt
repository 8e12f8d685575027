-- What is known of the refusals of an attempt, call by call.
use Rattle.std.proofs.Common.{◌≡◌, ◌∙◌, ◌⊎◌, ◌+◌, ◌-◌, ◌^◌, ◌<◌, ◌++◌, ◌||◌, ◌==◌, ℕ, Bool, true, false, List, [], length, Option, Some, None, Ok, Err, IsTrue, refl, sym, ap, subst, inl, inr, append-nil}
use Rattle.std.specs.Prelude.{is_some}
use Rattle.retro_base.specs.declared.limits.TheConstants.{EDITED_PAGES}
use Rattle.retro_base.specs.declared.refusal.Refusal.{Refusal}
use Rattle.retro_base.specs.declared.refusal.Refusal.TheVariants as refusal
use Rattle.retro_base.specs.declared.who.Who.{Who}
use Rattle.history.specs.Writes.{is_among, pages_of, rises}
use Rattle.history.specs.declared.journal.Line.{Line}
use Rattle.history.specs.declared.writes.PageImage.{PageImage}
use Rattle.journal_law.specs.Facts.{AreOthers}
use Rattle.journal_law.specs.Lawful.{Ground, IsOverlapBy}
use Rattle.journal_law.specs.Seats.{Attempt, EditGives, IsNew, Moves, Open, ReadGives, View, Waits, keeps as kept_behind}
use Rattle.journal_law.proofs.Journal.{own_others}
use Rattle.journal_law.proofs.Lasts.{overlap_stays}
use Rattle.seat_pager.specs.Asked.{asked_behind}
use Rattle.seat_pager.specs.Transaction.{GoesOn, HasReasons, HasTooMany, IsKeptFor, Paging, is_asked, is_marked}
use Rattle.seat_pager.proofs.Edits.{edited_is, one_too_many}
use Rattle.seat_pager.proofs.Shown.{same_open}

pub overlap_on : (who : Who) (front others : List Line) (session item : ℕ) → AreOthers who.session others → IsOverlapBy who front session item → IsOverlapBy who (front ++ others) session item
overlap_on who front others session item apart is = record {
  other = is.other;
  session_is = is.session_is;
  item_is = is.item_is;
  overlaps = overlap_stays who is.other front others is.overlaps (own_others who others apart);
}

too_many_on : (a b : List PageImage) (asked more : Option ℕ) → ((page : ℕ) → is_marked page asked a ≡ true → is_marked page more b ≡ true) → HasTooMany a asked → HasTooMany b more
too_many_on a b asked more grows has = record { pages = has.pages; rise = has.rise; many = has.many; marked = λ page is. grows page (has.marked page is) }

-- a kept refusal stays what it was
kept_on : (old new : View) (a b : Attempt) (asked more : Option ℕ) → Moves old new [] → b.who ≡ a.who → a.who.session ≡ old.session → ((page : ℕ) → is_marked page asked a.edits ≡ true → is_marked page more b.edits ≡ true)
    → (why : Refusal) → IsKeptFor old a asked why → IsKeptFor new b more why
kept_on old new a b asked more moves who mine grows (refusal.Overlap session item) is =
    let there = overlap_on a.who old.front moves.others session item (subst (λ (n : ℕ). AreOthers n moves.others) (sym mine) moves.apart) is in
    subst (λ (w : Who). IsOverlapBy w new.front session item) (sym who)
    (subst (λ (ls : List Line). IsOverlapBy a.who ls session item) (sym (moves.front ∙ append-nil (old.front ++ moves.others))) there)
kept_on old new a b asked more moves who mine grows (refusal.DiskFault device count) is = subst (λ (g : Ground). count < 2 ^ 64 - 1 → g.faults device < count) (sym moves.opened) is
kept_on old new a b asked more moves who mine grows (refusal.TooManyPages needed) is = (is.0, too_many_on a.edits b.edits asked more grows is.1)
kept_on old new a b asked more moves who mine grows why is = absurd is

marked_more : (other page : ℕ) (edits : List PageImage) → is_marked other None edits ≡ true → is_marked other (Some page) edits ≡ true
marked_more other page edits h = by_test (other == page) (is_among other (pages_of edits)) h
  where
    by_test : (here there : Bool) → there ≡ true → (here || there) ≡ true
    by_test true there h = refl
    by_test false there h = h

-- one call of the pager, by what it does to the attempt
record Step (old new : Paging) (a b : Attempt) : Type 0 where
  waits : Waits old.view new.view (Open b)
  who : b.who ≡ a.who
  since : b.since ≡ a.since
  rise : IsTrue (rises 0 (pages_of a.edits)) → IsTrue (rises 0 (pages_of b.edits))
  grows : (page : ℕ) → is_marked page old.asked a.edits ≡ true → is_marked page new.asked b.edits ≡ true
  keeps : a.kept ≡ old.kept → b.kept ≡ new.kept
  known : HasReasons old → (why : Refusal) → b.kept ≡ Some why → (a.kept ≡ Some why) ⊎ IsKeptFor new.view b new.asked why
  many : HasReasons old → is_some new.asked ≡ true → (is_some old.asked ≡ true) ⊎ HasTooMany b.edits new.asked

reasons_on : (old new : Paging) (a b : Attempt) → old.view.work ≡ Open a → Step old new a b → HasReasons old → HasReasons new
reasons_on old new a b is step has =
    let same : has.attempt ≡ a = same_open old.view.work a has.attempt is has.is_open in
    let mine : a.who.session ≡ old.view.session = ap (λ (x : Attempt). x.who.session) (sym same) ∙ has.mine in
    record {
      attempt = b;
      is_open = step.waits.work_is;
      mine = ap (λ (w : Who). w.session) step.who ∙ mine ∙ sym step.waits.moves.session;
      rise = step.rise (subst (λ (x : Attempt). IsTrue (rises 0 (pages_of x.edits))) same has.rise);
      keeps = step.keeps (ap (λ (x : Attempt). x.kept) (sym same) ∙ has.keeps);
      known = λ why is_kept. elim (step.known has why is_kept) [
        | inl before ↦ kept_on old.view new.view a b old.asked new.asked step.waits.moves step.who mine step.grows why
            (subst (λ (x : Attempt). IsKeptFor old.view x old.asked why) same (has.known why (ap (λ (x : Attempt). x.kept) same ∙ before)))
        | inr now ↦ now
      ];
      many = λ asked. elim (step.many has asked) [
        | inl before ↦ too_many_on a.edits b.edits old.asked new.asked step.grows (subst (λ (x : Attempt). HasTooMany x.edits old.asked) same (has.many before))
        | inr now ↦ now
      ];
    }

goes_by : (old new : Paging) (a b : Attempt) → old.view.work ≡ Open a → Step old new a b → GoesOn old new
goes_by old new a b is step = record {
  moves = step.waits.moves;
  told = step.waits.told_is;
  attempt = λ x at.
      let same : a ≡ x = same_open old.view.work x a at is in
      record {
        attempt = b;
        is_open = step.waits.work_is;
        who = step.who ∙ ap (λ (y : Attempt). y.who) same;
        since = step.since ∙ ap (λ (y : Attempt). y.since) same;
      };
  reasons = reasons_on old new a b is step;
}

-- behind a call that was not refused
pub read_goes : (honest : Type 0) (page : ℕ) (out : List ℕ) (old new : View) (kept : Option Refusal) (asked : Option ℕ) (a : Attempt) (u : Unit {0}) → old.work ≡ Open a → ReadGives honest page out old new a (Ok u)
    → GoesOn (record { view = old; kept = kept; asked = asked }) (record { view = new; kept = kept; asked = asked })
read_goes honest page out old new kept asked a u is gives =
    goes_by _ _ a (record a { read = gives.0 }) is
    (record {
      waits = gives.1;
      who = refl;
      since = refl;
      rise = λ rise. rise;
      grows = λ page is. is;
      keeps = λ is. is;
      known = λ has why is. inl is;
      many = λ has is. inl is;
    })

pub edit_goes : (page : ℕ) (bytes : List ℕ) (old new : View) (kept : Option Refusal) (asked : Option ℕ) (a : Attempt) (u : Unit {0}) → old.work ≡ Open a → EditGives page bytes old new a (Ok u)
    → GoesOn (record { view = old; kept = kept; asked = asked }) (record { view = new; kept = kept; asked = asked })
edit_goes page bytes old new kept asked a u is gives =
    goes_by _ _ a (record a { edits = gives.0 }) is
    (record {
      waits = gives.1;
      who = refl;
      since = refl;
      rise = λ rise. gives.2.rise;
      grows = λ other h. more (other == page) (is_asked other asked) (is_among other (pages_of a.edits)) (is_among other (pages_of gives.0)) (edited_is a.edits gives.0 page bytes gives.2 other) h;
      keeps = λ is. is;
      known = λ has why is. inl is;
      many = λ has is. inl is;
    })
  where
    more : (x here before now : Bool) → now ≡ (x || before) → (here || before) ≡ true → (here || now) ≡ true
    more x true before now e h = refl
    more x false before now e h = e ∙ last x before h
      where
        last : (x before : Bool) → before ≡ true → (x || before) ≡ true
        last true before h = refl
        last false before h = h

-- a call that was refused: for want of memory, or with what it keeps
record Refusing (old new : View) (a : Attempt) (why : Refusal) (New : Type 0) : Type 0 where
  kept : Option Refusal
  waits : Waits old new (Open (record a { kept = kept }))
  keeps : (before : Option Refusal) → a.kept ≡ before → kept ≡ kept_behind why before
  is : ((why ≡ refusal.OutOfMemory) × (kept ≡ a.kept)) ⊎ ((kept ≡ Some why) × ((a.kept ≡ Some why) ⊎ New))

-- what is known where it keeps it for the first time
abbrev Reads : View → Attempt → Refusal → Type 0
Reads new a (refusal.Overlap session item) = IsOverlapBy a.who new.front session item
Reads new a (refusal.DiskFault device count) = IsNew new device count
Reads new a why = ⊥

abbrev Edits : ℕ → View → Attempt → Refusal → Type 0
Edits page new a (refusal.TooManyPages needed) = (needed ≡ EDITED_PAGES + 1) × (length a.edits ≡ EDITED_PAGES) × (is_among page (pages_of a.edits) ≡ false)
Edits page new a why = Reads new a why

read_refusing : (honest : Type 0) (page : ℕ) (out : List ℕ) (old new : View) (a : Attempt) (why : Refusal) → ReadGives honest page out old new a (Err why) → Refusing old new a why (Reads new a why)
read_refusing honest page out old new a (refusal.Overlap session item) gives = record { kept = Some (refusal.Overlap session item); waits = gives.0; keeps = λ before e. refl; is = inr (refl, gives.1) }
read_refusing honest page out old new a (refusal.DiskFault device count) gives = record { kept = Some (refusal.DiskFault device count); waits = gives.0; keeps = λ before e. refl; is = inr (refl, gives.1) }
read_refusing honest page out old new a (refusal.TooManyPages needed) gives = record { kept = a.kept; waits = gives.0; keeps = λ before e. gives.1; is = inr (gives.1, inl gives.1) }
read_refusing honest page out old new a why gives = record { kept = a.kept; waits = gives.0; keeps = λ before e. e; is = inl (gives.1, refl) }

edit_refusing : (page : ℕ) (bytes : List ℕ) (old new : View) (a : Attempt) (why : Refusal) → EditGives page bytes old new a (Err why) → Refusing old new a why (Edits page new a why)
edit_refusing page bytes old new a (refusal.Overlap session item) gives = record { kept = Some (refusal.Overlap session item); waits = gives.0; keeps = λ before e. refl; is = inr (refl, gives.1) }
edit_refusing page bytes old new a (refusal.DiskFault device count) gives = record { kept = Some (refusal.DiskFault device count); waits = gives.0; keeps = λ before e. refl; is = inr (refl, gives.1) }
edit_refusing page bytes old new a (refusal.TooManyPages needed) gives = record { kept = Some (refusal.TooManyPages needed); waits = gives.0; keeps = λ before e. refl; is = inr (refl, gives.1) }
edit_refusing page bytes old new a why gives = record { kept = a.kept; waits = gives.0; keeps = λ before e. e; is = inl (gives.1, refl) }

some_same : (a b : Refusal) → Some a ≡ Some b → a ≡ b
some_same a b e = cc

-- behind a call that was refused
refused_step : (old new : View) (before : Option Refusal) (asked more : Option ℕ) (a : Attempt) (why : Refusal) (New : Type 0) (r : Refusing old new a why New)
    → ((page : ℕ) → is_marked page asked a.edits ≡ true → is_marked page more a.edits ≡ true)
    → (HasReasons (record { view = old; kept = before; asked = asked }) → New → IsKeptFor new (record a { kept = r.kept }) more why)
    → (HasReasons (record { view = old; kept = before; asked = asked }) → is_some more ≡ true → (is_some asked ≡ true) ⊎ HasTooMany a.edits more)
    → Step (record { view = old; kept = before; asked = asked }) (record { view = new; kept = kept_behind why before; asked = more }) a (record a { kept = r.kept })
refused_step old new before asked more a why New r grows kept many = record {
  waits = r.waits;
  who = refl;
  since = refl;
  rise = λ rise. rise;
  grows = grows;
  keeps = r.keeps before;
  known = λ has other is. kept_is has other is r.is;
  many = many;
}
  where
    kept_is : HasReasons (record { view = old; kept = before; asked = asked }) → (other : Refusal) → r.kept ≡ Some other
        → ((why ≡ refusal.OutOfMemory) × (r.kept ≡ a.kept)) ⊎ ((r.kept ≡ Some why) × ((a.kept ≡ Some why) ⊎ New))
        → (a.kept ≡ Some other) ⊎ IsKeptFor new (record a { kept = r.kept }) more other
    kept_is has other is (inl memory) = inl (sym memory.1 ∙ is)
    kept_is has other is (inr (now, inl before)) = inl (before ∙ sym now ∙ is)
    kept_is has other is (inr (now, inr first)) =
        inr (subst (IsKeptFor new (record a { kept = r.kept }) more) (some_same why other (sym now ∙ is)) (kept has first))

pub read_refused_goes : (honest : Type 0) (page : ℕ) (out : List ℕ) (old new : View) (before : Option Refusal) (asked : Option ℕ) (a : Attempt) (why : Refusal) → old.work ≡ Open a → ReadGives honest page out old new a (Err why)
    → GoesOn (record { view = old; kept = before; asked = asked }) (record { view = new; kept = kept_behind why before; asked = asked })
read_refused_goes honest page out old new before asked a why is gives =
    let r = read_refusing honest page out old new a why gives in
    goes_by _ _ a (record a { kept = r.kept }) is (refused_step old new before asked asked a why (Reads new a why) r (λ page is. is) (λ has first. first_read why r.kept first) (λ has is. inl is))
  where
    first_read : (why : Refusal) (kept : Option Refusal) → Reads new a why → IsKeptFor new (record a { kept = kept }) asked why
    first_read (refusal.Overlap session item) kept first = first
    first_read (refusal.DiskFault device count) kept first = first
    first_read why kept first = absurd first

-- the reasons of this attempt
abbrev Before : View → Option Refusal → Option ℕ → Type 0
Before old before asked = HasReasons (record { view = old; kept = before; asked = asked })

module _ (page : ℕ) (old new : View) (before : Option Refusal) (a : Attempt) (is : old.work ≡ Open a) where
  -- it was the first refusal as one too many, or another kept it
  too_many : (needed : ℕ) → (r : Refusing old new a (refusal.TooManyPages needed) (Edits page new a (refusal.TooManyPages needed))) → Before old before None → HasTooMany a.edits (Some page)
  too_many needed r has = by_kept r.is
    where
      same : has.attempt ≡ a
      same = same_open old.work a has.attempt is has.is_open

      by_kept : ((refusal.TooManyPages needed ≡ refusal.OutOfMemory) × (r.kept ≡ a.kept))
          ⊎ ((r.kept ≡ Some (refusal.TooManyPages needed)) × ((a.kept ≡ Some (refusal.TooManyPages needed)) ⊎ Edits page new a (refusal.TooManyPages needed))) → HasTooMany a.edits (Some page)
      by_kept (inl memory) = absurd (other memory.0)
        where
          other : refusal.TooManyPages needed ≡ refusal.OutOfMemory → ⊥
          other e = cc
      by_kept (inr (now, inl kept)) =
          let known : IsKeptFor old has.attempt None (refusal.TooManyPages needed) = has.known (refusal.TooManyPages needed) (ap (λ (x : Attempt). x.kept) same ∙ kept) in
          too_many_on a.edits a.edits None (Some page) (λ other h. marked_more other page a.edits h) (subst (λ (x : Attempt). HasTooMany x.edits None) same known.1)
      by_kept (inr (now, inr first)) = first_of_all first
        where
          first_of_all : Edits page new a (refusal.TooManyPages needed) → HasTooMany a.edits (Some page)
          first_of_all first =
              let found = one_too_many a.edits EDITED_PAGES page (subst (λ (x : Attempt). IsTrue (rises 0 (pages_of x.edits))) same has.rise) first.1 first.2 in
              record { pages = found.0; rise = found.1; many = found.2; marked = found.3 }

  first_edit : (asked : Option ℕ) (why : Refusal) (kept : Option Refusal) → ((needed : ℕ) → why ≡ refusal.TooManyPages needed → HasTooMany a.edits asked) → Edits page new a why → IsKeptFor new (record a { kept = kept }) asked why
  first_edit asked (refusal.Overlap session item) kept many first = first
  first_edit asked (refusal.DiskFault device count) kept many first = first
  first_edit asked (refusal.TooManyPages needed) kept many first = (first.0, many needed refl)
  first_edit asked why kept many first = absurd first

  many_of : (asked : Option ℕ) → is_some asked ≡ true → Before old before asked → HasTooMany a.edits asked
  many_of asked some has = subst (λ (x : Attempt). HasTooMany x.edits asked) (same_open old.work a has.attempt is has.is_open) (has.many some)

  -- where no page was asked for, and none is now
  unasked : (why : Refusal) → ((needed : ℕ) → why ≡ refusal.TooManyPages needed → ⊥) → Refusing old new a why (Edits page new a why)
      → GoesOn (record { view = old; kept = before; asked = None }) (record { view = new; kept = kept_behind why before; asked = None })
  unasked why other r =
      goes_by _ _ a (record a { kept = r.kept }) is
      (refused_step old new before None None a why (Edits page new a why) r (λ q h. h) (λ has first. first_edit None why r.kept (λ needed e. absurd (other needed e)) first) (λ has some. inl some))

  pub edit_refused_goes : (bytes : List ℕ) (asked : Option ℕ) (why : Refusal) → EditGives page bytes old new a (Err why)
      → GoesOn (record { view = old; kept = before; asked = asked }) (record { view = new; kept = kept_behind why before; asked = asked_behind asked page why })
  edit_refused_goes bytes (Some first) why gives =
      let r = edit_refusing page bytes old new a why gives in
      goes_by _ _ a (record a { kept = r.kept }) is
      (refused_step old new before (Some first) (Some first) a why (Edits page new a why) r (λ q h. h) (λ has now. first_edit (Some first) why r.kept (λ needed e. many_of (Some first) refl has) now) (λ has some. inl some))
  edit_refused_goes bytes None (refusal.TooManyPages needed) gives =
      let r = edit_refusing page bytes old new a (refusal.TooManyPages needed) gives in
      goes_by _ _ a (record a { kept = r.kept }) is
      (refused_step old new before None (Some page) a (refusal.TooManyPages needed) (Edits page new a (refusal.TooManyPages needed)) r (λ q h. marked_more q page a.edits h)
      (λ has now. first_edit (Some page) (refusal.TooManyPages needed) r.kept (λ n e. too_many needed r has) now) (λ has some. inr (too_many needed r has)))
  edit_refused_goes bytes None why gives = unasked why (λ needed e. cc) (edit_refusing page bytes old new a why gives)
