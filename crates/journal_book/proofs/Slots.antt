-- The works of sessions, and the table of latches, behind a change of one session's work.
use Rattle.std.proofs.Common.{◌≡◌, ◌∙◌, ◌<◌, ◌+◌, ◌||◌, ◌&&◌, not, ℕ, zero, suc, Bool, true, false, cond, eqb, List, [], ◌∷◌, ◌++◌, length, set, get_or, Option, Some, None, refl, sym, ap, subst, arith}
use Rattle.std.specs.Option.{option_or}
use Rattle.std.specs.List.{AllByRecursion}
use Rattle.std.specs.Prelude.{IsSome}
use Rattle.std.proofs.lemmas.List.{length-set, get_or_default}
use Rattle.std.proofs.lemmas.Bool.{eqb-true, eqb-false, eq-eqb}
use Rattle.std.proofs.lemmas.Bool.Decides.{nat_tests}
use Rattle.retro_base.specs.declared.who.Who.{Who}
use Rattle.history.specs.declared.writes.PageImage.{PageImage}
use Rattle.history.specs.Writes.{pages_of, is_among}
use Rattle.journal_book.specs.declared.work.Transaction.{Transaction}
use Rattle.journal_book.specs.declared.work.Work.{Work}
use Rattle.journal_book.specs.declared.work.Work.TheVariants.{Open, Looking, KeptDrop}
use Rattle.journal_book.specs.Book.{marked}
use Rattle.journal_book.specs.Works.{Works, AreFree, AreLatches, edits_of, edits_page, latched_by, latch_holder, with_edit, with_work, work_at}
use Rattle.journal_book.proofs.EditLists.{edit_among}
use Rattle.journal_book.proofs.Ends.{marked_at, length-marked, set_at_page}

abbrev pub works_of : ℕ → List (Option Work) → Works
works_of pages slots = record { pages = pages; slots = slots }

same_suc : (a b : ℕ) → eqb a b ≡ eqb (suc a) (suc b)
same_suc a b = grind (arith, nat_tests)

not_first : (a : ℕ) → eqb (suc a) 0 ≡ false
not_first a = grind (arith, nat_tests)

not_later : (a : ℕ) → eqb 0 (suc a) ≡ false
not_later a = grind (arith, nat_tests)

abbrev one_of : Option Work → Option Work → Bool → Option Work
one_of work other test = cond test work other

-- one session's work alone changes
pub work_at_with : (slots : List (Option Work)) (session other : ℕ) (work : Option Work) → work_at (with_work slots session work) other ≡ cond (eqb other session) work (work_at slots other)
work_at_with [] zero zero work = refl
work_at_with [] zero (suc other) work = sym (ap (one_of work None) (not_first other))
work_at_with [] (suc session) zero work = sym (ap (one_of work None) (not_later session))
work_at_with [] (suc session) (suc other) work = work_at_with [] session other work ∙ ap (one_of work None) (same_suc other session)
work_at_with (slot ∷ slots) zero zero work = refl
work_at_with (slot ∷ slots) zero (suc other) work = sym (ap (one_of work (work_at slots other)) (not_first other))
work_at_with (slot ∷ slots) (suc session) zero work = sym (ap (one_of work slot) (not_later session))
work_at_with (slot ∷ slots) (suc session) (suc other) work = work_at_with slots session other work ∙ ap (one_of work (work_at slots other)) (same_suc other session)

pub with_work_set : (slots : List (Option Work)) (session : ℕ) (work : Option Work) → session < length slots → with_work slots session work ≡ set slots session work
with_work_set [] session work lt = absurd (omega arith)
with_work_set (slot ∷ slots) zero work lt = refl
with_work_set (slot ∷ slots) (suc session) work lt = ap (λ (l : List (Option Work)). slot ∷ l) (with_work_set slots session work (omega (arith, lt)))

-- a session with a work has a slot
pub has_slot : (slots : List (Option Work)) (session : ℕ) (work : Work) → work_at slots session ≡ Some work → session < length slots
has_slot [] session work e = absurd cc
has_slot (slot ∷ slots) zero work e = omega arith
has_slot (slot ∷ slots) (suc session) work e = omega (arith, has_slot slots session work e)

abbrev pub latch_behind : ℕ → Option Work → Option Work → ℕ → ℕ → ℕ
latch_behind page old new session latch = cond (edits_page page new) (session + 1) (cond (edits_page page old) 0 latch)

pub latches_with : (latches new : List ℕ) (slots : List (Option Work)) (session : ℕ) (work : Option Work) → AreLatches latches slots → length new ≡ length latches
    → ((page : ℕ) → page < length latches → get_or new page 0 ≡ latch_behind page (work_at slots session) work session (get_or latches page 0))
    → ((page : ℕ) → edits_page page work ≡ true → page < length latches)
    → ((page other : ℕ) → edits_page page work ≡ true → edits_page page (work_at slots other) ≡ true → other ≡ session)
    → AreLatches new (with_work slots session work)
latches_with latches new slots session work are long behind inside alone = record {
  named = λ page other lt is.
      let within : page < length latches = omega (arith, lt, long) in
      ap (edits_page page) (work_at_with slots session other work)
      ∙ named page other within (edits_page page work) refl (edits_page page (work_at slots session)) refl (eqb other session) refl (sym (behind page within) ∙ is);
  held = λ page other is. held page other (eqb other session) refl (ap (edits_page page) (sym (work_at_with slots session other work)) ∙ is);
} where
  named : (page other : ℕ) → page < length latches → (b : Bool) → edits_page page work ≡ b → (c : Bool) → edits_page page (work_at slots session) ≡ c → (d : Bool) → eqb other session ≡ d
      → cond b (session + 1) (cond c 0 (get_or latches page 0)) ≡ other + 1 → edits_page page (cond d work (work_at slots other)) ≡ true
  named page other lt true e c f true g is = e
  named page other lt true e c f false g is = absurd (eqb-false other session g (omega (arith, is)))
  named page other lt false e true f d g is = absurd (omega (arith, is))
  named page other lt false e false f true g is =
      absurd (cc (f, ap (λ (n : ℕ). edits_page page (work_at slots n)) (eqb-true other session g), are.named page other lt is))
  named page other lt false e false f false g is = are.named page other lt is

  held : (page other : ℕ) → (d : Bool) → eqb other session ≡ d → edits_page page (cond d work (work_at slots other)) ≡ true → (page < length new) × (get_or new page 0 ≡ other + 1)
  held page other true g is =
      let within : page < length latches = inside page is in
      (omega (arith, within, long), behind page within ∙ ap (λ (b : Bool). cond b (session + 1) (cond (edits_page page (work_at slots session)) 0 (get_or latches page 0))) is ∙ omega (arith, eqb-true other session g))
  held page other false g is =
      let at = are.held page other is in
      (omega (arith, at.0, long), behind page at.0 ∙ left (edits_page page work) refl (edits_page page (work_at slots session)) refl at.1) where
        left : (b : Bool) → edits_page page work ≡ b → (c : Bool) → edits_page page (work_at slots session) ≡ c → get_or latches page 0 ≡ other + 1 → cond b (session + 1) (cond c 0 (get_or latches page 0)) ≡ other + 1
        left true e c f here = absurd (eqb-false other session g (alone page other e is))
        left false e true f here = absurd (eqb-false other session g (omega (arith, here, (are.held page session f).1)))
        left false e false f here = here

-- the work keeps its edits
pub latches_same : (latches : List ℕ) (slots : List (Option Work)) (session : ℕ) (work : Option Work) → AreLatches latches slots → edits_of work ≡ edits_of (work_at slots session) → AreLatches latches (with_work slots session work)
latches_same latches slots session work are same =
    latches_with latches latches slots session work are refl behind (λ page is. (are.held page session (old page is)).0)
    (λ page other is there. omega (arith, (are.held page session (old page is)).1, (are.held page other there).1)) where
      old : (page : ℕ) → edits_page page work ≡ true → edits_page page (work_at slots session) ≡ true
      old page is = ap (λ (l : List PageImage). is_among page (pages_of l)) (sym same) ∙ is

      go : (page : ℕ) → (b : Bool) → edits_page page (work_at slots session) ≡ b → get_or latches page 0 ≡ cond b (session + 1) (cond b 0 (get_or latches page 0))
      go page true e = (are.held page session e).1
      go page false e = refl

      behind : (page : ℕ) → page < length latches → get_or latches page 0 ≡ latch_behind page (work_at slots session) work session (get_or latches page 0)
      behind page lt =
          go page (edits_page page (work_at slots session)) refl
          ∙ ap (λ (l : List PageImage). cond (is_among page (pages_of l)) (session + 1) (cond (edits_page page (work_at slots session)) 0 (get_or latches page 0))) (sym same)

-- the work goes
pub latches_taken : (latches : List ℕ) (slots : List (Option Work)) (session : ℕ) → AreLatches latches slots
    → AreLatches (marked latches 0 (edits_of (work_at slots session))) (with_work slots session None)
latches_taken latches slots session are =
    latches_with latches (marked latches 0 (edits_of (work_at slots session))) slots session None are (length-marked latches 0 (edits_of (work_at slots session)))
    (λ page lt. marked_at latches 0 page (edits_of (work_at slots session)) lt) (λ page is. absurd cc) (λ page other is there. absurd cc)

pub taken_free : (latches : List ℕ) (slots : List (Option Work)) (session page other : ℕ) → AreLatches latches slots → is_among page (pages_of (edits_of (work_at slots session))) ≡ true
    → (page < length latches) × (edits_page page (work_at (with_work slots session None) other) ≡ false)
taken_free latches slots session page other are is =
    ((are.held page session is).0, ap (edits_page page) (work_at_with slots session other None) ∙ go (eqb other session) refl (edits_page page (work_at slots other)) refl) where
      go : (b : Bool) → eqb other session ≡ b → (c : Bool) → edits_page page (work_at slots other) ≡ c → edits_page page (cond b None (work_at slots other)) ≡ false
      go true e c f = refl
      go false e true f = absurd (eqb-false other session e (omega (arith, (are.held page session is).1, (are.held page other f).1)))
      go false e false f = f

-- a work comes where none edits its pages
pub latches_put : (latches : List ℕ) (slots : List (Option Work)) (session : ℕ) (work : Option Work) → AreLatches latches slots → edits_of (work_at slots session) ≡ []
    → AreFree (record { pages = length latches; slots = slots }) (edits_of work) → AreLatches (marked latches (session + 1) (edits_of work)) (with_work slots session work)
latches_put latches slots session work are none free =
    latches_with latches (marked latches (session + 1) (edits_of work)) slots session work are (length-marked latches (session + 1) (edits_of work))
    (λ page lt.
    marked_at latches (session + 1) page (edits_of work) lt
    ∙ ap (λ (l : List PageImage). cond (edits_page page work) (session + 1) (cond (is_among page (pages_of l)) 0 (get_or latches page 0))) (sym none))
    (λ page is. free.in_store page is) (λ page other is there. absurd (cc (there, free.unlatched page other is)))

-- one page more is edited
pub latches_edit : (latches : List ℕ) (slots : List (Option Work)) (session : ℕ) (t new : Transaction) (image : PageImage) → AreLatches latches slots → work_at slots session ≡ Some (Open t) → image.page < length latches
    → ((other : ℕ) → edits_page image.page (work_at slots other) ≡ true → other ≡ session) → new.edits ≡ with_edit image t.edits
    → AreLatches (set latches image.page (session + 1)) (with_work slots session (Some (Open new)))
latches_edit latches slots session t new image are is lt alone made =
    latches_with latches (set latches image.page (session + 1)) slots session (Some (Open new)) are (length-set latches image.page (session + 1))
    (λ page within. behind page within (eqb image.page page) refl (is_among page (pages_of t.edits)) refl)
    (λ page edits. inside page (eqb image.page page) refl (parts page edits))
    (λ page other edits there. only page other there (eqb image.page page) refl (parts page edits)) where
      old : (page : ℕ) → edits_page page (work_at slots session) ≡ is_among page (pages_of t.edits)
      old page = ap (edits_page page) is

      pages : (page : ℕ) → is_among page (pages_of new.edits) ≡ eqb image.page page || is_among page (pages_of t.edits)
      pages page = ap (λ (l : List PageImage). is_among page (pages_of l)) made ∙ edit_among page image t.edits

      parts : (page : ℕ) → is_among page (pages_of new.edits) ≡ true → eqb image.page page || edits_page page (work_at slots session) ≡ true
      parts page edits = ap (λ (b : Bool). eqb image.page page || b) (old page) ∙ sym (pages page) ∙ edits

      inside : (page : ℕ) → (b : Bool) → eqb image.page page ≡ b → b || edits_page page (work_at slots session) ≡ true → page < length latches
      inside page true e there = omega (arith, lt, eqb-true image.page page e)
      inside page false e there = (are.held page session there).0

      only : (page other : ℕ) → edits_page page (work_at slots other) ≡ true → (b : Bool) → eqb image.page page ≡ b → b || edits_page page (work_at slots session) ≡ true → other ≡ session
      only page other there true e own = alone other (subst (λ (p : ℕ). edits_page p (work_at slots other) ≡ true) (sym (eqb-true image.page page e)) there)
      only page other there false e own = omega (arith, (are.held page session own).1, (are.held page other there).1)

      both : (page : ℕ) → (b c : Bool) → is_among page (pages_of t.edits) ≡ c → eqb image.page page ≡ b → cond (is_among page (pages_of new.edits)) (session + 1) (cond (edits_page page (work_at slots session)) 0 (get_or latches page 0)) ≡ cond (b || c) (session + 1) (cond c 0 (get_or latches page 0))
      both page b c f e =
          ap (λ (x : Bool). cond x (session + 1) (cond (edits_page page (work_at slots session)) 0 (get_or latches page 0))) (pages page)
          ∙ ap (λ (x : Bool). cond (x || is_among page (pages_of t.edits)) (session + 1) (cond (edits_page page (work_at slots session)) 0 (get_or latches page 0))) e
          ∙ ap (λ (x : Bool). cond (b || is_among page (pages_of t.edits)) (session + 1) (cond x 0 (get_or latches page 0))) (old page)
          ∙ ap (λ (x : Bool). cond (b || x) (session + 1) (cond x 0 (get_or latches page 0))) f

      behind : (page : ℕ) → page < length latches → (b : Bool) → eqb image.page page ≡ b → (c : Bool) → is_among page (pages_of t.edits) ≡ c
          → get_or (set latches image.page (session + 1)) page 0 ≡ cond (is_among page (pages_of new.edits)) (session + 1) (cond (edits_page page (work_at slots session)) 0 (get_or latches page 0))
      behind page within true e c f = set_at_page latches (session + 1) page image.page true e within ∙ sym (both page true c f e)
      behind page within false e true f = set_at_page latches (session + 1) page image.page false e within ∙ (are.held page session (old page ∙ f)).1 ∙ sym (both page false true f e)
      behind page within false e false f = set_at_page latches (session + 1) page image.page false e within ∙ sym (both page false false f e)

-- no session edits the page
pub holder_none : (who : Who) (page : ℕ) (slots : List (Option Work)) → ((session : ℕ) → edits_page page (work_at slots session) ≡ false) → latch_holder who page slots ≡ None
holder_none who page [] none = refl
holder_none who page (slot ∷ slots) none =
    ap (λ (o : Option Who). option_or o (latch_holder who page slots)) (free slot (none 0)) ∙ holder_none who page slots (λ session. none (suc session)) where
      free : (work : Option Work) → edits_page page work ≡ false → latched_by who page work ≡ None
      free (Some (Open t)) e = ap (λ (b : Bool). cond (b && not (eqb t.who.session who.session)) (Some t.who) None) e
      free (Some (Looking look)) e = refl
      free (Some (KeptDrop other)) e = refl
      free None e = refl

-- this session alone edits the page
pub holder_only : (who : Who) (page : ℕ) (slots : List (Option Work)) (session : ℕ) → ((other : ℕ) → edits_page page (work_at slots other) ≡ true → other ≡ session)
    → latch_holder who page slots ≡ latched_by who page (work_at slots session)
holder_only who page [] session only = refl
holder_only who page (slot ∷ slots) zero only = ap (option_or (latched_by who page slot)) (holder_none who page slots (λ other. none other (edits_page page (work_at slots other)) refl)) ∙ or_none (latched_by who page slot) where
  none : (other : ℕ) → (b : Bool) → edits_page page (work_at slots other) ≡ b → edits_page page (work_at slots other) ≡ false
  none other true e = absurd (omega (arith, only (suc other) e))
  none other false e = e

  or_none : (a : Option Who) → option_or a None ≡ a
  or_none None = refl
  or_none (Some x) = refl
holder_only who page (slot ∷ slots) (suc session) only =
    ap (λ (o : Option Who). option_or o (latch_holder who page slots)) (free slot (first (edits_page page slot) refl)) ∙ holder_only who page slots session (λ other is. omega (arith, only (suc other) is)) where
      first : (b : Bool) → edits_page page slot ≡ b → edits_page page slot ≡ false
      first true e = absurd (omega (arith, only 0 e))
      first false e = e

      free : (work : Option Work) → edits_page page work ≡ false → latched_by who page work ≡ None
      free (Some (Open t)) e = ap (λ (b : Bool). cond (b && not (eqb t.who.session who.session)) (Some t.who) None) e
      free (Some (Looking look)) e = refl
      free (Some (KeptDrop other)) e = refl
      free None e = refl

pub with_work_more : (slots : List (Option Work)) (session : ℕ) (work : Option Work) → length slots < session → with_work (slots ++ None ∷ []) session work ≡ with_work slots session work
with_work_more [] zero work lt = absurd (omega arith)
with_work_more [] (suc session) work lt = refl
with_work_more (slot ∷ slots) zero work lt = absurd (omega arith)
with_work_more (slot ∷ slots) (suc session) work lt = ap (λ (l : List (Option Work)). slot ∷ l) (with_work_more slots session work (omega (arith, lt)))

pub with_work_end : (slots : List (Option Work)) (session : ℕ) (work : Option Work) → length slots ≡ session → with_work slots session work ≡ slots ++ work ∷ []
with_work_end [] zero work e = refl
with_work_end [] (suc session) work e = absurd (omega arith)
with_work_end (slot ∷ slots) zero work e = absurd (omega arith)
with_work_end (slot ∷ slots) (suc session) work e = ap (λ (l : List (Option Work)). slot ∷ l) (with_work_end slots session work (omega (arith, e)))

pub all_within : (count : ℕ) (images : List PageImage) → ((page : ℕ) → is_among page (pages_of images) ≡ true → page < count) → AllByRecursion (λ (image : PageImage). image.page < count) images
all_within count [] each = tt
all_within count (image ∷ images) each =
    (each image.page (ap (λ (b : Bool). b || is_among image.page (pages_of images)) (eq-eqb image.page image.page refl)), all_within count images (λ page is. each page (or_right (eqb image.page page) _ is))) where
      or_right : (a b : Bool) → b ≡ true → a || b ≡ true
      or_right true b e = refl
      or_right false b e = e

pub works_is : (pages other : ℕ) (slots more : List (Option Work)) → pages ≡ other → slots ≡ more → works_of pages slots ≡ works_of other more
works_is pages other slots more p e = cc

pub one_open : (a b : Transaction) → Some (Open a) ≡ Some (Open b) → a ≡ b
one_open a b e = cc

-- a slot that is emptied and filled
pub refilled : (slots : List (Option Work)) (session : ℕ) (old : Work) (work : Option Work) → work_at slots session ≡ Some old → set (set slots session None) session work ≡ with_work slots session work
refilled [] session old work e = absurd cc
refilled (slot ∷ slots) zero old work e = refl
refilled (slot ∷ slots) (suc session) old work e = ap (λ (l : List (Option Work)). slot ∷ l) (refilled slots session old work e)

pub with_work_same : (slots : List (Option Work)) (session : ℕ) (work : Work) → work_at slots session ≡ Some work → with_work slots session (Some work) ≡ slots
with_work_same [] session work e = absurd cc
with_work_same (slot ∷ slots) zero work e = ap (λ (w : Option Work). w ∷ slots) (sym e)
with_work_same (slot ∷ slots) (suc session) work e = ap (λ (l : List (Option Work)). slot ∷ l) (with_work_same slots session work e)

pub latches_open : (latches : List ℕ) (slots : List (Option Work)) (session : ℕ) (t new : Transaction) → AreLatches latches slots → work_at slots session ≡ Some (Open t) → new.edits ≡ t.edits
    → AreLatches latches (set (set slots session None) session (Some (Open new)))
latches_open latches slots session t new are is same =
    subst (AreLatches latches) (sym (refilled slots session (Open t) (Some (Open new)) is)) (latches_same latches slots session (Some (Open new)) are (same ∙ sym (ap edits_of is)))

pub read_slot : (slots : List (Option Work)) (session : ℕ) (x : Option Work) → x ≡ get_or slots session x → session < length slots → x ≡ work_at slots session
read_slot slots session x is lt = is ∙ get_or_default slots session x None lt

pub some_slot : (slots : List (Option Work)) (session : ℕ) → IsSome (work_at slots session) → session < length slots
some_slot [] session e = absurd cc
some_slot (slot ∷ slots) zero e = omega arith
some_slot (slot ∷ slots) (suc session) e = omega (arith, some_slot slots session e)

pub held_within : (latches : List ℕ) (slots : List (Option Work)) (session : ℕ) → AreLatches latches slots → AllByRecursion (λ (image : PageImage). image.page < length latches) (edits_of (work_at slots session))
held_within latches slots session are = all_within (length latches) (edits_of (work_at slots session)) (λ page is. (are.held page session is).0)

-- a session that edits a page has a slot
pub editing_slot : (slots : List (Option Work)) (session page : ℕ) → edits_page page (work_at slots session) ≡ true → session < length slots
editing_slot [] session page e = absurd cc
editing_slot (slot ∷ slots) zero page e = omega arith
editing_slot (slot ∷ slots) (suc session) page e = omega (arith, editing_slot slots session page e)
