-- Pages as of a snapshot that a look pins.
use Rattle.std.proofs.Common.{◌≡◌, ◌⊎◌, ◌++◌, ◌==◌, ◌||◌, ◌∙◌, ℕ, Bool, true, false, cond, eqb, List, [], ◌∷◌, take, Option, Some, None, Ok, Err, refl, sym, ap, subst, inl, inr, eq-eqb}
use Rattle.std.specs.Prelude.{is_some, nat_lt}
use Rattle.std.proofs.lemmas.Bool.{eqb-true}
use Rattle.disk_model.specs.Disk.{State}
use Rattle.retro_base.specs.declared.refusal.Refusal.TheVariants.{NoSuchSnapshot}
use Rattle.retro_base.specs.declared.who.Who.{Who}
use Rattle.history.specs.declared.entry.Base.{Base}
use Rattle.history.specs.declared.entry.Mark.{Mark as MarkOf}
use Rattle.history.specs.declared.journal.Line.{Line}
use Rattle.history.specs.History.{History, now, pages_as_of}
use Rattle.history.specs.Journal.{after_journal}
use Rattle.history.specs.Laws.{IsConsistent}
use Rattle.history.specs.Lines.{base_of}
use Rattle.history.specs.Marks.{is_retained}
use Rattle.history.specs.Sound.{IsSound}
use Rattle.history.specs.Writes.{is_among}
use Rattle.history.proofs.Journals.{front_is_sound}
use Rattle.history.proofs.Lines.{base_after_journal, pages_as_of_stay}
use Rattle.history.proofs.MarkLaws.{retained-newest}
use Rattle.history.proofs.SoundLaws.{base_stays_right}
use Rattle.journal_book.specs.declared.work.Look.{Look}
use Rattle.journal_book.specs.declared.work.Work.TheVariants.{Looking}
use Rattle.journal_law.specs.Pages.{Pages, page_world}
use Rattle.journal_law.specs.Seats as seat
use Rattle.journal_law.specs.Seats.{Pins}
use Rattle.journal_law.specs.World.{Mark, World, as_of, held_by, mark_of, newest, oldest_of}
use Rattle.turn.specs.Seats.{mine, opening, seen}
use Rattle.store.specs.declared.start.Start.{Start}
use Rattle.store.specs.Past.{IsPinnedBy}
use Rattle.store.specs.Seats.{Sat}
use Rattle.store.specs.Start.{opened_base}
use Rattle.store.proofs.Finding.{some_is}
use Rattle.journal_law.specs.declared.seat.ToldFault.{ToldFault}
use Rattle.store.specs.Ground.{world_of}
use Rattle.store.specs.Seen.{IsSeated, ground_in, pins_of_look, view_of}
use Rattle.store.specs.Worlds.{AreMarksOf, AreNamed, IsWorldOf}
use Rattle.store.proofs.Gives.{own_names}
use Rattle.store.proofs.Named.{names_stay}
use Rattle.store.proofs.Worlds.{world_is}

-- ---- a snapshot among those of a world

pub mark_at : (n : ℕ) (world : World Pages) (held : Pages) → as_of n world ≡ Ok held → (mark : Mark Pages) × (mark_of n world.marks ≡ Some mark) × (mark.held ≡ held)
mark_at n world held e = at ((n == 0) || nat_lt (newest world) n) (mark_of n world.marks) refl e where
  at : (test : Bool) (m : Option (Mark Pages)) → mark_of n world.marks ≡ m → cond test (Err (NoSuchSnapshot n (newest world))) (held_by n (oldest_of world.marks) m) ≡ Ok held → (mark : Mark Pages) × (mark_of n world.marks ≡ Some mark) × (mark.held ≡ held)
  at true m is f = absurd (cc f)
  at false None is f = absurd (cc f)
  at false (Some mark) is f = (mark, is, cc f)

named_of : (h : History) (ms : List MarkOf) (ps : List (Mark Pages)) → AreMarksOf h ms ps → AreNamed ms ps
named_of h [] [] are = tt
named_of h [] (p ∷ ps) are = absurd are
named_of h (m ∷ ms) [] are = absurd are
named_of h (m ∷ ms) (p ∷ ps) are = (are.0, are.1, named_of h ms ps are.3)

retained_at : (n : ℕ) (ms : List MarkOf) (ps : List (Mark Pages)) (mark : Mark Pages) → AreNamed ms ps → mark_of n ps ≡ Some mark → is_retained n ms ≡ true
retained_at n [] [] mark are e = absurd (cc e)
retained_at n [] (p ∷ ps) mark are e = absurd are
retained_at n (m ∷ ms) [] mark are e = absurd are
retained_at n (m ∷ ms) (p ∷ ps) mark are e = at (m.number == n) (p.number == n) (ap (λ (k : ℕ). k == n) (sym are.0)) (retained_at n ms ps mark are.2) e where
  at : (one other : Bool) → one ≡ other → (mark_of n ps ≡ Some mark → is_retained n ms ≡ true) → cond other (Some p) (mark_of n ps) ≡ Some mark → (one || is_retained n ms) ≡ true
  at true other same again f = refl
  at false true same again f = absurd (cc same)
  at false false same again f = again f

held_at : (h : History) (n : ℕ) (ms : List MarkOf) (ps : List (Mark Pages)) (mark : Mark Pages) (page : ℕ) → AreMarksOf h ms ps → mark_of n ps ≡ Some mark → mark.held page ≡ pages_as_of h n page
held_at h n [] [] mark page are e = absurd (cc e)
held_at h n [] (p ∷ ps) mark page are e = absurd are
held_at h n (m ∷ ms) [] mark page are e = absurd are
held_at h n (m ∷ ms) (p ∷ ps) mark page are e = at (eqb p.number n) refl (held_at h n ms ps mark page are.3) e where
  at : (test : Bool) → eqb p.number n ≡ test → (mark_of n ps ≡ Some mark → mark.held page ≡ pages_as_of h n page) → cond test (Some p) (mark_of n ps) ≡ Some mark → mark.held page ≡ pages_as_of h n page
  at true is again f = ap (λ (x : Mark Pages). x.held page) (sym (some_is p mark f)) ∙ (are.2 page ∙ ap (λ (k : ℕ). pages_as_of h k page) (sym are.0 ∙ eqb-true p.number n is))
  at false is again f = again f

-- ---- while it is retained it stays

pub past_stays : (h : History) (world : World Pages) (since rest : List Line) (n page : ℕ) (held : Pages) → IsConsistent h → IsWorldOf h world → IsSound (now h).base (since ++ rest) → is_retained n (base_of (now h).base (since ++ rest)).marks ≡ true
    → as_of n (page_world world since) ≡ Ok held → pages_as_of (after_journal h (since ++ rest)) n page ≡ held page
past_stays h world since rest n page held right is sound retained held_is =
    let front = front_is_sound (now h).base since rest sound in
    let there = world_is h world since right is front in
    let found = mark_at n (page_world world since) held held_is in
    let was : is_retained n (base_of (now h).base since).marks ≡ true =
    ap (λ (b : Base). is_retained n b.marks) (sym (base_after_journal h since))
    ∙ retained_at n (now (after_journal h since)).base.marks (page_world world since).marks found.0 (named_of (after_journal h since) (now (after_journal h since)).base.marks (page_world world since).marks there.marks) found.1 in
    let low = retained-newest (base_of (now h).base since).captures 0 0 n (base_of (now h).base since).marks (base_stays_right (now h).base since front).marks was in
    pages_as_of_stay h since rest n right sound low retained page
    ∙ (sym (held_at (after_journal h since) n (now (after_journal h since)).base.marks (page_world world since).marks found.0 page there.marks found.1) ∙ ap (λ (f : Pages). f page) found.2)

-- ---- a look pins what it is at

pub some_there : {X : Type 0} (o : Option X) → is_some o ≡ true → (x : X) × (o ≡ Some x)
some_there None e = absurd (cc e)
some_there (Some x) e = (x, refl)

module _ {D : Type 0} (state : D → State) (faults : D → ℕ) (s : Sat D) (who : Who) (asked : Option ℕ) (told : List ToldFault) (seated : IsSeated who asked told s) (look : Look) (is : (mine s).work ≡ Some (Looking look)) (start : Start D) (o : opening s ≡ Some start) (n : ℕ)
    (pins : Pins (view_of state faults asked told s) (let l : seat.Look = record { who = look.who; since = take look.began (seen s); snapshot = asked } in l) n) where
  abbrev Since : List Line
  Since = take look.began (seen s)

  named : AreNamed (base_of (opened_base start) Since).marks (page_world (ground_in state faults (opening s)).pages Since).marks
  named = subst (λ (x : Option (Start D)). AreNamed (base_of (opened_base start) Since).marks (page_world (ground_in state faults x).pages Since).marks) (sym o)
      (names_stay (opened_base start) (world_of state start.core.value start.archive.value) Since (own_names state start.core.value start.archive.value))

  retained_then : is_retained n (base_of (opened_base start) Since).marks ≡ true
  retained_then =
      let found = mark_at n (page_world (ground_in state faults (opening s)).pages Since) pins.1.0 pins.1.1 in
      retained_at n (base_of (opened_base start) Since).marks (page_world (ground_in state faults (opening s)).pages Since).marks found.0 named found.1

  among : (a : Option ℕ) → (a ≡ Some n) ⊎ (a ≡ None) → is_among n (pins_of_look a (seen s) start look) ≡ true
  among (Some k) (inl e) = ap (λ (b : Bool). b || false) (eq-eqb k n (some_is k n e))
  among (Some k) (inr e) = absurd (cc e)
  among None either = retained_then

  pub pinned_so : IsPinnedBy s n
  pinned_so = record { look = look; there = is; pinned = ap (is_among n) (seated.pins start look o is) ∙ among asked pins.0 }
