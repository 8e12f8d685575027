-- What a look shows, call by call.
use Rattle.std.proofs.Common.{◌≡◌, ◌∙◌, ◌⊎◌, ◌&&◌, ◌-◌, ◌^◌, ◌<◌, ℕ, suc, Bool, true, false, List, ◌∷◌, Option, Some, None, Result, Ok, Err, IsTrue, refl, sym, ap, subst, inl, inr, arith}
use Rattle.std.specs.Prelude.{Contains, is_ok}
use Rattle.std.proofs.lemmas.Bool.{eqb-true, eq-eqb}
use Rattle.retro_base.specs.declared.refusal.Refusal.{Refusal}
use Rattle.retro_base.specs.declared.refusal.Refusal.TheVariants as refusal
use Rattle.journal_law.specs.Lawful.{Ground}
use Rattle.journal_law.specs.Pages.{Pages as Bytes}
use Rattle.journal_law.specs.Seats.{Idle, Look, Looking, Open, PastGives, Pins, View, Work, at_look, is_looking}
use Rattle.journal_law.specs.declared.seat.ToldFault.{ToldFault}
use Rattle.journal_law.specs.World.{as_of}
use Rattle.pager.specs.Pages as pager
use Rattle.seat_pager.specs.Past.{IsToldOf, LooksOn, Shows, is_at, pins, pins_in}

pub looking : (work : Work) → is_looking work ≡ true → (l : Look) × (work ≡ Looking l)
looking (Looking l) is = (l, refl)
looking Idle is = cc
looking (Open a) is = cc

pub same_look : (work : Work) (l k : Look) → work ≡ Looking l → work ≡ Looking k → k ≡ l
same_look work l k one two =
    let both : Looking k ≡ Looking l = sym two ∙ one in
    cc

-- what the look pins, as a test and as a fact
pub pins_test : (view : View) (snapshot : ℕ) → ((l : Look) → view.work ≡ Looking l → Pins view l snapshot) → is_looking view.work ≡ true → IsTrue (pins view snapshot)
pins_test view snapshot pinned is =
    let l = looking view.work is in
    let p = pinned l.0 l.1 in
    subst (λ (w : Work). IsTrue (pins_in view w snapshot)) (sym l.1) (both (is_at l.0.snapshot snapshot) (is_ok (as_of snapshot (at_look view l.0))) (at_test l.0.snapshot p.0) (ap is_ok p.1.1))
  where
    both : (a b : Bool) → a ≡ true → b ≡ true → (a && b) ≡ true
    both true b one two = two
    both false b one two = cc

    at_test : (o : Option ℕ) → (o ≡ Some snapshot) ⊎ (o ≡ None) → is_at o snapshot ≡ true
    at_test None is = refl
    at_test (Some n) (inl e) = let same : n ≡ snapshot = cc in eq-eqb n snapshot same
    at_test (Some n) (inr e) = cc

pub pins_fact : (view : View) (snapshot : ℕ) → IsTrue (pins view snapshot) → (l : Look) → view.work ≡ Looking l → Pins view l snapshot
pins_fact view snapshot is l at =
    let test = subst (λ (w : Work). IsTrue (pins_in view w snapshot)) at is in
    (at_fact l.snapshot (first (is_at l.snapshot snapshot) (is_ok (as_of snapshot (at_look view l))) test), held (as_of snapshot (at_look view l)) (second (is_at l.snapshot snapshot) (is_ok (as_of snapshot (at_look view l))) test))
  where
    first : (a b : Bool) → (a && b) ≡ true → a ≡ true
    first true b e = refl
    first false b e = cc

    second : (a b : Bool) → (a && b) ≡ true → b ≡ true
    second true b e = e
    second false b e = cc

    at_fact : (o : Option ℕ) → is_at o snapshot ≡ true → (o ≡ Some snapshot) ⊎ (o ≡ None)
    at_fact None e = inr refl
    at_fact (Some n) e = inl (ap (λ (m : ℕ). Some m) (eqb-true n snapshot e))

    held : (r : Result Bytes Refusal) → is_ok r ≡ true → (pages : Bytes) × (r ≡ Ok pages)
    held (Ok pages) e = (pages, refl)
    held (Err why) e = cc

-- the same look, over the same ground
pub same_world : (old new : View) (l : Look) → new.opened ≡ old.opened → at_look new l ≡ at_look old l
same_world old new l ground = ap (λ (g : Ground). at_look (record { session = old.session; opened = g; front = old.front; work = old.work; told = old.told }) l) ground

-- what a look pins, while it goes on
pub pins_on : (old new : View) (snapshot : ℕ) → new.opened ≡ old.opened → new.work ≡ old.work → IsTrue (pins old snapshot) → IsTrue (pins new snapshot)
pins_on old new snapshot ground work is =
    subst (λ (w : Work). IsTrue (pins_in new w snapshot)) (sym work)
    (subst (λ (g : Ground). IsTrue (pins_in (record { session = old.session; opened = g; front = old.front; work = old.work; told = old.told }) old.work snapshot)) (sym ground) is)

-- ---- reads

-- what is shown stays so
pub past_narrows : (old new : View) (snapshot : ℕ) → new.opened ≡ old.opened → new.work ≡ old.work → (shown : pager.Pages) → Shows new snapshot shown → Shows old snapshot shown
past_narrows old new snapshot ground work shown shows = record {
  look = shows.look;
  is_looking = sym work ∙ shows.is_looking;
  held = shows.held;
  is_held = ap (as_of snapshot) (sym (same_world old new shows.look ground)) ∙ shows.is_held;
  bytes = shows.bytes;
}

pub past_told : (honest : Type 0) (snapshot page : ℕ) (out : List ℕ) (old new : View) (l : Look) (u : Unit {0}) → old.work ≡ Looking l → PastGives honest snapshot page out old new l (Ok u) → honest → (shown : pager.Pages) → Shows new snapshot shown → out ≡ shown.at page
past_told honest snapshot page out old new l u is gives is_honest shown shows =
    let before = past_narrows old new snapshot gives.0.moves.opened (gives.0.work_is ∙ sym is) shown shows in
    let same : before.look ≡ l = same_look old.work l before.look is before.is_looking in
    gives.1 is_honest before.held (ap (λ (k : Look). as_of snapshot (at_look old k)) (sym same) ∙ before.is_held) ∙ sym (ap (λ (f : Bytes). f page) before.bytes)

-- what every read leaves
pub past_left : (honest : Type 0) (snapshot page : ℕ) (out : List ℕ) (old new : View) (l : Look) (r : Result (Unit {0}) Refusal) → old.work ≡ Looking l → PastGives honest snapshot page out old new l r → (new.opened ≡ old.opened) × (new.work ≡ old.work)
past_left honest snapshot page out old new l (Ok u) is gives = (gives.0.moves.opened, gives.0.work_is ∙ sym is)
past_left honest snapshot page out old new l (Err (refusal.DiskFault device count)) is gives = (gives.0.opened, gives.1 ∙ sym is)
past_left honest snapshot page out old new l (Err why) is gives = (gives.0.moves.opened, gives.0.work_is ∙ sym is)

here : (fault : ToldFault) (faults : List ToldFault) → Contains (fault ∷ faults) fault
here fault faults = (0, omega arith, refl)

there : (other fault : ToldFault) (faults : List ToldFault) → Contains faults fault → Contains (other ∷ faults) fault
there other fault faults is = (suc is.0, omega (arith, is.1), is.2)

told_on : (old new : View) → new.opened ≡ old.opened → ((fault : ToldFault) → Contains old.told fault → Contains new.told fault) → (why : Refusal) → IsToldOf old why → IsToldOf new why
told_on old new ground more refusal.OutOfMemory is = tt
told_on old new ground more (refusal.DiskFault device count) is = (more _ is.0, subst (λ (g : Ground). count < 2 ^ 64 - 1 → g.faults device < count) (sym ground) is.1)
told_on old new ground more why is = absurd is

some_same : (a b : Refusal) → Some a ≡ Some b → a ≡ b
some_same a b e = cc

same_told : (old new : View) → new.told ≡ old.told → (fault : ToldFault) → Contains old.told fault → Contains new.told fault
same_told old new e fault is = subst (λ (ts : List ToldFault). Contains ts fault) (sym e) is

pub past_goes : (honest : Type 0) (snapshot page : ℕ) (out : List ℕ) (old new : View) (refused : Option Refusal) (l : Look) (u : Unit {0}) → old.work ≡ Looking l → PastGives honest snapshot page out old new l (Ok u)
    → LooksOn (record { view = old; refused = refused }) (record { view = new; refused = refused })
past_goes honest snapshot page out old new refused l u is gives = record {
  moves = gives.0.moves;
  work = gives.0.work_is ∙ sym is;
  told = same_told old new gives.0.told_is;
  reasons = λ told why refused. told_on old new gives.0.moves.opened (same_told old new gives.0.told_is) why (told why refused);
}

pub past_refused_goes : (honest : Type 0) (snapshot page : ℕ) (out : List ℕ) (old new : View) (before : Option Refusal) (l : Look) (why : Refusal) → old.work ≡ Looking l → PastGives honest snapshot page out old new l (Err why)
    → LooksOn (record { view = old; refused = before }) (record { view = new; refused = Some why })
past_refused_goes honest snapshot page out old new before l (refusal.DiskFault device count) is gives = record {
  moves = gives.0;
  work = gives.1 ∙ sym is;
  told = λ fault h. subst (λ (ts : List ToldFault). Contains ts fault) (sym gives.2) (there _ fault old.told h);
  reasons = λ told why refused. subst (IsToldOf new) (some_same _ why refused) (subst (λ (ts : List ToldFault). Contains ts (record { device = device; count = count })) (sym gives.2) (here (record { device = device; count = count }) old.told), gives.3);
}
past_refused_goes honest snapshot page out old new before l why is gives = record {
  moves = gives.0.moves;
  work = gives.0.work_is ∙ sym is;
  told = same_told old new gives.0.told_is;
  reasons = λ told other refused. subst (IsToldOf new) (sym gives.1 ∙ some_same _ other refused) tt;
}
