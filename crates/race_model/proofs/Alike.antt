-- Two runs of one list of changes over pages that agree in some places.
use Rattle.std.proofs.Common.{◌≡◌, inl, inr, ℕ, suc, zero, true, false, cond, List, [], ◌∷◌, ◌++◌, length, map, get_or, refl, sym, ◌∙◌, ap, eqb}
use Rattle.std.proofs.lemmas.Bool.{or_cases, or_parts, or_right, or_left, cond-true, cond-false}
use Rattle.history.specs.declared.entry.Base.{Base}
use Rattle.history.specs.declared.entry.Change.{Change}
use Rattle.history.specs.declared.entry.Change.TheVariants.{Commit, Drop}
use Rattle.history.specs.declared.writes.PageImage.{PageImage}
use Rattle.history.specs.Writes.{pages_of, is_among}
use Rattle.history.specs.History.{with_write, written, before_write, capturing, base_after, pages_after, run, captured_by, captures_of}
use Rattle.replay.specs.Opened.{forgotten}
use Rattle.race_model.specs.Desk.{writes_page, is_written}

-- the same pages, and the same bytes where P
pub data Alike (P : ℕ → Type 0) : List PageImage → List PageImage → Type 0 where
  none : Alike P [] []
  one : {x y : PageImage} {xs ys : List PageImage} → x.page ≡ y.page → (P y.page → x.bytes ≡ y.bytes) → Alike P xs ys → Alike P (x ∷ xs) (y ∷ ys)

pub alike-append : {P : ℕ → Type 0} {xs ys us vs : List PageImage} → Alike P xs ys → Alike P us vs → Alike P (xs ++ us) (ys ++ vs)
alike-append none q = q
alike-append (one e f r) q = one e f (alike-append r q)

pub alike-length : {P : ℕ → Type 0} {xs ys : List PageImage} → Alike P xs ys → length xs ≡ length ys
alike-length none = refl
alike-length (one e f r) = ap suc (alike-length r)

pub alike-pages : {P : ℕ → Type 0} {xs ys : List PageImage} → Alike P xs ys → pages_of xs ≡ pages_of ys
alike-pages none = refl
alike-pages (one {x = x} {y = y} {xs = xs} {ys = ys} e f r) = ap (λ p. p ∷ pages_of xs) e ∙ ap (λ ps. y.page ∷ ps) (alike-pages r)

pub alike-page : {P : ℕ → Type 0} {xs ys : List PageImage} → Alike P xs ys → (k : ℕ) → (get_or xs k forgotten).page ≡ (get_or ys k forgotten).page
alike-page none k = refl
alike-page (one e f r) zero = e
alike-page (one e f r) (suc k) = alike-page r k

pub alike-bytes : {P : ℕ → Type 0} {xs ys : List PageImage} → Alike P xs ys → (k : ℕ) → P (get_or ys k forgotten).page → (get_or xs k forgotten).bytes ≡ (get_or ys k forgotten).bytes
alike-bytes none k h = refl
alike-bytes (one e f r) zero h = f h
alike-bytes (one e f r) (suc k) h = alike-bytes r k h

before_alike : (P : ℕ → Type 0) (f g : ℕ → List ℕ) (writes : List PageImage) → ((q : ℕ) → P q → f q ≡ g q) → Alike P (map (before_write f) writes) (map (before_write g) writes)
before_alike P f g [] same = none
before_alike P f g (write ∷ writes) same = one refl (same write.page) (before_alike P f g writes same)

captured_alike : (P : ℕ → Type 0) (b : Base) (f g : ℕ → List ℕ) (change : Change) → ((q : ℕ) → P q → f q ≡ g q)
    → Alike P (captured_by (record { base = b; pages = f }) change) (captured_by (record { base = b; pages = g }) change)
captured_alike P b f g (Commit label writes) same = before_alike P f g (capturing b writes) same
captured_alike P b f g (Drop below) same = none

pub written_alike : (f g : ℕ → List ℕ) (writes : List PageImage) (q : ℕ) → f q ≡ g q → written f writes q ≡ written g writes q
written_alike f g [] q same = same
written_alike f g (write ∷ writes) q same = written_alike (with_write f write) (with_write g write) writes q (ap (cond (eqb write.page q) write.bytes) same)

pages_alike : (f g : ℕ → List ℕ) (change : Change) (q : ℕ) → f q ≡ g q → pages_after f change q ≡ pages_after g change q
pages_alike f g (Commit label writes) q same = written_alike f g writes q same
pages_alike f g (Drop below) q same = same

pub captures_alike : (P : ℕ → Type 0) (b : Base) (f g : ℕ → List ℕ) (changes : List Change) → ((q : ℕ) → P q → f q ≡ g q)
    → Alike P (captures_of (record { base = b; pages = f }) changes) (captures_of (record { base = b; pages = g }) changes)
captures_alike P b f g [] same = none
captures_alike P b f g (change ∷ changes) same =
    alike-append (captured_alike P b f g change same) (captures_alike P (base_after b change) (pages_after f change) (pages_after g change) changes (λ q h. pages_alike f g change q (same q h)))

-- what the log says depends on no bytes
pub base_alike : (b : Base) (f g : ℕ → List ℕ) (changes : List Change) → (run (record { base = b; pages = f }) changes).base ≡ (run (record { base = b; pages = g }) changes).base
base_alike b f g [] = refl
base_alike b f g (change ∷ changes) = base_alike (base_after b change) (pages_after f change) (pages_after g change) changes

pub run_alike : (b : Base) (f g : ℕ → List ℕ) (changes : List Change) (q : ℕ) → f q ≡ g q → (run (record { base = b; pages = f }) changes).pages q ≡ (run (record { base = b; pages = g }) changes).pages q
run_alike b f g [] q same = same
run_alike b f g (change ∷ changes) q same = run_alike (base_after b change) (pages_after f change) (pages_after g change) changes q (pages_alike f g change q same)

-- a page that is written ends the same, whatever it was
written_over : (f g : ℕ → List ℕ) (writes : List PageImage) (q : ℕ) → is_among q (pages_of writes) ≡ true → written f writes q ≡ written g writes q
written_over f g [] q h = absurd cc
written_over f g (write ∷ writes) q h = elim (or_cases (eqb write.page q) (is_among q (pages_of writes)) h) [
  | inl here ↦ written_alike (with_write f write) (with_write g write) writes q (cond-true (eqb write.page q) write.bytes (f q) here ∙ sym (cond-true (eqb write.page q) write.bytes (g q) here))
  | inr later ↦ written_over (with_write f write) (with_write g write) writes q later
]

pub run_over : (b : Base) (f g : ℕ → List ℕ) (changes : List Change) (q : ℕ) → is_written q changes ≡ true → (run (record { base = b; pages = f }) changes).pages q ≡ (run (record { base = b; pages = g }) changes).pages q
run_over b f g [] q h = absurd cc
run_over b f g (Commit label writes ∷ changes) q h = elim (or_cases (is_among q (pages_of writes)) (is_written q changes) h) [
  | inl here ↦ run_alike (base_after b (Commit label writes)) (written f writes) (written g writes) changes q (written_over f g writes q here)
  | inr later ↦ run_over (base_after b (Commit label writes)) (written f writes) (written g writes) changes q later
]
run_over b f g (Drop below ∷ changes) q h = run_over (base_after b (Drop below)) f g changes q h

pub late_alike : (P : ℕ → Type 0) (b : Base) (f g : ℕ → List ℕ) (early late : List Change)
    → ((q : ℕ) → P q → (run (record { base = b; pages = f }) early).pages q ≡ (run (record { base = b; pages = g }) early).pages q)
    → Alike P (captures_of (run (record { base = b; pages = f }) early) late) (captures_of (run (record { base = b; pages = g }) early) late)
late_alike P b f g [] late same = captures_alike P b f g late same
late_alike P b f g (change ∷ early) late same = late_alike P (base_after b change) (pages_after f change) (pages_after g change) early late same

-- a page that no change writes stays
unwritten : (f : ℕ → List ℕ) (writes : List PageImage) (q : ℕ) → is_among q (pages_of writes) ≡ false → written f writes q ≡ f q
unwritten f [] q h = refl
unwritten f (write ∷ writes) q h =
    let both = or_parts (eqb write.page q) (is_among q (pages_of writes)) h in
    unwritten (with_write f write) writes q both.1 ∙ cond-false (eqb write.page q) write.bytes (f q) both.0

pub unchanged : (f : ℕ → List ℕ) (change : Change) (q : ℕ) → writes_page q change ≡ false → pages_after f change q ≡ f q
unchanged f (Commit label writes) q h = unwritten f writes q h
unchanged f (Drop below) q h = refl

pub run_unchanged : (b : Base) (f : ℕ → List ℕ) (changes : List Change) (q : ℕ) → is_written q changes ≡ false → (run (record { base = b; pages = f }) changes).pages q ≡ f q
run_unchanged b f [] q h = refl
run_unchanged b f (change ∷ changes) q h =
    let both = or_parts (writes_page q change) (is_written q changes) h in
    run_unchanged (base_after b change) (pages_after f change) changes q both.1 ∙ unchanged f change q both.0

pub is_written-append : (q : ℕ) (early late : List Change) → is_written q early ≡ true → is_written q (early ++ late) ≡ true
is_written-append q [] late h = absurd cc
is_written-append q (change ∷ early) late h = elim (or_cases (writes_page q change) (is_written q early) h) [
  | inl here ↦ or_left (writes_page q change) (is_written q (early ++ late)) here
  | inr later ↦ or_right (writes_page q change) (is_written q (early ++ late)) (is_written-append q early late later)
]

pub is_written-last : (q : ℕ) (changes : List Change) (change : Change) → writes_page q change ≡ true → is_written q (changes ++ change ∷ []) ≡ true
is_written-last q [] change h = or_left (writes_page q change) false h
is_written-last q (first ∷ changes) change h = or_right (writes_page q first) (is_written q (changes ++ change ∷ [])) (is_written-last q changes change h)
