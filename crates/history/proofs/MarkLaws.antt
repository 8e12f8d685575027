-- The oldest and the newest of the marks.
use Rattle.std.proofs.Common.{◌≡◌, ◌<◌, ◌≤◌, ◌-◌, ◌∙◌, ◌||◌, inl, inr, ℕ, suc, Bool, true, false, cond, eqb, leb, List, [], ◌∷◌, ◌++◌, length, get_or, refl, sym, ap, arith}
use Rattle.std.proofs.lemmas.Bool.{leb-false, eqb-true, eq-eqb, ne_eqb, or_cases, or_left, or_right, cond-true, cond-false}
use Rattle.history.specs.declared.entry.Mark.{Mark}
use Rattle.history.specs.Marks.{oldest, newest, newest_start, oldest_start, kept_marks, MarksRise, start_of, is_retained}
use Rattle.history.specs.History.{is_declared}

last_place : (mark next : Mark) (marks : List Mark) (d : Mark) → get_or (mark ∷ next ∷ marks) (length (mark ∷ next ∷ marks) - 1) d ≡ get_or (next ∷ marks) (length (next ∷ marks) - 1) d
last_place mark next marks d = let k : length (mark ∷ next ∷ marks) - 1 ≡ suc (length (next ∷ marks) - 1) = omega arith in rw k

pub newest_last : (marks : List Mark) (d : Mark) → 1 ≤ length marks → newest marks ≡ (get_or marks (length marks - 1) d).number
newest_last [] d some = absurd (omega arith)
newest_last (mark ∷ []) d some = refl
newest_last (mark ∷ next ∷ marks) d some = newest_last (next ∷ marks) d (omega arith) ∙ ap (λ (m : Mark). m.number) (sym (last_place mark next marks d))

pub newest_start_last : (marks : List Mark) (d : Mark) → 1 ≤ length marks → newest_start marks ≡ (get_or marks (length marks - 1) d).start
newest_start_last [] d some = absurd (omega arith)
newest_start_last (mark ∷ []) d some = refl
newest_start_last (mark ∷ next ∷ marks) d some = newest_start_last (next ∷ marks) d (omega arith) ∙ ap (λ (m : Mark). m.start) (sym (last_place mark next marks d))

-- ---- one mark more

pub newest-push : (marks : List Mark) (mark : Mark) → newest (marks ++ mark ∷ []) ≡ mark.number
newest-push [] mark = refl
newest-push (first ∷ []) mark = refl
newest-push (first ∷ next ∷ marks) mark = newest-push (next ∷ marks) mark

pub newest_start-push : (marks : List Mark) (mark : Mark) → newest_start (marks ++ mark ∷ []) ≡ mark.start
newest_start-push [] mark = refl
newest_start-push (first ∷ []) mark = refl
newest_start-push (first ∷ next ∷ marks) mark = newest_start-push (next ∷ marks) mark

pub oldest_start-push : (marks : List Mark) (mark : Mark) → 0 < length marks → oldest_start (marks ++ mark ∷ []) ≡ oldest_start marks
oldest_start-push [] mark some = absurd (omega arith)
oldest_start-push (first ∷ marks) mark some = refl

pub is_declared-push : (marks : List Mark) (mark : Mark) → is_declared (marks ++ mark ∷ []) ≡ true
is_declared-push [] mark = refl
is_declared-push (first ∷ marks) mark = refl

-- ---- a drop that leaves the newest

abbrev kept_facts : ℕ → List Mark → Type 0
kept_facts below marks = (newest (kept_marks below marks) ≡ newest marks) × (newest_start (kept_marks below marks) ≡ newest_start marks) × (is_declared (kept_marks below marks) ≡ is_declared marks)

pub kept-newest : (below : ℕ) (marks : List Mark) → below ≤ newest marks → kept_facts below marks
kept-newest below [] le = (refl, refl, refl)
kept-newest below (mark ∷ []) le = go (leb below mark.number) refl where
  go : (b : Bool) → leb below mark.number ≡ b → let kept : List Mark = cond b (mark ∷ []) [] in (newest kept ≡ mark.number) × (newest_start kept ≡ mark.start) × (is_declared kept ≡ true)
  go true e = (refl, refl, refl)
  go false e = absurd (omega (arith, leb-false below mark.number e, le))
kept-newest below (mark ∷ next ∷ marks) le = go (leb below mark.number) (kept-newest below (next ∷ marks) le) where
  go : (b : Bool) → kept_facts below (next ∷ marks)
      → let kept : List Mark = cond b (mark ∷ next ∷ marks) (kept_marks below (next ∷ marks)) in (newest kept ≡ newest (next ∷ marks)) × (newest_start kept ≡ newest_start (next ∷ marks)) × (is_declared kept ≡ true)
  go true again = (refl, refl, refl)
  go false again = again

-- ---- marks that rise

pub rise-weaker : (captures n k s t : ℕ) (marks : List Mark) → n ≤ k → s ≤ t → MarksRise captures k t marks → MarksRise captures n s marks
rise-weaker captures n k s t [] a b h = omega (arith, h, b)
rise-weaker captures n k s t (mark ∷ marks) a b h = (omega (arith, a, h.0), omega (arith, b, h.1), h.2)

pub rise-more : (captures more n s : ℕ) (marks : List Mark) → captures ≤ more → MarksRise captures n s marks → MarksRise more n s marks
rise-more captures more n s [] le h = omega (arith, h, le)
rise-more captures more n s (mark ∷ marks) le h = (h.0, h.1, rise-more captures more mark.number mark.start marks le h.2)

-- the last number, or this one
abbrev top : ℕ → List Mark → ℕ
top n [] = n
top n (mark ∷ marks) = top mark.number marks

newest-top : (mark : Mark) (marks : List Mark) → newest (mark ∷ marks) ≡ top mark.number marks
newest-top mark [] = refl
newest-top mark (next ∷ marks) = newest-top next marks

pub rise-push : (captures n s : ℕ) (marks : List Mark) (mark : Mark) → MarksRise captures n s marks → captures ≤ mark.start → top n marks < mark.number → MarksRise mark.start n s (marks ++ mark ∷ [])
rise-push captures n s [] mark h le lt = (lt, omega (arith, h, le), omega arith)
rise-push captures n s (first ∷ marks) mark h le lt = (h.0, h.1, rise-push captures first.number first.start marks mark h.2 le lt)

pub top-newest : (marks : List Mark) → top 0 marks ≡ newest marks
top-newest [] = refl
top-newest (mark ∷ marks) = sym (newest-top mark marks)

pub rise-kept : (captures n s below : ℕ) (marks : List Mark) → MarksRise captures n s marks → MarksRise captures n s (kept_marks below marks)
rise-kept captures n s below [] h = h
rise-kept captures n s below (mark ∷ marks) h = go (leb below mark.number) (rise-weaker captures n mark.number s mark.start (kept_marks below marks) (omega (arith, h.0)) h.1 (rise-kept captures mark.number mark.start below marks h.2)) where
  go : (b : Bool) → MarksRise captures n s (kept_marks below marks) → MarksRise captures n s (cond b (mark ∷ marks) (kept_marks below marks))
  go true again = h
  go false again = again

pub rise-within : (captures n s : ℕ) (marks : List Mark) → MarksRise captures n s marks → s ≤ captures
rise-within captures n s [] h = h
rise-within captures n s (mark ∷ marks) h = omega (arith, h.1, rise-within captures mark.number mark.start marks h.2)

pub newest_start-within : (captures n s : ℕ) (marks : List Mark) → MarksRise captures n s marks → newest_start marks ≤ captures
newest_start-within captures n s [] h = omega arith
newest_start-within captures n s (mark ∷ []) h = h.2
newest_start-within captures n s (mark ∷ next ∷ marks) h = newest_start-within captures mark.number mark.start (next ∷ marks) h.2

-- a start is at most the newest
pub start-le : (captures n s number : ℕ) (marks : List Mark) → MarksRise captures n s marks → start_of number marks ≤ newest_start marks
start-le captures n s number [] h = omega arith
start-le captures n s number (mark ∷ []) h = go (eqb mark.number number) where
  go : (b : Bool) → cond b mark.start 0 ≤ mark.start
  go true = omega arith
  go false = omega arith
start-le captures n s number (mark ∷ next ∷ marks) h = go (eqb mark.number number) (start-le captures mark.number mark.start number (next ∷ marks) h.2) where
  first_le : (mark : Mark) (marks : List Mark) → MarksRise captures mark.number mark.start marks → mark.start ≤ newest_start (mark ∷ marks)
  first_le m [] k = omega arith
  first_le m (x ∷ ms) k = let rest : x.start ≤ newest_start (x ∷ ms) = first_le x ms k.2 in omega (arith, k.1)

  le : mark.start ≤ newest_start (next ∷ marks)
  le = first_le mark (next ∷ marks) h.2

  go : (b : Bool) → start_of number (next ∷ marks) ≤ newest_start (next ∷ marks) → cond b mark.start (start_of number (next ∷ marks)) ≤ newest_start (next ∷ marks)
  go true again = le
  go false again = again

-- a retained number is greater than those before
pub retained-above : (captures n s number : ℕ) (marks : List Mark) → MarksRise captures n s marks → is_retained number marks ≡ true → n < number
retained-above captures n s number [] h e = absurd cc
retained-above captures n s number (mark ∷ marks) h e = elim (or_cases (eqb mark.number number) (is_retained number marks) e) [
  | inl here ↦ omega (arith, h.0, eqb-true mark.number number here)
  | inr later ↦ omega (arith, h.0, retained-above captures mark.number mark.start number marks h.2 later)
]

pub retained-kept : (number below : ℕ) (marks : List Mark) → is_retained number (kept_marks below marks) ≡ true → is_retained number marks ≡ true
retained-kept number below [] e = e
retained-kept number below (mark ∷ marks) e = go (leb below mark.number) (retained-kept number below marks) e where
  go : (b : Bool) → (is_retained number (kept_marks below marks) ≡ true → is_retained number marks ≡ true) → is_retained number (cond b (mark ∷ marks) (kept_marks below marks)) ≡ true → is_retained number (mark ∷ marks) ≡ true
  go true again k = k
  go false again k = or_right (eqb mark.number number) (is_retained number marks) (again k)

-- a drop leaves the start of a snapshot that it leaves
pub start-kept : (captures n s number below : ℕ) (marks : List Mark) → MarksRise captures n s marks → is_retained number (kept_marks below marks) ≡ true → start_of number (kept_marks below marks) ≡ start_of number marks
start-kept captures n s number below [] h e = refl
start-kept captures n s number below (mark ∷ marks) h e = go (leb below mark.number) (start-kept captures mark.number mark.start number below marks h.2) e where
  other : is_retained number (kept_marks below marks) ≡ true → eqb mark.number number ≡ false
  other k = ne_eqb mark.number number (λ is. absurd (omega (arith, is, retained-above captures mark.number mark.start number marks h.2 (retained-kept number below marks k))))

  go : (b : Bool) → (is_retained number (kept_marks below marks) ≡ true → start_of number (kept_marks below marks) ≡ start_of number marks)
      → is_retained number (cond b (mark ∷ marks) (kept_marks below marks)) ≡ true → start_of number (cond b (mark ∷ marks) (kept_marks below marks)) ≡ start_of number (mark ∷ marks)
  go true again k = refl
  go false again k = again k ∙ sym (cond-false (eqb mark.number number) mark.start (start_of number marks) (other k))

pub start-append : (number : ℕ) (marks more : List Mark) → is_retained number marks ≡ true → start_of number (marks ++ more) ≡ start_of number marks
start-append number [] more e = absurd cc
start-append number (mark ∷ marks) more e = go (eqb mark.number number) (start-append number marks more) e where
  go : (b : Bool) → (is_retained number marks ≡ true → start_of number (marks ++ more) ≡ start_of number marks)
      → (b || is_retained number marks) ≡ true → cond b mark.start (start_of number (marks ++ more)) ≡ cond b mark.start (start_of number marks)
  go true again k = refl
  go false again k = again k

-- the start of a mark behind those of smaller numbers
pub start-push : (captures n s : ℕ) (marks : List Mark) (mark : Mark) → MarksRise captures n s marks → top n marks < mark.number → start_of mark.number (marks ++ mark ∷ []) ≡ mark.start
start-push captures n s [] mark h lt = cond-true (eqb mark.number mark.number) mark.start 0 (eq-eqb mark.number mark.number refl)
start-push captures n s (first ∷ marks) mark h lt =
    cond-false (eqb first.number mark.number) first.start (start_of mark.number (marks ++ mark ∷ [])) (ne_eqb first.number mark.number (λ is. absurd (omega (arith, is, lt, top-ge captures first.number first.start marks h.2))))
    ∙ start-push captures first.number first.start marks mark h.2 lt where
      top-ge : (captures n s : ℕ) (marks : List Mark) → MarksRise captures n s marks → n ≤ top n marks
      top-ge c k t [] h = omega arith
      top-ge c k t (m ∷ ms) h = omega (arith, h.0, top-ge c m.number m.start ms h.2)

-- with one mark more of another number
pub retained-push : (number : ℕ) (marks : List Mark) (mark : Mark) → is_retained number (marks ++ mark ∷ []) ≡ true → (mark.number ≡ number → ⊥) → is_retained number marks ≡ true
retained-push number [] mark e other = elim (or_cases (eqb mark.number number) false e) [ inl here ↦ absurd (other (eqb-true mark.number number here)) | inr never ↦ never ]
retained-push number (first ∷ marks) mark e other = elim (or_cases (eqb first.number number) (is_retained number (marks ++ mark ∷ [])) e) [
  | inl here ↦ or_left (eqb first.number number) (is_retained number marks) here
  | inr later ↦ or_right (eqb first.number number) (is_retained number marks) (retained-push number marks mark later other)
]

pub retained-append : (number : ℕ) (marks more : List Mark) → is_retained number marks ≡ true → is_retained number (marks ++ more) ≡ true
retained-append number [] more e = absurd cc
retained-append number (mark ∷ marks) more e = elim (or_cases (eqb mark.number number) (is_retained number marks) e) [
  | inl here ↦ or_left (eqb mark.number number) (is_retained number (marks ++ more)) here
  | inr later ↦ or_right (eqb mark.number number) (is_retained number (marks ++ more)) (retained-append number marks more later)
]

-- ---- the retained snapshots, from the oldest to the newest

pub retained-oldest : (captures n s number : ℕ) (marks : List Mark) → MarksRise captures n s marks → is_retained number marks ≡ true → oldest marks ≤ number
retained-oldest captures n s number [] h e = absurd cc
retained-oldest captures n s number (mark ∷ marks) h e = elim (or_cases (eqb mark.number number) (is_retained number marks) e) [
  | inl here ↦ omega (arith, eqb-true mark.number number here)
  | inr later ↦ omega (arith, retained-above captures mark.number mark.start number marks h.2 later)
]

first_retained : (mark : Mark) (marks : List Mark) → is_retained mark.number (mark ∷ marks) ≡ true
first_retained mark marks = or_left (eqb mark.number mark.number) (is_retained mark.number marks) (eq-eqb mark.number mark.number refl)

pub retained-newest : (captures n s number : ℕ) (marks : List Mark) → MarksRise captures n s marks → is_retained number marks ≡ true → number ≤ newest marks
retained-newest captures n s number [] h e = absurd cc
retained-newest captures n s number (mark ∷ []) h e = elim (or_cases (eqb mark.number number) false e) [ inl here ↦ omega (arith, eqb-true mark.number number here) | inr later ↦ absurd cc ]
retained-newest captures n s number (mark ∷ next ∷ marks) h e = elim (or_cases (eqb mark.number number) (is_retained number (next ∷ marks)) e) [
  | inl here ↦ omega (arith, eqb-true mark.number number here, h.2.0, retained-newest captures mark.number mark.start next.number (next ∷ marks) h.2 (first_retained next marks))
  | inr later ↦ retained-newest captures mark.number mark.start number (next ∷ marks) h.2 later
]
