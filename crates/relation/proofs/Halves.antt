-- What the calls do to the rows of a table, apart from its indexes.
use Rattle.std.proofs.Common.{◌≡◌, ◌∙◌, ◌==◌, ℕ, Bool, true, false, List, [], ◌∷◌, Result, Ok, Err, cond, inl, inr, refl, sym, ap, subst, eqb-true}
use Rattle.retro_base.specs.declared.refusal.Refusal.{Refusal}
use Rattle.values.specs.declared.value.Value.{Value}
use Rattle.pager.specs.Allows.{◌>>=◌, in_turn, only}
use Rattle.pager.specs.Pages.{Pages, broken}
use Rattle.heap_file.specs.declared.chain.Placed.{Placed}
use Rattle.heap_file.specs.Work.{added, changed, removed}
use Rattle.relation.specs.declared.drafting.RowChange.{RowChange}
use Rattle.relation.specs.declared.listing.Moved.{Moved}
use Rattle.relation.specs.Each.{each, each_in_turn}
use Rattle.relation.proofs.Steps.{ok_is, seconds}
use Rattle.relation.specs.Work.{all_added, all_changed, all_placed, all_removed, change_of, placed_of, row_changes, row_placed}
use Rattle.pager.proofs.Turns.{left_pages}

-- the page where the row of that number stands; where none has it, the table's first page is told as broken
abbrev pub page_of : ℕ → ℕ → List Placed → Result ℕ Refusal
page_of first number [] = Err (broken first)
page_of first number (placed ∷ rows) = cond (placed.number == number) (Ok placed.page) (page_of first number rows)

-- a row of a table changes
abbrev pub row_changed : ℕ → ℕ → List Placed → ℕ × List Value → Pages → Result (ℕ × Pages) Refusal → Type 0
row_changed size first rows change pages = do
  page ← only (page_of first change.0 rows)
  changed size pages first page (record { number = change.0; row = change.1 })

-- a row of a table is taken out
abbrev pub row_removed : ℕ → ℕ → List Placed → ℕ → Pages → Result (Unit {0} × Pages) Refusal → Type 0
row_removed size first rows number pages = do
  page ← only (page_of first number rows)
  removed size pages first page number

-- edits whose answers are forgotten
abbrev pub Forgets : {A B X : Type 0} → (A → Pages → Result (B × Pages) Refusal → Type 0) → (A → Pages → Result (X × Pages) Refusal → Type 0) → Type 0
Forgets {A} {B} {X} step small =
    ((a : A) (p q : Pages) (b : B) → step a p (Ok (b, q)) → (v : X) × small a p (Ok (v, q)))
    × ((a : A) (p : Pages) (why : Refusal) → step a p (Err why) → small a p (Err why))

pub forgotten-ok : {A B X : Type 0} (step : A → Pages → Result (B × Pages) Refusal → Type 0) (small : A → Pages → Result (X × Pages) Refusal → Type 0) → Forgets step small → (xs : List A) (ys : List B) (p q : Pages) → each_in_turn step xs p (Ok (ys, q)) → in_turn small xs p (Ok (tt, q))
forgotten-ok step small f [] ys p q h = ap (λ (r : Pages). Ok (tt, r)) (seconds ([], p) (ys, q) h)
forgotten-ok {A} {B} {X} step small f (x ∷ xs) ys p q h =
    let one = f.0 x p h.0.1 h.0.0 h.1 in
    let same : h.2.0.1 ≡ q = seconds (h.0.0 ∷ h.2.0.0, h.2.0.1) (ys, q) h.2.2 in
    ((one.0, h.0.1), one.1, forgotten-ok step small f xs h.2.0.0 h.0.1 q (subst (λ (r : Pages). each_in_turn step xs h.0.1 (Ok (h.2.0.0, r))) same h.2.1))

pub forgotten-err : {A B X : Type 0} (step : A → Pages → Result (B × Pages) Refusal → Type 0) (small : A → Pages → Result (X × Pages) Refusal → Type 0) → Forgets step small → (xs : List A) (p : Pages) (why : Refusal) → each_in_turn step xs p (Err why) → in_turn small xs p (Err why)
forgotten-err step small f [] p why h = absurd cc
forgotten-err {A} {B} {X} step small f (x ∷ xs) p why (inl h) = inl (f.1 x p why h)
forgotten-err {A} {B} {X} step small f (x ∷ xs) p why (inr h) =
    elim h.2 [
      | inl stops ↦ let one = f.0 x p h.0.1 h.0.0 h.1 in inr ((one.0, h.0.1), one.1, forgotten-err step small f xs h.0.1 why stops)
      | inr done ↦ absurd (cc done.2)
    ]

-- a row that is added
placed_forgets : (size first : ℕ) → Forgets {A = List Value} {B = Placed} {X = ℕ × ℕ} (row_placed size first) (λ row pages. added size pages first row)
placed_forgets size first = (
  λ row p q p2 h. let same : h.0.1 ≡ q = seconds (record { number = h.0.0.0; page = h.0.0.1; row = row }, h.0.1) (p2, q) h.2 in (h.0.0, subst (λ (r : Pages). added size p first row (Ok (h.0.0, r))) same h.1),
  λ row p why h. elim h [
    | inl stops ↦ stops
    | inr done ↦ absurd (cc done.2)
  ],
)

-- rows that are added and placed are added
pub placed-added : (size first : ℕ) (rows : List (List Value)) (placed : List Placed) (pages after : Pages) → all_placed size first rows pages (Ok (placed, after)) → all_added size first rows pages (Ok (tt, after))
placed-added size first rows placed pages after h = forgotten-ok (row_placed size first) (λ row pages. added size pages first row) (placed_forgets size first) rows placed pages after h

pub placed-refused : (size first : ℕ) (rows : List (List Value)) (pages : Pages) (why : Refusal) → all_placed size first rows pages (Err why) → all_added size first rows pages (Err why)
placed-refused size first rows pages why h = forgotten-err (row_placed size first) (λ row pages. added size pages first row) (placed_forgets size first) rows pages why h

-- the row of a number stands on the page of that row
pub placed-page : (first number : ℕ) (rows : List Placed) (placed : Placed) → placed_of first number rows ≡ Ok placed → (page_of first number rows ≡ Ok placed.page) × (placed.number ≡ number)
placed-page first number [] placed h = absurd (cc h)
placed-page first number (row ∷ rows) placed h = go (row.number == number) refl (λ later. placed-page first number rows placed later)
  where
    go : (b : Bool) → (row.number == number) ≡ b → (placed_of first number rows ≡ Ok placed → (page_of first number rows ≡ Ok placed.page) × (placed.number ≡ number)) → (page_of first number (row ∷ rows) ≡ Ok placed.page) × (placed.number ≡ number)
    go true e later =
        let same : row ≡ placed = cc (rw e at h) in
        (rw e (ap (λ (p : Placed). Ok p.page) same), sym (ap (λ (p : Placed). p.number) same) ∙ eqb-true row.number number e)
    go false e later =
        let found = later (rw e at h) in
        (rw e found.0, found.1)

-- rows that change where they stand do so under their numbers
pub changes-numbered-ok : (size first : ℕ) (rows : List Placed) (changes : List (ℕ × List Value)) (told : List RowChange) (moves : List Moved) (pages after : Pages) → each (change_of first rows) changes (Ok told) → all_changed size first told pages (Ok (moves, after)) → in_turn (row_changed size first rows) changes pages (Ok (tt, after))
changes-numbered-ok size first rows [] told moves pages after h s =
    let none : [] ≡ told = cc h in
    ap (λ (r : Pages). Ok (tt, r)) (seconds ([], pages) (moves, after) (subst (λ (l : List RowChange). all_changed size first l pages (Ok (moves, after))) (sym none) s))
changes-numbered-ok size first rows (change ∷ changes) told moves pages after h s =
    let split : h.0 ∷ h.2.0 ≡ told = cc h.2.2 in
    let done : all_changed size first (h.0 ∷ h.2.0) pages (Ok (moves, after)) = subst (λ (l : List RowChange). all_changed size first l pages (Ok (moves, after))) (sym split) s in
    let at = placed-page first change.0 rows h.1.0 h.1.1 in
    let is : record { was = h.1.0; row = change.1 } ≡ h.0 = cc h.1.2 in
    let page = done.1.0 in
    let left : page.1 ≡ done.0.1 = seconds (_, page.1) done.0 done.1.2 in
    let same : done.2.0.1 ≡ after = seconds (done.0.0 ∷ done.2.0.0, done.2.0.1) (moves, after) done.2.2 in (
      page,
      (h.1.0.page, at.0, rw (← at.1) (subst (λ (c : RowChange). changed size pages first c.was.page (record { number = c.was.number; row = c.row }) (Ok page)) (sym is) done.1.1)),
      changes-numbered-ok size first rows changes h.2.0 done.2.0.0 page.1 after h.2.1 (subst (λ (p : Pages). all_changed size first h.2.0 p (Ok (done.2.0.0, after))) (sym left) (subst (λ (r : Pages). all_changed size first h.2.0 done.0.1 (Ok (done.2.0.0, r))) same done.2.1)),
    )

-- a change that is refused where the row stands is so under its number
pub change-numbered : (size first : ℕ) (rows : List Placed) (change : ℕ × List Value) (told : RowChange) (pages : Pages) (why : Refusal) → change_of first rows change (Ok told) → row_changes size first told pages (Err why) → row_changed size first rows change pages (Err why)
change-numbered size first rows change told pages why h s =
    let at = placed-page first change.0 rows h.0 h.1 in
    let is : record { was = h.0; row = change.1 } ≡ told = cc h.2 in
    inr (
      h.0.page,
      at.0,
      rw (← at.1) (elim (subst (λ (c : RowChange). row_changes size first c pages (Err why)) (sym is) s) [
        | inl refused ↦ refused
        | inr done ↦ absurd (cc done.2)
      ]),
    )

pub changes-numbered-err : (size first : ℕ) (rows : List Placed) (changes : List (ℕ × List Value)) (told : List RowChange) (pages : Pages) (why : Refusal) → each (change_of first rows) changes (Ok told) → all_changed size first told pages (Err why) → in_turn (row_changed size first rows) changes pages (Err why)
changes-numbered-err size first rows [] told pages why h s =
    absurd (cc (subst (λ (l : List RowChange). all_changed size first l pages (Err why)) (sym (ok_is [] told h)) s))
changes-numbered-err size first rows (change ∷ changes) told pages why h s =
    elim (subst (λ (l : List RowChange). all_changed size first l pages (Err why)) (sym (ok_is (h.0 ∷ h.2.0) told h.2.2)) s) [
      | inl refused ↦ inl (change-numbered size first rows change h.0 pages why h.1 refused)
      | inr later ↦
          let one = changes-numbered-ok size first rows (change ∷ []) (h.0 ∷ []) (later.0.0 ∷ []) pages later.0.1 (h.0, h.1, ([], refl, refl)) (later.0, later.1, (([], later.0.1), refl, refl)) in
          elim later.2 [
            | inl stops ↦ inr (one.0, one.1, subst (λ (p : Pages). in_turn (row_changed size first rows) changes p (Err why)) (sym (left_pages one.0.1 later.0.1 one.2)) (changes-numbered-err size first rows changes h.2.0 later.0.1 why h.2.1 stops))
            | inr done ↦ absurd (cc done.2)
          ]
    ]

-- rows that are taken out where they stand are so under their numbers
pub removes-numbered : (size first : ℕ) (rows : List Placed) (numbers : List ℕ) (gone : List Placed) (pages : Pages) (a : Result (Unit {0} × Pages) Refusal) → each (λ number. only (placed_of first number rows)) numbers (Ok gone) → all_removed size first gone pages a → in_turn (row_removed size first rows) numbers pages a
removes-numbered size first rows [] gone pages a h s =
    subst (λ (l : List Placed). all_removed size first l pages a) (sym (ok_is [] gone h)) s
removes-numbered size first rows (number ∷ numbers) gone pages (Ok done) h s =
    let at = placed-page first number rows h.0 h.1 in
    let both = subst (λ (l : List Placed). all_removed size first l pages (Ok done)) (sym (ok_is (h.0 ∷ h.2.0) gone h.2.2)) s in
    (both.0, (h.0.page, at.0, rw (← at.1) both.1), removes-numbered size first rows numbers h.2.0 both.0.1 (Ok done) h.2.1 both.2)
removes-numbered size first rows (number ∷ numbers) gone pages (Err why) h s =
    let at = placed-page first number rows h.0 h.1 in
    elim (subst (λ (l : List Placed). all_removed size first l pages (Err why)) (sym (ok_is (h.0 ∷ h.2.0) gone h.2.2)) s) [
      | inl refused ↦ inl (inr (h.0.page, at.0, rw (← at.1) refused))
      | inr later ↦ inr (later.0, (h.0.page, at.0, rw (← at.1) later.1), removes-numbered size first rows numbers h.2.0 later.0.1 (Err why) h.2.1 later.2)
    ]
