-- The list of captures, as changes go on.
use Rattle.std.proofs.Common.{◌≡◌, ◌≤◌, ◌+◌, ◌-◌, ◌∙◌, ◌||◌, not, ℕ, Bool, true, false, cond, eqb, ltb, List, [], ◌∷◌, ◌++◌, length, drop, refl, sym, ap, arith, length-append, length-drop, append_assoc}
use Rattle.std.specs.Prelude.{filter}
use Rattle.std.proofs.lemmas.Bool.{and_left}
use Rattle.std.proofs.lemmas.List.{append-nil, drop-append-le, length-map}
use Rattle.history.specs.declared.entry.Base.{Base}
use Rattle.history.specs.declared.entry.Change.{Change}
use Rattle.history.specs.declared.entry.Change.TheVariants.{Commit, Drop}
use Rattle.history.specs.declared.writes.PageImage.{PageImage}
use Rattle.history.specs.Writes.{is_among}
use Rattle.history.specs.History.{is_declared, captures_page, capturing, with_page, with_pages, bases_after, State, after, run, before_write, captured_by, captures_of, History, now, captures, with_change, with_changes}

pub run-append : (state : State) (changes more : List Change) → run state (changes ++ more) ≡ run (run state changes) more
run-append state [] more = refl
run-append state (change ∷ changes) more = run-append (after state change) changes more

pub run-base : (state : State) (changes : List Change) → (run state changes).base ≡ bases_after state.base changes
run-base state [] = refl
run-base state (change ∷ changes) = run-base (after state change) changes

captures-append : (state : State) (changes more : List Change) → captures_of state (changes ++ more) ≡ captures_of state changes ++ captures_of (run state changes) more
captures-append state [] more = refl
captures-append state (change ∷ changes) more =
    ap (λ (t : List PageImage). captured_by state change ++ t) (captures-append (after state change) changes more)
    ∙ sym (append_assoc (captured_by state change) (captures_of (after state change) changes) (captures_of (run (after state change) changes) more))

pub captured-length : (state : State) (change : Change) → (after state change).base.captures ≡ state.base.captures + length (captured_by state change)
captured-length state (Commit label writes) = omega (arith, length-map (capturing state.base writes) (before_write state.pages), length-map (capturing state.base writes) (λ (image : PageImage). image.page))
captured-length state (Drop below) = omega arith

run-count : (state : State) (changes : List Change) → (run state changes).base.captures ≡ state.base.captures + length (captures_of state changes)
run-count state [] = omega arith
run-count state (change ∷ changes) = omega (arith, run-count (after state change) changes, captured-length state change, length-append (captured_by state change) (captures_of (after state change) changes))

pub now-with : (history : History) (change : Change) → now (with_change history change) ≡ after (now history) change
now-with history change = run-append history.origin history.changes (change ∷ [])

pub with_changes-step : (history : History) (change : Change) (more : List Change) → with_changes history (change ∷ more) ≡ with_changes (with_change history change) more
with_changes-step history change more = ap (λ (t : List Change). let h : History = record { origin = history.origin; held = history.held; changes = t } in h) (sym (append_assoc history.changes (change ∷ []) more))

pub with_changes-none : (history : History) → with_changes history [] ≡ history
with_changes-none history = ap (λ (t : List Change). let h : History = record { origin = history.origin; held = history.held; changes = t } in h) (append-nil history.changes)

module _ (history : History) (counted : history.origin.base.captures ≤ length history.held) (known : length history.held ≤ (now history).base.captures) where
  pub captures-count : length (captures history) ≡ (now history).base.captures
  captures-count =
      let past : ℕ = length history.held - history.origin.base.captures in
      omega (arith, counted, known, length-append history.held (drop past (captures_of history.origin history.changes)), length-drop past (captures_of history.origin history.changes), run-count history.origin history.changes)

  pub captures-grow : (change : Change) → captures (with_change history change) ≡ captures history ++ captured_by (now history) change
  captures-grow change =
      let past : ℕ = length history.held - history.origin.base.captures in
      let old : List PageImage = captures_of history.origin history.changes in
      let new : List PageImage = captured_by (now history) change in
      ap (λ (t : List PageImage). history.held ++ drop past t) (captures-append history.origin history.changes (change ∷ []) ∙ ap (λ (t : List PageImage). old ++ t) (append-nil new))
      ∙ ap (λ (t : List PageImage). history.held ++ t) (drop-append-le past old new (omega (arith, counted, known, run-count history.origin history.changes)))
      ∙ sym (append_assoc history.held (drop past old) new)

-- ---- pages among others

pub among-append : (page : ℕ) (xs ys : List ℕ) → is_among page (xs ++ ys) ≡ (is_among page xs || is_among page ys)
among-append page [] ys = refl
among-append page (x ∷ xs) ys = ap (λ b. eqb x page || b) (among-append page xs ys) ∙ or_assoc (eqb x page) (is_among page xs) (is_among page ys) where
  or_assoc : (a b c : Bool) → (a || (b || c)) ≡ ((a || b) || c)
  or_assoc true b c = refl
  or_assoc false b c = refl

or_swap : (a b c : Bool) → (a || (b || c)) ≡ (b || (a || c))
or_swap true true c = refl
or_swap true false c = refl
or_swap false b c = refl

pub among-with_page : (page other : ℕ) (pages : List ℕ) → is_among page (with_page other pages) ≡ (eqb other page || is_among page pages)
among-with_page page other [] = refl
among-with_page page other (x ∷ pages) = go (ltb other x) (among-with_page page other pages) where
  go : (b : Bool) → is_among page (with_page other pages) ≡ (eqb other page || is_among page pages) → is_among page (cond b (other ∷ x ∷ pages) (x ∷ with_page other pages)) ≡ (eqb other page || is_among page (x ∷ pages))
  go true again = refl
  go false again = ap (λ b. eqb x page || b) again ∙ or_swap (eqb x page) (eqb other page) (is_among page pages)

pub among-with_pages : (page : ℕ) (more pages : List ℕ) → is_among page (with_pages more pages) ≡ (is_among page pages || is_among page more)
among-with_pages page [] pages = or_none (is_among page pages) where
  or_none : (b : Bool) → b ≡ (b || false)
  or_none true = refl
  or_none false = refl
among-with_pages page (other ∷ more) pages =
    among-with_pages page more (with_page other pages)
    ∙ ap (λ b. b || is_among page more) (among-with_page page other pages)
    ∙ regroup (eqb other page) (is_among page pages) (is_among page more) where
      regroup : (a b c : Bool) → ((a || b) || c) ≡ (b || (a || c))
      regroup true true c = refl
      regroup true false c = refl
      regroup false b c = refl

-- without a declaration nothing is captured
pub undeclared-none : (base : Base) (writes : List PageImage) → is_declared base.marks ≡ false → capturing base writes ≡ []
undeclared-none base [] e = refl
undeclared-none base (write ∷ writes) e =
    let none : captures_page base write.page ≡ false = and_left (is_declared base.marks) (not (is_among write.page base.captured)) e in
    ap (λ b. cond b (write ∷ capturing base writes) (capturing base writes)) none ∙ undeclared-none base writes e

-- a filter depends on its test alone
pub filter-same : {X : Type 0} (p q : X → Bool) (xs : List X) → ((x : X) → p x ≡ q x) → filter p xs ≡ filter q xs
filter-same p q [] same = refl
filter-same p q (x ∷ xs) same = ap (λ b. cond b (x ∷ filter p xs) (filter p xs)) (same x) ∙ ap (λ t. cond (q x) (x ∷ t) t) (filter-same p q xs same)
