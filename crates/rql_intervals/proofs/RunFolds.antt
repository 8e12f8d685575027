-- The runs over answers, one answer more at a time.
use Rattle.std.proofs.Common.{◌≡◌, ◌∙◌, ◌⊎◌, ◌+◌, ◌-◌, ◌<◌, ◌≤◌, ◌&&◌, ◌||◌, inl, inr, ℕ, zero, suc, Bool, true, false, not, Option, Some, None, List, [], ◌∷◌, ◌++◌, ap, append-nil, append_assoc, arith, cond, drop, get_or, length, map, refl, slice_get, subst, sym}
use Rattle.std.specs.Prelude.{eqb}
use Rattle.std.specs.List.{filter, flat_map, prefix_len, range_with_len}
use Rattle.std.specs.Option.{option_map}
use Rattle.std.proofs.Math.Bool.{or-false}
use Rattle.std.proofs.Math.ListN.{set}
use Rattle.std.proofs.Math.Seq.{get_or-append_seam}
use Rattle.std.proofs.lemmas.Bool.{eq-eqb, eqb-false, eqb-true}
use Rattle.std.proofs.lemmas.List.{drop_all, drop_more, get_or_append_left, length-drop, length_push, map-append}
use Rattle.std.proofs.lemmas.List.Folds.{list_any-append, prefix_len-append}
use Rattle.std.proofs.lemmas.List.Sums.{prefix_len-le-length}
use Rattle.std.proofs.lemmas.Option.{slice_get-map}
use Rattle.values.specs.declared.value.Value.{Value}
use Rattle.rql.proofs.GroupFolds.{get_set, seam, some_same}
use Rattle.rql_intervals.specs.Intervals.{has_row, run_end, runs, runs_at, stands_before}
use Rattle.rql_intervals.specs.RunsSoFar.{AddsRows, AllFit, AllGoOn, Begins, Fits, GoesOn, begun, has_place, rows_before, to_place}
use Rattle.rql_intervals.specs.declared.runs_so_far.Run.{Run}
use Rattle.rql_intervals.specs.declared.runs_so_far.RunsSoFar.{RunsSoFar}

-- ---- places and items by place

pub one_item : {X : Type 0} {x y : X} (o : Option X) → o ≡ Some x → o ≡ Some y → x ≡ y
one_item o there here = some_same (sym there ∙ here)

same_place : (k at : ℕ) → (k ≡ at) ⊎ (eqb k at ≡ false)
same_place k at = by_test (eqb k at) refl
  where
    by_test : (b : Bool) → eqb k at ≡ b → (k ≡ at) ⊎ (eqb k at ≡ false)
    by_test true e = inl (eqb-true k at e)
    by_test false e = inr e

equal_or_less : (a b : ℕ) → a ≤ b → (a ≡ b) ⊎ (a < b)
equal_or_less zero zero le = inl refl
equal_or_less zero (suc b) le = inr (omega arith)
equal_or_less (suc a) zero le = absurd (omega arith)
equal_or_less (suc a) (suc b) le =
    elim (equal_or_less a b (omega arith)) [ inl e ↦ inl (ap suc e) | inr less ↦ inr (omega arith) ]

or_true : (b : Bool) → (b || true) ≡ true
or_true true = refl
or_true false = refl

has_push : (k at : ℕ) (places : List ℕ) → has_place k (places ++ at ∷ []) ≡ (has_place k places || eqb k at)
has_push k at places =
    list_any-append (eqb k) places (at ∷ []) ∙ ap (λ b. has_place k places || b) (or-false (eqb k at))

has_same : (at : ℕ) (places : List ℕ) → has_place at (places ++ at ∷ []) ≡ true
has_same at places =
    has_push at at places ∙ ap (λ b. has_place at places || b) (eq-eqb at at refl) ∙ or_true (has_place at places)

has_other : (k at : ℕ) (places : List ℕ) → eqb k at ≡ false → has_place k (places ++ at ∷ []) ≡ has_place k places
has_other k at places e =
    has_push k at places ∙ ap (λ b. has_place k places || b) e ∙ or-false (has_place k places)

set_other : {X : Type 0} (xs : List X) (i j : ℕ) (y : X) → (j ≡ i → ⊥) → slice_get (set xs i y) j ≡ slice_get xs j
set_other [] i j y apart = refl
set_other (x ∷ xs) zero zero y apart = absurd (apart refl)
set_other (x ∷ xs) zero (suc j) y apart = refl
set_other (x ∷ xs) (suc i) zero y apart = refl
set_other (x ∷ xs) (suc i) (suc j) y apart = set_other xs i j y (λ e. apart (ap suc e))

push_other : {X : Type 0} (xs : List X) (x : X) (k : ℕ) → (k ≡ length xs → ⊥)
    → slice_get (xs ++ x ∷ []) k ≡ slice_get xs k
push_other [] x zero apart = absurd (apart refl)
push_other [] x (suc k) apart = refl
push_other (y ∷ xs) x zero apart = refl
push_other (y ∷ xs) x (suc k) apart = push_other xs x k (λ e. apart (ap suc e))

same_items : {X : Type 0} (xs ys : List X) → ((k : ℕ) → slice_get xs k ≡ slice_get ys k) → xs ≡ ys
same_items [] [] same = refl
same_items [] (y ∷ ys) same = let bad = same 0 in absurd cc
same_items (x ∷ xs) [] same = let bad = same 0 in absurd cc
same_items (x ∷ xs) (y ∷ ys) same = λ i. some_same (same 0) i ∷ same_items xs ys (λ k. same (suc k)) i

-- ---- the runs that go on

-- a run goes on to the place where its row stands in the rows there, unless it ended before the place before that
abbrev pub goes_on : ℕ → List (List Value) → Run → Run
goes_on place rows run = cond (eqb (run.end + 1) place) (to_place place rows run) run

fits_by : (many : ℕ) (o p : Option Run) (b c : Bool) → o ≡ p → b ≡ c → Fits many p c → Fits many o b
fits_by many o p b c same test fits =
    subst (λ x. Fits many x b) (sym same) (subst (λ x. Fits many p x) (sym test) fits)

module _ (place : ℕ) (rows : List (List Value)) where
  abbrev ended : Run → Run
  ended run = record { row = run.row; start = run.start; end = place }

  goes_by : (old now after : Option Run) (d e s t : Bool) → e ≡ d → t ≡ s → after ≡ now → GoesOn place rows old now d s
      → GoesOn place rows old after e t
  goes_by None now after d e s t was is same goes = (is ∙ goes.0, same ∙ goes.1)
  goes_by (Some run) now after d e s t was is same goes = (
    is ∙ goes.0 ∙ ap (λ b. b && has_row run.row rows) (sym was),
    same ∙ goes.1 ∙ ap (λ b. Some (cond b (to_place place rows run) run)) (sym was),
  )

  to_by : (run : Run) (h : Bool) → has_row run.row rows ≡ h → to_place place rows run ≡ cond h (ended run) run
  to_by run h e = ap (λ b. cond b (ended run) run) e

  at_past : (old : Option Run) (d s : Bool) → GoesOn place rows old None d s → GoesOn place rows old None true s
  at_past None d s goes = goes
  at_past (Some run) d s goes = let bad = goes.1 in absurd cc

  at_lacks : (old : Option Run) (d s : Bool) (now : Run) → has_row now.row rows ≡ false
      → GoesOn place rows old (Some now) d s → GoesOn place rows old (Some now) true s
  at_lacks None d s now lacks goes = let bad = goes.1 in absurd cc
  at_lacks (Some run) true s now lacks goes = goes
  at_lacks (Some run) false s now lacks goes =
      let same : now ≡ run = some_same goes.1 in
      let none : has_row run.row rows ≡ false = ap (λ (r : Run). has_row r.row rows) (sym same) ∙ lacks in
      (goes.0 ∙ sym none, goes.1 ∙ ap (λ r. Some r) (sym (to_by run false none)))

  kept : (run : Run) (h : Bool) → ended (cond h (ended run) run) ≡ ended run
  kept run true = refl
  kept run false = refl

  now_is : (run now : Run) (d : Bool) → now ≡ cond d (to_place place rows run) run → ended now ≡ ended run
  now_is run now true e = ap ended e ∙ kept run (has_row run.row rows)
  now_is run now false e = ap ended e

  at_has : (old : Option Run) (d s : Bool) (now : Run) → has_row now.row rows ≡ true
      → GoesOn place rows old (Some now) d s → GoesOn place rows old (Some (ended now)) true true
  at_has None d s now has goes = let bad = goes.1 in absurd cc
  at_has (Some run) d s now has goes =
      let same : ended now ≡ ended run = now_is run now d (some_same goes.1) in
      let there : has_row run.row rows ≡ true = ap (λ (r : Run). has_row r.row rows) (sym same) ∙ has in
      (sym there, ap (λ r. Some r) (same ∙ sym (to_by run true there)))

  module _ (old now : List Run) (done still : List ℕ) (at : ℕ) (so_far : AllGoOn place rows done still old now) where
    step : (after : List Run) (stays : List ℕ)
        → GoesOn place rows (slice_get old at) (slice_get after at) true (has_place at stays)
        → ((k : ℕ) → (k ≡ at → ⊥) → slice_get after k ≡ slice_get now k)
        → ((k : ℕ) → eqb k at ≡ false → has_place k stays ≡ has_place k still)
        → AllGoOn place rows (done ++ at ∷ []) stays old after
    step after stays here others other_places k =
        let Goes : ℕ → Type 0 = λ m. GoesOn place rows (slice_get old m) (slice_get after m)
        (has_place m (done ++ at ∷ [])) (has_place m stays) in
        elim (same_place k at) [
          | inl e ↦ subst Goes (sym e) (goes_by (slice_get old at) (slice_get after at) (slice_get after at) true
              (has_place at (done ++ at ∷ [])) (has_place at stays) (has_place at stays) (has_same at done) refl refl
              here)
          | inr apart ↦ goes_by (slice_get old k) (slice_get now k) (slice_get after k) (has_place k done)
              (has_place k (done ++ at ∷ [])) (has_place k still) (has_place k stays) (has_other k at done apart)
              (other_places k apart) (others k (eqb-false k at apart)) (so_far k)
        ]

    abbrev was : Option Run
    was = slice_get old at

    seen : (o : Option Run) → slice_get now at ≡ o → GoesOn place rows was o (has_place at done) (has_place at still)
    seen o e = goes_by was (slice_get now at) o (has_place at done) (has_place at done) (has_place at still)
        (has_place at still) refl refl (sym e) (so_far at)

    -- an ongoing place at which there is no run
    pub goes_past : slice_get now at ≡ None → AllGoOn place rows (done ++ at ∷ []) still old now
    goes_past none =
        step now still (goes_by was None (slice_get now at) true true (has_place at still) (has_place at still) refl
        refl none (at_past was (has_place at done) (has_place at still) (seen None none))) (λ k apart. refl)
        (λ k apart. refl)

    -- a run that ends before
    pub stays_behind : (run : Run) → slice_get now at ≡ Some run → has_row run.row rows ≡ false
        → AllGoOn place rows (done ++ at ∷ []) still old now
    stays_behind run e lacks =
        step now still (goes_by was (Some run) (slice_get now at) true true (has_place at still) (has_place at still)
        refl refl e (at_lacks was (has_place at done) (has_place at still) run lacks (seen (Some run) e)))
        (λ k apart. refl) (λ k apart. refl)

    -- a run that goes on
    pub goes_there : (run : Run) → slice_get now at ≡ Some run → at < length now → has_row run.row rows ≡ true
        → AllGoOn place rows (done ++ at ∷ []) (still ++ at ∷ []) old (set now at (ended run))
    goes_there run e lt has =
        step (set now at (ended run)) (still ++ at ∷ [])
        (goes_by was (Some (ended run)) (slice_get (set now at (ended run)) at) true true true
        (has_place at (still ++ at ∷ [])) refl (has_same at still) (get_set now at (ended run) lt)
        (at_has was (has_place at done) (has_place at still) run has (seen (Some run) e)))
        (λ k apart. set_other now at k (ended run) apart) (λ k apart. has_other k at still apart)

  apart_test : (a b : ℕ) → a < b → eqb a b ≡ false
  apart_test a b lt = elim (same_place a b) [ inl e ↦ absurd (omega (arith, e)) | inr test ↦ test ]

  gone_at : (old new : Option Run) (d s : Bool) → GoesOn place rows old new d s → Fits place old d
      → new ≡ option_map (goes_on place rows) old
  gone_at None new d s goes fits = goes.1
  gone_at (Some run) new true s goes fits =
      goes.1 ∙ ap (λ b. Some (cond b (to_place place rows run) run)) (sym (eq-eqb (run.end + 1) place fits.1))
  gone_at (Some run) new false s goes fits =
      goes.1 ∙ ap (λ b. Some (cond b (to_place place rows run) run)) (sym (apart_test (run.end + 1) place fits.1))

  fits_has : (run : Run) (new : Option Run) (d s h : Bool) → has_row run.row rows ≡ h
      → GoesOn place rows (Some run) new d s → Fits place (Some run) d → Fits (place + 1) new s
  fits_has run new true s true e goes fits =
      fits_by (place + 1) new (Some (ended run)) s true (goes.1 ∙ ap (λ r. Some r) (to_by run true e)) (goes.0 ∙ e)
      (omega (arith, fits.0), refl)
  fits_has run new true s false e goes fits =
      fits_by (place + 1) new (Some run) s false (goes.1 ∙ ap (λ r. Some r) (to_by run false e)) (goes.0 ∙ e)
      (omega (arith, fits.0), omega (arith, fits.1))
  fits_has run new false s h e goes fits =
      fits_by (place + 1) new (Some run) s false goes.1 goes.0 (omega (arith, fits.0), omega (arith, fits.1))

  fits_at : (old new : Option Run) (d s : Bool) → GoesOn place rows old new d s → Fits place old d
      → Fits (place + 1) new s
  fits_at None new d s goes fits = fits_by (place + 1) new None s false goes.1 goes.0 refl
  fits_at (Some run) new d s goes fits = fits_has run new d s (has_row run.row rows) refl goes fits

  module _ (ongoing still : List ℕ) (old new : List Run) (goes : AllGoOn place rows ongoing still old new)
      (fits : AllFit place ongoing old) where
    all_gone : new ≡ map (goes_on place rows) old
    all_gone = same_items new (map (goes_on place rows) old) (λ k.
        gone_at (slice_get old k) (slice_get new k) (has_place k ongoing) (has_place k still) (goes k) (fits k)
        ∙ sym (slice_get-map (goes_on place rows) old k))

    all_fit : AllFit (place + 1) still new
    all_fit k = fits_at (slice_get old k) (slice_get new k) (has_place k ongoing) (has_place k still) (goes k) (fits k)

-- ---- the runs that begin

pub fits_push : (many : ℕ) (ongoing : List ℕ) (runs : List Run) (run : Run) → run.start < many → run.end + 1 ≡ many
    → AllFit many ongoing runs → AllFit many (ongoing ++ length runs ∷ []) (runs ++ run ∷ [])
fits_push many ongoing runs run start end fits k =
    let Is : ℕ → Type 0 = λ m. Fits many (slice_get (runs ++ run ∷ []) m) (has_place m (ongoing ++ length runs ∷ [])) in
    elim (same_place k (length runs)) [
      | inl e ↦ subst Is (sym e) (fits_by many (slice_get (runs ++ run ∷ []) (length runs)) (Some run)
          (has_place (length runs) (ongoing ++ length runs ∷ [])) true (seam runs [] run)
          (has_same (length runs) ongoing) (start, end))
      | inr apart ↦ fits_by many (slice_get (runs ++ run ∷ []) k) (slice_get runs k)
          (has_place k (ongoing ++ length runs ∷ [])) (has_place k ongoing)
          (push_other runs run k (eqb-false k (length runs) apart)) (has_other k (length runs) ongoing apart) (fits k)
    ]

-- a row more, whose run begins
pub begun_next : (place : ℕ) (last rows : List (List Value)) (i : ℕ) (row : List Value) → i < length rows
    → row ≡ get_or rows i row → has_row row last ≡ false
    → begun place last (drop i rows) ≡ record { row = row; start = place; end = place } ∷ begun place last
    (drop (i + 1) rows)
begun_next place last rows i row lt at none =
    ap (begun place last) (drop_more rows i row lt ∙ ap (λ r. r ∷ drop (i + 1) rows) (sym at))
    ∙ ap (λ b. map (λ row. record { row = row; start = place; end = place })
    (cond (not b) (row ∷ filter (λ row. not (has_row row last)) (drop (i + 1) rows))
    (filter (λ row. not (has_row row last)) (drop (i + 1) rows)))) none

-- ---- the runs over one answer more

-- the run of a row from a place on
abbrev pub run_of : List (List (List Value)) → ℕ → List Value → Run
run_of sets start row = record { row = row; start = start; end = run_end sets start row }

drop_front : {X : Type 0} (xs : List X) (x : X) (i : ℕ) → i ≤ length xs → drop i (xs ++ x ∷ []) ≡ drop i xs ++ x ∷ []
drop_front [] x zero le = refl
drop_front [] x (suc i) le = absurd (omega arith)
drop_front (y ∷ xs) x zero le = refl
drop_front (y ∷ xs) x (suc i) le = drop_front xs x i (omega arith)

same_map : {X Y Z : Type 0} (f : X → Z) (g : Y → Z) (h : X → Y) → ((x : X) → f x ≡ g (h x)) → (xs : List X)
    → map f xs ≡ map g (map h xs)
same_map f g h same [] = refl
same_map f g h same (x ∷ xs) = λ i. same x i ∷ same_map f g h same xs i

one_more : {X : Type 0} (p : X → Bool) (x : X) → prefix_len p (x ∷ []) ≡ cond (p x) 1 0
one_more p x = refl

module _ (sets : List (List (List Value))) (rows : List (List Value)) where
  abbrev more : List (List (List Value))
  more = sets ++ rows ∷ []

  before_same : (start : ℕ) (row : List Value) → start < length sets
      → stands_before more start row ≡ stands_before sets start row
  before_same zero row lt = refl
  before_same (suc start) row lt = ap (has_row row) (get_or_append_left sets (rows ∷ []) [] start (omega arith))

  module _ (start : ℕ) (lt : start < length sets) (row : List Value) where
    abbrev behind : List (List (List Value))
    behind = drop (start + 1) sets

    abbrev run : Run
    run = run_of sets start row

    abbrev long : ℕ
    long = prefix_len (has_row row) behind

    many : length behind ≡ length sets - (start + 1)
    many = length-drop (start + 1) sets

    length_more : prefix_len (has_row row) (drop (start + 1) more) ≡ cond (eqb long (length behind))
        (length behind + cond (has_row row rows) 1 0) long
    length_more =
        ap (prefix_len (has_row row)) (drop_front sets rows (start + 1) (omega arith))
        ∙ prefix_len-append (has_row row) behind (rows ∷ [])
        ∙ ap (λ n. cond (eqb long (length behind)) (length behind + n) long) (one_more (has_row row) rows)

    ends_at : (f h : Bool) → eqb long (length behind) ≡ f → has_row row rows ≡ h
        → run_end more start row ≡ start + cond f (length behind + cond h 1 0) long
    ends_at f h full has =
        ap (λ n. start + n) (length_more ∙ ap (λ b. cond b (length behind + cond (has_row row rows) 1 0) long) full ∙ ap
        (λ b. cond f (length behind + cond b 1 0) long) has)

    goes_to : (f h : Bool) → eqb (run.end + 1) (length sets) ≡ f → has_row row rows ≡ h
        → goes_on (length sets) rows run ≡ cond f (cond h (record { row = row; start = start; end = length sets }) run)
        run
    goes_to f h last has =
        ap (λ b. cond b (to_place (length sets) rows run) run) last
        ∙ ap (λ b. cond f (cond b (record { row = row; start = start; end = length sets }) run) run) has

    by_tests : (f h : Bool) → eqb long (length behind) ≡ f → has_row row rows ≡ h
        → run_of more start row ≡ goes_on (length sets) rows run
    by_tests true true full has =
        let all : long ≡ length behind = eqb-true long (length behind) full in
        ap (λ e. record { row = row; start = start; end = e }) (ends_at true true full has ∙ omega (arith, many))
        ∙ sym (goes_to true true (eq-eqb (run.end + 1) (length sets) (omega (arith, all, many))) has)
    by_tests true false full has =
        let all : long ≡ length behind = eqb-true long (length behind) full in
        ap (λ e. record { row = row; start = start; end = e }) (ends_at true false full has ∙ omega (arith, all))
        ∙ sym (goes_to true false (eq-eqb (run.end + 1) (length sets) (omega (arith, all, many))) has)
    by_tests false h full has =
        let short : long < length behind = elim (equal_or_less long (length behind)
        (prefix_len-le-length (has_row row) behind))
        [ inl e ↦ absurd (eqb-false long (length behind) full e) | inr less ↦ less ] in
        ap (λ e. record { row = row; start = start; end = e }) (ends_at false h full has)
        ∙ sym (goes_to false h (apart_test 0 [] (run.end + 1) (length sets) (omega (arith, short, many))) has)

    same_run : run_of more start row ≡ goes_on (length sets) rows run
    same_run = by_tests (eqb long (length behind)) (has_row row rows) refl refl

  at_same : (start : ℕ) → start < length sets
      → runs_at more start ≡ map (goes_on (length sets) rows) (runs_at sets start)
  at_same start lt =
      (λ i. map (run_of more start) (filter (λ row. not (before_same start row lt i))
      (get_or_append_left sets (rows ∷ []) [] start lt i)))
      ∙ same_map (run_of more start) (goes_on (length sets) rows) (run_of sets start) (same_run start lt)
      (filter (λ row. not (stands_before sets start row)) (get_or sets start []))

  all_same : (a n : ℕ) → a + n ≤ length sets
      → flat_map (runs_at more) (range_with_len a n) ≡ map (goes_on (length sets) rows)
      (flat_map (runs_at sets) (range_with_len a n))
  all_same a zero le = refl
  all_same a (suc n) le =
      ap (λ l. l ++ flat_map (runs_at more) (range_with_len (a + 1) n)) (at_same a (omega arith))
      ∙ ap (λ l. map (goes_on (length sets) rows) (runs_at sets a) ++ l) (all_same (a + 1) n (omega arith))
      ∙ sym (map-append (goes_on (length sets) rows) (runs_at sets a)
      (flat_map (runs_at sets) (range_with_len (a + 1) n)))

  last_place : (f : ℕ → List Run) (a n : ℕ)
      → flat_map f (range_with_len a (suc n)) ≡ flat_map f (range_with_len a n) ++ f (a + n)
  last_place f a zero = append-nil (f a) ∙ ap f (omega arith)
  last_place f a (suc n) =
      ap (λ l. f a ++ l) (last_place f (a + 1) n)
      ∙ sym (append_assoc (f a) (flat_map f (range_with_len (a + 1) n)) (f ((a + 1) + n)))
      ∙ ap (λ m. flat_map f (range_with_len a (suc n)) ++ f m) (omega arith)

  -- the runs over one answer more: those before it, of which some go on, and behind them those that begin there
  runs_more : runs more ≡ map (goes_on (length sets) rows) (runs sets) ++ runs_at more (length sets)
  runs_more =
      let many : length more ≡ suc (length sets) = length_push sets rows ∙ omega arith in
      let end : 0 + length sets ≡ length sets = omega arith in
      ap (λ n. flat_map (runs_at more) (range_with_len 0 n)) many ∙ last_place (runs_at more) 0 (length sets)
      ∙ ap (λ n. flat_map (runs_at more) (range_with_len 0 (length sets)) ++ runs_at more n) end
      ∙ ap (λ l. l ++ runs_at more (length sets)) (all_same 0 (length sets) (omega arith))

  before_last : (n : ℕ) (row : List Value) → n ≤ length sets
      → has_row row (rows_before sets n) ≡ stands_before more n row
  before_last zero row le = refl
  before_last (suc n) row le = ap (has_row row) (sym (get_or_append_left sets (rows ∷ []) [] n (omega arith)))

  begun_run : (row : List Value)
      → ◌≡◌ {A = Run} (record { row = row; start = length sets; end = length sets }) (run_of more (length sets) row)
  begun_run row =
      let none : drop (length sets + 1) more ≡ [] = drop_all (length sets + 1) more
      (omega (arith, length_push sets rows)) in
      ap (λ e. record { row = row; start = length sets; end = e })
      (sym (ap (λ l. length sets + prefix_len (has_row row) l) none ∙ omega arith))

  begun_there : begun (length sets) (rows_before sets (length sets)) rows ≡ runs_at more (length sets)
  begun_there =
      λ i. map (λ row. begun_run row i) (filter (λ row. not (before_last (length sets) row (omega arith) i))
      (sym (get_or-append_seam sets rows [] []) i))

-- an answer more: what went on, and then what began
pub adds_rows : (place : ℕ) (rows : List (List Value)) (old mid after new : RunsSoFar)
    → AllGoOn place rows old.ongoing.items mid.ongoing.items old.runs.items mid.runs.items → mid.last ≡ old.last
    → Begins place rows mid after → new.runs.items ≡ after.runs.items → new.ongoing.items ≡ after.ongoing.items
    → new.last ≡ rows → AddsRows place rows old new
adds_rows place rows old mid after new goes last begins same_runs same_ongoing now answers count are = (
  now ∙ sym (ap (rows_before (answers ++ rows ∷ [])) longer ∙ get_or-append_seam answers rows [] []),
  same_runs ∙ begins.0
      ∙ ap (λ l. l ++ begun place mid.last rows) (all_gone place rows old.ongoing.items mid.ongoing.items old.runs.items
      mid.runs.items goes fits)
      ∙ ap (λ l. map (goes_on place rows) l ++ begun place mid.last rows) are.1
      ∙ ap (λ l. map (goes_on place rows) (runs answers) ++ begun place l rows) (last ∙ are.0)
      ∙ ap (λ n. map (goes_on n rows) (runs answers) ++ begun n (rows_before answers (length answers)) rows) (sym count)
      ∙ ap (λ l. map (goes_on (length answers) rows) (runs answers) ++ l) (begun_there answers rows)
      ∙ sym (runs_more answers rows),
  let after_fits : AllFit (place + 1) after.ongoing.items after.runs.items = begins.1
      (all_fit place rows old.ongoing.items mid.ongoing.items old.runs.items mid.runs.items goes fits) in
      subst (λ n. AllFit n new.ongoing.items new.runs.items)
      (ap (λ n. n + 1) (sym count) ∙ sym (length_push answers rows))
      (subst (λ l. AllFit (place + 1) l new.runs.items) (sym same_ongoing)
      (subst (λ l. AllFit (place + 1) after.ongoing.items l) (sym same_runs) after_fits)),
)
  where
    longer : length (answers ++ rows ∷ []) ≡ suc (length answers)
    longer = length_push answers rows ∙ omega arith

    fits : AllFit place old.ongoing.items old.runs.items
    fits = subst (λ n. AllFit n old.ongoing.items old.runs.items) count are.2
