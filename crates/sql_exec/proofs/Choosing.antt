-- Rows that are chosen among rows whose numbers differ.
use Rattle.std.proofs.Common.{◌≡◌, ◌≢◌, ◌∙◌, ◌<◌, ◌==◌, ◌||◌, ◌∷◌, ℕ, suc, Bool, true, false, not, cond, List, [], length, map, refl, sym, ap, subst, arith, eq-eqb}
use Rattle.std.specs.List.{AllByRecursion, Contains, filter, list_any}
use Rattle.std.specs.Prelude.{slice_index_or}
use Rattle.std.proofs.lemmas.Bool.{ne_eqb}
use Rattle.values.specs.declared.value.Value.{Value}
use Rattle.heap_file.specs.declared.chain.Placed.{Placed}
use Rattle.relation_laws.specs.Laws.{changed_to}
use Rattle.relation_laws.specs.Tables.{AreDifferent, numbered_row}
use Rattle.relation_laws.proofs.Lists.{contains-cases, contains-cons, contains-head}

abbrev pub number_of : Placed → ℕ
number_of placed = placed.number

-- numbers that rise differ
above : {A : Type 0} (f : A → ℕ) (n : ℕ) (xs : List A) → ((j : ℕ) (d : A) → j < length xs → n < f (slice_index_or xs j d)) → AllByRecursion (λ (m : ℕ). m ≢ n) (map f xs)
above f n [] rise = tt
above f n (x ∷ xs) rise = ((λ same. omega (arith, rise 0 x (omega arith), same)), above f n xs (λ j d lt. rise (suc j) d (omega (arith, lt))))

pub rising-differ : {A : Type 0} (f : A → ℕ) (xs : List A) → ((i j : ℕ) (d : A) → i < j → j < length xs → f (slice_index_or xs i d) < f (slice_index_or xs j d)) → AreDifferent (map f xs)
rising-differ f [] rise = tt
rising-differ f (x ∷ xs) rise = (above f (f x) xs (λ j d lt. rise 0 (suc j) d (omega arith) (omega (arith, lt))), rising-differ f xs (λ i j d less lt. rise (suc i) (suc j) d (omega (arith, less)) (omega (arith, lt))))

-- a number that the rest do not have
kept-apart : (choose : Placed → Bool) (n : ℕ) (rows : List Placed) → AllByRecursion (λ (m : ℕ). m ≢ n) (map number_of rows) → AllByRecursion (λ (m : ℕ). m ≢ n) (map number_of (filter choose rows))
kept-apart choose n [] apart = tt
kept-apart choose n (row ∷ rows) apart = go (choose row) (kept-apart choose n rows apart.1)
  where
    go : (b : Bool) → AllByRecursion (λ (m : ℕ). m ≢ n) (map number_of (filter choose rows)) → AllByRecursion (λ (m : ℕ). m ≢ n) (map number_of (cond b (row ∷ filter choose rows) (filter choose rows)))
    go true rest = (apart.0, rest)
    go false rest = rest

pub chosen-differ : (choose : Placed → Bool) (rows : List Placed) → AreDifferent (map number_of rows) → AreDifferent (map number_of (filter choose rows))
chosen-differ choose [] apart = tt
chosen-differ choose (row ∷ rows) apart = go (choose row) (chosen-differ choose rows apart.1)
  where
    go : (b : Bool) → AreDifferent (map number_of (filter choose rows)) → AreDifferent (map number_of (cond b (row ∷ filter choose rows) (filter choose rows)))
    go true rest = (kept-apart choose row.number rows apart.0, rest)
    go false rest = rest

-- what holds of all rows holds of those that are chosen
pub chosen-all : (P : Placed → Type 0) (choose : Placed → Bool) (rows : List Placed) → AllByRecursion P rows → AllByRecursion P (filter choose rows)
chosen-all P choose [] all = tt
chosen-all P choose (row ∷ rows) all = go (choose row) (chosen-all P choose rows all.1)
  where
    go : (b : Bool) → AllByRecursion P (filter choose rows) → AllByRecursion P (cond b (row ∷ filter choose rows) (filter choose rows))
    go true rest = (all.0, rest)
    go false rest = rest

pub all-contained : (P : Placed → Type 0) (rows : List Placed) → ((row : Placed) → Contains rows row → P row) → AllByRecursion P rows
all-contained P [] each = tt
all-contained P (row ∷ rows) each = (each row (contains-head row rows), all-contained P rows (λ other has. each other (contains-cons other row rows has)))

-- whether a row is chosen shows in the numbers of those that are
none-any : (n : ℕ) (numbers : List ℕ) → AllByRecursion (λ (m : ℕ). m ≢ n) numbers → list_any (λ (m : ℕ). n == m) numbers ≡ false
none-any n [] apart = refl
none-any n (m ∷ numbers) apart =
    ap (λ (b : Bool). b || list_any (λ (k : ℕ). n == k) numbers) (ne_eqb n m (λ same. apart.0 (sym same))) ∙ none-any n numbers apart.1

differs-from : (p q : Placed) (rows : List Placed) → AllByRecursion (λ (m : ℕ). m ≢ q.number) (map number_of rows) → Contains rows p → p.number ≢ q.number
differs-from p q [] apart has = absurd (omega (arith, has.1))
differs-from p q (row ∷ rows) apart has = contains-cases row p rows has (λ same. subst (λ (r : Placed). r.number ≢ q.number) same apart.0) (λ there. differs-from p q rows apart.1 there)

pub any-chosen : (choose : Placed → Bool) (rows : List Placed) → AreDifferent (map number_of rows) → (p : Placed) → Contains rows p → list_any (λ (m : ℕ). p.number == m) (map number_of (filter choose rows)) ≡ choose p
any-chosen choose [] apart p has = absurd (omega (arith, has.1))
any-chosen choose (q ∷ rows) apart p has = contains-cases q p rows has here (λ there. go there (any-chosen choose rows apart.1 p there))
  where
    here-by : (b : Bool) → choose q ≡ b → list_any (λ (m : ℕ). q.number == m) (map number_of (cond b (q ∷ filter choose rows) (filter choose rows))) ≡ b
    here-by true e = ap (λ (b : Bool). b || list_any (λ (m : ℕ). q.number == m) (map number_of (filter choose rows))) (eq-eqb q.number q.number refl)
    here-by false e = none-any q.number (map number_of (filter choose rows)) (kept-apart choose q.number rows apart.0)

    here : q ≡ p → list_any (λ (m : ℕ). p.number == m) (map number_of (filter choose (q ∷ rows))) ≡ choose p
    here same = subst (λ (r : Placed). list_any (λ (m : ℕ). r.number == m) (map number_of (filter choose (q ∷ rows))) ≡ choose r) same (here-by (choose q) refl)

    by-head : (b : Bool) → p.number ≢ q.number → list_any (λ (m : ℕ). p.number == m) (map number_of (cond b (q ∷ filter choose rows) (filter choose rows))) ≡ list_any (λ (m : ℕ). p.number == m) (map number_of (filter choose rows))
    by-head true differ = ap (λ (b : Bool). b || list_any (λ (m : ℕ). p.number == m) (map number_of (filter choose rows))) (ne_eqb p.number q.number differ)
    by-head false differ = refl

    go : Contains rows p → list_any (λ (m : ℕ). p.number == m) (map number_of (filter choose rows)) ≡ choose p → list_any (λ (m : ℕ). p.number == m) (map number_of (filter choose (q ∷ rows))) ≡ choose p
    go there rest = by-head (choose q) (differs-from p q rows apart.0 there) ∙ rest

-- the rows without those numbers are those that are not chosen
pub filter-chosen : (choose : Placed → Bool) (numbers : List ℕ) (rows : List Placed) → ((p : Placed) → Contains rows p → list_any (λ (m : ℕ). p.number == m) numbers ≡ choose p)
    → filter (λ (row : ℕ × List Value). not (list_any (λ (m : ℕ). row.0 == m) numbers)) (map numbered_row rows) ≡ map numbered_row (filter (λ (p : Placed). not (choose p)) rows)
filter-chosen choose numbers [] each = refl
filter-chosen choose numbers (row ∷ rows) each =
    ap (λ (b : Bool). cond (not b) (numbered_row row ∷ filter (λ (row : ℕ × List Value). not (list_any (λ (m : ℕ). row.0 == m) numbers)) (map numbered_row rows)) (filter (λ (row : ℕ × List Value). not (list_any (λ (m : ℕ). row.0 == m) numbers)) (map numbered_row rows))) (each row (contains-head row rows))
    ∙ go (choose row) (filter-chosen choose numbers rows (λ p has. each p (contains-cons p row rows has)))
  where
    go : (b : Bool) → filter (λ (row : ℕ × List Value). not (list_any (λ (m : ℕ). row.0 == m) numbers)) (map numbered_row rows) ≡ map numbered_row (filter (λ (p : Placed). not (choose p)) rows)
        → cond (not b) (numbered_row row ∷ filter (λ (row : ℕ × List Value). not (list_any (λ (m : ℕ). row.0 == m) numbers)) (map numbered_row rows)) (filter (λ (row : ℕ × List Value). not (list_any (λ (m : ℕ). row.0 == m) numbers)) (map numbered_row rows))
        ≡ map numbered_row (cond (not b) (row ∷ filter (λ (p : Placed). not (choose p)) rows) (filter (λ (p : Placed). not (choose p)) rows))
    go true rest = rest
    go false rest = ap (λ (l : List (ℕ × List Value)). numbered_row row ∷ l) rest

-- a row under the changes of those that are chosen
abbrev pub with_value : (Placed → List Value) → Placed → ℕ × List Value
with_value value p = (p.number, value p)

abbrev pub chosen_value : Bool → (Placed → List Value) → Placed → ℕ × List Value
chosen_value true value p = with_value value p
chosen_value false value p = numbered_row p

unchanged : (value : Placed → List Value) (p : Placed) (rows : List Placed) → AllByRecursion (λ (m : ℕ). m ≢ p.number) (map number_of rows) → changed_to (map (with_value value) rows) (numbered_row p) ≡ numbered_row p
unchanged value p [] apart = refl
unchanged value p (q ∷ rows) apart =
    ap (λ (b : Bool). cond b (with_value value q) (changed_to (map (with_value value) rows) (numbered_row p))) (ne_eqb p.number q.number (λ same. apart.0 (sym same))) ∙ unchanged value p rows apart.1

pub changed-chosen : (choose : Placed → Bool) (value : Placed → List Value) (rows : List Placed) → AreDifferent (map number_of rows) → (p : Placed) → Contains rows p → changed_to (map (with_value value) (filter choose rows)) (numbered_row p) ≡ chosen_value (choose p) value p
changed-chosen choose value [] apart p has = absurd (omega (arith, has.1))
changed-chosen choose value (q ∷ rows) apart p has = contains-cases q p rows has here (λ there. go there (changed-chosen choose value rows apart.1 p there))
  where
    here-by : (b : Bool) → choose q ≡ b → changed_to (map (with_value value) (cond b (q ∷ filter choose rows) (filter choose rows))) (numbered_row q) ≡ chosen_value b value q
    here-by true e = ap (λ (b : Bool). cond b (with_value value q) (changed_to (map (with_value value) (filter choose rows)) (numbered_row q))) (eq-eqb q.number q.number refl)
    here-by false e = unchanged value q (filter choose rows) (kept-apart choose q.number rows apart.0)

    here : q ≡ p → changed_to (map (with_value value) (filter choose (q ∷ rows))) (numbered_row p) ≡ chosen_value (choose p) value p
    here same = subst (λ (r : Placed). changed_to (map (with_value value) (filter choose (q ∷ rows))) (numbered_row r) ≡ chosen_value (choose r) value r) same (here-by (choose q) refl)

    by-head : (b : Bool) → p.number ≢ q.number → changed_to (map (with_value value) (cond b (q ∷ filter choose rows) (filter choose rows))) (numbered_row p) ≡ changed_to (map (with_value value) (filter choose rows)) (numbered_row p)
    by-head true differ = ap (λ (b : Bool). cond b (with_value value q) (changed_to (map (with_value value) (filter choose rows)) (numbered_row p))) (ne_eqb p.number q.number differ)
    by-head false differ = refl

    go : Contains rows p → changed_to (map (with_value value) (filter choose rows)) (numbered_row p) ≡ chosen_value (choose p) value p → changed_to (map (with_value value) (filter choose (q ∷ rows))) (numbered_row p) ≡ chosen_value (choose p) value p
    go there rest = by-head (choose q) (differs-from p q rows apart.0 there) ∙ rest

pub map-chosen : (choose : Placed → Bool) (value : Placed → List Value) (changes : List (ℕ × List Value)) (rows : List Placed) → ((p : Placed) → Contains rows p → changed_to changes (numbered_row p) ≡ chosen_value (choose p) value p)
    → map (changed_to changes) (map numbered_row rows) ≡ map (λ (p : Placed). chosen_value (choose p) value p) rows
map-chosen choose value changes [] each = refl
map-chosen choose value changes (row ∷ rows) each =
    ap (λ (x : ℕ × List Value). x ∷ map (changed_to changes) (map numbered_row rows)) (each row (contains-head row rows))
    ∙ ap (λ (l : List (ℕ × List Value)). chosen_value (choose row) value row ∷ l) (map-chosen choose value changes rows (λ p has. each p (contains-cons p row rows has)))
