-- The rows that entries lead to, one after the other.
use Rattle.std.proofs.Common.{◌≡◌, ◌∙◌, ◌<◌, ◌+◌, ◌++◌, ℕ, suc, Bool, true, false, cond, List, [], ◌∷◌, length, get_or, take, drop, Option, Some, None, Result, Ok, Err, inl, inr, refl, sym, ap, subst}
use Rattle.std.specs.List.{AllByRecursion, cons_option}
use Rattle.std.specs.Prelude.{IfSome}
use Rattle.std.proofs.lemmas.List.Elements.{All-from_recursion, All-push, recursion_from_All}
use Rattle.std.proofs.lemmas.List.{append-nil, take_more}
use Rattle.retro_base.specs.declared.refusal.Refusal.{Refusal}
use Rattle.sql_tree.specs.Rows.{fits}
use Rattle.sql_tree.specs.declared.statement.Column.{Column as TableColumn}
use Rattle.values.specs.declared.value.Value.{Value}
use Rattle.pager.specs.Pages.{Pages, broken}
use Rattle.pager.specs.declared.index.Found.{Found}
use Rattle.heap_file.specs.Chain.{IsAt}
use Rattle.heap_file.specs.Sieving.{AllPass}
use Rattle.heap_file.specs.Work.{row_numbered}
use Rattle.heap_file.specs.declared.chain.Link.{Link}
use Rattle.heap_file.specs.declared.chain.Placed.{Placed}
use Rattle.relation.specs.Each.{each_some}
use Rattle.relation.specs.Sieving.{fitting, passing_found}
use Rattle.relation.specs.Work.{AllPlacedFit, by_number, ranged_by, row_found}
use Rattle.relation.specs.declared.catalog.StoredIndex.{StoredIndex}
use Rattle.relation.specs.declared.catalog.StoredTable.{StoredTable}
use Rattle.relation.proofs.Steps.{ok_is}
use Rattle.pager.proofs.Turns.{around}

cons-append : {A : Type 0} (o : Option A) (xs ys : List A) → cons_option o (xs ++ ys) ≡ cons_option o xs ++ ys
cons-append None xs ys = refl
cons-append (Some x) xs ys = refl

-- one item more
pub each_some-push : {A B : Type 0} (step : A → Result (Option B) Refusal → Type 0) (xs : List A) (x : A) (ys : List B) (o : Option B) → each_some step xs (Ok ys) → step x (Ok o) → each_some step (xs ++ x ∷ []) (Ok (ys ++ cons_option o []))
each_some-push step [] x ys o h s = (o, s, ([], refl, ap (λ l. Ok (l ++ cons_option o [])) (ok_is [] ys h)))
each_some-push step (z ∷ xs) x ys o h s =
    (h.0, h.1, (h.2.0 ++ cons_option o [], each_some-push step xs x h.2.0 o h.2.1 s, ap (λ l. Ok l) (cons-append h.0 h.2.0 (cons_option o [])) ∙ ap (λ l. Ok (l ++ cons_option o [])) (ok_is (cons_option h.0 h.2.0) ys h.2.2)))

-- an item that is refused
pub each_some-stop : {A B : Type 0} (step : A → Result (Option B) Refusal → Type 0) (xs : List A) (x : A) (behind : List A) (ys : List B) (why : Refusal) → each_some step xs (Ok ys) → step x (Err why) → each_some step (xs ++ x ∷ behind) (Err why)
each_some-stop step [] x behind ys why h s = inl s
each_some-stop step (z ∷ xs) x behind ys why h s = inr (h.0, h.1, inl (each_some-stop step xs x behind h.2.0 why h.2.1 s))

pub each_some-next : {A B : Type 0} (step : A → Result (Option B) Refusal → Type 0) (xs : List A) (i : ℕ) (x : A) (ys : List B) (o : Option B) → i < length xs → x ≡ get_or xs i x → each_some step (take i xs) (Ok ys) → step x (Ok o) → each_some step (take (i + 1) xs) (Ok (ys ++ cons_option o []))
each_some-next step xs i x ys o lt is h s =
    rw (take_more xs i x lt, ← is) (each_some-push step (take i xs) x ys o h s)

pub each_some-ended : {A B : Type 0} (step : A → Result (Option B) Refusal → Type 0) (xs : List A) (i : ℕ) (x : A) (ys : List B) (why : Refusal) → i < length xs → x ≡ get_or xs i x → each_some step (take i xs) (Ok ys) → step x (Err why) → each_some step xs (Err why)
each_some-ended step xs i x ys why lt is h s =
    subst (λ l. each_some step l (Err why)) (ap (λ y. take i xs ++ y ∷ drop (suc i) xs) is ∙ around xs i x lt) (each_some-stop step (take i xs) x (drop (suc i) xs) ys why h s)

-- the row of an entry on its page
pub found-on : (passes : Placed → Result Bool Refusal) (size : ℕ) (pages : Pages) (entry : Found) (link : Link) (a : Result (Option Placed) Refusal) → link.page ≡ entry.page → IsAt size pages link.page link.held → passing_found passes entry (row_numbered entry.number link.held.entries) ≡ a → row_found passes size pages entry a
found-on passes size pages entry link (Ok y) same at h =
    (row_numbered entry.number link.held.entries, (link.held, subst (λ (page : ℕ). IsAt size pages page link.held) same at, refl), h)
found-on passes size pages entry link (Err why) same at h =
    inr (row_numbered entry.number link.held.entries, (link.held, subst (λ (page : ℕ). IsAt size pages page link.held) same at, refl), h)

-- the same test of a row that was found
pub same-found : (other passes : Placed → Result Bool Refusal) (entry : Found) (row : Option (List Value)) (a : Result (Option Placed) Refusal) → other ≡ passes → passing_found other entry row ≡ a → passing_found passes entry row ≡ a
same-found other passes entry row a same h = subst (λ (t : Placed → Result Bool Refusal). passing_found t entry row ≡ a) same h

-- one row more that passes
pub pass-more : (other passes : Placed → Result Bool Refusal) (rows : List Placed) (o : Option Placed) → other ≡ passes → AllPass passes rows → IfSome o (λ placed. other placed ≡ Ok true) → AllPass passes (rows ++ cons_option o [])
pass-more other passes rows None same all h = rw append-nil all
pass-more other passes rows (Some placed) same all h =
    All-push (λ (row : Placed). passes row ≡ Ok true) rows placed all (subst (λ (t : Placed → Result Bool Refusal). t placed ≡ Ok true) same h)

-- rows that pass fit the columns, and pass the test that comes then
passed-both : (columns : List TableColumn) (passes : Placed → Result Bool Refusal) (row : Placed) (b : Bool) → fits columns row.row ≡ b → fitting columns passes row ≡ Ok true → (fits columns row.row ≡ true) × (passes row ≡ Ok true)
passed-both columns passes row true e h = (e, sym (ap (λ (b : Bool). cond b (passes row) (Err (broken row.page))) e) ∙ h)
passed-both columns passes row false e h = let no : Err (broken row.page) ≡ Ok true = sym (ap (λ (b : Bool). cond b (passes row) (Err (broken row.page))) e) ∙ h in absurd (cc no)

pub all-fit : (columns : List TableColumn) (passes : Placed → Result Bool Refusal) (rows : List Placed) → AllPass (fitting columns passes) rows → AllPlacedFit columns rows
all-fit columns passes rows all = through rows (recursion_from_All (λ (row : Placed). fitting columns passes row ≡ Ok true) rows all)
  where
    through : (rest : List Placed) → AllByRecursion (λ (row : Placed). fitting columns passes row ≡ Ok true) rest → AllPlacedFit columns rest
    through [] h = tt
    through (row ∷ rest) h = ((passed-both columns passes row (fits columns row.row) refl h.0).0, through rest h.1)

pub all-passed : (columns : List TableColumn) (passes : Placed → Result Bool Refusal) (rows : List Placed) → AllPass (fitting columns passes) rows → AllPass passes rows
all-passed columns passes rows all = All-from_recursion (λ (row : Placed). passes row ≡ Ok true) rows (through rows (recursion_from_All (λ (row : Placed). fitting columns passes row ≡ Ok true) rows all))
  where
    through : (rest : List Placed) → AllByRecursion (λ (row : Placed). fitting columns passes row ≡ Ok true) rest → AllByRecursion (λ (row : Placed). passes row ≡ Ok true) rest
    through [] h = tt
    through (row ∷ rest) h = ((passed-both columns passes row (fits columns row.row) refl h.0).1, through rest h.1)

-- a range that is read, step by step
pub ranged-by : (passes : Placed → Result Bool Refusal) (range : ℕ → ℕ → Value → Value → Pages → Result (List Found) Refusal → Type 0) (size : ℕ) (pages : Pages) (table : StoredTable) (index : StoredIndex) (low high : Value) (found sorted : List Found)
    → range size index.root low high pages (Ok found) → by_number found (Ok sorted)
    → (a : Result (List Placed) Refusal) → each_some (row_found (fitting table.columns passes) size pages) sorted a → ranged_by passes range size pages table index low high a
ranged-by passes range size pages table index low high found sorted read rising (Ok y) h = (found, read, (sorted, rising, h))
ranged-by passes range size pages table index low high found sorted read rising (Err why) h = inr (found, read, inr (sorted, rising, h))
