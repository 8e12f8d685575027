-- What is read of a table whose rows are read in one way alone, where no test of a row is refused.
use Rattle.std.proofs.Common.{◌≡◌, ◌∙◌, ◌++◌, ℕ, Bool, cond, List, [], ◌∷◌, Result, Ok, Err, inl, inr, refl, sym, ap, subst, arith}
use Rattle.std.specs.List.{AllByRecursion}
use Rattle.std.proofs.lemmas.List.Concat.{flat_map-append}
use Rattle.std.proofs.lemmas.List.Elements.{All-from_recursion, recursion_from_All}
use Rattle.std.proofs.lemmas.List.Sorted.{All-permutation, IsPermutation-sym}
use Rattle.retro_base.specs.Gives.{◌>>=◌}
use Rattle.retro_base.specs.declared.refusal.Refusal.{Refusal}
use Rattle.pager.specs.Pages.{Pages}
use Rattle.heap_file.specs.declared.chain.Link.{Link}
use Rattle.heap_file.specs.declared.chain.Placed.{Placed}
use Rattle.heap_file.specs.declared.page.HeapPage.{HeapPage}
use Rattle.heap_file.specs.Chain.{IsAt, IsWay, rows_of, rows_on, scanned}
use Rattle.heap_file.specs.Laws.{IsOne}
use Rattle.heap_file.specs.Sieving.{passing, sifted}
use Rattle.heap_file.proofs.Sieves.{Test, passing-by, passing-not}
use Rattle.heap_laws.proofs.Reading.{ok-err, ok-one}
use Rattle.heap_laws.proofs.Routes.{at-one}

-- a way along a chain is a front of it
way-front : (size : ℕ) (pages : Pages) (from : ℕ) (links whole : List Link) (to : ℕ) → IsWay size pages from links to → IsWay size pages from whole 0 → (behind : List Link) × (whole ≡ links ++ behind)
way-front size pages from [] whole to way all = (whole, refl)
way-front size pages from (l ∷ ls) [] to way all = absurd (omega (arith, all, way.0, way.1.named))
way-front size pages from (l ∷ ls) (w ∷ ws) to way all =
    let held : l.held ≡ w.held = at-one size size pages from l.held w.held (subst (λ (p : ℕ). IsAt size pages p l.held) way.0 way.1) (subst (λ (p : ℕ). IsAt size pages p w.held) all.0 all.1) in
    let page : l.page ≡ w.page = way.0 ∙ sym all.0 in
    let same : l ≡ w = λ i. record { page = page i; held = held i } in
    let rest = way-front size pages w.held.next ls ws to (subst (λ (h : HeapPage). IsWay size pages h.next ls to) held way.2) all.2 in
    (rest.0, ap (λ (l : List Link). w ∷ l) rest.1 ∙ ap (λ (one : Link). one ∷ ls ++ rest.0) (sym same))

-- a test that is not refused
abbrev Decided : Test → Placed → Type 0
Decided passes row = (b : Bool) × (passes row ≡ Ok b)

decided : (passes : Test) (rows kept : List Placed) → passing passes rows ≡ Ok kept → AllByRecursion (Decided passes) rows
decided passes [] kept e = tt
decided passes (row ∷ rows) kept e = by (passes row) refl (passing passes rows) refl (λ front s. decided passes rows front s)
  where
    by : (t : Result Bool Refusal) → passes row ≡ t → (r : Result (List Placed) Refusal) → passing passes rows ≡ r → ((front : List Placed) → passing passes rows ≡ Ok front → AllByRecursion (Decided passes) rows) → AllByRecursion (Decided passes) (row ∷ rows)
    by (Err why) t r s rest = ok-err (sym e ∙ passing-not passes row rows why t)
    by (Ok b) t (Err why) s rest = ok-err (sym e ∙ passing-by passes row rows b t ∙ ap (λ (r : Result (List Placed) Refusal). r >>= (λ (others : List Placed). Ok (cond b (row ∷ others) others))) s)
    by (Ok b) t (Ok front) s rest = ((b, t), rest front s)

passes-all : (passes : Test) (rows : List Placed) → AllByRecursion (Decided passes) rows → (kept : List Placed) × (passing passes rows ≡ Ok kept)
passes-all passes [] all = ([], refl)
passes-all passes (row ∷ rows) all =
    let rest = passes-all passes rows all.1 in
    (cond all.0.0 (row ∷ rest.0) rest.0, passing-by passes row rows all.0.0 all.0.1 ∙ ap (λ (r : Result (List Placed) Refusal). r >>= (λ (others : List Placed). Ok (cond all.0.0 (row ∷ others) others))) rest.1)

all-front : (P : Placed → Type 0) (xs ys : List Placed) → AllByRecursion P (xs ++ ys) → AllByRecursion P xs
all-front P [] ys all = tt
all-front P (x ∷ xs) ys all = (all.0, all-front P xs ys all.1)

pub sifted-is : (passes : Test) (size : ℕ) (pages : Pages) (first : ℕ) (rows kept : List Placed) → IsOne (scanned size pages first) → scanned size pages first (Ok rows) → passing passes rows ≡ Ok kept → (a : Result (List Placed) Refusal) → sifted passes size pages first a → a ≡ Ok kept
sifted-is passes size pages first rows kept one read pass (Ok some) (others, also, e) =
    let same : others ≡ rows = ok-one (one (Ok others) (Ok rows) also read) in
    sym e ∙ ap (passing passes) same ∙ pass
sifted-is passes size pages first rows kept one read pass (Err why) (inl stops) = ok-err (one (Ok rows) (Err why) read stops)
sifted-is passes size pages first rows kept one (whole, found, order) pass (Err why) (inr (links, to, way, refused)) =
    let front = way-front size pages first links whole to way found.2 in
    let split : rows_of whole ≡ rows_of links ++ rows_of front.0 = ap rows_of front.1 ∙ flat_map-append rows_on links front.0 in
    let each = recursion_from_All (Decided passes) (rows_of whole) (All-permutation (Decided passes) rows (rows_of whole) (IsPermutation-sym (rows_of whole) rows order.0) (All-from_recursion (Decided passes) rows (decided passes rows kept pass))) in
    let there = passes-all passes (rows_of links) (all-front (Decided passes) (rows_of links) (rows_of front.0) (subst (AllByRecursion (Decided passes)) split each)) in
    ok-err (sym there.1 ∙ refused)
