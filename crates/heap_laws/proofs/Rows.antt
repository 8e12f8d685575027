-- The rows of a chain: where each stands, and how often its number.
use Rattle.heap_file.proofs.Positions.{none-at}
use Rattle.std.proofs.lemmas.List.Quantifiers.{position-Some}
use Rattle.std.proofs.lemmas.Bool.{eqb-false}
use Rattle.std.proofs.Common.{◌≡◌, ◌<◌, ◌+◌, ◌-◌, ◌++◌, ◌∙◌, ◌⊎◌, ℕ, zero, suc, cond, eqb, List, [], ◌∷◌, length, map, get_or, take, drop, Some, None, inl, inr, refl, sym, ap, arith, subst, eq-eqb, ne_eqb, append_assoc, length-append, take-suc, false, eqb-true}
use Rattle.std.specs.List.{Contains, remove, insert}
use Rattle.std.specs.List.Sorted.{IsPermutation}
use Rattle.std.proofs.lemmas.Bool.Decides.{eqb_tells}
use Rattle.std.proofs.lemmas.List.{take_at, drop_at, take-append-drop, drop_more, length-take-le}
use Rattle.std.proofs.lemmas.List.Elements.{Contains-append_cases}
use Rattle.std.proofs.lemmas.List.Sorted.{sum_by-IsPermutation}
use Rattle.heap_file.specs.declared.page.Entry.{Entry}
use Rattle.heap_file.specs.declared.page.HeapPage.{HeapPage}
use Rattle.heap_file.specs.declared.chain.Link.{Link}
use Rattle.heap_file.specs.declared.chain.Placed.{Placed}
use Rattle.heap_file.specs.Chain.{rows_of, rows_on, StandsIn}
use Rattle.heap_file.specs.Work.{place_of, row_numbered}
use Rattle.heap_laws.specs.Store.{times_numbered}
use Rattle.heap_laws.proofs.Counts.{keyed, keyed-append, keyed-cons, keyed-other, keyed-same, one_if}
use Rattle.heap_laws.proofs.Routes.{link_of, rows-cons, rows-middle}

-- an entry as a row of its table
abbrev pub placed_on : ℕ → Entry → Placed
placed_on page entry = record { number = entry.number; page = page; row = entry.row }

-- an entry of that number and row
abbrev pub entry_of : Placed → Entry
entry_of placed = record { number = placed.number; row = placed.row }

-- how often a number stands among entries
abbrev pub entries_numbered : ℕ → List Entry → ℕ
entries_numbered number entries = keyed (λ (entry : Entry). entry.number) number entries

pub keyed-over : {X Y : Type 0} (h : X → Y) (g : Y → ℕ) (n : ℕ) (xs : List X) → keyed g n (map h xs) ≡ keyed (λ x. g (h x)) n xs
keyed-over h g n [] = refl
keyed-over h g n (x ∷ xs) = keyed-cons g n (h x) (map h xs) ∙ ap (λ (k : ℕ). one_if (eqb (g (h x)) n) + k) (keyed-over h g n xs) ∙ sym (keyed-cons (λ y. g (h y)) n x xs)

pub numbered-on : (number page : ℕ) (held : HeapPage) → times_numbered number (rows_on (link_of page held)) ≡ entries_numbered number held.entries
numbered-on number page held = keyed-over (placed_on page) (λ (placed : Placed). placed.number) number held.entries

pub numbered-append : (number : ℕ) (xs ys : List Placed) → times_numbered number (xs ++ ys) ≡ times_numbered number xs + times_numbered number ys
numbered-append number xs ys = keyed-append (λ (placed : Placed). placed.number) number xs ys

pub numbered-middle : (number : ℕ) (a : List Link) (link : Link) (b : List Link) → times_numbered number (rows_of (a ++ link ∷ b)) ≡ times_numbered number (rows_of a) + (times_numbered number (rows_on link) + times_numbered number (rows_of b))
numbered-middle number a link b =
    ap (times_numbered number) (rows-middle a link b) ∙ numbered-append number (rows_of a) (rows_on link ++ rows_of b) ∙ ap (λ (k : ℕ). times_numbered number (rows_of a) + k) (numbered-append number (rows_on link) (rows_of b))

-- the numbers of rows in another order
pub numbered-permutation : (number : ℕ) (xs ys : List Placed) → IsPermutation xs ys → times_numbered number ys ≡ times_numbered number xs
numbered-permutation number xs ys perm = sum_by-IsPermutation (λ (placed : Placed). cond (eqb placed.number number) 1 0) xs ys perm

-- an element's key stands in the list
pub keyed-at : {X : Type 0} (f : X → ℕ) (xs : List X) (i : ℕ) (d : X) → i < length xs → 0 < keyed f (f (get_or xs i d)) xs
keyed-at f [] i d lt = absurd (omega (arith, lt))
keyed-at f (x ∷ xs) zero d lt = omega (arith, keyed-same f (f x) x xs refl)
keyed-at f (x ∷ xs) (suc i) d lt = omega (arith, keyed-at f xs i d (omega (arith, lt)), keyed-cons f (f (get_or xs i d)) x xs)

pub keyed-contains : {X : Type 0} (f : X → ℕ) (xs : List X) (x : X) → Contains xs x → 0 < keyed f (f x) xs
keyed-contains f xs x (k, lt, is) = subst (λ y. 0 < keyed f (f y) xs) is (keyed-at f xs k x lt)

-- where a row of a chain stands
pub record Standing (links : List Link) (placed : Placed) : Type 0 where
  pub before : List Link
  pub held : HeapPage
  pub behind : List Link
  pub links_are : links ≡ before ++ link_of placed.page held ∷ behind
  pub front : List Entry
  pub rest : List Entry
  pub entries_are : held.entries ≡ front ++ entry_of placed ∷ rest

-- an entry whose row is that one
entry-there : (page : ℕ) (entries : List Entry) (placed : Placed) → Contains (map (placed_on page) entries) placed → (front : List Entry) × (rest : List Entry) × (entries ≡ front ++ entry_of placed ∷ rest) × (page ≡ placed.page)
entry-there page [] placed (k, lt, is) = absurd (omega (arith, lt))
entry-there page (entry ∷ entries) placed (zero, lt, is) =
    ([], entries, ap (λ (e : Entry). e ∷ entries) (made (ap (λ (p : Placed). p.number) is) (ap (λ (p : Placed). p.row) is)), ap (λ (p : Placed). p.page) is)
  where
    made : entry.number ≡ placed.number → entry.row ≡ placed.row → entry ≡ entry_of placed
    made p q = λ i. record { number = p i; row = q i }
entry-there page (entry ∷ entries) placed (suc k, lt, is) =
    let more = entry-there page entries placed (k, omega (arith, lt), is) in
    (entry ∷ more.0, more.1, ap (λ (es : List Entry). entry ∷ es) more.2, more.3)

pub standing : (links : List Link) (placed : Placed) → Contains (rows_of links) placed → Standing links placed
standing [] placed (k, lt, is) = absurd (omega (arith, lt))
standing (link ∷ links) placed has =
    elim (Contains-append_cases (rows_on link) (rows_of links) placed (subst (λ (rows : List Placed). Contains rows placed) (rows-cons link links) has)) [
      | inl here ↦
          let found = entry-there link.page link.held.entries placed here in
          record {
            before = [];
            held = link.held;
            behind = links;
            links_are = ap (λ (p : ℕ). link_of p link.held ∷ links) found.3;
            front = found.0;
            rest = found.1;
            entries_are = found.2;
          }
      | inr there ↦
          let more = standing links placed there in
          record {
            before = link ∷ more.before;
            held = more.held;
            behind = more.behind;
            links_are = ap (λ (ls : List Link). link ∷ ls) more.links_are;
            front = more.front;
            rest = more.rest;
            entries_are = more.entries_are;
          }
    ]

-- the row under a number that stands once
pub row-of : (number : ℕ) (front : List Entry) (entry : Entry) (rest : List Entry) → entry.number ≡ number → entries_numbered number front ≡ 0 → row_numbered number (front ++ entry ∷ rest) ≡ Some entry.row
row-of number [] entry rest is none = rw (eq-eqb entry.number number is) refl
row-of number (other ∷ front) entry rest is none =
    elim (eqb_tells other.number number) [
      | inl same ↦ absurd (omega (arith, none, keyed-same (λ (e : Entry). e.number) number other front same.1))
      | inr differ ↦ rw (ne_eqb other.number number differ.1) (row-of number front entry rest is (omega (arith, none, keyed-other (λ (e : Entry). e.number) number other front differ.1)))
    ]

-- the place of a number among entries splits them
pub record PlaceAt (number : ℕ) (entries : List Entry) (place : ℕ) : Type 0 where
  pub front : List Entry
  pub entry : Entry
  pub rest : List Entry
  pub entries_are : entries ≡ front ++ entry ∷ rest
  pub place_is : length front ≡ place
  pub number_is : entry.number ≡ number

pub place-at : (number : ℕ) (entries : List Entry) (place : ℕ) → place_of number entries ≡ Some place → PlaceAt number entries place
place-at number entries place is =
    let d : Entry = record { number = 0; row = [] } in
    let it = position-Some (λ (entry : Entry). eqb entry.number number) entries place d is in
    record {
      front = take place entries;
      entry = get_or entries place d;
      rest = drop (place + 1) entries;
      entries_are = sym (take-append-drop place entries) ∙ ap (λ (es : List Entry). take place entries ++ es) (drop_more entries place d it.0);
      place_is = length-take-le place entries (omega (arith, it.0));
      number_is = eqb-true (get_or entries place d).number number it.1;
    }

-- a number that has no place stands nowhere
pub no-place : (number : ℕ) (entries : List Entry) → place_of number entries ≡ None → entries_numbered number entries ≡ 0
no-place number entries none = nowhere entries (none-at (λ (entry : Entry). eqb entry.number number) entries none)
  where
    nowhere : (rest : List Entry) → ((k : ℕ) (d : Entry) → k < length rest → eqb (get_or rest k d).number number ≡ false) → entries_numbered number rest ≡ 0
    nowhere [] apart = refl
    nowhere (entry ∷ rest) apart =
        keyed-other (λ (e : Entry). e.number) number entry rest (eqb-false entry.number number (apart 0 entry (omega arith)))
        ∙ nowhere rest (λ k d lt. apart (suc k) d (omega (arith, lt)))

pub remove-at : (front : List Entry) (entry : Entry) (rest : List Entry) (place : ℕ) → length front ≡ place → remove (front ++ entry ∷ rest) place ≡ front ++ rest
remove-at front entry rest place is =
    let one : (front ++ entry ∷ []) ++ rest ≡ front ++ entry ∷ rest = append_assoc front (entry ∷ []) rest in
    let cut : drop (suc place) (front ++ entry ∷ rest) ≡ rest = ap (drop (suc place)) (sym one) ∙ drop_at (front ++ entry ∷ []) rest (suc place) (omega (arith, is, length-append front (entry ∷ []))) in
    rw (take_at front (entry ∷ rest) place is, cut) refl

pub insert-at : (front rest : List Entry) (entry : Entry) (place : ℕ) → length front ≡ place → insert (front ++ rest) place entry ≡ front ++ entry ∷ rest
insert-at front rest entry place is = rw (take_at front rest place is, drop_at front rest place is) refl

-- a page of a chain and the page before it
pub record Met (links : List Link) (page previous : ℕ) (held : HeapPage) : Type 0 where
  pub before : List Link
  pub behind : List Link
  pub links_are : links ≡ before ++ link_of page held ∷ behind
  pub previous_is : ((before ≡ []) × (previous ≡ 0)) ⊎ ((front : List Link) × (last : Link) × (before ≡ front ++ last ∷ []) × (last.page ≡ previous))

pub met-at : (links : List Link) (page previous : ℕ) (held : HeapPage) → StandsIn links page previous held → Met links page previous held
met-at links page previous held in_ =
    let d : Link = link_of page held in
    let place = in_.place in
    let there = (position-Some (λ (link : Link). eqb link.page page) links place d in_.first).0 in
    record {
      before = take place links;
      behind = drop (place + 1) links;
      links_are = sym (take-append-drop place links) ∙ ap (λ (ls : List Link). take place links ++ ls) (drop_more links place d there ∙ ap (λ (l : Link). l ∷ drop (place + 1) links) (in_.here d));
      previous_is = elim in_.behind [
        | inl start ↦ inl (ap (λ (k : ℕ). take k links) start.0, start.1)
        | inr later ↦ inr (take (place - 1) links, get_or links (place - 1) d, last place links there later.0, later.1 d)
      ];
    }
  where
    last : (place : ℕ) (links : List Link) → place < length links → 0 < place → take place links ≡ take (place - 1) links ++ get_or links (place - 1) (link_of page held) ∷ []
    last zero links lt some = absurd (omega (arith, some))
    last (suc place) links lt some =
        let e : suc place - 1 ≡ place = omega arith in
        rw e (take-suc links place (link_of page held) (omega (arith, lt)))
