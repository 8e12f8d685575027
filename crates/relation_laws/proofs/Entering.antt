-- Entries that are added to an index, one after the other, and the one order of entries of different numbers.
use Rattle.std.proofs.Common.{◌≡◌, ◌≢◌, ◌∙◌, ◌<◌, ◌≤◌, ◌+◌, ◌++◌, ◌⊎◌, ℕ, suc, true, false, List, [], ◌∷◌, get_or, Option, Some, None, Result, Ok, Err, inl, inr, refl, sym, ap, subst, arith, eqb, cond}
use Rattle.std.specs.List.{AllByRecursion, Contains, cons_option}
use Rattle.std.specs.List.Sorted.{IsPermutation, IsSorted, IsStrictlySortedBy}
use Rattle.std.specs.Ordering.{is_lt, ordering_reverse}
use Rattle.std.specs.declared.cmp.Ordering.TheVariants.{Less, Greater}
use Rattle.std.proofs.lemmas.Bool.Decides.{eqb_tells}
use Rattle.std.proofs.lemmas.List.Sorted.{Contains-permutation, IsPermutation-sym, ranks_by, sorted_far, sum_by-IsPermutation}
use Rattle.retro_base.specs.declared.refusal.Refusal.{Refusal}
use Rattle.retro_base.specs.declared.refusal.Refusal.TheVariants.{PagesFull}
use Rattle.values.specs.Value.{kind_of}
use Rattle.values.specs.declared.value.Kind.{Kind}
use Rattle.pager.proofs.Orders.{found_total}
use Rattle.pager.specs.Allows.{in_turn}
use Rattle.pager.specs.Index.{AreOfKind, IsFound, IsInOrder, found_cmp}
use Rattle.pager.specs.Pages.{Pages}
use Rattle.pager.specs.declared.index.Found.{Found}
use Rattle.heap_file.specs.declared.chain.Placed.{Placed}
use Rattle.heap_laws.specs.Store.{WellFormed, free_pages}
use Rattle.heap_laws.proofs.Counts.{keyed, keyed-cons, keyed-more, keyed-same, one_if}
use Rattle.heap_laws.proofs.Reading.{ok-one}
use Rattle.heap_laws.proofs.Rows.{keyed-contains}
use Rattle.relation.specs.Entries.{entries_of, entry_of, in_order}
use Rattle.relation_laws.specs.Turns.{entered, entries_open}
use Rattle.relation_laws.proofs.IndexKind.{IndexKind}
use Rattle.relation_laws.proofs.Keeping.{Edited, add-answer, edited-none, edited-then}
use Rattle.relation_laws.proofs.KeyTurns.{KeyTurn, cmp-apart, entry-named, entry_number, put-turn, row_number, some-is}
use Rattle.relation_laws.proofs.Lists.{all-at, contains-cases, contains-cons, contains-head}
use Rattle.relation_laws.proofs.Turning.{kind-put}

-- an entry that can stand in an index of that kind
abbrev pub Stands : Kind → Found → Type 0
Stands kind entry = IsFound entry × (kind_of entry.value ≡ kind)

-- each number stands once
abbrev pub Once : List Found → Type 0
Once entries = (n : ℕ) → keyed entry_number n entries ≤ 1

-- of entries with different numbers the first differs from the others
once-apart : (e : Found) (entries : List Found) → Once (e ∷ entries) → (y : Found) → Contains entries y → e.number ≢ y.number
once-apart e entries once y has same =
    absurd (omega (arith, once y.number, keyed-same entry_number y.number e entries same, keyed-contains entry_number entries y has))

once-rest : (e : Found) (entries : List Found) → Once (e ∷ entries) → Once entries
once-rest e entries once = λ n. omega (arith, once n, keyed-more entry_number n e entries)

pub once-moved : (xs ys : List Found) → IsPermutation xs ys → Once xs → Once ys
once-moved xs ys moves once = λ n. omega (arith, once n, sum_by-IsPermutation (λ (y : Found). cond (eqb (entry_number y) n) 1 0) xs ys moves)

-- the entries of rows with different numbers have different numbers
entries-keyed : (place n : ℕ) (rows : List Placed) → keyed entry_number n (entries_of place rows) ≤ keyed row_number n rows
entries-keyed place n [] = omega arith
entries-keyed place n (p ∷ rows) = go (entry_of place p) refl (entries-keyed place n rows)
  where
    go : (o : Option Found) → entry_of place p ≡ o → keyed entry_number n (entries_of place rows) ≤ keyed row_number n rows → keyed entry_number n (cons_option o (entries_of place rows)) ≤ keyed row_number n (p ∷ rows)
    go None is le = omega (arith, le, keyed-more row_number n p rows)
    go (Some e) is le =
        let same : e.number ≡ p.number = entry-named place p e is in
        omega (arith, le, keyed-cons entry_number n e (entries_of place rows), keyed-cons row_number n p rows, ap (λ (k : ℕ). one_if (eqb k n)) same)

pub once-entries : (place : ℕ) (rows : List Placed) → ((n : ℕ) → keyed row_number n rows ≤ 1) → Once (entries_of place rows)
once-entries place rows once = λ n. omega (arith, once n, entries-keyed place n rows)

pub all-from : {X : Type 0} (P : X → Type 0) (xs : List X) → ((x : X) → Contains xs x → P x) → AllByRecursion P xs
all-from P [] h = tt
all-from P (x ∷ xs) h = (h x (contains-head x xs), all-from P xs (λ y has. h y (contains-cons y x xs has)))

module _ (I : IndexKind) where
  -- what an index answers as entries are added
  abbrev pub EntriesAnswer : (size : ℕ) (pages : Pages) (firsts others : List ℕ) (root : ℕ) (entries : List Found) (shape : I.Shape) (held : List ℕ) → Result (Unit {0} × Pages) Refusal → Type 0
  EntriesAnswer size pages firsts others root entries shape held (Ok y) = Edited I size pages y.1 firsts others root (entered I.put entries shape) held (entries_open I.put I.opens entries shape)
  EntriesAnswer size pages firsts others root entries shape held (Err why) = (why ≡ PagesFull size) × (free_pages size pages < entries_open I.put I.opens entries shape)

  pub entries-added : (size root : ℕ) (kind : Kind) (entries : List Found) (pages : Pages) (firsts others : List ℕ) (shape : I.Shape) (held : List ℕ) (answer : Result (Unit {0} × Pages) Refusal) → WellFormed size pages firsts (held ++ others) → I.lists size pages root shape held
      → AreOfKind kind (I.entries shape) → AllByRecursion (Stands kind) entries → in_turn (I.added size root) entries pages answer → EntriesAnswer size pages firsts others root entries shape held answer
  entries-added size root kind [] pages firsts others shape held (Ok y) well is all stands work =
      subst (λ (q : Unit {0} × Pages). Edited I size pages q.1 firsts others root shape held 0) (ok-one work) (edited-none I size pages firsts others root shape held well is)
  entries-added size root kind [] pages firsts others shape held (Err why) well is all stands work = absurd cc
  entries-added size root kind (e ∷ entries) pages firsts others shape held (Ok y) well is all stands (x, first, rest) =
      let one = add-answer I size root e pages firsts others shape held (Ok x) well is stands.0.0 (subst (λ (k : Kind). AreOfKind k (I.entries shape)) (sym stands.0.1) all) first in
      let more = entries-added size root kind entries x.1 firsts others (I.put e shape) one.behind (Ok y) one.well one.is (kind-put I kind e shape (I.listed.shape size root pages shape held is) stands.0.0 stands.0.1 all) stands.1 rest in
      edited-then I size pages x.1 y.1 firsts others root (I.put e shape) (entered I.put entries (I.put e shape)) held _ _ one more
  entries-added size root kind (e ∷ entries) pages firsts others shape held (Err why) well is all stands (inl first) =
      let one = add-answer I size root e pages firsts others shape held (Err why) well is stands.0.0 (subst (λ (k : Kind). AreOfKind k (I.entries shape)) (sym stands.0.1) all) first in
      (one.0, omega (arith, one.1))
  entries-added size root kind (e ∷ entries) pages firsts others shape held (Err why) well is all stands (inr (x, first, rest)) =
      let one = add-answer I size root e pages firsts others shape held (Ok x) well is stands.0.0 (subst (λ (k : Kind). AreOfKind k (I.entries shape)) (sym stands.0.1) all) first in
      let more = entries-added size root kind entries x.1 firsts others (I.put e shape) one.behind (Err why) one.well one.is (kind-put I kind e shape (I.listed.shape size root pages shape held is) stands.0.0 stands.0.1 all) stands.1 rest in
      (more.0, omega (arith, more.1, one.fewer))

  -- which entries it holds then
  pub record Holds (entries : List Found) (shape : I.Shape) : Type 0 where
    pub told : (x : Found) → Contains (I.entries (entered I.put entries shape)) x → Contains (I.entries shape) x ⊎ Contains entries x
    pub listed : (x : Found) → Contains (I.entries shape) x ⊎ Contains entries x → Contains (I.entries (entered I.put entries shape)) x

  pub entered-holds : (kind : Kind) (entries : List Found) (shape : I.Shape) → I.IsShape shape → AreOfKind kind (I.entries shape) → AllByRecursion (Stands kind) entries → Once entries → ((x y : Found) → Contains (I.entries shape) x → Contains entries y → x.number ≢ y.number) → Holds entries shape
  entered-holds kind [] shape is all stands once apart = record {
    told = λ x has. inl has;
    listed = λ x has. elim has [ inl in_ ↦ in_ | inr none ↦ absurd (omega (arith, none.1)) ];
  }
  entered-holds kind (e ∷ entries) shape is all stands once apart =
      let put = I.shaped.of_put e shape is stands.0.0 (subst (λ (k : Kind). AreOfKind k (I.entries shape)) (sym stands.0.1) all) in
      let turn : KeyTurn entry_number e.number (I.entries shape) (I.entries (I.put e shape)) (Some e) =
      subst (λ (l : List Found). KeyTurn entry_number e.number (I.entries shape) l (Some e)) (sym put.1) (put-turn (I.entries shape) e (λ x has same. absurd (apart x e has (contains-head e entries) same))) in
      let back : (x : Found) → Contains (I.entries (I.put e shape)) x → Contains (I.entries shape) x ⊎ (e ≡ x) = λ x has. elim (eqb_tells x.number e.number) [
        | inl same ↦ inr (some-is (turn.is_own.told x has same.1))
        | inr differ ↦ inl (turn.stood x differ.1 has)
      ] in
      let next = entered-holds kind entries (I.put e shape) put.0 (kind-put I kind e shape is stands.0.0 stands.0.1 all) stands.1 (once-rest e entries once) (λ x y in_ also. elim (back x in_) [
        | inl before ↦ apart x y before (contains-cons y e entries also)
        | inr own ↦ subst (λ (z : Found). z.number ≢ y.number) own (once-apart e entries once y also)
      ]) in
      record {
        told = λ x has. elim (next.told x has) [
          | inl in_ ↦ elim (back x in_) [
            | inl before ↦ inl before
            | inr own ↦ inr (subst (Contains (e ∷ entries)) own (contains-head e entries))
          ]
          | inr more ↦ inr (contains-cons x e entries more)
        ];
        listed = λ x has. elim has [
          | inl before ↦ next.listed x (inl (turn.stays x (apart x e before (contains-head e entries)) before))
          | inr among ↦ contains-cases e x entries among (λ here. next.listed x (inl (turn.is_own.listed x (ap (λ (y : Found). Some y) here)).1)) (λ there. next.listed x (inr there))
        ];
      }

-- entries of different numbers that are sorted rise
sorted-rise : (xs : List Found) → IsSorted found_cmp xs → Once xs → IsInOrder xs
unfolding IsStrictlySortedBy
sorted-rise [] sorted once = tt
sorted-rise (x ∷ xs) sorted once = (
  all-from (λ (y : Found). found_cmp x y ≡ Less) xs (λ y has. below y has),
  sorted-rise xs (λ k d from to. subst (λ (n : ℕ). is_lt (found_cmp (get_or (x ∷ xs) n d) (get_or xs k d)) ≡ false) (behind k) (sorted (suc k) d (omega arith) (omega (arith, to)))) (once-rest x xs once),
)
  where
    behind : (k : ℕ) → suc k + 1 ≡ suc (k + 1)
    behind k = omega arith

    clash : false ≡ true → ⊥
    clash e = cc

    below : (y : Found) → Contains xs y → found_cmp x y ≡ Less
    below y has =
        let far : is_lt (found_cmp y x) ≡ false = subst (λ (z : Found). is_lt (found_cmp z x) ≡ false) has.2 (sorted_far (λ (a b : Found). is_lt (found_cmp a b)) (ranks_by found_total (λ (f : Found). f)) (x ∷ xs) sorted 0 (suc has.0) y (omega arith) (omega (arith, has.1))) in
        elim (cmp-apart x y (once-apart x xs once y has)) [
          | inl less ↦ less
          | inr more ↦ absurd (clash (sym far ∙ ap is_lt (found_total.antisymm y x ∙ ap ordering_reverse more)))
        ]

-- rising entries of the same members are one list
rising-same : (xs ys : List Found) → IsInOrder xs → IsInOrder ys → ((x : Found) → Contains xs x → Contains ys x) → ((y : Found) → Contains ys y → Contains xs y) → xs ≡ ys
unfolding IsStrictlySortedBy
rising-same [] [] up also left right = refl
rising-same [] (y ∷ ys) up also left right = absurd (omega (arith, (right y (contains-head y ys)).1))
rising-same (x ∷ xs) [] up also left right = absurd (omega (arith, (left x (contains-head x xs)).1))
rising-same (x ∷ xs) (y ∷ ys) up also left right = both same (rising-same xs ys up.1 also.1 onward back)
  where
    not-both : (a b : Found) → found_cmp a b ≡ Less → found_cmp b a ≡ Less → ⊥
    not-both a b less more = absurd (clash (sym less ∙ (found_total.antisymm a b ∙ ap ordering_reverse more)))
      where
        clash : Less ≡ Greater → ⊥
        clash e = cc

    same : x ≡ y
    same = contains-cases y x ys (left x (contains-head x xs)) (λ e. sym e) (λ there.
        contains-cases x y xs (right y (contains-head y ys)) (λ e. e) (λ here.
        absurd (not-both x y (all-at (λ (z : Found). found_cmp x z ≡ Less) xs y up.0 here) (all-at (λ (z : Found). found_cmp y z ≡ Less) ys x also.0 there))))

    itself : (a b : Found) → a ≡ b → found_cmp a b ≡ Less → ⊥
    itself a b e less = not-both b b (subst (λ (z : Found). found_cmp z b ≡ Less) e less) (subst (λ (z : Found). found_cmp z b ≡ Less) e less)

    onward : (z : Found) → Contains xs z → Contains ys z
    onward z has = contains-cases y z ys (left z (contains-cons z x xs has)) (λ e. absurd (itself x z (same ∙ e) (all-at (λ (w : Found). found_cmp x w ≡ Less) xs z up.0 has))) (λ there. there)

    back : (z : Found) → Contains ys z → Contains xs z
    back z has = contains-cases x z xs (right z (contains-cons z y ys has)) (λ e. absurd (itself y z (sym same ∙ e) (all-at (λ (w : Found). found_cmp y w ≡ Less) ys z also.0 has))) (λ there. there)

    both : x ≡ y → xs ≡ ys → x ∷ xs ≡ y ∷ ys
    both e f = λ i. e i ∷ f i

-- entries of different numbers have one order
pub order-one : (entries xs ys : List Found) → Once entries → in_order entries (Ok xs) → in_order entries (Ok ys) → xs ≡ ys
order-one entries xs ys once one two =
    rising-same xs ys (sorted-rise xs one.1 (once-moved entries xs one.0 once)) (sorted-rise ys two.1 (once-moved entries ys two.0 once))
    (λ x has. Contains-permutation entries ys x two.0 (Contains-permutation xs entries x (IsPermutation-sym entries xs one.0) has))
    (λ y has. Contains-permutation entries xs y one.0 (Contains-permutation ys entries y (IsPermutation-sym entries ys two.0) has))
