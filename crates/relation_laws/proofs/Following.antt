-- All indexes of a table follow what becomes of its rows.
use Rattle.std.proofs.Common.{◌≡◌, ◌<◌, ◌+◌, ◌++◌, ℕ, List, [], ◌∷◌, Some, Result, Ok, Err, inl, inr, refl, sym, subst, arith, append_assoc}
use Rattle.std.specs.List.{AllByRecursion, Contains}
use Rattle.std.specs.List.Sorted.{IsPermutation}
use Rattle.std.proofs.lemmas.List.Concat.{flat_map-cons}
use Rattle.std.proofs.lemmas.List.Elements.{Contains-append_right}
use Rattle.std.proofs.lemmas.List.Sorted.{IsPermutation-append, IsPermutation-append_comm, IsPermutation-refl}
use Rattle.retro_base.specs.declared.refusal.Refusal.{Refusal}
use Rattle.retro_base.specs.declared.refusal.Refusal.TheVariants.{PagesFull}
use Rattle.values.specs.declared.value.Kind.{Kind}
use Rattle.pager.specs.Index.{AreOfKind}
use Rattle.pager.specs.Pages.{Pages}
use Rattle.pager.specs.declared.index.Found.{Found}
use Rattle.heap_file.specs.declared.chain.Placed.{Placed}
use Rattle.heap_laws.specs.Laws.{AreSpared}
use Rattle.heap_laws.specs.Store.{WellFormed, free_pages}
use Rattle.heap_laws.specs.Table.{AllStay}
use Rattle.heap_laws.proofs.Indexing.{index_pages_law}
use Rattle.heap_laws.proofs.Reading.{ok-one}
use Rattle.relation.specs.Entries.{entry_of}
use Rattle.relation.specs.declared.catalog.StoredIndex.{StoredIndex}
use Rattle.relation_laws.specs.Tables.{AreEntriesOf, all_pages}
use Rattle.relation_laws.specs.Turns.{Turn, turned_shape, turns_open}
use Rattle.relation_laws.proofs.Drawing.{Draws, draws-still, draws-then}
use Rattle.relation_laws.proofs.IndexKind.{IndexKind}
use Rattle.relation_laws.proofs.Keeping.{Edited, Reached, ReachesOnly, SparesTables, reached-left, root-right, tables-then}
use Rattle.relation_laws.proofs.KeyTurns.{made-of}
use Rattle.relation_laws.proofs.Lists.{contains-cons, contains-head, contains-left}
use Rattle.relation_laws.proofs.Reaching.{untouched-then}
use Rattle.relation_laws.proofs.Turning.{IsOfKind, RowsTurn, TurnFits, turn_work, turns-answer}
use Rattle.pager.specs.Allows.{in_turn}

pub pages-cons : (held : List ℕ) (each : List (List ℕ)) → all_pages (held ∷ each) ≡ held ++ all_pages each
pages-cons held each = flat_map-cons (λ (some : List ℕ). some) held each

-- the pages of the first of the indexes, before those of the others
first-part : (size : ℕ) (pages : Pages) (firsts held : List ℕ) (each : List (List ℕ)) (others : List ℕ) → WellFormed size pages firsts (all_pages (held ∷ each) ++ others) → WellFormed size pages firsts (held ++ (all_pages each ++ others))
first-part size pages firsts held each others well = subst (WellFormed size pages firsts) (append_assoc held (all_pages each) others) (subst (λ (l : List ℕ). WellFormed size pages firsts (l ++ others)) (pages-cons held each) well)

middle : (size : ℕ) (pages : Pages) (firsts one two others : List ℕ) → WellFormed size pages firsts (one ++ (two ++ others)) → WellFormed size pages firsts (two ++ (one ++ others))
middle size pages firsts one two others well =
    subst (WellFormed size pages firsts) (append_assoc two one others)
    (index_pages_law.reorder size pages firsts ((one ++ two) ++ others) ((two ++ one) ++ others) (subst (WellFormed size pages firsts) (sym (append_assoc one two others)) well)
    (IsPermutation-append (one ++ two) (two ++ one) others others (IsPermutation-append_comm one two) (IsPermutation-refl others)))

-- entries of rows whose values are of one kind
pub kind-of-entries : (kind : Kind) (place : ℕ) (rows : List Placed) (entries : List Found) → AreEntriesOf place rows entries → ((p : Placed) → Contains rows p → IsOfKind kind (entry_of place p)) → AreOfKind kind entries
kind-of-entries kind place rows entries are fits = all-of entries one
  where
    all-of : (xs : List Found) → ((e : Found) → Contains xs e → IsOfKind kind (Some e)) → AreOfKind kind xs
    all-of [] go = tt
    all-of (x ∷ xs) go = (go x (contains-head x xs), all-of xs (λ e has. go e (contains-cons e x xs has)))

    one : (e : Found) → Contains entries e → IsOfKind kind (Some e)
    one e has =
        let row = made-of (entry_of place) rows e (are.told e has) in
        subst (IsOfKind kind) row.2 (fits row.0 row.1)

module _ (I : IndexKind) where
  -- indexes with these shapes on these pages, whose entries are those of the rows
  abbrev pub KeptAs : ℕ → Pages → List Placed → List StoredIndex → List I.Shape → List (List ℕ) → Type 0
  KeptAs size pages rows [] [] [] = Unit {0}
  KeptAs size pages rows [] [] (h ∷ each) = ⊥
  KeptAs size pages rows [] (s ∷ shapes) each = ⊥
  KeptAs size pages rows (i ∷ indexes) [] each = ⊥
  KeptAs size pages rows (i ∷ indexes) (s ∷ shapes) [] = ⊥
  KeptAs size pages rows (i ∷ indexes) (s ∷ shapes) (h ∷ each) = (I.lists size pages i.root s h × AreEntriesOf i.place rows (I.entries s)) × KeptAs size pages rows indexes shapes each

  -- what indexes on pages that stay list
  pub kept-same : (size : ℕ) (pages after : Pages) (rows : List Placed) (indexes : List StoredIndex) (shapes : List I.Shape) (each : List (List ℕ)) → ((page : ℕ) → Contains (all_pages each) page → after.at page ≡ pages.at page) → KeptAs size pages rows indexes shapes each → KeptAs size after rows indexes shapes each
  kept-same size pages after rows [] [] [] same kept = tt
  kept-same size pages after rows [] [] (h ∷ each) same kept = absurd kept
  kept-same size pages after rows [] (s ∷ shapes) each same kept = absurd kept
  kept-same size pages after rows (i ∷ indexes) [] each same kept = absurd kept
  kept-same size pages after rows (i ∷ indexes) (s ∷ shapes) [] same kept = absurd kept
  kept-same size pages after rows (i ∷ indexes) (s ∷ shapes) (h ∷ each) same kept = (
    (I.listed.frame size i.root pages after s h kept.0.0 (λ page has. same page (subst (λ (l : List ℕ). Contains l page) (sym (pages-cons h each)) (contains-left h (all_pages each) page has))), kept.0.1),
    kept-same size pages after rows indexes shapes each (λ page has. same page (subst (λ (l : List ℕ). Contains l page) (sym (pages-cons h each)) (Contains-append_right h (all_pages each) page has))) kept.1,
  )

  -- the shapes of indexes once rows turned, and how many pages that opens
  abbrev pub shapes_behind : List Turn → List StoredIndex → List I.Shape → List I.Shape
  shapes_behind turns [] shapes = []
  shapes_behind turns (i ∷ indexes) [] = []
  shapes_behind turns (i ∷ indexes) (s ∷ shapes) = turned_shape I.put I.without i.place turns s ∷ shapes_behind turns indexes shapes

  abbrev pub all_open : List Turn → List StoredIndex → List I.Shape → ℕ
  all_open turns [] shapes = 0
  all_open turns (i ∷ indexes) [] = 0
  all_open turns (i ∷ indexes) (s ∷ shapes) = turns_open I.put I.without I.opens i.place turns s + all_open turns indexes shapes

  -- indexes were edited: they hold other shapes, on their pages and on those that were taken, and all else is as it was
  pub record AllEdited (size : ℕ) (pages after : Pages) (firsts others : List ℕ) (rows : List Placed) (indexes : List StoredIndex) (shapes : List I.Shape) (each : List (List ℕ)) (takes : ℕ) : Type 0 where
    pub behind : List (List ℕ)
    pub kept : KeptAs size after rows indexes shapes behind
    pub well : WellFormed size after firsts (all_pages behind ++ others)
    pub stay : AllStay size pages after firsts
    pub tables : SparesTables size pages after firsts
    pub spared : AreSpared others pages after
    pub fewer : takes + free_pages size after ≡ free_pages size pages
    pub draws : Draws pages after takes
    pub edits : ReachesOnly pages after (all_pages each) takes

  abbrev pub AllAnswer : (size : ℕ) (pages : Pages) (firsts others : List ℕ) (rows : List Placed) (indexes : List StoredIndex) (shapes : List I.Shape) (each : List (List ℕ)) (takes : ℕ) → Result (Unit {0} × Pages) Refusal → Type 0
  AllAnswer size pages firsts others rows indexes shapes each takes (Ok y) = AllEdited size pages y.1 firsts others rows indexes shapes each takes
  AllAnswer size pages firsts others rows indexes shapes each takes (Err why) = (why ≡ PagesFull size) × (free_pages size pages < takes)

  -- the rows at each place are of one kind, and so are those that come
  pub record Fitting (rows : List Placed) (turns : List Turn) (place : ℕ) : Type 0 where
    pub kind : Kind
    pub stand : (p : Placed) → Contains rows p → IsOfKind kind (entry_of place p)
    pub turn : AllByRecursion (TurnFits kind place) turns

  none-edited : (size : ℕ) (pages : Pages) (firsts others : List ℕ) (rows : List Placed) → WellFormed size pages firsts (all_pages [] ++ others) → AllEdited size pages pages firsts others rows [] [] [] 0
  none-edited size pages firsts others rows well = record {
    behind = [];
    kept = tt;
    well = well;
    stay = λ first has table told. told;
    tables = λ other also links leads p there. (refl, refl);
    spared = λ page has. (refl, refl);
    fewer = omega arith;
    draws = draws-still pages;
    edits = λ page. inl (refl, refl);
  }

  -- the first index was edited, and then the others
  first-then : (size : ℕ) (pages mid after : Pages) (firsts others : List ℕ) (rows : List Placed) (i : StoredIndex) (indexes : List StoredIndex) (s : I.Shape) (shapes : List I.Shape) (h : List ℕ) (each : List (List ℕ)) (takes more : ℕ)
      (one : Edited I size pages mid firsts (all_pages each ++ others) i.root s h takes) → AreEntriesOf i.place rows (I.entries s) → AllEdited size mid after firsts (one.behind ++ others) rows indexes shapes each more → AllEdited size pages after firsts others rows (i ∷ indexes) (s ∷ shapes) (h ∷ each) (takes + more)
  first-then size pages mid after firsts others rows i indexes s shapes h each takes more one are two = record {
    behind = one.behind ∷ two.behind;
    kept = ((I.listed.frame size i.root mid after s one.behind one.is (λ page has. (two.spared page (contains-left one.behind others page has)).0), are), two.kept);
    well = index_pages_law.reorder size after firsts (all_pages two.behind ++ (one.behind ++ others)) (all_pages (one.behind ∷ two.behind) ++ others) two.well order;
    stay = λ first has table told. two.stay first has table (one.stay first has table told);
    tables = tables-then size pages mid after firsts one.tables two.tables;
    spared = λ page has. untouched-then pages mid after page (one.spared page (Contains-append_right (all_pages each) others page has)) (two.spared page (Contains-append_right one.behind others page has));
    fewer = omega (arith, one.fewer, two.fewer);
    draws = draws-then pages mid after takes more one.draws two.draws;
    edits = λ page. elim (one.edits page) [
      | inr reached ↦ inr (left page (reached-left pages mid h takes more page one.draws reached))
      | inl same ↦ elim (two.edits page) [
        | inl also ↦ inl (untouched-then pages mid after page same also)
        | inr reached ↦ inr (right page reached)
      ]
    ];
  }
    where
      order : IsPermutation (all_pages two.behind ++ (one.behind ++ others)) (all_pages (one.behind ∷ two.behind) ++ others)
      order = subst (λ (l : List ℕ). IsPermutation (all_pages two.behind ++ (one.behind ++ others)) (l ++ others)) (sym (pages-cons one.behind two.behind))
          (subst (λ (l : List ℕ). IsPermutation l ((one.behind ++ all_pages two.behind) ++ others)) (append_assoc (all_pages two.behind) one.behind others)
          (IsPermutation-append (all_pages two.behind ++ one.behind) (one.behind ++ all_pages two.behind) others others (IsPermutation-append_comm (all_pages two.behind) one.behind) (IsPermutation-refl others)))

      left : (page : ℕ) → Reached pages h (takes + more) page → Reached pages (all_pages (h ∷ each)) (takes + more) page
      left page (inl has) = inl (subst (λ (l : List ℕ). Contains l page) (sym (pages-cons h each)) (contains-left h (all_pages each) page has))
      left page (inr next) = inr next

      right : (page : ℕ) → Reached mid (all_pages each) more page → Reached pages (all_pages (h ∷ each)) (takes + more) page
      right page (inl has) = inl (subst (λ (l : List ℕ). Contains l page) (sym (pages-cons h each)) (Contains-append_right h (all_pages each) page has))
      right page (inr next) = inr (root-right pages mid takes more page one.draws next)

  -- indexes follow rows that turn
  pub all-answer : (size : ℕ) (turns : List Turn) (indexes : List StoredIndex) (pages : Pages) (firsts others : List ℕ) (rows after : List Placed) (shapes : List I.Shape) (each : List (List ℕ)) (answer : Result (Unit {0} × Pages) Refusal) → WellFormed size pages firsts (all_pages each ++ others)
      → KeptAs size pages rows indexes shapes each → ((place : ℕ) → Fitting rows turns place) → RowsTurn rows turns after → in_turn (λ (index : StoredIndex). in_turn (turn_work I size index.root index.place) turns) indexes pages answer
      → AllAnswer size pages firsts others after indexes (shapes_behind turns indexes shapes) each (all_open turns indexes shapes) answer
  all-answer size turns [] pages firsts others rows after [] [] (Ok y) well kept fits turned work = subst (λ (q : Unit {0} × Pages). AllEdited size pages q.1 firsts others after [] [] [] 0) (ok-one work) (none-edited size pages firsts others after well)
  all-answer size turns [] pages firsts others rows after [] [] (Err why) well kept fits turned work = absurd cc
  all-answer size turns [] pages firsts others rows after [] (h ∷ each) answer well kept fits turned work = absurd kept
  all-answer size turns [] pages firsts others rows after (s ∷ shapes) each answer well kept fits turned work = absurd kept
  all-answer size turns (i ∷ indexes) pages firsts others rows after [] each answer well kept fits turned work = absurd kept
  all-answer size turns (i ∷ indexes) pages firsts others rows after (s ∷ shapes) [] answer well kept fits turned work = absurd kept
  all-answer size turns (i ∷ indexes) pages firsts others rows after (s ∷ shapes) (h ∷ each) (Ok y) well kept fits turned (x, first, rest) =
      let fit = fits i.place in
      let one = turns-answer I size i.root fit.kind i.place turns pages firsts (all_pages each ++ others) rows after s h (Ok x) (first-part size pages firsts h each others well) kept.0.0 (kind-of-entries fit.kind i.place rows (I.entries s) kept.0.1 fit.stand) kept.0.1 fit.turn turned first in
      let two = all-answer size turns indexes x.1 firsts (one.0.behind ++ others) rows after shapes each (Ok y) (middle size x.1 firsts one.0.behind (all_pages each) others one.0.well)
      (kept-same size pages x.1 rows indexes shapes each (λ page has. (one.0.spared page (contains-left (all_pages each) others page has)).0) kept.1) fits turned rest in
      first-then size pages x.1 y.1 firsts others after i indexes (turned_shape I.put I.without i.place turns s) (shapes_behind turns indexes shapes) h each _ _ one.0 one.1 two
  all-answer size turns (i ∷ indexes) pages firsts others rows after (s ∷ shapes) (h ∷ each) (Err why) well kept fits turned (inl first) =
      let fit = fits i.place in
      let one = turns-answer I size i.root fit.kind i.place turns pages firsts (all_pages each ++ others) rows after s h (Err why) (first-part size pages firsts h each others well) kept.0.0 (kind-of-entries fit.kind i.place rows (I.entries s) kept.0.1 fit.stand) kept.0.1 fit.turn turned first in
      (one.0, omega (arith, one.1))
  all-answer size turns (i ∷ indexes) pages firsts others rows after (s ∷ shapes) (h ∷ each) (Err why) well kept fits turned (inr (x, first, rest)) =
      let fit = fits i.place in
      let one = turns-answer I size i.root fit.kind i.place turns pages firsts (all_pages each ++ others) rows after s h (Ok x) (first-part size pages firsts h each others well) kept.0.0 (kind-of-entries fit.kind i.place rows (I.entries s) kept.0.1 fit.stand) kept.0.1 fit.turn turned first in
      let two = all-answer size turns indexes x.1 firsts (one.0.behind ++ others) rows after shapes each (Err why) (middle size x.1 firsts one.0.behind (all_pages each) others one.0.well)
      (kept-same size pages x.1 rows indexes shapes each (λ page has. (one.0.spared page (contains-left (all_pages each) others page has)).0) kept.1) fits turned rest in
      (two.0, omega (arith, two.1, one.0.fewer))
