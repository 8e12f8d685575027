-- An entry that is taken out of a tree that pages hold: proofs.
use Rattle.std.proofs.Common.{◌≡◌, ◌++◌, ◌∙◌, ℕ, zero, suc, List, [], ◌∷◌, None, refl, sym, ap, subst, arith}
use Rattle.std.specs.List.{AllByRecursion}
use Rattle.std.specs.List.Sorted.{IsPermutation}
use Rattle.std.proofs.lemmas.List.{append-nil}
use Rattle.std.proofs.lemmas.List.Sorted.{IsPermutation-cons, IsPermutation-refl}
use Rattle.pager.specs.Index.{IsFound}
use Rattle.pager.specs.Pages.{Pages}
use Rattle.pager.specs.declared.index.Found.{Found}
use Rattle.index_page.specs.Entries.{taken_out}
use Rattle.index_page.proofs.Ordered.{taken_out-all}
use Rattle.index_page.proofs.Placing.{taken_out-width}
use Rattle.index_page.specs.declared.page.Form.TheVariants as form
use Rattle.tree_index.specs.declared.walk.Met.{Met}
use Rattle.tree_index.specs.Adding.{node-of, none-taken}
use Rattle.tree_index.specs.Climbing.{Climbs, IsReady, bare-behind, picked, row-climbs}
use Rattle.tree_index.specs.Listing.{IsThere}
use Rattle.tree_index.specs.Marking.{all-left, all-right, rising-left, rising-right}
use Rattle.tree_index.specs.Placing.{perm-kept}
use Rattle.tree_index.specs.Rooting.{path, picked-all}
use Rattle.tree_index.specs.Shaped.{shrunk-rises}
use Rattle.tree_index.specs.Tree.{Body, Fits, IsRising, Key, Row, Tree, at_key, bare, content}
use Rattle.tree_index.specs.Tree.{marks, nodes, numbers, row_marks, row_nodes, shrunk}
use Rattle.tree_index.specs.declared.climb.Climb.{Climb}
use Rattle.tree_index.specs.Work.{cut}

module _ (size : ℕ) (pages : Pages) (e : Found) where
  -- a tree out of which an entry can be taken
  pub record Shrinks (n : ℕ) (t : ℕ × Body n) : Type 0 where
    pub there : AllByRecursion (IsThere size pages) (nodes n t)
    pub rises : IsRising (marks n (bare n t.1))
    pub fits : Fits n (bare n t.1)

  row-shrinks : (n : ℕ) (first : ℕ × Body n) (rest : List (Key × (ℕ × Body n))) →
      AllByRecursion (IsThere size pages) (row_nodes (nodes n) (first, rest)) →
      IsRising (row_marks (marks n) (bare n first.1, bare-behind n rest)) → Fits n (bare n first.1) →
      AllByRecursion (λ (b : Key × Tree n). Fits n b.1) (bare-behind n rest) → Shrinks n first
      × AllByRecursion (λ (b : Key × (ℕ × Body n)). Shrinks n b.1) rest
  row-shrinks n first [] there rises fits all = (
    record {
      there = all-left (IsThere size pages) (nodes n first) [] there;
      rises = rising-left (marks n (bare n first.1)) [] rises;
      fits = fits;
    },
    tt,
  )
  row-shrinks n first (b ∷ rest) there rises fits all = (
    record {
      there = all-left (IsThere size pages) (nodes n first) _ there;
      rises = rising-left (marks n (bare n first.1))
          (at_key b.0 ∷ row_marks (marks n) (bare n b.1.1, bare-behind n rest)) rises;
      fits = fits;
    },
    row-shrinks n b.1 rest (all-right (IsThere size pages) (nodes n first) _ there)
        (rising-right (marks n (bare n first.1)) (at_key b.0 ∷ row_marks (marks n) (bare n b.1.1, bare-behind n rest))
        rises).1 all.0 all.1,
  )

  cut-more : (n : ℕ) (met : Met) (t : ℕ × Body n) → cut e (met ∷ path e n t) ≡ cut e (path e n t)
  cut-more zero met t = refl
  cut-more (suc n) met t = refl

  pub shrink-climbs : (n : ℕ) (t : ℕ × Body n) → Shrinks n t →
      Climbs size pages n (shrunk e n (bare n t.1), []) t (record { edits = cut e (path e n t); up = None }) pages
  shrink-climbs zero t is =
      let met : Met = record { page = t.0; held = record { form = form.Leaf; link = 0; entries = taken_out e t.1 } } in
      record {
        row = ((t.0, taken_out e t.1), []);
        first_bare = refl;
        rest_bare = refl;
        first_is = refl;
        up_is = refl;
        opened = [];
        taken_is = none-taken size 0 pages;
        others = [];
        kept = λ P all. tt;
        nodes_are = IsPermutation-refl (met ∷ []);
        numbers_are = IsPermutation-refl (t.0 ∷ []);
        in_place = λ none. refl;
        ready = (
          record {
            low = is.there.0.low;
            there = is.there.0.there;
            link = omega arith;
            writable = record {
              lawful = taken_out-all IsFound e t.1 is.fits.lawful;
              fits = omega (arith, taken_out-width e t.1, is.fits.fits);
            };
          },
          tt,
        );
      }
  shrink-climbs (suc n) t is =
      let row = t.1 in
      let change : Tree n → Row (Tree n) = λ x. (shrunk e n x, []) in
      let inside = row-shrinks n row.0 row.1 is.there.1 is.rises is.fits.1 is.fits.2 in
      let child = picked-all (Shrinks n) e row.0 row.1 inside.0 inside.1 in
      let state : Climb = record { edits = cut e (path e n (picked e row.0 row.1)); up = None } in
      let whole : IsRising (marks (suc n) (shrunk e (suc n) (bare (suc n) row))) =
      subst IsRising (append-nil (marks (suc n) (shrunk e (suc n) (bare (suc n) row))))
      (shrunk-rises e (suc n) (bare (suc n) row) [] []
      (subst IsRising (sym (append-nil (marks (suc n) (bare (suc n) row)))) is.rises) tt tt) in
      let rc = row-climbs size pages n change e row.0 row.1 state pages whole
      (shrink-climbs n (picked e row.0 row.1) child) in
      let met_after : Met = record { page = t.0; held = content (suc n) rc.row } in
      let met : node-of (suc n) t ≡ met_after =
      λ i. record {
        page = t.0;
        held = record {
          form = form.Inner;
          link = (sym rc.first_is) i;
          entries = (sym rc.keys_are) i;
        };
      } in
      let perm =
      subst (λ (m : Met). IsPermutation (state.edits ++ node-of (suc n) t ∷ rc.others)
      (m ∷ row_nodes (nodes n) rc.row)) met
      (perm-kept state.edits rc.others (row_nodes (nodes n) rc.row) (node-of (suc n) t) rc.nodes_are) in
      let edits : cut e (path e (suc n) t) ≡ state.edits = cut-more n (node-of (suc n) t) (picked e row.0 row.1) in
      let back = append-nil (met_after ∷ row_nodes (nodes n) rc.row) in
      record {
        row = ((t.0, rc.row), []);
        first_bare = λ i. (rc.first_bare i, rc.rest_bare i);
        rest_bare = refl;
        first_is = refl;
        up_is = refl;
        opened = rc.opened;
        taken_is = rc.taken_is;
        others = node-of (suc n) t ∷ rc.others;
        kept = λ P all. (all.0, rc.kept P all.1);
        nodes_are =
            subst (λ (l : List Met). IsPermutation (l ++ node-of (suc n) t ∷ rc.others)
            ((met_after ∷ row_nodes (nodes n) rc.row) ++ [])) (sym edits)
            (subst (IsPermutation (state.edits ++ node-of (suc n) t ∷ rc.others)) (sym back) perm);
        numbers_are =
            subst (λ (l : List Met). IsPermutation (numbers (nodes (suc n) t) ++ rc.opened) (numbers l)) (sym back)
            (IsPermutation-cons t.0 (numbers (row_nodes (nodes n) t.1) ++ rc.opened)
            (numbers (row_nodes (nodes n) rc.row)) rc.numbers_are);
        in_place = λ none. ap numbers back ∙ ap (λ (l : List ℕ). t.0 ∷ l) (rc.in_place none);
        ready = subst (AllByRecursion (IsReady size)) (sym edits) rc.ready;
      }
