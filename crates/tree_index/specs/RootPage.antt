-- An entry that is added on the root page: proofs.
use Rattle.std.proofs.Common.{◌⊎◌, ◌≡◌, ◌<◌, ◌≤◌, ◌+◌, ◌^◌, ◌++◌, ◌∙◌, ℕ, zero, suc, Bool, true}
use Rattle.std.proofs.Common.{false, cond, eqb, leb, List, [], ◌∷◌, length, Option, Some, None}
use Rattle.std.proofs.Common.{Ok, Err, refl, sym, ap, subst, inl, inr, arith, append_assoc}
use Rattle.std.specs.List.{flat_map, AllByRecursion}
use Rattle.std.specs.List.Sorted.{IsPermutation}
use Rattle.std.proofs.lemmas.Bool.{eq-eqb, ne_eqb}
use Rattle.std.proofs.lemmas.List.{append-nil, length-append, map-append}
use Rattle.std.proofs.lemmas.List.Elements.{All-from_recursion, recursion_from_All}
use Rattle.std.proofs.lemmas.List.Sorted.{All-permutation, IsPermutation-append_left}
use Rattle.std.proofs.lemmas.List.Sorted.{IsPermutation-append_right, IsPermutation-cons, IsPermutation-refl}
use Rattle.std.proofs.lemmas.List.Sorted.{IsPermutation-to_front, IsPermutation-trans}
use Rattle.retro_base.specs.declared.refusal.Refusal.{Refusal}
use Rattle.values.specs.declared.value.Kind.{Kind}
use Rattle.pager.specs.Allows.{either, only}
use Rattle.pager.specs.Index.{IsFound}
use Rattle.pager.specs.Pages.{Pages}
use Rattle.pager.specs.Root.{all_taken, taken}
use Rattle.pager.specs.declared.index.Found.{Found}
use Rattle.index_page.specs.Entries.{entry_inserted}
use Rattle.index_page.specs.IndexPage.{AreOneMore, AreWritable, have_room, half, width}
use Rattle.index_page.specs.declared.page.Form.TheVariants as form
use Rattle.index_page.specs.declared.page.IndexPage.{IndexPage}
use Rattle.index_page.proofs.Ordered.{inserted-all}
use Rattle.index_page.proofs.Packing.{entry-short, width-cons}
use Rattle.index_page.proofs.Placing.{inserted-width}
use Rattle.index_page.proofs.Taking.{no-refusal}
use Rattle.tree_index.specs.declared.climb.Parts.{Parts}
use Rattle.tree_index.specs.declared.walk.Met.{Met}
use Rattle.tree_index.specs.Adding.{IsPlace, founds-lawful, first-number, inner-climbs}
use Rattle.tree_index.specs.Adding.{leaf-climbs, node-of, none-taken, only-is, row-numbers}
use Rattle.tree_index.specs.Climbing.{Climbs, IsReady, IsTaken, RowClimbs, UpIs}
use Rattle.tree_index.specs.Climbing.{bare-behind, picked, row-founds, with_up}
use Rattle.tree_index.specs.Counting.{changed-counts, inners-count, leaves-count, row-count, rooted-count}
use Rattle.tree_index.specs.Descending.{IsGood}
use Rattle.tree_index.specs.Growing.{all-drop}
use Rattle.tree_index.specs.Listing.{first-there}
use Rattle.tree_index.specs.Marking.{all-join, all-left, all-right}
use Rattle.tree_index.specs.Placing.{Halves, any-room, any-width, below, inner-halves}
use Rattle.tree_index.specs.Placing.{leaf-halves, nodes-are, parts-writable, perm-one, perm-two}
use Rattle.tree_index.specs.Rooting.{Under, child-whole, climb-fails, climb-tree, inner-full}
use Rattle.tree_index.specs.Rooting.{inners-opened, leaf-step, leaves-opened, made-keys, made-row}
use Rattle.tree_index.specs.Rooting.{path, picked-bare, row-from, under-narrow, under-room}
use Rattle.tree_index.specs.Taking.{one-more, taken-more}
use Rattle.tree_index.specs.Tree.{Body, Fits, Key, Row, Tree, bare, content, grown, inners, leaves}
use Rattle.tree_index.specs.Tree.{nodes, numbers, page_count, rooted, row_keys, row_nodes}
use Rattle.tree_index.specs.declared.climb.Climb.{Climb}
use Rattle.tree_index.specs.Work.{climbed, parted, placed, root_over, split, taken_page}

-- what adding makes of a tree under its root page
pub record Roots (size : ℕ) (pages : Pages) (n : ℕ) (made_is : Row (Tree n)) (t : ℕ × Body n) (edits : List Met)
    (after : Pages) : Type 1 where
  pub levels : ℕ
  pub body : Body levels
  pub shape_is : record { levels = levels; tree = bare levels body } ≡ rooted n made_is.0 made_is.1
  pub opened : List ℕ
  pub taken_is : IsTaken size pages opened after
  pub others : List Met
  pub kept : (P : Met → Type 0) → AllByRecursion P (nodes n t) → AllByRecursion P others
  pub nodes_are : IsPermutation (edits ++ others) (nodes levels (t.0, body))
  pub numbers_are : IsPermutation (numbers (nodes n t) ++ opened) (numbers (nodes levels (t.0, body)))
  pub in_place : opened ≡ [] → numbers (nodes levels (t.0, body)) ≡ numbers (nodes n t)
  pub ready : AllByRecursion (IsReady size) edits

pub from-climbs : (size : ℕ) (pages : Pages) (n : ℕ) (made_is : Row (Tree n)) (t : ℕ × Body n) (state : Climb)
    (after : Pages) → state.up ≡ None → Climbs size pages n made_is t state after →
    Roots size pages n made_is t state.edits after
from-climbs size pages n made_is t state after none climbs =
    let alone : climbs.row.1 ≡ [] = subst (λ (u : Option Found). UpIs n u climbs.row.1) none climbs.up_is in
    let behind : [] ≡ made_is.1 = ap (bare-behind n) (sym alone) ∙ climbs.rest_bare in
    let first : climbs.row.0 ≡ (t.0, climbs.row.0.1) = λ i. (climbs.first_is i, climbs.row.0.1) in
    let all : row_nodes (nodes n) climbs.row ≡ nodes n (t.0, climbs.row.0.1) =
    ap (λ (l : List (Key × (ℕ × Body n))). nodes n climbs.row.0 ++ flat_map (λ (b : Key × (ℕ × Body n)). nodes n b.1) l)
    alone ∙ append-nil (nodes n climbs.row.0) ∙ ap (nodes n) first in
    record {
      levels = n;
      body = climbs.row.0.1;
      shape_is = ap (λ (x : Tree n). rooted n x []) climbs.first_bare ∙ ap (rooted n made_is.0) behind;
      opened = climbs.opened;
      taken_is = climbs.taken_is;
      others = climbs.others;
      kept = climbs.kept;
      nodes_are = subst (IsPermutation (state.edits ++ climbs.others)) all climbs.nodes_are;
      numbers_are =
          subst (λ (l : List Met). IsPermutation (numbers (nodes n t) ++ climbs.opened) (numbers l)) all
          climbs.numbers_are;
      in_place = λ alone. ap numbers (sym all) ∙ climbs.in_place alone;
      ready = climbs.ready;
    }

-- the root page goes on two others
split-roots : (size : ℕ) (pages : Pages) (n : ℕ) (made_is : Row (Tree n)) (t : ℕ × Body n) (low : 2 ≤ t.0)
    (there : t.0 < size) (whole : IndexPage) (edits others rest : List Met) (opened : List ℕ) (mid : Pages)
    (is_taken : IsTaken size pages opened mid)
    (halves : (parts : Parts) (next : ℕ) → parted whole next (Ok parts) → Halves n made_is parts next rest)
    (kept : (P : Met → Type 0) → AllByRecursion P (nodes n t) → AllByRecursion P others)
    (nodes_kept : IsPermutation (edits ++ others) rest)
    (numbers_kept : IsPermutation (numbers (nodes n t) ++ opened) (t.0 ∷ numbers rest))
    (ready : AllByRecursion (IsReady size) edits) (lawful : AllByRecursion IsFound whole.entries)
    (most : AreOneMore whole.entries)
    (links : (parts : Parts) (next : ℕ) → parted whole next (Ok parts) → (parts.left.link < 2 ^ 32)
    × (parts.right.link < 2 ^ 32))
    (key_lawful : (parts : Parts) (next : ℕ) → next < 2 ^ 32 → parted whole next (Ok parts) →
    AreWritable (parts.key ∷ [])) (answer : Climb × Pages) → split size t.0 t.0 whole edits mid (Ok answer) →
    Roots size pages n made_is t answer.0.edits answer.1
split-roots size pages n made_is t low there whole edits others rest opened mid is_taken halves kept nodes_kept
    numbers_kept ready lawful most links key_lawful answer s =
    let next = s.0 in
    let parts = s.2.0 in
    let k = rw (eq-eqb t.0 t.0 refl) at s.2.2 in
    let first = k.0 in
    let h = halves parts next.0 s.2.1 in
    let link = links parts next.0 s.2.1 in
    let writable = parts-writable whole next.0 parts lawful most s.2.1 in
    let r : Met = record { page = next.0; held = parts.right } in
    let l : Met = record { page = first.0; held = parts.left } in
    let o : Met = root_over t.0 first.0 parts.key in
    let body : Body (suc n) = ((first.0, h.left), (h.key, (next.0, h.right)) ∷ []) in
    let begun : Climb × Pages = (record { edits = (edits ++ r ∷ []) ++ l ∷ o ∷ []; up = None }, first.1) in
    let given : Climb × Pages = (record { edits = edits ++ r ∷ l ∷ o ∷ []; up = None }, first.1) in
    let same : given ≡ answer =
    ap (λ (x : List Met). (record { edits = x; up = None }, first.1))
    (sym (append_assoc edits (r ∷ []) (l ∷ o ∷ []))) ∙ only-is begun answer k.2 in
    let one = taken-more size pages mid opened next is_taken s.1.0 s.1.1 in
    let more = taken-more size pages next.1 (opened ++ next.0 ∷ []) first one k.1.0 k.1.1 in
    let A = numbers (below n h.left) in
    let B = numbers (below n h.right) in
    let left : l ∷ below n h.left ≡ nodes n (first.0, h.left) =
    ap (λ (c : IndexPage). record { page = first.0; held = c } ∷ below n h.left) h.left_is ∙
    sym (nodes-are n first.0 h.left) in
    let right : r ∷ below n h.right ≡ nodes n (next.0, h.right) =
    ap (λ (c : IndexPage). record { page = next.0; held = c } ∷ below n h.right) h.right_is ∙
    sym (nodes-are n next.0 h.right) in
    let inside : (l ∷ below n h.left) ++ (r ∷ below n h.right) ≡ row_nodes (nodes n) body =
    ap (λ (m : List Met). m ++ (r ∷ below n h.right)) left ∙
    ap (λ (m : List Met). nodes n (first.0, h.left) ++ m) (right ∙ sym (append-nil (nodes n (next.0, h.right)))) in
    let all : o ∷ ((l ∷ below n h.left) ++ (r ∷ below n h.right)) ≡ nodes (suc n) (t.0, body) =
    ap (λ (m : List Met). o ∷ m) inside ∙
    ap (λ (f : Found). root_over t.0 first.0 f ∷ row_nodes (nodes n) body) h.key_is in
    let two =
    perm-two edits others (below n h.left) (below n h.right) r l
    (subst (IsPermutation (edits ++ others)) h.nodes_are nodes_kept) in
    let three = perm-one (edits ++ r ∷ l ∷ []) others ((l ∷ below n h.left) ++ (r ∷ below n h.right)) o two in
    let X = A ++ (next.0 ∷ B) in
    let held : numbers rest ≡ A ++ B =
    ap numbers h.nodes_are ∙ map-append (λ (met : Met). met.page) (below n h.left) (below n h.right) in
    let count : IsPermutation ((numbers (nodes n t) ++ opened) ++ next.0 ∷ []) ((t.0 ∷ (A ++ B)) ++ next.0 ∷ []) =
    IsPermutation-append_left (next.0 ∷ []) (numbers (nodes n t) ++ opened) (t.0 ∷ (A ++ B))
    (subst (λ (x : List ℕ). IsPermutation (numbers (nodes n t) ++ opened) (t.0 ∷ x)) held numbers_kept) in
    let moved : IsPermutation ((t.0 ∷ (A ++ B)) ++ next.0 ∷ []) (t.0 ∷ X) =
    subst (λ (x : List ℕ). IsPermutation (t.0 ∷ x) (t.0 ∷ X)) (sym (append_assoc A B (next.0 ∷ [])))
    (IsPermutation-append_right (t.0 ∷ A) (B ++ next.0 ∷ []) (next.0 ∷ B) (IsPermutation-to_front B next.0)) in
    let both : IsPermutation ((numbers (nodes n t) ++ opened) ++ next.0 ∷ []) (t.0 ∷ X) =
    IsPermutation-trans ((numbers (nodes n t) ++ opened) ++ next.0 ∷ []) ((t.0 ∷ (A ++ B)) ++ next.0 ∷ [])
    (t.0 ∷ X) count moved in
    let last : IsPermutation (((numbers (nodes n t) ++ opened) ++ next.0 ∷ []) ++ first.0 ∷ []) (t.0 ∷ (first.0 ∷ X)) =
    IsPermutation-trans (((numbers (nodes n t) ++ opened) ++ next.0 ∷ []) ++ first.0 ∷ []) ((t.0 ∷ X) ++ first.0 ∷ [])
    (t.0 ∷ (first.0 ∷ X))
    (IsPermutation-append_left (first.0 ∷ []) ((numbers (nodes n t) ++ opened) ++ next.0 ∷ []) (t.0 ∷ X) both)
    (IsPermutation-cons t.0 (X ++ first.0 ∷ []) (first.0 ∷ X) (IsPermutation-to_front X first.0)) in
    let assoc : ((numbers (nodes n t) ++ opened) ++ next.0 ∷ []) ++ first.0 ∷ []
    ≡ numbers (nodes n t) ++ ((opened ++ next.0 ∷ []) ++ first.0 ∷ []) =
    ap (λ (x : List ℕ). x ++ first.0 ∷ []) (append_assoc (numbers (nodes n t)) opened (next.0 ∷ [])) ∙
    append_assoc (numbers (nodes n t)) (opened ++ next.0 ∷ []) (first.0 ∷ []) in
    let named_all : t.0 ∷ (first.0 ∷ X) ≡ numbers (nodes (suc n) (t.0, body)) =
    ap (λ (x : List ℕ). t.0 ∷ x)
    (sym (map-append (λ (met : Met). met.page) (l ∷ below n h.left) (r ∷ below n h.right))) ∙ ap numbers all in
    let within_one = (all-right (λ page. (2 ≤ page) × (page < size)) opened (next.0 ∷ []) one.within).0 in
    let within_two =
    (all-right (λ page. (2 ≤ page) × (page < size)) (opened ++ next.0 ∷ []) (first.0 ∷ []) more.within).0 in
    let roots : Roots size pages n made_is t given.0.edits given.1 = record {
      levels = suc n;
      body = body;
      shape_is = ap (λ (x : Tree n). rooted n x ((h.key, bare n h.right) ∷ [])) h.first_bare ∙
          ap (rooted n made_is.0) h.rest_bare;
      opened = (opened ++ next.0 ∷ []) ++ first.0 ∷ [];
      taken_is = more;
      others = others;
      kept = kept;
      nodes_are =
          subst (λ (m : List Met). IsPermutation (m ++ others) (nodes (suc n) (t.0, body)))
          (append_assoc edits (r ∷ l ∷ []) (o ∷ []))
          (subst (IsPermutation (((edits ++ r ∷ l ∷ []) ++ o ∷ []) ++ others)) all three);
      numbers_are =
          subst (λ (x : List ℕ). IsPermutation x (numbers (nodes (suc n) (t.0, body)))) assoc
          (subst (IsPermutation (((numbers (nodes n t) ++ opened) ++ next.0 ∷ []) ++ first.0 ∷ [])) named_all last);
      in_place = λ none. absurd (omega (arith, ap length none, length-append (opened ++ next.0 ∷ []) (first.0 ∷ [])));
      ready = all-join (IsReady size) edits (r ∷ l ∷ o ∷ []) ready (
        record { low = within_one.0; there = within_one.1; link = link.1; writable = writable.1 },
        (
          record { low = within_two.0; there = within_two.1; link = link.0; writable = writable.0 },
          (record { low = low; there = there; link = k.1.1; writable = key_lawful parts next.0 s.1.1 s.2.1 }, tt),
        ),
      );
    } in
    subst (λ (a : Climb × Pages). Roots size pages n made_is t a.0.edits a.1) same roots

-- the key that goes on up can be written
pub key-writable : (whole : IndexPage) (parts : Parts) (next : ℕ) → AllByRecursion IsFound whole.entries →
    next < 2 ^ 32 → parted whole next (Ok parts) → AreWritable (parts.key ∷ [])
key-writable whole parts next lawful small p =
    let back : AllByRecursion IsFound (p.0 ∷ p.1) =
    subst (AllByRecursion IsFound) p.2 (all-drop IsFound (half whole.entries) whole.entries lawful) in
    let key : Found = record { value = p.0.value; number = p.0.number; page = next } in
    let is : IsFound key = record { value = back.0.value; number = back.0.number; page = small } in
    let fits : AreWritable (key ∷ []) =
    record { lawful = (is, tt); fits = omega (arith, width-cons key [], entry-short key is) } in
    subst (λ (q : Parts). AreWritable (q.key ∷ [])) (sym p.3) fits

module _ (size : ℕ) (pages : Pages) (kind : Kind) (e : Found) (found : IsFound e) where
  -- a tree under its root page
  pub record RootWhole (n : ℕ) (t : ℕ × Body n) : Type 0 where
    pub good : IsGood size pages kind n t
    pub fits : Fits n (bare n t.1)
    pub other : AllByRecursion (λ page. (page < 2 ^ 32) × (eqb page t.0 ≡ false)) (numbers (below n t.1))

  under : (n : ℕ) (t : ℕ × Body (suc n)) → RootWhole (suc n) t → Under size t.0 pages kind e found n t
  under n t is = record { good = is.good; fits = is.fits; other = is.other }

  -- where no page is split, the number of the root page does not count
  elsewhere : (n : ℕ) (t : ℕ × Body n) → RootWhole n t → IsPlace size (suc t.0) pages n t
  elsewhere n t is =
      let at = first-there size pages n t is.good.there in
      record { low = at.low; there = at.there; other = ne_eqb t.0 (suc t.0) (λ same. omega (arith, same)) }

  root-leaf : (t : ℕ × Body 0) → RootWhole 0 t → (answer : Climb × Pages) →
      placed size t.0 (node-of 0 t) [] (Some e) pages (Ok answer) →
      Roots size pages 0 (leaves (entry_inserted e t.1)) t answer.0.edits answer.1
  root-leaf t is answer k = step (have_room (entry_inserted e t.1)) refl k
    where
      whole : IndexPage
      whole = record { form = form.Leaf; link = 0; entries = entry_inserted e t.1 }

      lawful : AllByRecursion IsFound (entry_inserted e t.1)
      lawful = inserted-all IsFound e t.1 found is.fits.lawful

      step : (b : Bool) → have_room (entry_inserted e t.1) ≡ b →
          either {A = Climb × Pages} b
          (only (Ok (record { edits = record { page = t.0; held = whole } ∷ []; up = None }, pages)))
          (split size t.0 t.0 whole [] pages) (Ok answer) →
          Roots size pages 0 (leaves (entry_inserted e t.1)) t answer.0.edits answer.1
      step true room m =
          let given : Climb × Pages = (record { edits = record { page = t.0; held = whole } ∷ []; up = None }, pages) in
          let there : placed size (suc t.0) (node-of 0 t) [] (Some e) pages (Ok answer) =
          subst (λ (b : Bool). either {A = Climb × Pages} b (only (Ok given))
          (split size (suc t.0) t.0 whole [] pages) (Ok answer)) (sym room) m in
          from-climbs size pages 0 (leaves (entry_inserted e t.1)) t answer.0 answer.1
          (sym (ap (λ (a : Climb × Pages). a.0.up) (only-is given answer m)))
          (leaf-climbs size (suc t.0) pages e t (elsewhere 0 t is) found is.fits answer there)
      step false full m =
          split-roots size pages 0 (leaves (entry_inserted e t.1)) t is.good.there.0.low is.good.there.0.there whole []
          [] [] [] pages (none-taken size 0 pages)
          (λ parts next p. leaf-halves (entry_inserted e t.1) parts next full p) (λ P all. tt) (IsPermutation-refl [])
          (IsPermutation-refl (t.0 ∷ [])) tt lawful
          (omega (arith, inserted-width e t.1, entry-short e found, is.fits.fits))
          (λ parts next p. (
            subst (λ (q : Parts). q.left.link < 2 ^ 32) (sym p.3) (omega arith),
            subst (λ (q : Parts). q.right.link < 2 ^ 32) (sym p.3) (omega arith),
          ))
          (λ parts next small p. key-writable whole parts next lawful small p) answer m

  -- a row that was changed can be written
  row-lawful : (n : ℕ) (t : ℕ × Body (suc n)) → RootWhole (suc n) t →
      (s : Climb × Pages) (rc : RowClimbs size pages n (made-row size t.0 pages kind e found n t) t.1.0 t.1.1 s.0 s.1) →
      AllByRecursion IsFound (row-founds n rc.row.1) × AreOneMore (row-founds n rc.row.1) × (rc.row.0.0 < 2 ^ 32)
  row-lawful n t is s rc =
      let inside = under n t is in
      let keys = made-keys size t.0 pages kind e found n t inside in
      let same : row_keys (bare-behind n rc.row.1) ≡ row_keys (made-row size t.0 pages kind e found n t).1 =
      ap row_keys rc.rest_bare in
      let before =
      all-join (λ page. page < 2 ^ 32) (numbers (row_nodes (nodes n) t.1)) rc.opened
      (under-narrow size t.0 pages kind e found n t inside) rc.taken_is.small in
      let after =
      recursion_from_All (λ page. page < 2 ^ 32) (numbers (row_nodes (nodes n) rc.row))
      (All-permutation (λ page. page < 2 ^ 32) (numbers (row_nodes (nodes n) t.1) ++ rc.opened)
      (numbers (row_nodes (nodes n) rc.row)) rc.numbers_are
      (All-from_recursion (λ page. page < 2 ^ 32) (numbers (row_nodes (nodes n) t.1) ++ rc.opened) before)) in
      let parts =
      subst (AllByRecursion (λ page. page < 2 ^ 32))
      (map-append (λ (met : Met). met.page) (nodes n rc.row.0)
      (flat_map (λ (b : Key × (ℕ × Body n)). nodes n b.1) rc.row.1)) after in (
        founds-lawful size t.0 pages n rc.row.1 (subst (AllByRecursion IsFound) (sym same) keys.0)
            (row-numbers size t.0 pages (λ page. page < 2 ^ 32) n rc.row.1
            (all-right (λ page. page < 2 ^ 32) (numbers (nodes n rc.row.0)) _ parts)),
        omega (arith, any-width n rc.row.1, ap width same, keys.1),
        first-number size t.0 pages (λ page. page < 2 ^ 32) n rc.row.0
            (all-left (λ page. page < 2 ^ 32) (numbers (nodes n rc.row.0)) _ parts),
      )

  root-inner : (n : ℕ) (t : ℕ × Body (suc n)) → RootWhole (suc n) t →
      (s : Climb × Pages) (rc : RowClimbs size pages n (made-row size t.0 pages kind e found n t) t.1.0 t.1.1 s.0 s.1)
      (answer : Climb × Pages) → placed size t.0 (node-of (suc n) t) s.0.edits s.0.up s.1 (Ok answer) →
      Roots size pages (suc n) (inners (made-row size t.0 pages kind e found n t)) t answer.0.edits answer.1
  root-inner n t is s rc answer k = go s.0.up refl k
    where
      made : Row (Tree n)
      made = made-row size t.0 pages kind e found n t

      inside : Under size t.0 pages kind e found n t
      inside = under n t is

      elsewhere-climbs : placed size (suc t.0) (node-of (suc n) t) s.0.edits s.0.up s.1 (Ok answer) →
          Climbs size pages (suc n) (inners (made-row size t.0 pages kind e found n t)) t answer.0 answer.1
      elsewhere-climbs m =
          let keys = made-keys size t.0 pages kind e found n t inside in
          inner-climbs size (suc t.0) pages n (made-row size t.0 pages kind e found n t) t s.0 s.1 rc
          (elsewhere (suc n) t is) (under-narrow size t.0 pages kind e found n t inside)
          (under-room size t.0 pages kind e found n t inside) keys.0 keys.1 answer m

      go : (up : Option Found) → s.0.up ≡ up → placed size t.0 (node-of (suc n) t) s.0.edits up s.1 (Ok answer) →
          Roots size pages (suc n) (inners (made-row size t.0 pages kind e found n t)) t answer.0.edits answer.1
      go None q m =
          let given : Climb × Pages = (record { edits = s.0.edits; up = None }, s.1) in
          from-climbs size pages (suc n) (inners (made-row size t.0 pages kind e found n t)) t answer.0 answer.1
          (sym (ap (λ (a : Climb × Pages). a.0.up) (only-is given answer m)))
          (elsewhere-climbs
          (subst (λ (u : Option Found). placed size (suc t.0) (node-of (suc n) t) s.0.edits u s.1 (Ok answer))
          (sym q) m))
      go (Some key) q m = step (have_room (entry_inserted key (row-founds n t.1.1))) refl m
        where
          whole : IndexPage
          whole = record { form = form.Inner; link = t.1.0.0; entries = entry_inserted key (row-founds n t.1.1) }

          step : (b : Bool) → have_room (entry_inserted key (row-founds n t.1.1)) ≡ b →
              either {A = Climb × Pages} b
              (only (Ok (record { edits = s.0.edits ++ record { page = t.0; held = whole } ∷ []; up = None }, s.1)))
              (split size t.0 t.0 whole s.0.edits s.1) (Ok answer) →
              Roots size pages (suc n) (inners (made-row size t.0 pages kind e found n t)) t answer.0.edits answer.1
          step true room h =
              let given : Climb × Pages =
              (record { edits = s.0.edits ++ record { page = t.0; held = whole } ∷ []; up = None }, s.1) in
              let there : placed size (suc t.0) (node-of (suc n) t) s.0.edits (Some key) s.1 (Ok answer) =
              subst (λ (b : Bool). either {A = Climb × Pages} b (only (Ok given))
              (split size (suc t.0) t.0 whole s.0.edits s.1) (Ok answer)) (sym room) h in
              from-climbs size pages (suc n) (inners (made-row size t.0 pages kind e found n t)) t answer.0 answer.1
              (sym (ap (λ (a : Climb × Pages). a.0.up) (only-is given answer h)))
              (elsewhere-climbs
              (subst (λ (u : Option Found). placed size (suc t.0) (node-of (suc n) t) s.0.edits u s.1 (Ok answer))
              (sym q) there))
          step false full h =
              let same : row-founds n rc.row.1 ≡ entry_inserted key (row-founds n t.1.1) =
              rc.keys_are ∙ ap (λ (u : Option Found). with_up u (row-founds n t.1.1)) q in
              let now : whole ≡ content (suc n) rc.row =
              λ i. record { form = form.Inner; link = (sym rc.first_is) i; entries = (sym same) i } in
              let at = first-there size pages (suc n) t is.good.there in
              let lawful = row-lawful n t is s rc in
              let no_room : have_room (row-founds n rc.row.1) ≡ false = ap have_room same ∙ full in
              split-roots size pages (suc n) (inners (made-row size t.0 pages kind e found n t)) t at.low at.there
              (content (suc n) rc.row) s.0.edits rc.others (row_nodes (nodes n) rc.row) rc.opened s.1 rc.taken_is
              (λ parts next p. inner-halves n (made-row size t.0 pages kind e found n t) rc.row parts next rc.first_bare
              rc.rest_bare no_room p) (λ P all. rc.kept P all.1) rc.nodes_are
              (IsPermutation-cons t.0 (numbers (row_nodes (nodes n) t.1) ++ rc.opened)
              (numbers (row_nodes (nodes n) rc.row)) rc.numbers_are) rc.ready lawful.0 lawful.1
              (λ parts next p. (
                subst (λ (x : Parts). x.left.link < 2 ^ 32) (sym p.3) lawful.2,
                subst (λ (x : Parts). x.right.link < 2 ^ 32) (sym p.3)
                    (subst (AllByRecursion IsFound) p.2
                    (all-drop IsFound (half (row-founds n rc.row.1)) (row-founds n rc.row.1) lawful.0)).0.page,
              ))
              (λ parts next small p. key-writable (content (suc n) rc.row) parts next lawful.0 small p) answer
              (subst (λ (w : IndexPage). split size t.0 t.0 w s.0.edits s.1 (Ok answer)) now h)

  child-climbs : (n : ℕ) (t : ℕ × Body (suc n)) → RootWhole (suc n) t → (s : Climb × Pages) →
      climbed size t.0 e pages (path e n (picked e t.1.0 t.1.1)) (Ok s) →
      RowClimbs size pages n (made-row size t.0 pages kind e found n t) t.1.0 t.1.1 s.0 s.1
  child-climbs n t is s k =
      let inside = under n t is in
      row-from size t.0 pages kind e found n t inside s
      (climb-tree size t.0 pages kind e found n (picked e t.1.0 t.1.1)
      (child-whole size t.0 pages kind e found n t inside) s k)

  pub root-climbs : (n : ℕ) (t : ℕ × Body n) → RootWhole n t → (answer : Climb × Pages) →
      climbed size t.0 e pages (path e n t) (Ok answer) →
      Roots size pages n (grown e n (bare n t.1)) t answer.0.edits answer.1
  root-climbs zero t is answer k =
      root-leaf t is answer (leaf-step size t.0 pages kind e found zero t k.0 k.1 (Ok answer) k.2)
  root-climbs (suc n) t is answer k = root-inner n t is k.0 (child-climbs n t is k.0 k.1) answer k.2

  -- no page is left
  pub record RootFails (n : ℕ) (t : ℕ × Body n) (why : Refusal) : Type 0 where
    pub opened : ℕ
    pub list : List ℕ
    pub mid : Pages
    pub took : all_taken size opened pages ≡ Ok (list, mid)
    pub none : taken size mid ≡ Err why
    pub more : page_count n (bare n t.1) + suc opened
        ≤ page_count (rooted n (grown e n (bare n t.1)).0 (grown e n (bare n t.1)).1).levels
        (rooted n (grown e n (bare n t.1)).0 (grown e n (bare n t.1)).1).tree

  -- the root page goes on two others, or none is left for one of them
  split-fails-at : (n : ℕ) (t : ℕ × Body n) (whole : IndexPage) (edits : List Met) (count : ℕ) (list : List ℕ)
      (mid : Pages) (why : Refusal) → all_taken size count pages ≡ Ok (list, mid) →
      page_count n (bare n t.1) + suc (suc count)
      ≤ page_count (rooted n (grown e n (bare n t.1)).0 (grown e n (bare n t.1)).1).levels
      (rooted n (grown e n (bare n t.1)).0 (grown e n (bare n t.1)).1).tree →
      split size t.0 t.0 whole edits mid (Err why) → RootFails n t why
  split-fails-at n t whole edits count list mid why took more (inl none) =
      record { opened = count; list = list; mid = mid; took = took; none = none.0; more = omega (arith, more) }
  split-fails-at n t whole edits count list mid why took more (inr (next, one, inl none)) = absurd none
  split-fails-at n t whole edits count list mid why took more (inr (next, one, inr (parts, p, k))) =
      last (rw (eq-eqb t.0 t.0 refl) at k)
    where
      last : (taken_page size next.1 (Err why)
          ⊎ ((first : ℕ × Pages) × taken_page size next.1 (Ok first)
          × only {A = Climb × Pages}
          (Ok (
            record {
              edits = (edits ++ record { page = next.0; held = parts.right } ∷ []) ++ record {
                page = first.0;
                held = parts.left;
              } ∷ root_over t.0 first.0 parts.key ∷ [];
              up = None;
            },
            first.1,
          )) (Err why))) → RootFails n t why
      last (inl none) =
          record {
            opened = suc count;
            list = list ++ next.0 ∷ [];
            mid = next.1;
            took = one-more size count pages mid list next took one.0;
            none = none.0;
            more = more;
          }
      last (inr (first, two, h)) = no-refusal _ why h

  grown-rooted : (n : ℕ) (tree : Tree n) → length (row_keys (grown e n tree).1) ≡ 1 →
      page_count (rooted n (grown e n tree).0 (grown e n tree).1).levels
      (rooted n (grown e n tree).0 (grown e n tree).1).tree ≡ row-count n (grown e n tree) + 1
  grown-rooted n tree one =
      rooted-count n (grown e n tree).0 (grown e n tree).1 ∙
      ap (λ (k : ℕ). row-count n (grown e n tree) + cond (leb 1 k) 1 0) one

  root-leaf-fails : (t : ℕ × Body 0) → RootWhole 0 t → (why : Refusal) →
      placed size t.0 (node-of 0 t) [] (Some e) pages (Err why) → RootFails 0 t why
  root-leaf-fails t is why k = step (have_room (entry_inserted e t.1)) refl k
    where
      whole : IndexPage
      whole = record { form = form.Leaf; link = 0; entries = entry_inserted e t.1 }

      step : (b : Bool) → have_room (entry_inserted e t.1) ≡ b →
          either {A = Climb × Pages} b
          (only (Ok (record { edits = record { page = t.0; held = whole } ∷ []; up = None }, pages)))
          (split size t.0 t.0 whole [] pages) (Err why) → RootFails 0 t why
      step true room m = no-refusal _ why m
      step false full m =
          let one =
          leaves-opened (entry_inserted e t.1) (inserted-all IsFound e t.1 found is.fits.lawful)
          (omega (arith, inserted-width e t.1, entry-short e found, is.fits.fits)) full in
          split-fails-at 0 t whole [] 0 [] pages why refl
          (omega (arith, grown-rooted 0 t.1 one, leaves-count (entry_inserted e t.1), one)) m

  root-inner-fails : (n : ℕ) (t : ℕ × Body (suc n)) → RootWhole (suc n) t →
      (why : Refusal) (s : Climb × Pages)
      (rc : RowClimbs size pages n (made-row size t.0 pages kind e found n t) t.1.0 t.1.1 s.0 s.1) →
      placed size t.0 (node-of (suc n) t) s.0.edits s.0.up s.1 (Err why) → RootFails (suc n) t why
  root-inner-fails n t is why s rc k = go s.0.up refl k
    where
      go : (up : Option Found) → s.0.up ≡ up → placed size t.0 (node-of (suc n) t) s.0.edits up s.1 (Err why) →
          RootFails (suc n) t why
      go None q m = no-refusal _ why m
      go (Some key) q m = step (have_room (entry_inserted key (row-founds n t.1.1))) refl m
        where
          whole : IndexPage
          whole = record { form = form.Inner; link = t.1.0.0; entries = entry_inserted key (row-founds n t.1.1) }

          step : (b : Bool) → have_room (entry_inserted key (row-founds n t.1.1)) ≡ b →
              either {A = Climb × Pages} b
              (only (Ok (record { edits = s.0.edits ++ record { page = t.0; held = whole } ∷ []; up = None }, s.1)))
              (split size t.0 t.0 whole s.0.edits s.1) (Err why) → RootFails (suc n) t why
          step true room h = no-refusal _ why h
          step false full h =
              let same : row-founds n rc.row.1 ≡ entry_inserted key (row-founds n t.1.1) =
              rc.keys_are ∙ ap (λ (u : Option Found). with_up u (row-founds n t.1.1)) q in
              let no_room : have_room (row-founds n rc.row.1) ≡ false = ap have_room same ∙ full in
              let inside = under n t is in
              let keys = made-keys size t.0 pages kind e found n t inside in
              let bare_full : have_room (row_keys (made-row size t.0 pages kind e found n t).1) ≡ false =
              ap (λ (l : List (Key × Tree n)). have_room (row_keys l)) (sym rc.rest_bare) ∙
              sym (any-room n rc.row.1) ∙ no_room in
              let one = inners-opened (made-row size t.0 pages kind e found n t) keys.0 keys.1 bare_full in
              split-fails-at (suc n) t whole s.0.edits (length rc.opened) rc.opened s.1 why rc.taken_is.took
              (omega (
                arith,
                grown-rooted (suc n) (bare (suc n) t.1) one,
                inner-full size t.0 pages kind e found n t inside s rc no_room,
              )) h

  pub root-fails : (n : ℕ) (t : ℕ × Body n) → RootWhole n t → (why : Refusal) →
      climbed size t.0 e pages (path e n t) (Err why) → RootFails n t why
  root-fails zero t is why (inl none) = no-refusal _ why none
  root-fails zero t is why (inr (s, k, h)) =
      root-leaf-fails t is why (leaf-step size t.0 pages kind e found zero t s k (Err why) h)
  root-fails (suc n) t is why (inl below) =
      let inside = under n t is in
      let child = picked e t.1.0 t.1.1 in
      let fails =
      climb-fails size t.0 pages kind e found n child
      (child-whole size t.0 pages kind e found n t inside) why below in
      let counts = changed-counts (page_count n) (grown e n) e (bare n t.1.0.1) (bare-behind n t.1.1) in
      let one : page_count n (picked e (bare n t.1.0.1) (bare-behind n t.1.1)) ≡ page_count n (bare n child.1) =
      ap (page_count n) (picked-bare n e t.1.0 t.1.1) in
      let two : row-count n (grown e n (picked e (bare n t.1.0.1) (bare-behind n t.1.1)))
      ≡ row-count n (grown e n (bare n child.1)) =
      ap (λ (x : Tree n). row-count n (grown e n x)) (picked-bare n e t.1.0 t.1.1) in
      let tree = bare (suc n) t.1 in
      record {
        opened = fails.opened;
        list = fails.list;
        mid = fails.mid;
        took = fails.took;
        none = fails.none;
        more = omega (
          arith,
          inners-count n (made-row size t.0 pages kind e found n t),
          counts,
          one,
          two,
          fails.more,
          rooted-count (suc n) (grown e (suc n) tree).0 (grown e (suc n) tree).1,
        );
      }
  root-fails (suc n) t is why (inr (s, k, h)) = root-inner-fails n t is why s (child-climbs n t is s k) h
