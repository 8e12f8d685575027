-- An entry that is added to a tree that pages hold: proofs.
use Rattle.std.proofs.Common.{◌≡◌, ◌<◌, ◌≤◌, ◌^◌, ◌++◌, ◌∙◌, ℕ, zero, suc, Bool, true, false, eqb, List, []}
use Rattle.std.proofs.Common.{◌∷◌, length, Option, Some, None, Ok, refl, sym, ap, subst, arith, append_assoc}
use Rattle.std.specs.List.{flat_map, AllByRecursion}
use Rattle.std.specs.List.Sorted.{IsPermutation}
use Rattle.std.proofs.lemmas.Bool.{leb-true}
use Rattle.std.proofs.lemmas.List.{append-nil, length-append, map-append}
use Rattle.std.proofs.lemmas.List.Elements.{All-from_recursion, recursion_from_All}
use Rattle.std.proofs.lemmas.List.Sorted.{All-permutation, IsPermutation-append_left}
use Rattle.std.proofs.lemmas.List.Sorted.{IsPermutation-append_right, IsPermutation-cons, IsPermutation-refl}
use Rattle.std.proofs.lemmas.List.Sorted.{IsPermutation-to_front, IsPermutation-trans}
use Rattle.pager.specs.Allows.{either, only}
use Rattle.pager.specs.Index.{IsFound}
use Rattle.pager.specs.Pages.{Pages}
use Rattle.pager.specs.declared.index.Found.{Found}
use Rattle.index_page.specs.Entries.{entry_inserted}
use Rattle.index_page.specs.IndexPage.{AreOneMore, AreWritable, half, have_room, width}
use Rattle.index_page.specs.declared.page.Form.TheVariants as form
use Rattle.index_page.specs.declared.page.IndexPage.{IndexPage}
use Rattle.index_page.proofs.Ordered.{inserted-all}
use Rattle.index_page.proofs.Packing.{entry-short}
use Rattle.index_page.proofs.Placing.{inserted-width}
use Rattle.index_page.proofs.Taking.{ok_is}
use Rattle.tree_index.specs.declared.climb.Parts.{Parts}
use Rattle.tree_index.specs.declared.walk.Met.{Met}
use Rattle.tree_index.specs.Climbing.{Climbs, IsReady, IsTaken, RowClimbs, bare-behind, row-founds, with_up}
use Rattle.tree_index.specs.Growing.{all-drop}
use Rattle.tree_index.specs.Marking.{all-join, all-left, all-right}
use Rattle.tree_index.specs.Placing.{Halves, any-room, any-width, below, inner-halves, inners-room, leaf-halves}
use Rattle.tree_index.specs.Placing.{leaves-room, nodes-are, parts-writable, perm-kept, perm-one, perm-two}
use Rattle.tree_index.specs.Taking.{taken-more}
use Rattle.tree_index.specs.Tree.{Body, Key, Row, Tree, bare, content, inners}
use Rattle.tree_index.specs.Tree.{leaves, nodes, numbers, row_keys, row_nodes}
use Rattle.tree_index.specs.declared.climb.Climb.{Climb}
use Rattle.tree_index.specs.Work.{parted, placed, split, with_entries}

-- an answer that is the only one
pub only-is : {A : Type 0} (given answer : A) → only (Ok given) (Ok answer) → given ≡ answer
only-is given answer e = ok_is (Ok given) given answer refl e

abbrev pub node-of : (n : ℕ) (t : ℕ × Body n) → Met
node-of n t = record { page = t.0; held = content n t.1 }

-- what a page is to hold can be written there
module _ (size root : ℕ) (pages : Pages) where
  -- the root is no page of the tree
  pub record IsPlace (n : ℕ) (t : ℕ × Body n) : Type 0 where
    pub low : 2 ≤ t.0
    pub there : t.0 < size
    pub other : eqb t.0 root ≡ false

  -- a key that found no room, in two pages
  pub split-climbs : (n : ℕ) (made_is : Row (Tree n)) (t : ℕ × Body n) (place : IsPlace n t) (whole : IndexPage)
      (edits others rest : List Met) (opened : List ℕ) (mid : Pages) (is_taken : IsTaken size pages opened mid)
      (halves : (parts : Parts) (next : ℕ) → parted whole next (Ok parts) → Halves n made_is parts next rest)
      (kept : (P : Met → Type 0) → AllByRecursion P (nodes n t) → AllByRecursion P others)
      (nodes_kept : IsPermutation (edits ++ others) rest)
      (numbers_kept : IsPermutation (numbers (nodes n t) ++ opened) (t.0 ∷ numbers rest))
      (ready : AllByRecursion (IsReady size) edits) (lawful : AllByRecursion IsFound whole.entries)
      (most : AreOneMore whole.entries)
      (links : (parts : Parts) (next : ℕ) → parted whole next (Ok parts) → (parts.left.link < 2 ^ 32)
      × (parts.right.link < 2 ^ 32)) (answer : Climb × Pages) → split size root t.0 whole edits mid (Ok answer) →
      Climbs size pages n made_is t answer.0 answer.1
  split-climbs n made_is t place whole edits others rest opened mid is_taken halves kept nodes_kept numbers_kept ready
      lawful most links answer s =
      let next = s.0 in
      let parts = s.2.0 in
      let h = halves parts next.0 s.2.1 in
      let link = links parts next.0 s.2.1 in
      let writable = parts-writable whole next.0 parts lawful most s.2.1 in
      let r : Met = record { page = next.0; held = parts.right } in
      let l : Met = record { page = t.0; held = parts.left } in
      let begun : Climb × Pages = (record { edits = (edits ++ r ∷ []) ++ l ∷ []; up = Some parts.key }, next.1) in
      let given : Climb × Pages = (record { edits = edits ++ r ∷ l ∷ []; up = Some parts.key }, next.1) in
      let same : given ≡ answer =
      ap (λ (x : List Met). (record { edits = x; up = Some parts.key }, next.1))
      (sym (append_assoc edits (r ∷ []) (l ∷ []))) ∙ only-is begun answer (rw place.other at s.2.2) in
      let more = taken-more size pages mid opened next is_taken s.1.0 s.1.1 in
      let first : l ∷ below n h.left ≡ nodes n (t.0, h.left) =
      ap (λ (c : IndexPage). record { page = t.0; held = c } ∷ below n h.left) h.left_is ∙
      sym (nodes-are n t.0 h.left) in
      let last : r ∷ below n h.right ≡ nodes n (next.0, h.right) =
      ap (λ (c : IndexPage). record { page = next.0; held = c } ∷ below n h.right) h.right_is ∙
      sym (nodes-are n next.0 h.right) in
      let row : Row (ℕ × Body n) = ((t.0, h.left), (h.key, (next.0, h.right)) ∷ []) in
      let all : (l ∷ below n h.left) ++ (r ∷ below n h.right) ≡ row_nodes (nodes n) row =
      ap (λ (m : List Met). m ++ (r ∷ below n h.right)) first ∙
      ap (λ (m : List Met). nodes n (t.0, h.left) ++ m) (last ∙ sym (append-nil (nodes n (next.0, h.right)))) in
      let two =
      perm-two edits others (below n h.left) (below n h.right) r l
      (subst (IsPermutation (edits ++ others)) h.nodes_are nodes_kept) in
      let A = numbers (below n h.left) in
      let B = numbers (below n h.right) in
      let held : numbers rest ≡ A ++ B =
      ap numbers h.nodes_are ∙ map-append (λ (met : Met). met.page) (below n h.left) (below n h.right) in
      let count : IsPermutation ((numbers (nodes n t) ++ opened) ++ next.0 ∷ []) ((t.0 ∷ (A ++ B)) ++ next.0 ∷ []) =
      IsPermutation-append_left (next.0 ∷ []) (numbers (nodes n t) ++ opened) (t.0 ∷ (A ++ B))
      (subst (λ (x : List ℕ). IsPermutation (numbers (nodes n t) ++ opened) (t.0 ∷ x)) held numbers_kept) in
      let moved : IsPermutation ((t.0 ∷ (A ++ B)) ++ next.0 ∷ []) (t.0 ∷ (A ++ (next.0 ∷ B))) =
      subst (λ (x : List ℕ). IsPermutation (t.0 ∷ x) (t.0 ∷ (A ++ (next.0 ∷ B)))) (sym (append_assoc A B (next.0 ∷ [])))
      (IsPermutation-append_right (t.0 ∷ A) (B ++ next.0 ∷ []) (next.0 ∷ B) (IsPermutation-to_front B next.0)) in
      let named_all : t.0 ∷ (A ++ (next.0 ∷ B)) ≡ numbers (row_nodes (nodes n) row) =
      sym (map-append (λ (met : Met). met.page) (l ∷ below n h.left) (r ∷ below n h.right)) ∙ ap numbers all in
      let climbs : Climbs size pages n made_is t given.0 given.1 = record {
        row = row;
        first_bare = h.first_bare;
        rest_bare = h.rest_bare;
        first_is = refl;
        up_is = ((h.key, (next.0, h.right)), refl, h.key_is);
        opened = opened ++ next.0 ∷ [];
        taken_is = more;
        others = others;
        kept = kept;
        nodes_are = subst (IsPermutation ((edits ++ r ∷ l ∷ []) ++ others)) all two;
        numbers_are =
            subst (λ (x : List ℕ). IsPermutation x (numbers (row_nodes (nodes n) row)))
            (append_assoc (numbers (nodes n t)) opened (next.0 ∷ []))
            (subst (IsPermutation ((numbers (nodes n t) ++ opened) ++ next.0 ∷ [])) named_all
            (IsPermutation-trans ((numbers (nodes n t) ++ opened) ++ next.0 ∷ []) ((t.0 ∷ (A ++ B)) ++ next.0 ∷ [])
            (t.0 ∷ (A ++ (next.0 ∷ B))) count moved));
        in_place = λ none. absurd (omega (arith, ap length none, length-append opened (next.0 ∷ [])));
        ready =
            let within = (all-right (λ page. (2 ≤ page) × (page < size)) opened (next.0 ∷ []) more.within).0 in
            all-join (IsReady size) edits (r ∷ l ∷ []) ready (
              record { low = within.0; there = within.1; link = link.1; writable = writable.1 },
              (record { low = place.low; there = place.there; link = link.0; writable = writable.0 }, tt),
            );
      } in
      subst (λ (a : Climb × Pages). Climbs size pages n made_is t a.0 a.1) same climbs

  -- nothing is taken yet
  pub none-taken : IsTaken size pages [] pages
  none-taken = record { took = refl; small = tt; within = tt }

  -- an entry on a leaf
  pub leaf-climbs : (e : Found) (t : ℕ × Body 0) → IsPlace 0 t → IsFound e → AreWritable t.1 →
      (answer : Climb × Pages) → placed size root (node-of 0 t) [] (Some e) pages (Ok answer) →
      Climbs size pages 0 (leaves (entry_inserted e t.1)) t answer.0 answer.1
  leaf-climbs e t place found writable answer s = step (have_room (entry_inserted e t.1)) refl s
    where
      whole : IndexPage
      whole = record { form = form.Leaf; link = 0; entries = entry_inserted e t.1 }

      lawful : AllByRecursion IsFound (entry_inserted e t.1)
      lawful = inserted-all IsFound e t.1 found writable.lawful

      step : (b : Bool) → have_room (entry_inserted e t.1) ≡ b →
          either {A = Climb × Pages} b
          (only (Ok (record { edits = [] ++ record { page = t.0; held = whole } ∷ []; up = None }, pages)))
          (split size root t.0 whole [] pages) (Ok answer) →
          Climbs size pages 0 (leaves (entry_inserted e t.1)) t answer.0 answer.1
      step true room k =
          let met : Met = record { page = t.0; held = whole } in
          let given : Climb × Pages = (record { edits = met ∷ []; up = None }, pages) in
          let is = leaves-room (entry_inserted e t.1) room in
          let climbs : Climbs size pages 0 (leaves (entry_inserted e t.1)) t given.0 given.1 = record {
            row = ((t.0, entry_inserted e t.1), []);
            first_bare = sym (ap (λ (r : Row (List Found)). r.0) is);
            rest_bare = sym (ap (λ (r : Row (List Found)). r.1) is);
            first_is = refl;
            up_is = refl;
            opened = [];
            taken_is = none-taken;
            others = [];
            kept = λ P all. tt;
            nodes_are = IsPermutation-refl (met ∷ []);
            numbers_are = IsPermutation-refl (t.0 ∷ []);
            in_place = λ none. refl;
            ready = (
              record {
                low = place.low;
                there = place.there;
                link = omega arith;
                writable = record { lawful = lawful; fits = leb-true (width (entry_inserted e t.1)) 1016 room };
              },
              tt,
            );
          } in
          subst (λ (a : Climb × Pages). Climbs size pages 0 (leaves (entry_inserted e t.1)) t a.0 a.1)
          (only-is given answer k) climbs
      step false full k =
          split-climbs 0 (leaves (entry_inserted e t.1)) t place whole [] [] [] [] pages none-taken
          (λ parts next p. leaf-halves (entry_inserted e t.1) parts next full p) (λ P all. tt) (IsPermutation-refl [])
          (IsPermutation-refl (t.0 ∷ [])) tt lawful
          (omega (arith, inserted-width e t.1, entry-short e found, writable.fits))
          (λ parts next p. (
            subst (λ (q : Parts). q.left.link < 2 ^ 32) (sym p.3) (omega arith),
            subst (λ (q : Parts). q.right.link < 2 ^ 32) (sym p.3) (omega arith),
          )) answer k

  pub founds-lawful : (n : ℕ) (rest : List (Key × (ℕ × Body n))) →
      AllByRecursion IsFound (row_keys (bare-behind n rest)) →
      AllByRecursion (λ (b : Key × (ℕ × Body n)). b.1.0 < 2 ^ 32) rest → AllByRecursion IsFound (row-founds n rest)
  founds-lawful n [] keys narrow = tt
  founds-lawful n (b ∷ rest) keys narrow =
      (record { value = keys.0.value; number = keys.0.number; page = narrow.0 }, founds-lawful n rest keys.1 narrow.1)

  pub first-number : (P : ℕ → Type 0) (n : ℕ) (t : ℕ × Body n) → AllByRecursion P (numbers (nodes n t)) → P t.0
  first-number P zero t all = all.0
  first-number P (suc n) t all = all.0

  pub row-numbers : (P : ℕ → Type 0) (n : ℕ) (rest : List (Key × (ℕ × Body n))) →
      AllByRecursion P (numbers (flat_map (λ (b : Key × (ℕ × Body n)). nodes n b.1) rest)) →
      AllByRecursion (λ (b : Key × (ℕ × Body n)). P b.1.0) rest
  row-numbers P n [] all = tt
  row-numbers P n (b ∷ rest) all =
      let two =
      subst (AllByRecursion P)
      (map-append (λ (met : Met). met.page) (nodes n b.1) (flat_map (λ (c : Key × (ℕ × Body n)). nodes n c.1) rest))
      all in (
        first-number P n b.1 (all-left P (numbers (nodes n b.1)) _ two),
        row-numbers P n rest (all-right P (numbers (nodes n b.1)) _ two),
      )

  -- a key on an inner page, or none
  pub inner-climbs : (n : ℕ) (made_is : Row (Tree n)) (t : ℕ × Body (suc n)) (state : Climb) (mid : Pages)
      (rc : RowClimbs size pages n made_is t.1.0 t.1.1 state mid) → IsPlace (suc n) t →
      AllByRecursion (λ page. page < 2 ^ 32) (numbers (row_nodes (nodes n) t.1)) →
      have_room (row-founds n t.1.1) ≡ true → AllByRecursion IsFound (row_keys made_is.1) →
      AreOneMore (row_keys made_is.1) → (answer : Climb × Pages) →
      placed size root (node-of (suc n) t) state.edits state.up mid (Ok answer) →
      Climbs size pages (suc n) (inners made_is) t answer.0 answer.1
  inner-climbs n made_is t state mid rc place narrow room keys most answer s = go state.up refl s
    where
      same_keys : row_keys (bare-behind n rc.row.1) ≡ row_keys made_is.1
      same_keys = ap row_keys rc.rest_bare

      narrow_row : AllByRecursion (λ page. page < 2 ^ 32) (numbers (row_nodes (nodes n) rc.row))
      narrow_row =
          let before =
          all-join (λ page. page < 2 ^ 32) (numbers (row_nodes (nodes n) t.1)) rc.opened narrow rc.taken_is.small in
          recursion_from_All (λ page. page < 2 ^ 32) (numbers (row_nodes (nodes n) rc.row))
          (All-permutation (λ page. page < 2 ^ 32) (numbers (row_nodes (nodes n) t.1) ++ rc.opened)
          (numbers (row_nodes (nodes n) rc.row)) rc.numbers_are
          (All-from_recursion (λ page. page < 2 ^ 32) (numbers (row_nodes (nodes n) t.1) ++ rc.opened) before))

      narrow_parts : AllByRecursion (λ page. page < 2 ^ 32)
          (numbers (nodes n rc.row.0) ++ numbers (flat_map (λ (b : Key × (ℕ × Body n)). nodes n b.1) rc.row.1))
      narrow_parts =
          subst (AllByRecursion (λ page. page < 2 ^ 32))
          (map-append (λ (met : Met). met.page) (nodes n rc.row.0)
          (flat_map (λ (b : Key × (ℕ × Body n)). nodes n b.1) rc.row.1)) narrow_row

      link_small : rc.row.0.0 < 2 ^ 32
      link_small =
          first-number (λ page. page < 2 ^ 32) n rc.row.0
          (all-left (λ page. page < 2 ^ 32) (numbers (nodes n rc.row.0)) _ narrow_parts)

      lawful : AllByRecursion IsFound (row-founds n rc.row.1)
      lawful = founds-lawful n rc.row.1 (subst (AllByRecursion IsFound) (sym same_keys) keys)
          (row-numbers (λ page. page < 2 ^ 32) n rc.row.1
          (all-right (λ page. page < 2 ^ 32) (numbers (nodes n rc.row.0)) _ narrow_parts))

      short : AreOneMore (row-founds n rc.row.1)
      short = omega (arith, any-width n rc.row.1, ap width same_keys, most)

      kept_numbers : IsPermutation (numbers (nodes (suc n) t) ++ rc.opened) (t.0 ∷ numbers (row_nodes (nodes n) rc.row))
      kept_numbers =
          IsPermutation-cons t.0 (numbers (row_nodes (nodes n) t.1) ++ rc.opened)
          (numbers (row_nodes (nodes n) rc.row)) rc.numbers_are

      met_after : Met
      met_after = record { page = t.0; held = content (suc n) rc.row }

      bare_row : (bare n rc.row.0.1, bare-behind n rc.row.1) ≡ made_is
      bare_row = λ i. (rc.first_bare i, rc.rest_bare i)

      fits : have_room (row-founds n rc.row.1) ≡ true → inners made_is ≡ (made_is, [])
      fits fit = inners-room made_is (ap have_room (sym same_keys) ∙ sym (any-room n rc.row.1) ∙ fit)

      Whole : IndexPage → Type 0
      Whole held = held ≡ content (suc n) rc.row

      -- what stands where the keys have room
      stays : have_room (row-founds n rc.row.1) ≡ true → (edits others : List Met) →
          IsPermutation (edits ++ others) (met_after ∷ row_nodes (nodes n) rc.row) →
          ((P : Met → Type 0) → AllByRecursion P (nodes (suc n) t) → AllByRecursion P others) →
          AllByRecursion (IsReady size) edits →
          Climbs size pages (suc n) (inners made_is) t (record { edits = edits; up = None }) mid
      stays fit edits others perm kept ready = record {
        row = ((t.0, rc.row), []);
        first_bare = bare_row ∙ sym (ap (λ (r : Row (Row (Tree n))). r.0) (fits fit));
        rest_bare = sym (ap (λ (r : Row (Row (Tree n))). r.1) (fits fit));
        first_is = refl;
        up_is = refl;
        opened = rc.opened;
        taken_is = rc.taken_is;
        others = others;
        kept = kept;
        nodes_are =
            subst (IsPermutation (edits ++ others)) (sym (append-nil (met_after ∷ row_nodes (nodes n) rc.row))) perm;
        numbers_are =
            subst (λ (l : List Met). IsPermutation (numbers (nodes (suc n) t) ++ rc.opened) (numbers l))
            (sym (append-nil (met_after ∷ row_nodes (nodes n) rc.row))) kept_numbers;
        in_place = λ none. ap numbers (append-nil (met_after ∷ row_nodes (nodes n) rc.row)) ∙
            ap (λ (l : List ℕ). t.0 ∷ l) (rc.in_place none);
        ready = ready;
      }

      go : (up : Option Found) → state.up ≡ up → placed size root (node-of (suc n) t) state.edits up mid (Ok answer) →
          Climbs size pages (suc n) (inners made_is) t answer.0 answer.1
      go None q k =
          let given : Climb × Pages = (record { edits = state.edits; up = None }, mid) in
          let same : row-founds n rc.row.1 ≡ row-founds n t.1.1 =
          rc.keys_are ∙ ap (λ (u : Option Found). with_up u (row-founds n t.1.1)) q in
          let met : node-of (suc n) t ≡ met_after =
          λ i. record {
            page = t.0;
            held = record {
              form = form.Inner;
              link = (sym rc.first_is) i;
              entries = (sym same) i;
            };
          } in
          let perm =
          subst (λ (m : Met). IsPermutation (state.edits ++ node-of (suc n) t ∷ rc.others)
          (m ∷ row_nodes (nodes n) rc.row)) met
          (perm-kept state.edits rc.others (row_nodes (nodes n) rc.row) (node-of (suc n) t) rc.nodes_are) in
          subst (λ (a : Climb × Pages). Climbs size pages (suc n) (inners made_is) t a.0 a.1) (only-is given answer k)
          (stays (ap have_room same ∙ room) state.edits (node-of (suc n) t ∷ rc.others) perm
          (λ P all. (all.0, rc.kept P all.1)) rc.ready)
      go (Some key) q k =
          let whole : IndexPage = with_entries (content (suc n) t.1) (entry_inserted key (row-founds n t.1.1)) in
          let same : row-founds n rc.row.1 ≡ entry_inserted key (row-founds n t.1.1) =
          rc.keys_are ∙ ap (λ (u : Option Found). with_up u (row-founds n t.1.1)) q in
          let is : whole ≡ content (suc n) rc.row =
          λ i. record { form = form.Inner; link = (sym rc.first_is) i; entries = (sym same) i } in
          placing whole is k
        where
          placing : (whole : IndexPage) → whole ≡ content (suc n) rc.row →
              either {A = Climb × Pages} (have_room whole.entries)
              (only (Ok (record { edits = state.edits ++ record { page = t.0; held = whole } ∷ []; up = None }, mid)))
              (split size root t.0 whole state.edits mid) (Ok answer) →
              Climbs size pages (suc n) (inners made_is) t answer.0 answer.1
          placing whole is k =
              step (have_room (row-founds n rc.row.1)) refl
              (subst (λ (h : IndexPage). either {A = Climb × Pages} (have_room h.entries)
              (only (Ok (record { edits = state.edits ++ record { page = t.0; held = h } ∷ []; up = None }, mid)))
              (split size root t.0 h state.edits mid) (Ok answer)) is k)
            where
              step : (b : Bool) → have_room (row-founds n rc.row.1) ≡ b →
                  either {A = Climb × Pages} b
                  (only (Ok (record { edits = state.edits ++ met_after ∷ []; up = None }, mid)))
                  (split size root t.0 (content (suc n) rc.row) state.edits mid) (Ok answer) →
                  Climbs size pages (suc n) (inners made_is) t answer.0 answer.1
              step true fit m =
                  let given : Climb × Pages = (record { edits = state.edits ++ met_after ∷ []; up = None }, mid) in
                  let place_ready : IsReady size met_after =
                  record {
                    low = place.low;
                    there = place.there;
                    link = link_small;
                    writable = record { lawful = lawful; fits = leb-true (width (row-founds n rc.row.1)) 1016 fit };
                  } in
                  subst (λ (a : Climb × Pages). Climbs size pages (suc n) (inners made_is) t a.0 a.1)
                  (only-is given answer m)
                  (stays fit (state.edits ++ met_after ∷ []) rc.others
                  (perm-one state.edits rc.others (row_nodes (nodes n) rc.row) met_after rc.nodes_are)
                  (λ P all. rc.kept P all.1)
                  (all-join (IsReady size) state.edits (met_after ∷ []) rc.ready (place_ready, tt)))
              step false full m =
                  split-climbs (suc n) (inners made_is) t place (content (suc n) rc.row) state.edits rc.others
                  (row_nodes (nodes n) rc.row) rc.opened mid rc.taken_is
                  (λ parts next p. inner-halves n made_is rc.row parts next rc.first_bare rc.rest_bare full p)
                  (λ P all. rc.kept P all.1) rc.nodes_are kept_numbers rc.ready lawful short
                  (λ parts next p. (
                    subst (λ (x : Parts). x.left.link < 2 ^ 32) (sym p.3) link_small,
                    subst (λ (x : Parts). x.right.link < 2 ^ 32) (sym p.3)
                        (subst (AllByRecursion IsFound) p.2
                        (all-drop IsFound (half (row-founds n rc.row.1)) (row-founds n rc.row.1) lawful)).0.page,
                  )) answer m
