-- Keys and entries placed on a page of a tree: proofs.
use Rattle.std.proofs.Common.{◌≡◌, ◌+◌, ◌*◌, ◌++◌, ◌∙◌, ℕ, zero, suc, Bool, true, false, cond, leb, List}
use Rattle.std.proofs.Common.{[], ◌∷◌, length, take, drop, Ok, refl, sym, ap, subst, arith, append_assoc}
use Rattle.std.specs.List.{flat_map, drop-map, AllByRecursion}
use Rattle.std.specs.List.Sorted.{IsPermutation}
use Rattle.std.proofs.lemmas.List.{take-append-drop, take-map}
use Rattle.std.proofs.lemmas.List.Concat.{flat_map-append}
use Rattle.std.proofs.lemmas.List.Sorted.{IsPermutation-cons, IsPermutation-middle}
use Rattle.std.proofs.lemmas.List.Sorted.{IsPermutation-sym, IsPermutation-trans}
use Rattle.pager.specs.Index.{IsFound}
use Rattle.pager.specs.declared.index.Found.{Found}
use Rattle.index_page.specs.IndexPage.{AreOneMore, HaveRoom, AreWritable, entry_code}
use Rattle.index_page.specs.IndexPage.{have_room, half, more_for_half, width}
use Rattle.index_page.specs.declared.page.Form.{Form}
use Rattle.index_page.specs.declared.page.Form.TheVariants as form
use Rattle.index_page.specs.declared.page.IndexPage.{IndexPage}
use Rattle.index_page.proofs.Halving.{halves_fit}
use Rattle.index_page.proofs.Packing.{length-entry, width-cons}
use Rattle.tree_index.specs.declared.climb.Parts.{Parts}
use Rattle.tree_index.specs.declared.walk.Met.{Met}
use Rattle.tree_index.specs.Climbing.{bare-behind, perm-eq, row-founds}
use Rattle.tree_index.specs.Growing.{all-drop, all-take}
use Rattle.tree_index.specs.Tree.{Body, Key, Row, Tree, bare, content, inners, key_of, leaves}
use Rattle.tree_index.specs.Tree.{named, next_inner, next_leaf, nodes, row_keys, row_nodes}
use Rattle.tree_index.specs.Work.{parted, second}

-- an entry takes the same room whatever page it names
any-entry : (k : Key) (page : ℕ) → length (entry_code (named k page)) ≡ length (entry_code (named k 0))
any-entry k page = length-entry (named k page) ∙ sym (length-entry (named k 0))

pub any-width : (n : ℕ) (rest : List (Key × (ℕ × Body n))) →
    width (row-founds n rest) ≡ width (row_keys (bare-behind n rest))
any-width n [] = refl
any-width n (b ∷ rest) =
    omega (
      arith,
      width-cons (named b.0 b.1.0) (row-founds n rest),
      width-cons (named b.0 0) (row_keys (bare-behind n rest)),
      any-entry b.0 b.1.0,
      any-width n rest,
    )

any-more : (n total filled : ℕ) (rest : List (Key × (ℕ × Body n))) →
    more_for_half total filled (row-founds n rest) ≡ more_for_half total filled (row_keys (bare-behind n rest))
any-more n total filled [] = refl
any-more n total filled (b ∷ rest) =
    ap (λ (k : ℕ). cond (leb total (2 * filled)) 0 (suc k))
    (any-more n total (filled + length (entry_code (named b.0 b.1.0))) rest ∙
    ap (λ (w : ℕ). more_for_half total (filled + w) (row_keys (bare-behind n rest))) (any-entry b.0 b.1.0))

pub any-half : (n : ℕ) (rest : List (Key × (ℕ × Body n))) →
    half (row-founds n rest) ≡ half (row_keys (bare-behind n rest))
any-half n rest =
    any-more n (width (row-founds n rest)) 0 rest ∙
    ap (λ (w : ℕ). more_for_half w 0 (row_keys (bare-behind n rest))) (any-width n rest)

pub any-room : (n : ℕ) (rest : List (Key × (ℕ × Body n))) →
    have_room (row-founds n rest) ≡ have_room (row_keys (bare-behind n rest))
any-room n rest = ap (λ (w : ℕ). leb w 1016) (any-width n rest)

-- the pages below the first
abbrev pub below : (n : ℕ) → Body n → List Met
below zero body = []
below (suc n) body = row_nodes (nodes n) body

pub nodes-are : (n page : ℕ) (body : Body n) →
    nodes n (page, body) ≡ record { page = page; held = content n body } ∷ below n body
nodes-are zero page body = refl
nodes-are (suc n) page body = refl

-- what has no room on a page, in two trees
pub record Halves (n : ℕ) (made_is : Row (Tree n)) (parts : Parts) (next : ℕ) (rest : List Met) : Type 0 where
  pub left : Body n
  pub right : Body n
  pub key : Key
  pub first_bare : bare n left ≡ made_is.0
  pub rest_bare : (key, bare n right) ∷ [] ≡ made_is.1
  pub left_is : parts.left ≡ content n left
  pub right_is : parts.right ≡ content n right
  pub key_is : parts.key ≡ named key next
  pub nodes_are : rest ≡ below n left ++ below n right

leaves-full : (es : List Found) → have_room es ≡ false → leaves es ≡ (take (half es) es, next_leaf (drop (half es) es))
leaves-full es full = ap (λ (t : Bool). cond t (es, []) (take (half es) es, next_leaf (drop (half es) es))) full

pub inners-full : {X : Type 0} (row : Row X) → have_room (row_keys row.1) ≡ false →
    inners row ≡ ((row.0, take (half (row_keys row.1)) row.1), next_inner (drop (half (row_keys row.1)) row.1))
inners-full {X} row full =
    ap (λ (t : Bool). cond t (row, [])
    ((row.0, take (half (row_keys row.1)) row.1), next_inner (drop (half (row_keys row.1)) row.1))) full

pub inners-room : {X : Type 0} (row : Row X) → have_room (row_keys row.1) ≡ true → inners row ≡ (row, [])
inners-room {X} row room =
    ap (λ (t : Bool). cond t (row, [])
    ((row.0, take (half (row_keys row.1)) row.1), next_inner (drop (half (row_keys row.1)) row.1))) room

pub leaves-room : (es : List Found) → have_room es ≡ true → leaves es ≡ (es, [])
leaves-room es room = ap (λ (t : Bool). cond t (es, []) (take (half es) es, next_leaf (drop (half es) es))) room

pub leaf-halves : (es : List Found) (parts : Parts) (next : ℕ) → have_room es ≡ false →
    parted (record { form = form.Leaf; link = 0; entries = es }) next (Ok parts) → Halves 0 (leaves es) parts next []
leaf-halves es parts next full p =
    let first = p.0 in
    let back = p.1 in
    let e : leaves es ≡ (take (half es) es, (key_of first, first ∷ back) ∷ []) =
    leaves-full es full ∙ ap (λ (l : List Found). (take (half es) es, next_leaf l)) p.2 in
    record {
      left = take (half es) es;
      right = first ∷ back;
      key = key_of first;
      first_bare = sym (ap (λ (r : Row (List Found)). r.0) e);
      rest_bare = sym (ap (λ (r : Row (List Found)). r.1) e);
      left_is = ap (λ (q : Parts). q.left) p.3;
      right_is = ap (λ (q : Parts). q.right) p.3;
      key_is = ap (λ (q : Parts). q.key) p.3;
      nodes_are = refl;
    }

row-back : (n : ℕ) (l : List (Key × (ℕ × Body n))) (first : Found) (back : List Found) → row-founds n l ≡ first ∷ back →
    (b : Key × (ℕ × Body n)) × (rest : List (Key × (ℕ × Body n))) × (l ≡ b ∷ rest) × (first ≡ named b.0 b.1.0)
    × (back ≡ row-founds n rest)
row-back n [] first back e = absurd cc
row-back n (b ∷ rest) first back e = (b, rest, refl, head e, tail e)
  where
    head : row-founds n (b ∷ rest) ≡ first ∷ back → first ≡ named b.0 b.1.0
    head q = cc

    tail : row-founds n (b ∷ rest) ≡ first ∷ back → back ≡ row-founds n rest
    tail q = cc

pub inner-halves : (n : ℕ) (made_is : Row (Tree n)) (row : Row (ℕ × Body n)) (parts : Parts) (next : ℕ) →
    bare n row.0.1 ≡ made_is.0 → bare-behind n row.1 ≡ made_is.1 → have_room (row-founds n row.1) ≡ false →
    parted (content (suc n) row) next (Ok parts) → Halves (suc n) (inners made_is) parts next (row_nodes (nodes n) row)
inner-halves n made_is row parts next first_bare rest_bare full p =
    let h = half (row-founds n row.1) in
    let founds : Key × (ℕ × Body n) → Found = λ b. named b.0 b.1.0 in
    let bares : Key × (ℕ × Body n) → Key × Tree n = λ b. (b.0, bare n b.1.1) in
    let split = row-back n (drop h row.1) p.0 p.1 (sym (drop-map founds h row.1) ∙ p.2) in
    let b = split.0 in
    let rest = split.1 in
    let keys : row_keys (bare-behind n row.1) ≡ row_keys made_is.1 = ap row_keys rest_bare in
    let same_half : h ≡ half (row_keys made_is.1) = any-half n row.1 ∙ ap half keys in
    let no_room : have_room (row_keys made_is.1) ≡ false = ap have_room (sym keys) ∙ sym (any-room n row.1) ∙ full in
    let taken : take (half (row_keys made_is.1)) made_is.1 ≡ bare-behind n (take h row.1) =
    ap (λ (k : ℕ). take k made_is.1) (sym same_half) ∙ ap (take h) (sym rest_bare) ∙ take-map bares h row.1 in
    let dropped : drop (half (row_keys made_is.1)) made_is.1 ≡ (b.0, bare n b.1.1) ∷ bare-behind n rest =
    ap (λ (k : ℕ). drop k made_is.1) (sym same_half) ∙ ap (drop h) (sym rest_bare) ∙ drop-map bares h row.1 ∙
    ap (bare-behind n) split.2 in
    let e : inners made_is
    ≡ ((made_is.0, bare-behind n (take h row.1)), (b.0, (bare n b.1.1, bare-behind n rest)) ∷ []) =
    inners-full made_is no_room ∙
    ap (λ (l : List (Key × Tree n)). ((made_is.0, l), next_inner (drop (half (row_keys made_is.1)) made_is.1))) taken ∙
    ap (λ (l : List (Key × Tree n)). ((made_is.0, bare-behind n (take h row.1)), next_inner l)) dropped in
    let first_is : p.0 ≡ named b.0 b.1.0 = split.3 in
    record {
      left = (row.0, take h row.1);
      right = (b.1, rest);
      key = b.0;
      first_bare = ap (λ (t : Tree n). (t, bare-behind n (take h row.1))) first_bare ∙
          sym (ap (λ (r : Row (Row (Tree n))). r.0) e);
      rest_bare = sym (ap (λ (r : Row (Row (Tree n))). r.1) e);
      left_is =
          ap (λ (q : Parts). q.left) p.3 ∙
          ap (λ (l : List Found). record { form = form.Inner; link = row.0.0; entries = l }) (take-map founds h row.1);
      right_is =
          ap (λ (q : Parts). q.right) p.3 ∙
          ap (λ (f : Found). record { form = form.Inner; link = f.page; entries = p.1 }) first_is ∙
          ap (λ (l : List Found). record { form = form.Inner; link = b.1.0; entries = l }) split.4;
      key_is = ap (λ (q : Parts). q.key) p.3 ∙
          ap (λ (f : Found). record { value = f.value; number = f.number; page = next }) first_is;
      nodes_are =
          let flat = flat_map (λ (c : Key × (ℕ × Body n)). nodes n c.1) in
          ap (λ (l : List (Key × (ℕ × Body n))). nodes n row.0 ++ flat l) (sym (take-append-drop h row.1)) ∙
          ap (λ (l : List Met). nodes n row.0 ++ l)
          (flat_map-append (λ (c : Key × (ℕ × Body n)). nodes n c.1) (take h row.1) (drop h row.1) ∙
          ap (λ (l : List (Key × (ℕ × Body n))). flat (take h row.1) ++ flat l) split.2)
          ∙ sym (append_assoc (nodes n row.0) (flat (take h row.1)) (flat (b ∷ rest)));
    }

-- the halves can be written
pub parts-writable : (whole : IndexPage) (next : ℕ) (parts : Parts) → AllByRecursion IsFound whole.entries →
    AreOneMore whole.entries → parted whole next (Ok parts) → AreWritable parts.left.entries
    × AreWritable parts.right.entries
parts-writable whole next parts lawful most p =
    let fit = halves_fit whole.entries lawful most in
    let front : AreWritable (take (half whole.entries) whole.entries) =
    record { lawful = all-take IsFound (half whole.entries) whole.entries lawful; fits = fit.0 } in
    let back : AllByRecursion IsFound (p.0 ∷ p.1) =
    subst (AllByRecursion IsFound) p.2 (all-drop IsFound (half whole.entries) whole.entries lawful) in
    let room : HaveRoom (p.0 ∷ p.1) = subst HaveRoom p.2 fit.1 in (
      subst (λ (q : Parts). AreWritable q.left.entries) (sym p.3) front,
      subst (λ (q : Parts). AreWritable q.right.entries) (sym p.3) (behind whole.form back room),
    )
  where
    behind : (f : Form) → AllByRecursion IsFound (p.0 ∷ p.1) → HaveRoom (p.0 ∷ p.1) →
        AreWritable (second f whole.link p.0 p.1).entries
    behind form.Run all room = record { lawful = all; fits = room }
    behind form.Inner all room = record { lawful = all.1; fits = omega (arith, width-cons p.0 p.1, room) }
    behind form.Leaf all room = record { lawful = all; fits = room }

-- one page more among others
pub perm-one : (edits others rest : List Met) (met : Met) → IsPermutation (edits ++ others) rest →
    IsPermutation ((edits ++ met ∷ []) ++ others) (met ∷ rest)
perm-one edits others rest met p =
    IsPermutation-trans ((edits ++ met ∷ []) ++ others) (edits ++ met ∷ others) (met ∷ rest)
    (perm-eq _ _ (append_assoc edits (met ∷ []) others))
    (IsPermutation-trans (edits ++ met ∷ others) (met ∷ (edits ++ others)) (met ∷ rest)
    (IsPermutation-middle edits met others) (IsPermutation-cons met (edits ++ others) rest p))

pub perm-kept : (edits others rest : List Met) (met : Met) → IsPermutation (edits ++ others) rest →
    IsPermutation (edits ++ met ∷ others) (met ∷ rest)
perm-kept edits others rest met p =
    IsPermutation-trans (edits ++ met ∷ others) (met ∷ (edits ++ others)) (met ∷ rest)
    (IsPermutation-middle edits met others) (IsPermutation-cons met (edits ++ others) rest p)

-- two pages more, each before its own
pub perm-two : (edits others a b : List Met) (r l : Met) → IsPermutation (edits ++ others) (a ++ b) →
    IsPermutation ((edits ++ r ∷ l ∷ []) ++ others) ((l ∷ a) ++ (r ∷ b))
perm-two edits others a b r l p =
    let all : IsPermutation ((edits ++ r ∷ l ∷ []) ++ others) (r ∷ l ∷ (a ++ b)) =
    IsPermutation-trans ((edits ++ r ∷ l ∷ []) ++ others) (edits ++ r ∷ (l ∷ others)) (r ∷ l ∷ (a ++ b))
    (perm-eq _ _ (append_assoc edits (r ∷ l ∷ []) others))
    (perm-kept edits (l ∷ others) (l ∷ (a ++ b)) r (perm-kept edits others (a ++ b) l p)) in
    IsPermutation-trans ((edits ++ r ∷ l ∷ []) ++ others) (r ∷ ((l ∷ a) ++ b)) ((l ∷ a) ++ (r ∷ b)) all
    (IsPermutation-sym ((l ∷ a) ++ (r ∷ b)) (r ∷ ((l ∷ a) ++ b)) (IsPermutation-middle (l ∷ a) r b))
