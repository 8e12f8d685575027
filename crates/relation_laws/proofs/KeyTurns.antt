-- Lists in which what stands under one number gives way to something else.
use Rattle.std.proofs.Common.{◌≡◌, ◌≢◌, ◌∙◌, ◌++◌, ◌⊎◌, not, cond, ℕ, Bool, true, false, List, [], ◌∷◌, Option, Some, None, inl, inr, refl, sym, ap, subst, arith, eq-eqb}
use Rattle.std.specs.List.{Contains, cons_option, filter, filter_map}
use Rattle.std.specs.Option.{option_map}
use Rattle.std.specs.Prelude.{slice_get}
use Rattle.std.specs.Ordering.{is_gt, is_lt, nat_cmp}
use Rattle.std.specs.declared.cmp.Ordering.{Ordering}
use Rattle.std.specs.declared.cmp.Ordering.TheVariants.{Less, Equal, Greater}
use Rattle.std.proofs.lemmas.Bool.Decides.{eqb_tells}
use Rattle.std.proofs.lemmas.Cmp.{ranked, tied_itself}
use Rattle.std.proofs.lemmas.List.Elements.{Contains-append_right}
use Rattle.values.specs.Value.{value_cmp}
use Rattle.values.specs.declared.value.Value.{Value}
use Rattle.pager.proofs.Orders.{found_total}
use Rattle.pager.specs.Index.{found_cmp, same_found, with_found, without_found}
use Rattle.pager.specs.declared.index.Found.{Found}
use Rattle.heap_file.specs.declared.chain.Placed.{Placed}
use Rattle.relation.specs.Entries.{entries_of, entry_of}
use Rattle.relation_laws.specs.Tables.{AreEntriesOf}
use Rattle.relation_laws.proofs.Lists.{contains-cases, contains-cons, contains-head, contains-left}

-- what there is is one thing
pub some-is : {A : Type 0} {x y : A} → Some x ≡ Some y → x ≡ y
some-is e = cc

-- an item of two lists stands in one of them
pub contains-split : {A : Type 0} (xs ys : List A) (x : A) → Contains (xs ++ ys) x → Contains xs x ⊎ Contains ys x
contains-split [] ys x has = inr has
contains-split (y ∷ xs) ys x has =
    contains-cases y x (xs ++ ys) has
    (λ here. inl (subst (Contains (y ∷ xs)) here (contains-head y xs)))
    (λ there. elim (contains-split xs ys x there) [
      | inl left ↦ inl (contains-cons x y xs left)
      | inr right ↦ inr right
    ])

-- what a filter keeps
pub filter-keeps : {A : Type 0} (test : A → Bool) (xs : List A) (x : A) → Contains xs x → test x ≡ true → Contains (filter test xs) x
filter-keeps test [] x has is = absurd (omega (arith, has.1))
filter-keeps test (y ∷ xs) x has is = go (filter-keeps test xs x) (test y) refl
  where
    go : (Contains xs x → test x ≡ true → Contains (filter test xs) x) → (b : Bool) → test y ≡ b → Contains (cond b (y ∷ filter test xs) (filter test xs)) x
    go rest true e = contains-cases y x xs has (λ here. subst (Contains (y ∷ filter test xs)) here (contains-head y (filter test xs))) (λ there. contains-cons x y (filter test xs) (rest there is))
    go rest false e = contains-cases y x xs has (λ here. absurd (clash (sym e ∙ ap test here ∙ is))) (λ there. rest there is)
      where
        clash : false ≡ true → ⊥
        clash c = cc

pub filter-of : {A : Type 0} (test : A → Bool) (xs : List A) (x : A) → Contains (filter test xs) x → Contains xs x × (test x ≡ true)
filter-of test [] x has = absurd (omega (arith, has.1))
filter-of test (y ∷ xs) x has = go (filter-of test xs x) (test y) refl has
  where
    go : (Contains (filter test xs) x → Contains xs x × (test x ≡ true)) → (b : Bool) → test y ≡ b → Contains (cond b (y ∷ filter test xs) (filter test xs)) x → Contains (y ∷ xs) x × (test x ≡ true)
    go rest true e h =
        contains-cases y x (filter test xs) h
        (λ here. (subst (Contains (y ∷ xs)) here (contains-head y xs), ap test (sym here) ∙ e))
        (λ there. let more = rest there in (contains-cons x y xs more.0, more.1))
    go rest false e h = let more = rest h in (contains-cons x y xs more.0, more.1)

-- what is made of the items of which something is
pub made-of : {A B : Type 0} (make : A → Option B) (xs : List A) (y : B) → Contains (filter_map make xs) y → (x : A) × Contains xs x × (make x ≡ Some y)
made-of make [] y has = absurd (omega (arith, has.1))
made-of {B = B} make (x ∷ xs) y has = go (made-of make xs y) (make x) refl has
  where
    go : (Contains (filter_map make xs) y → (z : _) × Contains xs z × (make z ≡ Some y)) → (o : Option B) → make x ≡ o → Contains (cons_option o (filter_map make xs)) y → (z : _) × Contains (x ∷ xs) z × (make z ≡ Some y)
    go rest None e h = let more = rest h in (more.0, contains-cons more.0 x xs more.1, more.2)
    go rest (Some z) e h =
        contains-cases z y (filter_map make xs) h
        (λ here. (x, contains-head x xs, e ∙ ap (λ w. Some w) here))
        (λ there. let more = rest there in (more.0, contains-cons more.0 x xs more.1, more.2))

pub of-made : {A B : Type 0} (make : A → Option B) (xs : List A) (x : A) (y : B) → Contains xs x → make x ≡ Some y → Contains (filter_map make xs) y
of-made make [] x y has is = absurd (omega (arith, has.1))
of-made {B = B} make (z ∷ xs) x y has is = go (of-made make xs x y) (make z) refl
  where
    go : (Contains xs x → make x ≡ Some y → Contains (filter_map make xs) y) → (o : Option B) → make z ≡ o → Contains (cons_option o (filter_map make xs)) y
    go rest None e = contains-cases z x xs has (λ here. absurd (clash (sym e ∙ ap make here ∙ is))) (λ there. rest there is)
      where
        clash : None ≡ Some y → ⊥
        clash c = cc
    go rest (Some w) e =
        contains-cases z x xs has
        (λ here. let same : w ≡ y = some-is (sym e ∙ ap make here ∙ is) in subst (Contains (w ∷ filter_map make xs)) same (contains-head w (filter_map make xs)))
        (λ there. contains-cons y w (filter_map make xs) (rest there is))

-- what stands under a number in a list
pub record IsOwn {X : Type 0} (key : X → ℕ) (number : ℕ) (xs : List X) (own : Option X) : Type 0 where
  pub told : (x : X) → Contains xs x → key x ≡ number → own ≡ Some x
  pub listed : (x : X) → own ≡ Some x → (key x ≡ number) × Contains xs x

-- a list in which this stands under the number, and all else is as before
pub record KeyTurn {X : Type 0} (key : X → ℕ) (number : ℕ) (before after : List X) (own : Option X) : Type 0 where
  pub stays : (x : X) → key x ≢ number → Contains before x → Contains after x
  pub stood : (x : X) → key x ≢ number → Contains after x → Contains before x
  pub is_own : IsOwn key number after own

pub turn-none : {X : Type 0} (key : X → ℕ) (number : ℕ) (xs : List X) (own : Option X) → IsOwn key number xs own → KeyTurn key number xs xs own
turn-none key number xs own is = record { stays = λ x apart has. has; stood = λ x apart has. has; is_own = is }

pub turn-then : {X : Type 0} (key : X → ℕ) (number : ℕ) (xs ys zs : List X) (one two : Option X) → KeyTurn key number xs ys one → KeyTurn key number ys zs two → KeyTurn key number xs zs two
turn-then key number xs ys zs one two first second = record {
  stays = λ x apart has. second.stays x apart (first.stays x apart has);
  stood = λ x apart has. first.stood x apart (second.stood x apart has);
  is_own = second.is_own;
}

-- the number of a row, and that of an entry
abbrev pub row_number : Placed → ℕ
row_number placed = placed.number

abbrev pub entry_number : Found → ℕ
entry_number found = found.number

-- entries of different numbers are told apart
pub cmp-apart : (x e : Found) → x.number ≢ e.number → (found_cmp x e ≡ Less) ⊎ (found_cmp x e ≡ Greater)
cmp-apart x e apart = go (value_cmp x.value e.value) refl
  where
    numbers : (o : Ordering) → nat_cmp x.number e.number ≡ o → (o ≡ Less) ⊎ (o ≡ Greater)
    numbers Less is = inl refl
    numbers Equal is = absurd (apart (ranked x.number e.number Equal (sym is)))
    numbers Greater is = inr refl

    go : (o : Ordering) → value_cmp x.value e.value ≡ o → (found_cmp x e ≡ Less) ⊎ (found_cmp x e ≡ Greater)
    go Less is = inl (rw is refl)
    go Equal is = elim (numbers (nat_cmp x.number e.number) refl) [
      | inl less ↦ inl (rw (is, less) refl)
      | inr more ↦ inr (rw (is, more) refl)
    ]
    go Greater is = inr (rw is refl)

-- an entry is added: it stands under its number, where none stood or one of its value
pub put-turn : (entries : List Found) (e : Found) → ((x : Found) → Contains entries x → x.number ≡ e.number → found_cmp x e ≡ Equal) → KeyTurn entry_number e.number entries (with_found e entries) (Some e)
put-turn entries e tied = record {
  stays = λ x apart has. elim (cmp-apart x e apart) [
    | inl less ↦ contains-left below (e ∷ above) x (filter-keeps is_below entries x has (ap is_lt less))
    | inr more ↦ Contains-append_right below (e ∷ above) x (contains-cons x e above (filter-keeps is_above entries x has (ap is_gt more)))
  ];
  stood = λ x apart has. elim (contains-split below (e ∷ above) x has) [
    | inl left ↦ (filter-of is_below entries x left).0
    | inr right ↦ contains-cases e x above right (λ here. absurd (apart (ap entry_number (sym here)))) (λ there. (filter-of is_above entries x there).0)
  ];
  is_own = record {
    told = λ x has same. elim (contains-split below (e ∷ above) x has) [
      | inl left ↦
          let it = filter-of is_below entries x left in
          absurd (clash (sym (ap is_lt (tied x it.0 same)) ∙ it.1))
      | inr right ↦ contains-cases e x above right (λ here. ap (λ y. Some y) here) (λ there.
          let it = filter-of is_above entries x there in
          absurd (clash (sym (ap is_gt (tied x it.0 same)) ∙ it.1)))
    ];
    listed = λ x is.
        let same : e ≡ x = some-is is in
        (ap entry_number (sym same), subst (Contains (with_found e entries)) same (Contains-append_right below (e ∷ above) e (contains-head e above)));
  };
}
  where
    is_below : Found → Bool
    is_below found = is_lt (found_cmp found e)

    is_above : Found → Bool
    is_above found = is_gt (found_cmp found e)

    below : List Found
    below = filter is_below entries

    above : List Found
    above = filter is_above entries

    clash : false ≡ true → ⊥
    clash c = cc

-- an entry is taken out, which alone stands under its number
pub take-turn : (entries : List Found) (w : Found) → ((x : Found) → Contains entries x → x.number ≡ w.number → x ≡ w) → KeyTurn entry_number w.number entries (without_found w entries) None
take-turn entries w alone = record {
  stays = λ x apart has. filter-keeps (λ (found : Found). not (same_found found w)) entries x has (elim (cmp-apart x w apart) [
    | inl less ↦ rw less refl
    | inr more ↦ rw more refl
  ]);
  stood = λ x apart has. (filter-of (λ (found : Found). not (same_found found w)) entries x has).0;
  is_own = record {
    told = λ x has same.
        let it = filter-of (λ (found : Found). not (same_found found w)) entries x has in
        absurd (clash (sym (ap (λ (y : Found). not (same_found y w)) (alone x it.0 same) ∙ itself) ∙ it.1));
    listed = λ x is. absurd (none x is);
  };
}
  where
    itself : not (same_found w w) ≡ false
    itself = rw (tied_itself found_total w, eq-eqb w.page w.page refl) refl

    clash : false ≡ true → ⊥
    clash c = cc

    none : (x : Found) → None ≡ Some x → ⊥
    none x c = cc

-- an entry has its row's number
pub entry-named : (place : ℕ) (placed : Placed) (entry : Found) → entry_of place placed ≡ Some entry → entry.number ≡ placed.number
entry-named place placed entry is = go (slice_get placed.row place) is
  where
    go : (o : Option Value) → option_map (λ (value : Value). record { value = value; number = placed.number; page = placed.page }) o ≡ Some entry → entry.number ≡ placed.number
    go None h = absurd cc
    go (Some value) h = ap entry_number (sym (some-is h))

-- the entry of a row, if it stands
abbrev pub entry_at : ℕ → Option Placed → Option Found
entry_at place None = None
entry_at place (Some placed) = entry_of place placed

-- what stands under a number among entries is the entry of what stands there among the rows
pub own-entry : (place number : ℕ) (rows : List Placed) (entries : List Found) (own : Option Placed) → AreEntriesOf place rows entries → IsOwn row_number number rows own → IsOwn entry_number number entries (entry_at place own)
own-entry place number rows entries own are is = record {
  told = λ x has same.
      let row = made-of (entry_of place) rows x (are.told x has) in
      ap (entry_at place) (is.told row.0 row.1 (sym (entry-named place row.0 x row.2) ∙ same)) ∙ row.2;
  listed = λ x here. go own refl x here;
}
  where
    go : (o : Option Placed) → own ≡ o → (x : Found) → entry_at place o ≡ Some x → (x.number ≡ number) × Contains entries x
    go None e x h = absurd cc
    go (Some placed) e x h =
        let row = is.listed placed e in
        (entry-named place placed x h ∙ row.0, are.listed x (of-made (entry_of place) rows placed x row.1 h))

-- entries follow their rows
pub entries-turn : (place number : ℕ) (rows after : List Placed) (entries behind : List Found) (own : Option Placed) → AreEntriesOf place rows entries → KeyTurn row_number number rows after own → KeyTurn entry_number number entries behind (entry_at place own) → AreEntriesOf place after behind
entries-turn place number rows after entries behind own are turn follows = record {
  told = λ x has. elim (eqb_tells x.number number) [
    | inr apart ↦
        let row = made-of (entry_of place) rows x (are.told x (follows.stood x apart.1 has)) in
        of-made (entry_of place) after row.0 x (turn.stays row.0 (λ e. apart.1 (entry-named place row.0 x row.2 ∙ e)) row.1) row.2
    | inl same ↦ own-told own refl x (follows.is_own.told x has same.1)
  ];
  listed = λ x has.
      let row = made-of (entry_of place) after x has in
      elim (eqb_tells x.number number) [
        | inr apart ↦ follows.stays x apart.1 (are.listed x (of-made (entry_of place) rows row.0 x (turn.stood row.0 (λ e. apart.1 (entry-named place row.0 x row.2 ∙ e)) row.1) row.2))
        | inl same ↦ (follows.is_own.listed x (ap (entry_at place) (turn.is_own.told row.0 row.1 (sym (entry-named place row.0 x row.2) ∙ same.1)) ∙ row.2)).1
      ];
}
  where
    own-told : (o : Option Placed) → own ≡ o → (x : Found) → entry_at place o ≡ Some x → Contains (entries_of place after) x
    own-told None e x h = absurd cc
    own-told (Some placed) e x h = of-made (entry_of place) after placed x (turn.is_own.listed placed e).1 h
