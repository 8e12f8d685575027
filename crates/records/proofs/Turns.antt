-- Bodies that are read in turn, and where a list of them breaks.
use Rattle.std.proofs.Common.{◌≡◌, ◌⊎◌, inl, inr, ◌∙◌, ◌+◌, ◌-◌, ◌<◌, ◌≤◌, ◌++◌, ℕ, suc, List, [], ◌∷◌, length, take, drop, get_or, Vec, refl, sym, ap, subst, arith, drop-cons}
use Rattle.std.proofs.lemmas.List.{take-append-drop, append-nil, take_more, take_rest, get_or-map, length-map}
use Rattle.std.specs.declared.alloc.Global.{Global}
use Rattle.gate_log.specs.Bodies.{bodies_of, BreaksBehind}
use Rattle.records.specs.InTurn.{InTurn, reached}

module _ {P I : Type 0} (Is : P → List ℕ → I → Type 0) (after : P → I → P) where
  pub reached-push : (place : P) (items : List I) (item : I) → reached after place (items ++ item ∷ []) ≡ after (reached after place items) item
  reached-push place [] item = refl
  reached-push place (other ∷ items) item = reached-push (after place other) items item

  pub in_turn-push : (place : P) (bodies : List (List ℕ)) (items : List I) (body : List ℕ) (item : I) → InTurn Is after place bodies items → Is (reached after place items) body item → InTurn Is after place (bodies ++ body ∷ []) (items ++ item ∷ [])
  in_turn-push place [] [] body item all is = (is, tt)
  in_turn-push place [] (other ∷ items) body item all is = absurd all
  in_turn-push place (first ∷ bodies) [] body item all is = absurd all
  in_turn-push place (first ∷ bodies) (other ∷ items) body item all is = (all.0, in_turn-push (after place other) bodies items body item all.1 is)

  pub in_turn-front : (place : P) (bodies more : List (List ℕ)) (items : List I) → InTurn Is after place (bodies ++ more) items → (front : List I) × InTurn Is after place bodies front
  in_turn-front place [] more items all = ([], tt)
  in_turn-front place (body ∷ bodies) more [] all = absurd all
  in_turn-front place (body ∷ bodies) more (item ∷ items) all = let rest = in_turn-front (after place item) bodies more items all.1 in (item ∷ rest.0, (all.0, rest.1))

  pub in_turn-length : (place : P) (bodies : List (List ℕ)) (items : List I) → InTurn Is after place bodies items → length items ≡ length bodies
  in_turn-length place [] [] all = refl
  in_turn-length place [] (item ∷ items) all = absurd all
  in_turn-length place (body ∷ bodies) [] all = absurd all
  in_turn-length place (body ∷ bodies) (item ∷ items) all = ap suc (in_turn-length (after place item) bodies items all.1)

  module _ (one : (place : P) (body : List ℕ) (item other : I) → Is place body item → Is place body other → item ≡ other) where
    pub in_turn-one : (place : P) (bodies : List (List ℕ)) (items others : List I) → InTurn Is after place bodies items → InTurn Is after place bodies others → items ≡ others
    in_turn-one place [] [] [] all every = refl
    in_turn-one place [] [] (other ∷ others) all every = absurd every
    in_turn-one place [] (item ∷ items) others all every = absurd all
    in_turn-one place (body ∷ bodies) [] others all every = absurd all
    in_turn-one place (body ∷ bodies) (item ∷ items) [] all every = absurd every
    in_turn-one place (body ∷ bodies) (item ∷ items) (other ∷ others) all every =
        let same = one place body other item every.0 all.0 in
        let rest = in_turn-one (after place item) bodies items others all.1 (subst (λ (x : I). InTurn Is after (after place x) bodies others) same every.1) in
        ap (λ (x : I). x ∷ items) (sym same) ∙ ap (λ (xs : List I). other ∷ xs) rest

    -- no list goes on with a body that is of no item there
    pub stops : (place : P) (bodies : List (List ℕ)) (items : List I) (body : List ℕ) → InTurn Is after place bodies items → ((item : I) → Is (reached after place items) body item → ⊥)
        → (more : List (List ℕ)) (others : List I) → InTurn Is after place (bodies ++ body ∷ more) others → ⊥
    stops place [] [] body all none more [] every = every
    stops place [] [] body all none more (other ∷ others) every = none other every.0
    stops place [] (item ∷ items) body all none more others every = absurd all
    stops place (first ∷ bodies) [] body all none more others every = absurd all
    stops place (first ∷ bodies) (item ∷ items) body all none more [] every = every
    stops place (first ∷ bodies) (item ∷ items) body all none more (other ∷ others) every =
        stops (after place item) bodies items body all.1 none more others (subst (λ (x : I). InTurn Is after (after place x) (bodies ++ body ∷ more) others) (one place first other item every.0 all.0) every.1)

-- the first body of a list
first_same : (a b : List ℕ) (more others : List (List ℕ)) → a ∷ more ≡ b ∷ others → a ≡ b
first_same a b more others e = cc

no_first : (b : List ℕ) (bs : List (List ℕ)) → [] ≡ b ∷ bs → ⊥
no_first b bs e = absurd cc

some_first : (b : List ℕ) (bs : List (List ℕ)) → b ∷ bs ≡ [] → ⊥
some_first b bs e = absurd cc

-- of two fronts of one list one goes on where the other ends
fronts : (xs more ys others : List (List ℕ)) → xs ++ more ≡ ys ++ others → ((t : List (List ℕ)) × (ys ≡ xs ++ t) × (more ≡ t ++ others)) ⊎ ((t : List (List ℕ)) × (xs ≡ ys ++ t) × (others ≡ t ++ more))
fronts [] more ys others e = inl (ys, refl, e)
fronts (x ∷ xs) more [] others e = inr (x ∷ xs, refl, sym e)
fronts (x ∷ xs) more (y ∷ ys) others e =
    let head : x ≡ y = first_same x y (xs ++ more) (ys ++ others) e in
    let tail : xs ++ more ≡ ys ++ others = ap (λ (l : List (List ℕ)). drop 1 l) e in
    elim (fronts xs more ys others tail) [
      | inl g ↦ inl (g.0, ap (λ (b : List ℕ). b ∷ ys) (sym head) ∙ ap (λ (l : List (List ℕ)). x ∷ l) g.1, g.2)
      | inr g ↦ inr (g.0, ap (λ (b : List ℕ). b ∷ xs) head ∙ ap (λ (l : List (List ℕ)). y ∷ l) g.1, g.2)
    ]

-- A list that is read from its first body on.
module _ {P I X : Type 0} (First : List ℕ → P → Type 0) (Is : P → List ℕ → I → Type 0) (after : P → I → P) (StandsFor : List (List ℕ) → X → Type 0)
    (none : (x : X) → StandsFor [] x → ⊥)
    (parts : (body : List ℕ) (bodies : List (List ℕ)) (x : X) → StandsFor (body ∷ bodies) x → (place : P) × (items : List I) × First body place × InTurn Is after place bodies items)
    (whole : (body : List ℕ) (bodies : List (List ℕ)) (place : P) (items : List I) → First body place → InTurn Is after place bodies items → (x : X) × StandsFor (body ∷ bodies) x)
    (one_first : (body : List ℕ) (place other : P) → First body place → First body other → place ≡ other)
    (one : (place : P) (body : List ℕ) (item other : I) → Is place body item → Is place body other → item ≡ other) where
  pub breaks_empty : BreaksBehind StandsFor [] []
  breaks_empty = record { rest = []; split = refl; broken = none; sound = inl refl; at_once = λ body more e. absurd (no_first body more e) }

  pub breaks_first : (body : List ℕ) (bodies : List (List ℕ)) → ((place : P) → First body place → ⊥) → BreaksBehind StandsFor (body ∷ bodies) []
  breaks_first body bodies never = record {
    rest = body ∷ bodies;
    split = refl;
    broken = λ x is. never (parts body bodies x is).0 (parts body bodies x is).2;
    sound = inl refl;
    at_once = λ other more e x is. never (parts other [] x is).0 (subst (λ (b : List ℕ). First b (parts other [] x is).0) (sym (first_same body other bodies more e)) (parts other [] x is).2);
  }

  goes_no_further : (first : List ℕ) (place : P) (front : List (List ℕ)) (items : List I) (body : List ℕ) → First first place → InTurn Is after place front items → ((item : I) → Is (reached after place items) body item → ⊥)
      → (more : List (List ℕ)) (x : X) → StandsFor (first ∷ (front ++ body ∷ more)) x → ⊥
  goes_no_further first place front items body head all never more x is =
      let p = parts first (front ++ body ∷ more) x is in
      stops Is after one place front items body all never more p.1 (subst (λ (q : P). InTurn Is after q (front ++ body ∷ more) p.1) (one_first first p.0 place p.2 head) p.3)

  pub breaks_behind : (first : List ℕ) (bodies : List (List ℕ)) (place : P) (items : List I) (i : ℕ) → First first place → i < length bodies → InTurn Is after place (take i bodies) items
      → ((item : I) → Is (reached after place items) (get_or bodies i []) item → ⊥) → BreaksBehind StandsFor (first ∷ bodies) (first ∷ take i bodies)
  breaks_behind first bodies place items i head lt all never =
      let body : List ℕ = get_or bodies i [] in
      let more : List (List ℕ) = drop (suc i) bodies in
      let split : bodies ≡ take i bodies ++ body ∷ more = sym (take-append-drop i bodies) ∙ ap (λ (l : List (List ℕ)). take i bodies ++ l) (drop-cons bodies i [] lt) in
      record {
        rest = body ∷ more;
        split = ap (λ (l : List (List ℕ)). first ∷ l) split;
        broken = λ x is. goes_no_further first place (take i bodies) items body head all never more x (subst (λ (l : List (List ℕ)). StandsFor (first ∷ l) x) split is);
        sound = inr (whole first (take i bodies) place items head all);
        at_once = λ other others e x is.
            goes_no_further first place (take i bodies) items body head all never [] x
            (subst (λ (b : List ℕ). StandsFor (first ∷ (take i bodies ++ b ∷ [])) x) (sym (first_same body other more others e)) is);
      }

  front_stands : (body : List ℕ) (bodies more : List (List ℕ)) (x : X) → StandsFor (body ∷ (bodies ++ more)) x → (y : X) × StandsFor (body ∷ bodies) y
  front_stands body bodies more x is =
      let p = parts body (bodies ++ more) x is in
      let front = in_turn-front Is after p.0 bodies more p.1 p.3 in
      whole body bodies p.0 front.0 p.2 front.1

  -- a front that stands for something is no longer than one behind which the list breaks
  not_longer : (bodies front t : List (List ℕ)) (b : BreaksBehind StandsFor bodies front) (other : List (List ℕ)) → (rest : List (List ℕ)) → bodies ≡ (front ++ t) ++ rest → b.rest ≡ t ++ rest → (x : X) → StandsFor (front ++ t) x → t ≡ []
  not_longer bodies front [] b other rest split behind x is = refl
  not_longer bodies [] (body ∷ t) b other rest split behind x is =
      let y = front_stands body [] t x is in
      absurd (b.at_once body (t ++ rest) behind y.0 y.1)
  not_longer bodies (first ∷ front) (body ∷ t) b other rest split behind x is =
      let y = front_stands first (front ++ body ∷ []) t x (subst (λ (l : List (List ℕ)). StandsFor (first ∷ l) x) (regroup front body t) is) in
      absurd (b.at_once body (t ++ rest) behind y.0 y.1)
    where
      regroup : (xs : List (List ℕ)) (y : List ℕ) (zs : List (List ℕ)) → xs ++ y ∷ zs ≡ (xs ++ y ∷ []) ++ zs
      regroup [] y zs = refl
      regroup (x ∷ xs) y zs = ap (λ (l : List (List ℕ)). x ∷ l) (regroup xs y zs)

  shorter : (bodies front other t : List (List ℕ)) (b : BreaksBehind StandsFor bodies front) (c : BreaksBehind StandsFor bodies other) → other ≡ front ++ t → b.rest ≡ t ++ c.rest → other ≡ front
  shorter bodies front other t b c goes behind =
      let empty : t ≡ [] = elim c.sound [
        | inl none_at_all ↦ no_more front t (sym goes ∙ none_at_all)
        | inr stands ↦ not_longer bodies front t b other c.rest (c.split ∙ ap (λ (l : List (List ℕ)). l ++ c.rest) goes) behind stands.0 (subst (λ (l : List (List ℕ)). StandsFor l stands.0) goes stands.1)
      ] in
      goes ∙ ap (λ (l : List (List ℕ)). front ++ l) empty ∙ append-nil front
    where
      no_more : (xs ys : List (List ℕ)) → xs ++ ys ≡ [] → ys ≡ []
      no_more [] ys e = e
      no_more (x ∷ xs) ys e = absurd (some_first x (xs ++ ys) e)

  -- a list breaks behind one front
  pub one_front : (bodies front other : List (List ℕ)) → BreaksBehind StandsFor bodies front → BreaksBehind StandsFor bodies other → front ≡ other
  one_front bodies front other b c =
      elim (fronts front b.rest other c.rest (sym b.split ∙ c.split)) [
        | inl g ↦ sym (shorter bodies front other g.0 b c g.1 g.2)
        | inr g ↦ shorter bodies other front g.0 c b g.1 g.2
      ]

-- ---- bodies in vectors

pub body_at : (vecs : List (Vec ℕ Global)) (i : ℕ) (vec : Vec ℕ Global) → i < length vecs → vec ≡ get_or vecs i vec → get_or (bodies_of vecs) i [] ≡ vec.items
body_at vecs i vec lt is = get_or-map (λ (v : Vec ℕ Global). v.items) vecs i vec [] lt ∙ ap (λ (v : Vec ℕ Global). v.items) (sym is)

pub body_more : (vecs : List (Vec ℕ Global)) (i : ℕ) (vec : Vec ℕ Global) → i < length vecs → vec ≡ get_or vecs i vec → take (i + 1) (bodies_of vecs) ≡ take i (bodies_of vecs) ++ vec.items ∷ []
body_more vecs i vec lt is =
    let long : i < length (bodies_of vecs) = omega (arith, length-map vecs (λ (v : Vec ℕ Global). v.items)) in
    take_more (bodies_of vecs) i [] long ∙ ap (λ (b : List ℕ). take i (bodies_of vecs) ++ b ∷ []) (body_at vecs i vec lt is)

pub length-bodies : (vecs : List (Vec ℕ Global)) → length (bodies_of vecs) ≡ length vecs
length-bodies vecs = length-map vecs (λ (v : Vec ℕ Global). v.items)

-- a list of bodies is its first and the others
pub bodies_split : (vecs : List (Vec ℕ Global)) (vec : Vec ℕ Global) (body : List ℕ) → 1 ≤ length vecs → vec ≡ get_or vecs 0 vec → body ≡ vec.items → body ∷ bodies_of (take (length vecs - 1) (drop 1 vecs)) ≡ bodies_of vecs
bodies_split [] vec body some is e = absurd (omega arith)
bodies_split (first ∷ vecs) vec body some is e =
    ap (λ (b : List ℕ). b ∷ bodies_of (take (length (first ∷ vecs) - 1) vecs)) (e ∙ ap (λ (v : Vec ℕ Global). v.items) is)
    ∙ ap (λ (l : List (Vec ℕ Global)). first.items ∷ bodies_of l) (take_rest (first ∷ vecs) 1)
