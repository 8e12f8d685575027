-- Steps for each item of a list.
use Rattle.std.proofs.Common.{◌≡◌, ◌∙◌, ◌<◌, ◌+◌, ◌++◌, ◌⊎◌, ℕ, suc, List, [], ◌∷◌, length, get_or, take, drop, Option, Some, None, Result, Ok, Err, inl, inr, refl, sym, ap, subst}
use Rattle.std.specs.List.{cons_option, filter_map}
use Rattle.std.proofs.lemmas.List.{append-nil, take_more}
use Rattle.std.proofs.lemmas.List.Elements.{filter_map-append}
use Rattle.retro_base.specs.declared.refusal.Refusal.{Refusal}
use Rattle.values.specs.declared.value.Value.{Value}
use Rattle.sql_tree.specs.declared.statement.Column.{Column}
use Rattle.pager.specs.Draft.{Edits, drafted}
use Rattle.pager.specs.Pages.{Pages}
use Rattle.pager.specs.Allows.{◌>>=◌, only}
use Rattle.pager.proofs.Turns.{around}
use Rattle.relation.specs.Each.{each, each_in_turn}
use Rattle.relation.specs.Work.{all_added, created}

-- one item more
pub each-push : {A B : Type 0} (step : A → Result B Refusal → Type 0) (xs : List A) (ys : List B) (x : A) (y : B) → each step xs (Ok ys) → step x (Ok y) → each step (xs ++ x ∷ []) (Ok (ys ++ y ∷ []))
each-push step [] ys x y h s = (y, s, ([], refl, ap (λ l. Ok (l ++ y ∷ [])) (let same : [] ≡ ys = cc in same)))
each-push step (z ∷ xs) ys x y h s =
    let same : h.0 ∷ h.2.0 ≡ ys = cc (h.2.2) in
    (h.0, h.1, (h.2.0 ++ y ∷ [], each-push step xs h.2.0 x y h.2.1 s, ap (λ l. Ok (l ++ y ∷ [])) same))

-- an item of which nothing is made
pub each-stop : {A B : Type 0} (step : A → Result B Refusal → Type 0) (xs : List A) (ys : List B) (x : A) (behind : List A) (why : Refusal) → each step xs (Ok ys) → step x (Err why) → each step (xs ++ x ∷ behind) (Err why)
each-stop step [] ys x behind why h s = inl s
each-stop step (z ∷ xs) ys x behind why h s = inr (h.0, h.1, inl (each-stop step xs h.2.0 x behind why h.2.1 s))

-- one item more of a list that is read from its front
pub each-next : {A B : Type 0} (step : A → Result B Refusal → Type 0) (xs : List A) (i : ℕ) (x : A) (ys : List B) (y : B) → i < length xs → x ≡ get_or xs i x → each step (take i xs) (Ok ys) → step x (Ok y) → each step (take (i + 1) xs) (Ok (ys ++ y ∷ []))
each-next step xs i x ys y lt is h s =
    rw (take_more xs i x lt, ← is) (each-push step (take i xs) ys x y h s)

pub each-ended : {A B : Type 0} (step : A → Result B Refusal → Type 0) (xs : List A) (i : ℕ) (x : A) (ys : List B) (why : Refusal) → i < length xs → x ≡ get_or xs i x → each step (take i xs) (Ok ys) → step x (Err why) → each step xs (Err why)
each-ended step xs i x ys why lt is h s =
    subst (λ l. each step l (Err why)) (ap (λ y. take i xs ++ y ∷ drop (suc i) xs) is ∙ around xs i x lt) (each-stop step (take i xs) ys x (drop (suc i) xs) why h s)

-- one answer alone is allowed
abbrev pub left : {A : Type 0} → A → Result A Refusal → A
left other (Ok x) = x
left other (Err why) = other

pub ok_is : {A : Type 0} (x y : A) → only (Ok x) (Ok y) → x ≡ y
ok_is x y h = ap (left x) h

pub firsts : {A B : Type 0} (x y : A × B) → only (Ok x) (Ok y) → x.0 ≡ y.0
firsts {A} {B} x y h = ap (λ (p : A × B). p.0) (ok_is x y h)

pub seconds : {A B : Type 0} (x y : A × B) → only (Ok x) (Ok y) → x.1 ≡ y.1
seconds {A} {B} x y h = ap (λ (p : A × B). p.1) (ok_is x y h)

-- one edit more whose answer is kept, and one that is refused
pub each_in_turn-push : {A B : Type 0} (step : A → Pages → Result (B × Pages) Refusal → Type 0) (xs : List A) (x : A) (ys : List B) (y : B) (p q r : Pages) → each_in_turn step xs p (Ok (ys, q)) → step x q (Ok (y, r)) → each_in_turn step (xs ++ x ∷ []) p (Ok (ys ++ y ∷ [], r))
each_in_turn-push step [] x ys y p q r h s =
    let none : [] ≡ ys = firsts ([], p) (ys, q) h in
    let same : q ≡ p = sym (seconds ([], p) (ys, q) h) in
    ((y, r), subst (λ (at : Pages). step x at (Ok (y, r))) same s, (([], r), refl, ap (λ l. Ok (l ++ y ∷ [], r)) none))
each_in_turn-push step (z ∷ xs) x ys y p q r h s =
    let split : h.0.0 ∷ h.2.0.0 ≡ ys = firsts (h.0.0 ∷ h.2.0.0, h.2.0.1) (ys, q) h.2.2 in
    let same : q ≡ h.2.0.1 = sym (seconds (h.0.0 ∷ h.2.0.0, h.2.0.1) (ys, q) h.2.2) in
    (h.0, h.1, ((h.2.0.0 ++ y ∷ [], r), each_in_turn-push step xs x h.2.0.0 y h.0.1 h.2.0.1 r h.2.1 (subst (λ (at : Pages). step x at (Ok (y, r))) same s), ap (λ l. Ok (l ++ y ∷ [], r)) split))

pub each_in_turn-stop : {A B : Type 0} (step : A → Pages → Result (B × Pages) Refusal → Type 0) (xs : List A) (x : A) (behind : List A) (ys : List B) (p q : Pages) (why : Refusal) → each_in_turn step xs p (Ok (ys, q)) → step x q (Err why) → each_in_turn step (xs ++ x ∷ behind) p (Err why)
each_in_turn-stop step [] x behind ys p q why h s =
    let same : q ≡ p = sym (seconds ([], p) (ys, q) h) in
    inl (subst (λ (at : Pages). step x at (Err why)) same s)
each_in_turn-stop step (z ∷ xs) x behind ys p q why h s =
    let same : q ≡ h.2.0.1 = sym (seconds (h.0.0 ∷ h.2.0.0, h.2.0.1) (ys, q) h.2.2) in
    inr (h.0, h.1, inl (each_in_turn-stop step xs x behind h.2.0.0 h.0.1 h.2.0.1 why h.2.1 (subst (λ (at : Pages). step x at (Err why)) same s)))

pub each_in_turn-next : {A B : Type 0} (step : A → Pages → Result (B × Pages) Refusal → Type 0) (xs : List A) (i : ℕ) (x : A) (ys : List B) (y : B) (p q r : Pages) → i < length xs → x ≡ get_or xs i x → each_in_turn step (take i xs) p (Ok (ys, q)) → step x q (Ok (y, r)) → each_in_turn step (take (i + 1) xs) p (Ok (ys ++ y ∷ [], r))
each_in_turn-next step xs i x ys y p q r lt is h s =
    rw (take_more xs i x lt, ← is) (each_in_turn-push step (take i xs) x ys y p q r h s)

pub each_in_turn-ended : {A B : Type 0} (step : A → Pages → Result (B × Pages) Refusal → Type 0) (xs : List A) (i : ℕ) (x : A) (ys : List B) (p q : Pages) (why : Refusal) → i < length xs → x ≡ get_or xs i x → each_in_turn step (take i xs) p (Ok (ys, q)) → step x q (Err why) → each_in_turn step xs p (Err why)
each_in_turn-ended step xs i x ys p q why lt is h s =
    subst (λ l. each_in_turn step l p (Err why)) (ap (λ y. take i xs ++ y ∷ drop (suc i) xs) is ∙ around xs i x lt) (each_in_turn-stop step (take i xs) x (drop (suc i) xs) ys p q why h s)

-- a refusal that is handed on
pub handed_on : {M P Q B : Type 0} → (P → Q) → M ⊎ (P × B) → M ⊎ (Q × B)
handed_on go (inl memory) = inl memory
handed_on go (inr told) = inr (go told.0, told.1)

-- what is made of one item more
pub filter_map-next : {A B : Type 0} (h : A → Option B) (xs : List A) (i : ℕ) (x : A) → i < length xs → x ≡ get_or xs i x → filter_map h (take (i + 1) xs) ≡ filter_map h (take i xs) ++ cons_option (h x) []
filter_map-next h xs i x lt is = rw (take_more xs i x lt, ← is) (filter_map-append h (take i xs) (x ∷ []))

pub filter_map-some : {A B : Type 0} (h : A → Option B) (xs : List A) (i : ℕ) (x : A) (b : B) → i < length xs → x ≡ get_or xs i x → h x ≡ Some b → filter_map h (take (i + 1) xs) ≡ filter_map h (take i xs) ++ b ∷ []
filter_map-some h xs i x b lt is made = rw (filter_map-next h xs i x lt is, made) refl

pub filter_map-none : {A B : Type 0} (h : A → Option B) (xs : List A) (i : ℕ) (x : A) → i < length xs → x ≡ get_or xs i x → h x ≡ None → filter_map h (take (i + 1) xs) ≡ filter_map h (take i xs)
filter_map-none h xs i x lt is made = rw (filter_map-next h xs i x lt is, made, append-nil) refl

-- a step for an item, where something is made of it, and where nothing is
pub some-next : {A B C : Type 0} (h : A → Option B) (step : B → Result C Refusal → Type 0) (xs : List A) (i : ℕ) (x : A) (b : B) (ys : List C) (y : C) → i < length xs → x ≡ get_or xs i x → h x ≡ Some b → each step (filter_map h (take i xs)) (Ok ys) → step b (Ok y) → each step (filter_map h (take (i + 1) xs)) (Ok (ys ++ y ∷ []))
some-next h step xs i x b ys y lt is made so_far s =
    rw (filter_map-next h xs i x lt is, made) (each-push step (filter_map h (take i xs)) ys b y so_far s)

pub none-next : {A B C : Type 0} (h : A → Option B) (step : B → Result C Refusal → Type 0) (xs : List A) (i : ℕ) (x : A) (ys : List C) → i < length xs → x ≡ get_or xs i x → h x ≡ None → each step (filter_map h (take i xs)) (Ok ys) → each step (filter_map h (take (i + 1) xs)) (Ok ys)
none-next h step xs i x ys lt is made so_far =
    rw (filter_map-next h xs i x lt is, made, append-nil) so_far

pub some-ended : {A B C : Type 0} (h : A → Option B) (step : B → Result C Refusal → Type 0) (xs : List A) (i : ℕ) (x : A) (b : B) (ys : List C) (why : Refusal) → i < length xs → x ≡ get_or xs i x → h x ≡ Some b → each step (filter_map h (take i xs)) (Ok ys) → step b (Err why) → each step (filter_map h xs) (Err why)
some-ended h step xs i x b ys why lt is made so_far s =
    let split : filter_map h xs ≡ filter_map h (take i xs) ++ b ∷ filter_map h (drop (suc i) xs) =
    ap (filter_map h) (sym (around xs i x lt)) ∙ filter_map-append h (take i xs) (get_or xs i x ∷ drop (suc i) xs) ∙ ap (λ l. filter_map h (take i xs) ++ l) (rw (← is, made) refl) in
    rw split (each-stop step (filter_map h (take i xs)) ys b (filter_map h (drop (suc i) xs)) why so_far s)

pub handed_to : {M P Q B : Type 0} → (P → Q) → M ⊎ (P × B) → M ⊎ Q
handed_to go (inl memory) = inl memory
handed_to go (inr told) = inr (go told.0)

-- an answer of the second of two steps
pub next_step : {A B : Type 0} (step : Result A Refusal → Type 0) (next : A → Result B Refusal → Type 0) (x : A) → step (Ok x) → (a : Result B Refusal) → next x a → (step >>= next) a
next_step step next x s (Ok y) h = (x, s, h)
next_step step next x s (Err why) h = inr (x, s, h)

-- the same rows in the same store
pub added_at : (size width first : ℕ) (rows others : List (List Value)) (pages : Pages) (a : Result (Unit {0} × Pages) Refusal) → width ≡ size → others ≡ rows → all_added width first others pages a → all_added size first rows pages a
added_at size width first rows others pages a e f h =
    subst (λ (s : ℕ). all_added s first rows pages a) e (subst (λ (r : List (List Value)). all_added width first r pages a) f h)

-- a table that is made under no edits
pub created_on : (draft : Edits) (size width : ℕ) (shown : Pages) (name : List ℕ) (columns : List Column) (a : Result (Unit {0} × Pages) Refusal) → draft ≡ record { size = width; list = [] } → width ≡ size → created draft.size (drafted shown draft.list) name columns a → created size shown name columns a
created_on draft size width shown name columns a e f h =
    subst (λ (s : ℕ). created s shown name columns a) f (subst (λ (d : Edits). created d.size (drafted shown d.list) name columns a) e h)
