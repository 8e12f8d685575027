-- The lines of a session whose items are run one after the other.
use Rattle.std.proofs.Common.{◌≡◌, ◌⊎◌, ◌<◌, ◌≤◌, ◌+◌, ◌*◌, ◌++◌, ◌==◌, ◌&&◌, ltb, ℕ, Bool, true, false, cond, List, [], ◌∷◌, length, Option, Some, refl, ap, sym, subst, ◌∙◌, inl, inr, append-nil, lit<, arith}
use Rattle.std.specs.List.{AllByRecursion}
use Rattle.std.proofs.lemmas.Bool.Decides.{nat_tests}
use Rattle.std.proofs.lemmas.List.Elements.{filter-append}
use Rattle.retro_base.specs.declared.limits.TheConstants.{ATTEMPTS}
use Rattle.retro_base.specs.declared.who.Who.{Who}
use Rattle.history.specs.Lines.{lines_of}
use Rattle.history.specs.Sound.{same_item}
use Rattle.history.specs.declared.journal.Line.{Line}
use Rattle.history.specs.declared.journal.What.{What}
use Rattle.history.specs.declared.journal.What.TheVariants.{Began, Overlapped}
use Rattle.journal_law.specs.Language.{Kind, Language}
use Rattle.journal_law.specs.Language as law
use Rattle.journal_law.specs.Lawful.{HasRuns, IsCut, IsRun, ItemsRise}
use Rattle.journal_law.specs.Own.{own}
use Rattle.journal_law.proofs.Journal.{own_append}
use Rattle.session.specs.OneItem.{OfItem}
use Rattle.session.specs.Replies.{is_cut, is_overlap, last}
use Rattle.session.specs.SoFar.{IsEarlier}

pub all_append : {X : Type 0} (P : X → Type 0) (xs ys : List X) → AllByRecursion P xs → AllByRecursion P ys → AllByRecursion P (xs ++ ys)
all_append P [] ys a b = b
all_append P (x ∷ xs) ys a b = (a.0, all_append P xs ys a.1 b)

pub all_map : {X : Type 0} (P Q : X → Type 0) (xs : List X) → ((x : X) → P x → Q x) → AllByRecursion P xs → AllByRecursion Q xs
all_map P Q [] leads a = tt
all_map P Q (x ∷ xs) leads a = (leads x a.0, all_map P Q xs leads a.1)

-- ---- whose a line is

pub same_is : (a b : Who) → same_item a b ≡ true → a ≡ b
same_is a b = by_tests (a.phase == b.phase) (a.session == b.session) (a.item == b.item) refl refl refl
  where
    by_tests : (p s i : Bool) → (a.phase == b.phase) ≡ p → (a.session == b.session) ≡ s → (a.item == b.item) ≡ i → (p && s && i) ≡ true → a ≡ b
    by_tests true true true e f g h =
        let phase : a.phase ≡ b.phase = grind (arith, nat_tests) in
        let session : a.session ≡ b.session = grind (arith, nat_tests) in
        let item : a.item ≡ b.item = grind (arith, nat_tests) in
        let whole : record { phase = a.phase; session = a.session; item = a.item } ≡ record { phase = b.phase; session = b.session; item = b.item } = cc in
        whole
    by_tests false s i e f g h = cc
    by_tests true false i e f g h = cc
    by_tests true true false e f g h = cc

-- lines of one item say nothing of another one of its session
pub own_apart : (who other : Who) (lines : List Line) → other.session ≡ who.session → (other ≡ who → ⊥) → AllByRecursion (OfItem who) lines → own other lines ≡ []
own_apart who other [] mine apart of = refl
own_apart who other (l ∷ lines) mine apart of = rw (by_test (same_item l.who other) refl) (own_apart who other lines mine apart of.1)
  where
    by_test : (same : Bool) → same_item l.who other ≡ same → same_item l.who other ≡ false
    by_test false e = e
    by_test true e =
        let is = same_is l.who other e in
        absurd (apart (sym is ∙ of.0 (ap (λ (w : Who). w.session) is ∙ mine)))

-- lines of earlier items say nothing of one that is not earlier
pub none_yet : (phase session number : ℕ) (who : Who) (lines : List Line) → who.phase ≡ phase → who.session ≡ session → number ≤ who.item → AllByRecursion (IsEarlier phase session number) lines → own who lines ≡ []
none_yet phase session number who [] here mine later all = refl
none_yet phase session number who (l ∷ lines) here mine later all = rw (by_test (same_item l.who who) refl) (none_yet phase session number who lines here mine later all.1)
  where
    apart : l.who ≡ who → (l.who.phase < phase) ⊎ ((l.who.phase ≡ phase) × (l.who.item < number)) → ⊥
    apart is (inl less) =
        let same : l.who.phase ≡ phase = ap (λ (w : Who). w.phase) is ∙ here in
        omega arith
    apart is (inr (_, less)) =
        let same : l.who.item ≡ who.item = ap (λ (w : Who). w.item) is in
        omega arith

    by_test : (same : Bool) → same_item l.who who ≡ same → same_item l.who who ≡ false
    by_test false e = e
    by_test true e =
        let is = same_is l.who who e in
        absurd (apart is (all.0 (ap (λ (w : Who). w.session) is ∙ mine)))

-- ---- items rise

-- of a session's lines, what holds of them
filtered : (P : Line → Type 0) (session : ℕ) (lines : List Line) → AllByRecursion (λ (l : Line). l.who.session ≡ session → P l) lines → AllByRecursion P (lines_of session lines)
filtered P session [] all = tt
filtered P session (l ∷ lines) all = by_test (l.who.session == session) refl (filtered P session lines all.1)
  where
    by_test : (mine : Bool) → (l.who.session == session) ≡ mine → AllByRecursion P (lines_of session lines) → AllByRecursion P (cond mine (l ∷ lines_of session lines) (lines_of session lines))
    by_test false e rest = rest
    by_test true e rest = (all.0 (grind (arith, nat_tests)), rest)

-- where two lines are of one phase, the later one's item is no earlier
abbrev Rises : Line → Line → Type 0
Rises line later = line.who.phase ≡ later.who.phase → line.who.item ≤ later.who.item

abbrev IsOf : Who → Line → Type 0
IsOf who line = line.who ≡ who

abbrev Before : Who → Line → Type 0
Before who line = (line.who.phase < who.phase) ⊎ ((line.who.phase ≡ who.phase) × (line.who.item < who.item))

rises_to : (who : Who) (line : Line) → (line.who.phase ≡ who.phase → line.who.item ≤ who.item) → (lines : List Line) → AllByRecursion (IsOf who) lines → AllByRecursion (Rises line) lines
rises_to who line less [] of = tt
rises_to who line less (l ∷ lines) of = (subst (λ (w : Who). line.who.phase ≡ w.phase → line.who.item ≤ w.item) (sym of.0) less, rises_to who line less lines of.1)

one_rises : (who : Who) (lines : List Line) → AllByRecursion (IsOf who) lines → ItemsRise lines
one_rises who [] of = tt
one_rises who (l ∷ lines) of =
    let same : l.who.item ≡ who.item = ap (λ (w : Who). w.item) of.0 in
    (rises_to who l (λ _. omega arith) lines of.1, one_rises who lines of.1)

rises_append : (xs ys : List Line) → ItemsRise xs → ItemsRise ys → AllByRecursion (λ (x : Line). AllByRecursion (Rises x) ys) xs → ItemsRise (xs ++ ys)
rises_append [] ys rx ry all = ry
rises_append (x ∷ xs) ys rx ry all = (all_append (Rises x) xs ys rx.0 all.0, rises_append xs ys rx.1 ry all.1)

pub order_on : (who : Who) (front more : List Line) → ItemsRise (lines_of who.session front) → AllByRecursion (IsEarlier who.phase who.session who.item) front → AllByRecursion (OfItem who) more
    → ItemsRise (lines_of who.session (front ++ more))
order_on who front more rise earlier of =
    let mine : AllByRecursion (IsOf who) (lines_of who.session more) = filtered (IsOf who) who.session more of in
    let before : AllByRecursion (Before who) (lines_of who.session front) = filtered (Before who) who.session front earlier in
    let apart : AllByRecursion (λ (x : Line). AllByRecursion (Rises x) (lines_of who.session more)) (lines_of who.session front) =
    all_map (Before who) (λ (x : Line). AllByRecursion (Rises x) (lines_of who.session more)) (lines_of who.session front) (λ x is. rises_to who x (less x is) (lines_of who.session more) mine) before in
    subst ItemsRise (sym (filter-append (λ (l : Line). l.who.session == who.session) front more)) (rises_append (lines_of who.session front) (lines_of who.session more) rise (one_rises who (lines_of who.session more) mine) apart)
  where
    less : (x : Line) → Before who x → x.who.phase ≡ who.phase → x.who.item ≤ who.item
    less x (inl phase) same = omega arith
    less x (inr (_, item)) same = omega arith

-- ---- items cut short

rest_cut : (kind : Kind) (w n x : What) (xs : List What) → IsCut kind (w ∷ n ∷ x ∷ xs) → IsCut kind (x ∷ xs) × (length (x ∷ xs) + 2 < 2 * ATTEMPTS)
rest_cut law.Lineless Began (Overlapped s i) x xs c = (c.0, c.1)
rest_cut law.Lineless Began n x xs c = (c.0, c.1)
rest_cut law.Lineless w n x xs c = (c.0, c.1)
rest_cut kind Began (Overlapped s i) x xs c = (c.0, c.1)
rest_cut kind Began n x xs c = (c.0, c.1)
rest_cut kind w n x xs c = (c.0, c.1)

two_cut : (kind : Kind) (w n : What) → IsCut kind (w ∷ n ∷ []) → is_overlap (Some n) ≡ true
two_cut law.Lineless Began (Overlapped s i) c = refl
two_cut law.Lineless Began n c = absurd (c.2 refl)
two_cut law.Lineless w n c = absurd (c.2 refl)
two_cut kind Began (Overlapped s i) c = refl
two_cut kind Began n c = absurd (c.2 refl)
two_cut kind w n c = absurd (c.2 refl)

one_cut : (kind : Kind) (w : What) → IsCut kind (w ∷ []) → ⊥
one_cut law.Lineless Began c = c
one_cut law.Lineless w c = c
one_cut kind Began c = c
one_cut kind w c = c

overlap_last : (kind : Kind) (w : What) (ws : List What) → IsCut kind (w ∷ ws) → (is_overlap (last (w ∷ ws)) ≡ true) × (length (w ∷ ws) < 2 * ATTEMPTS)
overlap_last kind w [] c = absurd (one_cut kind w c)
overlap_last kind w (n ∷ []) c = (two_cut kind w n c, lit< tt)
overlap_last kind w (n ∷ x ∷ xs) c =
    let rest = rest_cut kind w n x xs c in
    ((overlap_last kind x xs rest.0).0, omega (arith, rest.1))

-- what the law calls cut short is so by its last line
pub cut_is : (kind : Kind) (whats : List What) → IsRun kind whats → IsCut kind whats → is_cut kind whats ≡ true
cut_is law.Lineless [] run cut = absurd cut
cut_is law.Lineless (w ∷ ws) run cut = absurd run
cut_is kind [] run cut = refl
cut_is kind (w ∷ ws) run cut =
    let is = overlap_last kind w ws cut in
    let less : ltb (length (w ∷ ws)) (2 * ATTEMPTS) ≡ true = grind (arith, nat_tests, is.1) in
    rw (is.0, less) refl

-- ---- the runs of a session's items, behind one more

module _ (L : Language) (items : Who → Option L.Item) (who : Who) (item : L.Item) (is : items who ≡ Some item) (front more : List Line) (of : AllByRecursion (OfItem who) more) where
  own_stays : (other : Who) → other.session ≡ who.session → (other ≡ who → ⊥) → own other (front ++ more) ≡ own other front
  own_stays other mine apart = own_append other front more ∙ ap (λ (whats : List What). own other front ++ whats) (own_apart who other more mine apart of) ∙ append-nil (own other front)

  -- none of the items before it was cut short
  abbrev pub NoneCut : Type 0
  NoneCut = (other : Who) (one : L.Item) → other.phase ≡ who.phase → other.session ≡ who.session → other.item < who.item → items other ≡ Some one → IsCut (L.kind one) (own other front) → ⊥

  is_who : (other : Who) → (same_item other who ≡ true → ⊥) → other ≡ who → ⊥
  is_who other apart same = apart (subst (λ (w : Who). same_item w who ≡ true) (sym same) (itself who))
    where
      itself : (w : Who) → same_item w w ≡ true
      itself w =
          let p : (w.phase == w.phase) ≡ true = grind (arith, nat_tests) in
          let s : (w.session == w.session) ≡ true = grind (arith, nat_tests) in
          let i : (w.item == w.item) ≡ true = grind (arith, nat_tests) in
          rw (p, s, i) refl

  pub runs_on : HasRuns L items who.session front → AllByRecursion (IsEarlier who.phase who.session who.item) front → NoneCut → IsRun (L.kind item) (own who (front ++ more)) → HasRuns L items who.session (front ++ more)
  runs_on has earlier whole run = record {
    order = order_on who front more has.order earlier of;
    runs = λ other one mine known. run_of other one mine known (same_item other who) refl;
    cut = λ other later one mine known short phase mine2 behind. none other later one mine known short phase mine2 behind (same_item other who) (same_item later who) refl refl;
  }
    where
      run_of : (other : Who) (one : L.Item) → other.session ≡ who.session → items other ≡ Some one → (same : Bool) → same_item other who ≡ same → IsRun (L.kind one) (own other (front ++ more))
      run_of other one mine known true e =
          let same = same_is other who e in
          let there : items who ≡ Some one = subst (λ (w : Who). items w ≡ Some one) same known in
          let it : item ≡ one = cc in
          subst (λ (w : Who). IsRun (L.kind one) (own w (front ++ more))) (sym same) (subst (λ (i : L.Item). IsRun (L.kind i) (own who (front ++ more))) it run)
      run_of other one mine known false e =
          subst (IsRun (L.kind one)) (sym (own_stays other mine (is_who other (λ f. cc)))) (has.runs other one mine known)

      none : (other later : Who) (one : L.Item) → other.session ≡ who.session → items other ≡ Some one → IsCut (L.kind one) (own other (front ++ more)) → later.phase ≡ other.phase → later.session ≡ who.session → other.item < later.item
          → (same after : Bool) → same_item other who ≡ same → same_item later who ≡ after → own later (front ++ more) ≡ []
      none other later one mine known short phase mine2 behind true true e f =
          let a : other.item ≡ who.item = ap (λ (w : Who). w.item) (same_is other who e) in
          let b : later.item ≡ who.item = ap (λ (w : Who). w.item) (same_is later who f) in
          absurd (omega arith)
      none other later one mine known short phase mine2 behind false true e f =
          let a : later.item ≡ who.item = ap (λ (w : Who). w.item) (same_is later who f) in
          let b : later.phase ≡ who.phase = ap (λ (w : Who). w.phase) (same_is later who f) in
          let cut : IsCut (L.kind one) (own other front) = subst (IsCut (L.kind one)) (own_stays other mine (is_who other (λ g. cc))) short in
          absurd (whole other one (sym phase ∙ b) mine (omega arith) known cut)
      none other later one mine known short phase mine2 behind true false e f =
          let same = same_is other who e in
          let a : other.item ≡ who.item = ap (λ (w : Who). w.item) same in
          let b : other.phase ≡ who.phase = ap (λ (w : Who). w.phase) same in
          own_stays later mine2 (is_who later (λ g. cc)) ∙ none_yet who.phase who.session who.item later front (phase ∙ b) mine2 (omega arith) earlier
      none other later one mine known short phase mine2 behind false false e f =
          let cut : IsCut (L.kind one) (own other front) = subst (IsCut (L.kind one)) (own_stays other mine (is_who other (λ g. cc))) short in
          own_stays later mine2 (is_who later (λ g. cc)) ∙ has.cut other later one mine known cut phase mine2 behind
