-- The pages of a sorted chain, and the way along them: proofs.
use Rattle.std.proofs.Common.{◌⊎◌, ◌≡◌, ◌<◌, ◌≤◌, ◌++◌, ◌∙◌, ℕ, suc, Bool, true, false, eqb, List}
use Rattle.std.proofs.Common.{[], ◌∷◌, length, map, Err, refl, sym, ap, subst, inl, inr, arith}
use Rattle.std.specs.List.{AllByRecursion, Contains, list_any}
use Rattle.std.proofs.lemmas.Bool.{both_ways, eqb-true, eqb-false, or_parts, or_cases}
use Rattle.std.proofs.lemmas.Map.Steps.{length-le_from_distinct_below}
use Rattle.retro_base.specs.declared.refusal.Refusal.{Refusal}
use Rattle.values.specs.Value.{kind_of}
use Rattle.values.specs.declared.value.Kind.{Kind}
use Rattle.pager.specs.Index.{AreOfKind}
use Rattle.pager.specs.Pages.{Pages}
use Rattle.pager.specs.declared.index.Found.{Found}
use Rattle.index_page.specs.IndexPage.{HoldsIndex}
use Rattle.index_page.specs.Paging.{IsIndexAt}
use Rattle.index_page.specs.declared.page.Form.TheVariants as form
use Rattle.index_page.specs.declared.page.IndexPage.{IndexPage}
use Rattle.index_page.proofs.Packing.{holds_one}
use Rattle.run_index.specs.declared.walk.Met.{Met}
use Rattle.run_index.specs.Run.{IsWay, Lists, entries_of, run_of}
use Rattle.run_index.specs.Shaping.{all-left, all-right}
use Rattle.run_index.specs.Walk.{IsRun, Passes, is_end, walked}

-- a page holds one thing
pub at-one : (size : ℕ) (pages : Pages) (page : ℕ) (p q : IndexPage) → IsIndexAt size pages page p →
    IsIndexAt size pages page q → p ≡ q
at-one size pages page p q is also = holds_one (pages.at page) p q is.holds also.holds

-- pages whose bytes are as before hold what they held
pub at-same : (size : ℕ) (pages after : Pages) (page : ℕ) (held : IndexPage) → after.at page ≡ pages.at page →
    IsIndexAt size pages page held → IsIndexAt size after page held
at-same size pages after page held same is =
    record {
      low = is.low;
      there = is.there;
      holds = subst (λ (bytes : List ℕ). HoldsIndex bytes held)
          (sym same) is.holds;
    }

pub leads-same : (size : ℕ) (pages after : Pages) (from : ℕ) (shape : List (List Found)) (held : List ℕ) (to : ℕ) →
    AllByRecursion (λ (page : ℕ). after.at page ≡ pages.at page) held → IsWay size pages from shape held to →
    IsWay size after from shape held to
leads-same size pages after from [] [] to same leads = leads
leads-same size pages after from [] (page ∷ held) to same leads = leads
leads-same size pages after from (entries ∷ shape) [] to same leads = leads
leads-same size pages after from (entries ∷ shape) (page ∷ held) to same leads = (
  leads.0,
  leads.1,
  at-same size pages after page (run_of leads.1 entries) same.0 leads.2,
  leads-same size pages after leads.1 shape held to same.1 leads.3,
)

pub leads-join : (size : ℕ) (pages : Pages) (from mid to : ℕ) (a b : List (List Found)) (ha hb : List ℕ) →
    IsWay size pages from a ha mid → IsWay size pages mid b hb to → IsWay size pages from (a ++ b) (ha ++ hb) to
leads-join size pages from mid to [] b [] hb one two = subst (λ (f : ℕ). IsWay size pages f b hb to) (sym one) two
leads-join size pages from mid to [] b (page ∷ ha) hb one two = absurd one
leads-join size pages from mid to (entries ∷ a) b [] hb one two = absurd one
leads-join size pages from mid to (entries ∷ a) b (page ∷ ha) hb one two =
    (one.0, one.1, one.2, leads-join size pages one.1 mid to a b ha hb one.3 two)

pub leads-inside : (size : ℕ) (pages : Pages) (from : ℕ) (shape : List (List Found)) (held : List ℕ) (to : ℕ) →
    IsWay size pages from shape held to → AllByRecursion (λ (page : ℕ). (2 ≤ page) × (page < size)) held
leads-inside size pages from [] [] to leads = tt
leads-inside size pages from [] (page ∷ held) to leads = absurd leads
leads-inside size pages from (entries ∷ shape) [] to leads = tt
leads-inside size pages from (entries ∷ shape) (page ∷ held) to leads =
    ((leads.2.low, leads.2.there), leads-inside size pages leads.1 shape held to leads.3)

pub leads-length : (size : ℕ) (pages : Pages) (from : ℕ) (shape : List (List Found)) (held : List ℕ) (to : ℕ) →
    IsWay size pages from shape held to → length shape ≡ length held
leads-length size pages from [] [] to leads = refl
leads-length size pages from [] (page ∷ held) to leads = absurd leads
leads-length size pages from (entries ∷ shape) [] to leads = absurd leads
leads-length size pages from (entries ∷ shape) (page ∷ held) to leads =
    ap suc (leads-length size pages leads.1 shape held to leads.3)

same-entries : (p q : ℕ) (a b : List Found) → run_of p a ≡ run_of q b → (p ≡ q) × (a ≡ b)
same-entries p q a b e = (ap (λ (page : IndexPage). page.link) e, ap (λ (page : IndexPage). page.entries) e)

pub leads-one : (size : ℕ) (pages : Pages) (from : ℕ) (shape other : List (List Found)) (held others : List ℕ) →
    IsWay size pages from shape held 0 → IsWay size pages from other others 0 → (shape ≡ other) × (held ≡ others)
leads-one size pages from [] [] [] [] one two = (refl, refl)
leads-one size pages from [] other (page ∷ held) others one two = absurd one
leads-one size pages from (entries ∷ shape) other [] others one two = absurd one
leads-one size pages from shape [] held (page ∷ others) one two = absurd two
leads-one size pages from shape (entries ∷ other) held [] one two = absurd two
leads-one size pages from [] (entries ∷ other) [] (page ∷ others) one two =
    let low = two.2.low in absurd (omega (arith, one, two.0))
leads-one size pages from (entries ∷ shape) [] (page ∷ held) [] one two =
    let low = one.2.low in absurd (omega (arith, two, one.0))
leads-one size pages from (entries ∷ shape) (more ∷ other) (page ∷ held) (next ∷ others) one two =
    let same : page ≡ next = sym one.0 ∙ two.0 in
    let there : IsIndexAt size pages page (run_of two.1 more) =
    subst (λ (p : ℕ). IsIndexAt size pages p (run_of two.1 more)) (sym same) two.2 in
    let parts =
    same-entries one.1 two.1 entries more
    (at-one size pages page (run_of one.1 entries) (run_of two.1 more) one.2 there) in
    let rest =
    leads-one size pages one.1 shape other held others one.3
    (subst (λ (l : ℕ). IsWay size pages l other others 0) (sym parts.0) two.3) in
    (cc (parts.1, rest.0), cc (same, rest.1))

-- what holds of each page that is held
pub all-from_each : (P : ℕ → Type 0) (held : List ℕ) → ((page : ℕ) → Contains held page → P page) →
    AllByRecursion P held
all-from_each P [] each = tt
all-from_each P (page ∷ held) each =
    (each page (0, omega arith, refl), all-from_each P held (λ q there. each q (suc there.0, omega arith, there.2)))

pub all-more : (P Q : ℕ → Type 0) (held : List ℕ) → ((page : ℕ) → P page → Q page) → AllByRecursion P held →
    AllByRecursion Q held
all-more P Q [] go all = tt
all-more P Q (page ∷ held) go all = (go page all.0, all-more P Q held go all.1)

-- a chain and its page where a way ends
pub record Ending (test : List Found → Bool) (size : ℕ) (pages : Pages) (from : ℕ) (shape : List (List Found))
    (held : List ℕ) (passed : List Met) (met : Met) : Type 0 where
  pub before : List (List Found)
  pub behind : List (List Found)
  pub front : List ℕ
  pub back : List ℕ
  pub shape_is : shape ≡ before ++ met.held.entries ∷ behind
  pub held_is : held ≡ front ++ met.page ∷ back
  pub passed_is : map (λ (m : Met). m.held.entries) passed ≡ before
  pub to : IsWay size pages from before front met.page
  pub at : IsIndexAt size pages met.page (run_of met.held.link met.held.entries)
  pub on : IsWay size pages met.held.link behind back 0
  pub skips : AllByRecursion (λ (entries : List Found). test entries ≡ false) before
  pub stops : (behind ≡ []) ⊎ (test met.held.entries ≡ true)

run-is : (held : IndexPage) → held.form ≡ form.Run → held ≡ run_of held.link held.entries
run-is held e = λ i. record { form = e i; link = held.link; entries = held.entries }

no-more : (size : ℕ) (pages : Pages) (from : ℕ) (shape : List (List Found)) (held : List ℕ) →
    IsWay size pages from shape held 0 → from ≡ 0 → shape ≡ []
no-more size pages from [] held leads none = refl
no-more size pages from (entries ∷ shape) [] leads none = absurd leads
no-more size pages from (entries ∷ shape) (page ∷ held) leads none =
    let low = leads.2.low in absurd (omega (arith, leads.0, none))

pub ending : (test : List Found → Bool) (kind : Kind) (size : ℕ) (pages : Pages) (from : ℕ) (shape : List (List Found))
    (held : List ℕ) (passed : List Met) (met : Met) → IsWay size pages from shape held 0 →
    Passes test kind size pages from passed met.page → IsRun kind size pages met.page met.held →
    is_end test met.held ≡ true → Ending test size pages from shape held passed met
ending test kind size pages from [] [] [] met leads way run end =
    let low = run.0.0.low in absurd (omega (arith, leads, way))
ending test kind size pages from [] [] (m ∷ ms) met leads way run end =
    let low = way.1.0.0.low in absurd (omega (arith, leads, way.0))
ending test kind size pages from [] (page ∷ held) passed met leads way run end = absurd leads
ending test kind size pages from (entries ∷ shape) [] passed met leads way run end = absurd leads
ending test kind size pages from (entries ∷ shape) (page ∷ held) [] met leads way run end =
    let same : page ≡ met.page = sym leads.0 ∙ way in
    let there : IsIndexAt size pages met.page (run_of leads.1 entries) =
    subst (λ (p : ℕ). IsIndexAt size pages p (run_of leads.1 entries)) same leads.2 in
    let is : run_of leads.1 entries ≡ met.held =
    at-one size pages met.page (run_of leads.1 entries) met.held there run.0.0 in
    let link : leads.1 ≡ met.held.link = ap (λ (p : IndexPage). p.link) is in
    let on : IsWay size pages met.held.link shape held 0 =
    subst (λ (l : ℕ). IsWay size pages l shape held 0) link leads.3 in
    record {
      before = [];
      behind = shape;
      front = [];
      back = held;
      shape_is = ap (λ (p : IndexPage). p.entries ∷ shape) is;
      held_is = ap (λ (p : ℕ). p ∷ held) same;
      passed_is = refl;
      to = way;
      at = subst (λ (p : IndexPage). IsIndexAt size pages met.page p) (run-is met.held run.1) run.0.0;
      on = on;
      skips = tt;
      stops = elim (or_cases (eqb met.held.link 0) (test met.held.entries) end) [
        | inl none ↦ inl (no-more size pages met.held.link shape held on (eqb-true met.held.link 0 none))
        | inr here ↦ inr here
      ];
    }
ending test kind size pages from (entries ∷ shape) (page ∷ held) (m ∷ ms) met leads way run end =
    let same : page ≡ m.page = sym leads.0 ∙ way.0 in
    let there : IsIndexAt size pages m.page (run_of leads.1 entries) =
    subst (λ (p : ℕ). IsIndexAt size pages p (run_of leads.1 entries)) same leads.2 in
    let is : run_of leads.1 entries ≡ m.held =
    at-one size pages m.page (run_of leads.1 entries) m.held there way.1.0.0 in
    let link : leads.1 ≡ m.held.link = ap (λ (p : IndexPage). p.link) is in
    let inner : entries ≡ m.held.entries = ap (λ (p : IndexPage). p.entries) is in
    let on : IsWay size pages m.held.link shape held 0 =
    subst (λ (l : ℕ). IsWay size pages l shape held 0) link leads.3 in
    let more = ending test kind size pages m.held.link shape held ms met on way.3 run end in
    let parts = or_parts (eqb m.held.link 0) (test m.held.entries) way.2 in
    record {
      before = m.held.entries ∷ more.before;
      behind = more.behind;
      front = m.page ∷ more.front;
      back = more.back;
      shape_is = cc (inner, more.shape_is);
      held_is = cc (same, more.held_is);
      passed_is = ap (λ (l : List (List Found)). m.held.entries ∷ l) more.passed_is;
      to = (
        way.0,
        m.held.link,
        subst (λ (p : IndexPage). IsIndexAt size pages m.page p) (run-is m.held way.1.1) way.1.0.0,
        more.to,
      );
      at = more.at;
      on = more.on;
      skips = (parts.1, more.skips);
      stops = more.stops;
    }

-- each page on the way is one of the chain, which goes on behind those that are passed
goes-on : (test : List Found → Bool) (kind : Kind) (size : ℕ) (pages : Pages) (from : ℕ) (shape : List (List Found))
    (held : List ℕ) (passed : List Met) (page : ℕ) → 1 ≤ length shape → IsWay size pages from shape held 0 →
    AreOfKind kind (entries_of shape) → Passes test kind size pages from passed page → (length passed < length shape)
    × (found : IndexPage) × IsRun kind size pages page found
goes-on test kind size pages from [] held passed to some leads kinds way = absurd (omega arith)
goes-on test kind size pages from (entries ∷ shape) [] passed to some leads kinds way = absurd leads
goes-on test kind size pages from (entries ∷ shape) (page ∷ held) [] to some leads kinds way =
    let same : page ≡ to = sym leads.0 ∙ way in
    let there : IsIndexAt size pages to (run_of leads.1 entries) =
    subst (λ (p : ℕ). IsIndexAt size pages p (run_of leads.1 entries)) same leads.2 in (
      omega arith,
      run_of leads.1 entries,
      ((there, all-left (λ (found : Found). kind_of found.value ≡ kind) entries (entries_of shape) kinds), refl),
    )
goes-on test kind size pages from (entries ∷ shape) (page ∷ held) (m ∷ ms) to some leads kinds way =
    let same : page ≡ m.page = sym leads.0 ∙ way.0 in
    let there : IsIndexAt size pages m.page (run_of leads.1 entries) =
    subst (λ (p : ℕ). IsIndexAt size pages p (run_of leads.1 entries)) same leads.2 in
    let is : run_of leads.1 entries ≡ m.held =
    at-one size pages m.page (run_of leads.1 entries) m.held there way.1.0.0 in
    let link : leads.1 ≡ m.held.link = ap (λ (p : IndexPage). p.link) is in
    let parts = or_parts (eqb m.held.link 0) (test m.held.entries) way.2 in
    let on : IsWay size pages m.held.link shape held 0 =
    subst (λ (l : ℕ). IsWay size pages l shape held 0) link leads.3 in
    let more =
    goes-on test kind size pages m.held.link shape held ms to
    (left shape held on (eqb-false m.held.link 0 parts.0)) on
    (all-right (λ (found : Found). kind_of found.value ≡ kind) entries (entries_of shape) kinds) way.3 in
    (omega (arith, more.0), more.1, more.2)
  where
    left : (rest : List (List Found)) (hs : List ℕ) → IsWay size pages m.held.link rest hs 0 → (m.held.link ≡ 0 → ⊥) →
        1 ≤ length rest
    left [] [] end some = absurd (some end)
    left [] (h ∷ hs) end some = absurd end
    left (r ∷ rest) hs end some = omega arith

-- along a chain whose values are of the kind no way is refused
pub walked-never : (test : List Found → Bool) (kind : Kind) (size : ℕ) (pages : Pages) (root : ℕ)
    (shape : List (List Found)) (held : List ℕ) (why : Refusal) → Lists size pages root shape held →
    AreOfKind kind (entries_of shape) → walked test kind size pages root (Err why) → ⊥
walked-never test kind size pages root shape held why is kinds way =
    let more = goes-on test kind size pages root shape held way.0 way.1 is.is_shape.some is.leads kinds way.2 in
    let inside = leads-inside size pages root shape held 0 is.leads in
    let few : length held ≤ size = length-le_from_distinct_below held size is.distinct (below held inside) in
    elim way.4 [
      | inl long ↦ omega (arith, more.0, few, leads-length size pages root shape held 0 is.leads, long)
      | inr none ↦ none more.1 more.2
    ]
  where
    below : (xs : List ℕ) → AllByRecursion (λ (page : ℕ). (2 ≤ page) × (page < size)) xs → (q : ℕ) →
        list_any (eqb q) xs ≡ true → q < size
    below [] all q there = absurd (both_ways false refl there)
    below (x ∷ xs) all q there =
        elim (or_cases (eqb q x) (list_any (eqb q) xs) there) [
          | inl here ↦ omega (arith, eqb-true q x here, all.0.1)
          | inr more ↦ below xs all.1 q more
        ]
