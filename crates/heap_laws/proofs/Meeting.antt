-- A page of a chain is met on the way along it, so what is done to it may be told of that way.
use Rattle.heap_file.proofs.Positions.{position-at}
use Rattle.std.proofs.lemmas.Bool.{ne_eqb}
use Rattle.std.proofs.Common.{◌≡◌, ◌<◌, ◌≤◌, ◌-◌, ◌++◌, ◌∙◌, ◌⊎◌, ℕ, List, [], ◌∷◌, length, get_or, Result, Ok, Err, inl, inr, refl, sym, ap, arith, subst, length-append, eqb, eq-eqb}
use Rattle.std.proofs.lemmas.List.{get_or_append_left, get_or_at, get_or_default}
use Rattle.std.specs.List.{insert}
use Rattle.retro_base.specs.declared.refusal.Refusal.{Refusal}
use Rattle.pager.specs.Pages.{Pages, with_bytes}
use Rattle.pager.specs.Allows.{◌>>=◌, only, either}
use Rattle.heap_file.specs.declared.page.Entry.{Entry}
use Rattle.heap_file.specs.declared.page.HeapPage.{HeapPage}
use Rattle.heap_file.specs.declared.chain.Link.{Link}
use Rattle.heap_file.specs.declared.chain.Placed.{Placed}
use Rattle.heap_file.specs.Chain.{IsAt, met}
use Rattle.heap_file.specs.HeapPage.{page_bytes, have_room}
use Rattle.heap_file.specs.Work.{appended, changed, place_in, without}
use Rattle.heap_laws.specs.Store.{times}
use Rattle.heap_laws.proofs.Counts.{keyed, keyed-map}
use Rattle.heap_laws.proofs.Routes.{around, at-one, IsRoute, link_of, pages_on}
use Rattle.heap_laws.proofs.Rows.{keyed-at, Standing}

-- the page of the last of these links, which stands before another
before_it : (before : List Link) (x : Link) (behind : List Link)
    → (previous : ℕ) × (((length before ≡ 0) × (previous ≡ 0)) ⊎ ((0 < length before) × ((d : Link) → (get_or (before ++ x ∷ behind) (length before - 1) d).page ≡ previous)))
before_it [] x behind = (0, inl (refl, refl))
before_it (l ∷ ls) x behind = (
  (get_or ((l ∷ ls) ++ x ∷ behind) (length (l ∷ ls) - 1) x).page,
  inr (omega arith, λ d. ap (λ (k : Link). k.page) (get_or_default ((l ∷ ls) ++ x ∷ behind) (length (l ∷ ls) - 1) d x (omega (arith, length-append (l ∷ ls) (x ∷ behind))))),
)

-- the page of a row of a chain is met, and holds what stands there
pub record Meets (size : ℕ) (pages : Pages) (first page : ℕ) : Type 0 where
  pub previous : ℕ
  pub held : HeapPage
  pub found : met size pages first page (Ok (previous, held))
  pub at : IsAt size pages page held

pub meets : (size : ℕ) (pages : Pages) (first : ℕ) (links : List Link) (placed : Placed) → IsRoute size pages first links → length links ≤ size → Standing links placed → Meets size pages first placed.page
meets size pages first links placed route few stands =
    let x : Link = link_of placed.page stands.held in
    let here = around size pages first stands.before x stands.behind (subst (IsRoute size pages first) stands.links_are route) in
    let long : length stands.before < length links = omega (arith, ap length stands.links_are, length-append stands.before (x ∷ stands.behind)) in
    let back = before_it stands.before x stands.behind in
    let stands_there : (d : Link) → get_or links (length stands.before) d ≡ x = λ d. subst (λ (ls : List Link). get_or ls (length stands.before) d ≡ x) (sym stands.links_are) (get_or_at stands.before x stands.behind d (length stands.before) refl) in
    record {
      previous = back.0;
      held = stands.held;
      found = (
        links,
        (omega (arith, long), few, route.leads),
        record {
          place = length stands.before;
          first = position-at (λ (link : Link). eqb link.page placed.page) links (length stands.before) x long
              (eq-eqb (get_or links (length stands.before) x).page placed.page (ap (λ (l : Link). l.page) (stands_there x)))
              (λ k lt. ne_eqb (get_or links k x).page placed.page (λ e. apart k x lt here.off_before (subst (λ (ls : List Link). (get_or ls k x).page ≡ placed.page) stands.links_are e)));
          here = stands_there;
          behind = subst (λ (ls : List Link). ((length stands.before ≡ 0) × (back.0 ≡ 0)) ⊎ ((0 < length stands.before) × ((d : Link) → (get_or ls (length stands.before - 1) d).page ≡ back.0))) (sym stands.links_are) back.1;
        },
      );
      at = here.here;
    }
  where
    apart : (k : ℕ) (d : Link) → k < length stands.before → times placed.page (pages_on stands.before) ≡ 0 → (get_or (stands.before ++ link_of placed.page stands.held ∷ stands.behind) k d).page ≡ placed.page → ⊥
    apart k d lt none e =
        let there : (get_or stands.before k d).page ≡ placed.page = sym (ap (λ (l : Link). l.page) (get_or_append_left stands.before (link_of placed.page stands.held ∷ stands.behind) d k lt)) ∙ e in
        let some = subst (λ (n : ℕ). 0 < keyed (λ (l : Link). l.page) n stands.before) there (keyed-at (λ (l : Link). l.page) stands.before k d lt) in
        omega (arith, some, none, keyed-map (λ (l : Link). l.page) placed.page stands.before)

-- a row is changed on the page where it was met
abbrev pub changed_on : ℕ → Pages → ℕ → ℕ → Entry → HeapPage → Result (ℕ × Pages) Refusal → Type 0
changed_on size pages first page entry held =
    place_in page entry.number held.entries >>= λ place.
    either (have_room ((without held place).entries ++ entry ∷ []))
    (only (Ok (page, with_bytes pages page (page_bytes (record (without held place) { entries = insert (without held place).entries place entry })))))
    (appended size (with_bytes pages page (page_bytes (without held place))) first entry)

abbrev pub changed_met : ℕ → Pages → ℕ → ℕ → Entry → Result (ℕ × Pages) Refusal → Type 0
changed_met size pages first page entry = met size pages first page >>= λ found. changed_on size pages first page entry found.1

pub changed-met : (size : ℕ) (pages : Pages) (first page : ℕ) (entry : Entry) (meets : Meets size pages first page) (a : Result (ℕ × Pages) Refusal) → changed size pages first page entry a → changed_met size pages first page entry a
changed-met size pages first page entry meets (Ok y) (held, at, work) =
    ((meets.previous, meets.held), meets.found, subst (λ (h : HeapPage). changed_on size pages first page entry h (Ok y)) (at-one size size pages page held meets.held at meets.at) work)
changed-met size pages first page entry meets (Err why) (inl broken) = absurd (broken.1 meets.held meets.at)
changed-met size pages first page entry meets (Err why) (inr (held, at, work)) =
    inr ((meets.previous, meets.held), meets.found, subst (λ (h : HeapPage). changed_on size pages first page entry h (Err why)) (at-one size size pages page held meets.held at meets.at) work)
