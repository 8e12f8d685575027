-- Taking rows out of a table never leads its chain out of its pages.
use Rattle.std.proofs.Common.{◌≡◌, ◌≢◌, ◌∙◌, ◌<◌, ◌≤◌, ◌-◌, ◌++◌, ◌^◌, ◌⊎◌, ◌&&◌, ◌==◌, not, cond, ℕ, Bool, true, false, List, [], ◌∷◌, length, map, get_or, replicate, Result, Ok, Err, inl, inr, refl, sym, ap, subst, arith, append_assoc}
use Rattle.std.specs.List.{Contains}
use Rattle.std.proofs.lemmas.Bool.Decides.{eqb_tells}
use Rattle.retro_base.specs.Fields.{field_bytes, number_at}
use Rattle.retro_base.specs.Gives.{◌>>=◌}
use Rattle.retro_base.specs.declared.refusal.Refusal.{Refusal}
use Rattle.retro_base.proofs.FieldLaws.{length-field_bytes, number_at-field}
use Rattle.pager.specs.Pages.{Pages, broken, with_bytes}
use Rattle.pager.specs.Root.{free_bytes, freed, in_front, is_root, root_bytes, root_in}
use Rattle.pager.specs.declared.root.Root.{Root}
use Rattle.heap_file.specs.declared.chain.Link.{Link}
use Rattle.heap_file.specs.declared.page.HeapPage.{HeapPage}
use Rattle.heap_file.specs.declared.page.TheConstants.{ENTRY_BYTES}
use Rattle.pager.specs.Allows.{either, only}
use Rattle.pager.specs.Allows as allows
use Rattle.heap_file.specs.Chain.{IsAt, IsWay, heap_page, met}
use Rattle.heap_file.specs.HeapPage.{HoldsRows, entry_bytes, page_bytes}
use Rattle.heap_file.specs.Work.{last_field, removed, unlinked, without}
use Rattle.heap_laws.proofs.Reading.{ok-one}
use Rattle.heap_laws.proofs.Routes.{at-one, at-same, written-other}
use Rattle.relation_laws.proofs.Lists.{contains-cases, contains-cons, contains-head}

-- a page of links
abbrev pub page_in : Link → ℕ
page_in link = link.page

-- the page behind each of these is one of them, if there is one
abbrev pub Closed : (ℕ → Type 0) → ℕ → Pages → Type 0
Closed T size pages = (page : ℕ) (held : HeapPage) → T page → IsAt size pages page held → (held.next ≡ 0) ⊎ T held.next

-- a way that begins at one of them stays among them
pub walk : (T : ℕ → Type 0) (size : ℕ) (pages : Pages) → Closed T size pages → (from : ℕ) (links : List Link) → IsWay size pages from links 0 → T from → (p : ℕ) → Contains (map page_in links) p → T p
walk T size pages closed from [] leads start p has = absurd (omega (arith, has.1))
walk T size pages closed from (link ∷ links) leads start p has =
    contains-cases link.page p (map page_in links) has (λ same. subst T same here) (λ there. on links leads.2 (closed link.page link.held here leads.1) (λ inside. walk T size pages closed link.held.next links leads.2 inside p there) there)
  where
    here : T link.page
    here = subst T (sym leads.0) start

    on : (links : List Link) → IsWay size pages link.held.next links 0 → (link.held.next ≡ 0) ⊎ T link.held.next → (T link.held.next → T p) → Contains (map page_in links) p → T p
    on links leads_ (inr there) go has_ = go there
    on [] leads_ (inl none) go has_ = absurd (omega (arith, has_.1))
    on (next ∷ rest) leads_ (inl none) go has_ = absurd (omega (arith, leads_.1.named, leads_.0, none))

-- the pages of a chain are closed
chain-next : (size : ℕ) (pages : Pages) (from : ℕ) (links : List Link) → IsWay size pages from links 0 → (p : ℕ) (held : HeapPage) → Contains (map page_in links) p → IsAt size pages p held → (held.next ≡ 0) ⊎ Contains (map page_in links) held.next
chain-next size pages from [] leads p held has at = absurd (omega (arith, has.1))
chain-next size pages from (link ∷ links) leads p held has at =
    contains-cases link.page p (map page_in links) has
    (λ same. here links leads.2 (at-one size size pages link.page link.held held leads.1 (subst (λ (q : ℕ). IsAt size pages q held) (sym same) at)))
    (λ there. lift (chain-next size pages link.held.next links leads.2 p held there at))
  where
    lift : (held.next ≡ 0) ⊎ Contains (map page_in links) held.next → (held.next ≡ 0) ⊎ Contains (map page_in (link ∷ links)) held.next
    lift (inl none) = inl none
    lift (inr there) = inr (contains-cons held.next link.page (map page_in links) there)

    here : (rest : List Link) → IsWay size pages link.held.next rest 0 → link.held ≡ held → (held.next ≡ 0) ⊎ Contains (map page_in (link ∷ rest)) held.next
    here [] leads_ same = inl (ap (λ (h : HeapPage). h.next) (sym same) ∙ leads_)
    here (next ∷ rest) leads_ same = inr (subst (λ (q : ℕ). Contains (map page_in (link ∷ next ∷ rest)) q) (leads_.0 ∙ ap (λ (h : HeapPage). h.next) same) (contains-cons next.page link.page (map page_in (next ∷ rest)) (contains-head next.page (map page_in rest))))

pub chain-closed : (size : ℕ) (pages : Pages) (first : ℕ) (links : List Link) → IsWay size pages first links 0 → Closed (Contains (map page_in links)) size pages
chain-closed size pages first links leads page held here at = chain-next size pages first links leads page held here at

-- a page that is written names the next one in its bytes
written-next : (now held : HeapPage) → now.next < 2 ^ 32 → HoldsRows (page_bytes now) held → held.next ≡ now.next
unfolding page_bytes field_bytes
written-next now held small holds =
    let a = 1 ∷ 0 ∷ field_bytes 2 (length now.entries) in
    let b = field_bytes 4 now.next in
    let c = field_bytes 8 now.next_number ++ field_bytes 4 now.last in
    let d = entry_bytes now.entries ++ replicate (ENTRY_BYTES - length (entry_bytes now.entries)) 0 in
    let e : page_bytes now ≡ a ++ (b ++ (c ++ d)) = append_assoc a (b ++ c) d ∙ ap (λ (l : List ℕ). a ++ l) (append_assoc b c d) in
    sym holds.next ∙ ap (λ (l : List ℕ). number_at 4 l 4) e ∙ number_at-field 4 now.next 4 a (c ++ d) (omega (arith, length-field_bytes 2 (length now.entries))) small

-- a page that is written and names one of them leaves them closed
pub closed-write : (T : ℕ → Type 0) (size : ℕ) (pages : Pages) → Closed T size pages → (page : ℕ) (now : HeapPage) → now.next < 2 ^ 32 → (now.next ≡ 0) ⊎ T now.next → Closed T size (with_bytes pages page (page_bytes now))
closed-write T size pages closed page now small next p held here at = elim (eqb_tells p page) [
  | inl same ↦
      let bytes : (with_bytes pages page (page_bytes now)).at p ≡ page_bytes now = rw same.0 refl in
      let is : held.next ≡ now.next = written-next now held small (subst (λ (b : List ℕ). HoldsRows b held) bytes at.holds) in
      rw is next
  | inr differ ↦ closed p held here (at-same size (with_bytes pages page (page_bytes now)) pages p held (sym (written-other pages page p (page_bytes now) differ.1)) at)
]

-- a page that is freed leaves them closed
closed-freed : (T : ℕ → Type 0) (size : ℕ) (pages after : Pages) → Closed T size pages → (page : ℕ) → freed size pages page ≡ Ok (tt, after) → Closed T size after
closed-freed T size pages after closed page is = found (root_in size pages) is
  where
    Is : Result (Unit {0} × Pages) Refusal → Type 0
    Is answer = answer ≡ Ok (tt, after)

    made : Root → Pages
    made root = with_bytes (with_bytes pages page (free_bytes root.first_free)) 0 (root_bytes (in_front page root))

    still : (root : Root) → Closed T size (made root)
    still root p held here at = elim (eqb_tells p page) [
      | inl same ↦
          let off : p ≢ 0 = λ e. absurd (omega (arith, e, at.named)) in
          let bytes : (made root).at p ≡ free_bytes root.first_free = written-other (with_bytes pages page (free_bytes root.first_free)) 0 p (root_bytes (in_front page root)) off ∙ (rw same.0 refl) in
          absurd (three (subst (λ (b : List ℕ). get_or b 0 0 ≤ 1) bytes at.holds.kind))
      | inr differ ↦
          let off : p ≢ 0 = λ e. absurd (omega (arith, e, at.named)) in
          closed p held here (at-same size (made root) pages p held (sym (written-other (with_bytes pages page (free_bytes root.first_free)) 0 p (root_bytes (in_front page root)) off ∙ written-other pages page p (free_bytes root.first_free) differ.1)) at)
    ]
      where
        three : 3 ≤ 1 → ⊥
        three le = omega (arith, le)

    choose : (root : Root) (b : Bool) → Is (cond b (Ok (tt, made root)) (Err (broken page))) → Closed T size after
    choose root true e = subst (Closed T size) (ap (λ (x : Unit {0} × Pages). x.1) (ok-one e)) (still root)
    choose root false e = ok-no_ e
      where
        ok-no_ : Is (Err (broken page)) → Closed T size after
        ok-no_ x = absurd cc

    found : (answer : Result Root Refusal) → Is (answer >>= λ root. cond (is_root size (in_front page root)) (Ok (tt, made root)) (Err (broken page))) → Closed T size after
    found (Ok root) e = choose root (is_root size (in_front page root)) e
    found (Err why) e = absurd cc

-- a page that leaves its chain leaves them closed
pub closed-unlinked : (T : ℕ → Type 0) (size : ℕ) (pages after : Pages) → Closed T size pages → ((page : ℕ) → T page → page < 2 ^ 32) → (first previous page next : ℕ) → T first → (next ≡ 0) ⊎ T next → unlinked size pages first previous page next (Ok (tt, after)) → Closed T size after
closed-unlinked T size pages after closed small first previous page next head_in next_in (before, at, (named, rename, free)) =
    closed-freed T size named.1 after (go (next == 0) rename) page free
  where
    bound : (n : ℕ) → (n ≡ 0) ⊎ T n → n < 2 ^ 32
    bound n (inl none) = omega (arith, none)
    bound n (inr here) = small n here

    one : Pages
    one = with_bytes pages previous (page_bytes (record before { next = next }))

    closed-one : Closed T size one
    closed-one = closed-write T size pages closed previous (record before { next = next }) (bound next next_in) next_in

    rename_first : Result (Unit {0} × Pages) Refusal → Type 0
    rename_first = allows.◌>>=◌ (heap_page size one first) (λ (head : HeapPage). only (Ok (tt, with_bytes one first (page_bytes (record head { last = last_field first previous })))))

    go : (b : Bool) → either b rename_first (only (Ok (tt, one))) (Ok (tt, named.1)) → Closed T size named.1
    go true (head, head_at, h) =
        let next_of_head = closed-one first head head_in head_at in
        subst (Closed T size) (ap (λ (x : Unit {0} × Pages). x.1) (ok-one h)) (closed-write T size one closed-one first (record head { last = last_field first previous }) (bound head.next next_of_head) next_of_head)
    go false h = subst (Closed T size) (ap (λ (x : Unit {0} × Pages). x.1) (ok-one h)) closed-one

-- a row that is taken out leaves them closed
pub closed-removed : (T : ℕ → Type 0) (size : ℕ) (pages after : Pages) → Closed T size pages → ((page : ℕ) → T page → page < 2 ^ 32) → (first page number : ℕ) → T first → T page → removed size pages first page number (Ok (tt, after)) → Closed T size after
closed-removed T size pages after closed small first page number head_in here (held, at, (place, is, work)) = go (not (page == first) && (length (without held place).entries == 0)) work
  where
    next : (held.next ≡ 0) ⊎ T held.next
    next = closed page held here at

    bound : (held.next ≡ 0) ⊎ T held.next → held.next < 2 ^ 32
    bound (inl none) = omega (arith, none)
    bound (inr there) = small held.next there

    go : (b : Bool) → either b (allows.◌>>=◌ (met size pages first page) (λ (found : ℕ × HeapPage). unlinked size pages first found.0 page held.next)) (only (Ok (tt, with_bytes pages page (page_bytes (without held place))))) (Ok (tt, after)) → Closed T size after
    go true (found, found_at, h) = closed-unlinked T size pages after closed small first found.0 page held.next head_in next h
    go false h = subst (Closed T size) (ap (λ (x : Unit {0} × Pages). x.1) (ok-one h)) (closed-write T size pages closed page (without held place) (bound next) next)
