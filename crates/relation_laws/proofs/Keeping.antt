-- An index on pages of a well-formed store: what an edit of it does to it, and to all else.
use Rattle.std.proofs.Common.{◌≡◌, ◌∙◌, ◌<◌, ◌+◌, ◌++◌, ◌⊎◌, ℕ, zero, suc, List, [], ◌∷◌, map, Result, Ok, Err, inl, inr, refl, sym, ap, subst, arith, append_assoc, length}
use Rattle.std.specs.List.{Contains, range_with_len}
use Rattle.std.specs.List.Sorted.{IsPermutation}
use Rattle.std.proofs.lemmas.Bool.Decides.{eqb_tells}
use Rattle.std.proofs.lemmas.List.{length-map, map-append}
use Rattle.std.proofs.lemmas.List.Elements.{Contains-append_right}
use Rattle.std.proofs.lemmas.List.Sorted.{Contains-permutation, IsPermutation-append, IsPermutation-append_comm, IsPermutation-refl, IsPermutation-sym, IsPermutation-trans}
use Rattle.retro_base.specs.Gives.{◌>>=◌}
use Rattle.retro_base.specs.declared.refusal.Refusal.{Refusal}
use Rattle.retro_base.specs.declared.refusal.Refusal.TheVariants.{PagesFull}
use Rattle.values.specs.Value.{kind_of}
use Rattle.pager.specs.Index.{AddsFound, AreOfKind, EditsOnly, IsFound, MakesIndex, RemovesFound}
use Rattle.pager.specs.Pages.{Pages}
use Rattle.pager.specs.Root.{all_taken, taken}
use Rattle.pager.specs.declared.index.Found.{Found}
use Rattle.heap_file.specs.declared.chain.Link.{Link}
use Rattle.heap_file.specs.Chain.{IsWay}
use Rattle.heap_laws.specs.Laws.{AreSpared, TakesForIndexes}
use Rattle.heap_laws.specs.Store.{WellFormed, free_pages, times}
use Rattle.heap_laws.specs.Table.{AllStay}
use Rattle.heap_laws.proofs.Apart.{index-apart, own, own-links, zero-apart}
use Rattle.heap_laws.proofs.Editing.{free-same}
use Rattle.heap_laws.proofs.Indexing.{index_pages_law}
use Rattle.heap_laws.proofs.Reading.{ok-one}
use Rattle.heap_laws.proofs.Roots.{Taken, rooted-same, take-answer}
use Rattle.heap_laws.proofs.Routes.{leads-same, pages_on, times-append}
use Rattle.heap_laws.proofs.Stores.{root-apart, times-some}
use Rattle.relation_laws.specs.Needs.{next_pages, taken_after}
use Rattle.relation_laws.specs.Reach.{IsUntouched, with_root}
use Rattle.relation_laws.proofs.Drawing.{Draws, all-times, draws-none, draws-one, draws-pages, draws-still, draws-then, next-first}
use Rattle.relation_laws.proofs.Eaches.{range-append}
use Rattle.relation_laws.proofs.IndexKind.{IndexKind}
use Rattle.relation_laws.proofs.KeyTurns.{contains-split}
use Rattle.relation_laws.proofs.Lists.{contains-cases, contains-cons, contains-head, contains-left}
use Rattle.relation_laws.proofs.Needing.{next-more}
use Rattle.relation_laws.proofs.Reaching.{held-count, untouched-then}

-- the root page with pages, among which there are these
pub root-wider : (list more : List ℕ) → ((p : ℕ) → Contains list p → Contains more p) → (p : ℕ) → Contains (with_root list) p → Contains (with_root more) p
root-wider [] more wider p has = absurd (omega (arith, has.1))
root-wider (q ∷ list) [] wider p has = absurd (omega (arith, (wider q (contains-head q list)).1))
root-wider (q ∷ list) (r ∷ more) wider p has =
    contains-cases 0 p (q ∷ list) has
    (λ here. subst (Contains (0 ∷ r ∷ more)) here (contains-head 0 (r ∷ more)))
    (λ there. contains-cons p 0 (r ∷ more) (wider p there))

pub in-root : (list : List ℕ) (p : ℕ) → Contains list p → Contains (with_root list) p
in-root [] p has = has
in-root (q ∷ list) p has = contains-cons p 0 (q ∷ list) has

-- the pages that are taken next, in two parts
pub next-join : (pages mid : Pages) (one two : ℕ) → Draws pages mid one → next_pages pages one ++ next_pages mid two ≡ next_pages pages (one + two)
next-join pages mid one two draws =
    ap (λ (l : List ℕ). next_pages pages one ++ l) (draws-pages pages mid one 0 two draws)
    ∙ ap (λ (b : ℕ). next_pages pages one ++ map (taken_after pages) (range_with_len b two)) same
    ∙ sym (map-append (taken_after pages) (range_with_len 0 one) (range_with_len (0 + one) two))
    ∙ ap (map (taken_after pages)) (sym (range-append 0 one two))
  where
    same : one + 0 ≡ 0 + one
    same = omega arith

-- a page that a call may edit which takes so many: one of these, one of those that are taken, or with them the root page
abbrev pub Reached : Pages → List ℕ → ℕ → ℕ → Type 0
Reached pages held takes page = Contains held page ⊎ Contains (with_root (next_pages pages takes)) page

pub root-left : (pages mid : Pages) (one two page : ℕ) → Draws pages mid one → Contains (with_root (next_pages pages one)) page → Contains (with_root (next_pages pages (one + two))) page
root-left pages mid one two page draws next =
    root-wider (next_pages pages one) (next_pages pages (one + two)) (λ p there. subst (λ (l : List ℕ). Contains l p) (next-join pages mid one two draws) (contains-left (next_pages pages one) (next_pages mid two) p there)) page next

pub reached-left : (pages mid : Pages) (held : List ℕ) (one two page : ℕ) → Draws pages mid one → Reached pages held one page → Reached pages held (one + two) page
reached-left pages mid held one two page draws (inl has) = inl has
reached-left pages mid held one two page draws (inr next) = inr (root-left pages mid one two page draws next)

pub root-right : (pages mid : Pages) (one two page : ℕ) → Draws pages mid one → Contains (with_root (next_pages mid two)) page → Contains (with_root (next_pages pages (one + two))) page
root-right pages mid one two page draws next =
    root-wider (next_pages mid two) (next_pages pages (one + two)) (λ p there. subst (λ (l : List ℕ). Contains l p) (next-join pages mid one two draws) (Contains-append_right (next_pages pages one) (next_pages mid two) p there)) page next

-- each page but those that are reached is untouched
abbrev pub ReachesOnly : Pages → Pages → List ℕ → ℕ → Type 0
ReachesOnly pages after held takes = (page : ℕ) → IsUntouched pages after page ⊎ Reached pages held takes page

-- a page before those that are taken behind it
abbrev joined : ℕ → Result (List ℕ × Pages) Refusal → Result (List ℕ × Pages) Refusal
joined page rest = rest >>= λ more. Ok (page ∷ more.0, more.1)

abbrev taken_on : ℕ → ℕ → Result (ℕ × Pages) Refusal → Result (List ℕ × Pages) Refusal
taken_on size count next = next >>= λ n. joined n.0 (all_taken size count n.1)

-- the pages that were taken are those that were next
pub record Next (size : ℕ) (pages after : Pages) (count : ℕ) (opened : List ℕ) : Type 0 where
  pub are : opened ≡ next_pages pages count
  pub draws : Draws pages after count
  pub root_alone : (page : ℕ) → IsUntouched pages after page ⊎ ((page ≡ 0) × (0 < count))

pub next-taken : (size : ℕ) (pages after : Pages) (firsts indexes : List ℕ) (count : ℕ) (opened : List ℕ) → WellFormed size pages firsts indexes → all_taken size count pages ≡ Ok (opened, after) → Next size pages after count opened
next-taken size pages after firsts indexes zero opened well is =
    let same = ok-one is in
    subst (λ (q : List ℕ × Pages). Next size pages q.1 zero q.0) same (record { are = refl; draws = draws-still pages; root_alone = λ page. inl (refl, refl) })
next-taken size pages after firsts indexes (suc count) opened well is = go (λ mid rest more ready taken_is. next-taken size mid after firsts more count rest ready taken_is) (taken size pages) refl is
  where
    go : ((mid : Pages) (rest more : List ℕ) → WellFormed size mid firsts more → all_taken size count mid ≡ Ok (rest, after) → Next size mid after count rest)
        → (r : Result (ℕ × Pages) Refusal) → taken size pages ≡ r → taken_on size count r ≡ Ok (opened, after) → Next size pages after (suc count) opened
    go rest (Err why) first h = absurd cc
    go rest (Ok next) first h = on (all_taken size count next.1) refl h
      where
        one : Taken size pages firsts indexes next.0 next.1
        one = take-answer size pages firsts indexes (Ok next) well first

        apart : (p : ℕ) → 0 < times p well.free → p ≡ 0 → ⊥
        apart p some e = omega (arith, subst (λ (k : ℕ). 0 < times k well.free) e some, held-count size pages firsts indexes well 0, root-apart size pages firsts indexes well)

        same_at : (p : ℕ) → (p ≡ 0 → ⊥) → next.1.at p ≡ pages.at p
        same_at p other = ap (λ (q : Pages). q.at p) one.after_is ∙ rooted-same pages one.root p other

        draws : Draws pages next.1 1
        draws = draws-one size pages next.1 firsts indexes next well first refl (λ p some differ. same_at p (apart p some))

        step : (page : ℕ) → IsUntouched pages next.1 page ⊎ ((page ≡ 0) × (0 < suc count))
        step page = elim (eqb_tells page 0) [
          | inl root ↦ inr (root.1, omega arith)
          | inr differ ↦ inl (same_at page differ.1, ap (λ (q : Pages). q.edited page) one.after_is ∙ (rw differ.0 refl))
        ]

        on : (r : Result (List ℕ × Pages) Refusal) → all_taken size count next.1 ≡ r → joined next.0 r ≡ Ok (opened, after) → Next size pages after (suc count) opened
        on (Err why) second h = absurd cc
        on (Ok y) second h =
            let same = ok-one h in
            let behind : Next size next.1 after count y.0 = rest next.1 y.0 (next.0 ∷ indexes) one.well (second ∙ ap (λ (q : Pages). Ok (y.0, q)) (ap (λ (q : List ℕ × Pages). q.1) same)) in
            let count_is : 1 + count ≡ suc count = omega arith in
            record {
              are = sym (ap (λ (q : List ℕ × Pages). q.0) same)
                  ∙ ap (λ (l : List ℕ). next.0 ∷ l) behind.are
                  ∙ ap (λ (q : ℕ). q ∷ next_pages next.1 count) (one.takes.next ∙ next-first pages)
                  ∙ next-more pages next.1 count draws
                  ∙ ap (next_pages pages) count_is;
              draws = subst (Draws pages after) count_is (draws-then pages next.1 after 1 count draws behind.draws);
              root_alone = λ page. elim (step page) [
                | inr root ↦ inr root
                | inl here ↦ elim (behind.root_alone page) [
                  | inl also ↦ inl (untouched-then pages next.1 after page here also)
                  | inr root ↦ inr (root.0, omega arith)
                ]
              ];
            }

-- what is written on pages of indexes leaves those that are taken next
pub draws-written : (size : ℕ) (pages after : Pages) (firsts indexes : List ℕ) → WellFormed size pages firsts indexes → EditsOnly indexes pages after → Draws pages after 0
draws-written size pages after firsts indexes well edits =
    draws-none size pages after firsts indexes well
    (off 0 (omega (arith, held-count size pages firsts indexes well 0, root-apart size pages firsts indexes well)))
    (all-times well.free (λ p. after.at p ≡ pages.at p) (λ p some. off p (omega (arith, some, held-count size pages firsts indexes well p, well.once p))))
  where
    off : (p : ℕ) → times p indexes ≡ 0 → after.at p ≡ pages.at p
    off p none = elim (edits p) [
      | inl has ↦ absurd (omega (arith, none, times-some indexes p has))
      | inr same ↦ same.0
    ]

-- page 0 holds no index
pub zero-off : (size : ℕ) (pages : Pages) (firsts indexes : List ℕ) (well : WellFormed size pages firsts indexes) → Contains indexes 0 → ⊥
zero-off size pages firsts indexes well has = omega (arith, times-some indexes 0 has, held-count size pages firsts indexes well 0, root-apart size pages firsts indexes well)

-- pages of one index are none of the others'
pub parts-apart : (size : ℕ) (pages : Pages) (firsts one others : List ℕ) (well : WellFormed size pages firsts (one ++ others)) (p : ℕ) → Contains one p → Contains others p → ⊥
parts-apart size pages firsts one others well p here there =
    omega (arith, times-some one p here, times-some others p there, times-append p one others, held-count size pages firsts (one ++ others) well p, well.once p)

-- the root page stands before pages that are taken
zero-there : (list : List ℕ) (page : ℕ) → page ≡ 0 → 0 < length list → Contains (with_root list) page
zero-there [] page root some = absurd (omega (arith, some))
zero-there (q ∷ list) page root some = subst (Contains (0 ∷ q ∷ list)) (sym root) (contains-head 0 (q ∷ list))

next-long : (pages : Pages) (count : ℕ) → length (next_pages pages count) ≡ count
next-long pages count = length-map (range_with_len 0 count) (taken_after pages) ∙ length-range 0 count
  where
    length-range : (from count : ℕ) → length (range_with_len from count) ≡ count
    length-range from zero = refl
    length-range from (suc count) = ap suc (length-range (from + 1) count)

-- the pages of tables are left alone
abbrev pub SparesTables : ℕ → Pages → Pages → List ℕ → Type 0
SparesTables size pages after firsts = (other : ℕ) → Contains firsts other → (links : List Link) → IsWay size pages other links 0 → (p : ℕ) → 0 < times p (pages_on links) → IsUntouched pages after p

pub tables-then : (size : ℕ) (pages mid after : Pages) (firsts : List ℕ) → SparesTables size pages mid firsts → SparesTables size mid after firsts → SparesTables size pages after firsts
tables-then size pages mid after firsts one two other also links leads p there =
    untouched-then pages mid after p (one other also links leads p there) (two other also links (leads-same size pages mid other links 0 (λ q in_. (one other also links leads q in_).0) leads) p there)

-- where the root page and pages of indexes are edited alone
pub tables-spared : (size : ℕ) (pages after : Pages) (firsts indexes : List ℕ) → WellFormed size pages firsts indexes → ((page : ℕ) → IsUntouched pages after page ⊎ (page ≡ 0) ⊎ Contains indexes page) → SparesTables size pages after firsts
tables-spared size pages after firsts indexes well edits other also links leads p there = go (edits p)
  where
    here : 0 < times p (own size pages firsts indexes other well also)
    here = subst (λ (k : ℕ). 0 < k) (own-links size pages firsts indexes other well also links leads p) there

    go : IsUntouched pages after p ⊎ (p ≡ 0) ⊎ Contains indexes p → IsUntouched pages after p
    go (inl same) = same
    go (inr (inl root)) = absurd (zero-apart size pages firsts indexes other well also (subst (λ (k : ℕ). 0 < times k (own size pages firsts indexes other well also)) root here))
    go (inr (inr has)) = absurd (index-apart size pages firsts indexes other well also p p (times-some indexes p has) (inr (inl here)) refl)

module _ (I : IndexKind) where
  -- an index was edited: it holds another shape, on its pages and on those that were taken, and all else is as it was
  pub record Edited (size : ℕ) (pages after : Pages) (firsts others : List ℕ) (root : ℕ) (shape : I.Shape) (held : List ℕ) (takes : ℕ) : Type 0 where
    pub behind : List ℕ
    pub is : I.lists size after root shape behind
    pub well : WellFormed size after firsts (behind ++ others)
    pub stay : AllStay size pages after firsts
    pub tables : SparesTables size pages after firsts
    pub spared : AreSpared others pages after
    pub fewer : takes + free_pages size after ≡ free_pages size pages
    pub draws : Draws pages after takes
    pub edits : ReachesOnly pages after held takes
    pub grows : (page : ℕ) → Contains behind page → Contains held page ⊎ Contains (next_pages pages takes) page

  pub edited-none : (size : ℕ) (pages : Pages) (firsts others : List ℕ) (root : ℕ) (shape : I.Shape) (held : List ℕ) → WellFormed size pages firsts (held ++ others) → I.lists size pages root shape held → Edited size pages pages firsts others root shape held 0
  edited-none size pages firsts others root shape held well is = record {
    behind = held;
    is = is;
    well = well;
    stay = λ first has table told. told;
    tables = λ other also links leads p there. (refl, refl);
    spared = λ page has. (refl, refl);
    fewer = omega arith;
    draws = draws-still pages;
    edits = λ page. inl (refl, refl);
    grows = λ page has. inl has;
  }

  pub edited-then : (size : ℕ) (pages mid after : Pages) (firsts others : List ℕ) (root : ℕ) (shape next : I.Shape) (held : List ℕ) (takes more : ℕ) (one : Edited size pages mid firsts others root shape held takes) → Edited size mid after firsts others root next one.behind more → Edited size pages after firsts others root next held (takes + more)
  edited-then size pages mid after firsts others root shape next held takes more one two = record {
    behind = two.behind;
    is = two.is;
    well = two.well;
    stay = λ first has table told. two.stay first has table (one.stay first has table told);
    tables = tables-then size pages mid after firsts one.tables two.tables;
    spared = λ page has. untouched-then pages mid after page (one.spared page has) (two.spared page has);
    fewer = omega (arith, one.fewer, two.fewer);
    draws = draws-then pages mid after takes more one.draws two.draws;
    edits = λ page. elim (one.edits page) [
      | inr reached ↦ inr (reached-left pages mid held takes more page one.draws reached)
      | inl same ↦ elim (two.edits page) [
        | inl also ↦ inl (untouched-then pages mid after page same also)
        | inr reached ↦ inr (second page reached)
      ]
    ];
    grows = λ page has. elim (two.grows page has) [
      | inr next ↦ inr (right page next)
      | inl here ↦ elim (one.grows page here) [
        | inl before ↦ inl before
        | inr next ↦ inr (left page next)
      ]
    ];
  }
    where
      left : (page : ℕ) → Contains (next_pages pages takes) page → Contains (next_pages pages (takes + more)) page
      left page there = subst (λ (l : List ℕ). Contains l page) (next-join pages mid takes more one.draws) (contains-left (next_pages pages takes) (next_pages mid more) page there)

      right : (page : ℕ) → Contains (next_pages mid more) page → Contains (next_pages pages (takes + more)) page
      right page there = subst (λ (l : List ℕ). Contains l page) (next-join pages mid takes more one.draws) (Contains-append_right (next_pages pages takes) (next_pages mid more) page there)

      second : (page : ℕ) → Reached mid one.behind more page → Reached pages held (takes + more) page
      second page (inr next) = inr (root-right pages mid takes more page one.draws next)
      second page (inl here) = elim (one.grows page here) [
        | inl before ↦ inl before
        | inr next ↦ inr (in-root (next_pages pages (takes + more)) page (left page next))
      ]

  -- what an edit of an index answers, which takes so many pages
  abbrev pub EditAnswer : (size : ℕ) (pages : Pages) (firsts others : List ℕ) (root : ℕ) (shape : I.Shape) (held : List ℕ) (takes : ℕ) → Result (Unit {0} × Pages) Refusal → Type 0
  EditAnswer size pages firsts others root shape held takes (Ok y) = Edited size pages y.1 firsts others root shape held takes
  EditAnswer size pages firsts others root shape held takes (Err why) = (why ≡ PagesFull size) × (free_pages size pages < takes)

  -- pages were taken for an index, and it was edited on them and on its own
  pub opened-edited : (size : ℕ) (pages before after : Pages) (firsts others : List ℕ) (root : ℕ) (shape : I.Shape) (held opened behind : List ℕ) (takes : ℕ) → WellFormed size pages firsts (held ++ others) → all_taken size takes pages ≡ Ok (opened, before) → EditsOnly (held ++ opened) before after → IsPermutation (held ++ opened) behind → I.lists size after root shape behind
      → Edited size pages after firsts others root shape held takes
  opened-edited size pages before after firsts others root shape held opened behind takes well taken_is edits moves is_put = record {
    behind = behind;
    is = is_put;
    well = index_pages_law.reorder size after firsts (opened ++ (held ++ others)) (behind ++ others) framed.0 order;
    stay = λ first has table told. framed.1 first has table (many.stay first has table told);
    tables = tables-then size pages before after firsts
        (tables-spared size pages before firsts (held ++ others) well (λ page. elim (next.root_alone page) [
          | inl same ↦ inl same
          | inr root ↦ inr (inl root.0)
        ]))
        (tables-spared size before after firsts (opened ++ (held ++ others)) many.well (λ page. elim (wide page) [
          | inl has ↦ inr (inr has)
          | inr same ↦ inl same
        ]));
    spared = spared;
    fewer = omega (arith, many.fewer, free-same size before after zero_same);
    draws = subst (Draws pages after) (plain_sum takes) (draws-then pages before after takes 0 next.draws (draws-written size before after firsts (opened ++ (held ++ others)) many.well wide));
    edits = reaches;
    grows = λ page has. grows page (contains-split held opened page (Contains-permutation behind (held ++ opened) page (IsPermutation-sym (held ++ opened) behind moves) has));
  }
    where
      plain_sum : (k : ℕ) → k + 0 ≡ k
      plain_sum k = omega arith

      many : TakesForIndexes size pages firsts (held ++ others) takes opened before
      many = index_pages_law.take_many size pages firsts (held ++ others) takes (Ok (opened, before)) well taken_is

      next : Next size pages before takes opened
      next = next-taken size pages before firsts (held ++ others) takes opened well taken_is

      within : (page : ℕ) → Contains (held ++ opened) page → Contains (opened ++ (held ++ others)) page
      within page has = elim (contains-split held opened page has) [
        | inl here ↦ Contains-append_right opened (held ++ others) page (contains-left held others page here)
        | inr there ↦ contains-left opened (held ++ others) page there
      ]

      wide : EditsOnly (opened ++ (held ++ others)) before after
      wide page = elim (edits page) [
        | inl has ↦ inl (within page has)
        | inr same ↦ inr same
      ]

      framed : WellFormed size after firsts (opened ++ (held ++ others)) × AllStay size before after firsts
      framed = index_pages_law.write size before after firsts (opened ++ (held ++ others)) many.well wide

      order : IsPermutation (opened ++ (held ++ others)) (behind ++ others)
      order = subst (λ (l : List ℕ). IsPermutation l (behind ++ others)) (append_assoc opened held others)
          (IsPermutation-append (opened ++ held) behind others others (IsPermutation-trans (opened ++ held) (held ++ opened) behind (IsPermutation-append_comm opened held) moves) (IsPermutation-refl others))

      zero_same : after.at 0 ≡ before.at 0
      zero_same = elim (edits 0) [
        | inl has ↦ absurd (zero-off size before firsts (opened ++ (held ++ others)) many.well (within 0 has))
        | inr same ↦ same.0
      ]

      spared : AreSpared others pages after
      spared page has = untouched-then pages before after page first second
        where
          off : Contains (held ++ opened) page → ⊥
          off there = omega (arith, times-some (held ++ opened) page there, times-some others page has, times-append page held opened, times-append page opened (held ++ others), times-append page held others, held-count size before firsts (opened ++ (held ++ others)) many.well page, many.well.once page)

          first : IsUntouched pages before page
          first = elim (next.root_alone page) [
            | inl same ↦ same
            | inr root ↦ absurd (zero-off size pages firsts (held ++ others) well (subst (Contains (held ++ others)) root.0 (Contains-append_right held others page has)))
          ]

          second : IsUntouched before after page
          second = elim (edits page) [
            | inl there ↦ absurd (off there)
            | inr same ↦ same
          ]

      reaches : ReachesOnly pages after held takes
      reaches page = elim (next.root_alone page) [
        | inr root ↦ inr (inr (zero-there (next_pages pages takes) page root.0 (subst (λ (n : ℕ). 0 < n) (sym (next-long pages takes)) root.1)))
        | inl same ↦ elim (edits page) [
          | inr also ↦ inl (untouched-then pages before after page same also)
          | inl has ↦ elim (contains-split held opened page has) [
            | inl here ↦ inr (inl here)
            | inr there ↦ inr (inr (in-root (next_pages pages takes) page (subst (λ (l : List ℕ). Contains l page) next.are there)))
          ]
        ]
      ]

      grows : (page : ℕ) → Contains held page ⊎ Contains opened page → Contains held page ⊎ Contains (next_pages pages takes) page
      grows page (inl here) = inl here
      grows page (inr there) = inr (subst (λ (l : List ℕ). Contains l page) next.are there)

  -- what making an index answers
  abbrev pub MakeAnswer : (size : ℕ) (pages : Pages) (firsts held : List ℕ) → Result (ℕ × Pages) Refusal → Type 0
  MakeAnswer size pages firsts held (Ok y) = Edited size pages y.1 firsts held y.0 I.empty [] 1
  MakeAnswer size pages firsts held (Err why) = (why ≡ PagesFull size) × (free_pages size pages < 1)

  -- an entry is added
  pub add-answer : (size root : ℕ) (entry : Found) (pages : Pages) (firsts others : List ℕ) (shape : I.Shape) (held : List ℕ) (answer : Result (Unit {0} × Pages) Refusal) → WellFormed size pages firsts (held ++ others) → I.lists size pages root shape held
      → IsFound entry → AreOfKind (kind_of entry.value) (I.entries shape) → I.added size root entry pages answer → EditAnswer size pages firsts others root (I.put entry shape) held (I.opens entry.value entry.number shape) answer
  add-answer size root entry pages firsts others shape held answer well is found kind work =
      go answer (I.indexing.add size root entry pages shape held answer is (index_pages_law.apart size pages firsts held others well) found kind work)
    where
      go : (answer : Result (Unit {0} × Pages) Refusal) → AddsFound (λ after behind. I.lists size after root (I.put entry shape) behind) size (I.opens entry.value entry.number shape) held pages answer → EditAnswer size pages firsts others root (I.put entry shape) held (I.opens entry.value entry.number shape) answer
      go (Err why) h = index_pages_law.take_many size pages firsts (held ++ others) (I.opens entry.value entry.number shape) (Err why) well h
      go (Ok y) (opened, before, taken_is, edits, behind, moves, is_put) = opened-edited size pages before y.1 firsts others root (I.put entry shape) held opened behind (I.opens entry.value entry.number shape) well taken_is edits moves is_put

  -- an index without entries is made
  pub make-answer : (size : ℕ) (pages : Pages) (firsts held : List ℕ) (answer : Result (ℕ × Pages) Refusal) → WellFormed size pages firsts held → I.made size pages answer → MakeAnswer size pages firsts held answer
  make-answer size pages firsts held answer well work = go answer (I.indexing.make size pages answer work)
    where
      one-taken : (r : Result (ℕ × Pages) Refusal) → taken size pages ≡ r → all_taken size 1 pages ≡ taken_on size 0 r
      one-taken r e = ap (taken_on size 0) e

      go : (answer : Result (ℕ × Pages) Refusal) → MakesIndex I.lists I.empty size pages answer → MakeAnswer size pages firsts held answer
      go (Err why) h = let full = index_pages_law.take_many size pages firsts held 1 (Err why) well (one-taken (Err why) h) in full
      go (Ok y) (before, taken_is, edits, is) =
          opened-edited size pages before y.1 firsts held y.0 I.empty [] (y.0 ∷ []) (y.0 ∷ []) 1 well (one-taken (Ok (y.0, before)) taken_is) edits (IsPermutation-refl (y.0 ∷ [])) is

  -- an entry is taken out
  pub remove-answer : (size root : ℕ) (entry : Found) (pages : Pages) (firsts others : List ℕ) (shape : I.Shape) (held : List ℕ) (answer : Result (Unit {0} × Pages) Refusal) → WellFormed size pages firsts (held ++ others) → I.lists size pages root shape held
      → AreOfKind (kind_of entry.value) (I.entries shape) → I.removed size root entry pages answer → EditAnswer size pages firsts others root (I.without entry shape) held 0 answer
  remove-answer size root entry pages firsts others shape held answer well is kind work = go answer (I.indexing.remove size root entry pages shape held answer is kind work)
    where
      go : (answer : Result (Unit {0} × Pages) Refusal) → RemovesFound (λ after. I.lists size after root (I.without entry shape) held) held pages answer → EditAnswer size pages firsts others root (I.without entry shape) held 0 answer
      go (Err why) h = absurd h
      go (Ok y) (edits, is_without) = record {
        behind = held;
        is = is_without;
        well = framed.0;
        stay = framed.1;
        tables = tables-spared size pages y.1 firsts (held ++ others) well (λ page. elim (wide page) [
          | inl has ↦ inr (inr has)
          | inr same ↦ inl same
        ]);
        spared = λ page has. elim (edits page) [
          | inl here ↦ absurd (parts-apart size pages firsts held others well page here has)
          | inr same ↦ same
        ];
        fewer = omega (arith, free-same size pages y.1 zero_same);
        draws = draws-written size pages y.1 firsts (held ++ others) well wide;
        edits = λ page. elim (edits page) [
          | inl here ↦ inr (inl here)
          | inr same ↦ inl same
        ];
        grows = λ page has. inl has;
      }
        where
          zero_same : y.1.at 0 ≡ pages.at 0
          zero_same = elim (edits 0) [
            | inl here ↦ absurd (zero-off size pages firsts (held ++ others) well (contains-left held others 0 here))
            | inr same ↦ same.0
          ]

          wide : EditsOnly (held ++ others) pages y.1
          wide page = elim (edits page) [
            | inl here ↦ inl (contains-left held others page here)
            | inr same ↦ inr same
          ]

          framed : WellFormed size y.1 firsts (held ++ others) × AllStay size pages y.1 firsts
          framed = index_pages_law.write size pages y.1 firsts (held ++ others) well wide
