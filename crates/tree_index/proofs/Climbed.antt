-- On the way back up a tree.
use Rattle.std.proofs.Common.{◌≡◌, ◌<◌, ◌^◌, ◌++◌, ◌∙◌, ℕ, false, List, [], ◌∷◌, length, get_or, take, drop, Some, None, Result, Ok, Err, refl, sym, ap, subst, inl, inr, arith, append_assoc}
use Rattle.std.proofs.lemmas.Bool.{eq-eqb}
use Rattle.retro_base.specs.declared.refusal.Refusal.{Refusal}
use Rattle.pager.specs.Draft.{drafted}
use Rattle.pager.specs.Pages.{Pages, with_bytes}
use Rattle.pager.specs.Root.{taken}
use Rattle.pager.specs.declared.index.Found.{Found}
use Rattle.index_page.specs.Entries.{entry_inserted}
use Rattle.index_page.specs.IndexPage.{half, have_room, page_bytes}
use Rattle.index_page.specs.declared.page.Form.{Form}
use Rattle.index_page.specs.declared.page.Form.TheVariants as form
use Rattle.index_page.specs.declared.page.IndexPage.{IndexPage}
use Rattle.tree_index.specs.declared.climb.Parts.{Parts}
use Rattle.tree_index.specs.declared.walk.Met.{Met}
use Rattle.tree_index.specs.declared.climb.Climb.{Climb}
use Rattle.tree_index.specs.Work.{all_written, climbed, cut, edited, lifted, parted, placed, second, split, with_entries}

-- the first of some entries
pub head-rest : (l : List Found) (f : Found) → 0 < length l → f ≡ get_or l 0 f → (rest : List Found) × (l ≡ f ∷ rest)
head-rest [] f some e = absurd (omega arith)
head-rest (x ∷ rest) f some e = (rest, ap (λ (y : Found). y ∷ rest) (sym e))

second-other : (f : Form) (link : ℕ) (first : Found) (rest : List Found) → (f ≡ form.Inner → ⊥) → record { form = f; link = link; entries = first ∷ rest } ≡ second f link first rest
second-other form.Run link first rest other = refl
second-other form.Inner link first rest other = absurd (other refl)
second-other form.Leaf link first rest other = refl

-- two halves of a leaf
pub halved : (whole : IndexPage) (next : ℕ) (front back : List Found) (copy first : Found) (rest : List Found) → (whole.form ≡ form.Inner → ⊥) → front ≡ take (half whole.entries) whole.entries → drop (half whole.entries) whole.entries ≡ first ∷ rest → copy ≡ first → back ≡ first ∷ rest → parted whole next (Ok (record { left = record { form = whole.form; link = whole.link; entries = front }; key = record { value = copy.value; number = copy.number; page = next }; right = record { form = whole.form; link = whole.link; entries = back } }))
halved whole next front back copy first rest other e d c b = (
  first,
  rest,
  d,
  λ i. record {
    left = record { form = whole.form; link = whole.link; entries = e i };
    key = record { value = (c i).value; number = (c i).number; page = next };
    right = (ap (λ (l : List Found). record { form = whole.form; link = whole.link; entries = l }) b ∙ second-other whole.form whole.link first rest other) i;
  },
)

-- once no key goes on up, the pages above stay
pub climbed-on : (size root : ℕ) (entry : Found) (pages : Pages) (front rest : List Met) (edits : List Met) (after : Pages) → climbed size root entry pages rest (Ok (record { edits = edits; up = None }, after)) → climbed size root entry pages (front ++ rest) (Ok (record { edits = edits; up = None }, after))
climbed-on size root entry pages [] rest edits after h = h
climbed-on size root entry pages (met ∷ front) rest edits after h = ((record { edits = edits; up = None }, after), climbed-on size root entry pages front rest edits after h, refl)

pub climbed-err : (size root : ℕ) (entry : Found) (pages : Pages) (front rest : List Met) (why : Refusal) → climbed size root entry pages rest (Err why) → climbed size root entry pages (front ++ rest) (Err why)
climbed-err size root entry pages [] rest why h = h
climbed-err size root entry pages (met ∷ front) rest why h = inl (climbed-err size root entry pages front rest why h)

-- what is known on the way, whatever the store's pages are that agree with what was read
pub record Climbing (tells : Pages → Pages → Type 0) (size root : ℕ) (entry : Found) (before after : List (ℕ × List ℕ)) (whole way : List Met) (edits : List Met) (up : Found) : Type 0 where
  pub passed : List Met
  pub whole_is : way ++ passed ≡ whole
  pub climbed_is : (base shown : Pages) → tells base shown → climbed size root entry (drafted shown before) passed (Ok (record { edits = edits; up = Some up }, drafted shown after))

-- the last page of a way
pub cut-last : (entry : Found) (front : List Met) (met : Met) → cut entry (front ++ met ∷ []) ≡ cut entry (met ∷ [])
cut-last entry [] met = refl
cut-last entry (first ∷ []) met = refl
cut-last entry (first ∷ (next ∷ rest)) met = cut-last entry (next ∷ rest) met

-- one page more is written
pub written-more : (pages : Pages) (edits : List Met) (met : Met) → all_written pages (edits ++ met ∷ []) ≡ with_bytes (all_written pages edits) met.page (page_bytes met.held)
written-more pages [] met = refl
written-more pages (first ∷ edits) met = written-more (with_bytes pages first.page (page_bytes first.held)) edits met

-- what is put on two pages of a root is split
pub split-lifted : (size root page : ℕ) (whole : IndexPage) (edits begun : List Met) (pages : Pages) (next : ℕ × Pages) (parts : Parts) → page ≡ root → taken size pages ≡ Ok next → next.0 < 2 ^ 32 → parted whole next.0 (Ok parts) → begun ≡ edits ++ record { page = next.0; held = parts.right } ∷ [] → (answer : Result (Climb × Pages) Refusal) → lifted size root parts.left parts.key begun next.1 answer → split size root page whole edits pages answer
split-lifted size root page whole edits begun pages next parts here took small p b (Ok answer) h =
    let lift = subst (λ (l : List Met). lifted size root parts.left parts.key l next.1 (Ok answer)) b h in
    (next, (took, small), (parts, p, (rw (eq-eqb page root here) lift)))
split-lifted size root page whole edits begun pages next parts here took small p b (Err why) h =
    let lift = subst (λ (l : List Met). lifted size root parts.left parts.key l next.1 (Err why)) b h in
    inr (next, (took, small), inr (parts, p, (rw (eq-eqb page root here) lift)))

-- what has no room is placed by a split
pub placed-full : (size root : ℕ) (met : Met) (edits : List Met) (key : Found) (pages : Pages) → have_room (entry_inserted key met.held.entries) ≡ false → (answer : Result (Climb × Pages) Refusal) → split size root met.page (with_entries met.held (entry_inserted key met.held.entries)) edits pages answer → placed size root met edits (Some key) pages answer
placed-full size root met edits key pages full answer h = rw full h

-- a refusal on the way up
pub edited-err : (size root : ℕ) (entry : Found) (pages : Pages) (whole front passed : List Met) (met : Met) (state : Climb × Pages) (why : Refusal) → front ++ met ∷ passed ≡ whole → climbed size root entry pages passed (Ok state) → placed size root met state.0.edits state.0.up state.1 (Err why) → edited size root entry pages whole (Err why)
edited-err size root entry pages whole front passed met state why e before here =
    inl (subst (λ (l : List Met). climbed size root entry pages l (Err why)) e (climbed-err size root entry pages front (met ∷ passed) why (inr (state, before, here))))

-- no key is left on the way up
pub edited-ok : (size root : ℕ) (entry : Found) (pages : Pages) (whole front passed : List Met) (met : Met) (state : Climb × Pages) (edits : List Met) (after : Pages) → front ++ met ∷ passed ≡ whole → climbed size root entry pages passed (Ok state) → placed size root met state.0.edits state.0.up state.1 (Ok (record { edits = edits; up = None }, after)) → edited size root entry pages whole (Ok (edits, after))
edited-ok size root entry pages whole front passed met state edits after e before here =
    ((record { edits = edits; up = None }, after), subst (λ (l : List Met). climbed size root entry pages l (Ok (record { edits = edits; up = None }, after))) e (climbed-on size root entry pages front (met ∷ passed) edits after (state, before, here)), refl)

-- the way with one page fewer
pub popped : (way front passed whole : List Met) (met : Met) → way ≡ front ++ met ∷ [] → way ++ passed ≡ whole → front ++ met ∷ passed ≡ whole
popped way front passed whole met e w = sym (append_assoc front (met ∷ []) passed) ∙ ap (λ (l : List Met). l ++ passed) (sym e) ∙ w
