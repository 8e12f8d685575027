-- How far the changed pages are known to wait.
use Rattle.std.proofs.Common.{◌≡◌, ◌∙◌, inl, inr, ◌≤◌, ◌<◌, ◌||◌, ◌++◌, ℕ, Bool, true, false, cond, eqb, List, refl, sym, ap, subst, arith}
use Rattle.std.specs.Prelude.{max, drop}
use Rattle.std.proofs.lemmas.Bool.{both_ways, or_cases}
use Rattle.history.specs.declared.entry.Change.{Change}
use Rattle.history.specs.declared.writes.PageImage.{PageImage}
use Rattle.history.specs.History.{captures}
use Rattle.history.specs.Writes.{is_among, pages_of}
use Rattle.history.proofs.Captures.{among-append}
use Rattle.race_model.specs.Desk.{Desk, writes_page}
use Rattle.race_model.specs.Machine.{acked_to, changed, written_desk}
use Rattle.desk.specs.declared.desk.Passed.{Passed}
use Rattle.desk.specs.Desk.{HasPassed, pending_of}

or_left : (a b : Bool) → a ≡ true → a || b ≡ true
or_left true b e = refl
or_left false b e = absurd (both_ways false refl e)

-- with the same captures pending, and no more pages dirty
pub passed_as : (passed : Passed) (desk other : Desk) → HasPassed passed desk → other.acked ≡ desk.acked → pending_of other ≡ pending_of desk → ((page : ℕ) → other.dirty page ≡ true → desk.dirty page ≡ true) → HasPassed passed other
passed_as passed desk other has acked pending less = record {
  known = omega (arith, has.known, acked);
  waits = λ e page lt dirty. ap (λ (l : List PageImage). is_among page (pages_of l)) pending ∙ has.waits (e ∙ acked) page lt (less page dirty);
}

-- a page that is dirty behind a write was so before
pub still_dirty : (desk : Desk) (page other : ℕ) → cond (eqb other page) false (desk.dirty other) ≡ true → desk.dirty other ≡ true
still_dirty desk page other dirty = case (eqb other page) (desk.dirty other) dirty where
  case : (b d : Bool) → cond b false d ≡ true → d ≡ true
  case true d e = absurd (both_ways false refl e)
  case false d e = e

-- with more captures acknowledged, or none
pub passed_acked : (passed : Passed) (desk : Desk) (number : ℕ) → HasPassed passed desk → HasPassed passed (acked_to desk number)
passed_acked passed desk number has = record {
  known = omega (arith, has.known);
  waits = λ e page lt dirty.
      let same : max desk.acked number ≡ desk.acked = omega (arith, has.known, e) in
      subst (λ (n : ℕ). is_among page (pages_of (drop n (captures desk.history))) ≡ true) (sym same) (has.waits (e ∙ same) page lt dirty);
}

-- behind a change, up to a place below which what it writes waits
pub passed_changed : (desk : Desk) (change : Change) (passed : Passed) → HasPassed passed desk → (more : List ℕ) → pages_of (pending_of (changed desk change)) ≡ pages_of (pending_of desk) ++ more
    → (place : ℕ) → place ≤ passed.page → ((page : ℕ) → page < place → writes_page page change ≡ true → is_among page (pages_of (pending_of (changed desk change))) ≡ true)
    → HasPassed (record { page = place; first = passed.first }) (changed desk change)
passed_changed desk change passed has more grows place less waits = record {
  known = has.known;
  waits = λ e page lt dirty. elim (or_cases (desk.dirty page) (writes_page page change) dirty) [
    | inl was ↦ ap (is_among page) grows ∙ among-append page (pages_of (pending_of desk)) more ∙ or_left (is_among page (pages_of (pending_of desk))) (is_among page more) (has.waits e page (omega (arith, lt, less)) was)
    | inr wrote ↦ waits page lt wrote
  ];
}
