-- What looks pin, behind a line and a change of one session's work.
use Rattle.std.proofs.Common.{◌≡◌, ◌∙◌, ℕ, Bool, true, false, cond, eqb, List, [], ◌∷◌, ◌++◌, refl, sym, ap, subst, Option, Some, None}
use Rattle.std.proofs.lemmas.Bool.{eqb-true, eq-eqb}
use Rattle.retro_base.specs.declared.who.Who.{Who}
use Rattle.history.specs.declared.entry.Base.{Base}
use Rattle.history.specs.declared.journal.Line.{Line}
use Rattle.history.specs.declared.journal.What.{What}
use Rattle.history.specs.Lines.{pinned_by}
use Rattle.history.specs.Sound.{pins_of, same_item}
use Rattle.history.proofs.Items.{others_pins_stay, same_self}
use Rattle.history.proofs.SoundLaws.{items_are}
use Rattle.journal_book.specs.declared.work.Look.{Look}
use Rattle.journal_book.specs.declared.work.Transaction.{Transaction}
use Rattle.journal_book.specs.declared.work.Work.{Work}
use Rattle.journal_book.specs.declared.work.Work.TheVariants.{Open, Looking, KeptDrop}
use Rattle.journal_book.specs.Works.{with_work, work_at}
use Rattle.journal_book.proofs.Slots.{work_at_with}
use Rattle.txn_set.specs.WorksFit.{pins_at, Closes}

-- a work pins nothing for other items
abbrev pub PinsForNone : Who → Option Work → Type 0
PinsForNone owner work = (who : Who) → (who ≡ owner → ⊥) → pins_at who work ≡ []

pub none_pins : (owner : Who) → PinsForNone owner None
none_pins owner who other = refl

pub open_pins : (owner : Who) (t : Transaction) → PinsForNone owner (Some (Open t))
open_pins owner t who other = refl

pub drop_pins : (owner who : Who) → PinsForNone owner (Some (KeptDrop who))
drop_pins owner kept who other = refl

not_of : (owner who : Who) (look : Look) (test : Bool) → same_item look.who who ≡ test → look.who ≡ owner → (who ≡ owner → ⊥) → pins_at who (Some (Looking look)) ≡ []
not_of owner who look true e own other = absurd (other (sym (items_are look.who who e) ∙ own))
not_of owner who look false e own other = ap (λ (b : Bool). cond b look.pins []) e

pub look_pins : (owner : Who) (look : Look) → look.who ≡ owner → PinsForNone owner (Some (Looking look))
look_pins owner look own who other = not_of owner who look (same_item look.who who) refl own other

-- the work that a line closes pins nothing for other items
pub closed_pins : (owner : Who) (what : What) (work : Option Work) → Closes owner what work → PinsForNone owner work
closed_pins owner what None closes = none_pins owner
closed_pins owner what (Some (Open t)) closes = open_pins owner t
closed_pins owner what (Some (Looking look)) closes = look_pins owner look closes.1
closed_pins owner what (Some (KeptDrop who)) closes = drop_pins owner who

module _ (slots : List (Option Work)) (owner : Who) (work : Option Work) where
  at_session : (who : Who) (test : Bool) → eqb who.session owner.session ≡ test → PinsForNone owner (work_at slots owner.session) → PinsForNone owner work → (who ≡ owner → ⊥)
      → pins_at who (cond test work (work_at slots who.session)) ≡ pins_at who (work_at slots who.session)
  at_session who true e before behind other =
      behind who other ∙ sym (before who other) ∙ ap (λ (n : ℕ). pins_at who (work_at slots n)) (sym (eqb-true who.session owner.session e))
  at_session who false e before behind other = refl

  -- what others pin stays where one session's work changes
  pub others_stay : (who : Who) → PinsForNone owner (work_at slots owner.session) → PinsForNone owner work → (who ≡ owner → ⊥)
      → pins_at who (work_at (with_work slots owner.session work) who.session) ≡ pins_at who (work_at slots who.session)
  others_stay who before behind other =
      ap (pins_at who) (work_at_with slots owner.session who.session work) ∙ at_session who (eqb who.session owner.session) refl before behind other

  -- and its own is the new work's
  pub own_is : pins_at owner (work_at (with_work slots owner.session work) owner.session) ≡ pins_at owner work
  own_is = ap (pins_at owner) (work_at_with slots owner.session owner.session work ∙ ap (λ (b : Bool). cond b work (work_at slots owner.session)) (eq-eqb owner.session owner.session refl))

abbrev pub PinsAre : Base → List Line → List (Option Work) → Type 0
PinsAre opening lines slots = (who : Who) → pinned_by who (pins_of opening [] lines) ≡ pins_at who (work_at slots who.session)

module _ (opening : Base) (lines : List Line) (slots : List (Option Work)) (are : PinsAre opening lines slots) where
  by_item : (line : Line) (work : Option Work) (who : Who) (test : Bool) → same_item who line.who ≡ test → PinsForNone line.who (work_at slots line.who.session) → PinsForNone line.who work
      → pinned_by line.who (pins_of opening [] (lines ++ line ∷ [])) ≡ pins_at line.who work
      → pinned_by who (pins_of opening [] (lines ++ line ∷ [])) ≡ pins_at who (work_at (with_work slots line.who.session work) who.session)
  by_item line work who true e before behind own =
      subst (λ (w : Who). pinned_by w (pins_of opening [] (lines ++ line ∷ [])) ≡ pins_at w (work_at (with_work slots line.who.session work) w.session)) (sym (items_are who line.who e)) (own ∙ sym (own_is slots line.who work))
  by_item line work who false e before behind own =
      let other : who ≡ line.who → ⊥ = λ is. absurd (cc (e, ap (λ (w : Who). same_item w line.who) is, same_self line.who)) in
      others_pins_stay opening lines line who other ∙ are who ∙ sym (others_stay slots line.who work who before behind other)

  -- a line of an item, behind which its session has this work
  pub pins_behind_line : (line : Line) (work : Option Work) → PinsForNone line.who (work_at slots line.who.session) → PinsForNone line.who work
      → pinned_by line.who (pins_of opening [] (lines ++ line ∷ [])) ≡ pins_at line.who work → PinsAre opening (lines ++ line ∷ []) (with_work slots line.who.session work)
  pins_behind_line line work before behind own who = by_item line work who (same_item who line.who) refl before behind own

  -- a work of a session in the place of one that pins as much
  pub pins_same : (session : ℕ) (work : Option Work) → ((who : Who) → who.session ≡ session → pins_at who work ≡ pins_at who (work_at slots session)) → PinsAre opening lines (with_work slots session work)
  pins_same session work same who = are who ∙ sym (ap (pins_at who) (work_at_with slots session who.session work) ∙ at (eqb who.session session) refl) where
    at : (test : Bool) → eqb who.session session ≡ test → pins_at who (cond test work (work_at slots who.session)) ≡ pins_at who (work_at slots who.session)
    at true e = same who (eqb-true who.session session e) ∙ ap (λ (n : ℕ). pins_at who (work_at slots n)) (sym (eqb-true who.session session e))
    at false e = refl
