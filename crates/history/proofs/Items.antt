-- What each item pins, which items are open, and the first stop.
use Rattle.std.proofs.Common.{◌≡◌, inl, inr, ◌∙◌, ◌&&◌, ◌||◌, not, ℕ, Bool, true, false, cond, eqb, List, [], ◌∷◌, ◌++◌, map, filter, Option, Some, None, refl, sym, ap}
use Rattle.std.specs.Option.{option_or}
use Rattle.std.proofs.lemmas.Bool.{eq-eqb, false_from_ne_true}
use Rattle.retro_base.specs.declared.device.Device.{Device}
use Rattle.retro_base.specs.declared.who.Who.{Who}
use Rattle.history.specs.declared.entry.Base.{Base}
use Rattle.history.specs.declared.entry.Change.{Change}
use Rattle.history.specs.declared.entry.Mark.{Mark}
use Rattle.history.specs.declared.journal.FailedCall.{FailedCall}
use Rattle.history.specs.declared.journal.FailedCall.TheVariants.{Append, Read, Write}
use Rattle.history.specs.declared.journal.Line.{Line}
use Rattle.history.specs.declared.journal.What.{What}
use Rattle.history.specs.declared.journal.What.TheVariants.{Began, Done, Overlapped, RolledBack, Looked, LookedAll, Unlooked, Dropped, Refused, Fault}
use Rattle.history.specs.LineLaws.{ends_look, IsBeginning, NoLineOf, NoStop, EndedPinsNothing, OthersPinsStay, LooksPin, OpenWhereLastBegins, OpenByALine, NoneStops, FirstStops, OnlyStopsLeaveDoubt}
use Rattle.history.specs.declared.stop.Stop.{Stop}
use Rattle.history.specs.Lines.{base_of, pinned_by, begins, open_behind, open_from, open_in, is_open, is_write, stop_of, first_stop, doubt_in, doubt_of}
use Rattle.history.specs.Sound.{Pin, same_item, unpinned, pins_behind, pins_of}
use Rattle.history.proofs.Lines.{pins_of_one_more, open-append}
use Rattle.history.proofs.SoundLaws.{items_are}

pub same_self : (who : Who) → same_item who who ≡ true
same_self who =
    ap (λ (b : Bool). b && eqb who.session who.session && eqb who.item who.item) (eq-eqb who.phase who.phase refl)
    ∙ ap (λ (b : Bool). b && eqb who.item who.item) (eq-eqb who.session who.session refl)
    ∙ eq-eqb who.item who.item refl

pub apart_items : (who other : Who) → (who ≡ other → ⊥) → same_item who other ≡ false
apart_items who other apart = false_from_ne_true (same_item who other) (λ is. apart (items_are who other is))

-- ---- pins

ended_none : (who : Who) (pins : List Pin) → pinned_by who (unpinned who pins) ≡ []
ended_none who [] = refl
ended_none who (pin ∷ pins) = go (same_item pin.who who) refl (ended_none who pins) where
  go : (b : Bool) → same_item pin.who who ≡ b → pinned_by who (unpinned who pins) ≡ [] → pinned_by who (cond (not b) (pin ∷ unpinned who pins) (unpinned who pins)) ≡ []
  go true is again = again
  go false is again = ap (λ (b : Bool). map (λ (p : Pin). p.snapshot) (cond b (pin ∷ filter (λ (p : Pin). same_item p.who who) (unpinned who pins)) (filter (λ (p : Pin). same_item p.who who) (unpinned who pins)))) is ∙ again

with_other : (who : Who) (pin : Pin) (pins : List Pin) → same_item pin.who who ≡ false → pinned_by who (pin ∷ pins) ≡ pinned_by who pins
with_other who pin pins is = ap (λ (b : Bool). map (λ (p : Pin). p.snapshot) (cond b (pin ∷ filter (λ (p : Pin). same_item p.who who) pins) (filter (λ (p : Pin). same_item p.who who) pins))) is

with_own : (pin : Pin) (pins : List Pin) → pinned_by pin.who (pin ∷ pins) ≡ pin.snapshot ∷ pinned_by pin.who pins
with_own pin pins = ap (λ (b : Bool). map (λ (p : Pin). p.snapshot) (cond b (pin ∷ filter (λ (p : Pin). same_item p.who pin.who) pins) (filter (λ (p : Pin). same_item p.who pin.who) pins))) (same_self pin.who)

others_unpinned : (who ended : Who) (pins : List Pin) → (who ≡ ended → ⊥) → pinned_by who (unpinned ended pins) ≡ pinned_by who pins
others_unpinned who ended [] apart = refl
others_unpinned who ended (pin ∷ pins) apart = go (same_item pin.who ended) refl (others_unpinned who ended pins apart) where
  both : pinned_by who (unpinned ended pins) ≡ pinned_by who pins → (b : Bool) → same_item pin.who who ≡ b → pinned_by who (pin ∷ unpinned ended pins) ≡ pinned_by who (pin ∷ pins)
  both again true is =
      ap (λ (b : Bool). map (λ (p : Pin). p.snapshot) (cond b (pin ∷ filter (λ (p : Pin). same_item p.who who) (unpinned ended pins)) (filter (λ (p : Pin). same_item p.who who) (unpinned ended pins)))) is
      ∙ ap (λ (l : List ℕ). pin.snapshot ∷ l) again
      ∙ sym (ap (λ (b : Bool). map (λ (p : Pin). p.snapshot) (cond b (pin ∷ filter (λ (p : Pin). same_item p.who who) pins) (filter (λ (p : Pin). same_item p.who who) pins))) is)
  both again false is = with_other who pin (unpinned ended pins) is ∙ again ∙ sym (with_other who pin pins is)

  go : (b : Bool) → same_item pin.who ended ≡ b → pinned_by who (unpinned ended pins) ≡ pinned_by who pins → pinned_by who (cond (not b) (pin ∷ unpinned ended pins) (unpinned ended pins)) ≡ pinned_by who (pin ∷ pins)
  go true is again = again ∙ sym (with_other who pin pins (apart_items pin.who who (λ e. apart (sym e ∙ items_are pin.who ended is))))
  go false is again = both again (same_item pin.who who) refl

pins_at : Who → List Mark → List Pin
pins_at who marks = map (λ (mark : Mark). let pin : Pin = record { who = who; snapshot = mark.number } in pin) marks

others_look : (who other : Who) (marks : List Mark) (pins : List Pin) → (who ≡ other → ⊥) → pinned_by who (pins_at other marks ++ pins) ≡ pinned_by who pins
unfolding pins_at
others_look who other [] pins apart = refl
others_look who other (mark ∷ marks) pins apart =
    with_other who (record { who = other; snapshot = mark.number }) (pins_at other marks ++ pins) (apart_items other who (λ e. apart (sym e))) ∙ others_look who other marks pins apart

own_look : (who : Who) (marks : List Mark) (pins : List Pin) → pinned_by who (pins_at who marks ++ pins) ≡ map (λ (mark : Mark). mark.number) marks ++ pinned_by who pins
unfolding pins_at
own_look who [] pins = refl
own_look who (mark ∷ marks) pins = with_own (record { who = who; snapshot = mark.number }) (pins_at who marks ++ pins) ∙ ap (λ (l : List ℕ). mark.number ∷ l) (own_look who marks pins)

ended_behind : (base : Base) (pins : List Pin) (who : Who) (what : What) → ends_look what ≡ true → pinned_by who (pins_behind base pins who what) ≡ []
ended_behind base pins who Began is = absurd cc
ended_behind base pins who (Done label writes) is = absurd cc
ended_behind base pins who (Overlapped session item) is = absurd cc
ended_behind base pins who RolledBack is = absurd cc
ended_behind base pins who (Looked snapshot) is = absurd cc
ended_behind base pins who LookedAll is = absurd cc
ended_behind base pins who Unlooked is = ended_none who pins
ended_behind base pins who (Dropped below) is = absurd cc
ended_behind base pins who (Refused why) is = ended_none who pins
ended_behind base pins who (Fault device count call) is = ended_none who pins

pub ended_pins_nothing : EndedPinsNothing
ended_pins_nothing base lines line is = ap (pinned_by line.who) (pins_of_one_more base lines line) ∙ ended_behind (base_of base lines) (pins_of base [] lines) line.who line.what is

others_behind : (base : Base) (pins : List Pin) (who other : Who) (what : What) → (who ≡ other → ⊥) → pinned_by who (pins_behind base pins other what) ≡ pinned_by who pins
unfolding pins_at
others_behind base pins who other Began apart = refl
others_behind base pins who other (Done label writes) apart = refl
others_behind base pins who other (Overlapped session item) apart = refl
others_behind base pins who other RolledBack apart = refl
others_behind base pins who other (Looked snapshot) apart = with_other who (record { who = other; snapshot = snapshot }) pins (apart_items other who (λ e. apart (sym e)))
others_behind base pins who other LookedAll apart = others_look who other base.marks pins apart
others_behind base pins who other Unlooked apart = others_unpinned who other pins apart
others_behind base pins who other (Dropped below) apart = refl
others_behind base pins who other (Refused why) apart = others_unpinned who other pins apart
others_behind base pins who other (Fault device count call) apart = others_unpinned who other pins apart

pub others_pins_stay : OthersPinsStay
others_pins_stay base lines line who apart = ap (pinned_by who) (pins_of_one_more base lines line) ∙ others_behind (base_of base lines) (pins_of base [] lines) who line.who line.what apart

pub looks_pin : LooksPin
unfolding pins_at
looks_pin base lines line =
    let there : Base = base_of base lines in
    let pins : List Pin = pins_of base [] lines in
    let behind : What → List ℕ = λ (what : What). pinned_by line.who (pins_behind there pins line.who what) in (
      λ snapshot is. ap (pinned_by line.who) (pins_of_one_more base lines line) ∙ ap behind is ∙ with_own (record { who = line.who; snapshot = snapshot }) pins,
      λ is. ap (pinned_by line.who) (pins_of_one_more base lines line) ∙ ap behind is ∙ own_look line.who there.marks pins,
    )

-- ---- open items

closed : (who : Who) (items : List Who) → is_open who (filter (λ (other : Who). not (same_item other who)) items) ≡ false
closed who [] = refl
closed who (item ∷ items) = go (same_item item who) refl (closed who items) where
  rest : List Who
  rest = filter (λ (other : Who). not (same_item other who)) items

  go : (b : Bool) → same_item item who ≡ b → is_open who rest ≡ false → is_open who (cond (not b) (item ∷ rest) rest) ≡ false
  go true is again = again
  go false is again = ap (λ (b : Bool). b || is_open who rest) is ∙ again

others_closed : (who ended : Who) (items : List Who) → (ended ≡ who → ⊥) → is_open who (filter (λ (other : Who). not (same_item other ended)) items) ≡ is_open who items
others_closed who ended [] apart = refl
others_closed who ended (item ∷ items) apart = go (same_item item ended) refl (others_closed who ended items apart) where
  rest : List Who
  rest = filter (λ (other : Who). not (same_item other ended)) items

  go : (b : Bool) → same_item item ended ≡ b → is_open who rest ≡ is_open who items → is_open who (cond (not b) (item ∷ rest) rest) ≡ is_open who (item ∷ items)
  go true is again = again ∙ sym (ap (λ (b : Bool). b || is_open who items) (apart_items item who (λ e. apart (sym (items_are item ended is) ∙ e))))
  go false is again = ap (λ (b : Bool). same_item item who || b) again

own_open : (items : List Who) (line : Line) → is_open line.who (open_behind items line) ≡ begins line.what
own_open items line = go (begins line.what) where
  go : (b : Bool) → is_open line.who (cond b (line.who ∷ items) (filter (λ (other : Who). not (same_item other line.who)) items)) ≡ b
  go true = ap (λ (b : Bool). b || is_open line.who items) (same_self line.who)
  go false = closed line.who items

others_open : (who : Who) (items : List Who) (line : Line) → (line.who ≡ who → ⊥) → is_open who (open_behind items line) ≡ is_open who items
others_open who items line apart = go (begins line.what) where
  go : (b : Bool) → is_open who (cond b (line.who ∷ items) (filter (λ (other : Who). not (same_item other line.who)) items)) ≡ is_open who items
  go true = ap (λ (b : Bool). b || is_open who items) (apart_items line.who who apart)
  go false = others_closed who line.who items apart

open_stays : (who : Who) (items : List Who) (lines : List Line) → NoLineOf who lines → is_open who (open_from items lines) ≡ is_open who items
open_stays who items [] none = refl
open_stays who items (line ∷ lines) none = open_stays who (open_behind items line) lines none.1 ∙ others_open who items line none.0

beginning : (what : What) → begins what ≡ true → IsBeginning what
beginning Began is = inl refl
beginning (Done label writes) is = absurd cc
beginning (Overlapped session item) is = absurd cc
beginning RolledBack is = absurd cc
beginning (Looked snapshot) is = inr (inl (snapshot, refl))
beginning LookedAll is = inr (inr refl)
beginning Unlooked is = absurd cc
beginning (Dropped below) is = absurd cc
beginning (Refused why) is = absurd cc
beginning (Fault device count call) is = absurd cc

it_begins : (what : What) → IsBeginning what → begins what ≡ true
it_begins what (inl is) = ap begins is
it_begins what (inr (inl is)) = ap begins is.1
it_begins what (inr (inr is)) = ap begins is

pub open_where_last_begins : OpenWhereLastBegins
open_where_last_begins before more line none =
    let items : List Who = open_from [] before in
    let is : is_open line.who (open_in (before ++ line ∷ more)) ≡ begins line.what =
    ap (is_open line.who) (open-append [] before (line ∷ more)) ∙ open_stays line.who (open_behind items line) more none ∙ own_open items line in
    (λ there. beginning line.what (sym is ∙ there), λ first. is ∙ it_begins line.what first)

pub open_by_a_line : OpenByALine
open_by_a_line who lines none = open_stays who [] lines none

-- ---- the first stop

pub or-parts : {X : Type 0} (a b : Option X) → option_or a b ≡ None → (a ≡ None) × (b ≡ None)
or-parts None b is = (refl, is)
or-parts (Some x) b is = absurd cc

some_stop : (stop : Stop) → Some stop ≡ None → ⊥
some_stop stop is = absurd cc

tells_none : (what : What) → stop_of what ≡ None → (device : Device) (count : ℕ) (call : FailedCall) → what ≡ Fault device count call → is_write call ≡ true → ⊥
tells_none what none device count call is writes =
    let stop : Stop = record { device = device; count = count } in
    some_stop stop (sym (ap stop_of is ∙ ap (λ (b : Bool). cond b (Some stop) None) writes) ∙ none)

none_told : (what : What) → ((device : Device) (count : ℕ) (call : FailedCall) → what ≡ Fault device count call → is_write call ≡ true → ⊥) → stop_of what ≡ None
none_told Began never = refl
none_told (Done label writes) never = refl
none_told (Overlapped session item) never = refl
none_told RolledBack never = refl
none_told (Looked snapshot) never = refl
none_told LookedAll never = refl
none_told Unlooked never = refl
none_told (Dropped below) never = refl
none_told (Refused why) never = refl
none_told (Fault device count Read) never = refl
none_told (Fault device count Write) never = absurd (never device count Write refl refl)
none_told (Fault device count (Append change)) never = absurd (never device count (Append change) refl refl)

no_stop : (lines : List Line) → first_stop lines ≡ None → NoStop lines
no_stop [] none = tt
no_stop (line ∷ lines) none =
    let both = or-parts (stop_of line.what) (first_stop lines) none in
    (tells_none line.what both.0, no_stop lines both.1)

pub behind_no_stop : (before more : List Line) → NoStop before → first_stop (before ++ more) ≡ first_stop more
behind_no_stop [] more none = refl
behind_no_stop (line ∷ before) more none = ap (λ (o : Option Stop). option_or o (first_stop (before ++ more))) (none_told line.what none.0) ∙ behind_no_stop before more none.1

none_stop : (lines : List Line) → NoStop lines → first_stop lines ≡ None
none_stop [] none = refl
none_stop (line ∷ lines) none = ap (λ (o : Option Stop). option_or o (first_stop lines)) (none_told line.what none.0) ∙ none_stop lines none.1

-- what tells no stop tells no doubt
undoubted-line : (what : What) → stop_of what ≡ None → doubt_of what ≡ None
undoubted-line Began none = refl
undoubted-line (Done label writes) none = refl
undoubted-line (Overlapped session item) none = refl
undoubted-line RolledBack none = refl
undoubted-line (Looked snapshot) none = refl
undoubted-line LookedAll none = refl
undoubted-line Unlooked none = refl
undoubted-line (Dropped below) none = refl
undoubted-line (Refused why) none = refl
undoubted-line (Fault device count Read) none = refl
undoubted-line (Fault device count Write) none = refl
undoubted-line (Fault device count (Append change)) none = absurd cc

pub only_stops_leave_doubt : OnlyStopsLeaveDoubt
only_stops_leave_doubt [] none = refl
only_stops_leave_doubt (line ∷ lines) none =
    let both = or-parts (stop_of line.what) (first_stop lines) none in
    ap (λ (o : Option Change). option_or o (doubt_in lines)) (undoubted-line line.what both.0) ∙ only_stops_leave_doubt lines both.1

pub none_stops : NoneStops
none_stops lines = (no_stop lines, none_stop lines)

pub first_stops : FirstStops
first_stops before more line device count call none is writes =
    let stop : Stop = record { device = device; count = count } in
    behind_no_stop before (line ∷ more) none ∙ (ap (λ (w : What). option_or (stop_of w) (first_stop more)) is ∙ ap (λ (b : Bool). option_or (cond b (Some stop) None) (first_stop more)) writes)
