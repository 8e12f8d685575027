-- What sound journals keep, line by line.
use Rattle.std.proofs.Common.{◌≡◌, ◌⊎◌, inl, inr, ◌∙◌, ◌&&◌, not, ℕ, Bool, true, false, cond, eqb, ltb, List, [], ◌∷◌, ◌++◌, map, Some, None, refl, sym, ap, subst, arith, length-append}
use Rattle.std.specs.List.{AllByRecursion}
use Rattle.std.specs.Option.{option_to_list}
use Rattle.std.proofs.lemmas.Bool.{and_parts, eqb-true, ltb-true, or_cases}
use Rattle.retro_base.specs.declared.who.Who.{Who}
use Rattle.history.specs.declared.entry.Base.{Base}
use Rattle.history.specs.declared.entry.Mark.{Mark}
use Rattle.history.specs.declared.entry.Change.{Change}
use Rattle.history.specs.declared.entry.Change.TheVariants.{Drop}
use Rattle.history.specs.declared.journal.Line.{Line}
use Rattle.history.specs.declared.journal.What.{What}
use Rattle.history.specs.declared.journal.What.TheVariants.{Began, Done, Overlapped, RolledBack, Looked, LookedAll, Unlooked, Dropped, Refused, Fault}
use Rattle.history.specs.History.{base_after, bases_after}
use Rattle.history.specs.Journal.{change_of, changes_of, base_behind}
use Rattle.history.specs.LineLaws.{ends_look, LooksAt, SoundWithOneMore, ChangesMayFollow, BaseStaysRight, DropsAreBelowPins, LookedAtStays}
use Rattle.history.specs.Lines.{base_of}
use Rattle.history.specs.Marks.{oldest, is_retained}
use Rattle.history.specs.Right.{IsBase, AllMayFollow}
use Rattle.history.specs.Sound.{Pin, same_item, unpinned, pins_behind, KeepsRules, AllKeepRules, pins_of, IsSound}
use Rattle.history.proofs.BaseStays.{stays_right}
use Rattle.history.proofs.Journals.{bases-append, front_is_sound, pinned_are_retained}
use Rattle.history.proofs.Lines.{pins-append}

-- ---- one line more

keeps-split : (base : Base) (pins : List Pin) (lines more : List Line) → AllKeepRules base pins (lines ++ more) → AllKeepRules base pins lines × AllKeepRules (base_of base lines) (pins_of base pins lines) more
keeps-split base pins [] more all = (tt, all)
keeps-split base pins (line ∷ lines) more all =
    let next : Base = base_behind base line in
    let later : List Pin = pins_behind base pins line.who line.what in
    let rest = keeps-split next later lines more all.1 in
    ((all.0, rest.0), subst (λ (b : Base). AllKeepRules b (pins_of next later lines) more) (sym (bases-append base (option_to_list (change_of base line.what)) (changes_of next lines))) rest.1)

keeps-join : (base : Base) (pins : List Pin) (lines more : List Line) → AllKeepRules base pins lines → AllKeepRules (base_of base lines) (pins_of base pins lines) more → AllKeepRules base pins (lines ++ more)
keeps-join base pins [] more all every = every
keeps-join base pins (line ∷ lines) more all every =
    let next : Base = base_behind base line in
    let later : List Pin = pins_behind base pins line.who line.what in
    (all.0, keeps-join next later lines more all.1 (subst (λ (b : Base). AllKeepRules b (pins_of next later lines) more) (bases-append base (option_to_list (change_of base line.what)) (changes_of next lines)) every))

last_keeps : (base : Base) (lines : List Line) (line : Line) → IsSound base (lines ++ line ∷ []) → KeepsRules (base_of base lines) (pins_of base [] lines) line.what
last_keeps base lines line sound = (keeps-split base [] lines (line ∷ []) sound.keeps).1.0

pub sound_with_one_more : SoundWithOneMore
sound_with_one_more base lines line = (
  λ sound. (front_is_sound base lines (line ∷ []) sound, omega (arith, sound.short, length-append lines (line ∷ [])), last_keeps base lines line sound),
  λ all. record {
    short = omega (arith, all.1, length-append lines (line ∷ []));
    right = all.0.right;
    keeps = keeps-join base [] lines (line ∷ []) all.0.keeps (all.2, tt);
  },
)

pub drops_are_below_pins : DropsAreBelowPins
drops_are_below_pins base lines line below sound is =
    let keeps = subst (KeepsRules (base_of base lines) (pins_of base [] lines)) is (last_keeps base lines line sound) in
    (keeps.0, keeps.1, keeps.2)

-- ---- changes

follow-append : (base : Base) (xs ys : List Change) → AllMayFollow base xs → AllMayFollow (bases_after base xs) ys → AllMayFollow base (xs ++ ys)
follow-append base [] ys all every = every
follow-append base (x ∷ xs) ys all every = (all.0, follow-append (base_after base x) xs ys all.1 every)

line_follows : (base : Base) (pins : List Pin) (what : What) → KeepsRules base pins what → AllMayFollow base (option_to_list (change_of base what))
line_follows base pins Began k = tt
line_follows base pins (Done None []) k = tt
line_follows base pins (Done None (w ∷ ws)) k = (record { right = (k.in_store, tt, k.limits); rises = k.rises }, tt)
line_follows base pins (Done (Some label) writes) k = (record { right = (k.in_store, tt, k.limits); rises = k.rises }, tt)
line_follows base pins (Overlapped session item) k = tt
line_follows base pins RolledBack k = tt
line_follows base pins (Looked snapshot) k = tt
line_follows base pins LookedAll k = tt
line_follows base pins Unlooked k = tt
line_follows base pins (Dropped below) k = go (ltb (oldest base.marks) below) refl where
  go : (b : Bool) → ltb (oldest base.marks) below ≡ b → AllMayFollow base (option_to_list (cond b (Some (Drop below)) None))
  go true is = (record { right = (ltb-true (oldest base.marks) below is, k.1); rises = tt }, tt)
  go false is = tt
line_follows base pins (Refused why) k = tt
line_follows base pins (Fault device count call) k = tt

lines_follow : (base : Base) (pins : List Pin) (lines : List Line) → AllKeepRules base pins lines → AllMayFollow base (changes_of base lines)
lines_follow base pins [] all = tt
lines_follow base pins (line ∷ lines) all =
    follow-append base (option_to_list (change_of base line.what)) (changes_of (base_behind base line) lines) (line_follows base pins line.what all.0)
    (lines_follow (base_behind base line) (pins_behind base pins line.who line.what) lines all.1)

pub changes_may_follow : ChangesMayFollow
changes_may_follow base lines sound = lines_follow base [] lines sound.keeps

right_behind : (base : Base) (changes : List Change) → IsBase base → AllMayFollow base changes → IsBase (bases_after base changes)
right_behind base [] right all = right
right_behind base (change ∷ changes) right all = right_behind (base_after base change) changes (stays_right base change right all.0.rises all.0.right) all.1

pub base_stays_right : BaseStaysRight
base_stays_right base lines sound = right_behind base (changes_of base lines) sound.right (changes_may_follow base lines sound)

-- ---- looks

Has : Pin → List Pin → Type 0
Has pin [] = ⊥
Has pin (other ∷ pins) = (other ≡ pin) ⊎ Has pin pins

has-right : (pin : Pin) (xs ys : List Pin) → Has pin ys → Has pin (xs ++ ys)
unfolding Has
has-right pin [] ys has = has
has-right pin (x ∷ xs) ys has = inr (has-right pin xs ys has)

has-left : (pin : Pin) (xs ys : List Pin) → Has pin xs → Has pin (xs ++ ys)
unfolding Has
has-left pin [] ys has = absurd has
has-left pin (x ∷ xs) ys (inl is) = inl is
has-left pin (x ∷ xs) ys (inr has) = inr (has-left pin xs ys has)

has_all : (who : Who) (number : ℕ) (marks : List Mark) → is_retained number marks ≡ true → Has (record { who = who; snapshot = number }) (map (λ (mark : Mark). record { who = who; snapshot = mark.number }) marks)
unfolding Has
has_all who number [] is = absurd cc
has_all who number (mark ∷ marks) is = elim (or_cases (eqb mark.number number) (is_retained number marks) is) [
  | inl here ↦ inl (ap (λ (n : ℕ). let pin : Pin = record { who = who; snapshot = n } in pin) (eqb-true mark.number number here))
  | inr later ↦ inr (has_all who number marks later)
]

pub items_are : (who other : Who) → same_item who other ≡ true → who ≡ other
items_are who other is =
    let first = and_parts (eqb who.phase other.phase && eqb who.session other.session) (eqb who.item other.item) is in
    let rest = and_parts (eqb who.phase other.phase) (eqb who.session other.session) first.0 in
    let a = eqb-true who.phase other.phase rest.0 in
    let b = eqb-true who.session other.session rest.1 in
    let c = eqb-true who.item other.item first.1 in
    ap (λ (n : ℕ). let w : Who = record { phase = n; session = who.session; item = who.item } in w) a
    ∙ ap (λ (n : ℕ). let w : Who = record { phase = other.phase; session = n; item = who.item } in w) b
    ∙ ap (λ (n : ℕ). let w : Who = record { phase = other.phase; session = other.session; item = n } in w) c

still_pinned : (who : Who) (pin : Pin) (pins : List Pin) → (who ≡ pin.who → ⊥) → Has pin pins → Has pin (unpinned who pins)
unfolding Has
still_pinned who pin [] apart has = absurd has
still_pinned who pin (other ∷ pins) apart has = go (same_item other.who who) refl has (still_pinned who pin pins apart) where
  go : (b : Bool) → same_item other.who who ≡ b → (other ≡ pin) ⊎ Has pin pins → (Has pin pins → Has pin (unpinned who pins)) → Has pin (cond (not b) (other ∷ unpinned who pins) (unpinned who pins))
  go true is (inl here) again = absurd (apart (sym (items_are other.who who is) ∙ ap (λ (p : Pin). p.who) here))
  go true is (inr later) again = again later
  go false is (inl here) again = inl here
  go false is (inr later) again = inr (again later)

-- a line that ends no look of this item leaves its pins
pin_stays : (base : Base) (pins : List Pin) (pin : Pin) (who : Who) (what : What) → (who ≡ pin.who → ends_look what ≡ false) → Has pin pins → Has pin (pins_behind base pins who what)
unfolding Has
pin_stays base pins pin who Began none has = has
pin_stays base pins pin who (Done label writes) none has = has
pin_stays base pins pin who (Overlapped session item) none has = has
pin_stays base pins pin who RolledBack none has = has
pin_stays base pins pin who (Looked snapshot) none has = inr has
pin_stays base pins pin who LookedAll none has = has-right pin (map (λ (mark : Mark). record { who = who; snapshot = mark.number }) base.marks) pins has
pin_stays base pins pin who Unlooked none has = still_pinned who pin pins (λ is. let e : true ≡ false = none is in absurd cc) has
pin_stays base pins pin who (Dropped below) none has = has
pin_stays base pins pin who (Refused why) none has = still_pinned who pin pins (λ is. let e : true ≡ false = none is in absurd cc) has
pin_stays base pins pin who (Fault device count call) none has = still_pinned who pin pins (λ is. let e : true ≡ false = none is in absurd cc) has

pins_stay : (base : Base) (pins : List Pin) (pin : Pin) (lines : List Line) → AllByRecursion (λ (line : Line). line.who ≡ pin.who → ends_look line.what ≡ false) lines → Has pin pins → Has pin (pins_of base pins lines)
pins_stay base pins pin [] none has = has
pins_stay base pins pin (line ∷ lines) none has = pins_stay (base_behind base line) (pins_behind base pins line.who line.what) pin lines none.1 (pin_stays base pins pin line.who line.what none.0 has)

looked : (base : Base) (pins : List Pin) (who : Who) (what : What) (number : ℕ) → LooksAt base what number → Has (record { who = who; snapshot = number }) (pins_behind base pins who what)
unfolding Has
looked base pins who Began number is = absurd is
looked base pins who (Done label writes) number is = absurd is
looked base pins who (Overlapped session item) number is = absurd is
looked base pins who RolledBack number is = absurd is
looked base pins who Unlooked number is = absurd is
looked base pins who (Dropped below) number is = absurd is
looked base pins who (Refused why) number is = absurd is
looked base pins who (Fault device count call) number is = absurd is
looked base pins who (Looked snapshot) number is = inl (ap (λ (n : ℕ). let pin : Pin = record { who = who; snapshot = n } in pin) is)
looked base pins who LookedAll number is = has-left (record { who = who; snapshot = number }) (map (λ (mark : Mark). record { who = who; snapshot = mark.number }) base.marks) pins (has_all who number base.marks is)

one_of : (P : Pin → Type 0) (pin : Pin) (pins : List Pin) → Has pin pins → AllByRecursion P pins → P pin
unfolding Has
one_of P pin [] has all = absurd has
one_of P pin (other ∷ pins) (inl is) all = subst P is all.0
one_of P pin (other ∷ pins) (inr has) all = one_of P pin pins has all.1

pub looked_at_stays : LookedAtStays
looked_at_stays base before more look number sound looks none =
    let pin : Pin = record { who = look.who; snapshot = number } in
    let there : Base = base_of base before in
    let pins : List Pin = pins_of base [] before in
    let has : Has pin (pins_of (base_behind there look) (pins_behind there pins look.who look.what) more) =
    pins_stay (base_behind there look) (pins_behind there pins look.who look.what) pin more none (looked there pins look.who look.what number looks) in
    let all : Has pin (pins_of base [] (before ++ look ∷ more)) = subst (Has pin) (sym (pins-append base [] before (look ∷ more))) has in
    one_of (λ (p : Pin). is_retained p.snapshot (base_of base (before ++ look ∷ more)).marks ≡ true) pin (pins_of base [] (before ++ look ∷ more)) all (pinned_are_retained base (before ++ look ∷ more) sound)
