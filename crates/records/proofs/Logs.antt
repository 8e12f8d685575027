-- The bodies of the log.
use Rattle.std.proofs.Common.{◌≡◌, ◌∙◌, ◌<◌, ◌+◌, ℕ, suc, List, [], ◌∷◌, length, take, get_or, refl, sym, ap, subst, arith}
use Rattle.std.specs.Prelude.{Result, Ok, Err, Some, None}
use Rattle.records.specs.declared.decoding.DecodeError.{DecodeError}
use Rattle.records.specs.declared.decoding.DecodeError.TheVariants.{OutOfMemory, Malformed}
use Rattle.history.specs.declared.entry.Base.{Base}
use Rattle.history.specs.declared.entry.Change.{Change}
use Rattle.records.specs.declared.entry.Entry.{Entry}
use Rattle.records.specs.declared.entry.Entry.TheVariants as entries
use Rattle.history.specs.declared.log.Version.{Version}
use Rattle.records.specs.Entries.{entry_bytes, EntryFits}
use Rattle.history.specs.History.{base_after}
use Rattle.records.proofs.Spelling.{one_entry}
use Rattle.records.specs.Reading.{Decodes}
use Rattle.history.specs.Right.{IsBase, IsRight}
use Rattle.history.specs.declared.log.Log.{Log}
use Rattle.records.specs.Finds.{Finds, FindsNone}
use Rattle.gate_log.specs.Bodies.{BreaksBehind, BreaksAs}
use Rattle.records.specs.InTurn.{InTurn, stopping, reached}
use Rattle.records.specs.Log.{IsBaseBody, IsChangeBody, IsLog}
use Rattle.history.specs.Right.{AreRight}
use Rattle.records.specs.Laws.{IsReadOneWay}
use Rattle.records.proofs.Turns as turns

base_in : (b c : Base) → entries.Base b ≡ entries.Base c → b ≡ c
base_in b c e = cc

change_in : (b c : Change) → entries.Change b ≡ entries.Change c → b ≡ c
change_in b c e = cc

module _ (version : Version) where
  pub one_base : (body : List ℕ) (base other : Base) → IsBaseBody version body base → IsBaseBody version body other → base ≡ other
  one_base body base other this that = base_in base other (one_entry version (entries.Base base) (entries.Base other) this.fits that.fits (sym this.spelled ∙ that.spelled))

  pub one_change : (place : Base) (body : List ℕ) (change other : Change) → IsChangeBody version place body change → IsChangeBody version place body other → change ≡ other
  one_change place body change other this that = change_in change other (one_entry version (entries.Change change) (entries.Change other) this.fits that.fits (sym this.spelled ∙ that.spelled))

  none : (x : Log) → IsLog version [] x → ⊥
  none x is = is

  parts : (body : List ℕ) (bodies : List (List ℕ)) (x : Log) → IsLog version (body ∷ bodies) x → (place : Base) × (items : List Change) × IsBaseBody version body place × InTurn (IsChangeBody version) base_after place bodies items
  parts body bodies x is = (x.base, x.changes, is.1, is.2)

  whole : (body : List ℕ) (bodies : List (List ℕ)) (place : Base) (items : List Change) → IsBaseBody version body place → InTurn (IsChangeBody version) base_after place bodies items → (x : Log) × IsLog version (body ∷ bodies) x
  whole body bodies place items first all = (record { version = version; base = place; changes = items }, (refl, first, all))

  pub empty_breaks : BreaksBehind (IsLog version) [] []
  empty_breaks = turns.breaks_empty (IsBaseBody version) (IsChangeBody version) base_after (IsLog version) none parts whole one_base one_change

  pub first_breaks : (body : List ℕ) (bodies : List (List ℕ)) → ((base : Base) → IsBaseBody version body base → ⊥) → BreaksBehind (IsLog version) (body ∷ bodies) []
  first_breaks = turns.breaks_first (IsBaseBody version) (IsChangeBody version) base_after (IsLog version) none parts whole one_base one_change

  pub later_breaks : (first : List ℕ) (bodies : List (List ℕ)) (base : Base) (changes : List Change) (i : ℕ) → IsBaseBody version first base → i < length bodies → InTurn (IsChangeBody version) base_after base (take i bodies) changes
      → ((change : Change) → IsChangeBody version (reached base_after base changes) (get_or bodies i []) change → ⊥) → BreaksBehind (IsLog version) (first ∷ bodies) (first ∷ take i bodies)
  later_breaks = turns.breaks_behind (IsBaseBody version) (IsChangeBody version) base_after (IsLog version) none parts whole one_base one_change

  one_log : (bodies : List (List ℕ)) (x y : Log) → IsLog version bodies x → IsLog version bodies y → x ≡ y
  unfolding parts
  one_log [] x y this that = absurd this
  one_log (body ∷ bodies) x y this that =
      let p = parts body bodies x this in
      let q = parts body bodies y that in
      let bases = one_base body x.base y.base p.2 q.2 in
      let changes = turns.in_turn-one (IsChangeBody version) base_after one_change x.base bodies x.changes y.changes p.3 (subst (λ (b : Base). InTurn (IsChangeBody version) base_after b bodies y.changes) (sym bases) q.3) in
      ap (λ (v : Version). let l : Log = record { version = v; base = x.base; changes = x.changes } in l) (this.0 ∙ sym that.0)
      ∙ ap (λ (b : Base). let l : Log = record { version = y.version; base = b; changes = x.changes } in l) bases
      ∙ ap (λ (c : List Change). let l : Log = record { version = y.version; base = y.base; changes = c } in l) changes

  pub log_one_way : IsReadOneWay (IsLog version)
  log_one_way = record {
    one_value = one_log;
    one_front = turns.one_front (IsBaseBody version) (IsChangeBody version) base_after (IsLog version) none parts whole one_base one_change;
    not_both = λ bodies front x is breaks. breaks.broken x is;
  }

-- changes that are read in turn are right in turn
pub in_turn_right : (version : Version) (base : Base) (bodies : List (List ℕ)) (changes : List Change) → InTurn (IsChangeBody version) base_after base bodies changes → AreRight base changes
in_turn_right version base [] [] all = tt
in_turn_right version base [] (change ∷ changes) all = tt_of all where
  tt_of : ⊥ → AreRight base (change ∷ changes)
  tt_of h = absurd h
in_turn_right version base (body ∷ bodies) [] all = tt
in_turn_right version base (body ∷ bodies) (change ∷ changes) all = (all.0.right, in_turn_right version (base_after base change) bodies changes all.1)

-- ---- what is found of a body

abbrev Spells : Version → List ℕ → Entry → Type 0
Spells version body entry = EntryFits version entry × (body ≡ entry_bytes version entry)

-- nothing is spelled where the bytes are malformed
nothing : (entry : Entry) → Some entry ≡ None → ⊥
nothing entry e = absurd cc

pub no_base_there : (version : Version) (body : List ℕ) (e : DecodeError) → ((entry : Entry) → EntryFits version entry → body ≡ entry_bytes version entry → Decodes (λ (x : Entry). x) (Err e) (Some entry)) → FindsNone (IsBaseBody version body) e
no_base_there version body OutOfMemory only = tt
no_base_there version body Malformed only = λ base is. nothing (entries.Base base) (only (entries.Base base) is.fits is.spelled)

pub base_there : (version : Version) (body : List ℕ) (entry : Entry) (r : Result Base DecodeError) → Spells version body entry → Finds (λ (base : Base). (entry ≡ entries.Base base) × IsBase base) r → Finds (IsBaseBody version body) r
base_there version body entry (Ok base) spells found = record { spelled = spells.1 ∙ ap (entry_bytes version) found.0; fits = subst (EntryFits version) found.0 spells.0; right = found.1 }
base_there version body entry (Err OutOfMemory) spells found = tt
base_there version body entry (Err Malformed) spells found = λ base is. found base (one_entry version entry (entries.Base base) spells.0 is.fits (sym spells.1 ∙ is.spelled), is.right)

pub no_change_there : (version : Version) (place : Base) (body : List ℕ) (e : DecodeError) → ((entry : Entry) → EntryFits version entry → body ≡ entry_bytes version entry → Decodes (λ (x : Entry). x) (Err e) (Some entry)) → FindsNone (IsChangeBody version place body) e
no_change_there version place body OutOfMemory only = tt
no_change_there version place body Malformed only = λ change is. nothing (entries.Change change) (only (entries.Change change) is.fits is.spelled)

pub change_there : (version : Version) (place : Base) (body : List ℕ) (entry : Entry) (r : Result Change DecodeError) → Spells version body entry → Finds (λ (change : Change). (entry ≡ entries.Change change) × IsRight place change) r → Finds (IsChangeBody version place body) r
change_there version place body entry (Ok change) spells found = record { spelled = spells.1 ∙ ap (entry_bytes version) found.0; fits = subst (EntryFits version) found.0 spells.0; right = found.1 }
change_there version place body entry (Err OutOfMemory) spells found = tt
change_there version place body entry (Err Malformed) spells found = λ change is. found change (one_entry version entry (entries.Change change) spells.0 is.fits (sym spells.1 ∙ is.spelled), is.right)

-- ---- where the list breaks

pub breaks_later : (version : Version) (first : List ℕ) (bodies : List (List ℕ)) (base place : Base) (changes : List Change) (body : List ℕ) (i n : ℕ) (e : DecodeError) → IsBaseBody version first base → i < length bodies → InTurn (IsChangeBody version) base_after base (take i bodies) changes
    → place ≡ reached base_after base changes → get_or bodies i [] ≡ body → n ≡ i + 1 → FindsNone (IsChangeBody version place body) e → BreaksAs (IsLog version) (first ∷ bodies) (stopping e n)
breaks_later version first bodies base place changes body i n OutOfMemory head lt all at is count none = tt
breaks_later version first bodies base place changes body i n Malformed head lt all at is count none =
    let next : n ≡ suc i = omega (arith, count) in
    let front : first ∷ take i bodies ≡ take n (first ∷ bodies) = sym (ap (λ (m : ℕ). take m (first ∷ bodies)) next) in
    subst (λ (l : List (List ℕ)). BreaksBehind (IsLog version) (first ∷ bodies) l) front
    (later_breaks version first bodies base changes i head lt all (λ change there. none change (subst (λ (p : Base). IsChangeBody version p body change) (sym at) (subst (λ (b : List ℕ). IsChangeBody version (reached base_after base changes) b change) is there))))

pub breaks_at_first : (version : Version) (first : List ℕ) (bodies : List (List ℕ)) (e : DecodeError) → FindsNone (IsBaseBody version first) e → BreaksAs (IsLog version) (first ∷ bodies) (stopping e 0)
breaks_at_first version first bodies OutOfMemory none = tt
breaks_at_first version first bodies Malformed none = first_breaks version first bodies none
