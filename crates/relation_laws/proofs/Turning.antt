-- Indexes of a well-formed store follow what becomes of rows.
use Rattle.std.proofs.Common.{◌≡◌, ◌∙◌, ◌<◌, ◌+◌, ◌++◌, ◌==◌, ◌&&◌, cond, ℕ, Bool, true, false, List, [], ◌∷◌, Option, Some, None, Result, Ok, Err, inl, inr, refl, sym, ap, subst, arith}
use Rattle.std.specs.List.{AllByRecursion, Contains, filter}
use Rattle.std.specs.Option.{option_map}
use Rattle.std.specs.Prelude.{slice_get}
use Rattle.std.specs.Ordering.{is_eq, is_gt, is_lt, nat_cmp, ordering_then}
use Rattle.std.specs.declared.cmp.Ordering.{Ordering}
use Rattle.std.specs.declared.cmp.Ordering.TheVariants.{Less, Equal, Greater}
use Rattle.std.proofs.lemmas.Bool.{eqb-true}
use Rattle.std.specs.Cmp.Lexicographic.{slice_cmp}
use Rattle.std.proofs.lemmas.Cmp.{int_ranked, nat_cmp_total, ranked, tied_itself}
use Rattle.retro_base.specs.declared.refusal.Refusal.{Refusal}
use Rattle.retro_base.specs.declared.refusal.Refusal.TheVariants.{PagesFull}
use Rattle.values.specs.Value.{kind_of, value_cmp}
use Rattle.values.specs.declared.value.Kind.{Kind}
use Rattle.values.specs.declared.value.Value.{Value}
use Rattle.values.specs.declared.value.Value.TheVariants.{Int, Text}
use Rattle.pager.specs.Allows.{◌>>=◌, in_turn}
use Rattle.pager.specs.Index.{AreOfKind, IsFound, found_cmp, with_found, without_found}
use Rattle.pager.specs.Pages.{Pages}
use Rattle.pager.specs.declared.index.Found.{Found}
use Rattle.heap_file.specs.declared.chain.Placed.{Placed}
use Rattle.heap_laws.specs.Store.{WellFormed, free_pages}
use Rattle.heap_laws.proofs.Reading.{ok-one}
use Rattle.heap_laws.proofs.Stores.{all-join}
use Rattle.relation.specs.Entries.{entry_edited, entry_of, is_one_value, value_stays}
use Rattle.relation.specs.declared.listing.Moved.{Moved}
use Rattle.relation_laws.specs.Tables.{AreEntriesOf}
use Rattle.relation_laws.specs.Turns.{Turn, entry_opens, given_up, shape_less, shape_more, taken_in, turned_shape, turns_open}
use Rattle.relation_laws.proofs.Deleting.{fitting-left}
use Rattle.relation_laws.proofs.IndexKind.{IndexKind}
use Rattle.relation_laws.proofs.Keeping.{EditAnswer, Edited, add-answer, edited-none, edited-then, remove-answer}
use Rattle.relation_laws.proofs.KeyTurns.{IsOwn, KeyTurn, entries-turn, entry_at, entry-named, entry_number, own-entry, put-turn, row_number, some-is, take-turn, turn-none, turn-then}

-- texts and values that are not told apart are one
text-one : (s t : List ℕ) → slice_cmp nat_cmp s t ≡ Equal → s ≡ t
text-one [] [] e = refl
text-one [] (y ∷ t) e = absurd cc
text-one (x ∷ s) [] e = absurd cc
text-one (x ∷ s) (y ∷ t) e = go (text-one s t) (nat_cmp x y) refl e
  where
    both : x ≡ y → s ≡ t → x ∷ s ≡ y ∷ t
    both p q = λ i. p i ∷ q i

    go : (slice_cmp nat_cmp s t ≡ Equal → s ≡ t) → (o : Ordering) → nat_cmp x y ≡ o → ordering_then o (slice_cmp nat_cmp s t) ≡ Equal → x ∷ s ≡ y ∷ t
    go rest Less is e = absurd cc
    go rest Equal is e = both (ranked x y Equal (sym is)) (rest e)
    go rest Greater is e = absurd cc

value-one : (a b : Value) → value_cmp a b ≡ Equal → a ≡ b
value-one (Int m) (Int n) e = ap Int (int_ranked m n Equal (sym e))
value-one (Int m) (Text t) e = absurd cc
value-one (Text s) (Int n) e = absurd cc
value-one (Text s) (Text t) e = ap Text (text-one s t e)

equal-from : (o : Ordering) → is_eq o ≡ true → o ≡ Equal
equal-from Less e = absurd cc
equal-from Equal e = refl
equal-from Greater e = absurd cc

-- an entry of that kind, if there is one, and one that can stand in an index
abbrev pub IsOfKind : Kind → Option Found → Type 0
IsOfKind kind None = Unit {0}
IsOfKind kind (Some entry) = kind_of entry.value ≡ kind

abbrev pub CanStand : Kind → Option Found → Type 0
CanStand kind None = Unit {0}
CanStand kind (Some entry) = IsFound entry × (kind_of entry.value ≡ kind)

-- two entries are there, of one value
abbrev BothTied : Option Found → Option Found → Type 0
BothTied None b = ⊥
BothTied (Some a) None = ⊥
BothTied (Some a) (Some b) = value_cmp a.value b.value ≡ Equal

abbrev entry_made : Placed → Option Value → Option Found
entry_made placed value = option_map (λ (value : Value). record { value = value; number = placed.number; page = placed.page }) value

-- a row whose value stays
staying : (place : ℕ) (w b : Placed) → value_stays place (record { was = w; becomes = b }) ≡ true → BothTied (entry_of place w) (entry_of place b)
staying place w b e = go (slice_get w.row place) (slice_get b.row place) e
  where
    go : (u v : Option Value) → is_one_value u v ≡ true → BothTied (entry_made w u) (entry_made b v)
    go None v e = absurd cc
    go (Some u) None e = absurd cc
    go (Some u) (Some v) e = equal-from (value_cmp u v) e

-- and that stays on its page has one entry
same-entry : (place : ℕ) (w b : Placed) → value_stays place (record { was = w; becomes = b }) ≡ true → w.number ≡ b.number → w.page ≡ b.page → entry_of place w ≡ entry_of place b
same-entry place w b e n p = go (slice_get w.row place) (slice_get b.row place) e
  where
    go : (u v : Option Value) → is_one_value u v ≡ true → entry_made w u ≡ entry_made b v
    go None v e = absurd cc
    go (Some u) None e = absurd cc
    go (Some u) (Some v) e =
        let same : u ≡ v = value-one u v (equal-from (value_cmp u v) e) in
        λ i. Some (record { value = same i; number = n i; page = p i })

-- the entries of rows that turn are of that kind, and can stand
abbrev pub TurnFits : Kind → ℕ → Turn → Type 0
TurnFits kind place turn = IsOfKind kind (given_up place turn.before turn.behind) × CanStand kind (taken_in place turn.before turn.behind)

-- rows become these as they turn: each turn tells what stood under its number, and what then stands there
abbrev pub RowsTurn : List Placed → List Turn → List Placed → Type 0
RowsTurn rows [] after = rows ≡ after
RowsTurn rows (turn ∷ turns) after = (number : ℕ) × (mid : List Placed) × IsOwn row_number number rows turn.before × KeyTurn row_number number rows mid turn.behind × RowsTurn mid turns after

module _ (I : IndexKind) where
  pub kind-put : (kind : Kind) (entry : Found) (shape : I.Shape) → I.IsShape shape → IsFound entry → kind_of entry.value ≡ kind → AreOfKind kind (I.entries shape) → AreOfKind kind (I.entries (I.put entry shape))
  kind-put kind entry shape is found same all =
      let put = I.shaped.of_put entry shape is found (subst (λ (k : Kind). AreOfKind k (I.entries shape)) (sym same) all) in
      let P : Found → Type 0 = λ (x : Found). kind_of x.value ≡ kind in
      subst (AllByRecursion P) (sym put.1)
      (all-join P (filter (λ (x : Found). is_lt (found_cmp x entry)) (I.entries shape)) (entry ∷ filter (λ (x : Found). is_gt (found_cmp x entry)) (I.entries shape))
      (fitting-left P (λ (x : Found). is_lt (found_cmp x entry)) (I.entries shape) all) (same, fitting-left P (λ (x : Found). is_gt (found_cmp x entry)) (I.entries shape) all))

  kind-without : (kind : Kind) (entry : Found) (shape : I.Shape) → I.IsShape shape → AreOfKind kind (I.entries shape) → AreOfKind kind (I.entries (I.without entry shape))
  kind-without kind entry shape is all =
      subst (AllByRecursion (λ (x : Found). kind_of x.value ≡ kind)) (sym (I.shaped.of_without entry shape is).1) (fitting-left (λ (x : Found). kind_of x.value ≡ kind) _ (I.entries shape) all)

  kind-less : (kind : Kind) (out : Option Found) (shape : I.Shape) → I.IsShape shape → AreOfKind kind (I.entries shape) → AreOfKind kind (I.entries (shape_less I.without out shape))
  kind-less kind None shape is all = all
  kind-less kind (Some w) shape is all = kind-without kind w shape is all

  kind-more : (kind : Kind) (in_ : Option Found) (shape : I.Shape) → I.IsShape shape → CanStand kind in_ → AreOfKind kind (I.entries shape) → AreOfKind kind (I.entries (shape_more I.put in_ shape))
  kind-more kind None shape is stands all = all
  kind-more kind (Some b) shape is stands all = kind-put kind b shape is stands.0 stands.1 all

  shape-less : (out : Option Found) (shape : I.Shape) → I.IsShape shape → I.IsShape (shape_less I.without out shape)
  shape-less None shape is = is
  shape-less (Some w) shape is = (I.shaped.of_without w shape is).0

  -- an entry is given up, if there is one, and one is taken in
  less-answer : (size root : ℕ) (kind : Kind) (out : Option Found) (pages : Pages) (firsts others : List ℕ) (shape : I.Shape) (held : List ℕ) (answer : Result (Unit {0} × Pages) Refusal) → WellFormed size pages firsts (held ++ others) → I.lists size pages root shape held
      → AreOfKind kind (I.entries shape) → IsOfKind kind out → entry_edited I.removed size root out pages answer → EditAnswer I size pages firsts others root (shape_less I.without out shape) held 0 answer
  less-answer size root kind None pages firsts others shape held (Ok y) well is all fits work =
      subst (λ (q : Unit {0} × Pages). Edited I size pages q.1 firsts others root shape held 0) (ok-one work) (edited-none I size pages firsts others root shape held well is)
  less-answer size root kind None pages firsts others shape held (Err why) well is all fits work = absurd cc
  less-answer size root kind (Some w) pages firsts others shape held answer well is all fits work =
      remove-answer I size root w pages firsts others shape held answer well is (subst (λ (k : Kind). AreOfKind k (I.entries shape)) (sym fits) all) work

  more-answer : (size root : ℕ) (kind : Kind) (in_ : Option Found) (pages : Pages) (firsts others : List ℕ) (shape : I.Shape) (held : List ℕ) (answer : Result (Unit {0} × Pages) Refusal) → WellFormed size pages firsts (held ++ others) → I.lists size pages root shape held
      → AreOfKind kind (I.entries shape) → CanStand kind in_ → entry_edited I.added size root in_ pages answer → EditAnswer I size pages firsts others root (shape_more I.put in_ shape) held (entry_opens I.opens in_ shape) answer
  more-answer size root kind None pages firsts others shape held (Ok y) well is all fits work =
      subst (λ (q : Unit {0} × Pages). Edited I size pages q.1 firsts others root shape held 0) (ok-one work) (edited-none I size pages firsts others root shape held well is)
  more-answer size root kind None pages firsts others shape held (Err why) well is all fits work = absurd cc
  more-answer size root kind (Some b) pages firsts others shape held answer well is all fits work =
      add-answer I size root b pages firsts others shape held answer well is fits.0 (subst (λ (k : Kind). AreOfKind k (I.entries shape)) (sym fits.1) all) work

  kind-turned : (kind : Kind) (place : ℕ) (turn : Turn) (shape : I.Shape) → I.IsShape shape → TurnFits kind place turn → AreOfKind kind (I.entries shape) → AreOfKind kind (I.entries (shape_more I.put (taken_in place turn.before turn.behind) (shape_less I.without (given_up place turn.before turn.behind) shape)))
  kind-turned kind place turn shape is fits all =
      let out = given_up place turn.before turn.behind in
      kind-more kind (taken_in place turn.before turn.behind) (shape_less I.without out shape) (shape-less out shape is) fits.1 (kind-less kind out shape is all)

  -- what an index does as a row turns
  abbrev pub turn_work : ℕ → ℕ → ℕ → Turn → Pages → Result (Unit {0} × Pages) Refusal → Type 0
  turn_work size root place turn pages =
      entry_edited I.removed size root (given_up place turn.before turn.behind) pages >>= λ less. entry_edited I.added size root (taken_in place turn.before turn.behind) less.1

  turn-answer : (size root : ℕ) (kind : Kind) (place : ℕ) (turn : Turn) (pages : Pages) (firsts others : List ℕ) (shape : I.Shape) (held : List ℕ) (answer : Result (Unit {0} × Pages) Refusal) → WellFormed size pages firsts (held ++ others) → I.lists size pages root shape held
      → AreOfKind kind (I.entries shape) → TurnFits kind place turn → turn_work size root place turn pages answer
      → EditAnswer I size pages firsts others root (shape_more I.put (taken_in place turn.before turn.behind) (shape_less I.without (given_up place turn.before turn.behind) shape)) held
      (entry_opens I.opens (taken_in place turn.before turn.behind) (shape_less I.without (given_up place turn.before turn.behind) shape)) answer
  turn-answer size root kind place turn pages firsts others shape held answer well is all fits work = go answer work
    where
      out : Option Found
      out = given_up place turn.before turn.behind

      in_ : Option Found
      in_ = taken_in place turn.before turn.behind

      less : I.Shape
      less = shape_less I.without out shape

      behind_it : (answer : Result (Unit {0} × Pages) Refusal) → (x : Unit {0} × Pages) → Edited I size pages x.1 firsts others root less held 0 → entry_edited I.added size root in_ x.1 answer → EditAnswer I size pages firsts others root (shape_more I.put in_ less) held (entry_opens I.opens in_ less) answer
      behind_it answer x one work =
          on answer (more-answer size root kind in_ x.1 firsts others less one.behind answer one.well one.is (kind-less kind out shape (I.listed.shape size root pages shape held is) all) fits.1 work)
        where
          on : (answer : Result (Unit {0} × Pages) Refusal) → EditAnswer I size x.1 firsts others root (shape_more I.put in_ less) one.behind (entry_opens I.opens in_ less) answer
              → EditAnswer I size pages firsts others root (shape_more I.put in_ less) held (entry_opens I.opens in_ less) answer
          on (Ok y) two =
              let none : (k : ℕ) → 0 + k ≡ k = λ k. omega arith in
              subst (Edited I size pages y.1 firsts others root (shape_more I.put in_ less) held) (none (entry_opens I.opens in_ less))
              (edited-then I size pages x.1 y.1 firsts others root less (shape_more I.put in_ less) held 0 (entry_opens I.opens in_ less) one two)
          on (Err why) two = (two.0, omega (arith, two.1, one.fewer))

      go : (answer : Result (Unit {0} × Pages) Refusal) → turn_work size root place turn pages answer → EditAnswer I size pages firsts others root (shape_more I.put in_ less) held (entry_opens I.opens in_ less) answer
      go (Ok y) (x, first, more) = behind_it (Ok y) x (less-answer size root kind out pages firsts others shape held (Ok x) well is all fits.0 first) more
      go (Err why) (inl first) = absurd (omega (arith, (less-answer size root kind out pages firsts others shape held (Err why) well is all fits.0 first).1))
      go (Err why) (inr (x, first, more)) = behind_it (Err why) x (less-answer size root kind out pages firsts others shape held (Ok x) well is all fits.0 first) more

  -- what stood under a number is given up
  less-turn : (number : ℕ) (own : Option Found) (shape : I.Shape) → I.IsShape shape → IsOwn entry_number number (I.entries shape) own → KeyTurn entry_number number (I.entries shape) (I.entries (shape_less I.without own shape)) None
  less-turn number None shape is own = turn-none entry_number number (I.entries shape) None own
  less-turn number (Some w) shape is own =
      let here : w.number ≡ number = (own.listed w refl).0 in
      subst (λ (l : List Found). KeyTurn entry_number number (I.entries shape) l None) (sym (I.shaped.of_without w shape is).1)
      (subst (λ (n : ℕ). KeyTurn entry_number n (I.entries shape) (without_found w (I.entries shape)) None) here (take-turn (I.entries shape) w (λ x has same. sym (some-is (own.told x has (same ∙ here))))))

  -- an entry is taken in, where none stood under its number, or one of its value
  put-here : (kind : Kind) (number : ℕ) (b : Found) (shape : I.Shape) → I.IsShape shape → AreOfKind kind (I.entries shape) → CanStand kind (Some b) → b.number ≡ number → ((x : Found) → Contains (I.entries shape) x → x.number ≡ number → found_cmp x b ≡ Equal)
      → KeyTurn entry_number number (I.entries shape) (I.entries (I.put b shape)) (Some b)
  put-here kind number b shape is all stands here tied =
      subst (λ (l : List Found). KeyTurn entry_number number (I.entries shape) l (Some b)) (sym (I.shaped.of_put b shape is stands.0 (subst (λ (k : Kind). AreOfKind k (I.entries shape)) (sym stands.1) all)).1)
      (subst (λ (n : ℕ). KeyTurn entry_number n (I.entries shape) (with_found b (I.entries shape)) (Some b)) here (put-turn (I.entries shape) b (λ x has same. tied x has (same ∙ here))))

  more-turn : (kind : Kind) (number : ℕ) (in_ : Option Found) (shape : I.Shape) → I.IsShape shape → AreOfKind kind (I.entries shape) → CanStand kind in_ → ((e : Found) → in_ ≡ Some e → e.number ≡ number) → IsOwn entry_number number (I.entries shape) None
      → KeyTurn entry_number number (I.entries shape) (I.entries (shape_more I.put in_ shape)) in_
  more-turn kind number None shape is all stands named own = turn-none entry_number number (I.entries shape) None own
  more-turn kind number (Some b) shape is all stands named own = put-here kind number b shape is all stands (named b refl) (λ x has same. none (own.told x has same))
    where
      none : {x : Found} {P : Type 0} → None ≡ Some x → P
      none e = absurd cc

  -- the entries of an index follow a row that turns
  turn-entries : (kind : Kind) (place number : ℕ) (turn : Turn) (shape : I.Shape) → I.IsShape shape → AreOfKind kind (I.entries shape) → TurnFits kind place turn → IsOwn entry_number number (I.entries shape) (entry_at place turn.before) → ((p : Placed) → turn.before ≡ Some p → p.number ≡ number) → ((p : Placed) → turn.behind ≡ Some p → p.number ≡ number)
      → KeyTurn entry_number number (I.entries shape) (I.entries (shape_more I.put (taken_in place turn.before turn.behind) (shape_less I.without (given_up place turn.before turn.behind) shape))) (entry_at place turn.behind)
  turn-entries kind place number turn shape is all fits own was_named named = by turn.before turn.behind own fits was_named named
    where
      placed-named : (p : Placed) → p.number ≡ number → (e : Found) → entry_of place p ≡ Some e → e.number ≡ number
      placed-named p here e at = entry-named place p e at ∙ here

      by : (before behind : Option Placed) → IsOwn entry_number number (I.entries shape) (entry_at place before) → IsOfKind kind (given_up place before behind) × CanStand kind (taken_in place before behind) → ((p : Placed) → before ≡ Some p → p.number ≡ number) → ((p : Placed) → behind ≡ Some p → p.number ≡ number)
          → KeyTurn entry_number number (I.entries shape) (I.entries (shape_more I.put (taken_in place before behind) (shape_less I.without (given_up place before behind) shape))) (entry_at place behind)
      by None None own fits was_named named = turn-none entry_number number (I.entries shape) None own
      by None (Some b) own fits was_named named = more-turn kind number (entry_of place b) shape is all fits.1 (placed-named b (named b refl)) own
      by (Some w) None own fits was_named named = less-turn number (entry_of place w) shape is own
      by (Some w) (Some b) own fits was_named named = go (value_stays place moved) refl (w.page == b.page) refl fits
        where
          moved : Moved
          moved = record { was = w; becomes = b }

          go : (stays : Bool) → value_stays place moved ≡ stays → (here : Bool) → (w.page == b.page) ≡ here → IsOfKind kind (cond stays None (entry_of place w)) × CanStand kind (cond (stays && here) None (entry_of place b))
              → KeyTurn entry_number number (I.entries shape) (I.entries (shape_more I.put (cond (stays && here) None (entry_of place b)) (shape_less I.without (cond stays None (entry_of place w)) shape))) (entry_of place b)
          go false e here p fits =
              let out = less-turn number (entry_of place w) shape is own in
              turn-then entry_number number (I.entries shape) (I.entries (shape_less I.without (entry_of place w) shape)) (I.entries (shape_more I.put (entry_of place b) (shape_less I.without (entry_of place w) shape))) None (entry_of place b) out
              (more-turn kind number (entry_of place b) (shape_less I.without (entry_of place w) shape) (shape-less (entry_of place w) shape is) (kind-less kind (entry_of place w) shape is all) fits.1 (placed-named b (named b refl)) out.is_own)
          go true e true p fits = turn-none entry_number number (I.entries shape) (entry_of place b) (subst (IsOwn entry_number number (I.entries shape)) (same-entry place w b e (was_named w refl ∙ sym (named b refl)) (eqb-true w.page b.page p)) own)
          go true e false p fits = put-one (entry_of place w) (entry_of place b) refl refl own fits.1 (staying place w b e)
            where
              put-one : (a c : Option Found) → entry_of place w ≡ a → entry_of place b ≡ c → IsOwn entry_number number (I.entries shape) a → CanStand kind c → BothTied a c → KeyTurn entry_number number (I.entries shape) (I.entries (shape_more I.put c shape)) c
              put-one None c at_w at_b own stands tied = absurd tied
              put-one (Some x) None at_w at_b own stands tied = absurd tied
              put-one (Some x) (Some y) at_w at_b own stands tied =
                  put-here kind number y shape is all stands (placed-named b (named b refl) y at_b) (λ z has same. subst (λ (k : Found). found_cmp k y ≡ Equal) (some-is (own.told z has same))
                  (let n : x.number ≡ number = placed-named w (was_named w refl) x at_w in
                  let m : y.number ≡ number = placed-named b (named b refl) y at_b in
                  rw (tied, n, m) (tied_itself nat_cmp_total number)))

  -- what an index answers as rows turn, one after the other
  abbrev pub TurnsAnswer : (size : ℕ) (pages : Pages) (firsts others : List ℕ) (root place : ℕ) (turns : List Turn) (after : List Placed) (shape : I.Shape) (held : List ℕ) → Result (Unit {0} × Pages) Refusal → Type 0
  TurnsAnswer size pages firsts others root place turns after shape held (Ok y) =
      Edited I size pages y.1 firsts others root (turned_shape I.put I.without place turns shape) held (turns_open I.put I.without I.opens place turns shape)
      × AreEntriesOf place after (I.entries (turned_shape I.put I.without place turns shape))
  TurnsAnswer size pages firsts others root place turns after shape held (Err why) = (why ≡ PagesFull size) × (free_pages size pages < turns_open I.put I.without I.opens place turns shape)

  pub turns-answer : (size root : ℕ) (kind : Kind) (place : ℕ) (turns : List Turn) (pages : Pages) (firsts others : List ℕ) (rows after : List Placed) (shape : I.Shape) (held : List ℕ) (answer : Result (Unit {0} × Pages) Refusal) → WellFormed size pages firsts (held ++ others) → I.lists size pages root shape held
      → AreOfKind kind (I.entries shape) → AreEntriesOf place rows (I.entries shape) → AllByRecursion (TurnFits kind place) turns → RowsTurn rows turns after → in_turn (turn_work size root place) turns pages answer
      → TurnsAnswer size pages firsts others root place turns after shape held answer
  turns-answer size root kind place [] pages firsts others rows after shape held (Ok y) well is all are fits turn work = (
    subst (λ (q : Unit {0} × Pages). Edited I size pages q.1 firsts others root shape held 0) (ok-one work) (edited-none I size pages firsts others root shape held well is),
    subst (λ (r : List Placed). AreEntriesOf place r (I.entries shape)) turn are,
  )
  turns-answer size root kind place [] pages firsts others rows after shape held (Err why) well is all are fits turn work = absurd cc
  turns-answer size root kind place (turn ∷ turns) pages firsts others rows after shape held (Ok y) well is all are fits (number, mid, own, turned, more) (x, first, rest) =
      let one = turn-answer size root kind place turn pages firsts others shape held (Ok x) well is all fits.0 first in
      let next : I.Shape = shape_more I.put (taken_in place turn.before turn.behind) (shape_less I.without (given_up place turn.before turn.behind) shape) in
      let shape_is = I.listed.shape size root pages shape held is in
      let then_ = turns-answer size root kind place turns x.1 firsts others mid after next one.behind (Ok y) one.well one.is (kind-turned kind place turn shape shape_is fits.0 all)
      (entries-turn place number rows mid (I.entries shape) (I.entries next) turn.behind are turned (turn-entries kind place number turn shape shape_is all fits.0 (own-entry place number rows (I.entries shape) turn.before are own) (λ p e. (own.listed p e).0) (λ p e. (turned.is_own.listed p e).0)))
      fits.1 more rest in (
        edited-then I size pages x.1 y.1 firsts others root next (turned_shape I.put I.without place turns next) held _ _ one then_.0,
        then_.1,
      )
  turns-answer size root kind place (turn ∷ turns) pages firsts others rows after shape held (Err why) well is all are fits turned (inl first) =
      let one = turn-answer size root kind place turn pages firsts others shape held (Err why) well is all fits.0 first in
      (one.0, omega (arith, one.1))
  turns-answer size root kind place (turn ∷ turns) pages firsts others rows after shape held (Err why) well is all are fits (number, mid, own, turned, more) (inr (x, first, rest)) =
      let one = turn-answer size root kind place turn pages firsts others shape held (Ok x) well is all fits.0 first in
      let next : I.Shape = shape_more I.put (taken_in place turn.before turn.behind) (shape_less I.without (given_up place turn.before turn.behind) shape) in
      let shape_is = I.listed.shape size root pages shape held is in
      let then_ = turns-answer size root kind place turns x.1 firsts others mid after next one.behind (Err why) one.well one.is (kind-turned kind place turn shape shape_is fits.0 all)
      (entries-turn place number rows mid (I.entries shape) (I.entries next) turn.behind are turned (turn-entries kind place number turn shape shape_is all fits.0 (own-entry place number rows (I.entries shape) turn.before are own) (λ p e. (own.listed p e).0) (λ p e. (turned.is_own.listed p e).0)))
      fits.1 more rest in
      (then_.0, omega (arith, then_.1, one.fewer))
