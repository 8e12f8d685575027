-- Rows that come to a table, and their entries in its indexes.
use Rattle.std.proofs.Common.{◌≡◌, ◌<◌, ◌≤◌, ◌+◌, ◌++◌, ℕ, true, List, [], ◌∷◌, map, Option, Some, None, Result, Ok, Err, inl, inr, refl, sym, ap, subst, arith, append_assoc, append-nil}
use Rattle.std.specs.List.{AllByRecursion, Contains, cons_option}
use Rattle.std.proofs.lemmas.List.Elements.{Contains-append_right}
use Rattle.retro_base.specs.declared.refusal.Refusal.{Refusal}
use Rattle.values.specs.declared.value.Value.{Value}
use Rattle.pager.specs.Allows.{◌>>=◌, in_turn}
use Rattle.pager.specs.Pages.{Pages}
use Rattle.pager.specs.declared.index.Found.{Found}
use Rattle.heap_file.specs.declared.chain.Placed.{Placed}
use Rattle.heap_laws.specs.Store.{WellFormed}
use Rattle.heap_laws.specs.Table.{IsTable}
use Rattle.relation.specs.declared.catalog.StoredTable.{StoredTable}
use Rattle.relation.specs.Entries.{EditsIndex, entries_of, entry_edited, entry_of}
use Rattle.sql_tree.specs.Rows.{fits}
use Rattle.relation_laws.specs.Tables.{numbered, numbered_row}
use Rattle.relation_laws.specs.Turns.{Turn, comes, given_up, taken_in}
use Rattle.relation_laws.proofs.ColumnKinds.{entry-kind, entry-stands, kind_in, row-stands}
use Rattle.relation_laws.proofs.Following.{Fitting}
use Rattle.relation_laws.proofs.Holding.{tree}
use Rattle.relation_laws.proofs.KeyTurns.{contains-split, row_number, some-is}
use Rattle.relation_laws.proofs.Lists.{all-at, contains-cases, contains-cons, contains-head, contains-last, contains-left, contains-map}
use Rattle.relation_laws.proofs.Rising.{Rising}
use Rattle.relation_laws.proofs.Turning.{RowsTurn, TurnFits}

-- rows that were there, and those that came behind them
pub came-rising : (rows more : List Placed) → ((p q : Placed) → Contains rows p → Contains more q → p.number < q.number) → Rising row_number more → RowsTurn rows (map comes more) (rows ++ more)
came-rising rows [] low up = sym (append-nil rows)
came-rising rows (p ∷ more) low up =
    let follow = came-rising (rows ++ p ∷ []) more (λ x y has also. elim (contains-split rows (p ∷ []) x has) [
      | inl left ↦ low x y left (contains-cons y p more also)
      | inr right ↦ contains-cases p x [] right (λ here. subst (λ (z : Placed). z.number < y.number) here (all-at (λ (z : Placed). p.number < z.number) more y up.0 also)) (λ there. absurd (omega (arith, there.1)))
    ]) up.1 in (
      p.number,
      rows ++ p ∷ [],
      record { told = λ x has same. absurd (omega (arith, low x p has (contains-head p more), same)); listed = λ x e. absurd (none e) },
      record {
        stays = λ x apart has. contains-left rows (p ∷ []) x has;
        stood = λ x apart has. elim (contains-split rows (p ∷ []) x has) [
          | inl left ↦ left
          | inr right ↦ contains-cases p x [] right (λ here. absurd (apart (ap row_number (sym here)))) (λ there. absurd (omega (arith, there.1)))
        ];
        is_own = record {
          told = λ x has same. elim (contains-split rows (p ∷ []) x has) [
            | inl left ↦ absurd (omega (arith, low x p left (contains-head p more), same))
            | inr right ↦ contains-cases p x [] right (λ here. ap (λ (q : Placed). Some q) here) (λ there. absurd (omega (arith, there.1)))
          ];
          listed = λ x e. let same : p ≡ x = some-is e in (ap row_number (sym same), subst (Contains (rows ++ p ∷ [])) same (contains-last rows p));
        };
      },
      subst (RowsTurn (rows ++ p ∷ []) (map comes more)) (append_assoc rows (p ∷ []) more) follow,
    )
  where
    none : {x : Placed} → None ≡ Some x → ⊥
    none e = cc

-- rows under the numbers from one on rise, and lie at or above it
high-numbered : (more : List Placed) (next : ℕ) (values : List (List Value)) → map numbered_row more ≡ numbered next values → AllByRecursion (λ (p : Placed). next ≤ p.number) more × Rising row_number more
high-numbered [] next values are = (tt, tt)
high-numbered (p ∷ more) next [] are = absurd cc
high-numbered (p ∷ more) next (value ∷ values) are =
    let front : numbered_row p ≡ (next, value) = cc are in
    let number : p.number ≡ next = ap (λ (r : ℕ × List Value). r.0) front in
    let behind : map numbered_row more ≡ numbered (next + 1) values = cc are in
    let rest = high-numbered more (next + 1) values behind in
    ((omega (arith, number), lower more rest.0), (above more number rest.0, rest.1))
  where
    lower : (xs : List Placed) → AllByRecursion (λ (q : Placed). next + 1 ≤ q.number) xs → AllByRecursion (λ (q : Placed). next ≤ q.number) xs
    lower [] all = tt
    lower (x ∷ xs) all = (omega (arith, all.0), lower xs all.1)

    above : (xs : List Placed) → p.number ≡ next → AllByRecursion (λ (q : Placed). next + 1 ≤ q.number) xs → AllByRecursion (λ (q : Placed). p.number < q.number) xs
    above [] is all = tt
    above (x ∷ xs) is all = (omega (arith, is, all.0), above xs is all.1)

-- rows that were there, and those that came under the next numbers
pub came : (rows more : List Placed) (next : ℕ) (values : List (List Value)) → ((p : Placed) → Contains rows p → p.number < next) → map numbered_row more ≡ numbered next values → RowsTurn rows (map comes more) (rows ++ more)
came rows more next values low are =
    let high = high-numbered more next values are in
    came-rising rows more (λ p q has also. omega (arith, low p has, all-at (λ (x : Placed). next ≤ x.number) more q high.0 also)) high.1

-- entries of rows that are added one after the other, as the rows come
pub listed-came : (add remove : EditsIndex) (size root place : ℕ) (rows : List Placed) (pages : Pages) (a : Result (Unit {0} × Pages) Refusal) → in_turn (add size root) (entries_of place rows) pages a → in_turn (λ (turn : Turn) (p : Pages). (entry_edited remove size root (given_up place turn.before turn.behind) p >>= λ less. entry_edited add size root (taken_in place turn.before turn.behind) less.1)) (map comes rows) pages a
listed-came add remove size root place [] pages a h = h
listed-came add remove size root place (p ∷ rows) pages a h = go (entry_of place p) (λ q b more. listed-came add remove size root place rows q b more) a h
  where
    step : Option Found → Pages → Result (Unit {0} × Pages) Refusal → Type 0
    step o q = entry_edited remove size root None q >>= λ less. entry_edited add size root o less.1

    steps : Pages → Result (Unit {0} × Pages) Refusal → Type 0
    steps = in_turn (λ (turn : Turn) (p : Pages). (entry_edited remove size root (given_up place turn.before turn.behind) p >>= λ less. entry_edited add size root (taken_in place turn.before turn.behind) less.1)) (map comes rows)

    go : (o : Option Found) → ((q : Pages) (b : Result (Unit {0} × Pages) Refusal) → in_turn (add size root) (entries_of place rows) q b → steps q b) → (a : Result (Unit {0} × Pages) Refusal) → in_turn (add size root) (cons_option o (entries_of place rows)) pages a → (step o pages >>= λ next. steps next.1) a
    go None more (Ok y) h = ((tt, pages), ((tt, pages), refl, refl), more pages (Ok y) h)
    go None more (Err why) h = inr ((tt, pages), ((tt, pages), refl, refl), more pages (Err why) h)
    go (Some e) more (Ok y) (next, first, rest) = (next, ((tt, pages), refl, first), more next.1 (Ok y) rest)
    go (Some e) more (Err why) (inl first) = inl (inr ((tt, pages), refl, first))
    go (Some e) more (Err why) (inr (next, first, rest)) = inr (next, ((tt, pages), refl, first), more next.1 (Err why) rest)

-- one step or another for each item
pub in_turn-as : {A X : Type 0} (step other : A → Pages → Result (X × Pages) Refusal → Type 0) (xs : List A) (pages : Pages) (a : Result (Unit {0} × Pages) Refusal) → ((x : A) (p : Pages) (b : Result (X × Pages) Refusal) → step x p b → other x p b) → in_turn step xs pages a → in_turn other xs pages a
in_turn-as step other [] pages a go h = h
in_turn-as step other (x ∷ xs) pages (Ok y) go (next, first, rest) = (next, go x pages (Ok next) first, in_turn-as step other xs next.1 (Ok y) go rest)
in_turn-as step other (x ∷ xs) pages (Err why) go (inl first) = inl (go x pages (Err why) first)
in_turn-as step other (x ∷ xs) pages (Err why) go (inr (next, first, rest)) = inr (next, go x pages (Ok next) first, in_turn-as step other xs next.1 (Err why) go rest)

pub came-fit : (size : ℕ) (mid : Pages) (stored : StoredTable) (old more : List Placed) (firsts indexes : List ℕ) (next : ℕ) (values : List (List Value)) → WellFormed size mid firsts indexes → Contains firsts stored.first → IsTable size mid stored.first (record { next_number = next; rows = old ++ more })
    → AllByRecursion (λ (row : ℕ × List Value). fits stored.columns row.1 ≡ true) (map numbered_row old) → AllByRecursion (λ (row : ℕ × List Value). fits stored.columns row.1 ≡ true) (map numbered_row more) → (place : ℕ) → Fitting tree old (map comes more) place
came-fit size mid stored old more firsts indexes next values well has is fit_old fit_more place = record {
  kind = kind_in stored.columns place;
  stand = λ p there. entry-kind stored.columns place p (all-at (λ (row : ℕ × List Value). fits stored.columns row.1 ≡ true) (map numbered_row old) (numbered_row p) fit_old (contains-map numbered_row old p there));
  turn = go more (λ p there. there);
}
  where
    go : (rows : List Placed) → ((p : Placed) → Contains rows p → Contains more p) → AllByRecursion (TurnFits (kind_in stored.columns place) place) (map comes rows)
    go [] among = tt
    go (p ∷ rows) among =
        let there = among p (contains-head p rows) in
        let stands = row-stands size mid firsts indexes stored.first (record { next_number = next; rows = old ++ more }) p well has is (Contains-append_right old more p there) in
        ((tt, entry-stands stored.columns place p (all-at (λ (row : ℕ × List Value). fits stored.columns row.1 ≡ true) (map numbered_row more) (numbered_row p) fit_more (contains-map numbered_row more p there)) stands.0 stands.1), go rows (λ q also. among q (contains-cons q p rows also)))
